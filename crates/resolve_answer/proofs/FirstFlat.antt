-- Of flat texts: the newest versions that fit keep the rules, and are of the packages of any entries that do.
use Rattle.std.proofs.Common.{◌≡◌, inl, inr, ℕ, suc, ◌≤◌, Bool, true, false, List, [], ◌∷◌, Option, Some, None, refl, sym, ap, subst, ◌∙◌, arith}
use Rattle.std.specs.Prelude.{◌&&◌, ◌||◌, not, Contains, bytes_eq, option_to_list}
use Rattle.std.specs.List.{list_all, flat_map}
use Rattle.std.specs.Option.{option_map_or}
use Rattle.std.proofs.lemmas.Bool.{false≢true, and_parts, and_from}
use Rattle.std.proofs.lemmas.Slice.Eq.{bytes_eq-Decides}
use Rattle.resolvo_text.specs.Line.{Version, Spec, Cond, Line, Skipped, Listed, Needs, Limits, Unknown, Lock, Favour, Exclude, Many, Wish}
use Rattle.resolvo_text.specs.Matches.{Set, matches, is_met}
use Rattle.resolvo_catalogue_core.specs.Grammar.{line_at, owner_of}
use Rattle.resolvo_catalogue_core.specs.Listed.{listed}
use Rattle.resolvo_catalogue_core.specs.Rules.{obeys}
use Rattle.resolvo_catalogue_core.specs.Sets.{IsRuleKeeping, marks_many, is_many}
use Rattle.resolvo_terms.proofs.Places.{at_from_contains, no_element, first_element, later_element, element_cases}
use Rattle.resolvo_catalogue_core.proofs.PlaceLemmas.{contains_from_line}
use Rattle.resolvo_catalogue.proofs.PassLemmas.{any_from, any_to, all_from, all_to}
use Rattle.resolvo_catalogue.proofs.Elements.{flat_from, flat_to, option_from}
use Rattle.resolvo_catalogue.proofs.RulesKept.{not_false, bound_by, binding_by}
use Rattle.resolve_answer.specs.Flat.{AllLines}
use Rattle.resolve_answer.specs.First.{IsFavoured, flat_need, is_flat_listing, is_flat_need, FitsRequest, IsLineOf, IsNeeded}
use Rattle.resolve_answer.proofs.FirstMatches.{newest_of, among_listed, from_listed, IsSooner}

pub matches_name : (s : Spec) (v : Version) → matches s v ≡ true → v.name ≡ s.name
matches_name s v h = (bytes_eq-Decides v.name s.name).0 (and_parts (bytes_eq v.name s.name) _ h).0

-- The newest listed version of its package that fits the request.
pub record IsNewestFit (catalogue request : List Line) (u : Version) : Type 0 where
  pub among : Contains catalogue (Listed u)
  pub fits : FitsRequest request u
  pub newest : (w : Version) → Contains catalogue (Listed w) → w.name ≡ u.name → FitsRequest request w → w.number ≤ u.number

-- ---- flat lines

flat_cases : (ss : List Spec) (c : Option Cond) → is_flat_need (Needs ss c) ≡ true → (s : Spec) × (ss ≡ s ∷ []) × (c ≡ None)
flat_cases [] c h = absurd (false≢true h)
flat_cases (s ∷ []) None h = (s, refl, refl)
flat_cases (s ∷ []) (Some c) h = absurd (false≢true h)
flat_cases (s ∷ t ∷ ss) c h = absurd (false≢true h)

need_from : (l : Line) (s : Spec) → flat_need l ≡ Some s → l ≡ Needs (s ∷ []) None
need_from (Needs [] c) s e = absurd (cc (e))
need_from (Needs (t ∷ []) None) s e = let is : t ≡ s = cc (e) in ap (λ (u : Spec). Needs (u ∷ []) None) is
need_from (Needs (t ∷ []) (Some c)) s e = absurd (cc (e))
need_from (Needs (t ∷ u ∷ ss) c) s e = absurd (cc (e))
need_from Skipped s e = absurd (cc (e))
need_from (Listed v) s e = absurd (cc (e))
need_from (Limits t) s e = absurd (cc (e))
need_from (Unknown r) s e = absurd (cc (e))
need_from (Lock v) s e = absurd (cc (e))
need_from (Favour v) s e = absurd (cc (e))
need_from (Many name) s e = absurd (cc (e))
need_from (Exclude v r) s e = absurd (cc (e))
need_from (Wish v) s e = absurd (cc (e))

-- a line of a flat catalogue asks nothing
flat_obeyed : (owner : Option Version) (l : Line) (set : Set) → is_flat_listing l ≡ true → obeys owner l set ≡ true
flat_obeyed owner Skipped set h = refl
flat_obeyed owner (Listed v) set h = refl
flat_obeyed owner (Wish v) set h = refl
flat_obeyed owner (Favour v) set h = refl
flat_obeyed owner (Many name) set h = refl
flat_obeyed owner (Needs ss c) set h = absurd (false≢true h)
flat_obeyed owner (Limits s) set h = absurd (false≢true h)
flat_obeyed owner (Unknown r) set h = absurd (false≢true h)
flat_obeyed owner (Lock v) set h = absurd (false≢true h)
flat_obeyed owner (Exclude v r) set h = absurd (false≢true h)

-- a line of a flat request asks for its SPEC alone
need_obeyed : (l : Line) (set : Set) → is_flat_need l ≡ true → ((s : Spec) → l ≡ Needs (s ∷ []) None → is_met s set ≡ true) → obeys None l set ≡ true
need_obeyed Skipped set h met = refl
need_obeyed (Listed v) set h met = refl
need_obeyed (Wish v) set h met = refl
need_obeyed (Favour v) set h met = refl
need_obeyed (Many name) set h met = refl
need_obeyed (Needs [] c) set h met = absurd (false≢true h)
need_obeyed (Needs (s ∷ []) None) set h met = any_to (λ (t : Spec). is_met t set) (s ∷ []) s (first_element s []) (met s refl)
need_obeyed (Needs (s ∷ []) (Some c)) set h met = absurd (false≢true h)
need_obeyed (Needs (s ∷ t ∷ ss) c) set h met = absurd (false≢true h)
need_obeyed (Limits s) set h met = absurd (false≢true h)
need_obeyed (Unknown r) set h met = absurd (false≢true h)
need_obeyed (Lock v) set h met = absurd (false≢true h)
need_obeyed (Exclude v r) set h met = absurd (false≢true h)

flat_marks : (name : List ℕ) (l : Line) → marks_many name l ≡ true → is_flat_listing l ≡ true → ⊥
flat_marks name (Many m) h flat = false≢true flat
flat_marks name Skipped h flat = false≢true h
flat_marks name (Listed v) h flat = false≢true h
flat_marks name (Needs ss c) h flat = false≢true h
flat_marks name (Limits s) h flat = false≢true h
flat_marks name (Unknown r) h flat = false≢true h
flat_marks name (Lock v) h flat = false≢true h
flat_marks name (Favour v) h flat = false≢true h
flat_marks name (Exclude v r) h flat = false≢true h
flat_marks name (Wish v) h flat = false≢true h

line_obeyed : (owner : Option Version) (o : Option Line) (set : Set) → ((l : Line) → o ≡ Some l → obeys owner l set ≡ true) → option_map_or (λ (l : Line). obeys owner l set) o true ≡ true
line_obeyed owner None set h = refl
line_obeyed owner (Some l) set h = h l refl

-- ---- whether a version fits, as a test

abbrev needed_in : List Line → List Spec
needed_in request = flat_map (λ (l : Line). option_to_list (flat_need l)) request

abbrev fits_one : Version → Spec → Bool
fits_one v s = not (bytes_eq s.name v.name) || matches s v

abbrev fits : List Line → Version → Bool
fits request v = list_all (fits_one v) (needed_in request)

fits_from : (request : List Line) (v : Version) → fits request v ≡ true → FitsRequest request v
fits_from request v h m s e name =
    let here : Contains (option_to_list (flat_need (Needs (s ∷ []) None))) s = first_element s [] in
    let needed = flat_to (λ (l : Line). option_to_list (flat_need l)) request (Needs (s ∷ []) None) s (contains_from_line request m (Needs (s ∷ []) None) e) here in
    bound_by (bytes_eq s.name v.name) (matches s v) (all_from (fits_one v) (needed_in request) s h needed) ((bytes_eq-Decides s.name v.name).1 name)

fits_to : (request : List Line) (v : Version) → FitsRequest request v → fits request v ≡ true
fits_to request v h = all_to (fits_one v) (needed_in request) (λ s c.
    let l = flat_from (λ (x : Line). option_to_list (flat_need x)) request s c in
    let is : l.0 ≡ Needs (s ∷ []) None = need_from l.0 s (option_from (flat_need l.0) s l.2) in
    let at = at_from_contains request (Needs (s ∷ []) None) (subst (λ (x : Line). Contains request x) is l.1) in
    binding_by (bytes_eq s.name v.name) (matches s v) (λ e. h (suc at.0) s at.1 ((bytes_eq-Decides s.name v.name).0 e)))

-- ---- the newest versions that fit

module _ (catalogue request : List Line) (flat_listing : AllLines is_flat_listing catalogue) (flat_request : AllLines is_flat_need request) where
  pub nothing_favoured : (v : Version) → IsFavoured catalogue v → ⊥
  nothing_favoured v c = let at = at_from_contains catalogue (Favour v) c in false≢true (flat_listing (suc at.0) (Favour v) at.1)

  pub nothing_marked : (name : List ℕ) → is_many catalogue name ≡ false
  nothing_marked name = not_false (is_many catalogue name) (λ h.
      let l = any_from (marks_many name) catalogue h in
      let at = at_from_contains catalogue l.0 l.1 in
      flat_marks name l.0 l.2 (flat_listing (suc at.0) l.0 at.1))

  -- each need is that of a line of the request with one SPEC
  pub needed_alone : (set : Set) (alternatives : List Spec) → IsNeeded catalogue request set alternatives → (s : Spec) × (alternatives ≡ s ∷ []) × Contains request (Needs (s ∷ []) None)
  needed_alone set alternatives need = go need.owner need.line
    where
      go : (owner : Option Version) → IsLineOf catalogue request owner (Needs alternatives need.condition) → (s : Spec) × (alternatives ≡ s ∷ []) × Contains request (Needs (s ∷ []) None)
      go None line =
          let at = at_from_contains request (Needs alternatives need.condition) line in
          let f = flat_cases alternatives need.condition (flat_request (suc at.0) (Needs alternatives need.condition) at.1) in
          let is : Needs alternatives need.condition ≡ Needs (f.0 ∷ []) None = ap (λ (ss : List Spec). Needs ss need.condition) f.1 ∙ ap (λ (c : Option Cond). Needs (f.0 ∷ []) c) f.2 in
          (f.0, f.1, subst (λ (l : Line). Contains request l) is line)
      go (Some v) line = absurd (false≢true (flat_listing line.0 (Needs alternatives need.condition) line.1))

  -- entries, one a package, that meet the request
  module _ (entries : Set) (among : (v : Version) → Contains entries v → Contains catalogue (Listed v)) (one_each : (v w : Version) → Contains entries v → Contains entries w → v.name ≡ w.name → v ≡ w)
      (met : (s : Spec) → Contains request (Needs (s ∷ []) None) → (v : Version) × Contains entries v × (matches s v ≡ true)) where
    pub entry_fits : (v : Version) → Contains entries v → FitsRequest request v
    entry_fits v c m s e name =
        let w = met s (contains_from_line request m (Needs (s ∷ []) None) e) in
        subst (λ (x : Version). matches s x ≡ true) (one_each w.0 v w.1 c (matches_name s w.0 w.2 ∙ name)) w.2

    newest_fit : (v : Version) → Contains entries v → (u : Version) × (u.name ≡ v.name) × IsNewestFit catalogue request u
    newest_fit v c =
        let own : (bytes_eq v.name v.name && fits request v) ≡ true = and_from _ _ ((bytes_eq-Decides v.name v.name).1 refl) (fits_to request v (entry_fits v c)) in
        let (u, n) = newest_of (λ (w : Version). bytes_eq w.name v.name && fits request w) (listed catalogue) v (among_listed catalogue v (among v c)) own in
        let parts = and_parts (bytes_eq u.name v.name) (fits request u) n.passes in
        let e_name : u.name ≡ v.name = (bytes_eq-Decides u.name v.name).0 parts.0 in (
          u,
          e_name,
          record {
            among = from_listed catalogue u n.among;
            fits = fits_from request u parts.1;
            newest = λ w l same f. n.newest w (among_listed catalogue w l) (and_from _ _ ((bytes_eq-Decides w.name v.name).1 (same ∙ e_name)) (fits_to request w f));
          },
        )

    pub record AreNewestFor (vs set : Set) : Type 0 where
      pub each : (u : Version) → Contains set u → IsNewestFit catalogue request u
      pub all : (v : Version) → Contains vs v → (u : Version) × Contains set u × (u.name ≡ v.name)

    pub newest_for : (vs : Set) → ((v : Version) → Contains vs v → Contains entries v) → (set : Set) × AreNewestFor vs set
    newest_for [] inside = ([], record { each = λ u c. absurd (no_element u c); all = λ v c. absurd (no_element v c) })
    newest_for (v ∷ vs) inside =
        let n = newest_fit v (inside v (first_element v vs)) in
        let (set, are) = newest_for vs (λ w c. inside w (later_element v vs w c)) in (
          n.0 ∷ set,
          record {
            each = λ u c. elim (element_cases n.0 set u c) [
              | inl is ↦ subst (λ (x : Version). IsNewestFit catalogue request x) is n.2
              | inr m ↦ are.each u m
            ];
            all = λ w c. elim (element_cases v vs w c) [
              | inl is ↦ (n.0, first_element n.0 set, n.1 ∙ ap (λ (x : Version). x.name) is)
              | inr m ↦ let u = are.all w m in (u.0, later_element n.0 set u.0 u.1, u.2)
            ];
          },
        )

    module _ (set : Set) (are : AreNewestFor entries set) where
      -- of a needed SPEC's package the newest one matches it
      pub newest_met : (s : Spec) → Contains request (Needs (s ∷ []) None) → (u : Version) × Contains set u × (matches s u ≡ true)
      newest_met s c =
          let w = met s c in
          let u = are.all w.0 w.1 in
          let at = at_from_contains request (Needs (s ∷ []) None) c in
          (u.0, u.1, (are.each u.0 u.1).fits (suc at.0) s at.1 (sym (matches_name s w.0 w.2) ∙ sym u.2))

      pub newest_keep : IsRuleKeeping catalogue request set
      newest_keep = record {
        single = record {
          listed = λ u c. (are.each u c).among;
          one_each = λ u w c d name unmarked.
              let a = are.each u c in
              let b = are.each w d in
              let up : u.number ≤ w.number = b.newest u a.among name a.fits in
              let down : w.number ≤ u.number = a.newest w b.among (sym name) b.fits in
              let number : u.number ≡ w.number = omega (arith, up, down) in
              λ i. record { name = name i; number = number i };
        };
        catalogue_lines = λ n. line_obeyed (owner_of catalogue n) (line_at catalogue n) set (λ l e. flat_obeyed (owner_of catalogue n) l set (flat_listing n l e));
        request_lines = λ n. line_obeyed None (line_at request n) set (λ l e. need_obeyed l set (flat_request n l e) (λ s is.
            let u = newest_met s (contains_from_line request n (Needs (s ∷ []) None) (e ∙ ap (λ (x : Line). Some x) is)) in
            any_to (matches s) set u.0 u.1 u.2));
      }

      -- no entry is sooner than the newest
      pub newest_first : (s : Spec) (u x : Version) → Contains set u → matches s u ≡ true → Contains entries x → matches s x ≡ true → IsSooner catalogue x u → ⊥
      newest_first s u x c m d n (plain, inl favoured) = nothing_favoured x favoured
      newest_first s u x c m d n (plain, inr newer) =
          let low : x.number ≤ u.number = (are.each u c).newest x (among x d) (matches_name s x n ∙ sym (matches_name s u m)) (entry_fits x d) in
          absurd (omega (arith, newer, low))
