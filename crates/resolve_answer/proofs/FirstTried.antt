-- A candidate that a catalogue's provider tries before a match is favoured, or newer.
use Rattle.std.proofs.Common.{◌≡◌, inl, inr, Bool, true, false, cond, List, [], ◌∷◌, ◌++◌, Option, Some, None, refl, sym, ap, subst, ◌∙◌}
use Rattle.std.specs.Prelude.{Contains, slice_get, filter}
use Rattle.std.specs.List.{list_any, find}
use Rattle.std.specs.Set.{remove_key}
use Rattle.std.proofs.lemmas.Bool.{cases_Bool, false≢true, and_parts}
use Rattle.std.proofs.lemmas.List.Elements.{Contains-append_right}
use Rattle.std.proofs.lemmas.List.Sorted.{Contains-permutation}
use Rattle.resolvo_text.specs.Line.{Version, Spec, Line}
use Rattle.resolvo_text.specs.Matches as texts
use Rattle.resolvo_catalogue_core.specs.Listed.{listed}
use Rattle.resolvo_pool_core.specs.declared.id.VersionSetId.{VersionSetId}
use Rattle.resolvo_pool_core.specs.Provider as pool
use Rattle.resolvo_pool_core.specs.Provider.{favoured_first, tried_first}
use Rattle.resolvo_pool_core.specs.RuleKeeping.{is_in, is_match}
use Rattle.resolvo_sat.specs.First.{IsTriedBefore}
use Rattle.resolvo_terms.specs.Terms.{NameId}
use Rattle.resolvo_catalogue.specs.Ids.{SolvableId, solvable_id, solvables_of, IsSpec}
use Rattle.resolvo_catalogue.specs.Known.{set_at}
use Rattle.resolvo_catalogue.specs.Marked.{IsMarked}
use Rattle.resolvo_catalogue.specs.Provider.{Provider, candidates_of, listing_if_any, matches, marks_at, packages_of}
use Rattle.resolvo_catalogue.specs.KeptSets.{DistinguishesIds}
use Rattle.resolvo_catalogue.specs.Over.{IsOver}
use Rattle.resolvo_catalogue.specs.CandidateOrder.{matching, IsOrder}
use Rattle.resolvo_catalogue.proofs.Alike.{in_from, listed_is, match_same}
use Rattle.resolvo_catalogue.proofs.KeptAlike.{its_version}
use Rattle.resolvo_catalogue.proofs.MarkLemmas.{one_some}
use Rattle.resolvo_catalogue.proofs.PassLemmas.{any_to}
use Rattle.resolvo_terms.proofs.Places.{no_element, first_element, later_element, element_cases}
use Rattle.resolvo_catalogue.proofs.RulesKept.{found_in, find_some}
use Rattle.resolvo_catalogue.proofs.TryLemmas.{tried_match, tried_sooner}
use Rattle.resolve_answer.specs.First.{IsFavoured}
use Rattle.resolve_answer.proofs.FirstMatches.{one_favour, IsSooner}

-- ---- parts of lists

filter_to : {X : Type 0} (t : X → Bool) (xs : List X) (x : X) → Contains xs x → t x ≡ true → Contains (filter t xs) x
filter_to t [] x c e = absurd (no_element x c)
filter_to {X} t (y ∷ ys) x c e = go (t y) refl (filter_to t ys x)
  where
    go : (b : Bool) → t y ≡ b → (Contains ys x → t x ≡ true → Contains (filter t ys) x) → Contains (cond b (y ∷ filter t ys) (filter t ys)) x
    go true own rest = elim (element_cases y ys x c) [
      | inl is ↦ subst (λ z. Contains (y ∷ filter t ys) z) is (first_element y (filter t ys))
      | inr m ↦ later_element y (filter t ys) x (rest m e)
    ]
    go false own rest = elim (element_cases y ys x c) [
      | inl is ↦ absurd (false≢true (sym own ∙ ap t is ∙ e))
      | inr m ↦ rest m e
    ]

remove_to : {X : Type 0} (t : X → Bool) (xs : List X) (x : X) → Contains xs x → t x ≡ false → Contains (remove_key t xs) x
remove_to t [] x c e = absurd (no_element x c)
remove_to {X} t (y ∷ ys) x c e = go (t y) refl (remove_to t ys x)
  where
    go : (b : Bool) → t y ≡ b → (Contains ys x → t x ≡ false → Contains (remove_key t ys) x) → Contains (cond b ys (y ∷ remove_key t ys)) x
    go true own rest = elim (element_cases y ys x c) [
      | inl is ↦ absurd (false≢true (sym e ∙ sym (ap t is) ∙ own))
      | inr m ↦ m
    ]
    go false own rest = elim (element_cases y ys x c) [
      | inl is ↦ subst (λ z. Contains (y ∷ remove_key t ys) z) is (first_element y (remove_key t ys))
      | inr m ↦ later_element y (remove_key t ys) x (rest m e)
    ]

heads : {X : Type 0} (x y : X) (xs ys : List X) → x ∷ xs ≡ y ∷ ys → x ≡ y
heads x y xs ys e = cc (e)

-- nothing is tried before the first
none_before : {X : Type 0} (list rest : List X) (s f : X) → list ≡ f ∷ rest → IsTriedBefore list s f → ⊥
none_before {X} list rest s f front before = go before.before before.unless (sym front ∙ before.splits)
  where
    go : (xs : List X) → (Contains xs f → ⊥) → f ∷ rest ≡ xs ++ s ∷ before.after → ⊥
    go [] none e = before.differs (sym (heads f s rest before.after e))
    go (x ∷ xs) none e = none (subst (λ z. Contains (x ∷ xs) z) (sym (heads f x rest (xs ++ s ∷ before.after) e)) (first_element x xs))

favored_is : (p : Provider) (ss : List SolvableId) → (pool.listing_or_empty (listing_if_any p ss)).favored ≡ find (λ (s : SolvableId). (marks_at p s).favored) ss
favored_is p [] = refl
favored_is p (s ∷ ss) = refl

module _ (p : Provider) (catalogue : List Line) (over : IsOver catalogue p) (same : SolvableId → SolvableId → Bool) (apart : DistinguishesIds same) where
  front_to : (favoured : Option SolvableId) (ys : List SolvableId) (s : SolvableId) → Contains ys s → Contains (favoured_first same favoured ys) s
  front_to None ys s c = c
  front_to (Some g) ys s c = go (list_any (λ x. same x g) ys)
    where
      go : (b : Bool) → Contains (cond b (g ∷ remove_key (λ x. same x g) ys) ys) s
      go true = elim (cases_Bool (same s g)) [
        | inl e ↦ subst (λ z. Contains (g ∷ remove_key (λ x. same x g) ys) z) (sym ((apart s g).0 e)) (first_element g (remove_key (λ x. same x g) ys))
        | inr e ↦ later_element g (remove_key (λ x. same x g) ys) s (remove_to (λ x. same x g) ys s c e)
      ]
      go false = c

  marks_of : (s : SolvableId) (v : Version) → slice_get (listed catalogue) s.raw ≡ Some v → IsMarked p.ids catalogue catalogue v (marks_at p s)
  marks_of s v e = over.marks s.raw v e

  module _ (w : VersionSetId) where
    abbrev name : NameId
    name = (set_at p.ids w).0

    abbrev favoured : SolvableId → Bool
    favoured s = (marks_at p s).favored

    abbrev front : Option SolvableId
    front = tried_first (λ v. (set_at p.ids v).0) (candidates_of p) w

    candidate_of : (f : SolvableId) → is_match same (packages_of p) w f ≡ true → Contains (pool.listed (candidates_of p name)) f
    candidate_of f m = in_from p (listed catalogue) over.versions over.once same apart (pool.listed (candidates_of p name)) f (and_parts (is_in same (packages_of p) (pool.listed (candidates_of p name)) f) (matches p w f) m).0

    in_sorted : (list : List SolvableId) (f : SolvableId) (order : IsOrder p same w list) → is_match same (packages_of p) w f ≡ true → Contains order.0 f
    in_sorted list f order m =
        Contains-permutation (matching p w) order.0 f order.1.permutation (filter_to (matches p w) _ f (candidate_of f m) (and_parts (is_in same (packages_of p) (pool.listed (candidates_of p name)) f) (matches p w f) m).1)

    front_favoured : (s : SolvableId) (v : Version) → slice_get (listed catalogue) s.raw ≡ Some v → front ≡ Some s → IsFavoured catalogue v
    front_favoured s v at e = (marks_of s v at).favored.0 (found_in favoured (solvables_of p.ids name.raw) s (sym (favored_is p (solvables_of p.ids name.raw)) ∙ e)).1

    favoured_front : (f : SolvableId) (v : Version) → slice_get (listed catalogue) f.raw ≡ Some v → is_match same (packages_of p) w f ≡ true → IsFavoured catalogue v → front ≡ Some f
    favoured_front f v at m favours =
        let ss = solvables_of p.ids name.raw in
        let there : Contains ss f = subst (λ (xs : List SolvableId). Contains xs f) (listed_is p ss) (candidate_of f m) in
        let own = its_version p catalogue over same apart name f there in
        let y = find_some favoured ss f there ((marks_of f v at).favored.1 favours) in
        let g = found_in favoured ss y.0 y.1 in
        let u = its_version p catalogue over same apart name y.0 g.0 in
        let is_v : own.0 ≡ v = one_some (sym own.1 ∙ at) in
        let e_name : u.0.name ≡ v.name = one_some (sym u.2 ∙ own.2) ∙ ap (λ (x : Version). x.name) is_v in
        let one : u.0 ≡ v = one_favour catalogue over.grammatical u.0 v ((marks_of y.0 u.0 u.1).favored.0 g.1) favours e_name in
        let is : y.0 ≡ f = ap solvable_id (over.distinct v y.0.raw f.raw (u.1 ∙ ap (λ (x : Version). Some x) one) at) in
        favored_is p ss ∙ y.1 ∙ ap (λ (s : SolvableId). Some s) is

    -- nothing is tried before a favoured match
    none_before_favoured : (list : List SolvableId) (s f : SolvableId) → IsOrder p same w list → is_match same (packages_of p) w f ≡ true → front ≡ Some f → IsTriedBefore list s f → ⊥
    none_before_favoured list s f order m e before = none_before list (remove_key (λ x. same x f) order.0) s f (order.2 ∙ ap (λ (o : Option SolvableId). favoured_first same o order.0) e ∙ ap (λ (b : Bool). cond b (f ∷ remove_key (λ x. same x f) order.0) order.0) (any_to (λ x. same x f) order.0 f (in_sorted list f order m) ((apart f f).1 refl))) before

    module _ (spec : Spec) (is : IsSpec p.ids w spec) where
      -- A candidate that is tried before a match is a match too, and precedes it.
      pub sooner_from : (list : List SolvableId) (s f : SolvableId) (v : Version) → IsOrder p same w list → slice_get (listed catalogue) f.raw ≡ Some v → texts.matches spec v ≡ true → IsTriedBefore list s f
          → (x : Version) × (slice_get (listed catalogue) s.raw ≡ Some x) × (texts.matches spec x ≡ true) × IsSooner catalogue x v
      sooner_from list s f v order at match before =
          let m : is_match same (packages_of p) w f ≡ true = match_same p (listed catalogue) over.versions over.once same apart w spec f v is at ∙ match in
          let there : Contains list f = subst (λ (xs : List SolvableId). Contains xs f) (sym order.2) (front_to front order.0 f (in_sorted list f order m)) in
          let own : Contains list s = subst (λ (xs : List SolvableId). Contains xs s) (sym before.splits) (Contains-append_right before.before (s ∷ before.after) s (first_element s before.after)) in
          let x = tried_match same apart catalogue p over w spec list s is order own in (
            x.0,
            x.1,
            x.2,
            (
              (λ favours. none_before_favoured list s f order m (favoured_front f v at m favours) before),
              elim (tried_sooner same apart catalogue p over w list before.before before.after s f x.0 v order before.splits before.differs before.unless there x.1 at) [
                | inl first ↦ inl (front_favoured s x.0 x.1 first)
                | inr newer ↦ inr newer
              ],
            ),
          )
