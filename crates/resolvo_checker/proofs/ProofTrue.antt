-- Each step of a proof is true over each single set that obeys the named lines, with the places that the digit steps give.
use Rattle.std.proofs.Common.{◌≡◌, ℕ, zero, suc, ◌<◌, ◌≤◌, Bool, true, false, List, [], ◌∷◌, ◌++◌, map, length, take, Option, Some, None, refl, sym, ap, ◌∙◌, subst, inl, inr, cond, arith, eqb, ltb, leb}
use Rattle.std.specs.Prelude.{not, ◌&&◌, ◌||◌, slice_get, is_some, unwrap_or}
use Rattle.std.specs.Option.{option_and_then, option_map_or}
use Rattle.std.specs.List.{list_all}
use Rattle.std.specs.Bool.{beq}
use Rattle.std.proofs.lemmas.Bool.{false≢true, and_parts, or_cases, and_from, eqb-true, not-true, leb-true}
use Rattle.std.proofs.lemmas.Option.{cond_some, none-some, same_Some}
use Rattle.std.proofs.lemmas.List.Folds.{list_all-append}
use Rattle.std.proofs.lemmas.List.{append_assoc, append-nil}
use Rattle.resolvo_text.specs.Line.{Version, Line}
use Rattle.resolvo_text.specs.Matches.{Set, same_version, is_member}
use Rattle.resolvo_catalogue_core.specs.Grammar.{line_at, owner_of}
use Rattle.resolvo_catalogue_core.specs.Rules.{obeys}
use Rattle.resolvo_catalogue_core.specs.Sets.{IsSingle}
use Rattle.resolvo_pool_core.specs.OnePass.{is_true_at, clause_true, one_pass}
use Rattle.resolvo_pool_core.proofs.PassSound.{one_pass_true}
use Rattle.resolvo_report.specs.Value.{Place, OfRequest, OfVersion, Atom, Chosen, AnyOf, SharedBy, OutsideOf, MatchesOf, BitOf, Literal, Step}
use Rattle.resolvo_report.specs.Value as step
use Rattle.resolvo_checker.specs.Rup.{is_earlier}
use Rattle.resolvo_checker.specs.StepClauses.{Clause, clause_of, literal_of, is_atom, is_owner, line_of, need_clause, gate_clause, limit_bars_clause, limit_clause, lock_clause, exclude_clause, unknown_clause}
use Rattle.resolvo_checker.specs.AtomValues.{value_of, same_atom}
use Rattle.resolvo_checker.specs.Proof.{rests_on, rests_on_named, allows_place, cause_of, follows, is_valid_step, IsProof, derives_empty, ends_empty, is_among, forbids, AreApart, ObeysTested}
use Rattle.resolvo_checker.proofs.Sets.{all_at, same_own, same_is, contained, is_contained}
use Rattle.resolvo_checker.proofs.Atoms.{same_atom_is}
use Rattle.resolvo_checker.proofs.ListedLemmas.{listed_in}
use Rattle.resolvo_checker.proofs.ClausesTrue.{True, IsOwnerOf, need_true, gate_true, shared_true, limit_bars_true, limit_true, outside_true, matches_true, lock_true, exclude_true, unknown_true, digit_true, any_true}

-- ---- the place that the first digit step of a version gives it

abbrev pub place_given : List Step → Version → ℕ
place_given [] v = 0
place_given (step.Digit w place bit ∷ steps) v = cond (same_version w v) place (place_given steps v)
place_given (step.Need p l c ∷ steps) v = place_given steps v
place_given (step.Gate w l ∷ steps) v = place_given steps v
place_given (step.Shared a ∷ steps) v = place_given steps v
place_given (step.LimitBars p l w ∷ steps) v = place_given steps v
place_given (step.Limit p l ∷ steps) v = place_given steps v
place_given (step.Outside s w ∷ steps) v = place_given steps v
place_given (step.Matches s w ∷ steps) v = place_given steps v
place_given (step.Lock l w ∷ steps) v = place_given steps v
place_given (step.Exclude l ∷ steps) v = place_given steps v
place_given (step.Unknown l ∷ steps) v = place_given steps v
place_given (step.Any w ∷ steps) v = place_given steps v
place_given (step.Derive c d ∷ steps) v = place_given steps v

-- where the earlier steps give no other place, the digit step's is the one
given_is : (v : Version) (place bit : ℕ) (earlier rest : List Step) → list_all (allows_place v place) earlier ≡ true → place_given (earlier ++ step.Digit v place bit ∷ rest) v ≡ place
given_is v place bit [] rest h = ap (λ b. cond b place (place_given rest v)) (same_own v)
given_is v place bit (step.Digit w other b ∷ earlier) rest h =
    let p = and_parts (not (same_version w v) || eqb other place) (list_all (allows_place v place) earlier) h in
    one (same_version w v) p.0 (given_is v place bit earlier rest p.1) where
      one : (b : Bool) → (not b || eqb other place) ≡ true → {x : ℕ} → x ≡ place → cond b other x ≡ place
      one true k e = eqb-true other place k
      one false k e = e
given_is v place bit (step.Need p l c ∷ earlier) rest h = given_is v place bit earlier rest h
given_is v place bit (step.Gate w l ∷ earlier) rest h = given_is v place bit earlier rest h
given_is v place bit (step.Shared a ∷ earlier) rest h = given_is v place bit earlier rest h
given_is v place bit (step.LimitBars p l w ∷ earlier) rest h = given_is v place bit earlier rest h
given_is v place bit (step.Limit p l ∷ earlier) rest h = given_is v place bit earlier rest h
given_is v place bit (step.Outside s w ∷ earlier) rest h = given_is v place bit earlier rest h
given_is v place bit (step.Matches s w ∷ earlier) rest h = given_is v place bit earlier rest h
given_is v place bit (step.Lock l w ∷ earlier) rest h = given_is v place bit earlier rest h
given_is v place bit (step.Exclude l ∷ earlier) rest h = given_is v place bit earlier rest h
given_is v place bit (step.Unknown l ∷ earlier) rest h = given_is v place bit earlier rest h
given_is v place bit (step.Any w ∷ earlier) rest h = given_is v place bit earlier rest h
given_is v place bit (step.Derive c d ∷ earlier) rest h = given_is v place bit earlier rest h

some_is : {X : Type 0} (o : Option X) → is_some o ≡ true → (x : X) × (o ≡ Some x)
some_is None h = absurd (false≢true h)
some_is (Some x) h = (x, refl)

-- an element below the length
pub get_below : {X : Type 0} (xs : List X) (k : ℕ) → k < length xs → (x : X) × (slice_get xs k ≡ Some x)
get_below [] k h = absurd (omega arith)
get_below (x ∷ xs) zero h = (x, refl)
get_below (x ∷ xs) (suc k) h = get_below xs k (omega arith)

get_seam : {X : Type 0} (xs : List X) (y : X) (ys : List X) → slice_get (xs ++ y ∷ ys) (length xs) ≡ Some y
get_seam [] y ys = refl
get_seam (x ∷ xs) y ys = get_seam xs y ys

take_prefix : {X : Type 0} (xs ys : List X) → take (length xs) (xs ++ ys) ≡ xs
take_prefix [] ys = refl
take_prefix (x ∷ xs) ys = ap (λ zs. x ∷ zs) (take_prefix xs ys)

module _ (catalogue request : List Line) (catalogue_line request_line : ℕ → Bool) (set : Set) (place : Version → ℕ) (single : IsSingle catalogue set) (named : ObeysTested catalogue request catalogue_line request_line set) where
  -- the step's clause is true
  abbrev pub step_true : Step → Bool
  step_true s = clause_true (value_of set place) (unwrap_or (clause_of catalogue request s) [])

  cause_true : (earlier : List Step) → list_all step_true earlier ≡ true → (n : ℕ) → is_earlier (length earlier) n ≡ true → clause_true (value_of set place) (cause_of catalogue request earlier n) ≡ true
  cause_true earlier h zero e = absurd (false≢true e)
  cause_true earlier h (suc k) e =
      let l : suc k ≤ length earlier = leb-true (suc k) (length earlier) (and_parts (ltb 0 (suc k)) (leb (suc k) (length earlier)) e).1 in
      let g = get_below earlier k (omega arith) in
      let t : step_true g.0 ≡ true = all_at step_true earlier k g.0 h g.1 in
      ap (λ o. clause_true (value_of set place) (unwrap_or (option_and_then (clause_of catalogue request) o) [])) g.1 ∙ t

  causes_true : (earlier : List Step) → list_all step_true earlier ≡ true → (causes : List ℕ) → list_all (is_earlier (length earlier)) causes ≡ true → list_all (clause_true (value_of set place)) (map (cause_of catalogue request earlier) causes) ≡ true
  causes_true earlier h [] e = refl
  causes_true earlier h (n ∷ ns) e =
      let p = and_parts (is_earlier (length earlier) n) (list_all (is_earlier (length earlier)) ns) e in
      and_from _ _ (cause_true earlier h n p.0) (causes_true earlier h ns p.1)

  alike : (a b : Atom) → same_atom a b ≡ true → value_of set place a ≡ value_of set place b
  alike a b h = ap (value_of set place) (same_atom_is a b h)

  -- a line that is there, and is named, is obeyed
  obeyed : (n : ℕ) (line : Line) → catalogue_line n ≡ true → line_at catalogue n ≡ Some line → obeys (owner_of catalogue n) line set ≡ true
  obeyed n line h e = sym (ap (λ o. option_map_or (λ l. obeys (owner_of catalogue n) l set) o true) e) ∙ named.in_catalogue n h

  obeyed_in_request : (n : ℕ) (line : Line) → request_line n ≡ true → line_at request n ≡ Some line → obeys None line set ≡ true
  obeyed_in_request n line h e = sym (ap (λ o. option_map_or (λ l. obeys None l set) o true) e) ∙ named.in_request n h

  owner_is : (v : Version) (o : Option Version) → is_owner v o ≡ true → o ≡ Some v
  owner_is v None h = absurd (false≢true h)
  owner_is v (Some w) h = ap Some (sym (same_is v w h))

  -- the clause of a place's line is true
  at_place : (p : Place) (n : ℕ) (line : Line) → line_of catalogue request p n ≡ Some line → rests_on catalogue_line request_line p n ≡ true
      → (owner : Option Version) × IsOwnerOf catalogue set place p owner × (obeys owner line set ≡ true)
  at_place OfRequest n line e r = (None, refl, obeyed_in_request n line r e)
  at_place (OfVersion v) n line e r =
      let q = cond_line (is_owner v (owner_of catalogue n)) (line_at catalogue n) line e in
      (owner_of catalogue n, owner_is v (owner_of catalogue n) q.0, obeyed n line r q.1) where
        cond_line : (b : Bool) (o : Option Line) (l : Line) → cond b o None ≡ Some l → (b ≡ true) × (o ≡ Some l)
        cond_line true o l k = (refl, k)
        cond_line false o l k = absurd (none-some l k)

  -- a clause of no line
  abbrev NoneOf : (Option Line → Option Clause) → Type 0
  NoneOf f = (c : Clause) → f None ≡ Some c → ⊥

  by_place : (p : Place) (n : ℕ) (f : Option Line → Option Clause) (c : Clause) → rests_on catalogue_line request_line p n ≡ true → NoneOf f
      → ((owner : Option Version) (line : Line) → IsOwnerOf catalogue set place p owner → obeys owner line set ≡ true → f (Some line) ≡ Some c → True catalogue set place c)
      → f (line_of catalogue request p n) ≡ Some c → True catalogue set place c
  by_place p n f c r none is h = one (line_of catalogue request p n) refl h where
    one : (o : Option Line) → line_of catalogue request p n ≡ o → f o ≡ Some c → True catalogue set place c
    one None e k = absurd (none c k)
    one (Some line) e k = let a = at_place p n line e r in is a.0 line a.1 a.2 k

  by_line : (n : ℕ) (f : Option Line → Option Clause) (c : Clause) → catalogue_line n ≡ true → NoneOf f
      → ((line : Line) → obeys (owner_of catalogue n) line set ≡ true → f (Some line) ≡ Some c → True catalogue set place c)
      → f (line_at catalogue n) ≡ Some c → True catalogue set place c
  by_line n f c r none is h = one (line_at catalogue n) refl h where
    one : (o : Option Line) → line_at catalogue n ≡ o → f o ≡ Some c → True catalogue set place c
    one None e k = absurd (none c k)
    one (Some line) e k = is line (obeyed n line r e) k

  -- the given place is the version's
  abbrev Placed : Step → Type 0
  Placed (step.Digit v given bit) = place v ≡ given
  Placed (step.Need p l c) = Unit {0}
  Placed (step.Gate w l) = Unit {0}
  Placed (step.Shared a) = Unit {0}
  Placed (step.LimitBars p l w) = Unit {0}
  Placed (step.Limit p l) = Unit {0}
  Placed (step.Outside s w) = Unit {0}
  Placed (step.Matches s w) = Unit {0}
  Placed (step.Lock l w) = Unit {0}
  Placed (step.Exclude l) = Unit {0}
  Placed (step.Unknown l) = Unit {0}
  Placed (step.Any w) = Unit {0}
  Placed (step.Derive c d) = Unit {0}

  clause_is_true : (s : Step) (c : Clause) → clause_of catalogue request s ≡ Some c → rests_on_named catalogue_line request_line s ≡ true → (earlier : List Step) → follows catalogue request earlier s ≡ true → list_all step_true earlier ≡ true → Placed s → clause_true (value_of set place) c ≡ true
  clause_is_true (step.Need p line case) c h n earlier f t k = by_place p line (need_clause catalogue p case) c n (λ d e. none-some d e) (λ owner l s o e. need_true catalogue set place single (listed_in catalogue) p owner case l c s o e) h
  clause_is_true (step.Gate v line) c h n earlier f t k = by_place (OfVersion v) line (gate_clause v) c n (λ d e. none-some d e) (λ owner l s o e. gate_true catalogue set place single (listed_in catalogue) v owner l c s o e) h
  clause_is_true (step.Shared alternatives) c h n earlier f t k = subst (λ (d : Clause). clause_true (value_of set place) d ≡ true) (same_Some _ _ h) (shared_true catalogue set place single (listed_in catalogue) alternatives)
  clause_is_true (step.LimitBars p line v) c h n earlier f t k = by_place p line (limit_bars_clause catalogue p v) c n (λ d e. none-some d e) (λ owner l s o e. limit_bars_true catalogue set place single (listed_in catalogue) p owner v l c s o e) h
  clause_is_true (step.Limit p line) c h n earlier f t k = by_place p line (limit_clause p) c n (λ d e. none-some d e) (λ owner l s o e. limit_true catalogue set place single (listed_in catalogue) p owner l c s o e) h
  clause_is_true (step.Outside s v) c h n earlier f t k = outside_true catalogue set place single (listed_in catalogue) s v c h
  clause_is_true (step.Matches s v) c h n earlier f t k = matches_true catalogue set place single (listed_in catalogue) s v c h
  clause_is_true (step.Lock line v) c h n earlier f t k = by_line line (lock_clause catalogue v) c n (λ d e. none-some d e) (λ l o e. lock_true catalogue set place single (listed_in catalogue) (owner_of catalogue line) v l c o e) h
  clause_is_true (step.Exclude line) c h n earlier f t k = by_line line exclude_clause c n (λ d e. none-some d e) (λ l o e. exclude_true catalogue set place single (listed_in catalogue) (owner_of catalogue line) l c o e) h
  clause_is_true (step.Unknown line) c h n earlier f t k = by_line line (unknown_clause (owner_of catalogue line)) c n (λ d e. none-some d e) (λ l o e. unknown_true catalogue set place single (listed_in catalogue) (owner_of catalogue line) l c o e) h
  clause_is_true (step.Digit v given bit) c h n earlier f t k = digit_true catalogue set place single (listed_in catalogue) v given bit c k h
  clause_is_true (step.Any v) c h n earlier f t k = any_true catalogue set place single (listed_in catalogue) v c h
  clause_is_true (step.Derive literals causes) c h n earlier f t k =
      let e = cond_some (list_all (λ l. is_atom catalogue l.atom) literals) (map literal_of literals) c h in
      let q = and_parts (list_all (is_earlier (length earlier)) causes) (one_pass same_atom (map literal_of literals) (map (cause_of catalogue request earlier) causes)) f in
      subst (λ (d : Clause). clause_true (value_of set place) d ≡ true) e.1
      (one_pass_true same_atom (value_of set place) alike (map literal_of literals) (map (cause_of catalogue request earlier) causes) (causes_true earlier t causes q.0) q.1)

  right_is_true : (s : Step) (earlier : List Step) → is_valid_step catalogue request catalogue_line request_line earlier s ≡ true → list_all step_true earlier ≡ true → Placed s → step_true s ≡ true
  right_is_true s earlier r t p =
      let q = and_parts (is_some (clause_of catalogue request s)) (rests_on_named catalogue_line request_line s && follows catalogue request earlier s) r in
      let o = and_parts (rests_on_named catalogue_line request_line s) (follows catalogue request earlier s) q.1 in
      let c = some_is (clause_of catalogue request s) q.0 in
      ap (λ x. clause_true (value_of set place) (unwrap_or x [])) c.1 ∙ clause_is_true s c.0 c.1 o.0 earlier o.1 t p

  placed : (s : Step) (earlier rest : List Step) → place ≡ place_given (earlier ++ s ∷ rest) → follows catalogue request earlier s ≡ true → Placed s
  placed (step.Digit v given bit) earlier rest e f = ap (λ (g : Version → ℕ). g v) e ∙ given_is v given bit earlier rest f
  placed (step.Need p l c) earlier rest e f = tt
  placed (step.Gate w l) earlier rest e f = tt
  placed (step.Shared a) earlier rest e f = tt
  placed (step.LimitBars p l w) earlier rest e f = tt
  placed (step.Limit p l) earlier rest e f = tt
  placed (step.Outside s w) earlier rest e f = tt
  placed (step.Matches s w) earlier rest e f = tt
  placed (step.Lock l w) earlier rest e f = tt
  placed (step.Exclude l) earlier rest e f = tt
  placed (step.Unknown l) earlier rest e f = tt
  placed (step.Any w) earlier rest e f = tt
  placed (step.Derive c d) earlier rest e f = tt

  -- a push keeps all true
  pushed : (earlier : List Step) (s : Step) → list_all step_true earlier ≡ true → step_true s ≡ true → list_all step_true (earlier ++ s ∷ []) ≡ true
  pushed earlier s h t = list_all-append step_true earlier (s ∷ []) ∙ and_from _ _ h (and_from _ _ t refl)

  steps_true : (whole earlier steps : List Step) → IsProof catalogue request catalogue_line request_line whole → whole ≡ earlier ++ steps → place ≡ place_given whole → list_all step_true earlier ≡ true → list_all step_true whole ≡ true
  steps_true whole earlier [] proof is e t = ap (list_all step_true) (is ∙ append-nil earlier) ∙ t
  steps_true whole earlier (s ∷ steps) proof is e t =
      let at : slice_get whole (length earlier) ≡ Some s = ap (λ xs. slice_get xs (length earlier)) is ∙ get_seam earlier s steps in
      let above : take (length earlier) whole ≡ earlier = ap (take (length earlier)) is ∙ take_prefix earlier (s ∷ steps) in
      let right = subst (λ (xs : List Step). is_valid_step catalogue request catalogue_line request_line xs s ≡ true) above (proof (length earlier) s at) in
      let r = and_parts (is_some (clause_of catalogue request s)) (rests_on_named catalogue_line request_line s && follows catalogue request earlier s) right in
      let f = and_parts (rests_on_named catalogue_line request_line s) (follows catalogue request earlier s) r.1 in
      let joined : (earlier ++ s ∷ []) ++ steps ≡ earlier ++ s ∷ steps = append_assoc earlier (s ∷ []) steps in
      steps_true whole (earlier ++ s ∷ []) steps proof (is ∙ sym joined) e (pushed earlier s t (right_is_true s earlier right t (placed s earlier steps (e ∙ ap place_given is) f.1)))

-- each step of a proof is true over a single set that obeys the named lines
pub proof_true : (catalogue request : List Line) (catalogue_line request_line : ℕ → Bool) (steps : List Step) → IsProof catalogue request catalogue_line request_line steps → (set : Set) → IsSingle catalogue set → ObeysTested catalogue request catalogue_line request_line set
    → list_all (λ s. clause_true (value_of set (place_given steps)) (unwrap_or (clause_of catalogue request s) [])) steps ≡ true
proof_true catalogue request catalogue_line request_line steps h set single named = steps_true catalogue request catalogue_line request_line set (place_given steps) single named steps [] steps h refl refl refl

-- ---- corollaries

empty_derived : (catalogue request : List Line) (s : Step) → derives_empty s ≡ true → unwrap_or (clause_of catalogue request s) [] ≡ []
empty_derived catalogue request (step.Derive literals causes) h = one literals (eqb-true (length literals) 0 h) where
  one : (ls : List Literal) → length ls ≡ 0 → unwrap_or (cond (list_all (λ l. is_atom catalogue l.atom) ls) (Some (map literal_of ls)) None) [] ≡ []
  one [] e = refl
  one (l ∷ ls) e = absurd (omega arith)
empty_derived catalogue request (step.Need p l c) h = absurd (false≢true h)
empty_derived catalogue request (step.Gate w l) h = absurd (false≢true h)
empty_derived catalogue request (step.Shared a) h = absurd (false≢true h)
empty_derived catalogue request (step.LimitBars p l w) h = absurd (false≢true h)
empty_derived catalogue request (step.Limit p l) h = absurd (false≢true h)
empty_derived catalogue request (step.Outside s w) h = absurd (false≢true h)
empty_derived catalogue request (step.Matches s w) h = absurd (false≢true h)
empty_derived catalogue request (step.Lock l w) h = absurd (false≢true h)
empty_derived catalogue request (step.Exclude l) h = absurd (false≢true h)
empty_derived catalogue request (step.Unknown l) h = absurd (false≢true h)
empty_derived catalogue request (step.Digit w k b) h = absurd (false≢true h)
empty_derived catalogue request (step.Any w) h = absurd (false≢true h)

ends_false : (catalogue request : List Line) (value : Atom → Bool) (steps : List Step) → ends_empty steps ≡ true → list_all (λ s. clause_true value (unwrap_or (clause_of catalogue request s) [])) steps ≡ true → ⊥
ends_false catalogue request value [] h t = false≢true h
ends_false catalogue request value (s ∷ []) h t =
    let p = and_parts (clause_true value (unwrap_or (clause_of catalogue request s) [])) true t in
    false≢true (sym (ap (clause_true value) (empty_derived catalogue request s h)) ∙ p.0)
ends_false catalogue request value (s ∷ t ∷ steps) h k =
    let p = and_parts (clause_true value (unwrap_or (clause_of catalogue request s) [])) (list_all (λ x. clause_true value (unwrap_or (clause_of catalogue request x) [])) (t ∷ steps)) k in
    ends_false catalogue request value (t ∷ steps) h p.1

-- a proof that ends with the empty clause: no single set obeys the named lines
pub proof_refutes : (catalogue request : List Line) (catalogue_line request_line : ℕ → Bool) (steps : List Step) → IsProof catalogue request catalogue_line request_line steps → ends_empty steps ≡ true
    → (set : Set) → IsSingle catalogue set → ObeysTested catalogue request catalogue_line request_line set → ⊥
proof_refutes catalogue request catalogue_line request_line steps h e set single named =
    ends_false catalogue request (value_of set (place_given steps)) steps e (proof_true catalogue request catalogue_line request_line steps h set single named)

-- a clause of literals that are `not` of members has no true one
forbidden_false : (value : Atom → Bool) (entries : Set) (wish : Version) → ((v : Version) → ((same_version v wish || is_member v entries) ≡ true) → value (Chosen v) ≡ true) → (clause : Clause) → forbids entries wish clause ≡ true → clause_true value clause ≡ true → ⊥
forbidden_false value entries wish in_set [] h t = false≢true t
forbidden_false value entries wish in_set (l ∷ ls) h t =
    let p = and_parts (not l.positive && is_among entries wish l.atom) (list_all (λ x. not x.positive && is_among entries wish x.atom) ls) h in
    let q = and_parts (not l.positive) (is_among entries wish l.atom) p.0 in
    elim (or_cases (is_true_at value l) (clause_true value ls) t) [
      | inl e ↦ one l.atom l.positive (not-true l.positive q.0) q.1 e
      | inr e ↦ forbidden_false value entries wish in_set ls p.1 e
    ] where
      flip : (b p : Bool) → p ≡ false → b ≡ true → beq b p ≡ true → ⊥
      flip b p e f g = false≢true (sym (ap (λ x. beq x p) f ∙ ap (λ x. beq true x) e) ∙ g)

      one : (a : Atom) (p : Bool) → p ≡ false → is_among entries wish a ≡ true → beq (value a) p ≡ true → ⊥
      one (Chosen v) p e m g = flip (value (Chosen v)) p e (in_set v m) g
      one (AnyOf n) p e m g = false≢true m
      one (SharedBy ss) p e m g = false≢true m
      one (OutsideOf s) p e m g = false≢true m
      one (MatchesOf s) p e m g = false≢true m
      one (BitOf i n) p e m g = false≢true m

-- a proof from all lines, a clause of which has no literal but `not` of the wish and of entries, keeps the wish and these apart
pub proof_forbids : (catalogue request : List Line) (steps : List Step) → IsProof catalogue request (λ _. true) (λ _. true) steps → (entries : Set) (wish : Version) (n : ℕ) (s : Step) (clause : Clause)
    → slice_get steps n ≡ Some s → clause_of catalogue request s ≡ Some clause → forbids entries wish clause ≡ true → AreApart catalogue request entries wish
proof_forbids catalogue request steps h entries wish n s clause at is b set keeping w e =
    forbidden_false (value_of set (place_given steps)) entries wish in_set clause b
    (sym (ap (λ x. clause_true (value_of set (place_given steps)) (unwrap_or x [])) is)
    ∙ all_at (λ x. clause_true (value_of set (place_given steps)) (unwrap_or (clause_of catalogue request x) [])) steps n s
    (proof_true catalogue request (λ _. true) (λ _. true) steps h set keeping.single (record { in_catalogue = λ k _. keeping.catalogue_lines k; in_request = λ k _. keeping.request_lines k })) at) where
      in_set : (v : Version) → ((same_version v wish || is_member v entries) ≡ true) → is_member v set ≡ true
      in_set v m = elim (or_cases (same_version v wish) (is_member v entries) m) [
        | inl x ↦ subst (λ (y : Version). is_member y set ≡ true) (sym (same_is v wish x)) (is_contained set wish w)
        | inr x ↦ is_contained set v (e v (contained entries v x))
      ]
