-- The clause of each rule step is true over each single set that obeys the line that the step rests on.
use Rattle.std.proofs.Common.{◌≡◌, ℕ, zero, suc, Bool, true, false, List, [], ◌∷◌, ◌++◌, Option, Some, None, refl, sym, ap, ◌∙◌, subst, inl, inr, eqb, cond}
use Rattle.std.specs.Prelude.{not, ◌&&◌, ◌||◌, filter, nat_lt, Contains}
use Rattle.std.specs.Option.{option_map}
use Rattle.std.specs.List.{list_any, list_all}
use Rattle.std.specs.Bool.{beq}
use Rattle.std.specs.Int.{bit_at}
use Rattle.std.specs.Str.{bytes_eq}
use Rattle.std.proofs.lemmas.Bool.{false≢true, cases_Bool, or_cases, or_left, or_right, and_from, and_left, and_right, and_parts, not-true}
use Rattle.std.proofs.lemmas.Option.{cond_some, same_Some, none-some}
use Rattle.std.proofs.lemmas.List.Folds.{list_any-append}
use Rattle.resolvo_text.specs.Line.{Version, Spec, Cond, Line, Skipped, Listed, Needs, Limits, Unknown, Lock, Favour, Exclude, Many, Wish}
use Rattle.resolvo_text.specs.Matches.{Set, same_package, is_member, matches, is_met, is_met_by_one, condition_holds}
use Rattle.resolvo_text.specs.Cases.{condition_cases, all_met}
use Rattle.resolvo_text.proofs.CaseLaws.{condition_holds-cases}
use Rattle.resolvo_catalogue_core.specs.Rules.{binds, obeys}
use Rattle.resolvo_catalogue_core.specs.Listed.{listed}
use Rattle.resolvo_catalogue_core.specs.Sets.{IsSingle, is_many}
use Rattle.resolvo_pool_core.specs.OnePass as pass
use Rattle.resolvo_pool_core.specs.OnePass.{is_true_at, clause_true}
use Rattle.resolvo_report.specs.Value.{Place, OfRequest, OfVersion, Atom, AnyOf, SharedBy, OutsideOf, MatchesOf, BitOf}
use Rattle.resolvo_checker.specs.StepClauses.{Clause, is_in, not_in, literal, is_listed, is_of, is_outside, is_locked_out, each_listed, place_fails, spec_fails, case_fails, some_match, case_at, need_clause, gate_clause, limit_bars_clause, limit_clause, lock_clause, exclude_clause, unknown_clause, shared_clause, outside_clause, matches_clause, digit_clause, any_clause}
use Rattle.resolvo_checker.specs.AtomValues.{value_of}
use Rattle.resolvo_checker.proofs.Sets.{found, failing, none_at, held, each_held, none_held, member, contained, list_any-map, list_any-flat_map, any_kept}
use Rattle.resolvo_checker.proofs.Atoms.{bytes_is, bytes_own}

no_clause : {P : Type 0} {A : Type 0} (x : A) → None ≡ Some x → P
no_clause x h = absurd (none-some x h)

beq_false : (b : Bool) → b ≡ false → beq b false ≡ true
beq_false true h = absurd (false≢true (sym h))
beq_false false h = refl

beq_true : (b : Bool) → b ≡ true → beq b true ≡ true
beq_true true h = refl
beq_true false h = absurd (false≢true h)

module _ (catalogue : List Line) (set : Set) (place : Version → ℕ) where
  abbrev pub True : Clause → Type 0
  True clause = clause_true (value_of set place) clause ≡ true

  -- a clause in two parts
  left : (c d : Clause) → True c → True (c ++ d)
  left c d t = list_any-append (is_true_at (value_of set place)) c d ∙ or_left _ _ t

  right : (c d : Clause) → True d → True (c ++ d)
  right c d t = list_any-append (is_true_at (value_of set place)) c d ∙ or_right _ _ t

  -- the first literal and the others
  first : (l : pass.Literal Atom) (c : Clause) → is_true_at (value_of set place) l ≡ true → True (l ∷ c)
  first l c t = or_left _ _ t

  next : (l : pass.Literal Atom) (c : Clause) → True c → True (l ∷ c)
  next l c t = or_right _ _ t

  -- a version that isn't in the set
  out : (v : Version) (c : Clause) → is_member v set ≡ false → True (not_in v ∷ c)
  out v c h = first (not_in v) c (beq_false (is_member v set) h)

  -- each listed version that passes, where a member does
  each_true : (test : Version → Bool) (v : Version) → is_member v (listed catalogue) ≡ true → is_member v set ≡ true → test v ≡ true → True (each_listed catalogue test)
  each_true test v l h t =
      list_any-map (is_true_at (value_of set place)) is_in (filter test (listed catalogue))
      ∙ any_kept (λ w. beq (is_member w set) true) test (listed catalogue)
      (held (λ w. beq (is_member w set) true && test w) (listed catalogue) v l (and_from _ _ (beq_true (is_member v set) h) t))

  -- a member that passes makes the other literal true
  member_makes : (v : Version) (a : Atom) (test : Version → Bool) → (list_any test set ≡ true → value_of set place a ≡ true) → test v ≡ true → True (not_in v ∷ literal a true ∷ [])
  member_makes v a test makes t = elim (cases_Bool (is_member v set)) [
    | inr n ↦ out v (literal a true ∷ []) n
    | inl e ↦ next (not_in v) (literal a true ∷ []) (first (literal a true) [] (beq_true _ (makes (held test set v e t))))
  ]

  -- The version of the place is the line's owner. A place of the request has none.
  abbrev pub IsOwnerOf : Place → Option Version → Type 0
  IsOwnerOf OfRequest owner = owner ≡ None
  IsOwnerOf (OfVersion v) owner = owner ≡ Some v

  bound : (p : Place) (owner : Option Version) → IsOwnerOf p owner → binds owner set ≡ false → True (place_fails p)
  bound OfRequest owner s h = absurd (false≢true (sym h ∙ ap (λ o. binds o set) s))
  bound (OfVersion v) owner s h = out v [] (sym (ap (λ o. binds o set) s) ∙ h)

  module _ (single : IsSingle catalogue set) (listed_in : (v : Version) → Contains catalogue (Listed v) → is_member v (listed catalogue) ≡ true) where
    is_there : (v : Version) → is_member v set ≡ true → is_member v (listed catalogue) ≡ true
    is_there v h = listed_in v (single.listed v (contained set v h))

    -- a member that matches an alternative
    match_true : (alternatives : List Spec) → is_met_by_one alternatives set ≡ true → True (some_match catalogue alternatives)
    match_true alternatives h =
        let f = found (λ s. is_met s set) alternatives h in
        let m = member (matches f.item) set f.passes in
        list_any-flat_map (is_true_at (value_of set place)) (λ s. each_listed catalogue (matches s)) alternatives
        ∙ f.also (λ s. list_any (is_true_at (value_of set place)) (each_listed catalogue (matches s)))
        (each_true (matches f.item) m.0 (is_there m.0 m.1) m.1 m.2)

    -- a SPEC without a matching member fails
    unmet : (s : Spec) → is_met s set ≡ false → True (literal (AnyOf s.name) false ∷ each_listed catalogue (is_outside s))
    unmet s h = elim (cases_Bool (list_any (is_of s.name) set)) [
      | inr none ↦ first (literal (AnyOf s.name) false) (each_listed catalogue (is_outside s)) (beq_false (list_any (is_of s.name) set) none)
      | inl some ↦
          let m = member (is_of s.name) set some in
          let off : matches s m.0 ≡ false = elim (cases_Bool (matches s m.0)) [ inr e ↦ e | inl e ↦ absurd (false≢true (sym h ∙ held (matches s) set m.0 m.1 e)) ] in
          next (literal (AnyOf s.name) false) (each_listed catalogue (is_outside s))
          (each_true (is_outside s) m.0 (is_there m.0 m.1) m.1 (and_from _ _ m.2 (ap not off)))
    ]

    spec_fails_true : (s : Spec) → is_met s set ≡ false → True (spec_fails catalogue s)
    spec_fails_true s h = by_mark (is_many catalogue s.name) where
      by_mark : (b : Bool) → True (cond b (literal (MatchesOf s) false ∷ []) (literal (AnyOf s.name) false ∷ each_listed catalogue (is_outside s)))
      by_mark true = first (literal (MatchesOf s) false) [] (beq_false (is_met s set) h)
      by_mark false = unmet s h

    case_fails_true : (specs : List Spec) → all_met specs set ≡ false → True (case_fails catalogue specs)
    case_fails_true specs h =
        let f = failing (λ s. is_met s set) specs h in
        list_any-flat_map (is_true_at (value_of set place)) (spec_fails catalogue) specs
        ∙ f.also (λ s. list_any (is_true_at (value_of set place)) (spec_fails catalogue s))
        (spec_fails_true f.item (not-true (is_met f.item set) f.passes))

    -- need
    need_parts : (p : Place) (owner : Option Version) (alternatives : List Spec) (condition : Option Cond) (case : ℕ) (specs : List Spec) → IsOwnerOf p owner → case_at condition case ≡ Some specs
        → obeys owner (Needs alternatives condition) set ≡ true → True (place_fails p ++ (case_fails catalogue specs ++ some_match catalogue alternatives))
    need_parts p owner alternatives condition zero specs s g h = no_clause specs g
    need_parts p owner alternatives condition (suc k) specs s g h = elim (or_cases (not (binds owner set) || not (condition_holds condition set)) (is_met_by_one alternatives set) h) [
      | inl less ↦ elim (or_cases (not (binds owner set)) (not (condition_holds condition set)) less) [
        | inl n ↦ left (place_fails p) _ (bound p owner s (not-true (binds owner set) n))
        | inr n ↦ right (place_fails p) _ (left (case_fails catalogue specs) (some_match catalogue alternatives)
            (case_fails_true specs (none_at (λ c. all_met c set) (condition_cases condition) k specs (condition_holds-cases condition set ∙ not-true (condition_holds condition set) n) g)))
      ]
      | inr m ↦ right (place_fails p) _ (right (case_fails catalogue specs) (some_match catalogue alternatives) (match_true alternatives m))
    ]

    pub need_true : (p : Place) (owner : Option Version) (case : ℕ) (line : Line) (c : Clause) → IsOwnerOf p owner → obeys owner line set ≡ true → need_clause catalogue p case (Some line) ≡ Some c → True c
    need_true p owner case (Needs alternatives condition) c s kept h = one (case_at condition case) refl h where
      one : (o : Option (List Spec)) → case_at condition case ≡ o → option_map (λ specs. place_fails p ++ (case_fails catalogue specs ++ some_match catalogue alternatives)) o ≡ Some c → True c
      one None g k = no_clause c k
      one (Some specs) g k = subst True (same_Some _ _ k) (need_parts p owner alternatives condition case specs s g kept)
    need_true p owner case Skipped c s kept h = no_clause c h
    need_true p owner case (Listed v) c s kept h = no_clause c h
    need_true p owner case (Limits x) c s kept h = no_clause c h
    need_true p owner case (Unknown reason) c s kept h = no_clause c h
    need_true p owner case (Lock v) c s kept h = no_clause c h
    need_true p owner case (Favour v) c s kept h = no_clause c h
    need_true p owner case (Many name) c s kept h = no_clause c h
    need_true p owner case (Exclude v reason) c s kept h = no_clause c h
    need_true p owner case (Wish v) c s kept h = no_clause c h

    -- gate
    pub gate_true : (v : Version) (owner : Option Version) (line : Line) (c : Clause) → owner ≡ Some v → obeys owner line set ≡ true → gate_clause v (Some line) ≡ Some c → True c
    gate_true v owner (Needs alternatives None) c s kept h = subst True (same_Some _ _ h) (elim (or_cases (not (binds owner set) || false) (is_met_by_one alternatives set) kept) [
      | inl less ↦ elim (or_cases (not (binds owner set)) false less) [
        | inl n ↦ left (not_in v ∷ []) (literal (SharedBy alternatives) true ∷ []) (bound (OfVersion v) owner s (not-true (binds owner set) n))
        | inr n ↦ absurd (false≢true n)
      ]
      | inr m ↦ next (not_in v) (literal (SharedBy alternatives) true ∷ []) (first (literal (SharedBy alternatives) true) [] (beq_true _ m))
    ])
    gate_true v owner (Needs alternatives (Some condition)) c s kept h = no_clause c h
    gate_true v owner Skipped c s kept h = no_clause c h
    gate_true v owner (Listed w) c s kept h = no_clause c h
    gate_true v owner (Limits x) c s kept h = no_clause c h
    gate_true v owner (Unknown reason) c s kept h = no_clause c h
    gate_true v owner (Lock w) c s kept h = no_clause c h
    gate_true v owner (Favour w) c s kept h = no_clause c h
    gate_true v owner (Many name) c s kept h = no_clause c h
    gate_true v owner (Exclude w reason) c s kept h = no_clause c h
    gate_true v owner (Wish w) c s kept h = no_clause c h

    -- shared
    pub shared_true : (alternatives : List Spec) → True (shared_clause catalogue alternatives)
    shared_true alternatives = elim (cases_Bool (is_met_by_one alternatives set)) [
      | inl m ↦ next (literal (SharedBy alternatives) false) (some_match catalogue alternatives) (match_true alternatives m)
      | inr n ↦ first (literal (SharedBy alternatives) false) (some_match catalogue alternatives) (beq_false _ n)
    ]

    -- where all members keep to the SPEC, one that is outside of it isn't a member
    none_outside : (s : Spec) → list_all (λ v. not (bytes_eq v.name s.name) || matches s v) set ≡ true → (v : Version) → is_outside s v ≡ true → is_member v set ≡ false
    none_outside s all v o = elim (cases_Bool (is_member v set)) [
      | inr e ↦ e
      | inl e ↦
          let p = and_parts (is_of s.name v) (not (matches s v)) o in
          absurd (elim (or_cases (not (bytes_eq v.name s.name)) (matches s v) (each_held (λ w. not (bytes_eq w.name s.name) || matches s w) set v all e)) [
            | inl n ↦ false≢true (sym (not-true _ n) ∙ p.0)
            | inr m ↦ false≢true (sym (not-true _ p.1) ∙ m)
          ])
    ]

    pub limit_bars_true : (p : Place) (owner : Option Version) (v : Version) (line : Line) (c : Clause) → IsOwnerOf p owner → obeys owner line set ≡ true → limit_bars_clause catalogue p v (Some line) ≡ Some c → True c
    limit_bars_true p owner v (Limits x) c s kept h =
        let e = cond_some (is_listed catalogue v && is_outside x v) (place_fails p ++ not_in v ∷ []) c h in
        subst True e.1 (elim (or_cases (not (binds owner set)) _ kept) [
          | inl n ↦ left (place_fails p) (not_in v ∷ []) (bound p owner s (not-true (binds owner set) n))
          | inr all ↦ right (place_fails p) (not_in v ∷ []) (out v [] (none_outside x all v (and_parts (is_listed catalogue v) (is_outside x v) e.0).1))
        ])
    limit_bars_true p owner v (Needs alternatives condition) c s kept h = no_clause c h
    limit_bars_true p owner v Skipped c s kept h = no_clause c h
    limit_bars_true p owner v (Listed w) c s kept h = no_clause c h
    limit_bars_true p owner v (Unknown reason) c s kept h = no_clause c h
    limit_bars_true p owner v (Lock w) c s kept h = no_clause c h
    limit_bars_true p owner v (Favour w) c s kept h = no_clause c h
    limit_bars_true p owner v (Many name) c s kept h = no_clause c h
    limit_bars_true p owner v (Exclude w reason) c s kept h = no_clause c h
    limit_bars_true p owner v (Wish w) c s kept h = no_clause c h

    pub limit_true : (p : Place) (owner : Option Version) (line : Line) (c : Clause) → IsOwnerOf p owner → obeys owner line set ≡ true → limit_clause p (Some line) ≡ Some c → True c
    limit_true p owner (Limits x) c s kept h = subst True (same_Some _ _ h) (elim (or_cases (not (binds owner set)) _ kept) [
      | inl n ↦ left (place_fails p) (literal (OutsideOf x) false ∷ []) (bound p owner s (not-true (binds owner set) n))
      | inr all ↦ right (place_fails p) (literal (OutsideOf x) false ∷ []) (first (literal (OutsideOf x) false) [] (beq_false _
          (none_held (is_outside x) set (λ v m. elim (cases_Bool (is_outside x v)) [ inr e ↦ e | inl e ↦ absurd (false≢true (sym (none_outside x all v e) ∙ m)) ]))))
    ])
    limit_true p owner (Needs alternatives condition) c s kept h = no_clause c h
    limit_true p owner Skipped c s kept h = no_clause c h
    limit_true p owner (Listed w) c s kept h = no_clause c h
    limit_true p owner (Unknown reason) c s kept h = no_clause c h
    limit_true p owner (Lock w) c s kept h = no_clause c h
    limit_true p owner (Favour w) c s kept h = no_clause c h
    limit_true p owner (Many name) c s kept h = no_clause c h
    limit_true p owner (Exclude w reason) c s kept h = no_clause c h
    limit_true p owner (Wish w) c s kept h = no_clause c h

    pub lock_true : (owner : Option Version) (v : Version) (line : Line) (c : Clause) → obeys owner line set ≡ true → lock_clause catalogue v (Some line) ≡ Some c → True c
    lock_true owner v (Lock locked) c kept h =
        let e = cond_some (is_listed catalogue v && is_locked_out locked v) (not_in v ∷ []) c h in
        let o = and_parts (same_package v locked) (not (eqb v.number locked.number)) (and_parts (is_listed catalogue v) (is_locked_out locked v) e.0).1 in
        subst True e.1 (out v [] (elim (cases_Bool (is_member v set)) [
          | inr n ↦ n
          | inl m ↦ absurd (elim (or_cases (not (same_package v locked)) (eqb v.number locked.number) (each_held (λ w. not (same_package w locked) || eqb w.number locked.number) set v kept m)) [
            | inl n ↦ false≢true (sym (not-true _ n) ∙ o.0)
            | inr n ↦ false≢true (sym (not-true _ o.1) ∙ n)
          ])
        ]))
    lock_true owner v (Needs alternatives condition) c kept h = no_clause c h
    lock_true owner v Skipped c kept h = no_clause c h
    lock_true owner v (Listed w) c kept h = no_clause c h
    lock_true owner v (Limits x) c kept h = no_clause c h
    lock_true owner v (Unknown reason) c kept h = no_clause c h
    lock_true owner v (Favour w) c kept h = no_clause c h
    lock_true owner v (Many name) c kept h = no_clause c h
    lock_true owner v (Exclude w reason) c kept h = no_clause c h
    lock_true owner v (Wish w) c kept h = no_clause c h

    pub exclude_true : (owner : Option Version) (line : Line) (c : Clause) → obeys owner line set ≡ true → exclude_clause (Some line) ≡ Some c → True c
    exclude_true owner (Exclude v reason) c kept h = subst True (same_Some _ _ h) (out v [] (not-true _ kept))
    exclude_true owner (Needs alternatives condition) c kept h = no_clause c h
    exclude_true owner Skipped c kept h = no_clause c h
    exclude_true owner (Listed w) c kept h = no_clause c h
    exclude_true owner (Limits x) c kept h = no_clause c h
    exclude_true owner (Unknown reason) c kept h = no_clause c h
    exclude_true owner (Lock w) c kept h = no_clause c h
    exclude_true owner (Favour w) c kept h = no_clause c h
    exclude_true owner (Many name) c kept h = no_clause c h
    exclude_true owner (Wish w) c kept h = no_clause c h

    pub unknown_true : (owner : Option Version) (line : Line) (c : Clause) → obeys owner line set ≡ true → unknown_clause owner (Some line) ≡ Some c → True c
    unknown_true None (Unknown reason) c kept h = no_clause c h
    unknown_true (Some v) (Unknown reason) c kept h = subst True (same_Some _ _ h) (out v [] (not-true _ kept))
    unknown_true owner (Exclude v reason) c kept h = no_clause c h
    unknown_true owner (Needs alternatives condition) c kept h = no_clause c h
    unknown_true owner Skipped c kept h = no_clause c h
    unknown_true owner (Listed w) c kept h = no_clause c h
    unknown_true owner (Limits x) c kept h = no_clause c h
    unknown_true owner (Lock w) c kept h = no_clause c h
    unknown_true owner (Favour w) c kept h = no_clause c h
    unknown_true owner (Many name) c kept h = no_clause c h
    unknown_true owner (Wish w) c kept h = no_clause c h

    -- ---- auxiliary atoms

    pub outside_true : (s : Spec) (v : Version) (c : Clause) → outside_clause catalogue s v ≡ Some c → True c
    outside_true s v c h =
        let e = cond_some (is_listed catalogue v && is_outside s v) (not_in v ∷ literal (OutsideOf s) true ∷ []) c h in
        subst True e.1 (member_makes v (OutsideOf s) (is_outside s) (λ x. x) (and_parts (is_listed catalogue v) (is_outside s v) e.0).1)

    pub matches_true : (s : Spec) (v : Version) (c : Clause) → matches_clause catalogue s v ≡ Some c → True c
    matches_true s v c h =
        let e = cond_some (is_listed catalogue v && (matches s v && is_many catalogue s.name)) (not_in v ∷ literal (MatchesOf s) true ∷ []) c h in
        let p = and_parts (matches s v) (is_many catalogue s.name) (and_parts (is_listed catalogue v) (matches s v && is_many catalogue s.name) e.0).1 in
        subst True e.1 (member_makes v (MatchesOf s) (matches s) (λ x. x) p.0)

    digit_is : (v : Version) (bit : ℕ) (b : Bool) → is_many catalogue v.name ≡ false → eqb (bit_at (place v) bit) 1 ≡ b → True (not_in v ∷ literal (BitOf bit v.name) b ∷ [])
    digit_is v bit true own e = member_makes v (BitOf bit v.name) (λ x. is_of v.name x && eqb (bit_at (place x) bit) 1) (λ h. h) (and_from _ _ (bytes_own v.name) e)
    digit_is v bit false own e = elim (cases_Bool (is_member v set)) [
      | inr n ↦ out v (literal (BitOf bit v.name) false ∷ []) n
      | inl m ↦ next (not_in v) (literal (BitOf bit v.name) false ∷ []) (first (literal (BitOf bit v.name) false) [] (beq_false _
          (none_held (λ x. is_of v.name x && eqb (bit_at (place x) bit) 1) set (λ x k. elim (cases_Bool (is_of v.name x)) [
            | inr other ↦ and_left _ _ other
            | inl of ↦ and_right _ _ (subst (λ (y : Version). eqb (bit_at (place y) bit) 1 ≡ false) (single.one_each v x (contained set v m) (contained set x k) (sym (bytes_is x.name v.name of)) own) e)
          ]))))
    ]

    pub digit_true : (v : Version) (given bit : ℕ) (c : Clause) → place v ≡ given → digit_clause catalogue v given bit ≡ Some c → True c
    digit_true v given bit c e h =
        let k = cond_some (is_listed catalogue v && (not (is_many catalogue v.name) && nat_lt bit 32)) (not_in v ∷ literal (BitOf bit v.name) (eqb (bit_at given bit) 1) ∷ []) c h in
        let own = and_parts (not (is_many catalogue v.name)) (nat_lt bit 32) (and_parts (is_listed catalogue v) (not (is_many catalogue v.name) && nat_lt bit 32) k.0).1 in
        subst True k.1 (digit_is v bit (eqb (bit_at given bit) 1) (not-true (is_many catalogue v.name) own.0) (ap (λ n. eqb (bit_at n bit) 1) e))

    pub any_true : (v : Version) (c : Clause) → any_clause catalogue v ≡ Some c → True c
    any_true v c h =
        let e = cond_some (is_listed catalogue v) (not_in v ∷ literal (AnyOf v.name) true ∷ []) c h in
        subst True e.1 (member_makes v (AnyOf v.name) (is_of v.name) (λ x. x) (bytes_own v.name))
