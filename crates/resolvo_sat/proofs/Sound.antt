-- Each clause of a rule is true under the values of a set that obeys the rules.
use Rattle.std.proofs.Common.{◌≡◌, ℕ, ◌⊎◌, inl, inr, Bool, true, false, ◌&&◌, List, [], ◌∷◌, ◌++◌, Option, Some, None, refl, sym, ◌∙◌, subst}
use Rattle.std.specs.Prelude.{Contains}
use Rattle.std.specs.List.{list_any}
use Rattle.std.proofs.lemmas.Bool.{or_cases, and_parts, and_from, and_cases, both_ways, cases_Bool, not_from_false, false_from_ne_true}
use Rattle.resolvo_pool_core.specs.declared.id.VersionSetId.{VersionSetId}
use Rattle.resolvo_pool_core.specs.OnePass.{Literal, is_true_at, clause_true}
use Rattle.resolvo_pool_core.specs.Provider.{listed}
use Rattle.resolvo_pool_core.specs.Text.{alternatives_of}
use Rattle.resolvo_pool_core.specs.RuleKeeping.{Packages, Rules, is_many, rules_of, is_unknown, is_forbidden, is_in, is_match, is_outside, is_met, meets, is_member, IsSingle, Obeys, IsRuleKeeping}
use Rattle.resolvo_sat.specs.RuleClauses.{IsExact, Atom, Rule, plus, minus, parent_literals, has_plain_need, case_holds, case_literals, candidate_literals, literals_of, is_asked, value, Fits, shown, IsRule, AgreeWith}
use Rattle.resolvo_sat.proofs.Lists.{contains_first, contains_later, contains_only, contains_second, all_fails}
use Rattle.resolvo_sat.proofs.Members.{plus_true, minus_true, makes, made_left, made_right, any_in, in_any, none_in, candidate_in, any_in_case, outside_in_case, matches_in_case, case_binds, asked, kept_out}

module _ {N S : Type 0} (same : S → S → Bool) (exact : IsExact same) (p : Packages N S) where
  -- the solvable's denial is true, or it is in the set
  denied_or_in : (digits : N → ℕ → Bool) (chosen : List S) (s : S) → (is_true_at (value same p digits chosen) (minus (Atom.solvable s)) ≡ true) ⊎ (is_in same p chosen s ≡ true)
  denied_or_in digits chosen s = elim (cases_Bool (is_in same p chosen s)) [ inl e ↦ inr e | inr e ↦ inl (minus_true _ e) ]

  -- the parent's literal is true, or the parent is a member
  parent_cases : (root : Rules) (digits : N → ℕ → Bool) (chosen : List S) (parent : Option S) → (clause_true (value same p digits chosen) (parent_literals parent) ≡ true) ⊎ (is_member same p root chosen parent ≡ true)
  parent_cases root digits chosen None = inr refl
  parent_cases root digits chosen (Some s) = elim (denied_or_in digits chosen s) [
    | inl t ↦ inl (makes (value same p digits chosen) (minus (Atom.solvable s) ∷ []) (minus (Atom.solvable s)) (contains_only (minus (Atom.solvable s))) t)
    | inr e ↦ inr e
  ]

  -- a literal of the case is true, or the case holds
  pub case_cases : (digits : N → ℕ → Bool) (chosen : List S) (vs : List VersionSetId) → (clause_true (value same p digits chosen) (case_literals same p vs) ≡ true) ⊎ (case_holds same p chosen vs ≡ true)
  case_cases digits chosen vs = elim (cases_Bool (case_holds same p chosen vs)) [ inl e ↦ inr e | inr e ↦ inl (fails e) ]
    where
      there : (v : VersionSetId) → Contains vs v → is_many p (p.set_package v) ≡ false → is_met same p chosen v ≡ false → list_any (is_in same p (listed (p.candidates_of (p.set_package v)))) chosen ≡ true → clause_true (value same p digits chosen) (case_literals same p vs) ≡ true
      there v a m f e =
          let (s, c, here) = any_in same exact p (is_in same p (listed (p.candidates_of (p.set_package v)))) chosen e in
          let no_match : is_match same p v s ≡ false = none_in same exact p (is_match same p v) s chosen c f in
          let fails : p.matches v s ≡ false = elim (and_cases (is_in same p (listed (p.candidates_of (p.set_package v))) s) (p.matches v s) no_match) [ inl x ↦ absurd (both_ways _ x here) | inr x ↦ x ] in
          makes (value same p digits chosen) (case_literals same p vs) (plus (Atom.solvable s)) (outside_in_case same exact p vs v s a m (and_from _ _ here (not_from_false _ fails))) (plus_true _ c)

      unmarked : (v : VersionSetId) → Contains vs v → is_many p (p.set_package v) ≡ false → is_met same p chosen v ≡ false → clause_true (value same p digits chosen) (case_literals same p vs) ≡ true
      unmarked v a m f = elim (cases_Bool (list_any (is_in same p (listed (p.candidates_of (p.set_package v)))) chosen)) [
        | inl e ↦ there v a m f e
        | inr e ↦ makes (value same p digits chosen) (case_literals same p vs) (minus (Atom.any_of (p.set_package v))) (any_in_case same exact p vs v a m) (minus_true _ e)
      ]

      fails : case_holds same p chosen vs ≡ false → clause_true (value same p digits chosen) (case_literals same p vs) ≡ true
      fails h =
          let (v, a, f) = all_fails (is_met same p chosen) vs h in
          elim (cases_Bool (is_many p (p.set_package v))) [
            | inl m ↦ makes (value same p digits chosen) (case_literals same p vs) (minus (Atom.matches v)) (matches_in_case same exact p vs v a m) (minus_true _ f)
            | inr m ↦ unmarked v a m f
          ]

  -- a clause of two literals, the first of which denies a solvable
  pair_true : (digits : N → ℕ → Bool) (chosen : List S) (s : S) (l : Literal (Atom N S)) → (is_in same p chosen s ≡ true → is_true_at (value same p digits chosen) l ≡ true) → clause_true (value same p digits chosen) (minus (Atom.solvable s) ∷ l ∷ []) ≡ true
  pair_true digits chosen s l then = elim (denied_or_in digits chosen s) [
    | inl t ↦ makes (value same p digits chosen) (minus (Atom.solvable s) ∷ l ∷ []) (minus (Atom.solvable s)) (contains_first (minus (Atom.solvable s)) (minus (Atom.solvable s)) (l ∷ []) refl) t
    | inr e ↦ makes (value same p digits chosen) (minus (Atom.solvable s) ∷ l ∷ []) l (contains_second (minus (Atom.solvable s)) l) (then e)
  ]

  -- a clause of one literal
  single_true : (v : Atom N S → Bool) (l : Literal (Atom N S)) → is_true_at v l ≡ true → clause_true v (l ∷ []) ≡ true
  single_true v l t = makes v (l ∷ []) l (contains_only l) t

  module _ (root : Rules) where
    -- the clause of a rule is true under the values of a set that obeys the rules, whatever the digits of other packages are
    pub clause_holds : (rules : Rule N S → Type 0) (digits : N → ℕ → Bool) (chosen : List S) (r : Rule N S)
        → Obeys same p root chosen → IsRule same p root r → Fits same p rules digits chosen → rules r → clause_true (value same p digits chosen) (literals_of same p r) ≡ true
    clause_holds rules digits chosen (Rule.needs parent need vs) o (n, c, matched) f present =
        let denial : List (Literal (Atom N S)) = parent_literals parent in
        let condition = case_literals same p vs in
        let candidates = candidate_literals same p (alternatives_of p.members_of need.requirement) in
        let v = value same p digits chosen in
        elim (parent_cases root digits chosen parent) [
          | inl m ↦ made_left v denial (condition ++ candidates) m
          | inr here ↦ elim (case_cases digits chosen vs) [
            | inl m ↦ made_right v denial (condition ++ candidates) (made_left v condition candidates m)
            | inr holds ↦
                let (s, i, t) = o.requirements_met parent need here n (case_binds same exact p chosen need vs c holds) in
                made_right v denial (condition ++ candidates) (made_right v condition candidates (makes v candidates (plus (Atom.solvable s)) (candidate_in same exact p (alternatives_of p.members_of need.requirement) s t) (plus_true _ i)))
          ]
        ]
    clause_holds rules digits chosen (Rule.gated s r) o h f present = pair_true digits chosen s (plus (Atom.gate r)) (λ e. plus_true _ (in_any same exact p (λ n. has_plain_need (rules_of (p.dependencies_of n)).requirements r) s chosen e h))
    clause_holds rules digits chosen (Rule.shared r) o h f present =
        elim (cases_Bool (is_asked same p chosen r)) [
          | inl e ↦
              let (parent, c, a) = any_in same exact p (λ n. has_plain_need (rules_of (p.dependencies_of n)).requirements r) chosen e in
              let (need, n, b, is) = asked same exact p chosen (rules_of (p.dependencies_of parent)).requirements r a in
              let (s, i, t) = o.requirements_met (Some parent) need c n b in
              makes (value same p digits chosen) (literals_of same p (Rule.shared r)) (plus (Atom.solvable s)) (contains_later (plus (Atom.solvable s)) (minus (Atom.gate r)) (candidate_literals same p (alternatives_of p.members_of r)) (candidate_in same exact p (alternatives_of p.members_of r) s (subst (λ x. meets same p x s ≡ true) (sym is) t))) (plus_true _ i)
          | inr e ↦ makes (value same p digits chosen) (literals_of same p (Rule.shared r)) (minus (Atom.gate r)) (contains_first (minus (Atom.gate r)) (minus (Atom.gate r)) (candidate_literals same p (alternatives_of p.members_of r)) refl) (minus_true _ e)
        ]
    clause_holds rules digits chosen (Rule.limits parent v s) o (a, out) f present =
        let denial : List (Literal (Atom N S)) = parent_literals parent in
        let l : Literal (Atom N S) = minus (Atom.solvable s) in
        elim (parent_cases root digits chosen parent) [
          | inl m ↦ made_left (value same p digits chosen) denial (l ∷ []) m
          | inr here ↦ made_right (value same p digits chosen) denial (l ∷ []) (single_true (value same p digits chosen) l (minus_true _ (false_from_ne_true _ (λ c. both_ways _ (o.constraints_kept parent v s here a c) out))))
        ]
    clause_holds rules digits chosen (Rule.limits_outside parent v) o a f present =
        let denial : List (Literal (Atom N S)) = parent_literals parent in
        let l : Literal (Atom N S) = minus (Atom.outside v) in
        elim (parent_cases root digits chosen parent) [
          | inl m ↦ made_left (value same p digits chosen) denial (l ∷ []) m
          | inr here ↦ made_right (value same p digits chosen) denial (l ∷ []) (single_true (value same p digits chosen) l (minus_true _ (false_from_ne_true _ (λ e.
              let (s, c, out) = any_in same exact p (is_outside same p v) chosen e in
              both_ways _ (o.constraints_kept parent v s here a c) out))))
        ]
    clause_holds rules digits chosen (Rule.is_out v s) o (parent, limited, outside) f present = pair_true digits chosen s (plus (Atom.outside v)) (λ e. plus_true _ (in_any same exact p (is_outside same p v) s chosen e outside))
    clause_holds rules digits chosen (Rule.forbids w s) o h f present = single_true (value same p digits chosen) (minus (Atom.solvable s)) (minus_true _ (f.allowed w s present))
    clause_holds rules digits chosen (Rule.has_digit s bit true) o h f present = pair_true digits chosen s (plus (Atom.digit (p.package_of s) bit)) (λ e. plus_true _ (f.by_digits s bit true present e))
    clause_holds rules digits chosen (Rule.has_digit s bit false) o h f present = pair_true digits chosen s (minus (Atom.digit (p.package_of s) bit)) (λ e. minus_true _ (f.by_digits s bit false present e))
    clause_holds rules digits chosen (Rule.is_there n s) o h f present = pair_true digits chosen s (plus (Atom.any_of n)) (λ e. plus_true _ (in_any same exact p (is_in same p (listed (p.candidates_of n))) s chosen e h))
    clause_holds rules digits chosen (Rule.matches v s) o (of, matching, marked) f present = pair_true digits chosen s (plus (Atom.matches v)) (λ e. plus_true _ (in_any same exact p (is_match same p v) s chosen e matching))

    -- the member's place shows its digits, unless its package is marked `many`
    pub shows : (same_name : N → N → Bool) → IsExact same_name → (bits : S → ℕ → Bool) (chosen : List S) (s : S) (bit : ℕ) → IsSingle same p chosen → is_many p (p.package_of s) ≡ false → is_in same p chosen s ≡ true → shown same p same_name bits chosen (p.package_of s) bit ≡ bits s bit
    shows same_name names bits chosen s bit single unmarked c = go (bits s bit) refl
      where
        go : (b : Bool) → bits s bit ≡ b → shown same p same_name bits chosen (p.package_of s) bit ≡ b
        go true e = in_any same exact p (λ t. same_name (p.package_of s) (p.package_of t) && bits t bit) s chosen c (and_from _ _ (names.own (p.package_of s)) e)
        go false e = false_from_ne_true _ (λ h.
            let (t, i, both) = any_in same exact p (λ t. same_name (p.package_of s) (p.package_of t) && bits t bit) chosen h in
            let parts = and_parts (same_name (p.package_of s) (p.package_of t)) (bits t bit) both in
            let is : s ≡ t = single.one s t c i (names.one _ _ parts.0) unmarked in
            both_ways (bits t bit) (subst (λ n. bits n bit ≡ false) is e) parts.1)

    -- Soundness: the clauses of rules are true under each rule-keeping set, for each map of places
    -- that has the digits of the rules.
    pub rules_sound : (same_name : N → N → Bool) → IsExact same_name → (rules : Rule N S → Type 0) (bits : S → ℕ → Bool) (chosen : List S) → ((r : Rule N S) → rules r → IsRule same p root r) → AgreeWith rules bits → IsRuleKeeping same p root chosen
        → (r : Rule N S) → rules r → clause_true (value same p (shown same p same_name bits chosen) chosen) (literals_of same p r) ≡ true
    rules_sound same_name names rules bits chosen rule agree k r present = clause_holds rules (shown same p same_name bits chosen) chosen r k.obeys (rule r present) fits present
      where
        fits : Fits same p rules (shown same p same_name bits chosen) chosen
        fits = record {
          allowed = λ w s b. false_from_ne_true _ (λ c. elim (or_cases (is_forbidden same p s) (is_unknown (p.dependencies_of s)) (kept_out same exact p w s (rule (Rule.forbids w s) b))) [ inl e ↦ both_ways _ (k.allowed s c) e | inr e ↦ both_ways _ (k.known s c) e ]);
          by_digits = λ s bit b by_digits c. (let (listed, few, unmarked) = rule (Rule.has_digit s bit b) by_digits in shows same_name names bits chosen s bit k.single unmarked c ∙ agree s bit b by_digits);
        }
