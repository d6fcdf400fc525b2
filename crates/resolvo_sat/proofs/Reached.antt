-- What a trail makes true is reached.
use Rattle.std.proofs.Common.{◌≡◌, ℕ, ◌⊎◌, inl, inr, Bool, true, false, not, List, [], ◌∷◌, Option, Some, None, refl, sym, ◌∙◌, ap, subst}
use Rattle.std.specs.Prelude.{Contains}
use Rattle.std.proofs.lemmas.Bool.{and_from, both_ways, cases_Bool, not_from_false}
use Rattle.resolvo_pool_core.specs.declared.id.VersionSetId.{VersionSetId}
use Rattle.resolvo_pool_core.specs.declared.requirement.ConditionalRequirement.{ConditionalRequirement}
use Rattle.resolvo_pool_core.specs.declared.requirement.Requirement.{Requirement}
use Rattle.resolvo_pool_core.specs.OnePass.{Literal, negate, is_true_at, clause_true}
use Rattle.resolvo_pool_core.specs.Provider.{listed}
use Rattle.resolvo_pool_core.specs.RuleKeeping.{Packages, Rules, is_many, rules_of, is_in, is_match, is_met, meets, binds, rules_for, is_member, Obeys, IsClosed}
use Rattle.resolvo_sat.specs.RuleClauses.{IsExact, Atom, Rule, plus, minus, case_holds, case_literals, literals_of, has_plain_need, IsRule, value}
use Rattle.resolvo_sat.specs.SearchEnd.{IsTrueParent, HasClause, IsAsked, IsCalledFor, IsForced, IsTrail, AreRegistered}
use Rattle.resolvo_sat.proofs.Lists.{contains_none, contains_cases, contains_first, contains_later, all_contained, contained_all}
use Rattle.resolvo_sat.proofs.Members.{plus_true, true_plus, true_minus, made_by, not_both, negate-negate, any_in, in_any, any_in_case, outside_in_case, matches_in_case, binds_case, case_binds, asked}

module _ {N S : Type 0} (same : S → S → Bool) (exact : IsExact same) (p : Packages N S) (root : Rules) where
  -- a member of the part is a member
  pub inside_member : (softs chosen part : List S) (parent : Option S) → IsClosed same p root softs chosen part → is_member same p root part parent ≡ true → is_member same p root chosen parent ≡ true
  inside_member softs chosen part None c m = refl
  inside_member softs chosen part (Some s) c m = c.inside s m

  -- what holds in a part holds in the whole
  set_grows : (chosen part : List S) (v : VersionSetId) → ((s : S) → is_in same p part s ≡ true → is_in same p chosen s ≡ true) → is_met same p part v ≡ true → is_met same p chosen v ≡ true
  set_grows chosen part v i h = let (s, c, m) = any_in same exact p (is_match same p v) part h in in_any same exact p (is_match same p v) s chosen (i s c) m

  case_grows : (chosen part : List S) (case : List VersionSetId) → ((s : S) → is_in same p part s ≡ true → is_in same p chosen s ≡ true) → case_holds same p part case ≡ true → case_holds same p chosen case ≡ true
  case_grows chosen part case i h = contained_all (is_met same p chosen) case (λ v a. set_grows chosen part v i (all_contained (is_met same p part) v case h a))

  pub binds_grows : (chosen part : List S) (need : ConditionalRequirement) → ((s : S) → is_in same p part s ≡ true → is_in same p chosen s ≡ true) → binds same p part need ≡ true → binds same p chosen need ≡ true
  binds_grows chosen part need i h =
      let (case, a, c) = binds_case same exact p part need h in
      case_binds same exact p chosen need case a (case_grows chosen part case i c)

  -- a closed part of what obeys the rules obeys them
  pub part_obeys : (softs chosen part : List S) → IsClosed same p root softs chosen part → Obeys same p root chosen → Obeys same p root part
  part_obeys softs chosen part c o = record {
    requirements_met = λ parent need m a b.
        let (s, i, t) = o.requirements_met parent need (inside_member softs chosen part parent c m) a (binds_grows chosen part need c.inside b) in
        (s, c.matches parent need s m a b t i, t);
    constraints_kept = λ parent v s m a i. o.constraints_kept parent v s (inside_member softs chosen part parent c m) a (c.inside s i);
  }

  -- where the literals of a case are false under the values of a part, the case holds in the part
  pub case_from_false : (digits : N → ℕ → Bool) (part : List S) (case : List VersionSetId) → ((l : Literal (Atom N S)) → Contains (case_literals same p case) l → is_true_at (value same p digits part) (negate l) ≡ true) → case_holds same p part case ≡ true
  case_from_false digits part case f = contained_all (is_met same p part) case holds
    where
      unmarked : (v : VersionSetId) → Contains case v → is_many p (p.set_package v) ≡ false → is_met same p part v ≡ true
      unmarked v a m =
          let (s, c, there) = any_in same exact p (is_in same p (listed (p.candidates_of (p.set_package v)))) part (true_plus _ (f (minus (Atom.any_of (p.set_package v))) (any_in_case same exact p case v a m))) in
          elim (cases_Bool (p.matches v s)) [
            | inl e ↦ in_any same exact p (is_match same p v) s part c (and_from _ _ there e)
            | inr e ↦ absurd (both_ways _ (true_minus _ (f (plus (Atom.solvable s)) (outside_in_case same exact p case v s a m (and_from _ _ there (not_from_false _ e))))) c)
          ]

      holds : (v : VersionSetId) → Contains case v → is_met same p part v ≡ true
      holds v a = elim (cases_Bool (is_many p (p.set_package v))) [
        | inl m ↦ true_plus _ (f (minus (Atom.matches v)) (matches_in_case same exact p case v a m))
        | inr m ↦ unmarked v a m
      ]

  module _ (rules : Rule N S → Type 0) where
    -- under the values of a part in which what is known is true, a requirement that is asked for is one of a member and binds
    pub asked_binds : (digits : N → ℕ → Bool) (part : List S) (known : List (Literal (Atom N S))) (r : Requirement) → ((q : Rule N S) → rules q → IsRule same p root q)
        → ((m : Literal (Atom N S)) → Contains known m → is_true_at (value same p digits part) m ≡ true) → IsAsked same p rules known r
        → (parent : Option S) × (need : ConditionalRequirement) × (is_member same p root part parent ≡ true) × Contains (rules_for same p root parent).requirements need × (binds same p part need ≡ true) × (r ≡ need.requirement)
    asked_binds digits part known r rule ih (inl k) =
        let (n, c, matched) = rule (Rule.needs k.parent k.need k.case) k.present in
        let holds = case_from_false digits part k.case (λ m b. ih (negate m) (k.holds m b)) in
        (k.parent, k.need, chosen k.parent k.chosen, n, case_binds same exact p part k.need k.case c holds, k.asks)
      where
        chosen : (parent : Option S) → IsTrueParent known parent → is_member same p root part parent ≡ true
        chosen None t = refl
        chosen (Some s) t = true_plus _ (ih (plus (Atom.solvable s)) t)
    asked_binds digits part known r rule ih (inr k) =
        let (s, c, a) = any_in same exact p (λ n. has_plain_need (rules_of (p.dependencies_of n)).requirements r) part (true_plus _ (ih (plus (Atom.gate r)) k.opened)) in
        let (need, n, b, is) = asked same exact p part (rules_of (p.dependencies_of s)).requirements r a in
        (Some s, need, c, n, b, is)

    module _ (registered : S → Type 0) where
      -- Under a valuation that makes the rules' clauses true, and makes each choice true where it makes true what was
      -- known before, the trail is true.
      pub trail_true : (v : Atom N S → Bool) (choice : List (Literal (Atom N S)) → Literal (Atom N S) → Type 0) (known : List (Literal (Atom N S)))
          → ((r : Rule N S) → rules r → clause_true v (literals_of same p r) ≡ true)
          → ((older : List (Literal (Atom N S))) (l : Literal (Atom N S)) → choice older l → Contains known l → ((m : Literal (Atom N S)) → Contains older m → is_true_at v m ≡ true) → is_true_at v l ≡ true)
          → IsTrail same p rules registered choice known
          → (l : Literal (Atom N S)) → Contains known l → is_true_at v l ≡ true
      trail_true v choice [] all picks t l a = absurd (contains_none l a)
      trail_true v choice (e ∷ older) all picks t l a = start (trail_true v choice older all (λ o m c b. picks o m c (later m b)) t.1) (contains_cases l e older a)
        where
          later : (m : Literal (Atom N S)) → Contains older m → Contains (e ∷ older) m
          later m b = contains_later m e older b

          holds : ((m : Literal (Atom N S)) → Contains older m → is_true_at v m ≡ true) → choice older e ⊎ IsForced same p rules registered older e → is_true_at v e ≡ true
          holds ih (inl c) = picks older e c (contains_first e e older refl) ih
          holds ih (inr f) =
              let (m, present, t) = made_by v f.clause (f.implied v all) in
              elim (f.others m present) [
                | inl is ↦ subst (λ x. is_true_at v x ≡ true) is t
                | inr fell ↦ absurd (not_both v m t (ih (negate m) fell))
              ]

          start : ((m : Literal (Atom N S)) → Contains older m → is_true_at v m ≡ true) → (l ≡ e) ⊎ Contains older l → is_true_at v l ≡ true
          start ih (inl is) = subst (λ m. is_true_at v m ≡ true) (sym is) (holds ih t.0.reasoned)
          start ih (inr b) = ih l b

      -- each literal of a trail is true under the values of a closed part
      pub trail_holds : (softs chosen part : List S) (digits : N → ℕ → Bool) (known : List (Literal (Atom N S))) → ((r : Rule N S) → rules r → IsRule same p root r)
          → ((r : Rule N S) → rules r → clause_true (value same p digits part) (literals_of same p r) ≡ true) → IsClosed same p root softs chosen part
          → ((s : S) → Contains known (plus (Atom.solvable s)) → is_in same p chosen s ≡ true) → IsTrail same p rules registered (IsCalledFor same p rules softs) known
          → (l : Literal (Atom N S)) → Contains known l → is_true_at (value same p digits part) l ≡ true
      trail_holds softs chosen part digits known rule all c inside t = trail_true (value same p digits part) (IsCalledFor same p rules softs) known all picks t
        where
          true_there : (l : Literal (Atom N S)) (s : S) → l ≡ plus (Atom.solvable s) → is_in same p part s ≡ true → is_true_at (value same p digits part) l ≡ true
          true_there l s is h = subst (λ m. is_true_at (value same p digits part) m ≡ true) (sym is) (plus_true _ h)

          picks : (older : List (Literal (Atom N S))) (l : Literal (Atom N S)) → IsCalledFor same p rules softs older l → Contains known l → ((m : Literal (Atom N S)) → Contains older m → is_true_at (value same p digits part) m ≡ true) → is_true_at (value same p digits part) l ≡ true
          picks older l (inl w) a ih = true_there l w.solvable w.is (c.wished w.solvable w.wished (inside w.solvable (subst (Contains known) w.is a)))
          picks older l (inr k) a ih =
              let (parent, need, m, n, b, r) = asked_binds digits part older k.requirement rule ih k.asked in
              true_there l k.solvable k.is (c.matches parent need k.solvable m n b (subst (λ x. meets same p x k.solvable ≡ true) r k.offered) (inside k.solvable (subst (Contains known) k.is a)))

      not_same : (b : Bool) → not b ≡ b → ⊥
      not_same true q = both_ways false refl q
      not_same false q = both_ways true q refl

      -- no literal is on a trail with its negation
      pub consistent : (choice : List (Literal (Atom N S)) → Literal (Atom N S) → Type 0) (known : List (Literal (Atom N S))) (l : Literal (Atom N S)) → IsTrail same p rules registered choice known → Contains known l → Contains known (negate l) → ⊥
      consistent choice [] l t a b = contains_none l a
      consistent choice (e ∷ older) l t a b = go (contains_cases l e older a) (contains_cases (negate l) e older b) (consistent choice older l t.1)
        where
          go : (l ≡ e) ⊎ Contains older l → (negate l ≡ e) ⊎ Contains older (negate l) → (Contains older l → Contains older (negate l) → ⊥) → ⊥
          go (inl i) (inl j) ih = not_same l.positive (ap (λ (m : Literal (Atom N S)). m.positive) (j ∙ sym i))
          go (inl i) (inr d) ih = t.0.fresh (subst (λ m. Contains older (negate m)) i d)
          go (inr d) (inl j) ih = t.0.fresh (subst (λ m. Contains older m) (sym (negate-negate l) ∙ ap negate j) d)
          go (inr c) (inr d) ih = ih c d

      abbrev solvable_of : Atom N S → Option S
      solvable_of (Atom.solvable n) = Some n
      solvable_of (Atom.gate n) = None
      solvable_of (Atom.outside n) = None
      solvable_of (Atom.any_of n) = None
      solvable_of (Atom.matches v) = None
      solvable_of (Atom.digit n m) = None

      some_one : (s t : S) → Some s ≡ Some t → s ≡ t
      some_one s t e = cc

      -- literals that choose solvables are one where these are
      pub one_solvable : (l : Literal (Atom N S)) (s t : S) → plus (Atom.solvable s) ≡ l → l ≡ plus (Atom.solvable t) → t ≡ s
      one_solvable l s t e f = some_one t s (ap (λ (m : Literal (Atom N S)). solvable_of m.atom) (sym (e ∙ f)))

      has_clause : (known : List (Literal (Atom N S))) (r : Requirement) → IsAsked same p rules known r → HasClause same p rules r
      has_clause known r (inl k) = inl (k.parent, k.need, k.case, k.present, k.asks)
      has_clause known r (inr k) = inr k.present

      -- what a trail makes true is registered
      pub true_registered : (softs : List S) (known : List (Literal (Atom N S))) (s : S) → AreRegistered same p rules root registered softs → IsTrail same p rules registered (IsCalledFor same p rules softs) known → Contains known (plus (Atom.solvable s)) → registered s
      true_registered softs [] s g t a = absurd (contains_none _ a)
      true_registered softs (e ∷ older) s g t a = go (contains_cases (plus (Atom.solvable s)) e older a) t.0.reasoned (true_registered softs older s g t.1)
        where
          go : (plus (Atom.solvable s) ≡ e) ⊎ Contains older (plus (Atom.solvable s)) → IsCalledFor same p rules softs older e ⊎ IsForced same p rules registered older e → (Contains older (plus (Atom.solvable s)) → registered s) → registered s
          go (inr b) r ih = ih b
          go (inl is) (inl (inl w)) ih = subst registered (one_solvable e s w.solvable is w.is) (g.soft w.solvable w.wished)
          go (inl is) (inl (inr k)) ih = subst registered (one_solvable e s k.solvable is k.is) (g.candidate k.requirement k.solvable (has_clause older k.requirement k.asked) k.offered)
          go (inl is) (inr f) ih = f.positive s (subst (λ m. Contains f.clause m) (sym is) f.present)
