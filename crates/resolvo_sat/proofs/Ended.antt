-- The end of an accepted turn: the solvables that are true keep all rules, and are their reached part.
use Rattle.std.proofs.Common.{◌≡◌, ℕ, ◌⊎◌, inl, inr, Bool, true, false, not, ◌&&◌, ◌==◌, List, [], ◌∷◌, ◌++◌, filter, Option, Some, None, refl, sym, ◌∙◌, subst, eqb-true, eq-eqb}
use Rattle.std.specs.Prelude.{Contains}
use Rattle.std.proofs.lemmas.Bool.{and_parts, and_from, both_ways, cases_Bool, not-true, not_from_false, false_from_ne_true}
use Rattle.resolvo_pool_core.specs.declared.id.VersionSetId.{VersionSetId}
use Rattle.resolvo_pool_core.specs.declared.requirement.ConditionalRequirement.{ConditionalRequirement}
use Rattle.resolvo_pool_core.specs.declared.requirement.Requirement.{Requirement}
use Rattle.resolvo_pool_core.specs.OnePass.{Literal, negate, is_true_at, clause_true}
use Rattle.resolvo_pool_core.specs.Provider.{listed}
use Rattle.resolvo_pool_core.specs.Text.{alternatives_of}
use Rattle.resolvo_pool_core.specs.RuleKeeping.{Packages, Rules, is_many, is_in, is_match, is_outside, is_met, meets, binds, is_forbidden, rules_for, is_member, IsSingle, Obeys, IsRuleKeeping, IsNamed, IsExemptKeeping, IsClosed, IsReached}
use Rattle.resolvo_sat.specs.RuleClauses.{IsExact, Atom, Rule, plus, minus, parent_literals, case_holds, case_literals, candidate_literals, literals_of, IsRule, value, Fits, shown, IsImplied, IsForbiddenIn, IsForbidden, AgreeWith}
use Rattle.resolvo_sat.specs.SearchEnd.{AreFalse, IsTrueParent, IsCalledFor, IsEnd, is_digit, digits_in, IsAccepted, Denies}
use Rattle.resolvo_sat.proofs.Lists.{contains_cases, contains_none, contains_parts, all_contained, any_contained, contained_any, contains_filter, filter_contains}
use Rattle.resolvo_sat.proofs.Members.{true_plus, true_minus, twice, made_by, any_in, in_contained, contained_in, candidate_named, in_case, candidate_from, binds_case}
use Rattle.resolvo_sat.proofs.Quiet.{quiet_second, quiet_first, quiet_single, false_single}
use Rattle.resolvo_sat.proofs.Sound.{clause_holds, rules_sound}
use Rattle.resolvo_sat.proofs.Reached.{part_obeys, binds_grows, trail_holds, consistent, true_registered}

-- literals that are false in two lists are false in both together
pub false_both : {A : Type 0} (known xs ys : List (Literal A)) → AreFalse known xs → AreFalse known ys → AreFalse known (xs ++ ys)
false_both known xs ys f g l a = elim (contains_parts l xs ys a) [ inl b ↦ f l b | inr b ↦ g l b ]

false_first : {A : Type 0} (known : List (Literal A)) (x : Literal A) (ys : List (Literal A)) → Contains known (negate x) → AreFalse known ys → AreFalse known (x ∷ ys)
false_first known x ys k g l a = elim (contains_cases l x ys a) [ inl e ↦ subst (λ m. Contains known (negate m)) (sym e) k | inr b ↦ g l b ]

module _ {N S : Type 0} (same : S → S → Bool) (exact : IsExact same) (same_name : N → N → Bool) (names : IsExact same_name) (p : Packages N S) (root : Rules)
    (rules : Rule N S → Type 0) (registered : S → Type 0) (softs : List S) (known : List (Literal (Atom N S))) (members : List S) (end : IsEnd same p rules root registered softs known members) where
  clash : (l : Literal (Atom N S)) → Contains known l → Contains known (negate l) → ⊥
  clash l a b = consistent same exact p root rules registered (IsCalledFor same p rules softs) known l end.trail a b

  in_register : (s : S) → is_in same p members s ≡ true → registered s
  in_register s c = true_registered same exact p root rules registered softs known s end.register end.trail (end.true_on_trail s c)

  -- another registered solvable of a member's package is false, unless this is marked `many`
  others_false : (s t : S) → is_in same p members s ≡ true → registered t → p.package_of s ≡ p.package_of t → is_many p (p.package_of s) ≡ false → (s ≡ t) ⊎ Contains known (minus (Atom.solvable t))
  others_false s t c r e m =
      elim (end.register.by_digits s t (in_register s c) r e m) [
        | inl is ↦ inl is
        | inr (bit, b, first, second) ↦
            let d : Literal (Atom N S) = record { atom = Atom.digit (p.package_of s) bit; positive = b } in
            let f : Literal (Atom N S) = record { atom = Atom.digit (p.package_of t) bit; positive = not b } in
            let shows : Contains known d = quiet_second known (minus (Atom.solvable s)) d (end.quiet _ first) (end.true_on_trail s c) in
            let is : negate f ≡ d = λ i. record { atom = Atom.digit (sym e i) bit; positive = twice b i } in
            inr (quiet_first known (minus (Atom.solvable t)) f (end.quiet _ second) (subst (Contains known) (sym is) shows))
      ]

  pub is_single : IsSingle same p members
  is_single = record {
    listed = λ s c. end.register.candidates s (in_register s c);
    one = λ s t c d e m. elim (others_false s t c (in_register t d) e m) [ inl is ↦ is | inr f ↦ absurd (clash (plus (Atom.solvable t)) (end.true_on_trail t d) f) ];
  }

  true_parent : (parent : Option S) → is_member same p root members parent ≡ true → IsTrueParent known parent
  true_parent None m = tt
  true_parent (Some s) m = end.true_on_trail s m

  parent_false : (parent : Option S) → is_member same p root members parent ≡ true → AreFalse known (parent_literals parent)
  parent_false None m l a = absurd (contains_none l a)
  parent_false (Some s) m l a = false_single known (minus (Atom.solvable s)) (end.true_on_trail s m) l a

  -- a match of a version set, and another member of its package, is one
  match_is : (v : VersionSetId) (m s : S) → is_match same p v m ≡ true → is_outside same p v s ≡ true → m ≡ s → ⊥
  match_is v m s a o is =
      let parts = and_parts (is_in same p (listed (p.candidates_of (p.set_package v))) m) (p.matches v m) a in
      let others = and_parts (is_in same p (listed (p.candidates_of (p.set_package v))) s) (not (p.matches v s)) o in
      both_ways (p.matches v m) (subst (λ x. p.matches v x ≡ false) (sym is) (not-true _ others.1)) parts.1

  -- the literals of an encoded case that holds are false
  case_false : (parent : Option S) (need : ConditionalRequirement) (case : List VersionSetId) → rules (Rule.needs parent need case) → case_holds same p members case ≡ true → AreFalse known (case_literals same p case)
  case_false parent need case r holds l a =
      let (v, i, d) = in_case same exact p case l a in
      let (m, c, match_m) = any_in same exact p (is_match same p v) members (all_contained (is_met same p members) v case holds i) in
      let parts_m = and_parts (is_in same p (listed (p.candidates_of (p.set_package v))) m) (p.matches v m) match_m in
      let of_m : p.package_of m ≡ p.set_package v = candidate_named same exact p end.lawful (p.set_package v) m parts_m.0 in
      elim d [
        | inl (marked, q) ↦ subst (λ x. Contains known (negate x)) (sym q) (quiet_second known (minus (Atom.solvable m)) (plus (Atom.matches v)) (end.quiet _ (end.register.held parent need case v m r i marked match_m)) (end.true_on_trail m c))
        | inr (unmarked, inl q) ↦ subst (λ x. Contains known (negate x)) (sym q) (quiet_second known (minus (Atom.solvable m)) (plus (Atom.any_of (p.set_package v))) (end.quiet _ (end.register.there parent need case v m r i (in_register m c) of_m unmarked)) (end.true_on_trail m c))
        | inr (unmarked, inr (s, q, o)) ↦
            let parts_s = and_parts (is_in same p (listed (p.candidates_of (p.set_package v))) s) (not (p.matches v s)) o in
            let of_s : p.package_of s ≡ p.set_package v = candidate_named same exact p end.lawful (p.set_package v) s parts_s.0 in
            elim (others_false m s c (end.register.out parent need case v s r i unmarked o) (of_m ∙ sym of_s) (subst (λ (n : N). is_many p n ≡ false) (sym of_m) unmarked)) [
              | inl is ↦ absurd (match_is v m s match_m o is)
              | inr f ↦ subst (λ x. Contains known (negate x)) (sym q) f
            ]
      ]

  -- a case that holds is not one that keeps its own parent out, whose package isn't marked `many`
  not_self : (s : S) (v : VersionSetId) (case : List VersionSetId) → is_in same p members s ≡ true → Contains case v → is_outside same p v s ≡ true → is_many p (p.set_package v) ≡ false → case_holds same p members case ≡ true → ⊥
  not_self s v case here i o unmarked holds =
      let (t, d, match_t) = any_in same exact p (is_match same p v) members (all_contained (is_met same p members) v case holds i) in
      let parts_s = and_parts (is_in same p (listed (p.candidates_of (p.set_package v))) s) (not (p.matches v s)) o in
      let parts_t = and_parts (is_in same p (listed (p.candidates_of (p.set_package v))) t) (p.matches v t) match_t in
      let of_t = candidate_named same exact p end.lawful (p.set_package v) t parts_t.0 in
      match_is v t s match_t o (is_single.one t s d here (of_t ∙ sym (candidate_named same exact p end.lawful (p.set_package v) s parts_s.0)) (subst (λ (n : N). is_many p n ≡ false) (sym of_t) unmarked))

  -- no candidate: the literals of the candidates are false
  candidates_false : (r : Requirement) → ((s : S) → meets same p r s ≡ true → ⊥) → AreFalse known (candidate_literals same p (alternatives_of p.members_of r))
  candidates_false r none l a = let (s, q, o) = candidate_from same exact p (alternatives_of p.members_of r) l a in absurd (none s o)

  by_clause : (parent : Option S) (need : ConditionalRequirement) (case : List VersionSetId) → rules (Rule.needs parent need case) → is_member same p root members parent ≡ true → case_holds same p members case ≡ true → (s : S) × (is_in same p members s ≡ true) × (meets same p need.requirement s ≡ true)
  by_clause parent need case r m holds =
      elim (end.met need.requirement (inl (record { parent = parent; need = need; case = case; present = r; chosen = true_parent parent m; holds = case_false parent need case r holds; asks = refl }))) [
        | inl none ↦ absurd ((end.quiet _ r).unbroken (false_both known (parent_literals parent) (case_literals same p case ++ candidate_literals same p (alternatives_of p.members_of need.requirement)) (parent_false parent m)
            (false_both known (case_literals same p case) (candidate_literals same p (alternatives_of p.members_of need.requirement)) (case_false parent need case r holds) (candidates_false need.requirement none))))
        | inr (s, o, k) ↦ (s, end.chosen s k, o)
      ]

  by_gate : (s : S) (r : Requirement) → rules (Rule.gated s r) → rules (Rule.shared r) → is_in same p members s ≡ true → (t : S) × (is_in same p members t ≡ true) × (meets same p r t ≡ true)
  by_gate s r g shared c =
      let opened : Contains known (plus (Atom.gate r)) = quiet_second known (minus (Atom.solvable s)) (plus (Atom.gate r)) (end.quiet _ g) (end.true_on_trail s c) in
      elim (end.met r (inr (record { present = shared; opened = opened }))) [
        | inl none ↦ absurd ((end.quiet _ shared).unbroken (false_first known (minus (Atom.gate r)) (candidate_literals same p (alternatives_of p.members_of r)) opened (candidates_false r none)))
        | inr (t, o, k) ↦ (t, end.chosen t k, o)
      ]

  needs_are_met : (parent : Option S) (need : ConditionalRequirement) → is_member same p root members parent ≡ true → Contains (rules_for same p root parent).requirements need → binds same p members need ≡ true → (s : S) × (is_in same p members s ≡ true) × (meets same p need.requirement s ≡ true)
  needs_are_met parent need m a b =
      let (case, c, holds) = binds_case same exact p members need b in
      elim (end.encoded.need parent need case m a c holds) [
        | inl r ↦ by_clause parent need case r m holds
        | inr (inl (s, is, g, r)) ↦ by_gate s need.requirement g r (subst (λ x. is_member same p root members x ≡ true) is m)
        | inr (inr (s, v, is, i, o, unmarked)) ↦ absurd (not_self s v case (subst (λ x. is_member same p root members x ≡ true) is m) i o unmarked holds)
      ]

  limits_are_kept : (parent : Option S) (v : VersionSetId) (s : S) → is_member same p root members parent ≡ true → Contains (rules_for same p root parent).constraints v → is_in same p members s ≡ true → is_outside same p v s ≡ false
  limits_are_kept parent v s m a c = false_from_ne_true _ (λ o.
      elim (end.encoded.limit parent v s m a o) [
        | inl r ↦ (end.quiet _ r).unbroken (false_both known (parent_literals parent) (minus (Atom.solvable s) ∷ []) (parent_false parent m) (false_single known (minus (Atom.solvable s)) (end.true_on_trail s c)))
        | inr (r, q) ↦
            let out : Contains known (plus (Atom.outside v)) = quiet_second known (minus (Atom.solvable s)) (plus (Atom.outside v)) (end.quiet _ q) (end.true_on_trail s c) in
            (end.quiet _ r).unbroken (false_both known (parent_literals parent) (minus (Atom.outside v) ∷ []) (parent_false parent m) (false_single known (minus (Atom.outside v)) out))
      ])

  pub does_obey : Obeys same p root members
  does_obey = record { requirements_met = needs_are_met; constraints_kept = limits_are_kept }

  -- a clause that forbids a solvable keeps it out
  pub forbidden_out : (s : S) → IsForbidden rules s → is_in same p members s ≡ false
  forbidden_out s (w, r) = false_from_ne_true _ (λ c. quiet_single known (minus (Atom.solvable s)) (end.quiet _ r) (end.true_on_trail s c))

  digit_atom : (n : N) (bit : ℕ) (a : Atom N S) → is_digit same_name n bit a ≡ true → a ≡ Atom.digit n bit
  digit_atom n bit (Atom.solvable s) h = absurd (both_ways false refl h)
  digit_atom n bit (Atom.gate s) h = absurd (both_ways false refl h)
  digit_atom n bit (Atom.outside s) h = absurd (both_ways false refl h)
  digit_atom n bit (Atom.any_of s) h = absurd (both_ways false refl h)
  digit_atom n bit (Atom.matches s) h = absurd (both_ways false refl h)
  digit_atom n bit (Atom.digit m other) h =
      let parts = and_parts (same_name n m) (bit == other) h in
      let e : n ≡ m = names.one n m parts.0 in
      let f : bit ≡ other = eqb-true bit other parts.1 in
      sym (λ i. Atom.digit (e i) (f i))

  -- a digit that is true on the trail is the one that is read from it
  digit_given : (n : N) (bit : ℕ) (b : Bool) (l : Literal (Atom N S)) → l ≡ record { atom = Atom.digit n bit; positive = b } → Contains known l → digits_in same_name known n bit ≡ b
  digit_given n bit true l is a =
      contained_any (λ (m : Literal (Atom N S)). is_digit same_name n bit m.atom && m.positive) l known a
      (subst (λ (m : Literal (Atom N S)). (is_digit same_name n bit m.atom && m.positive) ≡ true) (sym is) (and_from _ _ (and_from _ _ (names.own n) (eq-eqb bit bit refl)) refl))
  digit_given n bit false l is a = false_from_ne_true _ (λ t.
      let (m, c, both) = any_contained (λ (m : Literal (Atom N S)). is_digit same_name n bit m.atom && m.positive) known t in
      let parts = and_parts (is_digit same_name n bit m.atom) m.positive both in
      let e : m.atom ≡ Atom.digit n bit = digit_atom n bit m.atom parts.0 in
      let f : m.positive ≡ true = parts.1 in
      let same_one : m ≡ plus (Atom.digit n bit) = λ i. record { atom = e i; positive = f i } in
      clash (plus (Atom.digit n bit)) (subst (Contains known) same_one c) (subst (Contains known) is a))

  -- each clause is true under the values of a closed part, with the trail's digits
  part_holds : (part : List S) → IsClosed same p root softs members part → (r : Rule N S) → rules r → clause_true (value same p (digits_in same_name known) part) (literals_of same p r) ≡ true
  part_holds part c r present = clause_holds same exact p root rules (digits_in same_name known) part r (part_obeys same exact p root softs members part c does_obey) (end.register.rule r present) fits present
    where
      fits : Fits same p rules (digits_in same_name known) part
      fits = record {
        allowed = λ w s a. false_from_ne_true _ (λ i. both_ways _ (forbidden_out s (w, a)) (c.inside s i));
        by_digits = λ s bit b a i. (let d : Literal (Atom N S) = record { atom = Atom.digit (p.package_of s) bit; positive = b } in digit_given (p.package_of s) bit b d refl (quiet_second known (minus (Atom.solvable s)) d (end.quiet _ a) (end.true_on_trail s (c.inside s i))));
      }

  -- each chosen solvable of the turn is reached
  pub all_reached : (s : S) → is_in same p members s ≡ true → IsReached same p root softs members s
  all_reached s i part c = true_plus _ (trail_holds same exact p root rules registered softs members part (digits_in same_name known) known end.register.rule (part_holds part c) c end.chosen end.trail (plus (Atom.solvable s)) (end.true_on_trail s i))

  reached_inside : (s : S) → IsReached same p root softs members s → is_in same p members s ≡ true
  reached_inside s r = r members (record { inside = λ t i. i; wished = λ t w i. i; matches = λ parent need t m a b e i. i })

  -- a forbidden member's package is not named
  unnamed : (s : S) → is_in same p members s ≡ true → is_forbidden same p s ≡ true → IsNamed same p root members (p.package_of s) → ⊥
  unnamed s i b (inl n) = both_ways _ (forbidden_out s (end.encoded.forbid n.parent n.version_set s n.member n.is_rule (subst (λ m. is_in same p (listed (p.candidates_of m)) s ≡ true) (sym n.names) (is_single.listed s i), b))) i
  unnamed s i b (inr n) =
      let (case, c, holds) = binds_case same exact p members n.need n.binding in
      let forbidden : IsForbiddenIn same p (p.set_package n.version_set) s = (subst (λ m. is_in same p (listed (p.candidates_of m)) s ≡ true) (sym n.names) (is_single.listed s i), b) in
      elim (end.encoded.need n.parent n.need case n.member n.is_rule c holds) [
        | inl r ↦ both_ways _ (forbidden_out s (end.register.forbid n.need.requirement n.version_set s (inl (n.parent, n.need, case, r, refl)) n.alternative forbidden)) i
        | inr (inl (q, is, g, r)) ↦ both_ways _ (forbidden_out s (end.register.forbid n.need.requirement n.version_set s (inr r) n.alternative forbidden)) i
        | inr (inr (q, v, is, j, o, unmarked)) ↦ not_self q v case (subst (λ x. is_member same p root members x ≡ true) is n.member) j o unmarked holds
      ]

  -- the members but one
  abbrev but : S → List S
  but s = filter (λ t. not (same t s)) members

  but_in : (s t : S) → is_in same p (but s) t ≡ true → (is_in same p members t ≡ true) × (t ≡ s → ⊥)
  but_in s t c =
      let (a, n) = filter_contains (λ x. not (same x s)) t members (in_contained same exact p (but s) t c) in
      (contained_in same exact p members t a, λ e. both_ways _ (not-true _ n) (subst (λ x. same t x ≡ true) e (exact.own t)))

  in_but : (s t : S) → is_in same p members t ≡ true → (t ≡ s → ⊥) → is_in same p (but s) t ≡ true
  in_but s t c n = contained_in same exact p (but s) t (contains_filter (λ x. not (same x s)) t members (in_contained same exact p members t c) (not_from_false _ (false_from_ne_true _ (λ e. n (exact.one t s e)))))

  -- without a solvable that is no soft requirement and whose package is not named, the members are
  -- closed
  without_closed : (s : S) → is_in same p softs s ≡ false → (IsNamed same p root members (p.package_of s) → ⊥) → IsClosed same p root softs members (but s)
  without_closed s w n = record {
    inside = λ t c. (but_in s t c).0;
    wished = λ t u c. in_but s t c (λ q. both_ways _ w (subst (λ x. is_in same p softs x ≡ true) q u));
    matches = λ parent need t m a b meeting c. in_but s t c (λ q. n (subst (λ x. IsNamed same p root members (p.package_of x)) q (named parent need t m a b meeting)));
  }
    where
      grown : (q : Option S) → is_member same p root (but s) q ≡ true → is_member same p root members q ≡ true
      grown None m = refl
      grown (Some y) m = (but_in s y m).0

      named : (parent : Option S) (need : ConditionalRequirement) (t : S) → is_member same p root (but s) parent ≡ true → Contains (rules_for same p root parent).requirements need → binds same p (but s) need ≡ true → meets same p need.requirement t ≡ true → IsNamed same p root members (p.package_of t)
      named parent need t m a b meeting =
          let (v, i, is) = any_contained (λ x. is_match same p x t) (alternatives_of p.members_of need.requirement) meeting in
          let parts = and_parts (is_in same p (listed (p.candidates_of (p.set_package v))) t) (p.matches v t) is in
          inr (record {
            parent = parent;
            need = need;
            version_set = v;
            member = grown parent m;
            is_rule = a;
            binding = binds_grows same exact p root members (but s) need (λ y c. (but_in s y c).0) b;
            alternative = i;
            names = sym (candidate_named same exact p end.lawful (p.set_package v) t parts.0);
          })

  is_wish : (s : S) → is_in same p members s ≡ true → (IsNamed same p root members (p.package_of s) → ⊥) → is_in same p softs s ≡ true
  is_wish s i n = elim (cases_Bool (is_in same p softs s)) [
    | inl e ↦ e
    | inr e ↦ absurd ((but_in s s (all_reached s i (but s) (without_closed s e n))).1 refl)
  ]

  pub is_exempt_keeping : IsExemptKeeping same p root softs members
  is_exempt_keeping = record {
    single = is_single;
    obeys = does_obey;
    exempt = λ s i b. (is_wish s i (unnamed s i b), unnamed s i b);
    known = λ s i. false_from_ne_true _ (λ u. both_ways _ (forbidden_out s (end.encoded.unknown s i u)) i);
  }

  -- The end of an accepted turn.
  pub turn_is_right : IsAccepted same p root softs members
  turn_is_right = record { keeping = is_exempt_keeping; reached = all_reached; inside = reached_inside }

module _ {N S : Type 0} (same : S → S → Bool) (exact : IsExact same) (p : Packages N S) (root : Rules) where
  -- without soft requirements the set keeps all rules
  pub keeping_without_softs : (chosen : List S) → IsExemptKeeping same p root [] chosen → IsRuleKeeping same p root chosen
  keeping_without_softs chosen k = record {
    single = k.single;
    obeys = k.obeys;
    allowed = λ s i. false_from_ne_true _ (λ b. both_ways false refl (k.exempt s i b).0);
    known = k.known;
  }

  -- A clause that follows from the rules and denies solvables of a list alone: no rule-keeping set holds the list. The
  -- empty list: there is none.
  pub refusal_is_right : (same_name : N → N → Bool) → IsExact same_name → (rules : Rule N S → Type 0) (bits : S → ℕ → Bool) (list : List S) (clause : List (Literal (Atom N S))) (chosen : List S)
      → ((r : Rule N S) → rules r → IsRule same p root r) → AgreeWith rules bits → IsImplied same p rules clause → Denies same p list clause
      → IsRuleKeeping same p root chosen → ((s : S) → is_in same p list s ≡ true → is_in same p chosen s ≡ true) → ⊥
  refusal_is_right same_name names rules bits list clause chosen rule agrees implied denies k all =
      let v = value same p (shown same p same_name bits chosen) chosen in
      let (l, a, t) = made_by v clause (implied v (λ r present. rules_sound same exact p root same_name names rules bits chosen rule agrees k r present)) in
      let (s, is, c) = denies l a in
      both_ways _ (true_minus _ (subst (λ m. is_true_at v m ≡ true) is t)) (all s c)
