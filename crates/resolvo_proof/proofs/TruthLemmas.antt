-- The links of a conflict's rules are true.
use Rattle.std.proofs.Common.{◌≡◌, Bool, true, false, cond, List, [], ◌∷◌, ◌++◌, map, filter, All, Contains, Option, Some, None, refl, sym, ap, subst, ◌∙◌, arith}
use Rattle.std.specs.Prelude.{not, ◌&&◌}
use Rattle.std.specs.List.{flat_map, filter_map, cons_option}
use Rattle.std.specs.Option.{option_or, option_to_list}
use Rattle.std.proofs.lemmas.Bool.{and_parts}
use Rattle.std.proofs.lemmas.List.Elements.{All-nil, All-cons, All-head, All-tail, All-append, All-map, All-filter, filter_passes, All-weaker, All-contains_itself, Contains-get_or, Contains-append_right}
use Rattle.std.proofs.lemmas.List.Folds.{list_any_at, Any-from_list_any}
use Rattle.resolvo_pool_core.specs.declared.id.ConditionId.{ConditionId}
use Rattle.resolvo_pool_core.specs.declared.id.VersionSetId.{VersionSetId}
use Rattle.resolvo_pool_core.specs.declared.requirement.ConditionalRequirement.{ConditionalRequirement}
use Rattle.resolvo_pool_core.specs.declared.requirement.Requirement.{Requirement}
use Rattle.resolvo_pool_core.specs.RuleKeeping.{Packages, Rules, rules_of, is_in, is_outside, meets, rules_for}
use Rattle.resolvo_sat.specs.RuleClauses as Encoder
use Rattle.resolvo_sat.specs.RuleClauses.{IsExact, IsRule, KeepsOut, has_plain_need, has_condition, same_requirement}
use Rattle.resolvo_graph.specs.Tree.{same_set}
use Rattle.resolvo_proof.proofs.ShareLemmas.{one_requirement, one_set}
use Rattle.resolvo_proof.specs.declared.step.ProofRule.{ProofRule}
use Rattle.resolvo_proof.specs.declared.step.ProofRule.TheVariants.{Needs, GateOf, Shared, Limit, Outside, Locked, Excluded, Digit, AtLeastOne, Matches}
use Rattle.resolvo_proof.specs.declared.link.Link.{Link}
use Rattle.resolvo_proof.specs.declared.link.Link.TheVariants as Links
use Rattle.resolvo_proof.specs.LinkRules.{gate_in, limit_in, outside_in, instance_in, named, last_instance, before_in, requirers, under_set, needed, links_at, links_after, all_links, limited_in, is_new, once_after, each_limit_once}
use Rattle.resolvo_proof.specs.Order.{named_by}
use Rattle.resolvo_proof.specs.Truth.{Asks}
use Rattle.resolvo_proof.specs.Steps.{rule_under}

-- each of the rules is one of the provider's or the root's
abbrev pub AreRules : {N S : Type 0} → (S → S → Bool) → Packages N S → Rules → List (ProofRule N S) → Type 0
AreRules {N} {S} same p root rules = (r : ProofRule N S) → Contains rules r → (condition : Option ConditionId) × IsRule same p root (rule_under condition r)

-- exactly what meets a requirement that the rules name was offered for it
abbrev pub AreNamed : {N S : Type 0} → (S → S → Bool) → Packages N S → (Requirement → List S) → List (ProofRule N S) → Type 0
AreNamed {N} {S} same p offered rules = (r : ProofRule N S) → Contains rules r → (q : Requirement) → named_by r ≡ Some q → (s : S) → is_in same p (offered q) s ≡ meets same p q s

all_flat_map : {A X : Type 0} (P : X → Type 0) (f : A → List X) (xs : List A) → All (λ x. All P (f x)) xs → All P (flat_map f xs)
all_flat_map P f [] h = All-nil P
all_flat_map P f (x ∷ xs) h = All-append P (f x) (flat_map f xs) (h 0 x (omega arith)) (all_flat_map P f xs (All-tail (λ y. All P (f y)) x xs h))

pub all_filter_map : {A X : Type 0} (P : X → Type 0) (f : A → Option X) (xs : List A) → ((x : A) → Contains xs x → (y : X) → f x ≡ Some y → P y) → All P (filter_map f xs)
all_filter_map P f [] h = All-nil P
all_filter_map {A} {X} P f (x ∷ xs) h = by (f x) refl (all_filter_map P f xs (λ z c y e. h z (Contains-append_right (x ∷ []) xs z c) y e))
  where
    by : (o : Option X) → f x ≡ o → All P (filter_map f xs) → All P (cons_option o (filter_map f xs))
    by None e rest = rest
    by (Some y) e rest = All-cons P y (filter_map f xs) (h x (Contains-get_or (x ∷ xs) 0 x (omega arith)) y e) rest

-- a property of the items that pass a test, and of their parts
all_picked : {A X : Type 0} (P : A → Type 0) (Q : X → Type 0) (test : A → Bool) (part : A → X) (xs : List A) → All P xs → ((x : A) → P x → test x ≡ true → Q (part x)) → All Q (map part (filter test xs))
all_picked P Q test part xs h so =
    let both : All (λ x. P x × (test x ≡ true)) (filter test xs) = λ k d l. (All-filter test P xs h k d l, filter_passes test xs k d l) in
    All-map Q part (filter test xs) (All-weaker (λ x. P x × (test x ≡ true)) (λ x. Q (part x)) (λ x k. so x k.0 k.1) (filter test xs) both)

asked_need : (list : List ConditionalRequirement) (q : Requirement) → has_plain_need list q ≡ true → (need : ConditionalRequirement) × Contains list need × (need.requirement ≡ q)
asked_need list q h =
    let any = Any-from_list_any (λ (need : ConditionalRequirement). not (has_condition need.condition) && same_requirement q need.requirement) list h in
    (any.1, (any.0, any.2, any.3), sym (one_requirement q any.1.requirement (and_parts (not (has_condition any.1.condition)) (same_requirement q any.1.requirement) any.4).1))

module _ {N S : Type 0} (same_name : N → N → Bool) (names : IsExact same_name) (same : S → S → Bool) (exact : IsExact same) (name_of : S → N) (p : Packages N S) (root : Rules) (of : (s : S) → p.package_of s ≡ name_of s) where
  -- the claim of a link
  abbrev pub IsTrueLink : Link S → Type 0
  IsTrueLink (Links.Excluded s why) = KeepsOut same p (Encoder.ForbidReason.word why) s
  IsTrueLink (Links.Requires parent q None) = Asks same p root parent q × ((s : S) → meets same p q s ≡ false)
  IsTrueLink (Links.Requires parent q (Some t)) = Asks same p root parent q × (meets same p q t ≡ true)
  IsTrueLink (Links.Locked locked s) = KeepsOut same p (Encoder.ForbidReason.lock locked) s
  IsTrueLink (Links.Instance None s) = Unit {0}
  IsTrueLink (Links.Instance (Some b) s) = p.package_of b ≡ p.package_of s
  IsTrueLink (Links.Constrains parent v s) = Contains (rules_for same p root parent).constraints v × (is_outside same p v s ≡ true)

  among : (ss : List S) (s : S) → Contains ss s → is_in same p ss s ≡ true
  among ss s c = list_any_at (λ x. same x s) ss c.0 s c.1 (ap (λ x. same x s) c.2 ∙ exact.own s)

  needed_true : (parent : Option S) (q : Requirement) (ss : List S) → Asks same p root parent q → ((s : S) → is_in same p ss s ≡ meets same p q s) → All IsTrueLink (needed parent q ss)
  needed_true parent q [] a h = All-cons IsTrueLink (Links.Requires parent q None) [] (a, λ s. sym (h s)) (All-nil IsTrueLink)
  needed_true parent q (c ∷ cs) a h = All-map IsTrueLink (λ s. Links.Requires parent q (Some s)) (c ∷ cs) (All-weaker (Contains (c ∷ cs)) (λ s. IsTrueLink (Links.Requires parent q (Some s))) (λ s k. (a, sym (h s) ∙ among (c ∷ cs) s k)) (c ∷ cs) (All-contains_itself (c ∷ cs)))

  -- the version before one of the same package is of it
  abbrev IsNamed : N → Option S → Type 0
  IsNamed n None = Unit {0}
  IsNamed n (Some b) = name_of b ≡ n

  or_named : (n : N) (a b : Option S) → IsNamed n a → IsNamed n b → IsNamed n (option_or a b)
  or_named n None b h k = k
  or_named n (Some s) b h k = h

  named_named : (n : N) (o : Option S) → IsNamed n (named same_name name_of n o)
  named_named n None = tt
  named_named n (Some s) = by (same_name (name_of s) n) refl
    where
      by : (b : Bool) → same_name (name_of s) n ≡ b → IsNamed n (cond b (Some s) None)
      by true e = names.one (name_of s) n e
      by false e = tt

  last_named : (rules : List (ProofRule N S)) (n : N) → IsNamed n (last_instance same_name name_of rules n)
  last_named [] n = tt
  last_named (r ∷ rs) n = or_named n (last_instance same_name name_of rs n) (named same_name name_of n (instance_in r)) (last_named rs n) (named_named n (instance_in r))

  instance_true : (before : Option S) (s : S) → IsNamed (name_of s) before → IsTrueLink (Links.Instance before s)
  instance_true None s h = tt
  instance_true (Some b) s h = of b ∙ h ∙ sym (of s)

  module _ (offered : Requirement → List S) (rules : List (ProofRule N S)) (are_rules : AreRules same p root rules) (given : AreNamed same p offered rules) where
    gates_true : All (λ g. Asks same p root (Some g.1) g.0) (filter_map gate_in rules)
    gates_true = all_filter_map (λ (g : Requirement × S). Asks same p root (Some g.1) g.0) gate_in rules by
      where
        by : (r : ProofRule N S) → Contains rules r → (g : Requirement × S) → gate_in r ≡ Some g → Asks same p root (Some g.1) g.0
        by (Needs parent q case) c g e = cc
        by (GateOf s q) c g e =
            let is : (q, s) ≡ g = cc in
            subst (λ (g : Requirement × S). Asks same p root (Some g.1) g.0) is (asked_need (rules_of (p.dependencies_of s)).requirements q (are_rules (GateOf s q) c).1)
        by (Shared q) c g e = cc
        by (Limit parent v barred) c g e = cc
        by (Outside v s) c g e = cc
        by (Locked locked s) c g e = cc
        by (Excluded s why) c g e = cc
        by (Digit s place bit) c g e = cc
        by (AtLeastOne n s) c g e = cc
        by (Matches v s) c g e = cc

    limits_true : All (λ l. Contains (rules_for same p root l.1).constraints l.0) (filter_map limit_in rules)
    limits_true = all_filter_map (λ (l : VersionSetId × Option S). Contains (rules_for same p root l.1).constraints l.0) limit_in rules by
      where
        by : (r : ProofRule N S) → Contains rules r → (l : VersionSetId × Option S) → limit_in r ≡ Some l → Contains (rules_for same p root l.1).constraints l.0
        by (Needs parent q case) c l e = cc
        by (GateOf s q) c l e = cc
        by (Shared q) c l e = cc
        by (Limit parent v None) c l e =
            let is : (v, parent) ≡ l = cc in
            subst (λ (l : VersionSetId × Option S). Contains (rules_for same p root l.1).constraints l.0) is (are_rules (Limit parent v None) c).1
        by (Limit parent v (Some s)) c l e = cc
        by (Outside v s) c l e = cc
        by (Locked locked s) c l e = cc
        by (Excluded s why) c l e = cc
        by (Digit s place bit) c l e = cc
        by (AtLeastOne n s) c l e = cc
        by (Matches v s) c l e = cc

    outsides_true : All (λ o. is_outside same p o.0 o.1 ≡ true) (filter_map outside_in rules)
    outsides_true = all_filter_map (λ (o : VersionSetId × S). is_outside same p o.0 o.1 ≡ true) outside_in rules by
      where
        by : (r : ProofRule N S) → Contains rules r → (o : VersionSetId × S) → outside_in r ≡ Some o → is_outside same p o.0 o.1 ≡ true
        by (Needs parent q case) c o e = cc
        by (GateOf s q) c o e = cc
        by (Shared q) c o e = cc
        by (Limit parent v barred) c o e = cc
        by (Outside v s) c o e =
            let is : (v, s) ≡ o = cc in
            subst (λ (o : VersionSetId × S). is_outside same p o.0 o.1 ≡ true) is (are_rules (Outside v s) c).1.2
        by (Locked locked s) c o e = cc
        by (Excluded s why) c o e = cc
        by (Digit s place bit) c o e = cc
        by (AtLeastOne n s) c o e = cc
        by (Matches v s) c o e = cc

    alone : (l : Link S) → IsTrueLink l → All IsTrueLink (l ∷ [])
    alone l h = All-cons IsTrueLink l [] h (All-nil IsTrueLink)

    rule_true : (earlier : List (ProofRule N S)) (r : ProofRule N S) → Contains rules r → All IsTrueLink (links_at offered (requirers (filter_map gate_in rules)) (under_set (filter_map limit_in rules)) (under_set (filter_map outside_in rules)) (before_in same_name name_of (last_instance same_name name_of earlier) r) r)
    rule_true earlier (Needs parent q case) c =
        let rule = (are_rules (Needs parent q case) c).1 in
        needed_true parent q (offered q) (record { condition = (are_rules (Needs parent q case) c).0; requirement = q }, rule.0, refl) (given (Needs parent q case) c q refl)
    rule_true earlier (GateOf s q) c = All-nil IsTrueLink
    rule_true earlier (Shared q) c =
        all_flat_map IsTrueLink (λ s. needed (Some s) q (offered q)) (requirers (filter_map gate_in rules) q)
        (all_picked (λ (g : Requirement × S). Asks same p root (Some g.1) g.0) (λ s. All IsTrueLink (needed (Some s) q (offered q))) (λ (g : Requirement × S). same_requirement g.0 q) (λ (g : Requirement × S). g.1) (filter_map gate_in rules) gates_true
        (λ g a e. needed_true (Some g.1) q (offered q) (subst (Asks same p root (Some g.1)) (one_requirement g.0 q e) a) (given (Shared q) c q refl)))
    rule_true earlier (Limit parent v None) c =
        All-map IsTrueLink (λ s. Links.Constrains parent v s) (under_set (filter_map outside_in rules) v)
        (all_picked (λ (o : VersionSetId × S). is_outside same p o.0 o.1 ≡ true) (λ s. IsTrueLink (Links.Constrains parent v s)) (λ (o : VersionSetId × S). same_set o.0 v) (λ (o : VersionSetId × S). o.1) (filter_map outside_in rules) outsides_true
        (λ o a e. ((are_rules (Limit parent v None) c).1, subst (λ w. is_outside same p w o.1 ≡ true) (one_set o.0 v e) a)))
    rule_true earlier (Limit parent v (Some s)) c = alone (Links.Constrains parent v s) (are_rules (Limit parent v (Some s)) c).1
    rule_true earlier (Outside v s) c =
        All-map IsTrueLink (λ parent. Links.Constrains parent v s) (under_set (filter_map limit_in rules) v)
        (all_picked (λ (l : VersionSetId × Option S). Contains (rules_for same p root l.1).constraints l.0) (λ parent. IsTrueLink (Links.Constrains parent v s)) (λ (l : VersionSetId × Option S). same_set l.0 v) (λ (l : VersionSetId × Option S). l.1) (filter_map limit_in rules) limits_true
        (λ l a e. (subst (Contains (rules_for same p root l.1).constraints) (one_set l.0 v e) a, (are_rules (Outside v s) c).1.2)))
    rule_true earlier (Locked locked s) c = alone (Links.Locked locked s) (are_rules (Locked locked s) c).1
    rule_true earlier (Excluded s why) c = alone (Links.Excluded s why) (are_rules (Excluded s why) c).1
    rule_true earlier (Digit s place bit) c = alone (Links.Instance (last_instance same_name name_of earlier (name_of s)) s) (instance_true (last_instance same_name name_of earlier (name_of s)) s (last_named earlier (name_of s)))
    rule_true earlier (AtLeastOne n s) c = All-nil IsTrueLink
    rule_true earlier (Matches v s) c = All-nil IsTrueLink

    after_true : (earlier rest : List (ProofRule N S)) → ((r : ProofRule N S) → Contains rest r → Contains rules r) → All IsTrueLink (links_after same_name name_of offered rules earlier rest)
    after_true earlier [] h = All-nil IsTrueLink
    after_true earlier (r ∷ rs) h = All-append IsTrueLink _ _ (rule_true earlier r (h r (Contains-get_or (r ∷ rs) 0 r (omega arith)))) (after_true (earlier ++ r ∷ []) rs (λ x c. h x (Contains-append_right (r ∷ []) rs x c)))

    pub all_true : All IsTrueLink (all_links same_name name_of offered rules)
    unfolding all_links
    all_true = after_true [] rules (λ r c. c)

-- a property of each link is one of the kept links
pub kept_true : {S : Type 0} (same : S → S → Bool) (P : Link S → Type 0) (links : List (Link S)) → All P links → All P (each_limit_once same links)
unfolding each_limit_once
kept_true {S} same P links h = go [] links h
  where
    keep : (b : Bool) (l : Link S) (xs ys : List (Link S)) → P l → All P xs → All P ys → All P (cond b (l ∷ xs) ys)
    keep true l xs ys h a b = All-cons P l xs h a
    keep false l xs ys h a b = b

    go : (joined : List (Option S × VersionSetId × S)) (ls : List (Link S)) → All P ls → All P (once_after same joined ls)
    go joined [] k = All-nil P
    go joined (l ∷ ls) k =
        keep (is_new same joined (limited_in l)) l (once_after same (joined ++ option_to_list (limited_in l)) ls) (once_after same joined ls) (All-head P l ls k) (go (joined ++ option_to_list (limited_in l)) ls (All-tail P l ls k)) (go joined ls (All-tail P l ls k))
