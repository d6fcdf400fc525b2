-- The links of one more rule, and one more link.
use Rattle.std.proofs.Common.{◌≡◌, ℕ, ◌+◌, ◌<◌, Bool, true, false, cond, List, [], ◌∷◌, ◌++◌, take, drop, length, get_or, Option, Some, None, refl, sym, ap, ◌∙◌, append_assoc}
use Rattle.std.specs.Prelude.{not}
use Rattle.std.specs.List.{filter_map, cons_option}
use Rattle.std.specs.Option.{option_to_list, option_or}
use Rattle.std.proofs.lemmas.List.{at_drop_more, append-nil}
use Rattle.std.proofs.lemmas.List.Elements.{filter_map-append}
use Rattle.resolvo_pool_core.specs.declared.id.VersionSetId.{VersionSetId}
use Rattle.resolvo_pool_core.specs.declared.requirement.Requirement.{Requirement}
use Rattle.resolvo_proof.specs.declared.step.ProofRule.{ProofRule}
use Rattle.resolvo_proof.specs.declared.step.ProofStep.{ProofStep}
use Rattle.resolvo_proof.specs.declared.link.Link.{Link}
use Rattle.resolvo_proof.specs.Order.{rules_at}
use Rattle.resolvo_proof.specs.LinkRules.{gate_in, limit_in, outside_in, instance_in, named, last_instance, before_in, requirers, under_set, links_at, links_after, limited_in, is_new, once_after}
use Rattle.resolvo_proof.proofs.RuleLemmas.{rule_of, rules_more}

pub turned_test : {X : Type 0} (b : Bool) (x y : X) → cond b x y ≡ cond (not b) y x
turned_test true x y = refl
turned_test false x y = refl

-- the entry of a kind that one more rule adds
pub kind_more : {N S X : Type 0} (kind : ProofRule N S → Option X) (steps : List (ProofStep N S)) (places : List ℕ) (k : ℕ) (r : ProofRule N S) (old new : List X) → k < length places → rule_of steps (get_or places k 0) ≡ Some r
    → old ≡ filter_map kind (rules_at steps (take k places)) → new ≡ old ++ option_to_list (kind r) → new ≡ filter_map kind (rules_at steps (take (k + 1) places))
kind_more {N} {S} {X} kind steps places k r old new l at was put =
    put ∙ ap (λ xs. xs ++ option_to_list (kind r)) was ∙ sym (ap (filter_map kind) (rules_more steps places k l ∙ ap (λ o. rules_at steps (take k places) ++ option_to_list o) at) ∙ filter_map-append kind (rules_at steps (take k places)) (r ∷ []) ∙ ap (λ xs. filter_map kind (rules_at steps (take k places)) ++ xs) (one (kind r)))
  where
    one : (o : Option X) → filter_map (λ (x : Option X). x) (o ∷ []) ≡ option_to_list o
    one None = refl
    one (Some x) = refl

-- a place without a rule adds none
pub rules_same : {N S : Type 0} (steps : List (ProofStep N S)) (places : List ℕ) (k : ℕ) → k < length places → rule_of steps (get_or places k 0) ≡ None → rules_at steps (take k places) ≡ rules_at steps (take (k + 1) places)
rules_same steps places k l at = sym (rules_more steps places k l ∙ ap (λ o. rules_at steps (take k places) ++ option_to_list o) at ∙ append-nil (rules_at steps (take k places)))

pub rules_left_some : {N S : Type 0} (steps : List (ProofStep N S)) (places : List ℕ) (k : ℕ) (r : ProofRule N S) → k < length places → rule_of steps (get_or places k 0) ≡ Some r → rules_at steps (drop k places) ≡ r ∷ rules_at steps (drop (k + 1) places)
rules_left_some {N} {S} steps places k r l at = at_drop_more (rules_at steps) places k 0 l ∙ ap (λ (o : Option (ProofRule N S)). cons_option o (rules_at steps (drop (k + 1) places))) at

pub rules_left_none : {N S : Type 0} (steps : List (ProofStep N S)) (places : List ℕ) (k : ℕ) → k < length places → rule_of steps (get_or places k 0) ≡ None → rules_at steps (drop k places) ≡ rules_at steps (drop (k + 1) places)
rules_left_none {N} {S} steps places k l at = at_drop_more (rules_at steps) places k 0 l ∙ ap (λ (o : Option (ProofRule N S)). cons_option o (rules_at steps (drop (k + 1) places))) at

module _ {N S : Type 0} (same_name : N → N → Bool) (package_of : S → N) where
  or_none : (o : Option S) → option_or o None ≡ o
  or_none None = refl
  or_none (Some s) = refl

  or_assoc : (a b c : Option S) → option_or (option_or a b) c ≡ option_or a (option_or b c)
  or_assoc None b c = refl
  or_assoc (Some s) b c = refl

  -- a later rule's digit comes first
  pub last_push : (earlier : List (ProofRule N S)) (r : ProofRule N S) (n : N) → last_instance same_name package_of (earlier ++ r ∷ []) n ≡ option_or (named same_name package_of n (instance_in r)) (last_instance same_name package_of earlier n)
  last_push [] r n = sym (or_none (named same_name package_of n (instance_in r)))
  last_push (e ∷ es) r n =
      ap (λ o. option_or o (named same_name package_of n (instance_in e))) (last_push es r n)
      ∙ or_assoc (named same_name package_of n (instance_in r)) (last_instance same_name package_of es n) (named same_name package_of n (instance_in e))

  -- the links of one more rule
  pub links_more : (offered : Requirement → List S) (rules earlier rest : List (ProofRule N S)) (r : ProofRule N S) (old new : List (Link S)) (parents : Requirement → List S) (limiters : VersionSetId → List (Option S)) (outsiders : VersionSetId → List S) (before : Option S) (last : N → Option S)
      → ((q : Requirement) → parents q ≡ requirers (filter_map gate_in rules) q) → ((v : VersionSetId) → limiters v ≡ under_set (filter_map limit_in rules) v) → ((v : VersionSetId) → outsiders v ≡ under_set (filter_map outside_in rules) v) → before ≡ before_in same_name package_of last r → ((n : N) → last n ≡ last_instance same_name package_of earlier n)
      → new ≡ old ++ links_at offered parents limiters outsiders before r
      → new ++ links_after same_name package_of offered rules (earlier ++ r ∷ []) rest ≡ old ++ links_after same_name package_of offered rules earlier (r ∷ rest)
  links_more offered rules earlier rest r old new parents limiters outsiders before last g l o b recorded put =
      let known : last ≡ last_instance same_name package_of earlier = λ i n. recorded n i in
      let own : links_at offered parents limiters outsiders before r ≡ links_at offered (requirers (filter_map gate_in rules)) (under_set (filter_map limit_in rules)) (under_set (filter_map outside_in rules)) (before_in same_name package_of (last_instance same_name package_of earlier) r) r =
      λ i. links_at offered (λ q. g q i) (λ v. l v i) (λ v. o v i) ((b ∙ ap (λ f. before_in same_name package_of f r) known) i) r in
      ap (λ xs. xs ++ links_after same_name package_of offered rules (earlier ++ r ∷ []) rest) (put ∙ ap (λ xs. old ++ xs) own) ∙ append_assoc old _ _

module _ {S : Type 0} (same : S → S → Bool) where
  once_more : (joined : List (Option S × VersionSetId × S)) (links : List (Link S)) (i : ℕ) (x : Link S) → i < length links → x ≡ get_or links i x
      → once_after same joined (drop i links) ≡ cond (is_new same joined (limited_in x)) (x ∷ once_after same (joined ++ option_to_list (limited_in x)) (drop (i + 1) links)) (once_after same joined (drop (i + 1) links))
  once_more joined links i x l at = at_drop_more (once_after same joined) links i x l ∙ ap (λ y. once_after same joined (y ∷ drop (i + 1) links)) (sym at)

  -- a link that is new is kept
  pub once_new : (joined next : List (Option S × VersionSetId × S)) (links kept more : List (Link S)) (i : ℕ) (x : Link S) → i < length links → x ≡ get_or links i x → is_new same joined (limited_in x) ≡ true
      → next ≡ cond (is_new same joined (limited_in x)) (joined ++ option_to_list (limited_in x)) joined → more ≡ kept ++ x ∷ []
      → more ++ once_after same next (drop (i + 1) links) ≡ kept ++ once_after same joined (drop i links)
  once_new joined next links kept more i x l at new recorded put =
      let now : next ≡ joined ++ option_to_list (limited_in x) = recorded ∙ ap (λ b. cond b (joined ++ option_to_list (limited_in x)) joined) new in
      let left : once_after same joined (drop i links) ≡ x ∷ once_after same (joined ++ option_to_list (limited_in x)) (drop (i + 1) links) =
      once_more joined links i x l at ∙ ap (λ b. cond b (x ∷ once_after same (joined ++ option_to_list (limited_in x)) (drop (i + 1) links)) (once_after same joined (drop (i + 1) links))) new in
      (λ j. put j ++ once_after same (now j) (drop (i + 1) links)) ∙ append_assoc kept (x ∷ []) _ ∙ ap (λ xs. kept ++ xs) (sym left)

  -- another is skipped
  pub once_again : (joined next : List (Option S × VersionSetId × S)) (links kept : List (Link S)) (i : ℕ) (x : Link S) → i < length links → x ≡ get_or links i x → is_new same joined (limited_in x) ≡ false
      → next ≡ cond (is_new same joined (limited_in x)) (joined ++ option_to_list (limited_in x)) joined
      → kept ++ once_after same next (drop (i + 1) links) ≡ kept ++ once_after same joined (drop i links)
  once_again joined next links kept i x l at old recorded =
      let now : next ≡ joined = recorded ∙ ap (λ b. cond b (joined ++ option_to_list (limited_in x)) joined) old in
      let left : once_after same joined (drop i links) ≡ once_after same joined (drop (i + 1) links) =
      once_more joined links i x l at ∙ ap (λ b. cond b (x ∷ once_after same (joined ++ option_to_list (limited_in x)) (drop (i + 1) links)) (once_after same joined (drop (i + 1) links))) old in
      ap (λ js. kept ++ once_after same js (drop (i + 1) links)) now ∙ ap (λ xs. kept ++ xs) (sym left)
