-- Clauses and parents are added, step by step.
use Rattle.std.proofs.Common.{◌≡◌, ℕ, inl, inr, Bool, false, suc, ◌+◌, ◌≤◌, length, List, [], ◌∷◌, ◌++◌, Option, None, Some, Vec, Global, take, drop, take-append-drop, refl, sym, ◌∙◌, ap, subst, arith}
use Rattle.resolvo_encoder.specs.declared.encoder.EncodedOnce.{EncodedOnce}
use Rattle.std.specs.Prelude.{slice_get, Contains}
use Rattle.resolvo_pool_core.specs.Text.{solvable_of}
use Rattle.resolvo_pool_core.specs.declared.requirement.ConditionalRequirement.{ConditionalRequirement}
use Rattle.resolvo_pool_core.specs.declared.requirement.Requirement.{Requirement}
use Rattle.resolvo_pool_core.specs.declared.solver_id.SolvableIdOrRoot.{SolvableIdOrRoot}
use Rattle.resolvo_pool_core.specs.declared.id.StringId.{StringId}
use Rattle.resolvo_pool_core.specs.declared.id.VersionSetId.{VersionSetId}
use Rattle.resolvo_pool_core.specs.declared.requirement.Requirement.TheVariants.{Single}
use Rattle.resolvo_pool_core.specs.declared.provider.KnownDependencies.{KnownDependencies}
use Rattle.resolvo_pool_core.specs.declared.provider.Dependencies.TheVariants.{Known, Unknown}
use Rattle.resolvo_pool_core.specs.Provider.{Needs as Asked, needs_of}
use Rattle.resolvo_pool_core.specs.RuleKeeping.{Packages, Rules, rules_of as rules_in, is_unknown}
use Rattle.resolvo_sat.proofs.Lists.{contains_none, contains_one, contains_only, contains_parts, contains_left, contains_right, contains_map}
use Rattle.resolvo_store_core.specs.Cases.{cases_of}
use Rattle.resolvo_sat.specs.RuleClauses.{IsExact, Rule, ForbidReason, IsRule, IsForbidden}
use Rattle.resolvo_sat.specs.SearchEnd.{IsNeedEncoded}
use Rattle.resolvo_state.proofs.Growth.{grows_same, grows_then}
use Rattle.resolvo_state.proofs.Positions.{prefix_equal, prefix_get, prefix_same, prefix_then}
use Rattle.resolvo_state.specs.declared.solver_state.SolverState.{SolverState}
use Rattle.resolvo_state.specs.SolverState.{Grows}
use Rattle.resolvo_encoder.specs.declared.encoder.Encoder.{Encoder}
use Rattle.resolvo_encoder.specs.Encoded.{rules_of, AreOrdered, IsGuarded, IsLimitEncoded, IsParentEncoded, IsEncoding}
use Rattle.resolvo_encoder.specs.Conditions.{IsDeferred}
use Rattle.resolvo_encoder.specs.Encoded.{IsCaseEncoded}
use Rattle.resolvo_encoder.specs.Conditions.{Defers, Fires}
use Rattle.resolvo_encoder.specs.Steps.{Extends, AddsParent, IsNextEncoded}
use Rattle.resolvo_encoder.specs.Progress.{GoesOn}
use Rattle.resolvo_encoder.specs.Base.{KeepsTurns}
use Rattle.resolvo_encoder.proofs.Bases.{same_turns, turn_same, turns_then}
use Rattle.resolvo_encoder.proofs.Parents.{parent_keeps}
use Rattle.resolvo_encoder.proofs.PickLemmas.{ordered_stays}
use Rattle.resolvo_encoder.proofs.RequireLemmas.{need_grows, limit_grows, guard_grows, some_one}
use Rattle.resolvo_turn.specs.Turn.{FiresMore}
use Rattle.resolvo_turn.specs.Encoder.{IsRoot, AreRulesOf, IsInOrder, AddsNeeds, AddsParents, AddsAll, AreDeferred, IsConditionalEncoded}

-- ---- parents alone

pub parents_none : {N S : Type 0} (e : Encoder N S) → AddsParent e e
parents_none e = record { prefix = prefix_same e.parents.keys; rest = refl }

pub parents_then : {N S : Type 0} (a b c : Encoder N S) → AddsParent a b → AddsParent b c → AddsParent a c
parents_then {N} {S} a b c f g = record {
  prefix = prefix_then a.parents.keys b.parents.keys c.parents.keys f.prefix g.prefix;
  rest = subst (λ (x : Encoder N S). c ≡ record x { parents = c.parents }) f.rest g.rest;
}

-- the coding is the same
pub parents_coding : {N S : Type 0} (a b : Encoder N S) → AddsParent a b → b.coding ≡ a.coding
parents_coding a b f = ap (λ (x : Encoder _ _). x.coding) f.rest

pub parents_encoded : {N S : Type 0} (a b : Encoder N S) → AddsParent a b → b.encoded ≡ a.encoded
parents_encoded a b f = ap (λ (x : Encoder _ _). x.encoded) f.rest

-- ---- an encoding of the packages

module _ {N S : Type 0} (same : S → S → Bool) (p : Packages N S) (orders : Requirement → List S → Type 0) (root : Rules) (a b : Encoder N S) where
  -- more parents keep it one
  pub parents_in_order : IsInOrder same p orders root a → AddsParent a b → IsInOrder same p orders root b
  parents_in_order e f = record {
    encoding = parent_keeps same p root a b e.encoding f;
    ordered = subst (λ (x : Encoder N S). AreOrdered orders x) (sym f.rest) e.ordered;
  }

  -- the search keeps it one
  pub goes_in_order : GoesOn a b → (IsEncoding same p root a → IsEncoding same p root b) → IsInOrder same p orders root a → IsInOrder same p orders root b
  goes_in_order f stays e = record { encoding = stays e.encoding; ordered = ordered_stays orders a b f.grows f.rest.lists e.ordered }

  -- more clauses keep it one
  pub extends_in_order : Grows a.coding b.coding → b.lists ≡ a.lists → (IsEncoding same p root a → IsEncoding same p root b) → IsInOrder same p orders root a → IsInOrder same p orders root b
  extends_in_order grows lists stays e = record { encoding = stays e.encoding; ordered = ordered_stays orders a b grows lists e.ordered }

  -- a deferred or fired case keeps it one
  pub defers_in_order : Defers a b → (IsEncoding same p root a → IsEncoding same p root b) → IsInOrder same p orders root a → IsInOrder same p orders root b
  defers_in_order f stays e = record { encoding = stays e.encoding; ordered = subst (λ (x : Encoder N S). AreOrdered orders x) (sym f.rest) e.ordered }

  pub fires_in_order : (index : ℕ) → Fires index a b → (IsEncoding same p root a → IsEncoding same p root b) → IsInOrder same p orders root a → IsInOrder same p orders root b
  fires_in_order index f stays e = record { encoding = stays e.encoding; ordered = subst (λ (x : Encoder N S). AreOrdered orders x) (sym f.rest) e.ordered }

  -- the end of a parent keeps it one
  pub next_in_order : b ≡ record a { encoded = a.encoded + 1 } → (IsEncoding same p root a → IsEncoding same p root b) → IsInOrder same p orders root a → IsInOrder same p orders root b
  next_in_order is stays e = record { encoding = stays e.encoding; ordered = subst (λ (x : Encoder N S). AreOrdered orders x) (sym is) e.ordered }

-- ---- requirements

-- where the trail is the same, the turn is
coding_turns : {N S : Type 0} (a b : Encoder N S) → b.coding ≡ a.coding → b.recorded.softs.items ≡ a.recorded.softs.items → KeepsTurns a b
coding_turns {N} {S} a b same softs = same_turns a b (subst (λ (x : SolverState N S). Grows a.coding x) (sym same) (grows_same a.coding)) (record { tracker = ap (λ (x : SolverState N S). x.search.tracker) same }) softs

pub needs_none : {N S : Type 0} (e : Encoder N S) → AddsNeeds e e
needs_none e = record { grows = grows_same e.coding; turn = λ soft. turn_same soft e; softs = refl; parents = prefix_same e.parents.keys; encoded = refl; deferred = prefix_same e.deferred.items; fired = prefix_same e.fired.keys }

pub needs_then : {N S : Type 0} (a b c : Encoder N S) → AddsNeeds a b → AddsNeeds b c → AddsNeeds a c
needs_then a b c f g = record {
  grows = grows_then a.coding b.coding c.coding f.grows g.grows;
  turn = turns_then a b c f.turn g.turn;
  softs = g.softs ∙ f.softs;
  parents = prefix_then a.parents.keys b.parents.keys c.parents.keys f.parents g.parents;
  encoded = g.encoded ∙ f.encoded;
  deferred = prefix_then a.deferred.items b.deferred.items c.deferred.items f.deferred g.deferred;
  fired = prefix_then a.fired.keys b.fired.keys c.fired.keys f.fired g.fired;
}

pub extends_needs : {N S : Type 0} (a b : Encoder N S) → Extends a b → AddsNeeds a b
extends_needs a b f = record {
  grows = f.grows;
  turn = same_turns a b f.grows f.trail f.softs;
  softs = f.softs;
  parents = prefix_equal a.parents.keys b.parents.keys (ap (λ ks. ks.keys) f.parents);
  encoded = f.encoded;
  deferred = prefix_equal a.deferred.items b.deferred.items (ap (λ ds. ds.items) f.deferred);
  fired = prefix_equal a.fired.keys b.fired.keys (ap (λ ks. ks.keys) f.fired);
}

pub parents_needs : {N S : Type 0} (a b : Encoder N S) → AddsParent a b → AddsNeeds a b
parents_needs {N} {S} a b f = record {
  grows = subst (λ (x : SolverState N S). Grows a.coding x) (sym (parents_coding a b f)) (grows_same a.coding);
  turn = coding_turns a b (ap (λ (x : Encoder N S). x.coding) f.rest) (ap (λ (x : Encoder N S). x.recorded.softs.items) f.rest);
  softs = ap (λ (x : Encoder N S). x.recorded.softs.items) f.rest;
  parents = f.prefix;
  encoded = parents_encoded a b f;
  deferred = prefix_equal a.deferred.items b.deferred.items (ap (λ (x : Encoder N S). x.deferred.items) f.rest);
  fired = prefix_equal a.fired.keys b.fired.keys (ap (λ (x : Encoder N S). x.fired.keys) f.rest);
}

-- a package's mark is known
pub marks_needs : {N S : Type 0} (a b : Encoder N S) → b ≡ record a { registry = record a.registry { many = b.registry.many } } → AddsNeeds a b
marks_needs {N} {S} a b is = record {
  grows = subst (λ (x : SolverState N S). Grows a.coding x) (sym (ap (λ (x : Encoder N S). x.coding) is)) (grows_same a.coding);
  turn = coding_turns a b (ap (λ (x : Encoder N S). x.coding) is) (ap (λ (x : Encoder N S). x.recorded.softs.items) is);
  softs = ap (λ (x : Encoder N S). x.recorded.softs.items) is;
  parents = prefix_equal a.parents.keys b.parents.keys (ap (λ (x : Encoder N S). x.parents.keys) is);
  encoded = ap (λ (x : Encoder N S). x.encoded) is;
  deferred = prefix_equal a.deferred.items b.deferred.items (ap (λ (x : Encoder N S). x.deferred.items) is);
  fired = prefix_equal a.fired.keys b.fired.keys (ap (λ (x : Encoder N S). x.fired.keys) is);
}

-- a deferred case is added after the others
pub defers_needs : {N S : Type 0} (a b : Encoder N S) → Defers a b → AddsNeeds a b
defers_needs {N} {S} a b f = record {
  grows = subst (λ (x : SolverState N S). Grows a.coding x) (sym (ap (λ (x : Encoder N S). x.coding) f.rest)) (grows_same a.coding);
  turn = coding_turns a b (ap (λ (x : Encoder N S). x.coding) f.rest) (ap (λ (x : Encoder N S). x.recorded.softs.items) f.rest);
  softs = ap (λ (x : Encoder N S). x.recorded.softs.items) f.rest;
  parents = prefix_equal a.parents.keys b.parents.keys (ap (λ (x : Encoder N S). x.parents.keys) f.rest);
  encoded = ap (λ (x : Encoder N S). x.encoded) f.rest;
  deferred = f.prefix;
  fired = prefix_equal a.fired.keys b.fired.keys (ap (λ (x : Encoder N S). x.fired.keys) f.rest);
}

-- a case became a clause
pub fires_needs : {N S : Type 0} (index : ℕ) (a b : Encoder N S) → Fires index a b → AddsNeeds a b
fires_needs {N} {S} index a b f = record {
  grows = subst (λ (x : SolverState N S). Grows a.coding x) (sym (ap (λ (x : Encoder N S). x.coding) f.rest)) (grows_same a.coding);
  turn = coding_turns a b (ap (λ (x : Encoder N S). x.coding) f.rest) (ap (λ (x : Encoder N S). x.recorded.softs.items) f.rest);
  softs = ap (λ (x : Encoder N S). x.recorded.softs.items) f.rest;
  parents = prefix_equal a.parents.keys b.parents.keys (ap (λ (x : Encoder N S). x.parents.keys) f.rest);
  encoded = ap (λ (x : Encoder N S). x.encoded) f.rest;
  deferred = prefix_equal a.deferred.items b.deferred.items (ap (λ (x : Encoder N S). x.deferred.items) f.rest);
  fired = f.prefix;
}

-- a case that wasn't fired before is one more
pub fired_more : {N S : Type 0} (index : ℕ) (a b c : Encoder N S) → b.fired ≡ a.fired → (Contains a.fired.keys index → ⊥) → Fires index b c → FiresMore a c
fired_more {N} {S} index a b c same waits f =
    let fresh : length c.fired.keys ≡ suc (length b.fired.keys) = f.fresh (λ h. waits (subst (λ ks. Contains ks.keys index) same h)) in
    let count : length b.fired.keys ≡ length a.fired.keys = ap (λ ks. length ks.keys) same in
    record { more = omega arith; bounded = f.small }

-- what is encoded stays encoded
pub need_stays : {N S : Type 0} (same : S → S → Bool) (exact : IsExact same) (p : Packages N S) (root : Rules) (a b : Encoder N S) (parent : Option S) (need : ConditionalRequirement) (case : List VersionSetId) → AddsNeeds a b
    → IsNeedEncoded same p (rules_of a) parent need case → IsNeedEncoded same p (rules_of b) parent need case
need_stays same exact p root a b parent need case f h = need_grows same exact p root a b parent need case f.grows h

-- a deferred case stays deferred, or was fired
pub deferred_stays : {N S : Type 0} (a b : Encoder N S) (parent : Option S) (need : ConditionalRequirement) (case : List VersionSetId) → AddsNeeds a b → IsDeferred a parent need case → IsDeferred b parent need case
deferred_stays a b parent need case f (i, d, at, one, two, three) = (i, d, prefix_get a.deferred.items b.deferred.items i d f.deferred at, one, two, three)

pub case_stays : {N S : Type 0} (same : S → S → Bool) (exact : IsExact same) (p : Packages N S) (root : Rules) (a b : Encoder N S) (parent : Option S) (need : ConditionalRequirement) (case : List VersionSetId) → AddsNeeds a b → IsCaseEncoded same p a parent need case → IsCaseEncoded same p b parent need case
case_stays same exact p root a b parent need case f (inl h) = inl (need_grows same exact p root a b parent need case f.grows h)
case_stays same exact p root a b parent need case f (inr h) = inr (deferred_stays a b parent need case f h)

-- and one more requirement is encoded
pub more_encoded : {N S : Type 0} (same : S → S → Bool) (exact : IsExact same) (p : Packages N S) (root : Rules) (a b : Encoder N S) (parent : Option S) (done : List ConditionalRequirement) (last : ConditionalRequirement) → AddsNeeds a b
    → ((need : ConditionalRequirement) → Contains done need → IsConditionalEncoded same p a parent need) → IsConditionalEncoded same p b parent last
    → (need : ConditionalRequirement) → Contains (done ++ last ∷ []) need → IsConditionalEncoded same p b parent need
more_encoded same exact p root a b parent done last adds before now need h = elim (contains_parts need done (last ∷ []) h) [
  | inl c ↦ λ case one. case_stays same exact p root a b parent need case adds (before need c case one)
  | inr c ↦ subst (λ (x : ConditionalRequirement). IsConditionalEncoded same p b parent x) (sym (contains_one need last c)) now
]

-- one more case is deferred
pub more_deferred : {N S : Type 0} (a b : Encoder N S) (parent : Option S) (need : ConditionalRequirement) (done : List (List VersionSetId)) (last : List VersionSetId) → AddsNeeds a b → AreDeferred a parent need done → IsDeferred b parent need last
    → AreDeferred b parent need (done ++ last ∷ [])
more_deferred a b parent need done last adds before now case h = elim (contains_parts case done (last ∷ []) h) [
  | inl c ↦ deferred_stays a b parent need case adds (before case c)
  | inr c ↦ subst (λ (x : List VersionSetId). IsDeferred b parent need x) (sym (contains_one case last c)) now
]

-- a taken item is in the list
taken_contained : {X : Type 0} (n : ℕ) (xs : List X) (x : X) → Contains (take n xs) x → Contains xs x
taken_contained n xs x h = subst (λ (ys : List _). Contains ys x) (take-append-drop n xs) (contains_left x (take n xs) (drop n xs) h)

-- the cases of a list and one more
pub cases_more : (xs : List (Vec VersionSetId Global)) (x : Vec VersionSetId Global) → cases_of (xs ++ x ∷ []) ≡ cases_of xs ++ x.items ∷ []
cases_more [] x = refl
cases_more (y ∷ xs) x = ap (λ zs. y.items ∷ zs) (cases_more xs x)

-- the last one taken is one of the cases
pub taken_case : (xs : List (Vec VersionSetId Global)) (i : ℕ) (x : Vec VersionSetId Global) → take (i + 1) xs ≡ take i xs ++ x ∷ [] → Contains (cases_of xs) x.items
taken_case xs i x more = contains_map (λ (v : Vec VersionSetId Global). v.items) x xs (taken_contained (i + 1) xs x (subst (λ (ys : List (Vec VersionSetId Global)). Contains ys x) (sym more) (contains_right x (take i xs) (x ∷ []) (contains_only x))))

-- constraints, and the locks and exclusions of the candidates that they name
pub more_limited : {N S : Type 0} (same : S → S → Bool) (exact : IsExact same) (p : Packages N S) (root : Rules) (a b : Encoder N S) (parent : Option S) (done : List VersionSetId) (last : VersionSetId) → AddsNeeds a b
    → ((v : VersionSetId) → Contains done v → IsLimitEncoded same p (rules_of a) parent v × IsGuarded same p (rules_of a) (Single v)) → IsLimitEncoded same p (rules_of b) parent last × IsGuarded same p (rules_of b) (Single last)
    → (v : VersionSetId) → Contains (done ++ last ∷ []) v → IsLimitEncoded same p (rules_of b) parent v × IsGuarded same p (rules_of b) (Single v)
more_limited same exact p root a b parent done last adds before now v h = elim (contains_parts v done (last ∷ []) h) [
  | inl c ↦ let (limited, guarded) = before v c in (limit_grows same exact p root a b parent v adds.grows limited, guard_grows same exact p root a b (Single v) adds.grows guarded)
  | inr c ↦ subst (λ (x : VersionSetId). IsLimitEncoded same p (rules_of b) parent x × IsGuarded same p (rules_of b) (Single x)) (sym (contains_one v last c)) now
]

-- the next parent is encoded, where this one is
pub next_all : {N S : Type 0} (same : S → S → Bool) (p : Packages N S) (root : Rules) (a b : Encoder N S) (parent : SolvableIdOrRoot S) → AddsNeeds a b → slice_get a.parents.keys a.encoded ≡ Some parent
    → IsParentEncoded same p b root (solvable_of parent) → IsNextEncoded same p root b
next_all {N} {S} same p root a b parent adds here done other at =
    let there : slice_get b.parents.keys b.encoded ≡ Some parent = subst (λ n. slice_get b.parents.keys n ≡ Some parent) (sym adds.encoded) (prefix_get a.parents.keys b.parents.keys a.encoded parent adds.parents here) in
    let one : other ≡ parent = some_one other parent (sym at ∙ there) in
    subst (λ (x : SolvableIdOrRoot S). IsParentEncoded same p b root (solvable_of x)) (sym one) done

-- ---- the rules of a parent

none_some : {X : Type 0} (x : X) → None ≡ Some x → ⊥
none_some x h = cc

-- the root's rules are given
pub root_rules : {N S : Type 0} (same : S → S → Bool) (p : Packages N S) (root : Rules) (requirements : List ConditionalRequirement) (constraints : List VersionSetId) → IsRoot requirements constraints root → AreRulesOf same p root None requirements constraints
root_rules same p root requirements constraints (needs, limits) = record { requirements = needs; constraints = limits; known = λ s h. absurd (none_some s h) }

-- those of a solvable, if they are known
pub known_rules : {N S : Type 0} (same : S → S → Bool) (p : Packages N S) (root : Rules) (s : S) (known : KnownDependencies) (requirements : List ConditionalRequirement) (constraints : List VersionSetId) → p.dependencies_of s ≡ needs_of (Known known)
    → requirements ≡ known.requirements.items → constraints ≡ known.constrains.items → AreRulesOf same p root (Some s) requirements constraints
known_rules same p root s known requirements constraints asked needs limits = record {
  requirements = ap (λ (n : Asked). (rules_in n).requirements) asked ∙ sym needs;
  constraints = ap (λ (n : Asked). (rules_in n).constraints) asked ∙ sym limits;
  known = λ t is. subst (λ x. is_unknown (p.dependencies_of x) ≡ false) (some_one s t is) (ap is_unknown asked);
}

-- a solvable with unknown dependencies is excluded
pub excluded_rule : {N S : Type 0} (same : S → S → Bool) (p : Packages N S) (root : Rules) (s : S) (why : StringId) → p.dependencies_of s ≡ needs_of (Unknown why) → (r : Rule N S) → Contains (Rule.forbids (ForbidReason.word why) s ∷ []) r → IsRule same p root r
excluded_rule same p root s why asked r h = subst (IsRule same p root) (sym (contains_one r (Rule.forbids (ForbidReason.word why) s) h)) (inr asked)

-- and has no other rules
pub unknown_encoded : {N S : Type 0} (same : S → S → Bool) (p : Packages N S) (root : Rules) (e : Encoder N S) (s : S) (why : StringId) → p.dependencies_of s ≡ needs_of (Unknown why) → IsForbidden (rules_of e) s → IsParentEncoded same p e root (Some s)
unknown_encoded same p root e s why asked excluded = record {
  needs = λ need case h one. absurd (contains_none need (subst (λ (n : Asked). Contains (rules_in n).requirements need) asked h));
  limits = λ v h. absurd (contains_none v (subst (λ (n : Asked). Contains (rules_in n).constraints v) asked h));
  guarded = λ v h. absurd (contains_none v (subst (λ (n : Asked). Contains (rules_in n).constraints v) asked h));
  unknown = λ t is h. subst (λ x. IsForbidden (rules_of e) x) (some_one s t is) excluded;
}

-- ---- encoded parents

pub all_none : {N S : Type 0} (e : Encoder N S) → AddsParents e e
all_none e = record { grows = grows_same e.coding; softs = refl; parents = prefix_same e.parents.keys; encoded = omega arith; deferred = prefix_same e.deferred.items; fired = prefix_same e.fired.keys }

pub all_then : {N S : Type 0} (a b c : Encoder N S) → AddsParents a b → AddsParents b c → AddsParents a c
all_then a b c f g = record {
  grows = grows_then a.coding b.coding c.coding f.grows g.grows;
  softs = g.softs ∙ f.softs;
  parents = prefix_then a.parents.keys b.parents.keys c.parents.keys f.parents g.parents;
  encoded = (let x : a.encoded ≤ b.encoded = f.encoded in let y : b.encoded ≤ c.encoded = g.encoded in omega arith);
  deferred = prefix_then a.deferred.items b.deferred.items c.deferred.items f.deferred g.deferred;
  fired = prefix_then a.fired.keys b.fired.keys c.fired.keys f.fired g.fired;
}

-- the rules of one more parent
one_more : {N S : Type 0} (a b : Encoder N S) → AddsNeeds a b → AddsParents a (record b { encoded = b.encoded + 1 })
one_more a b f = record { grows = f.grows; softs = f.softs; parents = f.parents; encoded = (let x : b.encoded ≡ a.encoded = f.encoded in omega arith); deferred = f.deferred; fired = f.fired }

pub needs_parents : {N S : Type 0} (a b : Encoder N S) → AddsNeeds a b → AddsParents a b
needs_parents a b f = record { grows = f.grows; softs = f.softs; parents = f.parents; encoded = (let x : b.encoded ≡ a.encoded = f.encoded in omega arith); deferred = f.deferred; fired = f.fired }

-- the end of a parent keeps the turn
next_turns : {N S : Type 0} (a b : Encoder N S) → b ≡ record a { encoded = a.encoded + 1 } → KeepsTurns a b
next_turns {N} {S} a b is = coding_turns a b (ap (λ (x : Encoder N S). x.coding) is) (ap (λ (x : Encoder N S). x.recorded.softs.items) is)

-- after a parent's rules and its end there is one more
pub all_next : {N S : Type 0} (start old middle new next : Encoder N S) → AddsParents start old → AddsNeeds old middle → AddsNeeds middle new → next ≡ record new { encoded = new.encoded + 1 } → AddsParents start next
all_next {N} {S} start old middle new next before asked kept is = subst (λ (x : Encoder N S). AddsParents start x) (sym is) (all_then start middle (record new { encoded = new.encoded + 1 }) (all_then start old middle before (needs_parents old middle asked)) (one_more middle new kept))

pub turns_next : {N S : Type 0} (start old middle new next : Encoder N S) → KeepsTurns start old → AddsNeeds old middle → AddsNeeds middle new → next ≡ record new { encoded = new.encoded + 1 } → KeepsTurns start next
turns_next start old middle new next before asked kept is = turns_then start new next (turns_then start middle new (turns_then start old middle before asked.turn) kept.turn) (next_turns new next is)

-- the search adds no parent
pub goes_parents : {N S : Type 0} (a b : Encoder N S) → GoesOn a b → AddsParents a b
goes_parents {N} {S} a b f = record {
  grows = f.grows;
  softs = ap (λ (y : EncodedOnce N S). y.softs.items) f.rest.recorded;
  parents = prefix_equal a.parents.keys b.parents.keys (ap (λ ks. ks.keys) f.rest.parents);
  encoded = (let x : b.encoded ≡ a.encoded = f.rest.encoded in omega arith);
  deferred = prefix_equal a.deferred.items b.deferred.items (ap (λ ds. ds.items) f.rest.deferred);
  fired = prefix_equal a.fired.keys b.fired.keys (ap (λ ks. ks.keys) f.rest.fired);
}

-- all parents stay encoded where clauses are added
pub extends_all : {N S : Type 0} (a b c : Encoder N S) → AddsAll a b → Extends b c → AddsAll a c
extends_all a b c f kept = record {
  adds = all_then a b c f.adds (needs_parents b c (extends_needs b c kept));
  all = kept.encoded ∙ f.all ∙ sym (ap (λ ks. length ks.keys) kept.parents);
}
