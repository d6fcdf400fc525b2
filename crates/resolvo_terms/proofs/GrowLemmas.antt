-- The value of a number is kept, whatever else is numbered.
use Rattle.std.proofs.Common.{◌<◌, List, [], ◌∷◌, ◌++◌, Some, None, Option, length}
use Rattle.std.proofs.lemmas.Option.{slice_get_within}
use Rattle.resolvo_text.specs.Line.{Spec, Cond, Is, And, Or}
use Rattle.resolvo_pool_core.specs.declared.id.VersionSetId.{VersionSetId}
use Rattle.resolvo_pool_core.specs.declared.id.ConditionId.{ConditionId}
use Rattle.resolvo_pool_core.specs.declared.requirement.Requirement as needs
use Rattle.resolvo_pool_core.specs.declared.requirement.Requirement.TheVariants.{Single, Union}
use Rattle.resolvo_pool_core.specs.declared.requirement.ConditionalRequirement.{ConditionalRequirement}
use Rattle.resolvo_terms.specs.Terms.{Terms, AreEach, IsSpec, AreAlternatives, IsCondition, IsConditionOf, IsNeed, Grows}

pub grows_own : (t : Terms) → Grows t t
grows_own t = record { names = λ k x e. e; words = λ k x e. e; version_sets = λ k x e. e; unions = λ k x e. e; conditions = λ k x e. e }

pub grows_on : (a b c : Terms) → Grows a b → Grows b c → Grows a c
grows_on a b c g h = record {
  names = λ k x e. h.names k x (g.names k x e);
  words = λ k x e. h.words k x (g.words k x e);
  version_sets = λ k x e. h.version_sets k x (g.version_sets k x e);
  unions = λ k x e. h.unions k x (g.unions k x e);
  conditions = λ k x e. h.conditions k x (g.conditions k x e);
}

pub each_as : {X Y : Type 0} (R S : X → Y → Type 0) → ((x : X) (y : Y) → R x y → S x y) → (xs : List X) (ys : List Y) → AreEach R xs ys → AreEach S xs ys
each_as R S f [] [] h = tt
each_as R S f [] (y ∷ ys) h = absurd h
each_as R S f (x ∷ xs) [] h = absurd h
each_as R S f (x ∷ xs) (y ∷ ys) h = (f x y h.0, each_as R S f xs ys h.1)

pub each_more : {X Y : Type 0} (R : X → Y → Type 0) → (xs more : List X) (ys others : List Y) → AreEach R xs ys → AreEach R more others → AreEach R (xs ++ more) (ys ++ others)
each_more R [] more [] others h k = k
each_more R [] more (y ∷ ys) others h k = absurd h
each_more R (x ∷ xs) more [] others h k = absurd h
each_more R (x ∷ xs) more (y ∷ ys) others h k = (h.0, each_more R xs more ys others h.1 k)

module _ (a b : Terms) (grows : Grows a b) where
  pub spec_stays : (v : VersionSetId) (s : Spec) → IsSpec a v s → IsSpec b v s
  spec_stays v s h = (h.0, grows.version_sets _ _ h.1, grows.names _ _ h.2)

  pub specs_stay : (vs : List VersionSetId) (ss : List Spec) → AreEach (IsSpec a) vs ss → AreEach (IsSpec b) vs ss
  specs_stay vs ss h = each_as (IsSpec a) (IsSpec b) spec_stays vs ss h

  pub alternatives_stay : (r : needs.Requirement) (ss : List Spec) → AreAlternatives a r ss → AreAlternatives b r ss
  alternatives_stay (Single v) ss h = specs_stay (v ∷ []) ss h
  alternatives_stay (Union u) ss h = (h.0, grows.unions _ _ h.1, specs_stay h.0 ss h.2)

  pub condition_stays : (c : ConditionId) (cond : Cond) → IsCondition a c cond → IsCondition b c cond
  condition_stays c (Is s) h = (h.0, grows.conditions _ _ h.1, spec_stays h.0 s h.2)
  condition_stays c (And l r) h = (h.0, h.1, grows.conditions _ _ h.2, condition_stays h.0 l h.3, condition_stays h.1 r h.4)
  condition_stays c (Or l r) h = (h.0, h.1, grows.conditions _ _ h.2, condition_stays h.0 l h.3, condition_stays h.1 r h.4)

  pub condition_of_stays : (c : Option ConditionId) (cond : Option Cond) → IsConditionOf a c cond → IsConditionOf b c cond
  condition_of_stays None None h = tt
  condition_of_stays None (Some cond) h = absurd h
  condition_of_stays (Some c) None h = absurd h
  condition_of_stays (Some c) (Some cond) h = condition_stays c cond h

  pub need_stays : (need : ConditionalRequirement) (written : List Spec × Option Cond) → IsNeed a need written → IsNeed b need written
  need_stays need written h = (alternatives_stay need.requirement written.0 h.0, condition_of_stays need.condition written.1 h.1)

  pub needs_stay : (needs : List ConditionalRequirement) (written : List (List Spec × Option Cond)) → AreEach (IsNeed a) needs written → AreEach (IsNeed b) needs written
  needs_stay needs written h = each_as (IsNeed a) (IsNeed b) need_stays needs written h

-- a condition is among the conditions
pub condition_within : (t : Terms) (c : ConditionId) (cond : Cond) → IsCondition t c cond → c.0 < length t.conditions
condition_within t c (Is s) h = slice_get_within t.conditions c.0 _ h.1
condition_within t c (And l r) h = slice_get_within t.conditions c.0 _ h.2
condition_within t c (Or l r) h = slice_get_within t.conditions c.0 _ h.2
