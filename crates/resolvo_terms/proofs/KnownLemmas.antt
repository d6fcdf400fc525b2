-- The value of a number is the one that it was given for, and stays so.
use Rattle.std.proofs.Common.{◌≡◌, ◌<◌, ◌∙◌, ◌&&◌, ℕ, zero, suc, Bool, true, false, List, [], ◌∷◌, map, Option, Some, None, refl, sym, ap, arith}
use Rattle.std.specs.Prelude.{slice_get, option_map, nat_lt, if◌then◌else◌}
use Rattle.std.specs.Option.{option_map_or}
use Rattle.std.proofs.lemmas.Bool.{and_parts}
use Rattle.std.proofs.lemmas.Bool.Decides.{Decides-ltb}
use Rattle.std.proofs.lemmas.Option.{get_or_from_slice_get}
use Rattle.resolvo_text.specs.Line.{Spec, Cond, Is, And, Or}
use Rattle.resolvo_pool_core.specs.declared.id.VersionSetId.{VersionSetId}
use Rattle.resolvo_pool_core.specs.declared.id.ConditionId.{ConditionId}
use Rattle.resolvo_pool_core.specs.declared.id.StringId.{StringId}
use Rattle.resolvo_pool_core.specs.declared.condition.Condition.{Condition}
use Rattle.resolvo_pool_core.specs.declared.condition.Condition.TheVariants.{Binary, Requirement}
use Rattle.resolvo_pool_core.specs.declared.condition.LogicalOperator.{LogicalOperator}
use Rattle.resolvo_pool_core.specs.declared.condition.LogicalOperator.TheVariants as joins
use Rattle.resolvo_pool_core.specs.declared.requirement.Requirement as needs
use Rattle.resolvo_pool_core.specs.declared.requirement.Requirement.TheVariants.{Single, Union}
use Rattle.resolvo_pool_core.specs.declared.requirement.ConditionalRequirement.{ConditionalRequirement}
use Rattle.resolvo_pool_core.specs.Provider.{OperandsBelow}
use Rattle.resolvo_intern.specs.Intern.{AreBelow}
use Rattle.resolvo_terms.specs.Terms.{Terms, AreEach, IsSpec, IsWord, AreAlternatives, IsCondition, IsConditionOf, IsNeed}
use Rattle.resolvo_terms.specs.Known.{set_at, name_text, word_text, spec_at, alternatives_at, condition_at, cond_by, cond_within, cond_at, need_at, sound}
use Rattle.resolvo_terms.proofs.FoundLemmas.{sound_there}

pub spec_known : (t : Terms) (v : VersionSetId) (s : Spec) → IsSpec t v s → spec_at t v ≡ s
spec_known t v s (n, set, name) =
    let is : set_at t v ≡ (n, record { 0 = s.span }) = get_or_from_slice_get t.version_sets v.0 _ _ set in
    let named : name_text t n ≡ s.name = get_or_from_slice_get t.names n.raw s.name [] name in
    rw (is, named) refl

pub specs_known : (t : Terms) (vs : List VersionSetId) (ss : List Spec) → AreEach (IsSpec t) vs ss → map (spec_at t) vs ≡ ss
specs_known t [] [] h = refl
specs_known t [] (s ∷ ss) h = absurd h
specs_known t (v ∷ vs) [] h = absurd h
specs_known t (v ∷ vs) (s ∷ ss) h = rw (spec_known t v s h.0, specs_known t vs ss h.1) refl

pub word_known : (t : Terms) (w : StringId) (word : List ℕ) → IsWord t w word → word_text t w ≡ word
word_known t w word h = get_or_from_slice_get t.words w.0 word [] h

pub alternatives_known : (t : Terms) (r : needs.Requirement) (ss : List Spec) → AreAlternatives t r ss → alternatives_at t r ≡ ss
alternatives_known t (Single v) ss h = specs_known t (v ∷ []) ss h
alternatives_known t (Union u) ss (vs, at, each) = rw (get_or_from_slice_get t.unions u.0 vs [] at) (specs_known t vs ss each)

-- at any depth that is above its number
condition_to : (t : Terms) → AreBelow t.conditions → (n : ℕ) (c : ConditionId) (q : Cond) → c.0 < n → IsCondition t c q → cond_within t n c ≡ q
condition_to t below zero c q less h = absurd (omega (arith, less))
condition_to t below (suc n) c (Is s) less (v, at, is) =
    rw (sym (sound_there t.conditions below c (Requirement v) at)) (ap (λ (x : Spec). Is x) (spec_known t v s is))
condition_to t below (suc n) c (And a b) less (i, j, at, left, right) =
    let under = below c.0 (Binary joins.And i j) at in
    rw (sym (sound_there t.conditions below c (Binary joins.And i j) at), condition_to t below n i a (omega (arith, less, under.0)) left, condition_to t below n j b (omega (arith, less, under.1)) right) refl
condition_to t below (suc n) c (Or a b) less (i, j, at, left, right) =
    let under = below c.0 (Binary joins.Or i j) at in
    rw (sym (sound_there t.conditions below c (Binary joins.Or i j) at), condition_to t below n i a (omega (arith, less, under.0)) left, condition_to t below n j b (omega (arith, less, under.1)) right) refl

pub condition_known : (t : Terms) → AreBelow t.conditions → (c : ConditionId) (q : Cond) → IsCondition t c q → cond_at t c ≡ q
condition_known t below c q h = condition_to t below (suc c.0) c q (omega arith) h

pub need_known : (t : Terms) → AreBelow t.conditions → (need : ConditionalRequirement) (written : List Spec × Option Cond) → IsNeed t need written → need_at t need ≡ written
need_known t below need written h = rw (alternatives_known t need.requirement written.0 h.0) (go need.condition written.1 h.1)
  where
    go : (c : Option ConditionId) (q : Option Cond) → IsConditionOf t c q → (let p : List Spec × Option Cond = (written.0, option_map (cond_at t) c) in p) ≡ (written.0, q)
    go None None h = refl
    go None (Some q) h = absurd h
    go (Some c) None h = absurd h
    go (Some c) (Some q) h = ap (λ (x : Cond). let p : List Spec × Option Cond = (written.0, Some x) in p) (condition_known t below c q h)

-- ---- a condition by its operands

if_below : (c : ConditionId) (q : Condition) (t : Bool) → (t ≡ true → OperandsBelow q c) → OperandsBelow (if t then q else Requirement (record { 0 = 0 })) c
if_below c q true h = h refl
if_below c q false h = tt

pub operands_below : (t : Terms) (c : ConditionId) → OperandsBelow (condition_at t c) c
operands_below t c = go (slice_get t.conditions c.0)
  where
    go : (o : Option Condition) → OperandsBelow (option_map_or (sound c) o (Requirement (record { 0 = 0 }))) c
    go None = tt
    go (Some (Requirement v)) = tt
    go (Some (Binary op a b)) = if_below c (Binary op a b) (nat_lt a.0 c.0 && nat_lt b.0 c.0) (λ e.
        let parts = and_parts (nat_lt a.0 c.0) (nat_lt b.0 c.0) e in
        ((Decides-ltb a.0 c.0).0 parts.0, (Decides-ltb b.0 c.0).0 parts.1))

by_alike : (t : Terms) (f g : ConditionId → Cond) (q : Condition) (c : ConditionId) → OperandsBelow q c → ((a : ConditionId) → a.0 < c.0 → f a ≡ g a) → cond_by t f q ≡ cond_by t g q
by_alike t f g (Requirement v) c below h = refl
by_alike t f g (Binary joins.And a b) c below h = ap (λ (x : Cond). And x (f b)) (h a below.0) ∙ ap (λ (x : Cond). And (g a) x) (h b below.1)
by_alike t f g (Binary joins.Or a b) c below h = ap (λ (x : Cond). Or x (f b)) (h a below.0) ∙ ap (λ (x : Cond). Or (g a) x) (h b below.1)

within_alike : (t : Terms) (n m : ℕ) (c : ConditionId) → c.0 < n → c.0 < m → cond_within t n c ≡ cond_within t m c
within_alike t zero m c h k = absurd (omega arith)
within_alike t (suc n) zero c h k = absurd (omega arith)
within_alike t (suc n) (suc m) c h k = by_alike t (cond_within t n) (cond_within t m) (condition_at t c) c (operands_below t c) (λ a l. within_alike t n m a (omega arith) (omega arith))

-- how many steps down it is looked at never shows
pub cond_steps : (t : Terms) (n : ℕ) (c : ConditionId) → c.0 < n → cond_within t n c ≡ cond_at t c
cond_steps t n c less = within_alike t n (suc c.0) c less (omega arith)

pub cond_by_operands : (t : Terms) (c : ConditionId) → cond_at t c ≡ cond_by t (cond_at t) (condition_at t c)
cond_by_operands t c = by_alike t (cond_within t c.0) (cond_at t) (condition_at t c) c (operands_below t c) (λ a l. cond_steps t c.0 a l)

pub cond_is : (t : Terms) (c : ConditionId) (q : Condition) → q ≡ condition_at t c → cond_by t (cond_at t) q ≡ cond_at t c
cond_is t c q is = ap (cond_by t (cond_at t)) is ∙ sym (cond_by_operands t c)

pub cond_and : (t : Terms) (c : ConditionId) (op : LogicalOperator) (a b : ConditionId) (left right : Cond) → Binary op a b ≡ condition_at t c → op ≡ joins.And → left ≡ cond_at t a → right ≡ cond_at t b → And left right ≡ cond_at t c
cond_and t c op a b left right is e l r =
    ap (λ (x : Cond). And x right) l ∙ ap (λ (x : Cond). And (cond_at t a) x) r ∙ sym (ap (λ (o : LogicalOperator). cond_by t (cond_at t) (Binary o a b)) e) ∙ cond_is t c (Binary op a b) is

pub cond_or : (t : Terms) (c : ConditionId) (op : LogicalOperator) (a b : ConditionId) (left right : Cond) → Binary op a b ≡ condition_at t c → op ≡ joins.Or → left ≡ cond_at t a → right ≡ cond_at t b → Or left right ≡ cond_at t c
cond_or t c op a b left right is e l r =
    ap (λ (x : Cond). Or x right) l ∙ ap (λ (x : Cond). Or (cond_at t a) x) r ∙ sym (ap (λ (o : LogicalOperator). cond_by t (cond_at t) (Binary o a b)) e) ∙ cond_is t c (Binary op a b) is
