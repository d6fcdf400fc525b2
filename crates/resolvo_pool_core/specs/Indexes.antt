-- Values with an index, and values without one.
use Rattle.std.specs.Prelude.{◌≡◌, ℕ, Bool, true, false, Option, None, Some, unwrap_or}
use Rattle.std.proofs.Common.{ap, refl}
use Rattle.std.proofs.lemmas.Bool.{both_ways}
use Rattle.resolvo_pool_core.specs.declared.solver_id.SolvableIdOrRoot.{SolvableIdOrRoot}
use Rattle.resolvo_pool_core.specs.declared.solver_id.SolvableIdOrRoot.TheVariants.{Root, Solvable}

-- a value without an index has none
pub no_index : {X : Type 0} {i : ℕ} → None ≡ Some i → X
no_index h = absurd cc

-- an index is one number
pub one_index : {i j : ℕ} → Some i ≡ Some j → i ≡ j
one_index {i} h = ap (λ o. unwrap_or o i) h

-- the index of a parent is that of its solvable
abbrev pub indexed_parent : {S : Type 0} → (S → Option ℕ) → SolvableIdOrRoot S → Option ℕ
indexed_parent indexed Root = None
indexed_parent indexed (Solvable s) = indexed s

-- a test of parents holds of one parent alone
pub one_parent : {S : Type 0} (eq : SolvableIdOrRoot S → SolvableIdOrRoot S → Bool) → ((s t : S) → eq (Solvable s) (Solvable t) ≡ true → s ≡ t)
    → ((s : S) → eq Root (Solvable s) ≡ false) → ((s : S) → eq (Solvable s) Root ≡ false) → (x y : SolvableIdOrRoot S) → eq x y ≡ true → x ≡ y
one_parent eq one a b Root Root h = refl
one_parent eq one a b Root (Solvable t) h = absurd (both_ways _ (a t) h)
one_parent eq one a b (Solvable s) Root h = absurd (both_ways _ (b s) h)
one_parent eq one a b (Solvable s) (Solvable t) h = ap Solvable (one s t h)

-- parents with one index are one parent
pub alone_parent : {S : Type 0} (indexed : S → Option ℕ) → ((s t : S) (i : ℕ) → indexed s ≡ Some i → indexed t ≡ Some i → s ≡ t)
    → (x y : SolvableIdOrRoot S) (i : ℕ) → indexed_parent indexed x ≡ Some i → indexed_parent indexed y ≡ Some i → x ≡ y
alone_parent indexed one Root y i h k = no_index h
alone_parent indexed one (Solvable s) Root i h k = no_index k
alone_parent indexed one (Solvable s) (Solvable t) i h k = ap Solvable (one s t i h k)
