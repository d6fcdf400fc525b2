-- Lemmas on the atoms that variables represent.
use Rattle.std.proofs.Common.{◌≡◌, ℕ, zero, suc, ◌<◌, true, List, [], ◌∷◌, length, map, Option, Some, None, refl, sym, ◌∙◌, ap, subst, arith}
use Rattle.std.specs.Prelude.{slice_get}
use Rattle.std.proofs.lemmas.Option.{slice_get_within}
use Rattle.resolvo_pool_core.specs.declared.id.VariableId.{VariableId}
use Rattle.resolvo_sat.specs.State.{count_of}
use Rattle.resolvo_sat.specs.declared.state.VariableKind.{VariableKind}
use Rattle.resolvo_store_core.specs.AtMostOne.{IsPrefixOf}
use Rattle.resolvo_pool_core.specs.OnePass.{Literal}
use Rattle.resolvo_store_core.specs.Signed.{Signed}
use Rattle.resolvo_sat.specs.RuleClauses.{Atom, plus}
use Rattle.resolvo_sat.specs.Numbered.{Means, IsOnce}
use Rattle.resolvo_state.specs.declared.atom.ProofAtom.{ProofAtom}
use Rattle.resolvo_state.specs.declared.atom.ProofAtom.TheVariants.{Solvable, AtLeastOne, Gate, Outside, Matches, Bit}
use Rattle.resolvo_state.specs.declared.solver_state.SolverState.{SolverState}
use Rattle.resolvo_state.specs.Atoms.{atom_of, atom_at, origin, kind_of, Represents, solvable_in, solvable_of, bit_in, bit_of}
use Rattle.resolvo_state.specs.Keys.{AreOnce}
use Rattle.resolvo_state.specs.SolverState.{IsCoding}
use Rattle.resolvo_state.proofs.Positions.{prefix_get, get_below}

-- different atoms stay different
pub atom_of_one : {N S : Type 0} (a b : ProofAtom N S) → atom_of a ≡ atom_of b → a ≡ b
atom_of_one (Solvable s) (Solvable t) e = cc
atom_of_one (Solvable s) (AtLeastOne n) e = absurd cc
atom_of_one (Solvable s) (Gate r) e = absurd cc
atom_of_one (Solvable s) (Outside v) e = absurd cc
atom_of_one (Solvable s) (Matches v) e = absurd cc
atom_of_one (Solvable s) (Bit n bit) e = absurd cc
atom_of_one (AtLeastOne m) (Solvable t) e = absurd cc
atom_of_one (AtLeastOne m) (AtLeastOne n) e = cc
atom_of_one (AtLeastOne m) (Gate r) e = absurd cc
atom_of_one (AtLeastOne m) (Outside v) e = absurd cc
atom_of_one (AtLeastOne m) (Matches v) e = absurd cc
atom_of_one (AtLeastOne m) (Bit n bit) e = absurd cc
atom_of_one (Gate q) (Solvable t) e = absurd cc
atom_of_one (Gate q) (AtLeastOne n) e = absurd cc
atom_of_one (Gate q) (Gate r) e = cc
atom_of_one (Gate q) (Outside v) e = absurd cc
atom_of_one (Gate q) (Matches v) e = absurd cc
atom_of_one (Gate q) (Bit n bit) e = absurd cc
atom_of_one (Outside u) (Solvable t) e = absurd cc
atom_of_one (Outside u) (AtLeastOne n) e = absurd cc
atom_of_one (Outside u) (Gate r) e = absurd cc
atom_of_one (Outside u) (Outside v) e = cc
atom_of_one (Outside u) (Matches v) e = absurd cc
atom_of_one (Outside u) (Bit n bit) e = absurd cc
atom_of_one (Matches u) (Solvable t) e = absurd cc
atom_of_one (Matches u) (AtLeastOne n) e = absurd cc
atom_of_one (Matches u) (Gate r) e = absurd cc
atom_of_one (Matches u) (Outside v) e = absurd cc
atom_of_one (Matches u) (Matches v) e = cc
atom_of_one (Matches u) (Bit n bit) e = absurd cc
atom_of_one (Bit m low) (Solvable t) e = absurd cc
atom_of_one (Bit m low) (AtLeastOne n) e = absurd cc
atom_of_one (Bit m low) (Gate r) e = absurd cc
atom_of_one (Bit m low) (Outside v) e = absurd cc
atom_of_one (Bit m low) (Matches v) e = absurd cc
atom_of_one (Bit m low) (Bit n bit) e = cc

pub atom_at_place : {N S : Type 0} (atoms : List (ProofAtom N S)) (k : ℕ) (a : ProofAtom N S) → slice_get atoms k ≡ Some a → atom_at atoms k ≡ atom_of a
atom_at_place [] k a h = absurd cc
atom_at_place (b ∷ atoms) zero a h = let e : b ≡ a = cc in ap atom_of e
atom_at_place (b ∷ atoms) (suc k) a h = atom_at_place atoms k a h

-- a variable's origin is the atom that it represents
pub origin_represents : {N S : Type 0} (atoms : List (ProofAtom N S)) (v : VariableId) (a : ProofAtom N S) → Represents atoms v a → origin atoms v.0 ≡ atom_of a
origin_represents atoms v a (k, e, at) = ap (origin atoms) e ∙ atom_at_place atoms k a at

pub represents_other : {N S : Type 0} (atoms : List (ProofAtom N S)) (v : VariableId) (a : ProofAtom N S) → Represents atoms v a → 0 < v.0
represents_other atoms v a (k, e, at) = omega arith

pub represents_below : {N S : Type 0} (atoms : List (ProofAtom N S)) (v : VariableId) (a : ProofAtom N S) → Represents atoms v a → v.0 < suc (length atoms)
represents_below atoms v a (k, e, at) = let below : k < length atoms = slice_get_within atoms k a at in omega arith

pub represents_more : {N S : Type 0} (atoms more : List (ProofAtom N S)) (v : VariableId) (a : ProofAtom N S) → IsPrefixOf atoms more → Represents atoms v a → Represents more v a
represents_more atoms more v a f (k, e, at) = (k, e, prefix_get atoms more k a f at)

-- a variable represents one atom
pub represents_same : {N S : Type 0} (atoms : List (ProofAtom N S)) (v : VariableId) (a b : ProofAtom N S) → Represents atoms v a → Represents atoms v b → a ≡ b
represents_same atoms v a b (j, d, at) (k, e, bt) =
    let same : j ≡ k = omega arith in
    let here : slice_get atoms k ≡ Some a = subst (λ i. slice_get atoms i ≡ Some a) same at in
    cc

-- an atom has one variable
pub one_variable : {N S : Type 0} (atoms : List (ProofAtom N S)) (v w : VariableId) (a : ProofAtom N S) → AreOnce atoms → Represents atoms v a → Represents atoms w a → v ≡ w
one_variable atoms v w a once (j, d, at) (k, e, bt) =
    let same : j ≡ k = once j k a at bt in
    let number : v.0 ≡ w.0 = d ∙ ap suc same ∙ sym e in
    λ i. record { 0 = number i }

-- each variable but the root's represents an atom
pub represents_some : {N S : Type 0} (atoms : List (ProofAtom N S)) (n : ℕ) → 0 < n → n < suc (length atoms) → (k : ℕ) × (a : ProofAtom N S) × (n ≡ suc k) × (slice_get atoms k ≡ Some a)
represents_some atoms zero a b = absurd (omega arith)
represents_some atoms (suc k) a b = let (x, at) = get_below atoms k (omega arith) in (k, x, refl, at)

length-map : {X Y : Type 0} (f : X → Y) (xs : List X) → length (map f xs) ≡ length xs
length-map f [] = refl
length-map f (x ∷ xs) = ap suc (length-map f xs)

pub count_is : {N S : Type 0} (c : SolverState N S) → IsCoding c → count_of c.search ≡ suc (length c.atoms.keys)
count_is c coding = ap (λ (variable_kinds : List VariableKind). length variable_kinds) coding.variable_kinds ∙ ap suc (length-map kind_of c.atoms.keys)

-- no two variables were made for one atom
pub once_origin : {N S : Type 0} (atoms : List (ProofAtom N S)) (count : ℕ) → count ≡ suc (length atoms) → AreOnce atoms → IsOnce (origin atoms) count
once_origin atoms count long once m n a b c d same =
    let (j, x, e, at) = represents_some atoms m a (omega arith) in
    let (k, y, f, bt) = represents_some atoms n c (omega arith) in
    let one : atom_of x ≡ atom_of y = sym (ap (origin atoms) e ∙ atom_at_place atoms j x at) ∙ same ∙ ap (origin atoms) f ∙ atom_at_place atoms k y bt in
    let is : x ≡ y = atom_of_one x y one in
    let place : j ≡ k = once j k y (at ∙ ap Some is) bt in
    omega arith

pub coding_once : {N S : Type 0} (c : SolverState N S) → IsCoding c → IsOnce (origin c.atoms.keys) (count_of c.search)
coding_once c coding = once_origin c.atoms.keys (count_of c.search) (count_is c coding) coding.distinct

-- the solvable of a variable that represents one
pub solvable_represents : {N S : Type 0} (atoms : List (ProofAtom N S)) (v : VariableId) (s : S) → Represents atoms v (Solvable s) → solvable_of atoms v.0 ≡ Some s
solvable_represents atoms v s (k, e, at) = ap (solvable_of atoms) e ∙ ap solvable_in at

pub represents_solvable : {N S : Type 0} (atoms : List (ProofAtom N S)) (v : VariableId) (s : S) → solvable_of atoms v.0 ≡ Some s → Represents atoms v (Solvable s)
represents_solvable {N} {S} atoms v s h = go v.0 refl h
  where
    inside : (o : Option (ProofAtom N S)) → solvable_in o ≡ Some s → o ≡ Some (Solvable s)
    inside None e = absurd cc
    inside (Some (Solvable t)) e = cc
    inside (Some (AtLeastOne n)) e = absurd cc
    inside (Some (Gate r)) e = absurd cc
    inside (Some (Outside u)) e = absurd cc
    inside (Some (Matches u)) e = absurd cc
    inside (Some (Bit n bit)) e = absurd cc

    go : (n : ℕ) → v.0 ≡ n → solvable_of atoms n ≡ Some s → Represents atoms v (Solvable s)
    go zero e i = absurd cc
    go (suc k) e i = (k, e, inside (slice_get atoms k) i)

-- the place of the digit of a variable that represents one
pub bit_represents : {N S : Type 0} (atoms : List (ProofAtom N S)) (v : VariableId) (name : N) (bit : ℕ) → Represents atoms v (Bit name bit) → bit_of atoms v.0 ≡ Some bit
bit_represents atoms v name bit (k, e, at) = ap (bit_of atoms) e ∙ ap bit_in at

-- the place of a solvable's atom
atom_at_solvable : {N S : Type 0} (atoms : List (ProofAtom N S)) (k : ℕ) (s : S) → Atom.solvable s ≡ atom_at atoms k → slice_get atoms k ≡ Some (Solvable s)
atom_at_solvable [] k s h = absurd cc
atom_at_solvable (b ∷ atoms) zero s h = ap Some (atom_of_one b (Solvable s) (sym h))
atom_at_solvable (b ∷ atoms) (suc k) s h = atom_at_solvable atoms k s h

-- a literal that means that a solvable is chosen is positive, and its variable represents the solvable
pub means_solvable : {N S : Type 0} (atoms : List (ProofAtom N S)) (l : Signed) (s : S) → Means (origin atoms) l (plus (Atom.solvable s)) → (l.positive ≡ true) × Represents atoms l.variable (Solvable s)
means_solvable {N} {S} atoms l s (other, e) = (sym (ap (λ (m : Literal (Atom N S)). m.positive) e), go l.variable.0 refl other)
  where
    go : (n : ℕ) → l.variable.0 ≡ n → 0 < n → Represents atoms l.variable (Solvable s)
    go zero i below = absurd (omega arith)
    go (suc k) i below = (k, i, atom_at_solvable atoms k s (ap (λ (m : Literal (Atom N S)). m.atom) e ∙ ap (origin atoms) i))

-- a literal whose variable represents an atom means it, with its sign
pub means_atom : {N S : Type 0} (atoms : List (ProofAtom N S)) (l : Signed) (a : ProofAtom N S) → Represents atoms l.variable a → Means (origin atoms) l (record { atom = atom_of a; positive = l.positive })
means_atom {N} {S} atoms l a present = (represents_other atoms l.variable a present, ap (λ (x : Atom N S). let m : Literal (Atom N S) = record { atom = x; positive = l.positive } in m) (sym (origin_represents atoms l.variable a present)))

pub solvable_means : {N S : Type 0} (atoms : List (ProofAtom N S)) (l : Signed) (s : S) → l.positive ≡ true → Represents atoms l.variable (Solvable s) → Means (origin atoms) l (plus (Atom.solvable s))
solvable_means {N} {S} atoms l s positive present =
    subst (λ b. Means (origin atoms) l (let m : Literal (Atom N S) = record { atom = Atom.solvable s; positive = b } in m)) positive (means_atom atoms l (Solvable s) present)

-- appended atoms leave the others at their places
pub origin_prefix : {N S : Type 0} (atoms more : List (ProofAtom N S)) (n : ℕ) → IsPrefixOf atoms more → 0 < n → n < suc (length atoms) → origin atoms n ≡ origin more n
origin_prefix atoms more n f a b =
    let (k, x, e, at) = represents_some atoms n a b in
    ap (origin atoms) e ∙ atom_at_place atoms k x at ∙ sym (ap (origin more) e ∙ atom_at_place more k x (prefix_get atoms more k x f at))
