-- Equal atoms are one atom, and equal members of a registry one member.
use Rattle.std.specs.Prelude.{◌≡◌, ℕ, ◌+◌, ◌*◌, ◌⊎◌, Bool, true, false, cond, nat_lt, Option, None, Some}
use Rattle.std.proofs.Common.{inl, inr, refl, sym, ap, ◌∙◌, arith}
use Rattle.std.proofs.lemmas.Bool.{both_ways}
use Rattle.resolvo_pool_core.specs.Indexes.{no_index, one_index}
use Rattle.resolvo_pool_core.specs.declared.id.VersionSetId.{VersionSetId}
use Rattle.resolvo_pool_core.specs.declared.id.VersionSetUnionId.{VersionSetUnionId}
use Rattle.resolvo_pool_core.specs.declared.requirement.Requirement.{Requirement}
use Rattle.resolvo_pool_core.specs.declared.requirement.Requirement.TheVariants.{Single, Union}
use Rattle.resolvo_pool_core.specs.declared.id.VariableId.{VariableId}
use Rattle.resolvo_state.specs.declared.registry.Member.{Member}
use Rattle.resolvo_state.specs.declared.atom.ProofAtom.{ProofAtom}
use Rattle.resolvo_state.specs.declared.atom.ProofAtom.TheVariants.{Solvable, AtLeastOne, Gate, Outside, Matches, Bit}

-- the even indexes, and every fourth one from the first on; a number that is too large has none
abbrev pub even_index : Option ℕ → Option ℕ
even_index None = None
even_index (Some i) = cond (nat_lt i 1073741824) (Some (2 * i)) None

abbrev pub fourth_index : ℕ → Option ℕ → Option ℕ
fourth_index first None = None
fourth_index first (Some i) = cond (nat_lt i 1073741824) (Some (4 * i + first)) None

abbrev pub gate_index : Requirement → Option ℕ
gate_index (Single v) = fourth_index 1 (Some v.0)
gate_index (Union u) = None

-- The indexes of solvables are even. Those of gates and of packages are odd, and apart.
abbrev pub indexed_atom : {N S : Type 0} → (S → Option ℕ) → (N → Option ℕ) → ProofAtom N S → Option ℕ
indexed_atom indexed named (Solvable s) = even_index (indexed s)
indexed_atom indexed named (AtLeastOne n) = fourth_index 3 (named n)
indexed_atom indexed named (Gate r) = gate_index r
indexed_atom indexed named (Outside v) = None
indexed_atom indexed named (Matches v) = None
indexed_atom indexed named (Bit n bit) = None

pub even_back : (o : Option ℕ) (i : ℕ) → even_index o ≡ Some i → (j : ℕ) × (o ≡ Some j) × (i ≡ 2 * j)
even_back None i h = no_index h
even_back (Some j) i h = go (nat_lt j 1073741824) h
  where
    go : (b : Bool) → cond b (Some (2 * j)) None ≡ Some i → (k : ℕ) × (Some j ≡ Some k) × (i ≡ 2 * k)
    go true k = (j, refl, sym (one_index k))
    go false k = no_index k

pub fourth_back : (first : ℕ) (o : Option ℕ) (i : ℕ) → fourth_index first o ≡ Some i → (j : ℕ) × (o ≡ Some j) × (i ≡ 4 * j + first)
fourth_back first None i h = no_index h
fourth_back first (Some j) i h = go (nat_lt j 1073741824) h
  where
    go : (b : Bool) → cond b (Some (4 * j + first)) None ≡ Some i → (k : ℕ) × (Some j ≡ Some k) × (i ≡ 4 * k + first)
    go true k = (j, refl, sym (one_index k))
    go false k = no_index k

-- what a number has, another equal one has
moved : {X : Type 0} (indexed : X → Option ℕ) (x : X) (j k : ℕ) → j ≡ k → indexed x ≡ Some j → indexed x ≡ Some k
moved indexed x j k is h = h ∙ ap Some is

-- an even index isn't one of those, and one kind's isn't the other's
even_fourth : {X : Type 0} (first : ℕ) (o p : Option ℕ) (i : ℕ) → (first ≡ 1) ⊎ (first ≡ 3) → even_index o ≡ Some i → fourth_index first p ≡ Some i → X
even_fourth {X} first o p i odd h k =
    let (a, at, is) = even_back o i h in
    let (b, there, so) = fourth_back first p i k in
    elim odd [ inl e ↦ absurd (omega (arith, is, so, e)) | inr e ↦ absurd (omega (arith, is, so, e)) ]

fourths : {X : Type 0} (o p : Option ℕ) (i : ℕ) → fourth_index 1 o ≡ Some i → fourth_index 3 p ≡ Some i → X
fourths {X} o p i h k =
    let (a, at, is) = fourth_back 1 o i h in
    let (b, there, so) = fourth_back 3 p i k in
    absurd (omega (arith, is, so))

-- solvables with one index, packages with one, and gates with one, are one
one_solvable : {S : Type 0} (indexed : S → Option ℕ) → ((s t : S) (i : ℕ) → indexed s ≡ Some i → indexed t ≡ Some i → s ≡ t)
    → (s t : S) (i : ℕ) → even_index (indexed s) ≡ Some i → even_index (indexed t) ≡ Some i → s ≡ t
one_solvable indexed one s t i h k =
    let (a, at, is) = even_back (indexed s) i h in
    let (b, there, so) = even_back (indexed t) i k in
    one s t a at (moved indexed t b a (omega (arith, is, so)) there)

one_package : {N : Type 0} (named : N → Option ℕ) → ((m n : N) (i : ℕ) → named m ≡ Some i → named n ≡ Some i → m ≡ n)
    → (m n : N) (i : ℕ) → fourth_index 3 (named m) ≡ Some i → fourth_index 3 (named n) ≡ Some i → m ≡ n
one_package named one m n i h k =
    let (a, at, is) = fourth_back 3 (named m) i h in
    let (b, there, so) = fourth_back 3 (named n) i k in
    one m n a at (moved named n b a (omega (arith, is, so)) there)

one_gate : (q r : Requirement) (i : ℕ) → gate_index q ≡ Some i → gate_index r ≡ Some i → q ≡ r
one_gate (Single v) (Single w) i h k =
    let (a, at, is) = fourth_back 1 (Some v.0) i h in
    let (b, there, so) = fourth_back 1 (Some w.0) i k in
    let same : v.0 ≡ w.0 = omega (arith, is, so, one_index at, one_index there) in
    ap (λ n. Single (record { 0 = n })) same
one_gate (Single v) (Union w) i h k = no_index k
one_gate (Union v) r i h k = no_index h

gate_even : {X : Type 0} (o : Option ℕ) (r : Requirement) (i : ℕ) → even_index o ≡ Some i → gate_index r ≡ Some i → X
gate_even o (Single v) i h k = even_fourth 1 o (Some v.0) i (inl refl) h k
gate_even o (Union u) i h k = no_index k

gate_package : {X : Type 0} (o : Option ℕ) (r : Requirement) (i : ℕ) → fourth_index 3 o ≡ Some i → gate_index r ≡ Some i → X
gate_package o (Single v) i h k = fourths (Some v.0) o i k h
gate_package o (Union u) i h k = no_index k

-- atoms with one index are one atom
pub alone_atom : {N S : Type 0} (indexed : S → Option ℕ) (named : N → Option ℕ)
    → ((s t : S) (i : ℕ) → indexed s ≡ Some i → indexed t ≡ Some i → s ≡ t)
    → ((m n : N) (i : ℕ) → named m ≡ Some i → named n ≡ Some i → m ≡ n)
    → (x y : ProofAtom N S) (i : ℕ) → indexed_atom indexed named x ≡ Some i → indexed_atom indexed named y ≡ Some i → x ≡ y
alone_atom indexed named one own (Solvable s) (Solvable t) i h k = ap Solvable (one_solvable indexed one s t i h k)
alone_atom indexed named one own (Solvable s) (AtLeastOne n) i h k = even_fourth 3 (indexed s) (named n) i (inr refl) h k
alone_atom indexed named one own (Solvable s) (Gate r) i h k = gate_even (indexed s) r i h k
alone_atom indexed named one own (Solvable s) (Outside v) i h k = no_index k
alone_atom indexed named one own (Solvable s) (Matches v) i h k = no_index k
alone_atom indexed named one own (Solvable s) (Bit n bit) i h k = no_index k
alone_atom indexed named one own (AtLeastOne n) (Solvable t) i h k = even_fourth 3 (indexed t) (named n) i (inr refl) k h
alone_atom indexed named one own (AtLeastOne m) (AtLeastOne n) i h k = ap AtLeastOne (one_package named own m n i h k)
alone_atom indexed named one own (AtLeastOne n) (Gate r) i h k = gate_package (named n) r i h k
alone_atom indexed named one own (AtLeastOne n) (Outside v) i h k = no_index k
alone_atom indexed named one own (AtLeastOne n) (Matches v) i h k = no_index k
alone_atom indexed named one own (AtLeastOne n) (Bit m bit) i h k = no_index k
alone_atom indexed named one own (Gate r) (Solvable t) i h k = gate_even (indexed t) r i k h
alone_atom indexed named one own (Gate r) (AtLeastOne n) i h k = gate_package (named n) r i k h
alone_atom indexed named one own (Gate q) (Gate r) i h k = ap Gate (one_gate q r i h k)
alone_atom indexed named one own (Gate r) (Outside v) i h k = no_index k
alone_atom indexed named one own (Gate r) (Matches v) i h k = no_index k
alone_atom indexed named one own (Gate r) (Bit n bit) i h k = no_index k
alone_atom indexed named one own (Outside v) y i h k = no_index h
alone_atom indexed named one own (Matches v) y i h k = no_index h
alone_atom indexed named one own (Bit n bit) y i h k = no_index h

-- a test of requirements holds of one requirement alone, by its answer for each kind
pub one_requirement : (eq : Requirement → Requirement → Bool)
    → ((v w : VersionSetId) → eq (Single v) (Single w) ≡ true → v.0 ≡ w.0)
    → ((v w : VersionSetUnionId) → eq (Union v) (Union w) ≡ true → v.0 ≡ w.0)
    → ((v : VersionSetId) (w : VersionSetUnionId) → (eq (Single v) (Union w) ≡ false) × (eq (Union w) (Single v) ≡ false))
    → (q r : Requirement) → eq q r ≡ true → q ≡ r
one_requirement eq single union apart (Single v) (Single w) h = ap (λ n. Single (record { 0 = n })) (single v w h)
one_requirement eq single union apart (Single v) (Union w) h = absurd (both_ways _ (apart v w).0 h)
one_requirement eq single union apart (Union v) (Single w) h = absurd (both_ways _ (apart w v).1 h)
one_requirement eq single union apart (Union v) (Union w) h = ap (λ n. Union (record { 0 = n })) (union v w h)

-- a test of atoms holds of one atom alone, by its answer for each kind and for different ones
pub one_atom : {N S : Type 0} (eq : ProofAtom N S → ProofAtom N S → Bool)
    → ((s t : S) → eq (Solvable s) (Solvable t) ≡ true → s ≡ t)
    → ((m n : N) → eq (AtLeastOne m) (AtLeastOne n) ≡ true → m ≡ n)
    → ((q r : Requirement) → eq (Gate q) (Gate r) ≡ true → q ≡ r)
    → ((v w : VersionSetId) → eq (Outside v) (Outside w) ≡ true → v.0 ≡ w.0)
    → ((v w : VersionSetId) → eq (Matches v) (Matches w) ≡ true → v.0 ≡ w.0)
    → ((m n : N) (a b : ℕ) → eq (Bit m a) (Bit n b) ≡ true → (m ≡ n) × (a ≡ b))
    → ((s : S) → ((n : N) → eq (Solvable s) (AtLeastOne n) ≡ false) × ((r : Requirement) → eq (Solvable s) (Gate r) ≡ false) × ((v : VersionSetId) → eq (Solvable s) (Outside v) ≡ false) × ((v : VersionSetId) → eq (Solvable s) (Matches v) ≡ false) × ((n : N) (b : ℕ) → eq (Solvable s) (Bit n b) ≡ false))
    → ((m : N) → ((t : S) → eq (AtLeastOne m) (Solvable t) ≡ false) × ((r : Requirement) → eq (AtLeastOne m) (Gate r) ≡ false) × ((v : VersionSetId) → eq (AtLeastOne m) (Outside v) ≡ false) × ((v : VersionSetId) → eq (AtLeastOne m) (Matches v) ≡ false) × ((n : N) (b : ℕ) → eq (AtLeastOne m) (Bit n b) ≡ false))
    → ((q : Requirement) → ((t : S) → eq (Gate q) (Solvable t) ≡ false) × ((n : N) → eq (Gate q) (AtLeastOne n) ≡ false) × ((v : VersionSetId) → eq (Gate q) (Outside v) ≡ false) × ((v : VersionSetId) → eq (Gate q) (Matches v) ≡ false) × ((n : N) (b : ℕ) → eq (Gate q) (Bit n b) ≡ false))
    → ((u : VersionSetId) → ((t : S) → eq (Outside u) (Solvable t) ≡ false) × ((n : N) → eq (Outside u) (AtLeastOne n) ≡ false) × ((r : Requirement) → eq (Outside u) (Gate r) ≡ false) × ((v : VersionSetId) → eq (Outside u) (Matches v) ≡ false) × ((n : N) (b : ℕ) → eq (Outside u) (Bit n b) ≡ false))
    → ((u : VersionSetId) → ((t : S) → eq (Matches u) (Solvable t) ≡ false) × ((n : N) → eq (Matches u) (AtLeastOne n) ≡ false) × ((r : Requirement) → eq (Matches u) (Gate r) ≡ false) × ((v : VersionSetId) → eq (Matches u) (Outside v) ≡ false) × ((n : N) (b : ℕ) → eq (Matches u) (Bit n b) ≡ false))
    → ((m : N) (a : ℕ) → ((t : S) → eq (Bit m a) (Solvable t) ≡ false) × ((n : N) → eq (Bit m a) (AtLeastOne n) ≡ false) × ((r : Requirement) → eq (Bit m a) (Gate r) ≡ false) × ((v : VersionSetId) → eq (Bit m a) (Outside v) ≡ false) × ((v : VersionSetId) → eq (Bit m a) (Matches v) ≡ false))
    → (x y : ProofAtom N S) → eq x y ≡ true → x ≡ y
one_atom eq solvable any gate outside matches bit a b c d e f (Solvable s) (Solvable t) h = ap Solvable (solvable s t h)
one_atom eq solvable any gate outside matches bit a b c d e f (Solvable s) (AtLeastOne n) h = absurd (both_ways _ ((a s).0 n) h)
one_atom eq solvable any gate outside matches bit a b c d e f (Solvable s) (Gate r) h = absurd (both_ways _ ((a s).1 r) h)
one_atom eq solvable any gate outside matches bit a b c d e f (Solvable s) (Outside v) h = absurd (both_ways _ ((a s).2 v) h)
one_atom eq solvable any gate outside matches bit a b c d e f (Solvable s) (Matches v) h = absurd (both_ways _ ((a s).3 v) h)
one_atom eq solvable any gate outside matches bit a b c d e f (Solvable s) (Bit n k) h = absurd (both_ways _ ((a s).4 n k) h)
one_atom eq solvable any gate outside matches bit a b c d e f (AtLeastOne m) (Solvable t) h = absurd (both_ways _ ((b m).0 t) h)
one_atom eq solvable any gate outside matches bit a b c d e f (AtLeastOne m) (AtLeastOne n) h = ap AtLeastOne (any m n h)
one_atom eq solvable any gate outside matches bit a b c d e f (AtLeastOne m) (Gate r) h = absurd (both_ways _ ((b m).1 r) h)
one_atom eq solvable any gate outside matches bit a b c d e f (AtLeastOne m) (Outside v) h = absurd (both_ways _ ((b m).2 v) h)
one_atom eq solvable any gate outside matches bit a b c d e f (AtLeastOne m) (Matches v) h = absurd (both_ways _ ((b m).3 v) h)
one_atom eq solvable any gate outside matches bit a b c d e f (AtLeastOne m) (Bit n k) h = absurd (both_ways _ ((b m).4 n k) h)
one_atom eq solvable any gate outside matches bit a b c d e f (Gate q) (Solvable t) h = absurd (both_ways _ ((c q).0 t) h)
one_atom eq solvable any gate outside matches bit a b c d e f (Gate q) (AtLeastOne n) h = absurd (both_ways _ ((c q).1 n) h)
one_atom eq solvable any gate outside matches bit a b c d e f (Gate q) (Gate r) h = ap Gate (gate q r h)
one_atom eq solvable any gate outside matches bit a b c d e f (Gate q) (Outside v) h = absurd (both_ways _ ((c q).2 v) h)
one_atom eq solvable any gate outside matches bit a b c d e f (Gate q) (Matches v) h = absurd (both_ways _ ((c q).3 v) h)
one_atom eq solvable any gate outside matches bit a b c d e f (Gate q) (Bit n k) h = absurd (both_ways _ ((c q).4 n k) h)
one_atom eq solvable any gate outside matches bit a b c d e f (Outside u) (Solvable t) h = absurd (both_ways _ ((d u).0 t) h)
one_atom eq solvable any gate outside matches bit a b c d e f (Outside u) (AtLeastOne n) h = absurd (both_ways _ ((d u).1 n) h)
one_atom eq solvable any gate outside matches bit a b c d e f (Outside u) (Gate r) h = absurd (both_ways _ ((d u).2 r) h)
one_atom eq solvable any gate outside matches bit a b c d e f (Outside u) (Outside v) h = ap (λ n. Outside (record { 0 = n })) (outside u v h)
one_atom eq solvable any gate outside matches bit a b c d e f (Outside u) (Matches v) h = absurd (both_ways _ ((d u).3 v) h)
one_atom eq solvable any gate outside matches bit a b c d e f (Outside u) (Bit n k) h = absurd (both_ways _ ((d u).4 n k) h)
one_atom eq solvable any gate outside matches bit a b c d e f (Matches u) (Solvable t) h = absurd (both_ways _ ((e u).0 t) h)
one_atom eq solvable any gate outside matches bit a b c d e f (Matches u) (AtLeastOne n) h = absurd (both_ways _ ((e u).1 n) h)
one_atom eq solvable any gate outside matches bit a b c d e f (Matches u) (Gate r) h = absurd (both_ways _ ((e u).2 r) h)
one_atom eq solvable any gate outside matches bit a b c d e f (Matches u) (Outside v) h = absurd (both_ways _ ((e u).3 v) h)
one_atom eq solvable any gate outside matches bit a b c d e f (Matches u) (Matches v) h = ap (λ n. Matches (record { 0 = n })) (matches u v h)
one_atom eq solvable any gate outside matches bit a b c d e f (Matches u) (Bit n k) h = absurd (both_ways _ ((e u).4 n k) h)
one_atom eq solvable any gate outside matches bit a b c d e f (Bit m j) (Solvable t) h = absurd (both_ways _ ((f m j).0 t) h)
one_atom eq solvable any gate outside matches bit a b c d e f (Bit m j) (AtLeastOne n) h = absurd (both_ways _ ((f m j).1 n) h)
one_atom eq solvable any gate outside matches bit a b c d e f (Bit m j) (Gate r) h = absurd (both_ways _ ((f m j).2 r) h)
one_atom eq solvable any gate outside matches bit a b c d e f (Bit m j) (Outside v) h = absurd (both_ways _ ((f m j).3 v) h)
one_atom eq solvable any gate outside matches bit a b c d e f (Bit m j) (Matches v) h = absurd (both_ways _ ((f m j).4 v) h)
one_atom eq solvable any gate outside matches bit a b c d e f (Bit m j) (Bit n k) h = let p = bit m n j k h in λ i. Bit (p.0 i) (p.1 i)

-- a test of members holds of one member alone
pub one_member : {N : Type 0} (eq : Member N → Member N → Bool) → ((m n : N) (v w : VariableId) → eq (record { name = m; variable = v }) (record { name = n; variable = w }) ≡ true → (m ≡ n) × (v.0 ≡ w.0)) → (x y : Member N) → eq x y ≡ true → x ≡ y
one_member eq parts x y h = let p = parts x.name y.name x.variable y.variable h in λ i. record { name = p.0 i; variable = record { 0 = p.1 i } }
