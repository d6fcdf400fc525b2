-- An exact test of whether two atoms over the ids of a catalogue's provider are the same.
use Rattle.std.proofs.Common.{◌≡◌, Bool, true, false, ◌&&◌, refl, ap}
use Rattle.std.specs.Prelude.{◌==◌}
use Rattle.std.proofs.lemmas.Bool.{eqb-true, eq-eqb, and_parts, and_from, false≢true}
use Rattle.resolvo_pool_core.specs.declared.requirement.Requirement.{Requirement}
use Rattle.resolvo_pool_core.specs.declared.requirement.Requirement.TheVariants.{Single, Union}
use Rattle.resolvo_sat.specs.RuleClauses.{Atom, IsExact, same_requirement}
use Rattle.resolvo_terms.specs.Terms.{NameId}
use Rattle.resolvo_catalogue.specs.Ids.{SolvableId}

abbrev pub same_atom : Atom NameId SolvableId → Atom NameId SolvableId → Bool
same_atom (Atom.solvable s) (Atom.solvable t) = s.raw == t.raw
same_atom (Atom.gate q) (Atom.gate r) = same_requirement q r
same_atom (Atom.outside v) (Atom.outside w) = v.0 == w.0
same_atom (Atom.matches v) (Atom.matches w) = v.0 == w.0
same_atom (Atom.any_of m) (Atom.any_of n) = m.raw == n.raw
same_atom (Atom.digit m a) (Atom.digit n b) = m.raw == n.raw && a == b
same_atom _ _ = false

pub one_requirement : (q r : Requirement) → same_requirement q r ≡ true → q ≡ r
one_requirement (Single v) (Single w) h = ap (λ n. Single (record { 0 = n })) (eqb-true v.0 w.0 h)
one_requirement (Single v) (Union w) h = absurd (false≢true h)
one_requirement (Union v) (Single w) h = absurd (false≢true h)
one_requirement (Union v) (Union w) h = ap (λ n. Union (record { 0 = n })) (eqb-true v.0 w.0 h)

own_requirement : (r : Requirement) → same_requirement r r ≡ true
own_requirement (Single v) = eq-eqb v.0 v.0 refl
own_requirement (Union v) = eq-eqb v.0 v.0 refl

one_atom : (x y : Atom NameId SolvableId) → same_atom x y ≡ true → x ≡ y
one_atom (Atom.solvable s) (Atom.solvable t) h = ap (λ n. Atom.solvable (record { raw = n; tag = record {} })) (eqb-true s.raw t.raw h)
one_atom (Atom.solvable s) (Atom.gate r) h = absurd (false≢true h)
one_atom (Atom.solvable s) (Atom.outside v) h = absurd (false≢true h)
one_atom (Atom.solvable s) (Atom.matches v) h = absurd (false≢true h)
one_atom (Atom.solvable s) (Atom.any_of n) h = absurd (false≢true h)
one_atom (Atom.solvable s) (Atom.digit n b) h = absurd (false≢true h)
one_atom (Atom.gate q) (Atom.solvable t) h = absurd (false≢true h)
one_atom (Atom.gate q) (Atom.gate r) h = ap Atom.gate (one_requirement q r h)
one_atom (Atom.gate q) (Atom.outside v) h = absurd (false≢true h)
one_atom (Atom.gate q) (Atom.matches v) h = absurd (false≢true h)
one_atom (Atom.gate q) (Atom.any_of n) h = absurd (false≢true h)
one_atom (Atom.gate q) (Atom.digit n b) h = absurd (false≢true h)
one_atom (Atom.outside v) (Atom.solvable t) h = absurd (false≢true h)
one_atom (Atom.outside v) (Atom.gate r) h = absurd (false≢true h)
one_atom (Atom.outside v) (Atom.outside w) h = ap (λ n. Atom.outside (record { 0 = n })) (eqb-true v.0 w.0 h)
one_atom (Atom.outside v) (Atom.matches w) h = absurd (false≢true h)
one_atom (Atom.outside v) (Atom.any_of n) h = absurd (false≢true h)
one_atom (Atom.outside v) (Atom.digit n b) h = absurd (false≢true h)
one_atom (Atom.matches v) (Atom.solvable t) h = absurd (false≢true h)
one_atom (Atom.matches v) (Atom.gate r) h = absurd (false≢true h)
one_atom (Atom.matches v) (Atom.outside w) h = absurd (false≢true h)
one_atom (Atom.matches v) (Atom.matches w) h = ap (λ n. Atom.matches (record { 0 = n })) (eqb-true v.0 w.0 h)
one_atom (Atom.matches v) (Atom.any_of n) h = absurd (false≢true h)
one_atom (Atom.matches v) (Atom.digit n b) h = absurd (false≢true h)
one_atom (Atom.any_of m) (Atom.solvable t) h = absurd (false≢true h)
one_atom (Atom.any_of m) (Atom.gate r) h = absurd (false≢true h)
one_atom (Atom.any_of m) (Atom.outside v) h = absurd (false≢true h)
one_atom (Atom.any_of m) (Atom.matches v) h = absurd (false≢true h)
one_atom (Atom.any_of m) (Atom.any_of n) h = ap (λ k. Atom.any_of (record { raw = k; tag = record {} })) (eqb-true m.raw n.raw h)
one_atom (Atom.any_of m) (Atom.digit n b) h = absurd (false≢true h)
one_atom (Atom.digit m a) (Atom.solvable t) h = absurd (false≢true h)
one_atom (Atom.digit m a) (Atom.gate r) h = absurd (false≢true h)
one_atom (Atom.digit m a) (Atom.outside v) h = absurd (false≢true h)
one_atom (Atom.digit m a) (Atom.matches v) h = absurd (false≢true h)
one_atom (Atom.digit m a) (Atom.any_of n) h = absurd (false≢true h)
one_atom (Atom.digit m a) (Atom.digit n b) h =
    let both = and_parts (m.raw == n.raw) (a == b) h in
    let name = eqb-true m.raw n.raw both.0 in
    let bit = eqb-true a b both.1 in
    λ i. Atom.digit (record { raw = name i; tag = record {} }) (bit i)

own_atom : (x : Atom NameId SolvableId) → same_atom x x ≡ true
own_atom (Atom.solvable s) = eq-eqb s.raw s.raw refl
own_atom (Atom.gate r) = own_requirement r
own_atom (Atom.outside v) = eq-eqb v.0 v.0 refl
own_atom (Atom.matches v) = eq-eqb v.0 v.0 refl
own_atom (Atom.any_of n) = eq-eqb n.raw n.raw refl
own_atom (Atom.digit n b) = and_from _ _ (eq-eqb n.raw n.raw refl) (eq-eqb b b refl)

pub exact_atom : IsExact same_atom
exact_atom = record { one = one_atom; own = own_atom }
