-- Two atoms that test alike are one.
use Rattle.std.proofs.Common.{◌≡◌, ℕ, true, List, [], ◌∷◌, refl, ap, eqb}
use Rattle.std.specs.Str.{bytes_eq}
use Rattle.std.specs.Cmp.Lexicographic.{bytes_decides}
use Rattle.std.proofs.lemmas.Bool.{false≢true, and_parts, and_from, eqb-true, eq-eqb}
use Rattle.resolvo_text.specs.declared.spec.Span.{Span}
use Rattle.resolvo_text.specs.declared.spec.Span.TheVariants as span
use Rattle.resolvo_text.specs.Line.{Spec}
use Rattle.resolvo_report.specs.Value.{Atom, Chosen, AnyOf, SharedBy, OutsideOf, MatchesOf, BitOf}
use Rattle.resolvo_checker.specs.AtomValues.{same_span, same_spec, same_specs, same_atom}
use Rattle.resolvo_checker.proofs.Sets.{same_own, same_is}

pub bytes_is : (m n : List ℕ) → bytes_eq m n ≡ true → m ≡ n
bytes_is m n h = (bytes_decides m n).0 h

pub bytes_own : (m : List ℕ) → bytes_eq m m ≡ true
bytes_own m = (bytes_decides m m).1 refl

same_span_is : (s t : Span) → same_span s t ≡ true → s ≡ t
same_span_is span.Any span.Any h = refl
same_span_is (span.One m) (span.One n) h = ap span.One (eqb-true m n h)
same_span_is (span.Range a b) (span.Range c d) h =
    let p = and_parts (eqb a c) (eqb b d) h in
    let e : a ≡ c = eqb-true a c p.0 in
    let f : b ≡ d = eqb-true b d p.1 in cc
same_span_is span.Any (span.One n) h = absurd (false≢true h)
same_span_is span.Any (span.Range c d) h = absurd (false≢true h)
same_span_is (span.One m) span.Any h = absurd (false≢true h)
same_span_is (span.One m) (span.Range c d) h = absurd (false≢true h)
same_span_is (span.Range a b) span.Any h = absurd (false≢true h)
same_span_is (span.Range a b) (span.One n) h = absurd (false≢true h)

pub same_spec_is : (s t : Spec) → same_spec s t ≡ true → s ≡ t
same_spec_is s t h =
    let p = and_parts (bytes_eq s.name t.name) (same_span s.span t.span) h in
    let e : s.name ≡ t.name = bytes_is s.name t.name p.0 in
    let f : s.span ≡ t.span = same_span_is s.span t.span p.1 in
    λ i. record { name = e i; span = f i }

same_specs_is : (ss ts : List Spec) → same_specs ss ts ≡ true → ss ≡ ts
same_specs_is [] [] h = refl
same_specs_is (s ∷ ss) (t ∷ ts) h =
    let p = and_parts (same_spec s t) (same_specs ss ts) h in
    let e : s ≡ t = same_spec_is s t p.0 in
    let f : ss ≡ ts = same_specs_is ss ts p.1 in cc
same_specs_is [] (t ∷ ts) h = absurd (false≢true h)
same_specs_is (s ∷ ss) [] h = absurd (false≢true h)

pub same_atom_is : (a b : Atom) → same_atom a b ≡ true → a ≡ b
same_atom_is (Chosen v) (Chosen w) h = ap Chosen (same_is v w h)
same_atom_is (AnyOf m) (AnyOf n) h = ap AnyOf (bytes_is m n h)
same_atom_is (SharedBy ss) (SharedBy ts) h = ap SharedBy (same_specs_is ss ts h)
same_atom_is (OutsideOf s) (OutsideOf t) h = ap OutsideOf (same_spec_is s t h)
same_atom_is (MatchesOf s) (MatchesOf t) h = ap MatchesOf (same_spec_is s t h)
same_atom_is (BitOf i m) (BitOf j n) h =
    let p = and_parts (eqb i j) (bytes_eq m n) h in
    let e : i ≡ j = eqb-true i j p.0 in
    let f : m ≡ n = bytes_is m n p.1 in cc
same_atom_is (Chosen v) (AnyOf n) h = absurd (false≢true h)
same_atom_is (Chosen v) (SharedBy n) h = absurd (false≢true h)
same_atom_is (Chosen v) (OutsideOf n) h = absurd (false≢true h)
same_atom_is (Chosen v) (BitOf j n) h = absurd (false≢true h)
same_atom_is (AnyOf m) (Chosen n) h = absurd (false≢true h)
same_atom_is (AnyOf m) (SharedBy n) h = absurd (false≢true h)
same_atom_is (AnyOf m) (OutsideOf n) h = absurd (false≢true h)
same_atom_is (AnyOf m) (BitOf j n) h = absurd (false≢true h)
same_atom_is (SharedBy m) (Chosen n) h = absurd (false≢true h)
same_atom_is (SharedBy m) (AnyOf n) h = absurd (false≢true h)
same_atom_is (SharedBy m) (OutsideOf n) h = absurd (false≢true h)
same_atom_is (SharedBy m) (BitOf j n) h = absurd (false≢true h)
same_atom_is (OutsideOf m) (Chosen n) h = absurd (false≢true h)
same_atom_is (OutsideOf m) (AnyOf n) h = absurd (false≢true h)
same_atom_is (OutsideOf m) (SharedBy n) h = absurd (false≢true h)
same_atom_is (OutsideOf m) (BitOf j n) h = absurd (false≢true h)
same_atom_is (BitOf i m) (Chosen n) h = absurd (false≢true h)
same_atom_is (BitOf i m) (AnyOf n) h = absurd (false≢true h)
same_atom_is (BitOf i m) (SharedBy n) h = absurd (false≢true h)
same_atom_is (BitOf i m) (OutsideOf n) h = absurd (false≢true h)
same_atom_is (Chosen v) (MatchesOf n) h = absurd (false≢true h)
same_atom_is (AnyOf m) (MatchesOf n) h = absurd (false≢true h)
same_atom_is (SharedBy m) (MatchesOf n) h = absurd (false≢true h)
same_atom_is (OutsideOf m) (MatchesOf n) h = absurd (false≢true h)
same_atom_is (BitOf i m) (MatchesOf n) h = absurd (false≢true h)
same_atom_is (MatchesOf m) (Chosen n) h = absurd (false≢true h)
same_atom_is (MatchesOf m) (AnyOf n) h = absurd (false≢true h)
same_atom_is (MatchesOf m) (SharedBy n) h = absurd (false≢true h)
same_atom_is (MatchesOf m) (OutsideOf n) h = absurd (false≢true h)
same_atom_is (MatchesOf m) (BitOf j n) h = absurd (false≢true h)

-- ---- an atom is itself

pub own : (n : ℕ) → eqb n n ≡ true
own n = eq-eqb n n refl

span_own : (s : Span) → same_span s s ≡ true
span_own span.Any = refl
span_own (span.One n) = own n
span_own (span.Range a b) = and_from _ _ (own a) (own b)

spec_own : (s : Spec) → same_spec s s ≡ true
spec_own s = and_from _ _ (bytes_own s.name) (span_own s.span)

specs_own : (ss : List Spec) → same_specs ss ss ≡ true
specs_own [] = refl
specs_own (s ∷ ss) = and_from _ _ (spec_own s) (specs_own ss)

pub atom_own : (a : Atom) → same_atom a a ≡ true
atom_own (Chosen v) = same_own v
atom_own (AnyOf n) = bytes_own n
atom_own (SharedBy ss) = specs_own ss
atom_own (OutsideOf s) = spec_own s
atom_own (MatchesOf s) = spec_own s
atom_own (BitOf i n) = and_from _ _ (own i) (bytes_own n)
