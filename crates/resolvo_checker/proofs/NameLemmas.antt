-- Numbers are names of atoms: two numbers are one exactly if their atoms are. How numbered clauses grow.
use Rattle.std.proofs.Common.{◌≡◌, ℕ, Bool, false, List, [], ◌∷◌, ◌++◌, length, Some, refl, sym, ap, subst, ◌∙◌, inl, inr, eqb, arith}
use Rattle.std.specs.Prelude.{slice_get}
use Rattle.std.specs.Global.{Vec}
use Rattle.std.specs.List.{flat_map}
use Rattle.std.proofs.lemmas.Bool.{cases_Bool, false≢true, eqb-true, eq-eqb, false_from_ne_true}
use Rattle.std.proofs.lemmas.Option.{same_Some}
use Rattle.std.proofs.lemmas.List.{append_assoc, append-nil, map-append}
use Rattle.resolvo_text.specs.declared.spec.Span.{Span}
use Rattle.resolvo_text.specs.declared.spec.Span.TheVariants as span
use Rattle.resolvo_text.specs.Line.{Version, Spec}
use Rattle.resolvo_catalogue_core.specs.Listed.{AreDistinct}
use Rattle.resolvo_pool_core.specs.OnePass as pass
use Rattle.resolvo_pool_core.specs.OnePass.{AreNamed, AreNamedClauses}
use Rattle.resolvo_report.specs.Value.{Atom, Chosen, AnyOf, SharedBy, OutsideOf, MatchesOf, BitOf}
use Rattle.resolvo_checker.specs.declared.literal.Literal.{Literal}
use Rattle.resolvo_checker.specs.Literals.{literal_of, literals_of}
use Rattle.resolvo_checker.specs.Numbers.{number_in, AreNumbers, Keeps}
use Rattle.resolvo_checker.specs.StepClauses.{Clause, literal}
use Rattle.resolvo_checker.specs.AtomValues.{same_atom}
use Rattle.resolvo_checker.specs.Keys.{span_key, spec_key, IsKey, Names, Numbered, Extends}
use Rattle.resolvo_checker.proofs.Atoms.{same_atom_is, atom_own}

-- ---- an atom's key is its own

-- two names, each before its rest, of one length
names_are : (m n xs ys : List ℕ) → length m ≡ length n → m ++ xs ≡ n ++ ys → (m ≡ n) × (xs ≡ ys)
names_are [] [] xs ys l h = (refl, h)
names_are [] (b ∷ n) xs ys l h = absurd (omega (arith, l))
names_are (a ∷ m) [] xs ys l h = absurd (omega (arith, l))
names_are (a ∷ m) (b ∷ n) xs ys l h =
    let k : length m ≡ length n = omega (arith, l) in
    let t : m ++ xs ≡ n ++ ys = cc in
    let e : a ≡ b = cc in
    let p = names_are m n xs ys k t in
    (ap (λ c. c ∷ m) e ∙ ap (λ c. b ∷ c) p.0, p.1)

span_key_is : (a b : Span) (xs ys : List ℕ) → span_key a ++ xs ≡ span_key b ++ ys → (a ≡ b) × (xs ≡ ys)
span_key_is span.Any span.Any xs ys k = let r : xs ≡ ys = cc in (refl, r)
span_key_is (span.One m) (span.One n) xs ys k = let q : m ≡ n = cc in let r : xs ≡ ys = cc in (ap span.One q, r)
span_key_is (span.Range a b) (span.Range c d) xs ys k = let q : span.Range a b ≡ span.Range c d = cc in let r : xs ≡ ys = cc in (q, r)
span_key_is span.Any (span.One n) xs ys k = absurd cc
span_key_is span.Any (span.Range c d) xs ys k = absurd cc
span_key_is (span.One m) span.Any xs ys k = absurd cc
span_key_is (span.One m) (span.Range c d) xs ys k = absurd cc
span_key_is (span.Range a b) span.Any xs ys k = absurd cc
span_key_is (span.Range a b) (span.One n) xs ys k = absurd cc

head : (m n : ℕ) (xs ys : List ℕ) → m ∷ xs ≡ n ∷ ys → m ≡ n
head m n xs ys h = cc

pub tail : (m n : ℕ) (xs ys : List ℕ) → m ∷ xs ≡ n ∷ ys → xs ≡ ys
tail m n xs ys h = cc

-- two keys of SPECs, each before its rest
spec_key_is : (s t : Spec) (xs ys : List ℕ) → spec_key s ++ xs ≡ spec_key t ++ ys → (s ≡ t) × (xs ≡ ys)
spec_key_is s t xs ys h =
    let l : length s.name ≡ length t.name = head (length s.name) (length t.name) ((s.name ++ span_key s.span) ++ xs) ((t.name ++ span_key t.span) ++ ys) h in
    let k : (s.name ++ span_key s.span) ++ xs ≡ (t.name ++ span_key t.span) ++ ys = tail (length s.name) (length t.name) ((s.name ++ span_key s.span) ++ xs) ((t.name ++ span_key t.span) ++ ys) h in
    let n = names_are s.name t.name (span_key s.span ++ xs) (span_key t.span ++ ys) l (sym (append_assoc s.name (span_key s.span) xs) ∙ (k ∙ append_assoc t.name (span_key t.span) ys)) in
    let p = span_key_is s.span t.span xs ys n.1 in
    let e : s.name ≡ t.name = n.0 in
    let d : s.span ≡ t.span = p.0 in
    (λ i. record { name = e i; span = d i }, p.1)

pub specs_key_is : (ss ts : List Spec) → flat_map spec_key ss ≡ flat_map spec_key ts → ss ≡ ts
specs_key_is [] [] h = refl
specs_key_is [] (t ∷ ts) h = absurd cc
specs_key_is (s ∷ ss) [] h = absurd cc
specs_key_is (s ∷ ss) (t ∷ ts) h =
    let p = spec_key_is s t (flat_map spec_key ss) (flat_map spec_key ts) h in
    let e : s ≡ t = p.0 in
    let f : ss ≡ ts = specs_key_is ss ts p.1 in cc

spec_key_alone : (s t : Spec) → spec_key s ≡ spec_key t → s ≡ t
spec_key_alone s t h = (spec_key_is s t [] [] (ap (λ k. k ++ []) h)).0

module _ (versions : List Version) (distinct : AreDistinct versions) where
  -- an atom has one key
  key_alone : (a : Atom) (k l : List ℕ) → IsKey versions a k → IsKey versions a l → k ≡ l
  key_alone (Chosen v) k l p q = p.2 ∙ (ap (λ (n : ℕ). 0 ∷ n ∷ []) (distinct v p.0 q.0 p.1 q.1) ∙ sym q.2)
  key_alone (AnyOf m) k l p q = p ∙ sym q
  key_alone (SharedBy ss) k l p q = p ∙ sym q
  key_alone (OutsideOf s) k l p q = p ∙ sym q
  key_alone (MatchesOf s) k l p q = p ∙ sym q
  key_alone (BitOf i m) k l p q = p ∙ sym q

  other_heads : {P : Type 0} (m n : ℕ) (xs ys k : List ℕ) → k ≡ m ∷ xs → k ≡ n ∷ ys → eqb m n ≡ false → P
  other_heads m n xs ys k p q h = absurd (false≢true (sym h ∙ eq-eqb m n (head m n xs ys (sym p ∙ q))))

  tails : (m : ℕ) (xs ys k : List ℕ) → k ≡ m ∷ xs → k ≡ m ∷ ys → xs ≡ ys
  tails m xs ys k p q = tail m m xs ys (sym p ∙ q)

  -- a key is of one atom
  key_is : (a b : Atom) (k : List ℕ) → IsKey versions a k → IsKey versions b k → a ≡ b
  key_is (Chosen v) (Chosen w) k p q =
      let n : p.0 ≡ q.0 = head p.0 q.0 [] [] (tails 0 (p.0 ∷ []) (q.0 ∷ []) k p.2 q.2) in
      ap Chosen (same_Some v w (sym p.1 ∙ (ap (slice_get versions) n ∙ q.1)))
  key_is (AnyOf m) (AnyOf n) k p q = ap AnyOf (tails 1 m n k p q)
  key_is (SharedBy ss) (SharedBy ts) k p q = ap SharedBy (specs_key_is ss ts (tails 2 (flat_map spec_key ss) (flat_map spec_key ts) k p q))
  key_is (OutsideOf s) (OutsideOf t) k p q = ap OutsideOf (spec_key_alone s t (tails 3 (spec_key s) (spec_key t) k p q))
  key_is (MatchesOf s) (MatchesOf t) k p q = ap MatchesOf (spec_key_alone s t (tails 5 (spec_key s) (spec_key t) k p q))
  key_is (BitOf i m) (BitOf j n) k p q =
      let t : i ∷ m ≡ j ∷ n = tails 4 (i ∷ m) (j ∷ n) k p q in
      let e : i ≡ j = head i j m n t in
      let f : m ≡ n = tail i j m n t in cc
  key_is (Chosen v) (AnyOf n) k p q = other_heads 0 1 (p.0 ∷ []) n k p.2 q refl
  key_is (Chosen v) (SharedBy ts) k p q = other_heads 0 2 (p.0 ∷ []) (flat_map spec_key ts) k p.2 q refl
  key_is (Chosen v) (OutsideOf t) k p q = other_heads 0 3 (p.0 ∷ []) (spec_key t) k p.2 q refl
  key_is (Chosen v) (BitOf j n) k p q = other_heads 0 4 (p.0 ∷ []) (j ∷ n) k p.2 q refl
  key_is (AnyOf m) (Chosen w) k p q = other_heads 1 0 m (q.0 ∷ []) k p q.2 refl
  key_is (AnyOf m) (SharedBy ts) k p q = other_heads 1 2 m (flat_map spec_key ts) k p q refl
  key_is (AnyOf m) (OutsideOf t) k p q = other_heads 1 3 m (spec_key t) k p q refl
  key_is (AnyOf m) (BitOf j n) k p q = other_heads 1 4 m (j ∷ n) k p q refl
  key_is (SharedBy ss) (Chosen w) k p q = other_heads 2 0 (flat_map spec_key ss) (q.0 ∷ []) k p q.2 refl
  key_is (SharedBy ss) (AnyOf n) k p q = other_heads 2 1 (flat_map spec_key ss) n k p q refl
  key_is (SharedBy ss) (OutsideOf t) k p q = other_heads 2 3 (flat_map spec_key ss) (spec_key t) k p q refl
  key_is (SharedBy ss) (BitOf j n) k p q = other_heads 2 4 (flat_map spec_key ss) (j ∷ n) k p q refl
  key_is (OutsideOf s) (Chosen w) k p q = other_heads 3 0 (spec_key s) (q.0 ∷ []) k p q.2 refl
  key_is (OutsideOf s) (AnyOf n) k p q = other_heads 3 1 (spec_key s) n k p q refl
  key_is (OutsideOf s) (SharedBy ts) k p q = other_heads 3 2 (spec_key s) (flat_map spec_key ts) k p q refl
  key_is (OutsideOf s) (BitOf j n) k p q = other_heads 3 4 (spec_key s) (j ∷ n) k p q refl
  key_is (BitOf i m) (Chosen w) k p q = other_heads 4 0 (i ∷ m) (q.0 ∷ []) k p q.2 refl
  key_is (BitOf i m) (AnyOf n) k p q = other_heads 4 1 (i ∷ m) n k p q refl
  key_is (BitOf i m) (SharedBy ts) k p q = other_heads 4 2 (i ∷ m) (flat_map spec_key ts) k p q refl
  key_is (BitOf i m) (OutsideOf t) k p q = other_heads 4 3 (i ∷ m) (spec_key t) k p q refl
  key_is (Chosen v) (MatchesOf t) k p q = other_heads 0 5 (p.0 ∷ []) (spec_key t) k p.2 q refl
  key_is (AnyOf m) (MatchesOf t) k p q = other_heads 1 5 m (spec_key t) k p q refl
  key_is (SharedBy ss) (MatchesOf t) k p q = other_heads 2 5 (flat_map spec_key ss) (spec_key t) k p q refl
  key_is (OutsideOf s) (MatchesOf t) k p q = other_heads 3 5 (spec_key s) (spec_key t) k p q refl
  key_is (BitOf i m) (MatchesOf t) k p q = other_heads 4 5 (i ∷ m) (spec_key t) k p q refl
  key_is (MatchesOf s) (Chosen w) k p q = other_heads 5 0 (spec_key s) (q.0 ∷ []) k p q.2 refl
  key_is (MatchesOf s) (AnyOf n) k p q = other_heads 5 1 (spec_key s) n k p q refl
  key_is (MatchesOf s) (SharedBy ts) k p q = other_heads 5 2 (spec_key s) (flat_map spec_key ts) k p q refl
  key_is (MatchesOf s) (OutsideOf t) k p q = other_heads 5 3 (spec_key s) (spec_key t) k p q refl
  key_is (MatchesOf s) (BitOf j n) k p q = other_heads 5 4 (spec_key s) (j ∷ n) k p q refl

  -- two numbers are one exactly if their atoms are
  pub names_agree : (entries : List (Vec ℕ × ℕ)) (count : ℕ) → AreNumbers entries count → (a b : Atom) (i j : ℕ) → Names versions entries a i → Names versions entries b j → eqb i j ≡ same_atom a b
  names_agree entries count numbers a b i j p q = elim (cases_Bool (eqb i j)) [
    | inl e ↦
        let same : i ≡ j = eqb-true i j e in
        let k : p.0 ≡ q.0 = numbers.apart p.0 q.0 i p.2 (q.2 ∙ ap Some (sym same)) in
        e ∙ sym (ap (λ x. same_atom x b) (key_is a b q.0 (subst (IsKey versions a) k p.1) q.1) ∙ atom_own b)
    | inr e ↦ e ∙ sym (false_from_ne_true (same_atom a b) (λ t.
        let one : a ≡ b = same_atom_is a b t in
        let k : p.0 ≡ q.0 = key_alone b p.0 q.0 (subst (λ x. IsKey versions x p.0) one p.1) q.1 in
        false≢true (sym e ∙ eq-eqb i j (same_Some i j (sym p.2 ∙ (ap (number_in entries) k ∙ q.2))))))
  ]

-- ---- numbered clauses as they grow

module _ (versions : List Version) where
  pub named_kept : (old new : List (Vec ℕ × ℕ)) → Keeps old new → (ms : Clause) (ls : List (pass.Literal ℕ)) → AreNamed (Names versions old) ms ls → AreNamed (Names versions new) ms ls
  named_kept old new k [] [] n = tt
  named_kept old new k [] (l ∷ ls) n = absurd n
  named_kept old new k (m ∷ ms) [] n = absurd n
  named_kept old new k (m ∷ ms) (l ∷ ls) n = ((n.0.0, n.0.1, k n.0.0 l.atom n.0.2), n.1, named_kept old new k ms ls n.2)

  named_push : (entries : List (Vec ℕ × ℕ)) (ms : Clause) (ls : List (pass.Literal ℕ)) (m : pass.Literal Atom) (l : pass.Literal ℕ) → AreNamed (Names versions entries) ms ls → Names versions entries m.atom l.atom → l.positive ≡ m.positive
      → AreNamed (Names versions entries) (ms ++ m ∷ []) (ls ++ l ∷ [])
  named_push entries [] [] m l n g p = (g, p, tt)
  named_push entries [] (k ∷ ks) m l n g p = absurd n
  named_push entries (d ∷ ds) [] m l n g p = absurd n
  named_push entries (d ∷ ds) (k ∷ ks) m l n g p = (n.0, n.1, named_push entries ds ks m l n.2 g p)

  pub extends_one : (old : List (Vec ℕ × ℕ)) (before : List Literal) (new : List (Vec ℕ × ℕ)) (a : Atom) (key : List ℕ) (i : ℕ) (p : Bool) → Keeps old new → IsKey versions a key → number_in new key ≡ Some i
      → Extends versions old before new (before ++ record { atom = i; positive = p } ∷ []) (literal a p ∷ [])
  extends_one old before new a key i p k is g = record {
    keeps = k;
    adds = λ c n. subst (AreNamed (Names versions new) (c ++ literal a p ∷ [])) (sym (map-append literal_of before (record { atom = i; positive = p } ∷ [])))
        (named_push new c (literals_of before) (literal a p) (record { atom = i; positive = p }) (named_kept old new k c (literals_of before) n) (key, is, g) refl);
  }

  pub extends_none : (old : List (Vec ℕ × ℕ)) (before : List Literal) → Extends versions old before old before []
  extends_none old before = record { keeps = λ a i h. h; adds = λ c n. subst (λ d. Numbered versions old d before) (sym (append-nil c)) n }

  pub extends_then : (a : List (Vec ℕ × ℕ)) (x : List Literal) (b : List (Vec ℕ × ℕ)) (y : List Literal) (d : List (Vec ℕ × ℕ)) (z : List Literal) (first second : Clause) → Extends versions a x b y first → Extends versions b y d z second → Extends versions a x d z (first ++ second)
  extends_then a x b y d z first second e f = record {
    keeps = λ k i h. f.keeps k i (e.keeps k i h);
    adds = λ c n. subst (λ m. Numbered versions d m z) (append_assoc c first second) (f.adds (c ++ first) (e.adds c n));
  }

  -- a clause that starts from nothing
  pub extends_all : (old new : List (Vec ℕ × ℕ)) (ids : List Literal) (c : Clause) → Extends versions old [] new ids c → Numbered versions new c ids
  extends_all old new ids c e = e.adds [] tt
