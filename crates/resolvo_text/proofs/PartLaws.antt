-- The parts of a line: parsing and spelling are inverse.
use Rattle.std.proofs.Common.{◌≡◌, ℕ, zero, suc, ◌<◌, ◌≤◌, ◌⊎◌, inl, inr, Bool, true, false, cond, List, [], ◌∷◌, ◌++◌, length, Option, Some, None, refl, sym, ap, subst, ◌∙◌, append_assoc, arith}
use Rattle.std.specs.Prelude.{codes, IsTrue, ⊤}
use Rattle.std.specs.Fmt.{decimal}
use Rattle.std.specs.Str.{bytes_eq}
use Rattle.std.specs.List.{AllByRecursion}
use Rattle.std.proofs.lemmas.Slice.Eq.{bytes_eq-Decides}
use Rattle.std.proofs.lemmas.Option.{cond_some, same_Some}
use Rattle.resolvo_text.specs.declared.spec.Span.{Span}
use Rattle.resolvo_text.specs.declared.spec.Span.TheVariants.{Any, One, Range}
use Rattle.resolvo_text.specs.Line.{Version, Spec}
use Rattle.resolvo_text.specs.Spelling.{Words, is_name, IsVersion, IsSpan, IsSpec, version_words, span_words, spec_words, alternatives_words}
use Rattle.resolvo_text.specs.Parse.{◌>>=◌, word_at, name_in, number_in, span_in, with_span, span_at, version_at, reason_at, spec_at, skip, with_first, alternatives_at, end_at, whole_of}
use Rattle.resolvo_text.proofs.NumberLemmas.{number_in-decimal, number_in_spells}
use Rattle.resolvo_text.proofs.AlternativeLemmas.{bind_some}
use Rattle.resolvo_text.proofs.SpanLaws.{span_again, span_takes, not_a_span}

pub name_takes : (word name : List ℕ) → name_in word ≡ Some name → (word ≡ name) × IsTrue (is_name name)
unfolding name_in
name_takes word name e = let g = cond_some (is_name word) word name e in (g.1, subst (λ (w : List ℕ). is_name w ≡ true) g.1 g.0)

pub name_again : (name : List ℕ) → IsTrue (is_name name) → name_in name ≡ Some name
unfolding name_in
name_again name named = rw named refl

pub word_takes : (words : Words) (word : List ℕ) (rest : Words) → word_at words ≡ Some (word, rest) → words ≡ word ∷ rest
word_takes [] word rest e = absurd cc
word_takes (w ∷ ws) word rest e = let p : ◌≡◌ {A = List ℕ × Words} (w, ws) (word, rest) = same_Some _ _ e in ap (λ (x : List ℕ × Words). x.0 ∷ x.1) p

-- ---- versions and reasons

pub version_takes : (words : Words) (v : Version) (rest : Words) → version_at words ≡ Some (v, rest) → (words ≡ version_words v ++ rest) × IsVersion v
unfolding version_at
version_takes words v rest e =
    let a = bind_some (word_at words) (λ first. name_in first.0 >>= λ name. word_at first.1 >>= λ second. number_in second.0 >>= λ n. Some (record { name = name; number = n }, second.1)) (v, rest) e in
    let b = bind_some (name_in a.0.0) (λ name. word_at a.0.1 >>= λ second. number_in second.0 >>= λ n. Some (record { name = name; number = n }, second.1)) (v, rest) a.2 in
    let c = bind_some (word_at a.0.1) (λ second. number_in second.0 >>= λ n. Some (record { name = b.0; number = n }, second.1)) (v, rest) b.2 in
    let d = bind_some (number_in c.0.0) (λ n. Some (record { name = b.0; number = n }, c.0.1)) (v, rest) c.2 in
    let name = name_takes a.0.0 b.0 b.1 in
    let number = number_in_spells c.0.0 d.0 d.1 in
    let made : Version × Words = (record { name = b.0; number = d.0 }, c.0.1) in
    let is : made ≡ (v, rest) = same_Some _ _ d.2 in
    let spelled : words ≡ version_words made.0 ++ made.1 = word_takes words a.0.0 a.0.1 a.1 ∙ ap (λ (ws : Words). a.0.0 ∷ ws) (word_takes a.0.1 c.0.0 c.0.1 c.1) ∙ ap (λ (w : List ℕ). w ∷ c.0.0 ∷ c.0.1) name.0 ∙ ap (λ (w : List ℕ). b.0 ∷ w ∷ c.0.1) number.0 in
    subst (λ (x : Version × Words). (words ≡ version_words x.0 ++ x.1) × IsVersion x.0) is (spelled, record { name = name.1; number = number.1 })

pub version_again : (v : Version) (rest : Words) → IsVersion v → version_at (version_words v ++ rest) ≡ Some (v, rest)
unfolding version_at
version_again v rest fits = rw (name_again v.name fits.name, number_in-decimal v.number fits.number) refl

pub reason_takes : (words : Words) (reason : List ℕ) (rest : Words) → reason_at words ≡ Some (reason, rest) → (words ≡ reason ∷ rest) × IsTrue (is_name reason)
unfolding reason_at
reason_takes words reason rest e =
    let a = bind_some (word_at words) (λ first. name_in first.0 >>= λ name. Some (name, first.1)) (reason, rest) e in
    let b = bind_some (name_in a.0.0) (λ name. Some (name, a.0.1)) (reason, rest) a.2 in
    let name = name_takes a.0.0 b.0 b.1 in
    let is : ◌≡◌ {A = List ℕ × Words} (b.0, a.0.1) (reason, rest) = same_Some _ _ b.2 in
    subst (λ (x : List ℕ × Words). (words ≡ x.0 ∷ x.1) × IsTrue (is_name x.0)) is (word_takes words a.0.0 a.0.1 a.1 ∙ ap (λ (w : List ℕ). w ∷ a.0.1) name.0, name.1)

pub reason_again : (reason : List ℕ) (rest : Words) → IsTrue (is_name reason) → reason_at (reason ∷ rest) ≡ Some (reason, rest)
unfolding reason_at
reason_again reason rest named = rw (name_again reason named) refl

-- ---- SPECs

-- no span begins the words
abbrev pub BeginsNoSpan : Words → Type 0
BeginsNoSpan [] = ⊤
BeginsNoSpan (word ∷ words) = span_in word ≡ None

with_span_takes : (word : List ℕ) (words : Words) (o : Option Span) → span_in word ≡ o
    → (word ∷ words ≡ span_words (with_span o (word ∷ words) words).0 ++ (with_span o (word ∷ words) words).1) × IsSpan (with_span o (word ∷ words) words).0
with_span_takes word words None is = (refl, tt)
with_span_takes word words (Some span) is = let h = span_takes word span is in (ap (λ (ws : Words). ws ++ words) (sym h.0), h.1)

span_at_takes : (words : Words) → (words ≡ span_words (span_at words).0 ++ (span_at words).1) × IsSpan (span_at words).0
unfolding span_at
span_at_takes [] = (refl, tt)
span_at_takes (word ∷ words) = with_span_takes word words (span_in word) refl

span_at_again : (span : Span) (rest : Words) → IsSpan span → BeginsNoSpan rest → span_at (span_words span ++ rest) ≡ (span, rest)
unfolding span_at
span_at_again Any [] fits none = refl
span_at_again Any (word ∷ words) fits none = rw none refl
span_at_again (One n) rest fits none = rw (span_again (One n) (decimal n) fits refl) refl
span_at_again (Range low high) rest fits none = rw (span_again (Range low high) _ fits refl) refl

pub spec_takes : (words : Words) (s : Spec) (rest : Words) → spec_at words ≡ Some (s, rest) → (words ≡ spec_words s ++ rest) × IsSpec s
unfolding spec_at
spec_takes words s rest e =
    let a = bind_some (word_at words) (λ first. name_in first.0 >>= λ name. Some (record { name = name; span = (span_at first.1).0 }, (span_at first.1).1)) (s, rest) e in
    let b = bind_some (name_in a.0.0) (λ name. Some (record { name = name; span = (span_at a.0.1).0 }, (span_at a.0.1).1)) (s, rest) a.2 in
    let name = name_takes a.0.0 b.0 b.1 in
    let span = span_at_takes a.0.1 in
    let made : Spec × Words = (record { name = b.0; span = (span_at a.0.1).0 }, (span_at a.0.1).1) in
    let is : made ≡ (s, rest) = same_Some _ _ b.2 in
    let spelled : words ≡ spec_words made.0 ++ made.1 = word_takes words a.0.0 a.0.1 a.1 ∙ ap (λ (w : List ℕ). w ∷ a.0.1) name.0 ∙ ap (λ (ws : Words). b.0 ∷ ws) span.0 in
    subst (λ (x : Spec × Words). (words ≡ spec_words x.0 ++ x.1) × IsSpec x.0) is (spelled, record { name = name.1; span = span.1 })

pub spec_again : (s : Spec) (rest : Words) → IsSpec s → BeginsNoSpan rest → spec_at (spec_words s ++ rest) ≡ Some (s, rest)
unfolding spec_at
spec_again s rest fits none = rw (name_again s.name fits.name, span_at_again s.span rest fits.span none) refl

-- ---- alternatives

skip_split : (k word : List ℕ) (words : Words) (b : Bool) → bytes_eq word k ≡ b → (cond {A = Bool × Words} b (true, words) (false, word ∷ words)).0 ≡ true
    → word ∷ words ≡ k ∷ (cond {A = Bool × Words} b (true, words) (false, word ∷ words)).1
skip_split k word words true is e = ap (λ (w : List ℕ). w ∷ words) ((bytes_eq-Decides word k).0 is)
skip_split k word words false is e = absurd cc

no_skip_split : (word : List ℕ) (words : Words) (b : Bool) → (cond {A = Bool × Words} b (true, words) (false, word ∷ words)).0 ≡ false
    → (cond {A = Bool × Words} b (true, words) (false, word ∷ words)).1 ≡ word ∷ words
no_skip_split word words true e = absurd cc
no_skip_split word words false e = refl

pub skip_is : (k : List ℕ) (words : Words) → skip k (k ∷ words) ≡ (true, words)
unfolding skip
skip_is k words = rw ((bytes_eq-Decides k k).1 refl) refl

pub skip_takes : (k : List ℕ) (words : Words) → (skip k words).0 ≡ true → words ≡ k ∷ (skip k words).1
unfolding skip
skip_takes k [] e = absurd cc
skip_takes k (word ∷ words) e = skip_split k word words (bytes_eq word k) refl e

pub skip_misses : (k : List ℕ) (words : Words) → (skip k words).0 ≡ false → (skip k words).1 ≡ words
unfolding skip
skip_misses k [] e = refl
skip_misses k (word ∷ words) e = no_skip_split word words (bytes_eq word k) e

-- this word does not begin the words
abbrev pub BeginsNot : List ℕ → Words → Type 0
BeginsNot k [] = ⊤
BeginsNot k (word ∷ words) = bytes_eq word k ≡ false

pub no_skip : (k : List ℕ) (words : Words) → BeginsNot k words → skip k words ≡ (false, words)
unfolding skip
no_skip k [] none = refl
no_skip k (word ∷ words) none = rw none refl

alternatives_words-more : (s : Spec) (ss : List Spec) → 0 < length ss → alternatives_words (s ∷ ss) ≡ spec_words s ++ codes "|" ∷ alternatives_words ss
alternatives_words-more s [] lt = absurd (omega arith)
alternatives_words-more s (t ∷ ts) lt = refl

pub record AreAlternatives (words : Words) (ss : List Spec) (rest : Words) : Type 0 where
  pub spelled : words ≡ alternatives_words ss ++ rest
  pub some : 0 < length ss
  pub each : AllByRecursion IsSpec ss

pub chosen : {A : Type 0} (b : Bool) (x y z : A) → cond b x y ≡ z → ((b ≡ true) × (x ≡ z)) ⊎ ((b ≡ false) × (y ≡ z))
chosen true x y z e = inl (refl, e)
chosen false x y z e = inr (refl, e)

pub alternatives_take : (n : ℕ) (words : Words) (ss : List Spec) (rest : Words) → alternatives_at n words ≡ Some (ss, rest) → AreAlternatives words ss rest
unfolding alternatives_at
alternatives_take zero words ss rest e = absurd cc
alternatives_take (suc n) words ss rest e =
    let a = bind_some (spec_at words) (λ first. cond (skip (codes "|") first.1).0 (with_first first.0 (alternatives_at n (skip (codes "|") first.1).1)) (Some (first.0 ∷ [], (skip (codes "|") first.1).1))) (ss, rest) e in
    let first = spec_takes words a.0.0 a.0.1 a.1 in
    elim (chosen (skip (codes "|") a.0.1).0 _ _ _ a.2) [
      | inl more ↦
          let b = bind_some (alternatives_at n (skip (codes "|") a.0.1).1) (λ x. Some (a.0.0 ∷ x.0, x.1)) (ss, rest) more.1 in
          let others = alternatives_take n (skip (codes "|") a.0.1).1 b.0.0 b.0.1 b.1 in
          let is : ◌≡◌ {A = List Spec × Words} (a.0.0 ∷ b.0.0, b.0.1) (ss, rest) = same_Some _ _ b.2 in
          let spelled : words ≡ alternatives_words (a.0.0 ∷ b.0.0) ++ b.0.1 = first.0 ∙ ap (λ (ws : Words). spec_words a.0.0 ++ ws) (skip_takes (codes "|") a.0.1 more.0 ∙ ap (λ (ws : Words). codes "|" ∷ ws) others.spelled) ∙ sym (append_assoc (spec_words a.0.0) (codes "|" ∷ alternatives_words b.0.0) b.0.1) ∙ ap (λ (ws : Words). ws ++ b.0.1) (sym (alternatives_words-more a.0.0 b.0.0 others.some)) in
          subst (λ (x : List Spec × Words). AreAlternatives words x.0 x.1) is (record { spelled = spelled; some = omega arith; each = (first.1, others.each) })
      | inr end ↦
          let is : ◌≡◌ {A = List Spec × Words} (a.0.0 ∷ [], (skip (codes "|") a.0.1).1) (ss, rest) = same_Some _ _ end.1 in
          subst (λ (x : List Spec × Words). AreAlternatives words x.0 x.1) is (record { spelled = first.0 ∙ ap (λ (ws : Words). spec_words a.0.0 ++ ws) (sym (skip_misses (codes "|") a.0.1 end.0)); some = omega arith; each = (first.1, tt) })
    ]

bar_is_no_span : span_in (codes "|") ≡ None
bar_is_no_span = not_a_span 124 [] (inr (omega arith))

pub alternatives_again : (n : ℕ) (ss : List Spec) (rest : Words) → 0 < length ss → length ss ≤ n → AllByRecursion IsSpec ss → BeginsNoSpan rest → BeginsNot (codes "|") rest
    → alternatives_at n (alternatives_words ss ++ rest) ≡ Some (ss, rest)
unfolding alternatives_at
alternatives_again zero ss rest lt le each no_span bar = absurd (omega arith)
alternatives_again (suc n) [] rest lt le each no_span bar = absurd (omega arith)
alternatives_again (suc n) (s ∷ []) rest lt le each no_span bar = rw (spec_again s rest each.0 no_span, no_skip (codes "|") rest bar) refl
alternatives_again (suc n) (s ∷ t ∷ ts) rest lt le each no_span bar =
    let after : Words = codes "|" ∷ (alternatives_words (t ∷ ts) ++ rest) in
    let regrouped : alternatives_words (s ∷ t ∷ ts) ++ rest ≡ spec_words s ++ (codes "|" ∷ (alternatives_words (t ∷ ts) ++ rest)) = append_assoc (spec_words s) (codes "|" ∷ alternatives_words (t ∷ ts)) rest in
    let others = alternatives_again n (t ∷ ts) rest (omega arith) (omega arith) each.1 no_span bar in
    ap (alternatives_at (suc n)) regrouped ∙ rw (spec_again s (codes "|" ∷ (alternatives_words (t ∷ ts) ++ rest)) each.0 bar_is_no_span, skip_is (codes "|") (alternatives_words (t ∷ ts) ++ rest), others) refl

-- ---- the end

pair_is : {A B : Type 0} {a x : A} {b y : B} → a ≡ x → b ≡ y → ◌≡◌ {A = A × B} (a, b) (x, y)
pair_is {A} {B} {a} {x} {b} {y} e f = ap (λ (z : A). (z, b)) e ∙ ap (λ (z : B). (x, z)) f

pub ends_there : {X : Type 0} (x : X × Words) (y : X) (rest : Words) → x.1 ≡ rest → (end_at rest >>= λ _. Some x.0) ≡ Some y → Some x ≡ Some (y, [])
ends_there {X} x y [] is e = ap (λ (p : X × Words). Some p) (pair_is (same_Some _ _ e) is)
ends_there x y (word ∷ words) is e = absurd cc

pub whole_takes : {X : Type 0} (o : Option (X × Words)) (y : X) → (o >>= λ x. whole_of x) ≡ Some y → o ≡ Some (y, [])
whole_takes None y e = absurd cc
whole_takes (Some x) y e = ends_there x y (x.1) refl e

pub whole_again : {X : Type 0} (o : Option (X × Words)) (y : X) → o ≡ Some (y, []) → (o >>= λ x. whole_of x) ≡ Some y
whole_again {X} o y e = ap (λ (p : Option (X × Words)). p >>= λ x. whole_of x) e
