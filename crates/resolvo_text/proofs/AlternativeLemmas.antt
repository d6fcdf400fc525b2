-- Alternatives, one after the other.
use Rattle.std.proofs.Common.{◌≡◌, ℕ, zero, suc, ◌<◌, ◌≤◌, Bool, true, false, List, [], ◌∷◌, ◌++◌, length, Option, Some, None, refl, sym, ap, ◌∙◌, append_assoc, arith}
use Rattle.std.specs.Prelude.{codes}
use Rattle.std.specs.Str.{bytes_eq}
use Rattle.std.specs.Option.{option_map_or}
use Rattle.std.proofs.lemmas.Bool.{cond_both}
use Rattle.resolvo_text.specs.declared.spec.Span.{Span}
use Rattle.resolvo_text.specs.Line.{Spec}
use Rattle.resolvo_text.specs.Spelling.{Words}
use Rattle.resolvo_text.specs.declared.line.LineFault.{LineFault}
use Rattle.resolvo_text.specs.declared.line.LineFault.TheVariants.{Fault, Memory}
use Rattle.resolvo_text.specs.Parse.{◌>>=◌, Fails, name_in, span_at, span_in, with_span, spec_at, skip, with_first, alternatives_at}

-- the alternatives read so far, and the rest
abbrev pub with_prefix : List Spec → Option (List Spec × Words) → Option (List Spec × Words)
with_prefix prefix read = read >>= λ x. Some (prefix ++ x.0, x.1)

-- the steps of a chain at its end
pub bind_some : {A B : Type 0} (o : Option A) (f : A → Option B) (y : B) → (o >>= f) ≡ Some y → (x : A) × (o ≡ Some x) × (f x ≡ Some y)
bind_some (Some x) f y e = (x, refl, e)
bind_some None f y e = absurd cc

with_span_shorter : (o : Option Span) (word : List ℕ) (words : Words) → length (with_span o (word ∷ words) words).1 ≤ suc (length words)
with_span_shorter None word words = omega arith
with_span_shorter (Some span) word words = omega arith

span_at_shorter : (words : Words) → length (span_at words).1 ≤ length words
unfolding span_at
span_at_shorter [] = omega arith
span_at_shorter (word ∷ words) = with_span_shorter (span_in word) word words

spec_at_shorter : (words : Words) (s : Spec) (after : Words) → spec_at words ≡ Some (s, after) → length after < length words
unfolding spec_at
spec_at_shorter [] s after e = absurd cc
spec_at_shorter (word ∷ words) s after e =
    let b = bind_some (name_in word) (λ name. Some (record { name = name; span = (span_at words).0 }, (span_at words).1)) (s, after) e in
    let rest : (span_at words).1 ≡ after = ap (λ (o : Option (Spec × Words)). option_map_or (λ x. x.1) o []) b.2 in
    omega (arith, span_at_shorter words, ap (λ (ws : Words). length ws) rest)

pub skip_shorter : (k : List ℕ) (words : Words) → length (skip k words).1 ≤ length words
unfolding skip
skip_shorter k [] = omega arith
skip_shorter k (word ∷ words) = cond_both {A = Bool × Words} (bytes_eq word k) (true, words) (false, word ∷ words) (λ x. length x.1 ≤ suc (length words)) (λ e. omega arith) (λ e. omega arith)

pub at_start : (read : Option (List Spec × Words)) → with_prefix [] read ≡ read
at_start None = refl
at_start (Some x) = refl

regroup : (prefix : List Spec) (s : Spec) (read : Option (List Spec × Words)) → with_prefix prefix (with_first s read) ≡ with_prefix (prefix ++ s ∷ []) read
regroup prefix s None = refl
regroup prefix s (Some x) = ap (λ (ss : List Spec). Some (ss, x.1)) (simp append_assoc)

pub goes_on : (prefix : List Spec) (n : ℕ) (words : Words) (s : Spec) (after : Words) (more : Bool) (others : Words) (total : Option (List Spec × Words)) → length words ≤ n → spec_at words ≡ Some (s, after)
    → skip (codes "|") after ≡ (more, others) → more ≡ true → with_prefix prefix (alternatives_at n words) ≡ total
    → (m : ℕ) × (length others ≤ m) × (with_prefix (prefix ++ s ∷ []) (alternatives_at m others) ≡ total)
unfolding alternatives_at
goes_on prefix zero words s after more others total le h bar is_more so_far = absurd (omega (arith, spec_at_shorter words s after h))
goes_on prefix (suc n) words s after more others total le h bar is_more so_far =
    let one : with_prefix prefix (alternatives_at (suc n) words) ≡ with_prefix (prefix ++ s ∷ []) (alternatives_at n others) = rw (h, bar, is_more) (regroup prefix s (alternatives_at n others)) in
    (n, omega (arith, spec_at_shorter words s after h, skip_shorter (codes "|") after, ap (λ (x : Bool × Words). length x.1) bar), sym one ∙ so_far)

pub ends : (prefix : List Spec) (n : ℕ) (words : Words) (s : Spec) (after : Words) (more : Bool) (others : Words) (total : Option (List Spec × Words)) → length words ≤ n → spec_at words ≡ Some (s, after)
    → skip (codes "|") after ≡ (more, others) → more ≡ false → with_prefix prefix (alternatives_at n words) ≡ total → total ≡ Some (prefix ++ s ∷ [], others)
unfolding alternatives_at
ends prefix zero words s after more others total le h bar is_end so_far = absurd (omega (arith, spec_at_shorter words s after h))
ends prefix (suc n) words s after more others total le h bar is_end so_far =
    let one : with_prefix prefix (alternatives_at (suc n) words) ≡ Some (prefix ++ s ∷ [], others) = rw (h, bar, is_end) refl in
    sym so_far ∙ one

pub fails : (prefix : List Spec) (n : ℕ) (words : Words) (total : Option (List Spec × Words)) → spec_at words ≡ None → with_prefix prefix (alternatives_at n words) ≡ total → total ≡ None
unfolding alternatives_at
fails prefix zero words total h so_far = sym so_far
fails prefix (suc n) words total h so_far =
    let one : with_prefix prefix (alternatives_at (suc n) words) ≡ None = rw h refl in
    sym so_far ∙ one

pub fails_so : (e : LineFault) (prefix : List Spec) (n : ℕ) (words : Words) (total : Option (List Spec × Words))
    → Fails e (spec_at words) → with_prefix prefix (alternatives_at n words) ≡ total → Fails e total
fails_so Fault prefix n words total h so_far = fails prefix n words total h so_far
fails_so Memory prefix n words total h so_far = tt
