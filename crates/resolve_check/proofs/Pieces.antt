-- Pieces of a reader's bytes, one after the other.
use Rattle.std.proofs.Common.{◌≡◌, ℕ, ◌≤◌, arith, List, [], ◌++◌, Option, Some, None, length, take, sym, ap, subst, refl, ◌∙◌, append_assoc, append-nil}
use Rattle.std.specs.Io.KnownBytes.{Consumes}
use Rattle.std.proofs.lemmas.List.{length-append}

-- The rest of a reader's bytes after one piece and the next.
pub consumes_both : (before mid after : Option (List ℕ)) (prefix more : List ℕ) → Consumes before mid prefix → Consumes mid after more → Consumes before after (prefix ++ more)
consumes_both None mid after prefix more a b = tt
consumes_both (Some xs) None after prefix more a b = absurd a
consumes_both (Some xs) (Some ys) None prefix more a b = absurd b
consumes_both (Some xs) (Some ys) (Some zs) prefix more a b = a ∙ ap (λ (l : List ℕ). prefix ++ l) b ∙ sym (append_assoc prefix more zs)

pub consumes_length : (before after : Option (List ℕ)) (prefix bytes : List ℕ) → Consumes before after prefix → before ≡ Some bytes → length prefix ≤ length bytes
consumes_length before None prefix bytes h is = absurd (rw is at h)
consumes_length before (Some ys) prefix bytes h is = let whole : bytes ≡ prefix ++ ys = rw is at h in omega (arith, ap (λ (l : List ℕ). length l) whole, length-append prefix ys)

pub consumes_nothing : (known : Option (List ℕ)) (none : List ℕ) → none ≡ [] → Consumes known known none
consumes_nothing None none is = tt
consumes_nothing (Some xs) none is = rw is refl

-- none of the bytes that were read last
pub consumes_no_more : (before mid after : Option (List ℕ)) (prefix buffer : List ℕ) (n : ℕ) → Consumes before mid prefix → Consumes mid after (take n buffer) → n ≡ 0 → Consumes before after prefix
consumes_no_more before mid after prefix buffer n a b none = subst (λ (xs : List ℕ). Consumes before after xs) (append-nil prefix) (consumes_both before mid after prefix [] a (subst (λ (k : ℕ). Consumes mid after (take k buffer)) none b))
