-- The bytes that a writer took of two texts, one after the other.
use Rattle.std.proofs.Common.{◌≡◌, ℕ, ◌+◌, List, ◌++◌, length, Option, ap, sym, subst, ◌∙◌, append_assoc, length-append}
use Rattle.std.specs.Io.KnownBytes.{Appends}
use Rattle.std.proofs.KnownBytes.{Appends-trans}
use Rattle.resolvo_text.specs.Device.{TakesPrefix, WriterFailed}

-- a prefix of the first
pub takes_first : (before after : Option (List ℕ)) (first more : List ℕ) → TakesPrefix before after first → TakesPrefix before after (first ++ more)
takes_first before after first more (taken, rest, parts, appends) = (taken, rest ++ more, ap (λ (t : List ℕ). t ++ more) parts ∙ append_assoc taken rest more, appends)

-- all of the first, and a prefix of the second
pub takes_later : (before between after : Option (List ℕ)) (first more : List ℕ) → Appends before between first → TakesPrefix between after more → TakesPrefix before after (first ++ more)
takes_later before between after first more whole (taken, rest, parts, appends) =
    (first ++ taken, rest, ap (λ (t : List ℕ). first ++ t) parts ∙ sym (append_assoc first taken rest), Appends-trans before between after first taken whole appends)

-- the writer failed in the second
pub fails_later : (failures failures_between failures_now interruptions empty empty_between empty_now : ℕ) → failures_between ≡ failures → empty_between ≡ empty → WriterFailed failures_between failures_now interruptions empty_between empty_now → WriterFailed failures failures_now interruptions empty empty_now
fails_later failures failures_between failures_now interruptions empty empty_between empty_now same same_empty failed =
    subst (λ (n : ℕ). WriterFailed n failures_now interruptions empty empty_now) same (subst (λ (n : ℕ). WriterFailed failures_between failures_now interruptions n empty_now) same_empty failed)

pub both_length : (first more : List ℕ) → length (first ++ more) ≡ length first + length more
both_length first more = length-append first more
