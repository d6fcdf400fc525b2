-- The rest of the bytes, where they are known, over several steps.
use Rattle.std.proofs.Common.{◌≡◌, ℕ, zero, suc, ◌+◌, ◌-◌, ◌<◌, ◌≤◌, List, [], ◌∷◌, ◌++◌, length, take, drop, get_or, Option, Some, None, append_assoc, refl, sym, ap, ◌∙◌, arith}
use Rattle.std.specs.Io.KnownBytes.{Consumes, Keeps, prepend_known}
use Rattle.std.specs.List.{slice_range}
use Rattle.std.proofs.lemmas.List.{drop_more, length-take, get_or-take, drop_all, drop-take, drop-drop, take-append-drop}
use Rattle.std.proofs.lemmas.Option.{same_Some}
use Rattle.resolvo_text.specs.Device.{IfKnown}
use Rattle.resolvo_text.specs.Lines.{newlines}
use Rattle.resolvo_text.specs.Reader.{NoLineReceived}

-- the first of known bytes, and the rest
pub consumed : (before after : Option (List ℕ)) (piece : List ℕ) → Consumes before after piece → IfKnown before (λ bytes. (rest : List ℕ) × (after ≡ Some rest) × (bytes ≡ piece ++ rest))
consumed None after piece h = λ bytes e. absurd cc
consumed (Some xs) None piece h = λ bytes e. absurd h
consumed (Some xs) (Some ys) piece h = λ bytes e. (ys, refl, sym (same_Some xs bytes e) ∙ h)

-- one piece and the next
pub consumed_both : (before mid after : Option (List ℕ)) (prefix more : List ℕ) → Consumes before mid prefix → Consumes mid after more → Consumes before after (prefix ++ more)
consumed_both None mid after prefix more a b = tt
consumed_both (Some xs) None after prefix more a b = absurd a
consumed_both (Some xs) (Some ys) None prefix more a b = absurd b
consumed_both (Some xs) (Some ys) (Some zs) prefix more a b = a ∙ ap (λ (l : List ℕ). prefix ++ l) b ∙ sym (append_assoc prefix more zs)

-- one byte of the piece
pub one_taken : (before remaining : Option (List ℕ)) (items : List ℕ) (at end b : ℕ) → Keeps before (prepend_known (drop at (take end items)) remaining)
    → at < end → end ≤ length items → b ≡ get_or items at b → Consumes before (prepend_known (drop (at + 1) (take end items)) remaining) (b ∷ [])
one_taken None remaining items at end b kept lt le is = tt
one_taken (Some xs) None items at end b kept lt le is = absurd kept
one_taken (Some xs) (Some t) items at end b kept lt le is =
    let one : drop at (take end items) ≡ get_or (take end items) at b ∷ drop (at + 1) (take end items) = drop_more (take end items) at b (omega (arith, length-take end items)) in
    let read : get_or (take end items) at b ≡ b = get_or-take end items at b lt ∙ sym is in
    sym kept ∙ ap (λ (x : List ℕ). x ++ t) (one ∙ ap (λ (y : ℕ). y ∷ drop (at + 1) (take end items)) read)

-- no byte was read, and none was unread
pub nothing_received : (remaining after : Option (List ℕ)) (unread : List ℕ) → unread ≡ [] → Keeps remaining after → NoLineReceived (prepend_known unread remaining) after
nothing_received None after unread none kept = λ bytes e. absurd cc
nothing_received (Some t) None unread none kept = λ bytes e. absurd kept
nothing_received (Some t) (Some a) unread none kept = λ bytes e. ([], a, refl, sym (same_Some (unread ++ t) bytes e) ∙ ap (λ (u : List ℕ). u ++ t) none ∙ sym kept, refl)

-- no room is left, and a byte is
pub too_long : (before remaining : Option (List ℕ)) (items : List ℕ) (at end room : ℕ) → Keeps before (prepend_known (drop at (take end items)) remaining)
    → at < end → end ≤ length items → room ≡ 0 → IfKnown before (λ bytes. (room < length bytes) × (newlines (take room bytes) ≡ 0))
too_long None remaining items at end room kept lt le none = λ bytes e. absurd cc
too_long (Some xs) None items at end room kept lt le none = λ bytes e. absurd kept
too_long (Some xs) (Some t) items at end room kept lt le none = λ bytes e.
    let one : drop at (take end items) ≡ get_or (take end items) at 0 ∷ drop (at + 1) (take end items) = drop_more (take end items) at 0 (omega (arith, length-take end items)) in
    let whole : bytes ≡ get_or (take end items) at 0 ∷ (drop (at + 1) (take end items) ++ t) = sym (same_Some xs bytes e) ∙ sym kept ∙ ap (λ (x : List ℕ). x ++ t) one in
    (omega (arith, ap (λ (x : List ℕ). length x) whole), ap (λ (r : ℕ). newlines (take r bytes)) none)

-- a piece that was read to its end has no byte unread
pub none_unread : (items : List ℕ) (at end : ℕ) → at ≡ end → drop at (take end items) ≡ []
none_unread items at end same = drop_all at (take end items) (omega (arith, length-take end items))

pub take_within : (n m : ℕ) (xs : List ℕ) → n ≤ m → take n (take m xs) ≡ take n xs
take_within zero m xs le = refl
take_within (suc n) zero xs le = absurd (omega arith)
take_within (suc n) (suc m) [] le = refl
take_within (suc n) (suc m) (x ∷ xs) le = ap (λ (ys : List ℕ). x ∷ ys) (take_within n m xs (omega arith))

-- the first unread bytes, up to some stop, and the unread bytes after it
pub plain_piece : (items : List ℕ) (at end stop n : ℕ) → at ≤ end → stop ≤ end → n ≤ length (slice_range items at stop) → drop at (take end items) ≡ take n (slice_range items at stop) ++ drop (at + n) (take end items)
plain_piece items at end stop n begun below few =
    let rest = drop at items in
    let whole = drop at (take end items) in
    let sum : end ≡ at + (end - at) = omega arith in
    let unread : whole ≡ take (end - at) rest = ap (λ (e : ℕ). drop at (take e items)) sum ∙ drop-take at (end - at) items in
    let within : n ≤ stop - at = omega (arith, length-take (stop - at) rest) in
    let prefix : take n whole ≡ take n (slice_range items at stop) = ap (λ (xs : List ℕ). take n xs) unread ∙ take_within n (end - at) rest (omega (arith, within)) ∙ sym (take_within n (stop - at) rest within) in
    sym (take-append-drop n whole) ∙ ap (λ (xs : List ℕ). xs ++ drop n whole) prefix ∙ ap (λ (xs : List ℕ). take n (slice_range items at stop) ++ xs) (drop-drop n at (take end items))
