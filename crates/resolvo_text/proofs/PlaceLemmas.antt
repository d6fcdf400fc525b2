-- A line that lies in the piece with its newline.
use Rattle.std.proofs.Common.{◌≡◌, ℕ, ◌+◌, ◌-◌, ◌<◌, ◌≤◌, Bool, true, false, cond, List, [], ◌∷◌, ◌++◌, length, get_or, take, drop, Option, Some, None, Result, Ok, Err, refl, sym, ap, subst, ◌∙◌, arith}
use Rattle.std.specs.Prelude.{IfSome, IfOk, OnOk, IsTrue}
use Rattle.std.specs.List.{slice_range, position}
use Rattle.std.specs.Io.KnownBytes.{Consumes, prepend_known}
use Rattle.std.proofs.lemmas.Bool.{eqb-true}
use Rattle.std.proofs.lemmas.List.{drop_more, length-take, length-drop, get_or-take, get_or-drop}
use Rattle.std.proofs.lemmas.List.Quantifiers.{position-Some}
use Rattle.resolvo_text.specs.Lines.{newlines, is_newline}
use Rattle.resolvo_text.specs.Reader.{left, unread, last_line, IsAhead, TakesInPlace, TakesLine, EndsLine}
use Rattle.resolvo_text.specs.declared.lines.LineReader.{LineReader}
use Rattle.resolvo_text.specs.declared.lines.ReadFault.{ReadFault}
use Rattle.resolvo_text.proofs.KnownBytes.{consumed_both, take_within, plain_piece}
use Rattle.resolvo_text.proofs.LineLemmas.{plain_above, plain_taken, line_taken}

-- the first newline of the unread bytes, up to some stop
first_newline : (items : List ℕ) (at end stop n : ℕ) → at ≤ end → stop ≤ end → end ≤ length items → position is_newline (slice_range items at stop) ≡ Some n
    → (at + n < stop) × (newlines (slice_range items at (at + n)) ≡ 0) × (drop at (take end items) ≡ slice_range items at (at + n) ++ 10 ∷ drop (at + n + 1) (take end items))
first_newline items at end stop n begun below fits e =
    let rest = drop at items in
    let bytes = slice_range items at stop in
    let read = take end items in
    let first = position-Some is_newline bytes n 0 e in
    let within : at + n < stop = omega (arith, first.0, length-take (stop - at) rest) in
    let count : n ≡ at + n - at = omega arith in
    let line : take n bytes ≡ slice_range items at (at + n) = take_within n (stop - at) rest (omega (arith, within)) ∙ ap (λ (m : ℕ). take m rest) count in
    let byte : get_or read (at + n) 0 ≡ 10 =
    get_or-take end items (at + n) 0 (omega (arith, within)) ∙ sym (get_or-take (stop - at) rest n 0 (omega (arith, within)) ∙ get_or-drop at items n 0) ∙ eqb-true (get_or bytes n 0) 10 first.1 in
    let next : drop (at + n) read ≡ 10 ∷ drop (at + n + 1) read = drop_more read (at + n) 0 (omega (arith, within, length-take end items)) ∙ ap (λ (b : ℕ). b ∷ drop (at + n + 1) read) byte in (
      within,
      subst (λ (xs : List ℕ). newlines xs ≡ 0) line (plain_above bytes (Some n) (sym e)),
      plain_piece items at end stop n begun below (omega (arith, first.0)) ∙ ap (λ (xs : List ℕ). xs ++ drop (at + n) read) line ∙ ap (λ (xs : List ℕ). slice_range items at (at + n) ++ xs) next,
    )

-- what the search for a newline finds
pub ahead : (r : LineReader) (stop : ℕ) (found : Option ℕ) → r.end ≤ length r.piece.items → stop ≤ r.end → stop ≤ r.at + r.room → found ≡ position is_newline (slice_range r.piece.items r.at stop)
    → IfSome found (λ n. IsAhead r n)
ahead r stop None fits below room is = tt
ahead r stop (Some n) fits below room is =
    let first = first_newline r.piece.items r.at r.end stop n r.begun below fits (sym is) in record {
      within = omega (arith, first.0);
      room = omega (arith, first.0);
      plain = first.1;
      parts = first.2;
    }

-- the bytes of the line
pub length_ahead : (r : LineReader) (n : ℕ) → r.end ≤ length r.piece.items → IsAhead r n → length (slice_range r.piece.items r.at (r.at + n)) ≡ n
length_ahead r n fits is = omega (arith, is.within, length-take (r.at + n - r.at) (drop r.at r.piece.items), length-drop r.at r.piece.items)

-- ---- such a line is the next one

module _ (r s : LineReader) (remaining : Option (List ℕ)) (takes : TakesInPlace r s) where
  line_first : Consumes (left r remaining) (prepend_known (10 ∷ unread s) remaining) (last_line s)
  line_first = subst (λ (bs : List ℕ). Consumes (prepend_known bs remaining) (prepend_known (10 ∷ unread s) remaining) (last_line s)) (sym takes.parts) (plain_taken remaining (last_line s) (10 ∷ unread s))

  newline_next : Consumes (prepend_known (10 ∷ unread s) remaining) (left s remaining) (10 ∷ [])
  newline_next = plain_taken remaining (10 ∷ []) (unread s)

  pub line_in_place : TakesLine (left r remaining) r.room (last_line s) (left s remaining) s.room
  line_in_place = line_taken (left r remaining) (prepend_known (10 ∷ unread s) remaining) (left s remaining) (Some 10) (last_line s) r.room (s.room + 1) s.room line_first newline_next refl takes.plain (omega (arith, takes.room)) refl

  pub ends_in_place : EndsLine true (left r remaining) r.room (last_line s) (left s remaining) s.room
  ends_in_place = (consumed_both (left r remaining) (prepend_known (10 ∷ unread s) remaining) (left s remaining) (last_line s) (10 ∷ []) line_first newline_next, takes.plain, takes.room)

-- ---- a line that was copied

copied_line : (r : LineReader) → r.in_place ≡ false → last_line r ≡ r.line.items
copied_line r e = ap (λ (b : Bool). cond b (slice_range r.piece.items r.line_begin r.line_end) r.line.items) e

pub of_copied : (answer : Result Bool ReadFault) (r : LineReader) (P : List ℕ → Type 0) → OnOk answer (r.in_place ≡ false) → IfOk answer (λ more. IsTrue more → P r.line.items) → IfOk answer (λ more. IsTrue more → P (last_line r))
of_copied (Ok more) r P copied h = λ yes. subst P (sym (copied_line r copied)) (h yes)
of_copied (Err e) r P copied h = tt
