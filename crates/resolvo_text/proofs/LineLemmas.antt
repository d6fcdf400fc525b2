-- The lines of a text, one line at a time.
use Rattle.std.proofs.Common.{◌≡◌, ℕ, suc, ◌+◌, ◌<◌, ◌≤◌, Bool, true, false, cond, eqb, List, [], ◌∷◌, ◌++◌, length, take, Option, Some, None, refl, sym, ap, subst, ◌∙◌, append_assoc, ltb, inl, inr, arith}
use Rattle.std.specs.List.{onto_first, position, position_or_len}
use Rattle.std.specs.Prelude.{not, nat_lt, unwrap_or}
use Rattle.std.specs.Option.{option_to_list}
use Rattle.std.specs.Io.KnownBytes.{Consumes, IsAtEnd, prepend_known}
use Rattle.std.proofs.lemmas.Bool.{ltb-true, ltb-false}
use Rattle.std.proofs.lemmas.List.{append-nil, length-append}
use Rattle.std.proofs.lemmas.List.Sums.{sum_by-cons, sum_by-append, prefix_len-le-length}
use Rattle.std.proofs.Math.Seq.{take-append-add}
use Rattle.resolvo_text.specs.Lines.{lines_of, newlines, is_newline}
use Rattle.resolvo_text.specs.Device.{DeviceFailed, one_more, last}
use Rattle.resolvo_text.specs.Reader.{left, unread, TakesLine, TakesPlain, EndsLine, IsReadFault}
use Rattle.resolvo_text.specs.declared.lines.LineReader.{LineReader}
use Rattle.resolvo_text.specs.declared.lines.ReadFault.{ReadFault}
use Rattle.resolvo_text.specs.declared.lines.ReadFault.TheVariants.{Fault, Reader, TooLong, Memory, Ids}
use Rattle.resolvo_text.proofs.KnownBytes.{consumed, consumed_both}

-- ---- newlines

pub newlines-append : (xs ys : List ℕ) → newlines (xs ++ ys) ≡ newlines xs + newlines ys
newlines-append xs ys = sum_by-append (λ b. cond (is_newline b) 1 0) xs ys

none_first : (t : Bool) (n : ℕ) → cond t 1 0 + n ≡ 0 → (t ≡ false) × (n ≡ 0)
none_first true n e = absurd (omega arith)
none_first false n e = (refl, omega arith)

pub no_newline : (b : ℕ) (bs : List ℕ) → newlines (b ∷ bs) ≡ 0 → (eqb b 10 ≡ false) × (newlines bs ≡ 0)
no_newline b bs e = none_first (eqb b 10) (newlines bs) (sym (sum_by-cons (λ x. cond (is_newline x) 1 0) b bs) ∙ e)

-- no newline is above the first one
none_above : (xs : List ℕ) → newlines (take (position_or_len is_newline xs) xs) ≡ 0
none_above [] = refl
none_above (b ∷ bs) = by_test (is_newline b) refl (none_above bs)
  where
    by_test : (t : Bool) → is_newline b ≡ t → newlines (take (position_or_len is_newline bs) bs) ≡ 0 → newlines (take (cond (not t) (1 + position_or_len is_newline bs) 0) (b ∷ bs)) ≡ 0
    by_test true is none = refl
    by_test false is none =
        let one_more : 1 + position_or_len is_newline bs ≡ suc (position_or_len is_newline bs) = omega arith in
        ap (λ (n : ℕ). newlines (take n (b ∷ bs))) one_more
        ∙ sum_by-cons (λ x. cond (is_newline x) 1 0) b (take (position_or_len is_newline bs) bs)
        ∙ ap (λ (t : Bool). cond t 1 0 + newlines (take (position_or_len is_newline bs) bs)) is ∙ omega (arith, none)

few_above : (xs : List ℕ) → position_or_len is_newline xs ≤ length xs
few_above xs = prefix_len-le-length (λ x. not (is_newline x)) xs

-- the place of the first newline, or the length
pub plain_above : (xs : List ℕ) (o : Option ℕ) → o ≡ position is_newline xs → newlines (take (unwrap_or o (length xs)) xs) ≡ 0
plain_above xs o is = rw is (by_test (nat_lt (position_or_len is_newline xs) (length xs)) refl)
  where
    by_test : (b : Bool) → nat_lt (position_or_len is_newline xs) (length xs) ≡ b → newlines (take (unwrap_or (cond b (Some (position_or_len is_newline xs)) None) (length xs)) xs) ≡ 0
    by_test true e = none_above xs
    by_test false e =
        let all : position_or_len is_newline xs ≡ length xs = omega (arith, few_above xs, ltb-false (position_or_len is_newline xs) (length xs) e) in
        subst (λ (n : ℕ). newlines (take n xs) ≡ 0) all (none_above xs)

-- ---- lines

pub lines_of-line : (line rest : List ℕ) → newlines line ≡ 0 → lines_of (line ++ 10 ∷ rest) ≡ line ∷ lines_of rest
lines_of-line [] rest h = refl
lines_of-line (b ∷ line) rest h =
    let p = no_newline b line h in
    ap (λ (t : Bool). cond t ([] ∷ lines_of (line ++ 10 ∷ rest)) (onto_first b (lines_of (line ++ 10 ∷ rest)))) p.0 ∙ ap (λ (ls : List (List ℕ)). onto_first b ls) (lines_of-line line rest p.1)

lines_of-last : (b : ℕ) (line : List ℕ) → newlines (b ∷ line) ≡ 0 → lines_of (b ∷ line) ≡ (b ∷ line) ∷ []
lines_of-last b [] h = ap (λ (t : Bool). cond t ([] ∷ []) (onto_first b [])) (no_newline b [] h).0
lines_of-last b (c ∷ line) h =
    let p = no_newline b (c ∷ line) h in
    ap (λ (t : Bool). cond t ([] ∷ lines_of (c ∷ line)) (onto_first b (lines_of (c ∷ line)))) p.0 ∙ ap (λ (ls : List (List ℕ)). onto_first b ls) (lines_of-last c line p.1)

pub lines_of-whole : (line : List ℕ) → 0 < length line → newlines line ≡ 0 → lines_of line ≡ line ∷ []
lines_of-whole [] lt none = absurd (omega arith)
lines_of-whole (b ∷ line) lt none = lines_of-last b line none

-- ---- bytes of the piece that are no newline

pub plain_taken : (remaining : Option (List ℕ)) (bytes rest : List ℕ) → Consumes (prepend_known (bytes ++ rest) remaining) (prepend_known rest remaining) bytes
plain_taken None bytes rest = tt
plain_taken (Some t) bytes rest = append_assoc bytes rest t

-- the line that was begun, with the bytes that went to it
pub record IsBegun (before after : Option (List ℕ)) (room : ℕ) (r : LineReader) : Type 0 where
  pub consumed : Consumes before after r.line.items
  pub sum : r.room + length r.line.items ≡ room
  pub plain : newlines r.line.items ≡ 0

pub plain_more : (before remaining : Option (List ℕ)) (room : ℕ) (r s : LineReader) → Consumes before (left r remaining) r.line.items → r.room + length r.line.items ≡ room → newlines r.line.items ≡ 0 → TakesPlain r s → IsBegun before (left s remaining) room s
plain_more before remaining room r s first sum none takes =
    let mid : Consumes (left r remaining) (left s remaining) takes.bytes = subst (λ (bs : List ℕ). Consumes (prepend_known bs remaining) (left s remaining) takes.bytes) (sym takes.piece) (plain_taken remaining takes.bytes (unread s)) in
    let both : Consumes before (left s remaining) (r.line.items ++ takes.bytes) = consumed_both before (left r remaining) (left s remaining) r.line.items takes.bytes first mid in record {
      consumed = subst (λ (bs : List ℕ). Consumes before (left s remaining) bs) (sym takes.line) both;
      sum = omega (arith, sum, takes.room, ap (λ (bs : List ℕ). length bs) takes.line, length-append r.line.items takes.bytes);
      plain = ap newlines takes.line ∙ newlines-append r.line.items takes.bytes ∙ omega (arith, none, takes.plain);
    }

-- ---- one step of the reader

-- a newline ends the line
pub line_taken : (before mid after : Option (List ℕ)) (next : Option ℕ) (line : List ℕ) (room mid_room after_room : ℕ)
    → Consumes before mid line → Consumes mid after (option_to_list next) → next ≡ Some 10 → newlines line ≡ 0
    → mid_room + length line ≡ room → after_room + length (option_to_list next) ≡ mid_room → TakesLine before room line after after_room
line_taken before mid after next line room mid_room after_room first last is none so_far one = λ bytes e.
    let h = consumed before mid line first bytes e in
    let k = consumed mid after (option_to_list next) last h.0 h.1 in
    let byte : h.0 ≡ 10 ∷ k.0 = k.2 ∙ ap (λ (o : Option ℕ). option_to_list o ++ k.0) is in
    let whole : bytes ≡ line ++ 10 ∷ k.0 = h.2 ∙ ap (λ (r : List ℕ). line ++ r) byte in
    let single : length (option_to_list next) ≡ 1 = ap (λ (o : Option ℕ). length (option_to_list o)) is in (
      line ++ 10 ∷ [],
      k.0,
      k.1,
      record {
        parts = whole ∙ sym (append_assoc line (10 ∷ []) k.0);
        lines = ap lines_of whole ∙ lines_of-line line k.0 none;
        one = omega (arith, newlines-append line (10 ∷ []));
      },
      omega (arith, length-append line (10 ∷ [])),
    )

-- the end of the text ends it too
pub last_line_taken : (before mid after : Option (List ℕ)) (next : Option ℕ) (line : List ℕ) (room mid_room after_room : ℕ)
    → Consumes before mid line → Consumes mid after (option_to_list next) → next ≡ None → IsAtEnd mid → newlines line ≡ 0 → 0 < length line
    → mid_room + length line ≡ room → after_room + length (option_to_list next) ≡ mid_room → TakesLine before room line after after_room
last_line_taken before mid after next line room mid_room after_room first last is end none some so_far one = λ bytes e.
    let h = consumed before mid line first bytes e in
    let k = consumed mid after (option_to_list next) last h.0 h.1 in
    let over : h.0 ≡ [] = subst IsAtEnd h.1 end in
    let nothing : k.0 ≡ [] = sym (k.2 ∙ ap (λ (o : Option ℕ). option_to_list o ++ k.0) is) ∙ over in
    let whole : bytes ≡ line = h.2 ∙ ap (λ (r : List ℕ). line ++ r) over ∙ append-nil line in
    let no_byte : length (option_to_list next) ≡ 0 = ap (λ (o : Option ℕ). length (option_to_list o)) is in (
      line,
      k.0,
      k.1,
      record {
        parts = whole ∙ sym (append-nil line) ∙ ap (λ (r : List ℕ). line ++ r) (sym nothing);
        lines = ap lines_of whole ∙ lines_of-whole line some none ∙ ap (λ (r : List ℕ). line ∷ lines_of r) (sym nothing);
        one = omega arith;
      },
      omega arith,
    )

-- the last line has all that was left
pub last_line_ended : (before mid after : Option (List ℕ)) (next : Option ℕ) (line : List ℕ) (room mid_room after_room : ℕ)
    → Consumes before mid line → Consumes mid after (option_to_list next) → next ≡ None → IsAtEnd mid → newlines line ≡ 0
    → mid_room + length line ≡ room → after_room + length (option_to_list next) ≡ mid_room → EndsLine false before room line after after_room
last_line_ended before mid after next line room mid_room after_room first last is end none so_far one =
    let no_byte : length (option_to_list next) ≡ 0 = ap (λ (o : Option ℕ). length (option_to_list o)) is in
    let both : Consumes before after (line ++ option_to_list next) = consumed_both before mid after line (option_to_list next) first last in
    let nothing : line ++ option_to_list next ≡ line = ap (λ (o : Option ℕ). line ++ option_to_list o) is ∙ append-nil line in (
      subst (λ (bs : List ℕ). Consumes before after bs) nothing both,
      λ bytes e.
          let h = consumed before mid line first bytes e in
          let over : h.0 ≡ [] = subst IsAtEnd h.1 end in
          h.2 ∙ ap (λ (r : List ℕ). line ++ r) over ∙ append-nil line,
      none,
      omega arith,
    )

-- a fault after some bytes of a line is one of the line
pub fault_later : (e : ReadFault) (before mid after : Option (List ℕ)) (line : List ℕ) (room mid_room failures mid_failures failures_now interruptions : ℕ)
    → Consumes before mid line → newlines line ≡ 0 → mid_room + length line ≡ room → mid_failures ≡ failures
    → IsReadFault e mid after mid_room (DeviceFailed mid_failures failures_now interruptions) → IsReadFault e before after room (DeviceFailed failures failures_now interruptions)
fault_later (Fault n) before mid after line room mid_room failures mid_failures failures_now interruptions first none so_far same h = h
fault_later Reader before mid after line room mid_room failures mid_failures failures_now interruptions first none so_far same h = (
  subst (λ (n : ℕ). DeviceFailed n failures_now interruptions) same h.0,
  λ bytes e.
      let c = consumed before mid line first bytes e in
      let d = h.1 c.0 c.1 in
      (line ++ d.0, d.1, d.2, c.2 ∙ ap (λ (r : List ℕ). line ++ r) d.3 ∙ sym (append_assoc line d.0 d.1), omega (arith, newlines-append line d.0, d.4)),
)
fault_later TooLong before mid after line room mid_room failures mid_failures failures_now interruptions first none so_far same h = λ bytes e.
    let c = consumed before mid line first bytes e in
    let d = h c.0 c.1 in
    let sum : room ≡ length line + mid_room = omega arith in
    let prefix : take room bytes ≡ line ++ take mid_room c.0 = ap (λ (bs : List ℕ). take room bs) c.2 ∙ ap (λ (r : ℕ). take r (line ++ c.0)) sum ∙ take-append-add line c.0 mid_room in
    (omega (arith, ap (λ (bs : List ℕ). length bs) c.2, length-append line c.0, d.0), ap newlines prefix ∙ newlines-append line (take mid_room c.0) ∙ omega (arith, d.1))
fault_later Memory before mid after line room mid_room failures mid_failures failures_now interruptions first none so_far same h = tt
fault_later Ids before mid after line room mid_room failures mid_failures failures_now interruptions first none so_far same h = h

-- a call that failed is counted, or was made at the last count
pub failed_call : (before mid now interruptions : ℕ) → mid ≡ before → now ≡ one_more mid → DeviceFailed before now interruptions
failed_call before mid now interruptions same counted = by_test (ltb mid last) refl
  where
    by_test : (b : Bool) → ltb mid last ≡ b → DeviceFailed before now interruptions
    by_test true e = let below : mid < last = ltb-true mid last e in inl (omega arith)
    by_test false e = let full : last ≤ mid = ltb-false mid last e in inr (inl (omega arith))
