-- Where a text doesn't go on with a line of a report, and the invariant after some lines.
use Rattle.std.proofs.Common.{◌≡◌, ℕ, ◌+◌, Bool, true, false, List, [], ◌∷◌, ◌++◌, length, take, drop, take-append-drop, length-drop, Option, Some, None, refl, sym, ap, subst, ◌∙◌, append_assoc, append-nil, length-append, arith, ⊎_elim}
use Rattle.std.specs.Prelude.{codes}
use Rattle.std.specs.Io.KnownBytes.{Consumes, IsAtEnd, prepend_known}
use Rattle.std.specs.List.{AllByRecursion}
use Rattle.std.specs.Option.{option_and_then}
use Rattle.std.proofs.lemmas.Option.{same_Some}
use Rattle.std.proofs.lemmas.List.{length-take}
use Rattle.std.proofs.lemmas.Grind.{flat_map-append}
use Rattle.resolvo_text.specs.Device.{IfKnown, DeviceFailed}
use Rattle.resolvo_text.specs.Lines.{newlines}
use Rattle.resolvo_text.specs.Reader.{EndsLine}
use Rattle.resolvo_text.proofs.LineLemmas.{no_newline, newlines-append}
use Rattle.resolvo_text.proofs.KnownBytes.{consumed, consumed_both}
use Rattle.resolvo_report.specs.declared.grammar.Part.{Part}
use Rattle.resolvo_report.specs.declared.grammar.Part.TheVariants as part
use Rattle.resolvo_report.specs.declared.reader.ReportReader.{ReportReader}
use Rattle.resolvo_report.specs.Stream.{GivesLine, IsLineFault}
use Rattle.resolvo_report.specs.declared.reader.ReportFault.{ReportFault}
use Rattle.resolvo_report.specs.declared.reader.ReportFault.TheVariants.{NotAReport, Reader, TooLong, Memory}
use Rattle.resolvo_report.specs.Value.{ReportLine}
use Rattle.resolvo_report.specs.Text.{line_text, lines_text, HasText}
use Rattle.resolvo_report.specs.Grammar.{next_part, part_after, AreLines, GoesOn, most_bytes, IsReportFault}
use Rattle.resolvo_report.specs.Parse.{line_read}
use Rattle.resolvo_report.proofs.LineLaws.{line_takes}
use Rattle.resolvo_report.proofs.WholeLines.{line_has_no_newline, line_again}

-- ---- the first newline

one_newline : (rest : List ℕ) → newlines (10 ∷ rest) ≡ newlines rest + 1
one_newline rest = newlines-append (10 ∷ []) rest ∙ omega arith

has_newline : (rest : List ℕ) → newlines (10 ∷ rest) ≡ 0 → ⊥
has_newline rest e = omega (arith, one_newline rest, e)

same_head : (b c : ℕ) (xs ys : List ℕ) → ◌≡◌ {A = List ℕ} (b ∷ xs) (c ∷ ys) → (b ≡ c) × (xs ≡ ys)
same_head b c xs ys e = (cc, cc)

-- the text before the first newline, and the rest
pub first_newline : (xs ys r t : List ℕ) → newlines xs ≡ 0 → newlines ys ≡ 0 → xs ++ 10 ∷ r ≡ ys ++ 10 ∷ t → (xs ≡ ys) × (r ≡ t)
first_newline [] [] r t p q e = (refl, (same_head 10 10 r t e).1)
first_newline [] (y ∷ ys) r t p q e =
    let h = same_head 10 y r (ys ++ 10 ∷ t) e in
    absurd (has_newline ys (subst (λ (b : ℕ). newlines (b ∷ ys) ≡ 0) (sym h.0) q))
first_newline (x ∷ xs) [] r t p q e =
    let h = same_head x 10 (xs ++ 10 ∷ r) t e in
    absurd (has_newline xs (subst (λ (b : ℕ). newlines (b ∷ xs) ≡ 0) h.0 p))
first_newline (x ∷ xs) (y ∷ ys) r t p q e =
    let h = same_head x y (xs ++ 10 ∷ r) (ys ++ 10 ∷ t) e in
    let rest = first_newline xs ys r t (no_newline x xs p).1 (no_newline y ys q).1 h.1 in
    (ap (λ (b : ℕ). b ∷ xs) h.0 ∙ ap (λ (bs : List ℕ). y ∷ bs) rest.0, rest.1)

newline_behind : (text rest : List ℕ) → (text ++ codes "\n") ++ rest ≡ text ++ 10 ∷ rest
newline_behind text rest = append_assoc text (codes "\n") rest

-- ---- where a text doesn't go on

none_some : {A : Type 0} (x : A) → ◌≡◌ {A = Option A} None (Some x) → ⊥
none_some x e = cc

-- the next line is no line of a report
pub stops_unread : (p : Part) (bytes text rest : List ℕ) → bytes ≡ text ++ 10 ∷ rest → newlines text ≡ 0 → line_read text ≡ None → GoesOn p bytes → ⊥
stops_unread p bytes text rest is none fault goes = ⊎_elim
    (λ h.
    let same = first_newline text (line_text h.0) rest h.1 none (line_has_no_newline h.0 h.3) (sym is ∙ h.5 ∙ newline_behind (line_text h.0) h.1) in
    none_some h.0 (sym fault ∙ ap line_read same.0 ∙ line_again h.0 h.3))
    (λ h. absurd (some_byte text rest (sym is ∙ h.0))) goes
  where
    some_byte : (text rest : List ℕ) → text ++ 10 ∷ rest ≡ [] → ⊥
    some_byte text rest e = omega (arith, ap (λ (xs : List ℕ). length xs) e, length-append text (10 ∷ rest))

-- the next line isn't allowed there
pub stops_misplaced : (p : Part) (bytes text rest : List ℕ) (l : ReportLine) → bytes ≡ text ++ 10 ∷ rest → newlines text ≡ 0 → line_read text ≡ Some l → next_part p l ≡ None → GoesOn p bytes → ⊥
stops_misplaced p bytes text rest l is none read misplaced goes = ⊎_elim
    (λ h.
    let same = first_newline text (line_text h.0) rest h.1 none (line_has_no_newline h.0 h.3) (sym is ∙ h.5 ∙ newline_behind (line_text h.0) h.1) in
    let line : l ≡ h.0 = same_Some l h.0 (sym read ∙ ap line_read same.0 ∙ line_again h.0 h.3) in
    none_some h.2 (sym misplaced ∙ ap (next_part p) line ∙ h.4))
    (λ h. absurd (some_byte text rest (sym is ∙ h.0))) goes
  where
    some_byte : (text rest : List ℕ) → text ++ 10 ∷ rest ≡ [] → ⊥
    some_byte text rest e = omega (arith, ap (λ (xs : List ℕ). length xs) e, length-append text (10 ∷ rest))

-- ---- the line that `next_line` took

taken : (before after : Option (List ℕ)) (line : List ℕ) → Consumes before after (line ++ 10 ∷ []) → IfKnown before (λ bytes. (rest : List ℕ) × (bytes ≡ line ++ 10 ∷ rest))
taken before after line h = λ bytes e.
    let c = consumed before after (line ++ 10 ∷ []) h bytes e in
    (c.0, c.2 ∙ append_assoc line (10 ∷ []) c.0)

pub unread_stops : (p : Part) (before after : Option (List ℕ)) (line : List ℕ) (whole : Bool) (room room_after : ℕ) → whole ≡ true → EndsLine whole before room line after room_after → line_read line ≡ None → IfKnown before (λ bytes. GoesOn p bytes → ⊥)
unread_stops p before after line false room room_after is ends none = absurd cc
unread_stops p before after line true room room_after is ends none = λ bytes e goes.
    let t = taken before after line ends.0 bytes e in
    stops_unread p bytes line t.0 t.1 ends.1 none goes

pub misplaced_stops : (p : Part) (before after : Option (List ℕ)) (line : List ℕ) (l : ReportLine) (whole : Bool) (room room_after : ℕ) → whole ≡ true → EndsLine whole before room line after room_after → line_read line ≡ Some l → next_part p l ≡ None
    → IfKnown before (λ bytes. GoesOn p bytes → ⊥)
misplaced_stops p before after line l false room room_after is ends read none = absurd cc
misplaced_stops p before after line l true room room_after is ends read none = λ bytes e goes.
    let t = taken before after line ends.0 bytes e in
    stops_misplaced p bytes line t.0 l t.1 ends.1 read none goes

-- the facts of a line that was read
pub record IsTaken (before : Option (List ℕ)) (room : ℕ) (l : ReportLine) (after : Option (List ℕ)) (room_after : ℕ) : Type 0 where
  pub bytes : Consumes before after (line_text l ++ codes "\n")
  pub text : HasText l
  pub used : room_after + length (line_text l ++ codes "\n") ≡ room

pub line_taken : (before after : Option (List ℕ)) (line : List ℕ) (l : ReportLine) (whole : Bool) (room room_after : ℕ) → whole ≡ true → EndsLine whole before room line after room_after → line_read line ≡ Some l → IsTaken before room l after room_after
line_taken before after line l false room room_after is ends read = absurd cc
line_taken before after line l true room room_after is ends read =
    let t = line_takes line l ends.1 read in
    record { bytes = subst (λ (bs : List ℕ). Consumes before after (bs ++ codes "\n")) t.0 ends.0; text = t.1; used = omega (arith, ends.2, length-append (line_text l) (codes "\n"), ap (λ (xs : List ℕ). length xs) t.0) }

-- ---- some lines, and the next

-- These lines were taken of the text at first, and lead to the part; this text and this room remain.
pub record ReadTo (known left : Option (List ℕ)) (lines : List ReportLine) (p : Part) (number room : ℕ) : Type 0 where
  pub bytes : Consumes known left (lines_text lines)
  pub good : AreLines lines p
  pub count : number ≡ length lines
  pub used : room + length (lines_text lines) ≡ most_bytes

lines_push : (lines : List ReportLine) (l : ReportLine) → lines_text (lines ++ l ∷ []) ≡ lines_text lines ++ (line_text l ++ codes "\n")
lines_push lines l = flat_map-append (λ l. line_text l ++ codes "\n") lines (l ∷ []) ∙ ap (λ (t : List ℕ). lines_text lines ++ t) (append-nil (line_text l ++ codes "\n"))

each_push : (lines : List ReportLine) (l : ReportLine) → AllByRecursion HasText lines → HasText l → AllByRecursion HasText (lines ++ l ∷ [])
each_push [] l each new = (new, tt)
each_push (x ∷ lines) l each new = (each.0, each_push lines l each.1 new)

after_push : (p : Part) (lines : List ReportLine) (l : ReportLine) (q r : Part) → part_after p lines ≡ Some q → next_part q l ≡ Some r → part_after p (lines ++ l ∷ []) ≡ Some r
after_push p [] l q r e new = let is : p ≡ q = same_Some p q e in ap (λ (o : Option Part). option_and_then (λ z. Some z) o) (ap (λ (z : Part). next_part z l) is ∙ new)
after_push p (x ∷ lines) l q r e new = by_next (next_part p x) (λ z h. after_push z lines l q r h new) e
  where
    by_next : (o : Option Part) → ((z : Part) → part_after z lines ≡ Some q → part_after z (lines ++ l ∷ []) ≡ Some r) → option_and_then (λ z. part_after z lines) o ≡ Some q → option_and_then (λ z. part_after z (lines ++ l ∷ [])) o ≡ Some r
    by_next None f h = absurd cc
    by_next (Some z) f h = f z h

pub read_nothing : (known left : Option (List ℕ)) (unread : List ℕ) (room number : ℕ) (p : Part) → left ≡ prepend_known unread known → unread ≡ [] → room ≡ most_bytes → number ≡ 0 → p ≡ part.Start → ReadTo known left [] p number room
read_nothing known left unread room number p is none full zero start = record {
  bytes = subst (λ (l : Option (List ℕ)). Consumes known l []) (sym (is ∙ ap (λ (u : List ℕ). prepend_known u known) none)) (nothing known);
  good = record { each = tt; placed = ap (λ (z : Part). Some z) (sym start) };
  count = zero;
  used = omega (arith, full);
}
  where
    nothing : (known : Option (List ℕ)) → Consumes known (prepend_known [] known) []
    nothing None = tt
    nothing (Some xs) = refl

pub read_more : (known left after : Option (List ℕ)) (lines more : List ReportLine) (l : ReportLine) (p q : Part) (number next_number room room_after : ℕ) → ReadTo known left lines p number room → IsTaken left room l after room_after → next_part p l ≡ Some q
    → next_number ≡ number + 1 → more ≡ lines ++ l ∷ [] → ReadTo known after more q next_number room_after
read_more known left after lines more l p q number next_number room room_after so_far taken placed next is = subst (λ (ls : List ReportLine). ReadTo known after ls q next_number room_after) (sym is) (record {
  bytes = subst (λ (bs : List ℕ). Consumes known after bs) (sym (lines_push lines l)) (consumed_both known left after (lines_text lines) (line_text l ++ codes "\n") so_far.bytes taken.bytes);
  good = record { each = each_push lines l so_far.good.each taken.text; placed = after_push part.Start lines l p q so_far.good.placed placed };
  count = omega (arith, next, so_far.count, length-append lines (l ∷ []));
  used = omega (arith, taken.used, so_far.used, ap (λ (xs : List ℕ). length xs) (lines_push lines l), length-append (lines_text lines) (line_text l ++ codes "\n"));
})

pub read_gives : (known before after : Option (List ℕ)) (lines more : List ReportLine) (l : ReportLine) (r s : ReportReader) → ReadTo known before lines r.part r.number r.lines.room → GivesLine before r l after s → more ≡ lines ++ l ∷ []
    → ReadTo known after more s.part s.number s.lines.room
read_gives known before after lines more l r s so_far g is = read_more known before after lines more l r.part s.part r.number s.number r.lines.room s.lines.room so_far (record { bytes = g.bytes; text = g.text; used = g.room }) g.placed g.number is

pub read_whole : (known left : Option (List ℕ)) (lines : List ReportLine) (p : Part) (number room : ℕ) → ReadTo known left lines p number room → IsAtEnd left → IfKnown known (λ text. text ≡ lines_text lines)
read_whole known left lines p number room so_far end = λ text e.
    let c = consumed known left (lines_text lines) so_far.bytes text e in
    let over : c.0 ≡ [] = subst IsAtEnd c.1 end in
    c.2 ∙ ap (λ (r : List ℕ). lines_text lines ++ r) over ∙ append-nil (lines_text lines)

-- a fault at the next line is one of the text
pub read_fails : (fault : ReportFault) (known left after : Option (List ℕ)) (lines : List ReportLine) (r : ReportReader) (failures failures_before failures_now interruptions : ℕ) → ReadTo known left lines r.part r.number r.lines.room → failures ≡ failures_before
    → IsLineFault fault r left after (DeviceFailed failures failures_now interruptions) → IsReportFault fault known after (DeviceFailed failures_before failures_now interruptions)
read_fails (NotAReport n) known left after lines r failures failures_before failures_now interruptions so_far same h = λ text e.
    let c = consumed known left (lines_text lines) so_far.bytes text e in
    record { above = lines; below = c.0; part = r.part; parts = c.2; good = so_far.good; place = omega (arith, h.0, so_far.count); none = h.1 c.0 c.1 }
read_fails Reader known left after lines r failures failures_before failures_now interruptions so_far same h = (
  subst (λ (n : ℕ). DeviceFailed n failures_now interruptions) same h.0,
  λ text e.
      let c = consumed known left (lines_text lines) so_far.bytes text e in
      let d = h.1 c.0 c.1 in
      record {
        received = lines_text lines ++ d.0;
        rest = d.1;
        left = d.2;
        parts = c.2 ∙ ap (λ (bs : List ℕ). lines_text lines ++ bs) d.3 ∙ sym (append_assoc (lines_text lines) d.0 d.1);
        good = record { above = lines; begun = d.0; part = r.part; parts = refl; good = so_far.good; unfinished = d.4 };
      },
)
read_fails TooLong known left after lines r failures failures_before failures_now interruptions so_far same h = λ text e.
    let c = consumed known left (lines_text lines) so_far.bytes text e in
    let d = h c.0 c.1 in
    let prefix : List ℕ = take r.lines.room c.0 in
    let rest : List ℕ = drop r.lines.room c.0 in
    let parts : text ≡ (lines_text lines ++ prefix) ++ rest = c.2 ∙ ap (λ (bs : List ℕ). lines_text lines ++ bs) (sym (take-append-drop r.lines.room c.0)) ∙ sym (append_assoc (lines_text lines) prefix rest) in (
      lines_text lines ++ prefix,
      rest,
      parts,
      omega (arith, so_far.used, length-append (lines_text lines) prefix, length-take r.lines.room c.0, d.0),
      omega (arith, length-drop r.lines.room c.0, d.0),
      record { above = lines; begun = prefix; part = r.part; parts = refl; good = so_far.good; unfinished = d.1 },
    )
read_fails Memory known left after lines r failures failures_before failures_now interruptions so_far same h = tt
