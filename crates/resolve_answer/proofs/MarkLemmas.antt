-- A text with the sign of a message before each line.
use Rattle.std.proofs.Common.{◌≡◌, ℕ, suc, Bool, true, false, not, arith, length, List, [], ◌∷◌, ◌++◌, map, refl, sym, ap, ◌∙◌, append_assoc, append-nil}
use Rattle.std.specs.Prelude.{◌==◌, codes}
use Rattle.std.specs.List.{AllByRecursion, list_all}
use Rattle.std.proofs.lemmas.Bool.{and_parts, false≢true}
use Rattle.std.proofs.lemmas.Bool.Decides.{nat_tests}
use Rattle.std.proofs.lemmas.List.Concat.{flat_map-append}
use Rattle.resolvo_text.specs.Lines.{is_newline}
use Rattle.resolvo_report.specs.Value.{ReportLine, RefusedHead, CatalogueLine, RequestLine, Message, Step, Refused}
use Rattle.resolvo_report.specs.Text.{line_text, lines_text, numbered, report_text}
use Rattle.resolve_answer.specs.Message.{IsPlain, joined}
use Rattle.resolve_answer.specs.Marked.{Marks, marked, begins_after, sign_at}

not_newline : (x : Bool) → not x ≡ true → x ≡ false
not_newline true e = sym e
not_newline false e = refl

-- ---- bytes one after the other

marked_both : (begins : Bool) (xs ys : List ℕ) → marked begins (xs ++ ys) ≡ marked begins xs ++ marked (begins_after begins xs) ys
marked_both begins [] ys = refl
marked_both begins (x ∷ xs) ys =
    ap (λ (t : List ℕ). sign_at begins ++ x ∷ t) (marked_both (is_newline x) xs ys)
    ∙ sym (append_assoc (sign_at begins) (x ∷ marked (is_newline x) xs) (marked (begins_after (is_newline x) xs) ys))

begins_both : (begins : Bool) (xs ys : List ℕ) → begins_after begins (xs ++ ys) ≡ begins_after (begins_after begins xs) ys
begins_both begins [] ys = refl
begins_both begins (x ∷ xs) ys = begins_both (is_newline x) xs ys

pub marks_nothing : (begins : Bool) (before : List ℕ) → Marks begins before [] begins before
marks_nothing begins before = (sym (append-nil before), refl)

pub marks_more : (first next last : Bool) (before between after : List ℕ) (xs ys : List ℕ) → Marks first before xs next between → Marks next between ys last after → Marks first before (xs ++ ys) last after
marks_more first next last before between after xs ys p q = (
  q.0 ∙ (ap (λ (t : List ℕ). t ++ marked next ys) p.0 ∙ (append_assoc before (marked first xs) (marked next ys)
      ∙ ap (λ (t : List ℕ). before ++ t) (ap (λ (b : Bool). marked first xs ++ marked b ys) p.1 ∙ sym (marked_both first xs ys)))),
  q.1 ∙ (ap (λ (b : Bool). begins_after b ys) p.1 ∙ sym (begins_both first xs ys)),
)

pub marks_empty : (begins : Bool) (before bytes : List ℕ) → (length bytes == 0) ≡ true → Marks begins before bytes begins before
marks_empty begins before [] none = marks_nothing begins before
marks_empty begins before (b ∷ bytes) none = absurd (false≢true (sym (not_none (length bytes)) ∙ none))
  where
    not_none : (n : ℕ) → (suc n == 0) ≡ false
    not_none n = grind (arith, nat_tests)

-- ---- the sign of a line

pub no_sign : (begins : Bool) (before : List ℕ) → begins ≡ false → before ≡ before ++ sign_at begins
no_sign true before h = cc
no_sign false before h = sym (append-nil before)

pub one_sign : (begins : Bool) (before after : List ℕ) → begins ≡ true → after ≡ before ++ codes "| " → after ≡ before ++ sign_at begins
one_sign true before after h put = put
one_sign false before after h put = cc

-- one byte, behind the sign of its line
pub marks_byte : (begins : Bool) (byte : ℕ) (before between after : List ℕ) → between ≡ before ++ sign_at begins → after ≡ between ++ byte ∷ [] → Marks begins before (byte ∷ []) (is_newline byte) after
marks_byte begins byte before between after sign put = (put ∙ (ap (λ (t : List ℕ). t ++ byte ∷ []) sign ∙ append_assoc before (sign_at begins) (byte ∷ [])), refl)

-- ---- bytes without a newline

plain_same : (bytes : List ℕ) → IsPlain bytes → marked false bytes ≡ bytes
plain_same [] plain = refl
plain_same (b ∷ bytes) plain =
    let (other, rest) = and_parts (not (is_newline b)) (list_all (λ x. not (is_newline x)) bytes) plain in
    ap (λ (k : Bool). b ∷ marked k bytes) (not_newline (is_newline b) other) ∙ ap (λ (t : List ℕ). b ∷ t) (plain_same bytes rest)

plain_begins : (bytes : List ℕ) → IsPlain bytes → begins_after false bytes ≡ false
plain_begins [] plain = refl
plain_begins (b ∷ bytes) plain =
    let (other, rest) = and_parts (not (is_newline b)) (list_all (λ x. not (is_newline x)) bytes) plain in
    ap (λ (k : Bool). begins_after k bytes) (not_newline (is_newline b) other) ∙ plain_begins bytes rest

-- some of them, behind the sign of their line
marks_line : (begins : Bool) (b : ℕ) (bytes before between after : List ℕ) → IsPlain (b ∷ bytes) → between ≡ before ++ sign_at begins → after ≡ between ++ b ∷ bytes → Marks begins before (b ∷ bytes) false after
marks_line begins b bytes before between after plain sign put = (
  put ∙ (ap (λ (t : List ℕ). t ++ b ∷ bytes) sign ∙ (append_assoc before (sign_at begins) (b ∷ bytes) ∙ ap (λ (t : List ℕ). before ++ (sign_at begins ++ t)) (sym (plain_same (b ∷ bytes) plain)))),
  sym (plain_begins (b ∷ bytes) plain),
)

pub marks_plain : (begins begins_now : Bool) (bytes before between after : List ℕ) → IsPlain bytes → (length bytes == 0) ≡ false → between ≡ before ++ sign_at begins → begins_now ≡ false → after ≡ between ++ bytes → Marks begins before bytes begins_now after
marks_plain begins begins_now [] before between after plain some sign begun put = cc
marks_plain begins begins_now (b ∷ bytes) before between after plain some sign begun put =
    let (text, begins_is) = marks_line begins b bytes before between after plain sign put in
    (text, begun ∙ begins_is)

-- ---- the lines of a message

begins_line : (line more : List ℕ) → marked true (line ++ 10 ∷ more) ≡ codes "| " ++ marked false (line ++ 10 ∷ more)
begins_line [] more = refl
begins_line (b ∷ line) more = refl

ends_line : (line more : List ℕ) → IsPlain line → marked false (line ++ 10 ∷ more) ≡ line ++ 10 ∷ marked true more
ends_line [] more plain = refl
ends_line (b ∷ line) more plain =
    let (other, rest) = and_parts (not (is_newline b)) (list_all (λ x. not (is_newline x)) line) plain in
    ap (λ (k : Bool). b ∷ marked k (line ++ 10 ∷ more)) (not_newline (is_newline b) other) ∙ ap (λ (t : List ℕ). b ∷ t) (ends_line line more rest)

whole_line : (line more : List ℕ) → IsPlain line → marked true ((line ++ codes "\n") ++ more) ≡ ((codes "| " ++ line) ++ codes "\n") ++ marked true more
whole_line line more plain =
    ap (λ (t : List ℕ). marked true t) (append_assoc line (codes "\n") more)
    ∙ (begins_line line more ∙ (ap (λ (t : List ℕ). codes "| " ++ t) (ends_line line more plain)
    ∙ sym (append_assoc (codes "| " ++ line) (codes "\n") (marked true more) ∙ append_assoc (codes "| ") line (10 ∷ marked true more))))

pub marked_lines : (lines : List (List ℕ)) → AllByRecursion IsPlain lines → marked true (joined lines) ≡ lines_text (map Message lines)
marked_lines [] plain = refl
marked_lines (line ∷ lines) plain = whole_line line (joined lines) plain.0 ∙ ap (λ (t : List ℕ). ((codes "| " ++ line) ++ codes "\n") ++ t) (marked_lines lines plain.1)

-- a report with a message is that without one, and then the message's lines
pub message_behind : (catalogue request : List ℕ) (steps : List Step) (lines : List (List ℕ)) → report_text (Refused catalogue request steps []) ++ lines_text (map Message lines) ≡ report_text (Refused catalogue request steps lines)
message_behind catalogue request steps lines =
    let named : List ReportLine = map CatalogueLine catalogue ++ map RequestLine request ++ numbered 1 steps in
    let message : List ReportLine = map Message lines in
    ap (λ (first : List ReportLine). lines_text (RefusedHead ∷ first) ++ lines_text message) (append-nil named)
    ∙ sym (flat_map-append (λ (l : ReportLine). line_text l ++ codes "\n") (RefusedHead ∷ named) message)
