-- A report has one text, a text is one report's, and reading a report's text finds no fault.
use Rattle.std.proofs.Common.{◌≡◌, ℕ, ◌+◌, inl, inr, List, [], ◌∷◌, ◌++◌, length, map, Option, Some, None, refl, sym, ap, subst, ◌∙◌, append_assoc, append-nil, length-append, arith}
use Rattle.std.specs.Prelude.{codes, IsTrue}
use Rattle.std.specs.List.{AllByRecursion}
use Rattle.std.specs.Option.{option_and_then}
use Rattle.std.proofs.lemmas.Option.{same_Some}
use Rattle.resolvo_text.proofs.AlternativeLemmas.{bind_some}
use Rattle.resolvo_report.specs.declared.grammar.Part.{Part}
use Rattle.resolvo_report.specs.declared.grammar.Part.TheVariants as part
use Rattle.resolvo_report.specs.Value.{Step, AnswerLine, Report, Install, Refused, ReportLine, RefusedHead, Answer, CatalogueLine, RequestLine, Numbered, Message}
use Rattle.resolvo_report.specs.Text.{line_text, lines_text, HasText, numbered, report_lines, report_text}
use Rattle.resolvo_report.specs.Grammar.{next_part, part_after, may_end, IsReport, GoesOn, IsOutsideAt}
use Rattle.resolvo_report.proofs.WholeLines.{line_has_no_newline, same_line}
use Rattle.resolvo_report.proofs.StreamLemmas.{first_newline}

abbrev AllHaveText : List ReportLine → Type 0
AllHaveText ls = AllByRecursion HasText ls

-- the lines of a text that begins with the text of these lines
abbrev with_newline : ReportLine → List ℕ
with_newline l = line_text l ++ codes "\n"

line_first : (l : ReportLine) (ls : List ReportLine) (rest : List ℕ) → lines_text (l ∷ ls) ++ rest ≡ line_text l ++ 10 ∷ (lines_text ls ++ rest)
line_first l ls rest = append_assoc (with_newline l) (lines_text ls) rest ∙ append_assoc (line_text l) (codes "\n") (lines_text ls ++ rest)

some_text : (l : ReportLine) (ls : List ReportLine) (rest : List ℕ) → [] ≡ lines_text (l ∷ ls) ++ rest → ⊥
some_text l ls rest e = omega (arith, ap (λ (xs : List ℕ). length xs) (e ∙ line_first l ls rest), length-append (line_text l) (10 ∷ (lines_text ls ++ rest)))

-- the lines above, and the rest
pub record Begins (above lines : List ReportLine) (below : List ℕ) : Type 0 where
  pub rest : List ReportLine
  pub parts : lines ≡ above ++ rest
  pub left : below ≡ lines_text rest

pub begins : (above lines : List ReportLine) (below : List ℕ) → AllHaveText above → AllHaveText lines → lines_text lines ≡ lines_text above ++ below → Begins above lines below
begins [] lines below p q e = record { rest = lines; parts = refl; left = sym e }
begins (a ∷ above) [] below p q e = absurd (some_text a above below e)
begins (a ∷ above) (l ∷ lines) below p q e =
    let first = first_newline (line_text l) (line_text a) (lines_text lines) (lines_text above ++ below) (line_has_no_newline l q.0) (line_has_no_newline a p.0) (sym (append_assoc (line_text l) (codes "\n") (lines_text lines)) ∙ e ∙ line_first a above below) in
    let same : l ≡ a = same_line l a q.0 p.0 first.0 in
    let b = begins above lines below p.1 q.1 first.1 in
    record { rest = b.rest; parts = ap (λ (x : ReportLine). x ∷ lines) same ∙ ap (λ (ls : List ReportLine). a ∷ ls) b.parts; left = b.left }

no_lines : (ls : List ReportLine) → [] ≡ lines_text ls → ls ≡ []
no_lines [] e = refl
no_lines (l ∷ ls) e = absurd (some_text l ls [] (e ∙ sym (append-nil (lines_text (l ∷ ls)))))

same_lines : (xs ys : List ReportLine) → AllHaveText xs → AllHaveText ys → lines_text xs ≡ lines_text ys → xs ≡ ys
same_lines xs ys p q e =
    let b = begins ys xs [] q p (e ∙ sym (append-nil (lines_text ys))) in
    b.parts ∙ ap (λ (ls : List ReportLine). ys ++ ls) (no_lines b.rest b.left) ∙ append-nil ys

-- ---- the lines of a report

abbrev with_picked : {X : Type 0} → Option X → List X → List X
with_picked None xs = xs
with_picked (Some x) xs = x ∷ xs

-- the parts of a report in some lines
abbrev picked : {X : Type 0} → (ReportLine → Option X) → List ReportLine → List X
picked f [] = []
picked f (l ∷ ls) = with_picked (f l) (picked f ls)

picked-append : {X : Type 0} (f : ReportLine → Option X) (xs ys : List ReportLine) → picked f (xs ++ ys) ≡ picked f xs ++ picked f ys
picked-append f [] ys = refl
picked-append {X} f (l ∷ xs) ys = ap (λ (zs : List X). with_picked (f l) zs) (picked-append f xs ys) ∙ by_test (f l)
  where
    by_test : (o : Option X) → with_picked o (picked f xs ++ picked f ys) ≡ with_picked o (picked f xs) ++ picked f ys
    by_test None = refl
    by_test (Some x) = refl

picked_all : {X : Type 0} (f : ReportLine → Option X) (make : X → ReportLine) → ((x : X) → f (make x) ≡ Some x) → (xs : List X) → picked f (map make xs) ≡ xs
picked_all f make is [] = refl
picked_all {X} f make is (x ∷ xs) = ap (λ (o : Option X). with_picked o (picked f (map make xs))) (is x) ∙ ap (λ (ys : List X). x ∷ ys) (picked_all f make is xs)

picked_none : {X Y : Type 0} (f : ReportLine → Option X) (make : Y → ReportLine) → ((y : Y) → f (make y) ≡ None) → (ys : List Y) → picked f (map make ys) ≡ []
picked_none f make is [] = refl
picked_none {X} {Y} f make is (y ∷ ys) = ap (λ (o : Option X). with_picked o (picked f (map make ys))) (is y) ∙ picked_none f make is ys

picked_no_steps : {X : Type 0} (f : ReportLine → Option X) → ((n : ℕ) (s : Step) → f (Numbered n s) ≡ None) → (n : ℕ) (ss : List Step) → picked f (numbered n ss) ≡ []
picked_no_steps f is n [] = refl
picked_no_steps {X} f is n (s ∷ ss) = ap (λ (o : Option X). with_picked o (picked f (numbered (n + 1) ss))) (is n s) ∙ picked_no_steps f is (n + 1) ss

abbrev answer_in : ReportLine → Option AnswerLine
answer_in (Answer a) = Some a
answer_in _ = None

abbrev catalogue_in : ReportLine → Option ℕ
catalogue_in (CatalogueLine n) = Some n
catalogue_in _ = None

abbrev request_in : ReportLine → Option ℕ
request_in (RequestLine n) = Some n
request_in _ = None

abbrev step_in : ReportLine → Option Step
step_in (Numbered n s) = Some s
step_in _ = None

abbrev message_in : ReportLine → Option (List ℕ)
message_in (Message m) = Some m
message_in _ = None

picked_steps : (n : ℕ) (ss : List Step) → picked step_in (numbered n ss) ≡ ss
picked_steps n [] = refl
picked_steps n (s ∷ ss) = ap (λ (xs : List Step). s ∷ xs) (picked_steps (n + 1) ss)

-- the report of the lines
abbrev report_from : List ReportLine → Report
report_from (RefusedHead ∷ ls) = Refused (picked catalogue_in ls) (picked request_in ls) (picked step_in ls) (picked message_in ls)
report_from (_ ∷ ls) = Install (picked answer_in ls) (picked step_in ls)
report_from [] = Install [] []

four : {X : Type 0} (f : ReportLine → Option X) (c r n m : List ReportLine) → picked f (c ++ r ++ n ++ m) ≡ picked f c ++ picked f r ++ picked f n ++ picked f m
four {X} f c r n m = picked-append f (c ++ r ++ n) m ∙ ap (λ (xs : List X). xs ++ picked f m) (picked-append f (c ++ r) n ∙ ap (λ (xs : List X). xs ++ picked f n) (picked-append f c r))

nil_twice : {X : Type 0} (xs : List X) → xs ++ [] ++ [] ≡ xs
nil_twice xs = append-nil (xs ++ []) ∙ append-nil xs

back : (r : Report) → report_from (report_lines r) ≡ r
back (Install ls ss) =
    let answers : picked answer_in (map Answer ls ++ numbered 1 ss) ≡ ls = picked-append answer_in (map Answer ls) (numbered 1 ss) ∙ ap (λ (xs : List AnswerLine). picked answer_in (map Answer ls) ++ xs) (picked_no_steps answer_in (λ n s. refl) 1 ss) ∙ append-nil (picked answer_in (map Answer ls)) ∙ picked_all answer_in (λ a. Answer a) (λ a. refl) ls in
    let steps : picked step_in (map Answer ls ++ numbered 1 ss) ≡ ss = picked-append step_in (map Answer ls) (numbered 1 ss) ∙ ap (λ (xs : List Step). xs ++ picked step_in (numbered 1 ss)) (picked_none step_in (λ a. Answer a) (λ a. refl) ls) ∙ picked_steps 1 ss in
    ap (λ (xs : List AnswerLine). Install xs (picked step_in (map Answer ls ++ numbered 1 ss))) answers ∙ ap (λ (xs : List Step). Install ls xs) steps
back (Refused cs rs ss ms) =
    let c = map CatalogueLine cs in
    let r = map RequestLine rs in
    let n = numbered 1 ss in
    let m = map Message ms in
    let all = c ++ r ++ n ++ m in
    let catalogue : picked catalogue_in all ≡ cs = four catalogue_in c r n m ∙ rw (picked_none catalogue_in (λ x. RequestLine x) (λ x. refl) rs, picked_no_steps catalogue_in (λ n s. refl) 1 ss, picked_none catalogue_in (λ x. Message x) (λ x. refl) ms, picked_all catalogue_in (λ x. CatalogueLine x) (λ x. refl) cs) (ap (λ (xs : List ℕ). xs ++ []) (nil_twice cs) ∙ append-nil cs) in
    let request : picked request_in all ≡ rs = four request_in c r n m ∙ rw (picked_none request_in (λ x. CatalogueLine x) (λ x. refl) cs, picked_no_steps request_in (λ n s. refl) 1 ss, picked_none request_in (λ x. Message x) (λ x. refl) ms, picked_all request_in (λ x. RequestLine x) (λ x. refl) rs) (nil_twice rs) in
    let steps : picked step_in all ≡ ss = four step_in c r n m ∙ rw (picked_none step_in (λ x. CatalogueLine x) (λ x. refl) cs, picked_none step_in (λ x. RequestLine x) (λ x. refl) rs, picked_none step_in (λ x. Message x) (λ x. refl) ms, picked_steps 1 ss) (append-nil ss) in
    let message : picked message_in all ≡ ms = four message_in c r n m ∙ rw (picked_none message_in (λ x. CatalogueLine x) (λ x. refl) cs, picked_none message_in (λ x. RequestLine x) (λ x. refl) rs, picked_no_steps message_in (λ n s. refl) 1 ss, picked_all message_in (λ x. Message x) (λ x. refl) ms) refl in
    ap (λ (xs : List ℕ). Refused xs (picked request_in all) (picked step_in all) (picked message_in all)) catalogue
    ∙ ap (λ (xs : List ℕ). Refused cs xs (picked step_in all) (picked message_in all)) request
    ∙ ap (λ (xs : List Step). Refused cs rs xs (picked message_in all)) steps
    ∙ ap (λ (xs : List (List ℕ)). Refused cs rs ss xs) message

-- two reports of one text are one
pub one_report : (a b : Report) → IsReport a → IsReport b → report_text a ≡ report_text b → a ≡ b
one_report a b p q e = sym (back a) ∙ ap report_from (same_lines (report_lines a) (report_lines b) p.lines.each q.lines.each e) ∙ back b

-- ---- no fault in a report

split_after : (p m q : Part) (above rest : List ReportLine) → part_after p above ≡ Some m → part_after p (above ++ rest) ≡ Some q → part_after m rest ≡ Some q
split_after p m q [] rest e all = ap (λ (z : Part). part_after z rest) (sym (same_Some p m e)) ∙ all
split_after p m q (a ∷ above) rest e all = by_next (next_part p a) (λ z f g. split_after z m q above rest f g) e all
  where
    by_next : (o : Option Part) → ((z : Part) → part_after z above ≡ Some m → part_after z (above ++ rest) ≡ Some q → part_after m rest ≡ Some q)
        → option_and_then (λ z. part_after z above) o ≡ Some m → option_and_then (λ z. part_after z (above ++ rest)) o ≡ Some q → part_after m rest ≡ Some q
    by_next None f g h = absurd cc
    by_next (Some z) f g h = f z g h

all_right : (above rest : List ReportLine) → AllHaveText (above ++ rest) → AllHaveText rest
all_right [] rest h = h
all_right (a ∷ above) rest h = all_right above rest h.1

goes_on : (m q : Part) (rest : List ReportLine) (below : List ℕ) → AllHaveText rest → part_after m rest ≡ Some q → IsTrue (may_end q) → below ≡ lines_text rest → GoesOn m below
goes_on m q [] below each placed end is = inr (is, subst (λ (z : Part). IsTrue (may_end z)) (sym (same_Some m q placed)) end)
goes_on m q (l ∷ ls) below each placed end is =
    let b = bind_some (next_part m l) (λ z. part_after z ls) q placed in
    inl (l, lines_text ls, b.0, each.0, b.1, is)

-- no line of a report's text is outside the grammar
pub no_fault : (r : Report) (n : ℕ) → IsReport r → IsOutsideAt (report_text r) n → ⊥
no_fault r n whole outside =
    let b = begins outside.above (report_lines r) outside.below outside.good.each whole.lines.each outside.parts in
    let placed = split_after part.Start outside.part whole.part outside.above b.rest outside.good.placed (ap (part_after part.Start) (sym b.parts) ∙ whole.lines.placed) in
    let each = all_right outside.above b.rest (subst AllHaveText b.parts whole.lines.each) in
    outside.none (goes_on outside.part whole.part b.rest outside.below each placed whole.whole b.left)
