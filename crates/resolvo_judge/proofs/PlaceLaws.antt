-- A text is refused at one line at most, and at none where it is the text of a report that holds.
use Rattle.std.proofs.Common.{◌≡◌, ℕ, ◌<◌, ◌≤◌, inl, inr, List, [], ◌∷◌, ◌++◌, length, Option, Some, None, refl, sym, ap, subst, ◌∙◌, append_assoc, append-nil, length-append, arith}
use Rattle.std.specs.Prelude.{codes, IsTrue, true}
use Rattle.std.specs.List.{AllByRecursion}
use Rattle.std.specs.Option.{option_and_then}
use Rattle.std.proofs.lemmas.Bool.{cases_order, cases_lt}
use Rattle.std.proofs.lemmas.Option.{same_Some}
use Rattle.resolvo_text.specs.Line.{Line}
use Rattle.resolvo_text.proofs.AlternativeLemmas.{bind_some}
use Rattle.resolvo_report.specs.declared.grammar.Part.{Part}
use Rattle.resolvo_report.specs.declared.grammar.Part.TheVariants as part
use Rattle.resolvo_report.specs.Value.{Report, ReportLine}
use Rattle.resolvo_report.specs.Text.{line_text, lines_text, HasText, report_lines}
use Rattle.resolvo_report.specs.Grammar.{next_part, part_after, may_end, AreLines}
use Rattle.resolvo_report.proofs.StreamLemmas.{first_newline}
use Rattle.resolvo_report.proofs.WholeLines.{line_has_no_newline, same_line}
use Rattle.resolvo_judge.specs.Refusal.{passes, Ends, ArePassed}
use Rattle.resolvo_judge.specs.Judgement.{IsUpheld, HoldsOn, IsRefusedAt}
use Rattle.resolvo_checker.proofs.WholeProofs.{take_prefix}
use Rattle.resolvo_judge.proofs.Accepted.{get_seam}

abbrev pub AllHaveText : List ReportLine → Type 0
AllHaveText ls = AllByRecursion HasText ls

pub line_first : (l : ReportLine) (ls : List ReportLine) (rest : List ℕ) → lines_text (l ∷ ls) ++ rest ≡ line_text l ++ 10 ∷ (lines_text ls ++ rest)
line_first l ls rest = append_assoc (line_text l ++ codes "\n") (lines_text ls) rest ∙ append_assoc (line_text l) (codes "\n") (lines_text ls ++ rest)

-- Of two ways to cut one text, that with no more lines is a prefix of the other.
pub record Splits (above lines : List ReportLine) (below rest : List ℕ) : Type 0 where
  pub more : List ReportLine
  pub parts : lines ≡ above ++ more
  pub left : below ≡ lines_text more ++ rest

pub splits : (above lines : List ReportLine) (below rest : List ℕ) → AllHaveText above → AllHaveText lines → length above ≤ length lines → lines_text lines ++ rest ≡ lines_text above ++ below → Splits above lines below rest
splits [] lines below rest p q le e = record { more = lines; parts = refl; left = sym e }
splits (a ∷ above) [] below rest p q le e = absurd (omega (arith, le))
splits (a ∷ above) (l ∷ lines) below rest p q le e =
    let first = first_newline (line_text l) (line_text a) (lines_text lines ++ rest) (lines_text above ++ below) (line_has_no_newline l q.0) (line_has_no_newline a p.0) (sym (line_first l lines rest) ∙ e ∙ line_first a above below) in
    let same : l ≡ a = same_line l a q.0 p.0 first.0 in
    let s = splits above lines below rest p.1 q.1 (omega (arith, le)) first.1 in
    record { more = s.more; parts = ap (λ (x : ReportLine). x ∷ lines) same ∙ ap (λ (ls : List ReportLine). a ∷ ls) s.parts; left = s.left }

split_after : (p m q : Part) (above rest : List ReportLine) → part_after p above ≡ Some m → part_after p (above ++ rest) ≡ Some q → part_after m rest ≡ Some q
split_after p m q [] rest e all = ap (λ (z : Part). part_after z rest) (sym (same_Some p m e)) ∙ all
split_after p m q (a ∷ above) rest e all = by_next (next_part p a) (λ z f g. split_after z m q above rest f g) e all
  where
    by_next : (o : Option Part) → ((z : Part) → part_after z above ≡ Some m → part_after z (above ++ rest) ≡ Some q → part_after m rest ≡ Some q)
        → option_and_then (λ z. part_after z above) o ≡ Some m → option_and_then (λ z. part_after z (above ++ rest)) o ≡ Some q → part_after m rest ≡ Some q
    by_next None f g h = absurd cc
    by_next (Some z) f g h = f z g h

text_right : (above rest : List ReportLine) → AllHaveText (above ++ rest) → AllHaveText rest
text_right [] rest h = h
text_right (a ∷ above) rest h = text_right above rest h.1

module _ (catalogue request : List Line) where
  -- after a prefix of lines that pass, the next line of the text passes
  goes_on : (above : List ReportLine) (p q : Part) (below rest : List ℕ) (l : ReportLine) (ls : List ReportLine) → AreLines above p → AreLines (above ++ l ∷ ls) q → ArePassed catalogue request (above ++ l ∷ ls) → below ≡ lines_text (l ∷ ls) ++ rest → HoldsOn catalogue request above p below
  goes_on above p q below rest l ls good all passed left =
      let next = bind_some (next_part p l) (λ z. part_after z ls) q (split_after part.Start p q above (l ∷ ls) good.placed all.placed) in
      let pass = subst (λ (xs : List ReportLine). passes catalogue request xs l ≡ true) (take_prefix above (l ∷ ls)) (passed (length above) l (get_seam above l ls)) in
      inl (l, lines_text ls ++ rest, next.0, (text_right above (l ∷ ls) all.each).0, next.1, left ∙ line_first l ls rest ∙ sym (append_assoc (line_text l) (codes "\n") (lines_text ls ++ rest)), pass)

  -- no text is refused after a prefix of lines that pass
  not_below : (above lines : List ReportLine) (p q : Part) (below rest : List ℕ) → AreLines above p → AreLines lines q → ArePassed catalogue request lines → length above < length lines → lines_text lines ++ rest ≡ lines_text above ++ below → (HoldsOn catalogue request above p below → ⊥) → ⊥
  not_below above lines p q below rest good all passed lt e none =
      let s = splits above lines below rest good.each all.each (omega (arith, lt)) e in one s.more s.parts s.left
    where
      one : (more : List ReportLine) → lines ≡ above ++ more → below ≡ lines_text more ++ rest → ⊥
      one [] parts left = omega (arith, lt, ap (λ (ls : List ReportLine). length ls) (parts ∙ append-nil above))
      one (l ∷ ls) parts left = none (goes_on above p q below rest l ls good (subst (λ (xs : List ReportLine). AreLines xs q) parts all) (subst (ArePassed catalogue request) parts passed) left)

  same_length : (m n : ℕ) → (m < n → ⊥) → (n < m → ⊥) → m ≡ n
  same_length m n less more = elim (cases_order m n) [
    | inl same ↦ same
    | inr rest ↦ elim rest [ inl lt ↦ absurd (less lt) | inr gt ↦ absurd (more gt) ]
  ]

  pub one_place : (text : List ℕ) (m n : ℕ) → IsRefusedAt catalogue request text m → IsRefusedAt catalogue request text n → m ≡ n
  one_place text m n a b =
      let same = same_length (length a.above) (length b.above)
      (λ lt. not_below a.above b.above a.part b.part a.below b.below a.good b.good b.passed lt (sym b.parts ∙ a.parts) a.none)
      (λ gt. not_below b.above a.above b.part a.part b.below a.below b.good a.good a.passed gt (sym a.parts ∙ b.parts) b.none) in
      omega (arith, a.place, b.place, same)

  -- all lines of the report pass, and so does its end
  at_end : (lines : List ReportLine) (q : Part) (a : List ReportLine) (p : Part) (below : List ℕ) (rest : List ReportLine) → AreLines a p → AreLines lines q → IsTrue (may_end q) → Ends catalogue request lines → a ≡ lines ++ rest → [] ≡ lines_text rest ++ below
      → (HoldsOn catalogue request a p below → ⊥) → ⊥
  at_end lines q a p below [] good all may ends parts left none =
      let same : a ≡ lines = parts ∙ append-nil lines in
      let part : q ≡ p = same_Some q p (sym all.placed ∙ ap (part_after part.Start) (sym same) ∙ good.placed) in
      none (inr (sym left, subst (λ (z : Part). IsTrue (may_end z)) part may, subst (λ (ls : List ReportLine). Ends catalogue request ls) (sym same) ends))
  at_end lines q a p below (l ∷ ls) good all may ends parts left none = omega (arith, ap (λ (xs : List ℕ). length xs) (left ∙ line_first l ls below), length-append (line_text l) (10 ∷ (lines_text ls ++ below)))

  pub upheld_nowhere : (text : List ℕ) (r : Report) (n : ℕ) → IsUpheld catalogue request text r → IsRefusedAt catalogue request text n → ⊥
  upheld_nowhere text r n u a =
      let lines = report_lines r in
      let same : lines_text lines ++ [] ≡ lines_text a.above ++ a.below = append-nil (lines_text lines) ∙ sym u.is ∙ a.parts in
      elim (cases_lt (length a.above) (length lines)) [
        | inl lt ↦ not_below a.above lines a.part u.report.part a.below [] a.good u.report.lines u.accepted.passed lt same a.none
        | inr ge ↦
            let s = splits lines a.above [] a.below u.report.lines.each a.good.each ge (sym same) in
            at_end lines u.report.part a.above a.part a.below s.more a.good u.report.lines u.report.whole u.accepted.ends s.parts s.left a.none
      ]
