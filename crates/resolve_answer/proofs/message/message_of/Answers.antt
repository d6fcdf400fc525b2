use Rattle.std.proofs.Common.{◌≡◌, ◌<◌, ℕ, true, List, length, refl, sym, ap, subst, ◌∙◌, arith}
use Rattle.resolvo_proof.specs.Offered.{offered_by}
use Rattle.resolvo_graph.specs.Message.{text_of}
use Rattle.resolvo_report.specs.Grammar.{most_bytes}
use Rattle.resolve_answer.specs.Marked.{marked}
use Rattle.resolve_answer.specs.Message.{meaning_of}
use Rattle.resolve_answer.proofs.MarkLemmas.{marked_lines}
use Rattle.resolve_answer.proofs.MessageLemmas.{lines_joined, text_lines}
use Rattle.resolve_answer.proofs.SplitLemmas.{have_lines}
use Rattle.resolve_answer.proofs.message.message_of.Goals as goal

pub returns-in-None-clause-long : goal.returns-in-None-clause-long
returns-in-None-clause-long c = λ none l there.
    let solver = c.args.solver.now in
    let (lines, (g, drawn, is_message), long) = c.in_ok-display.ensures.long c.in-None.is in
    let text : List ℕ = text_of (meaning_of solver.provider) lines in
    let (message, are) = have_lines text in
    let told = text_lines _ _ solver.provider (offered_by l.offers) solver.proof g lines text message (drawn l there) is_message refl are in
    let longer : most_bytes < length text = omega (arith, long) in
    (message, told, subst (λ (xs : List ℕ). most_bytes < length xs) (sym (lines_joined solver.provider lines text message refl are)) longer)

pub returns-in_ok-text-in-Some-clause-fits : goal.returns-in_ok-text-in-Some-clause-fits
returns-in_ok-text-in-Some-clause-fits c =
    let solver = c.args.solver.now in
    let display = c.in-Some.display in
    let (g, drawn, is_message) = rw c.in-Some.is at c.in_ok-display.ensures.lines in
    let same = rw c.in-Some.is at c.in_ok-display.ensures.interner in
    let text : List ℕ = text_of (meaning_of solver.provider) display.lines.items in
    let (message, are) = have_lines text in
    let shown : text_of (meaning_of display.interner.now) display.lines.items ≡ text = ap (λ p. text_of (meaning_of p) display.lines.items) same in (
      message,
      c.in_ok-text-in-Some.ensures.text ∙ (ap (λ (t : List ℕ). marked true t) (shown ∙ sym (lines_joined solver.provider display.lines.items text message refl are)) ∙ marked_lines message are.plain),
      λ l there. text_lines _ _ solver.provider (offered_by l.offers) solver.proof g display.lines.items text message (drawn l there) is_message refl are,
    )
