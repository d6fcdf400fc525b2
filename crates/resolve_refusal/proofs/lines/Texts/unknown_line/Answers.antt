use Rattle.std.proofs.Common.{◌≡◌, ◌<◌, ◌≤◌, ℕ, Some, sym, subst, arith}
use Rattle.resolvo_text.specs.Line.{Unknown}
use Rattle.resolve_refusal.specs.Lines.{IsLineOf, IsLineAt, count_of}
use Rattle.resolve_refusal.proofs.FindLemmas.{none_at_all, none_smaller}
use Rattle.resolve_refusal.proofs.lines.Texts.unknown_line.Goals as goal

pub returns-then-is_unknown : goal.returns-then-is_unknown
returns-then-is_unknown c =
    let lines = c.lines_of-lines.result in
    let within : c.loop-at.at < count_of lines = (let is : c.count-at-end.result ≡ count_of lines = c.count-at-end.ensures in omega (arith, is, c.loop-at-test.true)) in (
      (subst (IsLineOf c.args.self.catalogue.now c.args.self.request.now.lines (Some c.args.version)) (sym c.number-line.ensures) (c.lines_of-lines.ensures.only c.loop-at.at within), c.is_unknown.ensures.0 c.if-is_unknown.true),
      λ m below both. none_smaller lines (IsLineOf c.args.self.catalogue.now c.args.self.request.now.lines (Some c.args.version)) (IsLineAt c.args.self.catalogue.now (Unknown c.args.word.now)) c.lines_of-lines.ensures c.loop-at.at c.loop-at.invariant within m
          (subst (λ (j : ℕ). m < j) c.number-line.ensures below) both.0 both.1,
    )

pub returns : goal.returns
returns c = λ n both.
    let lines = c.lines_of-lines.result in
    let end : count_of lines ≤ c.loop-at.at = (let is : c.count-at-end.result ≡ count_of lines = c.count-at-end.ensures in omega (arith, is, c.loop-at-test.false)) in
    none_at_all lines (IsLineOf c.args.self.catalogue.now c.args.self.request.now.lines (Some c.args.version)) (IsLineAt c.args.self.catalogue.now (Unknown c.args.word.now)) c.lines_of-lines.ensures c.loop-at.at c.loop-at.invariant end n both.0 both.1
