use Rattle.std.proofs.Common.{ℕ, Option, subst}
use Rattle.resolvo_text.specs.View.{specs_of}
use Rattle.resolve_refusal.specs.Lines.{text_of, IsCaseAt}
use Rattle.resolve_refusal.proofs.lines.Texts.need_from.Goals as goal

pub returns-in-Some-clause-line : goal.returns-in-Some-clause-line
returns-in-Some-clause-line c =
    let text = text_of c.args.self.catalogue.now c.args.self.request.now.lines c.args.place in (
      c.requires.among,
      subst (λ (o : Option ℕ). IsCaseAt text (specs_of c.args.alternatives.now) (specs_of c.args.case.now) c.args.line o) c.in-Some.is c.in_ok-number.ensures.case,
      c.requires.before,
    )
