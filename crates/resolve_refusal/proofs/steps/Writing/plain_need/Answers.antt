use Rattle.std.proofs.Common.{ℕ, Option, None, subst}
use Rattle.std.specs.Option.{option_map}
use Rattle.resolvo_text.specs.Line.{Needs}
use Rattle.resolvo_catalogue.specs.Known.{alternatives_at}
use Rattle.resolve_refusal.specs.Lines.{IsLeast, text_of, IsLineOf, IsLineAt}
use Rattle.resolve_refusal.specs.StepRules.{version_no}
use Rattle.resolve_refusal.proofs.Cases.{plain_first, plain_none}
use Rattle.resolve_refusal.proofs.steps.Writing.plain_need.Goals as goal

pub returns-in_default-clause-line : goal.returns-in_default-clause-line
returns-in_default-clause-line c =
    let catalogue = c.args.self.texts.catalogue.now in
    let request = c.args.self.texts.request.now.lines in
    let place = option_map version_no c.args.parent in
    let alternatives = alternatives_at c.args.self.provider.now.ids c.args.requirement in
    plain_none (IsLineOf catalogue request place) (text_of catalogue request place) alternatives
    (subst (λ (o : Option ℕ). IsLeast o (λ n. IsLineOf catalogue request place n × IsLineAt (text_of catalogue request place) (Needs alternatives None) n)) c.in_default.is c.in_ok-line.ensures.line)

pub returns-clause-line : goal.returns-clause-line
returns-clause-line c =
    let catalogue = c.args.self.texts.catalogue.now in
    let request = c.args.self.texts.request.now.lines in
    let place = option_map version_no c.args.parent in
    let alternatives = alternatives_at c.args.self.provider.now.ids c.args.requirement in
    plain_first (IsLineOf catalogue request place) (text_of catalogue request place) alternatives c.in-Some.line
    (subst (λ (o : Option ℕ). IsLeast o (λ n. IsLineOf catalogue request place n × IsLineAt (text_of catalogue request place) (Needs alternatives None) n)) c.in-Some.is c.in_ok-line.ensures.line)
