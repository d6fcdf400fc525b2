use Rattle.std.proofs.Common.{◌∙◌, sym, subst}
use Rattle.resolvo_text.specs.declared.spec.Span.{Span}
use Rattle.resolve_order.specs.Numbers.{version_in, IsNewestIn}
use Rattle.resolve_order.proofs.PickLemmas.{met_by, met_none}
use Rattle.resolve_order.proofs.chosen.Chosen.is_met.Goals as goal

pub returns-in-Some : goal.returns-in-Some
returns-in-Some c = λ catalogue chosen entries s of h. c.is_some.ensures ∙ met_by catalogue c.args.self.now chosen entries s c.in-Some.«package» c.newest_in.result h (sym of.0 ∙ c.in-Some.is) (subst (λ (span : Span). IsNewestIn (version_in c.args.self.now.entries c.in-Some.«package») span c.newest_in.result) of.1 c.newest_in.ensures)

pub returns-in-None : goal.returns-in-None
returns-in-None c = λ catalogue chosen entries s of h. met_none catalogue c.args.self.now chosen entries s h (sym of.0 ∙ c.in-None.is)
