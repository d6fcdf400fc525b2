use Rattle.std.proofs.Common.{ap, sym, ◌∙◌, refl, Some}
use Rattle.std.proofs.lemmas.Option.{none-some}
use Rattle.resolvo_text.specs.View.{version_of}
use Rattle.resolvo_catalogue_core.specs.Listed.{listed}
use Rattle.resolvo_checker.proofs.StepLines.{is_listed_at, is_unlisted, named}
use Rattle.resolvo_checker.proofs.steps.number_of.Goals as goal

pub returns-in-Some-clause-found : goal.returns-in-Some-clause-found
returns-in-Some-clause-found c = (c.in-Some.ensures c.in-Some.number.0).0 refl ∙ ap Some (named c.deref.result.now _ c.args.version.now.number c.deref.ensures)

pub returns-in-Some-clause-listed : goal.returns-in-Some-clause-listed
returns-in-Some-clause-listed c = sym (is_listed_at (listed c.args.catalogue.now) c.in-Some.number.0 (version_of c.args.version.now) ((c.in-Some.ensures c.in-Some.number.0).0 refl ∙ ap Some (named c.deref.result.now _ c.args.version.now.number c.deref.ensures)))

pub returns-in-None-clause-listed : goal.returns-in-None-clause-listed
returns-in-None-clause-listed c = sym (is_unlisted (listed c.args.catalogue.now) (version_of c.args.version.now) (λ n e. none-some n ((c.in-None.ensures n).1 (e ∙ ap Some (sym (named c.deref.result.now _ c.args.version.now.number c.deref.ensures))))))
