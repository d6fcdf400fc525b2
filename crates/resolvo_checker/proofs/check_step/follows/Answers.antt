use Rattle.std.proofs.Common.{◌≡◌, ap, sym, subst, ◌∙◌, ◌&&◌, map, length, nat_eq, true}
use Rattle.std.specs.Prelude.{is_some}
use Rattle.std.specs.List.{list_all}
use Rattle.resolvo_text.specs.View.{version_of}
use Rattle.resolvo_catalogue_core.specs.Listed.{listed}
use Rattle.resolvo_catalogue_core.proofs.CatalogueFacts.{ok_map}
use Rattle.resolvo_pool_core.specs.OnePass.{one_pass}
use Rattle.resolvo_report.specs.View.{step_of}
use Rattle.resolvo_report.specs.View as view
use Rattle.resolvo_checker.specs.Literals.{literals_of, clause_at}
use Rattle.resolvo_checker.specs.Rup.{is_earlier}
use Rattle.resolvo_checker.specs.StepClauses.{clause_of}
use Rattle.resolvo_checker.specs.Proof.{follows}
use Rattle.resolvo_checker.specs.Keys.{Numbered}
use Rattle.resolvo_checker.specs.CheckStep.{clause_or_none, NamesReady}
use Rattle.resolvo_checker.proofs.CheckLemmas.{digit_listed, follows_derived}
use Rattle.resolvo_checker.proofs.check_step.follows.Goals as goal

pub returns-in-Digit-clause-answer : goal.returns-in-Digit-clause-answer
returns-in-Digit-clause-answer c = λ request entries rules earlier count numbers distinct there represents numbered ready.
    c.has_no_other.ensures earlier (digit_listed c.args.catalogue.now (version_of c.in-Digit.version) c.in-Digit.place c.in-Digit.bit (subst (λ s. is_some (clause_of c.args.catalogue.now request (step_of s)) ≡ true) c.in-Digit.is there)) represents.placed
    ∙ ap (λ s. follows c.args.catalogue.now request earlier (step_of s)) (sym c.in-Digit.is)

pub returns-in-Derive-clause-answer : goal.returns-in-Derive-clause-answer
returns-in-Derive-clause-answer c = ok_map c.is_derived.result c.is_derived.ensures.answer (λ fine e request entries rules earlier count numbers distinct there represents numbered ready.
    e ∙ (ap (λ causes. list_all (is_earlier (length c.args.clauses.now.kept)) causes && one_pass nat_eq (literals_of c.args.literals.now) (map (clause_at c.args.clauses.now.kept) causes)) c.deref.ensures.value
    ∙ ((follows_derived c.args.catalogue.now request entries c.args.clauses.now.kept c.args.places.now rules c.args.literals.now earlier count numbers distinct (view.literals_of c.in-Derive.literals.items) c.in-Derive.causes.items
    (subst (λ s. is_some (clause_of c.args.catalogue.now request (step_of s)) ≡ true) c.in-Derive.is there) represents
    (subst (λ s. Numbered (listed c.args.catalogue.now) entries (clause_or_none c.args.catalogue.now request (step_of s)) c.args.literals.now) c.in-Derive.is numbered)
    (subst (λ s. NamesReady c.args.clauses.now.kept (step_of s)) c.in-Derive.is ready))
    ∙ ap (λ s. follows c.args.catalogue.now request earlier (step_of s)) (sym c.in-Derive.is))))
