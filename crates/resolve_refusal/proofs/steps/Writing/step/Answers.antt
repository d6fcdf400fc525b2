use Rattle.std.proofs.Common.{List, ℕ, ap, map, subst, ◌∙◌}
use Rattle.resolvo_terms.specs.Terms.{NameId}
use Rattle.resolvo_catalogue.specs.Ids.{SolvableId}
use Rattle.resolvo_proof.specs.declared.step.ProofLiteral.{ProofLiteral}
use Rattle.resolvo_report.specs.Value as in_report
use Rattle.resolvo_report.specs.View.{literals_of}
use Rattle.resolve_refusal.specs.RefusedReport.{number_of}
use Rattle.resolve_refusal.specs.Refusal.{AreLiterals, HaveForm}
use Rattle.resolve_refusal.proofs.steps.Writing.step.Goals as goal

pub returns-in_ok-numbers_of-in-Derived-clause-names_rule : goal.returns-in_ok-numbers_of-in-Derived-clause-names_rule
returns-in_ok-numbers_of-in-Derived-clause-names_rule c =
    let catalogue = c.args.self.texts.catalogue.now in
    let ids = c.args.self.provider.now.ids in
    let written = literals_of c.in_ok-sorted_literals-in-Derived.field-0.items in
    let numbers = c.in_ok-numbers_of-in-Derived.ensures.numbers ∙ ap (map number_of) c.as_slice-in-Derived.ensures.value in
    rw c.in-Derived.is (
      written,
      ap (λ (ns : List ℕ). in_report.Derive written ns) numbers,
      subst (λ (ls : List (ProofLiteral NameId SolvableId)). HaveForm catalogue ids ls → AreLiterals catalogue ids ls written) c.as_slice.ensures.value c.in_ok-sorted_literals-in-Derived.ensures.same,
      c.in_ok-sorted_literals-in-Derived.ensures.rising,
    )
