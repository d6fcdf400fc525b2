use Rattle.std.proofs.Common.{◌≡◌, ◌≤◌, ◌<◌, ℕ, List, ap, subst, length, arith, rules}
use Rattle.resolvo_catalogue_core.specs.Questions.{AreAll}
use Rattle.resolvo_report.specs.Value.{Step}
use Rattle.resolvo_report.specs.View.{steps_of}
use Rattle.resolve_refusal.specs.declared.named_lines.Text.TheVariants as text
use Rattle.resolve_refusal.specs.LacksNumbers.{LacksNumbers}
use Rattle.resolve_refusal.specs.Named.{IsNamedBy}
use Rattle.resolve_refusal.proofs.FitLemmas.{refusal}
use Rattle.resolve_refusal.proofs.report.refusal_of.Goals as goal

pub returns-clause-refusal : goal.returns-clause-refusal
returns-clause-refusal c =
    let catalogue = c.in_ok-in_catalogue.in_catalogue.items in
    let request = c.in_ok-in_request.in_request.items in
    let steps : List Step = steps_of c.in_ok-written.written.items in
    let most : length c.args.steps.now ≤ 4294967295 = c.if-steps-gt-MOST_STEPS.false in
    let long : length c.args.catalogue.now < 4294967296 = (let is : c.line_count.result ≡ length c.args.catalogue.now = c.line_count.ensures in omega (arith, is)) in
    let asked : length c.args.request.now.lines < 4294967296 = (let is : c.line_count-2.result ≡ length c.args.request.now.lines = c.line_count-2.ensures in omega (arith, is)) in
    λ refutes. refusal c.args.catalogue.now c.args.request.now c.args.provider.now c.args.steps.now refutes (omega (arith, most)) long asked _ c.in_ok-written.ensures.names_rule (record {
      each = c.in_ok-written.ensures.written;
      named = subst (λ (ss : List Step). AreAll catalogue (IsNamedBy text.Catalogue (length c.args.catalogue.now) ss)) (ap steps_of c.as_slice.ensures.value) (subst (λ (k : ℕ). AreAll catalogue (IsNamedBy text.Catalogue k (steps_of c.as_slice.result.now))) c.line_count.ensures c.in_ok-in_catalogue.ensures.lines);
      asked = subst (λ (ss : List Step). AreAll request (IsNamedBy text.Request (length c.args.request.now.lines) ss)) (ap steps_of c.as_slice-2.ensures.value) (subst (λ (k : ℕ). AreAll request (IsNamedBy text.Request k (steps_of c.as_slice-2.result.now))) c.line_count-2.ensures c.in_ok-in_request.ensures.lines);
    })

pub returns-then-steps-gt-MOST_STEPS-clause-ids : goal.returns-then-steps-gt-MOST_STEPS-clause-ids
returns-then-steps-gt-MOST_STEPS-clause-ids c = λ is. LacksNumbers.steps c.if-steps-gt-MOST_STEPS.true

pub returns-in_err-written-clause-ids : goal.returns-in_err-written-clause-ids
returns-in_err-written-clause-ids c = search (rules, LacksNumbers.cases)
