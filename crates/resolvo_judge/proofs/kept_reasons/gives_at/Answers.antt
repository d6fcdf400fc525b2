use Rattle.std.proofs.Common.{◌≡◌, Bool, Some, IfOk, subst, ◌∙◌, ap}
use Rattle.resolvo_text.specs.View.{version_of}
use Rattle.resolvo_terms.specs.Terms.{Terms}
use Rattle.resolvo_report.specs.Value.{OfVersion}
use Rattle.resolvo_checker.specs.StepClauses.{line_of}
use Rattle.resolvo_checker.specs.RuleLines.{line_of_need}
use Rattle.resolvo_judge.specs.Entries.{gives}
use Rattle.resolvo_judge.proofs.EntryLemmas.{gives_kept, gives_none}
use Rattle.resolvo_judge.proofs.kept_reasons.gives_at.Goals as goal

pub returns-in-Some : goal.returns-in-Some
returns-in-Some c = λ request set h.
    let cat = c.args.catalogue.now in
    let w = version_of c.args.owner.now in
    let v = version_of c.args.version.now in
    let n = c.in-Some.need in
    let e = c.need_of.ensures cat request c.kept-kept.ensures c.versions.ensures.listed in
    subst (λ (b : Bool). IfOk c.need_gives.result (λ g. g ≡ b))
    (ap (λ (t : Terms). gives (Some (line_of_need t n)) set v) c.terms.ensures.terms
    ∙ gives_kept (line_of cat request (OfVersion w) c.args.line) c.kept-kept.result.terms c.need_of.result n set v e c.in-Some.is)
    (c.need_gives.ensures set h)

pub returns-in-None : goal.returns-in-None
returns-in-None c = λ request set h.
    let cat = c.args.catalogue.now in
    let w = version_of c.args.owner.now in
    let e = c.need_of.ensures cat request c.kept-kept.ensures c.versions.ensures.listed in
    gives_none (line_of cat request (OfVersion w) c.args.line) c.kept-kept.result.terms c.need_of.result set (version_of c.args.version.now) e c.in-None.is
