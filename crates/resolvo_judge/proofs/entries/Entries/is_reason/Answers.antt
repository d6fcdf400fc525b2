use Rattle.std.proofs.Common.{◌≡◌, ◌&&◌, Bool, true, Option, IfOk, sym, subst, ◌∙◌, ap}
use Rattle.resolvo_text.specs.Line.{Line}
use Rattle.resolvo_text.specs.View.{version_of}
use Rattle.resolvo_catalogue_core.specs.Grammar.{line_at}
use Rattle.resolvo_catalogue_core.specs.Listed.{listed}
use Rattle.resolvo_report.specs.Value.{Place}
use Rattle.resolvo_report.specs.View.{place_of}
use Rattle.resolvo_checker.specs.StepClauses.{line_of}
use Rattle.resolvo_judge.specs.Entries.{entries_of, is_place_taken, gives}
use Rattle.resolvo_judge.proofs.EntryLemmas.{gives_owned}
use Rattle.resolvo_judge.proofs.entries.Entries.is_reason.Goals as goal

pub returns-in-Request : goal.returns-in-Request
returns-in-Request c = λ before h.
    let v = version_of c.args.version.now in
    let entries = entries_of before in
    let cat = c.args.catalogue.now in
    let req = c.args.request.now.lines in
    let p = place_of c.args.place.now in
    let taken : is_place_taken p entries ≡ true = sym (c.is_place_taken.ensures before h) ∙ c.if-not-is_place_taken.false in
    c.gives.ensures entries (listed cat) h.chosen
    ∙ ap (λ (l : Option Line). gives l entries v) (sym (c.rule_asked.ensures.from_line (listed cat)))
    ∙ gives_owned (line_at req c.args.line) entries v
    ∙ ap (λ (q : Place). gives (line_of cat req q c.args.line) entries v) (sym (ap place_of c.in-Request.is))
    ∙ sym (ap (λ (b : Bool). b && gives (line_of cat req p c.args.line) entries v) taken)

pub returns-in-Version : goal.returns-in-Version
returns-in-Version c = λ before h.
    let v = version_of c.args.version.now in
    let entries = entries_of before in
    let cat = c.args.catalogue.now in
    let req = c.args.request.now.lines in
    let p = place_of c.args.place.now in
    let taken : is_place_taken p entries ≡ true = sym (c.is_place_taken.ensures before h) ∙ c.if-not-is_place_taken.false in
    subst (λ (b : Bool). IfOk c.gives_at.result (λ is. is ≡ b))
    (ap (λ (q : Place). gives (line_of cat req q c.args.line) entries v) (sym (ap place_of c.in-Version.is))
    ∙ sym (ap (λ (b : Bool). b && gives (line_of cat req p c.args.line) entries v) taken))
    (c.gives_at.ensures req entries h.chosen)
