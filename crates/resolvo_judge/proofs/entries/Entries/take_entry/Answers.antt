use Rattle.std.proofs.Common.{sym, ◌∙◌, refl}
use Rattle.resolvo_text.specs.View.{version_of}
use Rattle.resolvo_report.specs.View.{place_of}
use Rattle.resolvo_report.specs.Value as model
use Rattle.resolvo_judge.proofs.EntryLemmas.{entry_kept, lines_stay}
use Rattle.resolvo_judge.proofs.entries.Entries.take_entry.Goals as goal

pub returns-clause-kept : goal.returns-clause-kept
returns-clause-kept c = λ before h _.
    let v = version_of c.args.version.now in
    let may = sym (c.may_enter.ensures before h) ∙ c.if-not-may_enter.false in
    entry_kept c.args.self.now c.add.new.self c.args.catalogue.now before (model.Entry v (place_of c.args.place.now) c.args.line) v refl refl refl (λ i. refl) h may c.in_ok-add.ensures.added

pub returns-clause-lines : goal.returns-clause-lines
returns-clause-lines c = λ before h lines _. lines_stay c.args.request.now.lines c.args.self.now (record c.args.self.now { chosen = c.add.new.self }) before (model.Entry (version_of c.args.version.now) (place_of c.args.place.now) c.args.line) refl (λ w n. refl) lines
