use Rattle.std.proofs.Common.{sym, ◌∙◌, refl, Some}
use Rattle.resolvo_text.specs.View.{version_of}
use Rattle.resolvo_report.specs.Value as model
use Rattle.resolvo_judge.proofs.EntryLemmas.{wished_kept, lines_stay}
use Rattle.resolvo_judge.proofs.entries.Entries.take_wished.Goals as goal

pub returns-clause-kept : goal.returns-clause-kept
returns-clause-kept c = λ before h _.
    let may = sym (c.may_enter.ensures before h) ∙ c.if-not-may_enter.false in
    let wish = sym (c.is_wish.ensures before h) ∙ c.if-not-is_wish.false in
    wished_kept c.args.self.now c.add.new.self c.args.catalogue.now c.args.request.now.lines before (version_of c.args.version.now) c.args.line h may wish c.in_ok-add.ensures.added

pub returns-clause-lines : goal.returns-clause-lines
returns-clause-lines c = λ before h lines _. lines_stay c.args.request.now.lines c.args.self.now (record c.args.self.now { chosen = c.add.new.self; last_wish = Some c.args.line }) before (model.Wished (version_of c.args.version.now) c.args.line) refl (λ w n. refl) lines
