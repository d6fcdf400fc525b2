use Rattle.std.proofs.Common.{sym, ◌∙◌, refl, Some}
use Rattle.resolvo_text.specs.View.{version_of}
use Rattle.resolvo_catalogue_core.proofs.Sorted.{updates_number}
use Rattle.resolvo_judge.specs.Entries.{entries_of}
use Rattle.resolvo_judge.proofs.EntryLemmas.{left_out_kept, lines_more}
use Rattle.resolvo_judge.proofs.entries.Entries.take_left_out.Goals as goal

pub returns-clause-kept : goal.returns-clause-kept
returns-clause-kept c = λ before h _.
    let v = version_of c.args.version.now in
    let wish = sym (c.is_wish.ensures before h) ∙ c.if-not-is_wish.false in
    left_out_kept c.args.self.now c.add.new.self c.add-2.new.self c.args.request.now.lines before v c.args.line c.args.step c.count-above.result h wish c.in_ok-add.ensures c.in_ok-add-2.ensures (c.count-above.ensures (entries_of before) h.chosen) _ refl refl refl refl

pub returns-clause-lines : goal.returns-clause-lines
returns-clause-lines c = λ before h lines _.
    let wish = sym (c.is_wish.ensures before h) ∙ c.if-not-is_wish.false in
    lines_more c.args.request.now.lines c.args.self.now (record c.args.self.now { out = c.add.new.self; forbidden = c.add-2.new.self; lines = c.insert.new.self; last_wish = Some c.args.line }) before (version_of c.args.version.now) c.args.line c.args.step wish (updates_number c.args.line c.args.self.now.lines c.insert.new.self _ c.in_ok-insert.ensures.updates.0) lines
