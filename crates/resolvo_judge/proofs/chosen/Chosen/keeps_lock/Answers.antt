use Rattle.std.proofs.Common.{◌∙◌, not, sym, ap}
use Rattle.resolvo_catalogue_core.specs.Listed.{version_by}
use Rattle.resolvo_judge.proofs.ChosenLemmas.{lock_by, lock_none}
use Rattle.resolvo_judge.proofs.chosen.Chosen.keeps_lock.Goals as goal

pub returns-in-Some : goal.returns-in-Some
returns-in-Some c = λ set h.
    let x = c.args.self.now in
    ap not c.has_outside.ensures ∙ lock_by x set (version_by c.args.locked.0.now c.args.locked.1) c.in-Some.numbers.now h (sym c.in-Some.ensures.value)

pub returns-in-None : goal.returns-in-None
returns-in-None c = λ set h.
    let x = c.args.self.now in
    lock_none x set (version_by c.args.locked.0.now c.args.locked.1) h (sym c.in-None.ensures.value)
