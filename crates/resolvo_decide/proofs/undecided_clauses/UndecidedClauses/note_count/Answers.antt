use Rattle.std.proofs.Common.{None}
use Rattle.resolvo_store_core.specs.Values.{value_at}
use Rattle.resolvo_decide.specs.Needs.{literals_in}
use Rattle.resolvo_decide.proofs.FitLemmas.{fits_counted, fits_marked}
use Rattle.resolvo_decide.proofs.undecided_clauses.UndecidedClauses.note_count.Goals as goal

pub returns-in_ok-note_count-clause-fits : goal.returns-in_ok-note_count-clause-fits
returns-in_ok-note_count-clause-fits g c =
    let old = c.args.self.now in
    let qs = c.args.queue.now in
    fits_marked (literals_in c.args.lists.now) (record old { counts = c.note_count.new.self }) qs None
    (fits_counted c.args.lists.now (value_at c.args.values.now) old c.note_count.new.self qs c.in-Some.position _ c.in-Some-candidates.candidates.now c.in-Some-candidates.ensures.1 c.requires.values (c.note_count.ensures.kept old.seen.items c.requires.once) c.requires.fits)

pub returns-in_err-note_count-clause-fits : goal.returns-in_err-note_count-clause-fits
returns-in_err-note_count-clause-fits g c =
    let old = c.args.self.now in
    let qs = c.args.queue.now in
    fits_marked (literals_in c.args.lists.now) (record old { counts = c.note_count.new.self }) qs None
    (fits_counted c.args.lists.now (value_at c.args.values.now) old c.note_count.new.self qs c.in-Some.position _ c.in-Some-candidates.candidates.now c.in-Some-candidates.ensures.1 c.requires.values (c.note_count.ensures.kept old.seen.items c.requires.once) c.requires.fits)
