use Rattle.std.proofs.Common.{◌∙◌, ap, Some}
use Rattle.std.proofs.lemmas.Option.{slice_get-get_or}
use Rattle.resolvo_checker.proofs.PieceLemmas.{ready_range, long_range, long_literals_at}
use Rattle.resolvo_checker.proofs.clauses.part.Goals as goal

pub returns-in-Ready-clause-rising : goal.returns-in-Ready-clause-rising
returns-in-Ready-clause-rising c = (ready_range c.args.flat.now c.args.longs.now c.args.kept.now c.args.n _ _ c.requires.inside (slice_get-get_or c.args.kept.now c.args.n _ c.requires.within ∙ ap Some c.in-Ready.is)).rising

pub returns-in-Ready-clause-inside : goal.returns-in-Ready-clause-inside
returns-in-Ready-clause-inside c = (ready_range c.args.flat.now c.args.longs.now c.args.kept.now c.args.n _ _ c.requires.inside (slice_get-get_or c.args.kept.now c.args.n _ c.requires.within ∙ ap Some c.in-Ready.is)).within

pub returns-in-Long-clause-rising : goal.returns-in-Long-clause-rising
returns-in-Long-clause-rising c =
    rw c.long_part.ensures ((long_range c.args.flat.now c.args.longs.now c.in-Long.place c.requires.inside.long).rising)

pub returns-in-Long-clause-inside : goal.returns-in-Long-clause-inside
returns-in-Long-clause-inside c =
    rw c.long_part.ensures ((long_range c.args.flat.now c.args.longs.now c.in-Long.place c.requires.inside.long).within)

pub returns-in-Long-clause-literals : goal.returns-in-Long-clause-literals
returns-in-Long-clause-literals c =
    rw c.long_part.ensures (long_literals_at c.args.flat.now c.args.longs.now c.args.kept.now c.args.n c.in-Long.place (slice_get-get_or c.args.kept.now c.args.n _ c.requires.within ∙ ap Some c.in-Long.is))
