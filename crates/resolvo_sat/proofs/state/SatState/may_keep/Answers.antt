use Rattle.std.proofs.Common.{refl}
use Rattle.resolvo_sat.proofs.ExtendLemmas.{extends_nothing}
use Rattle.resolvo_sat.proofs.Guards.{open_guards}
use Rattle.resolvo_sat.proofs.StartLemmas.{guards_kept}
use Rattle.resolvo_sat.proofs.state.SatState.may_keep.Goals as goal

pub returns-then-are_open : goal.returns-then-are_open
returns-then-are_open c = (
  extends_nothing c.args.self.now c.requires,
  refl,
  open_guards c.args.self.now c.args.self.now.guard_level c.args.self.now.qhead c.args.watched (c.are_open.ensures c.if-are_open.true),
)

pub returns : goal.returns
returns c =
    guards_kept c.args.self.now c.guard_by.new.self c.guard_by-2.new.self c.args.watched c.requires (c.may_watch.ensures c.if-not-may_watch.false) (c.may_watch-2.ensures c.if-not-may_watch-2.false) c.guard_by.ensures c.guard_by-2.ensures
