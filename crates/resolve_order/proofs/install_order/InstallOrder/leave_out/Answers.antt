use Rattle.std.proofs.Common.{refl}
use Rattle.resolve_order.proofs.GiveLemmas.{left_out_more}
use Rattle.resolve_order.proofs.install_order.InstallOrder.leave_out.Goals as goal

pub returns : goal.returns
returns c = λ catalogue request chosen h known. left_out_more catalogue request chosen c.args.self.now _ c.args.wish.0 c.args.wish.1 c.args.step refl refl refl c.in_ok-push.ensures.items known h
