use Rattle.std.proofs.Common.{subst}
use Rattle.std.specs.BTreeMap.{get}
use Rattle.std.specs.Ordering.{nat_cmp}
use Rattle.resolvo_text.specs.Line.{Version}
use Rattle.resolvo_text.specs.View.{version_of}
use Rattle.resolvo_judge.specs.ForbiddenWishes.{AddsWish}
use Rattle.resolvo_judge.proofs.ForbidLemmas.{holds_more}
use Rattle.resolvo_judge.proofs.VersionLemmas.{on_ok}
use Rattle.resolvo_judge.proofs.forbidden_wishes.ForbiddenWishes.add.Goals as goal

pub returns : goal.returns
returns c = on_ok c.add_wish.result c.add_wish.ensures (λ adds wishes h.
    holds_more c.args.self.now (record { by_step = c.add_wish.new.by_step; steps = c.push.new.self }) wishes (record { wish = version_of c.args.wish.now; step = c.args.step; above = c.args.above })
    (subst (λ (v : Version). AddsWish (get nat_cmp c.args.self.now.by_step) (record { wish = v; step = c.args.step; above = c.args.above }) (get nat_cmp c.add_wish.new.by_step)) c.in_ok-wish.ensures adds)
    c.in_ok-push.ensures.items h)
