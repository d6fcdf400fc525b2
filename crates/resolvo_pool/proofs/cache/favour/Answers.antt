use Rattle.std.proofs.Common.{sym, refl, ◌∙◌}
use Rattle.resolvo_pool.proofs.Favoured.{favoured_first, no_place}
use Rattle.resolvo_pool.proofs.cache.favour.Goals as goal

pub returns-in-Some : goal.returns-in-Some
returns-in-Some g c =
    favoured_first (λ s. g.S.PartialEq.eq s c.args.favored) c.args.favored c.args.list.now c.in-Some.place c.rotate_right.new.self (sym c.in-Some.ensures.place) (λ x h. g.met.S.Exact.exact x c.args.favored h) _ refl c.rotate_right.ensures.after

pub returns-in_default : goal.returns-in_default
returns-in_default g c = no_place (λ s. g.S.PartialEq.eq s c.args.favored) c.args.favored c.args.list.now (sym c.place_of.ensures.place ∙ c.in_default.is)
