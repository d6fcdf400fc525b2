use Rattle.std.proofs.Common.{◌≡◌, ◌∙◌, sym, ap, slice_get, Some}
use Rattle.std.specs.Option.{option_copied}
use Rattle.resolvo_intern.proofs.pool.Pool.resolve_condition.Goals as goal

-- the conditions of a pool are above their operands
pub returns-clause-below : goal.returns-clause-below
returns-clause-below g c =
    let found : slice_get c.self.inside.conditions.keys c.to_index.result ≡ Some c.in-Some.condition.now = sym c.get_index.ensures.key ∙ ap option_copied c.in-Some.is in
    let here = rw c.to_index.ensures.index at found in
    c.self.invariant.4 c.args.id.0 c.in-Some.condition.now here
