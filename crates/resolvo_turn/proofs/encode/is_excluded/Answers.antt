use Rattle.std.proofs.Common.{sym, ◌∙◌}
use Rattle.std.proofs.lemmas.Map.Views.{list_any-from_Contains}
use Rattle.resolvo_encoder.proofs.Parents.{any_is_in}
use Rattle.resolvo_turn.proofs.encode.is_excluded.Goals as goal

pub returns : goal.returns
returns g c = (
  λ h. any_is_in g.S.PartialEq.eq c.args.excluded.now.keys c.args.solvable (λ y e. sym (g.met.S.Exact.exact c.args.solvable y e)) (sym c.contains.ensures ∙ h),
  λ h. c.contains.ensures ∙ list_any-from_Contains g.met.S.Eq.laws c.args.solvable c.args.excluded.now.keys h,
)
