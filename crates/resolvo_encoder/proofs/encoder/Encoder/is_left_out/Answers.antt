use Rattle.std.proofs.Common.{◌==◌, refl, sym, ◌∙◌, ap, eqb-true, eq-eqb}
use Rattle.resolvo_pool_core.specs.declared.id.VersionSetId.{VersionSetId}
use Rattle.resolvo_sat.proofs.Lists.{contained_any}
use Rattle.resolvo_encoder.proofs.Parents.{any_is_in}
use Rattle.resolvo_encoder.proofs.encoder.Encoder.is_left_out.Goals as goal

pub returns : goal.returns
returns g c =
    let keys = c.args.self.now.recorded.version_sets.keys in
    let set = c.args.version_set in (
      λ h. any_is_in (λ (v w : VersionSetId). v.0 == w.0) keys set (λ y e. sym (ap (λ n. let v : VersionSetId = record { 0 = n } in v) (eqb-true set.0 y.0 e))) (sym c.contains.ensures ∙ h),
      λ h. c.contains.ensures ∙ contained_any (λ (w : VersionSetId). set.0 == w.0) set keys h (eq-eqb set.0 set.0 refl),
    )
