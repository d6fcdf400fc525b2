use Rattle.std.proofs.Common.{ap, refl, ◌∙◌}
use Rattle.resolvo_pool_core.specs.declared.id.VariableId.{VariableId}
use Rattle.resolvo_store_core.specs.AtMostOne.{Tracking}
use Rattle.resolvo_state.proofs.NameLemmas.{place_found, place_pushed}
use Rattle.resolvo_state.proofs.registry.Registry.place_of.Goals as goal

pub returns-in-Some-clause-place : goal.returns-in-Some-clause-place
returns-in-Some-clause-place g c = place_found c.args.name c.in-Some.place c.args.self.now c.requires c.in-Some.ensures

pub returns-clause-place : goal.returns-clause-place
returns-clause-place g c =
    place_pushed c.args.name c.len-place.result c.args.self.now _ c.new.result c.requires c.in_default.ensures (c.len-place.ensures ∙ c.args.self.now.trackers.ok.0) c.in_ok-push-2.ensures.pushed c.in_ok-push.ensures.items (ap (λ (t : Tracking VariableId). t.variables) c.new.ensures) (ap (λ (t : Tracking VariableId). t.helpers) c.new.ensures) refl refl refl
