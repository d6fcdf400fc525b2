use Rattle.std.proofs.Common.{◌∙◌, subst, rules}
use Rattle.resolvo_state.specs.declared.registry.Registry.{Registry}
use Rattle.resolvo_state.specs.Registered.{IsQueued}
use Rattle.resolvo_encoder.proofs.RequireLemmas.{extends_then}
use Rattle.resolvo_encoder.proofs.encoder.Encoder.add_queued.Goals as goal

pub add_of_queued-requires : goal.add_of_queued-requires
add_of_queued-requires g c = c.in_ok-place_queued.ensures.placed.built

pub returns : goal.returns
returns g c =
    let first = c.in_ok-place_queued.ensures.placed in
    let second = c.in_ok-add_of_queued.ensures.covered in
    record {
      stays = λ p root lawful e. second.encoding p root lawful (first.encoding p root lawful e);
      kept = extends_then c.args.self.now c.place_queued.new.self c.add_of_queued.new.self first.extends second.extends;
      lists = second.lists ∙ first.lists;
      placed = record { solvables = λ n v h. first.none n v (subst (λ (r : Registry _). IsQueued r n v) second.registry h); packages = second.none };
      built = second.built;
      ids = search rules;
    }
