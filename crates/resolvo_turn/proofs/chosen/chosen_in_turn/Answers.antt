use Rattle.std.proofs.Common.{List, drop, ◌∙◌, ap}
use Rattle.std.proofs.lemmas.List.{take_rest}
use Rattle.resolvo_store_core.specs.declared.decision.Entry.{Entry}
use Rattle.resolvo_state.specs.Chosen.{choices}
use Rattle.resolvo_turn.proofs.TakenLemmas.{turn_choices}
use Rattle.resolvo_turn.proofs.chosen.chosen_in_turn.Goals as goal

pub returns-clause-chosen : goal.returns-clause-chosen
returns-clause-chosen g c =
    let atoms = c.args.encoding.now.coding.atoms.keys in
    let place = c.first_place-place.result in
    c.in_ok-chosen.ensures.choices
    ∙ ap (choices atoms) (take_rest c.stack-entries.result.now place)
    ∙ ap (λ (es : List Entry). choices atoms (drop place es)) c.stack-entries.ensures.trail
    ∙ turn_choices c.args.encoding.now place c.first_place-place.ensures.within c.first_place-place.ensures.base
