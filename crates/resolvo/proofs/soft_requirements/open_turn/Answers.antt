use Rattle.std.proofs.Common.{◌<◌, ◌∙◌, sym, subst, arith}
use Rattle.resolvo_store_core.specs.Clauses.{yes}
use Rattle.resolvo_sat.specs.Entries.{made_true, top_level}
use Rattle.resolvo_sat.specs.Known.{IsUndecided}
use Rattle.resolvo_sat.specs.State.{history}
use Rattle.resolvo_encoder.specs.declared.encoder.Encoder.{Encoder}
use Rattle.resolvo_encoder.specs.Progress.{GoesOn}
use Rattle.resolvo_encoder.specs.SoftRequirement.{turn_of}
use Rattle.resolvo.proofs.Soft.{begun_turn}
use Rattle.resolvo.proofs.soft_requirements.open_turn.Goals as goal

-- the turn's first level is above the trail
begun_above : {N S : Type 0} (e : Encoder N S) → top_level (history (turn_of e).coding.search) < (turn_of e).coding.search.base_level
begun_above e = omega arith

pub choose_soft-requires-clause-above : goal.choose_soft-requires-clause-above
choose_soft-requires-clause-above g c = subst (λ (e : Encoder _ _). top_level (history e.coding.search) < e.coding.search.base_level) (sym c.begin_turn.ensures.begun) (begun_above c.args.encoding.now)

pub choose_soft-requires-clause-turn : goal.choose_soft-requires-clause-turn
choose_soft-requires-clause-turn g c = (begun_turn c.args.encoding.now c.begin_turn.new.self c.begin_turn.ensures.begun c.args.variable c.requires.built c.requires.soft c.requires.open.not_true).0

pub choose_soft-requires-clause-undecided : goal.choose_soft-requires-clause-undecided
choose_soft-requires-clause-undecided g c = subst (λ (e : Encoder _ _). IsUndecided (made_true (history e.coding.search)) (yes c.args.variable)) (sym c.begin_turn.ensures.begun) c.requires.open

pub returns-clause-stays : goal.returns-clause-stays
returns-clause-stays g c = λ p root lawful e. c.in_ok-choose_soft.ensures.stays p root lawful (c.begin_turn.ensures.stays p root lawful e)

pub returns-clause-goes_on : goal.returns-clause-goes_on
returns-clause-goes_on g c = subst (λ e. GoesOn e c.choose_soft.new.self) c.begin_turn.ensures.begun c.in_ok-choose_soft.ensures.goes_on

pub returns-clause-turn : goal.returns-clause-turn
returns-clause-turn g c =
    let (o, base) = begun_turn c.args.encoding.now c.begin_turn.new.self c.begin_turn.ensures.begun c.args.variable c.requires.built c.requires.soft c.requires.open.not_true in
    let (o', base') = c.in_ok-choose_soft.ensures.turn o in
    (o', base' ∙ base)
