use Rattle.std.proofs.Common.{refl}
use Rattle.resolvo_sat.specs.RuleClauses.{IsExact}
use Rattle.resolvo_state.specs.declared.atom.ProofAtom.TheVariants.{Solvable}
use Rattle.resolvo_state.proofs.Growth.{represents_in_range}
use Rattle.resolvo_encoder.proofs.BuildLemmas.{built_rest}
use Rattle.resolvo_encoder.proofs.StayLemmas.{digits_kept, choice_goes, choice_keeps}
use Rattle.resolvo_encoder.proofs.SoftLemmas.{soft_chosen}
use Rattle.resolvo_encoder.proofs.Bases.{turn_chosen}
use Rattle.resolvo_encoder.proofs.encoder.Encoder.choose_soft.Goals as goal

pub choose-requires-clause-in_range : goal.choose-requires-clause-in_range
choose-requires-clause-in_range g c = represents_in_range c.args.self.now.coding c.args.variable (Solvable c.requires.turn.soft.solvable) c.requires.built.coding c.requires.turn.soft.present

pub returns-clause-stays : goal.returns-clause-stays
returns-clause-stays g c = λ p root lawful e.
    let exact : IsExact g.S.PartialEq.eq = record { one = g.met.S.Exact.exact; own = g.met.S.Eq.laws.refl } in
    choice_keeps c.args.self.now c.choose.new.self g.S.PartialEq.eq exact p root lawful c.args.variable _ c.in_ok-choose.ensures.chosen c.in_ok-choose.ensures.kept (soft_chosen g.S.PartialEq.eq exact p c.args.self.now c.args.variable _ c.requires.turn.soft) e

pub returns-clause-goes_on : goal.returns-clause-goes_on
returns-clause-goes_on g c = choice_goes c.args.self.now c.choose.new.self c.args.variable _ c.in_ok-choose.ensures.chosen c.in_ok-choose.ensures.kept

pub returns-clause-built : goal.returns-clause-built
returns-clause-built g c =
    let goes = choice_goes c.args.self.now c.choose.new.self c.args.variable _ c.in_ok-choose.ensures.chosen c.in_ok-choose.ensures.kept in
    built_rest c.args.self.now (record c.args.self.now { coding = c.choose.new.self }) c.requires.built goes.coding goes.grows (digits_kept c.args.self.now (record c.args.self.now { coding = c.choose.new.self }) c.requires.built.coding goes) goes.rest refl c.in_ok-choose.ensures.chosen.same.seen

pub returns-clause-turn : goal.returns-clause-turn
returns-clause-turn g c = turn_chosen c.args.self.now (record c.args.self.now { coding = c.choose.new.self }) c.args.variable _ (returns-clause-goes_on g c) c.in_ok-choose.ensures.chosen c.requires.above
