use Rattle.std.proofs.Common.{refl}
use Rattle.resolvo_sat.specs.RuleClauses.{IsExact}
use Rattle.resolvo_encoder.proofs.BuildLemmas.{built_rest, trail_on}
use Rattle.resolvo_encoder.proofs.StayLemmas.{digits_kept, refusal_goes, refusal_keeps}
use Rattle.resolvo_encoder.proofs.Bases.{same_turns}
use Rattle.resolvo_encoder.proofs.encoder.Encoder.learn_refusal.Goals as goal

pub returns-clause-stays : goal.returns-clause-stays
returns-clause-stays g c = λ p root lawful e.
    let exact : IsExact g.S.PartialEq.eq = record { one = g.met.S.Exact.exact; own = g.met.S.Eq.laws.refl } in
    refusal_keeps c.args.self.now c.forbid.new.self g.S.PartialEq.eq exact p root lawful _ _ c.in_ok-clause.clause c.in_ok-clause.ensures.learnt c.requires.forbid.from e

pub returns-clause-goes_on : goal.returns-clause-goes_on
returns-clause-goes_on g c = refusal_goes c.args.self.now c.forbid.new.self _ _ c.in_ok-clause.clause c.requires.built.coding c.in_ok-clause.ensures.learnt

pub returns-clause-built : goal.returns-clause-built
returns-clause-built g c =
    let goes = refusal_goes c.args.self.now c.forbid.new.self _ _ c.in_ok-clause.clause c.requires.built.coding c.in_ok-clause.ensures.learnt in
    built_rest c.args.self.now (record c.args.self.now { coding = c.forbid.new.self }) c.requires.built goes.coding goes.grows (digits_kept c.args.self.now (record c.args.self.now { coding = c.forbid.new.self }) c.requires.built.coding goes) goes.rest refl (trail_on c.args.self.now.coding c.forbid.new.self c.in_ok-clause.ensures.learnt.trail)

pub returns-clause-turn : goal.returns-clause-turn
returns-clause-turn g c = same_turns c.args.self.now (record c.args.self.now { coding = c.forbid.new.self }) c.in_ok-clause.ensures.learnt.grows c.in_ok-clause.ensures.learnt.trail refl
