use Rattle.std.proofs.Common.{refl}
use Rattle.resolvo_sat.specs.RuleClauses.{IsExact}
use Rattle.resolvo_sat.proofs.ImproveLemmas.{extends_earlier}
use Rattle.resolvo_encoder.specs.declared.encoder.Encoder.{Encoder}
use Rattle.resolvo_encoder.proofs.BuildLemmas.{built_rest}
use Rattle.resolvo_encoder.proofs.StayLemmas.{digits_kept, run_goes, run_keeps}
use Rattle.resolvo_encoder.proofs.encoder.Encoder.propagate.Goals as goal

pub returns-clause-stays : goal.returns-clause-stays
returns-clause-stays g c = λ p root lawful e.
    let exact : IsExact g.S.PartialEq.eq = record { one = g.met.S.Exact.exact; own = g.met.S.Eq.laws.refl } in
    run_keeps c.args.self.now c.propagate.new.self g.S.PartialEq.eq exact p root lawful c.in_ok-falsified.ensures.extends c.in_ok-falsified.ensures.kept e

pub returns-clause-goes_on : goal.returns-clause-goes_on
returns-clause-goes_on g c = run_goes c.args.self.now c.propagate.new.self c.in_ok-falsified.ensures.extends c.in_ok-falsified.ensures.kept

pub returns-clause-built : goal.returns-clause-built
returns-clause-built g c =
    let went : Encoder _ _ = record c.args.self.now { coding = c.propagate.new.self } in
    let goes = returns-clause-goes_on g c in
    built_rest c.args.self.now went c.requires goes.coding goes.grows (digits_kept c.args.self.now went c.requires.coding goes) goes.rest refl c.in_ok-falsified.ensures.extends.same.seen

pub returns-clause-first : goal.returns-clause-first
returns-clause-first g c = λ base low ends. extends_earlier c.args.self.now.coding.search c.propagate.new.self.search base c.in_ok-falsified.ensures.extends ends
