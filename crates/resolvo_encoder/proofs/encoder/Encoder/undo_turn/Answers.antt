use Rattle.std.proofs.Common.{◌≡◌, ℕ, ◌-◌, ◌≤◌, refl, subst, arith}
use Rattle.resolvo_sat.specs.Steps.{Undoes}
use Rattle.resolvo_sat.specs.RuleClauses.{IsExact}
use Rattle.resolvo_encoder.specs.declared.encoder.Encoder.{Encoder}
use Rattle.resolvo_encoder.proofs.BuildLemmas.{built_rest}
use Rattle.resolvo_encoder.proofs.StayLemmas.{digits_kept, undo_goes, undo_keeps}
use Rattle.resolvo_encoder.proofs.Bases.{turn_undone}
use Rattle.resolvo_encoder.proofs.encoder.Encoder.undo_turn.Goals as goal

-- the trail before the turn isn't above the level
above_earlier : (base_level level : ℕ) → level ≡ base_level - 1 → base_level - 1 ≤ level
above_earlier base_level level is = omega arith

pub returns-clause-stays : goal.returns-clause-stays
returns-clause-stays g c = λ p root lawful e.
    let exact : IsExact g.S.PartialEq.eq = record { one = g.met.S.Exact.exact; own = g.met.S.Eq.laws.refl } in
    undo_keeps c.args.self.now c.undo_until.new.self g.S.PartialEq.eq exact p root lawful c.saturating_sub-level.result
    (above_earlier c.args.self.now.coding.search.base_level c.saturating_sub-level.result c.saturating_sub-level.ensures) c.undo_until.ensures.undone c.undo_until.ensures.kept e

pub returns-clause-goes_on : goal.returns-clause-goes_on
returns-clause-goes_on g c =
    undo_goes c.args.self.now c.undo_until.new.self c.saturating_sub-level.result
    (above_earlier c.args.self.now.coding.search.base_level c.saturating_sub-level.result c.saturating_sub-level.ensures) c.undo_until.ensures.undone c.undo_until.ensures.kept

pub returns-clause-undone : goal.returns-clause-undone
returns-clause-undone g c = subst (λ (level : ℕ). Undoes level c.args.self.now.coding.search c.undo_until.new.self.search) c.saturating_sub-level.ensures c.undo_until.ensures.undone

pub returns-clause-built : goal.returns-clause-built
returns-clause-built g c =
    let went : Encoder _ _ = record c.args.self.now { coding = c.undo_until.new.self } in
    let goes = returns-clause-goes_on g c in
    built_rest c.args.self.now went c.requires goes.coding goes.grows (digits_kept c.args.self.now went c.requires.coding goes) goes.rest refl c.undo_until.ensures.undone.same.seen

pub returns-clause-turn : goal.returns-clause-turn
returns-clause-turn g c = turn_undone c.args.self.now (record c.args.self.now { coding = c.undo_until.new.self }) (returns-clause-goes_on g c) (returns-clause-undone g c)
