use Rattle.std.proofs.Common.{◌≡◌, Bool, true, sym, subst}
use Rattle.resolvo_pool_core.specs.Provider.{listed}
use Rattle.resolvo_pool_core.specs.RuleKeeping.{Packages, is_in}
use Rattle.resolvo_packages.specs.declared.package_source.Offered.{Offered}
use Rattle.resolvo_sat.specs.RuleClauses.{IsExact}
use Rattle.resolvo_encoder.specs.Steps.{IsListed}
use Rattle.resolvo.specs.SoftTurns.{IsCandidate}
use Rattle.resolvo_turn.specs.TurnRules.{StaysInOrderOf}
use Rattle.resolvo.proofs.Outcomes.{recorded_undecided, registered_in_order, registered_soft, registered_taken, closed_in_order, closed_keeps, closed_outcome, closed_right, turn_closable}
use Rattle.resolvo.proofs.soft_requirements.run_undecided.Goals as goal

-- the offered solvable is a candidate of its package
candidate_listed : {N S : Type 0} (same : S → S → Bool) (p : Packages N S) (s : S) (name : N) → name ≡ p.package_of s → IsCandidate same p s → IsListed same p (record { solvable = s; name = name })
candidate_listed {N} same p s name is candidate = (is, subst (λ (n : N). is_in same p (listed (p.candidates_of n)) s ≡ true) (sym is) candidate)

pub run_open-requires-clause-soft : goal.run_open-requires-clause-soft
run_open-requires-clause-soft g c = registered_soft g.A.SolvableId.PartialEq.eq c.args.encoding.now c.record_soft.new.self (record { solvable = c.args.soft; name = c.package-name.result }) c.in_ok-many.many c.in_ok-variable.variable c.in_ok-variable.ensures.recorded

pub run_open-requires-clause-open : goal.run_open-requires-clause-open
run_open-requires-clause-open g c =
    recorded_undecided g.A.SolvableId.PartialEq.eq c.args.encoding.now c.record_soft.new.self (record { solvable = c.args.soft; name = c.package-name.result }) c.in_ok-many.many c.in_ok-variable.variable c.in_ok-variable.ensures.recorded c.requires.built.coding c.requires.open

pub run_open-requires-clause-taken : goal.run_open-requires-clause-taken
run_open-requires-clause-taken g c =
    registered_taken g.A.SolvableId.PartialEq.eq c.args.encoding.now c.record_soft.new.self (record { solvable = c.args.soft; name = c.package-name.result }) c.in_ok-many.many c.in_ok-variable.variable c.in_ok-variable.ensures.recorded c.requires.built.coding c.requires.taken

pub close_turn-requires-clause-refused : goal.close_turn-requires-clause-refused
close_turn-requires-clause-refused g c =
    let same = g.A.SolvableId.PartialEq.eq in
    let (o, base) = c.in_ok-turn.ensures.turn in
    turn_closable same c.args.encoding.now c.record_soft.new.self (record { solvable = c.args.soft; name = c.package-name.result }) c.in_ok-many.many c.in_ok-variable.variable c.in_ok-variable.ensures.recorded c.run_open.new.encoding c.in_ok-turn.ensures.adds o base c.in_ok-turn.turn c.in_ok-turn.ensures.ended

pub returns-clause-stays : goal.returns-clause-stays
returns-clause-stays g c = λ root is candidate e.
    let same = g.A.SolvableId.PartialEq.eq in
    let exact : IsExact same = record { one = g.met.A.SolvableId.Exact.exact; own = g.met.A.SolvableId.Eq.laws.refl } in
    let names : IsExact g.A.NameId.PartialEq.eq = record { one = g.met.A.NameId.Exact.exact; own = g.met.A.NameId.Eq.laws.refl } in
    let p = g.A.PackageSource.packages c.args.answers.now in
    let orders = g.A.PackageSource.orders c.args.answers.now in
    let lawful = g.met.A.PackageSource.lawful c.args.answers.now in
    let offered : Offered g.row.A-NameId.Denot g.row.A-SolvableId.Denot = record { solvable = c.args.soft; name = c.package-name.result } in
    let (o, base) = c.in_ok-turn.ensures.turn in
    let stays = subst (λ (a : g.row.A.Denot). StaysInOrderOf same g.A.PackageSource a c.args.input.now c.record_soft.new.self c.run_open.new.encoding) c.in_ok-many.ensures.same c.in_ok-turn.ensures.stays in
    let order = stays root is (registered_in_order same c.args.encoding.now c.record_soft.new.self offered c.in_ok-many.many c.in_ok-variable.variable c.in_ok-variable.ensures.recorded p orders root lawful (candidate_listed same p c.args.soft c.package-name.result c.package-name.ensures candidate) c.in_ok-many.ensures.mark e) in (
      closed_in_order same c.args.encoding.now c.record_soft.new.self offered c.in_ok-many.many c.in_ok-variable.variable c.in_ok-variable.ensures.recorded c.run_open.new.encoding c.in_ok-turn.ensures.adds o base c.close_turn.new.encoding c.in_ok-status.ensures.rest p orders root (c.in_ok-status.ensures.stays p root lawful) order,
      closed_right same c.args.encoding.now c.record_soft.new.self offered c.in_ok-many.many c.in_ok-variable.variable c.in_ok-variable.ensures.recorded c.run_open.new.encoding c.in_ok-turn.ensures.adds o base c.close_turn.new.encoding c.in_ok-status.ensures.rest c.in_ok-turn.turn c.in_ok-turn.ensures.ended c.requires.built.coding exact g.A.NameId.PartialEq.eq names p root order.encoding
          c.in_ok-status.status c.in_ok-status.ensures.closed,
    )

pub returns-clause-outcome : goal.returns-clause-outcome
returns-clause-outcome g c =
    let same = g.A.SolvableId.PartialEq.eq in
    let (o, base) = c.in_ok-turn.ensures.turn in
    closed_outcome same c.args.encoding.now c.record_soft.new.self (record { solvable = c.args.soft; name = c.package-name.result }) c.in_ok-many.many c.in_ok-variable.variable c.in_ok-variable.ensures.recorded c.run_open.new.encoding c.in_ok-turn.ensures.adds o base c.close_turn.new.encoding c.in_ok-status.ensures.rest c.in_ok-turn.turn c.in_ok-turn.ensures.ended c.in_ok-status.ensures.built
    (recorded_undecided same c.args.encoding.now c.record_soft.new.self (record { solvable = c.args.soft; name = c.package-name.result }) c.in_ok-many.many c.in_ok-variable.variable c.in_ok-variable.ensures.recorded c.requires.built.coding c.requires.open).not_true c.in_ok-status.status c.in_ok-status.ensures.closed

pub returns-clause-keeps : goal.returns-clause-keeps
returns-clause-keeps g c =
    let same = g.A.SolvableId.PartialEq.eq in
    let (o, base) = c.in_ok-turn.ensures.turn in
    closed_keeps same c.args.encoding.now c.record_soft.new.self (record { solvable = c.args.soft; name = c.package-name.result }) c.in_ok-many.many c.in_ok-variable.variable c.in_ok-variable.ensures.recorded c.run_open.new.encoding c.in_ok-turn.ensures.adds o base c.close_turn.new.encoding c.in_ok-status.ensures.rest c.in_ok-turn.turn c.in_ok-turn.ensures.ended c.in_ok-status.status c.in_ok-status.ensures.closed
