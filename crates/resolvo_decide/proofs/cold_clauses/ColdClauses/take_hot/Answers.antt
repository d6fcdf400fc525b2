use Rattle.std.proofs.Common.{subst}
use Rattle.std.specs.Prelude.{Contains}
use Rattle.resolvo_decide.proofs.ColdLemmas.{keeps_fewer, keeps_cleared}
use Rattle.resolvo_decide.proofs.cold_clauses.ColdClauses.take_hot.Goals as goal

pub returns-then-is_within-clause-kept : goal.returns-then-is_within-clause-kept
returns-then-is_within-clause-kept g c = keeps_fewer c.args.self.now (record c.args.self.now { hot = c.in_ok-names.names }) (λ i none. none) (λ n there. subst (λ names. Contains names n) c.deref-2.ensures.value (c.is_within.ensures c.if-is_within.true n (subst (λ names. Contains names n) c.in_ok-names.ensures.items there)))

pub returns-clause-kept : goal.returns-clause-kept
returns-clause-kept g c = keeps_cleared c.args.self.now (record c.args.self.now { hot = c.in_ok-names.names; warm = c.clear.new.self }) c.clear.ensures.items
