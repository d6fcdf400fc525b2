use Rattle.resolvo_state.proofs.RegisterLemmas.{nothing_tied}
use Rattle.resolvo_store_tests.proofs.tests.registry.registered.Goals as goal

pub register-requires-clause-tied : goal.register-requires-clause-tied
register-requires-clause-tied c = nothing_tied c.new.result c.in_ok-coding.coding c.new.ensures c.in_ok-coding.ensures.begun.kinds
