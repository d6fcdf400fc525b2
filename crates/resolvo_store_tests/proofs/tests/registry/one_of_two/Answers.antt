use Rattle.resolvo_state.proofs.RegisterLemmas.{nothing_tied}
use Rattle.resolvo_store_tests.proofs.tests.registry.one_of_two.Goals as goal

pub choose_one-requires-clause-tied : goal.choose_one-requires-clause-tied
choose_one-requires-clause-tied c = nothing_tied c.new.result c.in_ok-begin.field-0 c.new.ensures c.in_ok-begin.ensures.begun.kinds
