use Rattle.resolvo_store_tests.proofs.tests.registry.register.Goals as goal

pub place-requires-clause-registered : goal.place-requires-clause-registered
place-requires-clause-registered c = let r = c.in_ok-register-2.ensures.registered in (c.in_ok-register-2.field-0, r.present, r.registered)
