use Rattle.std.proofs.Common.{refl}
use Rattle.resolvo_catalogue.proofs.KeptAlike.{kept_alike, kept_alike_exempt, over_stays}
use Rattle.resolvo_catalogue.proofs.provider.CatalogueProvider.intern_request.Goals as goal

pub returns-in_err-deps-clause-over : goal.returns-in_err-deps-clause-over
returns-in_err-deps-clause-over c = rw (← c.self.view_is) (λ catalogue over. over_stays _ _ c.in_err-deps.ensures.interns refl refl refl c.ids_are_once.ensures catalogue over)

pub returns-in_err-push-clause-over : goal.returns-in_err-push-clause-over
returns-in_err-push-clause-over c = rw (← c.self.view_is) (λ catalogue over. over_stays _ _ c.in_ok-deps.ensures.interns refl refl refl c.ids_are_once.ensures catalogue over)

pub returns-clause-over : goal.returns-clause-over
returns-clause-over c = rw (← c.self.view_is) (λ catalogue over. over_stays _ _ c.in_ok-deps.ensures.interns refl refl refl c.ids_are_once.ensures catalogue over)

pub returns-clause-rules : goal.returns-clause-rules
returns-clause-rules c catalogue over asks =
    kept_alike _ catalogue c.args.request.now.lines (returns-clause-over c catalogue over) asks
    (record { requirements = c.in_ok-deps.deps.requirements.items; constraints = c.in_ok-deps.deps.constrains.items })
    c.in_ok-deps.ensures.as_ids.requirements c.in_ok-deps.ensures.as_ids.constrains

pub returns-clause-exempt : goal.returns-clause-exempt
returns-clause-exempt c catalogue over asks =
    kept_alike_exempt _ catalogue c.args.request.now.lines (returns-clause-over c catalogue over)
    (record { requirements = c.in_ok-deps.deps.requirements.items; constraints = c.in_ok-deps.deps.constrains.items }) c.loop-version.wishes.items
    (returns-clause-rules c catalogue over asks)
