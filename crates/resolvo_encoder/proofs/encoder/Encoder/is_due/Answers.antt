use Rattle.std.proofs.Common.{List, sym, subst, inl}
use Rattle.std.specs.Prelude.{Contains}
use Rattle.std.proofs.lemmas.Bool.{both_ways}
use Rattle.std.proofs.lemmas.Option.{slice_get_within}
use Rattle.resolvo_store_core.specs.declared.conditions.DeferredConjunct.{DeferredConjunct}
use Rattle.resolvo_sat.specs.RuleClauses.{IsExact}
use Rattle.resolvo_encoder.proofs.FireLemmas.{looked_up, unmet_spent}
use Rattle.resolvo_encoder.proofs.encoder.Encoder.is_due.Goals as goal

pub returns-then-not-contains-clause-due : goal.returns-then-not-contains-clause-due
returns-then-not-contains-clause-due g c = λ h.
    let (found, is, more, (below, other), rest) = c.in-Some.ensures.lookup in (
      slice_get_within c.args.self.now.deferred.items c.args.index c.in-Some.deferred.now (looked_up c.deref.result.now c.args.self.now.deferred.items c.args.index c.in-Some.deferred.now c.deref.ensures.value below is),
      λ fired. both_ways _ c.if-not-contains.true (c.contains.ensures.1 fired),
    )

pub returns-then-not-contains-clause-met : goal.returns-then-not-contains-clause-met
returns-then-not-contains-clause-met g c = λ h.
    let (found, is, more, (below, other), rest) = c.in-Some.ensures.lookup in
    record {
      deferred = c.in-Some.deferred.now;
      at = looked_up c.deref.result.now c.args.self.now.deferred.items c.args.index c.in-Some.deferred.now c.deref.ensures.value below is;
      chosen = λ x k. c.has_each.ensures.chosen h x (subst (λ (xs : List (DeferredConjunct _)). Contains xs x) (sym c.as_slice.ensures.value) k);
    }

pub returns-then-not-contains-clause-spent : goal.returns-then-not-contains-clause-spent
returns-then-not-contains-clause-spent g c = λ h.
    let exact : IsExact g.S.PartialEq.eq = record { one = g.met.S.Exact.exact; own = g.met.S.Eq.laws.refl } in
    let (found, is, more, (below, other), rest) = c.in-Some.ensures.lookup in
    let (x, present, none) = c.has_each.ensures.missing h in
    unmet_spent g.S.PartialEq.eq exact c.args.self.now c.args.index c.in-Some.deferred.now x (looked_up c.deref.result.now c.args.self.now.deferred.items c.args.index c.in-Some.deferred.now c.deref.ensures.value below is) (subst (λ (xs : List (DeferredConjunct _)). Contains xs x) c.as_slice.ensures.value present) none

pub returns-else-not-contains-clause-spent : goal.returns-else-not-contains-clause-spent
returns-else-not-contains-clause-spent g c = λ h. inl (c.contains.ensures.0 c.if-not-contains.false)
