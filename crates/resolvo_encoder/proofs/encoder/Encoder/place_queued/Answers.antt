use Rattle.std.proofs.Common.{List, subst, ◌∷◌, []}
use Rattle.resolvo_sat.proofs.Lists.{contains_only}
use Rattle.std.specs.Prelude.{Contains}
use Rattle.resolvo_sat.specs.RuleClauses.{IsExact}
use Rattle.resolvo_packages.specs.declared.package_source.Offered.{Offered}
use Rattle.resolvo_encoder.specs.AtLeastOneClauses.{PlacesAll}
use Rattle.resolvo_encoder.proofs.PlaceLemmas.{queue_ends}
use Rattle.resolvo_encoder.proofs.encoder.Encoder.place_queued.Goals as goal

pub place_each-requires : goal.place_each-requires
place_each-requires g c = record {
  built = c.requires;
  registered = λ o h. c.in_ok-waiting.ensures.waiting.all o (subst (λ (xs : List (Offered _ _)). Contains xs o) c.as_slice.ensures.value h);
}

pub returns-clause-placed : goal.returns-clause-placed
returns-clause-placed g c =
    let exact : IsExact g.S.PartialEq.eq = record { one = g.met.S.Exact.exact; own = g.met.S.Eq.laws.refl } in
    queue_ends g.S.PartialEq.eq exact c.in_ok-waiting.waiting.items c.args.self.now c.place_each.new.self c.end_queue-2.new.self c.in_ok-waiting.ensures.waiting
    (subst (λ (xs : List (Offered _ _)). PlacesAll g.S.PartialEq.eq xs c.args.self.now c.place_each.new.self) c.as_slice.ensures.value c.in_ok-place_each.ensures.placed) c.end_queue-2.ensures

pub place_one-requires : goal.place_one-requires
place_one-requires g c = record {
  built = c.requires;
  registered = c.in-Some.ensures.all c.in-Some.one (contains_only c.in-Some.one);
}

pub returns-in-Some-clause-placed : goal.returns-in-Some-clause-placed
returns-in-Some-clause-placed g c =
    let exact : IsExact g.S.PartialEq.eq = record { one = g.met.S.Exact.exact; own = g.met.S.Eq.laws.refl } in
    queue_ends g.S.PartialEq.eq exact (c.in-Some.one ∷ []) c.args.self.now c.place_one.new.self c.end_queue.new.self c.in-Some.ensures c.in_ok-place_one.ensures.placed c.end_queue.ensures
