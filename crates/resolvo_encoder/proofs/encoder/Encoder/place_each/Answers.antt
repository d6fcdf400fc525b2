use Rattle.std.proofs.Common.{◌≡◌, ◌+◌, ◌∷◌, ◌++◌, [], ◌∙◌, List, Some, take, subst, sym, ap}
use Rattle.std.proofs.lemmas.List.{take_more, take_all}
use Rattle.std.proofs.lemmas.Option.{slice_get-get_or}
use Rattle.resolvo_sat.specs.RuleClauses.{IsExact}
use Rattle.resolvo_packages.specs.declared.package_source.Offered.{Offered}
use Rattle.resolvo_state.proofs.Positions.{get_contains}
use Rattle.resolvo_encoder.specs.AtLeastOneClauses.{PlacesAll}
use Rattle.resolvo_encoder.proofs.PlaceLemmas.{places_none, places_then, still_registered}
use Rattle.resolvo_encoder.proofs.encoder.Encoder.place_each.Goals as goal

pub loop-one-init : goal.loop-one-init
loop-one-init g c =
    let exact : IsExact g.S.PartialEq.eq = record { one = g.met.S.Exact.exact; own = g.met.S.Eq.laws.refl } in
    places_none g.S.PartialEq.eq exact c.args.self.now c.requires.built

pub place_one-requires : goal.place_one-requires
place_one-requires g c =
    let exact : IsExact g.S.PartialEq.eq = record { one = g.met.S.Exact.exact; own = g.met.S.Eq.laws.refl } in
    record {
      built = c.loop-one.invariant.built;
      registered = still_registered g.S.PartialEq.eq exact (take c.loop-one.one-index c.args.list.now) c.args.self.now c.loop-one.self c.one-item.result.name c.one-item.result.solvable c.loop-one.invariant
          (c.requires.registered c.one-item.result (get_contains c.args.list.now c.loop-one.one-index c.one-item.result (slice_get-get_or c.args.list.now c.loop-one.one-index c.one-item.result c.loop-one-test.true ∙ ap Some (sym c.one-item.is))));
    }

pub loop-one-preserved : goal.loop-one-preserved
loop-one-preserved g c =
    let exact : IsExact g.S.PartialEq.eq = record { one = g.met.S.Exact.exact; own = g.met.S.Eq.laws.refl } in
    let more : take (c.loop-one.one-index + 1) c.args.list.now ≡ take c.loop-one.one-index c.args.list.now ++ c.one-item.result ∷ [] =
    take_more c.args.list.now c.loop-one.one-index c.one-item.result c.loop-one-test.true ∙ ap (λ (x : Offered _ _). take c.loop-one.one-index c.args.list.now ++ x ∷ []) (sym c.one-item.is) in
    subst (λ (xs : List (Offered _ _)). PlacesAll g.S.PartialEq.eq xs c.args.self.now c.place_one.new.self) (sym more)
    (places_then g.S.PartialEq.eq exact (take c.loop-one.one-index c.args.list.now) (c.one-item.result ∷ []) c.args.self.now c.loop-one.self c.place_one.new.self c.loop-one.invariant c.in_ok-place_one.ensures.placed)

pub returns-clause-placed : goal.returns-clause-placed
returns-clause-placed g c = subst (λ (xs : List (Offered _ _)). PlacesAll g.S.PartialEq.eq xs c.args.self.now c.loop-one.self) (take_all c.loop-one.one-index c.args.list.now c.loop-one-test.false) c.loop-one.invariant
