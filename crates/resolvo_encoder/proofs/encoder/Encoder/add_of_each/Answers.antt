use Rattle.std.proofs.Common.{◌≡◌, ◌<◌, ◌≤◌, ◌+◌, ◌∷◌, ◌++◌, [], ◌∙◌, List, length, take, get_or, subst, sym, ap, arith}
use Rattle.std.proofs.lemmas.List.{take_more, take_all}
use Rattle.resolvo_sat.specs.RuleClauses.{IsExact}
use Rattle.resolvo_encoder.specs.AtLeastOneClauses.{CoversAll}
use Rattle.resolvo_encoder.proofs.PlaceLemmas.{covers_none, covers_more}
use Rattle.resolvo_encoder.proofs.encoder.Encoder.add_of_each.Goals as goal

pub loop-place-init : goal.loop-place-init
loop-place-init g c =
    let exact : IsExact g.S.PartialEq.eq = record { one = g.met.S.Exact.exact; own = g.met.S.Eq.laws.refl } in
    covers_none g.S.PartialEq.eq exact c.args.self.now c.requires

pub bounds-queued-place : goal.bounds-queued-place
bounds-queued-place g c =
    let count : c.len-count.result ≡ length c.args.self.now.recorded.queued.keys = c.len-count.ensures.len in
    let long : length c.as_slice-queued.result.now ≡ length c.args.self.now.recorded.queued.keys = ap length (c.as_slice-queued.ensures.keys ∙ ap (λ ks. ks.keys) c.loop-place.invariant.queued) in
    omega (arith, count, long, c.loop-place-test.true)

pub record_at_least_one-requires : goal.record_at_least_one-requires
record_at_least_one-requires g c = c.loop-place.invariant.built

pub loop-place-preserved : goal.loop-place-preserved
loop-place-preserved g c =
    let exact : IsExact g.S.PartialEq.eq = record { one = g.met.S.Exact.exact; own = g.met.S.Eq.laws.refl } in
    let xs = c.args.self.now.recorded.queued.keys in
    let i = c.loop-place.place in
    let name = c.index-queued-place.result in
    let count : c.len-count.result ≡ length xs = c.len-count.ensures.len in
    let below : i < length xs = omega (arith, count, c.loop-place-test.true) in
    let same : c.as_slice-queued.result.now ≡ xs = c.as_slice-queued.ensures.keys ∙ ap (λ ks. ks.keys) c.loop-place.invariant.queued in
    let more : take (i + 1) xs ≡ take i xs ++ name ∷ [] = take_more xs i name below ∙ ap (λ x. take i xs ++ x ∷ []) (sym (c.index-queued-place.is ∙ ap (λ (ys : List _). get_or ys i name) same)) in
    subst (λ (ys : List _). CoversAll g.S.PartialEq.eq ys c.args.self.now c.record_at_least_one.new.self) (sym more)
    (covers_more g.S.PartialEq.eq exact (take i xs) name c.args.self.now c.loop-place.self c.record_at_least_one.new.self c.loop-place.invariant c.in_ok-record_at_least_one.ensures.at_least_one)

pub returns-clause-covered : goal.returns-clause-covered
returns-clause-covered g c =
    let xs = c.args.self.now.recorded.queued.keys in
    let count : c.len-count.result ≡ length xs = c.len-count.ensures.len in
    let past : length xs ≤ c.loop-place.place = omega (arith, count, c.loop-place-test.false) in
    subst (λ (ys : List _). CoversAll g.S.PartialEq.eq ys c.args.self.now c.loop-place.self) (take_all c.loop-place.place xs past) c.loop-place.invariant
