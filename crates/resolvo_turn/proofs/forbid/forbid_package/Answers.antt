use Rattle.std.proofs.Common.{◌∙◌, ap, subst, sym, rules}
use Rattle.resolvo_state.specs.declared.registry.Registry.{Registry}
use Rattle.resolvo_state.specs.Registered.{IsMany}
use Rattle.resolvo_encoder.specs.declared.encoder.Encoder.{Encoder}
use Rattle.resolvo_encoder.specs.Encoded.{AreOrdered}
use Rattle.resolvo_turn.specs.Effects.{ForbidsCandidates}
use Rattle.resolvo_turn.proofs.AddLemmas.{needs_none, needs_then, extends_needs, marks_needs}
use Rattle.resolvo_turn.specs.LacksIds.{LacksIds, StopsAnyhow}
use Rattle.resolvo_turn.proofs.forbid.forbid_package.Goals as goal

pub returns-then-is_encoded-clause-encoded : goal.returns-then-is_encoded-clause-encoded
returns-then-is_encoded-clause-encoded g c = λ root e. (e, (λ s h. e.encoding.recorded.packages c.args.name s (c.is_encoded.ensures.0 c.if-is_encoded.true) h), e.encoding.marks.recorded c.args.name (c.is_encoded.ensures.0 c.if-is_encoded.true))

pub returns-then-is_encoded-clause-kept : goal.returns-then-is_encoded-clause-kept
returns-then-is_encoded-clause-kept g c = needs_none c.args.encoding.now

pub returns-clause-encoded : goal.returns-clause-encoded
returns-clause-encoded g c = λ root e.
    let same = g.A.SolvableId.PartialEq.eq in
    let p = g.A.PackageSource.packages c.args.answers.now in
    let marks = c.in_ok-mark.ensures.marks in
    let (middle, known) = marks.encoding p root (g.met.A.PackageSource.lawful c.args.answers.now) e.encoding c.in_ok-many.ensures.mark in
    let ordered = subst (λ (x : Encoder _ _). AreOrdered (g.A.PackageSource.orders c.args.answers.now) x) (sym marks.rest) e.ordered in
    let forbids = subst (λ (a : g.row.A.Denot). ForbidsCandidates same g.A.PackageSource a c.args.name c.mark.new.self c.forbid_candidates.new.encoding) c.in_ok-many.ensures.same c.in_ok-forbid_candidates.ensures.encoded in
    let (last, forbidden) = forbids root (record { encoding = middle; ordered = ordered }) known in
    (last, forbidden, λ m. subst (λ (r : Registry _). IsMany r c.args.name) (sym c.in_ok-forbid_candidates.ensures.registry) (known m))

pub returns-clause-marks : goal.returns-clause-marks
returns-clause-marks g c = λ n h. subst (λ (r : Registry _). IsMany r n) (sym c.in_ok-forbid_candidates.ensures.registry) (c.in_ok-mark.ensures.marks.keeps n h)

pub returns-clause-same : goal.returns-clause-same
returns-clause-same g c = c.in_ok-forbid_candidates.ensures.same ∙ c.in_ok-many.ensures.same

pub returns-clause-fired : goal.returns-clause-fired
returns-clause-fired g c = c.in_ok-forbid_candidates.ensures.kept.fired ∙ ap (λ (x : Encoder _ _). x.fired) c.in_ok-mark.ensures.marks.rest

pub forbid_candidates-requires : goal.forbid_candidates-requires
forbid_candidates-requires g c = c.in_ok-mark.ensures.marks.built

pub returns-clause-kept : goal.returns-clause-kept
returns-clause-kept g c = needs_then c.args.encoding.now c.mark.new.self c.forbid_candidates.new.encoding (marks_needs c.args.encoding.now c.mark.new.self c.in_ok-mark.ensures.marks.rest) (extends_needs c.mark.new.self c.forbid_candidates.new.encoding c.in_ok-forbid_candidates.ensures.kept)

pub returns-in_err-many-clause-ids : goal.returns-in_err-many-clause-ids
returns-in_err-many-clause-ids g c = search (rules, LacksIds.packages)

pub returns-in_err-forbid_candidates-clause-ids : goal.returns-in_err-forbid_candidates-clause-ids
returns-in_err-forbid_candidates-clause-ids g c = λ is root.
    let stops = subst (λ (a : g.row.A.Denot). StopsAnyhow g.A.SolvableId.PartialEq.eq g.A.PackageSource a c.forbid_candidates.new.encoding) c.in_ok-many.ensures.same (search (rules, is)) in
    stops root
