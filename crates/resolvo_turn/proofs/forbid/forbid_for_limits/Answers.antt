use Rattle.std.proofs.Common.{slice_index_or, ◌∙◌, subst, refl, rules}
use Rattle.resolvo_pool_core.specs.declared.id.VersionSetId.{VersionSetId}
use Rattle.resolvo_pool_core.specs.declared.requirement.Requirement.TheVariants.{Single}
use Rattle.resolvo_turn.specs.Effects.{GuardsRequirement}
use Rattle.resolvo_turn.specs.LacksIds.{StopsAnyhow}
use Rattle.resolvo_turn.proofs.AddLemmas.{needs_none, needs_then}
use Rattle.resolvo_turn.proofs.forbid.forbid_for_limits.Goals as goal

pub loop-version_set-init : goal.loop-version_set-init
loop-version_set-init g c = record { same = refl; stays = λ root e. e; kept = needs_none c.args.encoding.now; built = c.requires }

pub loop-version_set-preserved : goal.loop-version_set-preserved
loop-version_set-preserved g c =
    let blank : VersionSetId = record { 0 = 0 } in
    let item : VersionSetId = slice_index_or c.args.constraints.now c.loop-version_set.version_set-index blank in
    let before = c.loop-version_set.invariant in
    let ensured = subst (λ (a : g.row.A.Denot). GuardsRequirement g.A.SolvableId.PartialEq.eq g.A.PackageSource a (Single item) c.loop-version_set.encoding c.forbid_named.new.encoding) before.same c.in_ok-forbid_named.ensures.encoded in
    record {
      same = c.in_ok-forbid_named.ensures.same ∙ before.same;
      stays = λ root e. (ensured root (before.stays root e)).0;
      kept = needs_then c.args.encoding.now c.loop-version_set.encoding c.forbid_named.new.encoding before.kept c.in_ok-forbid_named.ensures.kept;
      built = c.in_ok-forbid_named.ensures.built;
    }

pub returns-in_err-forbid_named-clause-ids : goal.returns-in_err-forbid_named-clause-ids
returns-in_err-forbid_named-clause-ids g c = λ is. subst (λ (a : g.row.A.Denot). StopsAnyhow g.A.SolvableId.PartialEq.eq g.A.PackageSource a c.forbid_named.new.encoding) c.loop-version_set.invariant.same (search (rules, is))
