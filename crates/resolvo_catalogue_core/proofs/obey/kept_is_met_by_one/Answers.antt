use Rattle.std.proofs.Common.{◌∙◌, List, sym, ap}
use Rattle.std.specs.List.{list_any}
use Rattle.resolvo_text.specs.Matches.{is_met, is_met_by_one}
use Rattle.resolvo_text.proofs.Mapped.{any_mapped}
use Rattle.resolvo_pool_core.specs.declared.id.VersionSetId.{VersionSetId}
use Rattle.resolvo_pool_core.specs.declared.requirement.Requirement.{Requirement}
use Rattle.resolvo_terms.specs.Known.{spec_at, alternatives_at, members_of}
use Rattle.resolvo_catalogue_core.specs.Listed.{members}
use Rattle.resolvo_catalogue_core.proofs.obey.kept_is_met_by_one.Goals as goal

pub returns-in-Union : goal.returns-in-Union
returns-in-Union c =
    let t = c.args.terms.now in
    let set = members c.args.versions.now c.args.set.now in
    c.any_kept_is_met-in-Union.ensures
    ∙ ap (λ (vs : List VersionSetId). list_any (λ v. is_met (spec_at t v) set) vs) c.members.ensures
    ∙ any_mapped (λ s. is_met s set) (spec_at t) (members_of t c.in-Union.union)
    ∙ ap (λ (r : Requirement). is_met_by_one (alternatives_at t r) set) (sym c.in-Union.is)
