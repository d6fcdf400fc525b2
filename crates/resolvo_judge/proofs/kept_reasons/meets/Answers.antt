use Rattle.std.proofs.Common.{◌∙◌, List, sym, ap}
use Rattle.std.specs.List.{list_any}
use Rattle.resolvo_text.specs.View.{version_of}
use Rattle.resolvo_text.specs.Matches.{matches}
use Rattle.resolvo_pool_core.specs.declared.id.VersionSetId.{VersionSetId}
use Rattle.resolvo_pool_core.specs.declared.requirement.Requirement.{Requirement}
use Rattle.resolvo_terms.specs.Known.{spec_at, alternatives_at, members_of}
use Rattle.resolvo_judge.proofs.EntryLemmas.{any_map}
use Rattle.resolvo_judge.proofs.kept_reasons.meets.Goals as goal

pub returns-in-Union : goal.returns-in-Union
returns-in-Union c =
    let t = c.args.terms.now in
    let v = version_of c.args.version.now in
    c.one_matches.ensures
    ∙ ap (λ (vs : List VersionSetId). list_any (λ s. matches (spec_at t s) v) vs) c.members.ensures
    ∙ any_map (spec_at t) (λ s. matches s v) (members_of t c.in-Union.union)
    ∙ ap (λ (r : Requirement). list_any (λ s. matches s v) (alternatives_at t r)) (sym c.in-Union.is)
