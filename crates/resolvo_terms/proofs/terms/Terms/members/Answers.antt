use Rattle.std.proofs.Common.{◌≡◌, ◌∙◌, ℕ, List, [], sym, ap, subst}
use Rattle.std.specs.Prelude.{slice_get}
use Rattle.resolvo_pool_core.specs.declared.id.VersionSetId.{VersionSetId}
use Rattle.resolvo_terms.specs.Terms.{Terms}
use Rattle.resolvo_terms.specs.Known.{members_of}
use Rattle.resolvo_terms.proofs.ListLemmas.{absent_list}
use Rattle.resolvo_terms.proofs.terms.Terms.members.Goals as goal

pub returns-in-None : goal.returns-in-None
returns-in-None c =
    subst (λ (t : Terms). ◌≡◌ {A = List VersionSetId} [] (members_of t c.args.union)) c.self.view_is
    (absent_list c.self.inside.unions c.args.union.0 (ap (λ (n : ℕ). slice_get c.self.inside.unions n) (sym c.to_index.ensures.index) ∙ sym c.in-None.ensures))
