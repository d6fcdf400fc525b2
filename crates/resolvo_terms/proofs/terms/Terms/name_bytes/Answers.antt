use Rattle.std.proofs.Common.{◌≡◌, ◌∙◌, ℕ, List, [], sym, ap, subst}
use Rattle.std.specs.Prelude.{slice_get}
use Rattle.resolvo_terms.specs.Terms.{Terms}
use Rattle.resolvo_terms.specs.Known.{name_text}
use Rattle.resolvo_terms.proofs.FoundLemmas.{absent_text}
use Rattle.resolvo_terms.proofs.terms.Terms.name_bytes.Goals as goal

pub returns-in-None : goal.returns-in-None
returns-in-None c =
    subst (λ (t : Terms). ◌≡◌ {A = List ℕ} [] (name_text t c.args.name)) c.self.view_is
    (absent_text c.self.inside.names c.args.name.raw (ap (λ (n : ℕ). slice_get c.self.inside.names n) (sym c.into_raw.ensures) ∙ sym c.in-None.ensures))
