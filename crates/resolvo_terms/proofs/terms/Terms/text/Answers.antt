use Rattle.std.proofs.Common.{◌≡◌, ℕ, List, [], sym, subst}
use Rattle.resolvo_terms.specs.Terms.{Terms}
use Rattle.resolvo_terms.specs.Known.{word_text}
use Rattle.resolvo_terms.proofs.FoundLemmas.{absent_text}
use Rattle.resolvo_terms.proofs.terms.Terms.text.Goals as goal

pub returns-in-None : goal.returns-in-None
returns-in-None c = subst (λ (t : Terms). ◌≡◌ {A = List ℕ} [] (word_text t c.args.word)) c.self.view_is (absent_text c.self.inside.words c.args.word.0 (sym c.in-None.ensures))
