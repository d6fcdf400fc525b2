use Rattle.std.proofs.Common.{◌≡◌, ℕ, List, Some, subst}
use Rattle.std.specs.Prelude.{slice_get}
use Rattle.resolvo_terms.proofs.text_ids.TextIds.intern.Goals as goal

pub returns-in-Some-clause-text : goal.returns-in-Some-clause-text
returns-in-Some-clause-text c = subst (λ (t : List ℕ). slice_get c.args.self.now c.in-Some.id ≡ Some t) c.as_bytes-bytes.ensures.value c.in-Some.ensures.found
