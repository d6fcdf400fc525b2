use Rattle.std.proofs.Common.{ℕ, List, ◌++◌, refl, ap, ◌∙◌, append-nil}
use Rattle.resolve_run.proofs.text.RunText.unread.Goals as goal

pub returns-in-Ok : goal.returns-in-Ok
returns-in-Ok c = rw c.in-Ok.is (refl, ap (λ (t : List ℕ). c.in-Ok.written.text.items ++ t) c.new.ensures.items ∙ append-nil c.in-Ok.written.text.items)
