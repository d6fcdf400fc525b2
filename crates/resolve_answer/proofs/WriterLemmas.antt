-- A writer after some calls.
use Rattle.std.proofs.Common.{◌≡◌, ℕ, Bool, List, [], ◌∷◌, subst}
use Rattle.std.specs.Prelude.{Option, Some, None, IfSome}
use Rattle.std.specs.Fmt.{WritesInCalls}
use Rattle.std.specs.List.{FoldsTo, concat}
use Rattle.resolve_answer.specs.Marked.{Marks}
use Rattle.resolve_answer.proofs.MarkLemmas.{marks_more, marks_nothing}

-- of a text that is known
pub if_text : (o : Option (List ℕ)) {P Q : List ℕ → Type 0} → ((text : List ℕ) → P text → Q text) → IfSome o P → IfSome o Q
if_text None f h = tt
if_text (Some text) f h = f text h

-- a writer that marks what it is given
module _ {W : Type 0} (took : W → List ℕ → W → Type 0) (begins : W → Bool) (bytes : W → List ℕ) (marks : (w : W) (more : List ℕ) (v : W) → took w more v → Marks (begins w) (bytes w) more (begins v) (bytes v)) where
  marks_after : (w : W) (texts : List (List ℕ)) (v : W) → FoldsTo took w texts v → Marks (begins w) (bytes w) (concat texts) (begins v) (bytes v)
  marks_after w [] v p = subst (λ (x : W). Marks (begins w) (bytes w) [] (begins x) (bytes x)) p (marks_nothing (begins w) (bytes w))
  marks_after w (x ∷ xs) v p = marks_more (begins w) (begins p.0) (begins v) (bytes w) (bytes p.0) (bytes v) x (concat xs) (marks w x p.0 p.1) (marks_after p.0 xs v p.2)

  pub text_after : (w : W) (text : List ℕ) (v : W) → WritesInCalls took w text v → Marks (begins w) (bytes w) text (begins v) (bytes v)
  text_after w text v p = subst (λ (t : List ℕ). Marks (begins w) (bytes w) t (begins v) (bytes v)) p.whole (marks_after w p.parts v p.calls)
