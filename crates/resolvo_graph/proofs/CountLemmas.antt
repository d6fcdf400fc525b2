-- The count of a message's bytes.
use Rattle.std.proofs.Common.{◌≡◌, ℕ, zero, suc, ◌-◌, ◌+◌, ◌<◌, ◌≤◌, List, [], ◌∷◌, ◌++◌, length, refl, ap, ◌∙◌, arith}
use Rattle.std.specs.Prelude.{Option, Some, None, IfSome}
use Rattle.std.specs.Fmt.{WritesInCalls}
use Rattle.std.specs.List.{FoldsTo, concat}
use Rattle.std.proofs.lemmas.List.{length-append}
use Rattle.resolvo_graph.specs.Message.{text_of}
use Rattle.resolvo_graph.specs.Words.{Meaning}

-- of a text that is known
pub if_text : (o : Option (List ℕ)) {P Q : List ℕ → Type 0} → ((text : List ℕ) → P text → Q text) → IfSome o P → IfSome o Q
if_text None f h = tt
if_text (Some text) f h = f text h

-- a writer that has less room by each text
module _ {W : Type 0} (took : W → List ℕ → W → Type 0) (room : W → ℕ) (takes : (w : W) (text : List ℕ) (v : W) → took w text v → room v ≡ room w - length text) where
  room_after_calls : (w : W) (texts : List (List ℕ)) (v : W) → FoldsTo took w texts v → room v ≡ room w - length (concat texts)
  room_after_calls w [] v p = (let is : room w ≡ room v = ap room p in omega arith)
  room_after_calls w (x ∷ xs) v p =
      let first : room p.0 ≡ room w - length x = takes w x p.0 p.1 in
      let rest : room v ≡ room p.0 - length (concat xs) = room_after_calls p.0 xs v p.2 in
      let whole : length (x ++ concat xs) ≡ length x + length (concat xs) = length-append x (concat xs) in
      omega arith

  pub room_after : (w : W) (text : List ℕ) (v : W) → WritesInCalls took w text v → room v ≡ room w - length text
  room_after w text v p = room_after_calls w p.parts v p.calls ∙ ap (λ (l : List ℕ). room w - length l) p.whole

-- no line, and no byte
pub no_byte : {N S : Type 0} (m : Meaning N S) (left : ℕ) → left ≡ left - length (text_of m [])
no_byte m left = omega arith

-- nothing is left: there are no fewer than the bound
pub none_left : (bound left n : ℕ) → left ≡ bound - n → left ≡ 0 → bound ≤ n
none_left bound left n is none = omega arith

-- some are left: there are fewer
pub some_left : (bound left n : ℕ) → left ≡ bound - n → (left ≡ 0 → ⊥) → (bound - left ≡ n) × (n < bound)
some_left bound zero n is some = absurd (some refl)
some_left bound (suc k) n is some = (omega arith, omega arith)
