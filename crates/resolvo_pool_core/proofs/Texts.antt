-- How requirements are written.
use Rattle.std.proofs.Common.{◌≡◌, ℕ, List, [], ◌∷◌, length, refl, arith}
use Rattle.std.specs.Fmt.{HasWritten, IsPlainFormatter}
use Rattle.std.specs.declared.fmt.Formatter.{Formatter}
use Rattle.resolvo_pool_core.specs.declared.id.VersionSetId.{VersionSetId}
use Rattle.resolvo_pool_core.specs.Text.{alternatives_text}

-- no alternative has no text
pub no_alternatives : (text_of : VersionSetId → List ℕ) (vs : List VersionSetId) → length vs ≡ 0 → alternatives_text text_of vs ≡ []
no_alternatives text_of [] few = refl
no_alternatives text_of (v ∷ vs) few = absurd (omega arith)

-- nothing is written by no call
pub wrote_nothing : {W : Type 0} (took : W → List ℕ → W → Type 0) (f : Formatter W) → IsPlainFormatter f → HasWritten took f [] f
wrote_nothing took f plain = record { wrote = record { parts = []; calls = refl; whole = refl }; plain = plain }
