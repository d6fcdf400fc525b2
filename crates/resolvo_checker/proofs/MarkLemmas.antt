-- A mark without a value assigns nothing.
use Rattle.std.proofs.Common.{◌≡◌, ℕ, zero, suc, Bool, true, false, List, [], ◌∷◌, ◌++◌, Option, None, refl, cond}
use Rattle.std.specs.Prelude.{◌==◌}
use Rattle.resolvo_checker.specs.declared.assignment.Mark.{Mark}
use Rattle.resolvo_checker.specs.Truth.{known_in, marked_at}

unmarked : (pass p : ℕ) → marked_at pass (record { pass = p; value = None }) ≡ None
unmarked pass p = one (p == pass) None where
  one : (b : Bool) (o : Option Bool) → cond b o o ≡ o
  one true o = refl
  one false o = refl

at : (marks : List Mark) (pass p v : ℕ) → known_in (marks ++ record { pass = p; value = None } ∷ []) pass v ≡ known_in marks pass v
at [] pass p zero = unmarked pass p
at [] pass p (suc v) = refl
at (m ∷ marks) pass p zero = refl
at (m ∷ marks) pass p (suc v) = at marks pass p v

pub known_in-push : (marks : List Mark) (pass p : ℕ) → known_in (marks ++ record { pass = p; value = None } ∷ []) pass ≡ known_in marks pass
known_in-push marks pass p = λ i v. at marks pass p v i
