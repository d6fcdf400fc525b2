-- Each text has lines.
use Rattle.std.proofs.Common.{◌≡◌, ℕ, ◌+◌, ◌<◌, ◌≤◌, Bool, true, false, not, List, [], ◌∷◌, ◌++◌, refl, sym, ◌∙◌, ap, append_assoc, length, arith}
use Rattle.std.specs.Prelude.{codes}
use Rattle.std.specs.List.{AllByRecursion, list_all}
use Rattle.std.proofs.lemmas.Bool.{and_from, eqb-true}
use Rattle.resolvo_text.specs.Lines.{is_newline}
use Rattle.resolve_answer.specs.Message.{IsPlain, joined, AreLinesOf}

-- a byte before the lines of a text: a newline, or a byte of the first line
before : (b : ℕ) (bs : List ℕ) (is : Bool) → is_newline b ≡ is → (lines : List (List ℕ)) → AreLinesOf bs lines → (more : List (List ℕ)) × AreLinesOf (b ∷ bs) more
before b bs true is lines are = ([] ∷ lines, record { rest = are.rest; parts = ap (λ (x : ℕ). x ∷ bs) (eqb-true b 10 is) ∙ ap (λ (xs : List ℕ). 10 ∷ xs) are.parts; plain = (refl, are.plain); left = are.left })
before b bs false other [] are = ([], record { rest = b ∷ are.rest; parts = ap (λ (xs : List ℕ). b ∷ xs) are.parts; plain = tt; left = and_from (not (is_newline b)) (list_all (λ x. not (is_newline x)) are.rest) (ap not other) are.left })
before b bs false other (line ∷ lines) are = ((b ∷ line) ∷ lines, record { rest = are.rest; parts = ap (λ (xs : List ℕ). b ∷ xs) are.parts; plain = (and_from (not (is_newline b)) (list_all (λ x. not (is_newline x)) line) (ap not other) are.plain.0, are.plain.1); left = are.left })

pub have_lines : (text : List ℕ) → (lines : List (List ℕ)) × AreLinesOf text lines
have_lines [] = ([], record { rest = []; parts = refl; plain = tt; left = refl })
have_lines (b ∷ bs) = (let (lines, are) = have_lines bs in before b bs (is_newline b) refl lines are)
