-- Lines and their text.
use Rattle.std.proofs.Common.{◌≡◌, ℕ, Bool, true, false, not, List, [], ◌∷◌, ◌++◌, refl, sym, ◌∙◌, ap}
use Rattle.std.specs.Prelude.{codes}
use Rattle.std.specs.List.{list_all, flat_map}
use Rattle.std.proofs.lemmas.Bool.{both_ways, and_parts}
use Rattle.std.proofs.lemmas.List.{append-nil}
use Rattle.resolvo_text.specs.Lines.{is_newline}
use Rattle.resolve_answer.specs.Message.{IsPlain, joined, AreLinesOf}

-- the text ends with a newline, or is empty
abbrev pub ends_line : List ℕ → Bool
ends_line [] = true
ends_line (b ∷ []) = is_newline b
ends_line (b ∷ c ∷ bs) = ends_line (c ∷ bs)

-- so does one that does so after another
ends_behind : (xs : List ℕ) (b : ℕ) (bs : List ℕ) → ends_line (xs ++ b ∷ bs) ≡ ends_line (b ∷ bs)
ends_behind [] b bs = refl
ends_behind (x ∷ []) b bs = refl
ends_behind (x ∷ y ∷ xs) b bs = ends_behind (y ∷ xs) b bs

-- a text without a newline that ends with one is empty
plain_ends : (b : ℕ) (bs : List ℕ) → IsPlain (b ∷ bs) → ends_line (b ∷ bs) ≡ false
plain_ends b [] plain = not_newline (is_newline b) (and_parts (not (is_newline b)) true plain).0
  where
    not_newline : (x : Bool) → not x ≡ true → x ≡ false
    not_newline true e = sym e
    not_newline false e = refl
plain_ends b (c ∷ bs) plain = plain_ends c bs (and_parts (not (is_newline b)) (list_all (λ x. not (is_newline x)) (c ∷ bs)) plain).1

-- Of a text that ends with a newline the lines are all.
pub all_lines : (text : List ℕ) (lines : List (List ℕ)) → ends_line text ≡ true → AreLinesOf text lines → joined lines ≡ text
all_lines text lines ends are = go are.rest are.parts are.left
  where
    go : (rest : List ℕ) → text ≡ joined lines ++ rest → IsPlain rest → joined lines ≡ text
    go [] is plain = sym (append-nil (joined lines)) ∙ sym is
    go (b ∷ bs) is plain = absurd (both_ways false refl (sym (plain_ends b bs plain) ∙ (sym (ends_behind (joined lines) b bs) ∙ (ap ends_line (sym is) ∙ ends))))

-- a line of a text, each of whose lines ends with a newline, ends the text
pub each_ends : {X : Type 0} (line : X → List ℕ) → ((x : X) → (text : List ℕ) × (line x ≡ text ++ codes "\n")) → (xs : List X) → ends_line (flat_map line xs) ≡ true
each_ends line each [] = refl
each_ends line each (x ∷ []) = (let (text, is) = each x in ap ends_line (append-nil (line x) ∙ is) ∙ ends_behind text 10 [])
each_ends line each (x ∷ y ∷ xs) = go (flat_map line (y ∷ xs)) (each_ends line each (y ∷ xs))
  where
    go : (more : List ℕ) → ends_line more ≡ true → ends_line (line x ++ more) ≡ true
    go [] e = (let (text, is) = each x in ap ends_line (append-nil (line x) ∙ is) ∙ ends_behind text 10 [])
    go (b ∷ bs) e = ends_behind (line x) b bs ∙ e
