-- Whole lines put one after the other, and the first line that parts them.
use Rattle.std.proofs.Common.{◌≡◌, ℕ, suc, zero-add, ◌+◌, ◌<◌, ◌≤◌, inl, inr, Bool, true, false, cond, eqb, List, [], ◌∷◌, ◌++◌, length, get_or, ◌-◌, take, drop, Some, None, All, refl, sym, ap, subst, ◌∙◌, append_assoc, arith, ⊎_elim}
use Rattle.std.specs.Prelude.{Contains}
use Rattle.std.specs.List.{onto_first}
use Rattle.std.proofs.lemmas.List.Elements.{Contains-append_cases}
use Rattle.std.proofs.lemmas.List.{length-append}
use Rattle.std.specs.List.{position, position_or_len}
use Rattle.std.proofs.lemmas.List.{take-append-drop, drop_more, get_or-take, length-take, take_rest, get_or_default, drop_all}
use Rattle.std.proofs.lemmas.List.Quantifiers.{position-Some}
use Rattle.std.proofs.lemmas.List.Sums.{fails_before_first, sum_by-cons}
use Rattle.std.proofs.lemmas.Bool.{eqb-true, ltb-false}
use Rattle.resolve_check.proofs.Elements.{only_one}
use Rattle.resolvo_text.specs.Lines.{lines_of, newlines, is_newline}
use Rattle.resolvo_text.proofs.LineLemmas.{lines_of-line, lines_of-whole}
use Rattle.resolve_check.specs.Input.{parting, IsAbove, IsSplit, undivided, IsFirstLine}

-- a text that ends in a newline has a first line
has_line : (a : List ℕ) → (l : List ℕ) × (ls : List (List ℕ)) × (lines_of (a ++ 10 ∷ []) ≡ l ∷ ls)
has_line [] = ([], [], refl)
has_line (b ∷ a) = elim (eqb b 10) as (λ t. (l : List ℕ) × (ls : List (List ℕ)) × (cond t ([] ∷ lines_of (a ++ 10 ∷ [])) (onto_first b (lines_of (a ++ 10 ∷ []))) ≡ l ∷ ls)) [
  | true ↦ ([], lines_of (a ++ 10 ∷ []), refl)
  | false ↦ let h = has_line a in (b ∷ h.0, h.1, ap (λ (ls : List (List ℕ)). onto_first b ls) h.2)
]

onto_prefix : (b : ℕ) (ls more : List (List ℕ)) (l : List ℕ) (rest : List (List ℕ)) → ls ≡ l ∷ rest → onto_first b (ls ++ more) ≡ onto_first b ls ++ more
onto_prefix b ls more l rest is = rw is refl

-- the lines of whole lines and then more
ended_lines : (a more : List ℕ) → lines_of ((a ++ 10 ∷ []) ++ more) ≡ lines_of (a ++ 10 ∷ []) ++ lines_of more
ended_lines [] more = refl
ended_lines (b ∷ a) more = elim (eqb b 10) as (λ t. cond t ([] ∷ lines_of ((a ++ 10 ∷ []) ++ more)) (onto_first b (lines_of ((a ++ 10 ∷ []) ++ more))) ≡ cond t ([] ∷ lines_of (a ++ 10 ∷ [])) (onto_first b (lines_of (a ++ 10 ∷ []))) ++ lines_of more) [
  | true ↦ ap (λ (ls : List (List ℕ)). [] ∷ ls) (ended_lines a more)
  | false ↦ let h = has_line a in ap (λ (ls : List (List ℕ)). onto_first b ls) (ended_lines a more) ∙ onto_prefix b (lines_of (a ++ 10 ∷ [])) (lines_of more) h.0 h.1 h.2
]

lines_above : (text more : List ℕ) → IsAbove text → lines_of (text ++ more) ≡ lines_of text ++ lines_of more
lines_above text more above = ⊎_elim
    (λ none. rw none refl)
    (λ some. subst (λ (t : List ℕ). lines_of (t ++ more) ≡ lines_of t ++ lines_of more) (sym some.1) (ended_lines some.0 more))
    above.whole_lines

one_line : (line : List ℕ) → newlines line ≡ 0 → (line ≡ parting → ⊥) → Contains (lines_of (line ++ 10 ∷ [])) parting → ⊥
one_line line each other among = no_more line other (subst (λ (ls : List (List ℕ)). Contains ls parting) (lines_of-line line [] each) among)
  where
    no_more : (line : List ℕ) → (line ≡ parting → ⊥) → Contains (line ∷ []) parting → ⊥
    no_more line other h = other (only_one line parting h)

pub none_above : (text : List ℕ) → text ≡ [] → IsAbove text
none_above text is = record { whole_lines = inl is; not_parted = λ h. nothing (subst (λ (t : List ℕ). Contains (lines_of t) parting) is h) }
  where
    nothing : Contains {X = List ℕ} [] parting → ⊥
    nothing h = absurd (omega (arith, h.1))

pub one_more_above : (text line : List ℕ) → IsAbove text → newlines line ≡ 0 → (line ≡ parting → ⊥) → IsAbove (text ++ (line ++ 10 ∷ []))
one_more_above text line above each other = record {
  whole_lines = inr (text ++ line, sym (append_assoc text line (10 ∷ [])));
  not_parted = λ h. ⊎_elim above.not_parted (one_line line each other)
      (Contains-append_cases (lines_of text) (lines_of (line ++ 10 ∷ [])) parting (subst (λ (ls : List (List ℕ)). Contains ls parting) (lines_above text (line ++ 10 ∷ []) above) h));
}

-- ---- the first line

no_newline_among : (bytes : List ℕ) → All (λ b. is_newline b ≡ false) bytes → newlines bytes ≡ 0
no_newline_among [] each = refl
no_newline_among (b ∷ bs) each =
    sum_by-cons (λ x. cond (is_newline x) 1 0) b bs ∙ ap (λ (t : Bool). cond t 1 0 + newlines bs) (each 0 b (omega arith)) ∙ zero-add (newlines bs)
    ∙ no_newline_among bs (λ k d lt. each (suc k) d (omega (arith, lt)))

newline_before : (text : List ℕ) (end : ℕ) → ((k : ℕ) → k < end → is_newline (get_or text k 0) ≡ false) → end < length text → newlines (take end text) ≡ 0
newline_before text end none lt = no_newline_among (take end text) (λ k d under.
    let below : (k < end) × (k < length text) = (omega (arith, length-take end text), omega (arith, length-take end text)) in
    rw (get_or-take end text k d below.0, get_or_default text k d 0 below.1) (none k below.0))

pub ends_at : (text : List ℕ) (end : ℕ) → position is_newline text ≡ Some end → IsFirstLine text (take end text) (Some (take (length text - (end + 1)) (drop (end + 1) text)))
ends_at text end e =
    let at = position-Some is_newline text end 0 e in
    let is : get_or text end 0 ≡ 10 = eqb-true _ 10 at.1 in
    let next : drop end text ≡ get_or text end 0 ∷ drop (end + 1) text = drop_more text end 0 at.0 in
    let parts : text ≡ take end text ++ (get_or text end 0 ∷ drop (end + 1) text) = sym (take-append-drop end text) ∙ ap (λ (xs : List ℕ). take end text ++ xs) next in
    let whole : text ≡ take end text ++ 10 ∷ drop (end + 1) text = parts ∙ ap (λ (b : ℕ). take end text ++ b ∷ drop (end + 1) text) is in
    record { no_newline = newline_before text end at.2 at.0; text_is = whole ∙ ap (λ (xs : List ℕ). take end text ++ 10 ∷ xs) (sym (take_rest text (end + 1))) }

pub never_ends : (text : List ℕ) → position is_newline text ≡ None → IsFirstLine text text None
never_ends text e =
    let long : length text ≤ position_or_len is_newline text = ltb-false _ _ (none_from_test _ _ e) in
    record { no_newline = no_newline_among text (λ k d lt. fails_before_first is_newline text k d (omega arith)); text_is = refl }
  where
    none_from_test : (b : Bool) (n : ℕ) → cond b (Some n) None ≡ None → b ≡ false
    none_from_test true n e = absurd cc
    none_from_test false n e = refl

-- ---- parting the input

pub not_parted : (input above line none : List ℕ) → IsAbove above → input ≡ above ++ line → newlines line ≡ 0 → (line ≡ parting → ⊥) → none ≡ [] → IsSplit input input none
not_parted input above line none is_above whole each other nothing =
    undivided (λ h. ⊎_elim is_above.not_parted (last line each other) (Contains-append_cases (lines_of above) (lines_of line) parting (subst (λ (ls : List (List ℕ)). Contains ls parting) (ap lines_of whole ∙ lines_above above line is_above) h))) refl nothing
  where
    last : (line : List ℕ) → newlines line ≡ 0 → (line ≡ parting → ⊥) → Contains (lines_of line) parting → ⊥
    last [] each other h = absurd (omega (arith, h.1))
    last (b ∷ line) each other h = other (only_one (b ∷ line) parting (subst (λ (ls : List (List ℕ)). Contains ls parting) (lines_of-whole (b ∷ line) (omega arith) each) h))

pub moved : (input above rest line below : List ℕ) → input ≡ above ++ rest → rest ≡ line ++ 10 ∷ below → input ≡ (above ++ (line ++ 10 ∷ [])) ++ below
moved input above rest line below whole first =
    whole ∙ ap (λ (r : List ℕ). above ++ r) (first ∙ sym (append_assoc line (10 ∷ []) below)) ∙ sym (append_assoc above (line ++ 10 ∷ []) below)

pub longer : (above line : List ℕ) (start : ℕ) → length above ≡ start → length (above ++ (line ++ 10 ∷ [])) ≡ start + (length line + 1)
longer above line start long = omega (arith, length-append above (line ++ 10 ∷ []), length-append line (10 ∷ []))

pub nothing_left : (text : List ℕ) → take (length text - length text) (drop (length text) text) ≡ []
nothing_left text = take_rest text (length text) ∙ drop_all (length text) text (omega arith)
