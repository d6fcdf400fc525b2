-- Texts put together of their words and pieces.
use Rattle.std.proofs.Common.{◌≡◌, ℕ, List, [], ◌∷◌, ◌++◌, map, refl, sym, ap, ◌∙◌, append_assoc, append-nil, codes}
use Rattle.std.specs.List.{flat_map, join_with_byte}
use Rattle.std.specs.Fmt.{decimal}
use Rattle.std.proofs.lemmas.Grind.{flat_map-append}
use Rattle.resolvo_text.specs.declared.spec.Spec as code
use Rattle.resolvo_text.specs.Line.{Spec}
use Rattle.resolvo_text.specs.Spelling.{Words, spec_words, span_words, alternatives_words}
use Rattle.resolvo_text.specs.View.{spec_of, specs_of}
use Rattle.resolvo_report.specs.declared.step.Literal as code_literal
use Rattle.resolvo_report.specs.Text.{clause_text, literal_text}
use Rattle.resolvo_report.specs.View.{literal_of, literals_of}
use Rattle.resolvo_report.specs.Pieces.{spaced, with_bars, parted, causes_text}

-- the first word, and each other behind a space
pub join_spaced : (w : List ℕ) (ws : Words) → join_with_byte 32 (w ∷ ws) ≡ w ++ spaced ws
join_spaced w [] = sym (append-nil w)
join_spaced w (x ∷ ws) = ap (λ (t : List ℕ). w ++ 32 ∷ t) (join_spaced x ws)

pub spaced-append : (xs ys : Words) → spaced (xs ++ ys) ≡ spaced xs ++ spaced ys
spaced-append [] ys = refl
spaced-append (x ∷ xs) ys = ap (λ (t : List ℕ). 32 ∷ (x ++ t)) (spaced-append xs ys) ∙ ap (λ (t : List ℕ). 32 ∷ t) (sym (append_assoc x (spaced xs) (spaced ys)))

spaced_spec : (s : Spec) → spaced (spec_words s) ≡ 32 ∷ join_with_byte 32 (spec_words s)
spaced_spec s = ap (λ (t : List ℕ). 32 ∷ t) (sym (join_spaced s.name (span_words s.span)))

pub alternatives_spaced : (s : code.Spec) (ss : List code.Spec) → spaced (alternatives_words (specs_of (s ∷ ss))) ≡ 32 ∷ join_with_byte 32 (spec_words (spec_of s)) ++ with_bars ss
alternatives_spaced s [] = spaced_spec (spec_of s) ∙ sym (append-nil (32 ∷ join_with_byte 32 (spec_words (spec_of s))))
alternatives_spaced s (t ∷ ss) =
    let others : List ℕ = spaced (alternatives_words (specs_of (t ∷ ss))) in
    let first : List ℕ = 32 ∷ join_with_byte 32 (spec_words (spec_of s)) in
    let parts : spaced (alternatives_words (specs_of (s ∷ t ∷ ss))) ≡ spaced (spec_words (spec_of s)) ++ (codes " |" ++ others) = spaced-append (spec_words (spec_of s)) (codes "|" ∷ alternatives_words (specs_of (t ∷ ss))) in
    let begins : spaced (spec_words (spec_of s)) ++ (codes " |" ++ others) ≡ first ++ (codes " |" ++ others) = ap (λ (x : List ℕ). x ++ (codes " |" ++ others)) (spaced_spec (spec_of s)) in
    let ends : first ++ (codes " |" ++ others) ≡ first ++ (codes " |" ++ (32 ∷ join_with_byte 32 (spec_words (spec_of t)) ++ with_bars ss)) = ap (λ (x : List ℕ). first ++ (codes " |" ++ x)) (alternatives_spaced t ss) in
    parts ∙ begins ∙ ends

spaced_causes : (ns : List ℕ) → spaced (map decimal ns) ≡ causes_text ns
spaced_causes [] = refl
spaced_causes (n ∷ ns) = ap (λ (t : List ℕ). 32 ∷ (decimal n ++ t)) (spaced_causes ns)

pub causes_joined : (k : List ℕ) (ns : List ℕ) → join_with_byte 32 (k ∷ map decimal ns) ≡ k ++ causes_text ns
causes_joined k ns = join_spaced k (map decimal ns) ∙ ap (λ (t : List ℕ). k ++ t) (spaced_causes ns)

mapped : (ls : List code_literal.Literal) → flat_map (λ m. codes "; " ++ literal_text m) (literals_of ls) ≡ parted ls
mapped [] = refl
mapped (l ∷ ls) = ap (λ (t : List ℕ). (codes "; " ++ literal_text (literal_of l)) ++ t) (mapped ls)

pub clause_parted : (l : code_literal.Literal) (ls : List code_literal.Literal) → clause_text (literals_of (l ∷ ls)) ≡ codes "[" ++ literal_text (literal_of l) ++ parted ls ++ codes "]"
clause_parted l ls = ap (λ (t : List ℕ). codes "[" ++ literal_text (literal_of l) ++ t ++ codes "]") (mapped ls)

-- one more literal
pub parted_push : (ls : List code_literal.Literal) (l : code_literal.Literal) → parted ls ++ (codes "; " ++ literal_text (literal_of l)) ≡ parted (ls ++ l ∷ [])
parted_push ls l = sym (flat_map-append (λ m. codes "; " ++ literal_text (literal_of m)) ls (l ∷ []) ∙ ap (λ (t : List ℕ). parted ls ++ t) (append-nil (codes "; " ++ literal_text (literal_of l))))

-- one more alternative
pub bars_push : (ss : List code.Spec) (s : code.Spec) → with_bars ss ++ (codes " | " ++ join_with_byte 32 (spec_words (spec_of s))) ≡ with_bars (ss ++ s ∷ [])
bars_push ss s = sym (flat_map-append (λ t. codes " | " ++ join_with_byte 32 (spec_words (spec_of t))) ss (s ∷ []) ∙ ap (λ (t : List ℕ). with_bars ss ++ t) (append-nil (codes " | " ++ join_with_byte 32 (spec_words (spec_of s)))))
