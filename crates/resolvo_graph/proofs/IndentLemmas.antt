-- The signs of levels: those above, then the last one's own. Stretches hold levels in a row.
use Rattle.std.proofs.Common.{◌≡◌, ℕ, zero, suc, ◌+◌, ◌*◌, ◌/◌, ◌%◌, ◌≤◌, false, List, [], ◌∷◌, ◌++◌, length, refl, sym, ap, ◌∙◌, arith, append_assoc, length-append}
use Rattle.std.specs.Prelude.{◌==◌, replicate}
use Rattle.std.proofs.lemmas.List.{append-nil, replicate_more, replicate-append-replicate, length-replicate}
use Rattle.std.proofs.Math.Nat.{div-add-mod}
use Rattle.std.proofs.lemmas.Bool.Decides.{nat_tests}
use Rattle.std.proofs.lemmas.List.Concat.{flat_map-append}
use Rattle.std.specs.List.{flat_map}
use Rattle.resolvo_graph.specs.declared.indenter.ChildOrder.{ChildOrder}
use Rattle.resolvo_graph.specs.declared.indenter.Stretch.{Stretch}
use Rattle.resolvo_graph.specs.Indent.{own_sign, sign_above, levels_in, signs}

-- the levels before any others are above the line
signs-append : (os : List ChildOrder) (o : ChildOrder) (rest : List ChildOrder) → signs (os ++ o ∷ rest) ≡ flat_map sign_above os ++ signs (o ∷ rest)
signs-append [] o rest = refl
signs-append (p ∷ []) o rest = ap (λ xs. xs ++ signs (o ∷ rest)) (sym (append-nil (sign_above p)))
signs-append (p ∷ q ∷ os) o rest = ap (λ xs. sign_above p ++ xs) (signs-append (q ∷ os) o rest) ∙ sym (append_assoc (sign_above p) (flat_map sign_above (q ∷ os)) (signs (o ∷ rest)))

-- levels of one sign, the last of which is the line's own
pub signs_same : (n : ℕ) (o : ChildOrder) → flat_map sign_above (replicate n o) ++ own_sign o ≡ signs (o ∷ replicate n o)
signs_same zero o = refl
signs_same (suc n) o = append_assoc (sign_above o) (flat_map sign_above (replicate n o)) (own_sign o) ∙ ap (λ xs. sign_above o ++ xs) (signs_same n o)

signs_within : (ss : List Stretch) → flat_map sign_above (flat_map levels_in ss) ≡ flat_map (λ s. flat_map sign_above (levels_in s)) ss
signs_within [] = refl
signs_within (s ∷ ss) = flat_map-append sign_above (levels_in s) (flat_map levels_in ss) ∙ ap (λ xs. flat_map sign_above (levels_in s) ++ xs) (signs_within ss)

levels-last : (ss : List Stretch) (s : Stretch) → flat_map levels_in (ss ++ s ∷ []) ≡ flat_map levels_in ss ++ levels_in s
levels-last ss s = flat_map-append levels_in ss (s ∷ []) ∙ ap (λ xs. flat_map levels_in ss ++ xs) (append-nil (levels_in s))

-- stretches above the line, and the last one
pub signs_of_stretches : (ss : List Stretch) (s : Stretch) → signs (flat_map levels_in (ss ++ s ∷ [])) ≡ flat_map (λ t. flat_map sign_above (levels_in t)) ss ++ signs (levels_in s)
signs_of_stretches ss s = ap signs (levels-last ss s) ∙ signs-append (flat_map levels_in ss) s.order (replicate s.more s.order) ∙ ap (λ xs. xs ++ signs (levels_in s)) (signs_within ss)

-- one sign more of a level above
pub one_sign_more : (n : ℕ) (o : ChildOrder) → flat_map sign_above (replicate n o) ++ sign_above o ≡ flat_map sign_above (replicate (n + 1) o)
one_sign_more n o =
    ap (λ xs. flat_map sign_above (replicate n o) ++ xs) (sym (append-nil (sign_above o))) ∙ sym (flat_map-append sign_above (replicate n o) (o ∷ []))
    ∙ ap (flat_map sign_above) (replicate_more n o)

-- sixteen signs more
pub sixteen_more : (n : ℕ) (o : ChildOrder) → flat_map sign_above (replicate (16 * n) o) ++ flat_map sign_above (replicate 16 o) ≡ flat_map sign_above (replicate (16 * (n + 1)) o)
sixteen_more n o =
    let more : 16 * n + 16 ≡ 16 * (n + 1) = omega arith in
    sym (flat_map-append sign_above (replicate (16 * n) o) (replicate 16 o)) ∙ ap (flat_map sign_above) (replicate-append-replicate (16 * n) 16 o ∙ ap (λ (k : ℕ). replicate k o) more)

-- levels by sixteens, and the rest
pub by_sixteens : (n : ℕ) (o : ChildOrder) → flat_map sign_above (replicate (16 * (n / 16)) o) ++ flat_map sign_above (replicate (n % 16) o) ≡ flat_map sign_above (replicate n o)
by_sixteens n o =
    sym (flat_map-append sign_above (replicate (16 * (n / 16)) o) (replicate (n % 16) o))
    ∙ ap (flat_map sign_above) (replicate-append-replicate (16 * (n / 16)) (n % 16) o ∙ ap (λ (k : ℕ). replicate k o) (div-add-mod n 16))

-- a stretch of most levels has the signs of so many levels
pub full : (s : Stretch) → s.more ≡ 255 → flat_map sign_above (replicate 256 s.order) ≡ flat_map sign_above (levels_in s)
full s h = ap (λ n. flat_map sign_above (s.order ∷ replicate n s.order)) (sym h)

not_one : (n : ℕ) → false ≡ (suc (suc n) == 1)
not_one n = grind (arith, nat_tests)

-- two stretches or more have more than one level
pub more_levels : (ss : List Stretch) → 2 ≤ length ss → false ≡ (length (flat_map levels_in ss) == 1)
more_levels [] h = absurd (omega arith)
more_levels (s ∷ []) h = absurd (omega arith)
more_levels (s ∷ t ∷ ss) h =
    let after = levels_in t ++ flat_map levels_in ss in
    let far : length (replicate s.more s.order ++ after) ≡ suc (s.more + length (replicate t.more t.order ++ flat_map levels_in ss)) = length-append (replicate s.more s.order) after ∙ ap (λ n. n + length after) (length-replicate s.more s.order) ∙ omega arith in
    not_one (s.more + length (replicate t.more t.order ++ flat_map levels_in ss)) ∙ ap (λ n. suc n == 1) (sym far)

not_none : (n : ℕ) → (suc n == 0) ≡ false
not_none n = grind (arith, nat_tests)

-- the first level is alone if there is no stretch
pub alone : (o : ChildOrder) (ss : List Stretch) → (length ss == 0) ≡ (length (o ∷ flat_map levels_in ss) == 1)
alone o [] = refl
alone o (s ∷ ss) = not_none (length ss) ∙ not_one (length (replicate s.more s.order ++ flat_map levels_in ss))
