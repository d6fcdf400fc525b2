-- How a pass goes on by one literal or one clause.
use Rattle.std.proofs.Common.{◌≡◌, ℕ, ◌+◌, ◌<◌, Bool, true, false, List, [], ◌∷◌, ◌++◌, length, take, drop, map, get_or, ◌-◌, Option, refl, sym, ap, ◌∙◌, cond, nat_eq}
use Rattle.std.specs.Prelude.{not, ◌&&◌, filter, ◌||◌}
use Rattle.std.specs.List.{list_all}
use Rattle.std.proofs.lemmas.List.{take_more, append-nil, drop_more, map-append}
use Rattle.std.proofs.lemmas.List.Folds.{list_all-append}
use Rattle.resolvo_pool_core.specs.OnePass.Rest.{last, more}
use Rattle.resolvo_pool_core.specs.OnePass as pass
use Rattle.resolvo_pool_core.specs.OnePass.{is_denied, is_broken, same_literal, rest_of, without_false, reading, refutes, learn}
use Rattle.resolvo_checker.specs.declared.literal.Literal.{Literal}
use Rattle.resolvo_checker.specs.Kept.{Kept, literals_at}
use Rattle.resolvo_checker.specs.Literals.{literal_of, literals_of, clause_at}
use Rattle.resolvo_checker.specs.Rup.{with_literal}

pub filter-append : {X : Type 0} (p : X → Bool) (xs ys : List X) → filter p (xs ++ ys) ≡ filter p xs ++ filter p ys
filter-append p [] ys = refl
filter-append p (x ∷ xs) ys = one (p x) (filter-append p xs ys) where
  one : (b : Bool) → filter p (xs ++ ys) ≡ filter p xs ++ filter p ys → cond b (x ∷ filter p (xs ++ ys)) (filter p (xs ++ ys)) ≡ cond b (x ∷ filter p xs) (filter p xs) ++ filter p ys
  one true h = ap (λ zs. x ∷ zs) h
  one false h = h

module _ {A : Type 0} (same : A → A → Bool) where
  rest_of-push : (ls : List (pass.Literal A)) (l : pass.Literal A) → rest_of same (ls ++ l ∷ []) ≡ with_literal same (rest_of same ls) l
  rest_of-push [] l = refl
  rest_of-push (m ∷ ls) l = ap (λ b. cond b (last m) more) (list_all-append (same_literal same m) ls (l ∷ [])) ∙ one (list_all (same_literal same m) ls) where
    two : (b : Bool) → cond (b && true) (last m) more ≡ cond b (last m) more
    two true = refl
    two false = refl

    one : (a : Bool) → cond (a && (same_literal same m l && true)) (last m) more ≡ with_literal same (cond a (last m) more) l
    one false = refl
    one true = two (same_literal same m l)

-- one more literal of a clause
pub reading-more : (known : ℕ → Option Bool) (ls : List Literal) (i : ℕ) (d : Literal) → i < length ls →
    reading nat_eq known (literals_of (take (i + 1) ls)) ≡ cond (is_denied (known (get_or ls i d).atom) (get_or ls i d).positive) (reading nat_eq known (literals_of (take i ls))) (with_literal nat_eq (reading nat_eq known (literals_of (take i ls))) (literal_of (get_or ls i d)))
reading-more known ls i d h =
    ap (λ x. reading nat_eq known (literals_of x)) (take_more ls i d h)
    ∙ (ap (reading nat_eq known) (map-append literal_of (take i ls) (get_or ls i d ∷ []))
    ∙ (ap (rest_of nat_eq) (filter-append (λ l. not (is_denied (known l.atom) l.positive)) (literals_of (take i ls)) (literal_of (get_or ls i d) ∷ []))
    ∙ one (literal_of (get_or ls i d)) (is_denied (known (get_or ls i d).atom) (get_or ls i d).positive))) where
      one : (l : pass.Literal ℕ) (b : Bool) → rest_of nat_eq (without_false known (literals_of (take i ls)) ++ cond (not b) (l ∷ []) []) ≡ cond b (reading nat_eq known (literals_of (take i ls))) (with_literal nat_eq (reading nat_eq known (literals_of (take i ls))) l)
      one l true = ap (rest_of nat_eq) (append-nil (without_false known (literals_of (take i ls))))
      one l false = rest_of-push nat_eq (without_false known (literals_of (take i ls))) l

pub read_kept : (known : ℕ → Option Bool) (ls : List Literal) (i : ℕ) (d : Literal) (rest : pass.Rest ℕ) → i < length ls → true ≡ is_denied (known (get_or ls i d).atom) (get_or ls i d).positive
    → rest ≡ reading nat_eq known (literals_of (take i ls)) → rest ≡ reading nat_eq known (literals_of (take (i + 1) ls))
read_kept known ls i d rest h denied e =
    e ∙ sym (reading-more known ls i d h ∙ ap (λ b. cond b (reading nat_eq known (literals_of (take i ls))) (with_literal nat_eq (reading nat_eq known (literals_of (take i ls))) (literal_of (get_or ls i d)))) (sym denied))

pub read_met : (known : ℕ → Option Bool) (ls : List Literal) (i : ℕ) (d : Literal) (rest met : pass.Rest ℕ) → i < length ls → false ≡ is_denied (known (get_or ls i d).atom) (get_or ls i d).positive
    → rest ≡ reading nat_eq known (literals_of (take i ls)) → met ≡ with_literal nat_eq rest (literal_of (get_or ls i d)) → met ≡ reading nat_eq known (literals_of (take (i + 1) ls))
read_met known ls i d rest met h denied e m =
    m ∙ (ap (λ r. with_literal nat_eq r (literal_of (get_or ls i d))) e
    ∙ sym (reading-more known ls i d h ∙ ap (λ b. cond b (reading nat_eq known (literals_of (take i ls))) (with_literal nat_eq (reading nat_eq known (literals_of (take i ls))) (literal_of (get_or ls i d)))) (sym denied)))

or_swap : (a b c : Bool) → ((a || b) || c) ≡ (a || (b || c))
or_swap true b c = refl
or_swap false b c = refl

-- one more clause of a pass
pub refutes-more : (clauses : List Kept) (causes : List ℕ) (i d : ℕ) (known : ℕ → Option Bool) (clause : List Literal) (refuted : Bool) → i < length causes → clause ≡ literals_at clauses (get_or causes i d - 1) →
    ((refuted || is_broken (reading nat_eq known (literals_of clause))) || refutes nat_eq (learn nat_eq known (reading nat_eq known (literals_of clause))) (map (clause_at clauses) (drop (i + 1) causes))) ≡ (refuted || refutes nat_eq known (map (clause_at clauses) (drop i causes)))
refutes-more clauses causes i d known clause refuted h g =
    or_swap refuted _ _
    ∙ (ap (λ c. refuted || (is_broken (reading nat_eq known (literals_of c)) || refutes nat_eq (learn nat_eq known (reading nat_eq known (literals_of c))) (map (clause_at clauses) (drop (i + 1) causes)))) g
    ∙ ap (λ ns. refuted || refutes nat_eq known (map (clause_at clauses) ns)) (sym (drop_more causes i d h)))
