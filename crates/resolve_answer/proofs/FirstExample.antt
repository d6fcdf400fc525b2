-- The first choices by example: of a package with versions 1 and 2 the request for one gets version 2.
use Rattle.std.proofs.Common.{◌≡◌, inr, inl, ℕ, zero, suc, ◌≤◌, List, [], ◌∷◌, Option, Some, None, refl, sym, ap, subst, ◌∙◌, arith}
use Rattle.std.specs.Prelude.{◌↔◌, Contains, slice_get, IsTrue}
use Rattle.resolvo_text.specs.Line.{Version, Spec, Line, Listed, Needs, Favour}
use Rattle.resolvo_text.specs.Matches.{Set}
use Rattle.resolvo_text.specs.declared.spec.Span.TheVariants.{Any}
use Rattle.resolvo_catalogue_core.specs.Grammar.{line_at}
use Rattle.resolvo_catalogue_core.specs.Rules.{keeps, keeps_in_request}
use Rattle.resolvo_terms.proofs.Places.{at_from_contains, contains_from_at}
use Rattle.resolve_answer.specs.First.{IsFirstMatch, IsFirstMatchOf, IsLineOf, IsNeeded, IsFirstChoices, AreFirstChosen}

abbrev a : ℕ → Version
a n = record { name = 97 ∷ []; number = n }

abbrev any_a : Spec
any_a = record { name = 97 ∷ []; span = Any }

-- version a 1, version a 2
abbrev catalogue : List Line
catalogue = Listed (a 1) ∷ Listed (a 2) ∷ []

-- needs a
abbrev request : List Line
request = Needs (any_a ∷ []) None ∷ []

only : {X : Type 0} (x y : X) → Contains (x ∷ []) y → y ≡ x
only {X} x y c = let at = at_from_contains (x ∷ []) y c in go at.0 at.1
  where
    go : (k : ℕ) → slice_get (x ∷ []) k ≡ Some y → y ≡ x
    go zero e = cc
    go (suc k) e = absurd cc

-- each line of the catalogue lists a version, 2 at most
lists : (k : ℕ) (line : Line) → slice_get catalogue k ≡ Some line → (v : Version) × (line ≡ Listed v) × (v.number ≤ 2)
lists zero line e = (a 1, cc, omega arith)
lists (suc zero) line e = (a 2, cc, omega arith)
lists (suc (suc k)) line e = absurd cc

newest : (w : Version) → Contains catalogue (Listed w) → w.number ≤ 2
newest w c =
    let at = at_from_contains catalogue (Listed w) c in
    let l = lists at.0 (Listed w) at.1 in
    let is : w ≡ l.0 = cc (l.1) in
    let number : w.number ≡ l.0.number = ap (λ (v : Version). v.number) is in
    omega (arith, l.2)

unfavoured : (w : Version) → Contains catalogue (Favour w) → ⊥
unfavoured w c =
    let at = at_from_contains catalogue (Favour w) c in
    let l = lists at.0 (Favour w) at.1 in
    absurd (cc (l.1))

first : IsFirstMatch catalogue any_a (a 2)
first = ((contains_from_at catalogue (Listed (a 2)) 1 refl, refl), inr (record { unfavoured = λ w m f. unfavoured w f; newest = λ w m. newest w m.0 }))

-- the request's line is needed, and no other
needed : (set : Set) (alternatives : List Spec) → IsNeeded catalogue request set alternatives → alternatives ≡ any_a ∷ []
needed set alternatives need = go need.owner need.line
  where
    go : (owner : Option Version) → IsLineOf catalogue request owner (Needs alternatives need.condition) → alternatives ≡ any_a ∷ []
    go None c = let e = only (Needs (any_a ∷ []) None) (Needs alternatives need.condition) c in cc (e)
    go (Some v) c = none c.0 c.1
      where
        none : (n : ℕ) → line_at catalogue n ≡ Some (Needs alternatives need.condition) → alternatives ≡ any_a ∷ []
        none zero e = absurd cc
        none (suc k) e = let l = lists k (Needs alternatives need.condition) e in absurd (cc (l.1))

needs_one : (set : Set) → IsNeeded catalogue request set (any_a ∷ [])
needs_one set = record { owner = None; condition = None; line = contains_from_at request (Needs (any_a ∷ []) None) 0 refl; member = refl; holds = refl }

-- the only first match
first_is : (v : Version) → IsFirstMatch catalogue any_a v → v ≡ a 2
first_is v (m, inl f) = absurd (unfavoured v f)
first_is v (m, inr n) =
    let at = at_from_contains catalogue (Listed v) m.0 in
    let low : 2 ≤ v.number = n.newest (a 2) first.0 in
    go at.0 at.1 low
  where
    go : (k : ℕ) → slice_get catalogue k ≡ Some (Listed v) → 2 ≤ v.number → v ≡ a 2
    go zero e low =
        let is : a 1 ≡ v = cc (e) in
        let number : 1 ≡ v.number = ap (λ (x : Version). x.number) is in
        absurd (omega (arith, low, number))
    go (suc zero) e low = cc (e)
    go (suc (suc k)) e low = absurd (cc (e))

keeps_all : (n : ℕ) → IsTrue (keeps catalogue n (a 2 ∷ []))
keeps_all zero = refl
keeps_all (suc zero) = refl
keeps_all (suc (suc zero)) = refl
keeps_all (suc (suc (suc k))) = refl

asks_all : (n : ℕ) → IsTrue (keeps_in_request request n (a 2 ∷ []))
asks_all zero = refl
asks_all (suc zero) = refl
asks_all (suc (suc k)) = refl

pub newest_is_first : IsFirstChoices catalogue request (a 2 ∷ [])
newest_is_first = record {
  unmarked = λ name. refl;
  holds = λ alternatives v need m. held alternatives v (needed (a 2 ∷ []) alternatives need) m;
  least = λ set h v c. subst (λ (x : Version). Contains set x) (sym (only (a 2) v c)) (h (any_a ∷ []) (a 2) (needs_one set) (inl first));
  keeping = record {
    single = record {
      listed = λ v c. subst (λ (x : Version). Contains catalogue (Listed x)) (sym (only (a 2) v c)) first.0.0;
      one_each = λ v w c d e unmarked. only (a 2) v c ∙ sym (only (a 2) w d);
    };
    catalogue_lines = keeps_all;
    request_lines = asks_all;
  };
  alone = λ alternatives need. (any_a, needed (a 2 ∷ []) alternatives need);
}
  where
    held : (alternatives : List Spec) (v : Version) → alternatives ≡ any_a ∷ [] → IsFirstMatchOf catalogue alternatives v → Contains (a 2 ∷ []) v
    held alternatives v e m = of_one (subst (λ (ss : List Spec). IsFirstMatchOf catalogue ss v) e m)
      where
        of_one : IsFirstMatchOf catalogue (any_a ∷ []) v → Contains (a 2 ∷ []) v
        of_one (inl f) = subst (λ (x : Version). Contains (a 2 ∷ []) x) (sym (first_is v f)) (contains_from_at (a 2 ∷ []) (a 2) 0 refl)
        of_one (inr more) = absurd more.1

-- so entries that are first chosen are this version alone
pub newest_is_chosen : (entries : Set) → AreFirstChosen catalogue request entries → (v : Version) → Contains entries v ↔ Contains (a 2 ∷ []) v
newest_is_chosen entries chosen v = chosen.first (a 2 ∷ []) newest_is_first v
