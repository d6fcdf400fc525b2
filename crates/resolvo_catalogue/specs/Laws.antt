-- The laws of a provider hold of one over a catalogue.
use Rattle.std.proofs.Common.{◌≡◌, ◌==◌, ◌&&◌, ◌+◌, ℕ, suc, Bool, true, false, List, [], ◌∷◌, ◌++◌, map, Option, Some, None, refl, ap, subst, ◌∙◌, arith}
use Rattle.std.specs.Prelude.{⊤, All, slice_get, option_map, option_to_list, nat_lt, cond, if◌then◌else◌}
use Rattle.std.specs.List.{find, flat_map}
use Rattle.std.specs.Option.{option_map_or}
use Rattle.std.proofs.lemmas.List.Elements.{All-cons, All-nil}
use Rattle.std.proofs.lemmas.Bool.{and_parts, eqb-true}
use Rattle.std.proofs.lemmas.Bool.Decides.{Decides-ltb}
use Rattle.std.proofs.lemmas.Option.{get_or_from_slice_get}
use Rattle.resolvo_pool_core.specs.declared.id.StringId.{StringId}
use Rattle.resolvo_pool_core.specs.declared.id.ConditionId.{ConditionId}
use Rattle.resolvo_intern.specs.declared.pool.Solvable.{Solvable}
use Rattle.resolvo_pool_core.specs.declared.condition.Condition.{Condition}
use Rattle.resolvo_pool_core.specs.declared.condition.Condition.TheVariants.{Binary, Requirement}
use Rattle.resolvo_pool_core.specs.Provider.{OperandsBelow, IsOf, AreOf}
use Rattle.resolvo_catalogue.specs.Ids.{Ids, SolvableId, solvable_id, solvables_of}
use Rattle.resolvo_catalogue_core.specs.Kept.{places_from}
use Rattle.resolvo_terms.specs.Terms.{NameId}
use Rattle.resolvo_catalogue.specs.Known.{name_of, solvable_at, condition_at}
use Rattle.resolvo_terms.specs.Known.{name_id, sound}
use Rattle.resolvo_catalogue.specs.Sorted.{placed, sorted_by}
use Rattle.resolvo_catalogue.specs.Provider.{Provider, candidates_of, listing_if_any, marks_at, line_of_exclusion}

-- ---- conditions

if_below : (c : ConditionId) (q : Condition) (t : Bool) → (t ≡ true → OperandsBelow q c) → OperandsBelow (if t then q else Requirement (record { 0 = 0 })) c
if_below c q true h = h refl
if_below c q false h = tt

pub operands_below : (ids : Ids) (c : ConditionId) → OperandsBelow (condition_at ids c) c
operands_below ids c = go (slice_get ids.conditions c.0)
  where
    go : (o : Option Condition) → OperandsBelow (option_map_or (sound c) o (Requirement (record { 0 = 0 }))) c
    go None = tt
    go (Some (Requirement v)) = tt
    go (Some (Binary op a b)) = if_below c (Binary op a b) (nat_lt a.0 c.0 && nat_lt b.0 c.0) (λ e.
        let parts = and_parts (nat_lt a.0 c.0) (nat_lt b.0 c.0) e in
        ((Decides-ltb a.0 c.0).0 parts.0, (Decides-ltb b.0 c.0).0 parts.1))

-- ---- candidates

abbrev Each : {X : Type 0} → (X → Type 0) → List X → Type 0
Each P [] = ⊤
Each P (x ∷ xs) = P x × Each P xs

each_place : {X : Type 0} (test : X → Bool) (P : ℕ → Type 0) (at : ℕ) (xs : List X) → ((i : ℕ) (x : X) → slice_get xs i ≡ Some x → test x ≡ true → P (at + i)) → Each (λ s. P s.raw) (map solvable_id (places_from test at xs))
each_place test P at [] h = tt
each_place {X} test P at (x ∷ xs) h = go (test x) refl (each_place test P (suc at) xs (λ i y e t. subst P (let e : at + suc i ≡ suc at + i = omega arith in e) (h (suc i) y e t)))
  where
    go : (b : Bool) → test x ≡ b → Each (λ s. P s.raw) (map solvable_id (places_from test (suc at) xs)) → Each (λ s. P s.raw) (map solvable_id (if b then at ∷ places_from test (suc at) xs else places_from test (suc at) xs))
    go true e rest = (subst P (let e : at + 0 ≡ at = omega arith in e) (h 0 x refl e), rest)
    go false e rest = rest

each_all : {X : Type 0} (P : X → Type 0) (xs : List X) → Each P xs → All P xs
each_all P [] h = All-nil P
each_all P (x ∷ xs) h = All-cons P x xs h.0 (each_all P xs h.1)

each_find : {N S : Type 0} (name : S → N) (n : N) (test : S → Bool) (xs : List S) → Each (λ s. name s ≡ n) xs → IsOf name n (find test xs)
each_find name n test [] h = tt
each_find name n test (x ∷ xs) h = go (test x) (each_find name n test xs h.1)
  where
    go : (b : Bool) → IsOf name n (find test xs) → IsOf name n (if b then Some x else find test xs)
    go true rest = h.0
    go false rest = rest

each_pair : {S : Type 0} (P : S → Type 0) (reason : S → Option StringId) (xs : List S) → Each P xs → Each (λ (e : S × StringId). P e.0) (flat_map (λ s. option_to_list (option_map (λ w. (s, w)) (reason s))) xs)
each_pair P reason [] h = tt
each_pair {S} P reason (x ∷ xs) h = go (reason x) (each_pair P reason xs h.1)
  where
    go : (o : Option StringId) → Each (λ (e : S × StringId). P e.0) (flat_map (λ s. option_to_list (option_map (λ w. (s, w)) (reason s))) xs)
        → Each (λ (e : S × StringId). P e.0) (option_to_list (option_map (λ w. let pair : S × StringId = (x, w) in pair) o) ++ flat_map (λ s. option_to_list (option_map (λ w. (s, w)) (reason s))) xs)
    go None rest = rest
    go (Some w) rest = (h.0, rest)

each_placed : {X : Type 0} (P : X → Type 0) (age : X → ℕ) (x : X) (ys : List X) → P x → Each P ys → Each P (placed age x ys)
each_placed P age x [] h hs = (h, tt)
each_placed {X} P age x (y ∷ ys) h hs = go (nat_lt (age y) (age x)) (each_placed P age x ys h hs.1)
  where
    go : (b : Bool) → Each P (placed age x ys) → Each P (cond b (y ∷ placed age x ys) (x ∷ y ∷ ys))
    go true rest = (hs.0, rest)
    go false rest = (h, hs)

each_sorted : {X : Type 0} (P : X → Type 0) (age : X → ℕ) (xs : List X) → Each P xs → Each P (sorted_by age xs)
each_sorted P age [] hs = tt
each_sorted P age (x ∷ xs) hs = each_placed P age x (sorted_by age xs) hs.0 (each_sorted P age xs hs.1)

solvables_named : (ids : Ids) (n : NameId) → Each (λ s. name_of ids s ≡ n) (solvables_of ids n.raw)
solvables_named ids n = each_place (λ x. x.name.raw == n.raw) (λ k. name_of ids (solvable_id k) ≡ n) 0 ids.solvables (λ i x e t.
    let at : solvable_at ids (solvable_id (0 + i)) ≡ x = ap (λ (k : ℕ). solvable_at ids (solvable_id k)) (let e : 0 + i ≡ i = omega arith in e) ∙ get_or_from_slice_get ids.solvables i x _ e in
    ap (λ (s : Solvable ℕ). s.name) at ∙ ap name_id (eqb-true x.name.raw n.raw t))

pub candidates_named : (p : Provider) (n : NameId) → AreOf (name_of p.ids) n (candidates_of p n)
candidates_named p n = go (solvables_of p.ids n.raw) (solvables_named p.ids n)
  where
    go : (ss : List SolvableId) → Each (λ s. name_of p.ids s ≡ n) ss → AreOf (name_of p.ids) n (listing_if_any p ss)
    go [] h = tt
    go (s ∷ ss) h = record {
      candidates = each_all (λ t. name_of p.ids t ≡ n) (s ∷ ss) h;
      locked = each_find (name_of p.ids) n (λ t. (marks_at p t).locked) (s ∷ ss) h;
      excluded = each_all (λ e. name_of p.ids e.0 ≡ n) _ (each_sorted (λ e. name_of p.ids e.0 ≡ n) (line_of_exclusion p) _ (each_pair (λ t. name_of p.ids t ≡ n) (λ t. (marks_at p t).excluded) (s ∷ ss) h));
    }
