-- Lists by the places that requirements have among them.
use Rattle.std.proofs.Common.{◌≡◌, ◌∙◌, inl, inr, ℕ, zero, suc, ◌<◌, true, false, List, [], ◌∷◌, ◌++◌, length, Option, Some, None, Result, Ok, Err, OnErr, is_some, option_map, refl, sym, ap, subst, arith}
use Rattle.std.specs.Prelude.{slice_get, IfSome, MatchOption}
use Rattle.std.specs.Borrow.{Bor}
use Rattle.std.proofs.lemmas.Bool.Decides.{eqb_tells}
use Rattle.std.proofs.lemmas.List.{length-append}
use Rattle.resolvo_pool_core.specs.Slots.{at, PutsSlot}
use Rattle.resolvo_pool_core.specs.ByRequirement.{slot_of, PutsAt}
use Rattle.resolvo_pool_core.specs.declared.requirement.Requirement.{Requirement}
use Rattle.resolvo_pool_core.specs.declared.requirement.Requirement.TheVariants.{Single, Union}
use Rattle.resolvo_store_core.specs.Lists.{list_or_none}
use Rattle.resolvo_store_core.specs.Places.{list_at, lists_at, ArePlaces}

get_kept : {X : Type 0} (xs more : List X) (n : ℕ) → n < length xs → slice_get (xs ++ more) n ≡ slice_get xs n
get_kept [] more n h = absurd (omega arith)
get_kept (x ∷ xs) more zero h = refl
get_kept (x ∷ xs) more (suc n) h = get_kept xs more n (omega arith)

get_new : {X : Type 0} (xs : List X) (x : X) → slice_get (xs ++ x ∷ []) (length xs) ≡ Some x
get_new [] x = refl
get_new (y ∷ xs) x = get_new xs x

-- the list of an index
listed : {X : Type 0} (lists : List (List X)) (places : List (Option ℕ)) (i : ℕ) → at (lists_at lists places) i ≡ list_at lists (at places i)
listed lists [] zero = refl
listed lists [] (suc i) = refl
listed lists (o ∷ places) zero = refl
listed lists (o ∷ places) (suc i) = listed lists places i

-- the list of a requirement
pub slot_listed : {X : Type 0} (lists : List (List X)) (places : List (Option ℕ) × List (Option ℕ)) (r : Requirement) → slot_of (lists_at lists places.0, lists_at lists places.1) r ≡ list_at lists (slot_of places r)
slot_listed lists places (Single v) = listed lists places.0 v.0
slot_listed lists places (Union u) = listed lists places.1 u.0

-- what a requirement without candidates, and one with some, has
pub candidates_none : {X : Type 0} (o : Option (Bor (List X))) (s : Option (List X)) → option_map (λ cs. cs.now) o ≡ s → MatchOption o (is_some s ≡ false) (λ cs. (is_some s ≡ true) × (cs.now ≡ list_or_none s))
candidates_none None None e = refl
candidates_none None (Some xs) e = absurd cc
candidates_none (Some b) None e = absurd cc
candidates_none (Some b) (Some xs) e = let same : b.now ≡ xs = cc in (refl, same)

-- where no requirement has a place
pub none_listed : {X : Type 0} (lists : List (List X)) (places : List (Option ℕ) × List (Option ℕ)) → ((r : Requirement) → slot_of places r ≡ None) → (r : Requirement) → slot_of (lists_at lists places.0, lists_at lists places.1) r ≡ None
none_listed lists places none r = slot_listed lists places r ∙ ap (list_at lists) (none r)

pub none_placed : {X : Type 0} (lists : List (List X)) (places : List (Option ℕ) × List (Option ℕ)) → ((r : Requirement) → slot_of places r ≡ None) → ArePlaces lists places
none_placed lists places none = λ r. subst (λ (o : Option ℕ). IfSome o (λ n. n < length lists)) (sym (none r)) tt

-- the place that a requirement has
pub place_within : {X : Type 0} (lists : List (List X)) (places : List (Option ℕ) × List (Option ℕ)) (r : Requirement) (n : ℕ) → ArePlaces lists places → Some n ≡ slot_of places r → n < length lists
place_within lists places r n are at = subst (λ (o : Option ℕ). IfSome o (λ n. n < length lists)) (sym at) (are r)

-- what holds anyway holds after a refusal
pub refused_too : {X E P : Type 0} (r : Result X E) → P → OnErr r P
refused_too (Ok x) p = tt
refused_too (Err e) p = p

-- ---- one list more

kept : {X : Type 0} (lists more : List (List X)) (o : Option ℕ) → IfSome o (λ n. n < length lists) → list_at (lists ++ more) o ≡ list_at lists o
kept lists more None h = refl
kept lists more (Some n) h = get_kept lists more n h

all_kept : {X : Type 0} (lists more : List (List X)) (places : List (Option ℕ)) → ((i : ℕ) → IfSome (at places i) (λ n. n < length lists)) → lists_at (lists ++ more) places ≡ lists_at lists places
all_kept lists more [] h = refl
all_kept {X} lists more (o ∷ places) h =
    ap (λ (x : Option (List X)). x ∷ lists_at (lists ++ more) places) (kept lists more o (h 0))
    ∙ ap (λ (xs : List (Option (List X))). list_at lists o ∷ xs) (all_kept lists more places (λ i. h (suc i)))

grown : {X : Type 0} (lists more : List (List X)) (o : Option ℕ) → IfSome o (λ n. n < length lists) → IfSome o (λ n. n < length (lists ++ more))
grown lists more None h = h
grown lists more (Some n) h = let all = length-append lists more in omega (arith, h, all)

module _ {X : Type 0} (lists : List (List X)) (list : List X) (old : List (Option ℕ) × List (Option ℕ)) (are : ArePlaces lists old) where
  -- where no place names it, the others are as before
  places_left : ArePlaces (lists ++ list ∷ []) old
  places_left = λ r. grown lists (list ∷ []) (slot_of old r) (are r)

  lists_left : lists_at (lists ++ list ∷ []) old.0 ≡ lists_at lists old.0
  lists_left = all_kept lists (list ∷ []) old.0 (λ i. are (Single (record { 0 = i })))

  unions_left : lists_at (lists ++ list ∷ []) old.1 ≡ lists_at lists old.1
  unions_left = all_kept lists (list ∷ []) old.1 (λ i. are (Union (record { 0 = i })))

  view_left : ◌≡◌ {A = List (Option (List X)) × List (Option (List X))} (lists_at (lists ++ list ∷ []) old.0, lists_at (lists ++ list ∷ []) old.1) (lists_at lists old.0, lists_at lists old.1)
  view_left =
      ap (λ (xs : List (Option (List X))). (xs, lists_at (lists ++ list ∷ []) old.1)) lists_left
      ∙ ap (λ (xs : List (Option (List X))). (lists_at lists old.0, xs)) unions_left

  -- where a place names it, that is the list there
  slot_puts : (xs ys : List (Option ℕ)) (i : ℕ) → ((j : ℕ) → IfSome (at xs j) (λ n. n < length lists)) → PutsSlot xs ys i (Some (length lists)) → PutsSlot (lists_at lists xs) (lists_at (lists ++ list ∷ []) ys) i (Some list)
  slot_puts xs ys i below puts = (
    listed (lists ++ list ∷ []) ys i ∙ (ap (list_at (lists ++ list ∷ [])) puts.0 ∙ get_new lists list),
    λ j apart. listed (lists ++ list ∷ []) ys j ∙ (ap (list_at (lists ++ list ∷ [])) (puts.1 j apart) ∙ (kept lists (list ∷ []) (at xs j) (below j) ∙ sym (listed lists xs j))),
  )

  list_puts : (new : List (Option ℕ) × List (Option ℕ)) (r : Requirement) → PutsAt old new r (length lists) → PutsAt (lists_at lists old.0, lists_at lists old.1) (lists_at (lists ++ list ∷ []) new.0, lists_at (lists ++ list ∷ []) new.1) r list
  list_puts new (Single v) puts = (slot_puts old.0 new.0 v.0 (λ i. are (Single (record { 0 = i }))) puts.0, ap (λ (xs : List (Option ℕ)). lists_at (lists ++ list ∷ []) xs) puts.1 ∙ unions_left)
  list_puts new (Union u) puts = (slot_puts old.1 new.1 u.0 (λ i. are (Union (record { 0 = i }))) puts.0, ap (λ (xs : List (Option ℕ)). lists_at (lists ++ list ∷ []) xs) puts.1 ∙ lists_left)

  slot_places : (xs ys : List (Option ℕ)) (i j : ℕ) → IfSome (at xs j) (λ n. n < length lists) → PutsSlot xs ys i (Some (length lists)) → IfSome (at ys j) (λ n. n < length (lists ++ list ∷ []))
  slot_places xs ys i j below puts = elim (eqb_tells j i) [
    | inl same ↦ (let more : length lists < length (lists ++ list ∷ []) = omega (arith, length-append lists (list ∷ [])) in subst (λ (o : Option ℕ). IfSome o (λ n. n < length (lists ++ list ∷ []))) (sym (ap (at ys) same.1 ∙ puts.0)) more)
    | inr apart ↦ subst (λ (o : Option ℕ). IfSome o (λ n. n < length (lists ++ list ∷ []))) (sym (puts.1 j apart.1)) (grown lists (list ∷ []) (at xs j) below)
  ]

  places_put : (new : List (Option ℕ) × List (Option ℕ)) (r : Requirement) → PutsAt old new r (length lists) → ArePlaces (lists ++ list ∷ []) new
  places_put new (Single v) puts (Single w) = slot_places old.0 new.0 v.0 w.0 (are (Single w)) puts.0
  places_put new (Single v) puts (Union w) = subst (λ (xs : List (Option ℕ)). IfSome (at xs w.0) (λ n. n < length (lists ++ list ∷ []))) (sym puts.1) (grown lists (list ∷ []) (at old.1 w.0) (are (Union w)))
  places_put new (Union u) puts (Single w) = subst (λ (xs : List (Option ℕ)). IfSome (at xs w.0) (λ n. n < length (lists ++ list ∷ []))) (sym puts.1) (grown lists (list ∷ []) (at old.0 w.0) (are (Single w)))
  places_put new (Union u) puts (Union w) = slot_places old.1 new.1 u.0 w.0 (are (Union w)) puts.0

module _ {X : Type 0} (lists grown : List (List X)) (list : List X) (old : List (Option ℕ) × List (Option ℕ)) (now : List (Option (List X)) × List (Option (List X))) (are : ArePlaces lists old) (put : grown ≡ lists ++ list ∷ [])
    (view : ◌≡◌ {A = List (Option (List X)) × List (Option (List X))} (lists_at lists old.0, lists_at lists old.1) now) where
  -- the place was refused
  module _ (new : List (Option ℕ) × List (Option ℕ)) (same : new ≡ old) where
    pub refused_places : ArePlaces grown new
    refused_places = subst (λ (ps : List (Option ℕ) × List (Option ℕ)). ArePlaces grown ps) (sym same) (subst (λ (ls : List (List X)). ArePlaces ls old) (sym put) (places_left lists list old are))

    pub refused_view : ◌≡◌ {A = List (Option (List X)) × List (Option (List X))} (lists_at grown new.0, lists_at grown new.1) now
    refused_view =
        subst (λ (ps : List (Option ℕ) × List (Option ℕ)). ◌≡◌ {A = List (Option (List X)) × List (Option (List X))} (lists_at grown ps.0, lists_at grown ps.1) now) (sym same)
        (subst (λ (ls : List (List X)). ◌≡◌ {A = List (Option (List X)) × List (Option (List X))} (lists_at ls old.0, lists_at ls old.1) now) (sym put) (view_left lists list old are ∙ view))

  module _ (new : List (Option ℕ) × List (Option ℕ)) (r : Requirement) (n : ℕ) (count : n ≡ length lists) (puts : PutsAt old new r n) where
    named_last : PutsAt old new r (length lists)
    named_last = subst (λ (k : ℕ). PutsAt old new r k) count puts

    pub set_places : ArePlaces grown new
    set_places = subst (λ (ls : List (List X)). ArePlaces ls new) (sym put) (places_put lists list old are new r named_last)

    pub set_puts : PutsAt now (lists_at grown new.0, lists_at grown new.1) r list
    set_puts =
        subst (λ (ls : List (List X)). PutsAt now (lists_at ls new.0, lists_at ls new.1) r list) (sym put)
        (subst (λ (m : List (Option (List X)) × List (Option (List X))). PutsAt m (lists_at (lists ++ list ∷ []) new.0, lists_at (lists ++ list ∷ []) new.1) r list) view
        (list_puts lists list old are new r named_last))
