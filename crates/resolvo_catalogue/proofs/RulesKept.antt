-- A set of solvables keeps the provider's rules exactly if the same versions keep the lines.
use Rattle.std.proofs.Common.{◌≡◌, inl, inr, ℕ, zero, suc, ◌<◌, Bool, true, false, List, [], ◌∷◌, take, Option, Some, None, refl, sym, ap, subst, ◌∙◌, arith}
use Rattle.std.specs.Prelude.{◌&&◌, ◌||◌, not, Contains, slice_get, bytes_eq, option_map, option_to_list}
use Rattle.std.specs.List.{list_any, find, flat_map}
use Rattle.std.proofs.lemmas.Bool.{cases_Bool, false≢true, cases_lt}
use Rattle.resolvo_text.specs.Line.{Version, Spec, Cond, Line, Listed, Needs, Limits, Unknown, Lock, Exclude}
use Rattle.resolvo_text.specs.Matches as lines
use Rattle.resolvo_text.specs.Matches.{Set, same_version}
use Rattle.resolvo_catalogue_core.specs.Grammar.{line_at, owner_of, AreCatalogueLines}
use Rattle.resolvo_catalogue_core.specs.Listed.{listed}
use Rattle.resolvo_catalogue_core.proofs.TableLemmas.{listed_has}
use Rattle.resolvo_catalogue_core.proofs.TableSteps.{same_version_is}
use Rattle.resolvo_terms.proofs.Places.{at_from_contains, contains_from_at, no_element, first_element, later_element, element_cases}
use Rattle.resolvo_pool_core.specs.declared.id.StringId.{StringId}
use Rattle.resolvo_pool_core.specs.declared.id.VersionSetId.{VersionSetId}
use Rattle.resolvo_pool_core.specs.declared.requirement.ConditionalRequirement.{ConditionalRequirement}
use Rattle.resolvo_pool_core.specs.Provider as pool
use Rattle.resolvo_pool_core.specs.RuleKeeping.{rules_of, is_unknown, locks_out}
use Rattle.resolvo_catalogue.specs.Ids.{Ids, SolvableId}
use Rattle.resolvo_catalogue.specs.Dependencies.{VersionDependencies, IsReason}
use Rattle.resolvo_catalogue.specs.Marked.{IsExclusion}
use Rattle.resolvo_catalogue.specs.Provider.{Provider, listing_if_any, listing_of, exclusion_of, line_of_exclusion, exclusions_of, needs_of}
use Rattle.resolvo_catalogue.proofs.MarkLemmas.{one_some}
use Rattle.resolvo_catalogue.proofs.PassLemmas.{any_from, any_to}
use Rattle.resolvo_catalogue.proofs.Elements.{flat_from, flat_to}
use Rattle.resolvo_catalogue.proofs.SortLemmas.{sorted_from, sorted_to}

-- ---- obeyed lines, as implications

pub bound : (a b c : Bool) → (not a || not b || c) ≡ true → a ≡ true → b ≡ true → c ≡ true
bound true true c h e f = h
bound true false c h e f = absurd (false≢true f)
bound false b c h e f = absurd (false≢true e)

pub binding : (a b c : Bool) → (a ≡ true → b ≡ true → c ≡ true) → (not a || not b || c) ≡ true
binding true true c h = h refl refl
binding true false c h = refl
binding false b c h = refl

pub bound_by : (a c : Bool) → (not a || c) ≡ true → a ≡ true → c ≡ true
bound_by true c h e = h
bound_by false c h e = absurd (false≢true e)

pub binding_by : (a c : Bool) → (a ≡ true → c ≡ true) → (not a || c) ≡ true
binding_by true c h = h refl
binding_by false c h = refl

pub not_true : (a : Bool) → (a ≡ true → ⊥) → not a ≡ true
not_true true h = absurd (h refl)
not_true false h = refl

pub not_false : (a : Bool) → (a ≡ true → ⊥) → a ≡ false
not_false true h = absurd (h refl)
not_false false h = refl

pub is_not : (a : Bool) → not a ≡ true → a ≡ true → ⊥
is_not true h e = false≢true h
is_not false h e = false≢true e

pub member_from : (v : Version) (set : Set) → lines.is_member v set ≡ true → Contains set v
member_from v set h = let f = any_from (same_version v) set h in subst (λ (w : Version). Contains set w) (sym ((same_version_is v f.0).0 f.2)) f.1

pub member_to : (v : Version) (set : Set) → Contains set v → lines.is_member v set ≡ true
member_to v set h = any_to (same_version v) set v h ((same_version_is v v).1 refl)

-- a member that matches an alternative
pub met_member : (ss : List Spec) (set : Set) → lines.is_met_by_one ss set ≡ true → (v : Version) × Contains set v × (list_any (λ s. lines.matches s v) ss ≡ true)
met_member ss set h =
    let s = any_from (λ s. lines.is_met s set) ss h in
    let v = any_from (lines.matches s.0) set s.2 in
    (v.0, v.1, any_to (λ t. lines.matches t v.0) ss s.0 s.1 v.2)

pub member_met : (ss : List Spec) (set : Set) (v : Version) → Contains set v → list_any (λ s. lines.matches s v) ss ≡ true → lines.is_met_by_one ss set ≡ true
member_met ss set v c h =
    let s = any_from (λ t. lines.matches t v) ss h in
    any_to (λ t. lines.is_met t set) ss s.0 s.1 (any_to (lines.matches s.0) set v c s.2)

-- a version that is of the SPEC's package matches, or is none of it
pub within_from : (s : Spec) (v : Version) → (not (bytes_eq v.name s.name) || lines.matches s v) ≡ true → (bytes_eq v.name s.name && not (lines.matches s v)) ≡ false
within_from s v h = go (bytes_eq v.name s.name) (lines.matches s v) h
  where
    go : (a b : Bool) → (not a || b) ≡ true → (a && not b) ≡ false
    go true true h = refl
    go true false h = absurd (false≢true h)
    go false b h = refl

pub within_to : (s : Spec) (v : Version) → (bytes_eq v.name s.name && not (lines.matches s v)) ≡ false → (not (bytes_eq v.name s.name) || lines.matches s v) ≡ true
within_to s v h = go (bytes_eq v.name s.name) (lines.matches s v) h
  where
    go : (a b : Bool) → (a && not b) ≡ false → (not a || b) ≡ true
    go true true h = refl
    go true false h = absurd (false≢true (sym h))
    go false b h = refl

-- ---- first elements that pass

pub found_in : {X : Type 0} (q : X → Bool) (xs : List X) (x : X) → find q xs ≡ Some x → Contains xs x × (q x ≡ true)
found_in q [] x h = absurd cc
found_in q (y ∷ xs) x h = elim (cases_Bool (q y)) [
  | inl e ↦ let same : y ≡ x = one_some (rw e at h) in (subst (λ z. Contains (y ∷ xs) z) same (first_element y xs), subst (λ z. q z ≡ true) same e)
  | inr e ↦ let f = found_in q xs x (rw e at h) in (later_element y xs x f.0, f.1)
]

pub find_some : {X : Type 0} (q : X → Bool) (xs : List X) (x : X) → Contains xs x → q x ≡ true → (y : X) × (find q xs ≡ Some y)
find_some q [] x c h = absurd (no_element x c)
find_some q (y ∷ xs) x c h = elim (cases_Bool (q y)) [
  | inl e ↦ (y, rw e refl)
  | inr e ↦ elim (element_cases y xs x c) [
    | inl same ↦ absurd (false≢true (sym e ∙ ap q same ∙ h))
    | inr more ↦ let f = find_some q xs x more h in (f.0, rw e f.1)
  ]
]

-- ---- one lock a package

pub below_take : {X : Type 0} (xs : List X) (i j : ℕ) (x : X) → i < j → slice_get xs i ≡ Some x → slice_get (take j xs) i ≡ Some x
below_take [] i j x h e = absurd cc
below_take (y ∷ xs) i zero x h e = absurd (omega arith)
below_take (y ∷ xs) zero (suc j) x h e = e
below_take (y ∷ xs) (suc i) (suc j) x h e = below_take xs i j x (omega arith) e

pub taken : {X : Type 0} (xs : List X) (j i : ℕ) (x : X) → slice_get (take j xs) i ≡ Some x → slice_get xs i ≡ Some x
taken [] zero i x e = absurd cc
taken [] (suc j) i x e = absurd cc
taken (y ∷ xs) zero zero x e = absurd cc
taken (y ∷ xs) zero (suc i) x e = absurd cc
taken (y ∷ xs) (suc j) zero x e = e
taken (y ∷ xs) (suc j) (suc i) x e = taken xs j i x e

pub in_front : {X : Type 0} (j : ℕ) (xs : List X) (x : X) → Contains (take j xs) x → Contains xs x
in_front j xs x h = let at = at_from_contains (take j xs) x h in contains_from_at xs x at.0 (taken xs j at.0 x at.1)

module _ (catalogue : List Line) (grammatical : AreCatalogueLines catalogue) where
  pub later_lock : (i j : ℕ) (v w : Version) → i < j → slice_get catalogue i ≡ Some (Lock v) → slice_get catalogue j ≡ Some (Lock w) → v.name ≡ w.name → ⊥
  later_lock i j v w before a b same =
      let place = (grammatical j (Lock w) b).1.place in
      let above : slice_get (take j catalogue) i ≡ Some (Lock v) = below_take catalogue i j _ before a in
      place.1 v.number (contains_from_at (take j catalogue) _ i (above ∙ ap (λ (n : List ℕ). let u : Version = record { name = n; number = v.number } in Some (Lock u)) same))

  pub one_lock : (v w : Version) → Contains catalogue (Lock v) → Contains catalogue (Lock w) → v.name ≡ w.name → v ≡ w
  one_lock v w c d same =
      let a = at_from_contains catalogue (Lock v) c in
      let b = at_from_contains catalogue (Lock w) d in
      elim (cases_lt a.0 b.0) [
        | inl before ↦ absurd (later_lock a.0 b.0 v w before a.1 b.1 same)
        | inr past ↦ elim (cases_lt b.0 a.0) [
          | inl after ↦ absurd (later_lock b.0 a.0 w v after b.1 a.1 (sym same))
          | inr both ↦ let is : a.0 ≡ b.0 = omega (arith, past, both) in let e : Some (Lock v) ≡ Some (Lock w) = sym a.1 ∙ ap (λ (k : ℕ). slice_get catalogue k) is ∙ b.1 in cc
        ]
      ]

  pub owner_there : (n : ℕ) (ss : List Spec) (c : Option Cond) → line_at catalogue n ≡ Some (Needs ss c) → (v : Version) × (owner_of catalogue n ≡ Some v)
  owner_there zero ss c e = absurd cc
  owner_there (suc n) ss c e = (grammatical n (Needs ss c) e).1.place

  pub owner_there_limit : (n : ℕ) (s : Spec) → line_at catalogue n ≡ Some (Limits s) → (v : Version) × (owner_of catalogue n ≡ Some v)
  owner_there_limit zero s e = absurd cc
  owner_there_limit (suc n) s e = (grammatical n (Limits s) e).1.place

  pub owner_there_unknown : (n : ℕ) (reason : List ℕ) → line_at catalogue n ≡ Some (Unknown reason) → (v : Version) × (owner_of catalogue n ≡ Some v)
  owner_there_unknown zero reason e = absurd cc
  owner_there_unknown (suc n) reason e = let place = (grammatical n (Unknown reason) e).1.place in (place.0, place.1)

  pub lock_listed : (n : ℕ) (v : Version) → line_at catalogue n ≡ Some (Lock v) → (k : ℕ) × (slice_get (listed catalogue) k ≡ Some v)
  lock_listed zero v e = absurd cc
  lock_listed (suc n) v e = listed_has catalogue v (in_front n catalogue (Listed v) (grammatical n (Lock v) e).1.place.0)

-- ---- the provider gives the dependencies of a version's lines

pub req_from : (t : VersionDependencies) (o : Option StringId) (need : ConditionalRequirement) → Contains (rules_of (needs_of t o)).requirements need → Contains t.requirements need
req_from t None need h = h
req_from t (Some w) need h = absurd (no_element need h)

pub con_from : (t : VersionDependencies) (o : Option StringId) (w : VersionSetId) → Contains (rules_of (needs_of t o)).constraints w → Contains t.constrains w
con_from t None w h = h
con_from t (Some why) w h = absurd (no_element w h)

pub req_to : (t : VersionDependencies) (o : Option StringId) (need : ConditionalRequirement) → is_unknown (needs_of t o) ≡ false → Contains t.requirements need → Contains (rules_of (needs_of t o)).requirements need
req_to t None need e h = h
req_to t (Some w) need e h = absurd (false≢true (sym e))

pub con_to : (t : VersionDependencies) (o : Option StringId) (w : VersionSetId) → is_unknown (needs_of t o) ≡ false → Contains t.constrains w → Contains (rules_of (needs_of t o)).constraints w
con_to t None w e h = h
con_to t (Some why) w e h = absurd (false≢true (sym e))

pub unknown_from : (ids : Ids) (t : VersionDependencies) (o : Option StringId) (reasons : List (List ℕ)) → IsReason ids o reasons → is_unknown (needs_of t o) ≡ true → (reason : List ℕ) × Contains reasons reason
unknown_from ids t None reasons h e = absurd (false≢true e)
unknown_from ids t (Some w) reasons h e = (h.0, h.1)

pub unknown_to : (ids : Ids) (t : VersionDependencies) (o : Option StringId) (reasons : List (List ℕ)) (reason : List ℕ) → IsReason ids o reasons → Contains reasons reason → is_unknown (needs_of t o) ≡ true
unknown_to ids t None reasons reason h c = absurd (no_element reason (subst (λ (xs : List (List ℕ)). Contains xs reason) h c))
unknown_to ids t (Some w) reasons reason h c = refl

pub listing_is : (p : Provider) (ss : List SolvableId) (s : SolvableId) → Contains ss s → pool.listing_or_empty (listing_if_any p ss) ≡ listing_of p ss
listing_is p [] s h = absurd (no_element s h)
listing_is p (t ∷ ss) s h = refl

pub locked_by : (same : SolvableId → SolvableId → Bool) (o : Option SolvableId) (s : SolvableId) → locks_out same o s ≡ true → (l : SolvableId) × (o ≡ Some l) × (same l s ≡ true → ⊥)
locked_by same None s h = absurd (false≢true h)
locked_by same (Some l) s h = (l, refl, is_not (same l s) h)

pub excluded_by : (s : SolvableId) (o : Option StringId) (e : SolvableId × StringId) → Contains (option_to_list (option_map (λ w. let pair : SolvableId × StringId = (s, w) in pair) o)) e → (o ≡ Some e.1) × (s ≡ e.0)
excluded_by s None e h = absurd (no_element e h)
excluded_by s (Some w) e h = elim (element_cases (s, w) [] e h) [
  | inl same ↦ (ap (λ (x : SolvableId × StringId). Some x.1) same, ap (λ (x : SolvableId × StringId). x.0) same)
  | inr more ↦ absurd (no_element e more)
]

-- an exclusion in the order of the lines is one of a solvable
pub exclusion_from : (p : Provider) (ss : List SolvableId) (e : SolvableId × StringId) → Contains (exclusions_of p ss) e → (s : SolvableId) × Contains ss s × Contains (exclusion_of p s) e
exclusion_from p ss e h = flat_from (exclusion_of p) ss e (sorted_from (line_of_exclusion p) (flat_map (exclusion_of p) ss) e h)

pub exclusion_to : (p : Provider) (ss : List SolvableId) (s : SolvableId) (e : SolvableId × StringId) → Contains ss s → Contains (exclusion_of p s) e → Contains (exclusions_of p ss) e
exclusion_to p ss s e there h = sorted_to (line_of_exclusion p) (flat_map (exclusion_of p) ss) e (flat_to (exclusion_of p) ss s e there h)

pub exclusion_word : (ids : Ids) (ls : List Line) (v : Version) (o : Option StringId) (w : StringId) → IsExclusion ids ls v o → o ≡ Some w → (word : List ℕ) × Contains ls (Exclude v word)
exclusion_word ids ls v None w h e = absurd cc
exclusion_word ids ls v (Some u) w h e = (h.0, h.1)

pub exclusion_there : (ids : Ids) (ls : List Line) (v : Version) (o : Option StringId) (word : List ℕ) → IsExclusion ids ls v o → Contains ls (Exclude v word) → (w : StringId) × (o ≡ Some w)
exclusion_there ids ls v None word h c = absurd (h word c)
exclusion_there ids ls v (Some w) word h c = (w, refl)
