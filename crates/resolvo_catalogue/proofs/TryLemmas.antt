-- The candidates of a SPEC are tried in one order: the favoured match first, then newest first.
use Rattle.std.proofs.Common.{◌≡◌, ◌⊎◌, inl, inr, ℕ, suc, ◌-◌, ◌<◌, ◌≤◌, ◌==◌, ◌^◌, ltb, Bool, true, false, cond, List, [], ◌∷◌, ◌++◌, map, Option, Some, None, refl, sym, ap, subst, ◌∙◌, arith}
use Rattle.std.specs.Prelude.{⊤, All, Contains, slice_get, filter}
use Rattle.std.specs.List.{list_any, flat_map, AllByRecursion, IsDistinct}
use Rattle.std.specs.List.Sorted.{IsPermutation}
use Rattle.std.specs.Set.{remove_key}
use Rattle.std.proofs.lemmas.Bool.{and_parts, both_ways, cases_Bool, eqb-true, ltb-true, ltb-false}
use Rattle.std.proofs.lemmas.List.Elements.{Contains-append_cases, Contains-append_right}
use Rattle.std.proofs.lemmas.List.Sorted.{Contains-permutation, IsPermutation-sym}
use Rattle.std.proofs.lemmas.Map.Keys.{IsDistinct-IsPermutation}
use Rattle.resolvo_text.specs.Line.{Version, Spec, Line, Listed}
use Rattle.resolvo_text.specs.Matches as texts
use Rattle.resolvo_catalogue_core.specs.Listed.{listed}
use Rattle.resolvo_terms.proofs.Places.{at_from_contains, each_left, no_element, first_element, later_element, element_cases}
use Rattle.resolvo_catalogue_core.proofs.TableLemmas.{listed_from}
use Rattle.resolvo_pool_core.specs.declared.id.VersionSetId.{VersionSetId}
use Rattle.resolvo_intern.specs.declared.pool.Solvable.{Solvable}
use Rattle.resolvo_pool_core.specs.Provider.{favoured_first, tried_first, IsTriedFor}
use Rattle.resolvo_terms.specs.Terms.{NameId}
use Rattle.resolvo_catalogue_core.specs.Kept.{places_from}
use Rattle.resolvo_catalogue.specs.Ids.{SolvableId, solvable_id, solvables_of, IsSolvable, IsSpec}
use Rattle.resolvo_catalogue.specs.Known.{solvable_at, set_at}
use Rattle.resolvo_catalogue.specs.Provider.{Provider, candidates_of, matches, age_of, IsSorted}
use Rattle.resolvo_catalogue.specs.KeptSets.{DistinguishesIds}
use Rattle.resolvo_catalogue.specs.Over.{IsOver}
use Rattle.resolvo_catalogue.specs.CandidateOrder.{matching, IsOrder, order_of}
use Rattle.resolvo_catalogue.specs.Sorted.{sorted_by}
use Rattle.resolvo_catalogue.proofs.SortLemmas.{filter_from, same_tail, Rises, rises, falls, sorted_permutes, sorted_rises}
use Rattle.resolvo_catalogue.proofs.Alike.{member_place, listed_is, at_version, admits}
use Rattle.resolvo_catalogue.proofs.MarkLemmas.{one_some}
use Rattle.resolvo_catalogue.proofs.PassLemmas.{any_from, same_bool}

-- ---- parts of lists

remove_from : {X : Type 0} (t : X → Bool) (xs : List X) (x : X) → Contains (remove_key t xs) x → Contains xs x
remove_from t [] x h = h
remove_from t (y ∷ ys) x h = go (t y) h (remove_from t ys x)
  where
    go : (b : Bool) → Contains (cond b ys (y ∷ remove_key t ys)) x → (Contains (remove_key t ys) x → Contains ys x) → Contains (y ∷ ys) x
    go true c rest = later_element y ys x c
    go false c rest = elim (element_cases y (remove_key t ys) x c) [
      | inl is ↦ subst (λ z. Contains (y ∷ ys) z) is (first_element y ys)
      | inr m ↦ later_element y ys x (rest m)
    ]

every : {X : Type 0} (P : X → Type 0) (xs : List X) (x : X) → AllByRecursion P xs → Contains xs x → P x
every P [] x h c = absurd (no_element x c)
every P (y ∷ ys) x h c = elim (element_cases y ys x c) [ inl is ↦ subst P is h.0 | inr m ↦ every P ys x h.1 m ]

of_every : {X : Type 0} (P : X → Type 0) (xs : List X) → ((x : X) → Contains xs x → P x) → AllByRecursion P xs
of_every P [] h = tt
of_every P (y ∷ ys) h = (h y (first_element y ys), of_every P ys (λ x c. h x (later_element y ys x c)))

-- ---- lists in order

rises_remove : {X : Type 0} (age : X → ℕ) (t : X → Bool) (xs : List X) → Rises age xs → Rises age (remove_key t xs)
rises_remove age t [] h = tt
rises_remove age t (y ∷ ys) h = go (t y) (rises_remove age t ys h.1)
  where
    go : (b : Bool) → Rises age (remove_key t ys) → Rises age (cond b ys (y ∷ remove_key t ys))
    go true rest = h.1
    go false rest = (λ z c. h.0 z (remove_from t ys z c), rest)

rises_split : {X : Type 0} (age : X → ℕ) (before after : List X) (s f : X) → Rises age (before ++ s ∷ after) → Contains after f → age s ≤ age f
rises_split age [] after s f h c = h.0 f c
rises_split age (b ∷ before) after s f h c = rises_split age before after s f h.1 c

-- the elements after the first place where one of two is
behind : {X : Type 0} (before after : List X) (s f : X) → (s ≡ f → ⊥) → (Contains before f → ⊥) → Contains (before ++ s ∷ after) f → Contains after f
behind before after s f differs unless c = elim (Contains-append_cases before (s ∷ after) f c) [
  | inl m ↦ absurd (unless m)
  | inr m ↦ elim (element_cases s after f m) [ inl is ↦ absurd (differs is) | inr n ↦ n ]
]

-- With a favoured one first, each one before another is that one, or no greater than it.
sooner : {X : Type 0} (same : X → X → Bool) (age : X → ℕ) (favoured : Option X) (ys list before after : List X) (s f : X) → Rises age ys → list ≡ favoured_first same favoured ys
    → list ≡ before ++ s ∷ after → (s ≡ f → ⊥) → (Contains before f → ⊥) → Contains list f → (favoured ≡ Some s) ⊎ (age s ≤ age f)
sooner {X} same age favoured ys list before after s f up is splits differs unless c = go favoured refl is
  where
    last : Contains after f
    last = behind before after s f differs unless (subst (λ xs. Contains xs f) splits c)

    plain : list ≡ ys → (favoured ≡ Some s) ⊎ (age s ≤ age f)
    plain e = inr (rises_split age before after s f (subst (λ xs. Rises age xs) (sym e ∙ splits) up) last)

    first_is : (g : X) → favoured ≡ Some g → (before : List X) → g ∷ remove_key (λ x. same x g) ys ≡ before ++ s ∷ after → (favoured ≡ Some s) ⊎ (age s ≤ age f)
    first_is g one [] e = inl (one ∙ ap (λ x. Some x) (same_tail g s (remove_key (λ x. same x g) ys) after e).0)
    first_is g one (b ∷ bs) e = inr (rises_split age bs after s f (subst (λ xs. Rises age xs) (same_tail g b (remove_key (λ x. same x g) ys) (bs ++ s ∷ after) e).1 (rises_remove age (λ x. same x g) ys up)) last)

    go : (o : Option X) → favoured ≡ o → list ≡ favoured_first same o ys → (favoured ≡ Some s) ⊎ (age s ≤ age f)
    go None one e = plain e
    go (Some g) one e = with_one g one (list_any (λ x. same x g) ys) e
      where
        with_one : (g : X) → favoured ≡ Some g → (b : Bool) → list ≡ cond b (g ∷ remove_key (λ x. same x g) ys) ys → (favoured ≡ Some s) ⊎ (age s ≤ age f)
        with_one g one true e = first_is g one before (sym e ∙ splits)
        with_one g one false e = plain e

-- no element is in it twice
abbrev Once : {X : Type 0} → List X → Type 0
Once [] = ⊤
Once (x ∷ xs) = (Contains xs x → ⊥) × Once xs

-- Two lists in order with the same elements, of which no two are as old, are one.
one_rising : {X : Type 0} (age : X → ℕ) (xs ys : List X) → ((x y : X) → Contains xs x → Contains xs y → age x ≡ age y → x ≡ y) → ((x : X) → Contains xs x → Contains ys x) → ((x : X) → Contains ys x → Contains xs x)
    → Once xs → Once ys → Rises age xs → Rises age ys → xs ≡ ys
one_rising age [] [] own to from a b up down = refl
one_rising age [] (y ∷ ys) own to from a b up down = absurd (no_element y (from y (first_element y ys)))
one_rising age (x ∷ xs) [] own to from a b up down = absurd (no_element x (to x (first_element x xs)))
one_rising {X} age (x ∷ xs) (y ∷ ys) own to from a b up down = ap (λ z. z ∷ xs) first ∙ ap (λ zs. y ∷ zs)
    (one_rising age xs ys (λ z w c d. own z w (later_element x xs z c) (later_element x xs w d))
    (λ z c. elim (element_cases y ys z (to z (later_element x xs z c))) [ inl e ↦ absurd (a.0 (subst (λ w. Contains xs w) (sym e ∙ sym first) c)) | inr m ↦ m ])
    (λ z c. elim (element_cases x xs z (from z (later_element y ys z c))) [ inl e ↦ absurd (b.0 (subst (λ w. Contains ys w) (sym e ∙ first) c)) | inr m ↦ m ])
    a.1 b.1 up.1 down.1)
  where
    there : Contains (x ∷ xs) y
    there = from y (first_element y ys)

    first : x ≡ y
    first = elim (element_cases y ys x (to x (first_element x xs))) [
      | inl e ↦ sym e
      | inr m ↦ elim (element_cases x xs y there) [
        | inl e ↦ e
        | inr n ↦
            let low : age y ≤ age x = down.0 x m in
            let high : age x ≤ age y = up.0 y n in
            let level : age x ≡ age y = omega arith in
            own x y (first_element x xs) there level
      ]
    ]

once_filter : {X : Type 0} (t : X → Bool) (xs : List X) → Once xs → Once (filter t xs)
once_filter t [] h = tt
once_filter t (y ∷ ys) h = go (t y) (once_filter t ys h.1)
  where
    go : (b : Bool) → Once (filter t ys) → Once (cond b (y ∷ filter t ys) (filter t ys))
    go true rest = (λ c. h.0 (filter_from t ys y c).0, rest)
    go false rest = rest

-- the order that there is
pub order_is : (p : Provider) (same : SolvableId → SolvableId → Bool) (w : VersionSetId) → IsOrder p same w (order_of p same w)
order_is p same w = (sorted_by (age_of p) (matching p w), record { permutation = sorted_permutes (age_of p) (matching p w); newest_first = falls (age_of p) _ (sorted_rises (age_of p) (matching p w)) }, refl)

-- the places of a list are different
places_later : {X : Type 0} (t : X → Bool) (at : ℕ) (xs : List X) (s : SolvableId) → Contains (map solvable_id (places_from t at xs)) s → at ≤ s.raw
places_later t at xs s c = let m = member_place t at xs s c in omega (arith, m.2)

places_once : {X : Type 0} (t : X → Bool) (at : ℕ) (xs : List X) → Once (map solvable_id (places_from t at xs))
places_once t at [] = tt
places_once t at (x ∷ xs) = go (t x) (places_once t (suc at) xs)
  where
    go : (b : Bool) → Once (map solvable_id (places_from t (suc at) xs)) → Once (map solvable_id (cond b (at ∷ places_from t (suc at) xs) (places_from t (suc at) xs)))
    go true rest = (λ c. (let later : suc at ≤ at = places_later t (suc at) xs (solvable_id at) c in omega arith), rest)
    go false rest = rest

module _ (same : SolvableId → SolvableId → Bool) (apart : DistinguishesIds same) where
  flips : (s t : SolvableId) → same s t ≡ same t s
  flips s t = same_bool (same s t) (same t s) (λ e. (apart t s).1 (sym ((apart s t).0 e))) (λ e. (apart s t).1 (sym ((apart t s).0 e)))

  differ : (s t : SolvableId) → (s ≡ t → ⊥) → same s t ≡ false
  differ s t other = go (same s t) refl
    where
      go : (b : Bool) → same s t ≡ b → b ≡ false
      go true e = absurd (other ((apart s t).0 e))
      go false e = refl

  distinct_once : (xs : List SolvableId) → Once xs → IsDistinct same xs
  unfolding IsDistinct
  distinct_once [] h = tt
  distinct_once (x ∷ xs) h = (of_every (λ y. same x y ≡ false) xs (λ y c. differ x y (λ e. h.0 (subst (λ z. Contains xs z) (sym e) c))), distinct_once xs h.1)

  once_distinct : (xs : List SolvableId) → IsDistinct same xs → Once xs
  unfolding IsDistinct
  once_distinct [] h = tt
  once_distinct (x ∷ xs) h = (λ c. both_ways (same x x) (every (λ y. same x y ≡ false) xs x h.0 c) ((apart x x).1 refl), once_distinct xs h.1)

  once_permuted : (xs ys : List SolvableId) → IsPermutation xs ys → Once xs → Once ys
  once_permuted xs ys moved h = once_distinct ys (IsDistinct-IsPermutation same flips xs ys moved (distinct_once xs h))

  favoured_or_later : (favoured : Option SolvableId) (ys : List SolvableId) (s : SolvableId) → Contains (favoured_first same favoured ys) s → Contains ys s
  favoured_or_later None ys s c = c
  favoured_or_later (Some g) ys s c = go (list_any (λ x. same x g) ys) refl c
    where
      go : (b : Bool) → list_any (λ x. same x g) ys ≡ b → Contains (cond b (g ∷ remove_key (λ x. same x g) ys) ys) s → Contains ys s
      go true e d = elim (element_cases g (remove_key (λ x. same x g) ys) s d) [
        | inl is ↦ let (x, there, one) = any_from (λ x. same x g) ys e in subst (λ y. Contains ys y) ((apart x g).0 one ∙ is) there
        | inr m ↦ remove_from (λ x. same x g) ys s m
      ]
      go false e d = d

  module _ (lines : List Line) (p : Provider) (over : IsOver lines p) (w : VersionSetId) where
    -- each match is a listed version
    match_listed : (s : SolvableId) → Contains (matching p w) s → (v : Version) × (slice_get (listed lines) s.raw ≡ Some v) × (matches p w s ≡ true)
    match_listed s c =
        let (there, is) = filter_from (matches p w) _ s c in
        let m = member_place (λ (x : Solvable ℕ). x.name.raw == (set_at p.ids w).0.raw) 0 p.ids.solvables s (subst (λ (xs : List SolvableId). Contains xs s) (listed_is p (solvables_of p.ids (set_at p.ids w).0.raw)) there) in
        let v = each_left (IsSolvable p.ids) p.ids.solvables (listed lines) over.versions m.0 m.1 m.3 in
        (v.0, subst (λ k. slice_get (listed lines) k ≡ Some v.0) (let e : m.0 ≡ s.raw = omega (arith, m.2) in e) v.1, is)

    -- its number fits
    number_fits : (v : Version) (k : ℕ) → slice_get (listed lines) k ≡ Some v → v.number ≤ 4294967295
    number_fits v k e =
        let at = at_from_contains lines (Listed v) (listed_from lines v k e) in
        let small : v.number < 2 ^ 32 = (over.grammatical at.0 (Listed v) at.1).1.parsed.form.number in
        omega arith

    -- matches of one number are one
    one_number : (s t : SolvableId) (x y : Version) → Contains (matching p w) s → Contains (matching p w) t → slice_get (listed lines) s.raw ≡ Some x → slice_get (listed lines) t.raw ≡ Some y → x.number ≡ y.number → s ≡ t
    one_number s t x y c d e f number =
        let a = at_version p (listed lines) over.versions over.once same apart s x e in
        let b = at_version p (listed lines) over.versions over.once same apart t y f in
        let own = eqb-true _ _ (and_parts _ _ (match_listed s c).2).0 in
        let other = eqb-true _ _ (and_parts _ _ (match_listed t d).2).0 in
        let of_one : a.0.name.raw ≡ b.0.name.raw = ap (λ (n : NameId). n.raw) (sym a.5) ∙ own ∙ sym other ∙ ap (λ (n : NameId). n.raw) b.5 in
        let name : x.name ≡ y.name = one_some (sym a.4 ∙ ap (λ k. slice_get p.ids.names k) of_one ∙ b.4) in
        let one : x ≡ y = λ i. record { name = name i; number = number i } in
        ap solvable_id (over.distinct y s.raw t.raw (subst (λ v. slice_get (listed lines) s.raw ≡ Some v) one e) f)

    -- each tried candidate is a match
    order_match : (list : List SolvableId) (s : SolvableId) → IsOrder p same w list → Contains list s → Contains (matching p w) s
    order_match list s (ys, sorted, is) c =
        Contains-permutation ys (matching p w) s (IsPermutation-sym (matching p w) ys sorted.permutation) (favoured_or_later (tried_first (λ v. (set_at p.ids v).0) (candidates_of p) w) ys s (subst (λ xs. Contains xs s) is c))

    number_at : (s : SolvableId) (x : Version) → slice_get (listed lines) s.raw ≡ Some x → (solvable_at p.ids s).version ≡ x.number
    number_at s x e = let a = at_version p (listed lines) over.versions over.once same apart s x e in ap (λ (z : Solvable ℕ). z.version) a.2 ∙ a.3

    -- a match that is no newer than another has no greater number
    age_number : (s t : SolvableId) (x y : Version) → slice_get (listed lines) s.raw ≡ Some x → slice_get (listed lines) t.raw ≡ Some y → age_of p s ≤ age_of p t → y.number ≤ x.number
    age_number s t x y e f low =
        let a : (solvable_at p.ids s).version ≡ x.number = number_at s x e in
        let b : (solvable_at p.ids t).version ≡ y.number = number_at t y f in
        let c : x.number ≤ 4294967295 = number_fits x s.raw e in
        let d : y.number ≤ 4294967295 = number_fits y t.raw f in
        let h : 4294967295 - (solvable_at p.ids s).version ≤ 4294967295 - (solvable_at p.ids t).version = low in
        omega arith

    -- each tried solvable is a listed version that the SPEC matches
    pub tried_match : (spec : Spec) (list : List SolvableId) (s : SolvableId) → IsSpec p.ids w spec → IsOrder p same w list → Contains list s → (v : Version) × (slice_get (listed lines) s.raw ≡ Some v) × (texts.matches spec v ≡ true)
    tried_match spec list s is order c =
        let (v, at, match) = match_listed s (order_match list s order c) in
        (v, at, sym (admits p (listed lines) over.versions over.once same apart w spec s v is at) ∙ match)

    -- A candidate that is tried before another match is the favoured one, or newer.
    pub tried_sooner : (list before after : List SolvableId) (s f : SolvableId) (x y : Version) → IsOrder p same w list → list ≡ before ++ s ∷ after → (s ≡ f → ⊥) → (Contains before f → ⊥) → Contains list f
        → slice_get (listed lines) s.raw ≡ Some x → slice_get (listed lines) f.raw ≡ Some y → (tried_first (λ v. (set_at p.ids v).0) (candidates_of p) w ≡ Some s) ⊎ (y.number < x.number)
    tried_sooner list before after s f x y order splits differs unless c e g = elim (sooner same (age_of p) (tried_first (λ v. (set_at p.ids v).0) (candidates_of p) w) order.0 list before after s f (rises (age_of p) order.0 order.1.newest_first) order.2 splits differs unless c) [
      | inl one ↦ inl one
      | inr low ↦ elim (cases_Bool (ltb y.number x.number)) [
        | inl newer ↦ inr (ltb-true y.number x.number newer)
        | inr older ↦
            let a : y.number ≤ x.number = age_number s f x y e g low in
            let b = ltb-false y.number x.number older in
            let level : x.number ≡ y.number = omega (arith, b) in
            let here : Contains list s = subst (λ xs. Contains xs s) (sym splits) (Contains-append_right before (s ∷ after) s (first_element s after)) in
            absurd (differs (one_number s f x y (order_match list s order here) (order_match list f order c) e g level))
      ]
    ]

    matching_once : Once (matching p w)
    matching_once = once_filter (matches p w) _ (subst (λ (xs : List SolvableId). Once xs) (sym (listed_is p (solvables_of p.ids (set_at p.ids w).0.raw))) (places_once (λ (x : Solvable ℕ). x.name.raw == (set_at p.ids w).0.raw) 0 p.ids.solvables))

    -- A version set's candidates are tried in one order.
    pub one_order : (list other : List SolvableId) → IsOrder p same w list → IsOrder p same w other → list ≡ other
    one_order list other (ys, sorted, is) (zs, again, too) =
        is ∙ ap (λ xs. favoured_first same (tried_first (λ v. (set_at p.ids v).0) (candidates_of p) w) xs) one ∙ sym too
      where
        back : (xs : List SolvableId) → IsSorted p (matching p w) xs → (s : SolvableId) → Contains xs s → Contains (matching p w) s
        back xs h s c = Contains-permutation xs (matching p w) s (IsPermutation-sym (matching p w) xs h.permutation) c

        own : (s t : SolvableId) → Contains ys s → Contains ys t → age_of p s ≡ age_of p t → s ≡ t
        own s t c d e =
            let (x, at, m) = match_listed s (back ys sorted s c) in
            let (y, there, n) = match_listed t (back ys sorted t d) in
            let low : age_of p s ≤ age_of p t = (let h : age_of p s ≡ age_of p t = e in omega arith) in
            let high : age_of p t ≤ age_of p s = (let h : age_of p s ≡ age_of p t = e in omega arith) in
            let a : y.number ≤ x.number = age_number s t x y at there low in
            let b : x.number ≤ y.number = age_number t s y x there at high in
            one_number s t x y (back ys sorted s c) (back ys sorted t d) at there (omega arith)

        one : ys ≡ zs
        one = one_rising (age_of p) ys zs own
            (λ s c. Contains-permutation (matching p w) zs s again.permutation (back ys sorted s c))
            (λ s c. Contains-permutation (matching p w) ys s sorted.permutation (back zs again s c))
            (once_permuted (matching p w) ys sorted.permutation matching_once) (once_permuted (matching p w) zs again.permutation matching_once)
            (rises (age_of p) ys sorted.newest_first) (rises (age_of p) zs again.newest_first)

  -- The candidates of a requirement are tried in one order: that of its version sets, one after the other.
  pub one_order_for : (lines : List Line) (p : Provider) → IsOver lines p → (sets : List VersionSetId) (list : List SolvableId)
      → IsTriedFor (IsSorted p) same (tried_first (λ v. (set_at p.ids v).0) (candidates_of p)) (matching p) sets list → list ≡ flat_map (order_of p same) sets
  one_order_for lines p over sets list (order, each, is) = is ∙ go sets each
    where
      go : (vs : List VersionSetId) → All (λ v. IsOrder p same v (order v)) vs → flat_map order vs ≡ flat_map (order_of p same) vs
      go [] h = refl
      go (v ∷ vs) h = ap (λ xs. xs ++ flat_map order vs) (one_order lines p over v (order v) (order_of p same v) (h 0 v (omega arith)) (order_is p same v)) ∙ ap (λ xs. order_of p same v ++ xs) (go vs (λ k d l. h (suc k) d (omega arith)))
