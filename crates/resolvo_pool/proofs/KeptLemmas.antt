-- Entries of the cache stay true, and stay in it, as a key is inserted.
use Rattle.std.proofs.Common.{◌≡◌, ℕ, ◌+◌, ◌<◌, length, take, get_or, append-nil, suc, arith, Bool, true, false, List, [], ◌∷◌, ◌++◌, refl, subst, cond, ap, ◌∙◌, sym}
use Rattle.std.specs.Prelude.{Option, None, Some, ⊤, MatchOption, All, unwrap_or}
use Rattle.std.specs.List.{flat_map}
use Rattle.std.specs.Map.{lookup, keys_of}
use Rattle.std.specs.Option.{is_some}
use Rattle.std.proofs.lemmas.List.{take_more}
use Rattle.std.proofs.lemmas.Grind.{flat_map-append}
use Rattle.std.proofs.lemmas.Bool.{eqb-true, false≢true}
use Rattle.std.proofs.lemmas.Map.Made.{is_some-lookup}
use Rattle.resolvo_pool_core.specs.declared.id.VersionSetId.{VersionSetId}
use Rattle.resolvo_pool_core.specs.declared.id.VersionSetUnionId.{VersionSetUnionId}
use Rattle.resolvo_pool.specs.Cached.{IsKept, same_set, same_union, among, Cached, Extends, AddsSorted, is_sorted, sorted_of, IsUnionList}

Match-cond : {V : Type 0} (b : Bool) (P : V → Type 0) (w : V) (o : Option V) → (b ≡ true → P w) → MatchOption o ⊤ P → MatchOption (cond b (Some w) o) ⊤ P
Match-cond true P w o p h = p refl
Match-cond false P w o p h = h

some-cond : {V : Type 0} (b : Bool) (w : V) (o : Option V) → is_some o ≡ true → is_some (cond b (Some w) o) ≡ true
some-cond true w o h = refl
some-cond false w o h = h

module _ {K V : Type 0} (eq : K → K → Bool) where
  -- a key is among the keys where a look-up finds it
  pub among-lookup : (es : List (K × V)) (k : K) → among eq (keys_of es) k ≡ is_some (lookup (eq k) es)
  among-lookup es k = sym (is_some-lookup (eq k) es)

  pub among_found : (es : List (K × V)) (k : K) (w : V) → lookup (eq k) es ≡ Some w → among eq (keys_of es) k ≡ true
  among_found es k w e = among-lookup es k ∙ ap is_some e

  -- a key that is kept is found
  pub not_absent : (es : List (K × V)) (k : K) → among eq (keys_of es) k ≡ true → lookup (eq k) es ≡ None → ⊥
  not_absent es k h e = none (lookup (eq k) es) (sym (among-lookup es k) ∙ h) e
    where
      none : (o : Option V) → is_some o ≡ true → o ≡ None → ⊥
      none None i n = cc
      none (Some x) i n = cc

  -- the entry at a key is true of it
  pub kept_at : (P : K → V → Type 0) (es : List (K × V)) (k : K) (w : V) → lookup (eq k) es ≡ Some w → IsKept eq P es → P k w
  kept_at P es k w e kept = rw e at (kept k)

  module _ (es fs : List (K × V)) (k : K) (w : V) (updates : (q : K) → lookup (eq q) fs ≡ cond (eq k q) (Some w) (lookup (eq q) es)) where
    -- keys stay
    pub among_more : (q : K) → among eq (keys_of es) q ≡ true → among eq (keys_of fs) q ≡ true
    among_more q h = among-lookup fs q ∙ (ap is_some (updates q) ∙ some-cond (eq k q) w (lookup (eq q) es) (sym (among-lookup es q) ∙ h))

    -- each entry is true of its key, if the new one is
    pub kept_more : (P : K → V → Type 0) → ((q : K) → eq k q ≡ true → k ≡ q) → P k w → IsKept eq P es → IsKept eq P fs
    kept_more P same p kept q = rw (updates q) (Match-cond (eq k q) (P q) w (lookup (eq q) es) (λ e. subst (λ r. P r w) (same q e) p) (kept q))

pub same_set_exact : (v w : VersionSetId) → same_set v w ≡ true → v ≡ w
same_set_exact v w h = ap (λ n. record { 0 = n }) (eqb-true v.0 w.0 h)

pub same_union_exact : (u w : VersionSetUnionId) → same_union u w ≡ true → u ≡ w
same_union_exact u w h = ap (λ n. record { 0 = n }) (eqb-true u.0 w.0 h)

-- entries that stay through two steps stay
pub Extends-trans : {P N S : Type 0} (same_name : N → N → Bool) (same : S → S → Bool) (a b c : Cached P N S) → Extends same_name same a b → Extends same_name same b c → Extends same_name same a c
Extends-trans same_name same a b c f g = record {
  provider = g.provider ∙ f.provider;
  names = λ n h. g.names n (f.names n h);
  matching = λ v h. g.matching v (f.matching v h);
  non_matching = λ v h. g.non_matching v (f.non_matching v h);
  sorted = λ v xs h. g.sorted v xs (f.sorted v xs h);
  unions = λ u h. g.unions u (f.unions u h);
  solvables = λ s h. g.solvables s (f.solvables s h);
}

pub AddsSorted-trans : {P N S : Type 0} (a b c : Cached P N S) → AddsSorted a b → AddsSorted b c → AddsSorted a c
AddsSorted-trans a b c f g = record {
  provider = g.provider ∙ f.provider;
  non_matching = g.non_matching ∙ f.non_matching;
  unions = g.unions ∙ f.unions;
  solvables = g.solvables ∙ f.solvables;
}

-- entries that are true are true in a weaker sense
pub kept_weaker : {K V : Type 0} (eq : K → K → Bool) (P Q : K → V → Type 0) (es : List (K × V)) → ((k : K) (w : V) → P k w → Q k w) → IsKept eq P es → IsKept eq Q es
kept_weaker eq P Q es f kept q = go (lookup (eq q) es) (kept q)
  where
    go : (o : Option _) → MatchOption o ⊤ (P q) → MatchOption o ⊤ (Q q)
    go None h = h
    go (Some w) h = f q w h

flat_map_same : {X Y : Type 0} (f g : X → List Y) (xs : List X) → All (λ x. f x ≡ g x) xs → flat_map f xs ≡ flat_map g xs
flat_map_same f g [] h = refl
flat_map_same f g (x ∷ xs) h =
    let first : f x ≡ g x = h 0 x (omega arith) in
    rw (first, flat_map_same f g xs (λ k d l. h (suc k) d (omega arith))) refl

module _ {S : Type 0} where
  -- a list that is sorted is found
  pub not_unsorted : (es : List (VersionSetId × List S)) (v : VersionSetId) → is_sorted es v ≡ true → lookup (same_set v) es ≡ None → ⊥
  not_unsorted es v h e = false≢true (ap is_some (sym e) ∙ h)

  -- a property of each list in the cache is one of a version set's list
  pub sorted_at : (P : VersionSetId → List S → Type 0) (es : List (VersionSetId × List S)) (v : VersionSetId) → IsKept same_set P es → is_sorted es v ≡ true → P v (sorted_of es v)
  sorted_at P es v kept h = go (lookup (same_set v) es) h (kept v)
    where
      go : (o : Option (List S)) → is_some o ≡ true → MatchOption o ⊤ (P v) → P v (unwrap_or o [])
      go None i t = absurd (false≢true i)
      go (Some xs) i t = t

  module _ (es fs : List (VersionSetId × List S)) (k : VersionSetId) (w : List S) (absent : is_some (lookup (same_set k) es) ≡ false) (updates : (q : VersionSetId) → lookup (same_set q) fs ≡ cond (same_set k q) (Some w) (lookup (same_set q) es)) where
    -- a sorted list stays as another is put in
    pub sorted_stays : (v : VersionSetId) (xs : List S) → lookup (same_set v) es ≡ Some xs → lookup (same_set v) fs ≡ Some xs
    sorted_stays v xs h = updates v ∙ go (same_set k v) refl
      where
        go : (b : Bool) → same_set k v ≡ b → cond b (Some w) (lookup (same_set v) es) ≡ Some xs
        go false e = h
        go true e =
            let there : is_some (lookup (same_set k) es) ≡ true = rw (same_set_exact k v e) (ap is_some h) in
            absurd (false≢true (sym absent ∙ there))

    still_sorted : (v : VersionSetId) → is_sorted es v ≡ true → (is_sorted fs v ≡ true) × (sorted_of fs v ≡ sorted_of es v)
    still_sorted v h = go (lookup (same_set v) es) refl h
      where
        go : (o : Option (List S)) → lookup (same_set v) es ≡ o → is_some o ≡ true → (is_some (lookup (same_set v) fs) ≡ true) × (unwrap_or (lookup (same_set v) fs) [] ≡ unwrap_or (lookup (same_set v) es) [])
        go None e i = absurd (false≢true i)
        go (Some xs) e i =
            let f = sorted_stays v xs e in
            (ap is_some f, ap (λ o. unwrap_or o []) f ∙ sym (ap (λ o. unwrap_or o []) e))

    -- and so does the list of a union
    pub union_stays : (members_of : VersionSetUnionId → List VersionSetId) (u : VersionSetUnionId) (xs : List S) → IsUnionList members_of es u xs → IsUnionList members_of fs u xs
    union_stays members_of u xs (e, sorted) =
        (e ∙ flat_map_same (sorted_of es) (sorted_of fs) (members_of u) (λ n d l. sym (still_sorted _ (sorted n d l)).1), λ n d l. (still_sorted _ (sorted n d l)).0)

-- a sorted list that is kept stays kept
pub sorted_extends : {P N S : Type 0} (same_name : N → N → Bool) (same : S → S → Bool) (a b : Cached P N S) → Extends same_name same a b → (v : VersionSetId) → is_sorted a.sorted v ≡ true → is_sorted b.sorted v ≡ true
sorted_extends {P} {N} {S} same_name same a b e v h = go (lookup (same_set v) a.sorted) refl h
  where
    go : (o : Option (List S)) → lookup (same_set v) a.sorted ≡ o → is_some o ≡ true → is_sorted b.sorted v ≡ true
    go None n i = absurd (false≢true i)
    go (Some xs) n i = ap is_some (e.sorted v xs n)

-- one more sorted list is joined to those before
pub joined_more : {S : Type 0} (es : List (VersionSetId × List S)) (sets : List VersionSetId) (i : ℕ) (d : VersionSetId) (old new xs : List S) → i < length sets → old ≡ flat_map (sorted_of es) (take i sets) → lookup (same_set (get_or sets i d)) es ≡ Some xs → new ≡ old ++ xs → new ≡ flat_map (sorted_of es) (take (i + 1) sets)
joined_more es sets i d old new xs h before found e =
    let here : sorted_of es (get_or sets i d) ≡ xs = ap (λ o. unwrap_or o []) found in
    rw (take_more sets i d h, flat_map-append, here, append-nil) (e ∙ ap (λ ys. ys ++ xs) before)
