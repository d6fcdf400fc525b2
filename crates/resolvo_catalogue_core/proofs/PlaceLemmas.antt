-- Whether a line is allowed below those of a table, by its maps.
use Rattle.std.proofs.Common.{◌≡◌, is_some, true, false, ℕ, zero, suc, ◌-◌, ◌<◌, ◌≤◌, List, [], length, get_or, take, Option, Some, None, refl, sym, ap, subst, ◌∙◌, arith, option_map}
use Rattle.std.specs.Prelude.{Contains, slice_get}
use Rattle.std.specs.BTreeMap.{get, get_by_text}
use Rattle.std.specs.Ordering.{nat_cmp}
use Rattle.std.proofs.lemmas.Option.{slice_get-get_or, slice_get_past}
use Rattle.resolvo_terms.proofs.Places.{at_from_contains, contains_from_at}
use Rattle.resolvo_text.specs.Line.{Version, Line, Skipped, Listed, Needs, Limits, Unknown, Lock, Favour, Exclude, Many, Wish}
use Rattle.resolvo_catalogue_core.specs.Grammar.{line_at, owner_of, owner_below, MayFollow}
use Rattle.resolvo_catalogue_core.specs.Questions.{LineIs, MarksUnknownOf, Locks, Favours, MarksMany, Excludes, number_of, IsVersionLine}
use Rattle.resolvo_catalogue_core.specs.Kept.{nowhere}
use Rattle.resolvo_catalogue_core.specs.Table.{IsTable, lines_in, versions_in, package_named, number_in, kinds_in, numbers_in, mark_of}
use Rattle.resolvo_catalogue_core.specs.declared.rule.VersionNo.{VersionNo}
use Rattle.resolvo_catalogue_core.specs.declared.table.Table.{Table}
use Rattle.resolvo_catalogue_core.proofs.TableLemmas.{listed_has, listed_from, owner_is_last, fewer_listed, kind_at, excluded_at}

-- ---- elements by their places

pub line_from_contains : (lines : List Line) (x : Line) (Q : Option Version → Line → Type 0) → Contains lines x → ((owner : Option Version) → Q owner x) → (n : ℕ) × LineIs lines n Q
line_from_contains lines x Q has q = let h = at_from_contains lines x has in (suc h.0, (x, h.1, q (owner_of lines (suc h.0))))

pub contains_from_line : (lines : List Line) (n : ℕ) (x : Line) → line_at lines n ≡ Some x → Contains lines x
contains_from_line lines zero x at = absurd cc
contains_from_line lines (suc n) x at = contains_from_at lines x n at

none_is_some : {n : ℕ} → ◌≡◌ {A = Option ℕ} None (Some n) → ⊥
none_is_some e = cc

-- ---- tests

pub none_from : {X : Type 0} (o : Option X) → is_some o ≡ false → o ≡ None
none_from None e = refl
none_from (Some x) e = absurd cc

pub some_from : {X : Type 0} (o : Option X) → is_some o ≡ true → (x : X) × (o ≡ Some x)
some_from None e = absurd cc
some_from (Some x) e = (x, refl)

pub listed_at : (t : Table) → IsTable t → (v : Version) → (n : VersionNo) × (slice_get (versions_in t) n.0 ≡ Some v) → Contains (lines_in t) (Listed v)
listed_at t keeps v h = listed_from (lines_in t) v h.0.0 (rw keeps.listing h.1)

-- ---- versions

-- the result of a search for a version by its name
pub found_at : (t : Table) → IsTable t → (v : Version) (name : List ℕ) (r : Option VersionNo) (n : VersionNo) → name ≡ v.name → option_map number_of r ≡ number_in (package_named t name) v.number → r ≡ Some n → slice_get (versions_in t) n.0 ≡ Some v
found_at t keeps v name r n same is found =
    let in_name : number_in (package_named t v.name) v.number ≡ number_in (package_named t name) v.number = rw same refl in
    (((keeps.packages v.name).numbers v.number) n.0).0 (in_name ∙ sym is ∙ ap (λ o. option_map number_of o) found)

pub found_listed : (t : Table) → IsTable t → (v : Version) (k : ℕ) → slice_get (versions_in t) k ≡ Some v → Contains (lines_in t) (Listed v)
found_listed t keeps v k at = listed_from (lines_in t) v k (rw keeps.listing at)

pub not_found : (t : Table) → IsTable t → (v : Version) (name : List ℕ) (r : Option VersionNo) → name ≡ v.name → option_map number_of r ≡ number_in (package_named t name) v.number → r ≡ None → Contains (lines_in t) (Listed v) → ⊥
not_found t keeps v name r same is none has =
    let h = listed_has (lines_in t) v has in
    let at : slice_get (versions_in t) h.0 ≡ Some v = subst (λ (vs : List Version). slice_get vs h.0 ≡ Some v) keeps.listing h.1 in
    let in_name : number_in (package_named t name) v.number ≡ number_in (package_named t v.name) v.number = rw same refl in
    none_is_some (sym (ap (λ o. option_map number_of o) none) ∙ is ∙ in_name ∙ (((keeps.packages v.name).numbers v.number) h.0).1 at)

-- a version is listed where its package has its number, and only there
pub listed_by_number : (t : Table) → IsTable t → (v : Version) → is_some (number_in (package_named t v.name) v.number) ≡ true → Contains (lines_in t) (Listed v)
listed_by_number t keeps v is =
    let some = some_from (number_in (package_named t v.name) v.number) is in
    found_listed t keeps v some.0 ((((keeps.packages v.name).numbers v.number) some.0).0 some.1)

pub unlisted_by_number : (t : Table) → IsTable t → (v : Version) → is_some (number_in (package_named t v.name) v.number) ≡ false → Contains (lines_in t) (Listed v) → ⊥
unlisted_by_number t keeps v is has =
    let h = listed_has (lines_in t) v has in
    let at : slice_get (versions_in t) h.0 ≡ Some v = subst (λ (vs : List Version). slice_get vs h.0 ≡ Some v) keeps.listing h.1 in
    none_is_some (sym (none_from (number_in (package_named t v.name) v.number) is) ∙ (((keeps.packages v.name).numbers v.number) h.0).1 at)

-- ---- locks, favours, exclusions

pub lock_placed : (t : Table) → IsTable t → (v : Version) (k : ℕ) → slice_get (versions_in t) k ≡ Some v → is_some (mark_of t.terms.names t.locks v.name) ≡ false → MayFollow (lines_in t) (Lock v)
lock_placed t keeps v k at absent =
    let none = none_from (mark_of t.terms.names t.locks v.name) absent in (
      found_listed t keeps v k at,
      λ n has.
          let h = line_from_contains (lines_in t) (Lock (record { name = v.name; number = n })) (Locks v.name) has (λ owner. refl) in
          none_is_some (sym none ∙ (keeps.locks v.name h.0).1 h.1),
    )

pub locked_twice : (t : Table) → IsTable t → (v : Version) → is_some (mark_of t.terms.names t.locks v.name) ≡ true → MayFollow (lines_in t) (Lock v) → ⊥
locked_twice t keeps v present may = let some = some_from (mark_of t.terms.names t.locks v.name) present in from_line some.0 ((keeps.locks v.name some.0).0 some.1)
  where
    from_line : (n : ℕ) → LineIs (lines_in t) n (Locks v.name) → ⊥
    from_line n (Lock w, at, is) = may.1 w.number (subst (λ (x : List ℕ). Contains (lines_in t) (Lock (record { name = x; number = w.number }))) is (contains_from_line (lines_in t) n (Lock w) at))
    from_line n (Skipped, at, is) = is
    from_line n (Listed w, at, is) = is
    from_line n (Needs ss c, at, is) = is
    from_line n (Limits s, at, is) = is
    from_line n (Unknown r, at, is) = is
    from_line n (Favour w, at, is) = is
    from_line n (Many name, at, is) = is
    from_line n (Exclude w r, at, is) = is
    from_line n (Wish w, at, is) = is

pub favour_placed : (t : Table) → IsTable t → (v : Version) (k : ℕ) → slice_get (versions_in t) k ≡ Some v → is_some (mark_of t.terms.names t.favoured v.name) ≡ false → MayFollow (lines_in t) (Favour v)
favour_placed t keeps v k at absent =
    let none = none_from (mark_of t.terms.names t.favoured v.name) absent in (
      found_listed t keeps v k at,
      λ n has.
          let h = line_from_contains (lines_in t) (Favour (record { name = v.name; number = n })) (Favours v.name) has (λ owner. refl) in
          none_is_some (sym none ∙ (keeps.favoured v.name h.0).1 h.1),
    )

pub favoured_twice : (t : Table) → IsTable t → (v : Version) → is_some (mark_of t.terms.names t.favoured v.name) ≡ true → MayFollow (lines_in t) (Favour v) → ⊥
favoured_twice t keeps v present may = let some = some_from (mark_of t.terms.names t.favoured v.name) present in from_line some.0 ((keeps.favoured v.name some.0).0 some.1)
  where
    from_line : (n : ℕ) → LineIs (lines_in t) n (Favours v.name) → ⊥
    from_line n (Favour w, at, is) = may.1 w.number (subst (λ (x : List ℕ). Contains (lines_in t) (Favour (record { name = x; number = w.number }))) is (contains_from_line (lines_in t) n (Favour w) at))
    from_line n (Skipped, at, is) = is
    from_line n (Listed w, at, is) = is
    from_line n (Needs ss c, at, is) = is
    from_line n (Limits s, at, is) = is
    from_line n (Unknown r, at, is) = is
    from_line n (Lock w, at, is) = is
    from_line n (Exclude w r, at, is) = is
    from_line n (Many name, at, is) = is
    from_line n (Wish w, at, is) = is

pub exclude_placed : (t : Table) → IsTable t → (v : Version) (word : List ℕ) (k : ℕ) → slice_get (versions_in t) k ≡ Some v → is_some (get nat_cmp t.excluded k) ≡ false → MayFollow (lines_in t) (Exclude v word)
exclude_placed t keeps v word k at absent =
    let none = none_from (get nat_cmp t.excluded k) absent in (
      found_listed t keeps v k at,
      λ other has.
          let h = line_from_contains (lines_in t) (Exclude v other) (Excludes v) has (λ owner. refl) in
          none_is_some (sym none ∙ (keeps.excluded k h.0).1 (v, at, h.1)),
    )

pub excluded_twice : (t : Table) → IsTable t → (v : Version) (word : List ℕ) (k : ℕ) → slice_get (versions_in t) k ≡ Some v → is_some (get nat_cmp t.excluded k) ≡ true → MayFollow (lines_in t) (Exclude v word) → ⊥
excluded_twice t keeps v word k here present may = let some = some_from (get nat_cmp t.excluded k) present in of_version some.0 ((keeps.excluded k some.0).0 some.1)
  where
    from_line : (n : ℕ) (w : Version) → w ≡ v → LineIs (lines_in t) n (Excludes w) → ⊥
    from_line n w is (Exclude x r, at, same) = may.1 r (subst (λ (y : Version). Contains (lines_in t) (Exclude y r)) (same ∙ is) (contains_from_line (lines_in t) n (Exclude x r) at))
    from_line n w is (Skipped, at, same) = same
    from_line n w is (Listed x, at, same) = same
    from_line n w is (Needs ss c, at, same) = same
    from_line n w is (Limits s, at, same) = same
    from_line n w is (Unknown r, at, same) = same
    from_line n w is (Lock x, at, same) = same
    from_line n w is (Favour x, at, same) = same
    from_line n w is (Many name, at, same) = same
    from_line n w is (Wish x, at, same) = same

    of_version : (n : ℕ) → IsVersionLine (versions_in t) (lines_in t) k Excludes n → ⊥
    of_version n (w, there, line) = let same : w ≡ v = cc in from_line n w same line

-- ---- `many` lines

-- no version is listed of a package that has no numbers
pub none_listed : (t : Table) → IsTable t → (name : List ℕ) → numbers_in (package_named t name) ≡ [] → (n : ℕ) → Contains (lines_in t) (Listed (record { name = name; number = n })) → ⊥
none_listed t keeps name none n has =
    let v : Version = record { name = name; number = n } in
    let h = listed_has (lines_in t) v has in
    let at : slice_get (versions_in t) h.0 ≡ Some v = subst (λ (vs : List Version). slice_get vs h.0 ≡ Some v) keeps.listing h.1 in
    let found : Contains (numbers_in (package_named t name)) h.0 = ((keeps.packages name).all.all h.0).1 (v, at, refl) in
    let there : Contains [] h.0 = subst (λ (xs : List ℕ). Contains xs h.0) none found in
    omega (arith, there.1)

-- and one is of a package that has some
pub some_listed : (t : Table) → IsTable t → (name : List ℕ) (k : ℕ) → Contains (numbers_in (package_named t name)) k → (n : ℕ) × Contains (lines_in t) (Listed (record { name = name; number = n }))
some_listed t keeps name k has =
    let v = ((keeps.packages name).all.all k).0 has in
    (v.0.number, subst (λ (x : List ℕ). Contains (lines_in t) (Listed (record { name = x; number = v.0.number }))) v.2 (found_listed t keeps v.0 k v.1))

pub many_placed : (t : Table) → IsTable t → (name : List ℕ) → is_some (get_by_text t.many name) ≡ false → numbers_in (package_named t name) ≡ [] → MayFollow (lines_in t) (Many name)
many_placed t keeps name absent none =
    let unmarked : get_by_text t.many name ≡ None = none_from (get_by_text t.many name) absent in (
      λ has.
          let h = line_from_contains (lines_in t) (Many name) (MarksMany name) has (λ owner. refl) in
          none_is_some (sym unmarked ∙ (keeps.many name h.0).1 h.1),
      none_listed t keeps name none,
    )

pub many_twice : (t : Table) → IsTable t → (name : List ℕ) → is_some (get_by_text t.many name) ≡ true → MayFollow (lines_in t) (Many name) → ⊥
many_twice t keeps name present may =
    let some = some_from (get_by_text t.many name) present in
    from_line some.0 ((keeps.many name some.0).0 some.1)
  where
    from_line : (n : ℕ) → LineIs (lines_in t) n (MarksMany name) → ⊥
    from_line n (Many marked, at, is) = may.0 (subst (λ (x : List ℕ). Contains (lines_in t) (Many x)) is (contains_from_line (lines_in t) n (Many marked) at))
    from_line n (Skipped, at, is) = is
    from_line n (Listed w, at, is) = is
    from_line n (Needs ss c, at, is) = is
    from_line n (Limits s, at, is) = is
    from_line n (Unknown r, at, is) = is
    from_line n (Lock w, at, is) = is
    from_line n (Favour w, at, is) = is
    from_line n (Exclude w r, at, is) = is
    from_line n (Wish w, at, is) = is

pub many_below : (t : Table) → IsTable t → (name : List ℕ) (k : ℕ) → Contains (numbers_in (package_named t name)) k → MayFollow (lines_in t) (Many name) → ⊥
many_below t keeps name k has may = let v = some_listed t keeps name k has in may.1 v.0 v.1

-- ---- unknown marks

pub unknown_placed : (t : Table) → IsTable t → (v : Version) (word : List ℕ) (k : ℕ) → slice_get (versions_in t) k ≡ Some v → owner_below (lines_in t) ≡ Some v → is_some (get nat_cmp t.unknown k) ≡ false → MayFollow (lines_in t) (Unknown word)
unknown_placed t keeps v word k at owner absent =
    let none = none_from (get nat_cmp t.unknown k) absent in (
      v,
      owner,
      λ n marks.
          none_is_some (sym none ∙ (keeps.unknown k n).1 (v, at, (Unknown marks.0, marks.1, marks.2))),
    )

pub unknown_twice : (t : Table) → IsTable t → (v : Version) (word : List ℕ) (k : ℕ) → slice_get (versions_in t) k ≡ Some v → owner_below (lines_in t) ≡ Some v → is_some (get nat_cmp t.unknown k) ≡ true → MayFollow (lines_in t) (Unknown word) → ⊥
unknown_twice t keeps v word k here owner present may = let some = some_from (get nat_cmp t.unknown k) present in of_version some.0 ((keeps.unknown k some.0).0 some.1)
  where
    from_line : (n : ℕ) (w : Version) → w ≡ may.0 → LineIs (lines_in t) n (MarksUnknownOf w) → ⊥
    from_line n w is (Unknown r, at, same) = may.2 n (r, at, same ∙ ap (λ (x : Version). Some x) is)
    from_line n w is (Skipped, at, same) = same
    from_line n w is (Listed x, at, same) = same
    from_line n w is (Needs ss c, at, same) = same
    from_line n w is (Limits s, at, same) = same
    from_line n w is (Lock x, at, same) = same
    from_line n w is (Favour x, at, same) = same
    from_line n w is (Many name, at, same) = same
    from_line n w is (Exclude x r, at, same) = same
    from_line n w is (Wish x, at, same) = same

    of_version : (n : ℕ) → IsVersionLine (versions_in t) (lines_in t) k MarksUnknownOf n → ⊥
    of_version n (w, there, line) = let same : w ≡ may.0 = cc (there, here, owner, may.1) in from_line n w same line

-- ---- owners

pub versions_few : (t : Table) → IsTable t → length (versions_in t) ≤ length (lines_in t)
versions_few t keeps = omega (arith, fewer_listed (lines_in t), ap (λ (vs : List Version). length vs) keeps.listing)

owner_at_end : (t : Table) → IsTable t → owner_below (lines_in t) ≡ slice_get (versions_in t) (length (versions_in t) - 1)
owner_at_end t keeps = owner_is_last (lines_in t) ∙ rw keeps.listing refl

pub owner_none : (t : Table) → IsTable t → length (versions_in t) ≡ 0 → owner_below (lines_in t) ≡ None
owner_none t keeps none = owner_at_end t keeps ∙ slice_get_past (versions_in t) (length (versions_in t) - 1) (omega (arith))

pub owner_there : (t : Table) → IsTable t → (count : ℕ) → count ≡ length (versions_in t) → (count ≡ 0 → ⊥) → (v : Version) × (slice_get (versions_in t) (count - 1) ≡ Some v) × (owner_below (lines_in t) ≡ Some v)
owner_there t keeps count is some =
    let within : count - 1 < length (versions_in t) = omega (arith, is, some) in
    let at = slice_get-get_or (versions_in t) (count - 1) nowhere within in
    (get_or (versions_in t) (count - 1) nowhere, at, owner_at_end t keeps ∙ ap (λ (n : ℕ). slice_get (versions_in t) (n - 1)) (sym is) ∙ at)

-- ---- a version that isn't listed

pub no_number : (t : Table) → IsTable t → (v : Version) → (Contains (lines_in t) (Listed v) → ⊥) → number_in (package_named t v.name) v.number ≡ None
no_number t keeps v unlisted = from_option (number_in (package_named t v.name) v.number) (λ k is. unlisted (found_listed t keeps v k (((keeps.packages v.name).numbers v.number k).0 is)))
  where
    from_option : (o : Option ℕ) → ((k : ℕ) → o ≡ Some k → ⊥) → o ≡ None
    from_option None h = refl
    from_option (Some k) h = absurd (h k refl)

-- an excluded version is listed
pub excluded_listed : (t : Table) → IsTable t → (v : Version) (n : ℕ) → LineIs (lines_in t) n (Excludes v) → Contains (lines_in t) (Listed v)
excluded_listed t keeps v zero (x, at, is) = absurd cc
excluded_listed t keeps v (suc n) (Exclude w r, at, is) =
    let s = kind_at t.terms (versions_in t) (kinds_in t) n (Exclude w r) at in
    let h = excluded_at t.terms (versions_in t) (owner_below (take n (lines_in t))) s.0 w r (keeps.kinds n s.0 s.1) s.2 in
    subst (λ (x : Version). Contains (lines_in t) (Listed x)) is (found_listed t keeps w h.0 h.1)
excluded_listed t keeps v (suc n) (Skipped, at, is) = absurd is
excluded_listed t keeps v (suc n) (Listed w, at, is) = absurd is
excluded_listed t keeps v (suc n) (Needs ss c, at, is) = absurd is
excluded_listed t keeps v (suc n) (Limits s, at, is) = absurd is
excluded_listed t keeps v (suc n) (Unknown r, at, is) = absurd is
excluded_listed t keeps v (suc n) (Lock w, at, is) = absurd is
excluded_listed t keeps v (suc n) (Favour w, at, is) = absurd is
excluded_listed t keeps v (suc n) (Many name, at, is) = absurd is
excluded_listed t keeps v (suc n) (Wish w, at, is) = absurd is
