-- Packages by the numbers of their names: an empty place more, a version more, more names.
use Rattle.std.proofs.Common.{◌≡◌, ◌∙◌, ◌<◌, ◌≤◌, inl, inr, ℕ, zero, suc, true, false, List, [], ◌∷◌, ◌++◌, length, get_or, Option, Some, None, refl, sym, ap, subst, arith}
use Rattle.std.specs.Prelude.{slice_get, slice_set, option_and_then, option_map, is_some}
use Rattle.std.specs.Str.{bytes_eq}
use Rattle.std.proofs.lemmas.Bool.{cases_lt}
use Rattle.std.proofs.lemmas.List.{length-append}
use Rattle.std.proofs.lemmas.Option.{same_Some, slice_get-get_or, slice_get_read, get_or_from_slice_get}
use Rattle.std.proofs.lemmas.Slice.Eq.{bytes_eq-Decides}
use Rattle.resolvo_text.specs.Line.{Version}
use Rattle.resolvo_terms.specs.Known.{place_of}
use Rattle.resolvo_terms.specs.Terms.{AreOnce, Extends}
use Rattle.resolvo_terms.proofs.TextPlaces.{place_is, has_place, is_place}
use Rattle.resolvo_catalogue_core.specs.Packages.{package_at, package_in}
use Rattle.resolvo_catalogue_core.specs.Numbered.{beside, numbers_of, present, versions_of, IsNumbered}
use Rattle.resolvo_catalogue_core.specs.Questions.{number_of}
use Rattle.resolvo_catalogue_core.specs.Table.{number_in, numbers_in, AddsNumber, AddsVersion, PutsVersion}
use Rattle.resolvo_catalogue_core.specs.declared.rule.VersionNo.{VersionNo}
use Rattle.resolvo_catalogue_core.specs.declared.package.Package.{Package}
use Rattle.resolvo_catalogue_core.specs.declared.package.Package.TheVariants.{Absent, One, Several}
use Rattle.resolvo_catalogue_core.specs.declared.package_table.PackageTable.{PackageTable}

true_false : true ≡ false → ⊥
true_false e = cc

-- ---- places

nothing_past : (ps : List Package) (n : ℕ) → length ps ≤ n → package_at ps n ≡ None
nothing_past [] n past = refl
nothing_past (p ∷ ps) zero past = absurd (omega (arith, past))
nothing_past (p ∷ ps) (suc n) past = nothing_past ps n (omega (arith, past))

pub empty_place : (ps : List Package) (n : ℕ) → package_at (ps ++ Absent ∷ []) n ≡ package_at ps n
empty_place [] zero = refl
empty_place [] (suc n) = refl
empty_place (p ∷ ps) zero = refl
empty_place (p ∷ ps) (suc n) = empty_place ps n

there : (ps : List Package) (at : ℕ) (p : Package) → at < length ps → package_at (slice_set ps at p) at ≡ present p
there [] at p within = absurd (omega (arith, within))
there (q ∷ ps) zero p within = refl
there (q ∷ ps) (suc at) p within = there ps at p (omega (arith, within))

elsewhere : (ps : List Package) (at : ℕ) (p : Package) (n : ℕ) → (at ≡ n → ⊥) → package_at (slice_set ps at p) n ≡ package_at ps n
elsewhere [] at p n apart = refl
elsewhere (q ∷ ps) zero p zero apart = absurd (apart refl)
elsewhere (q ∷ ps) zero p (suc n) apart = refl
elsewhere (q ∷ ps) (suc at) p zero apart = refl
elsewhere (q ∷ ps) (suc at) p (suc n) apart = elsewhere ps at p n (λ same. apart (ap (λ (k : ℕ). suc k) same))

-- what is read at a place
pub read_at : (ps : List Package) (at : ℕ) (p : Package) → at < length ps → p ≡ get_or ps at p → present p ≡ package_at ps at
read_at ps at p within is = ap present (sym (get_or_from_slice_get ps at p Absent (slice_get_read ps (length ps) at p refl within is)))

-- what is at a place has its versions by their numbers
pub numbered_place : (p : Package) (o : Option Package) → present p ≡ o → ((q : Package) → o ≡ Some q → IsNumbered q) → IsNumbered p
numbered_place Absent o is all = tt
numbered_place (One n v) o is all = tt
numbered_place (Several l) o is all = all (Several l) (sym is)

-- a package that was added to has a version
pub present_added : (before : Option Package) (number : ℕ) (k : VersionNo) (p : Package) → AddsNumber before number k p → present p ≡ Some p
present_added before number k Absent adds = absurd (omega (arith, ap (λ (ns : List ℕ). length ns) adds.all, length-append (numbers_in before) (k.0 ∷ [])))
present_added before number k (One n v) adds = refl
present_added before number k (Several l) adds = refl

-- it is the same where nothing was there
pub added_present : (p : Package) (number : ℕ) (k : VersionNo) (q : Package) → AddsNumber (Some p) number k q → AddsNumber (present p) number k q
added_present Absent number k q adds = record { kept = adds.kept; numbers = adds.numbers; all = adds.all }
added_present (One n v) number k q adds = adds
added_present (Several l) number k q adds = adds

some_number : (o : Option VersionNo) → is_some o ≡ is_some (option_map number_of o)
some_number None = refl
some_number (Some v) = refl

-- its versions are found by their numbers
pub sought_present : (p : Package) (k : ℕ) → is_some (beside (numbers_of p) (versions_of p) k) ≡ is_some (number_in (present p) k)
sought_present Absent k = refl
sought_present (One n v) k = some_number (beside (n ∷ []) (v ∷ []) k)
sought_present (Several l) k = some_number (beside l.value.numbers.items l.value.versions.items k)

-- a version more at a number, where empty places were added before
pub puts : (old mid : List Package) (at number : ℕ) (k : VersionNo) (p : Package) → ((n : ℕ) → package_at mid n ≡ package_at old n) → at < length mid → (q : Package) × (present p ≡ Some q) × AddsNumber (package_at old at) number k q → PutsVersion old at number k (slice_set mid at p)
puts old mid at number k p same within added = record {
  added = (added.0, there mid at p within ∙ added.1, added.2);
  others = λ n apart. elsewhere mid at p n apart ∙ same n;
}

-- ---- names

abbrev package_of : List Package → Option ℕ → Option Package
package_of places o = option_and_then (λ n. package_at places n) o

-- the package of a name that has a number
pub named_at : (names : List (List ℕ)) (t : PackageTable) (name : List ℕ) (at : ℕ) → AreOnce names → slice_get names at ≡ Some name → package_at t.places.items at ≡ package_in names t name
named_at names t name at once named = sym (ap (λ (o : Option ℕ). package_of t.places.items o) (is_place names name at once named))

-- more names change no package
pub more_names : (names more : List (List ℕ)) (t : PackageTable) (name : List ℕ) → Extends names more → AreOnce more → length t.places.items ≤ length names → package_in more t name ≡ package_in names t name
more_names names more t name extends once short = by (place_of names name) refl
  where
    ps : List Package
    ps = t.places.items

    -- a name that has a number only among the later ones
    later : place_of names name ≡ None → (o : Option ℕ) → place_of more name ≡ o → package_of ps o ≡ None
    later none None is = refl
    later none (Some j) is = elim (cases_lt j (length names)) [
      | inl within ↦
          let was = slice_get-get_or names j [] within in
          let same : get_or names j [] ≡ name = same_Some (get_or names j []) name (sym (extends j (get_or names j []) was) ∙ place_is more name j is) in
          absurd (has_place names name j (was ∙ ap (λ (x : List ℕ). Some x) same) none)
      | inr past ↦ nothing_past ps j (omega (arith, past, short))
    ]

    by : (o : Option ℕ) → place_of names name ≡ o → package_of ps (place_of more name) ≡ package_of ps (place_of names name)
    by None is = later is (place_of more name) refl ∙ sym (ap (λ (o : Option ℕ). package_of ps o) is)
    by (Some i) is = ap (λ (o : Option ℕ). package_of ps o) (is_place more name i once (extends i name (place_is names name i is)) ∙ sym is)

-- where there is no place, no name has a package
pub none_in : (names : List (List ℕ)) (t : PackageTable) (name : List ℕ) → t.places.items ≡ [] → package_in names t name ≡ None
none_in names t name none = by (place_of names name)
  where
    by : (o : Option ℕ) → package_of t.places.items o ≡ None
    by None = refl
    by (Some i) = nothing_past t.places.items i (omega (arith, ap (λ (ps : List Package). length ps) none))

-- a version more
pub adds_by : (names : List (List ℕ)) (old new : PackageTable) (at : ℕ) (v : Version) (k : VersionNo) → AreOnce names → slice_get names at ≡ Some v.name → PutsVersion old.places.items at v.number k new.places.items
    → AddsVersion (λ name. package_in names old name) v k (λ name. package_in names new name)
adds_by names old new at v k once named puts = record {
  added = (
    puts.added.0,
    sym (named_at names new v.name at once named) ∙ puts.added.1,
    subst (λ (o : Option Package). AddsNumber o v.number k puts.added.0) (named_at names old v.name at once named) puts.added.2,
  );
  others = λ name apart. go name apart (place_of names name) refl;
}
  where
    go : (name : List ℕ) → bytes_eq v.name name ≡ false → (o : Option ℕ) → place_of names name ≡ o → package_of new.places.items o ≡ package_of old.places.items o
    go name apart None is = refl
    go name apart (Some i) is = puts.others i (λ same.
        let one : v.name ≡ name = same_Some v.name name (sym named ∙ (ap (λ (n : ℕ). slice_get names n) same ∙ place_is names name i is)) in
        true_false (sym ((bytes_eq-Decides v.name name).1 one) ∙ apart))
