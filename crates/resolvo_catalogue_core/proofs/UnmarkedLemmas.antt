-- Whether a line locks or excludes a version: by whether the maps are empty.
use Rattle.std.proofs.Common.{◌≡◌, ℕ, suc, Bool, true, false, List, [], ◌∷◌, ◌∙◌, length, get_or, Option, Some, None, refl, sym, ap, arith}
use Rattle.std.specs.Prelude.{Contains, String, not, slice_get}
use Rattle.std.proofs.lemmas.Bool.{false≢true}
use Rattle.std.specs.Map.{lookup}
use Rattle.std.proofs.lemmas.Cmp.{nat_cmp_total, nat_list_cmp_total, tied_itself}
use Rattle.std.proofs.lemmas.Map.Entries.{lookup_head}
use Rattle.std.proofs.lemmas.Option.{slice_get-get_or}
use Rattle.std.specs.BTreeMap.{BTreeMap, btree_map_len, get, get_by_text, is_at}
use Rattle.std.specs.Cmp.Lexicographic.{slice_cmp}
use Rattle.std.specs.Ordering.{nat_cmp, is_eq}
use Rattle.std.specs.String.{string_bytes}
use Rattle.resolvo_text.specs.Line.{Version, Line, Lock, Exclude}
use Rattle.resolvo_terms.proofs.Places.{at_from_contains}
use Rattle.resolvo_catalogue_core.specs.Listed.{listed}
use Rattle.resolvo_catalogue_core.specs.Questions.{LineIs, Locks, Excludes}
use Rattle.resolvo_catalogue_core.specs.Table.{IsTable, lines_in, mark_of}
use Rattle.resolvo_catalogue_core.specs.declared.table.Table.{Table}
use Rattle.resolvo_catalogue_core.proofs.CatalogueFacts.{kept}
use Rattle.resolvo_catalogue_core.proofs.NameMarks.{marked_at, no_mark}

pub denied : (b : Bool) → not b ≡ false → b ≡ true
denied true e = refl
denied false e = absurd (false≢true (sym e))

nothing_at : {K X : Type 0} (test : K → Bool) (es : List (K × X)) → length es ≡ 0 → lookup test es ≡ None
nothing_at test [] e = refl
nothing_at test (x ∷ es) e = absurd (omega (arith, e))

none_is_some : (found : Option ℕ) (n : ℕ) → found ≡ None → found ≡ Some n → ⊥
none_is_some None n e f = cc
none_is_some (Some m) n e f = cc

pub allowed : (b : Bool) → not b ≡ true → b ≡ false
allowed true e = absurd (false≢true e)
allowed false e = refl

-- ---- a map that has an entry answers at the key of its first

first_text : {Y X : Type 0} (es : List (String Y × X)) → (length es ≡ 0 → ⊥) → (name : List ℕ) × (x : X) × (lookup (is_at (λ (k : String Y). slice_cmp nat_cmp name (string_bytes k))) es ≡ Some x)
first_text {Y} {X} [] some = absurd (some refl)
first_text {Y} {X} (e ∷ es) some = (string_bytes e.0, e.1, lookup_head (is_at (λ (k : String Y). slice_cmp nat_cmp (string_bytes e.0) (string_bytes k))) e es (ap is_eq (tied_itself nat_list_cmp_total (string_bytes e.0))))

pub some_text : {Y X : Type 0} (m : BTreeMap (String Y) X) → (btree_map_len m ≡ 0 → ⊥) → (name : List ℕ) × (x : X) × (get_by_text m name ≡ Some x)
some_text m some = first_text m.entries some

first_number : {X : Type 0} (es : List (ℕ × X)) → (length es ≡ 0 → ⊥) → (k : ℕ) × (x : X) × (lookup (is_at (nat_cmp k)) es ≡ Some x)
first_number [] some = absurd (some refl)
first_number (e ∷ es) some = (e.0, e.1, lookup_head (is_at (nat_cmp e.0)) e es (ap is_eq (tied_itself nat_cmp_total e.0)))

some_number : {X : Type 0} (m : BTreeMap ℕ X) → (btree_map_len m ≡ 0 → ⊥) → (k : ℕ) × (x : X) × (get nat_cmp m k ≡ Some x)
some_number m some = first_number m.entries some

module _ (t : Table) (lines : List Line) (is : lines_in t ≡ lines) (keeps : IsTable t) where
  pub no_locks : btree_map_len t.locks ≡ 0 → (v : Version) → Contains lines (Lock v) → ⊥
  no_locks none v has =
      let at = at_from_contains lines (Lock v) has in
      none_is_some (mark_of t.terms.names t.locks v.name) (suc at.0) (no_mark t.terms.names t.locks v.name (λ n. nothing_at (is_at (nat_cmp n)) t.locks.entries none)) (((kept t lines is keeps).locks v.name (suc at.0)).1 (Lock v, at.1, refl))

  pub no_exclusions : btree_map_len t.excluded ≡ 0 → (k : ℕ) (v : Version) (word : List ℕ) → slice_get (listed lines) k ≡ Some v → Contains lines (Exclude v word) → ⊥
  no_exclusions none k v word there has =
      let at = at_from_contains lines (Exclude v word) has in
      none_is_some (get nat_cmp t.excluded k) (suc at.0) (nothing_at _ t.excluded.entries none) (((kept t lines is keeps).excluded k (suc at.0)).1 (v, there, (Exclude v word, at.1, refl)))

  pub some_lock : (btree_map_len t.locks ≡ 0 → ⊥) → (name : List ℕ) × (n : ℕ) × LineIs lines n (Locks name)
  some_lock some =
      let names = t.terms.names in
      let x = some_number t.locks some in
      let name = get_or names x.0 [] in
      let called = slice_get-get_or names x.0 [] (keeps.marks.0 x.0 x.1 x.2) in
      (name, x.1, ((kept t lines is keeps).locks name x.1).0 (marked_at names t.locks name x.0 keeps.sound.names called ∙ x.2))

  pub some_exclusion : (btree_map_len t.excluded ≡ 0 → ⊥) → (v : Version) × (n : ℕ) × LineIs lines n (Excludes v)
  some_exclusion some =
      let x = some_number t.excluded some in
      let line = ((kept t lines is keeps).excluded x.0 x.1).0 x.2 in
      (line.0, x.1, line.2)
