-- What is known of a version that is free to be an entry.
use Rattle.std.proofs.Common.{◌≡◌, ◌==◌, Bool, true, false, not, ◌&&◌, ◌||◌, if◌then◌else◌, List, [], ◌∷◌, refl, sym, ap, ◌∙◌}
use Rattle.std.specs.List.{list_any}
use Rattle.std.proofs.lemmas.Bool.{or_parts, not-true}
use Rattle.resolvo_text.specs.Line.{Version, Line}
use Rattle.resolvo_text.specs.Matches.{Set, same_package, is_member}
use Rattle.resolvo_catalogue_core.specs.Sets.{is_many}
use Rattle.resolvo_judge.specs.Entries.{is_free}

-- a version is of its own package
no_member : (set : Set) (v : Version) → list_any (same_package v) set ≡ false → is_member v set ≡ false
no_member [] v none = refl
no_member (w ∷ set) v none =
    let p = or_parts (same_package v w) (list_any (same_package v) set) none in
    ap (λ (b : Bool). (b && v.number == w.number) || is_member v set) p.0 ∙ no_member set v p.1

pub free_is_new : (catalogue : List Line) (entries : Set) (v : Version) → is_free catalogue entries v ≡ true → is_member v entries ≡ false
free_is_new catalogue entries v h = by_test (is_many catalogue v.name) h
  where
    by_test : (b : Bool) → (if b then not (is_member v entries) else not (list_any (same_package v) entries)) ≡ true → is_member v entries ≡ false
    by_test true e = not-true (is_member v entries) e
    by_test false e = no_member entries v (not-true (list_any (same_package v) entries) e)

-- the only one of a package that isn't marked `many`
pub free_is_alone : (catalogue : List Line) (entries : Set) (v : Version) → is_many catalogue v.name ≡ false → is_free catalogue entries v ≡ true → list_any (same_package v) entries ≡ false
free_is_alone catalogue entries v single h =
    not-true (list_any (same_package v) entries) (ap (λ (b : Bool). if b then not (is_member v entries) else not (list_any (same_package v) entries)) (sym single) ∙ h)
