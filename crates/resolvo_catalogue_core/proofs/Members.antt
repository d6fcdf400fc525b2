-- Sets of versions, as lists of their numbers.
use Rattle.std.proofs.Common.{◌≡◌, inl, inr, ℕ, Bool, true, false, ◌||◌, ◌&&◌, ◌==◌, List, [], ◌∷◌, ◌++◌, Option, Some, None, refl, sym, ap, ◌∙◌}
use Rattle.std.specs.Prelude.{slice_get, option_to_list}
use Rattle.std.specs.List.{list_any, list_all}
use Rattle.std.specs.Option.{option_map_or}
use Rattle.std.proofs.lemmas.Bool.{cases_Bool, false_from_ne_true}
use Rattle.std.proofs.lemmas.Bool.Decides.{Decides-eqb}
use Rattle.std.proofs.lemmas.List.Concat.{flat_map-cons}
use Rattle.std.proofs.lemmas.List.Folds.{list_any-append, list_all-append}
use Rattle.resolvo_text.specs.Line.{Version}
use Rattle.resolvo_text.specs.Matches.{same_version, is_member}
use Rattle.resolvo_catalogue_core.specs.Listed.{members, AreDistinct}
use Rattle.resolvo_catalogue_core.specs.declared.rule.VersionNo.{VersionNo}
use Rattle.resolvo_catalogue_core.proofs.TableSteps.{same_version_is}

-- the members, the first number apart
first_member : (vs : List Version) (n : VersionNo) (set : List VersionNo) → members vs (n ∷ set) ≡ option_to_list (slice_get vs n.0) ++ members vs set
first_member vs n set = flat_map-cons (λ (x : VersionNo). option_to_list (slice_get vs x.0)) n set

-- a test of some member
pub some_member : (p : Version → Bool) (vs : List Version) (set : List VersionNo) → list_any (λ n. option_map_or p (slice_get vs n.0) false) set ≡ list_any p (members vs set)
some_member p vs [] = refl
some_member p vs (n ∷ set) = rw (first_member vs n set, list_any-append p (option_to_list (slice_get vs n.0)) (members vs set), ← some_member p vs set) (of_one p (slice_get vs n.0) (list_any (λ (x : VersionNo). option_map_or p (slice_get vs x.0) false) set))
  where
    or_false : (b : Bool) → (b || false) ≡ b
    or_false true = refl
    or_false false = refl

    of_one : (p : Version → Bool) (o : Option Version) (rest : Bool) → (option_map_or p o false || rest) ≡ (list_any p (option_to_list o) || rest)
    of_one p None rest = refl
    of_one p (Some v) rest = rw (or_false (p v)) refl

-- a test of each member
pub each_member : (p : Version → Bool) (vs : List Version) (set : List VersionNo) → list_all (λ n. option_map_or p (slice_get vs n.0) true) set ≡ list_all p (members vs set)
each_member p vs [] = refl
each_member p vs (n ∷ set) = rw (first_member vs n set, list_all-append p (option_to_list (slice_get vs n.0)) (members vs set), ← each_member p vs set) (of_one p (slice_get vs n.0) (list_all (λ (x : VersionNo). option_map_or p (slice_get vs x.0) true) set))
  where
    and_true : (b : Bool) → (b && true) ≡ b
    and_true true = refl
    and_true false = refl

    of_one : (p : Version → Bool) (o : Option Version) (rest : Bool) → (option_map_or p o true && rest) ≡ (list_all p (option_to_list o) && rest)
    of_one p None rest = refl
    of_one p (Some v) rest = rw (and_true (p v)) refl

-- a version of which no other has the number is a member exactly if its number is in the list
pub has_number : (vs : List Version) → AreDistinct vs → (k : ℕ) (v : Version) → slice_get vs k ≡ Some v → (set : List VersionNo) → list_any (λ n. n.0 == k) set ≡ is_member v (members vs set)
has_number vs distinct k v at set = same_tests set ∙ some_member (same_version v) vs set
  where
    absent : (n : ℕ) (o : Option Version) → slice_get vs n ≡ o → (n ≡ k → ⊥) → false ≡ option_map_or (same_version v) o false
    absent n None is apart = refl
    absent n (Some w) is apart = sym (false_from_ne_true (same_version v w) (λ same. apart (distinct v n k (is ∙ ap (λ (x : Version). Some x) (sym ((same_version_is v w).0 same))) at)))

    not_both : false ≡ true → ⊥
    not_both e = cc

    one_test : (n : VersionNo) → (n.0 == k) ≡ option_map_or (same_version v) (slice_get vs n.0) false
    one_test n = elim (cases_Bool (n.0 == k)) [
      | inl same ↦ same ∙ sym (rw ((Decides-eqb n.0 k).0 same, at) ((same_version_is v v).1 refl))
      | inr apart ↦ apart ∙ absent n.0 (slice_get vs n.0) refl (λ same. not_both (sym apart ∙ (Decides-eqb n.0 k).1 same))
    ]

    same_tests : (set : List VersionNo) → list_any (λ n. n.0 == k) set ≡ list_any (λ n. option_map_or (same_version v) (slice_get vs n.0) false) set
    same_tests [] = refl
    same_tests (n ∷ set) = rw (one_test n, same_tests set) refl
