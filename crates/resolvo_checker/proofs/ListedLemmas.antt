-- The versions that the lines list.
use Rattle.std.proofs.Common.{◌≡◌, ℕ, zero, suc, ◌<◌, true, List, [], ◌∷◌, sym, ap, subst, length, arith, inl, inr}
use Rattle.std.specs.Prelude.{Contains, slice_index_or}
use Rattle.std.proofs.lemmas.Bool.{false≢true, or_cases, or_left, or_right}
use Rattle.resolvo_text.specs.Line.{Version, Line, Skipped, Listed, Needs, Limits, Unknown, Lock, Favour, Exclude, Many, Wish}
use Rattle.resolvo_text.specs.Matches.{same_version, is_member}
use Rattle.resolvo_catalogue_core.specs.Listed.{listed}
use Rattle.resolvo_checker.proofs.Sets.{same_own, same_is}

-- a version that is listed later is listed
more_listed : (line : Line) (lines : List Line) (v : Version) → is_member v (listed lines) ≡ true → is_member v (listed (line ∷ lines)) ≡ true
more_listed Skipped lines v h = h
more_listed (Listed w) lines v h = or_right _ _ h
more_listed (Needs a c) lines v h = h
more_listed (Limits s) lines v h = h
more_listed (Unknown r) lines v h = h
more_listed (Lock w) lines v h = h
more_listed (Favour w) lines v h = h
more_listed (Many name) lines v h = h
more_listed (Exclude w r) lines v h = h
more_listed (Wish w) lines v h = h

pub listed_in : (catalogue : List Line) (v : Version) → Contains catalogue (Listed v) → is_member v (listed catalogue) ≡ true
listed_in catalogue v c = at catalogue c.0 c.1 c.2 where
  at : (lines : List Line) (k : ℕ) → k < length lines → slice_index_or lines k (Listed v) ≡ Listed v → is_member v (listed lines) ≡ true
  at [] k l e = absurd (omega arith)
  at (line ∷ lines) zero l e = subst (λ (x : Line). is_member v (listed (x ∷ lines)) ≡ true) (sym e) (or_left _ _ (same_own v))
  at (line ∷ lines) (suc k) l e = more_listed line lines v (at lines k (omega arith) e)

below : (line : Line) (lines : List Line) (v : Version) → Contains lines (Listed v) → Contains (line ∷ lines) (Listed v)
below line lines v c = (suc c.0, omega (arith, c.1), c.2)

-- a version that is listed has its line
pub contains_listed : (catalogue : List Line) (v : Version) → is_member v (listed catalogue) ≡ true → Contains catalogue (Listed v)
contains_listed [] v h = absurd (false≢true h)
contains_listed (Listed w ∷ lines) v h = elim (or_cases (same_version v w) (is_member v (listed lines)) h) [
  | inl e ↦ (0, omega arith, ap Listed (sym (same_is v w e)))
  | inr e ↦ below (Listed w) lines v (contains_listed lines v e)
]
contains_listed (Skipped ∷ lines) v h = below Skipped lines v (contains_listed lines v h)
contains_listed (Needs a c ∷ lines) v h = below (Needs a c) lines v (contains_listed lines v h)
contains_listed (Limits s ∷ lines) v h = below (Limits s) lines v (contains_listed lines v h)
contains_listed (Unknown r ∷ lines) v h = below (Unknown r) lines v (contains_listed lines v h)
contains_listed (Lock w ∷ lines) v h = below (Lock w) lines v (contains_listed lines v h)
contains_listed (Favour w ∷ lines) v h = below (Favour w) lines v (contains_listed lines v h)
contains_listed (Many name ∷ lines) v h = below (Many name) lines v (contains_listed lines v h)
contains_listed (Exclude w r ∷ lines) v h = below (Exclude w r) lines v (contains_listed lines v h)
contains_listed (Wish w ∷ lines) v h = below (Wish w) lines v (contains_listed lines v h)
