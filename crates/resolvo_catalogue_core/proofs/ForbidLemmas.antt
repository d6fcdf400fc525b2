-- The line by which a version is forbidden.
use Rattle.std.proofs.Common.{◌≡◌, ◌≢◌, inl, inr, ℕ, zero, suc, Bool, true, false, not, ◌==◌, List, take, Option, Some, None, refl, sym, ap, subst, ◌∙◌}
use Rattle.std.specs.Prelude.{slice_get, option_and_then}
use Rattle.std.specs.Option.{option_map_or}
use Rattle.std.proofs.lemmas.Bool.Decides.{Decides-eqb}
use Rattle.std.proofs.lemmas.Option.{slice_get-get_or}
use Rattle.resolvo_text.specs.Line.{Version, Line, Skipped, Listed, Needs, Limits, Unknown, Lock, Favour, Exclude, Many, Wish}
use Rattle.resolvo_catalogue_core.specs.Grammar.{line_at, owner_below}
use Rattle.resolvo_catalogue_core.specs.Questions.{LineIs, Locks, LocksAnother, Excludes, Forbids, IsOnly, IsVersionLine}
use Rattle.resolvo_catalogue_core.specs.Table.{line_of, IsKindOf, IsTable, lines_in, versions_in, kinds_in, mark_of}
use Rattle.resolvo_catalogue_core.specs.declared.kept_rule.KeptRule.TheVariants as kept
use Rattle.resolvo_catalogue_core.specs.Kept.{nowhere, is_lock_of_another}
use Rattle.resolvo_terms.specs.Terms.{Terms}
use Rattle.resolvo_catalogue_core.specs.Held.{kind_at, rule_of}
use Rattle.resolvo_catalogue_core.specs.LineKind.{LineKind}
use Rattle.resolvo_catalogue_core.specs.LineKind as line_kinds
use Rattle.resolvo_catalogue_core.specs.declared.table.Table.{Table}
use Rattle.resolvo_catalogue_core.proofs.TableSteps.{one_number}
use Rattle.resolvo_catalogue_core.proofs.TableLemmas as lemmas

none_is_some : (n : ℕ) → ◌≡◌ {A = Option ℕ} None (Some n) → ⊥
none_is_some n e = cc

locks_of_another : (lines : List Line) (v : Version) (n : ℕ) → LineIs lines n (LocksAnother v) → LineIs lines n (Locks v.name)
locks_of_another lines v n (Lock w, at, h) = (Lock w, at, h.0)
locks_of_another lines v n (Skipped, at, h) = absurd h
locks_of_another lines v n (Listed w, at, h) = absurd h
locks_of_another lines v n (Needs ss c, at, h) = absurd h
locks_of_another lines v n (Limits s, at, h) = absurd h
locks_of_another lines v n (Unknown r, at, h) = absurd h
locks_of_another lines v n (Favour w, at, h) = absurd h
locks_of_another lines v n (Many name, at, h) = absurd h
locks_of_another lines v n (Exclude w r, at, h) = absurd h
locks_of_another lines v n (Wish w, at, h) = absurd h

-- a locked version's number, and whether that is another than k
lock_kind : (t : Terms) (vs : List Version) (above : Option Version) (s : LineKind) (w : Version) (k : ℕ) → IsKindOf t vs above s → line_of t vs s ≡ Lock w → (j : ℕ) × (slice_get vs j ≡ Some w) × (option_map_or (λ r. is_lock_of_another r k) (rule_of s) false ≡ not (j == k))
lock_kind t vs above (line_kinds.Rule (kept.Lock j)) w k is e = (j.0, slice_get-get_or vs j.0 nowhere is.1 ∙ cc, refl)
lock_kind t vs above line_kinds.Nothing w k is e = absurd cc
lock_kind t vs above (line_kinds.Listed j) w k is e = absurd cc
lock_kind t vs above (line_kinds.Favour j) w k is e = absurd cc
lock_kind t vs above (line_kinds.Many name) w k is e = absurd cc
lock_kind t vs above (line_kinds.Rule (kept.Needs of need)) w k is e = absurd cc
lock_kind t vs above (line_kinds.Rule (kept.Limits of s)) w k is e = absurd cc
lock_kind t vs above (line_kinds.Rule (kept.Unknown of r)) w k is e = absurd cc
lock_kind t vs above (line_kinds.Rule (kept.Exclude j r)) w k is e = absurd cc

abbrev is_other : Table → ℕ → ℕ → Bool
is_other t line k = option_map_or (λ r. is_lock_of_another r k) (option_and_then rule_of (kind_at (kinds_in t) line)) false

lock_at : (t : Table) → IsTable t → (line : ℕ) (w : Version) (k : ℕ) → line_at (lines_in t) line ≡ Some (Lock w) → (j : ℕ) × (slice_get (versions_in t) j ≡ Some w) × (is_other t line k ≡ not (j == k))
lock_at t keeps zero w k at = absurd cc
lock_at t keeps (suc n) w k at =
    let s = lemmas.kind_at t.terms (versions_in t) (kinds_in t) n (Lock w) at in
    let h = lock_kind t.terms (versions_in t) (owner_below (take n (lines_in t))) s.0 w k (keeps.kinds n s.0 s.1) s.2 in
    (h.0, h.1, ap (λ (o : Option LineKind). option_map_or (λ r. is_lock_of_another r k) (option_and_then rule_of o) false) s.1 ∙ h.2)

-- the line that locks a version of the package, with the version
lock_line : (t : Table) → IsTable t → (name : List ℕ) (line : ℕ) → mark_of t.terms.names t.locks name ≡ Some line → (w : Version) × (line_at (lines_in t) line ≡ Some (Lock w)) × (w.name ≡ name)
lock_line t keeps name line some = from_line ((keeps.locks name line).0 some)
  where
    from_line : LineIs (lines_in t) line (Locks name) → (w : Version) × (line_at (lines_in t) line ≡ Some (Lock w)) × (w.name ≡ name)
    from_line (Lock w, at, h) = (w, at, h)
    from_line (Skipped, at, h) = absurd h
    from_line (Listed w, at, h) = absurd h
    from_line (Needs ss c, at, h) = absurd h
    from_line (Limits s, at, h) = absurd h
    from_line (Unknown r, at, h) = absurd h
    from_line (Favour w, at, h) = absurd h
    from_line (Many name, at, h) = absurd h
    from_line (Exclude w r, at, h) = absurd h
    from_line (Wish w, at, h) = absurd h

same_version : (w v : Version) → w.name ≡ v.name → w.number ≡ v.number → w ≡ v
same_version w v names numbers = ap (λ (n : List ℕ). let x : Version = record { name = n; number = w.number } in x) names ∙ ap (λ (n : ℕ). let x : Version = record { name = v.name; number = n } in x) numbers

-- ---- the lock of the version's package

pub no_lock : (t : Table) → IsTable t → (v : Version) → mark_of t.terms.names t.locks v.name ≡ None → IsOnly None (λ n. LineIs (lines_in t) n (LocksAnother v))
no_lock t keeps v none = λ n. (
  λ e. absurd (none_is_some n e),
  λ h.
      let some = (keeps.locks v.name n).1 (locks_of_another (lines_in t) v n h) in
      absurd (none_is_some n (sym none ∙ some)),
)

-- where the package's lock is known, no other line locks another version
one_lock : (t : Table) → IsTable t → (v : Version) (line : ℕ) → mark_of t.terms.names t.locks v.name ≡ Some line → (n : ℕ) → LineIs (lines_in t) n (LocksAnother v) → line ≡ n
one_lock t keeps v line some n h =
    let other = (keeps.locks v.name n).1 (locks_of_another (lines_in t) v n h) in
    let both : ◌≡◌ {A = Option ℕ} (Some line) (Some n) = sym some ∙ other in cc

pub other_lock : (t : Table) → IsTable t → (v : Version) (k line : ℕ) → slice_get (versions_in t) k ≡ Some v → mark_of t.terms.names t.locks v.name ≡ Some line → is_other t line k ≡ true → IsOnly (Some line) (λ n. LineIs (lines_in t) n (LocksAnother v))
other_lock t keeps v k line at some other =
    let w = lock_line t keeps v.name line some in
    let j = lock_at t keeps line w.0 k w.1 in
    let differs : w.0.number ≢ v.number = λ numbers.
    let one : w.0 ≡ v = same_version w.0 v w.2 numbers in
    let places : j.0 ≡ k = one_number t (versions_in t) (lines_in t) keeps v j.0 k (j.1 ∙ ap (λ (x : Version). Some x) one) at in
    true_not (j.0 == k) ((Decides-eqb j.0 k).1 places) (sym j.2 ∙ other) in
    λ n. (λ e. let is : line ≡ n = cc in subst (λ (m : ℕ). LineIs (lines_in t) m (LocksAnother v)) is (Lock w.0, w.1, (w.2, differs)), λ h. ap (λ (m : ℕ). Some m) (one_lock t keeps v line some n h))
  where
    true_not : (b : Bool) → b ≡ true → not b ≡ true → ⊥
    true_not true e f = cc
    true_not false e f = cc

pub own_lock : (t : Table) → IsTable t → (v : Version) (k line : ℕ) → slice_get (versions_in t) k ≡ Some v → mark_of t.terms.names t.locks v.name ≡ Some line → is_other t line k ≡ false → IsOnly None (λ n. LineIs (lines_in t) n (LocksAnother v))
own_lock t keeps v k line at some own =
    let w = lock_line t keeps v.name line some in
    let j = lock_at t keeps line w.0 k w.1 in
    let places : j.0 ≡ k = (Decides-eqb j.0 k).0 (not_false (j.0 == k) (sym j.2 ∙ own)) in
    let one : Some w.0 ≡ Some v = sym j.1 ∙ ap (λ (m : ℕ). slice_get (versions_in t) m) places ∙ at in
    λ n. (
      λ e. absurd (none_is_some n e),
      λ h.
          let here = one_lock t keeps v line some n h in
          absurd (never w.0 one w.1 (subst (λ (m : ℕ). LineIs (lines_in t) m (LocksAnother v)) (sym here) h)),
    )
  where
    not_false : (b : Bool) → not b ≡ false → b ≡ true
    not_false true e = refl
    not_false false e = absurd cc

    never : (w : Version) → Some w ≡ Some v → line_at (lines_in t) line ≡ Some (Lock w) → LineIs (lines_in t) line (LocksAnother v) → ⊥
    never w one at_w (Lock x, at_x, h) = let same_lock : x ≡ v = cc in h.1 (ap (λ (y : Version). y.number) same_lock)
    never w one at_w (Skipped, at_x, h) = h
    never w one at_w (Listed x, at_x, h) = h
    never w one at_w (Needs ss c, at_x, h) = h
    never w one at_w (Limits s, at_x, h) = h
    never w one at_w (Unknown r, at_x, h) = h
    never w one at_w (Favour x, at_x, h) = h
    never w one at_w (Many name, at_x, h) = h
    never w one at_w (Exclude x r, at_x, h) = h
    never w one at_w (Wish x, at_x, h) = h

-- ---- the line by which it is forbidden

pub forbidden_by_lock : (lines : List Line) (v : Version) (line : ℕ) → IsOnly (Some line) (λ n. LineIs lines n (LocksAnother v)) → IsOnly (Some line) (λ n. Forbids lines v n)
forbidden_by_lock lines v line only = λ n. (λ e. inl ((only n).0 e), λ forbids. elim forbids [ inl locks ↦ (only n).1 locks | inr h ↦ absurd (h.0 line ((only line).0 refl)) ])

pub forbidden_by_exclusion : (vs : List Version) (lines : List Line) (v : Version) (k : ℕ) (found : Option ℕ) → slice_get vs k ≡ Some v → IsOnly None (λ n. LineIs lines n (LocksAnother v)) → IsOnly found (IsVersionLine vs lines k Excludes) → IsOnly found (λ n. Forbids lines v n)
forbidden_by_exclusion vs lines v k found at none only =
    let no_locks = λ (m : ℕ) (h : LineIs lines m (LocksAnother v)). none_is_some m ((none m).1 h) in
    λ n. (
      λ e.
          let parsed = (only n).0 e in
          let same : parsed.0 ≡ v = cc (parsed.1, at) in
          inr (no_locks, subst (λ (x : Version). LineIs lines n (Excludes x)) same parsed.2),
      λ forbids. elim forbids [ inl locks ↦ absurd (no_locks n locks) | inr h ↦ (only n).1 (v, at, h.1) ],
    )

pub forbidden_version : (vs : List Version) (lines : List Line) (v : Version) (k : ℕ) (found : Option ℕ) → slice_get vs k ≡ Some v → IsOnly found (λ n. Forbids lines v n) → IsOnly found (λ n. (x : Version) × (slice_get vs k ≡ Some x) × Forbids lines x n)
forbidden_version vs lines v k found at only = λ n. (λ e. (v, at, (only n).0 e), λ h. let same : h.0 ≡ v = cc (h.1, at) in (only n).1 (subst (λ (x : Version). Forbids lines x n) same h.2))

pub forbidden_none : (vs : List Version) (lines : List Line) (k : ℕ) → slice_get vs k ≡ None → IsOnly None (λ n. (x : Version) × (slice_get vs k ≡ Some x) × Forbids lines x n)
forbidden_none vs lines k none = λ n. (λ e. absurd (none_is_some n e), λ h. absurd (no_version h.0 (sym none ∙ h.1)))
  where
    no_version : (x : Version) → ◌≡◌ {A = Option Version} None (Some x) → ⊥
    no_version x e = cc
