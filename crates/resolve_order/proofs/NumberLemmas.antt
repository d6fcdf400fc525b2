-- The versions of a package by their numbers.
use Rattle.std.proofs.Common.{◌≡◌, ℕ, Bool, true, false, if◌then◌else◌, ◌&&◌, cond, List, [], Option, Some, None, refl, sym, ap, subst, ◌∙◌}
use Rattle.std.specs.Prelude.{slice_get, ◌==◌, nat_eq}
use Rattle.std.specs.Ordering.{nat_cmp}
use Rattle.std.specs.Str.{bytes_eq}
use Rattle.std.specs.Map.{update, lookup}
use Rattle.std.specs.BTreeMap.{BTreeMap, get, is_at}
use Rattle.std.proofs.lemmas.Bool.{false≢true, eqb-true}
use Rattle.resolvo_text.specs.Line.{Version}
use Rattle.resolvo_text.specs.Matches.{same_version}
use Rattle.resolvo_catalogue_core.specs.Listed.{AreDistinct}
use Rattle.resolvo_catalogue_core.specs.declared.rule.VersionNo.{VersionNo}
use Rattle.resolvo_catalogue_core.proofs.TableSteps.{same_version_is}
use Rattle.resolve_order.specs.Numbers.{number_at}
use Rattle.resolve_order.specs.Kept.{AreNumbersOf}

-- ---- the numbers of a package

-- A package has version n at the number of v, and is as before elsewhere.
abbrev pub PutsNumber : Version → Option VersionNo → List ℕ → (ℕ → Option VersionNo) → (ℕ → Option VersionNo) → Type 0
PutsNumber v n name before after = (number : ℕ) → after number ≡ (if same_version v (record { name = name; number = number }) then n else before number)

alike : (v u : Version) (name : List ℕ) (number : ℕ) → u.name ≡ name → u.number ≡ number → same_version v (record { name = name; number = number }) ≡ same_version v u
alike v u name number is_name is_number = ap (λ (x : List ℕ). bytes_eq v.name x && v.number == number) (sym is_name) ∙ ap (λ (x : ℕ). bytes_eq v.name u.name && v.number == x) (sym is_number)

-- one version more
pub numbers_more : (versions : List Version) (P Q : Version → Type 0) (v : Version) (n : VersionNo) (name : List ℕ) (before after : ℕ → Option VersionNo) → AreDistinct versions → slice_get versions n.0 ≡ Some v
    → ((w : Version) → P w → Q w) → Q v → ((w : Version) → Q w → (v ≡ w → ⊥) → P w) → PutsNumber v (Some n) name before after → AreNumbersOf versions P name before → AreNumbersOf versions Q name after
numbers_more versions P Q v n name before after distinct at into here back puts h = λ number k. (
  λ e. to number k (same_version v (record { name = name; number = number })) refl (sym (puts number) ∙ e),
  λ f. puts number ∙ from number k f (same_version v f.0) refl,
)
  where
    to : (number : ℕ) (k : VersionNo) (b : Bool) → same_version v (record { name = name; number = number }) ≡ b → (if b then Some n else before number) ≡ Some k
        → (u : Version) × (slice_get versions k.0 ≡ Some u) × (u.name ≡ name) × (u.number ≡ number) × Q u
    to number k true t e =
        let same : v ≡ record { name = name; number = number } = (same_version_is v (record { name = name; number = number })).0 t in
        let is : n ≡ k = cc in
        (v, subst (λ (x : VersionNo). slice_get versions x.0 ≡ Some v) is at, ap (λ (x : Version). x.name) same, ap (λ (x : Version). x.number) same, here)
    to number k false t e = let u = (h number k).0 e in (u.0, u.1, u.2, u.3, into u.0 u.4)

    from : (number : ℕ) (k : VersionNo) (f : (u : Version) × (slice_get versions k.0 ≡ Some u) × (u.name ≡ name) × (u.number ≡ number) × Q u) (b : Bool) → same_version v f.0 ≡ b
        → (if same_version v (record { name = name; number = number }) then Some n else before number) ≡ Some k
    from number k f true t =
        let same : v ≡ f.0 = (same_version_is v f.0).0 t in
        let is : n.0 ≡ k.0 = distinct v n.0 k.0 at (f.1 ∙ ap Some (sym same)) in
        ap (λ (b : Bool). if b then Some n else before number) (alike v f.0 name number f.2 f.3 ∙ t) ∙ ap (λ (i : ℕ). let x : Option VersionNo = Some (record { 0 = i }) in x) is
    from number k f false t =
        ap (λ (b : Bool). if b then Some n else before number) (alike v f.0 name number f.2 f.3 ∙ t)
        ∙ (h number k).1 (f.0, f.1, f.2, f.3, back f.0 f.4 (λ same. false≢true (sym t ∙ (same_version_is v f.0).1 same)))

-- one version less
pub numbers_less : (versions : List Version) (P Q : Version → Type 0) (v : Version) (name : List ℕ) (before after : ℕ → Option VersionNo) → ((w : Version) → Q w → P w) → (Q v → ⊥) → ((w : Version) → P w → (v ≡ w → ⊥) → Q w)
    → PutsNumber v None name before after → AreNumbersOf versions P name before → AreNumbersOf versions Q name after
numbers_less versions P Q v name before after back gone into puts h = λ number k. (
  λ e. to number k (same_version v (record { name = name; number = number })) refl (sym (puts number) ∙ e),
  λ f. puts number ∙ from number k f (same_version v f.0) refl,
)
  where
    to : (number : ℕ) (k : VersionNo) (b : Bool) → same_version v (record { name = name; number = number }) ≡ b → (if b then None else before number) ≡ Some k
        → (u : Version) × (slice_get versions k.0 ≡ Some u) × (u.name ≡ name) × (u.number ≡ number) × Q u
    to number k true t e = absurd cc
    to number k false t e =
        let u = (h number k).0 e in
        (u.0, u.1, u.2, u.3, into u.0 u.4 (λ same. false≢true (sym t ∙ alike v u.0 name number u.2 u.3 ∙ (same_version_is v u.0).1 same)))

    from : (number : ℕ) (k : VersionNo) (f : (u : Version) × (slice_get versions k.0 ≡ Some u) × (u.name ≡ name) × (u.number ≡ number) × Q u) (b : Bool) → same_version v f.0 ≡ b
        → (if same_version v (record { name = name; number = number }) then None else before number) ≡ Some k
    from number k f true t = absurd (gone (subst Q (sym ((same_version_is v f.0).0 t)) f.4))
    from number k f false t = ap (λ (b : Bool). if b then None else before number) (alike v f.0 name number f.2 f.3 ∙ t) ∙ (h number k).1 (f.0, f.1, f.2, f.3, back f.0 f.4)

-- the same versions
pub numbers_same : (versions : List Version) (P Q : Version → Type 0) (name : List ℕ) (numbers : ℕ → Option VersionNo) → ((w : Version) → P w → Q w) → ((w : Version) → Q w → P w) → AreNumbersOf versions P name numbers → AreNumbersOf versions Q name numbers
numbers_same versions P Q name numbers into back h = λ number k. (
  λ e. let u = (h number k).0 e in (u.0, u.1, u.2, u.3, into u.0 u.4),
  λ f. (h number k).1 (f.0, f.1, f.2, f.3, back f.0 f.4),
)

-- ---- maps by packages

-- The map of a package was changed at one number, and those of the others are as before.
pub put_number : (before after : BTreeMap ℕ (BTreeMap ℕ VersionNo)) (p number : ℕ) (n : Option VersionNo) (w : BTreeMap ℕ VersionNo) → ((k : ℕ) → get nat_cmp after k ≡ update nat_eq (get nat_cmp before) p (Some w) k)
    → ((q : ℕ) → get nat_cmp w q ≡ update nat_eq (number_at (get nat_cmp before p)) number n q) → (k q : ℕ) → number_at (get nat_cmp after k) q ≡ (if p == k && number == q then n else number_at (get nat_cmp before k) q)
put_number before after p number n w changed numbered k q = ap (λ (o : Option (BTreeMap ℕ VersionNo)). number_at o q) (changed k) ∙ by_test (p == k) refl
  where
    by_test : (b : Bool) → p == k ≡ b → number_at (if b then Some w else get nat_cmp before k) q ≡ (if b && number == q then n else number_at (get nat_cmp before k) q)
    by_test true e = numbered q ∙ ap (λ (i : ℕ). update nat_eq (number_at (get nat_cmp before i)) number n q) (eqb-true p k e)
    by_test false e = refl

-- the package's map, after a change at one number
pub number_updated : (m w : BTreeMap ℕ VersionNo) (o : Option (BTreeMap ℕ VersionNo)) (k : ℕ) (n : Option VersionNo) → Some m ≡ o → ((q : ℕ) → get nat_cmp w q ≡ update nat_eq (get nat_cmp m) k n q) → (q : ℕ) → get nat_cmp w q ≡ update nat_eq (number_at o) k n q
number_updated m w o k n is h q = h q ∙ ap (λ (x : Option (BTreeMap ℕ VersionNo)). update nat_eq (number_at x) k n q) is

-- a new map
pub number_new : (m w : BTreeMap ℕ VersionNo) (o : Option (BTreeMap ℕ VersionNo)) (k : ℕ) (n : Option VersionNo) → None ≡ o → m.entries ≡ [] → ((q : ℕ) → get nat_cmp w q ≡ update nat_eq (get nat_cmp m) k n q) → (q : ℕ) → get nat_cmp w q ≡ update nat_eq (number_at o) k n q
number_new m w o k n is none h q =
    h q ∙ ap (λ (x : Option VersionNo). cond (nat_eq k q) n x) (ap (λ (es : List (ℕ × VersionNo)). lookup (is_at (nat_cmp q)) es) none)
    ∙ ap (λ (x : Option (BTreeMap ℕ VersionNo)). update nat_eq (number_at x) k n q) is
