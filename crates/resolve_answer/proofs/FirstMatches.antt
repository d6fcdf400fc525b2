-- The first match of a SPEC: there is one where there is a match, and nothing is tried before it.
use Rattle.std.proofs.Common.{◌≡◌, ◌⊎◌, inl, inr, ℕ, ◌<◌, ◌≤◌, Bool, true, false, List, [], ◌∷◌, take, Option, Some, None, refl, sym, ap, subst, ◌∙◌, arith}
use Rattle.std.specs.Prelude.{Contains, slice_get}
use Rattle.std.specs.List.{list_any}
use Rattle.std.proofs.lemmas.Bool.{cases_lt, false≢true, and_parts, and_from, or_cases, or_left, or_right}
use Rattle.resolvo_text.specs.Line.{Version, Spec, Cond, Is, And, Or, Line, Skipped, Listed, Needs, Limits, Unknown, Lock, Favour, Exclude, Many, Wish}
use Rattle.resolvo_text.specs.Matches.{Set, matches, is_met, holds, condition_holds}
use Rattle.resolvo_catalogue_core.specs.Grammar.{AreCatalogueLines}
use Rattle.resolvo_catalogue_core.specs.Listed.{listed}
use Rattle.resolvo_catalogue_core.specs.Rules.{binds}
use Rattle.resolvo_catalogue_core.proofs.TableLemmas.{listed_from, listed_has}
use Rattle.resolvo_terms.proofs.Places.{at_from_contains, contains_from_at, no_element, first_element, later_element, element_cases}
use Rattle.resolvo_catalogue.proofs.PassLemmas.{any_from, any_to}
use Rattle.resolvo_catalogue.proofs.RulesKept.{below_take, in_front, member_from, member_to}
use Rattle.resolve_answer.specs.First.{IsFavoured, IsMatch, IsFirstMatch, IsNeeded}

-- ---- the newest version that passes a test

pub record IsNewestOf (test : Version → Bool) (vs : List Version) (v : Version) : Type 0 where
  pub among : Contains vs v
  pub passes : test v ≡ true
  pub newest : (w : Version) → Contains vs w → test w ≡ true → w.number ≤ v.number

abbrev NonePasses : (Version → Bool) → List Version → Type 0
NonePasses test vs = (w : Version) → Contains vs w → test w ≡ true → ⊥

newest_or_none : (test : Version → Bool) (vs : List Version) → NonePasses test vs ⊎ ((v : Version) × IsNewestOf test vs v)
newest_or_none test [] = inl (λ w c t. no_element w c)
newest_or_none test (x ∷ xs) = go (test x) refl (newest_or_none test xs)
  where
    passes_not : test x ≡ false → (w : Version) → x ≡ w → test w ≡ true → ⊥
    passes_not e w is t = false≢true (sym e ∙ ap test is ∙ t)

    front : test x ≡ true → ((w : Version) → Contains xs w → test w ≡ true → w.number ≤ x.number) → IsNewestOf test (x ∷ xs) x
    front e low = record {
      among = first_element x xs;
      passes = e;
      newest = λ w c t. elim (element_cases x xs w c) [
        | inl is ↦ let same : x.number ≡ w.number = ap (λ (v : Version). v.number) is in omega (arith, same)
        | inr m ↦ low w m t
      ];
    }

    behind : (v : Version) → IsNewestOf test xs v → (test x ≡ true → x.number ≤ v.number) → IsNewestOf test (x ∷ xs) v
    behind v n low = record {
      among = later_element x xs v n.among;
      passes = n.passes;
      newest = λ w c t. elim (element_cases x xs w c) [
        | inl is ↦ let same : x.number ≡ w.number = ap (λ (u : Version). u.number) is in omega (arith, same, low (ap test is ∙ t))
        | inr m ↦ n.newest w m t
      ];
    }

    go : (b : Bool) → test x ≡ b → NonePasses test xs ⊎ ((v : Version) × IsNewestOf test xs v) → NonePasses test (x ∷ xs) ⊎ ((v : Version) × IsNewestOf test (x ∷ xs) v)
    go false e (inl none) = inl (λ w c t. elim (element_cases x xs w c) [ inl is ↦ passes_not e w is t | inr m ↦ none w m t ])
    go false e (inr (v, n)) = inr (v, behind v n (λ t. absurd (false≢true (sym e ∙ t))))
    go true e (inl none) = inr (x, front e (λ w m t. absurd (none w m t)))
    go true e (inr (v, n)) = elim (cases_lt v.number x.number) [
      | inl lower ↦ inr (x, front e (λ w m t. omega (arith, lower, n.newest w m t)))
      | inr up ↦ inr (v, behind v n (λ t. omega (arith, up)))
    ]

pub newest_of : (test : Version → Bool) (vs : List Version) (u : Version) → Contains vs u → test u ≡ true → (v : Version) × IsNewestOf test vs v
newest_of test vs u c t = elim (newest_or_none test vs) [ inl none ↦ absurd (none u c t) | inr some ↦ some ]

-- ---- listed versions

pub among_listed : (catalogue : List Line) (v : Version) → Contains catalogue (Listed v) → Contains (listed catalogue) v
among_listed catalogue v c = let k = listed_has catalogue v c in contains_from_at (listed catalogue) v k.0 k.1

pub from_listed : (catalogue : List Line) (v : Version) → Contains (listed catalogue) v → Contains catalogue (Listed v)
from_listed catalogue v c = let k = at_from_contains (listed catalogue) v c in listed_from catalogue v k.0 k.1

-- ---- favours

-- the line favours a version that the SPEC matches
favours_match : Spec → Line → Bool
favours_match s (Favour v) = matches s v
favours_match s Skipped = false
favours_match s (Listed v) = false
favours_match s (Needs ss c) = false
favours_match s (Limits t) = false
favours_match s (Unknown r) = false
favours_match s (Lock v) = false
favours_match s (Exclude v r) = false
favours_match s (Many name) = false
favours_match s (Wish v) = false

favour_from : (s : Spec) (l : Line) → favours_match s l ≡ true → (v : Version) × (l ≡ Favour v) × (matches s v ≡ true)
unfolding favours_match
favour_from s (Favour v) h = (v, refl, h)
favour_from s Skipped h = absurd (false≢true h)
favour_from s (Listed v) h = absurd (false≢true h)
favour_from s (Needs ss c) h = absurd (false≢true h)
favour_from s (Limits t) h = absurd (false≢true h)
favour_from s (Unknown r) h = absurd (false≢true h)
favour_from s (Lock v) h = absurd (false≢true h)
favour_from s (Exclude v r) h = absurd (false≢true h)
favour_from s (Many name) h = absurd (false≢true h)
favour_from s (Wish v) h = absurd (false≢true h)

favour_to : (s : Spec) (v : Version) → matches s v ≡ true → favours_match s (Favour v) ≡ true
unfolding favours_match
favour_to s v h = h

module _ (catalogue : List Line) (grammatical : AreCatalogueLines catalogue) where
  later_favour : (i j : ℕ) (v w : Version) → i < j → slice_get catalogue i ≡ Some (Favour v) → slice_get catalogue j ≡ Some (Favour w) → v.name ≡ w.name → ⊥
  later_favour i j v w before a b same =
      let place = (grammatical j (Favour w) b).1.place in
      let above : slice_get (take j catalogue) i ≡ Some (Favour v) = below_take catalogue i j _ before a in
      place.1 v.number (contains_from_at (take j catalogue) _ i (above ∙ ap (λ (n : List ℕ). let u : Version = record { name = n; number = v.number } in Some (Favour u)) same))

  -- no package has two favoured versions
  pub one_favour : (v w : Version) → IsFavoured catalogue v → IsFavoured catalogue w → v.name ≡ w.name → v ≡ w
  one_favour v w c d same =
      let a = at_from_contains catalogue (Favour v) c in
      let b = at_from_contains catalogue (Favour w) d in
      elim (cases_lt a.0 b.0) [
        | inl before ↦ absurd (later_favour a.0 b.0 v w before a.1 b.1 same)
        | inr past ↦ elim (cases_lt b.0 a.0) [
          | inl after ↦ absurd (later_favour b.0 a.0 w v after b.1 a.1 (sym same))
          | inr both ↦ let is : a.0 ≡ b.0 = omega (arith, past, both) in let e : Some (Favour v) ≡ Some (Favour w) = sym a.1 ∙ ap (λ (k : ℕ). slice_get catalogue k) is ∙ b.1 in cc (e)
        ]
      ]

  favoured_listed : (v : Version) → IsFavoured catalogue v → Contains catalogue (Listed v)
  favoured_listed v c =
      let at = at_from_contains catalogue (Favour v) c in
      in_front at.0 catalogue (Listed v) (grammatical at.0 (Favour v) at.1).1.place.0

  -- a SPEC that has a match has a first one
  pub first_match : (s : Spec) (u : Version) → IsMatch catalogue s u → (v : Version) × IsFirstMatch catalogue s v
  first_match s u m = go (list_any (favours_match s) catalogue) refl
    where
      go : (b : Bool) → list_any (favours_match s) catalogue ≡ b → (v : Version) × IsFirstMatch catalogue s v
      go true e =
          let l = any_from (favours_match s) catalogue e in
          let v = favour_from s l.0 l.2 in
          let favoured : IsFavoured catalogue v.0 = subst (λ (x : Line). Contains catalogue x) v.1 l.1 in
          (v.0, ((favoured_listed v.0 favoured, v.2), inl favoured))
      go false e =
          let (v, n) = newest_of (matches s) (listed catalogue) u (among_listed catalogue u m.0) m.1 in (
            v,
            (
              (from_listed catalogue v n.among, n.passes),
              inr (record {
                unfavoured = λ w d f. false≢true (sym e ∙ any_to (favours_match s) catalogue (Favour w) f (favour_to s w d.1));
                newest = λ w d. n.newest w (among_listed catalogue w d.0) d.1;
              }),
            ),
          )

-- ---- candidates tried before another

-- The one is tried before the other, where both match: the other isn't favoured, and the one is, or is newer.
abbrev pub IsSooner : List Line → Version → Version → Type 0
IsSooner catalogue x v = (IsFavoured catalogue v → ⊥) × (IsFavoured catalogue x ⊎ (v.number < x.number))

-- no match is tried before the first
pub none_sooner : (catalogue : List Line) (s : Spec) (v x : Version) → IsFirstMatch catalogue s v → IsMatch catalogue s x → IsSooner catalogue x v → ⊥
none_sooner catalogue s v x (m, inl favoured) own (plain, before) = plain favoured
none_sooner catalogue s v x (m, inr n) own (plain, inl favoured) = n.unfavoured x own favoured
none_sooner catalogue s v x (m, inr n) own (plain, inr newer) = absurd (omega (arith, newer, n.newest x own))

-- ---- needs in a larger set

module _ (set more : Set) (inside : (v : Version) → Contains set v → Contains more v) where
  met_grows : (s : Spec) → is_met s set ≡ true → is_met s more ≡ true
  met_grows s h = let v = any_from (matches s) set h in any_to (matches s) more v.0 (inside v.0 v.1) v.2

  holds_grows : (c : Cond) → holds c set ≡ true → holds c more ≡ true
  holds_grows (Is s) h = met_grows s h
  holds_grows (And a b) h = let parts = and_parts (holds a set) (holds b set) h in and_from (holds a more) (holds b more) (holds_grows a parts.0) (holds_grows b parts.1)
  holds_grows (Or a b) h = elim (or_cases (holds a set) (holds b set) h) [
    | inl left ↦ or_left (holds a more) (holds b more) (holds_grows a left)
    | inr right ↦ or_right (holds a more) (holds b more) (holds_grows b right)
  ]

  condition_grows : (c : Option Cond) → condition_holds c set ≡ true → condition_holds c more ≡ true
  condition_grows None h = refl
  condition_grows (Some c) h = holds_grows c h

  member_grows : (owner : Option Version) → binds owner set ≡ true → binds owner more ≡ true
  member_grows None h = refl
  member_grows (Some v) h = member_to v more (inside v (member_from v set h))

  -- a need in a set is one in a larger set
  pub needed_grows : (catalogue request : List Line) (alternatives : List Spec) → IsNeeded catalogue request set alternatives → IsNeeded catalogue request more alternatives
  needed_grows catalogue request alternatives need = record {
    owner = need.owner;
    condition = need.condition;
    line = need.line;
    member = member_grows need.owner need.member;
    holds = condition_grows need.condition need.holds;
  }
