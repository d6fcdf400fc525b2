-- Listed lines pass the judge, one after the other and at the end.
use Rattle.std.proofs.Common.{◌≡◌, ◌⊎◌, inl, inr, ℕ, zero, suc, ◌<◌, ◌≤◌, Bool, true, false, if◌then◌else◌, List, [], ◌∷◌, ◌++◌, map, take, drop, Option, Some, refl, sym, ap, subst, ◌∙◌, append_assoc, arith}
use Rattle.std.specs.Prelude.{Contains, slice_get, not, nat_lt}
use Rattle.std.specs.List.{list_any, list_all}
use Rattle.std.proofs.lemmas.Bool.{and_from, or_left, or_right, false_from_ne_true, eq-eqb, lt-ltb}
use Rattle.std.proofs.lemmas.Option.{same_Some}
use Rattle.std.proofs.lemmas.List.{append-nil, map-append}
use Rattle.std.proofs.lemmas.List.Concat.{flat_map-append}
use Rattle.std.proofs.lemmas.List.Elements.{Contains-append_left, Contains-append_right}
use Rattle.std.proofs.lemmas.Slice.Eq.{bytes_eq-Decides}
use Rattle.resolvo_text.specs.Line.{Version, Line, Wish}
use Rattle.resolvo_text.specs.Matches.{Set, same_package, same_version, is_member}
use Rattle.resolvo_catalogue_core.specs.Grammar.{line_at}
use Rattle.resolvo_catalogue_core.specs.Answers as answers
use Rattle.resolvo_catalogue_core.specs.Answers.{Answer, IsNeededBy, IsReasoned}
use Rattle.resolvo_catalogue_core.specs.Sets.{is_many, IsSingle, IsRuleKeeping}
use Rattle.resolve_order.proofs.Elements.{no_element, first_element, element_cases, any_from, any_element, mapped_element, member_from, member_none}
use Rattle.resolvo_report.specs.Value.{Place, OfRequest, OfVersion, AnswerLine, Entry, Wished, LeftOut, Step}
use Rattle.resolvo_judge.specs.Entries.{entry_of, entries_of, left_out, wish_line_of, wish_lines, is_free, may_enter, is_reason, is_wish, wishes, gives, answer_fits}
use Rattle.resolvo_judge.specs.Refusal.{answer_of, leaves_out, step_forbids, InstallEnds}
use Rattle.resolvo_judge.proofs.FitLemmas.{same_entries}
use Rattle.resolvo_checker.proofs.Sets.{same_own, is_contained}
use Rattle.resolvo_checker.proofs.ListedLemmas.{listed_in}
use Rattle.resolve_install.proofs.TurnLemmas.{IsRisingFrom}

-- ---- the reason of an entry

pub record IsReasonedBy (catalogue request : List Line) (earlier : Set) (v : Version) (place : Place) (n : ℕ) : Type 0 where
  pub new : Contains earlier v → ⊥
  pub reason : is_reason catalogue request earlier place n v ≡ true
  pub owner : (w : Version) → place ≡ OfVersion w → Contains earlier w
  pub line : 1 ≤ n

-- lines are numbered from 1
pub from_one : (lines : List Line) (n : ℕ) (l : Line) → line_at lines n ≡ Some l → 1 ≤ n
from_one lines zero l e = absurd cc
from_one lines (suc n) l e = omega arith

gives_from : (o : Option Line) (earlier : Set) (v : Version) → IsNeededBy earlier o v → gives o earlier v ≡ true
gives_from o earlier v h = rw h.2 (and_from _ _ h.3 h.4)

pub reasoned_by : (catalogue request : List Line) (earlier : Set) (v : Version) (place : Place) (n : ℕ) (others : List AnswerLine) → IsReasoned catalogue request earlier (map answer_of (Entry v place n ∷ others)) → IsReasonedBy catalogue request earlier v place n
reasoned_by catalogue request earlier v OfRequest n others h = record {
  new = h.0;
  reason = gives_from (line_at request n) earlier v h.1;
  owner = λ w e. absurd cc;
  line = from_one request n _ h.1.2;
}
reasoned_by catalogue request earlier v (OfVersion u) n others h = record {
  new = h.0;
  reason = and_from _ _ (is_contained earlier u h.1.0) (rw (h.1.1, same_own u) (gives_from (line_at catalogue n) earlier v h.1.2));
  owner = λ w e. let is : u ≡ w = cc in subst (λ (x : Version). Contains earlier x) is h.1.0;
  line = from_one catalogue n _ h.1.2.2;
}

-- ---- parts of the lines

reasoned_at : (catalogue request : List Line) (earlier : Set) (one two : List Answer) → IsReasoned catalogue request earlier (one ++ two) → IsReasoned catalogue request (earlier ++ answers.entries_of one) two
reasoned_at catalogue request earlier [] two h = subst (λ (set : Set). IsReasoned catalogue request set two) (sym (append-nil earlier)) h
reasoned_at catalogue request earlier (answers.Entry v reason ∷ one) two h =
    subst (λ (set : Set). IsReasoned catalogue request set two) (append_assoc earlier (v ∷ []) (answers.entries_of one)) (reasoned_at catalogue request (earlier ++ v ∷ []) one two h.2)
reasoned_at catalogue request earlier (answers.LeftOut v n step ∷ one) two h = reasoned_at catalogue request earlier one two h

-- the numbers before one of a rising list are smaller
rising_seam : (before after : List ℕ) (n last : ℕ) → IsRisingFrom last (before ++ n ∷ after) → (last < n) × (list_all (λ m. nat_lt m n) before ≡ true)
rising_seam [] after n last h = (h.0, refl)
rising_seam (m ∷ before) after n last h =
    let r = rising_seam before after n m h.1 in
    let low : last < m = h.0 in
    let high : m < n = r.0 in
    (omega (arith, low, high), and_from _ _ (lt-ltb m n high) r.1)

pub split_at : {X : Type 0} (xs : List X) (k : ℕ) (x : X) → slice_get xs k ≡ Some x → xs ≡ take k xs ++ x ∷ drop (suc k) xs
split_at [] k x e = absurd cc
split_at (y ∷ xs) zero x e = ap (λ z. z ∷ xs) (same_Some y x e)
split_at (y ∷ xs) (suc k) x e = ap (λ zs. y ∷ zs) (split_at xs k x e)

-- where a wish is left out
left_out_parts : (lines : List AnswerLine) (v : Version) → Contains (left_out lines) v → (above : List AnswerLine) × (below : List AnswerLine) × (n : ℕ) × (step : ℕ) × (lines ≡ above ++ LeftOut v n step ∷ below)
left_out_parts [] v c = absurd (no_element v c)
left_out_parts (Entry w place n ∷ lines) v c = let r = left_out_parts lines v c in (Entry w place n ∷ r.0, r.1, r.2, r.3, ap (λ (xs : List AnswerLine). Entry w place n ∷ xs) r.4)
left_out_parts (Wished w n ∷ lines) v c = let r = left_out_parts lines v c in (Wished w n ∷ r.0, r.1, r.2, r.3, ap (λ (xs : List AnswerLine). Wished w n ∷ xs) r.4)
left_out_parts (LeftOut w n step ∷ lines) v c = elim (element_cases w (left_out lines) v c) [
  | inl is ↦ ([], lines, n, step, ap (λ (x : Version). LeftOut x n step ∷ lines) is)
  | inr more ↦ let r = left_out_parts lines v more in (LeftOut w n step ∷ r.0, r.1, r.2, r.3, ap (λ (xs : List AnswerLine). LeftOut w n step ∷ xs) r.4)
]

-- ---- the lines

-- The lines are entries of the set, with their reasons, and wishes in order. Those that are left
-- out aren't in the set, and are forbidden by their steps.
pub record AreRight (catalogue request : List Line) (steps : List Step) (set : Set) (lines : List AnswerLine) : Type 0 where
  pub reasoned : IsReasoned catalogue request [] (map answer_of lines)
  pub within : (v : Version) → Contains (entries_of lines) v → Contains set v
  pub rising : IsRisingFrom 0 (wish_lines lines)
  pub wished : (above below : List AnswerLine) (v : Version) (n step : ℕ) → lines ≡ above ++ LeftOut v n step ∷ below → line_at request n ≡ Some (Wish v)
  pub unchosen : (above below : List AnswerLine) (v : Version) (n step : ℕ) → lines ≡ above ++ LeftOut v n step ∷ below → Contains set v → ⊥
  pub forbidden : (above below : List AnswerLine) (v : Version) (n step : ℕ) → lines ≡ above ++ LeftOut v n step ∷ below → step_forbids catalogue request steps (entries_of above) v step ≡ true

module _ (catalogue request : List Line) (steps : List Step) (set : Set) (lines : List AnswerLine) (single : IsSingle catalogue set) (right : AreRight catalogue request steps set lines) where
  module _ (before : List AnswerLine) (a : AnswerLine) (below : List AnswerLine) (is : lines ≡ before ++ a ∷ below) where
    entries_are : entries_of lines ≡ entries_of before ++ entries_of (a ∷ below)
    entries_are = ap entries_of is ∙ flat_map-append entry_of before (a ∷ below)

    pub inside_before : (v : Version) → Contains (entries_of before) v → Contains set v
    inside_before v c = right.within v (subst (λ (xs : Set). Contains xs v) (sym entries_are) (Contains-append_left (entries_of before) (entries_of (a ∷ below)) v c))

    pub inside_after : (v : Version) → Contains (entries_of (a ∷ below)) v → Contains set v
    inside_after v c = right.within v (subst (λ (xs : Set). Contains xs v) (sym entries_are) (Contains-append_right (entries_of before) (entries_of (a ∷ below)) v c))

    -- the reasons of the rest
    pub reasoned_here : IsReasoned catalogue request (entries_of before) (map answer_of (a ∷ below))
    reasoned_here =
        subst (λ (xs : Set). IsReasoned catalogue request xs (map answer_of (a ∷ below))) (same_entries before)
        (reasoned_at catalogue request [] (map answer_of before) (map answer_of (a ∷ below)) (subst (λ (xs : List Answer). IsReasoned catalogue request [] xs) (ap (map answer_of) is ∙ map-append answer_of before (a ∷ below)) right.reasoned))

    -- no other version of its package is an entry, where that isn't marked `many`
    alone : (v : Version) → is_many catalogue v.name ≡ false → Contains set v → (Contains (entries_of before) v → ⊥) → list_any (same_package v) (entries_of before) ≡ false
    alone v unmarked inside new = false_from_ne_true (list_any (same_package v) (entries_of before)) (λ h.
        let w = any_element (same_package v) (entries_of before) h in
        let one : v ≡ w.0 = single.one_each v w.0 inside (inside_before w.0 w.1) ((bytes_eq-Decides v.name w.0.name).0 w.2) unmarked in
        new (subst (λ (x : Version). Contains (entries_of before) x) (sym one) w.1))

    free : (v : Version) → Contains set v → (Contains (entries_of before) v → ⊥) → is_free catalogue (entries_of before) v ≡ true
    free v inside new = by_test (is_many catalogue v.name) refl
      where
        by_test : (b : Bool) → is_many catalogue v.name ≡ b → (if b then not (is_member v (entries_of before)) else not (list_any (same_package v) (entries_of before))) ≡ true
        by_test true e = ap not (member_none (entries_of before) v new)
        by_test false e = ap not (alone v e inside new)

    -- a chosen version isn't left out above
    kept : (v : Version) → Contains set v → Contains (left_out before) v → ⊥
    kept v inside c =
        let p = left_out_parts before v c in
        right.unchosen p.0 (p.1 ++ a ∷ below) v p.2 p.3 (is ∙ ap (λ (xs : List AnswerLine). xs ++ a ∷ below) p.4 ∙ append_assoc p.0 (LeftOut v p.2 p.3 ∷ p.1) (a ∷ below)) inside

    may_be_entry : (v : Version) → Contains set v → (Contains (entries_of before) v → ⊥) → may_enter catalogue before v ≡ true
    may_be_entry v inside new = and_from _ _ (listed_in catalogue v (single.listed v inside)) (and_from _ _ (free v inside new) (ap not (member_none (left_out before) v (kept v inside))))

    -- a wish is in its turn
    is_a_wish : (v : Version) (n : ℕ) → wish_line_of a ≡ n ∷ [] → line_at request n ≡ Some (Wish v) → is_wish request before n v ≡ true
    is_a_wish v n one at = and_from _ _ (ap (λ (o : Option Line). wishes o v) at ∙ same_own v)
        (rising_seam (wish_lines before) (wish_lines below) n 0
        (subst (IsRisingFrom 0) (ap wish_lines is ∙ flat_map-append wish_line_of before (a ∷ below) ∙ ap (λ (ns : List ℕ). wish_lines before ++ (ns ++ wish_lines below)) one) right.rising)).1

  -- each line fits after those before it
  fit : (before : List AnswerLine) (a : AnswerLine) (below : List AnswerLine) → lines ≡ before ++ a ∷ below → answer_fits catalogue request before a ≡ true
  fit before (Entry v place n) below is =
      let t = reasoned_by catalogue request (entries_of before) v place n below (reasoned_here before (Entry v place n) below is) in
      and_from _ _ (may_be_entry before (Entry v place n) below is v (inside_after before (Entry v place n) below is v (first_element v (entries_of below))) t.new) t.reason
  fit before (Wished v n) below is =
      let has_reason = reasoned_here before (Wished v n) below is in
      and_from _ _ (may_be_entry before (Wished v n) below is v (inside_after before (Wished v n) below is v (first_element v (entries_of below))) has_reason.0) (is_a_wish before (Wished v n) below is v n refl has_reason.1)
  fit before (LeftOut v n step) below is =
      and_from _ _ (is_a_wish before (LeftOut v n step) below is v n refl (right.wished before below v n step is))
      (ap not (member_none (entries_of before) v (λ c. right.unchosen before below v n step is (inside_before before (LeftOut v n step) below is v c))))

  pub fits : (k : ℕ) (a : AnswerLine) → slice_get lines k ≡ Some a → answer_fits catalogue request (take k lines) a ≡ true
  fits k a e = fit (take k lines) a (drop (suc k) lines) (split_at lines k a e)

  -- ---- the end

  leaves_it_out : (l : AnswerLine) (v : Version) (n step : ℕ) → answer_of l ≡ answers.LeftOut v n step → leaves_out v n l ≡ true
  leaves_it_out (LeftOut w m k) v n step e =
      let version : w ≡ v = cc in
      let line : m ≡ n = cc in
      and_from _ _ (subst (λ (x : Version). same_version w x ≡ true) version (same_own w)) (eq-eqb m n line)
  leaves_it_out (Entry w OfRequest m) v n step e = absurd cc
  leaves_it_out (Entry w (OfVersion x) m) v n step e = absurd cc
  leaves_it_out (Wished w m) v n step e = absurd cc

  -- Where the entries keep the rules, and each wish is one of them or is left out, the lines end well.
  pub ends_well : IsRuleKeeping catalogue request (entries_of lines) → ((n : ℕ) (v : Version) → line_at request n ≡ Some (Wish v) → Contains (entries_of lines) v ⊎ ((step : ℕ) × Contains (map answer_of lines) (answers.LeftOut v n step)))
      → InstallEnds catalogue request lines steps
  ends_well keeps each = record {
    catalogue_lines = keeps.catalogue_lines;
    request_lines = keeps.request_lines;
    wishes = λ n v at. elim (each n v at) [
      | inl c ↦ or_left _ _ (member_from (entries_of lines) v c)
      | inr left ↦ (
          let l = mapped_element answer_of lines (answers.LeftOut v n left.0) left.1 in
          or_right (is_member v (entries_of lines)) (list_any (leaves_out v n) lines) (any_from (leaves_out v n) lines l.0 l.1 (leaves_it_out l.0 v n left.0 l.2))
          )
    ];
    forbidden = right.forbidden;
  }
