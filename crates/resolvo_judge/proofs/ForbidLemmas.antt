-- The wishes that steps forbid: built clauses, wishes by their steps, and one step more.
use Rattle.std.proofs.Common.{◌≡◌, inl, inr, ℕ, zero, suc, ◌+◌, ◌<◌, ◌≤◌, Bool, true, false, List, [], ◌∷◌, ◌++◌, length, map, take, get_or, Option, Some, None, refl, sym, ap, ◌∙◌, append_assoc, length-append, arith}
use Rattle.std.specs.Prelude.{not, ◌&&◌, ◌||◌, nat_eq, nat_lt, nat_le, is_some, slice_get, if◌then◌else◌}
use Rattle.std.specs.Global.{Vec}
use Rattle.std.specs.BTreeMap.{get}
use Rattle.std.specs.Ordering.{nat_cmp}
use Rattle.std.specs.Map.{update}
use Rattle.std.specs.List.{list_all}
use Rattle.std.specs.Option.{option_map_or, option_and_then}
use Rattle.std.proofs.lemmas.Bool.{cases_Bool, cases_lt, false≢true, and_parts, and_from, eqb-true, eq-eqb, lt-ltb, le-leb, leb-true, false_from_ne_true}
use Rattle.std.proofs.lemmas.List.{append-nil, map_push, map-append, take_more}
use Rattle.std.proofs.lemmas.List.Folds.{list_all-append}
use Rattle.std.proofs.lemmas.Option.{slice_get_past}
use Rattle.resolvo_text.specs.Line.{Version, Line}
use Rattle.resolvo_text.specs.Matches.{Set}
use Rattle.resolvo_report.specs.Value.{Step, AnswerLine, ReportLine, InstallHead, Numbered}
use Rattle.resolvo_report.specs.Value as line
use Rattle.resolvo_report.specs.Text.{numbered}
use Rattle.resolvo_checker.specs.Rup.{is_earlier}
use Rattle.resolvo_checker.specs.StepClauses.{Clause, clause_of}
use Rattle.resolvo_checker.specs.Proof.{forbids}
use Rattle.resolvo_judge.specs.Entries.{entries_of}
use Rattle.resolvo_judge.specs.declared.forbidden_wishes.Forbidden as code
use Rattle.resolvo_judge.specs.declared.forbidden_wishes.ForbiddenWishes.{ForbiddenWishes}
use Rattle.resolvo_judge.specs.ForbiddenWishes.{ForbiddenWish, forbidden_of, named_by, wishes_kept, HoldsWishes, AddsWish}
use Rattle.resolvo_judge.specs.KeptAnswers.{forbidden_from}
use Rattle.resolvo_judge.specs.Refusal.{answers_in, step_in, steps_in, step_forbids, passes}
use Rattle.resolvo_judge.specs.Forbids.{literal_forbids, built_forbid, clause_forbids, is_forbidden, is_forbidden_so_far, AreFirst, FlagsForbidden}
use Rattle.resolvo_judge.proofs.Accepted.{get_seam}
use Rattle.resolvo_judge.proofs.LogLemmas.{one_more, no_answers_more}

-- ---- clauses that are built

pub built_alike : (entries : Set) (wish : Version) (clause : Clause) → built_forbid entries wish (map Some clause) ≡ forbids entries wish clause
built_alike entries wish [] = refl
built_alike entries wish (l ∷ ls) = ap (λ b. literal_forbids entries wish l && b) (built_alike entries wish ls)

and_false : (x : Bool) → (x && false) ≡ false
and_false true = refl
and_false false = refl

-- an element that doesn't pass
pub not_all_at : {X Y : Type 0} (f : X → Y) (p : Y → Bool) (xs : List X) (i : ℕ) (x : X) → i < length xs → x ≡ get_or xs i x → p (f x) ≡ false → list_all p (map f xs) ≡ false
not_all_at f p [] i x lt is e = absurd (omega (arith, lt))
not_all_at f p (y ∷ xs) zero x lt is e = ap (λ z. p (f z) && list_all p (map f xs)) (sym is) ∙ ap (λ (b : Bool). b && list_all p (map f xs)) e
not_all_at f p (y ∷ xs) (suc i) x lt is e = ap (λ (b : Bool). p (f y) && b) (not_all_at f p xs i x (omega (arith, lt)) is e) ∙ and_false (p (f y))

-- the same under two maps
pub not_all_twice : {X Y Z : Type 0} (f : X → Y) (g : Y → Z) (p : Z → Bool) (xs : List X) (i : ℕ) (x : X) → i < length xs → x ≡ get_or xs i x → p (g (f x)) ≡ false → list_all p (map g (map f xs)) ≡ false
not_all_twice f g p [] i x lt is e = absurd (omega (arith, lt))
not_all_twice f g p (y ∷ xs) zero x lt is e = ap (λ z. p (g (f z)) && list_all p (map g (map f xs))) (sym is) ∙ ap (λ (b : Bool). b && list_all p (map g (map f xs))) e
not_all_twice f g p (y ∷ xs) (suc i) x lt is e = ap (λ (b : Bool). p (g (f y)) && b) (not_all_twice f g p xs i x (omega (arith, lt)) is e) ∙ and_false (p (g (f y)))

-- one more element that passes
pub all_more : {X Y : Type 0} (f : X → Y) (p : Y → Bool) (xs : List X) (i : ℕ) (x : X) → i < length xs → x ≡ get_or xs i x → list_all p (map f (take i xs)) ≡ true → p (f x) ≡ true → list_all p (map f (take (i + 1) xs)) ≡ true
all_more f p xs i x lt is before here =
    ap (λ ys. list_all p (map f ys)) (take_more xs i x lt ∙ ap (λ y. take i xs ++ y ∷ []) (sym is))
    ∙ (ap (list_all p) (map-append f (take i xs) (x ∷ []))
    ∙ (list_all-append p (map f (take i xs)) (f x ∷ [])
    ∙ and_from _ _ before (and_from _ _ here refl)))

-- a step that passes has a clause
pub has_clause : (catalogue request : List Line) (above : List ReportLine) (n : ℕ) (s : Step) → passes catalogue request above (Numbered n s) ≡ true → (clause : Clause) × (clause_of catalogue request s ≡ Some clause)
has_clause catalogue request above n s h = go (clause_of catalogue request s) refl (and_parts (is_some (clause_of catalogue request s)) _ h).0
  where
    go : (o : Option Clause) → clause_of catalogue request s ≡ o → is_some o ≡ true → (clause : Clause) × (clause_of catalogue request s ≡ Some clause)
    go None e t = absurd (false≢true t)
    go (Some clause) e t = (clause, e)

-- ---- wishes by their steps

pub named_more : (bs : List ForbiddenWish) (b : ForbiddenWish) (n : ℕ) → named_by (bs ++ b ∷ []) n ≡ (if nat_eq b.step n then named_by bs n ++ b ∷ [] else named_by bs n)
named_more [] b n = refl
named_more (x ∷ bs) b n = by_test (nat_eq x.step n) (named_more bs b n)
  where
    inside : (t : Bool) (ys : List ForbiddenWish) → x ∷ (if t then ys ++ b ∷ [] else ys) ≡ (if t then (x ∷ ys) ++ b ∷ [] else x ∷ ys)
    inside true ys = refl
    inside false ys = refl

    by_test : (t : Bool) → named_by (bs ++ b ∷ []) n ≡ (if nat_eq b.step n then named_by bs n ++ b ∷ [] else named_by bs n)
        → (if t then x ∷ named_by (bs ++ b ∷ []) n else named_by (bs ++ b ∷ []) n) ≡ (if nat_eq b.step n then (if t then x ∷ named_by bs n else named_by bs n) ++ b ∷ [] else (if t then x ∷ named_by bs n else named_by bs n))
    by_test true more = ap (λ (ys : List ForbiddenWish). x ∷ ys) more ∙ inside (nat_eq b.step n) (named_by bs n)
    by_test false more = more

-- a wish is put to those of its step
pub puts_wish : (before after : ℕ → Option (Vec code.Forbidden)) (b : ForbiddenWish) (kept : Vec code.Forbidden) → ((n : ℕ) → after n ≡ update nat_eq before b.step (Some kept) n) → map forbidden_of kept.items ≡ wishes_kept (before b.step) ++ b ∷ [] → AddsWish before b after
puts_wish before after b kept updated items n =
    elim (cases_Bool (nat_eq b.step n)) [
      | inl here ↦
          let is : b.step ≡ n = eqb-true b.step n here in
          ap wishes_kept (updated n) ∙ rw here (items ∙ ap (λ (k : ℕ). wishes_kept (before k) ++ b ∷ []) is)
      | inr apart ↦ ap wishes_kept (updated n) ∙ rw apart refl
    ]

pub holds_more : (before after : ForbiddenWishes) (wishes : List ForbiddenWish) (b : ForbiddenWish) → AddsWish (get nat_cmp before.by_step) b (get nat_cmp after.by_step) → after.steps.items ≡ before.steps.items ++ b.step ∷ [] → HoldsWishes before wishes → HoldsWishes after (wishes ++ b ∷ [])
holds_more before after wishes b adds steps h = record {
  by_step = λ n. adds n ∙ ap (λ (bs : List ForbiddenWish). if nat_eq b.step n then bs ++ b ∷ [] else bs) (h.by_step n) ∙ sym (named_more wishes b n);
  steps = steps ∙ ap (λ (ns : List ℕ). ns ++ b.step ∷ []) h.steps ∙ sym (map_push (λ (x : ForbiddenWish). x.step) wishes b);
}

-- ---- which steps are there

earlier_yes : (c k : ℕ) → 0 < k → k ≤ c → is_earlier c k ≡ true
earlier_yes c k some within = and_from (nat_lt 0 k) (nat_le k c) (lt-ltb 0 k some) (le-leb k c within)

earlier_no : (c k : ℕ) → c < k → is_earlier c k ≡ false
earlier_no c k past = false_from_ne_true (is_earlier c k) (λ t. let low = leb-true k c (and_parts (nat_lt 0 k) (nat_le k c) t).1 in omega (arith, past, low))

get_prefix : {X : Type 0} (xs ys : List X) (k : ℕ) → k < length xs → slice_get (xs ++ ys) k ≡ slice_get xs k
get_prefix [] ys k h = absurd (omega (arith, h))
get_prefix (x ∷ xs) ys zero h = refl
get_prefix (x ∷ xs) ys (suc k) h = get_prefix xs ys k (omega (arith, h))

-- ---- tests of many

group : (x y z : Bool) → ((x && y) && z) ≡ (x && (y && z))
group true y z = refl
group false y z = refl

swap : (x y z : Bool) → (x && (y && z)) ≡ (y && (x && z))
swap true y z = refl
swap false true z = refl
swap false false z = refl

both : (there x rest others all : Bool) → (there ≡ false → x ≡ false) → (rest && others) ≡ all → (((not there || x) && rest) && (there && others)) ≡ (x && all)
both true x rest others all none h = group x rest others ∙ ap (λ y. x && y) h
both false x rest others all none h = and_false rest ∙ sym (ap (λ y. y && all) (none refl))

asked : (x rest c others y all : Bool) → x ≡ true → c ≡ y → (rest && others) ≡ all → ((x && rest) && (c && others)) ≡ (y && all)
asked x rest c others y all e f h = ap (λ z. (z && rest) && (c && others)) e ∙ (swap rest c others ∙ (ap (λ z. z && (rest && others)) f ∙ ap (λ z. y && z) h))

unasked : (x rest others y all : Bool) → x ≡ y → (rest && others) ≡ all → ((x && rest) && others) ≡ (y && all)
unasked x rest others y all e h = group x rest others ∙ (ap (λ z. z && (rest && others)) e ∙ ap (λ z. y && z) h)

module _ (catalogue request : List Line) where
  -- a step that isn't there forbids nothing
  none_forbid : (steps : List Step) (set : Set) (wish : Version) (k : ℕ) → is_earlier (length steps) k ≡ false → step_forbids catalogue request steps set wish k ≡ false
  none_forbid steps set wish zero e = refl
  none_forbid steps set wish (suc k) e = elim (cases_lt (length steps) (suc k)) [
    | inl past ↦ ap (λ (o : Option Step). option_map_or (forbids set wish) (option_and_then (clause_of catalogue request) o) false) (slice_get_past steps k (omega (arith, past)))
    | inr within ↦ absurd (false≢true (sym e ∙ earlier_yes (length steps) (suc k) (omega arith) within))
  ]

  -- each wish is forbidden, where the steps so far forbid theirs, and include all steps of wishes
  pub all_forbidden : (steps : List Step) (set : Set) (bs : List ForbiddenWish) → (list_all (is_forbidden_so_far catalogue request steps set) bs && list_all (is_earlier (length steps)) (map (λ b. b.step) bs)) ≡ list_all (is_forbidden catalogue request steps set) bs
  all_forbidden steps set [] = refl
  all_forbidden steps set (b ∷ bs) =
      both (is_earlier (length steps) b.step) (is_forbidden catalogue request steps set b) (list_all (is_forbidden_so_far catalogue request steps set) bs) (list_all (is_earlier (length steps)) (map (λ x. x.step) bs)) (list_all (is_forbidden catalogue request steps set) bs)
      (none_forbid steps (take b.above set) b.wish b.step) (all_forbidden steps set bs)

  -- no step is there yet
  all_open : (set : Set) (bs : List ForbiddenWish) → list_all (is_forbidden_so_far catalogue request [] set) bs ≡ true
  all_open set [] = refl
  all_open set (b ∷ bs) = and_from (is_forbidden_so_far catalogue request [] set b) (list_all (is_forbidden_so_far catalogue request [] set) bs) (ap (λ e. not e || is_forbidden catalogue request [] set b) (none_earlier b.step)) (all_open set bs)
    where
      none_earlier : (k : ℕ) → is_earlier 0 k ≡ false
      none_earlier zero = refl
      none_earlier (suc k) = earlier_no 0 (suc k) (omega arith)

  -- ---- one step more

  module _ (steps : List Step) (s : Step) (clause : Clause) (is : clause_of catalogue request s ≡ Some clause) (set : Set) where
    abbrev after : List Step
    after = steps ++ s ∷ []

    long : length after ≡ length steps + 1
    long = length-append steps (s ∷ [])

    -- the wishes that name it
    here : (entries : Set) (wish : Version) (k : ℕ) → k ≡ length steps + 1 → (not (is_earlier (length after) k) || step_forbids catalogue request after entries wish k) ≡ forbids entries wish clause
    here entries wish zero e = absurd (omega (arith, e))
    here entries wish (suc k) e =
        let at : k ≡ length steps = omega (arith, e) in
        ap (λ t. not t || step_forbids catalogue request after entries wish (suc k)) (earlier_yes (length after) (suc k) (omega arith) (omega (arith, e, long)))
        ∙ (ap (λ i. option_map_or (forbids entries wish) (option_and_then (clause_of catalogue request) (slice_get after i)) false) at
        ∙ (ap (λ o. option_map_or (forbids entries wish) (option_and_then (clause_of catalogue request) o) false) (get_seam steps s [])
        ∙ ap (λ o. option_map_or (forbids entries wish) o false) is))

    before : (entries : Set) (wish : Version) (k : ℕ) → k ≡ length steps + 1 → (not (is_earlier (length steps) k) || step_forbids catalogue request steps entries wish k) ≡ true
    before entries wish k e = ap (λ t. not t || step_forbids catalogue request steps entries wish k) (earlier_no (length steps) k (omega (arith, e)))

    -- the others
    other : (entries : Set) (wish : Version) (k : ℕ) → (k ≡ length steps + 1 → ⊥) → (not (is_earlier (length after) k) || step_forbids catalogue request after entries wish k) ≡ (not (is_earlier (length steps) k) || step_forbids catalogue request steps entries wish k)
    other entries wish zero apart = refl
    other entries wish (suc k) apart = elim (cases_lt (length steps) (suc k)) [
      | inr within ↦
          ap (λ t. not t || step_forbids catalogue request after entries wish (suc k)) (earlier_yes (length after) (suc k) (omega arith) (omega (arith, within, long)) ∙ sym (earlier_yes (length steps) (suc k) (omega arith) within))
          ∙ ap (λ o. not (is_earlier (length steps) (suc k)) || option_map_or (forbids entries wish) (option_and_then (clause_of catalogue request) o) false) (get_prefix steps (s ∷ []) k (omega (arith, within)))
      | inl high ↦ elim (cases_lt (length after) (suc k)) [
        | inr near ↦ absurd (apart (omega (arith, near, high, long)))
        | inl far ↦
            ap (λ t. not t || step_forbids catalogue request after entries wish (suc k)) (earlier_no (length after) (suc k) far)
            ∙ sym (ap (λ t. not t || step_forbids catalogue request steps entries wish (suc k)) (earlier_no (length steps) (suc k) high))
      ]
    ]

    pub so_far_more : (bs : List ForbiddenWish) → (list_all (is_forbidden_so_far catalogue request steps set) bs && list_all (clause_forbids set clause) (named_by bs (length steps + 1))) ≡ list_all (is_forbidden_so_far catalogue request after set) bs
    so_far_more [] = refl
    so_far_more (b ∷ bs) = one (so_far_more bs) (nat_eq b.step (length steps + 1)) refl
      where
        one : (list_all (is_forbidden_so_far catalogue request steps set) bs && list_all (clause_forbids set clause) (named_by bs (length steps + 1))) ≡ list_all (is_forbidden_so_far catalogue request after set) bs → (t : Bool) → nat_eq b.step (length steps + 1) ≡ t
            → ((is_forbidden_so_far catalogue request steps set b && list_all (is_forbidden_so_far catalogue request steps set) bs) && list_all (clause_forbids set clause) (if t then b ∷ named_by bs (length steps + 1) else named_by bs (length steps + 1)))
            ≡ (is_forbidden_so_far catalogue request after set b && list_all (is_forbidden_so_far catalogue request after set) bs)
        one rest true e =
            let at : b.step ≡ length steps + 1 = eqb-true b.step (length steps + 1) e in
            asked (is_forbidden_so_far catalogue request steps set b) (list_all (is_forbidden_so_far catalogue request steps set) bs) (clause_forbids set clause b) (list_all (clause_forbids set clause) (named_by bs (length steps + 1))) (is_forbidden_so_far catalogue request after set b) (list_all (is_forbidden_so_far catalogue request after set) bs)
            (before (take b.above set) b.wish b.step at) (sym (here (take b.above set) b.wish b.step at)) rest
        one rest false e =
            unasked (is_forbidden_so_far catalogue request steps set b) (list_all (is_forbidden_so_far catalogue request steps set) bs) (list_all (clause_forbids set clause) (named_by bs (length steps + 1))) (is_forbidden_so_far catalogue request after set b) (list_all (is_forbidden_so_far catalogue request after set) bs)
            (sym (other (take b.above set) b.wish b.step (λ at. false≢true (sym e ∙ eq-eqb b.step (length steps + 1) at)))) rest

  -- ---- one line more

  first_prefix : (above : List ReportLine) (l : ReportLine) → AreFirst (above ++ l ∷ []) → AreFirst above
  first_prefix above l first xs ys a e = first xs (ys ++ l ∷ []) a (ap (λ zs. zs ++ l ∷ []) e ∙ append_assoc xs (line.Answer a ∷ ys) (l ∷ []))

  steps_same : (above : List ReportLine) (l : ReportLine) → step_in l ≡ [] → steps_in above ≡ steps_in (above ++ l ∷ [])
  steps_same above l none = sym (one_more step_in above l [] none ∙ append-nil (steps_in above))

  pub flags_answer : (forbidden : Bool) (above : List ReportLine) (a : AnswerLine) → FlagsForbidden catalogue request forbidden above → FlagsForbidden catalogue request forbidden (above ++ line.Answer a ∷ [])
  flags_answer forbidden above a flags first =
      let none : steps_in above ≡ [] = first above [] a refl in
      flags (first_prefix above (line.Answer a) first)
      ∙ ap (λ xs. list_all (is_forbidden_so_far catalogue request xs (entries_of (answers_in above))) (forbidden_from 0 (answers_in above))) none
      ∙ all_open (entries_of (answers_in above)) (forbidden_from 0 (answers_in above))
      ∙ sym (ap (λ xs. list_all (is_forbidden_so_far catalogue request xs (entries_of (answers_in (above ++ line.Answer a ∷ [])))) (forbidden_from 0 (answers_in (above ++ line.Answer a ∷ [])))) (sym (steps_same above (line.Answer a) refl) ∙ none)
      ∙ all_open (entries_of (answers_in (above ++ line.Answer a ∷ []))) (forbidden_from 0 (answers_in (above ++ line.Answer a ∷ []))))

  pub flags_step : (forbidden : Bool) (above : List ReportLine) (n : ℕ) (s : Step) (clause : Clause) (forbid : Bool) → clause_of catalogue request s ≡ Some clause
      → forbid ≡ list_all (clause_forbids (entries_of (answers_in above)) clause) (named_by (forbidden_from 0 (answers_in above)) (length (steps_in above) + 1)) → FlagsForbidden catalogue request forbidden above → FlagsForbidden catalogue request (forbidden && forbid) (above ++ Numbered n s ∷ [])
  flags_step forbidden above n s clause forbid is asked flags first =
      let l : ReportLine = Numbered n s in
      ap (λ b. b && forbid) (flags (first_prefix above l first))
      ∙ ap (λ b. list_all (is_forbidden_so_far catalogue request (steps_in above) (entries_of (answers_in above))) (forbidden_from 0 (answers_in above)) && b) asked
      ∙ so_far_more (steps_in above) s clause is (entries_of (answers_in above)) (forbidden_from 0 (answers_in above))
      ∙ ap (λ xs. list_all (is_forbidden_so_far catalogue request xs (entries_of (answers_in above))) (forbidden_from 0 (answers_in above))) (sym (one_more step_in above l (s ∷ []) refl))
      ∙ ap (λ xs. list_all (is_forbidden_so_far catalogue request (steps_in (above ++ l ∷ [])) (entries_of xs)) (forbidden_from 0 xs)) (no_answers_more above l refl)

-- ---- the answers of an install report are above its steps

no_answer_below : (ss : List Step) (n : ℕ) (xs ys : List ReportLine) (a : AnswerLine) → numbered n ss ≡ xs ++ line.Answer a ∷ ys → ⊥
no_answer_below [] n [] ys a e = cc
no_answer_below [] n (x ∷ xs) ys a e = cc
no_answer_below (s ∷ ss) n [] ys a e = cc
no_answer_below (s ∷ ss) n (x ∷ xs) ys a e = let t : numbered (n + 1) ss ≡ xs ++ line.Answer a ∷ ys = cc in no_answer_below ss (n + 1) xs ys a t

none_above : (ls : List AnswerLine) (ss : List Step) (n : ℕ) (xs ys : List ReportLine) (a : AnswerLine) → map (λ x. line.Answer x) ls ++ numbered n ss ≡ xs ++ line.Answer a ∷ ys → steps_in xs ≡ []
none_above ls ss n [] ys a e = refl
none_above [] ss n (x ∷ xs) ys a e = absurd (no_answer_below ss n (x ∷ xs) ys a e)
none_above (l ∷ ls) ss n (x ∷ xs) ys a e =
    let h : line.Answer l ≡ x = cc in
    let t : map (λ x. line.Answer x) ls ++ numbered n ss ≡ xs ++ line.Answer a ∷ ys = cc in
    ap (λ z. step_in z ++ steps_in xs) (sym h) ∙ none_above ls ss n xs ys a t

pub answers_first : (ls : List AnswerLine) (ss : List Step) → AreFirst (InstallHead ∷ (map (λ x. line.Answer x) ls ++ numbered 1 ss))
answers_first ls ss [] ys a e = absurd cc
answers_first ls ss (x ∷ xs) ys a e =
    let h : InstallHead ≡ x = cc in
    let t : map (λ x. line.Answer x) ls ++ numbered 1 ss ≡ xs ++ line.Answer a ∷ ys = cc in
    ap (λ z. step_in z ++ steps_in xs) (sym h) ∙ none_above ls ss 1 xs ys a t
