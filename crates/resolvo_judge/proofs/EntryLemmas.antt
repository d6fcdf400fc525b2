-- What is kept of entries and left-out wishes, with one line more.
use Rattle.std.proofs.Common.{◌≡◌, ℕ, zero, suc, ◌+◌, ◌<◌, Bool, true, false, not, ◌&&◌, ◌||◌, List, [], ◌∷◌, ◌++◌, map, length, Option, Some, None, is_some, if◌then◌else◌, ◌==◌, refl, sym, ap, subst, ◌∙◌, arith}
use Rattle.std.specs.Prelude.{nat_lt, nat_eq, slice_get}
use Rattle.std.specs.List.{list_any, list_all}
use Rattle.std.specs.Option.{option_map}
use Rattle.std.proofs.lemmas.List.{append-nil}
use Rattle.std.proofs.lemmas.List.Concat.{flat_map-append}
use Rattle.std.proofs.lemmas.Bool.{and_parts, or_left, or_right, lt-ltb, ltb-true}
use Rattle.std.proofs.lemmas.Option.{same_Some}
use Rattle.resolvo_text.specs.Line.{Version, Line, Skipped, Listed, Needs, Limits, Unknown, Lock, Favour, Exclude, Many, Wish}
use Rattle.resolvo_checker.specs.RuleLines.{owned_line, need_line, line_of_need}
use Rattle.resolvo_pool_core.specs.declared.requirement.ConditionalRequirement.{ConditionalRequirement}
use Rattle.resolvo_terms.specs.Terms.{Terms}
use Rattle.resolvo_catalogue_core.specs.Questions.{wished_in}
use Rattle.resolvo_text.specs.Matches.{Set, same_version, is_member}
use Rattle.resolvo_report.specs.Value.{AnswerLine, Entry, Wished, LeftOut}
use Rattle.resolvo_judge.specs.Entries.{entry_of, entries_of, left_out_of, left_out, wish_line_of, wish_lines, is_free, may_enter, gives, wishes, is_wish}
use Rattle.resolvo_judge.specs.Refusal.{leaves_out}
use Rattle.resolvo_judge.proofs.FreeLemmas.{free_is_new}
use Rattle.resolvo_catalogue_core.specs.Grammar.{line_at}
use Rattle.resolvo_checker.proofs.Sets.{same_is, same_own}
use Rattle.std.proofs.lemmas.Bool.Decides.{Decides-eqb}
use Rattle.std.specs.BTreeMap.{get}
use Rattle.std.specs.Ordering.{nat_cmp}
use Rattle.std.specs.Map.{update}
use Rattle.resolvo_judge.specs.Chosen.{Holds}
use Rattle.resolvo_judge.specs.Versions.{HoldsAll}
use Rattle.resolvo_judge.specs.ForbiddenWishes.{ForbiddenWish, HoldsWishes}
use Rattle.resolvo_judge.specs.KeptAnswers.{forbidden_from, is_after, KeepsAnswers, KeepsLines, IsWishAnswered}
use Rattle.resolvo_judge.specs.declared.chosen.Chosen.{Chosen}
use Rattle.resolvo_judge.specs.declared.versions.Versions.{Versions}
use Rattle.resolvo_judge.specs.declared.forbidden_wishes.ForbiddenWishes.{ForbiddenWishes}
use Rattle.resolvo_judge.specs.declared.entries.Entries.{Entries}

-- ---- one line more

entries_more : (before : List AnswerLine) (l : AnswerLine) → entries_of (before ++ l ∷ []) ≡ entries_of before ++ entry_of l
entries_more before l = flat_map-append entry_of before (l ∷ []) ∙ ap (λ (vs : Set). entries_of before ++ vs) (append-nil (entry_of l))

left_out_more : (before : List AnswerLine) (l : AnswerLine) → left_out (before ++ l ∷ []) ≡ left_out before ++ left_out_of l
left_out_more before l = flat_map-append left_out_of before (l ∷ []) ∙ ap (λ (vs : Set). left_out before ++ vs) (append-nil (left_out_of l))

wish_lines_more : (before : List AnswerLine) (l : AnswerLine) → wish_lines (before ++ l ∷ []) ≡ wish_lines before ++ wish_line_of l
wish_lines_more before l = flat_map-append wish_line_of before (l ∷ []) ∙ ap (λ (ns : List ℕ). wish_lines before ++ ns) (append-nil (wish_line_of l))

forbidden_more : (i : ℕ) (before : List AnswerLine) (l : AnswerLine) → forbidden_from i (before ++ l ∷ []) ≡ forbidden_from i before ++ forbidden_from (i + length (entries_of before)) (l ∷ [])
forbidden_more i [] l = ap (λ (k : ℕ). forbidden_from k (l ∷ [])) (omega arith)
forbidden_more i (Entry v place n ∷ before) l = forbidden_more (i + 1) before l ∙ ap (λ (k : ℕ). forbidden_from (i + 1) before ++ forbidden_from k (l ∷ [])) (omega arith)
forbidden_more i (Wished v n ∷ before) l = forbidden_more (i + 1) before l ∙ ap (λ (k : ℕ). forbidden_from (i + 1) before ++ forbidden_from k (l ∷ [])) (omega arith)
forbidden_more i (LeftOut v n step ∷ before) l = ap (λ (bs : List ForbiddenWish). record { wish = v; step = step; above = i } ∷ bs) (forbidden_more i before l)

-- ---- rising lines

-- the last line is the greatest
last_greatest : (ns : List ℕ) (n k : ℕ) → list_all (λ m. nat_lt m n) ns ≡ true → list_all (λ m. nat_lt m k) (ns ++ n ∷ []) ≡ nat_lt n k
last_greatest [] n k h = and_true (nat_lt n k)
  where
    and_true : (b : Bool) → b && true ≡ b
    and_true true = refl
    and_true false = refl
last_greatest (m ∷ ns) n k h =
    let p = and_parts (nat_lt m n) (list_all (λ x. nat_lt x n) ns) h in
    ap (λ (b : Bool). nat_lt m k && b) (last_greatest ns n k p.1) ∙ below (nat_lt n k) refl (ltb-true m n p.0)
  where
    below : (b : Bool) → nat_lt n k ≡ b → m < n → nat_lt m k && b ≡ b
    below true e lt = ap (λ (b : Bool). b && true) (lt-ltb m k (omega (arith, lt, ltb-true n k e)))
    below false e lt = and_false (nat_lt m k)
      where
        and_false : (b : Bool) → b && false ≡ false
        and_false true = refl
        and_false false = refl

rises : (request : List Line) (before : List AnswerLine) (n : ℕ) (v : Version) → is_wish request before n v ≡ true → (k : ℕ) → list_all (λ m. nat_lt m k) (wish_lines before ++ n ∷ []) ≡ is_after (Some n) k
rises request before n v h k = last_greatest (wish_lines before) n k (and_parts _ _ h).1

-- ---- left-out lines

or_false : (b : Bool) → b || false ≡ b
or_false true = refl
or_false false = refl

any_more : {X : Type 0} (p : X → Bool) (xs : List X) (y : X) → list_any p (xs ++ y ∷ []) ≡ list_any p xs || p y
any_more p [] y = or_false (p y)
any_more p (x ∷ xs) y = ap (λ (b : Bool). p x || b) (any_more p xs y) ∙ grouped (p x) (list_any p xs) (p y)
  where
    grouped : (a b c : Bool) → a || (b || c) ≡ (a || b) || c
    grouped true b c = refl
    grouped false b c = refl

wished_same : (o : Option Line) (v w : Version) → wishes o v ≡ true → wishes o w ≡ true → same_version v w ≡ true
wished_same (Some (Wish x)) v w hv hw = subst (λ (y : Version). same_version v y ≡ true) (sym (same_is w x hw)) hv
wished_same None v w hv hw = absurd cc
wished_same (Some Skipped) v w hv hw = absurd cc
wished_same (Some (Listed x)) v w hv hw = absurd cc
wished_same (Some (Needs ss c)) v w hv hw = absurd cc
wished_same (Some (Limits s)) v w hv hw = absurd cc
wished_same (Some (Unknown r)) v w hv hw = absurd cc
wished_same (Some (Lock x)) v w hv hw = absurd cc
wished_same (Some (Favour x)) v w hv hw = absurd cc
wished_same (Some (Many name)) v w hv hw = absurd cc
wished_same (Some (Exclude x r)) v w hv hw = absurd cc

line_more : (request : List Line) (before : List AnswerLine) (v : Version) (n step k : ℕ) (w : Version) (o : Option ℕ) → wishes (line_at request n) v ≡ true → wishes (line_at request k) w ≡ true → is_some o ≡ list_any (leaves_out w k) before
    → is_some (if nat_eq n k then Some step else o) ≡ list_any (leaves_out w k) before || (same_version v w && n == k)
line_more request before v n step k w o hv hw old = by_test (nat_eq n k) refl
  where
    or_true : (b : Bool) → true ≡ b || true
    or_true true = refl
    or_true false = refl

    and_no : (b : Bool) → b && false ≡ false
    and_no true = refl
    and_no false = refl

    by_test : (b : Bool) → nat_eq n k ≡ b → is_some (if b then Some step else o) ≡ list_any (leaves_out w k) before || (same_version v w && b)
    by_test true e =
        let same : same_version v w ≡ true = wished_same (line_at request k) v w (subst (λ (j : ℕ). wishes (line_at request j) v ≡ true) ((Decides-eqb n k).0 e) hv) hw in
        or_true (list_any (leaves_out w k) before) ∙ ap (λ (b : Bool). list_any (leaves_out w k) before || (b && true)) (sym same)
    by_test false e = old ∙ sym (ap (λ (b : Bool). list_any (leaves_out w k) before || b) (and_no (same_version v w)) ∙ or_false (list_any (leaves_out w k) before))

-- ---- lines that fit

fresh : (catalogue : List Line) (before : List AnswerLine) (v : Version) → may_enter catalogue before v ≡ true → is_member v (entries_of before) ≡ false
fresh catalogue before v h = free_is_new catalogue (entries_of before) v (and_parts (is_free catalogue (entries_of before) v) (not (is_member v (left_out before))) (and_parts _ _ h).1).0

abbrev pub Adds : Chosen → Chosen → Version → Type 0
Adds old new v = (set : Set) → Holds old set → is_member v set ≡ false → Holds new (set ++ v ∷ [])

pub entry_kept : (e : Entries) (chosen : Chosen) (catalogue : List Line) (before : List AnswerLine) (l : AnswerLine) (v : Version) → entry_of l ≡ v ∷ [] → left_out_of l ≡ [] → wish_line_of l ≡ [] → ((i : ℕ) → forbidden_from i (l ∷ []) ≡ [])
    → KeepsAnswers e before → may_enter catalogue before v ≡ true → Adds e.chosen chosen v → KeepsAnswers (record e { chosen = chosen }) (before ++ l ∷ [])
entry_kept e chosen catalogue before l v entry out wish none h may adds = record {
  chosen = subst (λ (vs : Set). Holds chosen vs) (sym (entries_more before l ∙ ap (λ (vs : Set). entries_of before ++ vs) entry)) (adds (entries_of before) h.chosen (fresh catalogue before v may));
  out = subst (λ (vs : Set). HoldsAll e.out vs) (sym (left_out_more before l ∙ ap (λ (vs : Set). left_out before ++ vs) out ∙ append-nil (left_out before))) h.out;
  rising = λ n. ap (λ (ns : List ℕ). list_all (λ m. nat_lt m n) ns) (wish_lines_more before l ∙ ap (λ (ns : List ℕ). wish_lines before ++ ns) wish ∙ append-nil (wish_lines before)) ∙ h.rising n;
  forbidden = subst (HoldsWishes e.forbidden) (sym (forbidden_more 0 before l ∙ ap (λ (bs : List ForbiddenWish). forbidden_from 0 before ++ bs) (none (0 + length (entries_of before))) ∙ append-nil (forbidden_from 0 before))) h.forbidden;
}

pub wished_kept : (e : Entries) (chosen : Chosen) (catalogue request : List Line) (before : List AnswerLine) (v : Version) (n : ℕ) → KeepsAnswers e before → may_enter catalogue before v ≡ true → is_wish request before n v ≡ true → Adds e.chosen chosen v
    → KeepsAnswers (record e { chosen = chosen; last_wish = Some n }) (before ++ Wished v n ∷ [])
wished_kept e chosen catalogue request before v n h may wish adds =
    let l : AnswerLine = Wished v n in record {
      chosen = subst (λ (vs : Set). Holds chosen vs) (sym (entries_more before l)) (adds (entries_of before) h.chosen (fresh catalogue before v may));
      out = subst (λ (vs : Set). HoldsAll e.out vs) (sym (left_out_more before l ∙ append-nil (left_out before))) h.out;
      rising = λ k. ap (λ (ns : List ℕ). list_all (λ m. nat_lt m k) ns) (wish_lines_more before l) ∙ rises request before n v wish k;
      forbidden = subst (HoldsWishes e.forbidden) (sym (forbidden_more 0 before l ∙ append-nil (forbidden_from 0 before))) h.forbidden;
    }

pub left_out_kept : (e : Entries) (out : Versions) (forbidden : ForbiddenWishes) (request : List Line) (before : List AnswerLine) (v : Version) (n step above : ℕ) → KeepsAnswers e before → is_wish request before n v ≡ true
    → ((set : Set) → HoldsAll e.out set → HoldsAll out (set ++ v ∷ [])) → ((wishes : List ForbiddenWish) → HoldsWishes e.forbidden wishes → HoldsWishes forbidden (wishes ++ record { wish = v; step = step; above = above } ∷ [])) → above ≡ length (entries_of before)
    → (f : Entries) → f.chosen ≡ e.chosen → f.out ≡ out → f.forbidden ≡ forbidden → f.last_wish ≡ Some n → KeepsAnswers f (before ++ LeftOut v n step ∷ [])
left_out_kept e out forbidden request before v n step above h wish adds more is f same_chosen same_out same_forbidden same_wish =
    let l : AnswerLine = LeftOut v n step in record {
      chosen = rw same_chosen (subst (λ (vs : Set). Holds e.chosen vs) (sym (entries_more before l ∙ append-nil (entries_of before))) h.chosen);
      out = rw same_out (subst (λ (vs : Set). HoldsAll out vs) (sym (left_out_more before l)) (adds (left_out before) h.out));
      rising = λ k. ap (λ (ns : List ℕ). list_all (λ m. nat_lt m k) ns) (wish_lines_more before l) ∙ rises request before n v wish k ∙ ap (λ (o : Option ℕ). is_after o k) (sym same_wish);
      forbidden = rw same_forbidden (subst (HoldsWishes forbidden) (ap (λ (k : ℕ). let x : ForbiddenWish = record { wish = v; step = step; above = k } in forbidden_from 0 before ++ x ∷ []) (is ∙ omega arith) ∙ sym (forbidden_more 0 before l)) (more (forbidden_from 0 before) h.forbidden));
    }

-- only a `needs` line gives a reason
pub gives_owned : (o : Option Line) (entries : Set) (v : Version) → gives (owned_line o) entries v ≡ gives o entries v
gives_owned None entries v = refl
gives_owned (Some Skipped) entries v = refl
gives_owned (Some (Listed w)) entries v = refl
gives_owned (Some (Needs ss c)) entries v = refl
gives_owned (Some (Limits s)) entries v = refl
gives_owned (Some (Unknown r)) entries v = refl
gives_owned (Some (Lock w)) entries v = refl
gives_owned (Some (Favour w)) entries v = refl
gives_owned (Some (Many name)) entries v = refl
gives_owned (Some (Exclude w r)) entries v = refl
gives_owned (Some (Wish w)) entries v = refl

gives_needed : (o : Option Line) (entries : Set) (v : Version) → gives (need_line o) entries v ≡ gives o entries v
gives_needed None entries v = refl
gives_needed (Some Skipped) entries v = refl
gives_needed (Some (Listed w)) entries v = refl
gives_needed (Some (Needs ss c)) entries v = refl
gives_needed (Some (Limits s)) entries v = refl
gives_needed (Some (Unknown r)) entries v = refl
gives_needed (Some (Lock w)) entries v = refl
gives_needed (Some (Favour w)) entries v = refl
gives_needed (Some (Many name)) entries v = refl
gives_needed (Some (Exclude w r)) entries v = refl
gives_needed (Some (Wish w)) entries v = refl

-- a line of which a need is kept by numbers, and one of which none is
pub gives_kept : (o : Option Line) (t : Terms) (need : Option ConditionalRequirement) (n : ConditionalRequirement) (entries : Set) (v : Version) → need_line o ≡ option_map (line_of_need t) need → need ≡ Some n → gives (Some (line_of_need t n)) entries v ≡ gives o entries v
gives_kept o t need n entries v e is = ap (λ (x : Option Line). gives x entries v) (sym (e ∙ ap (λ (x : Option ConditionalRequirement). option_map (line_of_need t) x) is)) ∙ gives_needed o entries v

pub gives_none : (o : Option Line) (t : Terms) (need : Option ConditionalRequirement) (entries : Set) (v : Version) → need_line o ≡ option_map (line_of_need t) need → need ≡ None → false ≡ gives o entries v
gives_none o t need entries v e is = ap (λ (x : Option Line). gives x entries v) (sym (e ∙ ap (λ (x : Option ConditionalRequirement). option_map (line_of_need t) x) is)) ∙ gives_needed o entries v

-- an element that passes at a place passes
pub any_at : {X : Type 0} (p : X → Bool) (xs : List X) (i : ℕ) (x : X) → slice_get xs i ≡ Some x → p x ≡ true → list_any p xs ≡ true
any_at p [] i x at h = absurd cc
any_at p (y ∷ ys) zero x at h = or_left (p y) (list_any p ys) (ap p (same_Some y x at) ∙ h)
any_at p (y ∷ ys) (suc i) x at h = or_right (p y) (list_any p ys) (any_at p ys i x at h)

pub any_map : {X Y : Type 0} (f : X → Y) (p : Y → Bool) (xs : List X) → list_any (λ x. p (f x)) xs ≡ list_any p (map f xs)
any_map f p [] = refl
any_map f p (x ∷ xs) = ap (λ (b : Bool). p (f x) || b) (any_map f p xs)

-- ---- the lines of left-out wishes

pub lines_stay : (request : List Line) (e f : Entries) (before : List AnswerLine) (l : AnswerLine) → f.lines ≡ e.lines → ((w : Version) (n : ℕ) → leaves_out w n l ≡ false) → KeepsLines request e before → KeepsLines request f (before ++ l ∷ [])
lines_stay request e f before l same stays h n w is_wished =
    rw same (h n w is_wished ∙ sym (any_more (leaves_out w n) before l ∙ ap (λ (b : Bool). list_any (leaves_out w n) before || b) (stays w n) ∙ or_false (list_any (leaves_out w n) before)))

pub lines_more : (request : List Line) (e f : Entries) (before : List AnswerLine) (v : Version) (n step : ℕ) → is_wish request before n v ≡ true → ((k : ℕ) → get nat_cmp f.lines k ≡ update nat_eq (get nat_cmp e.lines) n (Some step) k)
    → KeepsLines request e before → KeepsLines request f (before ++ LeftOut v n step ∷ [])
lines_more request e f before v n step wish put h k w is_wished =
    ap (λ (o : Option ℕ). is_some o) (put k)
    ∙ line_more request before v n step k w (get nat_cmp e.lines k) (and_parts _ _ wish).0 is_wished (h k w is_wished)
    ∙ sym (any_more (leaves_out w k) before (LeftOut v n step))

-- ---- wishes that are answered

from_wished : (o : Option Line) (w : Version) → wished_in o ≡ Some w → o ≡ Some (Wish w)
from_wished (Some (Wish x)) w e = cc
from_wished None w e = absurd cc
from_wished (Some Skipped) w e = absurd cc
from_wished (Some (Listed x)) w e = absurd cc
from_wished (Some (Needs ss c)) w e = absurd cc
from_wished (Some (Limits s)) w e = absurd cc
from_wished (Some (Unknown r)) w e = absurd cc
from_wished (Some (Lock x)) w e = absurd cc
from_wished (Some (Favour x)) w e = absurd cc
from_wished (Some (Many name)) w e = absurd cc
from_wished (Some (Exclude x r)) w e = absurd cc

-- a wish that is no entry is answered where its line is left out
pub answered_by : (request : List Line) (answers : List AnswerLine) (n : ℕ) (w : Version) (b : Bool) → wished_in (line_at request n) ≡ Some w → is_member w (entries_of answers) ≡ false
    → (wishes (line_at request n) w ≡ true → b ≡ list_any (leaves_out w n) answers) → IsWishAnswered request answers n b
answered_by request answers n w b wished out left = by_test b (left is_wished)
  where
    at : line_at request n ≡ Some (Wish w)
    at = from_wished (line_at request n) w wished

    is_wished : wishes (line_at request n) w ≡ true
    is_wished = ap (λ (o : Option Line). wishes o w) at ∙ same_own w

    sum : is_member w (entries_of answers) || list_any (leaves_out w n) answers ≡ list_any (leaves_out w n) answers
    sum = ap (λ (t : Bool). t || list_any (leaves_out w n) answers) out

    by_test : (b : Bool) → b ≡ list_any (leaves_out w n) answers → IsWishAnswered request answers n b
    by_test true is = λ v there.
        let same : w ≡ v = cc (at, there) in
        subst (λ (x : Version). is_member x (entries_of answers) || list_any (leaves_out x n) answers ≡ true) same (sum ∙ sym is)
    by_test false is = λ all. true_is_false (sym (all w at) ∙ sum ∙ sym is)
      where
        true_is_false : true ≡ false → ⊥
        true_is_false e = cc
