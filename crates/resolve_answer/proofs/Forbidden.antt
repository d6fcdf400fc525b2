-- Each step of a report names the first line of its rule, and a forbidden wish is left out by the
-- step that forbids it.
use Rattle.std.proofs.Common.{◌≡◌, inl, inr, ℕ, zero, suc, ◌+◌, ◌<◌, ◌≤◌, ◌⊎◌, List, [], ◌∷◌, ◌++◌, length, Option, Some, None, refl, sym, ap, subst, ◌∙◌, append_assoc, arith}
use Rattle.std.specs.Prelude.{Contains, MatchOption, slice_get}
use Rattle.std.specs.List.{AllZip}
use Rattle.std.specs.Option.{option_map}
use Rattle.std.proofs.lemmas.Bool.{cases_Bool}
use Rattle.std.proofs.lemmas.Option.{slice_get_within}
use Rattle.std.proofs.lemmas.List.{length-append}
use Rattle.resolvo_text.specs.Line.{Version, Line}
use Rattle.resolvo_text.specs.Matches.{Set, is_member}
use Rattle.resolvo_catalogue_core.specs.Answers as answer
use Rattle.resolvo_catalogue_core.specs.Answers.{Answer, entries_of}
use Rattle.resolvo_catalogue_core.specs.Listed.{listed}
use Rattle.resolvo_catalogue_core.specs.Questions.{Forbids}
use Rattle.resolvo_catalogue_core.specs.Kept.{nth}
use Rattle.resolvo_catalogue_core.specs.declared.rule.VersionNo.{VersionNo}
use Rattle.resolve_order.specs.Order as order
use Rattle.resolve_order.specs.View.{turn_of, turns_of, wish_at}
use Rattle.resolve_order.specs.declared.entry.Turn.{Turn}
use Rattle.resolve_order.specs.declared.entry.Turn.TheVariants.{Chose, LeftOut}
use Rattle.resolvo_sat.proofs.Lists.{contains_cases, contains_first, contains_later, contains_map, contains_none, contains_one, contains_parts, map_contains}
use Rattle.resolvo_state.proofs.Positions.{get_below, get_in_prefix}
use Rattle.resolvo_proof.specs.declared.step.ProofStep.{ProofStep}
use Rattle.resolvo_proof.specs.declared.step.ProofStep.TheVariants.{Rule, Derived}
use Rattle.resolvo_proof.specs.declared.step.ProofRule.TheVariants.{Needs, GateOf, Shared, Limit, Outside, Locked, Excluded, Digit, AtLeastOne, Matches}
use Rattle.resolvo_catalogue.specs.Ids.{Ids, SolvableId}
use Rattle.resolvo_terms.specs.Terms.{NameId}
use Rattle.resolvo_catalogue.specs.Known.{word_text}
use Rattle.resolvo_catalogue.proofs.MarkLemmas.{one_some}
use Rattle.resolvo_report.specs.Value.{Step}
use Rattle.resolvo_report.specs.View.{step_of}
use Rattle.resolvo_report.specs.declared.step.Step as code
use Rattle.resolve_refusal.specs.Lines.{IsFree}
use Rattle.resolve_refusal.specs.RefusedReport.{version_at}
use Rattle.resolve_refusal.specs.Refusal.{IsWrittenAs, NamesFirstLine}
use Rattle.resolve_refusal.specs.InstallSteps.{IsForbiddenBefore, IsForbidStepOf}
use Rattle.resolve_answer.specs.Reported.{NameFirstLines, NameRules}
use Rattle.resolve_answer.specs.ReportTurns.{Solved, AreTurnsFor, IsWishedTurn, number_at}
use Rattle.resolve_answer.specs.Wishes.{asked_by}
use Rattle.resolve_answer.specs.declared.wishes.Wish.{Wish}
use Rattle.resolve_answer.proofs.WishTurns.{steps_prefix}
use Rattle.resolve_answer.proofs.UseLemmas.{left_out_listed, lt-or-ge}
use Rattle.resolve_answer.proofs.WalkLemmas.{get_behind, nth_is}

-- ---- steps that write those of a proof

-- a step that writes one of a proof names the first line of its rule
first_line_named : (catalogue request : List Line) (ids : Ids) (s : ProofStep NameId SolvableId) (t : Step) → IsWrittenAs catalogue ids request s t → NamesFirstLine catalogue request t
first_line_named catalogue request ids (Rule (Needs parent r case)) t (line, k, is, first) = subst (λ (x : Step). NamesFirstLine catalogue request x) (sym is) (_, _, first)
first_line_named catalogue request ids (Rule (GateOf s r)) t (line, is, first) = subst (λ (x : Step). NamesFirstLine catalogue request x) (sym is) (_, first)
first_line_named catalogue request ids (Rule (Shared r)) t is = subst (λ (x : Step). NamesFirstLine catalogue request x) (sym is) tt
first_line_named catalogue request ids (Rule (Limit parent v None)) t (line, is, first) = subst (λ (x : Step). NamesFirstLine catalogue request x) (sym is) (_, first)
first_line_named catalogue request ids (Rule (Limit parent v (Some s))) t (line, is, first) = subst (λ (x : Step). NamesFirstLine catalogue request x) (sym is) (_, first)
first_line_named catalogue request ids (Rule (Outside v s)) t is = subst (λ (x : Step). NamesFirstLine catalogue request x) (sym is) tt
first_line_named catalogue request ids (Rule (Locked locked s)) t (line, (is, other)) = subst (λ (x : Step). NamesFirstLine catalogue request x) (sym is) other
first_line_named catalogue request ids (Rule (Excluded s reason)) t (line, inl (is, at), first) = subst (λ (x : Step). NamesFirstLine catalogue request x) (sym is) (version_at catalogue s, word_text ids reason, (line, inl (refl, at), first))
first_line_named catalogue request ids (Rule (Excluded s reason)) t (line, inr (is, at), first) = subst (λ (x : Step). NamesFirstLine catalogue request x) (sym is) (version_at catalogue s, word_text ids reason, (line, inr (refl, at), first))
first_line_named catalogue request ids (Rule (Digit s place bit)) t is = subst (λ (x : Step). NamesFirstLine catalogue request x) (sym is) tt
first_line_named catalogue request ids (Rule (AtLeastOne n s)) t is = subst (λ (x : Step). NamesFirstLine catalogue request x) (sym is) tt
first_line_named catalogue request ids (Rule (Matches v s)) t is = subst (λ (x : Step). NamesFirstLine catalogue request x) (sym is) tt
first_line_named catalogue request ids (Derived literals causes) t (written, is, are) = subst (λ (x : Step). NamesFirstLine catalogue request x) (sym is) tt

pub all_first : (catalogue request : List Line) (ids : Ids) (steps : List (ProofStep NameId SolvableId)) (written : List Step) → AllZip (IsWrittenAs catalogue ids request) steps written → NameFirstLines catalogue request written
all_first catalogue request ids [] [] each k t e = absurd cc
all_first catalogue request ids [] (y ∷ ys) each k t e = absurd each
all_first catalogue request ids (s ∷ steps) [] each k t e = absurd each
all_first catalogue request ids (s ∷ steps) (y ∷ ys) each zero t e = subst (λ (x : Step). NamesFirstLine catalogue request x) (one_some e) (first_line_named catalogue request ids s y each.0)
all_first catalogue request ids (s ∷ steps) (y ∷ ys) each (suc k) t e = all_first catalogue request ids steps ys each.1 k t e

-- ---- the steps of forbidden wishes

-- The wish of a version is left out by the step of this number, which forbids it before a search;
-- or nothing forbids it so.
abbrev IsLeftOutRightly : List Line → List Step → ℕ × VersionNo → ℕ → Type 0
IsLeftOutRightly catalogue after w n = (v : Version) × (slice_get (listed catalogue) w.1.0 ≡ Some v)
    × (IsFree catalogue v ⊎ ((k : ℕ) × (s : Step) × (n ≡ suc k) × (slice_get after k ≡ Some s) × IsForbiddenBefore catalogue v s))

-- each wish is of a listed version
abbrev pub AreListedWishes : List Line → List Wish → Type 0
AreListedWishes catalogue ws = (w : Wish) → Contains ws w → (v : Version) × (slice_get (listed catalogue) w.version.0 ≡ Some v) × IsForbidStepOf catalogue w.version.0 (option_map step_of w.forbidden_by)

left_rightly : (catalogue : List Line) (numbers : List VersionNo) (turns : List Solved) (places : List ℕ) (ws : List Wish) (m : ℕ) (steps : List Step) (matched : List Turn) (after : List Step) → AreTurnsFor numbers turns places ws m steps matched after → AreListedWishes catalogue ws
    → (w : ℕ × VersionNo) (n : ℕ) → Contains matched (LeftOut w n) → IsLeftOutRightly catalogue after w n
left_rightly catalogue numbers turns places [] m steps matched after (none, is) known w n h = absurd (contains_none (LeftOut w n) (subst (λ (ts : List Turn). Contains ts (LeftOut w n)) none h))
left_rightly catalogue numbers turns places (x ∷ ws) m steps matched after (u, rest, are, next) known w n h =
    go (λ j before on later. left_rightly catalogue numbers turns places ws j before rest after on (λ y c. known y (contains_later y x ws c)) w n later) (contains_cases (LeftOut w n) u rest (subst (λ (ts : List Turn). Contains ts (LeftOut w n)) are h)) x.forbidden_by refl next
  where
    one_left : (j : ℕ) → LeftOut w n ≡ LeftOut (asked_by x) j → w ≡ asked_by x
    one_left j e = cc

    -- a turn that leaves out this wish is of it
    of_it : (o : Option Solved) → IsWishedTurn numbers places (asked_by x) o u → LeftOut w n ≡ u → w ≡ asked_by x
    of_it None is here = one_left 0 (here ∙ is)
    of_it (Some t) (accepting, refusing) here = elim (cases_Bool t.accepted) [
      | inl it_is ↦ (let (part, is, between) = accepting it_is in absurd (let none : LeftOut w n ≡ Chose (Some (asked_by x)) part = here ∙ is in cc))
      | inr it_isnt ↦ one_left (number_at places t.step) (here ∙ refusing it_isnt)
    ]

    go : ((j : ℕ) (before : List Step) → AreTurnsFor numbers turns places ws j before rest after → Contains rest (LeftOut w n) → IsLeftOutRightly catalogue after w n) → (LeftOut w n ≡ u) ⊎ Contains rest (LeftOut w n) → (b : Option code.Step) → x.forbidden_by ≡ b
        → MatchOption b (IsWishedTurn numbers places (asked_by x) (slice_get turns m) u × AreTurnsFor numbers turns places ws (suc m) steps rest after)
        (λ step. (suc (length steps) < 4294967296) × (u ≡ LeftOut (asked_by x) (suc (length steps))) × AreTurnsFor numbers turns places ws m (steps ++ step_of step ∷ []) rest after) → IsLeftOutRightly catalogue after w n
    go again (inr later) None is (turn_is, on) = again (suc m) steps on later
    go again (inr later) (Some step) is (few, out, on) = again m (steps ++ step_of step ∷ []) on later
    go again (inl here) None is (turn_is, on) =
        let (v, there, forbids) = known x (contains_first x x ws refl) in
        let same : w ≡ asked_by x = of_it (slice_get turns m) turn_is here in
        (v, ap (λ (y : ℕ × VersionNo). slice_get (listed catalogue) y.1.0) same ∙ there, inl (subst (λ (o : Option code.Step). IsForbidStepOf catalogue x.version.0 (option_map step_of o)) is forbids v there))
    go again (inl here) (Some step) is (few, out, on) =
        let (listed_version, listed_at, forbids) = known x (contains_first x x ws refl) in
        let (v, there, forbidden_by) = subst (λ (o : Option code.Step). IsForbidStepOf catalogue x.version.0 (option_map step_of o)) is forbids in
        let both : LeftOut w n ≡ LeftOut (asked_by x) (suc (length steps)) = here ∙ out in
        let same : w ≡ asked_by x = one_left (suc (length steps)) both in
        let number : n ≡ suc (length steps) = cc in
        let (more, whole) = steps_prefix numbers turns places ws m (steps ++ step_of step ∷ []) rest after on in
        let place : slice_get after (length steps) ≡ Some (step_of step) = ap (λ (xs : List Step). slice_get xs (length steps)) (whole ∙ append_assoc steps (step_of step ∷ []) more) ∙ get_behind steps (step_of step) more in
        (v, ap (λ (y : ℕ × VersionNo). slice_get (listed catalogue) y.1.0) same ∙ there, inr (length steps, step_of step, number, place, forbidden_by.forbids))

-- A turn leaves the wish of a version out by this step, from 0, which forbids the version before a
-- search.
abbrev IsForbidTurn : List Line → List Turn → ℕ → Step → Type 0
IsForbidTurn catalogue matched k s = (w : ℕ × VersionNo) × (v : Version) × Contains matched (LeftOut w (suc k)) × (slice_get (listed catalogue) w.1.0 ≡ Some v) × IsForbiddenBefore catalogue v s

-- a forbidden wish is left out by each step that follows the others
forbid_rightly : (catalogue : List Line) (numbers : List VersionNo) (turns : List Solved) (places : List ℕ) (ws : List Wish) (m : ℕ) (steps : List Step) (matched : List Turn) (after : List Step) → AreTurnsFor numbers turns places ws m steps matched after → AreListedWishes catalogue ws
    → (k : ℕ) (s : Step) → length steps ≤ k → slice_get after k ≡ Some s → IsForbidTurn catalogue matched k s
forbid_rightly catalogue numbers turns places [] m steps matched after (none, is) known k s behind at = absurd (let low : k < length after = slice_get_within after k s at in let same : length after ≡ length steps = ap length is in omega (arith, same, behind, low))
forbid_rightly catalogue numbers turns places (x ∷ ws) m steps matched after (u, rest, are, next) known k s behind at =
    subst (λ (ts : List Turn). IsForbidTurn catalogue ts k s) (sym are) (go (λ j before low on. forbid_rightly catalogue numbers turns places ws j before rest after on (λ y c. known y (contains_later y x ws c)) k s low at) x.forbidden_by refl next)
  where
    later_turn : IsForbidTurn catalogue rest k s → IsForbidTurn catalogue (u ∷ rest) k s
    later_turn (w, v, h, there, forbids) = (w, v, contains_later _ u rest h, there, forbids)

    go : ((j : ℕ) (before : List Step) → length before ≤ k → AreTurnsFor numbers turns places ws j before rest after → IsForbidTurn catalogue rest k s) → (b : Option code.Step) → x.forbidden_by ≡ b → MatchOption b (IsWishedTurn numbers places (asked_by x) (slice_get turns m) u × AreTurnsFor numbers turns places ws (suc m) steps rest after)
        (λ step. (suc (length steps) < 4294967296) × (u ≡ LeftOut (asked_by x) (suc (length steps))) × AreTurnsFor numbers turns places ws m (steps ++ step_of step ∷ []) rest after) → IsForbidTurn catalogue (u ∷ rest) k s
    go again None is (turn_is, on) = later_turn (again (suc m) steps behind on)
    go again (Some step) is (few, out, on) = elim (lt-or-ge (length steps) k) [
      | inl low ↦ (
          let long : length (steps ++ step_of step ∷ []) ≡ length steps + 1 = length-append steps (step_of step ∷ []) in
          later_turn (again m (steps ++ step_of step ∷ []) (omega (arith, long, low)) on))
      | inr high ↦ (
          let here : length steps ≡ k = omega (arith, behind, high) in
          let (listed_version, listed_at, forbids) = known x (contains_first x x ws refl) in
          let (v, there, forbidden_by) = subst (λ (o : Option code.Step). IsForbidStepOf catalogue x.version.0 (option_map step_of o)) is forbids in
          let (more, whole) = steps_prefix numbers turns places ws m (steps ++ step_of step ∷ []) rest after on in
          let place : slice_get after (length steps) ≡ Some (step_of step) = ap (λ (xs : List Step). slice_get xs (length steps)) (whole ∙ append_assoc steps (step_of step ∷ []) more) ∙ get_behind steps (step_of step) more in
          let same : step_of step ≡ s = one_some (sym place ∙ ap (slice_get after) here ∙ at) in
          (asked_by x, v, contains_first _ u rest (out ∙ ap (λ (n : ℕ). LeftOut (asked_by x) (suc n)) here), there, subst (λ (y : Step). IsForbiddenBefore catalogue v y) same forbidden_by.forbids))
    ]

-- ---- the lines

-- no line of a turn that chose leaves a wish out
no_left_out : (catalogue request : List Line) (chosen entries : Set) (answers : List Answer) → order.AreInOrder catalogue request chosen entries answers → (v : Version) (line step : ℕ) → Contains answers (answer.LeftOut v line step) → ⊥
no_left_out catalogue request chosen entries [] are v line step h = contains_none _ h
no_left_out catalogue request chosen entries (answer.Entry u reason ∷ answers) (next, more) v line step h = elim (contains_cases (answer.LeftOut v line step) (answer.Entry u reason) answers h) [
  | inl e ↦ absurd cc
  | inr later ↦ no_left_out catalogue request chosen (entries ++ u ∷ []) answers more v line step later
]
no_left_out catalogue request chosen entries (answer.LeftOut u n k ∷ answers) are v line step h = are

no_wish_left_out : (wish : Option (ℕ × Version)) (entries : Set) (v : Version) (line step : ℕ) → Contains (order.wish_entry wish entries) (answer.LeftOut v line step) → ⊥
no_wish_left_out None entries v line step h = contains_none _ h
no_wish_left_out (Some w) entries v line step h = elim (cases_Bool (is_member w.1 entries)) [
  | inl e ↦ contains_none (answer.LeftOut v line step) (rw e at h)
  | inr e ↦ (let entry : answer.LeftOut v line step ≡ answer.Entry w.1 (answer.Wished w.0) = contains_one _ _ (rw e at h) in absurd cc)
]

-- a line that leaves a wish out is that of a turn that does
left_out_turn : (catalogue request : List Line) (chosen entries : Set) (turns : List order.Turn) (answers : List Answer) → order.AreTurns catalogue request chosen entries turns answers → (v : Version) (line step : ℕ) → Contains answers (answer.LeftOut v line step)
    → (w : ℕ × Version) × Contains turns (order.LeavesOut w step) × (w.1 ≡ v) × (w.0 ≡ line)
left_out_turn catalogue request chosen entries [] answers is v line step h = absurd (contains_none (answer.LeftOut v line step) (subst (λ (xs : List Answer). Contains xs (answer.LeftOut v line step)) is h))
left_out_turn catalogue request chosen entries (t ∷ turns) answers (first, rest, is, one, more) v line step h =
    elim (contains_parts (answer.LeftOut v line step) first rest (subst (λ (xs : List Answer). Contains xs (answer.LeftOut v line step)) is h)) [
      | inl here ↦ of_turn t refl one here
      | inr later ↦ (let (w, there, version_is, line_is) = left_out_turn catalogue request (chosen ++ order.chosen_by t) (entries ++ entries_of first) turns rest more v line step later in (w, contains_later _ t turns there, version_is, line_is))
    ]
  where
    of_turn : (u : order.Turn) → t ≡ u → order.IsOneTurn catalogue request (chosen ++ order.chosen_by t) entries u first → Contains first (answer.LeftOut v line step) → (w : ℕ × Version) × Contains (t ∷ turns) (order.LeavesOut w step) × (w.1 ≡ v) × (w.0 ≡ line)
    of_turn (order.Chose wish set) e turn here = elim (contains_parts (answer.LeftOut v line step) (order.wish_entry wish entries) turn.others (subst (λ (xs : List Answer). Contains xs (answer.LeftOut v line step)) turn.wish_first here)) [
      | inl wished ↦ absurd (no_wish_left_out wish entries v line step wished)
      | inr listed_so ↦ absurd (no_left_out catalogue request (chosen ++ order.chosen_by t) (entries ++ entries_of (order.wish_entry wish entries)) turn.others turn.in_order v line step listed_so)
    ]
    of_turn (order.LeavesOut w k) e turn here =
        let line_is : answer.LeftOut v line step ≡ answer.LeftOut w.1 w.0 k = contains_one _ _ (subst (λ (xs : List Answer). Contains xs (answer.LeftOut v line step)) turn here) in
        let number : k ≡ step = cc in
        (w, contains_first (order.LeavesOut w step) t turns (e ∙ ap (order.LeavesOut w) number), (let version_is : w.1 ≡ v = cc in version_is), (let at : w.0 ≡ line = cc in at))

-- ---- all steps

module _ (catalogue request : List Line) (ids : Ids) (kept : List (ProofStep NameId SolvableId)) (written : List Step) (each : AllZip (IsWrittenAs catalogue ids request) kept written) (numbers : List VersionNo) (turns : List Solved) (places : List ℕ) (wishes : List Wish)
    (known : AreListedWishes catalogue wishes) (needs : order.Turn) (set : Set) (needs_first : needs ≡ order.Chose None set) (rest : List Turn) (after : List Step) (matched : AreTurnsFor numbers turns places wishes 0 written rest after) where
  -- the turn of a line
  turn_of_line : (answers : List Answer) → order.AreTurns catalogue request [] [] (needs ∷ turns_of (listed catalogue) rest) answers → (v : Version) (line number : ℕ) → Contains answers (answer.LeftOut v line number) → (w : ℕ × VersionNo) × Contains rest (LeftOut w number) × (nth (listed catalogue) w.1 ≡ v)
  turn_of_line answers are v line number h =
      let (u, there, version_is, line_is) = left_out_turn catalogue request [] [] (needs ∷ turns_of (listed catalogue) rest) answers are v line number h in
      elim (contains_cases (order.LeavesOut u number) needs (turns_of (listed catalogue) rest) there) [
        | inl e ↦ absurd (let none : order.LeavesOut u number ≡ order.Chose None set = e ∙ needs_first in cc)
        | inr later ↦ (let (t, inside, is) = map_contains (turn_of (listed catalogue)) (order.LeavesOut u number) rest later in by_turn u version_is t inside is)
      ]
    where
      by_turn : (u : ℕ × Version) → u.1 ≡ v → (t : Turn) → Contains rest t → order.LeavesOut u number ≡ turn_of (listed catalogue) t → (w : ℕ × VersionNo) × Contains rest (LeftOut w number) × (nth (listed catalogue) w.1 ≡ v)
      by_turn u version_is (Chose wish part) inside is = absurd cc
      by_turn u version_is (LeftOut w k) inside is =
          let number_is : k ≡ number = cc in
          let wish_is : wish_at (listed catalogue) w ≡ u = cc in
          (w, subst (λ (j : ℕ). Contains rest (LeftOut w j)) number_is inside, ap (λ (x : ℕ × Version). x.1) wish_is ∙ version_is)

  pub steps_named : (answers : List Answer) → order.AreTurns catalogue request [] [] (needs ∷ turns_of (listed catalogue) rest) answers → NameRules catalogue request answers after
  steps_named answers are = record {
    first = λ k s at. elim (lt-or-ge k (length written)) [
      | inl low ↦ (
          let (others, whole) = steps_prefix numbers turns places wishes 0 written rest after matched in
          let (t, there) = get_below written k low in
          let prefix : slice_get after k ≡ Some t = ap (λ (xs : List Step). slice_get xs k) whole ∙ get_in_prefix written others k t there in
          inl (all_first catalogue request ids kept written each k s (there ∙ sym prefix ∙ at)))
      | inr high ↦ (
          let (w, v, there, listed_at, forbids) = forbid_rightly catalogue numbers turns places wishes 0 written rest after matched known k s high at in
          let line = left_out_listed catalogue request [] [] (needs ∷ turns_of (listed catalogue) rest) answers are (wish_at (listed catalogue) w) (suc k) (contains_later _ _ _ (contains_map (turn_of (listed catalogue)) (LeftOut w (suc k)) rest there)) in
          inr (v, w.0, subst (λ (x : Version). Contains answers (answer.LeftOut x w.0 (suc k))) (nth_is (listed catalogue) w.1 v listed_at) line, forbids))
    ];
    forbidden = λ v line number h m forbids. (
        let (w, there, version_is) = turn_of_line answers are v line number h in
        let (u, listed_at, rightly) = left_rightly catalogue numbers turns places wishes 0 written rest after matched known w number there in
        let same : u ≡ v = sym (nth_is (listed catalogue) w.1 u listed_at) ∙ version_is in
        elim rightly [
          | inl free ↦ absurd (free m (subst (λ (x : Version). Forbids catalogue x m) (sym same) forbids))
          | inr (k, s, number_is, at, forbidden_by) ↦ (k, s, number_is, at, subst (λ (x : Version). IsForbiddenBefore catalogue x s) same forbidden_by)
        ]);
  }
