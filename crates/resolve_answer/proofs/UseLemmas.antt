-- The turns of an install report are those of the request's wishes, and each of its steps is used.
use Rattle.std.proofs.Common.{◌≡◌, inl, inr, ℕ, zero, suc, ◌+◌, ◌<◌, ◌≤◌, ◌⊎◌, false, List, [], ◌∷◌, ◌++◌, map, length, Option, Some, None, refl, sym, ap, subst, ◌∙◌, arith}
use Rattle.std.specs.Prelude.{Contains, MatchOption, slice_get}
use Rattle.std.specs.List.{AllZip}
use Rattle.std.specs.Option.{option_map}
use Rattle.std.proofs.Math.Dec.{ltb}
use Rattle.std.proofs.lemmas.Bool.{cases_Bool, ltb-true, ltb-false}
use Rattle.std.proofs.lemmas.Option.{slice_get_within}
use Rattle.std.proofs.lemmas.List.{length-append}
use Rattle.resolvo_text.specs.Line as line
use Rattle.resolvo_text.specs.Line.{Version, Line}
use Rattle.resolvo_text.specs.Matches.{Set}
use Rattle.resolvo_catalogue_core.specs.Answers as answer
use Rattle.resolvo_catalogue_core.specs.Answers.{Answer, entries_of}
use Rattle.resolvo_catalogue_core.specs.Grammar.{line_at}
use Rattle.resolvo_catalogue_core.specs.Listed.{listed}
use Rattle.resolvo_catalogue_core.specs.Questions.{AreAll, IsWish, LineIs}
use Rattle.resolvo_catalogue_core.specs.declared.rule.VersionNo.{VersionNo}
use Rattle.resolve_order.specs.Order as order
use Rattle.resolve_order.specs.View.{turn_of, turns_of, wish_at}
use Rattle.resolve_order.specs.declared.entry.Turn.{Turn}
use Rattle.resolve_order.specs.declared.entry.Turn.TheVariants.{Chose, LeftOut}
use Rattle.resolvo_sat.proofs.Lists.{contains_cases, contains_first, contains_later, contains_left, contains_map, contains_none, contains_only, contains_right, map_contains}
use Rattle.resolvo_state.proofs.Positions.{contains_get, get_below, get_in_prefix}
use Rattle.resolvo_proof.specs.Trimmed as proof
use Rattle.resolvo_proof.specs.Trimmed.{IsTrimmedWith}
use Rattle.resolvo_proof.specs.declared.step.ProofStep.{ProofStep}
use Rattle.resolvo_proof.specs.declared.step.ProofStep.TheVariants.{Rule, Derived}
use Rattle.resolvo_catalogue.specs.Ids.{Ids, SolvableId, solvable_id}
use Rattle.resolvo_terms.specs.Terms.{NameId}
use Rattle.resolvo_catalogue.proofs.MarkLemmas.{one_some}
use Rattle.resolvo_report.specs.Value.{Literal, Step, Derive}
use Rattle.resolvo_report.specs.View.{step_of}
use Rattle.resolvo_report.specs.declared.step.Step as code
use Rattle.resolve_install.specs.Install as install
use Rattle.resolve_install.specs.Install.{Serve}
use Rattle.resolve_refusal.specs.Refusal.{IsWrittenAs}
use Rattle.resolvo.specs.Solve.{HasProof}
use Rattle.resolve_answer.specs.Reported.{AreUsed, AreWishTurns, IsNamedLater, wish_of}
use Rattle.resolve_answer.specs.ReportTurns.{Solved, AreTurnsFor, AreWanted, IsWishedTurn, number_at, past}
use Rattle.resolve_answer.specs.Wishes.{asked_by, free_of, unless_forbidden}
use Rattle.resolve_answer.specs.declared.wishes.Wish.{Wish}
use Rattle.resolve_answer.proofs.WishTurns.{steps_prefix}
use Rattle.resolve_answer.proofs.WalkLemmas.{nth_is}

pub lt-or-ge : (a b : ℕ) → (a < b) ⊎ (b ≤ a)
lt-or-ge a b = elim (cases_Bool (ltb a b)) [ inl e ↦ inl (ltb-true a b e) | inr e ↦ inr (ltb-false a b e) ]

-- ---- the turns are those of the wishes

-- the turns by version wish the versions whose numbers the turns by number wish
wishes_at : (versions : List Version) (turns : List Turn) → map wish_of (turns_of versions turns) ≡ map (option_map (wish_at versions)) (map install.wish_of turns)
wishes_at versions [] = refl
wishes_at versions (Chose wish chosen ∷ turns) = ap (λ xs. option_map (wish_at versions) wish ∷ xs) (wishes_at versions turns)
wishes_at versions (LeftOut wish step ∷ turns) = ap (λ xs. Some (wish_at versions wish) ∷ xs) (wishes_at versions turns)

some_at : (versions : List Version) (wishes : List (ℕ × VersionNo)) → map (option_map (wish_at versions)) (map Some wishes) ≡ map Some (map (wish_at versions) wishes)
some_at versions [] = refl
some_at versions (w ∷ wishes) = ap (λ xs. Some (wish_at versions w) ∷ xs) (some_at versions wishes)

lines_at : (versions : List Version) (wishes : List (ℕ × VersionNo)) → map (λ (w : ℕ × VersionNo). w.0) wishes ≡ map (λ (w : ℕ × Version). w.0) (map (wish_at versions) wishes)
lines_at versions [] = refl
lines_at versions (w ∷ wishes) = ap (λ xs. w.0 ∷ xs) (lines_at versions wishes)

pub wish_turns : (catalogue request : List Line) (t : Turn) (rest : List Turn) (steps : List Step) → Serve catalogue request (t ∷ rest) steps → AreWishTurns request (turns_of (listed catalogue) rest)
wish_turns catalogue request t rest steps serve = record {
  wishes = map (wish_at (listed catalogue)) serve.wishes;
  each = wishes_at (listed catalogue) rest ∙ (ap (map (option_map (wish_at (listed catalogue)))) later ∙ some_at (listed catalogue) serve.wishes);
  lines = subst (λ (ns : List ℕ). AreAll ns (λ n. LineIs request n IsWish)) (lines_at (listed catalogue) serve.wishes) serve.are_wishes.lines;
  versions = λ w h. (
      let (u, there, is) = map_contains (wish_at (listed catalogue)) w serve.wishes h in
      let (i, at) = contains_get serve.wishes u there in
      let (v, of, is_wish) = serve.are_wishes.versions i u at in
      subst (λ (x : ℕ × Version). line_at request x.0 ≡ Some (line.Wish x.1)) (sym is) (is_wish ∙ ap (λ x. Some (line.Wish x)) (sym (nth_is (listed catalogue) u.1 v of))));
}
  where
    later : map install.wish_of rest ≡ map Some serve.wishes
    later = ap tail_of serve.in_turn
      where
        tail_of : List (Option (ℕ × VersionNo)) → List (Option (ℕ × VersionNo))
        tail_of [] = []
        tail_of (o ∷ os) = os

-- ---- the steps that forbid wishes without a search

-- a wish is left out by each step that follows the others
forbid_left_out : (numbers : List VersionNo) (turns : List Solved) (places : List ℕ) (ws : List Wish) (m : ℕ) (steps : List Step) (matched : List Turn) (after : List Step) → AreTurnsFor numbers turns places ws m steps matched after
    → (k : ℕ) → length steps ≤ k → k < length after → (w : ℕ × VersionNo) × Contains matched (LeftOut w (suc k))
forbid_left_out numbers turns places [] m steps matched after (none, is) k behind below = absurd (let same : length after ≡ length steps = ap length is in omega (arith, same, behind, below))
forbid_left_out numbers turns places (w ∷ ws) m steps matched after (u, rest, are, next) k behind below =
    subst (λ (ts : List Turn). (x : ℕ × VersionNo) × Contains ts (LeftOut x (suc k))) (sym are) (go (λ j before at on. forbid_left_out numbers turns places ws j before rest after on k at below) w.forbidden_by next)
  where
    go : ((j : ℕ) (before : List Step) → length before ≤ k → AreTurnsFor numbers turns places ws j before rest after → (x : ℕ × VersionNo) × Contains rest (LeftOut x (suc k))) → (b : Option code.Step)
        → MatchOption b (IsWishedTurn numbers places (asked_by w) (slice_get turns m) u × AreTurnsFor numbers turns places ws (suc m) steps rest after)
        (λ step. (suc (length steps) < 4294967296) × (u ≡ LeftOut (asked_by w) (suc (length steps))) × AreTurnsFor numbers turns places ws m (steps ++ step_of step ∷ []) rest after) → (x : ℕ × VersionNo) × Contains (u ∷ rest) (LeftOut x (suc k))
    go again None (turn_is, on) = (let (x, h) = again (suc m) steps behind on in (x, contains_later _ u rest h))
    go again (Some step) (few, out, on) = elim (lt-or-ge (length steps) k) [
      | inl low ↦ (
          let long : length (steps ++ step_of step ∷ []) ≡ length steps + 1 = length-append steps (step_of step ∷ []) in
          let (x, h) = again m (steps ++ step_of step ∷ []) (omega (arith, long, low)) on in (x, contains_later _ u rest h))
      | inr high ↦ (let is : length steps ≡ k = omega (arith, behind, high) in (asked_by w, contains_first _ u rest (out ∙ ap (λ (n : ℕ). LeftOut (asked_by w) (suc n)) is)))
    ]

-- ---- the steps of refused wishes

-- a refused wish is left out by its turn's step
refused_left_out : (numbers : List VersionNo) (turns : List Solved) (places : List ℕ) (ws : List Wish) (m : ℕ) (steps : List Step) (matched : List Turn) (after : List Step) → AreTurnsFor numbers turns places ws m steps matched after
    → (n : ℕ) → m ≤ n → n < m + length (free_of ws) → (t : Solved) → slice_get turns n ≡ Some t → t.accepted ≡ false → (w : ℕ × VersionNo) × Contains matched (LeftOut w (number_at places t.step))
refused_left_out numbers turns places [] m steps matched after (none, is) n from below t at refused = absurd (omega (arith, from, below))
refused_left_out numbers turns places (w ∷ ws) m steps matched after (u, rest, are, next) n from below t at refused =
    subst (λ (ts : List Turn). (x : ℕ × VersionNo) × Contains ts (LeftOut x (number_at places t.step))) (sym are) (go (λ j before low high on. refused_left_out numbers turns places ws j before rest after on n low high t at refused) w.forbidden_by refl next)
  where
    this_turn : slice_get turns m ≡ Some t → IsWishedTurn numbers places (asked_by w) (slice_get turns m) u → u ≡ LeftOut (asked_by w) (number_at places t.step)
    this_turn here is = (subst (λ (o : Option Solved). IsWishedTurn numbers places (asked_by w) o u) here is).1 refused

    go : ((j : ℕ) (before : List Step) → j ≤ n → n < j + length (free_of ws) → AreTurnsFor numbers turns places ws j before rest after → (x : ℕ × VersionNo) × Contains rest (LeftOut x (number_at places t.step))) → (b : Option code.Step) → w.forbidden_by ≡ b
        → MatchOption b (IsWishedTurn numbers places (asked_by w) (slice_get turns m) u × AreTurnsFor numbers turns places ws (suc m) steps rest after)
        (λ step. (suc (length steps) < 4294967296) × (u ≡ LeftOut (asked_by w) (suc (length steps))) × AreTurnsFor numbers turns places ws m (steps ++ step_of step ∷ []) rest after) → (x : ℕ × VersionNo) × Contains (u ∷ rest) (LeftOut x (number_at places t.step))
    go again None is (turn_is, on) = elim (lt-or-ge m n) [
      | inl low ↦ (
          let long : n < m + length (unless_forbidden None (solvable_id w.version.0) ++ free_of ws) = subst (λ (b : Option code.Step). n < m + length (unless_forbidden b (solvable_id w.version.0) ++ free_of ws)) is below in
          let (x, h) = again (suc m) steps low (omega (arith, long)) on in (x, contains_later _ u rest h))
      | inr high ↦ (
          let here : n ≡ m = omega (arith, from, high) in
          (asked_by w, contains_first _ u rest (this_turn (ap (λ (j : ℕ). slice_get turns j) (sym here) ∙ at) turn_is)))
    ]
    go again (Some step) is (few, out, on) =
        let long : n < m + length (unless_forbidden (Some step) (solvable_id w.version.0) ++ free_of ws) = subst (λ (b : Option code.Step). n < m + length (unless_forbidden b (solvable_id w.version.0) ++ free_of ws)) is below in
        let (x, h) = again m (steps ++ step_of step ∷ []) from long on in (x, contains_later _ u rest h)

-- ---- the lines

-- a turn that leaves a wish out has a line
pub left_out_listed : (catalogue request : List Line) (chosen entries : Set) (turns : List order.Turn) (answers : List Answer) → order.AreTurns catalogue request chosen entries turns answers → (w : ℕ × Version) (step : ℕ) → Contains turns (order.LeavesOut w step) → Contains answers (answer.LeftOut w.1 w.0 step)
left_out_listed catalogue request chosen entries [] answers is w step h = absurd (contains_none _ h)
left_out_listed catalogue request chosen entries (t ∷ turns) answers (first, rest, is, one, more) w step h =
    subst (λ (xs : List Answer). Contains xs (answer.LeftOut w.1 w.0 step)) (sym is) (elim (contains_cases (order.LeavesOut w step) t turns h) [
      | inl here ↦ contains_left _ first rest (this_line (subst (λ (x : order.Turn). order.IsOneTurn catalogue request (chosen ++ order.chosen_by t) entries x first) (sym here) one))
      | inr later ↦ contains_right _ first rest (left_out_listed catalogue request (chosen ++ order.chosen_by t) (entries ++ entries_of first) turns rest more w step later)
    ])
  where
    this_line : first ≡ answer.LeftOut w.1 w.0 step ∷ [] → Contains first (answer.LeftOut w.1 w.0 step)
    this_line e = subst (λ (xs : List Answer). Contains xs (answer.LeftOut w.1 w.0 step)) (sym e) (contains_only (answer.LeftOut w.1 w.0 step))

-- ---- all steps

-- the number of a wanted step is one past its place among those that are kept
wanted_place : (Wanted : ℕ → Type 0) (steps kept : List (ProofStep NameId SolvableId)) (numbers : List ℕ) (numbered : IsTrimmedWith Wanted steps kept numbers) (k place : ℕ) → slice_get numbered.trimmed.from k ≡ Some place → Wanted place → slice_get numbers place ≡ Some k
wanted_place Wanted steps kept numbers numbered k place from wanted =
    let trimmed = numbered.trimmed in
    let low : k < length trimmed.from = slice_get_within trimmed.from k place from in
    let long : length kept ≡ length trimmed.from = trimmed.count in
    let (step, at) = get_below kept k (omega (arith, low, long)) in
    let (old, was, renumbered) = trimmed.each k place step from at in
    let (j, new, number, present, same_step) = numbered.present place old wanted was in
    let (within, before) = numbered.before place j number in
    let not_less : j ≤ k = elim (lt-or-ge k j) [ inl less ↦ absurd (let same : place < place = (before k place from).0 less in omega (arith, same)) | inr high ↦ high ] in
    let not_more : k ≤ j = elim (lt-or-ge j k) [
      | inl less ↦ (
          let (had, there) = get_below trimmed.from j (omega (arith, less, low)) in
          let same : j < j = (before j had there).1 (trimmed.rising j k had place less there from) in
          absurd (omega (arith, same)))
      | inr high ↦ high
    ] in
    number ∙ ap Some (let is : j ≡ k = omega (arith, not_less, not_more) in is)

-- ---- written steps

pub zip_left : {X Y : Type 0} (R : X → Y → Type 0) (xs : List X) (ys : List Y) → AllZip R xs ys → (n : ℕ) (x : X) → slice_get xs n ≡ Some x → (y : Y) × (slice_get ys n ≡ Some y) × R x y
zip_left R [] ys all n x e = absurd cc
zip_left R (z ∷ xs) [] all n x e = absurd all
zip_left R (z ∷ xs) (y ∷ ys) all zero x e = (y, refl, subst (λ w. R w y) (one_some e) all.0)
zip_left R (z ∷ xs) (y ∷ ys) all (suc n) x e = zip_left R xs ys all.1 n x e

pub zip_length : {X Y : Type 0} (R : X → Y → Type 0) (xs : List X) (ys : List Y) → AllZip R xs ys → length ys ≡ length xs
zip_length R [] [] all = refl
zip_length R [] (y ∷ ys) all = absurd all
zip_length R (z ∷ xs) [] all = absurd all
zip_length R (z ∷ xs) (y ∷ ys) all = ap suc (zip_length R xs ys all.1)

-- a step is named later where the proof's step that it writes is
pub named_later : (catalogue request : List Line) (ids : Ids) (steps : List (ProofStep NameId SolvableId)) (written : List Step) → AllZip (IsWrittenAs catalogue ids request) steps written → (k : ℕ) → proof.IsNamedLater steps k → IsNamedLater written k
named_later catalogue request ids steps written each k (later, step, after, at, names) = go later step after at names
  where
    go : (later : ℕ) (step : ProofStep NameId SolvableId) → k < later → slice_get steps later ≡ Some step → proof.Names step k → (later : ℕ) × (literals : List Literal) × (causes : List ℕ) × (k < later) × (slice_get written later ≡ Some (Derive literals causes)) × Contains causes (suc k)
    go later (Rule r) after at names = absurd names
    go later (Derived literals causes) after at names =
        let (t, there, matched) = zip_left (IsWrittenAs catalogue ids request) steps written each later (Derived literals causes) at in
        (later, matched.0, map suc causes.items, after, there ∙ ap (λ (x : Step). Some x) matched.1, contains_map suc k causes.items names)

-- ---- all steps

module _ (catalogue request : List Line) (ids : Ids) (turns : List Solved) (chosen : List SolvableId) (proof kept : List (ProofStep NameId SolvableId)) (wanted places : List ℕ) (are_wanted : AreWanted turns wanted) (numbered : IsTrimmedWith (Contains wanted) proof kept places)
    (proofs : (t : Solved) → Contains turns t → HasProof proof chosen t) (written : List Step) (each : AllZip (IsWrittenAs catalogue ids request) kept written) (numbers : List VersionNo) (wishes : List Wish) (t : Turn) (rest : List Turn) (after : List Step)
    (matched : AreTurnsFor numbers turns places wishes 0 written rest after) (long : length (free_of wishes) ≡ length turns) where
  -- a turn of the report leaves a wish out by the step of this number
  abbrev IsLeftOutIn : ℕ → Type 0
  IsLeftOutIn number = (w : ℕ × VersionNo) × Contains rest (LeftOut w number)

  -- a wanted step is one by which a turn leaves its wish out
  wanted_used : (k place : ℕ) → slice_get numbered.trimmed.from k ≡ Some place → Contains wanted place → IsLeftOutIn (suc k)
  wanted_used k place from h =
      let (s, there, step) = are_wanted.only place h in
      let (n, at) = contains_get turns s there in
      let low : n < length turns = slice_get_within turns n s at in
      let refused : s.accepted ≡ false = elim (cases_Bool s.accepted) [
        | inl accepted ↦ absurd (let none : None ≡ Some place = sym ((proofs s there).accepted accepted) ∙ step in cc)
        | inr refused ↦ refused
      ] in
      let number : number_at places s.step ≡ suc k = ap (number_at places) step ∙ ap past (wanted_place (Contains wanted) proof kept places numbered k place from h) in
      subst IsLeftOutIn number (refused_left_out numbers turns places wishes 0 written rest after matched n (omega arith) (omega (arith, low, long)) s at refused)

  -- each step is one by which a turn leaves its wish out, or a later one names it
  each_used : (k : ℕ) → k < length after → IsLeftOutIn (suc k) ⊎ IsNamedLater after k
  each_used k below = elim (lt-or-ge k (length written)) [
    | inl low ↦ (
        let as_long : length written ≡ length kept = zip_length (IsWrittenAs catalogue ids request) kept written each in
        let (place, from) = get_below numbered.trimmed.from k (let count : length kept ≡ length numbered.trimmed.from = numbered.trimmed.count in omega (arith, low, as_long, count)) in
        elim (numbered.trimmed.named k place from) [
          | inl is_wanted ↦ inl (wanted_used k place from is_wanted)
          | inr later ↦ inr (in_front (named_later catalogue request ids kept written each k later))
        ])
    | inr high ↦ inl (forbid_left_out numbers turns places wishes 0 written rest after matched k high below)
  ]
    where
      in_front : IsNamedLater written k → IsNamedLater after k
      in_front (later, literals, causes, past_it, at, names) =
          let (others, whole) = steps_prefix numbers turns places wishes 0 written rest after matched in
          (later, literals, causes, past_it, subst (λ (xs : List Step). slice_get xs later ≡ Some (Derive literals causes)) (sym whole) (get_in_prefix written others later (Derive literals causes) at), names)

  -- it has a line
  pub steps_used : (answers : List Answer) → order.AreTurns catalogue request [] [] (turns_of (listed catalogue) (t ∷ rest)) answers → AreUsed answers after
  steps_used answers are k below = elim (each_used k below) [
    | inl (w, h) ↦ (
        let v : ℕ × Version = wish_at (listed catalogue) w in
        inl (v.1, v.0, left_out_listed catalogue request [] [] (turns_of (listed catalogue) (t ∷ rest)) answers are v (suc k) (contains_later _ _ _ (contains_map (turn_of (listed catalogue)) (LeftOut w (suc k)) rest h))))
    | inr later ↦ inr later
  ]
