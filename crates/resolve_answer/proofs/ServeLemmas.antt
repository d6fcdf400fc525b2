-- The outcome of a search over a catalogue's provider serves the request, as turns of a report.
use Rattle.std.proofs.Common.{◌≡◌, Bor, inl, inr, ℕ, zero, suc, ◌+◌, ◌<◌, ◌≤◌, Bool, true, false, List, [], ◌∷◌, ◌++◌, map, take, drop, length, Option, Some, None, refl, sym, ap, subst, ◌∙◌, arith}
use Rattle.std.specs.Prelude.{Contains, MatchOption, slice_get}
use Rattle.std.specs.Option.{option_map}
use Rattle.std.proofs.lemmas.Bool.{cases_Bool, eq-eqb}
use Rattle.std.proofs.lemmas.Option.{none-some, slice_get_within}
use Rattle.std.proofs.lemmas.List.{append-nil, length-append, length-map, take-append-drop, take-map, take_all}
use Rattle.resolvo_text.specs.Line.{Version, Line}
use Rattle.resolvo_text.specs.Matches.{Set}
use Rattle.resolvo_catalogue_core.specs.Grammar.{AreRequestLines}
use Rattle.resolvo_catalogue_core.specs.Listed.{listed, members}
use Rattle.resolvo_catalogue_core.specs.Questions.{ReadRequest}
use Rattle.resolvo_catalogue_core.specs.Sets as texts
use Rattle.resolvo_catalogue_core.specs.Kept.{nth}
use Rattle.resolvo_catalogue_core.specs.declared.rule.VersionNo.{VersionNo}
use Rattle.resolve_order.specs.Order.{AreReached, chosen_in, wishes_in}
use Rattle.resolve_order.specs.Order as order
use Rattle.resolve_order.specs.View.{turn_of, turns_of}
use Rattle.resolve_order.specs.declared.entry.Turn.{Turn}
use Rattle.resolve_order.specs.declared.entry.Turn.TheVariants.{Chose, LeftOut}
use Rattle.resolvo_sat.specs.RuleClauses.{IsExact}
use Rattle.resolvo_sat.specs.First.{ArePreferred}
use Rattle.resolvo_sat.proofs.Lists.{contains_first, contains_later, contains_left, contains_none, contains_map, contains_one, contains_parts}
use Rattle.resolvo_state.proofs.Positions.{contains_get, get_below, get_push}
use Rattle.resolvo_proof.specs.Trimmed.{IsTrimmedWith}
use Rattle.resolvo_proof.specs.declared.step.ProofStep.{ProofStep}
use Rattle.resolvo_proof.specs.declared.step.ProofStep.TheVariants.{Derived}
use Rattle.resolvo_catalogue.specs.Ids.{Ids, SolvableId, solvable_id}
use Rattle.resolvo_terms.specs.Terms.{NameId}
use Rattle.resolvo_catalogue.specs.Known.{name_of}
use Rattle.resolvo_catalogue.specs.KeptSets.{Represents, DistinguishesIds, root_of}
use Rattle.resolvo_catalogue.specs.Over.{IsOver, AreAsked}
use Rattle.resolvo_catalogue.specs.Provider.{Provider, packages_of}
use Rattle.resolvo_catalogue.specs.declared.provider.RequestIds.{RequestIds}
use Rattle.resolvo_catalogue.proofs.Alike.{candidate}
use Rattle.resolvo_catalogue.proofs.Elements.{flat_from}
use Rattle.resolvo_report.specs.Value.{Step}
use Rattle.resolvo_report.specs.Text.{IsStep}
use Rattle.resolvo_report.specs.View.{step_of}
use Rattle.resolvo_report.specs.declared.step.Step as code
use Rattle.resolvo_checker.specs.Proof.{every_line, is_valid_step, IsProof}
use Rattle.resolvo_judge.specs.Refusal.{step_forbids}
use Rattle.resolve_install.specs.Numbers.{numbers_of}
use Rattle.resolve_install.specs.Install.{Serve, AreWishes, wish_of, accepted_of}
use Rattle.resolve_install.proofs.ReachLemmas.{members_represent, has_version}
use Rattle.resolve_refusal.specs.InstallSteps.{AreInstallSteps, DeniesAt, IsForbidStep, IsForbidStepOf}
use Rattle.resolve_refusal.specs.RefusedReport.{version_at}
use Rattle.resolve_refusal.proofs.ForbidLemmas.{free_unbarred}
use Rattle.resolve_refusal.proofs.Grammar.{of_every}
use Rattle.resolvo.specs.Turns.{AreInTurn, AreSolvedByTurn, accepted_by, first_of}
use Rattle.resolvo.specs.Solve.{HasProof}
use Rattle.resolvo.specs.SoftTurns.{AreCandidates, IsCandidate}
use Rattle.resolvo.proofs.Forward.{end_after, end_is, turns_in_order}
use Rattle.resolve_answer.specs.First.{AreFirstChosen}
use Rattle.resolve_answer.specs.TryOrder.{orders_of}
use Rattle.resolve_answer.specs.Reported.{AreKept}
use Rattle.resolve_answer.specs.Wishes.{AreWishesOf, asked_by, free_of, unless_forbidden}
use Rattle.resolve_answer.specs.ReportTurns.{Solved, AreTurnsFor, AreWanted, IsBetween, IsFirstTurn, IsWishedTurn, first_end, number_at, past}
use Rattle.resolve_answer.specs.declared.wishes.Wish.{Wish}
use Rattle.resolve_answer.proofs.FirstChosen.{first_chosen}
use Rattle.resolve_answer.proofs.WalkLemmas.{AreServing, AreSoFar, IsKnownWish, index_is, IsServing, Serves, IsValidAt, keeping_so_far, keeps_lines, part_is, reached_so_far, serving_more, represents_at, take_next, versions_of, walk}

-- ---- the steps

-- A property of steps that survives the addition of a forbidding step holds of the steps of the
-- report.
pub steps_hold : (catalogue : List Line) (Q : List Step → Type 0) → ((steps : List Step) (x : Version) (s : Step) → IsForbidStep catalogue x s → suc (length steps) < 4294967296 → Q steps → Q (steps ++ s ∷ []))
    → (numbers : List VersionNo) (turns : List Solved) (places : List ℕ) (ws : List Wish) (m : ℕ) (steps : List Step) (matched : List Turn) (after : List Step) → ((w : Wish) → Contains ws w → IsForbidStepOf catalogue w.version.0 (option_map step_of w.forbidden_by)) → Q steps
    → AreTurnsFor numbers turns places ws m steps matched after → Q after
steps_hold catalogue Q more numbers turns places [] m steps matched after forbids q (none, is) = subst Q (sym is) q
steps_hold catalogue Q more numbers turns places (w ∷ ws) m steps matched after forbids q (u, rest, are, next) = go (λ k before q more_matched. steps_hold catalogue Q more numbers turns places ws k before rest after later q more_matched) w.forbidden_by refl next
  where
    later : (x : Wish) → Contains ws x → IsForbidStepOf catalogue x.version.0 (option_map step_of x.forbidden_by)
    later x h = forbids x (contains_later x w ws h)

    go : ((k : ℕ) (before : List Step) → Q before → AreTurnsFor numbers turns places ws k before rest after → Q after) → (b : Option code.Step) → w.forbidden_by ≡ b → MatchOption b (IsWishedTurn numbers places (asked_by w) (slice_get turns m) u × AreTurnsFor numbers turns places ws (suc m) steps rest after)
        (λ step. (suc (length steps) < 4294967296) × (u ≡ LeftOut (asked_by w) (suc (length steps))) × AreTurnsFor numbers turns places ws m (steps ++ step_of step ∷ []) rest after) → Q after
    go again None is (turn_is, on) = again (suc m) steps q on
    go again (Some step) is (few, out, on) =
        let (x, at, forbids_it) = subst (λ (o : Option code.Step). IsForbidStepOf catalogue w.version.0 (option_map step_of o)) is (forbids w (contains_first w w ws refl)) in
        again m (steps ++ step_of step ∷ []) (more steps x (step_of step) forbids_it few q) on

-- the steps of an install report
pub record AreSteps (catalogue request : List Line) (steps : List Step) : Type 0 where
  pub proof : IsProof catalogue request every_line every_line steps
  pub texts : (s : Step) → Contains steps s → IsStep s
  pub few : length steps < 4294967296

-- those that write a proof are such
pub written_steps : (catalogue request : List Line) (ids : Ids) (kept : List (ProofStep NameId SolvableId)) (written : List Step) → AreInstallSteps catalogue request ids kept written → AreSteps catalogue request written
written_steps catalogue request ids kept written install = record {
  proof = install.valid;
  texts = λ s h. (let (n, at) = contains_get written s h in install.texts n s at);
  few = install.few;
}

-- they stay so
pub one_step_more : (catalogue request : List Line) (steps : List Step) (x : Version) (s : Step) → IsForbidStep catalogue x s → suc (length steps) < 4294967296 → AreSteps catalogue request steps → AreSteps catalogue request (steps ++ s ∷ [])
one_step_more catalogue request steps x s forbids few are = record {
  proof = λ n t e. elim (get_push steps s t n e) [
    | inl old ↦ subst (λ (xs : List Step). is_valid_step catalogue request every_line every_line xs t ≡ true) (sym (taken_prefix n steps (s ∷ []) (slice_get_within steps n t old))) (are.proof n t old)
    | inr (place, is) ↦ subst (λ (u : Step). is_valid_step catalogue request every_line every_line (take n (steps ++ s ∷ [])) u ≡ true) (sym is) (forbids.present request (take n (steps ++ s ∷ [])))
  ];
  texts = λ t h. elim (contains_parts t steps (s ∷ []) h) [ inl old ↦ are.texts t old | inr new ↦ subst IsStep (sym (contains_one t s new)) forbids.text ];
  few = (let long : length (steps ++ s ∷ []) ≡ length steps + 1 = length-append steps (s ∷ []) in omega arith);
}
  where
    taken_prefix : {X : Type 0} (n : ℕ) (xs ys : List X) → n < length xs → take n (xs ++ ys) ≡ take n xs
    taken_prefix n [] ys low = absurd (omega arith)
    taken_prefix zero (x ∷ xs) ys low = refl
    taken_prefix (suc n) (x ∷ xs) ys low = ap (λ zs. x ∷ zs) (taken_prefix n xs ys (omega arith))

-- ---- the wishes

-- the turns of the wishes, one each
turns_wishes : (numbers : List VersionNo) (turns : List Solved) (places : List ℕ) (ws : List Wish) (m : ℕ) (steps : List Step) (matched : List Turn) (after : List Step) → AreTurnsFor numbers turns places ws m steps matched after → map wish_of matched ≡ map Some (map asked_by ws)
turns_wishes numbers turns places [] m steps matched after (none, is) = ap (map wish_of) none
turns_wishes numbers turns places (w ∷ ws) m steps matched after (u, rest, are, next) = ap (map wish_of) are ∙ go (λ k before on. turns_wishes numbers turns places ws k before rest after on) w.forbidden_by next
  where
    wished : (o : Option Solved) → IsWishedTurn numbers places (asked_by w) o u → wish_of u ≡ Some (asked_by w)
    wished None is = ap wish_of is
    wished (Some t) (accepting, refusing) = elim (cases_Bool t.accepted) [ inl a ↦ ap wish_of (accepting a).1 | inr b ↦ ap wish_of (refusing b) ]

    both : (o : Option (ℕ × VersionNo)) (xs ys : List (Option (ℕ × VersionNo))) → o ≡ Some (asked_by w) → xs ≡ ys → o ∷ xs ≡ Some (asked_by w) ∷ ys
    both o xs ys is same = ap (λ x. x ∷ xs) is ∙ ap (λ zs. Some (asked_by w) ∷ zs) same

    go : ((k : ℕ) (before : List Step) → AreTurnsFor numbers turns places ws k before rest after → map wish_of rest ≡ map Some (map asked_by ws)) → (b : Option code.Step) → MatchOption b (IsWishedTurn numbers places (asked_by w) (slice_get turns m) u × AreTurnsFor numbers turns places ws (suc m) steps rest after)
        (λ step. (suc (length steps) < 4294967296) × (u ≡ LeftOut (asked_by w) (suc (length steps))) × AreTurnsFor numbers turns places ws m (steps ++ step_of step ∷ []) rest after) → wish_of u ∷ map wish_of rest ≡ Some (asked_by w) ∷ map Some (map asked_by ws)
    go again None (turn_is, on) = both (wish_of u) (map wish_of rest) (map Some (map asked_by ws)) (wished (slice_get turns m) turn_is) (again (suc m) steps on)
    go again (Some step) (few, out, on) = both (wish_of u) (map wish_of rest) (map Some (map asked_by ws)) (ap wish_of out) (again m (steps ++ step_of step ∷ []) on)

-- one of the first of a list is in it
taken_contained : {X : Type 0} (n : ℕ) (xs : List X) (x : X) → Contains (take n xs) x → Contains xs x
taken_contained n xs x h = subst (λ (ys : List _). Contains ys x) (take-append-drop n xs) (contains_left x (take n xs) (drop n xs) h)

-- ---- all of it

module _ (catalogue : List Line) (source : ReadRequest) (provider : Provider) (over : IsOver catalogue provider) (ids : RequestIds) (asked : AreAsked provider.ids source ids) (asks_rightly : AreRequestLines catalogue source.lines)
    (same : SolvableId → SolvableId → Bool) (exact : IsExact same) (are_wishes : AreWishes catalogue source.lines source.wishes) (items : List Wish) (wishes_are : AreWishesOf catalogue source.wishes items) where
  apart : DistinguishesIds same
  apart s t = (exact.one s t, λ e. subst (λ x. same s x ≡ true) e (exact.own s))

  -- each wish is of a listed version
  pub known_wish : (w : Wish) → Contains items w → IsKnownWish catalogue provider same w
  known_wish w h =
      let (i, at) = contains_get source.wishes (asked_by w) (subst (λ (ws : List (ℕ × VersionNo)). Contains ws (asked_by w)) wishes_are.are (contains_map asked_by w items h)) in
      let (x, there, line) = are_wishes.versions i (asked_by w) at in
      record {
        version = x;
        there = there;
        forbidden_by = wishes_are.forbids w h;
        free = λ none. free_unbarred catalogue provider over same exact (solvable_id w.version.0) x there (subst (λ (o : Option code.Step). IsForbidStepOf catalogue w.version.0 (option_map step_of o)) none (wishes_are.forbids w h) x there);
      }

  -- the solvables that the search is asked for are candidates of their packages
  pub free_candidates : AreCandidates same (packages_of provider) (free_of items)
  free_candidates s h =
      let (w, among, inside) = flat_from (λ (w : Wish). unless_forbidden w.forbidden_by (solvable_id w.version.0)) items s h in
      subst (λ (x : SolvableId). IsCandidate same (packages_of provider) x) (sym (its_solvable w.forbidden_by (solvable_id w.version.0) s inside)) (its_candidate w (known_wish w among))
    where
      its_solvable : (b : Option code.Step) (t s : SolvableId) → Contains (unless_forbidden b t) s → s ≡ t
      its_solvable None t s h = contains_one s t h
      its_solvable (Some step) t s h = absurd (contains_none s h)

      its_candidate : (w : Wish) → IsKnownWish catalogue provider same w → IsCandidate same (packages_of provider) (solvable_id w.version.0)
      its_candidate w known =
          let n = name_of provider.ids (solvable_id w.version.0) in
          candidate provider (listed catalogue) over.versions over.once same apart n (solvable_id w.version.0) known.version known.there ∙ eq-eqb n.raw n.raw refl

  module _ (v : List SolvableId) (turns : List Solved) (wished : AreSolvedByTurn same (packages_of provider) (root_of ids) v (first_of v turns) (free_of items) turns) where
    abbrev pub first : ℕ
    first = first_of v turns

    last_end : end_after first turns ≡ length v
    last_end = sym (end_is first turns) ∙ wished.whole

    valid_first : IsValidAt catalogue source provider over ids asked asks_rightly same apart exact v first []
    valid_first = record { keeping = wished.solution.keeping; reached = wished.solution.reached; free = λ s h. absurd (contains_none s h); has = λ s h. absurd (contains_none s h) }

    first_is : (numbers : List VersionNo) → numbers ≡ numbers_of v → first_end (length numbers) turns ≡ first
    first_is numbers numbers_are = go turns
      where
        go : (ts : List Solved) → first_end (length numbers) ts ≡ first_of v ts
        go [] = ap length numbers_are ∙ length-map v _
        go (s ∷ ts) = refl

    -- the choices of the turn of the needs are first choices
    pub first_entries : (numbers : List VersionNo) → numbers ≡ numbers_of v → (part : Bor (List VersionNo)) → IsBetween numbers 0 (first_end (length numbers) turns) part.now → ArePreferred same (packages_of provider) (orders_of same provider) (root_of ids) (take first v)
        → AreFirstChosen catalogue source.lines (members (listed catalogue) part.now)
    first_entries numbers numbers_are part between preferred =
        let low : first ≤ length v = wished.within in
        let is : members (listed catalogue) part.now ≡ versions_of catalogue (take first v) = part_is catalogue v numbers numbers_are 0 first part.now (omega arith) low (subst (λ (k : ℕ). IsBetween numbers 0 k part.now) (first_is numbers numbers_are) between) in
        first_chosen catalogue source provider ids over asked same apart (take first v) wished.solution.keeping preferred (members (listed catalogue) part.now)
        (subst (λ (xs : Set). Represents (listed catalogue) (take first v) xs) (sym is) (represents_at catalogue source provider over ids asked asks_rightly same apart exact v first [] valid_first))

    module _ (numbers : List VersionNo) (numbers_are : numbers ≡ numbers_of v) (places : List ℕ) (after written : List Step) (t : Turn) (rest : List Turn)
        (first_turn : IsFirstTurn numbers turns t) (matched : AreTurnsFor numbers turns places items 0 written rest after)
        (refuses : (s : Solved) → Contains turns s → s.accepted ≡ false → (x : Version) → slice_get (listed catalogue) s.solvable.raw ≡ Some x → step_forbids catalogue source.lines after (versions_of catalogue (take s.begin v)) x (number_at places s.step) ≡ true) where
      first_so : AreSoFar catalogue source provider over ids asked asks_rightly same apart exact v (t ∷ []) first []
      first_so =
          let (part, is, between) = first_turn in
          let low : first ≤ length v = wished.within in
          subst (λ (u : Turn). AreSoFar catalogue source provider over ids asked asks_rightly same apart exact v (u ∷ []) first []) (sym is) (record {
            chosen = append-nil _ ∙ part_is catalogue v numbers numbers_are 0 first part.now (omega arith) low (subst (λ (k : ℕ). IsBetween numbers 0 k part.now) (first_is numbers numbers_are) between);
            wished = refl;
            valid = valid_first;
            within = low;
          })

      first_serves : IsServing catalogue source provider over ids asked asks_rightly same apart exact v numbers numbers_are turns places after refuses [] t
      first_serves =
          let (part, is, between) = first_turn in
          record {
            accepted = λ w e. absurd (none-some w (sym (ap accepted_of is) ∙ e));
            keeping = keeping_so_far catalogue source provider over ids asked asks_rightly same apart exact v (t ∷ []) first [] first_so;
            reached = reached_so_far catalogue source provider over ids asked asks_rightly same apart exact v (t ∷ []) first [] first_so;
            forbidden = λ w k e. absurd (let no_turn : Chose None part ≡ LeftOut w k = sym is ∙ e in cc);
          }

      all_serve : Serves catalogue source provider over ids asked asks_rightly same apart exact v numbers numbers_are turns places after refuses (t ∷ []) rest (end_after first turns)
      all_serve = walk catalogue source provider over ids asked asks_rightly same apart exact v numbers numbers_are turns places after refuses items 0 first [] (t ∷ []) written rest turns first_so (λ j. ap (λ k. slice_get turns k) (let is : 0 + j ≡ j = omega arith in is))
          (turns_in_order same (packages_of provider) (root_of ids) v first (free_of items) turns wished) matched known_wish

      each_serves : AreServing catalogue source provider over ids asked asks_rightly same apart exact v numbers numbers_are turns places after refuses [] (t ∷ rest)
      each_serves = serving_more catalogue source provider over ids asked asks_rightly same apart exact v numbers numbers_are turns places after refuses [] rest t first_serves all_serve.each

      -- one turn after those before it
      up_to : (k : ℕ) (u : Turn) → slice_get (t ∷ rest) k ≡ Some u → chosen_in (turns_of (listed catalogue) (take k (t ∷ rest) ++ u ∷ [])) ≡ chosen_in (turns_of (listed catalogue) (take (suc k) (t ∷ rest)))
      up_to k u e = ap (λ xs. chosen_in (turns_of (listed catalogue) xs)) (sym (take_next k (t ∷ rest) u e))

      -- by the end of each turn the chosen versions keep the rules, and are reached
      pub kept_is : AreKept catalogue source.lines (turns_of (listed catalogue) (t ∷ rest))
      kept_is = record {
        keeping = λ k low. (
            let (u, e) = get_below (t ∷ rest) k (within k low) in
            subst (λ (xs : List order.Turn). texts.IsRuleKeeping catalogue source.lines (chosen_in xs)) (turns_to k u e) (each_serves k u e).keeping);
        reached = λ k low. (
            let (u, e) = get_below (t ∷ rest) k (within k low) in
            subst (λ (xs : List order.Turn). AreReached catalogue source.lines (chosen_in xs) (wishes_in xs)) (turns_to k u e) (each_serves k u e).reached);
      }
        where
          within : (k : ℕ) → k < length (turns_of (listed catalogue) (t ∷ rest)) → k < length (t ∷ rest)
          within k low = (let same_count : length (turns_of (listed catalogue) (t ∷ rest)) ≡ length (t ∷ rest) = length-map (t ∷ rest) (turn_of (listed catalogue)) in omega (arith, low, same_count))

          turns_to : (k : ℕ) (u : Turn) → slice_get (t ∷ rest) k ≡ Some u → turns_of (listed catalogue) (take k (t ∷ rest) ++ u ∷ []) ≡ take (suc k) (turns_of (listed catalogue) (t ∷ rest))
          turns_to k u e = ap (turns_of (listed catalogue)) (sym (take_next k (t ∷ rest) u e)) ∙ sym (take-map (turn_of (listed catalogue)) (suc k) (t ∷ rest))

      pub serve_is : AreSteps catalogue source.lines after → Serve catalogue source.lines (t ∷ rest) after
      serve_is steps = record {
        keeping = subst (λ (xs : Set). texts.IsRuleKeeping catalogue source.lines xs) (sym all_serve.so.chosen) (keeps_lines catalogue source provider over ids asked asks_rightly same apart exact v (end_after first turns) all_serve.wishes all_serve.so.valid);
        wishes = source.wishes;
        are_wishes = are_wishes;
        in_turn = (let (part, is, between) = first_turn in ap (λ x. x ∷ map wish_of rest) (ap wish_of is) ∙ ap (λ xs. None ∷ xs) (turns_wishes numbers turns places items 0 written rest after matched ∙ ap (map Some) wishes_are.are));
        accepted = λ k u wish e is. subst (λ (xs : Set). Contains xs (nth (listed catalogue) wish.1)) (up_to k u e) ((each_serves k u e).accepted wish is);
        reached = λ k low. (
            let (u, e) = get_below (t ∷ rest) k low in
            subst (λ (xs : List Turn). AreReached catalogue source.lines (chosen_in (turns_of (listed catalogue) xs)) (wishes_in (turns_of (listed catalogue) xs))) (sym (take_next k (t ∷ rest) u e)) (each_serves k u e).reached);
        forbidden = λ k wish step e. (each_serves k (LeftOut wish step) e).forbidden wish step refl;
        proof = steps.proof;
        texts = of_every IsStep after steps.texts;
        numbers = steps.few;
      }

    -- ---- the steps of refused wishes

    -- each of the first so many chosen has a version
    abbrev AreListed : ℕ → Type 0
    AreListed n = (s : SolvableId) → Contains (take n v) s → (x : Version) × (slice_get (listed catalogue) s.raw ≡ Some x)

    last_listed : (n : ℕ) (wishes asked_for : List SolvableId) (ts : List Solved) → AreInTurn same (packages_of provider) (root_of ids) v n wishes asked_for ts → AreListed n → AreListed (end_after n ts)
    last_listed n wishes [] [] in_turn are = are
    last_listed n wishes [] (t ∷ ts) in_turn are = absurd in_turn
    last_listed n wishes (w ∷ ws) [] in_turn are = absurd in_turn
    last_listed n wishes (w ∷ ws) (t ∷ ts) (begin, one, later) are = last_listed t.end (accepted_by wishes t) ws ts later (has_version provider catalogue source.lines over same apart (root_of ids) (take t.end v) one.ended.keeping.single)

    listed_chosen : (s : SolvableId) → Contains v s → (x : Version) × (slice_get (listed catalogue) s.raw ≡ Some x)
    listed_chosen s h =
        last_listed first [] (free_of items) turns (turns_in_order same (packages_of provider) (root_of ids) v first (free_of items) turns wished) (has_version provider catalogue source.lines over same apart (root_of ids) (take first v) wished.solution.keeping.single) s
        (subst (λ (xs : List SolvableId). Contains xs s) (sym (ap (λ n. take n v) last_end ∙ take_all (length v) v (omega arith))) h)

    version_is : (s : SolvableId) (x : Version) → slice_get (listed catalogue) s.raw ≡ Some x → version_at catalogue s ≡ x
    version_is s x at = index_is (listed catalogue) s.raw _ x at

    -- the version of one that was chosen before the turn
    denied_version : (n : ℕ) (s : SolvableId) → Contains (take n v) s → Contains (versions_of catalogue (take n v)) (version_at catalogue s)
    denied_version n s h =
        let valid = members_represent (listed catalogue) (take n v) (λ r c. listed_chosen r (taken_contained n v r c)) in
        let (x, at, inside) = valid.each s h in
        subst (λ (y : Version). Contains (versions_of catalogue (take n v)) y) (sym (version_is s x at)) inside

    -- the step by which a refused wish is left out forbids it
    pub refused_forbidden : (proof kept : List (ProofStep NameId SolvableId)) (wanted places : List ℕ) → ((t : Solved) → Contains turns t → HasProof proof v t) → AreWanted turns wanted → IsTrimmedWith (Contains wanted) proof kept places → (written others after : List Step)
        → AreInstallSteps catalogue source.lines provider.ids kept written → after ≡ written ++ others → (t : Solved) → Contains turns t → t.accepted ≡ false → (x : Version) → slice_get (listed catalogue) t.solvable.raw ≡ Some x
        → step_forbids catalogue source.lines after (versions_of catalogue (take t.begin v)) x (number_at places t.step) ≡ true
    refused_forbidden proof kept wanted places proofs are_wanted numbered written others after install whole t h refused x there =
        let (k, step, only) = (proofs t h).refused refused in
        let (place, present, at, kept_at, renumbered) = numbered.present k (Derived only.literals only.causes) (are_wanted.each t k h step) only.derived in
        let (causes, is, zipped) = renumbered in
        let forbidden_by : DeniesAt catalogue kept (versions_of catalogue (take t.begin v)) x place = record {
          literals = only.literals;
          causes = causes;
          derived = kept_at ∙ ap Some is;
          denies = λ l inside. (
              let (negative, (s, atom, among)) = only.denies l inside in (
                s,
                atom,
                negative,
                elim among [
                  | inl wish ↦ inl (ap (version_at catalogue) wish ∙ version_is t.solvable x there)
                  | inr before ↦ inr (denied_version t.begin s before)
                ],
              ));
        } in
        let number : number_at places t.step ≡ suc place = ap (number_at places) step ∙ ap past at in
        subst (λ (n : ℕ). step_forbids catalogue source.lines after (versions_of catalogue (take t.begin v)) x n ≡ true) (sym number)
        (subst (λ (xs : List Step). step_forbids catalogue source.lines xs (versions_of catalogue (take t.begin v)) x (suc place) ≡ true) (sym whole) (install.forbidden_by others (versions_of catalogue (take t.begin v)) x place forbidden_by))
