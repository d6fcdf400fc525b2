-- The turns of a report, one after the other. The choices of each are reached, and keep the rules.
-- Each wish that is left out is forbidden.
use Rattle.std.proofs.Common.{◌≡◌, Bor, inl, inr, ℕ, zero, suc, ◌+◌, ◌-◌, ◌<◌, ◌≤◌, Bool, true, false, cond, List, [], ◌∷◌, ◌++◌, take, drop, length, Option, Some, None, refl, sym, ap, subst, ◌∙◌, append_assoc, arith}
use Rattle.std.specs.Prelude.{Contains, IsTrue, MatchOption, option_to_list, slice_get, slice_index_or, unwrap_or}
use Rattle.std.specs.Option.{option_map}
use Rattle.std.proofs.lemmas.Bool.{both_ways, cases_Bool}
use Rattle.std.proofs.lemmas.Option.{same_Some, none-some, unwrap_or-slice_get}
use Rattle.std.proofs.lemmas.List.{append-nil, length-map, map-append, take-map, drop-map}
use Rattle.std.proofs.lemmas.List.Concat.{flat_map-append}
use Rattle.resolvo_text.specs.Line.{Version, Line}
use Rattle.resolvo_text.specs.Matches.{Set}
use Rattle.resolvo_catalogue_core.specs.Grammar.{AreRequestLines}
use Rattle.resolvo_catalogue_core.specs.Listed.{listed, members}
use Rattle.resolvo_catalogue_core.specs.Questions.{ReadRequest}
use Rattle.resolvo_catalogue_core.specs.Sets as texts
use Rattle.resolvo_catalogue_core.specs.Kept.{nth, nowhere}
use Rattle.resolvo_catalogue_core.specs.declared.rule.VersionNo.{VersionNo}
use Rattle.resolve_order.specs.Order.{AreReached, chosen_by, chosen_in, wishes_in}
use Rattle.resolve_order.specs.View.{turn_of, turns_of}
use Rattle.resolve_order.specs.declared.entry.Turn.{Turn}
use Rattle.resolve_order.specs.declared.entry.Turn.TheVariants.{Chose, LeftOut}
use Rattle.resolvo_pool_core.specs.RuleKeeping.{is_in, is_forbidden, IsExemptKeeping, IsRuleKeeping, IsReached}
use Rattle.resolvo_sat.specs.RuleClauses.{IsExact}
use Rattle.resolvo_sat.specs.SearchEnd.{IsAccepted}
use Rattle.resolvo_sat.proofs.Lists.{contains_first, contains_later, contains_one, contains_parts}
use Rattle.resolvo_sat.proofs.Members.{in_contained}
use Rattle.resolvo_catalogue.specs.Ids.{SolvableId, solvable_id}
use Rattle.resolvo_catalogue.specs.KeptSets.{Represents, DistinguishesIds, root_of}
use Rattle.resolvo_catalogue.specs.Over.{IsOver, AreAsked}
use Rattle.resolvo_catalogue.specs.Provider.{Provider, packages_of}
use Rattle.resolvo_catalogue.specs.declared.provider.RequestIds.{RequestIds}
use Rattle.resolvo_catalogue.proofs.KeptAlike.{kept_alike}
use Rattle.resolvo_report.specs.Value.{Step}
use Rattle.resolvo_report.specs.View.{step_of}
use Rattle.resolvo_report.specs.declared.step.Step as code
use Rattle.resolvo_judge.specs.Refusal.{step_forbids}
use Rattle.resolvo_state.proofs.Positions.{get_contains}
use Rattle.resolve_install.specs.Numbers.{numbers_of}
use Rattle.resolve_install.specs.Install.{accepted_of}
use Rattle.resolve_install.proofs.ReachLemmas.{members_represent, has_version, reached_alike}
use Rattle.resolve_refusal.specs.InstallSteps.{IsForbidStepOf}
use Rattle.resolvo.specs.Turns.{AreInTurn, IsTurnOf, accepted_by}
use Rattle.resolvo.proofs.Forward.{end_after}
use Rattle.resolve_answer.specs.Wishes.{asked_by, free_of, unless_forbidden}
use Rattle.resolve_answer.specs.ReportTurns.{Solved, AreTurnsFor, IsBetween, IsWishedTurn, number_at}
use Rattle.resolve_answer.specs.declared.wishes.Wish.{Wish}
use Rattle.resolve_answer.proofs.WishTurns.{steps_prefix}

-- ---- lists

-- so many of a list and one more
pub take_next : {X : Type 0} (n : ℕ) (xs : List X) (x : X) → slice_get xs n ≡ Some x → take (suc n) xs ≡ take n xs ++ x ∷ []
take_next n [] x e = absurd cc
take_next zero (y ∷ xs) x e = ap (λ z. z ∷ []) (same_Some y x e)
take_next (suc n) (y ∷ xs) x e = ap (λ zs. y ∷ zs) (take_next n xs x e)

-- nothing of an empty list
take_empty : {X : Type 0} (k : ℕ) (xs : List X) → xs ≡ [] → take k xs ≡ []
take_empty zero xs e = refl
take_empty (suc k) [] e = refl
take_empty (suc k) (x ∷ xs) e = absurd cc

-- the first ones of a list, and those up to a later place
pub take_up_to : {X : Type 0} (n e : ℕ) (xs : List X) → n ≤ e → take n xs ++ take (e - n) (drop n xs) ≡ take e xs
take_up_to zero e xs low = (let is : e - 0 ≡ e = omega arith in ap (λ k. take k xs) is)
take_up_to (suc n) zero xs low = absurd (omega arith)
take_up_to (suc n) (suc e) [] low = take_empty (suc e - suc n) [] refl
take_up_to (suc n) (suc e) (x ∷ xs) low = (let is : suc e - suc n ≡ e - n = omega arith in ap (λ k. x ∷ (take n xs ++ take k (drop n xs))) is ∙ ap (λ ys. x ∷ ys) (take_up_to n e xs (omega arith)))

-- the rest after others
pub get_behind : {X : Type 0} (xs : List X) (y : X) (ys : List X) → slice_get (xs ++ y ∷ ys) (length xs) ≡ Some y
get_behind [] y ys = refl
get_behind (x ∷ xs) y ys = get_behind xs y ys

-- an item by its place, with a default
pub index_is : {X : Type 0} (xs : List X) (k : ℕ) (d x : X) → slice_get xs k ≡ Some x → slice_index_or xs k d ≡ x
index_is xs k d x e = sym (unwrap_or-slice_get xs k d) ∙ ap (λ (o : Option _). unwrap_or o d) e

-- a listed version by its number
pub nth_is : (versions : List Version) (n : VersionNo) (x : Version) → slice_get versions n.0 ≡ Some x → nth versions n ≡ x
nth_is versions n x e = index_is versions n.0 nowhere x e

-- ---- turns of a report

-- one turn more chose so much more
pub chosen_next : (catalogue : List Line) (turns : List Turn) (t : Turn) → chosen_in (turns_of (listed catalogue) (turns ++ t ∷ [])) ≡ chosen_in (turns_of (listed catalogue) turns) ++ chosen_by (turn_of (listed catalogue) t)
chosen_next catalogue turns t = ap chosen_in (map-append (turn_of (listed catalogue)) turns (t ∷ [])) ∙ flat_map-append chosen_by (turns_of (listed catalogue) turns) (turn_of (listed catalogue) t ∷ []) ∙ ap (λ xs. chosen_in (turns_of (listed catalogue) turns) ++ xs) (append-nil (chosen_by (turn_of (listed catalogue) t)))

-- and wishes
pub wishes_next : (catalogue : List Line) (turns : List Turn) (t : Turn) → wishes_in (turns_of (listed catalogue) (turns ++ t ∷ [])) ≡ wishes_in (turns_of (listed catalogue) turns) ++ wishes_in (turn_of (listed catalogue) t ∷ [])
wishes_next catalogue turns t = ap wishes_in (map-append (turn_of (listed catalogue)) turns (t ∷ [])) ∙ flat_map-append _ (turns_of (listed catalogue) turns) (turn_of (listed catalogue) t ∷ [])

-- ---- the chosen versions

abbrev pub versions_of : List Line → List SolvableId → Set
versions_of catalogue xs = members (listed catalogue) (numbers_of xs)

versions_append : (catalogue : List Line) (xs ys : List SolvableId) → versions_of catalogue (xs ++ ys) ≡ versions_of catalogue xs ++ versions_of catalogue ys
versions_append catalogue xs ys = ap (members (listed catalogue)) (map-append _ xs ys) ∙ flat_map-append _ (numbers_of xs) (numbers_of ys)

-- the part of a turn, after those before it
pub part_is : (catalogue : List Line) (v : List SolvableId) (numbers : List VersionNo) → numbers ≡ numbers_of v → (begin end_ : ℕ) (part : List VersionNo) → begin ≤ end_ → end_ ≤ length v → IsBetween numbers begin end_ part
    → versions_of catalogue (take begin v) ++ members (listed catalogue) part ≡ versions_of catalogue (take end_ v)
part_is catalogue v numbers numbers_are begin end_ part low within between =
    let long : length numbers ≡ length v = ap length numbers_are ∙ length-map v _ in
    let is : part ≡ numbers_of (take (end_ - begin) (drop begin v)) = between low (omega arith) ∙ ap (λ xs. take (end_ - begin) (drop begin xs)) numbers_are ∙ ap (take (end_ - begin)) (drop-map _ begin v) ∙ take-map _ (end_ - begin) (drop begin v) in
    ap (λ xs. versions_of catalogue (take begin v) ++ members (listed catalogue) xs) is ∙ sym (versions_append catalogue (take begin v) (take (end_ - begin) (drop begin v))) ∙ ap (versions_of catalogue) (take_up_to begin end_ v low)

-- A wish's version is listed, and a step forbids it, or nothing does.
pub record IsKnownWish (catalogue : List Line) (provider : Provider) (same : SolvableId → SolvableId → Bool) (w : Wish) : Type 0 where
  pub version : Version
  pub there : slice_get (listed catalogue) w.version.0 ≡ Some version
  pub forbidden_by : IsForbidStepOf catalogue w.version.0 (option_map step_of w.forbidden_by)
  pub free : w.forbidden_by ≡ None → is_forbidden same (packages_of provider) (solvable_id w.version.0) ≡ false

module _ (catalogue : List Line) (source : ReadRequest) (provider : Provider) (over : IsOver catalogue provider) (ids : RequestIds) (asked : AreAsked provider.ids source ids) (asks_rightly : AreRequestLines catalogue source.lines)
    (same : SolvableId → SolvableId → Bool) (apart : DistinguishesIds same) (exact : IsExact same) (v : List SolvableId) where
  -- The first so many chosen keep the rules, and the root and these wishes reach them. The wishes
  -- are listed, and nothing forbids them.
  pub record IsValidAt (n : ℕ) (wishes : List SolvableId) : Type 0 where
    pub keeping : IsRuleKeeping same (packages_of provider) (root_of ids) (take n v)
    pub reached : (s : SolvableId) → is_in same (packages_of provider) (take n v) s ≡ true → IsReached same (packages_of provider) (root_of ids) wishes (take n v) s
    pub free : (s : SolvableId) → Contains wishes s → is_forbidden same (packages_of provider) s ≡ false
    pub has : (s : SolvableId) → Contains wishes s → (x : Version) × (slice_get (listed catalogue) s.raw ≡ Some x)

  -- a set that keeps the rules but for forbidden wishes keeps them where no wish is forbidden
  pub plain_keeping : (wishes chosen : List SolvableId) → ((s : SolvableId) → Contains wishes s → is_forbidden same (packages_of provider) s ≡ false) → IsExemptKeeping same (packages_of provider) (root_of ids) wishes chosen → IsRuleKeeping same (packages_of provider) (root_of ids) chosen
  plain_keeping wishes chosen free keeps = record {
    single = keeps.single;
    obeys = keeps.obeys;
    allowed = λ s h. elim (cases_Bool (is_forbidden same (packages_of provider) s)) [
      | inl forbidden ↦ absurd (both_ways _ (free s (in_contained same exact (packages_of provider) wishes s (keeps.exempt s h forbidden).0)) forbidden)
      | inr none_forbidden ↦ none_forbidden
    ];
    known = keeps.known;
  }

  -- a turn's end is such a place
  pub accepted_valid : (n : ℕ) (wishes : List SolvableId) → ((s : SolvableId) → Contains wishes s → is_forbidden same (packages_of provider) s ≡ false) → ((s : SolvableId) → Contains wishes s → (x : Version) × (slice_get (listed catalogue) s.raw ≡ Some x)) → IsAccepted same (packages_of provider) (root_of ids) wishes (take n v) → IsValidAt n wishes
  accepted_valid n wishes free has h = record { keeping = plain_keeping wishes (take n v) free h.keeping; reached = h.reached; free = free; has = has }

  pub represents_at : (n : ℕ) (wishes : List SolvableId) → IsValidAt n wishes → Represents (listed catalogue) (take n v) (versions_of catalogue (take n v))
  represents_at n wishes at = members_represent (listed catalogue) (take n v) (has_version provider catalogue source.lines over same apart (root_of ids) (take n v) at.keeping.single)

  -- over the lines too they keep the rules
  pub keeps_lines : (n : ℕ) (wishes : List SolvableId) → IsValidAt n wishes → texts.IsRuleKeeping catalogue source.lines (versions_of catalogue (take n v))
  keeps_lines n wishes at = (kept_alike provider catalogue source.lines over asks_rightly (root_of ids) asked.requirements asked.constraints same apart (take n v) (versions_of catalogue (take n v)) (represents_at n wishes at)).0 at.keeping

  -- the choices of a report's turns, and their wishes
  pub record AreSoFar (turns : List Turn) (n : ℕ) (wishes : List SolvableId) : Type 0 where
    pub chosen : chosen_in (turns_of (listed catalogue) turns) ≡ versions_of catalogue (take n v)
    pub wished : wishes_in (turns_of (listed catalogue) turns) ≡ versions_of catalogue wishes
    pub valid : IsValidAt n wishes
    pub within : n ≤ length v

  pub reached_so_far : (turns : List Turn) (n : ℕ) (wishes : List SolvableId) → AreSoFar turns n wishes → AreReached catalogue source.lines (chosen_in (turns_of (listed catalogue) turns)) (wishes_in (turns_of (listed catalogue) turns))
  reached_so_far turns n wishes so =
      subst (λ (ws : Set). AreReached catalogue source.lines (chosen_in (turns_of (listed catalogue) turns)) ws) (sym so.wished)
      (subst (λ (xs : Set). AreReached catalogue source.lines xs (versions_of catalogue wishes)) (sym so.chosen) (reaches n wishes so.valid))
    where
      reaches : (n : ℕ) (wishes : List SolvableId) → IsValidAt n wishes → AreReached catalogue source.lines (versions_of catalogue (take n v)) (versions_of catalogue wishes)
      reaches n wishes at = reached_alike provider catalogue source.lines over same apart (root_of ids) asked.requirements (take n v) (versions_of catalogue (take n v)) (represents_at n wishes at)
          wishes (versions_of catalogue wishes) (members_represent (listed catalogue) wishes at.has).each at.reached

  pub keeping_so_far : (turns : List Turn) (n : ℕ) (wishes : List SolvableId) → AreSoFar turns n wishes → texts.IsRuleKeeping catalogue source.lines (chosen_in (turns_of (listed catalogue) turns))
  keeping_so_far turns n wishes so = subst (λ (xs : Set). texts.IsRuleKeeping catalogue source.lines xs) (sym so.chosen) (keeps_lines n wishes so.valid)

  -- ---- one turn

  module _ (numbers : List VersionNo) (numbers_are : numbers ≡ numbers_of v) (turns : List Solved) (places : List ℕ) (after : List Step)
      (refuses : (t : Solved) → Contains turns t → t.accepted ≡ false → (x : Version) → slice_get (listed catalogue) t.solvable.raw ≡ Some x → step_forbids catalogue source.lines after (versions_of catalogue (take t.begin v)) x (number_at places t.step) ≡ true) where
    -- the turn serves, after others
    pub record IsServing (before : List Turn) (t : Turn) : Type 0 where
      pub accepted : (wish : ℕ × VersionNo) → accepted_of t ≡ Some wish → Contains (chosen_in (turns_of (listed catalogue) (before ++ t ∷ []))) (nth (listed catalogue) wish.1)
      pub keeping : texts.IsRuleKeeping catalogue source.lines (chosen_in (turns_of (listed catalogue) (before ++ t ∷ [])))
      pub reached : AreReached catalogue source.lines (chosen_in (turns_of (listed catalogue) (before ++ t ∷ []))) (wishes_in (turns_of (listed catalogue) (before ++ t ∷ [])))
      pub forbidden : (wish : ℕ × VersionNo) (step : ℕ) → t ≡ LeftOut wish step → IsTrue (step_forbids catalogue source.lines after (chosen_in (turns_of (listed catalogue) before)) (nth (listed catalogue) wish.1) step)

    abbrev pub AreServing : List Turn → List Turn → Type 0
    AreServing before decided = (k : ℕ) (t : Turn) → slice_get decided k ≡ Some t → IsServing (before ++ take k decided) t

    abbrev IsForbidTurn : List Turn → Turn → Type 0
    IsForbidTurn before (Chose w part) = ⊥
    IsForbidTurn before (LeftOut w k) = IsTrue (step_forbids catalogue source.lines after (chosen_in (turns_of (listed catalogue) before)) (nth (listed catalogue) w.1) k)

    pub serving_more : (before rest : List Turn) (t : Turn) → IsServing before t → AreServing (before ++ t ∷ []) rest → AreServing before (t ∷ rest)
    serving_more before rest t one later zero u e = subst (λ (x : Turn). IsServing (before ++ []) x) (same_Some t u e) (subst (λ (xs : List Turn). IsServing xs t) (sym (append-nil before)) one)
    serving_more before rest t one later (suc k) u e = subst (λ (xs : List Turn). IsServing xs u) (append_assoc before (t ∷ []) (take k rest)) (later k u e)

    -- a turn that leaves a wish out
    module _ (before : List Turn) (n : ℕ) (wishes : List SolvableId) (so : AreSoFar before n wishes) (wish : ℕ × VersionNo) (step : ℕ) where
      still_chosen : chosen_in (turns_of (listed catalogue) (before ++ LeftOut wish step ∷ [])) ≡ versions_of catalogue (take n v)
      still_chosen = chosen_next catalogue before (LeftOut wish step) ∙ append-nil (chosen_in (turns_of (listed catalogue) before)) ∙ so.chosen

      pub still_so : AreSoFar (before ++ LeftOut wish step ∷ []) n wishes
      still_so = record {
        chosen = still_chosen;
        wished = wishes_next catalogue before (LeftOut wish step) ∙ append-nil (wishes_in (turns_of (listed catalogue) before)) ∙ so.wished;
        valid = so.valid;
        within = so.within;
      }

      pub left_out_serves : step_forbids catalogue source.lines after (versions_of catalogue (take n v)) (nth (listed catalogue) wish.1) step ≡ true → IsServing before (LeftOut wish step)
      left_out_serves forbids = record {
        accepted = λ w e. absurd (none-some w e);
        keeping = keeping_so_far (before ++ LeftOut wish step ∷ []) n wishes still_so;
        reached = reached_so_far (before ++ LeftOut wish step ∷ []) n wishes still_so;
        forbidden = λ w k e. subst (λ (x : Turn). IsForbidTurn before x) e denied_here;
      }
        where
          denied_here : IsTrue (step_forbids catalogue source.lines after (chosen_in (turns_of (listed catalogue) before)) (nth (listed catalogue) wish.1) step)
          denied_here = subst (λ (xs : Set). IsTrue (step_forbids catalogue source.lines after xs (nth (listed catalogue) wish.1) step)) (sym so.chosen) forbids

    -- a turn that accepts a wish
    module _ (before : List Turn) (n : ℕ) (wishes : List SolvableId) (so : AreSoFar before n wishes) (wish : ℕ × VersionNo) (x : Version) (there : slice_get (listed catalogue) wish.1.0 ≡ Some x) (end_ : ℕ) (part : Bor (List VersionNo))
        (low : n ≤ end_) (within : end_ ≤ length v) (between : IsBetween numbers n end_ part.now) (valid : IsValidAt end_ (wishes ++ solvable_id wish.1.0 ∷ [])) where
      abbrev pub turn : Turn
      turn = Chose (Some wish) part

      its_version : nth (listed catalogue) wish.1 ≡ x
      its_version = nth_is (listed catalogue) wish.1 x there

      now_chosen : chosen_in (turns_of (listed catalogue) (before ++ turn ∷ [])) ≡ versions_of catalogue (take end_ v)
      now_chosen = chosen_next catalogue before turn ∙ ap (λ xs. xs ++ members (listed catalogue) part.now) so.chosen ∙ part_is catalogue v numbers numbers_are n end_ part.now low within between

      one_version : versions_of catalogue (solvable_id wish.1.0 ∷ []) ≡ nth (listed catalogue) wish.1 ∷ []
      one_version = ap (λ o. option_to_list o ++ []) there ∙ ap (λ y. y ∷ []) (sym its_version)

      pub accepted_so : AreSoFar (before ++ turn ∷ []) end_ (wishes ++ solvable_id wish.1.0 ∷ [])
      accepted_so = record {
        chosen = now_chosen;
        wished = wishes_next catalogue before turn ∙ ap (λ ws. ws ++ nth (listed catalogue) wish.1 ∷ []) so.wished ∙ ap (λ ws. versions_of catalogue wishes ++ ws) (sym one_version) ∙ sym (versions_append catalogue wishes (solvable_id wish.1.0 ∷ []));
        valid = valid;
        within = within;
      }

      pub accepted_serves : Contains (take end_ v) (solvable_id wish.1.0) → IsServing before turn
      accepted_serves among = record {
        accepted = λ w e. subst (λ (y : ℕ × VersionNo). Contains (chosen_in (turns_of (listed catalogue) (before ++ turn ∷ []))) (nth (listed catalogue) y.1)) (same_Some wish w e)
            (subst (λ (xs : Set). Contains xs (nth (listed catalogue) wish.1)) (sym now_chosen) version_chosen);
        keeping = keeping_so_far (before ++ turn ∷ []) end_ (wishes ++ solvable_id wish.1.0 ∷ []) accepted_so;
        reached = reached_so_far (before ++ turn ∷ []) end_ (wishes ++ solvable_id wish.1.0 ∷ []) accepted_so;
        forbidden = λ w k e. absurd cc;
      }
        where
          version_chosen : Contains (versions_of catalogue (take end_ v)) (nth (listed catalogue) wish.1)
          version_chosen =
              let (y, at, inside) = (represents_at end_ (wishes ++ solvable_id wish.1.0 ∷ []) valid).each (solvable_id wish.1.0) among in
              subst (λ (z : Version). Contains (versions_of catalogue (take end_ v)) z) (same_Some y x (sym at ∙ there) ∙ sym its_version) inside

    -- ---- all turns of the wishes

    -- the turns serve, from here to the end
    pub record Serves (before decided : List Turn) (n : ℕ) : Type 0 where
      pub each : AreServing before decided
      pub wishes : List SolvableId
      pub so : AreSoFar (before ++ decided) n wishes

    serves_more : (before rest : List Turn) (t : Turn) (n : ℕ) → IsServing before t → Serves (before ++ t ∷ []) rest n → Serves before (t ∷ rest) n
    serves_more before rest t n one later = record {
      each = serving_more before rest t one later.each;
      wishes = later.wishes;
      so = subst (λ (xs : List Turn). AreSoFar xs n later.wishes) (append_assoc before (t ∷ []) rest) later.so;
    }

    -- the turns of the solver from this one on
    abbrev AreFrom : ℕ → List Solved → Type 0
    AreFrom m ts = (j : ℕ) → slice_get turns (m + j) ≡ slice_get ts j

    from_next : (m : ℕ) (t : Solved) (ts : List Solved) → AreFrom m (t ∷ ts) → AreFrom (suc m) ts
    from_next m t ts from j = ap (λ (k : ℕ). slice_get turns k) (let is : suc m + j ≡ m + suc j = omega arith in is) ∙ from (suc j)

    abbrev AreIn : ℕ → List SolvableId → List SolvableId → List Solved → Type 0
    AreIn n wishes asked_for ts = AreInTurn same (packages_of provider) (root_of ids) v n wishes asked_for ts

    -- the turns of these wishes serve, from wherever
    abbrev AreWalked : List Wish → List Turn → Type 0
    AreWalked ws rest = (m n : ℕ) (wishes : List SolvableId) (before : List Turn) (steps : List Step) (ts : List Solved) → AreSoFar before n wishes → AreFrom m ts → AreIn n wishes (free_of ws) ts → AreTurnsFor numbers turns places ws m steps rest after → Serves before rest (end_after n ts)

    -- the step that forbids a wish forbids it in the whole report
    forbids_whole : (w : Wish) (step : code.Step) → w.forbidden_by ≡ Some step → IsKnownWish catalogue provider same w → (steps others : List Step) → after ≡ steps ++ step_of step ∷ others → (entries : Set) → step_forbids catalogue source.lines after entries (nth (listed catalogue) w.version) (suc (length steps)) ≡ true
    forbids_whole w step is known steps others whole entries =
        let (x, at, forbids) = subst (λ (o : Option code.Step). IsForbidStepOf catalogue w.version.0 (option_map step_of o)) is known.forbidden_by in
        let place : slice_get after (length steps) ≡ Some (step_of step) = ap (λ (xs : List Step). slice_get xs (length steps)) whole ∙ get_behind steps (step_of step) others in
        subst (λ (y : Version). step_forbids catalogue source.lines after entries y (suc (length steps)) ≡ true) (sym (nth_is (listed catalogue) w.version x at)) (forbids.leaves_out source.lines after entries (length steps) place)

    pub walk : (ws : List Wish) (m n : ℕ) (wishes : List SolvableId) (before : List Turn) (steps : List Step) (decided : List Turn) (ts : List Solved) → AreSoFar before n wishes → AreFrom m ts → AreIn n wishes (free_of ws) ts
        → AreTurnsFor numbers turns places ws m steps decided after → ((w : Wish) → Contains ws w → IsKnownWish catalogue provider same w) → Serves before decided (end_after n ts)
    walk [] m n wishes before steps decided (t ∷ ts) so from in_turn are known = absurd in_turn
    walk [] m n wishes before steps decided [] so from in_turn (none, is) known = subst (λ (xs : List Turn). Serves before xs n) (sym none) (record {
      each = λ k t e. absurd cc;
      wishes = wishes;
      so = subst (λ (xs : List Turn). AreSoFar xs n wishes) (sym (append-nil before)) so;
    })
    walk (w ∷ ws) m n wishes before steps decided ts so from in_turn (u, rest, are, next) known = subst (λ (xs : List Turn). Serves before xs (end_after n ts)) (sym are) (go (λ m n wishes before steps ts so from in_turn more. walk ws m n wishes before steps rest ts so from in_turn more later_known) w.forbidden_by refl next)
      where
        later_known : (x : Wish) → Contains ws x → IsKnownWish catalogue provider same x
        later_known x h = known x (contains_later x w ws h)

        this : IsKnownWish catalogue provider same w
        this = known w (contains_first w w ws refl)

        -- a wish that a step forbids
        forbidden : AreWalked ws rest → (step : code.Step) → w.forbidden_by ≡ Some step → u ≡ LeftOut (asked_by w) (suc (length steps)) → AreTurnsFor numbers turns places ws m (steps ++ step_of step ∷ []) rest after → Serves before (u ∷ rest) (end_after n ts)
        forbidden again step is out more =
            let (others, whole) = steps_prefix numbers turns places ws m (steps ++ step_of step ∷ []) rest after more in
            let forbids = forbids_whole w step is this steps others (whole ∙ append_assoc steps (step_of step ∷ []) others) (versions_of catalogue (take n v)) in
            subst (λ (t : Turn). Serves before (t ∷ rest) (end_after n ts)) (sym out) (serves_more before rest (LeftOut (asked_by w) (suc (length steps))) (end_after n ts)
            (left_out_serves before n wishes so (asked_by w) (suc (length steps)) forbids)
            (again m n wishes (before ++ LeftOut (asked_by w) (suc (length steps)) ∷ []) (steps ++ step_of step ∷ []) ts (still_so before n wishes so (asked_by w) (suc (length steps))) from
            (subst (λ (b : Option code.Step). AreIn n wishes (unless_forbidden b (solvable_id w.version.0) ++ free_of ws) ts) is in_turn) more))

        -- a wish that the solver was asked for, and its turn
        asked_for : AreWalked ws rest → (t : Solved) (later : List Solved) → AreFrom m (t ∷ later) → w.forbidden_by ≡ None → t.begin ≡ n → IsTurnOf same (packages_of provider) (root_of ids) v wishes (solvable_id w.version.0) t → AreIn t.end (accepted_by wishes t) (free_of ws) later
            → IsWishedTurn numbers places (asked_by w) (Some t) u → AreTurnsFor numbers turns places ws (suc m) steps rest after → Serves before (u ∷ rest) (end_after t.end later)
        asked_for again t later here is begin one in_later (accepting, refusing) more = elim (cases_Bool t.accepted) [ inl it_is ↦ accepted_it it_is | inr it_isnt ↦ refused_it it_isnt ]
          where
            accepted_it : t.accepted ≡ true → Serves before (u ∷ rest) (end_after t.end later)
            accepted_it so_it =
                let (part, is_turn, between) = accepting so_it in
                let wishes_are : accepted_by wishes t ≡ wishes ++ solvable_id w.version.0 ∷ [] = ap (λ b. cond b (wishes ++ t.solvable ∷ []) wishes) so_it ∙ ap (λ s. wishes ++ s ∷ []) one.solvable in
                let low : n ≤ t.end = (let a : t.begin ≤ t.end = one.grows in let b : t.begin ≡ n = begin in omega arith) in
                let none_forbids : (s : SolvableId) → Contains (wishes ++ solvable_id w.version.0 ∷ []) s → is_forbidden same (packages_of provider) s ≡ false =
                λ s h. elim (contains_parts s wishes (solvable_id w.version.0 ∷ []) h) [
                  | inl old ↦ so.valid.free s old
                  | inr new ↦ subst (λ (x : SolvableId). is_forbidden same (packages_of provider) x ≡ false) (sym (contains_one s (solvable_id w.version.0) new)) (this.free is)
                ] in
                let all_listed : (s : SolvableId) → Contains (wishes ++ solvable_id w.version.0 ∷ []) s → (x : Version) × (slice_get (listed catalogue) s.raw ≡ Some x) =
                λ s h. elim (contains_parts s wishes (solvable_id w.version.0 ∷ []) h) [
                  | inl old ↦ so.valid.has s old
                  | inr new ↦ subst (λ (y : SolvableId). (x : Version) × (slice_get (listed catalogue) y.raw ≡ Some x)) (sym (contains_one s (solvable_id w.version.0) new)) (this.version, this.there)
                ] in
                let valid : IsValidAt t.end (wishes ++ solvable_id w.version.0 ∷ []) = accepted_valid t.end (wishes ++ solvable_id w.version.0 ∷ []) none_forbids all_listed (subst (λ (ws' : List SolvableId). IsAccepted same (packages_of provider) (root_of ids) ws' (take t.end v)) wishes_are one.ended) in
                let between' : IsBetween numbers n t.end part.now = subst (λ (k : ℕ). IsBetween numbers k t.end part.now) begin between in
                let among : Contains (take t.end v) (solvable_id w.version.0) = in_contained same exact (packages_of provider) (take t.end v) (solvable_id w.version.0) (sym one.decided ∙ so_it) in
                subst (λ (x : Turn). Serves before (x ∷ rest) (end_after t.end later)) (sym is_turn) (serves_more before rest (Chose (Some (asked_by w)) part) (end_after t.end later)
                (accepted_serves before n wishes so (asked_by w) this.version this.there t.end part low one.within between' valid among)
                (again (suc m) t.end (wishes ++ solvable_id w.version.0 ∷ []) (before ++ Chose (Some (asked_by w)) part ∷ []) steps later (accepted_so before n wishes so (asked_by w) this.version this.there t.end part low one.within between' valid) (from_next m t later here)
                (subst (λ (ws' : List SolvableId). AreIn t.end ws' (free_of ws) later) wishes_are in_later) more))

            refused_it : t.accepted ≡ false → Serves before (u ∷ rest) (end_after t.end later)
            refused_it so_it =
                let out : u ≡ LeftOut (asked_by w) (number_at places t.step) = refusing so_it in
                let wishes_are : accepted_by wishes t ≡ wishes = ap (λ b. cond b (wishes ++ t.solvable ∷ []) wishes) so_it in
                let end_is : t.end ≡ n = one.still so_it ∙ begin in
                let at : slice_get turns m ≡ Some t = ap (λ (k : ℕ). slice_get turns k) (let is_m : m ≡ m + 0 = omega arith in is_m) ∙ here 0 in
                let its : slice_get (listed catalogue) t.solvable.raw ≡ Some this.version = ap (λ (s : SolvableId). slice_get (listed catalogue) s.raw) one.solvable ∙ this.there in
                let forbids : step_forbids catalogue source.lines after (versions_of catalogue (take n v)) (nth (listed catalogue) w.version) (number_at places t.step) ≡ true =
                subst (λ (k : ℕ). step_forbids catalogue source.lines after (versions_of catalogue (take k v)) (nth (listed catalogue) w.version) (number_at places t.step) ≡ true) begin
                (subst (λ (y : Version). step_forbids catalogue source.lines after (versions_of catalogue (take t.begin v)) y (number_at places t.step) ≡ true) (sym (nth_is (listed catalogue) w.version this.version this.there))
                (refuses t (get_contains turns m t at) so_it this.version its)) in
                subst (λ (x : Turn). Serves before (x ∷ rest) (end_after t.end later)) (sym out) (serves_more before rest (LeftOut (asked_by w) (number_at places t.step)) (end_after t.end later)
                (left_out_serves before n wishes so (asked_by w) (number_at places t.step) forbids)
                (again (suc m) t.end wishes (before ++ LeftOut (asked_by w) (number_at places t.step) ∷ []) steps later
                (subst (λ (k : ℕ). AreSoFar (before ++ LeftOut (asked_by w) (number_at places t.step) ∷ []) k wishes) (sym end_is) (still_so before n wishes so (asked_by w) (number_at places t.step))) (from_next m t later here)
                (subst (λ (ws' : List SolvableId). AreIn t.end ws' (free_of ws) later) wishes_are in_later) more))

        free_one : AreWalked ws rest → (ts : List Solved) → AreFrom m ts → w.forbidden_by ≡ None → AreIn n wishes (solvable_id w.version.0 ∷ free_of ws) ts → IsWishedTurn numbers places (asked_by w) (slice_get turns m) u → AreTurnsFor numbers turns places ws (suc m) steps rest after → Serves before (u ∷ rest) (end_after n ts)
        free_one again [] here is in_ts turn_is more = absurd in_ts
        free_one again (t ∷ later) here is (begin, one, in_later) turn_is more =
            asked_for again t later here is begin one in_later (subst (λ (o : Option Solved). IsWishedTurn numbers places (asked_by w) o u) (ap (λ (k : ℕ). slice_get turns k) (let is_m : m ≡ m + 0 = omega arith in is_m) ∙ here 0) turn_is) more

        go : AreWalked ws rest → (b : Option code.Step) → w.forbidden_by ≡ b → MatchOption b (IsWishedTurn numbers places (asked_by w) (slice_get turns m) u × AreTurnsFor numbers turns places ws (suc m) steps rest after)
            (λ step. (suc (length steps) < 4294967296) × (u ≡ LeftOut (asked_by w) (suc (length steps))) × AreTurnsFor numbers turns places ws m (steps ++ step_of step ∷ []) rest after) → Serves before (u ∷ rest) (end_after n ts)
        go again None is (turn_is, more) = free_one again ts from is (subst (λ (b : Option code.Step). AreIn n wishes (unless_forbidden b (solvable_id w.version.0) ++ free_of ws) ts) is in_turn) turn_is more
        go again (Some step) is (few, out, more) = forbidden again step is out more
