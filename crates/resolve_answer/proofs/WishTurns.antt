-- The turns of wishes, one after the other: each is appended to the turns, and its steps to the
-- steps.
use Rattle.std.proofs.Common.{◌≡◌, ℕ, zero, suc, ◌<◌, ◌≤◌, List, [], ◌∷◌, ◌++◌, drop, length, Option, Some, None, refl, sym, ap, subst, ◌∙◌, append_assoc, arith}
use Rattle.std.specs.Prelude.{MatchOption, slice_get}
use Rattle.std.proofs.lemmas.Option.{same_Some}
use Rattle.std.proofs.lemmas.List.{append-nil}
use Rattle.resolvo_catalogue_core.specs.declared.rule.VersionNo.{VersionNo}
use Rattle.resolve_order.specs.declared.entry.Turn.{Turn}
use Rattle.resolve_order.specs.declared.entry.Turn.TheVariants.{LeftOut}
use Rattle.resolvo_report.specs.Value.{Step}
use Rattle.resolvo_report.specs.View.{step_of}
use Rattle.resolvo_report.specs.declared.step.Step as code
use Rattle.resolve_answer.specs.Wishes.{asked_by}
use Rattle.resolve_answer.specs.declared.turns.Outcome.{Outcome}
use Rattle.resolve_answer.specs.ReportTurns.{AreReportTurns, Solved, AreTurnsFor, IsWishedTurn, HasPlaceTooGreat}
use Rattle.resolve_answer.specs.declared.wishes.Wish.{Wish}

-- ---- lists

-- the rest of a list from one of its items on
pub drop_here : {X : Type 0} (n : ℕ) (xs : List X) (x : X) → slice_get xs n ≡ Some x → drop n xs ≡ x ∷ drop (suc n) xs
drop_here n [] x e = absurd cc
drop_here zero (y ∷ xs) x e = ap (λ z. z ∷ xs) (same_Some y x e)
drop_here (suc n) (y ∷ xs) x e = drop_here n xs x e

-- nothing is left of a list of as many
pub drop_all : {X : Type 0} (n : ℕ) (xs : List X) → n ≡ length xs → drop n xs ≡ []
drop_all zero [] e = refl
drop_all zero (x ∷ xs) e = absurd (omega arith)
drop_all (suc n) [] e = refl
drop_all (suc n) (x ∷ xs) e = drop_all n xs (omega arith)

-- ---- the steps of a report

-- the earlier steps are a prefix
pub steps_prefix : (numbers : List VersionNo) (turns : List Solved) (places : List ℕ) (ws : List Wish) (m : ℕ) (steps : List Step) (matched : List Turn) (after : List Step) → AreTurnsFor numbers turns places ws m steps matched after → (others : List Step) × (after ≡ steps ++ others)
steps_prefix numbers turns places [] m steps matched after (none, is) = ([], is ∙ sym (append-nil steps))
steps_prefix numbers turns places (w ∷ ws) m steps matched after (u, rest, are, next) = go (λ k before more. steps_prefix numbers turns places ws k before rest after more) w.forbidden_by next
  where
    go : ((k : ℕ) (before : List Step) → AreTurnsFor numbers turns places ws k before rest after → (others : List Step) × (after ≡ before ++ others)) → (b : Option code.Step) → MatchOption b (IsWishedTurn numbers places (asked_by w) (slice_get turns m) u × AreTurnsFor numbers turns places ws (suc m) steps rest after)
        (λ step. (suc (length steps) < 4294967296) × (u ≡ LeftOut (asked_by w) (suc (length steps))) × AreTurnsFor numbers turns places ws m (steps ++ step_of step ∷ []) rest after) → (others : List Step) × (after ≡ steps ++ others)
    go again None (turn_is, more) = again (suc m) steps more
    go again (Some step) (few, out, more) =
        let (others, is) = again m (steps ++ step_of step ∷ []) more in
        (step_of step ∷ others, is ∙ append_assoc steps (step_of step ∷ []) others)

-- ---- one turn more

module _ (o : Outcome) (all : List Wish) (first : List Step) (done : ℕ) (w : Wish) (here : drop done all ≡ w ∷ drop (suc done) all) (m : ℕ) where
  abbrev pub Goes : ℕ → ℕ → List Step → List Turn → Type 0
  Goes k n steps matched = (rest : List Turn) (after : List Step) → AreTurnsFor o.chosen.now o.turns.now o.places.now (drop k all) n steps rest after → AreReportTurns o all first (matched ++ rest) after

  pub goes_more : (n : ℕ) (t : Turn) (old new : List Step) (matched more : List Turn) → more ≡ matched ++ t ∷ [] → ((rest : List Turn) (after : List Step) → AreTurnsFor o.chosen.now o.turns.now o.places.now (drop (suc done) all) n new rest after → AreTurnsFor o.chosen.now o.turns.now o.places.now (w ∷ drop (suc done) all) m old (t ∷ rest) after)
      → Goes done m old matched → Goes (suc done) n new more
  goes_more n t old new matched more is turn_of_wish goes rest after next =
      subst (λ (ts : List Turn). AreReportTurns o all first ts after) (sym (ap (λ ts. ts ++ rest) is ∙ append_assoc matched (t ∷ []) rest))
      (goes (t ∷ rest) after (subst (λ (ws : List Wish). AreTurnsFor o.chosen.now o.turns.now o.places.now ws m old (t ∷ rest) after) (sym here) (turn_of_wish rest after next)))

-- a wish that a step forbids, before others
pub turns_forbidden : (numbers : List VersionNo) (turns : List Solved) (places : List ℕ) (w : Wish) (ws : List Wish) (m : ℕ) (steps : List Step) (rest : List Turn) (after : List Step) (step : code.Step) → w.forbidden_by ≡ Some step → (n : ℕ) → n ≡ suc (length steps) → n < 4294967296
    → AreTurnsFor numbers turns places ws m (steps ++ step_of step ∷ []) rest after → AreTurnsFor numbers turns places (w ∷ ws) m steps (LeftOut (asked_by w) n ∷ rest) after
turns_forbidden numbers turns places w ws m steps rest after step is n number few more = (
  LeftOut (asked_by w) n,
  rest,
  refl,
  subst (λ (b : Option code.Step). MatchOption b (IsWishedTurn numbers places (asked_by w) (slice_get turns m) (LeftOut (asked_by w) n) × AreTurnsFor numbers turns places ws (suc m) steps rest after)
      (λ s. (suc (length steps) < 4294967296) × (LeftOut (asked_by w) n ≡ LeftOut (asked_by w) (suc (length steps))) × AreTurnsFor numbers turns places ws m (steps ++ step_of s ∷ []) rest after)) (sym is)
      (subst (λ (k : ℕ). k < 4294967296) number few, ap (LeftOut (asked_by w)) number, more),
)

-- a wish of the search, before others
pub turns_free : (numbers : List VersionNo) (turns : List Solved) (places : List ℕ) (w : Wish) (ws : List Wish) (m : ℕ) (steps : List Step) (t : Turn) (rest : List Turn) (after : List Step) → w.forbidden_by ≡ None → IsWishedTurn numbers places (asked_by w) (slice_get turns m) t
    → AreTurnsFor numbers turns places ws (suc m) steps rest after → AreTurnsFor numbers turns places (w ∷ ws) m steps (t ∷ rest) after
turns_free numbers turns places w ws m steps t rest after is wished more = (
  t,
  rest,
  refl,
  subst (λ (b : Option code.Step). MatchOption b (IsWishedTurn numbers places (asked_by w) (slice_get turns m) t × AreTurnsFor numbers turns places ws (suc m) steps rest after)
      (λ s. (suc (length steps) < 4294967296) × (t ≡ LeftOut (asked_by w) (suc (length steps))) × AreTurnsFor numbers turns places ws m (steps ++ step_of s ∷ []) rest after)) (sym is) (wished, more),
)

-- a step's place that no number is for
pub too_great : (places : List ℕ) (step place : ℕ) → slice_get places step ≡ Some place → 4294967295 ≤ place → HasPlaceTooGreat places
too_great places step place at past = (step, place, at, past)
