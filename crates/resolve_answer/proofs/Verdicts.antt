-- The verdict over a catalogue's provider is that of the texts.
use Rattle.std.proofs.Common.{◌≡◌, true, List, [], Ok, Err, subst}
use Rattle.resolvo_text.specs.Line.{Line}
use Rattle.resolvo_text.specs.Matches.{Set}
use Rattle.resolvo_catalogue_core.specs.Questions.{ReadRequest}
use Rattle.resolvo_catalogue_core.specs.Sets as texts
use Rattle.resolvo_sat.proofs.Lists.{contains_none}
use Rattle.resolvo_catalogue.specs.KeptSets.{DistinguishesIds, root_of}
use Rattle.resolvo_catalogue.specs.Provider.{Provider, packages_of}
use Rattle.resolvo_catalogue.proofs.KeptAlike.{kept_alike}
use Rattle.resolvo.specs.Solver.{IsAnswer}
use Rattle.resolvo.specs.Turns.{first_of}
use Rattle.resolvo.specs.declared.solver.UnsolvableOrCancelled.TheVariants.{Unsolvable}
use Rattle.resolve_answer.specs.TryOrder.{orders_of}
use Rattle.resolve_answer.specs.Verdict.{IsChosen, IsGivenOver, IsRefused, Verdict}
use Rattle.resolve_answer.proofs.FirstNeeds.{solvables_for}
use Rattle.resolve_answer.proofs.WalkLemmas.{keeps_lines}

module _ (catalogue : List Line) (source : ReadRequest) (provider : Provider) (verdict : Verdict) (given : IsGivenOver catalogue source provider verdict) where
  apart : DistinguishesIds given.same
  apart s t = (given.exact.one s t, λ e. subst (λ x. given.same s x ≡ true) e (given.exact.own s))

  answer_is : (other : Verdict) → verdict ≡ other → IsAnswer given.same (packages_of provider) (root_of given.ids) (orders_of given.same provider) given.wishes other given.kept
  answer_is other is = subst (λ (v : Verdict). IsAnswer given.same (packages_of provider) (root_of given.ids) (orders_of given.same provider) given.wishes v given.kept) is given.answer

  -- the versions chosen for the needs keep the rules of the lines
  pub chosen_keeps : IsChosen verdict → (set : Set) × texts.IsRuleKeeping catalogue source.lines set
  chosen_keeps (v, is) =
      let wished = (answer_is (Ok v) is).0 in (
        _,
        keeps_lines catalogue source provider given.over given.ids given.asked given.asks given.same apart given.exact v.items (first_of v.items given.kept.turns) []
            (record { keeping = wished.solution.keeping; reached = wished.solution.reached; free = λ s h. absurd (contains_none s h); has = λ s h. absurd (contains_none s h) }),
      )

  -- a set that keeps them would be a solution
  pub refused_none : IsRefused verdict → (set : Set) → texts.IsRuleKeeping catalogue source.lines set → ⊥
  refused_none (conflict, is) set keeps =
      let (chosen, represents) = solvables_for catalogue set keeps.single.listed in
      (answer_is (Err (Unsolvable conflict)) is).0 chosen ((kept_alike provider catalogue source.lines given.over given.asks (root_of given.ids) given.asked.requirements given.asked.constraints given.same apart chosen set represents).1 keeps)
