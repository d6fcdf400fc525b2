-- The next decision: a plain scan of the need clauses.
use Rattle.std.specs.Prelude.{ℕ, ◌==◌, ◌&&◌, ◌||◌, nat_lt, Bool, not, cond, List, [], ◌∷◌, Option, Some, None}
use Rattle.std.specs.Option.{option_map}
use Rattle.std.specs.List.{find, count_by, list_any, list_all}
use Rattle.resolvo_pool_core.specs.declared.id.ClauseId.{ClauseId}
use Rattle.resolvo_store_core.specs.Signed.{value_under, is_false, is_true, is_open}
use Rattle.resolvo_store_core.specs.declared.lists.Candidate.{Candidate}
use Rattle.resolvo_store_core.specs.declared.lists.FixedLists.{FixedLists}
use Rattle.resolvo_store_core.specs.Lists.{Named, named_by}
use Rattle.resolvo_store_core.specs.declared.pick.NeedClause.{NeedClause}
use Rattle.resolvo_store_core.specs.declared.pick.NextDecision.{NextDecision}

-- the one decision takes the place of the other, an earlier one: a strictly higher score, strictly fewer undecided candidates, and the root's are not left for others
abbrev pub beats : NextDecision → NextDecision → Bool
beats next best = nat_lt best.package_activity next.package_activity && (nat_lt next.candidate_count best.candidate_count && ((next.required_by.0 == 0) || not (best.required_by.0 == 0)))

-- the decision so far, or the later one where it beats it
abbrev pub later : Option NextDecision → Option NextDecision → Option NextDecision
later None next = next
later (Some best) None = Some best
later (Some best) (Some next) = cond (beats next best) (Some next) (Some best)

module _ {N : Type 0} (names : Named N) (values : ℕ → Option Bool) where
  -- the parent is true and the condition holds
  abbrev pub is_eligible_by : NeedClause → Bool
  is_eligible_by r = is_true (values r.parent.0) && list_all (λ l. is_false (value_under values l)) (names.condition r.condition)

  -- all literals of the clause are false
  abbrev pub is_broken_by : NeedClause → Bool
  is_broken_by r = is_eligible_by r && list_all (λ c. is_false (value_under values c.literal)) (names.candidates r.requirement)

  -- the first clause whose literals are all false
  abbrev pub first_broken_by : List NeedClause → Option ClauseId
  first_broken_by [] = None
  first_broken_by (r ∷ rs) = cond (is_broken_by r) (Some r.clause) (first_broken_by rs)

  module _ (score : N → ℕ) where
    -- the decision for a candidate of the clause, with the number of its undecided candidates
    abbrev pub decision_for : NeedClause → List (Candidate N) → Candidate N → NextDecision
    decision_for r cs c = record {
      candidate = c.literal.variable;
      required_by = r.parent;
      clause_id = r.clause;
      package_activity = score c.package;
      candidate_count = count_by (λ d. is_open (value_under values d.literal)) cs;
    }

    -- the decision for the first undecided candidate, where none is true
    abbrev pub offer_of : NeedClause → List (Candidate N) → Option NextDecision
    offer_of r cs = cond (list_any (λ c. is_true (value_under values c.literal)) cs) None (option_map (decision_for r cs) (find (λ c. is_open (value_under values c.literal)) cs))

    -- the decision that the clause offers; none, unless it is eligible
    abbrev pub offer_by : NeedClause → Option NextDecision
    offer_by r = cond (is_eligible_by r) (offer_of r (names.candidates r.requirement)) None

    -- the pick, where this is the decision so far
    abbrev pub pick_after_by : Option NextDecision → List NeedClause → Option NextDecision
    pick_after_by best [] = best
    pick_after_by best (r ∷ rs) = pick_after_by (later best (offer_by r)) rs

    abbrev pub pick_by : List NeedClause → Option NextDecision
    pick_by rs = pick_after_by None rs

-- the same over lists that are kept by id
module _ {N : Type 0} (lists : FixedLists N) (values : ℕ → Option Bool) where
  abbrev pub is_eligible : NeedClause → Bool
  is_eligible r = is_eligible_by (named_by lists) values r

  abbrev pub is_broken : NeedClause → Bool
  is_broken r = is_broken_by (named_by lists) values r

  abbrev pub first_broken : List NeedClause → Option ClauseId
  first_broken rs = first_broken_by (named_by lists) values rs

  module _ (score : N → ℕ) where
    abbrev pub offer : NeedClause → Option NextDecision
    offer r = offer_by (named_by lists) values score r

    abbrev pub pick_after : Option NextDecision → List NeedClause → Option NextDecision
    pick_after best rs = pick_after_by (named_by lists) values score best rs

    abbrev pub pick : List NeedClause → Option NextDecision
    pick rs = pick_by (named_by lists) values score rs
