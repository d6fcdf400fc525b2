-- The answer and the results of a solver, by the result of the search or by its stop.
use Rattle.std.proofs.Common.{◌≡◌, Bool, List, [], length, Option, Result, Ok, Err, Vec, Global, sym, ◌∙◌, ap, subst}
use Rattle.std.specs.Option.{option_map}
use Rattle.std.specs.Prelude.{IfOk}
use Rattle.resolvo_state.specs.Keys.{AreOnce}
use Rattle.resolvo_pool_core.specs.declared.id.ClauseId.{ClauseId}
use Rattle.resolvo_pool_core.specs.declared.requirement.Requirement.{Requirement}
use Rattle.resolvo_pool.specs.declared.cache.CacheFault.{CacheFault}
use Rattle.resolvo_pool.specs.declared.cache.CacheFault.TheVariants as fault
use Rattle.resolvo_pool.specs.Cached.{IsCancelledBy}
use Rattle.resolvo_pool_core.specs.RuleKeeping.{Packages, Rules}
use Rattle.resolvo.specs.declared.search.SearchResult.{SearchResult}
use Rattle.resolvo.specs.declared.search.SearchResult.TheVariants.{Chosen, Unsat}
use Rattle.resolvo.specs.declared.prove.Solved.{Solved}
use Rattle.resolvo.specs.declared.prove.Steps.{Steps}
use Rattle.resolvo.specs.declared.prove.Steps.TheVariants.{All, Reasons}
use Rattle.resolvo.specs.declared.solver.UnsolvableOrCancelled.{UnsolvableOrCancelled}
use Rattle.resolvo.specs.declared.solver.UnsolvableOrCancelled.TheVariants.{Unsolvable, Cancelled, Memory, Ids}
use Rattle.resolvo.specs.Solve.{AreChosenOnce, AreRightSteps, Holds, HaveProofs, IsListedIn, IsPreferred, IsSolved, EndsSo, Counts, CountsBy}
use Rattle.resolvo.specs.Conflicts.{Left, left_of, IsLeft}
use Rattle.resolvo.specs.declared.conflict.KeptConflict.{KeptConflict}
use Rattle.resolvo.specs.Solver.{Kept, HasNothing, IfEnded, IsAnswer, IsStopped, Keeps, Leaves, LeavesBy, stopped_by}

-- the steps of a solved problem are right
solved_steps : {N S : Type 0} (same : S → S → Bool) (p : Packages N S) (root : Rules) (orders : Requirement → List S → Type 0) (softs : List S) (s : Solved N S) → IsSolved same p orders root softs s → AreRightSteps same p root s.proof.items
solved_steps same p root orders softs s solved = record { proof = solved.proof; drawn = solved.drawn; signs = solved.signs; one_place = solved.one_place }

-- all steps are wanted
all_leave : {P N S C : Type 0} (r : Result (Vec S Global) (UnsolvableOrCancelled C)) (k : Kept P N S) → Leaves r k → LeavesBy r All k
all_leave (Ok v) k h = h
all_leave (Err e) k h = h

pub all_left : {P N S C : Type 0} (r : Result (Vec S Global) (UnsolvableOrCancelled C)) (k : Kept P N S) → LeavesBy r All k → Leaves r k
all_left (Ok v) k h = h
all_left (Err e) k h = h

module _ {P N S C : Type 0} (old : Kept P N S) where
  -- the kept result of a search is right
  pub kept_answers : (same : S → S → Bool) (p : Packages N S) (root : Rules) (orders : Requirement → List S → Type 0) (softs : List S) (s : Solved N S) (ids : Vec ClauseId Global) (left : Option (KeptConflict S)) (r : Result (Vec S Global) (UnsolvableOrCancelled C)) (new : Kept P N S) → Keeps s ids (option_map left_of left) old r new → IsSolved same p orders root softs s → IsLeft same p orders s.found s.proof.items ids.items left
      → IsAnswer same p root orders softs r new
  kept_answers same p root orders softs s ids left (Ok v) new (turns, found, kept) solved is =
      let holds : Holds same p root softs (Chosen v turns) = subst (λ (f : SearchResult S). Holds same p root softs f) found solved.found in
      let preferred : IsPreferred same p orders root (Chosen v turns) = subst (λ (f : SearchResult S). IsPreferred same p orders root f) found solved.preferred in
      let proofs : HaveProofs s.proof.items (Chosen v turns) = subst (λ (f : SearchResult S). HaveProofs s.proof.items f) found solved.proofs in
      let (e, counted, listed) = solved.counted in
      subst (λ (k : Kept P N S). IsAnswer same p root orders softs {C = C} (Ok v) k) (sym kept) (holds, preferred, proofs, solved_steps same p root orders softs s solved, (e, counted, subst (λ (f : SearchResult S). IsListedIn e f) found listed))
  kept_answers same p root orders softs s ids left (Err (Unsolvable conflict)) new (r, found, ids_are, kept) solved is =
      let (c, there, causes, ordered, offers) = subst (λ (f : SearchResult S). IsLeft same p orders f s.proof.items ids.items left) found is in
      let (e, counted, listed) = solved.counted in
      let holds : Holds same p root softs (Unsat r) = subst (λ (f : SearchResult S). Holds same p root softs f) found solved.found in
      subst (λ (k : Kept P N S). IsAnswer same p root orders softs {C = C} (Err (Unsolvable conflict)) k) (sym kept) (holds, solved_steps same p root orders softs s solved, (e, counted), (left_of c, ap (option_map left_of) there, offers))
  kept_answers same p root orders softs s ids left (Err (Cancelled value)) new h solved is = absurd h
  kept_answers same p root orders softs s ids left (Err Memory) new h solved is = absurd h
  kept_answers same p root orders softs s ids left (Err Ids) new h solved is = absurd h

  -- a search that ended has an answer
  pub kept_ended : (s : Solved N S) (ids : Vec ClauseId Global) (left : Option (Left S)) (r : Result (Vec S Global) (UnsolvableOrCancelled C)) (new : Kept P N S) (Q : Type 0) → Keeps s ids left old r new → Q → IfEnded r Q
  kept_ended s ids left (Ok v) new Q h q = q
  kept_ended s ids left (Err (Unsolvable conflict)) new Q h q = q
  kept_ended s ids left (Err (Cancelled value)) new Q h q = absurd h
  kept_ended s ids left (Err Memory) new Q h q = absurd h
  kept_ended s ids left (Err Ids) new Q h q = absurd h

  -- and wasn't stopped
  pub kept_unstopped : (may : C → Type 0) (s : Solved N S) (ids : Vec ClauseId Global) (left : Option (Left S)) (r : Result (Vec S Global) (UnsolvableOrCancelled C)) (new : Kept P N S) → Keeps s ids left old r new → IsStopped may r
  kept_unstopped may s ids left (Ok v) new h = tt
  kept_unstopped may s ids left (Err (Unsolvable conflict)) new h = tt
  kept_unstopped may s ids left (Err (Cancelled value)) new h = absurd h
  kept_unstopped may s ids left (Err Memory) new h = absurd h
  kept_unstopped may s ids left (Err Ids) new h = absurd h

  -- so many clauses
  pub kept_count : (s : Solved N S) (ids : Vec ClauseId Global) (left : Option (Left S)) (r : Result (Vec S Global) (UnsolvableOrCancelled C)) (new : Kept P N S) → Keeps s ids left old r new → new.clause_count ≡ s.clause_count
  kept_count s ids left (Ok v) new (turns, found, kept) = ap (λ (k : Kept P N S). k.clause_count) kept
  kept_count s ids left (Err (Unsolvable conflict)) new (r, found, ids_are, kept) = ap (λ (k : Kept P N S). k.clause_count) kept
  kept_count s ids left (Err (Cancelled value)) new h = absurd h
  kept_count s ids left (Err Memory) new h = absurd h
  kept_count s ids left (Err Ids) new h = absurd h

  -- nothing is chosen twice
  pub kept_once : (s : Solved N S) (ids : Vec ClauseId Global) (left : Option (Left S)) (r : Result (Vec S Global) (UnsolvableOrCancelled C)) (new : Kept P N S) → Keeps s ids left old r new → AreChosenOnce s.found → IfOk r (λ v. AreOnce v.items)
  kept_once s ids left (Ok v) new (turns, found, kept) once = subst AreChosenOnce found once
  kept_once s ids left (Err (Unsolvable conflict)) new h once = tt
  kept_once s ids left (Err (Cancelled value)) new h once = tt
  kept_once s ids left (Err Memory) new h once = tt
  kept_once s ids left (Err Ids) new h once = tt

  -- its results
  kept_leaves : (same : S → S → Bool) (p : Packages N S) (orders : Requirement → List S → Type 0) (s : Solved N S) (ids : Vec ClauseId Global) (left : Option (KeptConflict S)) (r : Result (Vec S Global) (UnsolvableOrCancelled C)) (new : Kept P N S) → old.turns ≡ [] → Keeps s ids (option_map left_of left) old r new → IsLeft same p orders s.found s.proof.items ids.items left → EndsSo s.found s.proof.items → Counts s.found s.clause_count (length s.proof.items) → Leaves r new
  kept_leaves same p orders s ids left (Ok v) new none (turns, found, kept) is ends counts =
      subst (λ (k : Kept P N S). Leaves {C = C} (Ok v) k) (sym kept)
      (subst (λ (f : SearchResult S). Counts f s.clause_count (length s.proof.items)) found counts, ap (option_map left_of) (subst (λ (f : SearchResult S). IsLeft same p orders f s.proof.items ids.items left) found is))
  kept_leaves same p orders s ids left (Err (Unsolvable conflict)) new none (r, found, ids_are, kept) is ends counts =
      let (c, there, causes, ordered, offers) = subst (λ (f : SearchResult S). IsLeft same p orders f s.proof.items ids.items left) found is in
      subst (λ (k : Kept P N S). Leaves {C = C} (Err (Unsolvable conflict)) k) (sym kept)
      (subst (λ (f : SearchResult S). Counts f s.clause_count (length s.proof.items)) found counts, subst (λ (f : SearchResult S). EndsSo f s.proof.items) found ends, none, (left_of c, ap (option_map left_of) there, causes ∙ ap (λ (v : Vec ClauseId Global). v.items) (sym ids_are)), ap (λ (v : Vec ClauseId Global). v.items) ids_are ∙ ordered)
  kept_leaves same p orders s ids left (Err (Cancelled value)) new none h is ends counts = absurd h
  kept_leaves same p orders s ids left (Err Memory) new none h is ends counts = absurd h
  kept_leaves same p orders s ids left (Err Ids) new none h is ends counts = absurd h

  -- its results, for the steps that are wanted
  pub kept_leaves_by : (steps : Steps) (same : S → S → Bool) (p : Packages N S) (orders : Requirement → List S → Type 0) (s : Solved N S) (ids : Vec ClauseId Global) (left : Option (KeptConflict S)) (r : Result (Vec S Global) (UnsolvableOrCancelled C)) (new : Kept P N S) → old.turns ≡ [] → Keeps s ids (option_map left_of left) old r new → IsLeft same p orders s.found s.proof.items ids.items left → EndsSo s.found s.proof.items → CountsBy steps s.found s.clause_count (length s.proof.items) → LeavesBy r steps new
  kept_leaves_by All same p orders s ids left r new none keeps is ends counts = all_leave r new (kept_leaves same p orders s ids left r new none keeps is ends counts)
  kept_leaves_by Reasons same p orders s ids left (Ok v) new none (turns, found, kept) is ends counts =
      ap (λ (k : Kept P N S). k.conflict) kept ∙ ap (option_map left_of) (subst (λ (f : SearchResult S). IsLeft same p orders f s.proof.items ids.items left) found is)
  kept_leaves_by Reasons same p orders s ids left (Err (Unsolvable conflict)) new none (r, found, ids_are, kept) is ends counts =
      let all : Counts s.found s.clause_count (length s.proof.items) = subst (λ (f : SearchResult S). Counts f s.clause_count (length s.proof.items)) (sym found) (subst (λ (f : SearchResult S). CountsBy Reasons f s.clause_count (length s.proof.items)) found counts) in
      kept_leaves same p orders s ids left (Err (Unsolvable conflict)) new none (r, found, ids_are, kept) is ends all
  kept_leaves_by Reasons same p orders s ids left (Err (Cancelled value)) new none h is ends counts = absurd h
  kept_leaves_by Reasons same p orders s ids left (Err Memory) new none h is ends counts = absurd h
  kept_leaves_by Reasons same p orders s ids left (Err Ids) new none h is ends counts = absurd h

  -- the provider is the same
  pub kept_provider : (s : Solved N S) (ids : Vec ClauseId Global) (left : Option (Left S)) (r : Result (Vec S Global) (UnsolvableOrCancelled C)) (new : Kept P N S) → Keeps s ids left old r new → new.provider ≡ old.provider
  kept_provider s ids left (Ok v) new (turns, found, kept) = ap (λ (k : Kept P N S). k.provider) kept
  kept_provider s ids left (Err (Unsolvable conflict)) new (r, found, clauses, kept) = ap (λ (k : Kept P N S). k.provider) kept
  kept_provider s ids left (Err (Cancelled value)) new h = absurd h
  kept_provider s ids left (Err Memory) new h = absurd h
  kept_provider s ids left (Err Ids) new h = absurd h
