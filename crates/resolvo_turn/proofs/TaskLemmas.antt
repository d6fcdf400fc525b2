-- Tasks that are pushed and taken, and solvables that are excluded.
use Rattle.std.proofs.Common.{◌≡◌, ◌+◌, ◌≤◌, List, [], ◌∷◌, ◌++◌, sym, ap, subst, arith}
use Rattle.std.specs.Prelude.{Option, Some, None, IfSome, option_to_list}
use Rattle.resolvo_state.proofs.Growth.{forbid_grows}
use Rattle.resolvo_state.specs.SolverState.{Grows}
use Rattle.resolvo_encoder.specs.declared.encoder.Encoder.{Encoder}
use Rattle.resolvo_turn.specs.declared.tasks.Task.{Task}
use Rattle.resolvo_turn.specs.Tasks.{AreExcluded, cost, work}

-- one more task costs no more than its own
pub work_push : {S : Type 0} (ts : List (Task S)) (t : Task S) → work (ts ++ t ∷ []) ≤ work ts + cost t
unfolding work cost
work_push [] t =
    let h : cost t + 0 ≤ 0 + cost t = omega arith in
    h
work_push (x ∷ ts) t =
    let h : work (ts ++ t ∷ []) ≤ work ts + cost t = work_push ts t in
    let k : cost x + work (ts ++ t ∷ []) ≤ (cost x + work ts) + cost t = omega arith in
    k

-- without the first task, it is less
pub work_taken : {S : Type 0} (first : Option (Task S)) (old new : List (Task S)) → old ≡ option_to_list first ++ new → IfSome first (λ task. work new + cost task ≤ work old)
unfolding work cost
work_taken None old new is = tt
work_taken (Some task) old new is =
    let all : work old ≡ cost task + work new = ap work is in
    let h : work new + cost task ≤ work old = omega arith in
    h

-- what was excluded stays so
pub excluded_stays : {N S : Type 0} (excluded : List S) (a b : Encoder N S) → Grows a.coding b.coding → AreExcluded excluded a → AreExcluded excluded b
excluded_stays excluded a b grows h s c = forbid_grows a.coding b.coding grows s (h s c)

-- the end of a parent excludes no less
pub excluded_next : {N S : Type 0} (excluded : List S) (a b : Encoder N S) → b ≡ record a { encoded = a.encoded + 1 } → AreExcluded excluded a → AreExcluded excluded b
excluded_next {N} {S} excluded a b is h = subst (λ (x : Encoder N S). AreExcluded excluded x) (sym is) h
