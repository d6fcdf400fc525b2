-- A variable more.
use Rattle.std.proofs.Common.{◌≡◌, ◌+◌, ◌<◌, List, [], ◌∷◌, ◌++◌, length, Vec, Global, refl, ap, subst, arith}
use Rattle.std.proofs.lemmas.List.{append-nil, length-append}
use Rattle.resolvo_pool_core.specs.declared.id.VariableId.{VariableId}
use Rattle.resolvo_store_core.specs.Signed.{Signed}
use Rattle.resolvo_sat.specs.declared.state.SatState.{SatState}
use Rattle.resolvo_sat.specs.declared.state.VariableKind.{VariableKind}
use Rattle.resolvo_sat.specs.Entries.{IsTrail}
use Rattle.resolvo_sat.specs.State.{count_of, history, clauses_of, IsState}
use Rattle.resolvo_sat.specs.Begin.{AddsVariable}
use Rattle.resolvo_sat.proofs.Trails.{trail_more}

pub variable_added : (s : SatState) (more : Vec VariableKind Global) (kind : VariableKind) (v : VariableId) → IsState s → v.0 ≡ count_of s → count_of s < 2147483647 → more.items ≡ s.variables.items ++ kind ∷ [] → AddsVariable kind v s (record s { variables = more })
variable_added s more kind v state number few pushed =
    let long : length more.items ≡ count_of s + 1 = let a = ap length pushed in let b = length-append s.variables.items (kind ∷ []) in omega arith in
    record {
      state = record {
        trail = subst (λ (cs : List (List Signed)). IsTrail (length more.items) cs (history s)) (append-nil (clauses_of s)) (trail_more (count_of s) (length more.items) (clauses_of s) [] (history s) (omega arith) state.trail);
        derived = state.derived;
        in_range = λ n l h. (let low : l.variable.0 < count_of s = state.in_range n l h in omega arith);
        small = omega arith;
        floor_low = state.floor_low;
        rooted = state.rooted;
      };
      number = number;
      variables = pushed;
      clauses = refl;
      tracker = refl;
      qhead = refl;
      guard = refl;
      base_level = refl;
    }
