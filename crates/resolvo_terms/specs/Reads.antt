-- What is read as numbers, beside what the parser of texts reads.
use Rattle.std.specs.Prelude.{◌≡◌, ◌≤◌, ◌+◌, ℕ, Option, Some, None, Result, Ok, Err, List}
use Rattle.resolvo_text.specs.Line.{Line, Spec, Cond, Needs}
use Rattle.resolvo_text.specs.declared.line.LineFault.{LineFault}
use Rattle.resolvo_text.specs.Spelling.{Words}
use Rattle.resolvo_text.specs.Parse.{Fails, Part}
use Rattle.resolvo_text.specs.declared.condition.Joint.{Joint}
use Rattle.resolvo_text.specs.declared.condition.Joint.TheVariants as joint
use Rattle.resolvo_pool_core.specs.declared.condition.LogicalOperator.{LogicalOperator}
use Rattle.resolvo_pool_core.specs.declared.condition.LogicalOperator.TheVariants as operator
use Rattle.resolvo_pool_core.specs.declared.id.ConditionId.{ConditionId}
use Rattle.resolvo_pool_core.specs.declared.requirement.ConditionalRequirement.{ConditionalRequirement}
use Rattle.resolvo_terms.specs.Terms.{Terms, IsCondition, IsNeed}
use Rattle.resolvo_terms.specs.TermCounts.{term_count, ids_for_condition, ids_for_need}

-- What was read is related to what the parser reads. There is a fault where the parser has one; memory or numbers may run out.
abbrev pub Reads : {X Y : Type 0} → (X → Y → Type 0) → Result X LineFault → Option Y → Type 0
Reads R (Ok x) (Some y) = R x y
Reads R (Ok x) None = ⊥
Reads R (Err e) read = Fails e read

-- the operator that a joining word stands for
abbrev pub operator_of : Joint → LogicalOperator
operator_of joint.And = operator.And
operator_of joint.Or = operator.Or

-- The part is read as the number of its condition, and no more is numbered than it needs.
abbrev pub IsPartRead : Terms → Terms → ConditionId → ℕ → Words → Part → Type 0
IsPartRead old new c left after read = IsCondition new c read.0 × (left ≡ read.1) × (after ≡ read.2) × (term_count new ≤ term_count old + ids_for_condition read.0)

-- The need is that of a line, and no more is numbered than it needs.
abbrev pub IsNeedRead : Terms → Terms → ConditionalRequirement → Line → Type 0
IsNeedRead old new need line = (written : List Spec × Option Cond) × (line ≡ Needs written.0 written.1) × IsNeed new need written × (term_count new ≤ term_count old + ids_for_need written)
