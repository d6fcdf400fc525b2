-- Variables with a sign.
use Rattle.std.specs.Prelude.{ℕ, ◌+◌, ◌*◌, ◌/◌, ◌%◌, ◌==◌, ◌&&◌, Bool, true, false, not, if◌then◌else◌, List, Option, Some, None}
use Rattle.std.specs.Option.{option_map}
use Rattle.std.specs.List.{list_any}
use Rattle.std.proofs.Math.Bool.{beq}
use Rattle.resolvo_pool_core.specs.declared.id.VariableId.{VariableId}

-- a variable, or its negation
pub record Signed : Type 0 where
  pub variable : VariableId
  pub positive : Bool

-- the literal of the other sign
abbrev pub negation : Signed → Signed
negation l = record { variable = l.variable; positive = not l.positive }

-- both literals are one
abbrev pub same_literal : Signed → Signed → Bool
same_literal a b = (a.variable.0 == b.variable.0) && beq a.positive b.positive

-- the list holds the literal
abbrev pub has : List Signed → Signed → Bool
has literals l = list_any (λ x. same_literal x l) literals

-- twice the variable's index, and one more for a negation
abbrev pub index_in : Signed → ℕ
index_in l = if l.positive then l.variable.0 * 2 else l.variable.0 * 2 + 1

-- the literal of an index
abbrev pub literal_at : ℕ → Signed
literal_at i = record { variable = record { 0 = i / 2 }; positive = i % 2 == 0 }

-- the literal's value under values of the variables, if its variable has one
abbrev pub value_under : (ℕ → Option Bool) → Signed → Option Bool
value_under values l = option_map (λ v. beq v l.positive) (values l.variable.0)

abbrev pub is_false : Option Bool → Bool
is_false None = false
is_false (Some b) = not b

abbrev pub is_true : Option Bool → Bool
is_true None = false
is_true (Some b) = b

abbrev pub is_open : Option Bool → Bool
is_open None = true
is_open (Some b) = false
