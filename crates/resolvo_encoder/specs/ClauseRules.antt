-- The clauses that forbid solvables.
use Rattle.std.specs.Prelude.{◌≡◌, ◌⊎◌, Bool, List, [], ◌∷◌, map, Option, Contains}
use Rattle.resolvo_pool_core.specs.declared.id.ClauseId.{ClauseId}
use Rattle.resolvo_pool_core.specs.declared.id.VersionSetId.{VersionSetId}
use Rattle.resolvo_packages.specs.declared.package_source.ForbiddenSolvable.{ForbiddenSolvable}
use Rattle.resolvo_packages.specs.declared.package_source.Offered.{Offered}
use Rattle.resolvo_packages.specs.declared.package_source.ForbiddenBy.{ForbiddenBy}
use Rattle.resolvo_packages.specs.declared.package_source.ForbiddenBy.TheVariants.{Locked, Excluded}
use Rattle.resolvo_pool_core.specs.RuleKeeping.{Packages, Rules, IsLawful}
use Rattle.resolvo_store_core.specs.Signed.{Signed}
use Rattle.resolvo_sat.specs.RuleClauses.{Rule, ForbidReason, IsRule}
use Rattle.resolvo_state.specs.Kinds.{Kind}
use Rattle.resolvo_state.specs.SolverState.{AddsRule}
use Rattle.resolvo_encoder.specs.declared.encoder.Encoder.{Encoder}
use Rattle.resolvo_encoder.specs.Encoded.{rules_of, IsEncoding}
use Rattle.resolvo_encoder.specs.Steps.{SameButCoding, Extends, IsBuilt}

-- the rule's clause makes no solvable true, isn't a requires clause, and encodes no digit
abbrev pub IsRestraint : {N S : Type 0} → Rule N S → Type 0
IsRestraint (Rule.needs parent need case) = ⊥
IsRestraint (Rule.gated s r) = Unit {0}
IsRestraint (Rule.shared r) = ⊥
IsRestraint (Rule.limits parent v s) = Unit {0}
IsRestraint (Rule.limits_outside parent v) = Unit {0}
IsRestraint (Rule.is_out v s) = Unit {0}
IsRestraint (Rule.forbids w s) = Unit {0}
IsRestraint (Rule.has_digit s bit b) = ⊥
IsRestraint (Rule.is_there n s) = Unit {0}
IsRestraint (Rule.matches v s) = Unit {0}

-- the clause has these two literals, or one where both are the same
abbrev pub IsPair : Signed → Signed → List Signed → Type 0
IsPair a b literals = (literals ≡ a ∷ b ∷ []) ⊎ ((a ≡ b) × (literals ≡ a ∷ []))

-- a clause of these two literals was added
pub record EncodesPair {N S : Type 0} (x : Kind N S) (a b : Signed) (old new : Encoder N S) : Type 0 where
  pub number : ClauseId
  pub literals : List Signed
  pub pair : IsPair a b literals
  pub states : AddsRule x literals number old.coding new.coding
  pub rest : SameButCoding old new
  pub same_queue : new.queue ≡ old.queue

-- Clauses that encode these rules were added, if the problem has these rules.
pub record EncodesRules {N S : Type 0} (same : S → S → Bool) (rules : List (Rule N S)) (old new : Encoder N S) : Type 0 where
  pub built : IsBuilt new
  pub extends : Extends old new
  pub lists : new.lists ≡ old.lists
  pub registry : new.registry ≡ old.registry
  pub recorded : new.recorded ≡ old.recorded
  pub encoding : (p : Packages N S) (root : Rules) → IsLawful p → IsEncoding same p root old
      → ((r : Rule N S) → Contains rules r → IsRule same p root r)
      → IsEncoding same p root new × ((r : Rule N S) → Contains rules r → rules_of new r)

-- the reason for which a solvable is forbidden, as a rule gives it
abbrev pub reason_of : {S : Type 0} → ForbiddenBy S → ForbidReason S
reason_of (Locked locked) = ForbidReason.lock locked
reason_of (Excluded reason) = ForbidReason.word reason

-- the rules that forbid each of these
abbrev pub forbid_rules : {N S : Type 0} → List (ForbiddenSolvable S) → List (Rule N S)
forbid_rules list = map (λ b. Rule.forbids (reason_of b.why) b.solvable) list

-- the rules by which a parent's constraint forbids each of these
abbrev pub limit_rules : {N S : Type 0} → Option S → VersionSetId → List (Offered N S) → List (Rule N S)
limit_rules parent v list = map (λ o. Rule.limits parent v o.solvable) list

-- the rules that each of these is outside a version set
abbrev pub out_rules : {N S : Type 0} → VersionSetId → List (Offered N S) → List (Rule N S)
out_rules v list = map (λ o. Rule.is_out v o.solvable) list

-- the rules that each of these matches a version set
abbrev pub match_rules : {N S : Type 0} → VersionSetId → List (Offered N S) → List (Rule N S)
match_rules v list = map (λ o. Rule.matches v o.solvable) list
