-- A condition by its number holds as its operands make it hold.
use Rattle.std.proofs.Common.{◌≡◌, ◌&&◌, ◌||◌, sym, ap, ◌∙◌}
use Rattle.resolvo_text.specs.Line.{Cond}
use Rattle.resolvo_text.specs.Matches.{Set, holds}
use Rattle.resolvo_pool_core.specs.declared.id.ConditionId.{ConditionId}
use Rattle.resolvo_pool_core.specs.declared.condition.Condition.{Condition}
use Rattle.resolvo_pool_core.specs.declared.condition.Condition.TheVariants.{Binary}
use Rattle.resolvo_pool_core.specs.declared.condition.LogicalOperator.{LogicalOperator}
use Rattle.resolvo_pool_core.specs.declared.condition.LogicalOperator.TheVariants as joins
use Rattle.resolvo_terms.specs.Terms.{Terms}
use Rattle.resolvo_terms.specs.Known.{condition_at, cond_by, cond_at}
use Rattle.resolvo_terms.proofs.KnownLemmas.{cond_is}

pub holds_by : (t : Terms) (c : ConditionId) (set : Set) (q : Condition) → q ≡ condition_at t c → holds (cond_by t (cond_at t) q) set ≡ holds (cond_at t c) set
holds_by t c set q is = ap (λ (x : Cond). holds x set) (cond_is t c q is)

pub holds_and : (t : Terms) (c : ConditionId) (set : Set) (op : LogicalOperator) (a b : ConditionId) → Binary op a b ≡ condition_at t c → op ≡ joins.And → (holds (cond_at t a) set && holds (cond_at t b) set) ≡ holds (cond_at t c) set
holds_and t c set op a b is e = ap (λ (o : LogicalOperator). holds (cond_by t (cond_at t) (Binary o a b)) set) (sym e) ∙ holds_by t c set (Binary op a b) is

pub holds_or : (t : Terms) (c : ConditionId) (set : Set) (op : LogicalOperator) (a b : ConditionId) → Binary op a b ≡ condition_at t c → op ≡ joins.Or → (holds (cond_at t a) set || holds (cond_at t b) set) ≡ holds (cond_at t c) set
holds_or t c set op a b is e = ap (λ (o : LogicalOperator). holds (cond_by t (cond_at t) (Binary o a b)) set) (sym e) ∙ holds_by t c set (Binary op a b) is
