-- Why a call stops for lack of ids.
use Rattle.std.proofs.Common.{◌≡◌, ◌∙◌, Bool, Option, Result, Ok, Err, sym, ap}
use Rattle.std.specs.Prelude.{Contains, IsErrAnd, IsErrOf}
use Rattle.resolvo_pool_core.specs.declared.requirement.ConditionalRequirement.{ConditionalRequirement}
use Rattle.resolvo_pool_core.specs.RuleKeeping.{Rules, rules_for}
use Rattle.resolvo_packages.specs.declared.package_source.PackageSource as source
use Rattle.resolvo_encoder.specs.declared.encoder.Encoder.{Encoder}
use Rattle.resolvo_encoder.specs.Steps.{LacksNumberFor}
use Rattle.resolvo_turn.specs.LacksIds.{LacksIds}

-- where a parent has the requirement
pub lacks_for : {A N S C : Type 0} (same : S → S → Bool) (g : source.Ghosts A N S C) (a : A) (root : Rules) (parent : Option S) (need : ConditionalRequirement) (e : Encoder N S) → Contains (rules_for same (g.packages a) root parent).requirements need
    → LacksNumberFor need.requirement e → LacksIds same g a root e
lacks_for same g a root parent need e listed (LacksNumberFor.coding h) = LacksIds.coding h
lacks_for same g a root parent need e listed (LacksNumberFor.disjunctions h) = LacksIds.disjunctions h
lacks_for same g a root parent need e listed (LacksNumberFor.requirement h) = LacksIds.requirement (record { parent = parent; need = need; listed = listed; last = h })

-- the refusal that was passed on
pub passed_on : {T U E : Type 0} (r : Result T E) (f x : E) → IsErrAnd r (λ y. y ≡ f) → IsErrOf r x → IsErrOf {T = U} (Err f) x
passed_on (Ok v) f x given is = absurd given
passed_on (Err y) f x given is =
    let same : y ≡ x = cc in
    ap Err (sym given ∙ same)
