use Rattle.std.proofs.Common.{◌≡◌, Bool, true, false, not, Option, Some, refl, sym, ◌∙◌, ap}
use Rattle.std.specs.Option.{option_map}
use Rattle.std.proofs.Math.Bool.{beq}
use Rattle.resolvo_store_core.specs.Signed.{is_true}
use Rattle.resolvo_store_core.specs.Clauses.{no}
use Rattle.resolvo_sat.specs.State.{count_of, clauses_of}
use Rattle.resolvo_sat.proofs.Values.{true_is}
use Rattle.resolvo_sat.proofs.state.SatState.is_denied.Goals as goal

-- whether the value is the one that a negative literal has
denies : (b : Bool) → is_true (option_map (λ v. beq v false) (Some b)) ≡ not b
denies true = refl
denies false = refl

pub returns-in-Some : goal.returns-in-Some
returns-in-Some c =
    sym (denies c.in-Some.value)
    ∙ ap (λ (o : Option Bool). is_true (option_map (λ v. beq v false) o)) c.in-Some.ensures
    ∙ true_is (count_of c.args.self.now) (clauses_of c.args.self.now) c.args.self.now.tracker.trail c.map.result.now (no c.args.variable) c.requires.trail c.map.ensures

pub returns-in-None : goal.returns-in-None
returns-in-None c =
    ap (λ (o : Option Bool). is_true (option_map (λ v. beq v false) o)) c.in-None.ensures
    ∙ true_is (count_of c.args.self.now) (clauses_of c.args.self.now) c.args.self.now.tracker.trail c.map.result.now (no c.args.variable) c.requires.trail c.map.ensures
