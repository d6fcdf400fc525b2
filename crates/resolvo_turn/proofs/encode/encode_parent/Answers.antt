use Rattle.std.proofs.Common.{None, sym, subst, rules}
use Rattle.resolvo_pool_core.specs.declared.solver_id.SolvableIdOrRoot.{SolvableIdOrRoot}
use Rattle.resolvo_pool_core.specs.Text.{solvable_of}
use Rattle.resolvo_encoder.specs.Encoded.{IsParentEncoded}
use Rattle.resolvo_turn.specs.LacksIds.{StopsInOrder, StopsKnown}
use Rattle.resolvo_turn.proofs.AddLemmas.{root_rules}
use Rattle.resolvo_turn.proofs.TaskLemmas.{excluded_stays}
use Rattle.resolvo_turn.proofs.encode.encode_parent.Goals as goal

pub returns-in_ok-encode_rules-in-Root-clause-encoded : goal.returns-in_ok-encode_rules-in-Root-clause-encoded
returns-in_ok-encode_rules-in-Root-clause-encoded g c = λ root is e before.
    let same = g.A.SolvableId.PartialEq.eq in
    let p = g.A.PackageSource.packages c.args.answers.now in
    let (last, done) = c.in_ok-encode_rules-in-Root.ensures.encoded root (root_rules same p root c.args.input.now.requirements.now c.args.input.now.constraints.now is) e in
    (last, subst (λ (x : SolvableIdOrRoot _). IsParentEncoded same p c.encode_rules.new.encoding root (solvable_of x)) (sym c.in-Root.is) done)

pub returns-in_ok-encode_rules-in-Root-clause-excluded : goal.returns-in_ok-encode_rules-in-Root-clause-excluded
returns-in_ok-encode_rules-in-Root-clause-excluded g c = λ root e before. excluded_stays c.args.excluded.now.keys c.args.encoding.now c.encode_rules.new.encoding c.in_ok-encode_rules-in-Root.ensures.kept.grows before

pub returns-in_ok-encode_solvable-in-Solvable-clause-encoded : goal.returns-in_ok-encode_solvable-in-Solvable-clause-encoded
returns-in_ok-encode_solvable-in-Solvable-clause-encoded g c = λ root is e before.
    let same = g.A.SolvableId.PartialEq.eq in
    let p = g.A.PackageSource.packages c.args.answers.now in
    let (last, done) = c.in_ok-encode_solvable-in-Solvable.ensures.encoded root e before in
    (last, subst (λ (x : SolvableIdOrRoot _). IsParentEncoded same p c.encode_solvable.new.encoding root (solvable_of x)) (sym c.in-Solvable.is) done)

pub returns-in_err-encode_rules-in-Root-clause-ids : goal.returns-in_err-encode_rules-in-Root-clause-ids
returns-in_err-encode_rules-in-Root-clause-ids g c = λ is root are e.
    let stops : StopsKnown g.A.SolvableId.PartialEq.eq g.A.PackageSource c.args.answers.now None c.args.input.now.requirements.now c.args.input.now.constraints.now c.args.encoding.now c.encode_rules.new.encoding = search (rules, is) in
    stops root (root_rules g.A.SolvableId.PartialEq.eq (g.A.PackageSource.packages c.args.answers.now) root c.args.input.now.requirements.now c.args.input.now.constraints.now are) e

pub returns-in_err-encode_solvable-in-Solvable-clause-ids : goal.returns-in_err-encode_solvable-in-Solvable-clause-ids
returns-in_err-encode_solvable-in-Solvable-clause-ids g c = λ is root are e.
    let stops : StopsInOrder g.A.SolvableId.PartialEq.eq g.A.PackageSource c.args.answers.now c.args.encoding.now c.encode_solvable.new.encoding = search (rules, is) in
    stops root e
