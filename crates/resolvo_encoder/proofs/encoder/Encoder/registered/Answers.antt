use Rattle.std.proofs.Common.{◌≡◌, ◌+◌, ◌∷◌, ◌++◌, [], List, Vec, Global, take, get_or, subst, sym}
use Rattle.std.proofs.lemmas.List.{take_more, take_all}
use Rattle.resolvo_pool_core.specs.declared.id.VariableId.{VariableId}
use Rattle.resolvo_packages.specs.declared.package_source.Offered.{Offered}
use Rattle.resolvo_encoder.proofs.CaseLiterals.{AreOf, of_more, of_other, those_of}
use Rattle.resolvo_encoder.proofs.encoder.Encoder.registered.Goals as goal
use Rattle.resolvo_encoder.proofs.encoder.Encoder.registered.Goals.{in-Some+in_ok-push, in_default}

pub loop-variable-preserved : goal.loop-variable-preserved
loop-variable-preserved g c =
    let atoms = c.args.self.now.coding.atoms.keys in
    let vs = c.variables-variables.result.now in
    let i = c.loop-variable.variable-index in
    let d : VariableId = record { 0 = 0 } in
    let now = λ (x : Vec (Offered g.row.N.Denot g.row.S.Denot) Global). AreOf atoms (take (i + 1) vs) c.args.name x.items in
    let more : take (i + 1) vs ≡ take i vs ++ get_or vs i d ∷ [] = take_more vs i d c.loop-variable-test.true in
    elim c.match-solvable.branch [
      | in-Some+in_ok-push w ↦
          subst now (sym w.registered-is) (subst (λ (xs : List (Offered _ _)). AreOf atoms (take (i + 1) vs) c.args.name xs) (sym w.in_ok-push.ensures.items)
          (subst (λ (us : List VariableId). AreOf atoms us c.args.name (c.loop-variable.registered.items ++ record { solvable = w.in-Some.solvable; name = c.args.name } ∷ [])) (sym more) (of_more atoms (take i vs) c.args.name c.loop-variable.registered.items (get_or vs i d) w.in-Some.solvable (sym w.in-Some.ensures) c.loop-variable.invariant)))
      | in_default w ↦
          subst now (sym w.registered-is) (subst (λ (us : List VariableId). AreOf atoms us c.args.name c.loop-variable.registered.items) (sym more) (of_other atoms (take i vs) c.args.name c.loop-variable.registered.items (get_or vs i d) (sym w.in_default.ensures) c.loop-variable.invariant))
    ]

pub returns-clause-those : goal.returns-clause-those
returns-clause-those g c = those_of c.args.self.now c.args.name c.variables-variables.result.now c.loop-variable.registered.items c.requires.tied c.variables-variables.ensures.tracked c.variables-variables.ensures.all
    (subst (λ (vs : List VariableId). AreOf c.args.self.now.coding.atoms.keys vs c.args.name c.loop-variable.registered.items) (take_all c.loop-variable.variable-index c.variables-variables.result.now c.loop-variable-test.false) c.loop-variable.invariant)
