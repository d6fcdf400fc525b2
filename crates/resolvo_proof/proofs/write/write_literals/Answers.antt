use Rattle.std.proofs.Common.{◌≡◌, ◌<◌, ◌+◌, ◌∷◌, ◌++◌, [], ◌∙◌, true, suc, Vec, Global, length, map, take, subst, sym, ap, arith}
use Rattle.std.proofs.lemmas.List.{take_more}
use Rattle.resolvo_pool_core.specs.declared.id.VariableId.{VariableId}
use Rattle.resolvo_store_core.specs.Signed.{Signed, has}
use Rattle.resolvo_sat.specs.State.{count_of}
use Rattle.resolvo_sat.specs.Numbered.{meanings}
use Rattle.resolvo_state.specs.Atoms.{origin}
use Rattle.resolvo_state.proofs.Origins.{count_is}
use Rattle.resolvo_proof.specs.declared.step.ProofLiteral.{ProofLiteral}
use Rattle.resolvo_proof.specs.Steps.{literal_in}
use Rattle.resolvo_proof.specs.Written.{atoms_of}
use Rattle.resolvo_proof.proofs.Parts.{written_more, written_skip, has_read}
use Rattle.resolvo_proof.proofs.write.write_literals.Goals as goal
use Rattle.resolvo_proof.proofs.write.write_literals.Goals.{in-Some+in_ok-push, in_default}

pub loop-literal-preserved : goal.loop-literal-preserved
loop-literal-preserved g c =
    let atoms = c.args.coding.now.atoms.keys in
    let xs = c.args.literals.now in
    let i = c.loop-literal.literal-index in
    let l = c.literal-item.result in
    let more : take (i + 1) xs ≡ take i xs ++ l ∷ [] = take_more xs i l c.loop-literal-test.true ∙ ap (λ (x : Signed). take i xs ++ x ∷ []) (sym c.literal-item.is) in
    let back : meanings (origin atoms) (take i xs ++ l ∷ []) ≡ meanings (origin atoms) (take (i + 1) xs) = sym (ap (meanings (origin atoms)) more) in
    let items = λ (v : Vec (ProofLiteral g.row.N.Denot g.row.S.Denot) Global). map literal_in v.items in
    let known : atoms_of atoms l.variable.0 ≡ atoms_of atoms c.variable.result.0 = ap (λ (v : VariableId). atoms_of atoms v.0) (sym c.variable.ensures.variable) in
    elim c.match-atom_of.branch [
      | in-Some+in_ok-push w ↦ ap items w.written-is ∙ (ap (map literal_in) w.in_ok-push.ensures.items ∙ (written_more atoms (take i xs) l w.in-Some.atom w.satisfying_value.result c.loop-literal.written.items w.satisfying_value.ensures (known ∙ sym w.in-Some.ensures) c.loop-literal.invariant ∙ back))
      | in_default w ↦
          let present : has xs l ≡ true = subst (λ (x : Signed). has xs x ≡ true) (sym c.literal-item.is) (has_read xs i l c.loop-literal-test.true) in
          let below : l.variable.0 < count_of c.args.coding.now.search = c.requires.in_range l present in
          let count : count_of c.args.coding.now.search ≡ suc (length atoms) = count_is c.args.coding.now c.requires.coding in
          ap items w.written-is ∙ (written_skip atoms (take i xs) l c.loop-literal.written.items (known ∙ sym w.in_default.ensures) (omega arith) c.loop-literal.invariant ∙ back)
    ]
