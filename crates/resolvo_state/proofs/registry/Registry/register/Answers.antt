use Rattle.std.proofs.Common.{refl}
use Rattle.resolvo_state.specs.declared.atom.ProofAtom.TheVariants.{Solvable}
use Rattle.resolvo_state.specs.Registered.{member}
use Rattle.resolvo_state.proofs.MemberLemmas.{gives_known, included_known, registers_is}
use Rattle.resolvo_state.proofs.registry.Registry.register.Goals as goal

pub returns-in-Some-clause-registered : goal.returns-in-Some-clause-registered
returns-in-Some-clause-registered g c =
    let v = c.in-Some.variable in
    let r = c.args.self.now in
    let coding = c.args.coding.now in
    registers_is c.args.name c.args.solvable v r r coding coding c.requires.tied (gives_known (Solvable c.args.solvable) v coding c.requires.coding c.in-Some.ensures.0) (included_known (member c.args.name v) r.members.keys c.in-Some.ensures.1) refl refl refl refl
