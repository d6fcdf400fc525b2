use Rattle.std.proofs.Common.{◌∙◌, length, sym, refl, rules, eqb-true}
use Rattle.resolvo_state.specs.declared.atom.ProofAtom.TheVariants.{Solvable}
use Rattle.resolvo_state.specs.SolverState.{LacksNumber}
use Rattle.resolvo_state.proofs.Growth.{represents_in_range}
use Rattle.resolvo_state.proofs.DigitLemmas.{digits_within, some_digits, digits_none, digits_added}
use Rattle.resolvo_state.proofs.solver_state.SolverState.add_digits.Goals as goal

pub returns-then-is_empty-clause-encoded : goal.returns-then-is_empty-clause-encoded
returns-then-is_empty-clause-encoded g c = digits_none c.args.name c.args.variable c.args.place c.args.digits.now c.args.self.now c.requires.coding (eqb-true _ _ (sym c.is_empty.ensures ∙ c.if-is_empty.true))

pub add_ties-requires : goal.add_ties-requires
add_ties-requires g c = record {
  ready = c.requires.coding.ready;
  covered = c.requires.coding.covered;
  variable = represents_in_range c.args.self.now c.args.variable (Solvable c.args.solvable) c.requires.coding c.requires.solvable;
  digits = digits_within c.args.name c.args.self.now c.args.digits.now c.requires.coding c.requires.digits;
}

pub returns-in_err-add_ties-clause-ids : goal.returns-in_err-add_ties-clause-ids
returns-in_err-add_ties-clause-ids g c = search (rules, LacksNumber.clauses)

pub returns-clause-encoded : goal.returns-clause-encoded
returns-clause-encoded g c =
    digits_added c.args.name c.args.solvable c.args.variable c.args.place c.args.digits.now c.args.self.now _ c.requires.coding c.requires.solvable c.requires.digits c.requires.few c.in_ok-add_ties.ensures.added refl
    c.in_ok-push_digits.ensures.items (some_digits (length c.args.digits.now) (sym c.is_empty.ensures ∙ c.if-is_empty.false))
