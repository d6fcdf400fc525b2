use Rattle.std.proofs.Common.{sym, ◌∙◌, ap, subst, reverse, Vec, Global, get_or, false}
use Rattle.std.proofs.lemmas.List.{reverse-reverse}
use Rattle.resolvo_store_core.specs.declared.decision.Entry.{Entry}
use Rattle.resolvo_sat.specs.Entries.{made_true}
use Rattle.resolvo_state.specs.Chosen.{AreChosen, choices}
use Rattle.resolvo_state.proofs.ChosenLemmas.{choices_skip, choices_next, choices_all, choices_chosen, denies_choice, helper_choice, makes_choice}
use Rattle.resolvo_state.proofs.solver_state.SolverState.chosen.Goals as goal
use Rattle.resolvo_state.proofs.solver_state.SolverState.chosen.Goals.{then-entry+in-Some+in_ok-push, then-entry+in_default, else-entry}

pub loop-entry-preserved : goal.loop-entry-preserved
loop-entry-preserved g c =
    let atoms = c.args.self.now.atoms.keys in
    let es = c.stack-entry-items.result.now in
    let i = c.loop-entry.entry-index in
    let d : Entry = record { decision = record { variable = record { 0 = 0 }; value = false; derived_from = record { 0 = 0 } }; level = 0 } in
    elim c.if-entry.branch [
      | then-entry+in-Some+in_ok-push w ↦
          ap (λ (v : Vec g.row.S.Denot Global). v.items) w.chosen-is ∙ choices_next atoms es i d c.loop-entry.chosen.items w.push.new.self.items w.in-Some.solvable c.loop-entry-test.true (makes_choice atoms (get_or es i d) w.in-Some.solvable w.if-entry.true (sym w.in-Some.ensures)) w.in_ok-push.ensures.items c.loop-entry.invariant
      | then-entry+in_default w ↦
          ap (λ (v : Vec g.row.S.Denot Global). v.items) w.chosen-is ∙ choices_skip atoms es i d c.loop-entry.chosen.items c.loop-entry-test.true (helper_choice atoms (get_or es i d) (sym w.in_default.ensures)) c.loop-entry.invariant
      | else-entry w ↦
          ap (λ (v : Vec g.row.S.Denot Global). v.items) w.chosen-is ∙ choices_skip atoms es i d c.loop-entry.chosen.items c.loop-entry-test.true (denies_choice atoms (get_or es i d) w.if-entry.false) c.loop-entry.invariant
    ]

pub returns-clause-in_order : goal.returns-clause-in_order
returns-clause-in_order g c = choices_all c.args.self.now.atoms.keys c.stack-entry-items.result.now c.args.self.now.search.tracker.trail c.loop-entry.entry-index c.loop-entry.chosen.items c.loop-entry-test.false c.stack-entry-items.ensures.trail c.loop-entry.invariant

pub returns-clause-chosen : goal.returns-clause-chosen
returns-clause-chosen g c =
    let atoms = c.args.self.now.atoms.keys in
    let trail = c.args.self.now.search.tracker.trail in
    subst (AreChosen atoms (made_true (reverse trail))) (ap (choices atoms) (reverse-reverse trail) ∙ sym (returns-clause-in_order g c)) (choices_chosen atoms (reverse trail))
