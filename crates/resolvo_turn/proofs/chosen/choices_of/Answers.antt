use Rattle.std.proofs.Common.{sym, ◌∙◌, ap, Vec, Global, get_or, false}
use Rattle.std.proofs.lemmas.List.{take_all}
use Rattle.resolvo_store_core.specs.declared.decision.Entry.{Entry}
use Rattle.resolvo_state.specs.Chosen.{choices}
use Rattle.resolvo_state.proofs.ChosenLemmas.{choices_skip, choices_next, denies_choice, helper_choice, makes_choice}
use Rattle.resolvo_turn.proofs.chosen.choices_of.Goals as goal
use Rattle.resolvo_turn.proofs.chosen.choices_of.Goals.{then-entry+in-Some+in_ok-push, then-entry+in_default, else-entry}

pub loop-entry-preserved : goal.loop-entry-preserved
loop-entry-preserved g c =
    let atoms = c.args.coding.now.atoms.keys in
    let es = c.args.entries.now in
    let i = c.loop-entry.entry-index in
    let d : Entry = record { decision = record { variable = record { 0 = 0 }; value = false; derived_from = record { 0 = 0 } }; level = 0 } in
    elim c.if-entry.branch [
      | then-entry+in-Some+in_ok-push w ↦
          ap (λ (v : Vec g.row.S.Denot Global). v.items) w.chosen-is ∙ choices_next atoms es i d c.loop-entry.chosen.items w.push.new.self.items w.in-Some.solvable c.loop-entry-test.true (makes_choice atoms (get_or es i d) w.in-Some.solvable w.if-entry.true (sym w.in-Some.ensures)) w.in_ok-push.ensures.items c.loop-entry.invariant
      | then-entry+in_default w ↦
          ap (λ (v : Vec g.row.S.Denot Global). v.items) w.chosen-is ∙ choices_skip atoms es i d c.loop-entry.chosen.items c.loop-entry-test.true (helper_choice atoms (get_or es i d) (sym w.in_default.ensures)) c.loop-entry.invariant
      | else-entry w ↦
          ap (λ (v : Vec g.row.S.Denot Global). v.items) w.chosen-is ∙ choices_skip atoms es i d c.loop-entry.chosen.items c.loop-entry-test.true (denies_choice atoms (get_or es i d) w.if-entry.false) c.loop-entry.invariant
    ]

pub returns-clause-choices : goal.returns-clause-choices
returns-clause-choices g c = c.loop-entry.invariant ∙ ap (choices c.args.coding.now.atoms.keys) (take_all c.loop-entry.entry-index c.args.entries.now c.loop-entry-test.false)
