use Rattle.std.proofs.Common.{◌∙◌, ap, ◌-◌, [], Bor, List, ℕ, arith}
use Rattle.std.specs.List.{list_any}
use Rattle.std.specs.Str.{bytes_eq}
use Rattle.std.proofs.lemmas.List.{take_rest}
use Rattle.resolvo_literal_order.specs.Order.{atom_part}
use Rattle.resolvo_literal_order.proofs.OrderLemmas.{few_stop, few_go_on}
use Rattle.resolvo_literal_order.proofs.are_few_once.Goals as goal

pub returns-then-has_atom : goal.returns-then-has_atom
returns-then-has_atom c =
    let d : Bor (List ℕ) = record { ref_ptr = (0, 0); now = [] } in
    let inv = c.loop-at.invariant in
    few_stop c.args.texts.now (c.loop-at.at - 1) c.loop-at.at d c.atom_part.result.now c.has_atom.result (omega (arith, c.loop-at-test.true)) (omega (arith, c.loop-at-test.true, inv.0)) c.atom_part.ensures
    (c.has_atom.ensures ∙ ap (λ ts. list_any (λ t. bytes_eq (atom_part t.now) c.atom_part.result.now) ts) (take_rest c.args.texts.now c.loop-at.at)) c.if-has_atom.true

pub loop-at-preserved : goal.loop-at-preserved
loop-at-preserved c =
    let d : Bor (List ℕ) = record { ref_ptr = (0, 0); now = [] } in
    let inv = c.loop-at.invariant in
    few_go_on c.args.texts.now (c.loop-at.at - 1) c.loop-at.at d c.atom_part.result.now c.has_atom.result (omega (arith, c.loop-at-test.true)) (omega (arith, c.loop-at-test.true, inv.0)) c.atom_part.ensures
    (c.has_atom.ensures ∙ ap (λ ts. list_any (λ t. bytes_eq (atom_part t.now) c.atom_part.result.now) ts) (take_rest c.args.texts.now c.loop-at.at)) c.if-has_atom.false inv.1
