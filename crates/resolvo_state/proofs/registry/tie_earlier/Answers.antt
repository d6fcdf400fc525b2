use Rattle.std.proofs.Common.{◌≡◌, ℕ, List, ◌+◌, ◌<◌, ◌≤◌, Bool, false, length, refl, sym, ◌∙◌, ap, subst, arith}
use Rattle.std.proofs.lemmas.List.{length-map}
use Rattle.resolvo_pool_core.specs.declared.id.VariableId.{VariableId}
use Rattle.resolvo_state.specs.Registered.{IsTie, AddsTie, place_from}
use Rattle.resolvo_state.proofs.NewTies.{earlier_ties, earlier_at, place_first}
use Rattle.resolvo_state.proofs.TieLemmas.{all_none, tie_next, all_next, all_done}
use Rattle.resolvo_state.proofs.registry.tie_earlier.Goals as goal

abbrev Tie : Type 0
Tie = VariableId × VariableId × Bool

abbrev no_tie : Tie
no_tie = (record { 0 = 0 }, record { 0 = 0 }, false)

count : (xs : List VariableId) (w : VariableId) → length (earlier_ties xs w) ≡ length xs
count xs w = length-map xs (λ (y : VariableId). let t : Tie = (y, w, false) in t)

-- the place of the next tie
at_place : (last i place : ℕ) → i < last → place ≡ i → place ≡ place_from 0 last i
at_place last i place below is = is ∙ sym (place_first last i (omega arith))

pub loop-variable-init : goal.loop-variable-init
loop-variable-init g c = record { encoded = all_none c.args.name 0 (length c.args.variables.now) c.args.coding.now c.requires.coding; place = refl }

pub add_tie-requires : goal.add_tie-requires
add_tie-requires g c =
    let inv = c.loop-variable.invariant in
    let i = c.loop-variable.variable-index in
    let xs = c.args.variables.now in
    let all = earlier_ties xs c.args.digit in
    let below : i < length all = subst (λ (k : ℕ). i < k) (sym (count xs c.args.digit)) c.loop-variable-test.true in
    record {
      coding = inv.encoded.coding;
      tie = subst (λ (t : Tie). IsTie c.args.name c.loop-variable.coding.atoms.keys c.loop-variable.place t) (earlier_at xs c.args.digit i no_tie (record { 0 = 0 }) c.loop-variable-test.true)
          (tie_next c.args.name all 0 (length xs) i no_tie c.loop-variable.place c.args.coding.now c.loop-variable.coding inv.encoded.grows below (at_place (length xs) i c.loop-variable.place c.loop-variable-test.true inv.place) c.requires.ties);
    }

pub loop-variable-preserved : goal.loop-variable-preserved
loop-variable-preserved g c =
    let inv = c.loop-variable.invariant in
    let i = c.loop-variable.variable-index in
    let xs = c.args.variables.now in
    let all = earlier_ties xs c.args.digit in
    let below : i < length all = subst (λ (k : ℕ). i < k) (sym (count xs c.args.digit)) c.loop-variable-test.true in
    record {
      encoded = all_next c.args.name all 0 (length xs) i no_tie c.loop-variable.place c.args.coding.now c.loop-variable.coding c.add_tie.new.coding below (at_place (length xs) i c.loop-variable.place c.loop-variable-test.true inv.place) inv.encoded
          (subst (λ (t : Tie). AddsTie c.args.name c.loop-variable.place t c.loop-variable.coding c.add_tie.new.coding) (sym (earlier_at xs c.args.digit i no_tie (record { 0 = 0 }) c.loop-variable-test.true)) c.in_ok-add_tie.ensures.encoded);
      place = ap (λ (k : ℕ). k + 1) inv.place;
    }

pub returns-clause-encoded : goal.returns-clause-encoded
returns-clause-encoded g c =
    let i = c.loop-variable.variable-index in
    let xs = c.args.variables.now in
    let all = earlier_ties xs c.args.digit in
    let past : length all ≤ i = subst (λ (k : ℕ). k ≤ i) (sym (count xs c.args.digit)) c.loop-variable-test.false in
    all_done c.args.name all 0 (length xs) i c.args.coding.now c.loop-variable.coding past c.loop-variable.invariant.encoded
