use Rattle.std.proofs.Common.{◌≡◌, ◌<◌, ◌≤◌, ◌+◌, None, Some, length, List, refl, sym, ◌∙◌, ap, subst, arith, rules}
use Rattle.std.specs.Prelude.{slice_get, Contains}
use Rattle.std.proofs.lemmas.Option.{slice_get_within}
use Rattle.resolvo_pool_core.specs.Text.{solvable_of}
use Rattle.resolvo_sat.proofs.Lists.{contains_none}
use Rattle.resolvo_state.proofs.Positions.{prefix_long}
use Rattle.resolvo_encoder.specs.declared.encoder.Encoder.{Encoder}
use Rattle.resolvo_encoder.proofs.Bases.{turn_same, turns_then}
use Rattle.resolvo_turn.specs.Encoder.{StaysInOrder}
use Rattle.resolvo_turn.specs.Effects.{EncodesParent}
use Rattle.resolvo_turn.specs.LacksIds.{StopsInOrder}
use Rattle.resolvo_turn.specs.Tasks.{KeepsExcluded}
use Rattle.resolvo_turn.specs.TurnRules.{StopsInOrderOf}
use Rattle.resolvo_turn.proofs.AddLemmas.{next_in_order, all_none, all_then, all_next, needs_parents, next_all, turns_next}
use Rattle.resolvo_turn.proofs.TaskLemmas.{excluded_next}
use Rattle.resolvo_turn.proofs.EndLemmas.{past_end}
use Rattle.resolvo_turn.proofs.encode.encode_waiting.Goals as goal

pub loop-encoding-init : goal.loop-encoding-init
loop-encoding-init g c = record { same = refl; encoded = λ root is e. (e, λ s h. absurd (contains_none s (subst (λ (ks : List _). Contains ks s) c.requires.none h))); adds = all_none c.args.encoding.now; turn = λ soft. turn_same soft c.args.encoding.now; built = c.requires.built }

pub loop-encoding-preserved : goal.loop-encoding-preserved
loop-encoding-preserved g c =
    let same = g.A.SolvableId.PartialEq.eq in
    let p = g.A.PackageSource.packages c.args.answers.now in
    let orders = g.A.PackageSource.orders c.args.answers.now in
    let start = c.args.encoding.now in
    let before = c.loop-encoding.invariant in
    let old = c.loop-encoding.encoding in
    let middle = c.ask_and_fire.new.encoding in
    let new = c.encode_parent.new.encoding in
    let next = c.end_parent.new.self in
    let asked = c.in_ok-ask_and_fire.ensures in
    let kept = c.in_ok-encode_parent-in-Some.ensures.kept in
    let stays = subst (λ (a : g.row.A.Denot). StaysInOrder same g.A.PackageSource a old middle) before.same asked.stays in
    let one = subst (λ (a : g.row.A.Denot). KeepsExcluded same g.A.PackageSource a c.loop-encoding.excluded.keys c.ask_and_fire.new.excluded.keys old middle) before.same asked.excluded in
    let two = subst (λ (a : g.row.A.Denot). KeepsExcluded same g.A.PackageSource a c.ask_and_fire.new.excluded.keys c.encode_parent.new.excluded.keys middle new) (asked.same ∙ before.same) c.in_ok-encode_parent-in-Some.ensures.excluded in
    let encodes = subst (λ (a : g.row.A.Denot). EncodesParent same g.A.PackageSource a c.args.input.now (solvable_of c.in-Some.parent) c.ask_and_fire.new.excluded.keys middle new) (asked.same ∙ before.same) c.in_ok-encode_parent-in-Some.ensures.encoded in
    let here : slice_get middle.parents.keys middle.encoded ≡ Some c.in-Some.parent = sym c.next_parent.ensures.parent ∙ c.in-Some.is in
    record {
      same = c.in_ok-encode_parent-in-Some.ensures.same ∙ (asked.same ∙ before.same);
      encoded = λ root is e. (
          let (first, excluded) = before.encoded root is e in
          let (last, done) = encodes root is (stays root first) (one root first excluded) in (
            next_in_order same p orders root new next c.end_parent.ensures.next (λ e. c.end_parent.ensures.encoding p root e (next_all same p root middle new c.in-Some.parent kept here done)) last,
            excluded_next c.encode_parent.new.excluded.keys new next c.end_parent.ensures.next (two root (stays root first) (one root first excluded)),
          ));
      adds = all_next start old middle new next before.adds asked.kept kept c.end_parent.ensures.next;
      turn = turns_next start old middle new next before.turn asked.kept kept c.end_parent.ensures.next;
      built = c.end_parent.ensures.built c.in_ok-encode_parent-in-Some.ensures.built;
    }

pub end_parent-requires : goal.end_parent-requires
end_parent-requires g c =
    let middle = c.ask_and_fire.new.encoding in
    let new = c.encode_parent.new.encoding in
    let kept = c.in_ok-encode_parent-in-Some.ensures.kept in
    let here : slice_get middle.parents.keys middle.encoded ≡ Some c.in-Some.parent = sym c.next_parent.ensures.parent ∙ c.in-Some.is in
    let below : middle.encoded < length middle.parents.keys = slice_get_within middle.parents.keys middle.encoded c.in-Some.parent here in
    let long : length middle.parents.keys ≤ length new.parents.keys = prefix_long middle.parents.keys new.parents.keys kept.parents in
    let same : new.encoded ≡ middle.encoded = kept.encoded in
    omega arith

pub loop-encoding-smaller : goal.loop-encoding-smaller
loop-encoding-smaller g c =
    let old = c.loop-encoding.encoding in
    let middle = c.ask_and_fire.new.encoding in
    let new = c.encode_parent.new.encoding in
    let next = c.end_parent.new.self in
    let more : next.encoded ≡ new.encoded + 1 = ap (λ (x : Encoder _ _). x.encoded) c.end_parent.ensures.next in
    let same : new.encoded ≡ middle.encoded = c.in_ok-encode_parent-in-Some.ensures.kept.encoded in
    let before : middle.encoded ≡ old.encoded = c.in_ok-ask_and_fire.ensures.kept.encoded in
    let small : middle.encoded < 18446744073709551616 = c.next_parent.ensures.bounded in
    omega arith

pub returns-in-None-clause-same : goal.returns-in-None-clause-same
returns-in-None-clause-same g c = c.in_ok-ask_and_fire.ensures.same ∙ c.loop-encoding.invariant.same

pub returns-in-None-clause-encoded : goal.returns-in-None-clause-encoded
returns-in-None-clause-encoded g c = λ root is e.
    (subst (λ (a : g.row.A.Denot). StaysInOrder g.A.SolvableId.PartialEq.eq g.A.PackageSource a c.loop-encoding.encoding c.ask_and_fire.new.encoding) c.loop-encoding.invariant.same c.in_ok-ask_and_fire.ensures.stays)
    root (c.loop-encoding.invariant.encoded root is e).0

pub returns-in-None-clause-all : goal.returns-in-None-clause-all
returns-in-None-clause-all g c =
    let middle = c.ask_and_fire.new.encoding in
    let none : slice_get middle.parents.keys middle.encoded ≡ None = sym c.next_parent.ensures.parent ∙ c.in-None.is in
    let past : length middle.parents.keys ≤ middle.encoded = past_end middle.parents.keys middle.encoded none in
    let within : middle.encoded ≤ length middle.parents.keys = c.in_ok-ask_and_fire.ensures.built.within in
    record { adds = all_then c.args.encoding.now c.loop-encoding.encoding middle c.loop-encoding.invariant.adds (needs_parents c.loop-encoding.encoding middle c.in_ok-ask_and_fire.ensures.kept); all = omega arith }

pub returns-in-None-clause-turn : goal.returns-in-None-clause-turn
returns-in-None-clause-turn g c = turns_then c.args.encoding.now c.loop-encoding.encoding c.ask_and_fire.new.encoding c.loop-encoding.invariant.turn c.in_ok-ask_and_fire.ensures.kept.turn

pub returns-in_err-ask_and_fire-clause-ids : goal.returns-in_err-ask_and_fire-clause-ids
returns-in_err-ask_and_fire-clause-ids g c = λ is root are e.
    let stops = subst (λ (a : g.row.A.Denot). StopsInOrder g.A.SolvableId.PartialEq.eq g.A.PackageSource a c.loop-encoding.encoding c.ask_and_fire.new.encoding) c.loop-encoding.invariant.same (search (rules, is)) in
    stops root (c.loop-encoding.invariant.encoded root are e).0

pub returns-in_err-encode_parent-in-Some-clause-ids : goal.returns-in_err-encode_parent-in-Some-clause-ids
returns-in_err-encode_parent-in-Some-clause-ids g c = λ is root are e.
    let same = g.A.SolvableId.PartialEq.eq in
    let before = c.loop-encoding.invariant in
    let stays = subst (λ (a : g.row.A.Denot). StaysInOrder same g.A.PackageSource a c.loop-encoding.encoding c.ask_and_fire.new.encoding) before.same c.in_ok-ask_and_fire.ensures.stays in
    let stops = subst (λ (a : g.row.A.Denot). StopsInOrderOf same g.A.PackageSource a c.args.input.now c.ask_and_fire.new.encoding c.encode_parent.new.encoding) (c.in_ok-ask_and_fire.ensures.same ∙ before.same) (search (rules, is)) in
    stops root are (stays root (before.encoded root are e).0)
