use Rattle.std.proofs.Common.{◌≡◌, ◌+◌, ◌<◌, ◌≤◌, true, false, sym, ◌∙◌, ap, subst, take, List, length, Bool, Vec, Global, eqb-true, eq-eqb, cond, ◌==◌, arith, rules}
use Rattle.std.proofs.lemmas.Bool.{both_ways}
use Rattle.resolvo_pool_core.specs.declared.id.VariableId.{VariableId}
use Rattle.resolvo_store_core.specs.Signed.{Signed}
use Rattle.std.specs.Prelude.{slice_index_or}
use Rattle.resolvo_sat.specs.declared.analyze.Marked.{Marked}
use Rattle.resolvo_sat.specs.Analysis.{Seen, Collects, MarksAtMost}
use Rattle.resolvo_sat.proofs.MarkLemmas.{marks_none, marks_root, marks_more, few_more}
use Rattle.resolvo_sat.proofs.MetLemmas.{collects_none, collects_root, collects_more}
use Rattle.resolvo_sat.proofs.analyze.mark_each.Goals as goal
use Rattle.resolvo_sat.proofs.analyze.mark_each.Goals.{then-is_root+in_ok-meet_root, else-is_root+in_ok-is_new}

pub loop-literal-preserved : goal.loop-literal-preserved
loop-literal-preserved c = elim c.if-is_root.branch [
  | then-is_root+in_ok-meet_root w ↦
      let same : c.if-is_root.seen ≡ c.loop-literal.seen = w.seen-is ∙ w.in_ok-meet_root.ensures.same in
      let is_root : c.literal-item.result.variable.0 ≡ 0 = sym (ap (λ (v : VariableId). v.0) c.variable-variable.ensures.variable) ∙ eqb-true _ _ (sym c.is_root.ensures ∙ w.if-is_root.true) in
      record {
        marked = subst (λ (m : List Bool). Seen (take (c.loop-literal.literal-index + 1) c.args.literals.now) c.args.seen.now m) (sym same)
            (marks_root c.args.literals.now c.loop-literal.literal-index c.literal-item.result c.args.seen.now c.loop-literal.seen c.loop-literal-test.true c.literal-item.is is_root c.loop-literal.invariant.marked);
        collected = subst (λ (m : List Bool). Collects (take (c.loop-literal.literal-index + 1) c.args.literals.now) c.args.seen.now c.args.met.now.items m c.if-is_root.met.items) (sym same)
            (subst (λ (v : Vec Signed Global). Collects (take (c.loop-literal.literal-index + 1) c.args.literals.now) c.args.seen.now c.args.met.now.items c.loop-literal.seen v.items) (sym w.met-is)
            (collects_root c.args.literals.now c.loop-literal.literal-index c.literal-item.result c.args.seen.now c.loop-literal.seen c.args.met.now.items c.loop-literal.met.items w.meet_root.new.met.items c.loop-literal-test.true c.literal-item.is is_root w.in_ok-meet_root.ensures.appended c.loop-literal.invariant.collected));
        few = subst (λ (n : Marked). MarksAtMost n.all c.args.seen.now c.if-is_root.seen) (sym w.count-is) (subst (MarksAtMost c.loop-literal.count.all c.args.seen.now) (sym same) c.loop-literal.invariant.few);
        low = let fixed : c.if-is_root.count.all ≡ c.loop-literal.count.all = ap (λ (n : Marked). n.all) w.count-is in let low : c.loop-literal.count.all ≤ c.loop-literal.literal-index = c.loop-literal.invariant.low in omega arith;
      }
  | else-is_root+in_ok-is_new w ↦
      let at : c.variable-variable.result ≡ c.literal-item.result.variable = c.variable-variable.ensures.variable in
      let low : c.loop-literal.count.all ≤ c.loop-literal.literal-index = c.loop-literal.invariant.low in
      let within : c.loop-literal.literal-index < length c.args.literals.now = c.loop-literal-test.true in
      let put : (q : VariableId) → slice_index_or w.meet.new.seen q.0 false ≡ cond (c.literal-item.result.variable.0 == q.0) true (slice_index_or c.loop-literal.seen q.0 false) = λ q. w.in_ok-is_new.ensures.put q.0 in
      let more = few_more c.loop-literal.count.all w.with-count.result.all _ c.literal-item.result.variable c.args.seen.now c.loop-literal.seen w.meet.new.seen w.in_ok-is_new.is_new w.in_ok-is_new.ensures.added put w.with-count.ensures (omega arith) c.loop-literal.invariant.few in
      let small : w.with-count.result.all ≤ c.loop-literal.count.all + 1 = more.1 in
      let now : c.if-is_root.count.all ≡ w.with-count.result.all = ap (λ (n : Marked). n.all) w.count-is in
      record {
        marked = subst (λ (m : List Bool). Seen (take (c.loop-literal.literal-index + 1) c.args.literals.now) c.args.seen.now m) (sym w.seen-is)
            (marks_more c.args.literals.now c.loop-literal.literal-index c.literal-item.result c.args.seen.now c.loop-literal.seen w.meet.new.seen c.loop-literal-test.true c.literal-item.is
            (λ z. both_ways (c.variable-variable.result.0 == 0) (sym c.is_root.ensures ∙ w.if-is_root.false) (eq-eqb _ _ (ap (λ (v : VariableId). v.0) at ∙ z)))
            put c.loop-literal.invariant.marked);
        collected = subst (λ (m : List Bool). Collects (take (c.loop-literal.literal-index + 1) c.args.literals.now) c.args.seen.now c.args.met.now.items m c.if-is_root.met.items) (sym w.seen-is)
            (subst (λ (v : Vec Signed Global). Collects (take (c.loop-literal.literal-index + 1) c.args.literals.now) c.args.seen.now c.args.met.now.items w.meet.new.seen v.items) (sym w.met-is)
            (collects_more c.args.literals.now c.loop-literal.literal-index c.literal-item.result w.in_ok-is_new.is_new c.args.seen.now c.loop-literal.seen w.meet.new.seen c.args.met.now.items c.loop-literal.met.items w.meet.new.met.items c.loop-literal-test.true c.literal-item.is w.in_ok-is_new.ensures.added put w.in_ok-is_new.ensures.appended c.loop-literal.invariant.marked c.loop-literal.invariant.collected));
        few = subst (λ (n : Marked). MarksAtMost n.all c.args.seen.now c.if-is_root.seen) (sym w.count-is) (subst (MarksAtMost w.with-count.result.all c.args.seen.now) (sym w.seen-is) more.0);
        low = omega arith;
      }
]

pub loop-literal-init : goal.loop-literal-init
loop-literal-init c = record {
  marked = marks_none c.args.seen.now;
  collected = collects_none c.args.seen.now c.args.met.now.items;
  few = search rules;
  low = search rules;
}
