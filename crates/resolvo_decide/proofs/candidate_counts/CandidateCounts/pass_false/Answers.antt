use Rattle.std.proofs.Common.{◌≡◌, ◌<◌, Some, get_or, length, arith, refl, sym, ◌∙◌, ap}
use Rattle.std.specs.Prelude.{slice_set}
use Rattle.resolvo_store_core.specs.Clauses.{candidate_literals}
use Rattle.resolvo_store_core.specs.Values.{value_at}
use Rattle.resolvo_decide.specs.declared.candidate_counts.CountState.TheVariants.{Never, Kept}
use Rattle.resolvo_decide.specs.declared.candidate_count.CandidateCount.{CandidateCount}
use Rattle.resolvo_decide.specs.CandidateCounts.{number_at, kept_count}
use Rattle.resolvo_decide.proofs.CountLemmas.{get_any, false_literals, counted_passed}
use Rattle.resolvo_decide.proofs.candidate_counts.CandidateCounts.pass_false.Goals as goal

pub returns-then-number-len : goal.returns-then-number-len
returns-then-number-len g c =
    let old = c.args.self.now in
    let ts = old.counts.items in
    let values = value_at c.args.values.now in
    let n = c.in-Some-Kept.number in
    let d : CandidateCount = c.index_mut.result.now in
    let to = c.first_not_false.result in
    let inside : n < length ts = omega (arith, c.if-number-len.true, c.len.ensures) in
    let (found, same_item, inside_items, (there, each), any) = c.in-Some-Kept.ensures.lookup in
    let item : c.in-Some-Kept.field-0.now ≡ Kept n = c.in-Some-Kept.field-0-is in
    let has : number_at old.count_states.items c.args.position ≡ Some n = ap kept_count (ap (λ cs. get_or cs c.args.position Never) (sym c.deref.ensures.value) ∙ sym (each Never) ∙ item) in
    let read : d ≡ get_or ts n d = c.index_mut.ensures.value in
    let same : c.index.result.now ≡ get_or ts n d = c.index.ensures ∙ get_any ts n c.index.result.now d inside in
    let first : c.index.result.now.passed ≡ (get_or ts n d).passed = ap (λ (t : CandidateCount). t.passed) same in
    record {
      kept = λ trail. counted_passed values c.args.position (candidate_literals c.args.candidates.now) n to d old _ has inside
          (λ p l low high at. false_literals values c.args.candidates.now c.index.result.now.passed to c.first_not_false.ensures p l (omega (arith, low, first)) high at)
          (ap (λ (t : CandidateCount). slice_set ts n (record t { passed = to })) read) refl refl trail;
    }
