use Rattle.std.proofs.Common.{◌≡◌, ◌+◌, ◌∷◌, List, drop, length, get_or, length-set, sym, ◌∙◌, ap}
use Rattle.std.specs.Prelude.{slice_get, slice_set}
use Rattle.std.specs.Option.{option_map}
use Rattle.std.proofs.lemmas.List.{drop_more}
use Rattle.resolvo_decide.specs.declared.candidate_counts.Occurrence.{Occurrence}
use Rattle.resolvo_decide.specs.declared.candidate_count.CandidateCount.{CandidateCount}
use Rattle.resolvo_decide.specs.CandidateCounts.{changed_each, changed}
use Rattle.resolvo_decide.proofs.ChangeLemmas.{change_more, change_out}
use Rattle.resolvo_decide.proofs.candidate_counts.change_each.Goals.{then-one-counts, else-one-counts}
use Rattle.resolvo_decide.proofs.candidate_counts.change_each.Goals as goal

pub loop-one-preserved : goal.loop-one-preserved
loop-one-preserved c =
    let us = c.args.occurrences.now in
    let i = c.loop-one.one-index in
    let d : Occurrence = record { count = 0; place = 0 } in
    let none : CandidateCount = record { total = 0; trues = 0; falses = 0; passed = 0 } in
    let u = get_or us i d in
    let old = c.loop-one.counts in
    let left : drop i us ≡ u ∷ drop (i + 1) us = drop_more us i d c.loop-one-test.true in
    elim c.if-one-counts.branch [
      | then-one-counts w ↦
          let is : c.if-one-counts.counts ≡ slice_set old u.count (changed c.args.change u.place (get_or old u.count none)) = w.counts-is ∙ ap (slice_set old u.count) w.changed.ensures in
          record {
            each = λ k. ap (λ ts. option_map (changed_each c.args.change k (drop (i + 1) us)) (slice_get ts k)) is ∙ change_more c.args.change k old u (drop (i + 1) us) none
                ∙ ap (λ (vs : List Occurrence). option_map (changed_each c.args.change k vs) (slice_get old k)) (sym left) ∙ c.loop-one.invariant.each k;
            len = ap length is ∙ length-set old u.count (changed c.args.change u.place (get_or old u.count none)) ∙ c.loop-one.invariant.len;
          }
      | else-one-counts w ↦ record {
        each = λ k. ap (λ ts. option_map (changed_each c.args.change k (drop (i + 1) us)) (slice_get ts k)) w.counts-is ∙ change_out c.args.change k old u (drop (i + 1) us) w.if-one-counts.false
            ∙ ap (λ (vs : List Occurrence). option_map (changed_each c.args.change k vs) (slice_get old k)) (sym left) ∙ c.loop-one.invariant.each k;
        len = ap length w.counts-is ∙ c.loop-one.invariant.len;
      }
    ]
