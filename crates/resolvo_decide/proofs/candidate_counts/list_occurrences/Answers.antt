use Rattle.std.proofs.Common.{◌≡◌, ◌+◌, ◌<◌, ◌++◌, ◌∷◌, [], cond, drop, get_or, length, arith, refl, sym, ◌∙◌, ap}
use Rattle.std.specs.Prelude.{◌==◌}
use Rattle.std.proofs.lemmas.List.{drop_more, drop_all}
use Rattle.resolvo_store_core.specs.Clauses.{candidate_literals}
use Rattle.resolvo_store_core.specs.Signed.{Signed, index_in}
use Rattle.resolvo_decide.specs.declared.candidate_counts.Occurrence.{Occurrence}
use Rattle.resolvo_decide.specs.CandidateCounts.{occurrences_at, occurrences_of}
use Rattle.resolvo_decide.proofs.CountLemmas.{occurrences_more, pushed_occurrence, no_more}
use Rattle.resolvo_decide.proofs.candidate_counts.list_occurrences.Goals as goal

pub loop-place-preserved : goal.loop-place-preserved
loop-place-preserved g c =
    let cs = c.args.candidates.now in
    let place = c.loop-place.place in
    let x = c.index-candidates-place.result in
    let l : Signed = x.literal in
    let low : place < length cs = omega (arith, c.loop-place-test.true, c.loop-place.auto.place-end) in
    let u : Occurrence = record { count = c.args.count; place = place } in
    let room = c.make_room.new.lists.items in
    let within : c.to_index-index.result < length room = omega (arith, c.in_ok-make_room.ensures.long) in
    let left : drop place cs ≡ get_or cs place x ∷ drop (place + 1) cs = drop_more cs place x low in
    let here : x ≡ get_or cs place x = c.index-candidates-place.is in
    let at : c.to_index-index.result ≡ index_in l = c.to_index-index.ensures.index ∙ ap (λ y. index_in y.literal) (sym here) in
    let ls : candidate_literals (drop place cs) ≡ l ∷ candidate_literals (drop (place + 1) cs) = ap candidate_literals left ∙ ap (λ y. y.literal ∷ candidate_literals (drop (place + 1) cs)) (sym here) in
    λ index. occurrences_more c.args.count place (candidate_literals (drop place cs)) l (candidate_literals (drop (place + 1) cs)) index (occurrences_at c.loop-place.occurrences.items index) _ _ ls
    (pushed_occurrence c.loop-place.occurrences.items room _ c.to_index-index.result c.index_mut.result.now c.push.new.self u c.in_ok-make_room.ensures.same within c.index_mut.ensures.value c.in_ok-push.ensures.items refl index
    ∙ ap (λ n. occurrences_at c.loop-place.occurrences.items index ++ cond (n == index) (u ∷ []) []) at) (c.loop-place.invariant index)

pub returns-clause-listed : goal.returns-clause-listed
returns-clause-listed g c =
    let cs = c.args.candidates.now in
    let place = c.loop-place.place in
    λ index. no_more (occurrences_at c.loop-place.occurrences.items index) ∙ ap (λ ls. occurrences_at c.loop-place.occurrences.items index ++ occurrences_of c.args.count place (candidate_literals ls) index) (sym (drop_all place cs (omega (arith, c.loop-place-test.false)))) ∙ c.loop-place.invariant index
