use Rattle.std.proofs.Common.{◌≡◌, List, length, ap, sym, subst, ◌∙◌, ◌++◌, ◌∷◌, [], true, false}
use Rattle.std.specs.Prelude.{is_some}
use Rattle.resolvo_catalogue_core.specs.Listed.{listed}
use Rattle.resolvo_report.specs.View.{step_of}
use Rattle.resolvo_checker.specs.Kept.{Kept, Ready}
use Rattle.resolvo_checker.specs.StepClauses.{clause_of}
use Rattle.resolvo_checker.specs.Proof.{rests_on_named, follows}
use Rattle.resolvo_checker.specs.Keys.{Numbered}
use Rattle.resolvo_checker.specs.CheckStep.{names_catalogue, names_request, clause_or_none, CheckerInvariant}
use Rattle.resolvo_checker.proofs.CheckLemmas.{numbers_some, numbers_keep, numbers_are, invariant_kept, invariant_push, same_length, all_three}
use Rattle.resolvo_checker.proofs.check_step.add.Goals as goal

pub returns-then-not-fine-clause-answer : goal.returns-then-not-fine-clause-answer
returns-then-not-fine-clause-answer c = λ earlier s.
    let cat = c.args.catalogue.now in
    let req = c.args.request.now.lines in
    let st = step_of c.args.step.now in
    let vs = listed cat in
    let rules = c.args.checker.now.rules in
    let there = numbers_some (clause_of cat req st) c.in_ok-there.there vs c.args.checker.now.numbers c.number_step.new.numbers c.number_step.new.out.items c.in_ok-there.ensures c.if-not-there.false in
    let keeps = numbers_keep (clause_of cat req st) c.in_ok-there.there vs c.args.checker.now.numbers c.number_step.new.numbers c.number_step.new.out.items c.in_ok-there.ensures c.if-not-there.false in
    let ids = numbers_are (clause_of cat req st) c.in_ok-there.there vs c.args.checker.now.numbers c.number_step.new.numbers c.number_step.new.out.items c.in_ok-there.ensures c.if-not-there.false in
    let represents = subst (λ ps. CheckerInvariant cat req c.number_step.new.numbers c.args.clauses.now.kept ps rules earlier) (sym c.deref.ensures.value) (invariant_kept cat req c.args.checker.now.numbers c.number_step.new.numbers c.args.clauses.now.kept c.args.checker.now.places.items rules earlier keeps s) in
    let numbered = subst (Numbered vs c.number_step.new.numbers (clause_or_none cat req st)) (sym c.deref-2.ensures.value) ids in
    all_three (is_some (clause_of cat req st)) (rests_on_named (names_catalogue c.args.scope.now) (names_request c.args.scope.now) st) (follows cat req earlier st) false there (sym c.is_named.ensures ∙ c.if-not-is_named.false)
    (sym c.if-not-fine.true ∙ c.in_ok-fine.ensures.answer req c.number_step.new.numbers rules earlier c.count-count.result c.count-count.ensures c.versions-versions.ensures.distinct there represents numbered c.requires.ready)

pub returns-clause-answer : goal.returns-clause-answer
returns-clause-answer c = λ earlier s.
    let cat = c.args.catalogue.now in
    let req = c.args.request.now.lines in
    let st = step_of c.args.step.now in
    let vs = listed cat in
    let rules = c.args.checker.now.rules in
    let there = numbers_some (clause_of cat req st) c.in_ok-there.there vs c.args.checker.now.numbers c.number_step.new.numbers c.number_step.new.out.items c.in_ok-there.ensures c.if-not-there.false in
    let keeps = numbers_keep (clause_of cat req st) c.in_ok-there.there vs c.args.checker.now.numbers c.number_step.new.numbers c.number_step.new.out.items c.in_ok-there.ensures c.if-not-there.false in
    let ids = numbers_are (clause_of cat req st) c.in_ok-there.there vs c.args.checker.now.numbers c.number_step.new.numbers c.number_step.new.out.items c.in_ok-there.ensures c.if-not-there.false in
    let represents = subst (λ ps. CheckerInvariant cat req c.number_step.new.numbers c.args.clauses.now.kept ps rules earlier) (sym c.deref.ensures.value) (invariant_kept cat req c.args.checker.now.numbers c.number_step.new.numbers c.args.clauses.now.kept c.args.checker.now.places.items rules earlier keeps s) in
    let numbered = subst (Numbered vs c.number_step.new.numbers (clause_or_none cat req st)) (sym c.deref-2.ensures.value) ids in
    all_three (is_some (clause_of cat req st)) (rests_on_named (names_catalogue c.args.scope.now) (names_request c.args.scope.now) st) (follows cat req earlier st) true there (sym c.is_named.ensures ∙ c.if-not-is_named.false)
    (sym c.if-not-fine.false ∙ c.in_ok-fine.ensures.answer req c.number_step.new.numbers rules earlier c.count-count.result c.count-count.ensures c.versions-versions.ensures.distinct there represents numbered c.requires.ready)

pub returns-clause-represents : goal.returns-clause-represents
returns-clause-represents c = λ _ earlier s.
    let cat = c.args.catalogue.now in
    let req = c.args.request.now.lines in
    let st = step_of c.args.step.now in
    let vs = listed cat in
    let rules = c.args.checker.now.rules in
    let there = numbers_some (clause_of cat req st) c.in_ok-there.there vs c.args.checker.now.numbers c.number_step.new.numbers c.number_step.new.out.items c.in_ok-there.ensures c.if-not-there.false in
    let keeps = numbers_keep (clause_of cat req st) c.in_ok-there.there vs c.args.checker.now.numbers c.number_step.new.numbers c.number_step.new.out.items c.in_ok-there.ensures c.if-not-there.false in
    let ids = numbers_are (clause_of cat req st) c.in_ok-there.there vs c.args.checker.now.numbers c.number_step.new.numbers c.number_step.new.out.items c.in_ok-there.ensures c.if-not-there.false in
    let represents = subst (λ ps. CheckerInvariant cat req c.number_step.new.numbers c.args.clauses.now.kept ps rules earlier) (sym c.deref.ensures.value) (invariant_kept cat req c.args.checker.now.numbers c.number_step.new.numbers c.args.clauses.now.kept c.args.checker.now.places.items rules earlier keeps s) in
    let numbered = subst (Numbered vs c.number_step.new.numbers (clause_or_none cat req st)) (sym c.deref-2.ensures.value) ids in
    let last : c.len-place.result ≡ length earlier = c.len-place.ensures ∙ (ap (λ (ks : List Kept). length ks) c.follows.ensures.kept ∙ same_length cat req c.args.checker.now.numbers earlier c.args.clauses.now.kept s.kept) in
    let fine = sym c.if-not-fine.false ∙ c.in_ok-fine.ensures.answer req c.number_step.new.numbers rules earlier c.count-count.result c.count-count.ensures c.versions-versions.ensures.distinct there represents numbered c.requires.ready in
    subst (λ cs. CheckerInvariant cat req c.number_step.new.numbers cs c.record_place.new.places.items c.record.new.self (earlier ++ st ∷ []))
    (sym (c.in_ok-push.ensures.ok ∙ (ap (λ ks. ks ++ Ready c.deref-3.result.now ∷ []) c.follows.ensures.kept ∙ ap (λ is. c.args.clauses.now.kept ++ Ready is ∷ []) c.deref-3.ensures.value)))
    (invariant_push cat req c.args.checker.now.numbers c.number_step.new.numbers c.args.clauses.now.kept c.args.checker.now.places.items c.record_place.new.places.items rules c.record.new.self (Ready c.number_step.new.out.items) earlier st s keeps ids
    (c.record_place.ensures.given req earlier c.versions-versions.ensures.distinct there (sym fine) s.placed)
    (c.in_ok-record.ensures cat req earlier last there s.recorded))
