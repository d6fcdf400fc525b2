use Rattle.std.proofs.Common.{◌≡◌, ◌∙◌, Option, Some, drop, arith, sym, ap}
use Rattle.std.specs.List.{find}
use Rattle.resolvo_store_core.specs.Lists.{candidates_in}
use Rattle.resolvo_store_core.specs.Signed.{value_under, is_open}
use Rattle.resolvo_store_core.specs.Values.{value_at}
use Rattle.resolvo_store_core.specs.declared.pick.NextDecision.{NextDecision}
use Rattle.resolvo_decide.proofs.FitLemmas.{nothing_met, nothing_left}
use Rattle.resolvo_decide.proofs.OfferLemmas.{count_true, count_none, count_open, count_first, offered_none, offered_first}
use Rattle.resolvo_decide.proofs.offer.counted_offer.Goals.{then-count-gt0-via-then-count-gt0, then-count-gt0-via-else-count-gt0+then-not-is_needed}
use Rattle.resolvo_decide.proofs.offer.counted_offer.Goals as goal

abbrev some_next : NextDecision → Option NextDecision
some_next next = Some next

pub returns-then-count-gt0 : goal.returns-then-count-gt0
returns-then-count-gt0 g c =
    let lists = c.args.lists.now in
    let values = value_at c.args.values.now in
    let score = g.C.ScoreMap.score_of c.args.scores.now in
    let q = c.args.need.now in
    elim c.then-count-gt0.branch [
      | then-count-gt0-via-then-count-gt0 w ↦ sym (nothing_met lists values score q (count_true values c.args.count (candidates_in lists q.requirement) c.requires w.if-count-gt0.true))
      | then-count-gt0-via-else-count-gt0+then-not-is_needed w ↦ sym (offered_none lists values score q (sym w.is_needed.ensures ∙ w.if-not-is_needed.true))
    ]

pub returns-in_err-candidate : goal.returns-in_err-candidate
returns-in_err-candidate g c =
    let lists = c.args.lists.now in
    let values = value_at c.args.values.now in
    let score = g.C.ScoreMap.score_of c.args.scores.now in
    let q = c.args.need.now in
    let cs = candidates_in lists q.requirement in
    let t = c.args.count in
    let found = ap (λ xs. find (λ d. is_open (value_under values d.literal)) (drop t.passed xs)) (sym c.in_ok-candidates.ensures.1) ∙ ap (find (λ d. is_open (value_under values d.literal))) (sym c.behind_passed.ensures) ∙ sym c.in_err-candidate.ensures in
    c.from_residual-in_err-candidate.ensures ∙ sym (nothing_left lists values score q (count_first values t cs c.requires ∙ found))

pub returns : goal.returns
returns g c =
    let lists = c.args.lists.now in
    let values = value_at c.args.values.now in
    let score = g.C.ScoreMap.score_of c.args.scores.now in
    let q = c.args.need.now in
    let cs = candidates_in lists q.requirement in
    let t = c.args.count in
    let x = c.in_ok-candidate.candidate.now in
    let found = ap (λ xs. find (λ d. is_open (value_under values d.literal)) (drop t.passed xs)) (sym c.in_ok-candidates.ensures.1) ∙ ap (find (λ d. is_open (value_under values d.literal))) (sym c.behind_passed.ensures) ∙ sym c.in_ok-candidate.ensures in
    let none : t.trues ≡ 0 = omega (arith, c.if-count-gt0.false) in
    let offered = offered_first lists values score q (sym c.is_needed.ensures ∙ c.if-not-is_needed.false) (count_none values t cs c.requires none) x (count_first values t cs c.requires ∙ found) in
    ap (λ v. some_next (record { candidate = v; required_by = q.parent; clause_id = q.clause; package_activity = c.get.result; candidate_count = c.undecided.result })) c.variable.ensures.variable
    ∙ ap (λ n. some_next (record { candidate = x.literal.variable; required_by = q.parent; clause_id = q.clause; package_activity = n; candidate_count = c.undecided.result })) c.get.ensures
    ∙ ap (λ n. some_next (record { candidate = x.literal.variable; required_by = q.parent; clause_id = q.clause; package_activity = score x.package; candidate_count = n })) (c.undecided.ensures ∙ count_open values t cs c.requires)
    ∙ sym offered
