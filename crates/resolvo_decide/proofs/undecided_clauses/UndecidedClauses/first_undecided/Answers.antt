use Rattle.std.proofs.Common.{not, drop, sym, ◌∙◌, ap}
use Rattle.std.specs.List.{find}
use Rattle.resolvo_store_core.specs.Lists.{candidates_in}
use Rattle.resolvo_store_core.specs.Signed.{value_under, is_false, is_true}
use Rattle.resolvo_store_core.specs.Values.{value_at}
use Rattle.resolvo_decide.specs.CandidateCounts.{passed_by}
use Rattle.resolvo_decide.specs.Needs.{literals_in}
use Rattle.resolvo_decide.proofs.FitLemmas.{sound_met, possible_true, possible_open, possible_none, nothing_met, nothing_left}
use Rattle.resolvo_decide.proofs.OfferLemmas.{any_behind, counted_at, counted_met, counted_first}
use Rattle.resolvo_decide.proofs.undecided_clauses.UndecidedClauses.first_undecided.Goals as goal

pub returns-then-has_true-clause-state : goal.returns-then-has_true-clause-state
returns-then-has_true-clause-state g c =
    let lists = c.args.lists.now in
    let values = value_at c.args.values.now in
    let q = c.args.need.now in
    let cs = candidates_in lists q.requirement in
    let count = c.count-count.result in
    let counts = counted_at (literals_in lists) c.args.self.now c.args.position q values c.requires.values c.requires.kept_count count c.count-count.ensures in
    sound_met lists values c.args.self.now.seen.items c.requires.values q c.met.result c.met.ensures
    (counted_met values cs count counts (sym c.has_true.ensures ∙ c.if-has_true.true))

pub returns-then-has_true-clause-nothing : goal.returns-then-has_true-clause-nothing
returns-then-has_true-clause-nothing g c =
    let lists = c.args.lists.now in
    let values = value_at c.args.values.now in
    let q = c.args.need.now in
    let cs = candidates_in lists q.requirement in
    let count = c.count-count.result in
    let counts = counted_at (literals_in lists) c.args.self.now c.args.position q values c.requires.values c.requires.kept_count count c.count-count.ensures in
    λ score. nothing_met lists values score q (counted_met values cs count counts (sym c.has_true.ensures ∙ c.if-has_true.true))

pub returns-in-Some-first_possible-clause-state : goal.returns-in-Some-first_possible-clause-state
returns-in-Some-first_possible-clause-state g c =
    let lists = c.args.lists.now in
    let values = value_at c.args.values.now in
    let q = c.args.need.now in
    let cs = candidates_in lists q.requirement in
    let count = c.count-count.result in
    let counts = counted_at (literals_in lists) c.args.self.now c.args.position q values c.requires.values c.requires.kept_count count c.count-count.ensures in
    let found = ap (λ xs. find (λ d. not (is_false (value_under values d.literal))) (drop (passed_by count) xs)) (sym c.in-Some.ensures.1) ∙ ap (find (λ d. not (is_false (value_under values d.literal)))) (sym c.behind_passed.ensures) ∙ sym c.in-Some-first_possible.ensures in
    sound_met lists values c.args.self.now.seen.items c.requires.values q c.met-in-Some-first_possible.result c.met-in-Some-first_possible.ensures
    (any_behind (λ d. is_true (value_under values d.literal)) (passed_by count) cs (possible_true values (drop (passed_by count) cs) c.in-Some-first_possible.candidate.now found (sym c.is_true.ensures ∙ c.if-is_true.true)))

pub returns-in-Some-first_possible-clause-nothing : goal.returns-in-Some-first_possible-clause-nothing
returns-in-Some-first_possible-clause-nothing g c =
    let lists = c.args.lists.now in
    let values = value_at c.args.values.now in
    let q = c.args.need.now in
    let cs = candidates_in lists q.requirement in
    let count = c.count-count.result in
    let counts = counted_at (literals_in lists) c.args.self.now c.args.position q values c.requires.values c.requires.kept_count count c.count-count.ensures in
    let found = ap (λ xs. find (λ d. not (is_false (value_under values d.literal))) (drop (passed_by count) xs)) (sym c.in-Some.ensures.1) ∙ ap (find (λ d. not (is_false (value_under values d.literal)))) (sym c.behind_passed.ensures) ∙ sym c.in-Some-first_possible.ensures in
    λ score. nothing_met lists values score q (any_behind (λ d. is_true (value_under values d.literal)) (passed_by count) cs (possible_true values (drop (passed_by count) cs) c.in-Some-first_possible.candidate.now found (sym c.is_true.ensures ∙ c.if-is_true.true)))

pub returns-in-Some-2-clause-first : goal.returns-in-Some-2-clause-first
returns-in-Some-2-clause-first g c =
    let lists = c.args.lists.now in
    let values = value_at c.args.values.now in
    let q = c.args.need.now in
    let cs = candidates_in lists q.requirement in
    let count = c.count-count.result in
    let counts = counted_at (literals_in lists) c.args.self.now c.args.position q values c.requires.values c.requires.kept_count count c.count-count.ensures in
    let found = ap (λ xs. find (λ d. not (is_false (value_under values d.literal))) (drop (passed_by count) xs)) (sym c.in-Some.ensures.1) ∙ ap (find (λ d. not (is_false (value_under values d.literal)))) (sym c.behind_passed.ensures) ∙ sym c.in-Some-first_possible.ensures in
    counted_first values cs count counts ∙ possible_open values (drop (passed_by count) cs) c.in-Some-first_possible.candidate.now found (sym c.is_true.ensures ∙ c.if-is_true.false)

pub returns-in-None-clause-nothing : goal.returns-in-None-clause-nothing
returns-in-None-clause-nothing g c =
    let lists = c.args.lists.now in
    let values = value_at c.args.values.now in
    let q = c.args.need.now in
    let cs = candidates_in lists q.requirement in
    let count = c.count-count.result in
    let counts = counted_at (literals_in lists) c.args.self.now c.args.position q values c.requires.values c.requires.kept_count count c.count-count.ensures in
    let found = ap (λ xs. find (λ d. not (is_false (value_under values d.literal))) (drop (passed_by count) xs)) (sym c.in-Some.ensures.1) ∙ ap (find (λ d. not (is_false (value_under values d.literal)))) (sym c.behind_passed.ensures) ∙ sym c.in-None.ensures in
    λ score. nothing_left lists values score q (counted_first values cs count counts ∙ possible_none values (drop (passed_by count) cs) found)
