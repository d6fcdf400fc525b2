use Rattle.std.proofs.Common.{Option, ◌∙◌, subst, rules}
use Rattle.resolvo_sat.specs.declared.analyze.FinalConflict.{FinalConflict}
use Rattle.resolvo_encoder.proofs.Bases.{turn_then}
use Rattle.resolvo_turn.specs.Encoder.{StaysInOrder}
use Rattle.resolvo_turn.specs.Turn.{IsDecisionOf}
use Rattle.resolvo_turn.proofs.AddLemmas.{all_then, needs_parents, needs_then}
use Rattle.resolvo_turn.proofs.EndLemmas.{chosen_then, finds_goes, finds_then, round_complete}
use Rattle.resolvo_turn.proofs.TakenLemmas.{taken_kept}
use Rattle.resolvo_turn.specs.LacksIds.{StopsInOrder}
use Rattle.resolvo_turn.proofs.turn.run_round.Goals as goal

-- ---- where the turn is refused

pub returns-in-Some-clause-same : goal.returns-in-Some-clause-same
returns-in-Some-clause-same g c = c.in_ok-decided.ensures.same

pub returns-in-Some-clause-stays : goal.returns-in-Some-clause-stays
returns-in-Some-clause-stays g c = c.in_ok-decided.ensures.stays

pub returns-in-Some-clause-adds : goal.returns-in-Some-clause-adds
returns-in-Some-clause-adds g c = c.in_ok-decided.ensures.all.adds

pub returns-in-Some-clause-turn : goal.returns-in-Some-clause-turn
returns-in-Some-clause-turn g c = c.in_ok-decided.ensures.turn

pub returns-in-Some-clause-built : goal.returns-in-Some-clause-built
returns-in-Some-clause-built g c = c.in_ok-decided.ensures.built

pub returns-in-Some-clause-round : goal.returns-in-Some-clause-round
returns-in-Some-clause-round g c = subst (λ (o : Option FinalConflict). IsDecisionOf c.args.soft c.encode_and_decide.new.encoding o) c.in-Some.is c.in_ok-decided.ensures.decided

-- ---- where something new was found

pub returns-then-has_new-clause-same : goal.returns-then-has_new-clause-same
returns-then-has_new-clause-same g c = c.in_ok-has_new.ensures.same ∙ c.in_ok-decided.ensures.same

pub returns-then-has_new-clause-stays : goal.returns-then-has_new-clause-stays
returns-then-has_new-clause-stays g c = λ root is e.
    let same = g.A.SolvableId.PartialEq.eq in
    let old = c.encode_and_decide.new.encoding in
    let new = c.scan_new.new.encoding in
    (subst (λ (a : g.row.A.Denot). StaysInOrder same g.A.PackageSource a old new) c.in_ok-decided.ensures.same c.in_ok-has_new.ensures.stays)
    root (c.in_ok-decided.ensures.stays root is e)

pub returns-then-has_new-clause-adds : goal.returns-then-has_new-clause-adds
returns-then-has_new-clause-adds g c =
    all_then c.args.encoding.now c.encode_and_decide.new.encoding c.scan_new.new.encoding c.in_ok-decided.ensures.all.adds (needs_parents c.encode_and_decide.new.encoding c.scan_new.new.encoding c.in_ok-has_new.ensures.adds)

pub returns-then-has_new-clause-turn : goal.returns-then-has_new-clause-turn
returns-then-has_new-clause-turn g c =
    turn_then c.args.soft c.args.encoding.now c.encode_and_decide.new.encoding c.scan_new.new.encoding c.in_ok-decided.ensures.turn (c.in_ok-has_new.ensures.adds.turn c.args.soft)

pub returns-then-has_new-clause-round : goal.returns-then-has_new-clause-round
returns-then-has_new-clause-round g c =
    finds_goes c.args.encoding.now c.encode_and_decide.new.encoding c.scan_new.new.encoding c.in_ok-decided.ensures.all c.in_ok-has_new.ensures.adds (c.in_ok-has_new.ensures.more c.if-has_new.true)

pub returns-then-has_new-clause-built : goal.returns-then-has_new-clause-built
returns-then-has_new-clause-built g c = c.in_ok-has_new.ensures.built

pub scan_all-requires-clause-built : goal.scan_all-requires-clause-built
scan_all-requires-clause-built g c = c.in_ok-has_new.ensures.built

pub scan_all-requires-clause-taken : goal.scan_all-requires-clause-taken
scan_all-requires-clause-taken g c =
    let b = c.encode_and_decide.new.encoding in
    let d = c.scan_new.new.encoding in
    let adds = c.in_ok-has_new.ensures.adds in
    taken_kept c.args.soft c.args.encoding.now d c.requires.built c.in_ok-has_new.ensures.built c.requires.turn (turn_then c.args.soft c.args.encoding.now b d c.in_ok-decided.ensures.turn (adds.turn c.args.soft))
    (all_then c.args.encoding.now b d c.in_ok-decided.ensures.all.adds (needs_parents b d adds)) c.requires.taken

-- ---- where something more was found

pub returns-then-has_more-clause-same : goal.returns-then-has_more-clause-same
returns-then-has_more-clause-same g c = c.in_ok-has_more.ensures.same ∙ (c.in_ok-has_new.ensures.same ∙ c.in_ok-decided.ensures.same)

pub returns-then-has_more-clause-stays : goal.returns-then-has_more-clause-stays
returns-then-has_more-clause-stays g c = λ root is e.
    let same = g.A.SolvableId.PartialEq.eq in
    let first = c.encode_and_decide.new.encoding in
    let old = c.scan_new.new.encoding in
    let new = c.scan_all.new.encoding in
    let one = subst (λ (a : g.row.A.Denot). StaysInOrder same g.A.PackageSource a first old) c.in_ok-decided.ensures.same c.in_ok-has_new.ensures.stays in
    let two = subst (λ (a : g.row.A.Denot). StaysInOrder same g.A.PackageSource a old new) (c.in_ok-has_new.ensures.same ∙ c.in_ok-decided.ensures.same) c.in_ok-has_more.ensures.stays in
    two root (one root (c.in_ok-decided.ensures.stays root is e))

pub returns-then-has_more-clause-adds : goal.returns-then-has_more-clause-adds
returns-then-has_more-clause-adds g c =
    all_then c.args.encoding.now c.encode_and_decide.new.encoding c.scan_all.new.encoding c.in_ok-decided.ensures.all.adds
    (needs_parents c.encode_and_decide.new.encoding c.scan_all.new.encoding (needs_then c.encode_and_decide.new.encoding c.scan_new.new.encoding c.scan_all.new.encoding c.in_ok-has_new.ensures.adds c.in_ok-has_more.ensures.adds))

pub returns-then-has_more-clause-turn : goal.returns-then-has_more-clause-turn
returns-then-has_more-clause-turn g c =
    turn_then c.args.soft c.args.encoding.now c.encode_and_decide.new.encoding c.scan_all.new.encoding c.in_ok-decided.ensures.turn
    ((needs_then c.encode_and_decide.new.encoding c.scan_new.new.encoding c.scan_all.new.encoding c.in_ok-has_new.ensures.adds c.in_ok-has_more.ensures.adds).turn c.args.soft)

pub returns-then-has_more-clause-round : goal.returns-then-has_more-clause-round
returns-then-has_more-clause-round g c =
    let b = c.encode_and_decide.new.encoding in
    let old = c.scan_new.new.encoding in
    let new = c.scan_all.new.encoding in
    finds_goes c.args.encoding.now b new c.in_ok-decided.ensures.all (needs_then b old new c.in_ok-has_new.ensures.adds c.in_ok-has_more.ensures.adds) (finds_then b old new c.in_ok-has_new.ensures.adds (c.in_ok-has_more.ensures.more c.if-has_more.true))

pub returns-then-has_more-clause-built : goal.returns-then-has_more-clause-built
returns-then-has_more-clause-built g c = c.in_ok-has_more.ensures.built

-- ---- where nothing is left

pub returns-else-has_more-clause-same : goal.returns-else-has_more-clause-same
returns-else-has_more-clause-same g c = c.in_ok-has_more.ensures.same ∙ (c.in_ok-has_new.ensures.same ∙ c.in_ok-decided.ensures.same)

pub returns-else-has_more-clause-stays : goal.returns-else-has_more-clause-stays
returns-else-has_more-clause-stays g c = λ root is e.
    let same = g.A.SolvableId.PartialEq.eq in
    let first = c.encode_and_decide.new.encoding in
    let old = c.scan_new.new.encoding in
    let new = c.scan_all.new.encoding in
    let one = subst (λ (a : g.row.A.Denot). StaysInOrder same g.A.PackageSource a first old) c.in_ok-decided.ensures.same c.in_ok-has_new.ensures.stays in
    let two = subst (λ (a : g.row.A.Denot). StaysInOrder same g.A.PackageSource a old new) (c.in_ok-has_new.ensures.same ∙ c.in_ok-decided.ensures.same) c.in_ok-has_more.ensures.stays in
    two root (one root (c.in_ok-decided.ensures.stays root is e))

pub returns-else-has_more-clause-adds : goal.returns-else-has_more-clause-adds
returns-else-has_more-clause-adds g c =
    all_then c.args.encoding.now c.encode_and_decide.new.encoding c.scan_all.new.encoding c.in_ok-decided.ensures.all.adds
    (needs_parents c.encode_and_decide.new.encoding c.scan_all.new.encoding (needs_then c.encode_and_decide.new.encoding c.scan_new.new.encoding c.scan_all.new.encoding c.in_ok-has_new.ensures.adds c.in_ok-has_more.ensures.adds))

pub returns-else-has_more-clause-turn : goal.returns-else-has_more-clause-turn
returns-else-has_more-clause-turn g c =
    turn_then c.args.soft c.args.encoding.now c.encode_and_decide.new.encoding c.scan_all.new.encoding c.in_ok-decided.ensures.turn
    ((needs_then c.encode_and_decide.new.encoding c.scan_new.new.encoding c.scan_all.new.encoding c.in_ok-has_new.ensures.adds c.in_ok-has_more.ensures.adds).turn c.args.soft)

pub returns-else-has_more-clause-round : goal.returns-else-has_more-clause-round
returns-else-has_more-clause-round g c =
    let b = c.encode_and_decide.new.encoding in
    let found = c.in_ok-has_more.ensures.none c.if-has_more.false in
    round_complete g.A.SolvableId.PartialEq.eq c.args.encoding.now b c.scan_all.new.encoding c.requires.rooted c.in_ok-decided.ensures.all (chosen_then b c.scan_new.new.encoding c.scan_all.new.encoding (c.in_ok-has_new.ensures.none c.if-has_new.false) found.chosen) c.args.soft c.in_ok-decided.ensures.placed
    (subst (λ (o : Option FinalConflict). IsDecisionOf c.args.soft b o) c.in_default.is c.in_ok-decided.ensures.decided) found.none found.spent

pub returns-else-has_more-clause-built : goal.returns-else-has_more-clause-built
returns-else-has_more-clause-built g c = c.in_ok-has_more.ensures.built

-- ---- where ids lack

pub returns-in_err-has_new-clause-ids : goal.returns-in_err-has_new-clause-ids
returns-in_err-has_new-clause-ids g c = λ is root are e.
    let stops = subst (λ (a : g.row.A.Denot). StopsInOrder g.A.SolvableId.PartialEq.eq g.A.PackageSource a c.encode_and_decide.new.encoding c.scan_new.new.encoding) c.in_ok-decided.ensures.same (search (rules, is)) in
    stops root (c.in_ok-decided.ensures.stays root are e)

pub returns-in_err-has_more-clause-ids : goal.returns-in_err-has_more-clause-ids
returns-in_err-has_more-clause-ids g c = λ is root are e.
    let same = g.A.SolvableId.PartialEq.eq in
    let first = c.encode_and_decide.new.encoding in
    let old = c.scan_new.new.encoding in
    let one = subst (λ (a : g.row.A.Denot). StaysInOrder same g.A.PackageSource a first old) c.in_ok-decided.ensures.same c.in_ok-has_new.ensures.stays in
    let stops = subst (λ (a : g.row.A.Denot). StopsInOrder same g.A.PackageSource a old c.scan_all.new.encoding) (c.in_ok-has_new.ensures.same ∙ c.in_ok-decided.ensures.same) (search (rules, is)) in
    stops root (one root (c.in_ok-decided.ensures.stays root are e))
