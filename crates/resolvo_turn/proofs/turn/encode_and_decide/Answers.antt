use Rattle.std.proofs.Common.{subst, rules}
use Rattle.resolvo_encoder.proofs.Bases.{turn_has, turn_then}
use Rattle.resolvo_turn.specs.Encoder.{StaysInOrder}
use Rattle.resolvo_turn.proofs.EndLemmas.{all_goes, whole_goes}
use Rattle.resolvo_turn.specs.LacksIds.{StopsInOrder}
use Rattle.resolvo_turn.proofs.turn.encode_and_decide.Goals as goal

pub returns-clause-stays : goal.returns-clause-stays
returns-clause-stays g c = λ root is e.
    (subst (λ (a : g.row.A.Denot). StaysInOrder g.A.SolvableId.PartialEq.eq g.A.PackageSource a c.encode.new.encoding c.choose_and_decide.new.encoding) c.in_ok-encode.ensures.same c.in_ok-refusal.ensures.stays)
    root (c.in_ok-encode.ensures.encoded root is e)

pub returns-clause-all : goal.returns-clause-all
returns-clause-all g c = all_goes c.args.encoding.now c.encode.new.encoding c.choose_and_decide.new.encoding c.in_ok-encode.ensures.all c.in_ok-refusal.ensures.goes_on

pub choose_and_decide-requires-clause-turn : goal.choose_and_decide-requires-clause-turn
choose_and_decide-requires-clause-turn g c = turn_has c.args.soft c.args.encoding.now c.encode.new.encoding c.requires.turn (c.in_ok-encode.ensures.turn c.args.soft)

pub returns-clause-turn : goal.returns-clause-turn
returns-clause-turn g c = turn_then c.args.soft c.args.encoding.now c.encode.new.encoding c.choose_and_decide.new.encoding (c.in_ok-encode.ensures.turn c.args.soft) c.in_ok-refusal.ensures.turn

pub returns-clause-placed : goal.returns-clause-placed
returns-clause-placed g c = whole_goes c.encode.new.encoding c.choose_and_decide.new.encoding c.in_ok-refusal.ensures.goes_on c.in_ok-encode.ensures.placed

pub returns-in_err-refusal-clause-ids : goal.returns-in_err-refusal-clause-ids
returns-in_err-refusal-clause-ids g c = λ is root are e.
    let stops = subst (λ (a : g.row.A.Denot). StopsInOrder g.A.SolvableId.PartialEq.eq g.A.PackageSource a c.encode.new.encoding c.choose_and_decide.new.encoding) c.in_ok-encode.ensures.same (search (rules, is)) in
    stops root (c.in_ok-encode.ensures.encoded root are e)
