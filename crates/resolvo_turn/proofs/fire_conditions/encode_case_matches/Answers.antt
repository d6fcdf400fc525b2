use Rattle.std.proofs.Common.{subst, rules}
use Rattle.resolvo_turn.specs.Encoder.{StaysInOrder}
use Rattle.resolvo_turn.specs.LacksIds.{StopsAnyhow}
use Rattle.resolvo_turn.proofs.fire_conditions.encode_case_matches.Goals as goal

pub returns-clause-stays : goal.returns-clause-stays
returns-clause-stays g c =
    subst (λ (a : g.row.A.Denot). StaysInOrder g.A.SolvableId.PartialEq.eq g.A.PackageSource a c.args.encoding.now c.encode_deferred_matches.new.encoding) c.in_ok-names_many.ensures.same c.in_ok-encode_deferred_matches.ensures.stays

pub returns-in_err-encode_deferred_matches-clause-ids : goal.returns-in_err-encode_deferred_matches-clause-ids
returns-in_err-encode_deferred_matches-clause-ids g c = λ is root.
    let stops = subst (λ (a : g.row.A.Denot). StopsAnyhow g.A.SolvableId.PartialEq.eq g.A.PackageSource a c.encode_deferred_matches.new.encoding) c.in_ok-names_many.ensures.same (search (rules, is)) in
    stops root
