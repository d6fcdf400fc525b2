use Rattle.std.proofs.Common.{◌≡◌, ◌≤◌, ◌+◌, ap, arith, rules}
use Rattle.resolvo_turn.specs.declared.tasks.Task.{Task}
use Rattle.resolvo_turn.proofs.TaskLemmas.{excluded_stays}
use Rattle.resolvo_turn.specs.LacksIds.{StopsAnyhow}
use Rattle.resolvo_turn.specs.Tasks.{bound, cost, work_left}
use Rattle.resolvo_turn.proofs.encode.ask_or_fire.Goals as goal

pub returns-in_ok-push_parents-in-Case-clause-excluded : goal.returns-in_ok-push_parents-in-Case-clause-excluded
returns-in_ok-push_parents-in-Case-clause-excluded g c = λ root e before. excluded_stays c.args.excluded.now.keys c.args.encoding.now c.fire_if_due.new.encoding c.in_ok-fire_if_due-in-Case.ensures.kept.grows before

pub returns-in_err-ask-in-Dependencies-clause-ids : goal.returns-in_err-ask-in-Dependencies-clause-ids
returns-in_err-ask-in-Dependencies-clause-ids g c = λ is root e.
    let stops : StopsAnyhow g.A.SolvableId.PartialEq.eq g.A.PackageSource c.args.answers.now c.ask.new.encoding = search (rules, is) in
    stops root

pub returns-in_ok-push-in-Dependencies-clause-bound : goal.returns-in_ok-push-in-Dependencies-clause-bound
unfolding cost
returns-in_ok-push-in-Dependencies-clause-bound g c = λ ends.
    let one : cost c.args.task ≡ 1 = ap (λ (t : Task _). cost t) c.in-Dependencies.is in
    let work : work_left c.push.new.self ≤ work_left c.args.tasks.now + 0 = c.in_ok-push-in-Dependencies.ensures.work in
    let queued : c.push.new.self.queued ≡ c.args.tasks.now.queued = c.in_ok-push-in-Dependencies.ensures.queued in
    omega arith

pub returns-in_ok-push_parents-in-Case-clause-bound : goal.returns-in_ok-push_parents-in-Case-clause-bound
unfolding cost
returns-in_ok-push_parents-in-Case-clause-bound g c = λ ends.
    let one : cost c.args.task ≡ 1 = ap (λ (t : Task _). cost t) c.in-Case.is in
    let fewer : bound c.push_parents.new.self ≤ bound c.args.tasks.now = c.in_ok-push_parents-in-Case.ensures.bound in
    omega arith

pub returns-in_ok-encode_case_matches-in-Matches-clause-bound : goal.returns-in_ok-encode_case_matches-in-Matches-clause-bound
unfolding cost
returns-in_ok-encode_case_matches-in-Matches-clause-bound g c = λ ends.
    let one : cost c.args.task ≡ 1 = ap (λ (t : Task _). cost t) c.in-Matches.is in
    omega arith

pub returns-in_ok-encode_case_matches-in-Matches-clause-excluded : goal.returns-in_ok-encode_case_matches-in-Matches-clause-excluded
returns-in_ok-encode_case_matches-in-Matches-clause-excluded g c = λ root e before. excluded_stays c.args.excluded.now.keys c.args.encoding.now c.encode_case_matches.new.encoding c.in_ok-encode_case_matches-in-Matches.ensures.kept.grows before

pub returns-in_err-encode_case_matches-in-Matches-clause-ids : goal.returns-in_err-encode_case_matches-in-Matches-clause-ids
returns-in_err-encode_case_matches-in-Matches-clause-ids g c = λ is root e.
    let stops : StopsAnyhow g.A.SolvableId.PartialEq.eq g.A.PackageSource c.args.answers.now c.encode_case_matches.new.encoding = search (rules, is) in
    stops root
