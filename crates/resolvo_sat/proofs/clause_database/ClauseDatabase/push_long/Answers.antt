use Rattle.std.proofs.Common.{◌≡◌, [], take, length, refl, ap, arith, rules}
use Rattle.std.specs.Prelude.{IsErrOf}
use Rattle.resolvo_pool_core.specs.declared.want.Want.TheVariants.{Ids}
use Rattle.resolvo_sat.specs.Clauses.{sat_clause}
use Rattle.resolvo_sat.specs.Shared.{shared_of, clauses_with}
use Rattle.resolvo_sat.proofs.SharedLemmas.{shared_count, whole_kept, whole_pushed, sharing_kept, sharing_pushed}
use Rattle.resolvo_sat.proofs.clause_database.ClauseDatabase.push_long.Goals as goal

pub returns-in_err-shared-clause-ids : goal.returns-in_err-shared-clause-ids
returns-in_err-shared-clause-ids c = λ h.
    let inside = c.self.inside in
    let view : clauses_with inside.own inside.sharing.items inside.sources.items ≡ c.args.self.now = c.self.view_is in
    let all : IsErrOf c.from_residual.result Ids → length inside.own ≡ 4294967295 = search rules in
    omega (arith, all h, shared_count (shared_of inside.own inside.sharing.items inside.sources.items) 0 inside.own, ap length view)

pub invariant_of-self-in-Some : goal.invariant_of-self-in-Some
invariant_of-self-in-Some c =
    let inside = c.self.inside in
    sharing_kept inside.own c.append_sharing.new.own (sat_clause (take 1 c.args.literals.now) []) inside.sharing.items inside.sources.items c.self.invariant c.in_ok-shared.ensures.own c.append_sharing.new.sharing.items c.append_sharing.new.sources.items c.in-Some.source
    c.in_ok-shared.ensures.sharing c.in_ok-shared.ensures.sources c.in-Some.ensures.0

pub returns-in-Some-clause-id : goal.returns-in-Some-clause-id
returns-in-Some-clause-id c =
    let inside = c.self.inside in
    let view : clauses_with inside.own inside.sharing.items inside.sources.items ≡ c.args.self.now = c.self.view_is in
    omega (arith, c.in_ok-shared.ensures.id, shared_count (shared_of inside.own inside.sharing.items inside.sources.items) 0 inside.own, ap length view)

pub returns-in-Some-clause-put : goal.returns-in-Some-clause-put
returns-in-Some-clause-put c =
    let inside = c.self.inside in
    rw (← c.self.view_is)
    (sharing_pushed inside.own c.append_sharing.new.own (sat_clause (take 1 c.args.literals.now) []) inside.sharing.items inside.sources.items c.self.invariant c.in_ok-shared.ensures.own c.append_sharing.new.sharing.items c.append_sharing.new.sources.items c.in-Some.source
    c.in_ok-shared.ensures.sharing c.in_ok-shared.ensures.sources c.in-Some.ensures.0 c.args.literals.now refl c.requires.some c.in-Some.ensures.1)

pub returns-in_err-clause-clause-ids : goal.returns-in_err-clause-clause-ids
returns-in_err-clause-clause-ids c = λ h.
    let inside = c.self.inside in
    let view : clauses_with inside.own inside.sharing.items inside.sources.items ≡ c.args.self.now = c.self.view_is in
    let all : IsErrOf c.from_residual-in_err-clause.result Ids → length inside.own ≡ 4294967295 = search rules in
    omega (arith, all h, shared_count (shared_of inside.own inside.sharing.items inside.sources.items) 0 inside.own, ap length view)

pub invariant_of-self-2 : goal.invariant_of-self-2
invariant_of-self-2 c =
    let inside = c.self.inside in
    whole_kept inside.own c.push.new.self (sat_clause c.args.literals.now []) inside.sharing.items inside.sources.items c.self.invariant c.in_ok-clause.ensures.put

pub returns-clause-id : goal.returns-clause-id
returns-clause-id c =
    let inside = c.self.inside in
    let view : clauses_with inside.own inside.sharing.items inside.sources.items ≡ c.args.self.now = c.self.view_is in
    omega (arith, c.in_ok-clause.ensures.id, shared_count (shared_of inside.own inside.sharing.items inside.sources.items) 0 inside.own, ap length view)

pub returns-clause-put : goal.returns-clause-put
returns-clause-put c =
    let inside = c.self.inside in
    rw (← c.self.view_is)
    (whole_pushed inside.own c.push.new.self (sat_clause c.args.literals.now []) inside.sharing.items inside.sources.items c.self.invariant c.in_ok-clause.ensures.put)
