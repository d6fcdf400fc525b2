use Rattle.std.proofs.Common.{◌≡◌, ◌<◌, ℕ, List, length, refl, ap, arith}
use Rattle.resolvo_pool_core.specs.declared.id.ClauseId.{ClauseId}
use Rattle.resolvo_sat.specs.Clauses.{causes_of, clauses_in}
use Rattle.resolvo_sat.proofs.ArenaLemmas.{clauses_count, rule_ends, rule_pushed}
use Rattle.resolvo_sat.proofs.clause_arena.ClauseArena.push_rule.Goals as goal

pub invariant_of-self-2 : goal.invariant_of-self-2
invariant_of-self-2 c =
    let inside = c.self.inside in
    let few : length inside.ends.items < 4294967295 = omega (arith, c.len.ensures, inside.ends.ok.0, c.in_ok-number.ensures.index.0, c.in_ok-number.ensures.index.1) in
    rule_ends c.args.literals.now inside.literals.items c.append.new.items.items inside.causes.items inside.ends.items c.append.new.ends.items inside.caused.items inside.cause_ends.items c.self.invariant
    c.in_ok-append.ensures.items c.in_ok-append.ensures.ends few

pub returns-clause-put : goal.returns-clause-put
returns-clause-put c =
    let inside = c.self.inside in
    rw (← c.self.view_is)
    (rule_pushed c.args.literals.now inside.literals.items c.append.new.items.items inside.causes.items inside.ends.items c.append.new.ends.items inside.caused.items inside.cause_ends.items c.self.invariant
    c.in_ok-append.ensures.items c.in_ok-append.ensures.ends)

pub returns-clause-id : goal.returns-clause-id
returns-clause-id c =
    let inside = c.self.inside in
    let f : ℕ → List ClauseId = causes_of inside.causes.items 0 inside.caused.items inside.cause_ends.items in
    let view : clauses_in inside.literals.items inside.ends.items inside.causes.items inside.caused.items inside.cause_ends.items ≡ c.args.self.now = c.self.view_is in
    let count = clauses_count f inside.literals.items 0 0 inside.ends.items in
    omega (arith, c.len.ensures, inside.ends.ok.0, c.in_ok-number.ensures.index.0, count, ap length view)

pub returns-in_err-number-clause-ids : goal.returns-in_err-number-clause-ids
returns-in_err-number-clause-ids c = λ h.
    let inside = c.self.inside in
    let f : ℕ → List ClauseId = causes_of inside.causes.items 0 inside.caused.items inside.cause_ends.items in
    let view : clauses_in inside.literals.items inside.ends.items inside.causes.items inside.caused.items inside.cause_ends.items ≡ c.args.self.now = c.self.view_is in
    let count = clauses_count f inside.literals.items 0 0 inside.ends.items in
    let all = c.in_err-number.ensures.ids.0 refl in
    omega (arith, all, c.self.invariant.few, c.len.ensures, inside.ends.ok.0, count, ap length view)
