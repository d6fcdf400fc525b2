use Rattle.std.proofs.Common.{◌≡◌, ◌∙◌, ◌<◌, ◌∷◌, ◌++◌, [], ℕ, List, OnOk, length, refl, sym, ap, subst, arith, eqb-true}
use Rattle.std.proofs.lemmas.List.{nil_from_length}
use Rattle.resolvo_pool_core.specs.declared.id.ClauseId.{ClauseId}
use Rattle.resolvo_sat.specs.Clauses.{sat_clause, causes_of, clauses_in}
use Rattle.resolvo_sat.proofs.ArenaLemmas.{clauses_count, caused_ends, caused_pushed}
use Rattle.resolvo_sat.proofs.clause_arena.ClauseArena.push.Goals as goal

pub returns-then-is_empty-clause-put : goal.returns-then-is_empty-clause-put
returns-then-is_empty-clause-put c =
    subst (λ (cs : List ClauseId). OnOk c.push_rule.result (c.push_rule.new.self ≡ c.args.self.now ++ sat_clause c.args.literals.now cs ∷ [])) (sym (nil_from_length c.args.causes.now (eqb-true _ _ (sym c.is_empty.ensures ∙ c.if-is_empty.true))))
    c.push_rule.ensures.put

pub append_caused-requires : goal.append_caused-requires
append_caused-requires c = let inside = c.self.inside in omega (arith, c.len.ensures, inside.ends.ok.0, c.in_ok-number.ensures.index.0, c.in_ok-number.ensures.index.1)

pub invariant_of-self-2 : goal.invariant_of-self-2
invariant_of-self-2 c =
    let inside = c.self.inside in
    let few : length inside.ends.items < 4294967295 = omega (arith, c.len.ensures, inside.ends.ok.0, c.in_ok-number.ensures.index.0, c.in_ok-number.ensures.index.1) in
    caused_ends c.args.literals.now inside.literals.items c.append_caused.new.literals.items inside.causes.items inside.ends.items c.append_caused.new.ends.items inside.caused.items inside.cause_ends.items c.self.invariant
    c.in_ok-append_caused.ensures.literals c.in_ok-append_caused.ensures.ends c.args.causes.now c.append_caused.new.causes.items c.append_caused.new.caused.items c.append_caused.new.cause_ends.items c.in_ok-append_caused.ensures.causes
    c.in_ok-append_caused.ensures.caused c.in_ok-append_caused.ensures.cause_ends few

pub returns-clause-put : goal.returns-clause-put
returns-clause-put c =
    let inside = c.self.inside in
    rw (← c.self.view_is)
    (caused_pushed c.args.literals.now inside.literals.items c.append_caused.new.literals.items inside.causes.items inside.ends.items c.append_caused.new.ends.items inside.caused.items inside.cause_ends.items c.self.invariant
    c.in_ok-append_caused.ensures.literals c.in_ok-append_caused.ensures.ends c.args.causes.now c.append_caused.new.causes.items c.append_caused.new.caused.items c.append_caused.new.cause_ends.items c.in_ok-append_caused.ensures.causes
    c.in_ok-append_caused.ensures.caused c.in_ok-append_caused.ensures.cause_ends)

pub returns-clause-id : goal.returns-clause-id
returns-clause-id c =
    let inside = c.self.inside in
    let f : ℕ → List ClauseId = causes_of inside.causes.items 0 inside.caused.items inside.cause_ends.items in
    let view : clauses_in inside.literals.items inside.ends.items inside.causes.items inside.caused.items inside.cause_ends.items ≡ c.args.self.now = c.self.view_is in
    let count = clauses_count f inside.literals.items 0 0 inside.ends.items in
    omega (arith, c.len.ensures, inside.ends.ok.0, c.in_ok-number.ensures.index.0, count, ap length view)

pub returns-in_err-number-clause-ids : goal.returns-in_err-number-clause-ids
returns-in_err-number-clause-ids c = λ h.
    let inside = c.self.inside in
    let f : ℕ → List ClauseId = causes_of inside.causes.items 0 inside.caused.items inside.cause_ends.items in
    let view : clauses_in inside.literals.items inside.ends.items inside.causes.items inside.caused.items inside.cause_ends.items ≡ c.args.self.now = c.self.view_is in
    let count = clauses_count f inside.literals.items 0 0 inside.ends.items in
    let all = c.in_err-number.ensures.ids.0 refl in
    omega (arith, all, c.self.invariant.few, c.len.ensures, inside.ends.ok.0, count, ap length view)
