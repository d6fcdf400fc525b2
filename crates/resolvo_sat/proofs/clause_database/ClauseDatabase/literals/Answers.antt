use Rattle.std.proofs.Common.{◌≡◌, ◌∙◌, ℕ, List, length, sym, ap, arith}
use Rattle.resolvo_store_core.specs.Signed.{Signed}
use Rattle.resolvo_sat.specs.Known.{clause_at}
use Rattle.resolvo_sat.specs.State.{lists}
use Rattle.resolvo_sat.specs.Clauses.{SatClause}
use Rattle.resolvo_sat.specs.Shared.{shared_of, with_shared, clauses_with}
use Rattle.resolvo_sat.proofs.SharedLemmas.{shared_count, literals_shared, alone, not_alone}
use Rattle.resolvo_sat.proofs.clause_database.ClauseDatabase.literals.Goals as goal

pub literals-own-requires : goal.literals-own-requires
literals-own-requires c =
    let inside = c.self.inside in
    let view : clauses_with inside.own inside.sharing.items inside.sources.items ≡ c.args.self.now = c.self.view_is in
    omega (arith, c.requires, shared_count (shared_of inside.own inside.sharing.items inside.sources.items) 0 inside.own, ap length view)

pub shared-more-requires-clause-in_range : goal.shared-more-requires-clause-in_range
shared-more-requires-clause-in_range c =
    let inside = c.self.inside in
    let view : clauses_with inside.own inside.sharing.items inside.sources.items ≡ c.args.self.now = c.self.view_is in
    omega (arith, c.requires, shared_count (shared_of inside.own inside.sharing.items inside.sources.items) 0 inside.own, ap length view)

pub returns-then-count-eq1 : goal.returns-then-count-eq1
returns-then-count-eq1 c =
    let inside = c.self.inside in
    let n = c.args.number in
    let f : ℕ → List Signed = shared_of inside.own inside.sharing.items inside.sources.items in
    let view : clauses_with inside.own inside.sharing.items inside.sources.items ≡ c.args.self.now = c.self.view_is in
    let ls = c.literals-own.result.now in
    let one : length ls ≡ 1 = omega (arith, c.if-count-eq1.true) in
    let more : c.shared-more.result.now ≡ f n =
    c.shared-more.ensures ∙ (ap (λ (ns : List ℕ). shared_of inside.own ns c.deref-then-count-eq1.result.now n) c.deref.ensures.value ∙ ap (λ (ss : List ℕ). shared_of inside.own inside.sharing.items ss n) c.deref-then-count-eq1.ensures.value) in
    alone ls c.shared-more.result.now one
    ∙ (ap (λ (ms : List Signed). with_shared ls ms) more
    ∙ (ap (λ (os : List Signed). with_shared os (f n)) c.literals-own.ensures
    ∙ (sym (literals_shared f 0 inside.own n n (omega arith))
    ∙ ap (λ (cs : List SatClause). clause_at (lists cs) n) view)))

pub returns : goal.returns
returns c =
    let inside = c.self.inside in
    let n = c.args.number in
    let f : ℕ → List Signed = shared_of inside.own inside.sharing.items inside.sources.items in
    let view : clauses_with inside.own inside.sharing.items inside.sources.items ≡ c.args.self.now = c.self.view_is in
    let ls = c.literals-own.result.now in
    not_alone ls (f n) (λ h. omega (arith, c.if-count-eq1.false, h))
    ∙ (ap (λ (os : List Signed). with_shared os (f n)) c.literals-own.ensures
    ∙ (sym (literals_shared f 0 inside.own n n (omega arith))
    ∙ ap (λ (cs : List SatClause). clause_at (lists cs) n) view))
