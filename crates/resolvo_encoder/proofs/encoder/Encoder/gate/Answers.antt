use Rattle.std.proofs.Common.{None, refl, sym, ◌∙◌, ap, rules}
use Rattle.resolvo_sat.specs.State.{count_of}
use Rattle.std.specs.Prelude.{option_copied}
use Rattle.resolvo_sat.specs.RuleClauses.{IsExact, Rule}
use Rattle.resolvo_state.specs.declared.atom.ProofAtom.TheVariants.{Gate}
use Rattle.resolvo_state.specs.Kinds.{Kind}
use Rattle.resolvo_encoder.specs.declared.encoder.Encoder.{Encoder}
use Rattle.resolvo_encoder.specs.Steps.{SameButCoding, LacksNumberFor}
use Rattle.resolvo_state.proofs.Growth.{represents_grow, represents_in_range}
use Rattle.resolvo_encoder.proofs.NeedLemmas.{need_keeps, shared_ready, gives_keeps, gate_recorded}
use Rattle.resolvo_encoder.proofs.BuildLemmas.{built_gives, built_encodes, built_gate, built_in_range, none_in_range}
use Rattle.resolvo_encoder.proofs.encoder.Encoder.gate.Goals as goal

pub encode_need-requires-clause-in_range : goal.encode_need-requires-clause-in_range
encode_need-requires-clause-in_range g c =
    let middle : Encoder _ _ = record c.args.self.now { coding = c.variable.new.self } in
    let gives = c.in_ok-gate.ensures.given in
    built_in_range middle c.in_ok-gate.gate None c.args.requirement (built_gives (Gate c.args.requirement) c.in_ok-gate.gate c.args.self.now c.variable.new.self c.requires gives)
    (represents_in_range c.variable.new.self c.in_ok-gate.gate (Gate c.args.requirement) gives.coding gives.present) (none_in_range (count_of c.variable.new.self.search))

pub returns-clause-encoded : goal.returns-clause-encoded
returns-clause-encoded g c = λ p root lawful e has asked.
    let exact : IsExact g.S.PartialEq.eq = record { one = g.met.S.Exact.exact; own = g.met.S.Eq.laws.refl } in
    let middle : Encoder _ _ = record c.args.self.now { coding = c.variable.new.self } in
    let gives = c.in_ok-gate.ensures.given in
    let rest : SameButCoding c.args.self.now middle = record { registry = refl; lists = refl; queue = refl; gates = refl; recorded = refl; parents = refl; encoded = refl; deferred = refl; fired = refl } in
    let kept = gives_keeps g.S.PartialEq.eq exact p root lawful (Gate c.args.requirement) c.in_ok-gate.gate c.args.self.now middle e gives rest in
    let new_clause = c.in_ok-encode_need.ensures.kind in
    let (kind, rules) = need_keeps g.S.PartialEq.eq exact p root lawful (Kind.Shared c.args.requirement) c.in_ok-gate.gate None c.args.requirement middle c.encode_need.new.self kept has (refl, refl, gives.present, asked) (shared_ready g.S.PartialEq.eq exact p root lawful middle c.args.requirement) new_clause in
    let rule = rules (Rule.shared c.args.requirement) refl in
    let present = represents_grow c.variable.new.self c.encode_need.new.self.coding c.in_ok-gate.gate (Gate c.args.requirement) new_clause.states.grows gives.present in
    (gate_recorded g.S.PartialEq.eq exact p root lawful c.encode_need.new.self (record c.encode_need.new.self { gates = c.insert.new.self }) c.args.requirement c.in_ok-gate.gate kind present rule c.in_ok-insert.ensures.put refl, rule)

pub returns-in-Some-clause-present : goal.returns-in-Some-clause-present
returns-in-Some-clause-present g c = c.requires.gates c.args.requirement c.in-Some.gate.now (sym c.get.ensures ∙ ap option_copied c.in-Some.is)

pub returns-clause-built : goal.returns-clause-built
returns-clause-built g c =
    let middle : Encoder _ _ = record c.args.self.now { coding = c.variable.new.self } in
    let gives = c.in_ok-gate.ensures.given in
    let new_clause = c.in_ok-encode_need.ensures.kind in
    let kind = built_encodes (Kind.Shared c.args.requirement) c.in_ok-gate.gate None c.args.requirement middle c.encode_need.new.self (built_gives (Gate c.args.requirement) c.in_ok-gate.gate c.args.self.now c.variable.new.self c.requires gives) (λ name s place bit h. absurd cc) new_clause in
    let present = represents_grow c.variable.new.self c.encode_need.new.self.coding c.in_ok-gate.gate (Gate c.args.requirement) new_clause.states.grows gives.present in
    built_gate c.encode_need.new.self (record c.encode_need.new.self { gates = c.insert.new.self }) c.args.requirement c.in_ok-gate.gate kind present c.in_ok-insert.ensures.put refl

pub returns-in_err-gate-clause-ids : goal.returns-in_err-gate-clause-ids
returns-in_err-gate-clause-ids g c = search (rules, LacksNumberFor.coding)

pub returns-in_err-encode_need-clause-ids : goal.returns-in_err-encode_need-clause-ids
returns-in_err-encode_need-clause-ids g c = search (rules, LacksNumberFor.coding)

pub returns-in_err-insert-clause-ids : goal.returns-in_err-insert-clause-ids
returns-in_err-insert-clause-ids g c = search (rules, LacksNumberFor.requirement)
