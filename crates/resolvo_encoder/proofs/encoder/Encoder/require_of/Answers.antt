use Rattle.std.proofs.Common.{inl, inr, [], Some, None, refl, sym, ◌∙◌, ap, rules}
use Rattle.std.specs.Option.{is_some}
use Rattle.std.proofs.lemmas.Bool.{both_ways}
use Rattle.resolvo_pool_core.specs.ByRequirement.{slot_of}
use Rattle.resolvo_encoder.specs.declared.encoder.EncodedOnce.{EncodedOnce}
use Rattle.resolvo_sat.specs.RuleClauses.{IsExact, Rule}
use Rattle.resolvo_state.specs.declared.atom.ProofAtom.TheVariants.{Solvable, Gate}
use Rattle.resolvo_state.specs.Kinds.{Kind}
use Rattle.resolvo_encoder.specs.declared.encoder.Encoder.{Encoder}
use Rattle.resolvo_encoder.specs.Steps.{SameButCoding, Extends, LacksNumberFor, unconditional}
use Rattle.resolvo_state.proofs.Growth.{represents_grow, rules_grow, represents_in_range}
use Rattle.resolvo_state.proofs.RegisterLemmas.{digits_more}
use Rattle.resolvo_encoder.proofs.RequireLemmas.{extends_then}
use Rattle.resolvo_encoder.proofs.NeedLemmas.{needed_keeps, need_extends, gated_keeps, gives_keeps, needed_asks}
use Rattle.resolvo_encoder.proofs.BuildLemmas.{built_gives, built_rest, built_encodes, trail_on}
use Rattle.resolvo_encoder.proofs.encoder.Encoder.require_of.Goals as goal

pub need_directly-requires-clause-built : goal.need_directly-requires-clause-built
need_directly-requires-clause-built g c =
    built_gives (Solvable c.args.solvable) c.in_ok-variable.variable c.args.self.now c.variable.new.self c.requires c.in_ok-variable.ensures.given

pub need_directly-requires-clause-in_range : goal.need_directly-requires-clause-in_range
need_directly-requires-clause-in_range g c = represents_in_range c.variable.new.self c.in_ok-variable.variable (Solvable c.args.solvable) c.in_ok-variable.ensures.given.coding c.in_ok-variable.ensures.given.present

pub returns-then-not-is_gated-clause-encoded : goal.returns-then-not-is_gated-clause-encoded
returns-then-not-is_gated-clause-encoded g c = λ p root lawful e has needs.
    let exact : IsExact g.S.PartialEq.eq = record { one = g.met.S.Exact.exact; own = g.met.S.Eq.laws.refl } in
    let middle : Encoder _ _ = record c.args.self.now { coding = c.variable.new.self } in
    let gives = c.in_ok-variable.ensures.given in
    let rest : SameButCoding c.args.self.now middle = record { registry = refl; lists = refl; queue = refl; gates = refl; recorded = refl; parents = refl; encoded = refl; deferred = refl; fired = refl } in
    let kept = gives_keeps g.S.PartialEq.eq exact p root lawful (Solvable c.args.solvable) c.in_ok-variable.variable c.args.self.now middle e gives rest in
    let (kinds, rule) = needed_keeps g.S.PartialEq.eq exact p root lawful (Some c.args.solvable) c.args.need c.in_ok-variable.variable middle c.need_directly.new.self kept has gives.present needs c.in_ok-need_directly.ensures.needed in
    (kinds, inl rule)

pub returns-then-not-is_gated-clause-kept : goal.returns-then-not-is_gated-clause-kept
returns-then-not-is_gated-clause-kept g c =
    let middle : Encoder _ _ = record c.args.self.now { coding = c.variable.new.self } in
    let first : Extends c.args.self.now middle = record { grows = c.in_ok-variable.ensures.given.grows; trail = c.in_ok-variable.ensures.given.trail; softs = refl; parents = refl; encoded = refl; deferred = refl; fired = refl } in
    let needed = c.in_ok-need_directly.ensures.needed in
    extends_then c.args.self.now middle c.need_directly.new.self first (need_extends (Kind.Needs (Some c.args.solvable) (unconditional c.args.need.requirement) []) c.in_ok-variable.variable None c.args.need.requirement middle c.need_directly.new.self needed)

pub gate-requires : goal.gate-requires
gate-requires g c =
    built_gives (Solvable c.args.solvable) c.in_ok-variable.variable c.args.self.now c.variable.new.self c.requires c.in_ok-variable.ensures.given

pub open_gate-requires-clause-coding : goal.open_gate-requires-clause-coding
open_gate-requires-clause-coding g c = c.in_ok-gate.ensures.built.coding

pub open_gate-requires-clause-in_range : goal.open_gate-requires-clause-in_range
open_gate-requires-clause-in_range g c = represents_in_range c.gate.new.self.coding c.in_ok-variable.variable (Solvable c.args.solvable) c.in_ok-gate.ensures.built.coding (represents_grow c.variable.new.self c.gate.new.self.coding c.in_ok-variable.variable (Solvable c.args.solvable) c.in_ok-gate.ensures.kept.grows c.in_ok-variable.ensures.given.present)

pub open_gate-requires-clause-gate_in_range : goal.open_gate-requires-clause-gate_in_range
open_gate-requires-clause-gate_in_range g c = represents_in_range c.gate.new.self.coding c.in_ok-gate.gate (Gate c.args.need.requirement) c.in_ok-gate.ensures.built.coding c.in_ok-gate.ensures.present

pub returns-clause-encoded : goal.returns-clause-encoded
returns-clause-encoded g c = λ p root lawful e has needs.
    let exact : IsExact g.S.PartialEq.eq = record { one = g.met.S.Exact.exact; own = g.met.S.Eq.laws.refl } in
    let middle : Encoder _ _ = record c.args.self.now { coding = c.variable.new.self } in
    let gives = c.in_ok-variable.ensures.given in
    let rest : SameButCoding c.args.self.now middle = record { registry = refl; lists = refl; queue = refl; gates = refl; recorded = refl; parents = refl; encoded = refl; deferred = refl; fired = refl } in
    let kept = gives_keeps g.S.PartialEq.eq exact p root lawful (Solvable c.args.solvable) c.in_ok-variable.variable c.args.self.now middle e gives rest in
    let (gated, shared) = c.in_ok-gate.ensures.encoded p root lawful kept has
    (c.args.solvable, needed_asks g.S.PartialEq.eq exact p root lawful c.args.solvable c.args.need needs.listed needs.free) in
    let opened = c.in_ok-open_gate.ensures.opened in
    let present = represents_grow c.variable.new.self c.gate.new.self.coding c.in_ok-variable.variable (Solvable c.args.solvable) c.in_ok-gate.ensures.kept.grows gives.present in
    let (last, rule) = gated_keeps g.S.PartialEq.eq exact p root lawful c.args.solvable c.in_ok-variable.variable c.in_ok-gate.gate c.args.need opened.number c.gate.new.self c.open_gate.new.self gated needs.listed needs.free present c.in_ok-gate.ensures.present opened.states opened.rest in
    (last, inr (inl (c.args.solvable, refl, rule, rules_grow c.gate.new.self.coding c.open_gate.new.self.coding opened.states.grows (Rule.shared c.args.need.requirement) shared)))

pub returns-clause-kept : goal.returns-clause-kept
returns-clause-kept g c =
    let middle : Encoder _ _ = record c.args.self.now { coding = c.variable.new.self } in
    let first : Extends c.args.self.now middle = record { grows = c.in_ok-variable.ensures.given.grows; trail = c.in_ok-variable.ensures.given.trail; softs = refl; parents = refl; encoded = refl; deferred = refl; fired = refl } in
    let opened = c.in_ok-open_gate.ensures.opened in
    let last : Extends c.gate.new.self c.open_gate.new.self = record { grows = opened.states.grows; trail = opened.states.trail; softs = ap (λ (x : EncodedOnce _ _). x.softs.items) opened.rest.recorded; parents = opened.rest.parents; encoded = opened.rest.encoded; deferred = opened.rest.deferred; fired = opened.rest.fired } in
    extends_then c.args.self.now middle c.open_gate.new.self first (extends_then middle c.gate.new.self c.open_gate.new.self c.in_ok-gate.ensures.kept last)

pub returns-clause-built : goal.returns-clause-built
returns-clause-built g c =
    let opened = c.in_ok-open_gate.ensures.opened in
    built_rest c.gate.new.self c.open_gate.new.self c.in_ok-gate.ensures.built opened.states.coding opened.states.grows
    (digits_more (Kind.Gated c.args.solvable c.args.need.requirement) c.gate.new.self.coding c.open_gate.new.self.coding opened.states.kinds (λ name s place bit h. absurd cc)) opened.rest opened.same_queue (trail_on c.gate.new.self.coding c.open_gate.new.self.coding opened.states.trail)

pub returns-then-not-is_gated-clause-built : goal.returns-then-not-is_gated-clause-built
returns-then-not-is_gated-clause-built g c =
    let middle : Encoder _ _ = record c.args.self.now { coding = c.variable.new.self } in
    let needed = c.in_ok-need_directly.ensures.needed in
    built_encodes (Kind.Needs (Some c.args.solvable) (unconditional c.args.need.requirement) []) c.in_ok-variable.variable None c.args.need.requirement middle c.need_directly.new.self
    (built_gives (Solvable c.args.solvable) c.in_ok-variable.variable c.args.self.now c.variable.new.self c.requires c.in_ok-variable.ensures.given) (λ name s place bit h. absurd cc) needed

pub returns-in_err-variable-clause-ids : goal.returns-in_err-variable-clause-ids
returns-in_err-variable-clause-ids g c = search (rules, LacksNumberFor.coding)

pub returns-in_err-need_directly-clause-ids : goal.returns-in_err-need_directly-clause-ids
returns-in_err-need_directly-clause-ids g c = search (rules, LacksNumberFor.coding)

pub returns-in_err-open_gate-clause-ids : goal.returns-in_err-open_gate-clause-ids
returns-in_err-open_gate-clause-ids g c = search (rules, LacksNumberFor.coding)

pub returns-then-not-is_gated-clause-gate : goal.returns-then-not-is_gated-clause-gate
returns-then-not-is_gated-clause-gate g c = record {
  gate = λ some many. absurd (both_ways _ (sym c.is_gated.ensures ∙ c.if-not-is_gated.true) many);
  root = λ is. absurd cc;
  few = λ few. c.in_ok-need_directly.ensures.needed.gates;
}

pub returns-clause-gate : goal.returns-clause-gate
returns-clause-gate g c = record {
  gate = λ some many. ap is_some (ap (λ m. slot_of m c.args.need.requirement) c.in_ok-open_gate.ensures.opened.rest.gates ∙ c.in_ok-gate.ensures.recorded);
  root = λ is. absurd cc;
  few = λ few. absurd (both_ways _ few (sym c.is_gated.ensures ∙ c.if-not-is_gated.false));
}
