use Rattle.std.proofs.Common.{◌≡◌, inl, Option, Some, None, [], sym, ap, subst, rules}
use Rattle.resolvo_pool_core.specs.declared.id.VariableId.{VariableId}
use Rattle.resolvo_sat.specs.RuleClauses.{IsExact}
use Rattle.resolvo_state.specs.Kinds.{Kind}
use Rattle.resolvo_encoder.specs.Encoded.{rules_of}
use Rattle.resolvo_store_core.specs.Clauses.{root as root_variable}
use Rattle.resolvo_sat.specs.SearchEnd.{IsNeedEncoded}
use Rattle.resolvo_encoder.specs.Steps.{Needs, LacksNumberFor, UsesGate, unconditional}
use Rattle.std.specs.Option.{is_some}
use Rattle.std.proofs.lemmas.Bool.{both_ways}
use Rattle.resolvo_encoder.proofs.NeedLemmas.{needed_keeps, need_extends}
use Rattle.resolvo_encoder.proofs.BuildLemmas.{built_encodes}
use Rattle.resolvo_encoder.proofs.encoder.Encoder.require_again.Goals as goal

pub returns-in_ok-need_directly-in-None-clause-encoded : goal.returns-in_ok-need_directly-in-None-clause-encoded
returns-in_ok-need_directly-in-None-clause-encoded g c = λ p root lawful e has needs.
    let exact : IsExact g.S.PartialEq.eq = record { one = g.met.S.Exact.exact; own = g.met.S.Eq.laws.refl } in
    let rooted : c.root.result ≡ root_variable = ap (λ n. let v : VariableId = record { 0 = n } in v) c.root.ensures in
    let own : Needs g.S.PartialEq.eq p root None c.args.need = subst (λ (x : Option _). Needs g.S.PartialEq.eq p root x c.args.need) c.in-None.is needs in
    let (kind, rule) = needed_keeps g.S.PartialEq.eq exact p root lawful None c.args.need c.root.result c.args.self.now c.need_directly.new.self e has rooted own c.in_ok-need_directly-in-None.ensures.needed in
    (kind, subst (λ (x : Option _). IsNeedEncoded g.S.PartialEq.eq p (rules_of c.need_directly.new.self) x c.args.need []) (sym c.in-None.is) (inl rule))

pub returns-in_ok-need_directly-in-None-clause-kept : goal.returns-in_ok-need_directly-in-None-clause-kept
returns-in_ok-need_directly-in-None-clause-kept g c =
    let needed = c.in_ok-need_directly-in-None.ensures.needed in
    need_extends (Kind.Needs None (unconditional c.args.need.requirement) []) c.root.result None c.args.need.requirement c.args.self.now c.need_directly.new.self needed

pub returns-in_ok-need_directly-in-None-clause-built : goal.returns-in_ok-need_directly-in-None-clause-built
returns-in_ok-need_directly-in-None-clause-built g c =
    let needed = c.in_ok-need_directly-in-None.ensures.needed in
    built_encodes (Kind.Needs None (unconditional c.args.need.requirement) []) c.root.result None c.args.need.requirement c.args.self.now c.need_directly.new.self c.requires (λ name s place bit h. absurd cc) needed

pub returns-in_ok-require_of-in-Some-clause-encoded : goal.returns-in_ok-require_of-in-Some-clause-encoded
returns-in_ok-require_of-in-Some-clause-encoded g c = λ p root lawful e has needs.
    let own : Needs g.S.PartialEq.eq p root (Some c.in-Some.solvable) c.args.need = subst (λ (x : Option _). Needs g.S.PartialEq.eq p root x c.args.need) c.in-Some.is needs in
    let (kind, encoded) = c.in_ok-require_of-in-Some.ensures.encoded p root lawful e has own in
    (kind, subst (λ (x : Option _). IsNeedEncoded g.S.PartialEq.eq p (rules_of c.require_of.new.self) x c.args.need []) (sym c.in-Some.is) encoded)

pub returns-in_err-need_directly-in-None-clause-ids : goal.returns-in_err-need_directly-in-None-clause-ids
returns-in_err-need_directly-in-None-clause-ids g c = search (rules, LacksNumberFor.coding)

pub returns-in_ok-need_directly-in-None-clause-gate : goal.returns-in_ok-need_directly-in-None-clause-gate
returns-in_ok-need_directly-in-None-clause-gate g c = record {
  gate = λ some many. absurd (both_ways _ (ap is_some c.in-None.is) some);
  root = λ is. c.in_ok-need_directly-in-None.ensures.needed.gates;
  few = λ few. c.in_ok-need_directly-in-None.ensures.needed.gates;
}

pub returns-in_ok-require_of-in-Some-clause-gate : goal.returns-in_ok-require_of-in-Some-clause-gate
returns-in_ok-require_of-in-Some-clause-gate g c =
    subst (λ (x : Option _). UsesGate x c.args.need.requirement c.args.self.now c.require_of.new.self) (sym c.in-Some.is) c.in_ok-require_of-in-Some.ensures.gate
