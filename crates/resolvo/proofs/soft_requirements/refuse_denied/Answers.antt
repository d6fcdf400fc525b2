use Rattle.std.proofs.Common.{◌≡◌, inr, vec_len, sym, ◌∙◌, arith}
use Rattle.std.proofs.lemmas.Bool.{eqb-true}
use Rattle.resolvo_sat.specs.RuleClauses.{IsExact}
use Rattle.resolvo.proofs.Outcomes.{refused_settles, unsat_settles}
use Rattle.resolvo.proofs.Soft.{refused_addable}
use Rattle.resolvo.proofs.soft_requirements.refuse_denied.Goals as goal

pub learn_refusal-requires-clause-forbid : goal.learn_refusal-requires-clause-forbid
learn_refusal-requires-clause-forbid g c = refused_addable c.refute.new.self c.args.variable c.in_ok-refusal.refusal (inr c.in_ok-refusal.ensures.tried)

pub returns-then-is_empty-clause-settled : goal.returns-then-is_empty-clause-settled
returns-then-is_empty-clause-settled g c =
    let exact : IsExact g.S.PartialEq.eq = record { one = g.met.S.Exact.exact; own = g.met.S.Eq.laws.refl } in
    let names : IsExact g.N.PartialEq.eq = record { one = g.met.N.Exact.exact; own = g.met.N.Eq.laws.refl } in
    let none : vec_len c.in_ok-refusal.refusal.literals ≡ 0 = eqb-true _ _ (sym c.is_empty.ensures ∙ c.if-is_empty.true) in
    unsat_settles g.S.PartialEq.eq exact g.N.PartialEq.eq names c.args.encoding.now c.refute.new.self c.args.soft c.args.variable c.requires.present c.in_ok-refusal.refusal c.in_ok-refusal.ensures.tried c.refute.ensures.begun c.refute.ensures.stays (omega arith)

pub returns-clause-settled : goal.returns-clause-settled
returns-clause-settled g c =
    let exact : IsExact g.S.PartialEq.eq = record { one = g.met.S.Exact.exact; own = g.met.S.Eq.laws.refl } in
    let names : IsExact g.N.PartialEq.eq = record { one = g.met.N.Exact.exact; own = g.met.N.Eq.laws.refl } in
    refused_settles g.S.PartialEq.eq exact g.N.PartialEq.eq names c.args.encoding.now c.refute.new.self c.args.soft c.args.variable c.requires.present c.in_ok-refusal.refusal c.in_ok-refusal.ensures.tried c.refute.ensures.begun c.refute.ensures.stays
    c.learn_refusal.new.self c.in_ok-clause.clause c.refute.ensures.built c.in_ok-clause.ensures.goes_on c.in_ok-clause.ensures.learnt c.in_ok-clause.ensures.stays c.requires.built.coding c.requires.denied
