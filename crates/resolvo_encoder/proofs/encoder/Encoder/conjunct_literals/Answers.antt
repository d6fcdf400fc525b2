use Rattle.std.proofs.Common.{◌∷◌, ◌∙◌, ◌<◌, List, ap, subst, arith}
use Rattle.resolvo_packages.specs.declared.package_source.Offered.{Offered}
use Rattle.resolvo_store_core.specs.Clauses.{no, candidate_literals}
use Rattle.resolvo_store_core.specs.declared.lists.Candidate.{Candidate}
use Rattle.resolvo_sat.specs.RuleClauses.{IsExact}
use Rattle.resolvo_sat.specs.State.{count_of}
use Rattle.resolvo_state.proofs.Growth.{represents_in_range}
use Rattle.resolvo_encoder.specs.Steps.{Enrols}
use Rattle.resolvo_encoder.proofs.CaseLiterals.{set_literals}
use Rattle.resolvo_encoder.proofs.encoder.Encoder.conjunct_literals.Goals as goal

pub none_or_outside-requires : goal.none_or_outside-requires
none_or_outside-requires g c =
    let coding = c.give.new.self.coding in
    let built = c.in_ok-any.ensures.encodes.built in
    let below : c.in_ok-any.any.0 < count_of coding.search = represents_in_range coding c.in_ok-any.any _ built.coding c.in_ok-any.ensures.present in
    let small : count_of coding.search < 2147483648 = built.coding.ready.state.small in
    omega arith

pub returns-then-set-clause-at_least_one : goal.returns-then-set-clause-at_least_one
returns-then-set-clause-at_least_one g c = c.in_ok-literals.ensures.literals

pub returns-clause-at_least_one : goal.returns-clause-at_least_one
returns-clause-at_least_one g c =
    let exact : IsExact g.S.PartialEq.eq = record { one = g.met.S.Exact.exact; own = g.met.S.Eq.laws.refl } in
    let enrols = subst (λ (xs : List (Offered _ _)). Enrols g.S.PartialEq.eq xs c.in_ok-candidates.candidates.items c.give.new.self c.register.new.self) c.as_slice.ensures.value c.in_ok-candidates.ensures.enrolled in
    let literals = c.in_ok-literals-2.ensures.literals ∙ ap (λ (xs : List (Candidate _)). no c.in_ok-any.any ∷ candidate_literals xs) c.as_slice-2.ensures.value in
    set_literals g.S.PartialEq.eq exact c.args.set.now c.in_ok-any.any c.in_ok-candidates.candidates.items c.in_ok-literals-2.literals.items c.args.self.now c.queue_package.new.self c.give.new.self c.register.new.self
    c.if-set.false c.in_ok-queue_package.ensures.named c.in_ok-any.ensures.encodes c.in_ok-any.ensures.present enrols literals
