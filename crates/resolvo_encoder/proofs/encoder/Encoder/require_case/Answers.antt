use Rattle.std.proofs.Common.{List, inl, ◌∙◌, rules}
use Rattle.resolvo_sat.specs.RuleClauses.{IsExact}
use Rattle.resolvo_store_core.specs.Signed.{Signed}
use Rattle.resolvo_encoder.specs.Steps.{LacksNumberFor}
use Rattle.resolvo_encoder.proofs.EnrollLemmas.{built_fixes}
use Rattle.resolvo_encoder.proofs.FireLemmas.{EncodesCase, case_in_range, case_extends, case_adds, case_built, case_encoded}
use Rattle.resolvo_encoder.proofs.EncodesLemmas.{parent_variable_grows}
use Rattle.resolvo_encoder.proofs.encoder.Encoder.require_case.Goals as goal

pub parent_variable-requires : goal.parent_variable-requires
parent_variable-requires g c = built_fixes g.S.PartialEq.eq c.args.need.requirement c.args.offered.now c.args.self.now c.fix_candidates.new.self c.requires c.in_ok-fix_candidates.ensures.fixed

pub encode_case-requires-clause-in_range : goal.encode_case-requires-clause-in_range
encode_case-requires-clause-in_range g c =
    let given : List Signed = c.in_ok-literals.literals.items in
    let negates = c.in_ok-literals.ensures.at_least_one in
    case_in_range c.add_each_at_least_one.new.self c.args.parent c.in_ok-variable.variable c.in_ok-condition.condition given c.fix_disjunction.new.self c.args.need.requirement negates.built c.in_ok-condition.ensures.fixed
    (parent_variable_grows c.parent_variable.new.self c.add_each_at_least_one.new.self c.args.parent c.in_ok-variable.variable negates.extends c.in_ok-variable.ensures.present) negates.in_range

pub returns : goal.returns
returns g c =
    let exact : IsExact g.S.PartialEq.eq = record { one = g.met.S.Exact.exact; own = g.met.S.Eq.laws.refl } in
    let given : List Signed = c.in_ok-literals.literals.items in
    let new_clause : EncodesCase g.S.PartialEq.eq c.args.parent c.args.need c.args.sets.now c.args.offered.now c.args.self.now c.encode_case.new.self = record {
      fixed = c.fix_candidates.new.self;
      named = c.parent_variable.new.self;
      at_least_one = c.add_each_at_least_one.new.self;
      lists = c.fix_disjunction.new.self;
      variable = c.in_ok-variable.variable;
      id = c.in_ok-condition.condition;
      given = given;
      case = c.of.result;
      is_case = c.of.ensures ∙ c.in_ok-case.ensures.case;
      fixes = c.in_ok-fix_candidates.ensures.fixed;
      encodes = c.in_ok-variable.ensures.encodes;
      present = c.in_ok-variable.ensures.present;
      negates = c.in_ok-literals.ensures.at_least_one;
      disjoins = c.in_ok-condition.ensures.fixed;
      states = c.in_ok-encode_case.ensures.kind;
    } in
    record {
      encoded = λ p root lawful e sets offered guarded listed cased matched.
          let (keeps, rule) = case_encoded g.S.PartialEq.eq exact c.args.parent c.args.need c.args.sets.now c.args.offered.now c.args.self.now c.encode_case.new.self new_clause p root lawful e sets offered guarded listed cased matched in
          (keeps, inl rule);
      candidates = case_adds g.S.PartialEq.eq exact c.args.parent c.args.need c.args.sets.now c.args.offered.now c.args.self.now c.encode_case.new.self new_clause;
      kept = case_extends g.S.PartialEq.eq exact c.args.parent c.args.need c.args.sets.now c.args.offered.now c.args.self.now c.encode_case.new.self new_clause;
      built = case_built g.S.PartialEq.eq exact c.args.parent c.args.need c.args.sets.now c.args.offered.now c.args.self.now c.encode_case.new.self new_clause;
      ids = search rules;
    }

pub returns-in_err-variable-clause-ids : goal.returns-in_err-variable-clause-ids
returns-in_err-variable-clause-ids g c = search (rules, LacksNumberFor.coding)

pub returns-in_err-literals-clause-ids : goal.returns-in_err-literals-clause-ids
returns-in_err-literals-clause-ids g c = search (rules, LacksNumberFor.coding)

pub returns-in_err-condition-clause-ids : goal.returns-in_err-condition-clause-ids
returns-in_err-condition-clause-ids g c = search (rules, LacksNumberFor.disjunctions)

pub returns-in_err-encode_case-clause-ids : goal.returns-in_err-encode_case-clause-ids
returns-in_err-encode_case-clause-ids g c = search (rules, LacksNumberFor.coding)
