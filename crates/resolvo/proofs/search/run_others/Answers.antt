use Rattle.std.proofs.Common.{List, length, reverse, sym, ◌∙◌, ap}
use Rattle.resolvo_sat.specs.RuleClauses.{IsExact}
use Rattle.resolvo.specs.Turns.{accepted_of}
use Rattle.resolvo.specs.declared.turns.Turn.{Turn}
use Rattle.resolvo.proofs.Found.{later_denial, later_listed, no_reasons, root_right, turns_found}
use Rattle.resolvo.proofs.TrailLemmas.{first_on_trail, listed_are_chosen}
use Rattle.resolvo.proofs.search.run_others.Goals as goal

pub list-requires : goal.list-requires
list-requires g c = c.requires.built

pub run_soft_requirements-requires-clause-at : goal.run_soft_requirements-requires-clause-at
run_soft_requirements-requires-clause-at g c =
    let same = g.A.SolvableId.PartialEq.eq in
    let exact : IsExact same = record { one = g.met.A.SolvableId.Exact.exact; own = g.met.A.SolvableId.Eq.laws.refl } in
    let are = first_on_trail same exact c.args.encoding.now c.new-turns.result.chosen.keys c.list.new.self.chosen.keys c.requires.built.coding c.requires.turn c.new-turns.ensures.chosen c.in_ok-list.ensures.in_order in
    let (is_done, whole, spent, placed, soft) = c.requires.ended in
    record {
      chosen = are;
      encoded = whole c.list.new.self.chosen.keys (listed_are_chosen c.args.encoding.now c.list.new.self.chosen.keys are);
      softs = c.requires.first ∙ ap (λ (ts : List (Turn g.row.A-SolvableId.Denot)). accepted_of (reverse ts)) (sym (ap (λ v. v.items) c.in_ok-list.ensures.turns ∙ c.new-turns.ensures.turns));
    }

pub returns-clause-found : goal.returns-clause-found
returns-clause-found g c = λ root is candidates e.
    let same = g.A.SolvableId.PartialEq.eq in
    let exact : IsExact same = record { one = g.met.A.SolvableId.Exact.exact; own = g.met.A.SolvableId.Eq.laws.refl } in
    let names : IsExact g.A.NameId.PartialEq.eq = record { one = g.met.A.NameId.Exact.exact; own = g.met.A.NameId.Eq.laws.refl } in
    let p = g.A.PackageSource.packages c.args.answers.now in
    let orders = g.A.PackageSource.orders c.args.answers.now in
    let none = ap (λ v. v.items) c.in_ok-list.ensures.turns ∙ c.new-turns.ensures.turns in
    let chosen = listed_are_chosen c.args.encoding.now c.list.new.self.chosen.keys (first_on_trail same exact c.args.encoding.now c.new-turns.result.chosen.keys c.list.new.self.chosen.keys c.requires.built.coding c.requires.turn c.new-turns.ensures.chosen c.in_ok-list.ensures.in_order) in
    let (right, preferred) = root_right g.A.NameId.PartialEq.eq names same exact p orders root (g.met.A.PackageSource.lawful c.args.answers.now) c.args.encoding.now e c.requires.first c.requires.ended c.list.new.self none chosen in
    let (order, next) = c.in_ok-conflict.ensures.right root (length c.list.new.self.chosen.keys) is candidates e right (no_reasons c.args.encoding.now.coding c.list.new.self none) in
    let (found, at_first) = turns_found same p orders root c.args.softs.now c.run_soft_requirements.new.encoding c.list.new.self c.run_soft_requirements.new.turns c.in_ok-conflict.ensures.prefix preferred c.in_ok-conflict.conflict next c.in_ok-conflict.ensures.at_or_refused c.in_ok-found.found c.in_ok-found.ensures in
    (order, found, at_first)

pub returns-clause-denial : goal.returns-clause-denial
returns-clause-denial g c = later_denial c.run_soft_requirements.new.encoding c.run_soft_requirements.new.turns c.in_ok-conflict.conflict c.in_ok-conflict.ensures.at_or_refused c.in_ok-found.found c.in_ok-found.ensures

pub returns-clause-listed : goal.returns-clause-listed
returns-clause-listed g c = later_listed c.run_soft_requirements.new.encoding c.run_soft_requirements.new.turns c.in_ok-conflict.conflict c.in_ok-conflict.ensures.built.coding c.in_ok-conflict.ensures.at_or_refused c.in_ok-found.found c.in_ok-found.ensures
