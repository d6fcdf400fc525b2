use Rattle.std.proofs.Common.{◌≡◌, ◌∙◌, ap, sym, [], arith}
use Rattle.std.proofs.lemmas.List.{append-nil, nil_from_length}
use Rattle.resolvo_graph.proofs.RunLemmas.{joins, follows, begins}
use Rattle.resolvo_graph.proofs.runs.add_target.Goals as goal
use Rattle.resolvo_graph.proofs.runs.add_target.Goals.{in-Some+else-is_of+in_ok-push-2, in_default}

pub returns-then-is_of-clause-put : goal.returns-then-is_of-clause-put
returns-then-is_of-clause-put c =
    joins _ _ c.pop.new.self.items c.in-Some.last c.in_ok-with.field-0 c.args.requirement c.args.target c.in-Some.ensures.items (sym c.is_of.ensures ∙ c.if-is_of.true) c.in_ok-with.ensures.run c.in_ok-push.ensures.items

pub returns-clause-put : goal.returns-clause-put
returns-clause-put c =
    elim c.match-pop.branch [
      | in-Some+else-is_of+in_ok-push-2 w ↦ follows _ _ _ c.pop.new.self.items w.in-Some.last c.in_ok-one.field-0 c.args.requirement c.args.target w.in-Some.ensures.items (sym w.is_of.ensures ∙ w.if-is_of.false) (ap (λ v. v.items) w.found-is ∙ w.in_ok-push-2.ensures.items) c.in_ok-one.ensures.run c.in_ok-push-3.ensures.items
      | in_default w ↦
          let none : c.args.found.now.items ≡ [] = nil_from_length c.args.found.now.items (omega (arith, c.args.found.now.ok, w.in_default.ensures.cases)) in
          let left : c.pop.new.self.items ≡ [] = sym (append-nil c.pop.new.self.items) ∙ sym w.in_default.ensures.items ∙ none in
          begins _ _ _ c.in_ok-one.field-0 c.args.requirement c.args.target none (ap (λ v. v.items) w.found-is ∙ left) c.in_ok-one.ensures.run c.in_ok-push-3.ensures.items
    ]
