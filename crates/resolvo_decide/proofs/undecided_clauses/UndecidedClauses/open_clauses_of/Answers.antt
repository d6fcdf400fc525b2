use Rattle.std.proofs.Common.{◌≡◌, inl, inr, Some, None, length, length-set, sym, ◌∙◌, ap}
use Rattle.resolvo_decide.specs.declared.clause_states.ClauseState.TheVariants.{Open}
use Rattle.resolvo_decide.specs.declared.undecided_clauses.UndecidedClauses.{UndecidedClauses}
use Rattle.resolvo_decide.specs.Links.{link_at}
use Rattle.resolvo_decide.proofs.LinkLemmas.{linked_none, linked_step}
use Rattle.resolvo_decide.proofs.Positions.{opened_put, others_more}
use Rattle.resolvo_decide.proofs.undecided_clauses.UndecidedClauses.open_clauses_of.Goals as goal

pub loop-link-preserved : goal.loop-link-preserved
loop-link-preserved c =
    let old = c.loop-link.self in
    let l = c.in-Some.link in
    let ls = c.args.self.now.by_parent.links.items in
    let at : link_at ls c.loop-link.next ≡ Some l = ap (λ (n : UndecidedClauses). link_at n.by_parent.links.items c.loop-link.next) (sym c.loop-link.invariant.rest) ∙ sym c.link.ensures.link ∙ c.in-Some.is in
    record {
      opened = λ i h. elim (c.loop-link.invariant.opened i h) [
        | inl open_ ↦ inl (opened_put old.states c.put.new.self l.position i c.put.ensures (inl open_))
        | inr linked ↦ elim (linked_step ls c.loop-link.next i l at linked) [
          | inl here ↦ inl (opened_put old.states c.put.new.self l.position i c.put.ensures (inr here))
          | inr behind ↦ inr behind
        ]
      ];
      others = others_more c.args.self.now.states old.states c.put.new.self l.position c.loop-link.invariant.others c.put.ensures;
      len = ap length c.put.ensures ∙ length-set old.states l.position Open ∙ c.loop-link.invariant.len;
      rest = ap (λ (n : UndecidedClauses). record n { states = c.put.new.self }) c.loop-link.invariant.rest;
    }

pub returns-clause-opened : goal.returns-clause-opened
returns-clause-opened c =
    let ls = c.args.self.now.by_parent.links.items in
    let none : link_at ls c.loop-link.next ≡ None = ap (λ (n : UndecidedClauses). link_at n.by_parent.links.items c.loop-link.next) (sym c.loop-link.invariant.rest) ∙ sym c.link.ensures.link ∙ c.in_default.is in
    λ i h. elim (c.loop-link.invariant.opened i h) [
      | inl open_ ↦ open_
      | inr linked ↦ absurd (linked_none ls c.loop-link.next i none linked)
    ]
