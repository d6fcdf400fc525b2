use Rattle.std.proofs.Common.{◌∙◌, sym, subst}
use Rattle.resolve_order.specs.Kept.{IsFirstMatch}
use Rattle.resolve_order.specs.Need.{alternatives_in, condition_in}
use Rattle.resolve_order.proofs.PickLemmas.{gives_need, waits_need, spent_need}
use Rattle.resolve_order.proofs.chosen.Chosen.need_state.Goals as goal

pub returns-then-may_give-clause-state : goal.returns-then-may_give-clause-state
returns-then-may_give-clause-state c = λ chosen entries h.
    let lines = c.args.catalogue.now in
    let ss = alternatives_in c.args.need.now in
    gives_need lines chosen entries ss (condition_in c.args.need.now) c.in-Some.version (subst (IsFirstMatch lines chosen entries ss) c.in-Some.is (c.first_match.ensures.matched chosen entries h))
    (sym (c.may_give.ensures chosen entries h) ∙ c.if-may_give.true)

pub returns-else-may_give-clause-state : goal.returns-else-may_give-clause-state
returns-else-may_give-clause-state c = λ chosen entries h.
    waits_need entries (alternatives_in c.args.need.now) (condition_in c.args.need.now) (sym (c.may_give.ensures chosen entries h) ∙ c.if-may_give.false)

pub returns-in-None-clause-state : goal.returns-in-None-clause-state
returns-in-None-clause-state c = λ chosen entries h.
    let lines = c.args.catalogue.now in
    let ss = alternatives_in c.args.need.now in
    spent_need lines chosen entries ss (condition_in c.args.need.now) (subst (IsFirstMatch lines chosen entries ss) c.in-None.is (c.first_match.ensures.matched chosen entries h))
