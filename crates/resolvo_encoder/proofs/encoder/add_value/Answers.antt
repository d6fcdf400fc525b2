use Rattle.std.proofs.Common.{sym, ◌∙◌, inl}
use Rattle.std.proofs.lemmas.Bool.{both_ways}
use Rattle.std.proofs.lemmas.Map.Views.{list_any-from_Contains}
use Rattle.resolvo_state.proofs.Positions.{prefix_same}
use Rattle.resolvo_encoder.proofs.Parents.{insert_known, insert_fresh, pushed_present, pushed_only}
use Rattle.resolvo_encoder.proofs.encoder.add_value.Goals as goal

pub returns-then-contains-clause-added : goal.returns-then-contains-clause-added
returns-then-contains-clause-added g c = insert_known g.K.PartialEq.eq c.args.keys.now.keys c.args.key (list_any-from_Contains g.met.K.Eq.laws c.args.key c.args.keys.now.keys (c.contains.ensures.0 c.if-contains.true))

pub returns-then-contains-clause-prefix : goal.returns-then-contains-clause-prefix
returns-then-contains-clause-prefix g c = prefix_same c.args.keys.now.keys

pub returns-then-contains-clause-present : goal.returns-then-contains-clause-present
returns-then-contains-clause-present g c = c.contains.ensures.0 c.if-contains.true

pub returns-then-contains-clause-only : goal.returns-then-contains-clause-only
returns-then-contains-clause-only g c = λ other h. inl h

pub returns-clause-added : goal.returns-clause-added
returns-clause-added g c = c.in_ok-push.ensures.pushed ∙ insert_fresh g.K.PartialEq.eq c.args.keys.now.keys c.args.key (λ y e. sym (g.met.K.Exact.exact c.args.key y e)) (λ h. both_ways _ c.if-contains.false (c.contains.ensures.1 h))

pub returns-clause-prefix : goal.returns-clause-prefix
returns-clause-prefix g c = (_, c.in_ok-push.ensures.pushed)

pub returns-clause-present : goal.returns-clause-present
returns-clause-present g c = rw c.in_ok-push.ensures.pushed (pushed_present c.args.keys.now.keys c.args.key)

pub returns-clause-only : goal.returns-clause-only
returns-clause-only g c = λ other. rw c.in_ok-push.ensures.pushed (pushed_only c.args.keys.now.keys c.args.key other)
