use Rattle.resolvo_encoder.proofs.Parents.{prefix_insert, inserted, inserted_only}
use Rattle.resolvo_encoder.proofs.encoder.add_key.Goals as goal

pub returns-clause-prefix : goal.returns-clause-prefix
returns-clause-prefix g c = rw c.in_ok-insert.ensures.keys (prefix_insert g.K.PartialEq.eq c.args.keys.now.keys c.args.key)

pub returns-clause-present : goal.returns-clause-present
returns-clause-present g c = λ exact. rw c.in_ok-insert.ensures.keys (inserted g.K.PartialEq.eq c.args.keys.now.keys c.args.key exact)

pub returns-clause-only : goal.returns-clause-only
returns-clause-only g c = λ other. rw c.in_ok-insert.ensures.keys (inserted_only g.K.PartialEq.eq c.args.keys.now.keys c.args.key other)
