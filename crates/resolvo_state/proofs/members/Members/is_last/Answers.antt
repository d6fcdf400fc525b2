use Rattle.std.proofs.Common.{List, subst}
use Rattle.std.specs.Prelude.{Contains}
use Rattle.resolvo_state.specs.declared.registry.Member.{Member}
use Rattle.resolvo_state.proofs.members.Members.is_last.Goals as goal

pub returns : goal.returns
returns g c = λ h. rw (← c.self.view_is) (subst (λ (xs : List (Member _)). Contains xs c.args.member) c.as_slice.ensures.value (c.is_at.ensures h))
