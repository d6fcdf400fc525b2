use Rattle.std.proofs.Common.{subst, sym}
use Rattle.resolvo_checker.specs.Noted.{AreNoted}
use Rattle.resolvo_checker.proofs.NumberLemmas.{noted_push, noted_set}
use Rattle.resolvo_checker.proofs.atom_ids.put_number.Goals as goal

pub loop-versions-preserved : goal.loop-versions-preserved
loop-versions-preserved c = λ entries noted. subst (AreNoted entries) (sym c.in_ok-push.ensures.items) (noted_push entries c.loop-versions.versions.items (c.loop-versions.invariant entries noted))

pub returns : goal.returns
returns c = λ entries is noted. noted_set entries c.loop-versions.versions.items c.args.version c.args.number is (c.loop-versions.invariant entries noted)
