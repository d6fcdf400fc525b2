use Rattle.resolvo_catalogue_core.proofs.NumberedLemmas.{pushed}
use Rattle.resolvo_catalogue_core.proofs.version_list.VersionList.push.Goals as goal

pub returns : goal.returns
returns c = pushed c.args.self.now (record { numbers = c.push.new.self; versions = c.push-2.new.self; by_number = c.args.self.now.by_number }) c.args.number c.args.version c.requires.numbered c.requires.unmapped c.requires.above c.in_ok-push.ensures.items c.in_ok-push-2.ensures.items c.requires.unmapped
