use Rattle.resolvo_catalogue_core.specs.Numbered.{numbers_of, versions_of}
use Rattle.resolvo_catalogue_core.specs.Picked.{IsAmong, is_picked}
use Rattle.resolvo_catalogue_core.proofs.PickedLemmas.{all_added}
use Rattle.resolvo_catalogue_core.proofs.package.Package.picked.Goals as goal

pub returns : goal.returns
returns c = (
  all_added (IsAmong (numbers_of c.args.self.now) (versions_of c.args.self.now) (is_picked c.args.span c.args.outside)) c.new-out.result c.add_picked.new.out c.new-out.ensures.empty c.in_ok-add_picked.ensures,
  c.len-count.ensures.ordered,
)
