use Rattle.std.proofs.Common.{subst}
use Rattle.resolvo_catalogue_core.specs.Kept.{AreKept}
use Rattle.resolvo_catalogue_core.proofs.KeptLemmas.{kept_by}
use Rattle.resolvo_catalogue_core.proofs.kept_lines.KeptLines.lines_are_kept.Goals as goal

pub returns : goal.returns
returns c = subst AreKept c.self.view_is (kept_by c.self.inside.table.now c.self.invariant.0 c.self.invariant.1)
