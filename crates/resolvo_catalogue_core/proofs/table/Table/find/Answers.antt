use Rattle.std.proofs.Common.{sym}
use Rattle.resolvo_catalogue_core.proofs.table.Table.find.Goals as goal

pub find-requires : goal.find-requires
find-requires c = (c.requires.packages c.args.name.now).kept c.in_ok-package.package.now (sym c.in_ok-package.ensures.value)
