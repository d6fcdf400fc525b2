use Rattle.resolvo_catalogue_core.proofs.TableSteps.{skip}
use Rattle.resolvo_catalogue_core.proofs.table.Table.skip.Goals as goal

pub returns-clause-ok : goal.returns-clause-ok
returns-clause-ok c = skip c.args.self.now (record c.args.self.now { line_kinds = c.hold.new.self }) c.requires.table c.in_ok-hold.ensures
