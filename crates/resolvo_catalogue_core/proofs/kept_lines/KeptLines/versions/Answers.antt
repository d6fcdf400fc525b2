use Rattle.std.proofs.Common.{ap, sym}
use Rattle.resolvo_catalogue_core.specs.Kept.{KeptLines}
use Rattle.resolvo_catalogue_core.proofs.CatalogueFacts.{distinct_listed}
use Rattle.resolvo_catalogue_core.proofs.kept_lines.KeptLines.versions.Goals as goal

pub returns-clause-versions : goal.returns-clause-versions
returns-clause-versions c = rw (← c.self.view_is, c.deref.ensures.value) (sym c.self.invariant.0.listing)

pub returns-clause-named : goal.returns-clause-named
returns-clause-named c = rw (← c.self.view_is, c.deref.ensures.value) c.self.invariant.0.named

pub returns-clause-distinct : goal.returns-clause-distinct
returns-clause-distinct c = distinct_listed c.self.inside.table.now c.args.self.now.lines (ap (λ (s : KeptLines). s.lines) c.self.view_is) c.self.invariant.0
