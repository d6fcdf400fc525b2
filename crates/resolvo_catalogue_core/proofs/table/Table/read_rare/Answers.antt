use Rattle.std.proofs.Common.{subst}
use Rattle.resolvo_text.specs.Line.{Line}
use Rattle.resolvo_text.specs.View.{view}
use Rattle.resolvo_text.proofs.TextLaws.{one_line}
use Rattle.resolvo_catalogue_core.specs.Grammar.{MayFollow}
use Rattle.resolvo_catalogue_core.specs.Table.{lines_in}
use Rattle.resolvo_catalogue_core.proofs.table.Table.read_rare.Goals as goal

pub returns-clause-fault : goal.returns-clause-fault
returns-clause-fault c = λ e line p.
    let same = one_line c.args.text.now line (view c.in_ok-line.line) p.parsed c.in_ok-line.ensures.parsed in
    c.add.ensures.fault e (subst (λ (l : Line). MayFollow (lines_in c.args.self.now) l) same p.place)
