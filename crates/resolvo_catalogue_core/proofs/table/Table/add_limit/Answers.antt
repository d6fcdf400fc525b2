use Rattle.resolvo_terms.proofs.KnownLemmas.{spec_known}
use Rattle.resolvo_catalogue_core.proofs.TableSteps.{limit}
use Rattle.resolvo_catalogue_core.proofs.table.Table.add_limit.Goals as goal

pub returns-clause-ok : goal.returns-clause-ok
returns-clause-ok c =
    let t = c.args.self.now in
    let owner = c.in_ok-owner.ensures.found in
    λ s given. limit t (record t { line_kinds = c.hold.new.self; owned = c.add_line.new.self }) c.args.line c.in_ok-owner.owner owner.0 c.args.spec s c.requires.table (spec_known t.terms c.args.spec s given) given c.requires.line
    owner.1 owner.2 c.in_ok-hold.ensures c.in_ok-add_line.ensures.added c.in_ok-add_line.ensures.same
