use Rattle.resolvo_terms.proofs.KnownLemmas.{need_known}
use Rattle.resolvo_catalogue_core.proofs.TableSteps.{need}
use Rattle.resolvo_catalogue_core.proofs.table.Table.add_need.Goals as goal

pub returns-clause-ok : goal.returns-clause-ok
returns-clause-ok c =
    let t = c.args.self.now in
    let owner = c.in_ok-owner.ensures.found in
    λ written given. need t (record t { line_kinds = c.push_need.new.self; owned = c.add_line.new.self }) c.args.line c.in_ok-owner.owner owner.0 c.args.need written c.requires.table (need_known t.terms c.requires.table.sound.below c.args.need written given) given c.requires.line
    owner.1 owner.2 c.in_ok-push_need.ensures c.in_ok-add_line.ensures.added c.in_ok-add_line.ensures.same
