use Rattle.std.specs.BTreeMap.{get}
use Rattle.std.specs.Ordering.{nat_cmp}
use Rattle.resolvo_catalogue_core.proofs.Sorted.{updates_number}
use Rattle.resolve_refusal.proofs.FirstLemmas.{listed_more}
use Rattle.resolve_refusal.proofs.line_index.keep_version.Goals as goal

pub returns-clause-listed : goal.returns-clause-listed
returns-clause-listed c = λ before.
    listed_more c.args.texts.catalogue.now c.args.texts.request.now.lines (get nat_cmp c.args.versions.now) (get nat_cmp c.insert.new.self) c.args.version c.in_ok-first.first
    (updates_number c.args.version.0 c.args.versions.now c.insert.new.self _ c.in_ok-insert.ensures.updates.0) c.in_ok-first.ensures.first before
