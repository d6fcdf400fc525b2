use Rattle.std.proofs.Common.{◌+◌, List, length, ap, sym, ◌∙◌}
use Rattle.resolvo_text.specs.Line.{Line, Limits}
use Rattle.resolvo_text.specs.Parse.{words_in, spec_in}
use Rattle.resolvo_terms.specs.Terms.{IsSpec}
use Rattle.resolvo_catalogue_core.specs.Grammar.{owner_below}
use Rattle.resolvo_catalogue_core.proofs.TableSteps.{adds_over, more_terms, on_ok_both, reads_ok}
use Rattle.resolvo_catalogue_core.proofs.table.Table.read_limit.Goals as goal

pub add_limit-requires : goal.add_limit-requires
add_limit-requires c =
    let more = more_terms c.args.self.now c.spec_in.new.self c.requires.table c.spec_in.ensures.grows c.ids_are_once.ensures in
    record { table = more.1; line = c.requires.line ∙ ap (λ (ls : List Line). length ls + 1) (sym more.0); short = c.requires.short }

pub returns-clause-ok : goal.returns-clause-ok
returns-clause-ok c =
    let t = c.args.self.now in
    let u = c.spec_in.new.self in
    let more = more_terms t u c.requires.table c.spec_in.ensures.grows c.ids_are_once.ensures in
    let read = reads_ok (IsSpec u) c.in_ok-spec.spec (spec_in (words_in c.args.words.now)) c.in_ok-spec.ensures.spec in
    on_ok_both c.add_limit.result (λ add placed. (read.0, read.1, (placed.0, ap owner_below (sym more.0) ∙ placed.1), adds_over t u (Limits read.0) c.add_limit.new.self c.requires.table c.spec_in.ensures.grows c.ids_are_once.ensures c.spec_in.ensures.few c.add_limit.ensures.terms (λ keeps same. add read.0 read.2))) c.add_limit.ensures.ok c.add_limit.ensures.placed

pub returns-clause-fault : goal.returns-clause-fault
returns-clause-fault c = λ e s is may.
    let more = more_terms c.args.self.now c.spec_in.new.self c.requires.table c.spec_in.ensures.grows c.ids_are_once.ensures in
    let none = c.add_limit.ensures.fault e in
    absurd (cc (may.1, none, more.0))
