use Rattle.std.proofs.Common.{◌+◌, List, length, ap, sym, ◌∙◌}
use Rattle.std.proofs.lemmas.Result.{on_ok_weaker}
use Rattle.resolvo_text.specs.Line.{Line, Limits}
use Rattle.resolvo_text.specs.View.{spec_of}
use Rattle.resolvo_catalogue_core.specs.Grammar.{owner_below}
use Rattle.resolvo_catalogue_core.proofs.TableSteps.{adds_over, more_terms}
use Rattle.resolvo_catalogue_core.proofs.table.Table.limit.Goals as goal

pub add_limit-requires : goal.add_limit-requires
add_limit-requires c =
    let more = more_terms c.args.self.now c.spec.new.self c.requires.table c.spec.ensures.grows c.ids_are_once.ensures in
    record { table = more.1; line = c.requires.line ∙ ap (λ (ls : List Line). length ls + 1) (sym more.0); short = c.requires.short }

pub returns-clause-ok : goal.returns-clause-ok
returns-clause-ok c =
    let t = c.args.self.now in
    let u = c.spec.new.self in
    on_ok_weaker c.add_limit.result (λ add. adds_over t u (Limits (spec_of c.args.spec)) c.add_limit.new.self c.requires.table c.spec.ensures.grows c.ids_are_once.ensures c.spec.ensures.few c.add_limit.ensures.terms (λ keeps same. add (spec_of c.args.spec) c.in-Ok.ensures.spec)) c.add_limit.ensures.ok

pub returns-clause-placed : goal.returns-clause-placed
returns-clause-placed c =
    let more = more_terms c.args.self.now c.spec.new.self c.requires.table c.spec.ensures.grows c.ids_are_once.ensures in
    on_ok_weaker c.add_limit.result (λ h. (h.0, ap owner_below (sym more.0) ∙ h.1)) c.add_limit.ensures.placed

pub returns-clause-fault : goal.returns-clause-fault
returns-clause-fault c = λ e may.
    let more = more_terms c.args.self.now c.spec.new.self c.requires.table c.spec.ensures.grows c.ids_are_once.ensures in
    let none = c.add_limit.ensures.fault e in
    absurd (cc (may.1, none, more.0))
