use Rattle.std.proofs.Common.{◌+◌, ◌≤◌, List, Option, length, ap, sym, ◌∙◌, arith}
use Rattle.std.proofs.lemmas.Result.{on_ok_weaker}
use Rattle.resolvo_text.specs.Line.{Spec, Cond, Line, Needs}
use Rattle.resolvo_text.specs.View.{specs_of, list_of, condition_of}
use Rattle.resolvo_terms.specs.Terms.{IsNeed}
use Rattle.resolvo_terms.specs.TermCounts.{term_count, terms_for_line}
use Rattle.resolvo_catalogue_core.specs.Grammar.{owner_below}
use Rattle.resolvo_catalogue_core.proofs.TableSteps.{adds_over, more_terms}
use Rattle.resolvo_catalogue_core.proofs.table.Table.need.Goals as goal

pub add_need-requires : goal.add_need-requires
add_need-requires c =
    let more = more_terms c.args.self.now c.need.new.self c.requires.table c.need.ensures.grows c.ids_are_once.ensures in
    record { table = more.1; line = c.requires.line ∙ ap (λ (ls : List Line). length ls + 1) (sym more.0); short = c.requires.short }

pub returns-clause-ok : goal.returns-clause-ok
returns-clause-ok c =
    let t = c.args.self.now in
    let u = c.need.new.self in
    let written : List Spec × Option Cond = (specs_of (list_of c.args.alternatives), condition_of c.args.condition) in
    let few : term_count u ≤ term_count t.terms + terms_for_line (Needs written.0 written.1) = omega (arith, rw (c.as_slice.ensures, c.as_ref.ensures.value) at c.need.ensures.few) in
    let given : IsNeed u c.in-Ok.need written = rw (c.as_slice.ensures, c.as_ref.ensures.value) at c.in-Ok.ensures.need in
    on_ok_weaker c.add_need.result (λ add. adds_over t u (Needs written.0 written.1) c.add_need.new.self c.requires.table c.need.ensures.grows c.ids_are_once.ensures few c.add_need.ensures.terms (λ keeps same. add written given)) c.add_need.ensures.ok

pub returns-clause-placed : goal.returns-clause-placed
returns-clause-placed c =
    let more = more_terms c.args.self.now c.need.new.self c.requires.table c.need.ensures.grows c.ids_are_once.ensures in
    on_ok_weaker c.add_need.result (λ h. (h.0, ap owner_below (sym more.0) ∙ h.1)) c.add_need.ensures.placed

pub returns-clause-fault : goal.returns-clause-fault
returns-clause-fault c = λ e may.
    let more = more_terms c.args.self.now c.need.new.self c.requires.table c.need.ensures.grows c.ids_are_once.ensures in
    let none = c.add_need.ensures.fault e in
    absurd (cc (may.1, none, more.0))
