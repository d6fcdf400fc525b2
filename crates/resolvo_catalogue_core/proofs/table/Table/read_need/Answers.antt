use Rattle.std.proofs.Common.{◌≡◌, ◌+◌, ◌≤◌, ◌∷◌, [], List, None, length, ap, sym, subst, ◌∙◌, arith}
use Rattle.resolvo_text.specs.Line.{Line, Needs}
use Rattle.resolvo_text.specs.Parse.{words_in, needs_in}
use Rattle.resolvo_terms.specs.Reads.{IsNeedRead}
use Rattle.resolvo_terms.specs.TermCounts.{term_count, terms_for_line}
use Rattle.resolvo_catalogue_core.specs.Grammar.{owner_below, MayFollow}
use Rattle.resolvo_catalogue_core.specs.Table.{Adds, lines_in}
use Rattle.resolvo_catalogue_core.proofs.TableSteps.{adds_over, more_terms, on_ok_both, reads_ok}
use Rattle.resolvo_catalogue_core.proofs.table.Table.read_need.Goals as goal

pub add_need-requires : goal.add_need-requires
add_need-requires c =
    let more = more_terms c.args.self.now c.need_in.new.self c.requires.table c.need_in.ensures.grows c.ids_are_once.ensures in
    record { table = more.1; line = c.requires.line ∙ ap (λ (ls : List Line). length ls + 1) (sym more.0); short = c.requires.short }

pub returns-clause-ok : goal.returns-clause-ok
returns-clause-ok c =
    let t = c.args.self.now in
    let u = c.need_in.new.self in
    let more = more_terms t u c.requires.table c.need_in.ensures.grows c.ids_are_once.ensures in
    let read = reads_ok (IsNeedRead t.terms u) c.in_ok-need.need (needs_in (words_in c.args.words.now)) c.in_ok-need.ensures.need in
    let written = read.2.0 in
    let few : term_count u ≤ term_count t.terms + terms_for_line (Needs written.0 written.1) = omega (arith, read.2.3) in
    on_ok_both c.add_need.result (λ add placed. (
      read.0,
      read.1,
      subst (λ (l : Line). MayFollow (lines_in t) l) (sym read.2.1) (placed.0, ap owner_below (sym more.0) ∙ placed.1),
      subst (λ (l : Line). Adds t l c.add_need.new.self) (sym read.2.1) (adds_over t u (Needs written.0 written.1) c.add_need.new.self c.requires.table c.need_in.ensures.grows c.ids_are_once.ensures few c.add_need.ensures.terms (λ keeps same. add written read.2.2)),
    )) c.add_need.ensures.ok c.add_need.ensures.placed

pub returns-clause-fault : goal.returns-clause-fault
returns-clause-fault c = λ e l is may.
    let t = c.args.self.now in
    let u = c.need_in.new.self in
    let more = more_terms t u c.requires.table c.need_in.ensures.grows c.ids_are_once.ensures in
    let read = reads_ok (IsNeedRead t.terms u) c.in_ok-need.need (needs_in (words_in c.args.words.now)) c.in_ok-need.ensures.need in
    let same : l ≡ Needs read.2.0.0 read.2.0.1 = cc (is, read.1, read.2.1) in
    let owned = subst (λ (x : Line). MayFollow (lines_in t) x) same may in
    let none = c.add_need.ensures.fault e in
    absurd (cc (owned.1, none, more.0))

pub returns-in-Some-clause-ok : goal.returns-in-Some-clause-ok
returns-in-Some-clause-ok c =
    let read = c.in-Some.ensures in
    on_ok_both c.add_plain_need.result (λ add placed. (Needs (read.0 ∷ []) None, read.1, placed, add read.0 read.2)) c.add_plain_need.ensures.ok c.add_plain_need.ensures.placed

pub returns-in-Some-clause-fault : goal.returns-in-Some-clause-fault
returns-in-Some-clause-fault c = λ e l is may.
    let t = c.args.self.now in
    let read = c.in-Some.ensures in
    let same : l ≡ Needs (read.0 ∷ []) None = cc (is, read.1) in
    let owned = subst (λ (x : Line). MayFollow (lines_in t) x) same may in
    let none = c.add_plain_need.ensures.fault e in
    absurd (cc (owned.1, none))
