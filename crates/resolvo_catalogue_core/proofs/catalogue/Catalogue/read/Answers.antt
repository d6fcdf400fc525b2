use Rattle.std.proofs.Common.{ℕ, List, [], ◌∷◌, length, sym, ap, subst, ◌∙◌, refl, arith}
use Rattle.std.proofs.lemmas.List.{length-append}
use Rattle.std.proofs.lemmas.Result.{err_from_is_err_and}
use Rattle.resolvo_text.specs.Reader.{left, unread, TakesLine}
use Rattle.resolvo_text.proofs.ReadTo.{at_start, one_more, read_fails}
use Rattle.resolvo_catalogue_core.specs.Grammar.{IsCatalogueLine}
use Rattle.resolvo_catalogue_core.specs.Table.{lines_in}
use Rattle.resolvo_catalogue_core.proofs.CatalogueFacts.{no_lines, lines_push, few_push}
use Rattle.resolvo_catalogue_core.proofs.catalogue.Catalogue.read.Goals as goal

pub loop-reader-init : goal.loop-reader-init
loop-reader-init g c =
    let known = g.S.Source.left c.args.source.now in
    let reader = c.in_ok-reader.reader in
    let empty = c.in_ok-table.ensures.empty in (
      at_start IsCatalogueLine known (left reader known) (unread reader) (lines_in c.in_ok-table.table) 16777216 reader.room refl c.in_ok-reader.ensures.fresh empty c.in_ok-reader.ensures.room,
      c.in_ok-table.ensures.table,
      no_lines (lines_in c.in_ok-table.table) empty,
      sym (ap (λ ls. length ls) empty),
      omega (arith, c.in_ok-reader.ensures.room),
      refl,
      c.in_ok-table.ensures.few,
    )

pub returns-in_err-next_line-clause-fault : goal.returns-in_err-next_line-clause-fault
returns-in_err-next_line-clause-fault g c =
    let p = err_from_is_err_and c.from_residual-in_err-next_line.result c.from_residual-in_err-next_line.ensures.1 in
    let known = g.S.Source.left c.args.source.now in
    let before = left c.loop-reader.reader (g.S.Source.left c.loop-reader.source) in
    let after = g.S.Source.left c.next_line.new.source in
    rw (p.1, p.2) (read_fails IsCatalogueLine c.in_err-next_line.field-0.0 known before after (lines_in c.loop-reader.table) c.loop-reader.number 16777216 c.loop-reader.reader.room
    (g.S.Source.failures c.loop-reader.source) (g.S.Source.failures c.args.source.now) (g.S.Source.failures c.next_line.new.source) (g.S.Source.interruptions c.next_line.new.source) c.loop-reader.invariant.0 c.loop-reader.invariant.5 c.in_err-next_line.ensures.fault)

pub loop-reader-preserved : goal.loop-reader-preserved
loop-reader-preserved g c =
    let known = g.S.Source.left c.args.source.now in
    let before = left c.loop-reader.reader (g.S.Source.left c.loop-reader.source) in
    let after = left c.next_line.new.self (g.S.Source.left c.next_line.new.source) in
    let taken : TakesLine before c.loop-reader.reader.room c.line.result.now after c.next_line.new.self.room
    = subst (λ (xs : List ℕ). TakesLine before c.loop-reader.reader.room xs after c.next_line.new.self.room) (sym c.line.ensures) (c.in_ok-next_line.ensures.taken c.if-branch.true) in
    let new = c.in-Ok.ensures.ok in
    let old = lines_in c.loop-reader.table in
    let more = lines_in c.read_line.new.self in (
      one_more IsCatalogueLine known before after old more c.line.result.now new.0 c.loop-reader.number 16777216 c.loop-reader.reader.room c.next_line.new.self.room c.loop-reader.invariant.0 taken new.1 new.2.1,
      new.2.0,
      lines_push old more c.line.result.now new.0 c.loop-reader.invariant.2 new.1 new.2.1,
      omega (arith, c.loop-reader.invariant.3, ap (λ ls. length ls) new.2.1, length-append old (new.0 ∷ [])),
      omega (arith, c.in_ok-next_line.ensures.progress c.if-branch.true, c.loop-reader.invariant.4),
      c.in_ok-next_line.ensures.failures ∙ c.loop-reader.invariant.5,
      few_push c.loop-reader.table c.read_line.new.self new.0 c.loop-reader.invariant.6 new.2.1 new.2.2,
    )
