use Rattle.std.proofs.Common.{◌≡◌, ℕ, ◌<◌, length, List, Option, Some, None, false, ap, sym, ◌∙◌, subst, arith}
use Rattle.std.specs.Global.{Vec}
use Rattle.std.specs.Prelude.{IfNone}
use Rattle.std.specs.Io.KnownBytes.{IsAtEnd}
use Rattle.resolvo_text.specs.Reader.{left, TakesLine, EndsLine}
use Rattle.resolvo_text.proofs.LineLemmas.{plain_more, line_taken, last_line_taken, last_line_ended, fault_later}
use Rattle.std.proofs.lemmas.Result.{err_from_is_err_and}
use Rattle.std.proofs.lemmas.Grind.{common_steps}
use Rattle.std.proofs.lemmas.Bool.Decides.{nat_tests}
use Rattle.resolvo_text.proofs.lines.LineReader.take_across.Goals as goal

pub returns-in-Some-eq10-clause-taken : goal.returns-in-Some-eq10-clause-taken
returns-in-Some-eq10-clause-taken g c = λ yes.
    let begun = plain_more (left c.args.self.now (g.S.Source.left c.args.source.now)) (g.S.Source.left c.loop-self.source) c.args.self.now.room c.loop-self.self c.take_plain.new.self c.loop-self.invariant.0 c.loop-self.invariant.1 c.loop-self.invariant.3 c.in_ok-take_plain.ensures.taken in
    let taken = c.in_ok-next_byte.ensures.taken in
    let same : c.next_byte.new.self.line.items ≡ c.take_plain.new.self.line.items = ap (λ (v : Vec ℕ). v.items) c.in_ok-next_byte.ensures.line in
    let is : c.in_ok-next_byte.field-0 ≡ Some 10 = c.in-Some-eq10.is ∙ ap (λ (n : ℕ). Some n) c.in-Some-eq10.field-0-test in
    let takes = line_taken _ _ _ c.in_ok-next_byte.field-0 c.take_plain.new.self.line.items c.args.self.now.room c.take_plain.new.self.room c.next_byte.new.self.room begun.consumed taken is begun.plain begun.sum c.in_ok-next_byte.ensures.room in
    subst (λ (xs : List ℕ). TakesLine (left c.args.self.now (g.S.Source.left c.args.source.now)) c.args.self.now.room xs (left c.next_byte.new.self (g.S.Source.left c.next_byte.new.source)) c.next_byte.new.self.room) (sym same) takes

pub returns-in-None-clause-taken : goal.returns-in-None-clause-taken
returns-in-None-clause-taken g c = λ yes.
    let begun = plain_more (left c.args.self.now (g.S.Source.left c.args.source.now)) (g.S.Source.left c.loop-self.source) c.args.self.now.room c.loop-self.self c.take_plain.new.self c.loop-self.invariant.0 c.loop-self.invariant.1 c.loop-self.invariant.3 c.in_ok-take_plain.ensures.taken in
    let taken = c.in_ok-next_byte.ensures.taken in
    let same : c.next_byte.new.self.line.items ≡ c.take_plain.new.self.line.items = ap (λ (v : Vec ℕ). v.items) c.in_ok-next_byte.ensures.line in
    let is : c.in_ok-next_byte.field-0 ≡ None = c.in-None.is in
    let end : IsAtEnd (left c.take_plain.new.self (g.S.Source.left c.loop-self.source)) = subst (λ (o : Option ℕ). IfNone o (IsAtEnd (left c.take_plain.new.self (g.S.Source.left c.loop-self.source)))) is c.in_ok-next_byte.ensures.end in
    let some : 0 < length c.take_plain.new.self.line.items = grind (arith, common_steps, c.next_byte.new.self.line.ok.0, ap (λ (xs : List ℕ). length xs) same, nat_tests) in
    let takes = last_line_taken _ _ _ c.in_ok-next_byte.field-0 c.take_plain.new.self.line.items c.args.self.now.room c.take_plain.new.self.room c.next_byte.new.self.room begun.consumed taken is end begun.plain some begun.sum c.in_ok-next_byte.ensures.room in
    subst (λ (xs : List ℕ). TakesLine (left c.args.self.now (g.S.Source.left c.args.source.now)) c.args.self.now.room xs (left c.next_byte.new.self (g.S.Source.left c.next_byte.new.source)) c.next_byte.new.self.room) (sym same) takes

pub returns-in-None-clause-ending : goal.returns-in-None-clause-ending
returns-in-None-clause-ending g c = λ yes.
    let begun = plain_more (left c.args.self.now (g.S.Source.left c.args.source.now)) (g.S.Source.left c.loop-self.source) c.args.self.now.room c.loop-self.self c.take_plain.new.self c.loop-self.invariant.0 c.loop-self.invariant.1 c.loop-self.invariant.3 c.in_ok-take_plain.ensures.taken in
    let same : c.next_byte.new.self.line.items ≡ c.take_plain.new.self.line.items = ap (λ (v : Vec ℕ). v.items) c.in_ok-next_byte.ensures.line in
    let end : IsAtEnd (left c.take_plain.new.self (g.S.Source.left c.loop-self.source)) = subst (λ (o : Option ℕ). IfNone o (IsAtEnd (left c.take_plain.new.self (g.S.Source.left c.loop-self.source)))) c.in-None.is c.in_ok-next_byte.ensures.end in
    let ends = last_line_ended _ _ _ c.in_ok-next_byte.field-0 c.take_plain.new.self.line.items c.args.self.now.room c.take_plain.new.self.room c.next_byte.new.self.room begun.consumed c.in_ok-next_byte.ensures.taken c.in-None.is end begun.plain begun.sum c.in_ok-next_byte.ensures.room in
    subst (λ (xs : List ℕ). EndsLine false (left c.args.self.now (g.S.Source.left c.args.source.now)) c.args.self.now.room xs (left c.next_byte.new.self (g.S.Source.left c.next_byte.new.source)) c.next_byte.new.self.room) (sym same) ends

pub returns-in_err-next_byte-clause-fault : goal.returns-in_err-next_byte-clause-fault
returns-in_err-next_byte-clause-fault g c =
    let begun = plain_more (left c.args.self.now (g.S.Source.left c.args.source.now)) (g.S.Source.left c.loop-self.source) c.args.self.now.room c.loop-self.self c.take_plain.new.self c.loop-self.invariant.0 c.loop-self.invariant.1 c.loop-self.invariant.3 c.in_ok-take_plain.ensures.taken in
    let p = err_from_is_err_and c.from_residual-in_err-next_byte.result c.from_residual-in_err-next_byte.ensures.1 in
    rw (p.1, p.2) (fault_later c.in_err-next_byte.field-0.0 _ _ _ c.take_plain.new.self.line.items c.args.self.now.room c.take_plain.new.self.room _ _ _ _ begun.consumed begun.plain begun.sum c.loop-self.invariant.2 c.in_err-next_byte.ensures.fault)
