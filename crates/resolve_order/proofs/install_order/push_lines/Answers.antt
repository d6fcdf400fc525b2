use Rattle.std.proofs.Common.{◌∙◌, ℕ, ◌++◌, ◌∷◌, [], take, get_or, append_assoc, sym, ap, arith}
use Rattle.std.proofs.lemmas.List.{append-nil, take_all, take_more, map-append}
use Rattle.resolve_order.specs.Kept.{lines_for}
use Rattle.resolve_order.specs.declared.entry.Reason.TheVariants as reason
use Rattle.resolve_order.proofs.install_order.push_lines.Goals as goal

pub loop-line-init : goal.loop-line-init
loop-line-init c = sym (append-nil c.args.lines.now.items)

pub loop-line-preserved : goal.loop-line-preserved
loop-line-preserved c =
    let i = c.loop-line.line-index in
    let numbers = c.args.numbers.now in
    let before = c.args.lines.now.items in
    let f = λ (k : ℕ). reason.ForVersion c.args.version k in
    c.in_ok-push.ensures.items ∙ ap (λ xs. xs ++ f (get_or numbers i 0) ∷ []) c.loop-line.invariant
    ∙ append_assoc before (lines_for c.args.version (take i numbers)) (f (get_or numbers i 0) ∷ [])
    ∙ ap (λ xs. before ++ xs) (sym (map-append f (take i numbers) (get_or numbers i 0 ∷ [])) ∙ ap (lines_for c.args.version) (sym (take_more numbers i 0 c.loop-line-test.true)))

pub returns : goal.returns
returns c = c.loop-line.invariant ∙ ap (λ xs. c.args.lines.now.items ++ lines_for c.args.version xs) (take_all c.loop-line.line-index c.args.numbers.now (omega (arith, c.loop-line-test.false)))
