use Rattle.std.proofs.Common.{◌≡◌, ◌∙◌, ℕ, ◌+◌, ◌++◌, ◌∷◌, [], sym, ap, add-one, arith}
use Rattle.resolve_order.specs.Kept.{lines_to}
use Rattle.resolve_order.specs.declared.entry.Reason.TheVariants as reason
use Rattle.resolve_order.proofs.install_order.request_lines.Goals as goal

pub loop-index-preserved : goal.loop-index-preserved
loop-index-preserved c =
    let i = c.loop-index.index in
    c.in_ok-push.ensures.items ∙ ap (λ xs. xs ++ reason.ForRequest (i + 1) ∷ []) c.loop-index.invariant
    ∙ ap (λ (n : ℕ). lines_to i ++ reason.ForRequest n ∷ []) (add-one i) ∙ ap lines_to (sym (add-one i))

pub returns : goal.returns
returns c = let all : c.loop-index.index ≡ c.args.count = omega (arith, c.loop-index-test.false, c.loop-index.auto.index-end) in c.loop-index.invariant ∙ ap lines_to all
