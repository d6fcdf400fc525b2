use Rattle.std.proofs.Common.{ap, sym, ◌∙◌, ◌∷◌, []}
use Rattle.resolvo_checker.specs.Built.{literal_of}
use Rattle.resolvo_checker.proofs.BuiltLemmas.{number_none, number_more}
use Rattle.resolvo_checker.proofs.clause_atoms.number_all.Goals as goal

pub loop-literal-init : goal.loop-literal-init
loop-literal-init c = λ vs clause e. rw c.clear.ensures.items (number_none vs c.args.numbers.now [] clause e)

pub loop-literal-preserved : goal.loop-literal-preserved
loop-literal-preserved c = λ vs clause e.
    number_more vs c.args.numbers.now c.loop-literal.numbers c.loop-literal.out.items c.push_literal.new.numbers c.push_literal.new.out.items c.args.built.now c.loop-literal.literal-index c.literal-item.result c.loop-literal-test.true
    (λ x f. c.loop-literal.invariant vs x f)
    (λ x f. c.in_ok-push_literal.ensures vs x (f ∙ ap (λ b. literal_of vs b.atom b.positive ∷ []) (sym c.literal-item.is)))
    clause e
