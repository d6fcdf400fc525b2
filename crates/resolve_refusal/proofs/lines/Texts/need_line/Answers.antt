use Rattle.std.proofs.Common.{◌≡◌, ◌<◌, ◌≤◌, subst, Option, ℕ, arith}
use Rattle.resolvo_text.specs.View.{specs_of}
use Rattle.resolve_refusal.specs.Lines.{text_of, IsLineOf, IsAt, NeedsIn, IsCaseAt, count_of, number_at}
use Rattle.resolve_refusal.proofs.FindLemmas.{below_more, need_here, none_at_all}
use Rattle.resolve_refusal.proofs.lines.Texts.need_line.Goals as goal

pub loop-at-preserved : goal.loop-at-preserved
loop-at-preserved c =
    let text = text_of c.args.self.catalogue.now c.args.self.request.now.lines c.args.place in
    let alternatives = specs_of c.args.alternatives.now in
    let case = specs_of c.args.case.now in
    let none = subst (λ (o : Option ℕ). IsCaseAt text alternatives case c.number-line.result o) c.in_default.is c.in_ok-case.ensures.case in
    below_more (λ k. IsAt text (NeedsIn alternatives case) (number_at c.lines_of-lines.result k) → ⊥) c.loop-at.at c.loop-at.invariant
    (subst (λ (n : ℕ). IsAt text (NeedsIn alternatives case) n → ⊥) c.number-line.ensures none)

pub returns-clause-line : goal.returns-clause-line
returns-clause-line c =
    let text = text_of c.args.self.catalogue.now c.args.self.request.now.lines c.args.place in
    let end : count_of c.lines_of-lines.result ≤ c.loop-at.at = (let is : c.count-at-end.result ≡ count_of c.lines_of-lines.result = c.count-at-end.ensures in omega (arith, is, c.loop-at-test.false)) in
    none_at_all c.lines_of-lines.result (IsLineOf c.args.self.catalogue.now c.args.self.request.now.lines c.args.place) (IsAt text (NeedsIn (specs_of c.args.alternatives.now) (specs_of c.args.case.now)))
    c.lines_of-lines.ensures c.loop-at.at c.loop-at.invariant end

pub returns-in-Some-clause-line : goal.returns-in-Some-clause-line
returns-in-Some-clause-line c =
    let text = text_of c.args.self.catalogue.now c.args.self.request.now.lines c.args.place in
    let alternatives = specs_of c.args.alternatives.now in
    let case = specs_of c.args.case.now in
    let within : c.loop-at.at < count_of c.lines_of-lines.result = (let is : c.count-at-end.result ≡ count_of c.lines_of-lines.result = c.count-at-end.ensures in omega (arith, is, c.loop-at-test.true)) in
    need_here c.lines_of-lines.result (IsLineOf c.args.self.catalogue.now c.args.self.request.now.lines c.args.place) text alternatives case c.lines_of-lines.ensures c.loop-at.at c.loop-at.invariant within c.number-line.result c.in-Some.case c.number-line.ensures
    (subst (λ (o : Option ℕ). IsCaseAt text alternatives case c.number-line.result o) c.in-Some.is c.in_ok-case.ensures.case)
