use Rattle.std.proofs.Common.{ℕ, List, map, sym, ap, subst}
use Rattle.resolvo_text.specs.Line.{Line}
use Rattle.resolvo_catalogue_core.specs.Questions.{ReadRequest, AreAll, LineIs, IsWish}
use Rattle.resolvo_catalogue_core.specs.RequestLines.{asked_lines}
use Rattle.resolvo_catalogue_core.proofs.request.Request.wishes.Goals as goal

pub returns-clause-lines : goal.returns-clause-lines
returns-clause-lines c =
    let answer = subst (λ (xs : List ℕ). AreAll xs (λ n. LineIs (asked_lines c.self.inside.asks) n IsWish)) (ap (λ fs. map (λ f. f.0) fs) (sym c.deref.ensures.value)) c.self.invariant.1 in
    subst (λ (ls : List Line). AreAll (map (λ f. f.0) c.deref.result.now) (λ n. LineIs ls n IsWish)) (ap (λ (s : ReadRequest). s.lines) c.self.view_is) answer
