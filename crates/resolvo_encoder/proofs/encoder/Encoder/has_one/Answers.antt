use Rattle.std.proofs.Common.{◌≡◌, ◌+◌, ◌∷◌, ◌++◌, [], ◌∙◌, List, take, subst, sym, ap}
use Rattle.std.specs.Prelude.{Contains}
use Rattle.std.proofs.lemmas.List.{take_more, take_all}
use Rattle.resolvo_sat.proofs.Lists.{contains_none}
use Rattle.resolvo_encoder.specs.Conditions.{IsTrueNow}
use Rattle.resolvo_encoder.proofs.FireLemmas.{none_more}
use Rattle.resolvo_encoder.proofs.encoder.Encoder.has_one.Goals as goal

pub loop-candidate-init : goal.loop-candidate-init
loop-candidate-init g c = λ s h. absurd (contains_none s h)

pub loop-candidate-preserved : goal.loop-candidate-preserved
loop-candidate-preserved g c =
    let more : take (c.loop-candidate.candidate-index + 1) c.args.candidates.now ≡ take c.loop-candidate.candidate-index c.args.candidates.now ++ c.candidate-item.result ∷ [] =
    take_more c.args.candidates.now c.loop-candidate.candidate-index c.candidate-item.result c.loop-candidate-test.true ∙ ap (λ x. take c.loop-candidate.candidate-index c.args.candidates.now ++ x ∷ []) (sym c.candidate-item.is) in
    none_more (λ s. IsTrueNow c.args.self.now s → ⊥) (take c.loop-candidate.candidate-index c.args.candidates.now) c.candidate-item.result (take (c.loop-candidate.candidate-index + 1) c.args.candidates.now) more c.loop-candidate.invariant (c.is_chosen.ensures.not_chosen c.if-is_chosen.false)

pub returns-clause-none : goal.returns-clause-none
returns-clause-none g c = λ h (s, present, now). c.loop-candidate.invariant s (subst (λ (xs : List _). Contains xs s) (sym (take_all c.loop-candidate.candidate-index c.args.candidates.now c.loop-candidate-test.false)) present) now
