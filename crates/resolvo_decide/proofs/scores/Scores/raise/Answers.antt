use Rattle.std.proofs.Common.{◌++◌, ◌∷◌, [], ◌∙◌, sym, ap, subst, arith}
use Rattle.resolvo_decide.specs.HotNames.{AreHot}
use Rattle.resolvo_decide.proofs.HotLemmas.{bumped_bound, hot_kept, hot_pushed}
use Rattle.resolvo_decide.proofs.scores.Scores.raise.Goals as goal

pub invariant_of-self-then-score-gt0 : goal.invariant_of-self-then-score-gt0
invariant_of-self-then-score-gt0 g c =
    let eq = g.N.PartialEq.eq in
    let exact = g.met.N.Exact.exact in
    let s = c.args.self.now in
    let old = g.C.ScoreMap.score_of s.map in
    let new = g.C.ScoreMap.score_of c.set.new.self in
    record {
      bounded = bumped_bound eq exact old new c.args.name c.args.score c.in_ok-set.ensures.put s.hot.items s.are_hot s.most s.bounded c.requires.bounded;
      are_hot = subst (λ names. AreHot new names) (sym (c.push_reserved.ensures.items ∙ ap (λ names. names ++ c.args.name ∷ []) c.reserve.ensures.items)) (hot_pushed eq exact old new c.args.name c.args.score c.in_ok-set.ensures.put s.hot.items s.are_hot g.met.N.Eq.laws.refl (omega (arith, c.if-score-gt0.true)));
    }

pub invariant_of-self-else-before-eq0 : goal.invariant_of-self-else-before-eq0
invariant_of-self-else-before-eq0 g c =
    let eq = g.N.PartialEq.eq in
    let exact = g.met.N.Exact.exact in
    let s = c.args.self.now in
    let old = g.C.ScoreMap.score_of s.map in
    let new = g.C.ScoreMap.score_of c.set.new.self in
    record {
      bounded = bumped_bound eq exact old new c.args.name c.args.score c.in_ok-set.ensures.put s.hot.items s.are_hot s.most s.bounded c.requires.bounded;
      are_hot = subst (λ names. AreHot new names) (sym c.reserve.ensures.items) (hot_kept eq exact old new c.args.name c.args.score c.in_ok-set.ensures.put s.hot.items s.are_hot c.requires.raised (λ none. absurd (omega (arith, none, c.get-before.ensures, c.if-before-eq0.false))));
    }
