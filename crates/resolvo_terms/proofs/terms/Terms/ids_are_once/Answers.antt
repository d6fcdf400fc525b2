use Rattle.std.proofs.Common.{subst}
use Rattle.resolvo_terms.specs.Terms.{Terms, AreSound}
use Rattle.resolvo_terms.specs.Found.{set_key}
use Rattle.resolvo_terms.proofs.KeyedLemmas.{keyed_once}
use Rattle.resolvo_terms.proofs.terms.Terms.ids_are_once.Goals as goal

pub returns : goal.returns
returns c = subst (λ (t : Terms). AreSound t) c.self.view_is (record {
  below = c.self.invariant.0.below;
  names = c.texts_are_once.ensures;
  words = c.texts_are_once-2.ensures;
  version_sets = keyed_once set_key c.self.inside.version_sets.values.items c.self.inside.version_sets.index c.self.invariant.0.sets;
  unions = c.lists_are_once.ensures;
  several = c.self.invariant.0.several;
})
