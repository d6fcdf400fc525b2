use Rattle.std.proofs.Common.{◌∙◌, List, map, sym, subst}
use Rattle.resolvo_terms.specs.Found.{AreKeyed}
use Rattle.resolvo_terms.proofs.KeyedLemmas.{keyed_alike}
use Rattle.resolvo_terms.proofs.numbered.Numbered.copy.Goals as goal

pub returns-clause-keyed : goal.returns-clause-keyed
returns-clause-keyed g c =
    subst (λ (xs : List _). AreKeyed (map g.T.HasKey.key_of xs) c.in_ok-index.index) (sym (c.in_ok-values.ensures ∙ c.deref.ensures.value))
    (keyed_alike (map g.T.HasKey.key_of c.args.self.now.values.items) c.args.self.now.index c.in_ok-index.index c.in_ok-index.ensures.slots c.in_ok-index.ensures.others c.requires)
