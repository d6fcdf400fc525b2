use Rattle.std.proofs.Common.{◌∙◌, map, sym, ap}
use Rattle.resolvo_terms.specs.Found.{keyed_number}
use Rattle.resolvo_terms.proofs.KeyedLemmas.{keyed_if, keyed_absent}
use Rattle.resolvo_terms.proofs.numbered.Numbered.find.Goals as goal

pub returns-clause-found : goal.returns-clause-found
returns-clause-found g c =
    keyed_if g.T.HasKey.key_of c.args.self.now.values.items c.args.self.now.index c.requires.keyed c.requires.exact c.args.value c.args.key.now c.requires.key c.find.result
    (c.find.ensures ∙ ap (λ xs. keyed_number (map g.T.HasKey.key_of xs) c.args.self.now.index c.args.key.now) c.deref.ensures.value)

pub returns-clause-absent : goal.returns-clause-absent
returns-clause-absent g c = λ none i at.
    keyed_absent (map g.T.HasKey.key_of c.args.self.now.values.items) c.args.self.now.index c.requires.keyed c.args.key.now
    (sym none ∙ (c.find.ensures ∙ ap (λ xs. keyed_number (map g.T.HasKey.key_of xs) c.args.self.now.index c.args.key.now) c.deref.ensures.value)) i at
