use Rattle.resolvo_terms.proofs.NameLemmas.{checked_stay}
use Rattle.resolvo_terms.proofs.names.Names.intern.Goals as goal

pub invariant_of-self : goal.invariant_of-self
invariant_of-self c = checked_stay c.self.inside.texts c.intern.new.self c.self.inside.checked c.intern.ensures.extends c.self.invariant

pub invariant_of-self-2 : goal.invariant_of-self-2
invariant_of-self-2 c =
    let texts = c.intern.new.self in
    c.checked_with-self-inside.ensures texts (checked_stay c.self.inside.texts texts c.self.inside.checked c.intern.ensures.extends c.self.invariant) c.in_ok-number.ensures.text
