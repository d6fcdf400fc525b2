use Rattle.std.proofs.Common.{◌≡◌, ◌∙◌, ℕ, List, Some, sym, subst, arith, true}
use Rattle.std.specs.Prelude.{slice_get}
use Rattle.resolvo_text.specs.Spelling.{is_name}
use Rattle.resolvo_text.proofs.NameLemmas.{name_is_text}
use Rattle.resolvo_terms.specs.Names.{AreChecked}
use Rattle.resolvo_terms.proofs.NameLemmas.{checked_stay, checked_next, known_read, no_name}
use Rattle.resolvo_terms.proofs.names.Names.read_new.Goals as goal

pub invariant_of-self : goal.invariant_of-self
invariant_of-self c = checked_stay c.self.inside.texts c.add_new.new.self c.self.inside.checked c.add_new.ensures.extends c.self.invariant

pub invariant_of-self-then-number-self : goal.invariant_of-self-then-number-self
invariant_of-self-then-number-self c =
    let texts = c.add_new.new.self in
    let word : List ℕ = c.args.word.now in
    let stay = checked_stay c.self.inside.texts texts c.self.inside.checked c.add_new.ensures.extends c.self.invariant in
    let named : is_name word ≡ true = sym c.is_name.ensures ∙ c.if-not-is_name.false in
    let at : slice_get texts c.self.inside.checked ≡ Some word = subst (λ (k : ℕ). slice_get texts k ≡ Some word) c.if-number-self.true c.in-Ok.ensures.text in
    subst (λ (n : ℕ). AreChecked texts n) (omega arith) (checked_next texts c.self.inside.checked word stay at named)

pub invariant_of-self-else-number-self : goal.invariant_of-self-else-number-self
invariant_of-self-else-number-self c = checked_stay c.self.inside.texts c.add_new.new.self c.self.inside.checked c.add_new.ensures.extends c.self.invariant

pub add_new-requires-clause-utf8 : goal.add_new-requires-clause-utf8
add_new-requires-clause-utf8 c = name_is_text c.args.word.now (sym c.is_name.ensures ∙ c.if-not-is_name.false)

pub add_new-requires-clause-absent : goal.add_new-requires-clause-absent
add_new-requires-clause-absent c = λ i at. c.requires.absent i (subst (λ (xs : List (List ℕ)). slice_get xs i ≡ Some c.args.word.now) c.self.view_is at)

pub returns-then-not-is_name-clause-name : goal.returns-then-not-is_name-clause-name
returns-then-not-is_name-clause-name c = no_name c.args.word.now (sym c.is_name.ensures ∙ c.if-not-is_name.true)

pub returns-then-number-self-clause-name : goal.returns-then-number-self-clause-name
returns-then-number-self-clause-name c = known_read c.add_new.new.self c.in-Ok.number c.args.word.now c.in-Ok.ensures.text (sym c.is_name.ensures ∙ c.if-not-is_name.false)

pub returns-else-number-self-clause-name : goal.returns-else-number-self-clause-name
returns-else-number-self-clause-name c = known_read c.add_new.new.self c.in-Ok.number c.args.word.now c.in-Ok.ensures.text (sym c.is_name.ensures ∙ c.if-not-is_name.false)
