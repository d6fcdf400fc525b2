use Rattle.std.proofs.Common.{◌≡◌, ◌∙◌, ◌∷◌, ◌++◌, [], List, length, map, ap, sym, subst, arith}
use Rattle.resolvo_terms.specs.Found.{AreKeyed}
use Rattle.resolvo_terms.proofs.FoundLemmas.{last_there}
use Rattle.resolvo_terms.proofs.KeyedLemmas.{keyed_push}
use Rattle.resolvo_terms.proofs.numbered.Numbered.add.Goals as goal

pub returns-clause-value : goal.returns-clause-value
returns-clause-value g c =
    let old = c.args.self.now.values.items in
    let count : c.in_ok-index.index ≡ length old = omega (arith, c.args.self.now.values.ok, c.len.ensures, c.in_ok-index.ensures.index.0) in
    let items : c.push_reserved.new.self.items ≡ old ++ c.args.value ∷ [] = c.push_reserved.ensures.items ∙ ap (λ (xs : List _). xs ++ c.args.value ∷ []) c.in_ok-reserve.ensures.items in
    last_there old c.push_reserved.new.self.items c.args.value items c.in_ok-index.index count

pub returns-clause-keyed : goal.returns-clause-keyed
returns-clause-keyed g c =
    let old = c.args.self.now.values.items in
    let count : c.in_ok-index.index ≡ length old = omega (arith, c.args.self.now.values.ok, c.len.ensures, c.in_ok-index.ensures.index.0) in
    let items : c.push_reserved.new.self.items ≡ old ++ c.args.value ∷ [] = c.push_reserved.ensures.items ∙ ap (λ (xs : List _). xs ++ c.args.value ∷ []) c.in_ok-reserve.ensures.items in
    subst (λ (xs : List _). AreKeyed (map g.T.HasKey.key_of xs) c.put.new.self) (sym items)
    (keyed_push g.T.HasKey.key_of old c.args.self.now.index c.put.new.self c.args.value c.args.key c.in_ok-index.index c.requires.key count c.requires.keyed c.requires.absent c.in_ok-put.ensures.put)
