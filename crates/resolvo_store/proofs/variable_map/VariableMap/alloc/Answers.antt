use Rattle.std.proofs.Common.{◌≡◌, ◌+◌, ◌∷◌, [], List, length, sym, ◌∙◌, ap, subst, arith}
use Rattle.std.proofs.lemmas.List.{length-append}
use Rattle.resolvo_store.specs.declared.variable_map.VariableOrigin.{VariableOrigin}
use Rattle.resolvo_store.specs.declared.variable_map.VariableOrigin.TheVariants.{Root}
use Rattle.resolvo_store.specs.Origins.{place_from}
use Rattle.resolvo_store.proofs.InternLemmas.{numbers_other}
use Rattle.resolvo_store.proofs.variable_map.VariableMap.alloc.Goals as goal

pub invariant_of-self-2 : goal.invariant_of-self-2
invariant_of-self-2 g c =
    let room = c.in_ok-variable.ensures.next in
    let grown = c.in_ok-push.ensures.items in
    let long : length c.push.new.self.items ≡ length c.self.inside.origins.items + 1 = ap length grown ∙ length-append c.self.inside.origins.items (c.args.origin ∷ []) in
    let len = c.len.ensures in (
      omega arith,
      λ s. subst (λ (os : List (VariableOrigin g.row.N.Denot g.row.S.Denot)). g.S.OptionalIds.IdMap.value_of c.self.inside.numbers s ≡ place_from g.S.PartialEq.eq 1 s os) (sym grown)
          (numbers_other g.S.PartialEq.eq (Root ∷ c.self.inside.origins.items) (g.S.OptionalIds.IdMap.value_of c.self.inside.numbers) c.args.origin c.self.invariant.1 (c.requires g.S.PartialEq.eq) s),
    )
