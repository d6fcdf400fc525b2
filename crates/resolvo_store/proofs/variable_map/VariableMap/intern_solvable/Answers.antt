use Rattle.std.proofs.Common.{◌≡◌, ◌+◌, ◌∷◌, ◌++◌, [], List, Option, Some, cond, length, refl, sym, ◌∙◌, ap, subst, arith}
use Rattle.std.specs.Prelude.{ℕ, is_ok}
use Rattle.std.proofs.lemmas.List.{length-append}
use Rattle.resolvo_store.specs.declared.variable_map.VariableOrigin.{VariableOrigin}
use Rattle.resolvo_store.specs.declared.variable_map.VariableOrigin.TheVariants.{Root, Solvable}
use Rattle.resolvo_store.specs.Origins.{place_from, place_of, InternsAt}
use Rattle.resolvo_store.proofs.InternLemmas.{numbers_new}
use Rattle.resolvo_store.proofs.variable_map.VariableMap.intern_solvable.Goals as goal

pub returns-in-Some-clause-interned : goal.returns-in-Some-clause-interned
returns-in-Some-clause-interned g c =
    let place : place_of g.S.PartialEq.eq c.args.solvable c.args.self.now ≡ Some c.in-Some.number =
    ap (place_of g.S.PartialEq.eq c.args.solvable) (sym c.self.view_is) ∙ sym (c.self.invariant.1 c.args.solvable) ∙ sym c.get.ensures ∙ sym c.get-2.ensures ∙ c.in-Some.is in
    subst (λ (o : Option ℕ). InternsAt g.S.PartialEq.eq o c.args.solvable (record { 0 = c.in-Some.number }) c.args.self.now c.args.self.now) (sym place) (refl, refl)

pub invariant_of-self-2 : goal.invariant_of-self-2
invariant_of-self-2 g c =
    let room = c.in_ok-variable.ensures.next in
    let os = c.self.inside.origins.items in
    let grown : c.push.new.self.items ≡ os ++ Solvable c.args.solvable ∷ [] =
    c.push.ensures.items ∙ ap (λ r. cond (is_ok r) (c.reserve.new.self.items ++ Solvable c.args.solvable ∷ []) c.reserve.new.self.items) c.unwrap.ensures ∙ ap (λ (xs : List (VariableOrigin g.row.N.Denot g.row.S.Denot)). xs ++ Solvable c.args.solvable ∷ []) c.reserve.ensures.items in
    let long : length c.push.new.self.items ≡ length os + 1 = ap length grown ∙ length-append os (Solvable c.args.solvable ∷ []) in
    let len = c.len.ensures in
    let open_ = sym c.get.ensures ∙ sym c.get-2.ensures ∙ c.in_default.is in (
      omega arith,
      λ s. subst (λ (xs : List (VariableOrigin g.row.N.Denot g.row.S.Denot)). g.S.OptionalIds.IdMap.value_of c.set.new.self s ≡ place_from g.S.PartialEq.eq 1 s xs) (sym grown)
          (numbers_new g.S.PartialEq.eq (λ x y h. g.met.S.Exact.exact x y h) (Root ∷ os) (g.S.OptionalIds.IdMap.value_of c.self.inside.numbers) (g.S.OptionalIds.IdMap.value_of c.set.new.self) c.args.solvable c.in_ok-variable.variable.0
          c.self.invariant.1 open_ (omega arith) (rw c.of-number.ensures at c.in-Ok.ensures.put) s),
    )
