use Rattle.std.proofs.Common.{◌≡◌, ℕ, zero, suc, List, [], ◌∷◌, ◌++◌, take, drop, length, Option, refl, sym, ◌∙◌, ap, subst, arith}
use Rattle.std.specs.Prelude.{OnErr, Result, Ok, Err}
use Rattle.resolvo_store_core.specs.declared.watched_literals.WatchedLiterals.{WatchedLiterals}
use Rattle.resolvo_store.proofs.clause_store.ClauseStore.walk.Goals as goal

-- what follows from both facts of a refusal
of_refusal : {X E : Type 0} {A B C : Type 0} (r : Result X E) → OnErr r A → OnErr r B → (A → B → C) → OnErr r C
of_refusal (Ok x) a b f = tt
of_refusal (Err e) a b f = f a b

-- the first items, as many as there are
first_items : {X : Type 0} (xs ys : List X) (n : ℕ) → n ≡ length xs → take n (xs ++ ys) ≡ xs
first_items [] ys zero is = refl
first_items [] ys (suc n) is = absurd (omega (arith, is))
first_items (x ∷ xs) ys zero is = absurd (omega (arith, is))
first_items {X} (x ∷ xs) ys (suc n) is = ap (λ (zs : List X). x ∷ zs) (first_items xs ys n (omega (arith, is)))

pub returns-clause-err : goal.returns-clause-err
returns-clause-err g c = of_refusal c.walk.result c.walk.ensures.err c.walk.ensures.err_clauses (λ lists same.
    let items : List (Option WatchedLiterals) = c.self.inside.watched.items in
    rw (← c.self.view_is) (record {
      candidates = λ r. refl;
      disjunctions = refl;
      learnt = refl;
      clauses = refl;
      watched = subst (λ (xs : List (Option WatchedLiterals)). take c.self.inside.watched.len (xs ++ drop (length xs) items) ≡ items) (sym (same ∙ c.deref_mut.ensures.value)) (first_items items (drop (length items) items) c.self.inside.watched.len c.self.inside.watched.ok.0);
      watchers = λ l. lists l;
      trail = refl;
      needs = refl;
      score = λ n. refl;
    }))
