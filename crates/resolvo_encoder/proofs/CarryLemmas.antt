-- Registering several solvables, one after another.
use Rattle.std.proofs.Common.{ℕ, ◌<◌, ◌≤◌, ◌⊎◌, inl, inr, ltb, List, [], ◌∷◌, ◌++◌, refl, sym, ◌∙◌, subst, arith}
use Rattle.std.proofs.lemmas.Bool.{ltb-true, ltb-false, cases_Bool}
use Rattle.resolvo_pool_core.specs.declared.id.VariableId.{VariableId}
use Rattle.resolvo_store_core.specs.declared.lists.Candidate.{Candidate}
use Rattle.resolvo_sat.proofs.Lists.{contains_none, contains_left, contains_right, contains_only, contains_one, contains_parts}
use Rattle.resolvo_packages.specs.declared.package_source.Offered.{Offered}
use Rattle.resolvo_packages.specs.PackageSource.{offered_solvables}
use Rattle.resolvo_state.specs.declared.atom.ProofAtom.TheVariants.{Solvable}
use Rattle.resolvo_state.specs.declared.solver_state.SolverState.{SolverState}
use Rattle.resolvo_state.specs.declared.registry.Registry.{Registry}
use Rattle.resolvo_state.specs.Atoms.{Represents}
use Rattle.resolvo_state.specs.SolverState.{IsCoding, Grows}
use Rattle.resolvo_state.specs.Registered.{AreTied, IsTracked, Registers}
use Rattle.resolvo_encoder.specs.Steps.{IsOfferedAs, RegistersOne, RegistersAll}
use Rattle.resolvo_encoder.proofs.PickLemmas.{candidates_grow, candidates_more}
use Rattle.resolvo_state.proofs.Growth.{grows_same, grows_then, trail_same, trail_then, represents_grow}

-- the number is below the other, or it is not
pub split_at : (n k : ℕ) → (n < k) ⊎ (k ≤ n)
split_at n k = elim (cases_Bool (ltb n k)) [ inl e ↦ inl (ltb-true n k e) | inr e ↦ let h = ltb-false n k e in inr (omega (arith, h)) ]

-- nothing is registered
pub registers_none : {N S : Type 0} (r : Registry N) (c : SolverState N S) → IsCoding c → AreTied r c → RegistersAll [] [] r c r c
registers_none r c coding tied = record {
  coding = coding;
  grows = grows_same c;
  trail = trail_same c;
  tied = tied;
  keeps = λ m u h. h;
  waits = λ m u h. h;
  only = λ m u h. inl h;
  many = refl;
  clauses = refl;
  kinds = refl;
  each = λ o h. absurd (contains_none o h);
  all = λ x h. absurd (contains_none x h);
  ordered = tt;
}

offered_stays : {N S : Type 0} (r t : Registry N) (old new : SolverState N S) (o : Offered N S) (c : Candidate N) → Grows old new → ((m : N) (u : VariableId) → IsTracked r m u → IsTracked t m u) → IsOfferedAs r old o c → IsOfferedAs t new o c
offered_stays r t old new o c grows keeps h = record { positive = h.positive; present = represents_grow old new c.literal.variable (Solvable o.solvable) grows h.present; tracked = keeps o.name c.literal.variable h.tracked }

-- one more is registered
pub registers_more : {N S : Type 0} (xs : List (Offered N S)) (given : List (Candidate N)) (o : Offered N S) (candidate : Candidate N) (r s t : Registry N) (a b c : SolverState N S)
    → RegistersAll xs given r a s b → RegistersOne o candidate s b t c → RegistersAll (xs ++ o ∷ []) (given ++ candidate ∷ []) r a t c
registers_more {N} {S} xs given o candidate r s t a b c all one = record {
  coding = step.coding;
  grows = grows_then a b c all.grows step.grows;
  trail = trail_then a b c all.trail step.trail;
  tied = step.tied;
  keeps = λ m u h. step.keeps m u (all.keeps m u h);
  waits = λ m u h. step.waits m u (all.waits m u h);
  only = λ m u h. elim (step.only m u h) [
    | inl k ↦ elim (all.only m u k) [
      | inl j ↦ inl j
      | inr (x, present, e, f, queued) ↦ inr (x, contains_left x xs (o ∷ []) present, e, represents_grow b c u (Solvable x.solvable) step.grows f, step.waits m u queued)
    ]
    | inr (e, f, queued) ↦ inr (o, contains_right o xs (o ∷ []) (contains_only o), e, subst (λ v. Represents c.atoms.keys v (Solvable o.solvable)) (sym f) step.present, queued)
  ];
  many = step.many ∙ all.many;
  clauses = step.clauses ∙ all.clauses;
  kinds = step.kinds ∙ all.kinds;
  each = λ x h. elim (contains_parts x xs (o ∷ []) h) [
    | inl k ↦ let (d, present, e) = all.each x k in (d, contains_left d given (candidate ∷ []) present, offered_stays s t b c x d step.grows step.keeps e)
    | inr k ↦ (candidate, contains_right candidate given (candidate ∷ []) (contains_only candidate), subst (λ y. IsOfferedAs t c y candidate) (sym (contains_one x o k)) here)
  ];
  all = λ d h. elim (contains_parts d given (candidate ∷ []) h) [
    | inl k ↦ let (x, present, e) = all.all d k in (x, contains_left x xs (o ∷ []) present, offered_stays s t b c x d step.grows step.keeps e)
    | inr k ↦ (o, contains_right o xs (o ∷ []) (contains_only o), subst (λ y. IsOfferedAs t c o y) (sym (contains_one d candidate k)) here)
  ];
  ordered = candidates_more c.atoms.keys given xs candidate o (candidates_grow b c given (offered_solvables xs) step.grows all.ordered) one.literal step.present;
}
  where
    step : Registers o.name o.solvable candidate.literal.variable s b t c
    step = one.registers

    here : IsOfferedAs t c o candidate
    here = record { positive = one.literal; present = step.present; tracked = step.registered }
