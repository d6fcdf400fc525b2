-- The literals of conditions are kept, where lists and variables are added.
use Rattle.std.proofs.Common.{◌≡◌, ℕ, suc, ◌<◌, ◌≤◌, Bool, true, false, List, [], ◌∷◌, ◌++◌, length, inl, inr, Option, Some, None, refl, sym, ◌∙◌, ap, subst, arith}
use Rattle.std.specs.List.{list_all}
use Rattle.std.proofs.lemmas.Bool.{both_ways, and_parts, and_from}
use Rattle.resolvo_pool_core.specs.declared.id.DenseId.{DenseId}
use Rattle.resolvo_pool_core.specs.declared.id.DisjunctionTag.{DisjunctionTag}
use Rattle.resolvo_pool_core.specs.declared.id.VersionSetId.{VersionSetId}
use Rattle.resolvo_pool_core.specs.OnePass.{Literal}
use Rattle.resolvo_pool_core.specs.RuleKeeping.{Packages}
use Rattle.resolvo_store_core.specs.AtMostOne.{IsPrefixOf}
use Rattle.resolvo_store_core.specs.Signed.{Signed, has}
use Rattle.resolvo_store_core.specs.Lists.{condition_in, list_or_none, HasDisjunction}
use Rattle.resolvo_store_core.specs.declared.pick.NeedClause.{NeedClause}
use Rattle.resolvo_store_core.specs.declared.lists.FixedLists.{FixedLists}
use Rattle.resolvo_sat.specs.Steps.{AreInRange}
use Rattle.resolvo_sat.proofs.Literals.{has-cons, has_here, has_later, has-append, has_left, has_right}
use Rattle.resolvo_sat.specs.RuleClauses.{Atom, case_literals}
use Rattle.resolvo_sat.specs.Numbered.{meaning, Spells}
use Rattle.resolvo_sat.proofs.Lists.{contains_left, contains_right, contains_parts}
use Rattle.resolvo_sat.proofs.GrowLemmas.{spells_agree}
use Rattle.resolvo_state.specs.declared.atom.ProofAtom.TheVariants.{Solvable, Gate}
use Rattle.resolvo_state.specs.declared.solver_state.SolverState.{SolverState}
use Rattle.resolvo_state.specs.Kinds.{Kind}
use Rattle.resolvo_state.specs.Atoms.{origin}
use Rattle.resolvo_state.specs.SolverState.{Grows}
use Rattle.resolvo_state.proofs.Growth.{represents_grow}
use Rattle.resolvo_state.proofs.Origins.{origin_prefix}
use Rattle.resolvo_state.proofs.Positions.{get_below, prefix_get, prefix_long}
use Rattle.resolvo_encoder.specs.Encoded.{IsCondition, IsQueuedFor}

-- a condition keeps its literals where others are added behind it
condition_there : {N : Type 0} (old new : FixedLists N) (c : Option (DenseId DisjunctionTag ℕ)) → IsPrefixOf old.disjunctions new.disjunctions → HasDisjunction old c → HasDisjunction new c
condition_there old new None prefix h = h
condition_there old new (Some d) prefix h = let long : length old.disjunctions ≤ length new.disjunctions = prefix_long old.disjunctions new.disjunctions prefix in omega (arith, h)

condition_stays : {N : Type 0} (old new : FixedLists N) (c : Option (DenseId DisjunctionTag ℕ)) → IsPrefixOf old.disjunctions new.disjunctions → HasDisjunction old c → condition_in new c ≡ condition_in old c
condition_stays old new None prefix h = refl
condition_stays old new (Some d) prefix h =
    let (x, at) = get_below old.disjunctions d.raw h in
    ap list_or_none (prefix_get old.disjunctions new.disjunctions d.raw x prefix at ∙ sym at)

module _ {N S : Type 0} (same : S → S → Bool) (p : Packages N S) (lists more : FixedLists N) (old new : SolverState N S) (prefix : IsPrefixOf lists.disjunctions more.disjunctions) (grows : Grows old new) where
  condition_grows : (c : Option (DenseId DisjunctionTag ℕ)) (case : List VersionSetId) → IsCondition same p lists old.atoms.keys c case → IsCondition same p more new.atoms.keys c case
  condition_grows c case h = record {
    there = condition_there lists more c prefix h.there;
    in_range = subst (AreInRange (suc (length new.atoms.keys))) (sym literals) (λ l a. (let below : l.variable.0 < suc (length old.atoms.keys) = h.in_range l a in let long : length old.atoms.keys ≤ length new.atoms.keys = prefix_long old.atoms.keys new.atoms.keys grows.atoms in omega arith));
    spells = subst (λ (ls : List Signed). Spells (origin new.atoms.keys) ls (case_literals same p case)) (sym literals)
        (spells_agree (origin old.atoms.keys) (origin new.atoms.keys) (suc (length old.atoms.keys)) (λ n low high. origin_prefix old.atoms.keys new.atoms.keys n grows.atoms low high) (condition_in lists c) (case_literals same p case) h.in_range h.spells);
  }
    where
      literals : condition_in more c ≡ condition_in lists c
      literals = condition_stays lists more c prefix h.there

  -- the clause has the same decision where variables and lists are added
  pub queued_grows : (x : Option (Kind N S)) (q : NeedClause) → IsQueuedFor same p lists old.atoms.keys x q → IsQueuedFor same p more new.atoms.keys x q
  queued_grows None q h = h
  queued_grows (Some Kind.Root) q h = h
  queued_grows (Some (Kind.Needs None need case)) q (a, b, c) = (a, condition_grows q.condition case b, c)
  queued_grows (Some (Kind.Needs (Some s) need case)) q (a, b, c) = (a, condition_grows q.condition case b, represents_grow old new q.parent (Solvable s) grows c)
  queued_grows (Some (Kind.Gated s r)) q h = h
  queued_grows (Some (Kind.Shared r)) q (a, b, c) = (a, b, represents_grow old new q.parent (Gate r) grows c)
  queued_grows (Some (Kind.Limits parent v s)) q h = h
  queued_grows (Some (Kind.LimitsOutside parent v)) q h = h
  queued_grows (Some (Kind.IsOut v s)) q h = h
  queued_grows (Some (Kind.Locked locked s)) q h = h
  queued_grows (Some (Kind.Excluded s why)) q h = h
  queued_grows (Some (Kind.Digit n s place bit)) q h = h
  queued_grows (Some (Kind.IsThere n s)) q h = h
  queued_grows (Some (Kind.Matches w s)) q h = h
  queued_grows (Some Kind.Learnt) q h = h

-- ---- clauses in parts

-- two lists of literals, one behind the other, have the meanings of both
pub spells_join : {N S : Type 0} (origin : ℕ → Atom N S) (xs ys : List Signed) (ms ns : List (Literal (Atom N S))) → Spells origin xs ms → Spells origin ys ns → Spells origin (xs ++ ys) (ms ++ ns)
spells_join origin xs ys ms ns f g = record {
  only = λ l h. elim (has-append xs ys l h) [
    | inl a ↦ elim (f.only l a) [ inl z ↦ inl z | inr (z, c) ↦ inr (z, contains_left (meaning origin l) ms ns c) ]
    | inr a ↦ elim (g.only l a) [ inl z ↦ inl z | inr (z, c) ↦ inr (z, contains_right (meaning origin l) ms ns c) ]
  ];
  each = λ m h. elim (contains_parts m ms ns h) [
    | inl a ↦ (let (l, present, means) = f.each m a in (l, has_left xs ys l present, means))
    | inr a ↦ (let (l, present, means) = g.each m a in (l, has_right xs ys l present, means))
  ];
}

-- a property of each item is one of each literal in the list
pub all_has : (f : Signed → Bool) (xs : List Signed) (l : Signed) → list_all f xs ≡ true → has xs l ≡ true → f l ≡ true
all_has f [] l h a = absurd (both_ways false refl a)
all_has f (x ∷ xs) l h a =
    let (here, rest) = and_parts (f x) (list_all f xs) h in
    elim (has-cons x xs l a) [ inl is ↦ subst (λ y. f y ≡ true) is here | inr b ↦ all_has f xs l rest b ]

pub has_all : (f : Signed → Bool) (xs : List Signed) → ((l : Signed) → has xs l ≡ true → f l ≡ true) → list_all f xs ≡ true
has_all f [] each = refl
has_all f (x ∷ xs) each = and_from (f x) (list_all f xs) (each x (has_here x xs x refl)) (has_all f xs (λ l h. each l (has_later x xs l h)))
