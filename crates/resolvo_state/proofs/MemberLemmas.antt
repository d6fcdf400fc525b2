-- A solvable more is registered, and waits for its digits.
use Rattle.std.proofs.Common.{◌≡◌, ℕ, ◌+◌, ◌<◌, ◌≤◌, ◌⊎◌, inl, inr, Bool, true, false, cond, List, [], ◌∷◌, ◌++◌, length, drop, zero, suc, Some, refl, sym, ◌∙◌, ap, subst, arith}
use Rattle.std.specs.Prelude.{slice_get, Contains}
use Rattle.std.specs.List.{list_any}
use Rattle.std.proofs.lemmas.Bool.{cases_Bool}
use Rattle.std.proofs.lemmas.List.{length-append}
use Rattle.indexmap.specs.IndexSet.{insert_key}
use Rattle.resolvo_pool_core.specs.declared.id.VariableId.{VariableId}
use Rattle.resolvo_store_core.specs.AtMostOne.{IsPrefixOf}
use Rattle.resolvo_sat.proofs.Lists.{any_contained, contains_later, contains_left, contains_right, contains_only, contains_one, contains_parts}
use Rattle.resolvo_state.specs.declared.atom.ProofAtom.{ProofAtom}
use Rattle.resolvo_state.specs.declared.atom.ProofAtom.TheVariants.{Solvable}
use Rattle.resolvo_state.specs.declared.solver_state.SolverState.{SolverState}
use Rattle.resolvo_state.specs.declared.registry.Registry.{Registry}
use Rattle.resolvo_state.specs.declared.registry.Member.{Member}
use Rattle.resolvo_state.specs.Atoms.{Represents}
use Rattle.resolvo_state.specs.SolverState.{IsCoding, Gives}
use Rattle.resolvo_state.specs.Keys.{AreOnce, Includes}
use Rattle.resolvo_state.specs.Registered.{AreTied, IsInTracker, IsTracked, IsQueued, member, MarksMany, Registers}
use Rattle.resolvo_state.proofs.Positions.{get_last, get_contains, contains_get, prefix_get, prefix_same}
use Rattle.resolvo_state.proofs.Growth.{grows_same, trail_same}
use Rattle.resolvo_state.proofs.RegisterLemmas.{digits_same, ties_grow}

-- a value that isn't in the list is appended
pub inserted : {X : Type 0} (eq : X → X → Bool) (x : X) (xs ys : List X) → ((y : X) → eq x y ≡ true → x ≡ y) → ys ≡ insert_key eq xs x → Includes xs ys x
inserted {X} eq x xs ys exact is = elim (cases_Bool (list_any (eq x) xs)) [
  | inl e ↦
      let (y, there, h) = any_contained (eq x) xs e in
      subst (λ (zs : List X). Includes xs zs x) (sym (is ∙ ap (λ b. cond b xs (xs ++ x ∷ [])) e)) (record {
        prefix = prefix_same xs;
        present = subst (Contains xs) (sym (exact y h)) there;
        only = λ z k. inl k;
      })
  | inr e ↦ subst (λ (zs : List X). Includes xs zs x) (sym (is ∙ ap (λ b. cond b xs (xs ++ x ∷ [])) e)) (record {
    prefix = (x ∷ [], refl);
    present = contains_right x xs (x ∷ []) (contains_only x);
    only = λ z k. elim (contains_parts z xs (x ∷ []) k) [ inl j ↦ inl j | inr j ↦ inr (contains_one z x j, get_last xs x) ];
  })
]

-- a value that is in the list stays
pub included_known : {X : Type 0} (x : X) (xs : List X) → Contains xs x → Includes xs xs x
included_known x xs h = record { prefix = prefix_same xs; present = h; only = λ z k. inl k }

-- a value is appended
pub included_last : {X : Type 0} (x : X) (xs ys : List X) → ys ≡ xs ++ x ∷ [] → Includes xs ys x
included_last {X} x xs ys is = subst (λ (zs : List X). Includes xs zs x) (sym is) (record {
  prefix = (x ∷ [], refl);
  present = contains_right x xs (x ∷ []) (contains_only x);
  only = λ z k. elim (contains_parts z xs (x ∷ []) k) [ inl j ↦ inl j | inr j ↦ inr (contains_one z x j, get_last xs x) ];
})

-- the variable that represents an atom is given
pub gives_known : {N S : Type 0} (a : ProofAtom N S) (v : VariableId) (c : SolverState N S) → IsCoding c → Represents c.atoms.keys v a → Gives a v c c
gives_known a v c coding found = record {
  coding = coding;
  present = found;
  same = λ k h. refl;
  added = λ none. absurd (none found.0 found.2);
  grows = grows_same c;
  trail = trail_same c;
  clauses = refl;
  kinds = refl;
}

-- one of the prefix is one of the list
prefix_has : {X : Type 0} (xs ys : List X) (x : X) → IsPrefixOf xs ys → Contains xs x → Contains ys x
prefix_has {X} xs ys x (more, is) h = subst (λ (zs : List X). Contains zs x) (sym is) (contains_left x xs more h)

prefix_longer : {X : Type 0} (xs ys : List X) → IsPrefixOf xs ys → length xs ≤ length ys
prefix_longer xs ys (more, is) = let long : length ys ≡ length xs + length more = ap length is ∙ length-append xs more in omega arith

module _ {N S : Type 0} (name : N) (s : S) (v : VariableId) (r t : Registry N) (a b : SolverState N S) (tied : AreTied r a) (gives : Gives (Solvable s) v a b)
    (includes : Includes r.members.keys t.members.keys (member name v)) (names : t.names ≡ r.names) (trackers : t.trackers ≡ r.trackers) (waits : t.tied ≡ r.tied) (many : t.many ≡ r.many) where
  before : AreTied r b
  before = ties_grow r a b gives.grows (digits_same a b gives.kinds) tied

  keeps_tracked : (m : N) (u : VariableId) → IsTracked r m u → IsTracked t m u
  keeps_tracked m u h = prefix_has r.members.keys t.members.keys (member m u) includes.prefix h

  keeps_queued : (m : N) (u : VariableId) → IsQueued r m u → IsQueued t m u
  keeps_queued m u (k, low, at) = (k, subst (λ j. j ≤ k) (sym waits) low, prefix_get r.members.keys t.members.keys k (member m u) includes.prefix at)

  keeps_placed : (m : N) (u : VariableId) → IsInTracker r m u → IsInTracker t m u
  keeps_placed m u h = record {
    place = h.place;
    tracker = h.tracker;
    named = subst (λ ns. slice_get ns.keys h.place ≡ Some m) (sym names) h.named;
    tracked = subst (λ ts. slice_get ts.items h.place ≡ Some h.tracker) (sym trackers) h.tracked;
    present = h.present;
  }

  only_this : (m : N) (u : VariableId) → IsTracked t m u → IsTracked r m u ⊎ ((m ≡ name) × (u ≡ v) × IsQueued t m u)
  only_this m u h = elim (includes.only (member m u) h) [
    | inl k ↦ inl k
    | inr (is, at) ↦ inr (
      ap (λ (x : Member N). x.name) is,
      ap (λ (x : Member N). x.variable) is,
      (length r.members.keys, subst (λ j. j ≤ length r.members.keys) (sym waits) tied.within, at ∙ ap Some (sym is)),
    )
  ]

  tied_after : AreTied t b
  tied_after = record {
    each = subst (λ ns. length ns.keys ≡ length t.trackers.items) (sym names) (subst (λ ts. length r.names.keys ≡ length ts.items) (sym trackers) before.each);
    once = subst (λ ns. AreOnce ns.keys) (sym names) before.once;
    tied = λ k m w n h. before.tied k m w (subst (λ ns. slice_get ns.keys k ≡ Some m) names n) (subst (λ ts. slice_get ts.items k ≡ Some w) trackers h);
    placed = λ n m x place bit h. (let q = before.placed n m x place bit h in record {
      number = q.number;
      tracker = q.tracker;
      variable = q.variable;
      named = subst (λ ns. slice_get ns.keys q.number ≡ Some m) (sym names) q.named;
      tracked = subst (λ ts. slice_get ts.items q.number ≡ Some q.tracker) (sym trackers) q.tracked;
      present = q.present;
      means = q.means;
    });
    within =
        let low : r.tied ≤ length r.members.keys = tied.within in
        let long : length r.members.keys ≤ length t.members.keys = prefix_longer r.members.keys t.members.keys includes.prefix in
        let same : t.tied ≡ r.tied = waits in
        omega arith;
    solvables = λ m u h. elim (only_this m u h) [
      | inl k ↦ before.solvables m u k
      | inr (is, one, queued) ↦ (s, subst (λ (w : VariableId). Represents b.atoms.keys w (Solvable s)) (sym one) gives.present)
    ];
    registered = λ m u h. keeps_tracked m u (before.registered m u (record {
      place = h.place;
      tracker = h.tracker;
      named = subst (λ ns. slice_get ns.keys h.place ≡ Some m) names h.named;
      tracked = subst (λ ts. slice_get ts.items h.place ≡ Some h.tracker) trackers h.tracked;
      present = h.present;
    }));
    rest = λ m u h. elim (only_this m u h) [
      | inl k ↦ elim (before.rest m u k) [
        | inl j ↦ inl (keeps_placed m u j)
        | inr (inl j) ↦ inr (inl (keeps_queued m u j))
        | inr (inr j) ↦ inr (inr (subst (λ ns. Contains ns.keys m) (sym many) j))
      ]
      | inr (is, one, queued) ↦ inr (inl queued)
    ];
  }

  pub registers_is : Registers name s v r a t b
  registers_is = record {
    coding = gives.coding;
    grows = gives.grows;
    trail = gives.trail;
    tied = tied_after;
    clauses = gives.clauses;
    kinds = gives.kinds;
    present = gives.present;
    registered = includes.present;
    keeps = keeps_tracked;
    waits = keeps_queued;
    only = only_this;
    many = many;
  }

-- a package more is marked
pub marks_is : {N : Type 0} (name : N) (r t : Registry N) → Includes r.many.keys t.many.keys name → t ≡ record r { many = t.many } → MarksMany name r t
marks_is name r t includes rest = record {
  keeps = λ m h. prefix_has r.many.keys t.many.keys m includes.prefix h;
  marked = includes.present;
  only = λ m h. elim (includes.only m h) [ inl k ↦ inl k | inr (is, at) ↦ inr is ];
  rest = rest;
}

-- an item behind the first ones is among the rest
drop_has : {X : Type 0} (n k : ℕ) (xs : List X) (x : X) → n ≤ k → slice_get xs k ≡ Some x → Contains (drop n xs) x
drop_has zero k xs x low at = get_contains xs k x at
drop_has (suc n) k [] x low at = absurd cc
drop_has (suc n) zero (z ∷ xs) x low at = absurd (omega arith)
drop_has (suc n) (suc k) (z ∷ xs) x low at = drop_has n k xs x (omega arith) at

has_dropped : {X : Type 0} (n : ℕ) (xs : List X) (x : X) → Contains (drop n xs) x → Contains xs x
has_dropped zero xs x h = h
has_dropped (suc n) [] x h = h
has_dropped (suc n) (z ∷ xs) x h = contains_later x z xs (has_dropped n xs x h)

-- the members that wait are those behind the first ones
pub queued_has : {N : Type 0} (r : Registry N) (list : List (Member N)) → list ≡ drop r.tied r.members.keys → (name : N) (v : VariableId) → IsQueued r name v → Contains list (member name v)
queued_has {N} r list is name v (k, low, at) = subst (λ (xs : List (Member N)). Contains xs (member name v)) (sym is) (drop_has r.tied k r.members.keys (member name v) low at)

pub queued_only : {N : Type 0} (r : Registry N) (list : List (Member N)) → list ≡ drop r.tied r.members.keys → (name : N) (v : VariableId) → Contains list (member name v) → IsTracked r name v
queued_only {N} r list is name v h = has_dropped r.tied r.members.keys (member name v) (subst (λ (xs : List (Member N)). Contains xs (member name v)) is h)
