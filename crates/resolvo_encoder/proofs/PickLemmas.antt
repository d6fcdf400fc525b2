-- Candidates in their order, and the first one of them that is not false.
use Rattle.std.proofs.Common.{◌≡◌, inl, inr, Bool, true, false, cond, List, [], ◌∷◌, ◌++◌, Some, find, is_some, refl, sym, ◌∙◌, ap, subst}
use Rattle.std.specs.Prelude.{Contains}
use Rattle.resolvo_pool_core.specs.declared.requirement.Requirement.{Requirement}
use Rattle.resolvo_pool_core.specs.OnePass.{Literal}
use Rattle.resolvo_pool_core.specs.RuleKeeping.{Packages, is_in}
use Rattle.resolvo_store_core.specs.Lists.{has_candidates, candidates_in, list_or_none}
use Rattle.resolvo_store_core.specs.declared.lists.Candidate.{Candidate}
use Rattle.resolvo_sat.specs.RuleClauses.{Atom}
use Rattle.resolvo_sat.specs.First.{IsFirstPick}
use Rattle.resolvo_sat.proofs.GrowLemmas.{first_pick_grows}
use Rattle.resolvo_sat.proofs.Lists.{contains_none, contains_cases, contains_first, contains_later}
use Rattle.resolvo_packages.specs.declared.package_source.Offered.{Offered}
use Rattle.resolvo_packages.specs.PackageSource.{offered_solvables}
use Rattle.resolvo_state.specs.declared.atom.ProofAtom.{ProofAtom}
use Rattle.resolvo_state.specs.declared.atom.ProofAtom.TheVariants.{Solvable}
use Rattle.resolvo_state.specs.declared.solver_state.SolverState.{SolverState}
use Rattle.resolvo_state.specs.Atoms.{Represents}
use Rattle.resolvo_state.specs.SolverState.{Grows}
use Rattle.resolvo_state.proofs.Growth.{represents_grow, rules_grow}
use Rattle.resolvo_state.proofs.Origins.{solvable_represents}
use Rattle.resolvo_encoder.specs.Encoded.{AreCandidates, HasOrder, AreOrdered, IsChosenFor}
use Rattle.resolvo_encoder.specs.Encoded as E
use Rattle.resolvo_encoder.specs.Steps.{KeepsLists, AddsCandidates}
use Rattle.resolvo_encoder.specs.declared.encoder.Encoder.{Encoder}

-- ---- candidates of solvables

-- they are kept where variables are added
pub candidates_grow : {N S : Type 0} (old new : SolverState N S) (cs : List (Candidate N)) (list : List S) → Grows old new → AreCandidates old.atoms.keys cs list → AreCandidates new.atoms.keys cs list
candidates_grow old new [] [] grows h = tt
candidates_grow old new [] (s ∷ ss) grows h = absurd h
candidates_grow old new (c ∷ cs) [] grows h = absurd h
candidates_grow old new (c ∷ cs) (s ∷ ss) grows (a, b, rest) = (a, represents_grow old new c.literal.variable (Solvable s) grows b, candidates_grow old new cs ss grows rest)

-- one more is offered, and a candidate
pub candidates_more : {N S : Type 0} (atoms : List (ProofAtom N S)) (cs : List (Candidate N)) (os : List (Offered N S)) (c : Candidate N) (o : Offered N S) → AreCandidates atoms cs (offered_solvables os) → c.literal.positive ≡ true → Represents atoms c.literal.variable (Solvable o.solvable)
    → AreCandidates atoms (cs ++ c ∷ []) (offered_solvables (os ++ o ∷ []))
candidates_more atoms [] [] c o h a b = (a, b, tt)
candidates_more atoms [] (p ∷ os) c o h a b = absurd h
candidates_more atoms (d ∷ cs) [] c o h a b = absurd h
candidates_more atoms (d ∷ cs) (p ∷ os) c o (e, f, rest) a b = (e, f, candidates_more atoms cs os c o rest a b)

-- two lists of candidates, one behind the other
candidates_both : {N S : Type 0} (atoms : List (ProofAtom N S)) (cs ds : List (Candidate N)) (ss ts : List S) → AreCandidates atoms cs ss → AreCandidates atoms ds ts → AreCandidates atoms (cs ++ ds) (ss ++ ts)
candidates_both atoms [] ds [] ts h k = k
candidates_both atoms [] ds (s ∷ ss) ts h k = absurd h
candidates_both atoms (c ∷ cs) ds [] ts h k = absurd h
candidates_both atoms (c ∷ cs) ds (s ∷ ss) ts (a, b, rest) k = (a, b, candidates_both atoms cs ds ss ts rest k)

-- candidates that each represent a solvable are those of a list
candidates_list : {N S : Type 0} (atoms : List (ProofAtom N S)) (cs : List (Candidate N)) → ((c : Candidate N) → Contains cs c → (s : S) × (c.literal.positive ≡ true) × Represents atoms c.literal.variable (Solvable s)) → (list : List S) × AreCandidates atoms cs list
candidates_list atoms [] each = ([], tt)
candidates_list atoms (c ∷ cs) each =
    let (s, a, b) = each c (contains_first c c cs refl) in
    let (list, rest) = candidates_list atoms cs (λ d h. each d (contains_later d c cs h)) in
    (s ∷ list, (a, b, rest))

-- each solvable of the list has its candidate
pub candidate_of : {N S : Type 0} (atoms : List (ProofAtom N S)) (cs : List (Candidate N)) (list : List S) (s : S) → AreCandidates atoms cs list → Contains list s → (c : Candidate N) × Contains cs c × (c.literal.positive ≡ true) × Represents atoms c.literal.variable (Solvable s)
candidate_of atoms [] [] s h a = absurd (contains_none s a)
candidate_of atoms [] (t ∷ ts) s h a = absurd h
candidate_of atoms (c ∷ cs) [] s h a = absurd h
candidate_of atoms (c ∷ cs) (t ∷ ts) s (e, f, rest) a = elim (contains_cases s t ts a) [
  | inl is ↦ (c, contains_first c c cs refl, e, subst (λ x. Represents atoms c.literal.variable (Solvable x)) (sym is) f)
  | inr b ↦ let (d, i, j, k) = candidate_of atoms cs ts s rest b in (d, contains_later d c cs i, j, k)
]

pub some_same : {X : Type 0} (x y : X) → Some x ≡ Some y → x ≡ y
some_same x y e = cc

-- candidates are those of one list
one_list : {N S : Type 0} (atoms : List (ProofAtom N S)) (cs : List (Candidate N)) (ss ts : List S) → AreCandidates atoms cs ss → AreCandidates atoms cs ts → ss ≡ ts
one_list atoms [] [] [] h k = refl
one_list atoms [] [] (t ∷ ts) h k = absurd k
one_list atoms [] (s ∷ ss) ts h k = absurd h
one_list atoms (c ∷ cs) [] ts h k = absurd h
one_list atoms (c ∷ cs) (s ∷ ss) [] h k = absurd k
one_list atoms (c ∷ cs) (s ∷ ss) (t ∷ ts) (a, b, rest) (d, e, more) =
    let first : s ≡ t = some_same s t (sym (solvable_represents atoms c.literal.variable s b) ∙ solvable_represents atoms c.literal.variable t e) in
    ap (λ x. x ∷ ss) first ∙ ap (λ xs. t ∷ xs) (one_list atoms cs ss ts rest more)

-- ---- the candidates of requirements

module _ {N S : Type 0} (old new : Encoder N S) (grows : Grows old.coding new.coding) (keeps : KeepsLists old new) where
  -- a requirement keeps its order
  order_stays : (r : Requirement) (list : List S) → HasOrder old r list → HasOrder new r list
  order_stays r list (has, are) = (
    ap is_some (keeps r has) ∙ has,
    subst (λ x. AreCandidates new.coding.atoms.keys (list_or_none x) list) (sym (keeps r has)) (candidates_grow old.coding new.coding (candidates_in old.lists r) list grows are),
  )

  -- a first pick stays one
  pub taken_grows : (same : S → S → Bool) (p : Packages N S) (known : List (Literal (Atom N S))) (l : Literal (Atom N S)) → IsFirstPick same p (HasOrder old) (E.rules_of old) known l → IsFirstPick same p (HasOrder new) (E.rules_of new) known l
  taken_grows same p known l k = first_pick_grows same p (E.rules_of old) (E.rules_of new) (rules_grow old.coding new.coding grows) (HasOrder old) (HasOrder new) known l order_stays k

  -- a decision for a soft requirement, or a first pick, remains one
  pub chosen_grows : new.recorded.softs.items ≡ old.recorded.softs.items → (same : S → S → Bool) (p : Packages N S) (known : List (Literal (Atom N S))) (l : Literal (Atom N S)) → IsChosenFor same p old known l → IsChosenFor same p new known l
  chosen_grows softs same p known l (inl w) = inl (record { solvable = w.solvable; is = w.is; wished = subst (λ (ws : List S). is_in same p ws w.solvable ≡ true) (sym softs) w.wished })
  chosen_grows softs same p known l (inr k) = inr (taken_grows same p known l k)

module _ {N S : Type 0} (orders : Requirement → List S → Type 0) where
  -- solvables offered in an order leave all candidates ordered
  pub ordered_adds : (r : Requirement) (offered : List (Offered N S)) (old new : Encoder N S) → Grows old.coding new.coding → AddsCandidates r offered old new → orders r (offered_solvables offered) → AreOrdered orders old → AreOrdered orders new
  ordered_adds r offered old new grows adds here before q has = elim (adds q has) [
    | inr (is, are) ↦ (offered_solvables offered, subst (λ x. orders x (offered_solvables offered)) (sym is) here, are)
    | inl stays ↦
        let (list, ordered, are) = before q (sym (ap is_some stays) ∙ has) in
        (list, ordered, subst (λ x. AreCandidates new.coding.atoms.keys (list_or_none x) list) (sym stays) (candidates_grow old.coding new.coding (candidates_in old.lists q) list grows are))
  ]

  -- so does a step that keeps the lists
  pub ordered_stays : (old new : Encoder N S) → Grows old.coding new.coding → new.lists ≡ old.lists → AreOrdered orders old → AreOrdered orders new
  ordered_stays old new grows lists before q has =
      let (list, ordered, are) = before q (subst (λ ls. has_candidates ls q ≡ true) lists has) in
      (list, ordered, candidates_grow old.coding new.coding (candidates_in new.lists q) list grows (subst (λ ls. AreCandidates old.coding.atoms.keys (candidates_in ls q) list) (sym lists) are))

  -- a first pick in the order of the candidates is one in an order of the requirement
  pub taken_ordered : (e : Encoder N S) (same : S → S → Bool) (p : Packages N S) → AreOrdered orders e → (known : List (Literal (Atom N S))) (l : Literal (Atom N S)) → IsFirstPick same p (HasOrder e) (E.rules_of e) known l → IsFirstPick same p orders (E.rules_of e) known l
  taken_ordered e same p ordered known l k = first_pick_grows same p (E.rules_of e) (E.rules_of e) (λ r h. h) (HasOrder e) orders known l in_order k
    where
      in_order : (r : Requirement) (list : List S) → HasOrder e r list → orders r list
      in_order r list (has, are) =
          let (other, is, too) = ordered r has in
          subst (λ xs. orders r xs) (one_list e.coding.atoms.keys (candidates_in e.lists r) other list too are) is

-- ---- the first that passes

-- the value that is found is behind others that don't pass
pub found_first : {X : Type 0} (f : X → Bool) (xs : List X) (x : X) → find f xs ≡ Some x → (before : List X) × (after : List X) × (xs ≡ before ++ x ∷ after) × (f x ≡ true) × ((y : X) → Contains before y → f y ≡ false)
found_first f [] x h = absurd cc
found_first {X} f (y ∷ ys) x h = go (f y) refl h (found_first f ys x)
  where
    go : (b : Bool) → f y ≡ b → cond b (Some y) (find f ys) ≡ Some x → (find f ys ≡ Some x → (before : List X) × (after : List X) × (ys ≡ before ++ x ∷ after) × (f x ≡ true) × ((z : X) → Contains before z → f z ≡ false))
        → (before : List X) × (after : List X) × (y ∷ ys ≡ before ++ x ∷ after) × (f x ≡ true) × ((z : X) → Contains before z → f z ≡ false)
    go true e i rest = let s : y ≡ x = some_same y x i in ([], ys, ap (λ z. z ∷ ys) s, ap f (sym s) ∙ e, λ z a. absurd (contains_none z a))
    go false e i rest =
        let (before, after, is, passes, fell) = rest i in
        (y ∷ before, after, ap (λ zs. y ∷ zs) is, passes, λ z a. elim (contains_cases z y before a) [ inl s ↦ ap f s ∙ e | inr b ↦ fell z b ])

-- Candidates with one among them are those of a list with its solvable at that place, and each solvable before it has a
-- candidate before that one.
pub listed_at : {N S : Type 0} (atoms : List (ProofAtom N S)) (before after : List (Candidate N)) (c : Candidate N) (s : S)
    → ((d : Candidate N) → Contains before d → (t : S) × (d.literal.positive ≡ true) × Represents atoms d.literal.variable (Solvable t)) → ((d : Candidate N) → Contains after d → (t : S) × (d.literal.positive ≡ true) × Represents atoms d.literal.variable (Solvable t))
    → c.literal.positive ≡ true → Represents atoms c.literal.variable (Solvable s)
    → (prefix : List S) × (back : List S) × AreCandidates atoms before prefix × AreCandidates atoms (before ++ c ∷ after) (prefix ++ s ∷ back)
listed_at atoms before after c s first last positive present =
    let (prefix, one) = candidates_list atoms before first in
    let (back, two) = candidates_list atoms after last in
    (prefix, back, one, candidates_both atoms before (c ∷ after) prefix (s ∷ back) one (positive, present, two))
