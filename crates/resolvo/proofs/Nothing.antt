-- A problem without requirements has the empty solution.
use Rattle.std.proofs.Common.{◌≡◌, ◌+◌, ◌<◌, Bool, true, false, take, List, [], ◌∷◌, length, ℕ, Option, Some, None, Vec, Global, refl, sym, ◌∙◌, ap, subst, arith, inl, inr}
use Rattle.std.specs.Prelude.{slice_get, Contains}
use Rattle.std.proofs.lemmas.Bool.{both_ways, cases_Bool}
use Rattle.std.proofs.lemmas.Option.{same_Some}
use Rattle.resolvo_pool_core.specs.declared.id.VersionSetId.{VersionSetId}
use Rattle.resolvo_pool_core.specs.declared.requirement.ConditionalRequirement.{ConditionalRequirement}
use Rattle.resolvo_pool_core.specs.declared.requirement.Requirement.{Requirement}
use Rattle.resolvo_pool_core.specs.declared.solver_id.SolvableIdOrRoot.{SolvableIdOrRoot}
use Rattle.resolvo_pool_core.specs.declared.solver_id.SolvableIdOrRoot.TheVariants.{Root}
use Rattle.resolvo_pool_core.specs.RuleKeeping.{Packages, Rules, is_in, is_member, rules_for, IsReached, IsRuleKeeping}
use Rattle.resolvo_pool_core.specs.Text.{solvable_of}
use Rattle.resolvo_sat.specs.Begin.{IsRootClause}
use Rattle.resolvo_sat.specs.Clauses.{SatClause}
use Rattle.resolvo_sat.specs.First.{ArePreferred}
use Rattle.resolvo_sat.proofs.Lists.{contains_none}
use Rattle.resolvo_state.specs.Chosen.{choices}
use Rattle.resolvo_state.specs.declared.atom.ProofAtom.{ProofAtom}
use Rattle.resolvo_state.proofs.Positions.{once_none}
use Rattle.resolvo_store_core.specs.declared.decision.Entry.{Entry}
use Rattle.resolvo_encoder.specs.declared.encoder.Encoder.{Encoder}
use Rattle.resolvo_encoder.specs.Encoded.{IsParentEncoded}
use Rattle.resolvo_encoder.specs.Steps.{IsBegunEncoding, IsNextEncoded}
use Rattle.resolvo.specs.declared.search.SearchResult.TheVariants.{Chosen}
use Rattle.resolvo.specs.declared.turns.Turn.{Turn}
use Rattle.resolvo.specs.Solution.{IsSolution}
use Rattle.resolvo.specs.Turns.{AreSolvedByTurn, first_of, on_trail}
use Rattle.resolvo.specs.Solve.{AreOnTrail, IsFound, IsPreferred}
use Rattle.resolvo.proofs.Found.{begun_rooted}

-- a literal that isn't true is false
is_none : (b : Bool) → (b ≡ true → ⊥) → b ≡ false
is_none true none = absurd (none refl)
is_none false none = refl

-- ---- the set without members

module _ {N S : Type 0} (same : S → S → Bool) (p : Packages N S) (root : Rules) (needless : root.requirements ≡ []) (free : root.constraints ≡ []) where
  no_need : (need : ConditionalRequirement) → Contains root.requirements need → ⊥
  no_need need h = contains_none need (subst (λ (ns : List ConditionalRequirement). Contains ns need) needless h)

  no_limit : (v : VersionSetId) → Contains root.constraints v → ⊥
  no_limit v h = contains_none v (subst (λ (vs : List VersionSetId). Contains vs v) free h)

  -- no member of it has a requirement
  no_member_needs : (parent : Option S) (need : ConditionalRequirement) → is_member same p root [] parent ≡ true → Contains (rules_for same p root parent).requirements need → ⊥
  no_member_needs None need member h = no_need need h
  no_member_needs (Some s) need member h = both_ways false refl member

  -- it keeps all rules
  empty_keeps : IsRuleKeeping same p root []
  empty_keeps = record {
    single = record { listed = λ s h. absurd (both_ways false refl h); one = λ s t h i e. absurd (both_ways false refl h) };
    obeys = record { requirements_met = λ parent need member h binds. absurd (no_member_needs parent need member h); constraints_kept = λ parent v s member h there. absurd (both_ways false refl there) };
    allowed = λ s h. absurd (both_ways false refl h);
    known = λ s h. absurd (both_ways false refl h);
  }

  -- nothing is reached in any set
  none_reached : (set : List S) (s : S) → IsReached same p root [] set s → ⊥
  none_reached set s h = both_ways false refl (h [] (record {
    inside = λ t a. absurd (both_ways false refl a);
    wished = λ t a b. absurd (both_ways false refl a);
    matches = λ parent need t member kinds binds meets there. absurd (no_member_needs parent need member kinds);
  }))

  empty_solves : IsSolution same p root []
  empty_solves = record { keeping = empty_keeps; reached = λ s h. absurd (both_ways false refl h); inside = λ s h. absurd (none_reached [] s h) }

  empty_turns : AreSolvedByTurn same p root [] 0 [] []
  empty_turns = record { solution = empty_solves; within = omega arith; turns = tt; whole = refl }

  empty_preferred : (orders : Requirement → List S → Type 0) → ArePreferred same p orders root []
  empty_preferred orders = record {
    within = λ set unbeaten s h. absurd (both_ways false refl h);
    whole = λ set unbeaten once s. sym (is_none (is_in same p set s) (λ h. none_reached set s (once.reached s h)));
    first = λ tried tries by set firsts s. sym (is_none (is_in same p set s) (λ h. both_ways false refl (firsts.least [] (λ parent need t member kinds binds is. absurd (no_member_needs parent need member kinds)) s h)));
  }

  -- so the empty set is the result
  pub nothing_found : (orders : Requirement → List S → Type 0) (e : Encoder N S) (v : Vec S Global) (turns : Vec (Turn S) Global) → v.items ≡ [] → turns.items ≡ [] → IsFound same p root [] e (Chosen v turns) × IsPreferred same p orders root (Chosen v turns)
  nothing_found orders e v turns empty none = (
    (
      subst (λ (ts : List (Turn S)). AreSolvedByTurn same p root v.items (first_of v.items ts) [] ts) (sym none) (subst (λ (xs : List S). AreSolvedByTurn same p root xs (length xs) [] []) (sym empty) empty_turns),
      λ t h. absurd (contains_none t (subst (λ (ts : List (Turn S)). Contains ts t) none h)),
    ),
    subst (λ (ts : List (Turn S)). ArePreferred same p orders root (take (first_of v.items ts) v.items)) (sym none) (subst (λ (xs : List S). ArePreferred same p orders root (take (length xs) xs)) (sym empty) (empty_preferred orders)),
  )

  -- ---- the encoding

  -- the root, which is the next parent, has no needs and no limits
  pub nothing_encoded : (e : Encoder N S) → IsBegunEncoding e → IsNextEncoded same p root e
  nothing_encoded e begun parent at =
      let is : Root ≡ parent = same_Some Root parent (subst (λ (n : ℕ). slice_get (Root ∷ []) n ≡ Some parent) begun.encoded (subst (λ (ks : List (SolvableIdOrRoot S)). slice_get ks e.encoded ≡ Some parent) begun.parents at)) in
      subst (λ (q : SolvableIdOrRoot S). IsParentEncoded same p e root (solvable_of q)) is (record {
        needs = λ need case h c. absurd (no_need need h);
        limits = λ v h. absurd (no_limit v h);
        guarded = λ v h. absurd (no_limit v h);
        unknown = λ s h. (let no : None ≡ Some s = h in absurd cc);
      })

-- a parent is to be encoded
pub parent_left : {N S : Type 0} (e : Encoder N S) → IsBegunEncoding e → e.encoded < length e.parents.keys
parent_left {N} {S} e begun =
    let one : length e.parents.keys ≡ 1 = ap (λ (ks : List (SolvableIdOrRoot S)). length ks) begun.parents in
    let none : e.encoded ≡ 0 = begun.encoded in
    omega arith

-- nothing is chosen, and the root is encoded
pub nothing_listed : {N S : Type 0} (a b : Encoder N S) → IsBegunEncoding a → b ≡ record a { encoded = a.encoded + 1 } → (xs : List S) → xs ≡ [] → AreOnTrail b xs
nothing_listed {N} {S} a b begun is xs empty =
    let none : on_trail a ≡ [] = ap (λ (atoms : List (ProofAtom N S)). choices atoms a.coding.search.tracker.trail) begun.coding.atoms ∙ ap (λ (es : List Entry). choices {N = N} {S = S} [] es) begun.coding.trail in
    let same : on_trail b ≡ on_trail a = ap (λ (x : Encoder N S). on_trail x) is in
    let next : b.encoded ≡ a.encoded + 1 = ap (λ (x : Encoder N S). x.encoded) is in
    record {
      in_order = empty ∙ sym (same ∙ none);
      once = once_none xs empty;
      encoded = record {
        root = (0, omega arith, subst (λ (x : Encoder N S). slice_get x.parents.keys 0 ≡ Some Root) (sym is) (begun_rooted a begun));
        each = λ s h. absurd (contains_none s (subst (λ (ys : List S). Contains ys s) empty h));
      };
    }

root_alone : (cs : List SatClause) → IsRootClause cs → length cs ≡ 1
root_alone [] h = absurd h
root_alone (c ∷ []) h = refl
root_alone (c ∷ d ∷ cs) h = absurd h

-- the root's clause is the only one
pub only_root : {N S : Type 0} (a b : Encoder N S) → IsBegunEncoding a → b ≡ record a { encoded = a.encoded + 1 } → length b.coding.search.clauses ≡ 1
only_root {N} {S} a b begun is = ap (λ (x : Encoder N S). length x.coding.search.clauses) is ∙ root_alone a.coding.search.clauses begun.coding.clause
