-- The search takes the candidates that are tried first.
use Rattle.std.proofs.Common.{◌≡◌, ℕ, inl, inr, Bool, true, false, ◌||◌, List, [], ◌∷◌, ◌++◌, Option, Some, None, refl, sym, ◌∙◌, ap, subst}
use Rattle.std.specs.Prelude.{Contains}
use Rattle.std.specs.List.{list_any, flat_map}
use Rattle.std.proofs.lemmas.Bool.{or_cases, and_parts, both_ways, cases_Bool}
use Rattle.resolvo_pool_core.specs.declared.id.VersionSetId.{VersionSetId}
use Rattle.resolvo_pool_core.specs.declared.requirement.Requirement.{Requirement}
use Rattle.resolvo_pool_core.specs.OnePass.{Literal, is_true_at, clause_true}
use Rattle.resolvo_pool_core.specs.Provider.{listed}
use Rattle.resolvo_pool_core.specs.Text.{alternatives_of}
use Rattle.resolvo_pool_core.specs.RuleKeeping.{Packages, Rules, IsLawful, is_in, is_match, meets, is_member, IsSingle, is_many}
use Rattle.resolvo_sat.specs.RuleClauses.{IsExact, Atom, Rule, plus, minus, literals_of, IsRule, value, shown, AgreeWith}
use Rattle.resolvo_sat.specs.SearchEnd.{IsCalledFor, IsTrail, IsEnd}
use Rattle.resolvo_sat.specs.First.{IsFirst, IsTriedBefore, TriesMatches, order, AreTriedBy, HoldsFirst, IsFirstChoices, IsFirstPick, IsUnbeaten, IsReachedOnce, ArePreferred}
use Rattle.resolvo_sat.proofs.Lists.{contains_none, contains_first, contains_right}
use Rattle.resolvo_sat.proofs.Members.{plus_true, true_plus, true_minus, candidate_named, contained_in, in_contained}
use Rattle.resolvo_sat.proofs.Sound.{rules_sound}
use Rattle.resolvo_sat.proofs.Reached.{binds_grows, asked_binds, trail_true}
use Rattle.resolvo_sat.proofs.Ended.{does_obey}

-- a list with an element has a first
has_first : {S : Type 0} (s : S) (list : List S) → Contains list s → (f : S) × IsFirst list f
has_first s [] c = absurd (contains_none s c)
has_first s (x ∷ xs) c = (x, refl)

-- nothing is tried before the first
before_first : {S : Type 0} (list : List S) (s f : S) → IsFirst list f → IsTriedBefore list s f → ⊥
before_first list s f i t = go t.before t.unless t.splits
  where
    go : (before : List _) → (Contains before f → ⊥) → list ≡ before ++ s ∷ t.after → ⊥
    go [] none e = t.differs (subst (λ xs. IsFirst xs f) e i)
    go (b ∷ before) none e = none (contains_first f b before (subst (λ xs. IsFirst xs f) e i))

any-append : {X : Type 0} (f : X → Bool) (xs ys : List X) → list_any f (xs ++ ys) ≡ (list_any f xs || list_any f ys)
any-append f [] ys = refl
any-append f (x ∷ xs) ys = ap (λ b. f x || b) (any-append f xs ys) ∙ sym (or_assoc (f x) (list_any f xs) (list_any f ys))
  where
    or_assoc : (a b c : Bool) → ((a || b) || c) ≡ (a || (b || c))
    or_assoc true b c = refl
    or_assoc false b c = refl

-- tests are one where each is true where the other is
one_truth : (a b : Bool) → (a ≡ true → b ≡ true) → (b ≡ true → a ≡ true) → a ≡ b
one_truth true b f g = sym (f refl)
one_truth false true f g = g refl
one_truth false false f g = refl

module _ {N S : Type 0} (same : S → S → Bool) (exact : IsExact same) (p : Packages N S) where
  -- a first pick is called for, where candidates are matches
  pub first_called_for : (orders : Requirement → List S → Type 0) (rules : Rule N S → Type 0) (softs : List S) (known : List (Literal (Atom N S))) (l : Literal (Atom N S))
      → ((r : Requirement) (list : List S) (s : S) → orders r list → Contains list s → meets same p r s ≡ true) → IsFirstPick same p orders rules known l → IsCalledFor same p rules softs known l
  first_called_for orders rules softs known l offers k = inr (record {
    requirement = k.requirement;
    asked = k.asked;
    solvable = k.solvable;
    is = k.is;
    offered = offers k.requirement k.first.list k.solvable k.first.ordered (subst (λ xs. Contains xs k.solvable) (sym k.first.splits) (contains_right k.solvable k.first.before (k.solvable ∷ k.first.after) (contains_first k.solvable k.solvable k.first.after refl)));
  })

  -- two matches of the only alternative of a requirement, both members of a single set, are one
  one_match : (first : List S) (vs : List VersionSetId) (v : VersionSetId) (s t : S) → IsLawful p → ((n : N) → is_many p n ≡ false) → IsSingle same p first → vs ≡ v ∷ [] → list_any (λ x. is_match same p x s) vs ≡ true → list_any (λ x. is_match same p x t) vs ≡ true → is_in same p first s ≡ true → is_in same p first t ≡ true → s ≡ t
  one_match first vs v s t law unmarked single e a b c d = single.one s t c d (name s a ∙ sym (name t b)) (unmarked (p.package_of s))
    where
      name : (n : S) → list_any (λ x. is_match same p x n) vs ≡ true → p.package_of n ≡ p.set_package v
      name n h = elim (or_cases (is_match same p v n) false (subst (λ (xs : List VersionSetId). list_any (λ x. is_match same p x n) xs ≡ true) e h)) [
        | inl m ↦ candidate_named same exact p law (p.set_package v) n (and_parts (is_in same p (listed (p.candidates_of (p.set_package v))) n) (p.matches v n) m).0
        | inr m ↦ absurd (both_ways false refl m)
      ]

  module _ (root : Rules) (rules : Rule N S → Type 0) (registered : S → Type 0) (orders : Requirement → List S → Type 0) where
    -- what a trail of first picks makes true is so under the values of a set that those which it chooses don't beat
    unbeaten_holds : (chosen set : List S) (digits : N → ℕ → Bool) (known : List (Literal (Atom N S)))
        → ((r : Rule N S) → rules r → IsRule same p root r) → ((r : Rule N S) → rules r → clause_true (value same p digits set) (literals_of same p r) ≡ true) → IsUnbeaten same p orders root chosen set
        → ((s : S) → Contains known (plus (Atom.solvable s)) → is_in same p chosen s ≡ true) → IsTrail same p rules registered (IsFirstPick same p orders rules) known
        → (l : Literal (Atom N S)) → Contains known l → is_true_at (value same p digits set) l ≡ true
    unbeaten_holds chosen set digits known rule all best inside t = trail_true same exact p root rules registered (value same p digits set) (IsFirstPick same p orders rules) known all picks t
      where
        picks : (older : List (Literal (Atom N S))) (l : Literal (Atom N S)) → IsFirstPick same p orders rules older l → Contains known l → ((m : Literal (Atom N S)) → Contains older m → is_true_at (value same p digits set) m ≡ true) → is_true_at (value same p digits set) l ≡ true
        picks older l k a ih =
            let (parent, need, m, n, b, r) = asked_binds same exact p root rules digits set older k.requirement rule ih k.asked in
            let (f, there, none) = best.meets_best parent need m n b in
            elim (cases_Bool (same k.solvable f)) [
              | inl e ↦ subst (λ x. is_true_at (value same p digits set) x ≡ true) (sym k.is) (plus_true _ (subst (λ x. is_in same p set x ≡ true) (sym (exact.one k.solvable f e)) there))
              | inr e ↦
                  let sooner : IsTriedBefore k.first.list k.solvable f = record {
                    before = k.first.before;
                    after = k.first.after;
                    splits = k.first.splits;
                    differs = λ i. both_ways _ e (subst (λ x. same k.solvable x ≡ true) i (exact.own k.solvable));
                    unless = λ c. both_ways _ (true_minus _ (ih (minus (Atom.solvable f)) (k.first.fell f c))) there;
                  } in
                  absurd (both_ways _ (none k.first.list k.solvable (subst (λ x. orders x k.first.list) r k.first.ordered) sooner) (inside k.solvable (subst (Contains known) k.is a)))
            ]

    module _ (same_name : N → N → Bool) (names : IsExact same_name) (bits : S → ℕ → Bool) (known : List (Literal (Atom N S))) (members : List S) (end : IsEnd same p rules root registered [] known members) (agrees : AgreeWith rules bits)
        (picks : IsTrail same p rules registered (IsFirstPick same p orders rules) known) where
      -- the members are among those of a set that they don't beat
      among : (set : List S) → IsUnbeaten same p orders root members set → (t : S) → is_in same p members t ≡ true → is_in same p set t ≡ true
      among set best t c =
          true_plus _ (unbeaten_holds members set (shown same p same_name bits set) known end.register.rule (rules_sound same exact p root same_name names rules bits set end.register.rule agrees best.keeping) best end.chosen picks (plus (Atom.solvable t)) (end.true_on_trail t c))

      member_among : (set : List S) → ((t : S) → is_in same p members t ≡ true → is_in same p set t ≡ true) → (parent : Option S) → is_member same p root members parent ≡ true → is_member same p root set parent ≡ true
      member_among set inside None m = refl
      member_among set inside (Some q) m = inside q m

      -- and all of these, where each is reached, and meets alone what it meets
      all_of : (set : List S) → IsUnbeaten same p orders root members set → IsReachedOnce same p orders root set → (s : S) → is_in same p set s ≡ true → is_in same p members s ≡ true
      all_of set best once s there = once.reached s there members (record {
        inside = among set best;
        wished = λ t w c. absurd (both_ways false refl w);
        matches = λ parent need t m n b meeting c.
            let (u, d, e) = (does_obey same exact same_name names p root rules registered [] known members end).requirements_met parent need m n b in
            let is : u ≡ t = once.one parent need u t (member_among set (among set best) parent m) n (binds_grows same exact p root set members need (among set best) b) e meeting (among set best u d) c in
            subst (λ x. is_in same p members x ≡ true) is d;
      })

      module _ (tried : VersionSetId → List S) (tries : TriesMatches same p tried) (by : AreTriedBy same p tried orders) where
        -- tried are the candidates of a requirement
        order_meets : (r : Requirement) (s : S) → is_in same p (order same p tried r) s ≡ meets same p r s
        order_meets r s = go (alternatives_of p.members_of r)
          where
            go : (vs : List VersionSetId) → is_in same p (flat_map tried vs) s ≡ list_any (λ v. is_match same p v s) vs
            go [] = refl
            go (v ∷ vs) = any-append (λ x. same x s) (tried v) (flat_map tried vs) ∙ ap (λ b. b || is_in same p (flat_map tried vs) s) (tries v s) ∙ ap (λ b. is_match same p v s || b) (go vs)

        first_in : (r : Requirement) (f : S) → IsFirst (order same p tried r) f → is_in same p (order same p tried r) f ≡ true
        first_in r f i = go (order same p tried r) i
          where
            go : (list : List S) → IsFirst list f → is_in same p list f ≡ true
            go [] i = absurd i
            go (x ∷ xs) i = contained_in same exact p (x ∷ xs) f (contains_first f x xs i)

        -- nothing beats the first choices
        first_unbeaten : (first : List S) → IsFirstChoices same p tried root first → IsUnbeaten same p orders root members first
        first_unbeaten first f = record {
          keeping = f.keeping;
          meets_best = λ parent need m n b.
              let (s, c, e) = f.keeping.obeys.requirements_met parent need m n b in
              let (g, i) = has_first s (order same p tried need.requirement) (in_contained same exact p (order same p tried need.requirement) s (order_meets need.requirement s ∙ e)) in
              (g, f.holds parent need g m n b i, λ list t ordered sooner. absurd (before_first list t g (subst (λ xs. IsFirst xs g) (sym (by need.requirement list ordered)) i) sooner));
        }

        -- the members hold the first choices
        members_hold : (first : List S) → IsFirstChoices same p tried root first → HoldsFirst same p tried root members
        members_hold first f parent need g m n b i =
            let inside = among first (first_unbeaten first f) in
            let (t, c, e) = (does_obey same exact same_name names p root rules registered [] known members end).requirements_met parent need m n b in
            let up = member_among first inside parent m in
            let bound = binds_grows same exact p root first members need inside b in
            let (v, alone) = f.alone parent need up n bound in
            let meeting : meets same p need.requirement g ≡ true = sym (order_meets need.requirement g) ∙ first_in need.requirement g i in
            let is : t ≡ g = one_match first (alternatives_of p.members_of need.requirement) v t g end.lawful f.unmarked f.keeping.single alone e meeting (inside t c) (f.holds parent need g up n bound i) in
            subst (λ x. is_in same p members x ≡ true) is c

        -- At the end of a turn without soft requirements the members are the first choices.
        first_choices : (first : List S) → IsFirstChoices same p tried root first → (s : S) → is_in same p members s ≡ is_in same p first s
        first_choices first f s = one_truth _ _ (among first (first_unbeaten first f) s) (f.least members (members_hold first f) s)

      -- At the end of a turn without soft requirements the members were chosen in the order in
      -- which they are tried.
      pub end_preferred : ArePreferred same p orders root members
      end_preferred = record {
        within = among;
        whole = λ set best once s. one_truth _ _ (among set best s) (all_of set best once s);
        first = λ tried tries by first f s. first_choices tried tries by first f s;
      }
