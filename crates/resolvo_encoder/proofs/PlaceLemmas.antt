-- What waits gets its clauses: digits, and at-least-one clauses.
use Rattle.std.proofs.Common.{◌≡◌, ℕ, ◌<◌, ◌≤◌, ◌⊎◌, inl, inr, Bool, true, List, [], ◌∷◌, ◌++◌, length, slice_index_or, Some, None, refl, sym, ◌∙◌, ap, subst, arith, false}
use Rattle.std.specs.Prelude.{Contains, slice_get}
use Rattle.std.proofs.lemmas.Bool.{false_from_ne_true}
use Rattle.std.specs.List.Sorted.{IsPermutation}
use Rattle.std.proofs.lemmas.List.Sorted.{Contains-permutation, IsPermutation-refl, IsPermutation-sym}
use Rattle.std.proofs.lemmas.Option.{slice_get_within}
use Rattle.resolvo_pool_core.specs.declared.id.VariableId.{VariableId}
use Rattle.resolvo_pool_core.specs.Provider.{listed}
use Rattle.resolvo_pool_core.specs.RuleKeeping.{Packages, Rules, IsLawful, is_in, is_many}
use Rattle.resolvo_store_core.specs.AtMostOne.{digit}
use Rattle.resolvo_store_core.specs.declared.lists.Candidate.{Candidate}
use Rattle.resolvo_sat.specs.RuleClauses.{IsExact, Rule}
use Rattle.resolvo_sat.proofs.Lists.{contains_none, contains_one, contains_only, contains_left, contains_right, contains_parts}
use Rattle.resolvo_packages.specs.declared.package_source.Offered.{Offered}
use Rattle.resolvo_state.specs.declared.atom.ProofAtom.{ProofAtom}
use Rattle.resolvo_state.specs.declared.atom.ProofAtom.TheVariants.{Solvable, Gate}
use Rattle.resolvo_state.specs.declared.solver_state.SolverState.{SolverState}
use Rattle.resolvo_state.specs.declared.registry.Registry.{Registry}
use Rattle.resolvo_state.specs.declared.registry.Member.{Member}
use Rattle.resolvo_state.specs.Kinds.{Kind}
use Rattle.resolvo_state.specs.Atoms.{Represents, solvable_of}
use Rattle.resolvo_state.specs.Registered.{AreTied, IsInTracker, IsTracked, IsQueued, IsRegistered, member, Places, IsMany}
use Rattle.resolvo_state.proofs.Growth.{grows_same, trail_same, represents_grow, represents_once, rules_grow}
use Rattle.resolvo_state.proofs.Origins.{solvable_represents, represents_solvable}
use Rattle.resolvo_state.proofs.Positions.{get_contains, prefix_same}
use Rattle.resolvo_state.proofs.Rules.{rule_at_kind}
use Rattle.resolvo_encoder.specs.Encoded.{IsCandidate, IsRequiresRule, IsEncoding, IsWaiting, IsNamed, IsPending}
use Rattle.resolvo_encoder.specs.Encoded as E
use Rattle.resolvo_encoder.specs.AtLeastOneClauses.{AreThose, Admits, AreWaiting, PlacesAll, PlacesQueued, TracksAtLeastOne, CoversAll, CoversQueued}
use Rattle.resolvo_encoder.specs.Steps.{IsBuilt, IsListed}
use Rattle.resolvo_encoder.specs.declared.encoder.Encoder.{Encoder}
use Rattle.resolvo_encoder.specs.declared.encoder.EncodedOnce.{EncodedOnce}
use Rattle.resolvo_encoder.proofs.BuildLemmas.{seen_same, clauses_grow}
use Rattle.resolvo_encoder.proofs.CaseLiterals.{AreOf, of_none, of_more, those_of}
use Rattle.resolvo_encoder.proofs.EncodesLemmas.{built_recorded, queued_recorded}
use Rattle.resolvo_encoder.proofs.EnrollLemmas.{enrolled}
use Rattle.resolvo_encoder.proofs.RequireLemmas.{AddedClause, Carries, carried, candidate_grows, recorded_grows, cases_keep, some_one, queued_keeps, gates_keep, NoneAsks, fixed_keeps, asked_keeps, within_keeps, encoded_keeps, cased_keeps, guards_keep, digit_added, extends_then, extends_same, set_stays, marks_stay}

module _ {N S : Type 0} (same : S → S → Bool) (exact : IsExact same) (p : Packages N S) (root : Rules) (lawful : IsLawful p) where
  -- A registered solvable is placed.
  pub places_keep : (name : N) (one : S) (old : Encoder N S) (t : Registry N) (c : SolverState N S) → IsEncoding same p root old → is_many p name ≡ false → Places name one old.registry old.coding t c → IsEncoding same p root (enrolled old t c)
  places_keep name one old t c e unmarked all = carried same exact p root old (enrolled old t c) e carries
    where
      keeps : (m : N) (u : VariableId) → IsTracked old.registry m u → IsTracked t m u
      keeps m u h = subst (λ ms. Contains ms.keys (member m u)) (sym all.members) h

      back : (n : N) (s : S) → IsRegistered t c n s → IsRegistered old.registry old.coding n s
      back n s (v, present, there) =
          let first : IsTracked old.registry n v = subst (λ ms. Contains ms.keys (member n v)) all.members there in
          let (x, before) = e.tied.solvables n v first in
          let is : x ≡ s = some_one x s (sym (solvable_represents c.atoms.keys v x (represents_grow old.coding c v (Solvable x) all.grows before)) ∙ solvable_represents c.atoms.keys v s present) in
          (v, subst (λ y. Represents old.coding.atoms.keys v (Solvable y)) is before, first)

      registered_new : (n : N) (s : S) → IsRegistered t c n s → (n ≡ p.package_of s) × (is_in same p (listed (p.candidates_of (p.package_of s))) s ≡ true)
      registered_new n s a =
          let b = back n s a in
          let own = e.named n s b in
          (own, e.candidates s (subst (λ m. IsRegistered old.registry old.coding m s) own b))

      new_clause : (n : ℕ) → length old.coding.search.clauses ≤ n → n < length c.search.clauses → AddedClause same exact p root (enrolled old t c) n
      new_clause n low high =
          let d = all.digits n low high in
          let (own, candidate) = registered_new name d.solvable d.registered in
          digit_added same exact p root lawful old (enrolled old t c) name n d own candidate unmarked

      none : NoneAsks same exact p root lawful old (enrolled old t c)
      none n q low high at a =
          let d = all.digits n low high in
          let is : Rule.has_digit d.solvable d.bit (digit d.place d.bit) ≡ q = some_one (Rule.has_digit d.solvable d.bit (digit d.place d.bit)) q (sym (rule_at_kind c.kinds.items n (Kind.Digit name d.solvable d.place d.bit) d.kinds) ∙ at) in
          subst IsRequiresRule (sym is) a

      at_least_one : (n : N) (s : S) → Contains old.recorded.at_least_one.keys n → IsRegistered t c n s → E.rules_of (enrolled old t c) (Rule.is_there n s) ⊎ IsPending (enrolled old t c) n s
      at_least_one n s h a = elim (e.cases.at_least_one n s h (back n s a)) [
        | inl rule ↦ inl (rules_grow old.coding c all.grows (Rule.is_there n s) rule)
        | inr (inl (v, present, (k, low, at))) ↦ inr (inl (v, represents_grow old.coding c v (Solvable s) all.grows present, (k, subst (λ j. j ≤ k) (sym all.waits) low, subst (λ ms. slice_get ms.keys k ≡ Some (member n v)) (sym all.members) at)))
        | inr (inr marked) ↦ inr (inr (subst (λ ns. Contains ns.keys n) (sym all.many) marked))
      ]

      candidate : (n : N) (s : S) (x : Candidate N) → IsCandidate old n s x → IsCandidate (enrolled old t c) n s x
      candidate n s x h = candidate_grows same exact p root old (enrolled old t c) n s x all.grows keeps h

      carries : Carries same exact p root old (enrolled old t c)
      carries = record {
        coding = all.coding;
        grows = all.grows;
        trail = all.trail;
        tied = all.tied;
        keeps = keeps;
        registered = λ n s a. inr (registered_new n s a);
        new_clause = new_clause;
        lists = λ q k. refl;
        listed = λ q x a. (let (s, b, m) = e.listed q x a in (s, candidate (p.package_of s) s x b, m));
        offered = λ q s k m. (let (x, there, b) = e.offered q s k m in (x, there, candidate (p.package_of s) s x b));
        fixed = fixed_keeps same exact p root lawful old (enrolled old t c) e all.coding all.grows (λ q k. k) none;
        queued = λ q a. queued_keeps same exact p root lawful old (enrolled old t c) e all.grows (prefix_same old.lists.disjunctions) q a;
        asked = asked_keeps same exact p root lawful old (enrolled old t c) e all.coding all.grows refl none;
        gates = gates_keep same exact p root lawful old (enrolled old t c) e all.grows refl;
        forbid = guards_keep same exact p root lawful old (enrolled old t c) e all.grows refl;
        recorded = recorded_grows same exact p root old (enrolled old t c) all.grows refl e.recorded;
        softs = refl;
        cases = cases_keep same exact p root old (enrolled old t c) e.cases all.grows refl refl refl (cased_keeps same exact p root lawful old (enrolled old t c) e all.coding all.grows refl keeps none) at_least_one;
        marks = marks_stay same exact p root old (enrolled old t c) all.many (λ n a. a) (λ n s a. inl (back n s a)) e.marks;
        within = within_keeps same exact p root lawful old (enrolled old t c) e refl refl;
        encoded = encoded_keeps same exact p root lawful old (enrolled old t c) e all.grows refl refl refl;
      }

  -- The wait ends: what waited is placed, and has its at-least-one clause if its package is recorded.
  pub wait_ends : (old : Encoder N S) (t : Registry N) → IsEncoding same p root old → AreTied t old.coding → t.members ≡ old.registry.members → t.many ≡ old.registry.many → ((n : N) (s : S) → Contains old.recorded.at_least_one.keys n → IsWaiting old n s → E.rules_of old (Rule.is_there n s)) → IsEncoding same p root (enrolled old t old.coding)
  wait_ends old t e tied members many covered = carried same exact p root old (enrolled old t old.coding) e carries
    where
      keeps : (m : N) (u : VariableId) → IsTracked old.registry m u → IsTracked t m u
      keeps m u h = subst (λ ms. Contains ms.keys (member m u)) (sym members) h

      back : (n : N) (s : S) → IsRegistered t old.coding n s → IsRegistered old.registry old.coding n s
      back n s (v, present, there) = (v, present, subst (λ ms. Contains ms.keys (member n v)) members there)

      candidate : (n : N) (s : S) (x : Candidate N) → IsCandidate old n s x → IsCandidate (enrolled old t old.coding) n s x
      candidate n s x h = candidate_grows same exact p root old (enrolled old t old.coding) n s x (grows_same old.coding) keeps h

      carries : Carries same exact p root old (enrolled old t old.coding)
      carries = record {
        coding = e.coding;
        grows = grows_same old.coding;
        trail = trail_same old.coding;
        tied = tied;
        keeps = keeps;
        registered = λ n s a. inl (back n s a);
        new_clause = λ n low high. absurd (omega arith);
        lists = λ q k. refl;
        listed = λ q x a. (let (s, b, m) = e.listed q x a in (s, candidate (p.package_of s) s x b, m));
        offered = λ q s k m. (let (x, there, b) = e.offered q s k m in (x, there, candidate (p.package_of s) s x b));
        fixed = e.fixed;
        queued = e.queued;
        asked = e.asked;
        gates = e.gates;
        forbid = e.forbid;
        recorded = recorded_grows same exact p root old (enrolled old t old.coding) (grows_same old.coding) refl e.recorded;
        softs = refl;
        cases = cases_keep same exact p root old (enrolled old t old.coding) e.cases (grows_same old.coding) refl refl refl
            (λ parent need case v present h. set_stays same exact p root old (enrolled old t old.coding) v (grows_same old.coding) (λ n b. b) (λ w b. b) keeps (e.cases.cased parent need case v present h))
            (λ n s h a. elim (e.cases.at_least_one n s h (back n s a)) [
              | inl rule ↦ inl rule
              | inr (inl waits) ↦ inl (covered n s h waits)
              | inr (inr marked) ↦ inr (inr (subst (λ ns. Contains ns.keys n) (sym many) marked))
            ]);
        marks = marks_stay same exact p root old (enrolled old t old.coding) many (λ n a. a) (λ n s a. inl (back n s a)) e.marks;
        within = e.within;
        encoded = encoded_keeps same exact p root lawful old (enrolled old t old.coding) e (grows_same old.coding) refl refl refl;
      }

module _ {N S : Type 0} where
  pub built_places : (name : N) (one : S) (old : Encoder N S) (t : Registry N) (c : SolverState N S) → IsBuilt old → Places name one old.registry old.coding t c → IsBuilt (enrolled old t c)
  built_places name one old t c b all = record {
    coding = all.coding;
    tied = all.tied;
    candidates = λ r x a. (let (positive, (s, present)) = b.candidates r x a in (positive, (s, represents_grow old.coding c x.literal.variable (Solvable s) all.grows present)));
    gates = λ r v at. represents_grow old.coding c v (Gate r) all.grows (b.gates r v at);
    within = b.within;
    clauses = clauses_grow old (enrolled old t c) b all.grows refl;
    queue = b.queue;
    seen = seen_same old (enrolled old t c) b all.trail refl;
  }

  -- a registered solvable is a candidate of its package
  registered_listed : (same : S → S → Bool) (p : Packages N S) (root : Rules) (e : Encoder N S) (o : Offered N S) → IsEncoding same p root e → IsRegistered e.registry e.coding o.name o.solvable → IsListed same p o
  registered_listed same p root e o holds h =
      let own : o.name ≡ p.package_of o.solvable = holds.named o.name o.solvable h in
      (own, subst (λ n. is_in same p (listed (p.candidates_of n)) o.solvable ≡ true) (sym own) (holds.candidates o.solvable (subst (λ n. IsRegistered e.registry e.coding n o.solvable) own h)))

  module _ (same : S → S → Bool) (exact : IsExact same) where
    -- one more is placed, whose package isn't marked, and admitted
    pub places_one : (one : Offered N S) (old : Encoder N S) (t : Registry N) (c : SolverState N S) (new : Encoder N S) → IsRegistered old.registry old.coding one.name one.solvable → (IsMany old.registry one.name → ⊥) → Places one.name one.solvable old.registry old.coding t c → Admits same (one ∷ []) (enrolled old t c) new
        → PlacesAll same (one ∷ []) old new
    places_one one old t c new registered unmarked all admits = record {
      built = admits.adds.built;
      extends = extends_then old (enrolled old t c) new (record { grows = all.grows; trail = all.trail; softs = refl; parents = refl; encoded = refl; deferred = refl; fired = refl }) admits.adds.extends;
      lists = admits.adds.lists;
      members = ap (λ (r : Registry N). r.members) admits.adds.registry ∙ all.members;
      waits = ap (λ (r : Registry N). r.tied) admits.adds.registry ∙ all.waits;
      many = ap (λ (r : Registry N). r.many) admits.adds.registry ∙ all.many;
      at_least_one = admits.adds.at_least_one;
      queued = admits.adds.queued;
      placed = λ o h. inr (
        all.variable,
        subst (λ (y : Offered N S). Represents new.coding.atoms.keys all.variable (Solvable y.solvable)) (sym (contains_one o one h)) (represents_grow c new.coding all.variable (Solvable one.solvable) admits.adds.extends.grows all.present),
        subst (λ (r : Registry N). IsInTracker r o.name all.variable) (sym admits.adds.registry) (subst (λ (y : Offered N S). IsInTracker t y.name all.variable) (sym (contains_one o one h)) all.placed),
      );
      keeps = λ m u h. subst (λ (r : Registry N). IsInTracker r m u) (sym admits.adds.registry) (all.keeps m u h);
      encoding = λ p root lawful e.
          let free : is_many p one.name ≡ false = false_from_ne_true _ (λ marked. unmarked (e.marks.registered one.name one.solvable registered marked)) in
          let middle = places_keep same exact p root lawful one.name one.solvable old t c e free all in
          let is_listed = registered_listed same p root old one e registered in
          let (last, rules) = admits.adds.encoding p root lawful middle (λ o h. subst (IsListed same p) (sym (contains_one o one (admits.only o h))) is_listed) in
          (last, λ o h named. rules o (admits.each o h named));
    }

    -- one more is admitted, whose package is marked: it has no digits
    pub places_marked : (one : Offered N S) (old new : Encoder N S) → IsRegistered old.registry old.coding one.name one.solvable → IsMany old.registry one.name → Admits same (one ∷ []) old new → PlacesAll same (one ∷ []) old new
    places_marked one old new registered marked admits = record {
      built = admits.adds.built;
      extends = admits.adds.extends;
      lists = admits.adds.lists;
      members = ap (λ (r : Registry N). r.members) admits.adds.registry;
      waits = ap (λ (r : Registry N). r.tied) admits.adds.registry;
      many = ap (λ (r : Registry N). r.many) admits.adds.registry;
      at_least_one = admits.adds.at_least_one;
      queued = admits.adds.queued;
      placed = λ o h. inl (subst (λ (y : Offered N S). IsMany old.registry y.name) (sym (contains_one o one h)) marked);
      keeps = λ m u h. subst (λ (r : Registry N). IsInTracker r m u) (sym admits.adds.registry) h;
      encoding = λ p root lawful e.
          let is_listed = registered_listed same p root old one e registered in
          let (last, rules) = admits.adds.encoding p root lawful e (λ o h. subst (IsListed same p) (sym (contains_one o one (admits.only o h))) is_listed) in
          (last, λ o h named. rules o (admits.each o h named));
    }

    pub places_none : (e : Encoder N S) → IsBuilt e → PlacesAll same [] e e
    places_none e built = record {
      built = built;
      extends = extends_same e;
      lists = refl;
      members = refl;
      waits = refl;
      many = refl;
      at_least_one = refl;
      queued = refl;
      placed = λ o h. absurd (contains_none o h);
      keeps = λ m u h. h;
      encoding = λ p root lawful holds. (holds, λ o h. absurd (contains_none o h));
    }

    pub places_then : (xs ys : List (Offered N S)) (a b c : Encoder N S) → PlacesAll same xs a b → PlacesAll same ys b c → PlacesAll same (xs ++ ys) a c
    places_then xs ys a b c f g = record {
      built = g.built;
      extends = extends_then a b c f.extends g.extends;
      lists = g.lists ∙ f.lists;
      members = g.members ∙ f.members;
      waits = g.waits ∙ f.waits;
      many = g.many ∙ f.many;
      at_least_one = g.at_least_one ∙ f.at_least_one;
      queued = g.queued ∙ f.queued;
      placed = λ o h. elim (contains_parts o xs ys h) [
        | inl k ↦ elim (f.placed o k) [
          | inl marked ↦ inl marked
          | inr (v, present, there) ↦ inr (v, represents_grow b.coding c.coding v (Solvable o.solvable) g.extends.grows present, g.keeps o.name v there)
        ]
        | inr k ↦ elim (g.placed o k) [
          | inl marked ↦ inl (subst (λ ns. Contains ns.keys o.name) f.many marked)
          | inr there ↦ inr there
        ]
      ];
      keeps = λ m u h. g.keeps m u (f.keeps m u h);
      encoding = λ p root lawful holds.
          let (middle, first) = f.encoding p root lawful holds in
          let (last, second) = g.encoding p root lawful middle in (
            last,
            λ o h named. elim (contains_parts o xs ys h) [
              | inl k ↦ rules_grow b.coding c.coding g.extends.grows (Rule.is_there o.name o.solvable) (first o k named)
              | inr k ↦ second o k (subst (λ ks. Contains ks.keys o.name) (sym f.at_least_one) named)
            ],
          );
    }

    -- those to place are still registered
    pub still_registered : (xs : List (Offered N S)) (a b : Encoder N S) (n : N) (s : S) → PlacesAll same xs a b → IsRegistered a.registry a.coding n s → IsRegistered b.registry b.coding n s
    still_registered xs a b n s f (v, present, there) = (v, represents_grow a.coding b.coding v (Solvable s) f.extends.grows present, subst (λ ms. Contains ms.keys (member n v)) (sym f.members) there)

    -- all that waited is placed
    pub queue_ends : (list : List (Offered N S)) (old middle : Encoder N S) (t : Registry N) → AreWaiting old list → PlacesAll same list old middle → t ≡ record middle.registry { tied = length middle.registry.members.keys } → PlacesQueued same old (enrolled middle t middle.coding)
    queue_ends list old middle t waiting all is = subst (λ (r : Registry N). PlacesQueued same old (enrolled middle r middle.coding)) (sym is) (record {
      built = record { coding = all.built.coding; tied = tied; candidates = all.built.candidates; gates = all.built.gates; within = all.built.within; clauses = all.built.clauses; queue = all.built.queue; seen = all.built.seen };
      extends = record { grows = all.extends.grows; trail = all.extends.trail; softs = all.extends.softs; parents = all.extends.parents; encoded = all.extends.encoded; deferred = all.extends.deferred; fired = all.extends.fired };
      lists = all.lists;
      at_least_one = all.at_least_one;
      queued = all.queued;
      many = all.many;
      none = λ n v (k, low, at). (let within : k < length middle.registry.members.keys = slice_get_within middle.registry.members.keys k (member n v) at in absurd (omega arith));
      encoding = λ p root lawful e.
          let (holds, rules) = all.encoding p root lawful e in
          wait_ends same exact p root lawful middle ended holds tied refl refl
          (λ n s named waits. rules (record { solvable = s; name = n }) (waiting.each n s (waited e.tied n s waits)) (subst (λ ks. Contains ks.keys n) all.at_least_one named));
    })
      where
        ended : Registry N
        ended = record middle.registry { tied = length middle.registry.members.keys }

        -- what waits now did before
        waited : AreTied old.registry old.coding → (n : N) (s : S) → IsWaiting middle n s → IsWaiting old n s
        waited before n s (v, present, (k, low, at)) =
            let there : slice_get old.registry.members.keys k ≡ Some (member n v) = subst (λ ms. slice_get ms.keys k ≡ Some (member n v)) all.members at in
            let (x, first) = before.solvables n v (get_contains old.registry.members.keys k (member n v) there) in
            let one : x ≡ s = some_one x s (sym (solvable_represents middle.coding.atoms.keys v x (represents_grow old.coding middle.coding v (Solvable x) all.extends.grows first)) ∙ solvable_represents middle.coding.atoms.keys v s present) in
            (v, subst (λ y. Represents old.coding.atoms.keys v (Solvable y)) one first, (k, subst (λ j. j ≤ k) all.waits low, there))

        placed : (n : N) (v : VariableId) → IsQueued middle.registry n v → IsInTracker middle.registry n v ⊎ IsMany middle.registry n
        placed n v (k, low, at) =
            let (s, present) = all.built.tied.solvables n v (get_contains middle.registry.members.keys k (member n v) at) in
            elim (all.placed (record { solvable = s; name = n }) (waiting.each n s (waited waiting.tied n s (v, present, (k, low, at))))) [
              | inl marked ↦ inr (subst (λ ns. Contains ns.keys n) (sym all.many) marked)
              | inr (w, means, there) ↦ inl (subst (IsInTracker middle.registry n) (represents_once middle.coding w v (Solvable s) all.built.coding means present) there)
            ]

        tied : AreTied ended middle.coding
        tied = record {
          each = all.built.tied.each;
          once = all.built.tied.once;
          tied = all.built.tied.tied;
          placed = λ n name s place bit h. (let q = all.built.tied.placed n name s place bit h in record { number = q.number; tracker = q.tracker; variable = q.variable; named = q.named; tracked = q.tracked; present = q.present; means = q.means });
          within = omega arith;
          solvables = all.built.tied.solvables;
          registered = λ n v h. all.built.tied.registered n v (record { place = h.place; tracker = h.tracker; named = h.named; tracked = h.tracked; present = h.present });
          rest = λ n v h. elim (all.built.tied.rest n v h) [
            | inl k ↦ inl (moved n v k)
            | inr (inl k) ↦ elim (placed n v k) [ inl j ↦ inl (moved n v j) | inr j ↦ inr (inr j) ]
            | inr (inr k) ↦ inr (inr k)
          ];
        }
          where
            moved : (n : N) (v : VariableId) → IsInTracker middle.registry n v → IsInTracker ended n v
            moved n v h = record { place = h.place; tracker = h.tracker; named = h.named; tracked = h.tracked; present = h.present }

    -- ---- packages of cases

    pub covers_none : (e : Encoder N S) → IsBuilt e → CoversAll same [] e e
    covers_none e built = record { built = built; extends = extends_same e; lists = refl; registry = refl; queued = refl; keeps = λ n h. h; covered = λ n h. absurd (contains_none n h); encoding = λ p root lawful holds. holds }

    pub covers_more : (xs : List N) (name : N) (a b c : Encoder N S) → CoversAll same xs a b → TracksAtLeastOne same name b c → CoversAll same (xs ++ name ∷ []) a c
    covers_more xs name a b c f g = record {
      built = g.built;
      extends = extends_then a b c f.extends g.extends;
      lists = g.lists ∙ f.lists;
      registry = g.registry ∙ f.registry;
      queued = g.queued ∙ f.queued;
      keeps = λ n h. g.keeps n (f.keeps n h);
      covered = λ n h. elim (contains_parts n xs (name ∷ []) h) [ inl k ↦ g.keeps n (f.covered n k) | inr k ↦ subst (Contains c.recorded.at_least_one.keys) (sym (contains_one n name k)) g.at_least_one ];
      encoding = λ p root lawful e. g.encoding p root lawful (f.encoding p root lawful e);
    }

    -- no package waits then
    pub covers_end : (names : List N) (old middle : Encoder N S) (x : EncodedOnce N S) → names ≡ old.recorded.queued.keys → CoversAll same names old middle → x ≡ record middle.recorded { queued = x.queued } → x.queued.keys ≡ [] → CoversQueued same old (record middle { recorded = x })
    covers_end names old middle x are all others none = record {
      built = built_recorded middle x all.built;
      extends = record { grows = all.extends.grows; trail = all.extends.trail; softs = ap (λ (y : EncodedOnce N S). y.softs.items) others ∙ all.extends.softs; parents = all.extends.parents; encoded = all.extends.encoded; deferred = all.extends.deferred; fired = all.extends.fired };
      lists = all.lists;
      registry = all.registry;
      none = λ n h. contains_none n (subst (λ (ks : List N). Contains ks n) none h);
      encoding = λ p root lawful e. queued_recorded same exact p root middle x (all.encoding p root lawful e) named others;
    }
      where
        named : (n : N) → IsNamed middle.recorded n → IsNamed x n
        named n (inl h) = inl (subst (λ (y : EncodedOnce N S). Contains y.at_least_one.keys n) (sym others) h)
        named n (inr h) = inl (subst (λ (y : EncodedOnce N S). Contains y.at_least_one.keys n) (sym others) (all.covered n (subst (λ (ks : List N). Contains ks n) (sym are) (subst (λ ks. Contains ks.keys n) all.queued h))))

-- ---- what waits

-- these are the solvables of the members, with their packages
pub record AreMembers {N S : Type 0} (atoms : List (ProofAtom N S)) (members : List (Member N)) (list : List (Offered N S)) : Type 0 where
  pub each : (m : Member N) (s : S) → Contains members m → solvable_of atoms m.variable.0 ≡ Some s → Contains list (record { solvable = s; name = m.name })
  pub all : (o : Offered N S) → Contains list o → (m : Member N) × Contains members m × (m.name ≡ o.name) × (solvable_of atoms m.variable.0 ≡ Some o.solvable)

pub members_none : {N S : Type 0} (atoms : List (ProofAtom N S)) → AreMembers atoms [] []
members_none atoms = record { each = λ m s h is. absurd (contains_none m h); all = λ o h. absurd (contains_none o h) }

pub members_more : {N S : Type 0} (atoms : List (ProofAtom N S)) (ms : List (Member N)) (list : List (Offered N S)) (m : Member N) (s : S) → solvable_of atoms m.variable.0 ≡ Some s → AreMembers atoms ms list → AreMembers atoms (ms ++ m ∷ []) (list ++ record { solvable = s; name = m.name } ∷ [])
members_more {N} {S} atoms ms list m s is h = record {
  each = λ w t a at. elim (contains_parts w ms (m ∷ []) a) [
    | inl k ↦ contains_left (let o : Offered N S = record { solvable = t; name = w.name } in o) list (record { solvable = s; name = m.name } ∷ []) (h.each w t k at)
    | inr k ↦
        let one : w ≡ m = contains_one w m k in
        let same : s ≡ t = some_one s t (sym is ∙ sym (ap (λ (x : Member N). solvable_of atoms x.variable.0) one) ∙ at) in
        contains_right (let o : Offered N S = record { solvable = t; name = w.name } in o) list (record { solvable = s; name = m.name } ∷ [])
        (subst (λ (x : S). Contains (record { solvable = s; name = m.name } ∷ []) (let o : Offered N S = record { solvable = x; name = w.name } in o)) same
        (subst (λ (x : Member N). Contains (record { solvable = s; name = m.name } ∷ []) (let o : Offered N S = record { solvable = s; name = x.name } in o)) (sym one) (contains_only (let o : Offered N S = record { solvable = s; name = m.name } in o))))
  ];
  all = λ o a. elim (contains_parts o list (record { solvable = s; name = m.name } ∷ []) a) [
    | inl k ↦ (let (w, present, named, at) = h.all o k in (w, contains_left w ms (m ∷ []) present, named, at))
    | inr k ↦ (let one : o ≡ record { solvable = s; name = m.name } = contains_one o (record { solvable = s; name = m.name }) k in
        (m, contains_right m ms (m ∷ []) (contains_only m), ap (λ (x : Offered N S). x.name) (sym one), is ∙ ap (λ (x : Offered N S). Some x.solvable) (sym one)))
  ];
}

pub members_other : {N S : Type 0} (atoms : List (ProofAtom N S)) (ms : List (Member N)) (list : List (Offered N S)) (m : Member N) → solvable_of atoms m.variable.0 ≡ None → AreMembers atoms ms list → AreMembers atoms (ms ++ m ∷ []) list
members_other {N} {S} atoms ms list m none h = record {
  each = λ w t a at. elim (contains_parts w ms (m ∷ []) a) [
    | inl k ↦ h.each w t k at
    | inr k ↦ (let no_one : None ≡ Some t = sym none ∙ sym (ap (λ (x : Member N). solvable_of atoms x.variable.0) (contains_one w m k)) ∙ at in absurd cc)
  ];
  all = λ o a. (let (w, present, named, at) = h.all o a in (w, contains_left w ms (m ∷ []) present, named, at));
}

-- in any order, they are what waits
pub waiting_are : {N S : Type 0} (e : Encoder N S) (members : List (Member N)) (list sorted : List (Offered N S)) → AreTied e.registry e.coding → ((n : N) (v : VariableId) → IsQueued e.registry n v → Contains members (member n v)) → ((n : N) (v : VariableId) → Contains members (member n v) → IsTracked e.registry n v)
    → AreMembers e.coding.atoms.keys members list → IsPermutation list sorted → AreWaiting e sorted
waiting_are {N} {S} e members list sorted tied queued registered h turned = record {
  tied = tied;
  each = λ n s (v, present, waits). Contains-permutation list sorted (record { solvable = s; name = n }) turned (h.each (member n v) s (queued n v waits) (solvable_represents e.coding.atoms.keys v s present));
  all = λ o a.
      let (m, present, named, at) = h.all o (Contains-permutation sorted list o (IsPermutation-sym list sorted turned) a) in
      (m.variable, represents_solvable e.coding.atoms.keys m.variable o.solvable at, subst (λ (n : N). IsTracked e.registry n m.variable) named (registered m.name m.variable present));
}

-- a list of one value is that of its first
pub only_first : {A : Type 0} (xs : List A) (d : A) → length xs ≡ 1 → xs ≡ slice_index_or xs 0 d ∷ []
only_first [] d one = absurd (omega arith)
only_first (x ∷ []) d one = refl
only_first (x ∷ y ∷ xs) d one = absurd (omega arith)

pub lone_waits : {N S : Type 0} (e : Encoder N S) (members : List (Member N)) (d : Member N) (s : S) → AreTied e.registry e.coding → ((n : N) (v : VariableId) → IsQueued e.registry n v → Contains members (member n v)) → ((n : N) (v : VariableId) → Contains members (member n v) → IsTracked e.registry n v)
    → length members ≡ 1 → d ≡ slice_index_or members 0 d → solvable_of e.coding.atoms.keys d.variable.0 ≡ Some s → AreWaiting e (record { solvable = s; name = d.name } ∷ [])
lone_waits {N} {S} e members d s tied queued registered one first is =
    let list : List (Offered N S) = record { solvable = s; name = d.name } ∷ [] in
    let atoms = e.coding.atoms.keys in
    let these : members ≡ d ∷ [] = only_first members d one ∙ ap (λ (m : Member N). m ∷ []) (sym first) in
    waiting_are e members list list tied queued registered (subst (λ (us : List (Member N)). AreMembers atoms us list) (sym these) (members_more atoms [] [] d s is (members_none atoms))) (IsPermutation-refl list)

-- the registered solvable of a package is the only one
pub lone_those : {N S : Type 0} (e : Encoder N S) (name : N) (vs : List VariableId) (d : VariableId) (s : S) → AreTied e.registry e.coding → ((v : VariableId) → Contains vs v → IsInTracker e.registry name v) → ((v : VariableId) → IsInTracker e.registry name v → Contains vs v)
    → length vs ≡ 1 → solvable_of e.coding.atoms.keys (slice_index_or vs 0 d).0 ≡ Some s → AreThose e name (record { solvable = s; name = name } ∷ [])
lone_those {N} {S} e name vs d s tied tracked all one is =
    let list : List (Offered N S) = record { solvable = s; name = name } ∷ [] in
    let atoms = e.coding.atoms.keys in
    let first = slice_index_or vs 0 d in
    those_of e name vs list tied tracked all (subst (λ (us : List VariableId). AreOf atoms us name list) (sym (only_first vs d one)) (of_more atoms [] name [] first s is (of_none atoms name)))
