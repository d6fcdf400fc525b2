-- Offered solvables are registered, and become candidates.
use Rattle.std.proofs.Common.{◌≡◌, ℕ, ◌<◌, ◌≤◌, ◌⊎◌, inl, inr, Bool, true, false, List, [], ◌∷◌, length, Some, refl, sym, ◌∙◌, ap, subst, arith, is_some, Option, None}
use Rattle.std.specs.Prelude.{Contains}
use Rattle.std.proofs.lemmas.Bool.{both_ways, and_parts}
use Rattle.resolvo_pool_core.specs.declared.requirement.Requirement.{Requirement}
use Rattle.resolvo_pool_core.specs.ByRequirement.{slot_of}
use Rattle.resolvo_pool_core.specs.Provider.{listed}
use Rattle.resolvo_pool_core.specs.RuleKeeping.{Packages, Rules, IsLawful, is_in, meets, is_match}
use Rattle.resolvo_pool_core.specs.Text.{alternatives_of}
use Rattle.resolvo_store_core.specs.AtMostOne.{IsPrefixOf}
use Rattle.resolvo_store_core.specs.Lists.{has_candidates, candidates_in, list_or_none, FixesCandidates, FixesDisjunction}
use Rattle.resolvo_store_core.specs.declared.lists.Candidate.{Candidate}
use Rattle.resolvo_store_core.specs.declared.lists.FixedLists.{FixedLists}
use Rattle.resolvo_decide.specs.Needs.{literals_in}
use Rattle.resolvo_decide.proofs.SoundLemmas.{sound_more}
use Rattle.resolvo_store_core.specs.Signed.{Signed, has}
use Rattle.resolvo_store_core.specs.Clauses.{candidate_literals}
use Rattle.resolvo_sat.specs.RuleClauses.{IsExact, Rule}
use Rattle.resolvo_packages.specs.declared.package_source.Offered.{Offered}
use Rattle.resolvo_packages.specs.PackageSource.{offered_solvables, AreOffered}
use Rattle.resolvo_state.specs.declared.atom.ProofAtom.TheVariants.{Solvable, Gate}
use Rattle.resolvo_state.specs.declared.solver_state.SolverState.{SolverState}
use Rattle.resolvo_state.specs.declared.registry.Registry.{Registry}
use Rattle.resolvo_state.specs.Atoms.{Represents}
use Rattle.resolvo_state.specs.SolverState.{Grows}
use Rattle.resolvo_state.specs.Registered.{IsTracked, IsRegistered}
use Rattle.resolvo_state.proofs.Growth.{grows_same, trail_same, represents_grow, rules_grow}
use Rattle.resolvo_state.proofs.Positions.{prefix_same, prefix_equal}
use Rattle.resolvo_encoder.specs.Encoded.{IsCandidate, AreCandidates, IsEncoding, IsMarkKnown, IsPrepared, IsGuarded}
use Rattle.resolvo_encoder.specs.Encoded as E
use Rattle.resolvo_encoder.specs.Steps.{IsBuilt, Extends, IsOfferedAs, RegistersAll, KeepsLists, AddsCandidates, Enrols, Fixes, IsAddable}
use Rattle.resolvo_sat.proofs.Lists.{any_contained}
use Rattle.resolvo_sat.proofs.Members.{candidate_named}
use Rattle.resolvo_encoder.specs.declared.encoder.Encoder.{Encoder}
use Rattle.resolvo_encoder.proofs.NeedClauses.{literals_widen, condition_widens}
use Rattle.resolvo_encoder.proofs.BuildLemmas.{seen_same, clauses_grow}
use Rattle.resolvo_encoder.proofs.PickLemmas.{candidates_grow}
use Rattle.resolvo_encoder.proofs.RequireLemmas.{Carries, carried, candidate_grows, recorded_grows, cases_keep, fix_at, fix_other, offer_named, offer_meets, meets_offer, meets_listed, registered_split, queued_keeps, gates_keep, NoneAsks, fixed_keeps, asked_keeps, within_keeps, encoded_keeps, cased_keeps, guards_keep, extends_then, extends_same, set_stays, marks_stay, guard_grows}

no_slot : {X : Type 0} (o : Option X) → is_some o ≡ false → o ≡ None
no_slot None h = refl
no_slot (Some x) h = cc

-- the registry and the state are replaced
abbrev pub enrolled : {N S : Type 0} → Encoder N S → Registry N → SolverState N S → Encoder N S
enrolled old t c = record old { registry = t; coding = c }

-- the lists are replaced
abbrev pub relisted : {N S : Type 0} → Encoder N S → FixedLists N → Encoder N S
relisted old ls = record old { lists = ls }

module _ {N S : Type 0} (same : S → S → Bool) (exact : IsExact same) (p : Packages N S) (root : Rules) (lawful : IsLawful p) where
  -- The offered solvables are registered.
  pub registers_keep : (offered : List (Offered N S)) (given : List (Candidate N)) (old : Encoder N S) (t : Registry N) (c : SolverState N S) → IsEncoding same p root old → ((o : Offered N S) → Contains offered o → IsAddable same p old o)
      → RegistersAll offered given old.registry old.coding t c → IsEncoding same p root (enrolled old t c)
  registers_keep offered given old t c e fits all = carried same exact p root old (enrolled old t c) e carries
    where
      -- a registered solvable is a candidate of its package
      registered_new : (n : N) (s : S) → IsRegistered t c n s → (n ≡ p.package_of s) × (is_in same p (listed (p.candidates_of (p.package_of s))) s ≡ true)
      registered_new n s a = elim (registered_split same exact p root lawful offered given old.registry t old.coding c e.tied all n s a) [
        | inl b ↦ (let own = e.named n s b in (own, e.candidates s (subst (λ m. IsRegistered old.registry old.coding m s) own b)))
        | inr (o, h, is, one, waits) ↦ (let (named, candidate) = (fits o h).0 in let own : n ≡ p.package_of s = is ∙ named ∙ ap p.package_of one in
            (own, subst (λ m. is_in same p (listed (p.candidates_of m)) s ≡ true) (sym is ∙ own) (subst (λ x. is_in same p (listed (p.candidates_of o.name)) x ≡ true) one candidate)))
      ]

      no_clause : (n : ℕ) → length old.coding.search.clauses ≤ n → n < length c.search.clauses → ⊥
      no_clause n low high = let same_length : length c.search.clauses ≡ length old.coding.search.clauses = ap length all.clauses in omega arith

      none : NoneAsks same exact p root lawful old (enrolled old t c)
      none n q low high at a = no_clause n low high

      at_least_one : (n : N) (s : S) → Contains old.recorded.at_least_one.keys n → IsRegistered t c n s → E.rules_of (enrolled old t c) (Rule.is_there n s) ⊎ E.IsPending (enrolled old t c) n s
      at_least_one n s h a = elim (registered_split same exact p root lawful offered given old.registry t old.coding c e.tied all n s a) [
        | inl b ↦ elim (e.cases.at_least_one n s h b) [
          | inl rule ↦ inl (rules_grow old.coding c all.grows (Rule.is_there n s) rule)
          | inr (inl (v, present, queued)) ↦ inr (inl (v, represents_grow old.coding c v (Solvable s) all.grows present, all.waits n v queued))
          | inr (inr marked) ↦ inr (inr (subst (λ ns. Contains ns.keys n) (sym all.many) marked))
        ]
        | inr (o, present, is, one, waits) ↦ inr (inl waits)
      ]

      marked_new : (n : N) (s : S) → IsRegistered t c n s → IsRegistered old.registry old.coding n s ⊎ IsMarkKnown same p old n
      marked_new n s a = elim (registered_split same exact p root lawful offered given old.registry t old.coding c e.tied all n s a) [
        | inl b ↦ inl b
        | inr (o, h, is, one, waits) ↦ inr (subst (λ (m : N). IsMarkKnown same p old m) (sym is) (fits o h).1)
      ]

      candidate : (n : N) (s : S) (x : Candidate N) → IsCandidate old n s x → IsCandidate (enrolled old t c) n s x
      candidate n s x h = candidate_grows same exact p root old (enrolled old t c) n s x all.grows all.keeps h

      carries : Carries same exact p root old (enrolled old t c)
      carries = record {
        coding = all.coding;
        grows = all.grows;
        trail = all.trail;
        tied = all.tied;
        keeps = all.keeps;
        registered = λ n s a. inr (registered_new n s a);
        new_clause = λ n low high. absurd (no_clause n low high);
        lists = λ q k. refl;
        listed = λ q x a. (let (s, b, m) = e.listed q x a in (s, candidate (p.package_of s) s x b, m));
        offered = λ q s k m. (let (x, there, b) = e.offered q s k m in (x, there, candidate (p.package_of s) s x b));
        fixed = fixed_keeps same exact p root lawful old (enrolled old t c) e all.coding all.grows (λ q k. k) none;
        queued = λ q a. queued_keeps same exact p root lawful old (enrolled old t c) e all.grows (prefix_same old.lists.disjunctions) q a;
        asked = asked_keeps same exact p root lawful old (enrolled old t c) e all.coding all.grows refl none;
        gates = gates_keep same exact p root lawful old (enrolled old t c) e all.grows refl;
        forbid = guards_keep same exact p root lawful old (enrolled old t c) e all.grows refl;
        recorded = recorded_grows same exact p root old (enrolled old t c) all.grows refl e.recorded;
        softs = refl;
        cases = cases_keep same exact p root old (enrolled old t c) e.cases all.grows refl refl refl (cased_keeps same exact p root lawful old (enrolled old t c) e all.coding all.grows refl all.keeps none) at_least_one;
        marks = marks_stay same exact p root old (enrolled old t c) all.many (λ n a. a) marked_new e.marks;
        within = within_keeps same exact p root lawful old (enrolled old t c) e refl refl;
        encoded = encoded_keeps same exact p root lawful old (enrolled old t c) e all.grows refl refl refl;
      }

  -- The lists are replaced: a requirement with a clause keeps its candidates, and those are the
  -- solvables that meet it.
  relists : (old : Encoder N S) (ls : FixedLists N) → IsEncoding same p root old → IsPrefixOf old.lists.disjunctions ls.disjunctions → KeepsLists old (relisted old ls)
      → ((r : Requirement) (c : Candidate N) → Contains (candidates_in ls r) c → (s : S) × IsCandidate old (p.package_of s) s c × (meets same p r s ≡ true))
      → ((r : Requirement) (s : S) → has_candidates ls r ≡ true → meets same p r s ≡ true → (c : Candidate N) × Contains (candidates_in ls r) c × IsCandidate old (p.package_of s) s c)
      → ((r : Requirement) → has_candidates ls r ≡ true → IsGuarded same p (E.rules_of old) r)
      → IsEncoding same p root (relisted old ls)
  relists old ls e prefix keeps listed_new offered_new guarded = carried same exact p root old (relisted old ls) e carries
    where
      candidate : (n : N) (s : S) (x : Candidate N) → IsCandidate old n s x → IsCandidate (relisted old ls) n s x
      candidate n s x h = record { positive = h.positive; present = h.present; tracked = h.tracked }

      carries : Carries same exact p root old (relisted old ls)
      carries = record {
        coding = e.coding;
        grows = grows_same old.coding;
        trail = trail_same old.coding;
        tied = e.tied;
        keeps = λ m u h. h;
        registered = λ n s a. inl a;
        new_clause = λ n low high. absurd (omega arith);
        lists = keeps;
        listed = λ q x a. (let (s, b, m) = listed_new q x a in (s, candidate (p.package_of s) s x b, m));
        offered = λ q s k m. (let (x, there, b) = offered_new q s k m in (x, there, candidate (p.package_of s) s x b));
        fixed = λ q has. (let old_has : has_candidates old.lists q ≡ true = e.fixed q has in ap is_some (keeps q old_has) ∙ old_has);
        queued = λ q a. queued_keeps same exact p root lawful old (relisted old ls) e (grows_same old.coding) prefix q a;
        asked = e.asked;
        gates = e.gates;
        forbid = guarded;
        recorded = recorded_grows same exact p root old (relisted old ls) (grows_same old.coding) refl e.recorded;
        softs = refl;
        cases = cases_keep same exact p root old (relisted old ls) e.cases (grows_same old.coding) refl refl refl (λ parent need case v present a. set_stays same exact p root old (relisted old ls) v (grows_same old.coding) (λ n b. b) (λ w b. b) (λ m u b. b) (e.cases.cased parent need case v present a)) e.cases.at_least_one;
        marks = marks_stay same exact p root old (relisted old ls) refl (λ n a. a) (λ n s a. inl a) e.marks;
        within = e.within;
        encoded = encoded_keeps same exact p root lawful old (relisted old ls) e (grows_same old.coding) refl refl refl;
      }

  -- a disjunction was added
  pub disjunction_keeps : (number : ℕ) (given : List Signed) (old : Encoder N S) (ls : FixedLists N) → IsEncoding same p root old → FixesDisjunction number given old.lists ls → IsEncoding same p root (relisted old ls)
  disjunction_keeps number given old ls e f = relists old ls e (given ∷ [], f.put) (λ r h. slots r)
      (λ r c a. e.listed r c (subst (λ x. Contains (list_or_none x) c) (slots r) a))
      (λ r s h m. (let (c, there, fits) = e.offered r s (sym (ap is_some (slots r)) ∙ h) m in (c, subst (λ x. Contains (list_or_none x) c) (sym (slots r)) there, fits)))
      (λ r h. e.forbid r (sym (ap is_some (slots r)) ∙ h))
    where
      slots : (r : Requirement) → slot_of ls.candidates r ≡ slot_of old.lists.candidates r
      slots r = ap (λ cs. slot_of cs r) f.candidates

  -- the registered solvables became the requirement's candidates
  pub candidates_keep : (r : Requirement) (offered : List (Offered N S)) (given : List (Candidate N)) (old : Encoder N S) (ls : FixedLists N) → IsEncoding same p root old → AreOffered same p r offered → IsGuarded same p (E.rules_of old) r → has_candidates old.lists r ≡ false
      → ((o : Offered N S) → Contains offered o → (c : Candidate N) × Contains given c × IsOfferedAs old.registry old.coding o c)
      → ((c : Candidate N) → Contains given c → (o : Offered N S) × Contains offered o × IsOfferedAs old.registry old.coding o c)
      → FixesCandidates r given old.lists ls → IsEncoding same p root (relisted old ls) × (has_candidates ls r ≡ true)
  candidates_keep r offered given old ls e h guarded fresh each all fixes = (
    relists old ls e (prefix_equal old.lists.disjunctions ls.disjunctions fixes.disjunctions)
        (λ q k. elim (slots q) [ inl is ↦ absurd (both_ways _ fresh (subst (λ y. has_candidates old.lists y ≡ true) is k)) | inr is ↦ is ]) listed_new offered_new guarded_new,
    ap is_some here,
  )
    where
      here : slot_of ls.candidates r ≡ Some given
      here = fix_at r given old.lists ls fixes

      slots : (q : Requirement) → (q ≡ r) ⊎ (slot_of ls.candidates q ≡ slot_of old.lists.candidates q)
      slots q = fix_other r q given old.lists ls fixes

      given_candidate : (c : Candidate N) (o : Offered N S) → Contains offered o → IsOfferedAs old.registry old.coding o c → IsCandidate old (p.package_of o.solvable) o.solvable c
      given_candidate c o a fits = record { positive = fits.positive; present = fits.present; tracked = subst (λ n. IsTracked old.registry n c.literal.variable) (offer_named same exact p root lawful r offered o h a) fits.tracked }

      listed_new : (q : Requirement) (c : Candidate N) → Contains (candidates_in ls q) c → (s : S) × IsCandidate old (p.package_of s) s c × (meets same p q s ≡ true)
      listed_new q c a = elim (slots q) [
        | inl is ↦
            let (o, b, fits) = all c (subst (λ x. Contains (list_or_none x) c) (ap (slot_of ls.candidates) is ∙ here) a) in
            (o.solvable, given_candidate c o b fits, subst (λ x. meets same p x o.solvable ≡ true) (sym is) (offer_meets same exact p root lawful r offered o h b))
        | inr is ↦ e.listed q c (subst (λ x. Contains (list_or_none x) c) is a)
      ]

      offered_new : (q : Requirement) (s : S) → has_candidates ls q ≡ true → meets same p q s ≡ true → (c : Candidate N) × Contains (candidates_in ls q) c × IsCandidate old (p.package_of s) s c
      offered_new q s k m = elim (slots q) [
        | inl is ↦
            let (o, b, one) = meets_offer same exact p root lawful r offered s h (subst (λ x. meets same p x s ≡ true) is m) in
            let (c, there, fits) = each o b in
            (c, subst (λ x. Contains (list_or_none x) c) (sym (ap (slot_of ls.candidates) is ∙ here)) there, subst (λ x. IsCandidate old (p.package_of x) x c) (sym one) (given_candidate c o b fits))
        | inr is ↦
            let (c, there, fits) = e.offered q s (sym (ap is_some is) ∙ k) m in
            (c, subst (λ x. Contains (list_or_none x) c) (sym is) there, fits)
      ]

      guarded_new : (q : Requirement) → has_candidates ls q ≡ true → IsGuarded same p (E.rules_of old) q
      guarded_new q k = elim (slots q) [
        | inl is ↦ subst (λ x. IsGuarded same p (E.rules_of old) x) (sym is) guarded
        | inr is ↦ e.forbid q (sym (ap is_some is) ∙ k)
      ]

  -- the offered solvables became the requirement's candidates
  pub fixes_keep : (r : Requirement) (offered : List (Offered N S)) (old new : Encoder N S) → IsEncoding same p root old → AreOffered same p r offered → IsPrepared same p old r → Fixes same r offered old new → IsEncoding same p root new × (has_candidates new.lists r ≡ true)
  fixes_keep r offered old new e h ready f = elim f.fixed [
    | inl (has, is) ↦ (subst (λ (x : Encoder N S). IsEncoding same p root x) (sym is) e, subst (λ (x : Encoder N S). has_candidates x.lists r ≡ true) (sym is) has)
    | inr (fresh, middle, given, enrols, fixes, is) ↦
        let before = enrols.encoding p root lawful e fits in
        let (keeps, has) = candidates_keep r offered given middle new.lists before h (guard_grows same exact p root old middle r enrols.extends.grows ready.0) (ap (λ ls. has_candidates ls r) enrols.lists ∙ fresh) enrols.each enrols.all fixes in
        (subst (λ (x : Encoder N S). IsEncoding same p root x) (sym is) keeps, has)
  ]
    where
      fits : (o : Offered N S) → Contains offered o → IsAddable same p old o
      fits o a =
          let named = offer_named same exact p root lawful r offered o h a in
          let meeting = offer_meets same exact p root lawful r offered o h a in
          let (v, there, is) = any_contained (λ x. is_match same p x o.solvable) (alternatives_of p.members_of r) meeting in
          let own : p.package_of o.solvable ≡ p.set_package v = candidate_named same exact p lawful (p.set_package v) o.solvable (and_parts (is_in same p (listed (p.candidates_of (p.set_package v))) o.solvable) (p.matches v o.solvable) is).0 in (
            (named, subst (λ n. is_in same p (listed (p.candidates_of n)) o.solvable ≡ true) (sym named) (meets_listed same exact p root lawful r o.solvable meeting)),
            subst (λ (n : N). IsMarkKnown same p old n) (sym (named ∙ own)) (ready.1 v there),
          )

module _ {N S : Type 0} (same : S → S → Bool) where
  built_enrolls : (offered : List (Offered N S)) (given : List (Candidate N)) (old : Encoder N S) (t : Registry N) (c : SolverState N S) → IsBuilt old → RegistersAll offered given old.registry old.coding t c → IsBuilt (enrolled old t c)
  built_enrolls offered given old t c b all = record {
    coding = all.coding;
    tied = all.tied;
    candidates = λ r x a. (let (positive, (s, present)) = b.candidates r x a in (positive, (s, represents_grow old.coding c x.literal.variable (Solvable s) all.grows present)));
    gates = λ r v at. represents_grow old.coding c v (Gate r) all.grows (b.gates r v at);
    within = b.within;
    clauses = clauses_grow old (enrolled old t c) b all.grows refl;
    queue = b.queue;
    seen = seen_same old (enrolled old t c) b all.trail refl;
  }

  -- the offered solvables are registered
  pub enrols : IsExact same → (offered : List (Offered N S)) (given : List (Candidate N)) (old : Encoder N S) (t : Registry N) (c : SolverState N S) → IsBuilt old → RegistersAll offered given old.registry old.coding t c → Enrols same offered given old (enrolled old t c)
  enrols exact offered given old t c built all = record {
    built = built_enrolls offered given old t c built all;
    extends = record { grows = all.grows; trail = all.trail; softs = refl; parents = refl; encoded = refl; deferred = refl; fired = refl };
    lists = refl;
    recorded = refl;
    many = all.many;
    keeps = all.keeps;
    each = all.each;
    all = all.all;
    ordered = all.ordered;
    encoding = λ p root lawful e fits. registers_keep same exact p root lawful offered given old t c e fits all;
  }

  pub fixes_extend : (r : Requirement) (offered : List (Offered N S)) (old new : Encoder N S) → Fixes same r offered old new → Extends old new
  fixes_extend r offered old new f = elim f.fixed [
    | inl (has, is) ↦ subst (λ (x : Encoder N S). Extends old x) (sym is) (extends_same old)
    | inr (fresh, middle, given, enrols, fixes, is) ↦ subst (λ (x : Encoder N S). Extends old x) (sym is)
        (extends_then old middle (relisted middle new.lists) enrols.extends (record { grows = grows_same middle.coding; trail = trail_same middle.coding; softs = refl; parents = refl; encoded = refl; deferred = refl; fired = refl }))
  ]

  -- the offered solvables became the requirement's candidates, in their order, and later steps kept
  -- these
  pub fixes_add : (r : Requirement) (offered : List (Offered N S)) (old middle new : Encoder N S) → Fixes same r offered old middle → Grows middle.coding new.coding → new.lists.candidates ≡ middle.lists.candidates → AddsCandidates r offered old new
  fixes_add r offered old middle new f grows lists q has = elim f.fixed [
    | inl (there, is) ↦ inl (ap (λ cs. slot_of cs q) lists ∙ ap (λ (x : Encoder N S). slot_of x.lists.candidates q) is)
    | inr (fresh, enrolled_one, given, enrols, fixes, is) ↦ elim (fix_other r q given enrolled_one.lists middle.lists fixes) [
      | inr stays ↦ inl (ap (λ cs. slot_of cs q) lists ∙ stays ∙ ap (λ ls. slot_of ls.candidates q) enrols.lists)
      | inl own ↦
          let here : slot_of new.lists.candidates q ≡ Some given = ap (λ cs. slot_of cs q) lists ∙ ap (slot_of middle.lists.candidates) own ∙ fix_at r given enrolled_one.lists middle.lists fixes in
          let same_coding : enrolled_one.coding ≡ middle.coding = sym (ap (λ (x : Encoder N S). x.coding) is) in
          inr (
            own,
            subst (λ x. AreCandidates new.coding.atoms.keys (list_or_none x) (offered_solvables offered)) (sym here)
                (candidates_grow enrolled_one.coding new.coding given (offered_solvables offered) (subst (λ (c : SolverState N S). Grows c new.coding) (sym same_coding) grows) enrols.ordered),
          )
    ]
  ]

  -- the calls' precondition is kept where offered solvables became candidates
  pub built_fixes : (r : Requirement) (offered : List (Offered N S)) (old new : Encoder N S) → IsBuilt old → Fixes same r offered old new → IsBuilt new
  built_fixes r offered old new b f = elim f.fixed [
    | inl (has, is) ↦ subst (λ (x : Encoder N S). IsBuilt x) (sym is) b
    | inr (fresh, middle, given, enrols, fixes, is) ↦ subst (λ (x : Encoder N S). IsBuilt x) (sym is) (record {
      coding = enrols.built.coding;
      tied = enrols.built.tied;
      candidates = candidates_new middle given enrols.built fixes enrols.all;
      gates = enrols.built.gates;
      within = enrols.built.within;
      clauses = λ q a. literals_widen middle.lists new.lists middle.coding.search.clauses q (condition_widens middle.lists new.lists (prefix_equal middle.lists.disjunctions new.lists.disjunctions fixes.disjunctions) q.condition)
          (λ l. still_has (λ literals. has literals l) refl middle given fixes (ap (λ ls. has_candidates ls r) enrols.lists ∙ fresh) q.requirement) (enrols.built.clauses q a);
      queue = sound_more middle.lists new.lists middle.queue (still_same middle given fixes (ap (λ ls. has_candidates ls r) enrols.lists ∙ fresh)) enrols.built.queue;
      seen = enrols.built.seen;
    })
  ]
    where
      -- what needs some literal is still true of a requirement's literals
      still_has : (test : List Signed → Bool) → test [] ≡ false → (middle : Encoder N S) (given : List (Candidate N)) → FixesCandidates r given middle.lists new.lists → has_candidates middle.lists r ≡ false → (q : Requirement) → test (literals_in middle.lists q) ≡ true → test (literals_in new.lists q) ≡ true
      still_has test empty middle given fixes fresh q h = elim (fix_other r q given middle.lists new.lists fixes) [
        | inl is ↦ absurd (both_ways (test (candidate_literals (list_or_none (slot_of middle.lists.candidates q)))) (ap (λ x. test (candidate_literals (list_or_none x))) (ap (slot_of middle.lists.candidates) is ∙ no_slot (slot_of middle.lists.candidates r) fresh) ∙ empty) h)
        | inr is ↦ subst (λ x. test (candidate_literals (list_or_none x)) ≡ true) (sym is) h
      ]

      -- what has candidates keeps them
      still_same : (middle : Encoder N S) (given : List (Candidate N)) → FixesCandidates r given middle.lists new.lists → has_candidates middle.lists r ≡ false → (q : Requirement) → 0 < length (candidates_in middle.lists q) → candidates_in new.lists q ≡ candidates_in middle.lists q
      still_same middle given fixes fresh q some = elim (fix_other r q given middle.lists new.lists fixes) [
        | inl is ↦ (let none : length (candidates_in middle.lists q) ≡ 0 = ap (λ x. length (list_or_none x)) (ap (slot_of middle.lists.candidates) is ∙ no_slot (slot_of middle.lists.candidates r) fresh) in absurd (omega (arith, some, none)))
        | inr is ↦ ap list_or_none is
      ]

      candidates_new : (middle : Encoder N S) (given : List (Candidate N)) → IsBuilt middle → FixesCandidates r given middle.lists new.lists → ((c : Candidate N) → Contains given c → (o : Offered N S) × Contains offered o × IsOfferedAs middle.registry middle.coding o c)
          → (q : Requirement) (c : Candidate N) → Contains (candidates_in new.lists q) c → (c.literal.positive ≡ true) × ((s : S) × Represents middle.coding.atoms.keys c.literal.variable (Solvable s))
      candidates_new middle given built fixes all q c a = elim (fix_other r q given middle.lists new.lists fixes) [
        | inl is ↦
            let (o, there, fits) = all c (subst (λ x. Contains (list_or_none x) c) (ap (slot_of new.lists.candidates) is ∙ fix_at r given middle.lists new.lists fixes) a) in
            (fits.positive, (o.solvable, fits.present))
        | inr is ↦ built.candidates q c (subst (λ x. Contains (list_or_none x) c) is a)
      ]
