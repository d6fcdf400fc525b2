-- Clauses of matches, for the version sets of packages that are marked `many`, and the marks.
use Rattle.std.proofs.Common.{◌≡◌, ◌<◌, ◌⊎◌, inl, inr, Bool, true, false, List, [], ◌∷◌, refl, sym, ◌∙◌, ap, subst}
use Rattle.std.specs.Prelude.{Contains}
use Rattle.std.proofs.lemmas.Bool.{both_ways}
use Rattle.resolvo_pool_core.specs.declared.id.VariableId.{VariableId}
use Rattle.resolvo_pool_core.specs.declared.id.VersionSetId.{VersionSetId}
use Rattle.resolvo_pool_core.specs.RuleKeeping.{Packages, Rules, is_many}
use Rattle.resolvo_store_core.specs.Signed.{Signed, has}
use Rattle.resolvo_store_core.specs.Clauses.{no}
use Rattle.resolvo_sat.specs.RuleClauses.{IsExact, Atom, minus, case_literals}
use Rattle.resolvo_sat.specs.Numbered.{Means, Spells}
use Rattle.resolvo_sat.specs.State.{count_of}
use Rattle.resolvo_sat.proofs.Lists.{contains_none, contains_only, contains_one}
use Rattle.resolvo_sat.proofs.Literals.{has-cons, has_here}
use Rattle.resolvo_sat.proofs.Members.{in_case, matches_in_case}
use Rattle.resolvo_packages.specs.declared.package_source.Offered.{Offered}
use Rattle.resolvo_state.specs.declared.atom.ProofAtom.TheVariants.{Matches}
use Rattle.resolvo_state.specs.declared.registry.Registry.{Registry}
use Rattle.resolvo_state.specs.declared.solver_state.SolverState.{SolverState}
use Rattle.resolvo_state.specs.Atoms.{origin, Represents}
use Rattle.resolvo_state.specs.Registered.{AreTied, IsMany, MarksMany, IsTracked}
use Rattle.resolvo_state.proofs.Growth.{represents_in_range}
use Rattle.resolvo_state.proofs.Origins.{means_atom}
use Rattle.resolvo_encoder.specs.declared.conditions.ConditionSet.{ConditionSet}
use Rattle.resolvo_encoder.specs.declared.encoder.Encoder.{Encoder}
use Rattle.resolvo_encoder.specs.declared.encoder.EncodedOnce.{EncodedOnce}
use Rattle.resolvo_encoder.specs.AtLeastOneClauses.{HoldsMatches, CaseLiterals}
use Rattle.resolvo_encoder.specs.Cases.{IsSet}
use Rattle.resolvo_encoder.specs.ClauseRules.{EncodesRules, match_rules}
use Rattle.resolvo_encoder.specs.Encoded.{rules_of, IsEncoding, IsNamed, IsSetEncoded}
use Rattle.resolvo_encoder.specs.Steps.{IsBuilt, MarksPackage}
use Rattle.resolvo_encoder.proofs.EncodesLemmas.{built_recorded, matches_are_rules, matches_encoded, matches_recorded}
use Rattle.resolvo_encoder.proofs.RequireLemmas.{extends_then, extends_same}

module _ {N S : Type 0} (same : S → S → Bool) (exact : IsExact same) where
  -- ---- matches of a version set

  pub holds_known : (v : VersionSetId) (matching : List (Offered N S)) (e : Encoder N S) → IsBuilt e → Contains e.recorded.matches.keys v → HoldsMatches same v matching e e
  holds_known v matching e built known = record {
    built = built;
    extends = extends_same e;
    lists = refl;
    registry = refl;
    others = refl;
    keeps = λ w h. h;
    held = known;
    encoding = λ p root lawful holds offered marked of. holds;
  }

  pub holds_new : (v : VersionSetId) (matching : List (Offered N S)) (old middle : Encoder N S) (x : EncodedOnce N S) → EncodesRules same (match_rules v matching) old middle
      → ((w : VersionSetId) → Contains middle.recorded.matches.keys w → Contains x.matches.keys w) → ((w : VersionSetId) → Contains x.matches.keys w → Contains middle.recorded.matches.keys w ⊎ (w ≡ v)) → Contains x.matches.keys v → x ≡ record middle.recorded { matches = x.matches }
      → HoldsMatches same v matching old (record middle { recorded = x })
  holds_new v matching old middle x encodes keeps only present others = record {
    built = built_recorded middle x encodes.built;
    extends = record { grows = encodes.extends.grows; trail = encodes.extends.trail; softs = ap (λ (y : EncodedOnce N S). y.softs.items) others ∙ encodes.extends.softs; parents = encodes.extends.parents; encoded = encodes.extends.encoded; deferred = encodes.extends.deferred; fired = encodes.extends.fired };
    lists = encodes.lists;
    registry = encodes.registry;
    others = others ∙ ap (λ (y : EncodedOnce N S). record y { matches = x.matches }) encodes.recorded;
    keeps = λ w h. keeps w (subst (λ (y : EncodedOnce N S). Contains y.matches.keys w) (sym encodes.recorded) h);
    held = present;
    encoding = λ p root lawful e offered marked of.
        let (holds, rules) = encodes.encoding p root lawful e (matches_are_rules same exact p root v matching offered marked of) in
        matches_recorded same exact p root middle x v holds keeps only others (matches_encoded same exact p root v matching (rules_of middle) offered rules);
  }

  -- ---- a version set of a case, whose package is marked

  module _ (p : Packages N S) (set : ConditionSet N S) (is_set : IsSet same p set) (many : set.many ≡ true) where
    set_marked : is_many p (p.set_package set.version_set) ≡ true
    set_marked = sym (is_set.mark ∙ ap (is_many p) is_set.named) ∙ many

    -- the literal that no match is chosen
    matches_spell : (e : Encoder N S) (v : VariableId) → Represents e.coding.atoms.keys v (Matches set.version_set) → Spells (origin e.coding.atoms.keys) (no v ∷ []) (case_literals same p (set.version_set ∷ []))
    matches_spell e v present = record {
      only = λ l h. elim (has-cons (no v) [] l h) [
        | inl is ↦ (let means = subst (λ (y : Signed). Means (origin e.coding.atoms.keys) y (minus (Atom.matches set.version_set))) is denies in
            inr (means.0, subst (Contains (case_literals same p (set.version_set ∷ []))) means.1 (matches_in_case same exact p (set.version_set ∷ []) set.version_set (contains_only set.version_set) set_marked)))
        | inr none ↦ absurd (both_ways false refl none)
      ];
      each = λ m h.
          let (w, one, which) = in_case same exact p (set.version_set ∷ []) m h in
          let is_one : w ≡ set.version_set = contains_one w set.version_set one in
          elim which [
            | inl (marked, is) ↦ (no v, has_here (no v) [] (no v) refl, subst (Means (origin e.coding.atoms.keys) (no v)) (sym (is ∙ ap (λ x. minus (Atom.matches x)) is_one)) denies)
            | inr (free, other) ↦ absurd (both_ways _ (subst (λ x. is_many p (p.set_package x) ≡ false) is_one free) set_marked)
          ];
    }
      where
        denies : Means (origin e.coding.atoms.keys) (no v) (minus (Atom.matches set.version_set))
        denies = means_atom e.coding.atoms.keys (no v) (Matches set.version_set) present

  pub marked_literals : (set : ConditionSet N S) (v : VariableId) (literals : List Signed) (old a b : Encoder N S) → set.many ≡ true → HoldsMatches same set.version_set set.matching.items old a → EncodesRules same [] a b → Represents b.coding.atoms.keys v (Matches set.version_set) → literals ≡ no v ∷ []
      → CaseLiterals same (set ∷ []) literals old b
  marked_literals set v literals old a b many holds encodes present is = record {
    built = encodes.built;
    extends = extends_then old a b holds.extends encodes.extends;
    lists = encodes.lists ∙ holds.lists;
    keeps = λ n h. subst (λ (y : EncodedOnce N S). IsNamed y n) (sym recorded) h;
    tracked = λ m u h. subst (λ (r : Registry N). IsTracked r m u) (sym (encodes.registry ∙ holds.registry)) h;
    matches = λ w h. subst (λ (y : EncodedOnce N S). Contains y.matches.keys w) (sym encodes.recorded) (holds.keeps w h);
    in_range = λ l h. elim (has-cons (no v) [] l (subst (λ (ls : List Signed). has ls l ≡ true) is h)) [
      | inl i ↦ subst (λ (y : Signed). y.variable.0 < count_of b.coding.search) i (represents_in_range b.coding v (Matches set.version_set) encodes.built.coding present)
      | inr none ↦ absurd (both_ways false refl none)
    ];
    encoding = λ p root lawful e sets of.
        let is_set : IsSet same p set = sets.0 in
        let marked = set_marked p set is_set many in
        let first = holds.encoding p root lawful e (is_set.matching many) marked (of set.version_set (contains_only set.version_set)) in
        let (second, none) = encodes.encoding p root lawful first (λ r h. absurd (contains_none r h)) in (
          second,
          record {
            sets = λ w h. subst (λ x. IsSetEncoded same p b x) (sym (contains_one w set.version_set h)) (inr (marked, subst (λ (y : EncodedOnce N S). Contains y.matches.keys set.version_set) (sym encodes.recorded) holds.held));
            spells = subst (λ (ls : List Signed). Spells (origin b.coding.atoms.keys) ls (case_literals same p (set.version_set ∷ []))) (sym is) (matches_spell p set is_set many b v present);
          },
        );
  }
    where
      -- the named packages are the same
      recorded : b.recorded ≡ record old.recorded { matches = b.recorded.matches }
      recorded = encodes.recorded ∙ holds.others ∙ ap (λ (y : EncodedOnce N S). record old.recorded { matches = y.matches }) (sym encodes.recorded)

-- ---- marks

-- what is registered stays tied where a package more is marked
marked_tied : {N S : Type 0} (r t : Registry N) (c : SolverState N S) → ((n : N) → IsMany r n → IsMany t n) → t ≡ record r { many = t.many } → AreTied r c → AreTied t c
marked_tied {N} {S} r t c keeps is h = subst (λ (x : Registry N). AreTied x c) (sym is) (record {
  each = h.each;
  once = h.once;
  tied = h.tied;
  placed = λ n name s place bit at. (let q = h.placed n name s place bit at in record { number = q.number; tracker = q.tracker; variable = q.variable; named = q.named; tracked = q.tracked; present = q.present; means = q.means });
  within = h.within;
  solvables = h.solvables;
  registered = λ name v k. h.registered name v (record { place = k.place; tracker = k.tracker; named = k.named; tracked = k.tracked; present = k.present });
  rest = λ name v k. elim (h.rest name v k) [
    | inl a ↦ inl (record { place = a.place; tracker = a.tracker; named = a.named; tracked = a.tracked; present = a.present })
    | inr (inl waits) ↦ inr (inl waits)
    | inr (inr marked) ↦ inr (inr (keeps name marked))
  ];
})

module _ {N S : Type 0} (same : S → S → Bool) where
  -- a package that isn't marked needs no record
  pub package_unmarked : (name : N) (e : Encoder N S) → IsBuilt e → MarksPackage same name false e e
  package_unmarked name e built = record { built = built; rest = refl; keeps = λ n h. h; encoding = λ p root lawful h is. (h, λ marked. absurd (both_ways _ (sym is) marked)) }

  pub package_marked : (name : N) (e : Encoder N S) (t : Registry N) → IsBuilt e → MarksMany name e.registry t → MarksPackage same name true e (record e { registry = t })
  package_marked name e t built marks = record {
    built = record { coding = built.coding; tied = tied built.tied; candidates = built.candidates; gates = built.gates; within = built.within; clauses = built.clauses; queue = built.queue; seen = built.seen };
    rest = ap (λ (r : Registry N). record e { registry = r }) marks.rest;
    keeps = marks.keeps;
    encoding = λ p root lawful h is. (subst (λ (r : Registry N). IsEncoding same p root (record e { registry = r })) (sym marks.rest) (marked_encoding p root h is), λ marked. marks.marked);
  }
    where
      tied : AreTied e.registry e.coding → AreTied t e.coding
      tied h = marked_tied e.registry t e.coding marks.keeps marks.rest h

      renamed : Registry N
      renamed = record e.registry { many = t.many }

      marked_encoding : (p : Packages N S) (root : Rules) → IsEncoding same p root e → true ≡ is_many p name → IsEncoding same p root (record e { registry = renamed })
      marked_encoding p root h is = record {
        coding = h.coding;
        tied = subst (λ (r : Registry N). AreTied r e.coding) marks.rest (tied h.tied);
        spelled = h.spelled;
        rule = h.rule;
        positive = h.positive;
        named = h.named;
        candidates = h.candidates;
        listed = λ q c a. (let (s, fits, m) = h.listed q c a in (s, record { positive = fits.positive; present = fits.present; tracked = fits.tracked }, m));
        offered = λ q s k m. (let (c, a, fits) = h.offered q s k m in (c, a, record { positive = fits.positive; present = fits.present; tracked = fits.tracked }));
        fixed = h.fixed;
        queued = h.queued;
        asked = h.asked;
        gates = h.gates;
        forbid = h.forbid;
        recorded = record { packages = h.recorded.packages; version_sets = h.recorded.version_sets; matches = h.recorded.matches };
        marks = record {
          right = λ n a. elim (marks.only n a) [ inl b ↦ h.marks.right n b | inr one ↦ subst (λ (m : N). is_many p m ≡ true) (sym one) (sym is) ];
          registered = λ n s a m. marks.keeps n (h.marks.registered n s a m);
          recorded = λ n a m. marks.keeps n (h.marks.recorded n a m);
        };
        cases = record {
          waiting = h.cases.waiting;
          places = h.cases.places;
          fired = h.cases.fired;
          cased = h.cases.cased;
          at_least_one = λ n s k a. elim (h.cases.at_least_one n s k a) [ inl rule ↦ inl rule | inr (inl waits) ↦ inr (inl waits) | inr (inr marked) ↦ inr (inr (marks.keeps n marked)) ];
          there = h.cases.there;
        };
        within = h.within;
        encoded = λ i parent below at. (let k = h.encoded i parent below at in record { needs = k.needs; limits = k.limits; guarded = k.guarded; unknown = k.unknown });
        wished = h.wished;
        called = h.called;
      }
