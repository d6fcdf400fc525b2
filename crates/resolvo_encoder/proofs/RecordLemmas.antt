-- A soft requirement is recorded, and removed.
use Rattle.std.proofs.Common.{◌≡◌, ◌<◌, inl, inr, Bool, true, false, List, [], ◌∷◌, ◌++◌, length, Option, Some, None, Vec, Global, refl, sym, ◌∙◌, ap, subst, arith}
use Rattle.std.proofs.lemmas.Bool.{both_ways}
use Rattle.std.proofs.lemmas.List.{length_push, same_from_push}
use Rattle.std.specs.Prelude.{Contains, option_to_list, IsSome}
use Rattle.resolvo_pool_core.specs.declared.id.VariableId.{VariableId}
use Rattle.resolvo_pool_core.specs.OnePass.{Literal}
use Rattle.resolvo_pool_core.specs.RuleKeeping.{Packages, Rules, meets}
use Rattle.resolvo_pool_core.specs.declared.requirement.Requirement.{Requirement}
use Rattle.resolvo_store_core.specs.Signed.{Signed, has}
use Rattle.resolvo_store_core.specs.Clauses.{yes}
use Rattle.resolvo_store_core.specs.declared.decision.Entry.{Entry}
use Rattle.resolvo_store_core.specs.declared.lists.Candidate.{Candidate}
use Rattle.resolvo_sat.specs.Entries.{literal_of, reason_of, made_true, IsOnTrail, IsReasoned, IsTrail}
use Rattle.resolvo_sat.specs.Known.{clause_at}
use Rattle.resolvo_sat.specs.State.{count_of, history, clauses_of}
use Rattle.resolvo_sat.proofs.Literals.{has-cons}
use Rattle.resolvo_sat.proofs.Trails.{known_from_level, level_from_entry}
use Rattle.resolvo_sat.specs.RuleClauses.{IsExact, Atom, Rule, plus}
use Rattle.resolvo_sat.specs.SearchEnd.{HasClause, IsAsked}
use Rattle.resolvo_sat.specs.Numbered.{meaning, known_of, AreCalledFor, Means}
use Rattle.resolvo_sat.proofs.Lists.{contains_one, contains_left, contains_parts}
use Rattle.resolvo_sat.proofs.Members.{in_contained, contained_in}
use Rattle.resolvo_sat.proofs.Reached.{one_solvable}
use Rattle.resolvo_packages.specs.declared.package_source.Offered.{Offered}
use Rattle.resolvo_state.specs.declared.atom.ProofAtom.TheVariants.{Solvable}
use Rattle.resolvo_state.specs.declared.solver_state.SolverState.{SolverState}
use Rattle.resolvo_state.specs.SolverState.{Grows, SameTrail}
use Rattle.resolvo_state.specs.declared.registry.Registry.{Registry}
use Rattle.resolvo_state.specs.Atoms.{origin, Represents}
use Rattle.resolvo_state.specs.Registered.{IsTracked, Registers}
use Rattle.resolvo_state.proofs.Origins.{means_solvable, solvable_means}
use Rattle.resolvo_encoder.specs.declared.encoder.Encoder.{Encoder}
use Rattle.resolvo_encoder.specs.Encoded.{rules_of, IsChosenFor, IsEncoding, Registered}
use Rattle.resolvo_encoder.proofs.CarryLemmas.{registers_none, registers_more}
use Rattle.resolvo_encoder.proofs.DecideLemmas.{choices_called}
use Rattle.resolvo_encoder.proofs.EnrollLemmas.{enrolled, enrols}
use Rattle.resolvo_encoder.proofs.EncodesLemmas.{built_recorded}
use Rattle.resolvo_encoder.specs.Steps.{IsBuilt, IsAddable, MarksPackage}
use Rattle.resolvo_encoder.specs.SoftRequirement.{IsTrue, RecordsChosen, RegistersSoft, RecordsSoft, IsUntaken, TakesBack}

-- the encoding with other soft requirements
abbrev pub with_softs : {N S : Type 0} → Encoder N S → Vec S Global → Encoder N S
with_softs e ws = record e { recorded = record e.recorded { softs = ws } }

-- the literal of an entry on the trail is known
on_known : (h : List Entry) (e : Entry) (older : List Entry) → IsOnTrail h e older → has (made_true h) (literal_of e) ≡ true
on_known h e older present = known_from_level h (literal_of e) e.level (level_from_entry h e older present)

module _ {N S : Type 0} (same : S → S → Bool) (exact : IsExact same) where
  -- ---- a soft requirement is added

  -- a soft requirement is registered as an offered solvable is
  pub soft_registers : (one : Offered N S) (v : VariableId) (old : Encoder N S) (t : Registry N) (c : SolverState N S) → IsBuilt old → Registers one.name one.solvable v old.registry old.coding t c → RegistersSoft same one v old (enrolled old t c)
  soft_registers one v old t c built soft_registered = record {
    candidate = given;
    enrols = enrols same exact (one ∷ []) (given ∷ []) old t c built
        (registers_more [] [] one given old.registry old.registry t old.coding old.coding c (registers_none old.registry old.coding built.coding built.tied) (record { literal = refl; registers = soft_registered }));
    present = soft_registered.present;
    tracked = soft_registered.registered;
  }
    where
      given : Candidate N
      given = record { literal = yes v; «package» = one.name }

  -- The invariant is kept where the soft requirements are registered, and each decision is
  -- justified.
  softs_keep : (p : Packages N S) (root : Rules) (e : Encoder N S) (ws : Vec S Global) → IsEncoding same p root e → ((s : S) → Contains ws.items s → Registered same p root e s)
      → AreCalledFor (origin e.coding.atoms.keys) (IsChosenFor same p (with_softs e ws)) (history e.coding.search) → IsEncoding same p root (with_softs e ws)
  softs_keep p root e ws h wished called = record {
    coding = h.coding;
    tied = h.tied;
    spelled = h.spelled;
    rule = h.rule;
    positive = h.positive;
    named = h.named;
    candidates = h.candidates;
    listed = λ q c a. (let (s, fits, m) = h.listed q c a in (s, record { positive = fits.positive; present = fits.present; tracked = fits.tracked }, m));
    offered = λ q s k m. (let (c, a, fits) = h.offered q s k m in (c, a, record { positive = fits.positive; present = fits.present; tracked = fits.tracked }));
    fixed = h.fixed;
    queued = h.queued;
    asked = h.asked;
    gates = h.gates;
    forbid = h.forbid;
    recorded = record { packages = h.recorded.packages; version_sets = h.recorded.version_sets; matches = h.recorded.matches };
    marks = record { right = h.marks.right; registered = h.marks.registered; recorded = h.marks.recorded };
    cases = record { waiting = h.cases.waiting; places = h.cases.places; fired = h.cases.fired; cased = h.cases.cased; at_least_one = h.cases.at_least_one; there = h.cases.there };
    within = h.within;
    encoded = λ i parent below at. (let k = h.encoded i parent below at in record { needs = k.needs; limits = k.limits; guarded = k.guarded; unknown = k.unknown });
    wished = wished;
    called = called;
  }

  -- one more registered soft requirement
  soft_more : (p : Packages N S) (root : Rules) (e : Encoder N S) (ws : Vec S Global) (s : S) → ws.items ≡ e.recorded.softs.items ++ s ∷ [] → Registered same p root e s → IsEncoding same p root e → IsEncoding same p root (with_softs e ws)
  soft_more p root e ws s more registered h = softs_keep p root e ws h each called
    where
      each : (t : S) → Contains ws.items t → Registered same p root e t
      each t a = elim (contains_parts t e.recorded.softs.items (s ∷ []) (subst (λ (xs : List S). Contains xs t) more a)) [
        | inl k ↦ h.wished t k
        | inr k ↦ subst (Registered same p root e) (sym (contains_one t s k)) registered
      ]

      wider : (known : List (Literal (Atom N S))) (l : Literal (Atom N S)) → IsChosenFor same p e known l → IsChosenFor same p (with_softs e ws) known l
      wider known l (inr k) = inr k
      wider known l (inl w) = inl (record {
        solvable = w.solvable;
        is = w.is;
        wished = contained_in same exact p ws.items w.solvable
            (subst (λ (xs : List S). Contains xs w.solvable) (sym more) (contains_left w.solvable e.recorded.softs.items (s ∷ []) (in_contained same exact p e.recorded.softs.items w.solvable w.wished)));
      })

      called : AreCalledFor (origin e.coding.atoms.keys) (IsChosenFor same p (with_softs e ws)) (history e.coding.search)
      called x older present choice other = wider (known_of (origin e.coding.atoms.keys) older) (meaning (origin e.coding.atoms.keys) (literal_of x)) (h.called x older present choice other)

  -- a soft requirement is registered, and recorded behind the others
  pub soft_recorded : (one : Offered N S) (many : Bool) (v : VariableId) (old marked middle : Encoder N S) (ws : Vec S Global) → MarksPackage same one.name many old marked → RegistersSoft same one v marked middle → ws.items ≡ middle.recorded.softs.items ++ one.solvable ∷ [] → RecordsSoft same one many v old (with_softs middle ws)
  soft_recorded one many v old marked middle ws marks r more = record {
    built = built_recorded middle (record middle.recorded { softs = ws }) r.enrols.built;
    present = r.present;
    softs = more ∙ ap (λ (xs : List S). xs ++ one.solvable ∷ []) (r.enrols.extends.softs ∙ ap (λ (x : Encoder N S). x.recorded.softs.items) marks.rest);
    grows = subst (λ (c : SolverState N S). Grows c middle.coding) coding r.enrols.extends.grows;
    trail = subst (λ (c : SolverState N S). SameTrail c middle.coding) coding (record { tracker = r.enrols.extends.trail.tracker });
    lists = r.enrols.lists ∙ ap (λ (x : Encoder N S). x.lists) marks.rest;
    parents = r.enrols.extends.parents ∙ ap (λ (x : Encoder N S). x.parents) marks.rest;
    encoded = r.enrols.extends.encoded ∙ ap (λ (x : Encoder N S). x.encoded) marks.rest;
    deferred = r.enrols.extends.deferred ∙ ap (λ (x : Encoder N S). x.deferred) marks.rest;
    fired = r.enrols.extends.fired ∙ ap (λ (x : Encoder N S). x.fired) marks.rest;
    encoding = λ p root lawful e listed is.
        let (before, known) = marks.encoding p root lawful e is in
        soft_more p root middle ws one.solvable more (v, r.present, subst (λ (n : N). IsTracked middle.registry n v) listed.0 r.tracked)
        (r.enrols.encoding p root lawful before (λ o h. subst (IsAddable same p marked) (sym (contains_one o one h)) (listed, known)));
  }
    where
      coding : marked.coding ≡ old.coding
      coding = ap (λ (x : Encoder N S). x.coding) marks.rest

  -- ---- a soft requirement that is true is recorded

  -- what the trail makes true is registered
  made_registered : (p : Packages N S) (root : Rules) (e : Encoder N S) → IsEncoding same p root e → (l : Signed) (s : S) → Means (origin e.coding.atoms.keys) l (plus (Atom.solvable s))
      → (h : List Entry) → IsTrail (count_of e.coding.search) (clauses_of e.coding.search) h → ((x : Entry) (older : List Entry) → IsOnTrail h x older → IsOnTrail (history e.coding.search) x older)
      → has (made_true h) l ≡ true → Registered same p root e s
  made_registered p root e holds l s means [] t on known = absurd (both_ways false refl known)
  made_registered p root e holds l s means (x ∷ older) t on known = elim (has-cons (literal_of x) (made_true older) l known) [
    | inl is ↦ newest is t.0.reasoned
    | inr later ↦ made_registered p root e holds l s means older t.1 (λ y o at. on y o (inr at)) later
  ]
    where
      rules : Rule N S → Type 0
      rules = rules_of e

      is_candidate : (r : Requirement) → HasClause same p rules r → meets same p r s ≡ true → Registered same p root e s
      is_candidate r asked fits = (let (c, there, is) = holds.offered r s (holds.fixed r asked) fits in (c.literal.variable, is.present, is.tracked))

      asked_clause : (known : List (Literal (Atom N S))) (r : Requirement) → IsAsked same p rules known r → HasClause same p rules r
      asked_clause known r (inl k) = inl (k.parent, k.need, k.case, k.present, k.asks)
      asked_clause known r (inr k) = inr k.present

      named : literal_of x ≡ l → (t : S) → meaning (origin e.coding.atoms.keys) (literal_of x) ≡ plus (Atom.solvable t) → t ≡ s
      named is t states = one_solvable same exact p root rules (Registered same p root e) (meaning (origin e.coding.atoms.keys) (literal_of x)) s t (means.1 ∙ ap (meaning (origin e.coding.atoms.keys)) (sym is)) states

      newest : literal_of x ≡ l → IsReasoned (clauses_of e.coding.search) x older → Registered same p root e s
      newest is (inr forced) = holds.positive (reason_of x) l s (subst (λ (m : Signed). has (clause_at (clauses_of e.coding.search) (reason_of x)) m ≡ true) is forced.forced.present) means
      newest is (inl choice) = elim (choices_called same p root e exact holds x older (on x older (inl (refl, refl))) choice (subst (λ (m : Signed). 0 < m.variable.0) (sym is) means.0)) [
        | inl soft ↦ subst (Registered same p root e) (named is soft.solvable soft.is) (holds.wished soft.solvable (in_contained same exact p e.recorded.softs.items soft.solvable soft.wished))
        | inr pick ↦ is_candidate pick.requirement (asked_clause _ pick.requirement pick.asked) (subst (λ (t : S). meets same p pick.requirement t ≡ true) (named is pick.solvable pick.is) pick.offered)
      ]

  true_registered : (p : Packages N S) (root : Rules) (e : Encoder N S) → IsEncoding same p root e → (s : S) → IsTrue e s → Registered same p root e s
  true_registered p root e holds s (u, present, known) =
      made_registered p root e holds (yes u) s (solvable_means e.coding.atoms.keys (yes u) s refl present) (history e.coding.search) holds.coding.ready.state.trail (λ x older on. on) known

  pub chosen_recorded : (soft : S) (old : Encoder N S) (ws : Vec S Global) → IsBuilt old → IsTrue old soft → ws.items ≡ old.recorded.softs.items ++ soft ∷ [] → RecordsChosen same soft old (with_softs old ws)
  chosen_recorded soft old ws built chosen more = record {
    built = built_recorded old (record old.recorded { softs = ws }) built;
    softs = more;
    rest = refl;
    encoding = λ p root lawful e. soft_more p root old ws soft more (true_registered p root old e soft chosen) e;
  }

  -- ---- the last soft requirement is removed

  -- the last soft requirement is removed, which isn't chosen
  soft_less : (p : Packages N S) (root : Rules) (e : Encoder N S) (ws : Vec S Global) (s : S) → e.recorded.softs.items ≡ ws.items ++ s ∷ []
      → ((v : VariableId) → Represents e.coding.atoms.keys v (Solvable s) → has (made_true (history e.coding.search)) (yes v) ≡ false) → IsEncoding same p root e → IsEncoding same p root (with_softs e ws)
  soft_less p root e ws s less open_one h = softs_keep p root e ws h (λ t a. h.wished t (subst (λ (xs : List S). Contains xs t) (sym less) (contains_left t ws.items (s ∷ []) a))) called
    where
      unchosen : (x : Entry) (older : List Entry) → IsOnTrail (history e.coding.search) x older → 0 < x.decision.variable.0 → meaning (origin e.coding.atoms.keys) (literal_of x) ≡ plus (Atom.solvable s) → ⊥
      unchosen x older present other is =
          let (positive, named) = means_solvable e.coding.atoms.keys (literal_of x) s (other, sym is) in
          let known : has (made_true (history e.coding.search)) (literal_of x) ≡ true = on_known (history e.coding.search) x older present in
          let chosen : has (made_true (history e.coding.search)) (yes x.decision.variable) ≡ true = subst (λ (b : Bool). has (made_true (history e.coding.search)) (let l : Signed = record { variable = x.decision.variable; positive = b } in l) ≡ true) positive known in
          both_ways _ (open_one x.decision.variable named) chosen

      called : AreCalledFor (origin e.coding.atoms.keys) (IsChosenFor same p (with_softs e ws)) (history e.coding.search)
      called x older present choice other = elim (h.called x older present choice other) [
        | inr k ↦ inr k
        | inl w ↦ inl (record {
          solvable = w.solvable;
          is = w.is;
          wished = contained_in same exact p ws.items w.solvable
              (elim (contains_parts w.solvable ws.items (s ∷ []) (subst (λ (xs : List S). Contains xs w.solvable) less (in_contained same exact p e.recorded.softs.items w.solvable w.wished))) [
                | inl k ↦ k
                | inr k ↦ absurd (unchosen x older present other (w.is ∙ ap (λ (y : S). plus (Atom.solvable y)) (contains_one w.solvable s k)))
              ]);
        })
      ]

  pub soft_taken : (old : Encoder N S) (ws : Vec S Global) (last : Option S) → IsBuilt old → IsUntaken old → old.recorded.softs.items ≡ ws.items ++ option_to_list last → (0 < length old.recorded.softs.items → IsSome last) → TakesBack same old (with_softs old ws)
  soft_taken old ws None built (prefix, s, whole, open_one) popped some = absurd (both_ways false refl (some (omega (arith, length_push prefix s, ap (λ (xs : List S). length xs) whole))))
  soft_taken old ws (Some t) built (prefix, s, whole, open_one) popped some = record {
    built = built_recorded old (record old.recorded { softs = ws }) built;
    softs = λ other u is. (same_from_push ws.items other t u (sym popped ∙ is)).0;
    rest = refl;
    encoding = λ p root lawful e. soft_less p root old ws s (popped ∙ ap (λ (y : S). ws.items ++ y ∷ []) (same_from_push ws.items prefix t s (sym popped ∙ whole)).1) open_one e;
  }
