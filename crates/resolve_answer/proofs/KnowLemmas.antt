-- The steps of a search over a catalogue's provider name known versions, names, SPECs and
-- alternatives: those that lines spell.
use Rattle.std.proofs.Common.{◌≡◌, inl, inr, ℕ, zero, suc, ◌<◌, Bool, true, false, ◌&&◌, List, [], ◌∷◌, ◌++◌, length, Option, Some, None, refl, sym, ap, subst, ◌∙◌, arith}
use Rattle.std.specs.Prelude.{not, Contains, slice_get, slice_index_or, option_to_list, filter}
use Rattle.std.specs.List.{flat_map}
use Rattle.std.proofs.lemmas.Bool.{cases_Bool, and_parts, eqb-true}
use Rattle.std.proofs.lemmas.Option.{slice_get-get_or, slice_get_within, get_or_from_slice_get}
use Rattle.resolvo_text.specs.Line.{Spec, Line, Listed}
use Rattle.resolvo_text.specs.Spelling.{HasForm, Spells, SpellsLine}
use Rattle.resolvo_catalogue_core.specs.Grammar.{AreRequestLines, line_at}
use Rattle.resolvo_catalogue_core.specs.Listed.{listed}
use Rattle.resolvo_catalogue_core.specs.Questions.{ReadRequest}
use Rattle.resolvo_catalogue_core.specs.Sets.{is_many}
use Rattle.resolvo_terms.proofs.Places.{at_from_contains}
use Rattle.resolvo_catalogue_core.proofs.PlaceLemmas.{contains_from_line}
use Rattle.resolvo_catalogue_core.proofs.TableLemmas.{listed_from}
use Rattle.resolvo_pool_core.specs.declared.id.VersionSetId.{VersionSetId}
use Rattle.resolvo_pool_core.specs.declared.id.ConditionId.{ConditionId}
use Rattle.resolvo_pool_core.specs.declared.requirement.ConditionalRequirement.{ConditionalRequirement}
use Rattle.resolvo_pool_core.specs.declared.requirement.Requirement.{Requirement}
use Rattle.resolvo_pool_core.specs.OnePass.{Literal}
use Rattle.resolvo_pool_core.specs.Provider as pool
use Rattle.resolvo_pool_core.specs.RuleKeeping.{Packages, rules_of, rules_for, is_in, is_match, is_outside}
use Rattle.resolvo_pool_core.specs.RuleKeeping as kept
use Rattle.resolvo_pool_core.specs.Text.{alternatives_of}
use Rattle.resolvo_store_core.specs.AtMostOne.{digit}
use Rattle.resolvo_sat.specs.RuleClauses.{Atom, IsExact, ForbidReason, plus, minus, solvables, IsRule, has_plain_need, has_condition, same_requirement, cases_under, parent_literals, set_literals, case_literals, candidate_literals, AreMatched, literals_of}
use Rattle.resolvo_sat.proofs.Lists.{contains_none, contains_cases, contains_first, contains_later, contains_parts, map_contains, filter_contains, any_contained, contains_map}
use Rattle.resolvo_state.specs.declared.atom.ProofAtom.{ProofAtom}
use Rattle.resolvo_state.specs.declared.atom.ProofAtom.TheVariants as atom
use Rattle.resolvo_state.specs.Atoms.{atom_of}
use Rattle.resolvo_proof.specs.declared.step.ProofRule.{ProofRule}
use Rattle.resolvo_proof.specs.declared.step.ProofRule.TheVariants.{Needs, GateOf, Shared, Limit, Outside, Locked, Excluded, Digit, AtLeastOne, Matches as MatchesRule}
use Rattle.resolvo_proof.specs.declared.step.ProofStep.{ProofStep}
use Rattle.resolvo_proof.specs.declared.step.ProofStep.TheVariants.{Rule, Derived}
use Rattle.resolvo_proof.specs.Steps.{literal_in, rule_under, clause_of, clause_at}
use Rattle.resolvo_proof.specs.Proof.{IsProof}
use Rattle.resolvo_proof.specs.Drawn.{AreDrawn}
use Rattle.resolvo_proof.specs.Trimmed.{IsTrimmedTo, IsRenumbered}
use Rattle.resolvo_terms.specs.Terms.{NameId, AreEach}
use Rattle.resolvo_catalogue.specs.Ids.{SolvableId, IsNeed, IsSpec, IsPackage}
use Rattle.resolvo_catalogue.specs.Known.{name_of, name_text, set_at, spec_at, members_of, condition_at}
use Rattle.resolvo_catalogue.specs.Dependencies.{VersionDependencies, need_in, limit_in, lines_at, no_lines}
use Rattle.resolvo_catalogue.specs.Provider.{Provider, packages_of, candidates_of, dependencies_of, matches, deps_at}
use Rattle.resolvo_catalogue.specs.Over.{IsOver, AreAsked}
use Rattle.resolvo_catalogue.specs.KeptSets.{DistinguishesIds, root_of}
use Rattle.resolvo_catalogue.specs.declared.provider.RequestIds.{RequestIds}
use Rattle.resolvo_terms.specs.declared.terms.Numbers.{Numbers}
use Rattle.resolvo_catalogue.proofs.Alike.{is_package, candidate, in_to}
use Rattle.resolvo_catalogue.proofs.Elements.{flat_from, option_from, each_from_left, need_from, limit_from}
use Rattle.resolvo_catalogue.proofs.KeptAlike.{mark_alike}
use Rattle.resolvo_catalogue.proofs.MarkLemmas.{one_some}
use Rattle.resolvo_catalogue.proofs.RulesKept.{req_from, con_from}
use Rattle.resolve_refusal.specs.Refusal.{IsVersion, IsSpelledName, IsSpelledSet, IsSpelledRequirement, IsKnownAtom, IsKnownStep}
use Rattle.resolve_refusal.proofs.ForbidLemmas.{known_version, forbidden_version}
use Rattle.resolve_refusal.proofs.Cases.{case_specs}
use Rattle.resolve_refusal.proofs.Clauses.{candidate_of, set_alike}
use Rattle.resolve_refusal.proofs.RenameLemmas.{name_is, spec_is}
use Rattle.resolve_answer.proofs.CaseForms.{case_fits}
use Rattle.resolve_answer.proofs.Atoms.{one_requirement}

-- ---- places of a list

-- a property of each element and of the default
or_all : {X : Type 0} (P : X → Type 0) (xs : List X) (d : X) → ((k : ℕ) (x : X) → slice_get xs k ≡ Some x → P x) → P d → (i : ℕ) → P (slice_index_or xs i d)
or_all P [] d h own i = own
or_all P (x ∷ xs) d h own zero = h 0 x refl
or_all P (x ∷ xs) d h own (suc i) = or_all P xs d (λ k y e. h (suc k) y e) own i

-- the clause of a step, by its place
clause_is : (same : SolvableId → SolvableId → Bool) (p : Packages NameId SolvableId) (steps : List (ProofStep NameId SolvableId)) (n : ℕ) (s : ProofStep NameId SolvableId) → slice_get steps n ≡ Some s → clause_at same p steps n ≡ clause_of same p s
clause_is same p [] n s e = absurd cc
clause_is same p (x ∷ steps) zero s e = ap (clause_of same p) (one_some e)
clause_is same p (x ∷ steps) (suc n) s e = clause_is same p steps n s e

no_clause : (same : SolvableId → SolvableId → Bool) (p : Packages NameId SolvableId) (steps : List (ProofStep NameId SolvableId)) (n : ℕ) → slice_get steps n ≡ None → clause_at same p steps n ≡ []
no_clause same p [] n e = refl
no_clause same p (x ∷ steps) zero e = absurd cc
no_clause same p (x ∷ steps) (suc n) e = no_clause same p steps n e

module _ (catalogue : List Line) (source : ReadRequest) (provider : Provider) (over : IsOver catalogue provider) (asks_rightly : AreRequestLines catalogue source.lines) (ids : RequestIds) (asked : AreAsked provider.ids source ids) (same : SolvableId → SolvableId → Bool) (exact : IsExact same) where
  abbrev p : Packages NameId SolvableId
  p = packages_of provider

  apart : DistinguishesIds same
  apart s t = (exact.one s t, λ e. subst (λ x. same s x ≡ true) e (exact.own s))

  -- ---- lines have their forms

  -- some text spells each line
  abbrev Fit : List Line → Type 0
  Fit lines = (l : Line) → Contains lines l → (text : List ℕ) × SpellsLine text l

  catalogue_fits : Fit catalogue
  catalogue_fits l h =
      let (k, at) = at_from_contains catalogue l h in
      let (text, line) = over.grammatical k l at in
      (text, line.parsed)

  request_fits : Fit source.lines
  request_fits l h =
      let (k, at) = at_from_contains source.lines l h in
      let (text, line) = asks_rightly k l at in
      (text, line.parsed)

  lines_fit : (numbers : List ℕ) → Fit (lines_at catalogue numbers)
  lines_fit numbers l c =
      let f = flat_from (λ n. option_to_list (line_at catalogue n)) numbers l c in
      catalogue_fits l (contains_from_line catalogue f.0 l (option_from (line_at catalogue f.0) l f.2))

  -- each of the version sets is a SPEC that a line can spell
  abbrev AreSpelledSets : List VersionSetId → Type 0
  AreSpelledSets vs = (v : VersionSetId) → Contains vs v → IsSpelledSet catalogue provider.ids v

  -- the alternatives can be spelled, and so can the SPECs of each case
  abbrev IsSpelledNeed : ConditionalRequirement → Type 0
  IsSpelledNeed need = IsSpelledRequirement catalogue provider.ids need.requirement × ((case : List VersionSetId) → Contains (cases_under (condition_at provider.ids) need.condition) case → AreSpelledSets case)

  need_spelled : (lines : List Line) → Fit lines → (needs : List ConditionalRequirement) → AreEach (IsNeed provider.ids) needs (flat_map need_in lines) → (need : ConditionalRequirement) → Contains needs need → IsSpelledNeed need
  need_spelled lines fit needs each need h =
      let (x, among, (alternatives, condition)) = each_from_left (IsNeed provider.ids) needs (flat_map need_in lines) each need h in
      let (l, in_lines, parsed) = flat_from need_in lines x among in
      let (text, line) = fit l in_lines in (
        (x.0, alternatives, subst HasForm (need_from l x parsed) line.form),
        λ case has v in_case. (
            let (specs, of, sets) = case_specs provider.ids over.once.below need.condition x.1 condition case has in
            let (s, there, is) = each_from_left (IsSpec provider.ids) case specs sets v in_case in
            (s, is, case_fits text x.0 x.1 (subst (Spells text) (need_from l x parsed) line.spelled) specs of s there)
            ),
      )

  limit_spelled : (lines : List Line) → Fit lines → (sets : List VersionSetId) → AreEach (IsSpec provider.ids) sets (flat_map limit_in lines) → (v : VersionSetId) → Contains sets v → IsSpelledSet catalogue provider.ids v
  limit_spelled lines fit sets each v h =
      let x = each_from_left (IsSpec provider.ids) sets (flat_map limit_in lines) each v h in
      let f = flat_from limit_in lines x.0 x.1 in
      (x.0, x.2, subst HasForm (limit_from f.0 x.0 f.2) (fit f.0 f.1).1.form)

  -- ---- the dependencies of a solvable

  needs_known : (s : SolvableId) (need : ConditionalRequirement) → Contains (deps_at provider s).requirements need → IsSpelledNeed need
  needs_known s need = or_all (λ (t : VersionDependencies). Contains t.requirements need → IsSpelledNeed need) provider.deps no_lines
      (λ k t e. let known_of = over.deps.each k t e in need_spelled (lines_at catalogue known_of.0) (lines_fit known_of.0) t.requirements known_of.2.requirements need)
      (λ c. absurd (contains_none need c)) s.raw

  limits_known : (s : SolvableId) (v : VersionSetId) → Contains (deps_at provider s).constrains v → IsSpelledSet catalogue provider.ids v
  limits_known s v = or_all (λ (t : VersionDependencies). Contains t.constrains v → IsSpelledSet catalogue provider.ids v) provider.deps no_lines
      (λ k t e. let known_of = over.deps.each k t e in limit_spelled (lines_at catalogue known_of.0) (lines_fit known_of.0) t.constrains known_of.2.constrains v)
      (λ c. absurd (contains_none v c)) s.raw

  -- ---- the rules of a parent

  abbrev IsParentKnown : Option SolvableId → Type 0
  IsParentKnown parent = (s : SolvableId) → parent ≡ Some s → IsVersion catalogue provider.ids s

  need_known : (parent : Option SolvableId) (need : ConditionalRequirement) → Contains (rules_for same p (root_of ids) parent).requirements need → IsParentKnown parent × IsSpelledNeed need
  need_known None need h = (λ s e. absurd cc, need_spelled source.lines request_fits ids.requirements.items asked.requirements need h)
  need_known (Some s) need h =
      let c = req_from (deps_at provider s) (deps_at provider s).unknown need h in
      let v = known_version catalogue provider over same exact s (λ e. contains_none need (subst (λ (t : VersionDependencies). Contains t.requirements need) e c)) in
      (λ t e. subst (λ (x : SolvableId). IsVersion catalogue provider.ids x) (one_some e) v, needs_known s need c)

  limit_known : (parent : Option SolvableId) (v : VersionSetId) → Contains (rules_for same p (root_of ids) parent).constraints v → IsParentKnown parent × IsSpelledSet catalogue provider.ids v
  limit_known None v h = (λ s e. absurd cc, limit_spelled source.lines request_fits ids.constraints.items asked.constraints v h)
  limit_known (Some s) v h =
      let c = con_from (deps_at provider s) (deps_at provider s).unknown v h in
      let w = known_version catalogue provider over same exact s (λ e. contains_none v (subst (λ (t : VersionDependencies). Contains t.constrains v) e c)) in
      (λ t e. subst (λ (x : SolvableId). IsVersion catalogue provider.ids x) (one_some e) w, limits_known s v c)

  gate_known : (s : SolvableId) (r : Requirement) → has_plain_need (rules_of (dependencies_of provider s)).requirements r ≡ true → IsVersion catalogue provider.ids s × IsSpelledRequirement catalogue provider.ids r
  gate_known s r h =
      let x = any_contained (λ (n : ConditionalRequirement). not (has_condition n.condition) && same_requirement r n.requirement) _ h in
      let is : r ≡ x.0.requirement = one_requirement r x.0.requirement (and_parts (not (has_condition x.0.condition)) _ x.2).1 in
      let known = need_known (Some s) x.0 x.1 in
      (known.0 s refl, subst (λ (q : Requirement). IsSpelledRequirement catalogue provider.ids q) (sym is) known.1.0)

  -- ---- candidates

  candidate_version : (n : NameId) (s : SolvableId) → is_in same p (pool.listed (candidates_of provider n)) s ≡ true → IsVersion catalogue provider.ids s
  candidate_version n s h = (candidate_of catalogue provider over same exact n s h).0

  candidate_listed : (n : NameId) (s : SolvableId) → Contains (pool.listed (candidates_of provider n)) s → IsVersion catalogue provider.ids s
  candidate_listed n s h = candidate_version n s (in_to provider (listed catalogue) over.versions over.once same apart _ s h)

  outside_version : (v : VersionSetId) (s : SolvableId) → is_outside same p v s ≡ true → IsVersion catalogue provider.ids s
  outside_version v s h = candidate_version (set_at provider.ids v).0 s (and_parts _ _ h).0

  -- a version's package has a name
  name_spelled : (s : SolvableId) → IsVersion catalogue provider.ids s → IsSpelledName catalogue provider.ids (name_of provider.ids s)
  name_spelled s (v, e) = (v.name, is_package provider (listed catalogue) over.versions over.once same apart s v e, (catalogue_fits (Listed v) (listed_from catalogue v s.raw e)).1.form.name)

  candidate_name : (n : NameId) (s : SolvableId) → is_in same p (pool.listed (candidates_of provider n)) s ≡ true → IsSpelledName catalogue provider.ids n
  candidate_name n s h =
      let (v, e) = candidate_version n s h in
      let one : (name_of provider.ids s).raw ≡ n.raw = eqb-true _ _ (sym (candidate provider (listed catalogue) over.versions over.once same apart n s v e) ∙ h) in
      subst (λ (m : NameId). IsSpelledName catalogue provider.ids m) (ap (λ k. record { raw = k; tag = record {} }) one) (name_spelled s (v, e))

  -- a version set's package has a name
  set_name : (v : VersionSetId) → IsSpelledSet catalogue provider.ids v → IsSpelledName catalogue provider.ids (set_at provider.ids v).0
  set_name v (s, (n, at, named), fits) =
      let set : (set_at provider.ids v).0 ≡ n = ap (λ (x : NameId × Numbers). x.0) (get_or_from_slice_get provider.ids.version_sets v.0 _ _ at) in
      (s.name, subst (λ (m : NameId). IsPackage provider.ids m s.name) (sym set) named, fits.name)

  -- ---- atoms

  abbrev IsKnown : Atom NameId SolvableId → Type 0
  IsKnown (Atom.solvable s) = IsVersion catalogue provider.ids s
  IsKnown (Atom.gate r) = IsSpelledRequirement catalogue provider.ids r
  IsKnown (Atom.outside v) = IsSpelledSet catalogue provider.ids v
  IsKnown (Atom.any_of n) = IsSpelledName catalogue provider.ids n
  IsKnown (Atom.matches v) = IsSpelledSet catalogue provider.ids v × (is_many catalogue (spec_at provider.ids v).name ≡ true)
  IsKnown (Atom.digit n bit) = IsSpelledName catalogue provider.ids n × (bit < 32) × (is_many catalogue (name_text provider.ids n) ≡ false)

  known_atom : (a : ProofAtom NameId SolvableId) → IsKnown (atom_of a) → IsKnownAtom catalogue provider.ids a
  known_atom (atom.Solvable s) h = h
  known_atom (atom.AtLeastOne n) h = h
  known_atom (atom.Gate r) h = h
  known_atom (atom.Outside v) h = h
  known_atom (atom.Matches v) h = h
  known_atom (atom.Bit n bit) h = h

  abbrev AreKnown : List (Literal (Atom NameId SolvableId)) → Type 0
  AreKnown c = (l : Literal (Atom NameId SolvableId)) → Contains c l → IsKnown l.atom

  known_none : AreKnown []
  known_none l h = absurd (contains_none l h)

  known_more : (l : Literal (Atom NameId SolvableId)) (c : List (Literal (Atom NameId SolvableId))) → IsKnown l.atom → AreKnown c → AreKnown (l ∷ c)
  known_more l c known others m h = elim (contains_cases m l c h) [
    | inl e ↦ subst (λ (x : Literal (Atom NameId SolvableId)). IsKnown x.atom) (sym e) known
    | inr a ↦ others m a
  ]

  known_append : (c d : List (Literal (Atom NameId SolvableId))) → AreKnown c → AreKnown d → AreKnown (c ++ d)
  known_append c d one other m h = elim (contains_parts m c d h) [ inl a ↦ one m a | inr a ↦ other m a ]

  parent_known : (parent : Option SolvableId) → IsParentKnown parent → AreKnown (parent_literals parent)
  parent_known None known = known_none
  parent_known (Some s) known = known_more (minus (Atom.solvable s)) [] (known s refl) known_none

  tested_known : (test : SolvableId → Bool) (v : VersionSetId) → AreKnown (solvables (filter test (pool.listed (candidates_of provider (set_at provider.ids v).0))))
  tested_known test v l h =
      let x = map_contains (λ (s : SolvableId). let m : Literal (Atom NameId SolvableId) = plus (Atom.solvable s) in m) l _ h in
      subst (λ (m : Literal (Atom NameId SolvableId)). IsKnown m.atom) (sym x.2) (candidate_listed (set_at provider.ids v).0 x.0 (filter_contains test x.0 _ x.1).0)

  candidates_known : (vs : List VersionSetId) → AreKnown (candidate_literals same p vs)
  candidates_known [] = known_none
  candidates_known (v ∷ vs) = known_append _ _ (tested_known (matches provider v) v) (candidates_known vs)

  -- the mark of a version set's package, which has a match
  set_marked : (v : VersionSetId) (x : SolvableId) → IsSpelledSet catalogue provider.ids v → is_match same p v x ≡ true → kept.is_many p (set_at provider.ids v).0 ≡ is_many catalogue (spec_at provider.ids v).name
  set_marked v x (s, is, fits) match = set_alike catalogue provider over same exact v s x is match ∙ ap (λ (t : Spec). is_many catalogue t.name) (sym (spec_is catalogue provider over v s is))

  set_known : (v : VersionSetId) → IsSpelledSet catalogue provider.ids v → (x : SolvableId) × (is_match same p v x ≡ true) → AreKnown (set_literals same p v)
  set_known v spelled (x, match) = elim (cases_Bool (kept.is_many p (set_at provider.ids v).0)) [
    | inl many ↦ rw many (known_more (minus (Atom.matches v)) [] (spelled, sym (set_marked v x spelled match) ∙ many) known_none)
    | inr one ↦ rw one (known_more (minus (Atom.any_of (set_at provider.ids v).0)) _ (set_name v spelled) (tested_known (λ s. not (matches provider v s)) v))
  ]

  case_known : (vs : List VersionSetId) → AreSpelledSets vs → AreMatched same p vs → AreKnown (case_literals same p vs)
  case_known [] spelled matched = known_none
  case_known (v ∷ vs) spelled matched =
      known_append _ _ (set_known v (spelled v (contains_first v v vs refl)) (matched v (contains_first v v vs refl)))
      (case_known vs (λ w h. spelled w (contains_later w v vs h)) (λ w h. matched w (contains_later w v vs h)))

  -- ---- clauses of rules

  rule_known : (condition : Option ConditionId) (r : ProofRule NameId SolvableId) → IsRule same p (root_of ids) (rule_under condition r) → AreKnown (literals_of same p (rule_under None r))
  rule_known condition (Needs parent r case) is =
      let known = need_known parent (record { condition = condition; requirement = r }) is.0 in
      known_append _ _ (parent_known parent known.0) (known_append _ _ (case_known case.items (known.1.1 case.items is.1) is.2) (candidates_known (alternatives_of (members_of provider.ids) r)))
  rule_known condition (GateOf s r) is =
      let known = gate_known s r is in
      known_more (minus (Atom.solvable s)) (plus (Atom.gate r) ∷ []) known.0 (known_more (plus (Atom.gate r)) [] known.1 known_none)
  rule_known condition (Shared r) (s, is) =
      known_more (minus (Atom.gate r)) (candidate_literals same p (alternatives_of (members_of provider.ids) r)) (gate_known s r is).1 (candidates_known (alternatives_of (members_of provider.ids) r))
  rule_known condition (Limit parent v None) is =
      let known = limit_known parent v is in
      known_append (parent_literals parent) (minus (Atom.outside v) ∷ []) (parent_known parent known.0) (known_more (minus (Atom.outside v)) [] known.1 known_none)
  rule_known condition (Limit parent v (Some s)) is =
      known_append (parent_literals parent) (minus (Atom.solvable s) ∷ []) (parent_known parent (limit_known parent v is.0).0) (known_more (minus (Atom.solvable s)) [] (outside_version v s is.1) known_none)
  rule_known condition (Outside v s) (parent, limited, out) =
      known_more (minus (Atom.solvable s)) (plus (Atom.outside v) ∷ []) (outside_version v s out) (known_more (plus (Atom.outside v)) [] (limit_known parent v limited).1 known_none)
  rule_known condition (Locked locked s) is = known_more (minus (Atom.solvable s)) [] (forbidden_version catalogue provider over same exact s (ForbidReason.lock locked) is) known_none
  rule_known condition (Excluded s reason) is = known_more (minus (Atom.solvable s)) [] (forbidden_version catalogue provider over same exact s (ForbidReason.word reason) is) known_none
  rule_known condition (Digit s place bit) (among, below, one) =
      let known = candidate_version (name_of provider.ids s) s among in
      let deps : Literal (Atom NameId SolvableId) = record { atom = Atom.digit (name_of provider.ids s) bit; positive = digit place bit } in
      let (v, e) = known in
      let text : name_text provider.ids (name_of provider.ids s) ≡ v.name = name_is catalogue provider over (name_of provider.ids s) v.name (is_package provider (listed catalogue) over.versions over.once same apart s v e) in
      let unmarked : is_many catalogue (name_text provider.ids (name_of provider.ids s)) ≡ false = ap (is_many catalogue) text ∙ (sym (mark_alike provider catalogue over same apart s v e) ∙ one) in
      let named : IsKnown deps.atom = (name_spelled s known, below, unmarked) in
      known_more (minus (Atom.solvable s)) (deps ∷ []) known (known_more deps [] named known_none)
  rule_known condition (AtLeastOne n s) is =
      known_more (minus (Atom.solvable s)) (plus (Atom.any_of n) ∷ []) (candidate_version n s is) (known_more (plus (Atom.any_of n)) [] (candidate_name n s is) known_none)
  rule_known condition (MatchesRule v s) ((parent, need, case, listed, cased, there), match, marked) =
      let spelled = (need_known parent need listed).1.1 case cased v there in
      known_more (minus (Atom.solvable s)) (plus (Atom.matches v) ∷ []) (candidate_version (set_at provider.ids v).0 s (and_parts _ _ match).0)
      (known_more (plus (Atom.matches v)) [] (spelled, sym (set_marked v s spelled match) ∙ marked) known_none)

  -- ---- steps

  module _ (same_atom : Atom NameId SolvableId → Atom NameId SolvableId → Bool) (steps : List (ProofStep NameId SolvableId)) (proof : IsProof same_atom same p (root_of ids) steps) (drawn : AreDrawn same p steps) where
    -- a step's clause is known where those of earlier steps are
    step_known : (n : ℕ) → ((m : ℕ) → m < n → AreKnown (clause_at same p steps m)) → (o : Option (ProofStep NameId SolvableId)) → slice_get steps n ≡ o → AreKnown (clause_at same p steps n)
    step_known n earlier None e = subst AreKnown (sym (no_clause same p steps n e)) known_none
    step_known n earlier (Some (Rule r)) e = (let is = proof n (Rule r) e in subst AreKnown (sym (clause_is same p steps n (Rule r) e)) (rule_known is.0 r is.1))
    step_known n earlier (Some (Derived literals causes)) e = subst AreKnown (sym (clause_is same p steps n (Derived literals causes) e)) (λ l h.
        let x = map_contains literal_in l literals.items h in
        let from = drawn n literals causes e x.0 x.1 in
        subst (λ (m : Literal (Atom NameId SolvableId)). IsKnown m.atom) (sym x.2) (earlier from.0 from.1 (literal_in x.0) from.2))

    known_below : (bound n : ℕ) → n < bound → AreKnown (clause_at same p steps n)
    known_below zero n below = absurd (omega (arith, below))
    known_below (suc bound) n below = step_known n (λ m before. known_below bound m (omega (arith, below, before))) (slice_get steps n) refl

    rule_step : (condition : Option ConditionId) (r : ProofRule NameId SolvableId) → IsRule same p (root_of ids) (rule_under condition r) → IsKnownStep catalogue provider.ids (Rule r)
    rule_step condition (Needs parent r case) is = tt
    rule_step condition (GateOf s r) is = tt
    rule_step condition (Shared r) is = tt
    rule_step condition (Limit parent v forbidden) is = tt
    rule_step condition (Outside v s) (parent, limited, out) = (limit_known parent v limited).1
    rule_step condition (Locked locked s) is = tt
    rule_step condition (Excluded s reason) is = tt
    rule_step condition (Digit s place bit) is = tt
    rule_step condition (AtLeastOne n s) is = tt
    rule_step condition (MatchesRule v s) ((parent, need, case, listed, cased, there), match, marked) = (need_known parent need listed).1.1 case cased v there

    -- each step names known items
    pub known_step : (n : ℕ) (s : ProofStep NameId SolvableId) → slice_get steps n ≡ Some s → IsKnownStep catalogue provider.ids s
    known_step n (Rule r) e = (let is = proof n (Rule r) e in rule_step is.0 r is.1)
    known_step n (Derived literals causes) e = λ l h.
        let known = subst AreKnown (clause_is same p steps n (Derived literals causes) e) (known_below (suc n) n (omega arith)) in
        known_atom l.atom (known (literal_in l) (contains_map literal_in l literals.items h))

    -- and so where some steps were left out
    pub known_kept : (Wanted : ℕ → Type 0) (kept : List (ProofStep NameId SolvableId)) → IsTrimmedTo Wanted steps kept → (k : ℕ) (s : ProofStep NameId SolvableId) → slice_get kept k ≡ Some s → IsKnownStep catalogue provider.ids s
    known_kept Wanted kept trimmed k s e =
        let below : k < length kept = slice_get_within kept k s e in
        let long : length kept ≡ length trimmed.from = trimmed.count in
        let at = slice_get-get_or trimmed.from k 0 (omega (arith, below, long)) in
        let old = trimmed.each k _ s at e in
        renumbered _ old.0 s old.2 (known_step _ old.0 old.1)
      where
        renumbered : (place : ℕ) (old new : ProofStep NameId SolvableId) → IsRenumbered trimmed.from place old new → IsKnownStep catalogue provider.ids old → IsKnownStep catalogue provider.ids new
        renumbered place (Rule r) new is known = subst (λ (x : ProofStep NameId SolvableId). IsKnownStep catalogue provider.ids x) (sym is) known
        renumbered place (Derived literals causes) new (causes_now, is, same_steps) known = subst (λ (x : ProofStep NameId SolvableId). IsKnownStep catalogue provider.ids x) (sym is) known
