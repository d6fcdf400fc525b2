-- Each step that writes one of a proof has a text, and so has the report.
use Rattle.std.proofs.Common.{inl, inr, ◌⊎◌, ◌≡◌, ◌<◌, ℕ, zero, suc, List, [], ◌∷◌, ◌++◌, map, length, Option, Some, None, refl, sym, ap, subst, ◌∙◌, arith, Vec, Global}
use Rattle.std.specs.Prelude.{IsTrue, ◌&&◌, not, Contains, slice_get}
use Rattle.std.specs.List.{AllZip}
use Rattle.std.proofs.lemmas.Option.{slice_get_within}
use Rattle.resolvo_text.specs.Line.{Version, Spec, Line, Needs}
use Rattle.resolvo_text.specs.Spelling.{IsNumber}
use Rattle.resolvo_text.specs.Spelling as form
use Rattle.resolvo_catalogue_core.specs.Grammar.{line_at}
use Rattle.resolvo_catalogue_core.specs.Questions.{ReadRequest, AreAll}
use Rattle.resolvo_pool_core.specs.declared.requirement.Requirement.{Requirement}
use Rattle.resolvo_pool_core.specs.declared.requirement.ConditionalRequirement.{ConditionalRequirement}
use Rattle.resolvo_pool_core.specs.RuleKeeping.{rules_of}
use Rattle.resolvo_sat.specs.RuleClauses.{ForbidReason, has_condition, same_requirement}
use Rattle.resolvo_sat.proofs.Lists.{contains_map, map_contains, any_contained}
use Rattle.resolvo_proof.specs.Steps.{literal_in}
use Rattle.resolvo_proof.specs.declared.step.ProofLiteral.{ProofLiteral}
use Rattle.resolvo_proof.specs.declared.step.ProofStep.{ProofStep}
use Rattle.resolvo_proof.specs.declared.step.ProofStep.TheVariants.{Rule, Derived}
use Rattle.resolvo_proof.specs.declared.step.ProofRule.TheVariants.{Needs as NeedsRule, GateOf, Shared, Limit, Outside, Locked, Excluded, Digit, AtLeastOne, Matches as MatchesRule}
use Rattle.resolvo_terms.specs.Terms.{NameId}
use Rattle.resolvo_catalogue.specs.Ids.{SolvableId}
use Rattle.resolvo_catalogue.specs.Known.{alternatives_at, word_text}
use Rattle.resolvo_catalogue.specs.Provider.{Provider, packages_of, dependencies_of}
use Rattle.resolvo_catalogue.specs.KeptSets.{root_of}
use Rattle.resolvo_catalogue.proofs.CoverLemmas.{spec_is}
use Rattle.resolvo_report.specs.Value.{Place, OfRequest, OfVersion, Literal, Step, Refused}
use Rattle.resolvo_report.specs.Value as in_report
use Rattle.resolvo_report.specs.Text.{literal_text, are_rising, IsLineNumber, IsPlace, IsAtom, IsStep}
use Rattle.resolvo_report.specs.Text as form_of
use Rattle.resolvo_report.specs.Grammar.{IsReport}
use Rattle.resolvo_report.specs.View.{steps_of}
use Rattle.resolvo_checker.specs.StepClauses as judge
use Rattle.resolve_refusal.specs.declared.named_lines.Text.{Text}
use Rattle.resolve_refusal.specs.declared.named_lines.Text.TheVariants as text
use Rattle.resolve_refusal.specs.declared.report.Refusal.{Refusal}
use Rattle.resolve_refusal.specs.Named.{IsNamedBy}
use Rattle.resolve_refusal.specs.RefusedReport.{version_at, place_at}
use Rattle.resolve_refusal.specs.StepRules.{NamesRule}
use Rattle.resolve_refusal.specs.Refusal.{IsVersion, IsKnownAtom, AreLiterals, IsForbiddenBy, IsWrittenAs, IsProofOver, Refutes}
use Rattle.resolve_refusal.specs.Parts.{IsRefusalOf, IsRefusedBy}
use Rattle.resolve_refusal.proofs.RenameLemmas.{named_once}
use Rattle.resolve_refusal.proofs.Clauses.{Spells, spelled_members, asked_for, gate_asked, limited, is_out, is_its_match, candidate_of, literals_spelled}
use Rattle.resolve_refusal.proofs.Taken.{out_is, match_is}
use Rattle.resolve_refusal.proofs.FollowLemmas.{owned, digit_known}
use Rattle.resolve_refusal.proofs.ForbidLemmas.{forbidden_version, lock_forbids, word_forbids}
use Rattle.resolve_refusal.proofs.AcceptLemmas.{refusal_of}
use Rattle.resolve_refusal.proofs.RuleLines.{within_line, zipped, version_line, same_need, need_written, steps_written}
use Rattle.resolve_refusal.proofs.Spelled.{version_fits, atom_fits}
use Rattle.resolve_refusal.proofs.Grammar.{of_every, rising_sorted, atoms_once, in_grammar}

-- the literals of two equal steps are the same
one_clause : {v w : List Literal} {ms ns : List ℕ} → in_report.Derive v ms ≡ in_report.Derive w ns → v ≡ w
one_clause e = cc

-- the numbers of steps have a text
numbers_fit : (most : ℕ) (causes : List ℕ) → 0 < length causes → most < 4294967295 → ((k : ℕ) → Contains causes k → k < most) → form_of.AreNumbers (map suc causes)
numbers_fit most [] some fits below = absurd (omega (arith, some))
numbers_fit most (k ∷ causes) some fits below = (
  omega arith,
  of_every (λ (n : ℕ). IsNumber n) (map suc (k ∷ causes)) (λ n h. (
      let (j, has, is) = map_contains suc n (k ∷ causes) h in
      let b : j < most = below j has in
      omega (arith, b, fits, is)
      )),
)

some_last : {X : Type 0} (xs : List X) (x : X) → 0 < length (xs ++ x ∷ [])
some_last [] x = omega arith
some_last (y ∷ xs) x = omega arith

-- a step that forbids a version has a text
pub forbid_text : (catalogue : List Line) → length catalogue < 4294967296 → (v : Version) (t : Step) → form.IsVersion v → IsForbiddenBy catalogue v t → IsStep t
forbid_text catalogue long v t fits = λ by. (let (line, l, at, is) = by_line by in text line l at is)
  where
    -- each step that forbids names a line of the catalogue
    by_line : IsForbiddenBy catalogue v t → (line : ℕ) × (l : Line) × (line_at catalogue line ≡ Some l) × ((t ≡ in_report.Lock line v) ⊎ ((t ≡ in_report.Exclude line) ⊎ (t ≡ in_report.Unknown line)))
    by_line (line, inl (is, (l, at, locks))) = (line, l, at, inl is)
    by_line (line, inr (inl (is, (l, at, out)))) = (line, l, at, inr (inl is))
    by_line (line, inr (inr (is, (l, at, unknown)))) = (line, l, at, inr (inr is))

    text : (line : ℕ) (l : Line) → line_at catalogue line ≡ Some l → (t ≡ in_report.Lock line v) ⊎ ((t ≡ in_report.Exclude line) ⊎ (t ≡ in_report.Unknown line)) → IsStep t
    text line l at is =
        let (first, last) = within_line catalogue line l at in
        let numbered : IsLineNumber line = (first, omega (arith, last, long)) in
        elim is [
          | inl e ↦ subst (λ (x : Step). IsStep x) (sym e) (numbered, fits)
          | inr other ↦ elim other [ inl e ↦ subst (λ (x : Step). IsStep x) (sym e) numbered | inr e ↦ subst (λ (x : Step). IsStep x) (sym e) numbered ]
        ]

module _ (catalogue : List Line) (source : ReadRequest) (provider : Provider) (steps : List (ProofStep NameId SolvableId)) (proves : IsProofOver catalogue source provider steps)
    (few : length steps < 4294967296) (long : length catalogue < 4294967296) (asked : length source.lines < 4294967296) where
  -- a line of a place has a number of a line
  line_fits : (place : Place) (n : ℕ) (l : Line) → judge.line_of catalogue source.lines place n ≡ Some l → IsLineNumber n
  line_fits OfRequest n l e = (let (first, last) = within_line source.lines n l e in (first, omega (arith, last, asked)))
  line_fits (OfVersion v) n l e = (let (first, last) = within_line catalogue n l (owned _ (line_at catalogue n) l e) in (first, omega (arith, last, long)))

  parent_fits : (parent : Option SolvableId) → ((s : SolvableId) → parent ≡ Some s → IsVersion catalogue provider.ids s) → IsPlace (place_at catalogue parent)
  parent_fits None known = tt
  parent_fits (Some s) known = version_fits catalogue provider proves.over s (known s refl)

  -- the literals of a derived clause: each atom once
  clause_fits : (n : ℕ) (literals : Vec (ProofLiteral NameId SolvableId) Global) (causes : Vec ℕ Global) (written : List Literal) → slice_get steps n ≡ Some (Derived literals causes)
      → AreLiterals catalogue provider.ids literals.items written → IsTrue (are_rising (map literal_text written)) → form_of.AreLiterals written
  clause_fits n literals causes written at are rising = record {
    each = of_every (λ l. IsAtom l.atom) written fits;
    rising = rising;
    once = atoms_once written fits signs (rising_sorted (map literal_text written) rising);
  }
    where
      known : (l : ProofLiteral NameId SolvableId) → Contains literals.items l → IsKnownAtom catalogue provider.ids l.atom
      known = proves.known n _ at

      fits : (l : Literal) → Contains written l → IsAtom l.atom
      fits l h = (let (k, has, is) = (are l).0 h in subst (λ (x : Literal). IsAtom x.atom) (sym is) (atom_fits catalogue provider proves.over k.atom (known k has)))

      spelled : Spells catalogue provider proves.over (map literal_in literals.items) (map judge.literal_of written)
      spelled = literals_spelled catalogue provider proves.over literals.items written known are

      signs : (l m : Literal) → Contains written l → Contains written m → l.atom ≡ m.atom → l.positive ≡ m.positive
      signs l m h k e =
          let same = spelled_members catalogue provider proves.over _ _ spelled in
          named_once catalogue provider proves.over proves.same_atom proves.exact_atom (map literal_in literals.items) spelled.known (proves.one_sign n literals causes at) (judge.literal_of l) (judge.literal_of m)
          (same.each (judge.literal_of l) (contains_map judge.literal_of l written h)) (same.each (judge.literal_of m) (contains_map judge.literal_of m written k)) e

  -- a line of the catalogue has a form
  catalogue_form : (n : ℕ) (l : Line) → line_at catalogue n ≡ Some l → form.HasForm l
  catalogue_form zero l e = absurd cc
  catalogue_form (suc k) l e = (let (bytes, line) = proves.over.grammatical k l e in line.parsed.form)

  -- so has a step that forbids a version
  forbid_fits : (s : SolvableId) (t : Step) → IsVersion catalogue provider.ids s → IsForbiddenBy catalogue (version_at catalogue s) t → IsStep t
  forbid_fits s t version by = forbid_text catalogue long (version_at catalogue s) t (version_fits catalogue provider proves.over s version) by

  -- the step has a text
  pub step_fits : (n : ℕ) (s : ProofStep NameId SolvableId) (t : Step) → slice_get steps n ≡ Some s → NamesRule catalogue source.lines provider.ids s t → IsWrittenAs catalogue provider.ids source.lines s t → IsStep t
  step_fits n (Rule (NeedsRule parent r case)) t at names_rule is_named =
      let (condition, (needs, cases, matched)) = proves.proof n _ at in
      let (versions, known) = asked_for catalogue provider proves.over proves.same proves.exact source proves.ids proves.asked parent (record { condition = condition; requirement = r }) needs in
      let (line, k, number, is, first) = need_written catalogue source provider steps proves few n parent r case t at names_rule in
      let (l, parsed, needing) = first.parsed in
      subst (λ (x : Step). IsStep x) (sym is) (parent_fits parent versions, line_fits (place_at catalogue parent) line l parsed, number)
  step_fits n (Rule (GateOf s r)) t at names_rule (line, is, first) =
      let (condition, asks) = proves.proof n _ at in
      let (version, known) = gate_asked catalogue provider proves.over proves.same proves.exact s r asks in
      subst (λ (x : Step). IsStep x) (sym is) (version_fits catalogue provider proves.over s version, line_fits (OfVersion (version_at catalogue s)) line _ first.parsed)
  step_fits n (Rule (Shared r)) t at names_rule is =
      let (condition, (s, asks)) = proves.proof n _ at in
      let (need, has, same) = any_contained (λ (need : ConditionalRequirement). not (has_condition need.condition) && same_requirement r need.requirement) (rules_of (dependencies_of provider s)).requirements asks in
      let (c, spelled_condition, m, of, there) = version_line catalogue provider proves.over s need has in
      let spelled : form_of.AreAlternatives (alternatives_at provider.ids need.requirement) = catalogue_form m (Needs (alternatives_at provider.ids need.requirement) c) there in
      subst (λ (x : Step). IsStep x) (sym is) (subst (λ (q : Requirement). form_of.AreAlternatives (alternatives_at provider.ids q)) (ap (λ (x : ConditionalRequirement). x.requirement) (same_need need r same)) spelled)
  step_fits n (Rule (Limit parent v None)) t at names_rule (line, is, first) =
      let (condition, has) = proves.proof n _ at in
      let (versions, known) = limited catalogue provider proves.over proves.same proves.exact source proves.ids proves.asked parent v has in
      subst (λ (x : Step). IsStep x) (sym is) (parent_fits parent versions, line_fits (place_at catalogue parent) line _ first.parsed)
  step_fits n (Rule (Limit parent v (Some s))) t at names_rule (line, is, first) =
      let (condition, (has, out)) = proves.proof n _ at in
      let (versions, (spec, named)) = limited catalogue provider proves.over proves.same proves.exact source proves.ids proves.asked parent v has in
      let (version, outside) = is_out catalogue provider proves.over proves.same proves.exact v spec s named out in
      subst (λ (x : Step). IsStep x) (sym is) (parent_fits parent versions, line_fits (place_at catalogue parent) line _ first.parsed, version_fits catalogue provider proves.over s version)
  step_fits n (Rule (Outside v s)) t at names_rule is =
      let (condition, out) = proves.proof n _ at in
      let (spec, named, fits) = proves.known n _ at in
      let (version, outside) = is_out catalogue provider proves.over proves.same proves.exact v spec s named (out_is proves.same (packages_of provider) (root_of proves.ids) v s out) in
      subst (λ (x : Step). IsStep x) (sym is) (subst (λ (x : Spec). form.IsSpec x) (sym (spec_is provider.ids v spec named)) fits, version_fits catalogue provider proves.over s version)
  step_fits n (Rule (Locked locked s)) t at names_rule by = (let (condition, forbids) = proves.proof n _ at in forbid_fits s t (forbidden_version catalogue provider proves.over proves.same proves.exact s (ForbidReason.lock locked) forbids) (lock_forbids catalogue (version_at catalogue s) t by))
  step_fits n (Rule (Excluded s reason)) t at names_rule by = (let (condition, forbids) = proves.proof n _ at in forbid_fits s t (forbidden_version catalogue provider proves.over proves.same proves.exact s (ForbidReason.word reason) forbids) (word_forbids catalogue (version_at catalogue s) (word_text provider.ids reason) t by))
  step_fits n (Rule (Digit s place bit)) t at names_rule is =
      let (version, below, one) = digit_known catalogue source provider steps proves n s place bit at in
      subst (λ (x : Step). IsStep x) (sym is) (version_fits catalogue provider proves.over s version, names_rule, below)
  step_fits n (Rule (AtLeastOne m s)) t at names_rule is =
      let (condition, there) = proves.proof n _ at in
      let (version, packaged) = candidate_of catalogue provider proves.over proves.same proves.exact m s there in
      subst (λ (x : Step). IsStep x) (sym is) (version_fits catalogue provider proves.over s version)
  step_fits n (Rule (MatchesRule v s)) t at names_rule is =
      let (condition, rule) = proves.proof n _ at in
      let (match, many) = match_is proves.same (packages_of provider) (root_of proves.ids) v s rule in
      let (spec, named, fits) = proves.known n _ at in
      let (version, matched) = is_its_match catalogue provider proves.over proves.same proves.exact v spec s named match in
      subst (λ (x : Step). IsStep x) (sym is) (subst (λ (x : Spec). form.IsSpec x) (sym (spec_is provider.ids v spec named)) fits, version_fits catalogue provider proves.over s version)
  step_fits n (Derived literals causes) t at (v, of, same, rising) (written, is, are) =
      let refutes = proves.proof n _ at in
      let one : v ≡ written = one_clause (sym of ∙ is) in
      let within : n < length steps = slice_get_within steps n _ at in
      subst (λ (x : Step). IsStep x) (sym is) (
        clause_fits n literals causes written at are (subst (λ (ls : List Literal). IsTrue (are_rising (map literal_text ls))) one rising),
        numbers_fit n causes.items refutes.some (omega (arith, few, within)) refutes.earlier,
      )

-- named lines have numbers of lines
named_fit : (of : Text) (count : ℕ) (numbers : List ℕ) (written : List Step) → count < 4294967296 → AreAll numbers (IsNamedBy of count written) → (n : ℕ) → Contains numbers n → IsLineNumber n
named_fit of count numbers written fits all n h = (let (k, is, below, rests) = (all.all n).0 h in (omega (arith, is), omega (arith, is, below, fits)))

module _ (catalogue : List Line) (source : ReadRequest) (provider : Provider) (steps : List (ProofStep NameId SolvableId)) (refutes : Refutes catalogue source provider steps)
    (few : length steps < 4294967296) (long : length catalogue < 4294967296) (asked : length source.lines < 4294967296) where
  -- the steps that write the proof's are those of a report
  is_report : (in_catalogue in_request : List ℕ) (written : List Step) → AllZip (NamesRule catalogue source.lines provider.ids) steps written → AllZip (IsWrittenAs catalogue provider.ids source.lines) steps written
      → AreAll in_catalogue (IsNamedBy text.Catalogue (length catalogue) written) → AreAll in_request (IsNamedBy text.Request (length source.lines) written) → IsReport (Refused in_catalogue in_request written [])
  is_report in_catalogue in_request written names_rule are of_catalogue of_request = in_grammar in_catalogue in_request steps written of_catalogue.rising of_request.rising
      (named_fit text.Catalogue (length catalogue) in_catalogue written long of_catalogue) (named_fit text.Request (length source.lines) in_request written asked of_request)
      (zipped steps written (step_fits catalogue source provider steps refutes.proves few long asked) names_rule are) (let end = refutes.empty in subst (λ (xs : List (ProofStep NameId SolvableId)). 0 < length xs) (sym end.ends) (some_last end.earlier (Derived end.literals end.causes))) few

  -- A refusal whose steps are written so, and which names the lines that they rest on, is one by the proof.
  pub refusal : (r : Refusal) → AllZip (NamesRule catalogue source.lines provider.ids) steps (steps_of r.steps.items) → IsRefusedBy catalogue source.lines provider.ids steps r → IsRefusalOf catalogue source.lines provider.ids steps r
  refusal r names_rule refused =
      let each = steps_written catalogue source provider steps refutes.proves few (steps_of r.steps.items) names_rule refused.each in
      refusal_of catalogue source provider steps refutes r refused each (is_report r.catalogue.items r.request.items (steps_of r.steps.items) names_rule each refused.named refused.asked)
