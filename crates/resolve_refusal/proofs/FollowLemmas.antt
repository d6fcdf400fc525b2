-- The steps that write a proof are one of the judge: each is allowed after those before it.
use Rattle.std.proofs.Common.{◌≡◌, ℕ, zero, suc, ◌<◌, Bool, true, false, List, [], ◌∷◌, ◌++◌, map, take, length, Option, Some, None, refl, sym, ap, subst, ◌∙◌, arith, cond, Vec, Global}
use Rattle.std.specs.Prelude.{◌||◌, ◌==◌, not, unwrap_or, is_some, Contains, slice_get}
use Rattle.std.specs.List.{AllZip}
use Rattle.std.specs.Option.{option_and_then}
use Rattle.std.proofs.lemmas.Bool.{and_from, eq-eqb, lt-ltb, le-leb}
use Rattle.std.proofs.lemmas.Option.{slice_get_within}
use Rattle.std.proofs.lemmas.List.{length-take-le}
use Rattle.resolvo_text.specs.Line.{Version, Line}
use Rattle.resolvo_text.specs.Matches.{same_version}
use Rattle.resolvo_catalogue_core.specs.Grammar.{line_at}
use Rattle.resolvo_catalogue_core.specs.Questions.{ReadRequest, is_rule}
use Rattle.resolvo_terms.proofs.Places.{at_from_contains}
use Rattle.resolvo_sat.specs.RuleClauses.{ForbidReason}
use Rattle.resolvo_sat.proofs.Lists.{contains_none, contains_first, contains_later, map_contains, contained_all}
use Rattle.resolvo_proof.specs.Members.{SameMembers}
use Rattle.resolvo_proof.specs.Steps.{literal_in, clause_of, clause_at}
use Rattle.resolvo_proof.specs.declared.step.ProofLiteral.{ProofLiteral}
use Rattle.resolvo_proof.specs.declared.step.ProofStep.{ProofStep}
use Rattle.resolvo_proof.specs.declared.step.ProofStep.TheVariants.{Rule, Derived}
use Rattle.resolvo_proof.specs.declared.step.ProofRule.TheVariants.{Needs as NeedsRule, GateOf, Shared, Limit, Outside, Locked, Excluded, Digit, AtLeastOne, Matches as MatchesRule}
use Rattle.resolvo_pool_core.specs.RuleKeeping.{is_many}
use Rattle.resolvo_terms.specs.Terms.{NameId}
use Rattle.resolvo_catalogue.specs.Ids.{SolvableId}
use Rattle.resolvo_catalogue.specs.Known.{name_of, spec_at, alternatives_at, word_text}
use Rattle.resolvo_catalogue.specs.Provider.{Provider, packages_of}
use Rattle.resolvo_catalogue.specs.KeptSets.{root_of}
use Rattle.resolvo_catalogue.proofs.MarkLemmas.{one_some}
use Rattle.resolvo_catalogue.proofs.RulesKept.{below_take, taken}
use Rattle.resolvo_report.specs.Value as in_report
use Rattle.resolvo_checker.specs.StepClauses as judge
use Rattle.resolvo_checker.specs.Rup.{is_earlier}
use Rattle.resolvo_checker.specs.Proof.{rests_on_named, allows_place, cause_of, follows, is_valid_step, ends_empty, derives_empty}
use Rattle.resolvo_checker.proofs.Sets.{same_is}
use Rattle.resolve_refusal.specs.declared.named_lines.Text.{Text}
use Rattle.resolve_refusal.specs.declared.named_lines.Text.TheVariants as text
use Rattle.resolve_refusal.specs.Named.{line_in, in_catalogue}
use Rattle.resolve_refusal.specs.Named as named
use Rattle.resolve_refusal.specs.RefusedReport.{version_at, place_at}
use Rattle.resolve_refusal.specs.Refusal.{IsVersion, IsWrittenAs, AreLiterals, IsProofOver, Refutes}
use Rattle.resolve_refusal.proofs.RenameLemmas.{IsKnownClause, name_clause, version_is, pass_alike}
use Rattle.resolve_refusal.proofs.Taken.{out_is, match_is}
use Rattle.resolve_refusal.proofs.Cases.{case_specs}
use Rattle.resolve_refusal.proofs.ForbidLemmas.{forbid_rule, by_forbid, forbidden_version, lock_forbids, word_forbids}
use Rattle.resolve_refusal.proofs.Clauses.{Spells, IsSpelled, spelled_members, asked_for, gate_asked, need_spelled, gate_spelled, shared_spelled, limited, limit_spelled, limit_forbids_spelled, outside_spelled, match_spelled, candidate_of, any_spelled, forbid_spelled, digit_spelled, literals_spelled, derived_spelled}

-- ---- lists, place by place

pub zip_right : {X Y : Type 0} (R : X → Y → Type 0) (xs : List X) (ys : List Y) → AllZip R xs ys → (n : ℕ) (y : Y) → slice_get ys n ≡ Some y → (x : X) × (slice_get xs n ≡ Some x) × R x y
zip_right R [] [] z n y e = absurd cc
zip_right R [] (w ∷ ys) z n y e = absurd z
zip_right R (x ∷ xs) [] z n y e = absurd z
zip_right R (x ∷ xs) (w ∷ ys) z zero y e = (let same : w ≡ y = one_some e in (x, refl, subst (λ v. R x v) same z.0))
zip_right R (x ∷ xs) (w ∷ ys) z (suc n) y e = zip_right R xs ys z.1 n y e

get_below : {X : Type 0} (xs : List X) (n k : ℕ) (x : X) → slice_get xs n ≡ Some x → k < n → (y : X) × (slice_get xs k ≡ Some y)
get_below [] n k x e below = absurd cc
get_below (y ∷ xs) zero k x e below = absurd (omega arith)
get_below (y ∷ xs) (suc n) zero x e below = (y, refl)
get_below (y ∷ xs) (suc n) (suc k) x e below = get_below xs n k x e (omega arith)

-- ---- lines that steps rest on

-- a step rests on named lines where those of both texts are
pub rests : (c r : ℕ → Bool) (step : in_report.Step) → ((n : ℕ) → line_in text.Catalogue step ≡ Some n → c n ≡ true) → ((n : ℕ) → line_in text.Request step ≡ Some n → r n ≡ true) → rests_on_named c r step ≡ true
rests c r (in_report.Need in_report.OfRequest line k) in_c in_r = in_r line refl
rests c r (in_report.Need (in_report.OfVersion v) line k) in_c in_r = in_c line refl
rests c r (in_report.Gate v line) in_c in_r = in_c line refl
rests c r (in_report.Shared ss) in_c in_r = refl
rests c r (in_report.LimitBars in_report.OfRequest line v) in_c in_r = in_r line refl
rests c r (in_report.LimitBars (in_report.OfVersion w) line v) in_c in_r = in_c line refl
rests c r (in_report.Limit in_report.OfRequest line) in_c in_r = in_r line refl
rests c r (in_report.Limit (in_report.OfVersion v) line) in_c in_r = in_c line refl
rests c r (in_report.Outside s v) in_c in_r = refl
rests c r (in_report.Matches s v) in_c in_r = refl
rests c r (in_report.Lock line v) in_c in_r = in_c line refl
rests c r (in_report.Exclude line) in_c in_r = in_c line refl
rests c r (in_report.Unknown line) in_c in_r = in_c line refl
rests c r (in_report.Digit v place bit) in_c in_r = refl
rests c r (in_report.Any v) in_c in_r = refl
rests c r (in_report.Derive literals causes) in_c in_r = refl

-- the lines of a text
abbrev pub lines_in : List Line → List Line → Text → List Line
lines_in catalogue request text.Catalogue = catalogue
lines_in catalogue request text.Request = request

-- a line of a version is one of the catalogue
pub owned : (b : Bool) (o : Option Line) (l : Line) → cond b o None ≡ Some l → o ≡ Some l
owned true o l e = e
owned false o l e = absurd cc

-- a line of the catalogue, in the text that has it
in_catalogue_text : (catalogue request : List Line) (of : Text) (line n : ℕ) (l : Line) → line_at catalogue line ≡ Some l → in_catalogue of line ≡ Some n → line_at (lines_in catalogue request of) n ≡ Some l
in_catalogue_text catalogue request text.Catalogue line n l at e = (let same : line ≡ n = one_some e in subst (λ (k : ℕ). line_at catalogue k ≡ Some l) same at)
in_catalogue_text catalogue request text.Request line n l at e = absurd cc

-- a line of a place, in the text that has it
in_place_text : (catalogue request : List Line) (of : Text) (place : in_report.Place) (line n : ℕ) (l : Line) → judge.line_of catalogue request place line ≡ Some l → named.line_of of place line ≡ Some n → line_at (lines_in catalogue request of) n ≡ Some l
in_place_text catalogue request text.Catalogue in_report.OfRequest line n l at e = absurd cc
in_place_text catalogue request text.Request in_report.OfRequest line n l at e = (let same : line ≡ n = one_some e in subst (λ (k : ℕ). line_at request k ≡ Some l) same at)
in_place_text catalogue request text.Catalogue (in_report.OfVersion v) line n l at e = (let same : line ≡ n = one_some e in subst (λ (k : ℕ). line_at catalogue k ≡ Some l) same (owned _ (line_at catalogue line) l at))
in_place_text catalogue request text.Request (in_report.OfVersion v) line n l at e = absurd cc

-- a gate rests on a line of its version
gate_line : (catalogue request : List Line) (of : Text) (v : Version) (line n : ℕ) (l : Line) → judge.line_of catalogue request (in_report.OfVersion v) line ≡ Some l → in_catalogue of line ≡ Some n → line_at (lines_in catalogue request of) n ≡ Some l
gate_line catalogue request of v line n l at e = in_catalogue_text catalogue request of line n l (owned _ (line_at catalogue line) l at) e

module _ (catalogue : List Line) (source : ReadRequest) (provider : Provider) (steps : List (ProofStep NameId SolvableId)) (proves : IsProofOver catalogue source provider steps) where
  -- the line of a written step has a rule
  pub line_rule : (of : Text) (s : ProofStep NameId SolvableId) (t : in_report.Step) (n : ℕ) → IsWrittenAs catalogue provider.ids source.lines s t → line_in of t ≡ Some n → (l : Line) × (line_at (lines_in catalogue source.lines of) n ≡ Some l) × (is_rule l ≡ true)
  line_rule of (Rule (NeedsRule parent r case)) t n (line, k, is, first) e =
      let (l, parsed, (condition, needs, numbered)) = first.parsed in
      (l, in_place_text catalogue source.lines of (place_at catalogue parent) line n l parsed (subst (λ (x : in_report.Step). line_in of x ≡ Some n) is e), ap is_rule needs)
  line_rule of (Rule (GateOf s r)) t n (line, is, first) e = (_, gate_line catalogue source.lines of (version_at catalogue s) line n _ first.parsed (subst (λ (x : in_report.Step). line_in of x ≡ Some n) is e), refl)
  line_rule of (Rule (Shared r)) t n is e = absurd (let g : line_in of (in_report.Shared (alternatives_at provider.ids r)) ≡ Some n = subst (λ (x : in_report.Step). line_in of x ≡ Some n) is e in cc)
  line_rule of (Rule (Limit parent v None)) t n (line, is, first) e = (_, in_place_text catalogue source.lines of (place_at catalogue parent) line n _ first.parsed (subst (λ (x : in_report.Step). line_in of x ≡ Some n) is e), refl)
  line_rule of (Rule (Limit parent v (Some s))) t n (line, is, first) e = (_, in_place_text catalogue source.lines of (place_at catalogue parent) line n _ first.parsed (subst (λ (x : in_report.Step). line_in of x ≡ Some n) is e), refl)
  line_rule of (Rule (Outside v s)) t n is e = absurd (let g : line_in of (in_report.Outside (spec_at provider.ids v) (version_at catalogue s)) ≡ Some n = subst (λ (x : in_report.Step). line_in of x ≡ Some n) is e in cc)
  line_rule of (Rule (Locked locked s)) t n lock e = (let (line, l, at, rule, in_text) = forbid_rule catalogue (version_at catalogue s) t (lock_forbids catalogue (version_at catalogue s) t lock) in (l, in_catalogue_text catalogue source.lines of line n l at (sym (in_text of) ∙ e), rule))
  line_rule of (Rule (Excluded s reason)) t n forbids e = (let (line, l, at, rule, in_text) = forbid_rule catalogue (version_at catalogue s) t (word_forbids catalogue (version_at catalogue s) (word_text provider.ids reason) t forbids) in (l, in_catalogue_text catalogue source.lines of line n l at (sym (in_text of) ∙ e), rule))
  line_rule of (Rule (Digit s place bit)) t n is e = absurd (let g : line_in of (in_report.Digit (version_at catalogue s) place bit) ≡ Some n = subst (λ (x : in_report.Step). line_in of x ≡ Some n) is e in cc)
  line_rule of (Rule (AtLeastOne m s)) t n is e = absurd (let g : line_in of (in_report.Any (version_at catalogue s)) ≡ Some n = subst (λ (x : in_report.Step). line_in of x ≡ Some n) is e in cc)
  line_rule of (Rule (MatchesRule v s)) t n is e = absurd (let g : line_in of (in_report.Matches (spec_at provider.ids v) (version_at catalogue s)) ≡ Some n = subst (λ (x : in_report.Step). line_in of x ≡ Some n) is e in cc)
  line_rule of (Derived literals causes) t n (written, is, are) e = absurd (let g : line_in of (in_report.Derive written (map suc causes.items)) ≡ Some n = subst (λ (x : in_report.Step). line_in of x ≡ Some n) is e in cc)

  -- ---- clauses

  abbrev IsClauseOf : ProofStep NameId SolvableId → in_report.Step → Type 0
  IsClauseOf s t = IsSpelled catalogue provider proves.over proves.same proves.exact source.lines (clause_of proves.same (packages_of provider) s) t

  -- the digit of a step is one of the first 32, of a version's place, whose package isn't marked `many`
  pub digit_known : (n : ℕ) (s : SolvableId) (place bit : ℕ) → slice_get steps n ≡ Some (Rule (Digit s place bit)) → IsVersion catalogue provider.ids s × (bit < 32) × (is_many (packages_of provider) (name_of provider.ids s) ≡ false)
  digit_known n s place bit at =
      let (condition, (among, below, one)) = proves.proof n _ at in
      let (version, packaged) = candidate_of catalogue provider proves.over proves.same proves.exact (name_of provider.ids s) s among in
      (version, below, one)

  -- the clause of a written step spells that of the proof's step
  step_spelled : (n : ℕ) (s : ProofStep NameId SolvableId) (t : in_report.Step) → slice_get steps n ≡ Some s → IsWrittenAs catalogue provider.ids source.lines s t → IsClauseOf s t
  step_spelled n (Rule (NeedsRule parent r case)) t at (line, k, is, first) =
      let (condition, (needs, cases, matched)) = proves.proof n _ at in
      let (versions, (x, (alternatives, conditioned))) = asked_for catalogue provider proves.over proves.same proves.exact source proves.ids proves.asked parent (record { condition = condition; requirement = r }) needs in
      let (specs, among, each) = case_specs provider.ids proves.over.once.below condition x.1 conditioned case.items cases in
      subst (λ (y : in_report.Step). IsClauseOf (Rule (NeedsRule parent r case)) y) (sym is)
      (need_spelled catalogue provider proves.over proves.same proves.exact source.lines parent r case.items line k versions (x.0, alternatives) (specs, each) matched first.parsed)
  step_spelled n (Rule (GateOf s r)) t at (line, is, first) =
      let (condition, asks) = proves.proof n _ at in
      let (version, known) = gate_asked catalogue provider proves.over proves.same proves.exact s r asks in
      subst (λ (x : in_report.Step). IsClauseOf (Rule (GateOf s r)) x) (sym is) (gate_spelled catalogue provider proves.over proves.same proves.exact source.lines s r line version known first.parsed)
  step_spelled n (Rule (Shared r)) t at is =
      let (condition, (s, asks)) = proves.proof n _ at in
      let (version, known) = gate_asked catalogue provider proves.over proves.same proves.exact s r asks in
      subst (λ (x : in_report.Step). IsClauseOf (Rule (Shared r)) x) (sym is) (shared_spelled catalogue provider proves.over proves.same proves.exact source.lines r known)
  step_spelled n (Rule (Limit parent v None)) t at (line, is, first) =
      let (condition, has) = proves.proof n _ at in
      let (versions, known) = limited catalogue provider proves.over proves.same proves.exact source proves.ids proves.asked parent v has in
      subst (λ (x : in_report.Step). IsClauseOf (Rule (Limit parent v None)) x) (sym is) (limit_spelled catalogue provider proves.over proves.same proves.exact source.lines parent v line versions known first.parsed)
  step_spelled n (Rule (Limit parent v (Some s))) t at (line, is, first) =
      let (condition, (has, out)) = proves.proof n _ at in
      let (versions, known) = limited catalogue provider proves.over proves.same proves.exact source proves.ids proves.asked parent v has in
      subst (λ (x : in_report.Step). IsClauseOf (Rule (Limit parent v (Some s))) x) (sym is) (limit_forbids_spelled catalogue provider proves.over proves.same proves.exact source.lines parent v s line versions known out first.parsed)
  step_spelled n (Rule (Outside v s)) t at is =
      let (condition, out) = proves.proof n _ at in
      let (spec, known, fits) = proves.known n _ at in
      subst (λ (x : in_report.Step). IsClauseOf (Rule (Outside v s)) x) (sym is) (outside_spelled catalogue provider proves.over proves.same proves.exact source.lines v s (spec, known) (out_is proves.same (packages_of provider) (root_of proves.ids) v s out))
  step_spelled n (Rule (Locked locked s)) t at by = (let (condition, forbids) = proves.proof n _ at in forbid_spelled catalogue provider proves.over proves.same proves.exact source.lines s t (forbidden_version catalogue provider proves.over proves.same proves.exact s (ForbidReason.lock locked) forbids) (lock_forbids catalogue (version_at catalogue s) t by))
  step_spelled n (Rule (Excluded s reason)) t at by = (let (condition, forbids) = proves.proof n _ at in forbid_spelled catalogue provider proves.over proves.same proves.exact source.lines s t (forbidden_version catalogue provider proves.over proves.same proves.exact s (ForbidReason.word reason) forbids) (word_forbids catalogue (version_at catalogue s) (word_text provider.ids reason) t by))
  step_spelled n (Rule (Digit s place bit)) t at is =
      let (version, below, one) = digit_known n s place bit at in
      subst (λ (x : in_report.Step). IsClauseOf (Rule (Digit s place bit)) x) (sym is) (digit_spelled catalogue provider proves.over proves.same proves.exact source.lines s place bit version below one)
  step_spelled n (Rule (AtLeastOne m s)) t at is =
      let (condition, there) = proves.proof n _ at in
      subst (λ (x : in_report.Step). IsClauseOf (Rule (AtLeastOne m s)) x) (sym is) (any_spelled catalogue provider proves.over proves.same proves.exact source.lines m s there)
  step_spelled n (Rule (MatchesRule v s)) t at is =
      let (condition, rule) = proves.proof n _ at in
      let (match, many) = match_is proves.same (packages_of provider) (root_of proves.ids) v s rule in
      let (spec, known, fits) = proves.known n _ at in
      subst (λ (x : in_report.Step). IsClauseOf (Rule (MatchesRule v s)) x) (sym is) (match_spelled catalogue provider proves.over proves.same proves.exact source.lines v s (spec, known) match many)
  step_spelled n (Derived literals causes) t at (written, is, are) =
      let known = proves.known n _ at in
      subst (λ (x : in_report.Step). IsClauseOf (Derived literals causes) x) (sym is)
      (map judge.literal_of written, derived_spelled catalogue provider proves.over source.lines literals.items written (map suc causes.items) known are, literals_spelled catalogue provider proves.over literals.items written known are)

  module _ (written : List in_report.Step) (each : AllZip (IsWrittenAs catalogue provider.ids source.lines) steps written) where
    -- the clause at a place
    clause_there : (xs : List (ProofStep NameId SolvableId)) (k : ℕ) (s : ProofStep NameId SolvableId) → slice_get xs k ≡ Some s → clause_at proves.same (packages_of provider) xs k ≡ clause_of proves.same (packages_of provider) s
    clause_there [] k s e = absurd cc
    clause_there (x ∷ xs) zero s e = ap (clause_of proves.same (packages_of provider)) (one_some e)
    clause_there (x ∷ xs) (suc k) s e = clause_there xs k s e

    -- the clause of an earlier step spells that of its cause
    cause_spelled : (n k : ℕ) (t : in_report.Step) → slice_get written n ≡ Some t → k < n
        → Spells catalogue provider proves.over (clause_at proves.same (packages_of provider) steps k) (cause_of catalogue source.lines (take n written) (suc k))
    cause_spelled n k t at below =
        let (u, there) = get_below written n k t at below in
        let (s, is, names_rule) = zip_right (IsWrittenAs catalogue provider.ids source.lines) steps written each k u there in
        let (d, parsed, spells) = step_spelled k s u is names_rule in
        let cause : cause_of catalogue source.lines (take n written) (suc k) ≡ d = ap (λ (o : Option in_report.Step). unwrap_or (option_and_then (judge.clause_of catalogue source.lines) o) []) (below_take written k n u below there) ∙ ap (λ (o : Option judge.Clause). unwrap_or o []) parsed in
        subst (λ c. Spells catalogue provider proves.over c (cause_of catalogue source.lines (take n written) (suc k))) (sym (clause_there steps k s is))
        (subst (λ x. Spells catalogue provider proves.over (clause_of proves.same (packages_of provider) s) x) (sym cause) spells)

    causes_alike : (n : ℕ) (t : in_report.Step) → slice_get written n ≡ Some t → (causes : List ℕ) → ((k : ℕ) → Contains causes k → k < n)
        → AllZip SameMembers (map (name_clause catalogue provider proves.over) (map (clause_at proves.same (packages_of provider) steps) causes)) (map (cause_of catalogue source.lines (take n written)) (map suc causes))
    causes_alike n t at [] earlier = tt
    causes_alike n t at (k ∷ causes) earlier = (
      spelled_members catalogue provider proves.over _ _ (cause_spelled n k t at (earlier k (contains_first k k causes refl))),
      causes_alike n t at causes (λ j h. earlier j (contains_later j k causes h)),
    )

    -- an earlier step gives a version no other place
    no_other_place : (n m : ℕ) (s : SolvableId) (place bit : ℕ) (x : ProofStep NameId SolvableId) (u : in_report.Step) → slice_get steps n ≡ Some (Rule (Digit s place bit)) → slice_get steps m ≡ Some x → IsWrittenAs catalogue provider.ids source.lines x u
        → allows_place (version_at catalogue s) place u ≡ true
    no_other_place n m s place bit (Rule (NeedsRule parent r case)) u at there (line, k, is, first) = ap (allows_place (version_at catalogue s) place) is
    no_other_place n m s place bit (Rule (GateOf q r)) u at there (line, is, first) = ap (allows_place (version_at catalogue s) place) is
    no_other_place n m s place bit (Rule (Shared r)) u at there is = ap (allows_place (version_at catalogue s) place) is
    no_other_place n m s place bit (Rule (Limit parent v None)) u at there (line, is, first) = ap (allows_place (version_at catalogue s) place) is
    no_other_place n m s place bit (Rule (Limit parent v (Some q))) u at there (line, is, first) = ap (allows_place (version_at catalogue s) place) is
    no_other_place n m s place bit (Rule (Outside v q)) u at there is = ap (allows_place (version_at catalogue s) place) is
    no_other_place n m s place bit (Rule (Locked locked q)) u at there lock = by_forbid catalogue (version_at catalogue q) u (allows_place (version_at catalogue s) place) true (λ l. refl) (λ l. refl) (λ l. refl) (lock_forbids catalogue (version_at catalogue q) u lock)
    no_other_place n m s place bit (Rule (Excluded q reason)) u at there forbids = by_forbid catalogue (version_at catalogue q) u (allows_place (version_at catalogue s) place) true (λ l. refl) (λ l. refl) (λ l. refl) (word_forbids catalogue (version_at catalogue q) (word_text provider.ids reason) u forbids)
    no_other_place n m s place bit (Rule (AtLeastOne o q)) u at there is = ap (allows_place (version_at catalogue s) place) is
    no_other_place n m s place bit (Rule (MatchesRule v q)) u at there is = ap (allows_place (version_at catalogue s) place) is
    no_other_place n m s place bit (Derived literals causes) u at there (w, is, are) = ap (allows_place (version_at catalogue s) place) is
    no_other_place n m s place bit (Rule (Digit q other digit)) u at there is = ap (allows_place (version_at catalogue s) place) is ∙ go (same_version (version_at catalogue q) (version_at catalogue s)) refl
      where
        one_version : version_at catalogue q ≡ version_at catalogue s → q ≡ s
        one_version e =
            let ((v, a), below, one) = digit_known m q other digit there in
            let ((w, b), within, unmarked) = digit_known n s place bit at in
            let same : v ≡ w = sym (version_is catalogue provider proves.over q v a) ∙ (e ∙ version_is catalogue provider proves.over s w b) in
            let raw : q.raw ≡ s.raw = proves.over.distinct w q.raw s.raw (a ∙ ap (λ (y : Version). Some y) same) b in
            λ i. record { raw = raw i; tag = q.tag }

        go : (b : Bool) → same_version (version_at catalogue q) (version_at catalogue s) ≡ b → (not b || (other == place)) ≡ true
        go false e = refl
        go true e =
            let same : q ≡ s = one_version (same_is (version_at catalogue q) (version_at catalogue s) e) in
            eq-eqb other place (proves.one_place m n s other place digit bit (subst (λ (y : SolvableId). slice_get steps m ≡ Some (Rule (Digit y other digit))) same there) at)

    -- a step against the earlier ones
    step_follows : (n : ℕ) (s : ProofStep NameId SolvableId) (t : in_report.Step) → slice_get steps n ≡ Some s → slice_get written n ≡ Some t → IsWrittenAs catalogue provider.ids source.lines s t → follows catalogue source.lines (take n written) t ≡ true
    step_follows n (Rule (NeedsRule parent r case)) t at there (line, k, is, first) = ap (follows catalogue source.lines (take n written)) is
    step_follows n (Rule (GateOf q r)) t at there (line, is, first) = ap (follows catalogue source.lines (take n written)) is
    step_follows n (Rule (Shared r)) t at there is = ap (follows catalogue source.lines (take n written)) is
    step_follows n (Rule (Limit parent v None)) t at there (line, is, first) = ap (follows catalogue source.lines (take n written)) is
    step_follows n (Rule (Limit parent v (Some q))) t at there (line, is, first) = ap (follows catalogue source.lines (take n written)) is
    step_follows n (Rule (Outside v q)) t at there is = ap (follows catalogue source.lines (take n written)) is
    step_follows n (Rule (Locked locked q)) t at there lock = by_forbid catalogue (version_at catalogue q) t (follows catalogue source.lines (take n written)) true (λ l. refl) (λ l. refl) (λ l. refl) (lock_forbids catalogue (version_at catalogue q) t lock)
    step_follows n (Rule (Excluded q reason)) t at there forbids = by_forbid catalogue (version_at catalogue q) t (follows catalogue source.lines (take n written)) true (λ l. refl) (λ l. refl) (λ l. refl) (word_forbids catalogue (version_at catalogue q) (word_text provider.ids reason) t forbids)
    step_follows n (Rule (AtLeastOne o q)) t at there is = ap (follows catalogue source.lines (take n written)) is
    step_follows n (Rule (MatchesRule v q)) t at there is = ap (follows catalogue source.lines (take n written)) is
    step_follows n (Rule (Digit s place bit)) t at there is = ap (follows catalogue source.lines (take n written)) is ∙ contained_all (allows_place (version_at catalogue s) place) (take n written) (λ u h. (
        let (k, e) = at_from_contains (take n written) u h in
        let (x, a, names_rule) = zip_right (IsWrittenAs catalogue provider.ids source.lines) steps written each k u (taken written n k u e) in
        no_other_place n k s place bit x u at a names_rule
        ))
    step_follows n (Derived literals causes) t at there (w, is, are) =
        let refutes = proves.proof n _ at in
        let long : length (take n written) ≡ n = length-take-le n written (let b : n < length written = slice_get_within written n t there in omega (arith, b)) in
        let known = (literals_spelled catalogue provider proves.over literals.items w (proves.known n _ at) are) in
        ap (follows catalogue source.lines (take n written)) is
        ∙ and_from _ _
        (contained_all (is_earlier (length (take n written))) (map suc causes.items) (λ m h. (
        let (k, a, e) = map_contains suc m causes.items h in
        subst (λ (j : ℕ). is_earlier (length (take n written)) j ≡ true) (sym e) (and_from _ _ (lt-ltb 0 (suc k) (omega arith)) (le-leb (suc k) (length (take n written)) (let b : k < n = refutes.earlier k a in omega (arith, b, long))))
        )))
        (pass_alike catalogue provider proves.over proves.same_atom proves.exact_atom (map literal_in literals.items) (map judge.literal_of w) (map (clause_at proves.same (packages_of provider) steps) causes.items) (map (cause_of catalogue source.lines (take n written)) (map suc causes.items))
        known.known
        (λ c h. (let (k, a, e) = map_contains (clause_at proves.same (packages_of provider) steps) c causes.items h in subst (IsKnownClause catalogue provider proves.over) (sym e) (cause_spelled n k t there (refutes.earlier k a)).known))
        (proves.one_sign n literals causes at)
        (spelled_members catalogue provider proves.over _ _ known)
        (causes_alike n t there causes.items refutes.earlier)
        ∙ refutes.refuted)

    -- the step is allowed after those before it, where the lines are named that it rests on
    pub present : (c r : ℕ → Bool) (n : ℕ) (t : in_report.Step) → slice_get written n ≡ Some t → rests_on_named c r t ≡ true → is_valid_step catalogue source.lines c r (take n written) t ≡ true
    present c r n t there rested =
        let (s, at, names_rule) = zip_right (IsWrittenAs catalogue provider.ids source.lines) steps written each n t there in
        let (d, parsed, spells) = step_spelled n s t at names_rule in
        and_from _ _ (ap is_some parsed) (and_from _ _ rested (step_follows n s t at there names_rule))

-- ---- the end

module _ (catalogue : List Line) (source : ReadRequest) (provider : Provider) (steps : List (ProofStep NameId SolvableId)) (refutes : Refutes catalogue source provider steps) where
  -- a written step derives the empty clause where the proof's step does
  empty_written : (literals : Vec (ProofLiteral NameId SolvableId) Global) (causes : Vec ℕ Global) (t : in_report.Step) → literals.items ≡ [] → IsWrittenAs catalogue provider.ids source.lines (Derived literals causes) t → derives_empty t ≡ true
  empty_written literals causes t empty (w, is, are) = ap derives_empty is ∙ go w (subst (λ ls. AreLiterals catalogue provider.ids ls w) empty are)
    where
      go : (w : List in_report.Literal) → AreLiterals catalogue provider.ids [] w → (length w == 0) ≡ true
      go [] a = refl
      go (l ∷ ls) a = (let (k, h, e) = (a l).0 (contains_first l l ls refl) in absurd (contains_none k h))

  zip_ends : (xs : List (ProofStep NameId SolvableId)) (x : ProofStep NameId SolvableId) (ys : List in_report.Step) → AllZip (IsWrittenAs catalogue provider.ids source.lines) (xs ++ x ∷ []) ys → ((t : in_report.Step) → IsWrittenAs catalogue provider.ids source.lines x t → derives_empty t ≡ true) → ends_empty ys ≡ true
  zip_ends [] x [] z ends = absurd z
  zip_ends [] x (t ∷ []) z ends = ends t z.0
  zip_ends [] x (t ∷ u ∷ ys) z ends = absurd z.1
  zip_ends (y ∷ xs) x [] z ends = absurd z
  zip_ends (y ∷ []) x (t ∷ []) z ends = absurd z.1
  zip_ends (y ∷ w ∷ xs) x (t ∷ []) z ends = absurd z.1
  zip_ends (y ∷ xs) x (t ∷ u ∷ ys) z ends = zip_ends xs x (u ∷ ys) z.1 ends

  pub written_ends : (written : List in_report.Step) → AllZip (IsWrittenAs catalogue provider.ids source.lines) steps written → ends_empty written ≡ true
  written_ends written each =
      let end = refutes.empty in
      zip_ends end.earlier (Derived end.literals end.causes) written (subst (λ xs. AllZip (IsWrittenAs catalogue provider.ids source.lines) xs written) end.ends each) (λ t h. empty_written end.literals end.causes t end.empty h)
