-- The steps that write a proof are in an install report, and so is a step that forbids a wish
-- without a search.
use Rattle.std.proofs.Common.{◌≡◌, ◌⊎◌, inl, inr, ◌<◌, ℕ, zero, suc, Bool, true, false, List, [], ◌∷◌, ◌++◌, map, length, Option, Some, Result, Ok, Err, refl, sym, ap, subst, ◌∙◌}
use Rattle.std.specs.Prelude.{◌&&◌, not, is_some, IfOk, Contains, slice_get}
use Rattle.std.specs.List.{AllZip}
use Rattle.std.specs.Option.{option_map_or, option_and_then}
use Rattle.std.proofs.lemmas.Bool.{and_from, or_left, or_right}
use Rattle.std.proofs.lemmas.Slice.Zip.{AllZip-long}
use Rattle.resolvo_text.specs.Line.{Version, Line}
use Rattle.resolvo_text.specs.Matches.{Set}
use Rattle.resolvo_catalogue_core.specs.Grammar.{AreCatalogueLines}
use Rattle.resolvo_catalogue_core.specs.Listed.{listed}
use Rattle.resolvo_catalogue_core.specs.Questions.{ReadRequest}
use Rattle.resolvo_terms.proofs.Places.{contains_from_at}
use Rattle.resolvo_catalogue_core.proofs.TableSteps.{same_version_is}
use Rattle.resolvo_state.proofs.Positions.{get_in_prefix}
use Rattle.resolvo_pool_core.specs.OnePass as pass
use Rattle.resolvo_proof.specs.declared.step.ProofLiteral.{ProofLiteral}
use Rattle.resolvo_proof.specs.declared.step.ProofStep.{ProofStep}
use Rattle.resolvo_proof.specs.declared.step.ProofStep.TheVariants.{Derived}
use Rattle.resolvo_terms.specs.Terms.{NameId}
use Rattle.resolvo_catalogue.specs.Ids.{SolvableId}
use Rattle.resolvo_catalogue.specs.Provider.{Provider}
use Rattle.resolvo_catalogue.proofs.MarkLemmas.{one_some}
use Rattle.resolvo_sat.proofs.Lists.{contained_all, map_contains}
use Rattle.resolvo_report.specs.Value as in_report
use Rattle.resolvo_report.specs.Text.{IsStep}
use Rattle.resolvo_checker.specs.StepClauses as judge
use Rattle.resolvo_checker.specs.Proof.{follows, every_line, is_among, forbids}
use Rattle.resolvo_checker.proofs.Sets.{is_contained}
use Rattle.resolvo_judge.specs.Refusal.{step_forbids}
use Rattle.resolve_refusal.specs.RefusedReport.{version_at, IsWritten}
use Rattle.resolve_refusal.specs.StepRules.{NamesRule}
use Rattle.resolve_refusal.specs.Refusal.{IsForbiddenBy, literal_at, AreLiterals, IsWrittenAs, IsProofOver}
use Rattle.resolve_refusal.specs.InstallSteps.{DeniesOneOf, DeniesAt, AreInstallSteps, IsForbiddenBefore, IsForbidStep}
use Rattle.resolve_refusal.proofs.ForbidLemmas.{by_forbid, forbid_clause}
use Rattle.resolve_refusal.proofs.Clauses.{derived_spelled}
use Rattle.resolve_refusal.proofs.FollowLemmas.{zip_right, rests, present}
use Rattle.resolve_refusal.proofs.RuleLines.{zipped, steps_written}
use Rattle.resolve_refusal.proofs.Spelled.{listed_fits}
use Rattle.resolve_refusal.proofs.FitLemmas.{forbid_text, step_fits}

-- a consequence of two clauses about a value
pub both_ok : {A E : Type 0} {P Q R : A → Type 0} (r : Result A E) → ((a : A) → P a → Q a → R a) → IfOk r P → IfOk r Q → IfOk r R
both_ok (Ok a) f p q = f a p q
both_ok (Err e) f p q = tt

-- ---- lists, place by place

zip_left : {X Y : Type 0} (R : X → Y → Type 0) (xs : List X) (ys : List Y) → AllZip R xs ys → (n : ℕ) (x : X) → slice_get xs n ≡ Some x → (y : Y) × (slice_get ys n ≡ Some y) × R x y
zip_left R [] [] z n x e = absurd cc
zip_left R [] (y ∷ ys) z n x e = absurd z
zip_left R (w ∷ xs) [] z n x e = absurd z
zip_left R (w ∷ xs) (y ∷ ys) z zero x e = (let same : w ≡ x = one_some e in (y, refl, subst (λ v. R v y) same z.0))
zip_left R (w ∷ xs) (y ∷ ys) z (suc n) x e = zip_left R xs ys z.1 n x e

-- ---- a step that forbids

-- a step in the report forbids by its clause
step_there : (catalogue request : List Line) (steps : List in_report.Step) (entries : Set) (wish : Version) (k : ℕ) (t : in_report.Step) (clause : judge.Clause) → slice_get steps k ≡ Some t → judge.clause_of catalogue request t ≡ Some clause → forbids entries wish clause ≡ true
    → step_forbids catalogue request steps entries wish (suc k) ≡ true
step_there catalogue request steps entries wish k t clause at clause_is denial =
    ap (λ (o : Option in_report.Step). option_map_or (forbids entries wish) (option_and_then (judge.clause_of catalogue request) o) false) at
    ∙ (ap (λ (o : Option judge.Clause). option_map_or (forbids entries wish) o false) clause_is ∙ denial)

-- a version that is the wish or an entry is among them
among : (v wish : Version) (entries : Set) → (v ≡ wish) ⊎ Contains entries v → is_among entries wish (in_report.Chosen v) ≡ true
among v wish entries (inl same) = or_left _ _ ((same_version_is v wish).1 same)
among v wish entries (inr has) = or_right _ _ (is_contained entries v has)

-- the literal is `not` of one of them
abbrev denies : Set → Version → pass.Literal in_report.Atom → Bool
denies entries wish l = not l.positive && is_among entries wish l.atom

-- literals that are `not` of such ones forbid
literals_deny : (catalogue : List Line) (provider : Provider) (literals : List (ProofLiteral NameId SolvableId)) (written : List in_report.Literal) (entries : Set) (wish : Version) → AreLiterals catalogue provider.ids literals written
    → ((l : ProofLiteral NameId SolvableId) → Contains literals l → DeniesOneOf catalogue entries wish l) → forbids entries wish (map judge.literal_of written) ≡ true
literals_deny catalogue provider literals written entries wish are each = contained_all (denies entries wish) (map judge.literal_of written) (λ x h. (
    let (l, has, is) = map_contains judge.literal_of x written h in
    let (k, from, at) = (are l).0 has in
    let (s, chosen, denied, some) = each k from in
    let same : x ≡ judge.literal_of (literal_at catalogue provider.ids k) = is ∙ ap judge.literal_of at in
    ap (denies entries wish) same ∙ and_from _ _ (ap not denied) (ap (λ a. is_among entries wish (judge.literal_of (literal_at catalogue provider.ids (record { atom = a; positive = k.positive }))).atom) chosen ∙ among (version_at catalogue s) wish entries some)
    ))

-- ---- the steps of a proof

module _ (catalogue : List Line) (source : ReadRequest) (provider : Provider) (steps : List (ProofStep NameId SolvableId)) (proves : IsProofOver catalogue source provider steps) where
  -- a step that denies the wish and entries forbids it
  pub step_denies : (written others : List in_report.Step) → AllZip (IsWrittenAs catalogue provider.ids source.lines) steps written → (entries : Set) (wish : Version) (k : ℕ) → DeniesAt catalogue steps entries wish k → step_forbids catalogue source.lines (written ++ others) entries wish (suc k) ≡ true
  step_denies written others each entries wish k forbidden_by =
      let (t, at, (w, is, are)) = zip_left (IsWrittenAs catalogue provider.ids source.lines) steps written each k (Derived forbidden_by.literals forbidden_by.causes) forbidden_by.derived in
      let clause = ap (judge.clause_of catalogue source.lines) is ∙ derived_spelled catalogue provider proves.over source.lines forbidden_by.literals.items w (map suc forbidden_by.causes.items) (proves.known k _ forbidden_by.derived) are in
      step_there catalogue source.lines (written ++ others) entries wish k t (map judge.literal_of w) (get_in_prefix written others k t at) clause (literals_deny catalogue provider forbidden_by.literals.items w entries wish are forbidden_by.denies)

  -- steps that are written so are in an install report
  pub installed : length steps < 4294967296 → length catalogue < 4294967296 → length source.lines < 4294967296 → (written : List in_report.Step) → AllZip (NamesRule catalogue source.lines provider.ids) steps written → AllZip (IsWritten catalogue provider.ids) steps written
      → AreInstallSteps catalogue source.lines provider.ids steps written
  installed few long asked written names_rule wrote = record {
    each = each;
    few = subst (λ (k : ℕ). k < 4294967296) (sym (AllZip-long (IsWritten catalogue provider.ids) steps written wrote)) few;
    texts = λ n t at. (let (s, there, fits) = zip_right (λ (x : ProofStep NameId SolvableId) (y : in_report.Step). IsStep y) steps written texts n t at in fits);
    valid = λ n t at. present catalogue source provider steps proves written each every_line every_line n t at (rests every_line every_line t (λ m e. refl) (λ m e. refl));
    forbidden_by = λ others entries wish k forbidden_by. step_denies written others each entries wish k forbidden_by;
  }
    where
      each : AllZip (IsWrittenAs catalogue provider.ids source.lines) steps written
      each = steps_written catalogue source provider steps proves few written names_rule wrote

      texts : AllZip (λ (x : ProofStep NameId SolvableId) (y : in_report.Step). IsStep y) steps written
      texts = zipped steps written (step_fits catalogue source provider steps proves few long asked) names_rule each

-- ---- a step that forbids without a search

before_forbids : (catalogue : List Line) (v : Version) (t : in_report.Step) → IsForbiddenBefore catalogue v t → IsForbiddenBy catalogue v t
before_forbids catalogue v t (line, inl lock) = (line, inl lock)
before_forbids catalogue v t (line, inr (is, none, out)) = (line, inr (inl (is, out)))

-- a step that forbids a listed version so is allowed anywhere in an install report, and forbids it
-- there
pub forbid_step : (catalogue : List Line) → AreCatalogueLines catalogue → length catalogue < 4294967296 → (number : ℕ) (v : Version) (t : in_report.Step) → slice_get (listed catalogue) number ≡ Some v → IsForbiddenBefore catalogue v t → IsForbidStep catalogue v t
forbid_step catalogue grammatical long number v t at before = record {
  forbids = before;
  text = forbid_text catalogue long v t (listed_fits catalogue grammatical number v at) by;
  present = λ request earlier. and_from _ _ (ap is_some (clause request)) (and_from _ _ (rests every_line every_line t (λ m e. refl) (λ m e. refl)) (by_forbid catalogue v t (follows catalogue request earlier) true (λ n. refl) (λ n. refl) (λ n. refl) by));
  leaves_out = λ request steps entries k there. step_there catalogue request steps entries v k t (judge.not_in v ∷ []) there (clause request) (and_from _ _ (among v v entries (inl refl)) refl);
}
  where
    by : IsForbiddenBy catalogue v t
    by = before_forbids catalogue v t before

    clause : (request : List Line) → judge.clause_of catalogue request t ≡ Some (judge.not_in v ∷ [])
    clause request = forbid_clause catalogue request v t (is_contained (listed catalogue) v (contains_from_at (listed catalogue) v number at)) by
