-- The lines that the steps of a proof's rules name.
use Rattle.std.proofs.lemmas.Bool.Decides.{nat_tests}
use Rattle.std.proofs.Common.{◌≡◌, ◌+◌, ◌<◌, ◌≤◌, inl, inr, ℕ, zero, suc, Bool, true, false, List, [], ◌∷◌, map, length, Option, Some, None, refl, sym, ◌∙◌, ap, subst, arith, Vec, Global, not, ◌&&◌}
use Rattle.std.specs.Prelude.{◌↔◌, IfSome, option_map, nat_lt, Contains, slice_get, slice_index_or, unwrap_or, option_to_list, if◌then◌else◌}
use Rattle.std.specs.List.{AllZip, flat_map}
use Rattle.std.proofs.lemmas.Option.{get_or_from_slice_get, slice_get_within}
use Rattle.std.proofs.lemmas.Bool.{and_parts, false≢true, eqb-true}
use Rattle.resolvo_text.specs.Line.{Version, Spec, Cond, Line, Needs, Limits}
use Rattle.resolvo_text.specs.Cases.{condition_cases}
use Rattle.resolvo_text.specs.Spelling.{IsNumber}
use Rattle.resolvo_catalogue_core.specs.Grammar.{line_at, owner_of}
use Rattle.resolvo_catalogue_core.specs.Listed.{listed}
use Rattle.resolvo_catalogue_core.specs.Questions.{IsVersionLine, BelongsTo, LineIs, LocksAnother, ReadRequest}
use Rattle.resolvo_terms.proofs.Places.{at_from_contains, no_element}
use Rattle.resolvo_catalogue_core.proofs.TableSteps.{same_version_is}
use Rattle.resolvo_pool_core.specs.declared.id.ConditionId.{ConditionId}
use Rattle.resolvo_pool_core.specs.declared.id.StringId.{StringId}
use Rattle.resolvo_pool_core.specs.declared.id.VersionSetId.{VersionSetId}
use Rattle.resolvo_pool_core.specs.declared.requirement.Requirement.{Requirement}
use Rattle.resolvo_pool_core.specs.declared.requirement.ConditionalRequirement.{ConditionalRequirement}
use Rattle.resolvo_pool_core.specs.RuleKeeping.{rules_of, rules_for}
use Rattle.resolvo_sat.specs.RuleClauses.{ForbidReason, KeepsOut, has_condition, same_requirement, cases_under}
use Rattle.resolvo_sat.proofs.Lists.{contains_first, contains_later, any_contained}
use Rattle.resolvo_proof.specs.declared.step.ProofStep.{ProofStep}
use Rattle.resolvo_proof.specs.declared.step.ProofStep.TheVariants.{Rule, Derived}
use Rattle.resolvo_proof.specs.declared.step.ProofRule.TheVariants.{Needs as NeedsRule, GateOf, Shared, Limit, Outside, Locked, Excluded, Digit, AtLeastOne, Matches}
use Rattle.resolvo_pool_core.specs.declared.requirement.Requirement.TheVariants.{Single, Union}
use Rattle.resolvo_catalogue.specs.Ids.{Ids, SolvableId, IsNeed, IsSpec, IsConditionOf}
use Rattle.resolvo_terms.specs.Terms.{NameId, AreEach}
use Rattle.resolvo_catalogue.specs.Known.{spec_at, alternatives_at, condition_at, word_text}
use Rattle.resolvo_catalogue.specs.Dependencies.{VersionDependencies, need_in, limit_in, lines_at, no_lines}
use Rattle.resolvo_catalogue.specs.Provider.{Provider, packages_of, deps_at, dependencies_of}
use Rattle.resolvo_catalogue.specs.Over.{IsOver}
use Rattle.resolvo_catalogue.specs.KeptSets.{root_of}
use Rattle.resolvo_catalogue.proofs.Elements.{flat_from, option_from, each_from_left, need_from, limit_from}
use Rattle.resolvo_catalogue.proofs.RulesKept.{req_from, con_from}
use Rattle.resolvo_catalogue.proofs.CoverLemmas.{alternatives_are, spec_is}
use Rattle.resolvo_report.specs.Value.{OfRequest, OfVersion, Step}
use Rattle.resolvo_report.specs.Value as in_report
use Rattle.resolvo_checker.specs.StepClauses.{is_owner}
use Rattle.resolve_refusal.specs.RefusedReport.{version_at, place_at, number_of, IsWritten}
use Rattle.resolve_refusal.specs.declared.lines.NeedLine.{NeedLine}
use Rattle.resolve_refusal.specs.declared.lines.WordLine.{WordLine}
use Rattle.resolve_refusal.specs.declared.lines.WordLine.TheVariants as with_word
use Rattle.resolve_refusal.specs.Lines.{ForbidsAs, IsLeast, IsLineOf, IsLockLine, IsWordLine, IsLineAt, NeedsIn, IsNeedLine}
use Rattle.resolve_refusal.specs.StepRules.{version_no, word_step, IsFirstLine, IsNeedLineOf, NamesLock, NamesNeed, NamesWord, NamesRule}
use Rattle.resolve_refusal.specs.Refusal.{IsPlaceLine, IsForbiddenAs, IsFirst, IsFirstNeed, IsLockStep, IsWrittenAs, IsProofOver}
use Rattle.resolve_refusal.proofs.Cases.{case_specs}
use Rattle.resolve_refusal.proofs.RenameLemmas.{version_is, specs_are}
use Rattle.resolve_refusal.proofs.Clauses.{limits_known}
use Rattle.resolve_refusal.proofs.ForbidLemmas.{forbidden_version, lock_there, word_there}
use Rattle.resolve_refusal.proofs.Spelled.{literals_fit}

-- ---- lines that need

abbrev pub plain : Requirement → ConditionalRequirement
plain r = record { condition = None; requirement = r }

-- a need of the lines, with its condition as spelled
pub line_from : (ids : Ids) (needs : List ConditionalRequirement) (ls : List Line) → AreEach (IsNeed ids) needs (flat_map need_in ls) → (need : ConditionalRequirement) → Contains needs need
    → (condition : Option Cond) × IsConditionOf ids need.condition condition × Contains ls (Needs (alternatives_at ids need.requirement) condition)
line_from ids needs ls each need has =
    let (source, among, (alternatives, condition)) = each_from_left (IsNeed ids) needs (flat_map need_in ls) each need has in
    let (l, here, parsed) = flat_from need_in ls source among in
    let equal : alternatives_at ids need.requirement ≡ source.0 = alternatives_are ids need.requirement source.0 alternatives in
    (source.1, condition, subst (λ (x : Line). Contains ls x) (need_from l source parsed ∙ ap (λ (ss : List Spec). Needs ss source.1) (sym equal)) here)

no_condition : (ids : Ids) (c : Option Cond) → IsConditionOf ids None c → c ≡ None
no_condition ids None h = refl
no_condition ids (Some c) h = absurd h

-- a line with the case of its condition
needs_in : (catalogue : List Line) (p : Provider) → IsOver catalogue p → (r : Requirement) (condition : Option ConditionId) (source : Option Cond) → IsConditionOf p.ids condition source → (case : List VersionSetId) → Contains (cases_under (condition_at p.ids) condition) case → NeedsIn (alternatives_at p.ids r) (map (spec_at p.ids) case) (Needs (alternatives_at p.ids r) source)
needs_in catalogue p over r condition source is case among =
    let (specs, has, each) = case_specs p.ids over.once.below condition source is case among in
    (source, refl, subst (λ (ss : List Spec). Contains (condition_cases source) ss) (sym (specs_are catalogue p over case specs each)) has)

-- a limit of the lines, by its version set
pub limit_in_lines : (ids : Ids) (vs : List VersionSetId) (ls : List Line) → AreEach (IsSpec ids) vs (flat_map limit_in ls) → (v : VersionSetId) → Contains vs v → Contains ls (Limits (spec_at ids v))
limit_in_lines ids vs ls each v has =
    let (spec, among, is) = each_from_left (IsSpec ids) vs (flat_map limit_in ls) each v has in
    let (l, here, parsed) = flat_from limit_in ls spec among in
    subst (λ (x : Line). Contains ls x) (limit_from l spec parsed ∙ ap (λ (x : Spec). Limits x) (sym (spec_is ids v spec is))) here

-- the line is in the request
pub request_line : (lines : List Line) (l : Line) → Contains lines l → (m : ℕ) × ((1 ≤ m) × (m ≤ length lines)) × (line_at lines m ≡ Some l)
request_line lines l has = (let (k, there) = at_from_contains lines l has in let b : k < length lines = slice_get_within lines k l there in (suc k, (omega arith, omega (arith, b)), there))

known_there : (deps : List VersionDependencies) (k : ℕ) (need : ConditionalRequirement) → Contains (slice_index_or deps k no_lines).requirements need → slice_get deps k ≡ Some (slice_index_or deps k no_lines)
known_there [] k need h = absurd (no_element need h)
known_there (t ∷ deps) zero need h = refl
known_there (t ∷ deps) (suc k) need h = known_there deps k need h

-- the line belongs to the version
pub version_line : (catalogue : List Line) (p : Provider) → IsOver catalogue p → (s : SolvableId) (need : ConditionalRequirement) → Contains (rules_of (dependencies_of p s)).requirements need
    → (condition : Option Cond) × IsConditionOf p.ids need.condition condition × (m : ℕ) × IsVersionLine (listed catalogue) catalogue s.raw BelongsTo m × (line_at catalogue m ≡ Some (Needs (alternatives_at p.ids need.requirement) condition))
version_line catalogue p over s need h =
    let has = req_from (deps_at p s) (deps_at p s).unknown need h in
    let (numbers, all, names_rule) = over.deps.each s.raw (deps_at p s) (known_there p.deps s.raw need has) in
    let (condition, is, here) = line_from p.ids (deps_at p s).requirements (lines_at catalogue numbers) names_rule.requirements need has in
    let (m, among, opt) = flat_from (λ (n : ℕ). option_to_list (line_at catalogue n)) numbers (Needs (alternatives_at p.ids need.requirement) condition) here in
    (condition, is, m, (all.all m).0 among, option_from (line_at catalogue m) (Needs (alternatives_at p.ids need.requirement) condition) opt)

-- without a condition, so is the line
plain_version_line : (catalogue : List Line) (p : Provider) → IsOver catalogue p → (s : SolvableId) (r : Requirement) → Contains (rules_of (dependencies_of p s)).requirements (plain r) → (m : ℕ) × IsVersionLine (listed catalogue) catalogue s.raw BelongsTo m × (line_at catalogue m ≡ Some (Needs (alternatives_at p.ids r) None))
plain_version_line catalogue p over s r h =
    let (condition, is, m, of, there) = version_line catalogue p over s (plain r) h in
    (m, of, there ∙ ap (λ (c : Option Cond). Some (Needs (alternatives_at p.ids r) c)) (no_condition p.ids condition is))

-- a limit's line belongs to the version
pub version_limit : (catalogue : List Line) (p : Provider) → IsOver catalogue p → (s : SolvableId) (v : VersionSetId) → Contains (rules_of (dependencies_of p s)).constraints v → (m : ℕ) × IsVersionLine (listed catalogue) catalogue s.raw BelongsTo m × (line_at catalogue m ≡ Some (Limits (spec_at p.ids v)))
version_limit catalogue p over s v h =
    let has = con_from (deps_at p s) (deps_at p s).unknown v h in
    let (numbers, all, names_rule) = over.deps.each s.raw (deps_at p s) (limits_known p.deps s.raw v has) in
    let (m, among, opt) = flat_from (λ (n : ℕ). option_to_list (line_at catalogue n)) numbers (Limits (spec_at p.ids v)) (limit_in_lines p.ids (deps_at p s).constrains (lines_at catalogue numbers) names_rule.constrains v has) in
    (m, (all.all m).0 among, option_from (line_at catalogue m) (Limits (spec_at p.ids v)) opt)

-- ---- the first line

pub least_is : {P : ℕ → Type 0} (found : Option ℕ) (line : ℕ) → line ≡ unwrap_or found 0 → IsLeast found P → (m : ℕ) → P m → P line × ((n : ℕ) → n < line → P n → ⊥)
least_is None line is none m p = absurd (none m p)
least_is {P = P} (Some n) line is least m p = subst (λ (k : ℕ). P k × ((j : ℕ) → j < k → P j → ⊥)) (sym is) least

pub within_line : (lines : List Line) (n : ℕ) (l : Line) → line_at lines n ≡ Some l → (1 ≤ n) × (n ≤ length lines)
within_line lines zero l e = absurd cc
within_line lines (suc k) l e = (let b : k < length lines = slice_get_within lines k l e in (omega arith, omega (arith, b)))

-- by the first line of the request
pub first_asked : (catalogue : List Line) (ids : Ids) (request : List Line) (source : Line) (line : ℕ) → IsFirstLine catalogue request None source line → Contains request source → IsFirst catalogue request OfRequest source line
first_asked catalogue ids request source line (found, is, least) has =
    let (m, bounds, there) = request_line request source has in
    let (here, none) = least_is {P = λ n. IsLineOf catalogue request None n × IsLineAt request source n} found line is least m (bounds, there) in
    record { parsed = here.1; first = λ n below parsed. none n below (within_line request n source parsed, parsed) }

owner_is : (v : Version) (owner : Option Version) → is_owner v owner ≡ true → owner ≡ Some v
owner_is v None e = absurd (false≢true e)
owner_is v (Some w) e = ap (λ (x : Version). Some x) (sym ((same_version_is v w).0 e))

is_own : (v : Version) (owner : Option Version) → owner ≡ Some v → is_owner v owner ≡ true
is_own v owner e = subst (λ (o : Option Version). is_owner v o ≡ true) (sym e) ((same_version_is v v).1 refl)

taken : (b : Bool) (o : Option Line) (l : Line) → (if b then o else None) ≡ Some l → (b ≡ true) × (o ≡ Some l)
taken true o l e = (refl, e)
taken false o l e = absurd cc

-- a line that belongs to its owner
abbrev pub IsOwned : Line → Type 0
IsOwned source = (v : Version) (owner : Option Version) → BelongsTo v owner source ↔ (owner ≡ Some v)

module _ (catalogue : List Line) (ids : Ids) (request : List Line) (s : SolvableId) (v : Version) (listed_at : slice_get (listed catalogue) s.raw ≡ Some v) where
  own_version : version_at catalogue s ≡ v
  own_version = get_or_from_slice_get (listed catalogue) s.raw v (record { name = []; number = 0 }) listed_at

  -- a line of the version is at its place
  placed : (source : Line) → IsOwned source → (n : ℕ) → IsVersionLine (listed catalogue) catalogue s.raw BelongsTo n → line_at catalogue n ≡ Some source → IsPlaceLine catalogue request (OfVersion (version_at catalogue s)) source n
  placed source own n (w, at, (l, equal, has)) e =
      let same : l ≡ source = (let both : Some l ≡ Some source = sym equal ∙ e in cc) in
      let owner : owner_of catalogue n ≡ Some (version_at catalogue s) = (own w (owner_of catalogue n)).0 (subst (λ (x : Line). BelongsTo w (owner_of catalogue n) x) same has) ∙ ap (λ (x : Version). Some x) (sym (get_or_from_slice_get (listed catalogue) s.raw w (record { name = []; number = 0 }) at)) in
      subst (λ (b : Bool). (if b then line_at catalogue n else None) ≡ Some source) (sym (is_own (version_at catalogue s) (owner_of catalogue n) owner)) e

  -- the line at its place is one of the version
  of_place : (source : Line) → IsOwned source → (n : ℕ) → IsPlaceLine catalogue request (OfVersion (version_at catalogue s)) source n → IsVersionLine (listed catalogue) catalogue s.raw BelongsTo n × (line_at catalogue n ≡ Some source)
  of_place source own n e =
      let (mine, is) = taken (is_owner (version_at catalogue s) (owner_of catalogue n)) (line_at catalogue n) source e in
      ((v, listed_at, (source, is, (own v (owner_of catalogue n)).1 (owner_is (version_at catalogue s) (owner_of catalogue n) mine ∙ ap (λ (x : Version). Some x) own_version))), is)

-- by the first line of the version
pub first_owned : (catalogue : List Line) (ids : Ids) (request : List Line) (source : Line) → IsOwned source → (s : SolvableId) (line : ℕ) → IsFirstLine catalogue request (Some (version_no s)) source line
    → (m : ℕ) → IsVersionLine (listed catalogue) catalogue s.raw BelongsTo m → line_at catalogue m ≡ Some source → IsFirst catalogue request (OfVersion (version_at catalogue s)) source line
first_owned catalogue ids request source own s line (found, is, least) m belongs there =
    let (here, none) = least_is {P = λ n. IsLineOf catalogue request (Some (version_no s)) n × IsLineAt catalogue source n} found line is least m (belongs, there) in
    record {
      parsed = placed catalogue ids request s belongs.0 belongs.1 source own line here.0 here.1;
      first = λ n below parsed. none n below (of_place catalogue ids request s belongs.0 belongs.1 source own n parsed);
    }

need_owned : (alternatives : List Spec) (condition : Option Cond) → IsOwned (Needs alternatives condition)
need_owned alternatives condition v owner = (λ e. e, λ e. e)

limit_owned : (s : Spec) → IsOwned (Limits s)
limit_owned s v owner = (λ e. e, λ e. e)

-- ---- the first line that needs something in a case

-- by the first line of the request
first_need_asked : (catalogue : List Line) (ids : Ids) (request : List Line) (alternatives case : List Spec) (found : Option NeedLine) → IsNeedLine (IsLineOf catalogue request None) request alternatives case found → (l : Line) → Contains request l → NeedsIn alternatives case l
    → (n : NeedLine) × (found ≡ Some n) × IsFirstNeed catalogue request OfRequest alternatives case n.line n.case
first_need_asked catalogue ids request alternatives case None none l has needs = (let (m, bounds, there) = request_line request l has in absurd (none m bounds (l, there, needs)))
first_need_asked catalogue ids request alternatives case (Some n) (bounds, parsed, first) l has needs = (
  n,
  refl,
  record { parsed = parsed; first = λ m below (k, there, other). first m below (within_line request m k there) (k, there, other) },
)

needing_owned : (alternatives case : List Spec) (l : Line) → NeedsIn alternatives case l → IsOwned l
needing_owned alternatives case l (condition, is, has) = subst (λ (x : Line). IsOwned x) (sym is) (need_owned alternatives condition)

-- by the first line of the version
first_need_owned : (catalogue : List Line) (ids : Ids) (request : List Line) (alternatives case : List Spec) (s : SolvableId) (found : Option NeedLine) → IsNeedLine (IsLineOf catalogue request (Some (version_no s))) catalogue alternatives case found
    → (m : ℕ) → IsVersionLine (listed catalogue) catalogue s.raw BelongsTo m → (l : Line) → line_at catalogue m ≡ Some l → NeedsIn alternatives case l
    → (n : NeedLine) × (found ≡ Some n) × IsFirstNeed catalogue request (OfVersion (version_at catalogue s)) alternatives case n.line n.case
first_need_owned catalogue ids request alternatives case s None none m belongs l there needs = absurd (none m belongs (l, there, needs))
first_need_owned catalogue ids request alternatives case s (Some n) (of, (k, here, (condition, is, numbered)), first) m belongs l there needs = (
  n,
  refl,
  record {
    parsed = (k, placed catalogue ids request s belongs.0 belongs.1 k (subst (λ (x : Line). IsOwned x) (sym is) (need_owned alternatives condition)) n.line of here, (condition, is, numbered));
    first = λ j below (x, parsed, other). (let (own, at) = of_place catalogue ids request s belongs.0 belongs.1 x (needing_owned alternatives case x other) j parsed in first j below own (x, at, other));
  },
)

-- ---- steps

requirements_same : (r q : Requirement) → same_requirement r q ≡ true → r ≡ q
requirements_same (Single v) (Single w) e = ap (λ (n : ℕ). Single (record { 0 = n })) (eqb-true v.0 w.0 e)
requirements_same (Union v) (Union w) e = ap (λ (n : ℕ). Union (record { 0 = n })) (eqb-true v.0 w.0 e)
requirements_same (Single v) (Union w) e = absurd (false≢true e)
requirements_same (Union v) (Single w) e = absurd (false≢true e)

-- a consequence for two lists of a property that holds place by place
pub zipped : {A B : Type 0} {P Q R : A → B → Type 0} (xs : List A) (ys : List B) → ((n : ℕ) (x : A) (y : B) → slice_get xs n ≡ Some x → P x y → Q x y → R x y) → AllZip P xs ys → AllZip Q xs ys → AllZip R xs ys
zipped [] [] f p q = p
zipped [] (y ∷ ys) f p q = p
zipped (x ∷ xs) [] f p q = p
zipped (x ∷ xs) (y ∷ ys) f p q = (f 0 x y refl p.0 q.0, zipped xs ys (λ n a b. f (suc n) a b) p.1 q.1)

numbers_from : (most : ℕ) (causes : List ℕ) → most < 4294967296 → ((k : ℕ) → Contains causes k → k + 1 < most + 1) → map number_of causes ≡ map suc causes
numbers_from most [] fits below = refl
numbers_from most (k ∷ causes) fits below =
    let small : k + 1 < most + 1 = below k (contains_first k k causes refl) in
    let here : nat_lt k 4294967295 ≡ true = grind (arith, nat_tests) in
    let one : number_of k ≡ suc k = rw here (omega arith) in
    ap (λ (n : ℕ). n ∷ map number_of causes) one ∙ ap (λ (ns : List ℕ). suc k ∷ ns) (numbers_from most causes fits (λ j h. below j (contains_later j k causes h)))

-- a need that asks for the requirement without a condition
pub same_need : (need : ConditionalRequirement) (r : Requirement) → (not (has_condition need.condition) && same_requirement r need.requirement) ≡ true → need ≡ plain r
same_need need r e = (let (none, same) = and_parts (not (has_condition need.condition)) (same_requirement r need.requirement) e in by_parts need.condition need.requirement none same)
  where
    by_parts : (c : Option ConditionId) (q : Requirement) → not (has_condition c) ≡ true → same_requirement r q ≡ true → ◌≡◌ {A = ConditionalRequirement} (record { condition = c; requirement = q }) (plain r)
    by_parts (Some c) q none same = absurd (false≢true none)
    by_parts None q none same = ap plain (sym (requirements_same r q same))

module _ (catalogue : List Line) (source : ReadRequest) (p : Provider) (steps : List (ProofStep NameId SolvableId)) (proves : IsProofOver catalogue source p steps) (fits : length steps < 4294967296) where
  -- a limit is written with its first line
  limit_written : (parent : Option SolvableId) (v : VersionSetId) (line : ℕ) → IsFirstLine catalogue source.lines (option_map version_no parent) (Limits (spec_at p.ids v)) line → Contains (rules_for proves.same (packages_of p) (root_of proves.ids) parent).constraints v
      → IsFirst catalogue source.lines (place_at catalogue parent) (Limits (spec_at p.ids v)) line
  limit_written None v line by has = first_asked catalogue p.ids source.lines (Limits (spec_at p.ids v)) line by (limit_in_lines p.ids proves.ids.constraints.items source.lines proves.asked.constraints v has)
  limit_written (Some s) v line by has =
      let (m, of, there) = version_limit catalogue p proves.over s v has in
      first_owned catalogue p.ids source.lines (Limits (spec_at p.ids v)) (limit_owned (spec_at p.ids v)) s line by m of there

  -- a lock is written with its line
  lock_written : (l s : SolvableId) (t : Step) → NamesLock catalogue s t → KeepsOut proves.same (packages_of p) (ForbidReason.lock l) s → (line : ℕ) × IsLockStep catalogue (version_at catalogue s) t line
  lock_written l s t (found, is, line) forbids =
      let (v, e) = forbidden_version catalogue p proves.over proves.same proves.exact s (ForbidReason.lock l) forbids in
      let (n, there) = lock_there catalogue p proves.over proves.same proves.exact l s v e forbids in
      by_line v (version_is catalogue p proves.over s v e) found (line v e) n there is
    where
      by_line : (v : Version) → version_at catalogue s ≡ v → (o : Option ℕ) → IsLockLine catalogue v o → (n : ℕ) → LineIs catalogue n (LocksAnother v) → t ≡ in_report.Lock (unwrap_or o 0) (version_at catalogue s) → (k : ℕ) × IsLockStep catalogue (version_at catalogue s) t k
      by_line v own None none n there e = absurd (none n there)
      by_line v own (Some k) at n there e = (k, (e, subst (λ (w : Version). LineIs catalogue k (LocksAnother w)) (sym own) at))

  -- a version that is forbidden with a word is written with the first line that does so
  word_written : (why : StringId) (s : SolvableId) (t : Step) → NamesWord catalogue p.ids s why t → KeepsOut proves.same (packages_of p) (ForbidReason.word why) s → IsForbiddenAs catalogue (version_at catalogue s) (word_text p.ids why) t
  word_written why s t (found, is, line) forbids =
      let (v, e) = forbidden_version catalogue p proves.over proves.same proves.exact s (ForbidReason.word why) forbids in
      let (n, there) = word_there catalogue p proves.over proves.same proves.exact why s v e forbids in
      subst (λ (w : Version). IsForbiddenAs catalogue w (word_text p.ids why) t) (sym (version_is catalogue p proves.over s v e)) (by_line v (word_text p.ids why) found (line v e) n there is)
    where
      by_line : (v : Version) (word : List ℕ) (o : Option WordLine) → IsWordLine catalogue v word o → (n : ℕ) → ForbidsAs catalogue v word n → t ≡ word_step o → IsForbiddenAs catalogue v word t
      by_line v word None none n there e = absurd (none n there)
      by_line v word (Some (with_word.Exclude k)) (at, first) n there e = (k, inl (e, at), first)
      by_line v word (Some (with_word.Unknown k)) (at, first) n there e = (k, inr (e, at), first)

  -- a need of a parent is written with its first line
  need_found : (parent : Option SolvableId) (r : Requirement) (condition : Option ConditionId) (case : List VersionSetId) (found : Option NeedLine) → IsNeedLineOf catalogue source.lines p.ids parent r case found
      → Contains (rules_for proves.same (packages_of p) (root_of proves.ids) parent).requirements (record { condition = condition; requirement = r }) → Contains (cases_under (condition_at p.ids) condition) case
      → (n : NeedLine) × (found ≡ Some n) × IsFirstNeed catalogue source.lines (place_at catalogue parent) (alternatives_at p.ids r) (map (spec_at p.ids) case) n.line n.case
  need_found None r condition case found by has among =
      let (c, is, here) = line_from p.ids proves.ids.requirements.items source.lines proves.asked.requirements (record { condition = condition; requirement = r }) has in
      first_need_asked catalogue p.ids source.lines (alternatives_at p.ids r) (map (spec_at p.ids) case) found by _ here (needs_in catalogue p proves.over r condition c is case among)
  need_found (Some s) r condition case found by has among =
      let (c, is, m, of, there) = version_line catalogue p proves.over s (record { condition = condition; requirement = r }) has in
      first_need_owned catalogue p.ids source.lines (alternatives_at p.ids r) (map (spec_at p.ids) case) s found by m of _ there (needs_in catalogue p proves.over r condition c is case among)

  -- a written need is right
  pub need_written : (n : ℕ) (parent : Option SolvableId) (r : Requirement) (case : Vec VersionSetId Global) (t : Step) → slice_get steps n ≡ Some (Rule (NeedsRule parent r case)) → NamesNeed catalogue source.lines p.ids parent r case.items t
      → (line k : ℕ) × IsNumber k × (t ≡ in_report.Need (place_at catalogue parent) line k) × IsFirstNeed catalogue source.lines (place_at catalogue parent) (alternatives_at p.ids r) (map (spec_at p.ids) case.items) line k
  need_written n parent r case t at (found, by, names_rule) =
      let (condition, (has, among, matched)) = proves.proof n _ at in
      let (l, is, first) = need_found parent r condition case.items found by has among in
      let (number, is_named) = subst (λ (o : Option NeedLine). IfSome o (λ x. IsNumber x.case × (t ≡ in_report.Need (place_at catalogue parent) x.line x.case))) is names_rule in
      (l.line, l.case, number, is_named, first)

  -- a written step is right
  step_written : (n : ℕ) (s : ProofStep NameId SolvableId) (t : Step) → slice_get steps n ≡ Some s → NamesRule catalogue source.lines p.ids s t → IsWritten catalogue p.ids s t → IsWrittenAs catalogue p.ids source.lines s t
  step_written n (Rule (NeedsRule parent r case)) t at names_rule written = (let (line, k, number, is, first) = need_written n parent r case t at names_rule in (line, k, is, first))
  step_written n (Rule (GateOf s r)) t at names_rule written =
      let (line, is, by) = names_rule in
      let (condition, asked) = proves.proof n _ at in
      let (need, has, same) = any_contained (λ (need : ConditionalRequirement). not (has_condition need.condition) && same_requirement r need.requirement) (rules_of (dependencies_of p s)).requirements asked in
      let (m, of, there) = plain_version_line catalogue p proves.over s r (subst (λ (x : ConditionalRequirement). Contains (rules_of (dependencies_of p s)).requirements x) (same_need need r same) has) in
      (line, is, first_owned catalogue p.ids source.lines (Needs (alternatives_at p.ids r) None) (need_owned (alternatives_at p.ids r) None) s line by m of there)
  step_written n (Rule (Shared r)) t at names_rule written = written
  step_written n (Rule (Limit parent v None)) t at (line, is, by) written =
      let (condition, has) = proves.proof n _ at in
      (line, is, limit_written parent v line by has)
  step_written n (Rule (Limit parent v (Some s))) t at (line, is, by) written =
      let (condition, (has, out)) = proves.proof n _ at in
      (line, is, limit_written parent v line by has)
  step_written n (Rule (Outside v s)) t at names_rule written = written
  step_written n (Rule (Locked locked s)) t at names_rule written = (let (condition, forbids) = proves.proof n _ at in lock_written locked s t names_rule forbids)
  step_written n (Rule (Excluded s reason)) t at names_rule written = (let (condition, forbids) = proves.proof n _ at in word_written reason s t names_rule forbids)
  step_written n (Rule (Digit s place bit)) t at names_rule written = written
  step_written n (Rule (AtLeastOne name s)) t at names_rule written = written
  step_written n (Rule (Matches v s)) t at names_rule written = written
  step_written n (Derived literals causes) t at names_rule written =
      let (clause, is, same, rising) = names_rule in
      let below : n < length steps = slice_get_within steps n _ at in
      (clause, is ∙ ap (λ (ns : List ℕ). in_report.Derive clause ns) (numbers_from n causes.items (omega (arith, below, fits)) (λ k h. let e : k < n = (proves.proof n _ at).earlier k h in omega (arith, e))), same (literals_fit catalogue p proves.over literals.items (proves.known n _ at)))

  -- each step is right
  pub steps_written : (written : List Step) → AllZip (NamesRule catalogue source.lines p.ids) steps written → AllZip (IsWritten catalogue p.ids) steps written → AllZip (IsWrittenAs catalogue p.ids source.lines) steps written
  steps_written written names_rule are = zipped steps written step_written names_rule are
