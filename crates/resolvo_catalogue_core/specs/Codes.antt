-- How a line is stored as a value of a model: conditions as their operands and operators, last the outermost.
use Rattle.std.specs.Prelude.{◌≡◌, ℕ, zero, suc, Bool, true, false, ◌⊎◌, List, [], ◌∷◌, ◌++◌, Option, refl}
use Rattle.std.proofs.Common.{inl, inr, sym, ap, ◌∙◌, append_assoc}
use Rattle.std.proofs.lemmas.List.{append-nil}
use Rattle.std.specs.Coded.{Coded, code_by, coded_ℕ, coded_bool, coded_list, coded_option, coded×, coded⊎}
use Rattle.resolvo_catalogue_core.specs.declared.rule.VersionNo.{VersionNo}
use Rattle.resolvo_catalogue_core.specs.Questions.{ReadRequest}
use Rattle.resolvo_catalogue_core.specs.Kept.{KeptLines}
use Rattle.resolvo_terms.specs.Terms.{Terms, NameId}
use Rattle.resolvo_terms.specs.declared.terms.Numbers.{Numbers}
use Rattle.resolvo_catalogue_core.specs.declared.kept_rule.KeptRule.{KeptRule}
use Rattle.resolvo_catalogue_core.specs.declared.kept_rule.KeptRule.TheVariants as kept
use Rattle.resolvo_catalogue_core.specs.declared.versions.KeptVersion.{KeptVersion}
use Rattle.resolvo_pool_core.specs.declared.id.ConditionId.{ConditionId}
use Rattle.resolvo_pool_core.specs.declared.id.VersionSetId.{VersionSetId}
use Rattle.resolvo_pool_core.specs.declared.requirement.Requirement.{Requirement as AsRequirement}
use Rattle.resolvo_pool_core.specs.declared.requirement.Requirement.TheVariants.{Single, Union}
use Rattle.resolvo_pool_core.specs.declared.requirement.ConditionalRequirement.{ConditionalRequirement}
use Rattle.resolvo_pool_core.specs.declared.condition.Condition.{Condition}
use Rattle.resolvo_pool_core.specs.declared.condition.Condition.TheVariants.{Binary, Requirement}
use Rattle.resolvo_pool_core.specs.declared.condition.LogicalOperator.TheVariants as joins
use Rattle.resolvo_text.specs.declared.spec.Span.{Span}
use Rattle.resolvo_text.specs.declared.spec.Span.TheVariants.{Any, One, Range}
use Rattle.resolvo_text.specs.Line.{Version, Spec, Cond, Is, And, Or, Line, Skipped, Listed, Needs, Limits, Unknown, Lock, Favour, Exclude, Many, Wish}

-- ---- versions, spans, SPECs

abbrev pub version_code : Coded Version
version_code = code_by (List ℕ × ℕ) (coded× (coded_list coded_ℕ) coded_ℕ) (λ v. (v.name, v.number)) (λ p. record { name = p.0; number = p.1 }) (λ _. refl)

abbrev span_parts : Span → ℕ × (ℕ × ℕ)
span_parts Any = (0, (0, 0))
span_parts (One n) = (1, (n, 0))
span_parts (Range low high) = (2, (low, high))

abbrev span_by : ℕ → ℕ × ℕ → Span
span_by zero p = Any
span_by (suc zero) p = One p.0
span_by (suc (suc k)) p = Range p.0 p.1

pub span_back : (s : Span) → span_by (span_parts s).0 (span_parts s).1 ≡ s
span_back Any = refl
span_back (One n) = refl
span_back (Range low high) = refl

abbrev pub span_code : Coded Span
span_code = code_by (ℕ × (ℕ × ℕ)) (coded× coded_ℕ (coded× coded_ℕ coded_ℕ)) span_parts (λ p. span_by p.0 p.1) span_back

abbrev pub spec_code : Coded Spec
spec_code = code_by (List ℕ × Span) (coded× (coded_list coded_ℕ) span_code) (λ s. (s.name, s.span)) (λ p. record { name = p.0; span = p.1 }) (λ _. refl)

-- ---- conditions

-- an operand, or the operator that joins the two before it: `and` if true
abbrev Tokens : Type 0
Tokens = List (Spec ⊎ Bool)

abbrev tokens_of : Cond → Tokens
tokens_of (Is s) = inl s ∷ []
tokens_of (And a b) = tokens_of a ++ (tokens_of b ++ inr true ∷ [])
tokens_of (Or a b) = tokens_of a ++ (tokens_of b ++ inr false ∷ [])

abbrev joined : Bool → Cond → Cond → Cond
joined true a b = And a b
joined false a b = Or a b

abbrev join_last : Bool → List Cond → List Cond
join_last both [] = []
join_last both (b ∷ []) = b ∷ []
join_last both (b ∷ a ∷ stack) = joined both a b ∷ stack

abbrev built : Tokens → List Cond → List Cond
built [] stack = stack
built (inl s ∷ tokens) stack = built tokens (Is s ∷ stack)
built (inr both ∷ tokens) stack = built tokens (join_last both stack)

abbrev first_of_stack : List Cond → Cond
first_of_stack [] = Is (record { name = []; span = Any })
first_of_stack (c ∷ stack) = c

pub built_again : (c : Cond) (tokens : Tokens) (stack : List Cond) → built (tokens_of c ++ tokens) stack ≡ built tokens (c ∷ stack)
built_again (Is s) tokens stack = refl
built_again (And a b) tokens stack =
    ap (λ (ts : Tokens). built ts stack) (append_assoc (tokens_of a) (tokens_of b ++ inr true ∷ []) tokens ∙ ap (λ (ts : Tokens). tokens_of a ++ ts) (append_assoc (tokens_of b) (inr true ∷ []) tokens))
    ∙ built_again a (tokens_of b ++ inr true ∷ tokens) stack ∙ built_again b (inr true ∷ tokens) (a ∷ stack)
built_again (Or a b) tokens stack =
    ap (λ (ts : Tokens). built ts stack) (append_assoc (tokens_of a) (tokens_of b ++ inr false ∷ []) tokens ∙ ap (λ (ts : Tokens). tokens_of a ++ ts) (append_assoc (tokens_of b) (inr false ∷ []) tokens))
    ∙ built_again a (tokens_of b ++ inr false ∷ tokens) stack ∙ built_again b (inr false ∷ tokens) (a ∷ stack)

pub cond_back : (c : Cond) → first_of_stack (built (tokens_of c) []) ≡ c
cond_back c = ap (λ (ts : Tokens). first_of_stack (built ts [])) (sym (append-nil (tokens_of c))) ∙ ap first_of_stack (built_again c [] [])

abbrev pub cond_code : Coded Cond
cond_code = code_by Tokens (coded_list (coded⊎ spec_code coded_bool)) tokens_of (λ ts. first_of_stack (built ts [])) cond_back

-- ---- lines

-- a line by the number of its kind, with its version and its word; or a `limits` line; or a `needs` line
abbrev Parts : Type 0
Parts = (ℕ × (Version × List ℕ)) ⊎ (Spec ⊎ (List Spec × Option Cond))

abbrev none_such : Version
none_such = record { name = []; number = 0 }

abbrev parts_of : Line → Parts
parts_of Skipped = inl (0, (none_such, []))
parts_of (Listed v) = inl (1, (v, []))
parts_of (Unknown reason) = inl (2, (none_such, reason))
parts_of (Lock v) = inl (3, (v, []))
parts_of (Favour v) = inl (4, (v, []))
parts_of (Exclude v reason) = inl (5, (v, reason))
parts_of (Many name) = inl (6, (none_such, name))
parts_of (Wish v) = inl (7, (v, []))
parts_of (Limits s) = inr (inl s)
parts_of (Needs alternatives condition) = inr (inr (alternatives, condition))

abbrev line_by : ℕ → Version × List ℕ → Line
line_by zero p = Skipped
line_by (suc zero) p = Listed p.0
line_by (suc (suc zero)) p = Unknown p.1
line_by (suc (suc (suc zero))) p = Lock p.0
line_by (suc (suc (suc (suc zero)))) p = Favour p.0
line_by (suc (suc (suc (suc (suc zero))))) p = Exclude p.0 p.1
line_by (suc (suc (suc (suc (suc (suc zero)))))) p = Many p.1
line_by (suc (suc (suc (suc (suc (suc (suc k))))))) p = Wish p.0

abbrev line_from : Parts → Line
line_from (inl p) = line_by p.0 p.1
line_from (inr (inl s)) = Limits s
line_from (inr (inr p)) = Needs p.0 p.1

pub line_back : (l : Line) → line_from (parts_of l) ≡ l
line_back Skipped = refl
line_back (Listed v) = refl
line_back (Unknown reason) = refl
line_back (Lock v) = refl
line_back (Favour v) = refl
line_back (Exclude v reason) = refl
line_back (Many name) = refl
line_back (Wish v) = refl
line_back (Limits s) = refl
line_back (Needs alternatives condition) = refl

abbrev pub line_code : Coded Line
line_code = code_by Parts (coded⊎ (coded× coded_ℕ (coded× version_code (coded_list coded_ℕ))) (coded⊎ spec_code (coded× (coded_list spec_code) (coded_option cond_code)))) parts_of line_from line_back

abbrev pub lines_code : Coded (List Line)
lines_code = coded_list line_code

-- ---- requests

abbrev pub number_code : Coded VersionNo
number_code = code_by ℕ coded_ℕ (λ v. v.0) (λ n. record { 0 = n }) (λ _. refl)

abbrev pub kind_code : Coded ReadRequest
kind_code = code_by (List Line × List (ℕ × VersionNo)) (coded× lines_code (coded_list (coded× coded_ℕ number_code))) (λ r. (r.lines, r.wishes)) (λ p. record { lines = p.0; wishes = p.1 }) (λ _. refl)

-- ---- lines as they are kept

abbrev name_code : Coded NameId
name_code = code_by ℕ coded_ℕ (λ n. n.raw) (λ k. record { raw = k; tag = record {} }) (λ _. refl)

abbrev numbers_code : Coded Numbers
numbers_code = code_by Span span_code (λ n. n.0) (λ s. record { 0 = s }) (λ _. refl)

abbrev set_code : Coded VersionSetId
set_code = code_by ℕ coded_ℕ (λ v. v.0) (λ k. record { 0 = k }) (λ _. refl)

abbrev condition_parts : Condition → ℕ × (ℕ × ℕ)
condition_parts (Requirement v) = (0, (v.0, 0))
condition_parts (Binary joins.And a b) = (1, (a.0, b.0))
condition_parts (Binary joins.Or a b) = (2, (a.0, b.0))

abbrev condition_by : ℕ → ℕ × ℕ → Condition
condition_by zero p = Requirement (record { 0 = p.0 })
condition_by (suc zero) p = Binary joins.And (record { 0 = p.0 }) (record { 0 = p.1 })
condition_by (suc (suc k)) p = Binary joins.Or (record { 0 = p.0 }) (record { 0 = p.1 })

pub condition_back : (c : Condition) → condition_by (condition_parts c).0 (condition_parts c).1 ≡ c
condition_back (Requirement v) = refl
condition_back (Binary joins.And a b) = refl
condition_back (Binary joins.Or a b) = refl

abbrev condition_code : Coded Condition
condition_code = code_by (ℕ × (ℕ × ℕ)) (coded× coded_ℕ (coded× coded_ℕ coded_ℕ)) condition_parts (λ p. condition_by p.0 p.1) condition_back

abbrev texts_code : Coded (List (List ℕ))
texts_code = coded_list (coded_list coded_ℕ)

abbrev TermParts : Type 0
TermParts = List (List ℕ) × (List (List ℕ) × (List (NameId × Numbers) × (List (List VersionSetId) × List Condition)))

abbrev pub terms_code : Coded Terms
terms_code = code_by TermParts (coded× texts_code (coded× texts_code (coded× (coded_list (coded× name_code numbers_code)) (coded× (coded_list (coded_list set_code)) (coded_list condition_code)))))
    (λ t. (t.names, (t.words, (t.version_sets, (t.unions, t.conditions))))) (λ p. record { names = p.0; words = p.1.0; version_sets = p.1.1.0; unions = p.1.1.1.0; conditions = p.1.1.1.1 }) (λ _. refl)

abbrev requirement_parts : AsRequirement → ℕ × ℕ
requirement_parts (Single v) = (0, v.0)
requirement_parts (Union u) = (1, u.0)

abbrev requirement_by : ℕ → ℕ → AsRequirement
requirement_by zero n = Single (record { 0 = n })
requirement_by (suc k) n = Union (record { 0 = n })

pub requirement_back : (r : AsRequirement) → requirement_by (requirement_parts r).0 (requirement_parts r).1 ≡ r
requirement_back (Single v) = refl
requirement_back (Union u) = refl

abbrev requirement_code : Coded AsRequirement
requirement_code = code_by (ℕ × ℕ) (coded× coded_ℕ coded_ℕ) requirement_parts (λ p. requirement_by p.0 p.1) requirement_back

abbrev condition_id_code : Coded ConditionId
condition_id_code = code_by ℕ coded_ℕ (λ c. c.0) (λ k. record { 0 = k }) (λ _. refl)

abbrev need_code : Coded ConditionalRequirement
need_code = code_by (Option ConditionId × AsRequirement) (coded× (coded_option condition_id_code) requirement_code) (λ n. (n.condition, n.requirement)) (λ p. record { condition = p.0; requirement = p.1 }) (λ _. refl)

-- a need with its owner; or a rule by the number of its kind, and two numbers
abbrev RuleParts : Type 0
RuleParts = (ℕ × ConditionalRequirement) ⊎ (ℕ × (ℕ × ℕ))

abbrev rule_parts : KeptRule → RuleParts
rule_parts (kept.Needs of need) = inl (of.0, need)
rule_parts (kept.Limits of v) = inr (0, (of.0, v.0))
rule_parts (kept.Lock locked) = inr (1, (locked.0, 0))
rule_parts (kept.Exclude excluded w) = inr (2, (excluded.0, w.0))
rule_parts (kept.Unknown of w) = inr (3, (of.0, w.0))

abbrev rule_by : ℕ → ℕ × ℕ → KeptRule
rule_by zero p = kept.Limits (record { 0 = p.0 }) (record { 0 = p.1 })
rule_by (suc zero) p = kept.Lock (record { 0 = p.0 })
rule_by (suc (suc zero)) p = kept.Exclude (record { 0 = p.0 }) (record { 0 = p.1 })
rule_by (suc (suc (suc k))) p = kept.Unknown (record { 0 = p.0 }) (record { 0 = p.1 })

abbrev rule_from : RuleParts → KeptRule
rule_from (inl p) = kept.Needs (record { 0 = p.0 }) p.1
rule_from (inr p) = rule_by p.0 p.1

pub rule_back : (r : KeptRule) → rule_from (rule_parts r) ≡ r
rule_back (kept.Needs of need) = refl
rule_back (kept.Limits of v) = refl
rule_back (kept.Lock locked) = refl
rule_back (kept.Exclude excluded w) = refl
rule_back (kept.Unknown of w) = refl

abbrev rule_code : Coded KeptRule
rule_code = code_by RuleParts (coded⊎ (coded× coded_ℕ need_code) (coded× coded_ℕ (coded× coded_ℕ coded_ℕ))) rule_parts rule_from rule_back

abbrev kept_version_code : Coded KeptVersion
kept_version_code = code_by (NameId × ℕ) (coded× name_code coded_ℕ) (λ v. (v.«package», v.number)) (λ p. record { «package» = p.0; number = p.1 }) (λ _. refl)

abbrev KeptParts : Type 0
KeptParts = Terms × (List Line × (List KeptVersion × (List (Option KeptRule) × List (List ℕ))))

abbrev pub kept_code : Coded KeptLines
kept_code = code_by KeptParts (coded× terms_code (coded× lines_code (coded× (coded_list kept_version_code) (coded× (coded_list (coded_option rule_code)) texts_code))))
    (λ k. (k.terms, (k.lines, (k.versions, (k.rules, k.owned))))) (λ p. record { terms = p.0; lines = p.1.0; versions = p.1.1.0; rules = p.1.1.1.0; owned = p.1.1.1.1 }) (λ _. refl)
