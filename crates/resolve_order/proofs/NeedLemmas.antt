-- Needs of lines, and the keys of their SPECs.
use Rattle.std.proofs.Common.{◌≡◌, inl, inr, ℕ, ◌<◌, ◌+◌, [], ◌∷◌, ◌++◌, List, Option, Some, None, Result, Ok, Err, OnOk, length, take, get_or, sym, ap, subst, ◌∙◌}
use Rattle.std.specs.Prelude.{Contains, slice_get, false}
use Rattle.std.proofs.lemmas.Bool.{false≢true}
use Rattle.std.proofs.lemmas.List.{take_more}
use Rattle.std.proofs.lemmas.Option.{slice_get-get_or}
use Rattle.std.proofs.lemmas.List.Elements.{Contains-push_cases, Contains-append_cases}
use Rattle.resolvo_text.specs.Line.{Version, Spec, Cond, Line, Needs}
use Rattle.resolvo_text.specs.declared.spec.Span.TheVariants.{Any}
use Rattle.resolvo_pool_core.specs.declared.id.VersionSetId.{VersionSetId}
use Rattle.resolvo_pool_core.specs.declared.id.ConditionId.{ConditionId}
use Rattle.resolvo_pool_core.specs.declared.condition.Condition.TheVariants.{Binary, Requirement}
use Rattle.resolvo_pool_core.specs.declared.condition.LogicalOperator.{LogicalOperator}
use Rattle.resolvo_pool_core.specs.declared.condition.LogicalOperator.TheVariants as joins
use Rattle.resolvo_terms.specs.Terms.{Terms}
use Rattle.resolvo_terms.specs.Known.{spec_at, condition_at, cond_at}
use Rattle.resolvo_terms.proofs.KnownLemmas.{cond_is}
use Rattle.resolve_order.specs.Kept.{IsKeptFor, IsKeptForAll, KeepsAll, specs_in}
use Rattle.resolvo_catalogue_core.specs.Questions.{is_rule}
use Rattle.resolve_order.specs.Need.{alternatives_in, condition_in, IsNeedAt, IsSpanOf, IsSpanAt}
use Rattle.resolve_order.specs.declared.need.PackageSpan.{PackageSpan}
use Rattle.resolve_order.specs.declared.need.Need.{Need}
use Rattle.resolve_order.specs.declared.package_lines.PackageLines.{PackageLines}
use Rattle.resolve_order.proofs.Elements.{no_element, element_cases}

pub on_ok : {T E P Q : Type 0} (r : Result T E) → (P → Q) → OnOk r P → OnOk r Q
on_ok (Ok x) f p = f p
on_ok (Err e) f p = tt

pub on_both : {T E P Q R : Type 0} (r : Result T E) → (P → Q → R) → OnOk r P → OnOk r Q → OnOk r R
on_both (Ok x) f p q = f p q
on_both (Err e) f p q = tt

pub same_some : {X : Type 0} (o : Option X) (a b : X) → o ≡ Some a → o ≡ Some b → a ≡ b
same_some o a b one two = cc

pub not_some : {X : Type 0} (o : Option X) (a : X) → o ≡ None → o ≡ Some a → ⊥
not_some o a none some = cc

-- one more SPEC by whose key the line is kept
pub kept_more : (versions : List Version) (before after : PackageLines) (line : ℕ) (specs : List Spec) (i : ℕ) → i < length specs → KeepsAll before after → IsKeptForAll versions before line (take i specs)
    → ((s : Spec) → slice_get specs i ≡ Some s → IsKeptFor versions after line s) → IsKeptForAll versions after line (take (i + 1) specs)
kept_more versions before after line specs i lt keeps all one = λ t c. elim (Contains-push_cases (take i specs) (get_or specs i blank) t (subst (λ (ss : List Spec). Contains ss t) (take_more specs i blank lt) c)) [
  | inl old ↦ λ k key. keeps k line (all t old k key)
  | inr new ↦ subst (IsKeptFor versions after line) new (one (get_or specs i blank) (slice_get-get_or specs i blank lt))
]
  where
    blank : Spec
    blank = record { name = []; span = Any }

-- the need of a line is the one that it was found to be
pub found_need : (line : Option Line) (n : Need) (ss : List Spec) (c : Option Cond) → IsNeedAt line (Some n) → line ≡ Some (Needs ss c) → (alternatives_in n ≡ ss) × (condition_in n ≡ c)
found_need line n ss c is named =
    let same : ◌≡◌ {A = Option Line} (Some (Needs (alternatives_in n) (condition_in n))) (Some (Needs ss c)) = sym is ∙ named in
    (cc, cc)

-- a line without a rule
pub no_need_of : (line : Option Line) → ((l : Line) → line ≡ Some l → is_rule l ≡ false) → IsNeedAt line None
no_need_of line none = λ ss c e. false≢true (sym (none (Needs ss c) e))

-- ---- the SPEC at a place

pub span_found : (versions : List Version) (o : Option Spec) (p : Option PackageSpan) (s : Spec) (q : PackageSpan) → IsSpanAt versions o p → o ≡ Some s → p ≡ Some q → IsSpanOf versions s q
span_found versions o p s q h is found = subst (IsSpanAt versions (Some s)) found (subst (λ (x : Option Spec). IsSpanAt versions x p) is h)

pub span_missing : (versions : List Version) (o : Option Spec) (p : Option PackageSpan) (s : Spec) → IsSpanAt versions o p → o ≡ Some s → p ≡ None → ⊥
span_missing versions o p s h is none = subst (IsSpanAt versions (Some s)) none (subst (λ (x : Option Spec). IsSpanAt versions x p) is h)

-- ---- the SPECs of a condition of a number

pub specs_of_one : (t : Terms) (c : ConditionId) (v : VersionSetId) → Requirement v ≡ condition_at t c → spec_at t v ∷ [] ≡ specs_in (cond_at t c)
specs_of_one t c v is = ap specs_in (cond_is t c (Requirement v) is)

pub specs_of_two : (t : Terms) (c a b : ConditionId) (op : LogicalOperator) → Binary op a b ≡ condition_at t c → specs_in (cond_at t a) ++ specs_in (cond_at t b) ≡ specs_in (cond_at t c)
specs_of_two t c a b joins.And is = ap specs_in (cond_is t c (Binary joins.And a b) is)
specs_of_two t c a b joins.Or is = ap specs_in (cond_is t c (Binary joins.Or a b) is)

pub kept_one : (versions : List Version) (t : PackageLines) (line : ℕ) (s : Spec) → IsKeptFor versions t line s → IsKeptForAll versions t line (s ∷ [])
kept_one versions t line s h = λ x c. elim (element_cases s [] x c) [
  | inl same ↦ subst (IsKeptFor versions t line) same h
  | inr none ↦ absurd (no_element x none)
]

pub kept_both : (versions : List Version) (before after : PackageLines) (line : ℕ) (a b : List Spec) → KeepsAll before after → IsKeptForAll versions before line a → IsKeptForAll versions after line b
    → IsKeptForAll versions after line (a ++ b)
kept_both versions before after line a b keeps one two = λ s c. elim (Contains-append_cases a b s c) [
  | inl old ↦ λ k key. keeps k line (one s old k key)
  | inr new ↦ two s new
]
