-- The questions about a table, by the lines that it keeps.
use Rattle.std.proofs.Common.{◌≡◌, inl, inr, ℕ, zero, suc, ◌+◌, ◌≤◌, Bool, true, false, List, [], ◌∷◌, ◌++◌, take, Option, Some, None, refl, sym, ap, subst, ◌∙◌, option_map, arith}
use Rattle.std.specs.Prelude.{slice_get, option_and_then, IfSome, IfNone, IfOk, Result, Ok, Err, sum_by}
use Rattle.std.specs.Option.{option_map_or}
use Rattle.std.proofs.lemmas.Option.{slice_get-map, slice_get_within}
use Rattle.std.proofs.lemmas.List.{take-append-le}
use Rattle.std.proofs.lemmas.List.Sums.{sum_by_push}
use Rattle.std.proofs.Math.Seq.{take-append_seam}
use Rattle.resolvo_terms.proofs.Places.{get_push}
use Rattle.resolvo_text.specs.Matches.{Set}
use Rattle.resolvo_text.specs.Line.{Version, Line, Skipped, Listed, Needs, Limits, Unknown, Lock, Favour, Exclude, Many, Wish}
use Rattle.resolvo_catalogue_core.specs.Grammar.{line_at, owner_of, IsCatalogueLine, AreCatalogueLines}
use Rattle.resolvo_catalogue_core.specs.Rules.{obeys, keeps, keeps_in_request}
use Rattle.resolvo_catalogue_core.specs.Listed.{listed, AreDistinct}
use Rattle.resolvo_catalogue_core.specs.Questions.{IsRuleLine, is_rule, cases_of_line}
use Rattle.resolvo_catalogue_core.specs.Table.{line_of, Keeps, IsTable, HasFew, lines_in, versions_in, kinds_in}
use Rattle.resolvo_catalogue_core.specs.Kept.{kept_line, IsKeptOf, IsKeptLine}
use Rattle.resolvo_terms.specs.Terms.{Terms}
use Rattle.resolvo_terms.specs.TermCounts.{term_count, terms_for_line}
use Rattle.resolvo_catalogue_core.specs.declared.kept_rule.KeptRule.{KeptRule}
use Rattle.resolvo_catalogue_core.specs.declared.rule.Rule.{Rule}
use Rattle.resolvo_catalogue_core.specs.Held.{kind_at, rule_of}
use Rattle.resolvo_catalogue_core.specs.LineKind.{LineKind}
use Rattle.resolvo_catalogue_core.specs.LineKind as line_kinds
use Rattle.resolvo_catalogue_core.specs.declared.table.Table.{Table}
use Rattle.resolvo_catalogue_core.proofs.TableSteps.{one_number}

-- the table's facts, of the lines by another name
pub kept : (t : Table) (lines : List Line) → lines_in t ≡ lines → IsTable t → Keeps t (listed lines) lines
kept t lines is keeps = subst (λ (ls : List Line). Keeps t (listed ls) ls) is (subst (λ (vs : List Version). Keeps t vs (lines_in t)) (sym keeps.listing) keeps)

pub distinct : (t : Table) → IsTable t → AreDistinct (versions_in t)
distinct t keeps v j k = one_number t (versions_in t) (lines_in t) keeps v j k

-- ---- rules

-- where a rule is stored for a line, it is that line's rule
rule_of_line : (t : Table) → IsTable t → (n : ℕ) (r : KeptRule) → kind_at (kinds_in t) n ≡ Some (line_kinds.Rule r) → (l : Line) × (line_at (lines_in t) n ≡ Some l) × IsKeptLine t.terms (versions_in t) r (owner_of (lines_in t) n) l
rule_of_line t keeps zero r at = absurd cc
rule_of_line t keeps (suc n) r at =
    let vs = versions_in t in
    (kept_line t.terms vs r, slice_get-map (line_of t.terms vs) (kinds_in t) n ∙ ap (λ (o : Option LineKind). option_map (line_of t.terms vs) o) at, (let h = keeps.kinds n (line_kinds.Rule r) at in record { is = refl; given = h.0; of = h.1 }))

kind_of_option : (o : Option LineKind) (r : KeptRule) → option_and_then rule_of o ≡ Some r → o ≡ Some (line_kinds.Rule r)
kind_of_option None r e = absurd cc
kind_of_option (Some (line_kinds.Rule x)) r e = cc
kind_of_option (Some line_kinds.Nothing) r e = absurd cc
kind_of_option (Some (line_kinds.Listed v)) r e = absurd cc
kind_of_option (Some (line_kinds.Favour v)) r e = absurd cc
kind_of_option (Some (line_kinds.Many name)) r e = absurd cc

pub rule_is_line : (t : Table) (lines : List Line) → lines_in t ≡ lines → IsTable t → (n : ℕ) (r : KeptRule) → option_and_then rule_of (kind_at (kinds_in t) n) ≡ Some r → (l : Line) × (line_at lines n ≡ Some l) × IsKeptLine t.terms (listed lines) r (owner_of lines n) l
rule_is_line t lines is keeps n r e =
    let h = rule_of_line t keeps n r (kind_of_option (kind_at (kinds_in t) n) r e) in
    subst (λ (ls : List Line). (l : Line) × (line_at ls n ≡ Some l) × IsKeptLine t.terms (listed ls) r (owner_of ls n) l) is (subst (λ (vs : List Version). (l : Line) × (line_at (lines_in t) n ≡ Some l) × IsKeptLine t.terms vs r (owner_of (lines_in t) n) l) (sym keeps.listing) h)

-- the text of a rule is that of the line for which it is stored
pub rule_in_text : (t : Table) (lines : List Line) → lines_in t ≡ lines → IsTable t → (n : ℕ) (r : KeptRule) → option_and_then rule_of (kind_at (kinds_in t) n) ≡ Some r → (x : Rule)
    → ((versions : List Version) (owner : Option Version) → IsKeptOf versions owner r → IsRuleLine versions x owner (kept_line t.terms versions r)) → (l : Line) × (line_at lines n ≡ Some l) × IsRuleLine (listed lines) x (owner_of lines n) l
rule_in_text t lines is keeps n r e x made =
    let h = rule_is_line t lines is keeps n r e in
    (h.0, h.1, subst (λ (l : Line). IsRuleLine (listed lines) x (owner_of lines n) l) h.2.is (made (listed lines) (owner_of lines n) h.2.of))

no_rule_line : (terms : Terms) (vs : List Version) (s : LineKind) → rule_of s ≡ None → is_rule (line_of terms vs s) ≡ false
no_rule_line terms vs line_kinds.Nothing e = refl
no_rule_line terms vs (line_kinds.Listed v) e = refl
no_rule_line terms vs (line_kinds.Favour v) e = refl
no_rule_line terms vs (line_kinds.Many name) e = refl
no_rule_line terms vs (line_kinds.Rule r) e = absurd cc

-- where no rule is stored for a line, the line has none
pub no_rule : (t : Table) (lines : List Line) → lines_in t ≡ lines → (n : ℕ) → option_and_then rule_of (kind_at (kinds_in t) n) ≡ None → (l : Line) → line_at lines n ≡ Some l → is_rule l ≡ false
no_rule t lines is zero e l at = absurd cc
no_rule t lines is (suc n) e l at = from_kind (slice_get (kinds_in t) n) e (sym (slice_get-map (line_of t.terms (versions_in t)) (kinds_in t) n) ∙ ap (λ (ls : List Line). slice_get ls n) is ∙ at)
  where
    from_kind : (o : Option LineKind) → option_and_then rule_of o ≡ None → option_map (line_of t.terms (versions_in t)) o ≡ Some l → is_rule l ≡ false
    from_kind None e at = absurd cc
    from_kind (Some s) e at = let same : line_of t.terms (versions_in t) s ≡ l = cc in subst (λ (x : Line). is_rule x ≡ false) same (no_rule_line t.terms (versions_in t) s e)

-- ---- a set that keeps a line

obeys_no_rule : (owner : Option Version) (l : Line) (set : Set) → is_rule l ≡ false → obeys owner l set ≡ true
obeys_no_rule owner Skipped set e = refl
obeys_no_rule owner (Listed v) set e = refl
obeys_no_rule owner (Favour v) set e = refl
obeys_no_rule owner (Many name) set e = refl
obeys_no_rule owner (Wish v) set e = refl
obeys_no_rule owner (Needs ss c) set e = absurd cc
obeys_no_rule owner (Limits s) set e = absurd cc
obeys_no_rule owner (Unknown r) set e = absurd cc
obeys_no_rule owner (Lock v) set e = absurd cc
obeys_no_rule owner (Exclude v r) set e = absurd cc

pub keeps_no_rule : (lines : List Line) (n : ℕ) (set : Set) → ((l : Line) → line_at lines n ≡ Some l → is_rule l ≡ false) → true ≡ keeps lines n set
keeps_no_rule lines n set not = from_line (line_at lines n) not
  where
    from_line : (o : Option Line) → ((l : Line) → o ≡ Some l → is_rule l ≡ false) → true ≡ option_map_or (λ l. obeys (owner_of lines n) l set) o true
    from_line None not = refl
    from_line (Some l) not = sym (obeys_no_rule (owner_of lines n) l set (not l refl))

pub keeps_rule : (lines : List Line) (n : ℕ) (set : Set) (l : Line) → line_at lines n ≡ Some l → obeys (owner_of lines n) l set ≡ keeps lines n set
keeps_rule lines n set l at = rw at refl

-- whether the set obeys the rule that is stored for the line
pub keeps_kept : (t : Table) (lines : List Line) → lines_in t ≡ lines → IsTable t → (n : ℕ) (r : KeptRule) → option_and_then rule_of (kind_at (kinds_in t) n) ≡ Some r → (set : Set) (answer : Bool)
    → ((owner : Option Version) → IsKeptOf (listed lines) owner r → answer ≡ obeys owner (kept_line t.terms (listed lines) r) set) → answer ≡ keeps lines n set
keeps_kept t lines is keeps n r e set answer obeyed =
    let h = rule_is_line t lines is keeps n r e in
    obeyed (owner_of lines n) h.2.of ∙ ap (λ (l : Line). obeys (owner_of lines n) l set) h.2.is ∙ keeps_rule lines n set h.0 h.1

-- ---- options

pub some_then : {X : Type 0} {P : X → Type 0} (o : Option X) → ((x : X) → o ≡ Some x → P x) → IfSome o P
some_then None h = tt
some_then (Some x) h = h x refl

pub none_then : {X : Type 0} {P : Type 0} (o : Option X) → (o ≡ None → P) → IfNone o P
none_then None h = h refl
none_then (Some x) h = tt

pub distinct_listed : (t : Table) (lines : List Line) → lines_in t ≡ lines → IsTable t → AreDistinct (listed lines)
distinct_listed t lines is keeps = subst (λ (ls : List Line). AreDistinct (listed ls)) is (subst (λ (vs : List Version). AreDistinct vs) (sym keeps.listing) (distinct t keeps))

-- ---- cases

pub no_cases : (lines : List Line) (n : ℕ) → ((l : Line) → line_at lines n ≡ Some l → is_rule l ≡ false) → [] ≡ cases_of_line (line_at lines n)
no_cases lines n not = from_line (line_at lines n) not
  where
    from_line : (o : Option Line) → ((l : Line) → o ≡ Some l → is_rule l ≡ false) → [] ≡ cases_of_line o
    from_line None not = refl
    from_line (Some Skipped) not = refl
    from_line (Some (Listed v)) not = refl
    from_line (Some (Limits s)) not = refl
    from_line (Some (Unknown r)) not = refl
    from_line (Some (Lock v)) not = refl
    from_line (Some (Favour v)) not = refl
    from_line (Some (Many name)) not = refl
    from_line (Some (Exclude v r)) not = refl
    from_line (Some (Wish v)) not = refl
    from_line (Some (Needs ss c)) not = let rule = not (Needs ss c) refl in absurd cc

-- ---- the lines that were read

pub no_lines : (lines : List Line) → lines ≡ [] → AreCatalogueLines lines
no_lines lines none = rw none (λ n l at. absurd (not_there n l at))
  where
    not_there : (n : ℕ) (l : Line) → slice_get [] n ≡ Some l → ⊥
    not_there n l e = cc

pub lines_push : (lines more : List Line) (text : List ℕ) (line : Line) → AreCatalogueLines lines → IsCatalogueLine lines text line → more ≡ lines ++ line ∷ [] → AreCatalogueLines more
lines_push lines more text line are new is = rw is (λ n l at.
    elim (get_push lines line l n at) [
      | inl old ↦ subst (λ (ls : List Line). (text : List ℕ) × IsCatalogueLine ls text l) (sym (take-append-le n lines (line ∷ []) (omega (arith, slice_get_within lines n l old)))) (are n l old)
      | inr here ↦
          let above : take n (lines ++ line ∷ []) ≡ lines = rw here.0 (take-append_seam lines (line ∷ [])) in
          subst (λ (ls : List Line). (text : List ℕ) × IsCatalogueLine ls text l) (sym above) (text, subst (λ (x : Line). IsCatalogueLine lines text x) here.1 new)
    ])

pub few_push : (t u : Table) (l : Line) → HasFew t → lines_in u ≡ lines_in t ++ l ∷ [] → term_count u.terms ≤ term_count t.terms + terms_for_line l → HasFew u
few_push t u l few more counts =
    let sums : sum_by terms_for_line (lines_in u) ≡ sum_by terms_for_line (lines_in t) + terms_for_line l = ap (λ (ls : List Line). sum_by terms_for_line ls) more ∙ sum_by_push terms_for_line (lines_in t) l in
    omega (arith, few, sums, counts)

pub request_keeps_no_rule : (lines : List Line) (n : ℕ) (set : Set) → ((l : Line) → line_at lines n ≡ Some l → is_rule l ≡ false) → true ≡ keeps_in_request lines n set
request_keeps_no_rule lines n set not = from_line (line_at lines n) not
  where
    from_line : (o : Option Line) → ((l : Line) → o ≡ Some l → is_rule l ≡ false) → true ≡ option_map_or (λ l. obeys None l set) o true
    from_line None not = refl
    from_line (Some l) not = sym (obeys_no_rule None l set (not l refl))

pub ok_map : {X E : Type 0} {P Q : X → Type 0} (r : Result X E) → IfOk r P → ((x : X) → P x → Q x) → IfOk r Q
ok_map (Ok x) h f = f x h
ok_map (Err e) h f = tt
