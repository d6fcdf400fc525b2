-- How many ids are given, against how many the lines need at most.
use Rattle.std.proofs.Common.{◌≡◌, ◌+◌, ◌≤◌, ℕ, List, [], ◌∷◌, take, length, Option, Some, refl, ap, subst, ◌∙◌, arith}
use Rattle.std.specs.Prelude.{option_to_list, sum_by}
use Rattle.std.proofs.lemmas.List.Sums.{sum_by-append, sum_by-cons, sum_by-take-le, sum_by_push}
use Rattle.resolvo_text.specs.Line.{Version, Line, Skipped, Listed, Needs, Limits, Unknown, Lock, Favour, Exclude, Many, Wish}
use Rattle.resolvo_catalogue_core.specs.Grammar.{line_at}
use Rattle.resolvo_catalogue_core.specs.Listed.{listed}
use Rattle.resolvo_catalogue_core.specs.Questions.{IsRuleLine}
use Rattle.resolvo_catalogue_core.specs.declared.rule.Rule.{Rule}
use Rattle.resolvo_catalogue_core.specs.declared.rule.Rule.TheVariants as rule
use Rattle.resolvo_catalogue_core.specs.Kept.{KeptLines, AreKept}
use Rattle.resolvo_catalogue.specs.Ids.{Ids, AreVersions, IsSolvable, terms_of}
use Rattle.resolvo_catalogue.specs.IdCounts.{id_count, ids_for_line, dependency_ids}
use Rattle.resolvo_terms.specs.TermCounts.{term_count, ids_for_dependency, terms_for_line}
use Rattle.resolvo_catalogue.proofs.DependencyLemmas.{text_next, text_step}
use Rattle.resolvo_terms.proofs.Places.{each_length}

-- ---- the rule of a line

pub rule_dependency : (versions : List Version) (r : Rule) (owner : Option Version) (line : Line) → IsRuleLine versions r owner line → dependency_ids r ≡ ids_for_dependency line
rule_dependency versions (rule.Needs of alternatives condition) owner line h = rw h.0 refl
rule_dependency versions (rule.Limits of spec) owner line h = rw h.0 refl
rule_dependency versions (rule.Unknown of word) owner line h = rw h.0 refl
rule_dependency versions (rule.Lock locked) owner line h = rw h.2 refl
rule_dependency versions (rule.Exclude excluded word) owner line h = rw h.2 refl

-- ---- sums over lines

module _ (f : Line → ℕ) (lines : List Line) where
  -- of the first lines of a text one line more
  pub text_more : (i : ℕ) (l : Line) → line_at lines (i + 1) ≡ Some l → sum_by f (take (i + 1) lines) ≡ sum_by f (take i lines) + f l
  text_more i l at = ap (λ (ls : List Line). sum_by f ls) (text_step lines i l at) ∙ sum_by_push f (take i lines) l

  pub text_no_less : (i : ℕ) → sum_by f (take i lines) ≤ sum_by f (take (i + 1) lines)
  text_no_less i =
      let one : List Line = option_to_list (line_at lines (i + 1)) in
      let parts : sum_by f (take (i + 1) lines) ≡ sum_by f (take i lines) + sum_by f one = ap (λ (ls : List Line). sum_by f ls) (text_next lines i) ∙ sum_by-append f (take i lines) one in
      omega (arith, parts)

  pub text_within : (i : ℕ) (l : Line) → line_at lines (i + 1) ≡ Some l → sum_by f (take i lines) + f l ≤ sum_by f lines
  text_within i l at = omega (arith, text_more i l at, sum_by-take-le f lines (i + 1))

-- what the lines need is one id for each version, and their terms
pub both_parts : (lines : List Line) → sum_by ids_for_line lines ≡ length (listed lines) + sum_by terms_for_line lines
both_parts [] = refl
both_parts (line ∷ lines) = omega (arith, both_parts lines, first line, sum_by-cons ids_for_line line lines, sum_by-cons terms_for_line line lines)
  where
    first : (l : Line) → ids_for_line l + length (listed lines) ≡ length (listed (l ∷ lines)) + terms_for_line l
    first Skipped = omega arith
    first (Listed v) = omega arith
    first (Needs ss c) = omega arith
    first (Limits s) = omega arith
    first (Unknown r) = omega arith
    first (Lock v) = omega arith
    first (Favour v) = omega arith
    first (Exclude v r) = omega arith
    first (Many name) = omega arith
    first (Wish v) = omega arith

-- ---- versions

-- the terms and the versions of a catalogue, which are no more than its lines need
pub count_over : (ids : Ids) (k : KeptLines) (lines : List Line) → AreKept k → terms_of ids ≡ k.terms → AreVersions ids (listed k.lines) → k.lines ≡ lines → id_count ids ≤ sum_by ids_for_line lines
count_over ids k lines kept same are is =
    let count : term_count (terms_of ids) ≡ term_count k.terms = ap term_count same in
    let versions : length ids.solvables ≡ length (listed k.lines) = each_length (IsSolvable ids) ids.solvables (listed k.lines) are in
    subst (λ (ls : List Line). id_count ids ≤ sum_by ids_for_line ls) is (omega (arith, count, versions, kept.few, both_parts k.lines))
