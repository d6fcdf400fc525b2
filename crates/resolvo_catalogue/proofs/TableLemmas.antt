-- The dependencies of versions, by the rules of their lines, are those of the lines.
use Rattle.std.proofs.Common.{◌≡◌, ◌∙◌, ℕ, zero, suc, List, [], ◌∷◌, ◌++◌, map, Option, Some, None, option_map, refl, sym, ap, subst, append_assoc}
use Rattle.std.specs.Prelude.{slice_get, slice_index_or, option_to_list}
use Rattle.std.proofs.lemmas.List.{append-nil, length-map}
use Rattle.std.proofs.lemmas.List.Concat.{flat_map-cons}
use Rattle.std.proofs.lemmas.Option.{get_or_from_slice_get, same_Some, slice_get-map}
use Rattle.resolvo_text.specs.Line.{Version, Line, Lock, Exclude}
use Rattle.resolvo_terms.specs.Known.{word_text}
use Rattle.resolvo_terms.specs.Terms.{Terms}
use Rattle.resolvo_catalogue_core.specs.Grammar.{line_at, owner_of}
use Rattle.resolvo_catalogue_core.specs.Kept.{KeptLines, AreKept, IsKeptLine, rule_at, nth}
use Rattle.resolvo_catalogue_core.specs.LinesByVersion.{kept_of}
use Rattle.resolvo_catalogue_core.specs.Listed.{listed}
use Rattle.resolvo_catalogue_core.specs.declared.kept_rule.KeptRule.{KeptRule}
use Rattle.resolvo_catalogue_core.specs.declared.kept_rule.KeptRule.TheVariants as kept
use Rattle.resolvo_catalogue.specs.Ids.{Ids, terms_of}
use Rattle.resolvo_catalogue.specs.Dependencies.{VersionDependencies, AreDependenciesOf, lines_at, no_lines}
use Rattle.resolvo_catalogue.specs.Over.{AreDependencies, AreDependenciesAt}
use Rattle.resolvo_catalogue.specs.Tabled.{deps_by, deps_from, deps_in, with_rule}
use Rattle.resolvo_catalogue.proofs.DependencyLemmas.{deps_need, deps_limit, deps_unknown, deps_other, deps_none}

-- a line more, with its rule
with_kept : (ids : Ids) (versions : List Version) (r : KeptRule) (owner : Option Version) (line : Line) (lines : List Line) (deps : VersionDependencies) → IsKeptLine (terms_of ids) versions r owner line → AreDependenciesOf ids lines deps
    → AreDependenciesOf ids (lines ++ line ∷ []) (with_rule deps (Some r))
with_kept ids versions (kept.Needs of need) owner line lines deps k h = deps_need ids lines deps h line _ _ need _ (sym k.is) k.given refl
with_kept ids versions (kept.Limits of v) owner line lines deps k h = deps_limit ids lines deps h line _ v _ (sym k.is) k.given refl
with_kept ids versions (kept.Unknown of w) owner line lines deps k h = deps_unknown ids lines deps h line _ w (sym k.is) k.given
with_kept ids versions (kept.Lock locked) owner line lines deps k h = subst (λ (l : Line). AreDependenciesOf ids (lines ++ l ∷ []) deps) k.is (deps_other ids lines deps h (Lock (nth versions locked)) refl refl refl)
with_kept ids versions (kept.Exclude excluded w) owner line lines deps k h = subst (λ (l : Line). AreDependenciesOf ids (lines ++ l ∷ []) deps) k.is (deps_other ids lines deps h (Exclude (nth versions excluded) (word_text (terms_of ids) w)) refl refl refl)

-- the dependencies at a place
pub deps_at_place : (k : KeptLines) (n : ℕ) → slice_index_or (deps_in k) n no_lines ≡ deps_by k.rules (kept_of k.owned n)
deps_at_place k n = go k.owned n
  where
    go : (lists : List (List ℕ)) (n : ℕ) → slice_index_or (map (deps_by k.rules) lists) n no_lines ≡ deps_by k.rules (slice_index_or lists n [])
    go [] n = refl
    go (ns ∷ lists) zero = refl
    go (ns ∷ lists) (suc n) = go lists n

module _ (ids : Ids) (k : KeptLines) (are : AreKept k) (same : terms_of ids ≡ k.terms) where
  one_more : (n : ℕ) (lines : List Line) (deps : VersionDependencies) → AreDependenciesOf ids lines deps → AreDependenciesOf ids (lines ++ option_to_list (line_at k.lines n)) (with_rule deps (rule_at k.rules n))
  one_more n lines deps h = by (rule_at k.rules n) refl
    where
      by : (o : Option KeptRule) → rule_at k.rules n ≡ o → AreDependenciesOf ids (lines ++ option_to_list (line_at k.lines n)) (with_rule deps o)
      by None is = deps_none ids deps k.lines lines n h (are.none n is)
      by (Some r) is =
          let l = are.rules n r is in
          let rule = subst (λ (u : Terms). IsKeptLine u (listed k.lines) r (owner_of k.lines n) l.0) (sym same) l.2 in
          subst (λ (o : Option Line). AreDependenciesOf ids (lines ++ option_to_list o) (with_rule deps (Some r))) (sym l.1) (with_kept ids (listed k.lines) r (owner_of k.lines n) l.0 lines deps rule h)

  along : (numbers : List ℕ) (lines : List Line) (deps : VersionDependencies) → AreDependenciesOf ids lines deps → AreDependenciesOf ids (lines ++ lines_at k.lines numbers) (deps_from k.rules deps numbers)
  along [] lines deps h = rw (append-nil lines) h
  along (n ∷ numbers) lines deps h =
      let more = option_to_list (line_at k.lines n) in
      let next = with_rule deps (rule_at k.rules n) in
      let parts : (lines ++ more) ++ lines_at k.lines numbers ≡ lines ++ lines_at k.lines (n ∷ numbers)
      = append_assoc lines more (lines_at k.lines numbers) ∙ ap (λ (ls : List Line). lines ++ ls) (sym (flat_map-cons (λ (m : ℕ). option_to_list (line_at k.lines m)) n numbers)) in
      subst (λ (ls : List Line). AreDependenciesOf ids ls (deps_from k.rules next numbers)) parts (along numbers (lines ++ more) next (one_more n lines deps h))

  none : AreDependenciesOf ids [] no_lines
  none = record { requirements = tt; constrains = tt; unknown = refl }

  pub deps_are : AreDependencies ids k.lines (deps_in k)
  deps_are = record {
    as_many = length-map k.owned (deps_by k.rules) ∙ are.as_many;
    each = λ n t at. by n t (slice_get k.owned n) refl (sym (slice_get-map (deps_by k.rules) k.owned n) ∙ at);
  }
    where
      by : (n : ℕ) (t : VersionDependencies) (o : Option (List ℕ)) → slice_get k.owned n ≡ o → option_map (deps_by k.rules) o ≡ Some t → AreDependenciesAt ids k.lines n t
      by n t None is e = absurd cc
      by n t (Some numbers) is e =
          let here : kept_of k.owned n ≡ numbers = get_or_from_slice_get k.owned n numbers [] is in
          let all = subst (λ (d : VersionDependencies). AreDependenciesOf ids (lines_at k.lines numbers) d) (same_Some (deps_by k.rules numbers) t e) (along numbers [] no_lines none) in
          (kept_of k.owned n, are.owned n, subst (λ (ns : List ℕ). AreDependenciesOf ids (lines_at k.lines ns) t) (sym here) all)
