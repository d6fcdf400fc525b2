-- A set of solvables keeps the provider's rules exactly if the same versions keep the lines.
use Rattle.std.proofs.Common.{◌≡◌, ◌==◌, inl, inr, ◌⊎◌, ℕ, zero, suc, Bool, true, false, List, [], ◌∷◌, Option, Some, None, refl, sym, ap, subst, ◌∙◌, arith}
use Rattle.std.specs.Prelude.{◌&&◌, ◌||◌, not, Contains, slice_get, bytes_eq, option_map}
use Rattle.std.specs.List.{list_any, list_all, find, flat_map}
use Rattle.std.specs.Option.{option_map_or}
use Rattle.std.proofs.lemmas.Bool.{false≢true, eqb-true, or_cases, or_parts}
use Rattle.std.proofs.lemmas.Bool.Decides.{Decides-eqb}
use Rattle.std.proofs.lemmas.Slice.Eq.{bytes_eq-Decides}
use Rattle.std.proofs.lemmas.Option.{slice_get-get_or, slice_get_within}
use Rattle.resolvo_text.specs.Line.{Version, Spec, Cond, Line, Skipped, Listed, Needs, Limits, Unknown, Lock, Favour, Exclude, Many, Wish}
use Rattle.resolvo_text.specs.Matches as lines
use Rattle.resolvo_text.specs.Matches.{Set, same_package}
use Rattle.resolvo_catalogue_core.specs.Grammar.{line_at, owner_of, AreRequestLines}
use Rattle.resolvo_catalogue_core.specs.Listed.{listed}
use Rattle.resolvo_catalogue_core.specs.Rules as texts
use Rattle.resolvo_catalogue_core.specs.Sets as texts_sets
use Rattle.resolvo_catalogue_core.proofs.CatalogueFacts.{keeps_rule}
use Rattle.resolvo_catalogue_core.proofs.TableLemmas.{listed_from}
use Rattle.resolvo_terms.proofs.Places.{at_from_contains, no_element, first_element, each_left}
use Rattle.resolvo_catalogue_core.proofs.PlaceLemmas.{contains_from_line}
use Rattle.resolvo_intern.specs.declared.pool.Solvable.{Solvable}
use Rattle.resolvo_pool_core.specs.declared.id.StringId.{StringId}
use Rattle.resolvo_pool_core.specs.declared.id.VersionSetId.{VersionSetId}
use Rattle.resolvo_pool_core.specs.declared.requirement.ConditionalRequirement.{ConditionalRequirement}
use Rattle.resolvo_pool_core.specs.Provider as pool
use Rattle.resolvo_pool_core.specs.RuleKeeping.{Rules, is_many, is_unknown, is_in, is_outside, meets, binds, is_forbidden, locks_out, listing_for, rules_for, IsRuleKeeping}
use Rattle.resolvo_pool_core.specs.RuleKeeping as kept
use Rattle.resolvo_terms.specs.Terms.{NameId, AreEach}
use Rattle.resolvo_catalogue.specs.Ids.{SolvableId, solvable_id, solvables_of, IsNeed, IsSpec, IsSolvable, IsPackage, Interns, AreSound}
use Rattle.resolvo_catalogue.specs.Known.{name_of}
use Rattle.resolvo_catalogue.specs.Dependencies.{need_in, limit_in, reason_in, lines_at, no_lines}
use Rattle.resolvo_catalogue.specs.Marked.{IsMarked, AreMarksOf, AreMany}
use Rattle.resolvo_catalogue.specs.Provider.{Provider, candidates_of, listing_of, exclusions_of, marks_at, many_at, are_many, deps_at, dependencies_of, packages_of}
use Rattle.resolvo_catalogue.specs.Over.{IsOver, AreDependenciesAt}
use Rattle.resolvo_catalogue.specs.KeptSets.{Represents, DistinguishesIds, KeepsAlike, KeepsAlikeExempt}
use Rattle.resolvo_catalogue.proofs.MarkLemmas.{one_some, marks_stay}
use Rattle.resolvo_catalogue.proofs.PassLemmas.{any_from, any_to, all_from, all_to}
use Rattle.resolvo_catalogue.proofs.Elements.{flat_from, flat_to, option_to, each_from_left, each_from_right, need_from, limit_from, reason_from, from_lines, to_lines}
use Rattle.resolvo_catalogue.proofs.Alike.{listed_is, member_place, is_package, in_from, in_to, candidate, outside_same, need_binds, meets_same}
use Rattle.resolvo_catalogue.proofs.ListLemmas.{versions_stay}
use Rattle.resolvo_catalogue.proofs.CoverLemmas.{deps_stay}
use Rattle.resolvo_catalogue.proofs.RulesKept.{bound, binding, bound_by, binding_by, not_true, not_false, is_not, member_from, member_to, met_member, member_met, within_from, within_to, found_in, find_some, one_lock, owner_there, owner_there_limit, owner_there_unknown, lock_listed, req_from, con_from, req_to, con_to, unknown_from, unknown_to, listing_is, locked_by, excluded_by, exclusion_from, exclusion_to, exclusion_word, exclusion_there}

module _ (p : Provider) (catalogue : List Line) (over : IsOver catalogue p) (same : SolvableId → SolvableId → Bool) (apart : DistinguishesIds same) where
  -- ---- a version's solvable

  pub deps_of_it : (s : SolvableId) (v : Version) → slice_get (listed catalogue) s.raw ≡ Some v → AreDependenciesAt p.ids catalogue s.raw (deps_at p s)
  deps_of_it s v e = over.deps.each s.raw (deps_at p s) (slice_get-get_or p.deps s.raw no_lines (rw over.deps.as_many (slice_get_within (listed catalogue) s.raw v e)))

  marks_of_it : (s : SolvableId) (v : Version) → slice_get (listed catalogue) s.raw ≡ Some v → IsMarked p.ids catalogue catalogue v (marks_at p s)
  marks_of_it s v e = over.marks s.raw v e

  named : (s : SolvableId) (v : Version) → slice_get (listed catalogue) s.raw ≡ Some v → IsPackage p.ids (name_of p.ids s) v.name
  named s v e = is_package p (listed catalogue) over.versions over.once same apart s v e

  found : (xs : List SolvableId) (s : SolvableId) → is_in same (packages_of p) xs s ≡ true → Contains xs s
  found xs s h = in_from p (listed catalogue) over.versions over.once same apart xs s h

  held : (xs : List SolvableId) (s : SolvableId) → Contains xs s → is_in same (packages_of p) xs s ≡ true
  held xs s h = in_to p (listed catalogue) over.versions over.once same apart xs s h

  -- ---- the solvables of a package

  one_name : (n : NameId) (v w : Version) (s : SolvableId) → slice_get (listed catalogue) s.raw ≡ Some v → IsPackage p.ids n w.name → v.name ≡ w.name → name_of p.ids s ≡ n
  one_name n v w s e is e_name =
      let raws : (name_of p.ids s).raw ≡ n.raw = over.once.names (name_of p.ids s).raw n.raw w.name (named s v e ∙ ap (λ (x : List ℕ). Some x) e_name) is in
      ap (λ (k : ℕ). let id : NameId = record { raw = k; tag = record {} } in id) raws

  in_candidates : (n : NameId) (s : SolvableId) (v : Version) → slice_get (listed catalogue) s.raw ≡ Some v → name_of p.ids s ≡ n → is_in same (packages_of p) (pool.listed (candidates_of p n)) s ≡ true
  in_candidates n s v e is = candidate p (listed catalogue) over.versions over.once same apart n s v e ∙ (Decides-eqb (name_of p.ids s).raw n.raw).1 (ap (λ (x : NameId). x.raw) is)

  in_package : (n : NameId) (s : SolvableId) (v : Version) → slice_get (listed catalogue) s.raw ≡ Some v → name_of p.ids s ≡ n → Contains (solvables_of p.ids n.raw) s
  in_package n s v e is = subst (λ (xs : List SolvableId). Contains xs s) (listed_is p (solvables_of p.ids n.raw)) (found (pool.listed (candidates_of p n)) s (in_candidates n s v e is))

  pub its_version : (n : NameId) (s : SolvableId) → Contains (solvables_of p.ids n.raw) s → (v : Version) × (slice_get (listed catalogue) s.raw ≡ Some v) × IsPackage p.ids n v.name
  its_version n s h =
      let m = member_place (λ (x : Solvable ℕ). x.name.raw == n.raw) 0 p.ids.solvables s h in
      let w = each_left (IsSolvable p.ids) p.ids.solvables (listed catalogue) over.versions m.0 m.1 m.3 in
      let at : m.0 ≡ s.raw = omega (arith, m.2) in
      (w.0, subst (λ (k : ℕ). slice_get (listed catalogue) k ≡ Some w.0) at w.1, subst (λ (k : ℕ). slice_get p.ids.names k ≡ Some w.0.name) (eqb-true m.1.name.raw n.raw m.4) w.2.1)

  own_listing : (s : SolvableId) (v : Version) → slice_get (listed catalogue) s.raw ≡ Some v → listing_for same (packages_of p) s ≡ listing_of p (solvables_of p.ids (name_of p.ids s).raw)
  own_listing s v e = listing_is p (solvables_of p.ids (name_of p.ids s).raw) s (in_package (name_of p.ids s) s v e refl)

  -- ---- the mark of a package

  many_of_it : (s : SolvableId) (v : Version) → slice_get (listed catalogue) s.raw ≡ Some v → many_at p s ≡ texts_sets.is_many catalogue v.name
  many_of_it s v e = over.many s.raw v e

  many_of_each : (n : NameId) (name : List ℕ) → IsPackage p.ids n name → (ss : List SolvableId) → ((t : SolvableId) → Contains ss t → Contains (solvables_of p.ids n.raw) t) → (s : SolvableId) → Contains ss s → are_many p ss ≡ texts_sets.is_many catalogue name
  many_of_each n name is [] among s h = absurd (no_element s h)
  many_of_each n name is (t ∷ ss) among s h =
      let w = its_version n t (among t (first_element t ss)) in
      many_of_it t w.0 w.1 ∙ ap (texts_sets.is_many catalogue) (one_some (sym w.2 ∙ is))

  -- the provider and the lines mark a package alike, which has a version
  pub package_alike : (n : NameId) (name : List ℕ) → IsPackage p.ids n name → (s : SolvableId) → Contains (solvables_of p.ids n.raw) s → is_many (packages_of p) n ≡ texts_sets.is_many catalogue name
  package_alike n name is s h = ap (λ (l : pool.Listing SolvableId). l.many) (listing_is p (solvables_of p.ids n.raw) s h) ∙ many_of_each n name is (solvables_of p.ids n.raw) (λ t a. a) s h

  pub mark_alike : (s : SolvableId) (v : Version) → slice_get (listed catalogue) s.raw ≡ Some v → is_many (packages_of p) (name_of p.ids s) ≡ texts_sets.is_many catalogue v.name
  mark_alike s v e = package_alike (name_of p.ids s) v.name (named s v e) s (in_package (name_of p.ids s) s v e refl)

  -- ---- the lines that forbid a version

  forbidden_from : (s : SolvableId) (v : Version) → slice_get (listed catalogue) s.raw ≡ Some v → is_forbidden same (packages_of p) s ≡ true
      → ((w : Version) × Contains catalogue (Lock w) × (v.name ≡ w.name) × (v ≡ w → ⊥)) ⊎ ((word : List ℕ) × Contains catalogue (Exclude v word))
  forbidden_from s v e h =
      let n = name_of p.ids s in
      let ss = solvables_of p.ids n.raw in
      let here : (locks_out same (find (λ (t : SolvableId). (marks_at p t).locked) ss) s || list_any (λ (x : SolvableId × StringId). same x.0 s) (exclusions_of p ss)) ≡ true = rw (own_listing s v e) at h in
      elim (or_cases (locks_out same (find (λ (t : SolvableId). (marks_at p t).locked) ss) s) (list_any (λ (x : SolvableId × StringId). same x.0 s) (exclusions_of p ss)) here) [
        | inl out ↦
            let l = locked_by same (find (λ (t : SolvableId). (marks_at p t).locked) ss) s out in
            let f = found_in (λ (t : SolvableId). (marks_at p t).locked) ss l.0 l.1 in
            let w = its_version n l.0 f.0 in
            let lock = (marks_of_it l.0 w.0 w.1).locked.0 f.1 in
            inl (w.0, lock, one_some (sym (named s v e) ∙ w.2), λ is. l.2 ((apart l.0 s).1 (ap (λ (k : ℕ). solvable_id k) (over.distinct v l.0.raw s.raw (w.1 ∙ ap (λ (x : Version). Some x) (sym is)) e))))
        | inr excluded ↦
            let x = any_from (λ (x : SolvableId × StringId). same x.0 s) (exclusions_of p ss) excluded in
            let f = exclusion_from p ss x.0 x.1 in
            let by = excluded_by f.0 (marks_at p f.0).excluded x.0 f.2 in
            let is : f.0 ≡ s = by.1 ∙ (apart x.0.0 s).0 x.2 in
            inr (exclusion_word p.ids catalogue v (marks_at p s).excluded x.0.1 (marks_of_it s v e).excluded (subst (λ (t : SolvableId). (marks_at p t).excluded ≡ Some x.0.1) is by.0))
      ]

  lock_forbids : (s : SolvableId) (v w : Version) → slice_get (listed catalogue) s.raw ≡ Some v → Contains catalogue (Lock w) → (k : ℕ) → slice_get (listed catalogue) k ≡ Some w → v.name ≡ w.name → is_forbidden same (packages_of p) s ≡ false → v ≡ w
  lock_forbids s v w e lock k at e_name h =
      let n = name_of p.ids s in
      let ss = solvables_of p.ids n.raw in
      let here : (locks_out same (find (λ (t : SolvableId). (marks_at p t).locked) ss) s || list_any (λ (x : SolvableId × StringId). same x.0 s) (exclusions_of p ss)) ≡ false = rw (own_listing s v e) at h in
      let free = (or_parts (locks_out same (find (λ (t : SolvableId). (marks_at p t).locked) ss) s) (list_any (λ (x : SolvableId × StringId). same x.0 s) (exclusions_of p ss)) here).0 in
      let own : name_of p.ids (solvable_id k) ≡ n = one_name n w v (solvable_id k) at (named s v e) (sym e_name) in
      let y = find_some (λ (t : SolvableId). (marks_at p t).locked) ss (solvable_id k) (in_package n (solvable_id k) w at own) ((marks_of_it (solvable_id k) w at).locked.1 lock) in
      let f = found_in (λ (t : SolvableId). (marks_at p t).locked) ss y.0 y.1 in
      let u = its_version n y.0 f.0 in
      let same_lock : u.0 ≡ w = one_lock catalogue over.grammatical u.0 w ((marks_of_it y.0 u.0 u.1).locked.0 f.1) lock (one_some (sym u.2 ∙ named s v e) ∙ e_name) in
      let is : y.0 ≡ s = (apart y.0 s).0 (not_not (same y.0 s) (rw y.1 at free)) in
      one_some (sym e ∙ ap (λ (t : SolvableId). slice_get (listed catalogue) t.raw) (sym is) ∙ u.1) ∙ same_lock
    where
      not_not : (b : Bool) → not b ≡ false → b ≡ true
      not_not true h = refl
      not_not false h = absurd (false≢true (sym h))

  exclusion_forbids : (s : SolvableId) (v : Version) → slice_get (listed catalogue) s.raw ≡ Some v → (word : List ℕ) → Contains catalogue (Exclude v word) → is_forbidden same (packages_of p) s ≡ false → ⊥
  exclusion_forbids s v e word out h =
      let n = name_of p.ids s in
      let ss = solvables_of p.ids n.raw in
      let here : (locks_out same (find (λ (t : SolvableId). (marks_at p t).locked) ss) s || list_any (λ (x : SolvableId × StringId). same x.0 s) (exclusions_of p ss)) ≡ false = rw (own_listing s v e) at h in
      let free = (or_parts (locks_out same (find (λ (t : SolvableId). (marks_at p t).locked) ss) s) (list_any (λ (x : SolvableId × StringId). same x.0 s) (exclusions_of p ss)) here).1 in
      let w = exclusion_there p.ids catalogue v (marks_at p s).excluded word (marks_of_it s v e).excluded out in
      let pair : SolvableId × StringId = (s, w.0) in
      let among = exclusion_to p ss s pair (in_package n s v e refl) (option_to (option_map (λ (x : StringId). let q : SolvableId × StringId = (s, x) in q) (marks_at p s).excluded) pair (ap (λ (o : Option StringId). option_map (λ (x : StringId). let q : SolvableId × StringId = (s, x) in q) o) w.1)) in
      false≢true (sym free ∙ any_to (λ (x : SolvableId × StringId). same x.0 s) (exclusions_of p ss) pair among ((apart s s).1 refl))

  module _ (request : List Line) (asks : AreRequestLines catalogue request) (root : Rules) (needs_are : AreEach (IsNeed p.ids) root.requirements (flat_map need_in request)) (limits_are : AreEach (IsSpec p.ids) root.constraints (flat_map limit_in request)) (chosen : List SolvableId) (set : Set) (represents : Represents (listed catalogue) chosen set) where
    need_holds : (need : ConditionalRequirement) (written : List Spec × Option Cond) → IsNeed p.ids need written → binds same (packages_of p) chosen need ≡ lines.condition_holds written.1 set
    need_holds need written is = need_binds p (listed catalogue) over.versions over.once same apart chosen set represents over.once.below need written is

    meets_spec : (need : ConditionalRequirement) (written : List Spec × Option Cond) (x : SolvableId) (v : Version) → IsNeed p.ids need written → slice_get (listed catalogue) x.raw ≡ Some v → meets same (packages_of p) need.requirement x ≡ list_any (λ (s : Spec). lines.matches s v) written.0
    meets_spec need written x v is e = meets_same p (listed catalogue) over.versions over.once same apart chosen set represents over.once.below need.requirement written.0 x v is.0 e

    outside_spec : (w : VersionSetId) (s : Spec) (x : SolvableId) (v : Version) → IsSpec p.ids w s → slice_get (listed catalogue) x.raw ≡ Some v → is_outside same (packages_of p) w x ≡ (bytes_eq v.name s.name && not (lines.matches s v))
    outside_spec w s x v is e = outside_same p (listed catalogue) over.versions over.once same apart w s x v is e

    -- ---- a set that keeps the lines

    module _ (keeps : texts_sets.IsRuleKeeping catalogue request set) where
      line_kept : (n : ℕ) (l : Line) → line_at catalogue n ≡ Some l → texts.obeys (owner_of catalogue n) l set ≡ true
      line_kept n l e = keeps_rule catalogue n set l e ∙ keeps.catalogue_lines n

      request_line_kept : (l : Line) → Contains request l → texts.obeys None l set ≡ true
      request_line_kept l c =
          let at = at_from_contains request l c in
          let e : line_at request (suc at.0) ≡ Some l = at.1 in
          sym (rw e refl) ∙ keeps.request_lines (suc at.0)

      met_by : (owner : Option Version) (need : ConditionalRequirement) (written : List Spec × Option Cond) → IsNeed p.ids need written → texts.obeys owner (Needs written.0 written.1) set ≡ true → texts.binds owner set ≡ true → binds same (packages_of p) chosen need ≡ true
          → (s : SolvableId) × (is_in same (packages_of p) chosen s ≡ true) × (meets same (packages_of p) need.requirement s ≡ true)
      met_by owner need written is obeyed owned bound_in =
          let met = bound (texts.binds owner set) (lines.condition_holds written.1 set) (lines.is_met_by_one written.0 set) obeyed owned (sym (need_holds need written is) ∙ bound_in) in
          let v = met_member written.0 set met in
          let s = represents.all v.0 v.1 in
          (s.0, held chosen s.0 s.1, meets_spec need written s.0 v.0 is s.2 ∙ v.2)

      inside_by : (owner : Option Version) (w : VersionSetId) (spec : Spec) (s : SolvableId) → IsSpec p.ids w spec → texts.obeys owner (Limits spec) set ≡ true → texts.binds owner set ≡ true → is_in same (packages_of p) chosen s ≡ true → is_outside same (packages_of p) w s ≡ false
      inside_by owner w spec s is obeyed owned h =
          let v = represents.each s (found chosen s h) in
          let all = bound_by (texts.binds owner set) (list_all (λ (x : Version). not (bytes_eq x.name spec.name) || lines.matches spec x) set) obeyed owned in
          outside_spec w spec s v.0 is v.1 ∙ within_from spec v.0 (all_from (λ (x : Version). not (bytes_eq x.name spec.name) || lines.matches spec x) set v.0 all v.2)

      owned_by : (o : Option Version) (v : Version) → o ≡ Some v → Contains set v → texts.binds o set ≡ true
      owned_by o v is c = rw is (member_to v set c)

      requirement_met : (parent : Option SolvableId) (need : ConditionalRequirement) → kept.is_member same (packages_of p) root chosen parent ≡ true → Contains (rules_for same (packages_of p) root parent).requirements need → binds same (packages_of p) chosen need ≡ true
          → (s : SolvableId) × (is_in same (packages_of p) chosen s ≡ true) × (meets same (packages_of p) need.requirement s ≡ true)
      requirement_met None need hm hc hb =
          let written = each_from_left (IsNeed p.ids) root.requirements (flat_map need_in request) needs_are need hc in
          let f = flat_from need_in request written.0 written.1 in
          met_by None need written.0 written.2 (request_line_kept (Needs written.0.0 written.0.1) (subst (λ (l : Line). Contains request l) (need_from f.0 written.0 f.2) f.1)) refl hb
      requirement_met (Some s) need hm hc hb =
          let v = represents.each s (found chosen s hm) in
          let own_deps = deps_of_it s v.0 v.1 in
          let written = each_from_left (IsNeed p.ids) (deps_at p s).requirements (flat_map need_in (lines_at catalogue own_deps.0)) own_deps.2.requirements need (req_from (deps_at p s) (deps_at p s).unknown need hc) in
          let f = flat_from need_in (lines_at catalogue own_deps.0) written.0 written.1 in
          let is : f.0 ≡ Needs written.0.0 written.0.1 = need_from f.0 written.0 f.2 in
          let at = from_lines (listed catalogue) catalogue s.raw v.0 v.1 own_deps.0 own_deps.1 (Needs written.0.0 written.0.1) (subst (λ (l : Line). Contains (lines_at catalogue own_deps.0) l) is f.1) in
          met_by (owner_of catalogue at.0) need written.0 written.2 (line_kept at.0 (Needs written.0.0 written.0.1) at.1) (owned_by (owner_of catalogue at.0) v.0 at.2 v.2) hb

      constraint_kept : (parent : Option SolvableId) (w : VersionSetId) (s : SolvableId) → kept.is_member same (packages_of p) root chosen parent ≡ true → Contains (rules_for same (packages_of p) root parent).constraints w → is_in same (packages_of p) chosen s ≡ true → is_outside same (packages_of p) w s ≡ false
      constraint_kept None w s hm hc hs =
          let spec = each_from_left (IsSpec p.ids) root.constraints (flat_map limit_in request) limits_are w hc in
          let f = flat_from limit_in request spec.0 spec.1 in
          inside_by None w spec.0 s spec.2 (request_line_kept (Limits spec.0) (subst (λ (l : Line). Contains request l) (limit_from f.0 spec.0 f.2) f.1)) refl hs
      constraint_kept (Some t) w s hm hc hs =
          let v = represents.each t (found chosen t hm) in
          let own_deps = deps_of_it t v.0 v.1 in
          let spec = each_from_left (IsSpec p.ids) (deps_at p t).constrains (flat_map limit_in (lines_at catalogue own_deps.0)) own_deps.2.constrains w (con_from (deps_at p t) (deps_at p t).unknown w hc) in
          let f = flat_from limit_in (lines_at catalogue own_deps.0) spec.0 spec.1 in
          let is : f.0 ≡ Limits spec.0 = limit_from f.0 spec.0 f.2 in
          let at = from_lines (listed catalogue) catalogue t.raw v.0 v.1 own_deps.0 own_deps.1 (Limits spec.0) (subst (λ (l : Line). Contains (lines_at catalogue own_deps.0) l) is f.1) in
          inside_by (owner_of catalogue at.0) w spec.0 s spec.2 (line_kept at.0 (Limits spec.0) at.1) (owned_by (owner_of catalogue at.0) v.0 at.2 v.2) hs

      is_free : (s : SolvableId) → is_in same (packages_of p) chosen s ≡ true → is_forbidden same (packages_of p) s ≡ false
      is_free s h =
          let v = represents.each s (found chosen s h) in
          not_false (is_forbidden same (packages_of p) s) (λ forbidden. elim (forbidden_from s v.0 v.1 forbidden) [
            | inl lock ↦
                let at = at_from_contains catalogue (Lock lock.0) lock.1 in
                let all = line_kept (suc at.0) (Lock lock.0) at.1 in
                let own = all_from (λ (x : Version). not (same_package x lock.0) || x.number == lock.0.number) set v.0 all v.2 in
                let number = bound_by (same_package v.0 lock.0) (v.0.number == lock.0.number) own ((bytes_eq-Decides v.0.name lock.0.name).1 lock.2) in
                lock.3 (let e : v.0.number ≡ lock.0.number = eqb-true v.0.number lock.0.number number in
                ap (λ (name : List ℕ). let u : Version = record { name = name; number = v.0.number } in u) lock.2 ∙ ap (λ (k : ℕ). let u : Version = record { name = lock.0.name; number = k } in u) e)
            | inr out ↦
                let at = at_from_contains catalogue (Exclude v.0 out.0) out.1 in
                is_not (lines.is_member v.0 set) (line_kept (suc at.0) (Exclude v.0 out.0) at.1) (member_to v.0 set v.2)
          ])

      is_known : (s : SolvableId) → is_in same (packages_of p) chosen s ≡ true → is_unknown (dependencies_of p s) ≡ false
      is_known s h =
          let v = represents.each s (found chosen s h) in
          let own_deps = deps_of_it s v.0 v.1 in
          not_false (is_unknown (dependencies_of p s)) (λ lost.
          let r = unknown_from p.ids (deps_at p s) (deps_at p s).unknown (flat_map reason_in (lines_at catalogue own_deps.0)) own_deps.2.unknown lost in
          let f = flat_from reason_in (lines_at catalogue own_deps.0) r.0 r.1 in
          let is : f.0 ≡ Unknown r.0 = reason_from f.0 r.0 f.2 in
          let at = from_lines (listed catalogue) catalogue s.raw v.0 v.1 own_deps.0 own_deps.1 (Unknown r.0) (subst (λ (l : Line). Contains (lines_at catalogue own_deps.0) l) is f.1) in
          is_not (texts.binds (owner_of catalogue at.0) set) (line_kept at.0 (Unknown r.0) at.1) (owned_by (owner_of catalogue at.0) v.0 at.2 v.2))

      one_each : (s t : SolvableId) → is_in same (packages_of p) chosen s ≡ true → is_in same (packages_of p) chosen t ≡ true → name_of p.ids s ≡ name_of p.ids t → is_many (packages_of p) (name_of p.ids s) ≡ false → s ≡ t
      one_each s t hs ht e unmarked =
          let v = represents.each s (found chosen s hs) in
          let w = represents.each t (found chosen t ht) in
          let e_name : v.0.name ≡ w.0.name = one_some (sym (named s v.0 v.1) ∙ ap (λ (n : NameId). slice_get p.ids.names n.raw) e ∙ named t w.0 w.1) in
          let is : v.0 ≡ w.0 = keeps.single.one_each v.0 w.0 v.2 w.2 e_name (sym (mark_alike s v.0 v.1) ∙ unmarked) in
          ap (λ (k : ℕ). solvable_id k) (over.distinct w.0 s.raw t.raw (v.1 ∙ ap (λ (x : Version). Some x) is) w.1)

      pub provider_kept : IsRuleKeeping same (packages_of p) root chosen
      provider_kept = record {
        single = record {
          listed = λ s h. let v = represents.each s (found chosen s h) in in_candidates (name_of p.ids s) s v.0 v.1 refl;
          one = one_each;
        };
        obeys = record { requirements_met = requirement_met; constraints_kept = constraint_kept };
        allowed = is_free;
        known = is_known;
      }

    -- ---- a set that keeps the provider's rules

    module _ (keeps : IsRuleKeeping same (packages_of p) root chosen) where
      met_for : (parent : Option SolvableId) (need : ConditionalRequirement) (written : List Spec × Option Cond) → kept.is_member same (packages_of p) root chosen parent ≡ true → Contains (rules_for same (packages_of p) root parent).requirements need → IsNeed p.ids need written → lines.condition_holds written.1 set ≡ true → lines.is_met_by_one written.0 set ≡ true
      met_for parent need written hm hc is holding =
          let x = keeps.obeys.requirements_met parent need hm hc (need_holds need written is ∙ holding) in
          let v = represents.each x.0 (found chosen x.0 x.1) in
          member_met written.0 set v.0 v.2 (sym (meets_spec need written x.0 v.0 is v.1) ∙ x.2)

      within_for : (parent : Option SolvableId) (w : VersionSetId) (spec : Spec) → kept.is_member same (packages_of p) root chosen parent ≡ true → Contains (rules_for same (packages_of p) root parent).constraints w → IsSpec p.ids w spec → list_all (λ (x : Version). not (bytes_eq x.name spec.name) || lines.matches spec x) set ≡ true
      within_for parent w spec hm hc is = all_to (λ (x : Version). not (bytes_eq x.name spec.name) || lines.matches spec x) set (λ v c.
          let s = represents.all v c in
          within_to spec v (sym (outside_spec w spec s.0 v is s.2) ∙ keeps.obeys.constraints_kept parent w s.0 hm hc (held chosen s.0 s.1)))

      owner_in : (n : ℕ) (v : Version) → owner_of catalogue n ≡ Some v → texts.binds (owner_of catalogue n) set ≡ true → Contains set v
      owner_in n v is h = member_from v set (rw is at h)

      obeyed : (n : ℕ) (l : Line) → line_at catalogue n ≡ Some l → texts.obeys (owner_of catalogue n) l set ≡ true
      obeyed n Skipped e = refl
      obeyed n (Listed v) e = refl
      obeyed n (Favour v) e = refl
      obeyed n (Many name) e = refl
      obeyed n (Wish v) e = refl
      obeyed n (Needs ss c) e = binding (texts.binds (owner_of catalogue n) set) (lines.condition_holds c set) (lines.is_met_by_one ss set) (λ owned holding.
          let v = owner_there catalogue over.grammatical n ss c e in
          let s = represents.all v.0 (owner_in n v.0 v.1 owned) in
          let own_deps = deps_of_it s.0 v.0 s.2 in
          let written : List Spec × Option Cond = (ss, c) in
          let l = to_lines (listed catalogue) catalogue s.0.raw v.0 s.2 own_deps.0 own_deps.1 n (Needs ss c) e v.1 in
          let need = each_from_right (IsNeed p.ids) (deps_at p s.0).requirements (flat_map need_in (lines_at catalogue own_deps.0)) own_deps.2.requirements written (flat_to need_in (lines_at catalogue own_deps.0) (Needs ss c) written l (first_element written [])) in
          met_for (Some s.0) need.0 written (held chosen s.0 s.1) (req_to (deps_at p s.0) (deps_at p s.0).unknown need.0 (keeps.known s.0 (held chosen s.0 s.1)) need.1) need.2 holding)
      obeyed n (Limits spec) e = binding_by (texts.binds (owner_of catalogue n) set) (list_all (λ (x : Version). not (bytes_eq x.name spec.name) || lines.matches spec x) set) (λ owned.
          let v = owner_there_limit catalogue over.grammatical n spec e in
          let s = represents.all v.0 (owner_in n v.0 v.1 owned) in
          let own_deps = deps_of_it s.0 v.0 s.2 in
          let l = to_lines (listed catalogue) catalogue s.0.raw v.0 s.2 own_deps.0 own_deps.1 n (Limits spec) e v.1 in
          let w = each_from_right (IsSpec p.ids) (deps_at p s.0).constrains (flat_map limit_in (lines_at catalogue own_deps.0)) own_deps.2.constrains spec (flat_to limit_in (lines_at catalogue own_deps.0) (Limits spec) spec l (first_element spec [])) in
          within_for (Some s.0) w.0 spec (held chosen s.0 s.1) (con_to (deps_at p s.0) (deps_at p s.0).unknown w.0 (keeps.known s.0 (held chosen s.0 s.1)) w.1) w.2)
      obeyed n (Unknown reason) e = not_true (texts.binds (owner_of catalogue n) set) (λ owned.
          let v = owner_there_unknown catalogue over.grammatical n reason e in
          let s = represents.all v.0 (owner_in n v.0 v.1 owned) in
          let own_deps = deps_of_it s.0 v.0 s.2 in
          let l = to_lines (listed catalogue) catalogue s.0.raw v.0 s.2 own_deps.0 own_deps.1 n (Unknown reason) e v.1 in
          let lost = unknown_to p.ids (deps_at p s.0) (deps_at p s.0).unknown (flat_map reason_in (lines_at catalogue own_deps.0)) reason own_deps.2.unknown (flat_to reason_in (lines_at catalogue own_deps.0) (Unknown reason) reason l (first_element reason [])) in
          false≢true (sym (keeps.known s.0 (held chosen s.0 s.1)) ∙ lost))
      obeyed n (Lock v) e = all_to (λ (x : Version). not (same_package x v) || x.number == v.number) set (λ w c.
          binding_by (same_package w v) (w.number == v.number) (λ alike.
          let s = represents.all w c in
          let k = lock_listed catalogue over.grammatical n v e in
          let is : w ≡ v = lock_forbids s.0 w v s.2 (contains_from_line catalogue n (Lock v) e) k.0 k.1 ((bytes_eq-Decides w.name v.name).0 alike) (keeps.allowed s.0 (held chosen s.0 s.1)) in
          (Decides-eqb w.number v.number).1 (ap (λ (x : Version). x.number) is)))
      obeyed n (Exclude v reason) e = not_true (lines.is_member v set) (λ member.
          let s = represents.all v (member_from v set member) in
          exclusion_forbids s.0 v s.2 reason (contains_from_line catalogue n (Exclude v reason) e) (keeps.allowed s.0 (held chosen s.0 s.1)))

      asked_obeyed : (n : ℕ) (l : Line) → line_at request n ≡ Some l → texts.obeys None l set ≡ true
      asked_obeyed n Skipped e = refl
      asked_obeyed n (Listed v) e = refl
      asked_obeyed n (Favour v) e = refl
      asked_obeyed n (Many name) e = refl
      asked_obeyed n (Wish v) e = refl
      asked_obeyed n (Needs ss c) e = binding true (lines.condition_holds c set) (lines.is_met_by_one ss set) (λ owned holding.
          let written : List Spec × Option Cond = (ss, c) in
          let need = each_from_right (IsNeed p.ids) root.requirements (flat_map need_in request) needs_are written (flat_to need_in request (Needs ss c) written (contains_from_line request n (Needs ss c) e) (first_element written [])) in
          met_for None need.0 written refl need.1 need.2 holding)
      asked_obeyed n (Limits spec) e =
          let w = each_from_right (IsSpec p.ids) root.constraints (flat_map limit_in request) limits_are spec (flat_to limit_in request (Limits spec) spec (contains_from_line request n (Limits spec) e) (first_element spec [])) in
          within_for None w.0 spec refl w.1 w.2
      asked_obeyed zero (Unknown reason) e = absurd cc
      asked_obeyed (suc n) (Unknown reason) e = absurd (asks n (Unknown reason) e).1.place
      asked_obeyed zero (Lock v) e = absurd cc
      asked_obeyed (suc n) (Lock v) e = absurd (asks n (Lock v) e).1.place
      asked_obeyed zero (Exclude v reason) e = absurd cc
      asked_obeyed (suc n) (Exclude v reason) e = absurd (asks n (Exclude v reason) e).1.place

      each_kept : (owner : Option Version) (o : Option Line) → ((l : Line) → o ≡ Some l → texts.obeys owner l set ≡ true) → option_map_or (λ (l : Line). texts.obeys owner l set) o true ≡ true
      each_kept owner None h = refl
      each_kept owner (Some l) h = h l refl

      pub lines_kept : texts_sets.IsRuleKeeping catalogue request set
      lines_kept = record {
        single = record {
          listed = λ v c. let s = represents.all v c in listed_from catalogue v s.0.raw s.2;
          one_each = λ v w cv cw e_name unmarked.
              let s = represents.all v cv in
              let t = represents.all w cw in
              let is : s.0 ≡ t.0 = keeps.single.one s.0 t.0 (held chosen s.0 s.1) (held chosen t.0 t.1) (one_name (name_of p.ids t.0) v w s.0 s.2 (named t.0 w t.2) e_name) (mark_alike s.0 v s.2 ∙ unmarked) in
              one_some (sym s.2 ∙ ap (λ (x : SolvableId). slice_get (listed catalogue) x.raw) is ∙ t.2);
        };
        catalogue_lines = λ n. each_kept (owner_of catalogue n) (line_at catalogue n) (obeyed n);
        request_lines = λ n. each_kept None (line_at request n) (asked_obeyed n);
      }

-- for every set: the rules of the provider are those of the two texts
pub kept_alike : (p : Provider) (catalogue request : List Line) → IsOver catalogue p → AreRequestLines catalogue request → (root : Rules) → AreEach (IsNeed p.ids) root.requirements (flat_map need_in request) → AreEach (IsSpec p.ids) root.constraints (flat_map limit_in request) → KeepsAlike catalogue request p root
kept_alike p catalogue request over asks root needs_are limits_are same apart chosen set represents = (
  (λ keeps. lines_kept p catalogue over same apart request asks root needs_are limits_are chosen set represents keeps),
  (λ keeps. provider_kept p catalogue over same apart request asks root needs_are limits_are chosen set represents keeps),
)

-- where no wish is excluded, no exemption is used
pub kept_alike_exempt : (p : Provider) (catalogue request : List Line) → IsOver catalogue p → (root : Rules) (wishes : List SolvableId) → KeepsAlike catalogue request p root → KeepsAlikeExempt catalogue request p root wishes
kept_alike_exempt p catalogue request over root wishes alike same apart free chosen set represents =
    let both = alike same apart chosen set represents in (
      (λ exempt. both.0 (record {
        single = exempt.single;
        obeys = exempt.obeys;
        allowed = λ s h. not_false (is_forbidden same (packages_of p) s) (λ forbidden.
            false≢true (sym (free s (in_from p (listed catalogue) over.versions over.once same apart wishes s (exempt.exempt s h forbidden).0)) ∙ forbidden));
        known = exempt.known;
      })),
      (λ keeps. let k = both.1 keeps in record {
        single = k.single;
        obeys = k.obeys;
        exempt = λ s h forbidden. absurd (false≢true (sym (k.allowed s h) ∙ forbidden));
        known = k.known;
      }),
    )

-- ---- more is interned

pub over_stays : (a b : Provider) → Interns a.ids b.ids → b.deps ≡ a.deps → b.marks ≡ a.marks → b.many ≡ a.many → AreSound b.ids → (catalogue : List Line) → IsOver catalogue a → IsOver catalogue b
over_stays a b more deps marks many once catalogue over = record {
  versions = rw more.same (versions_stay a.ids b.ids more.grows a.ids.solvables (listed catalogue) over.versions);
  deps = record {
    as_many = rw deps over.deps.as_many;
    each = rw deps (deps_stay a.ids b.ids more.grows catalogue a.deps over.deps.each);
  };
  marks = subst (λ (ms : _). AreMarksOf b.ids catalogue (listed catalogue) ms) (sym marks) (marks_stay a.ids b.ids more.grows catalogue (listed catalogue) a.marks over.marks);
  many = subst (λ (flags : _). AreMany catalogue flags) (sym many) over.many;
  once = once;
  distinct = over.distinct;
  grammatical = over.grammatical;
}
