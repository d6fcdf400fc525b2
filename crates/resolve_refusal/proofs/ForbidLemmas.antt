-- The line that forbids a version: it exists where a rule forbids the version, and the step that
-- names it is right.
use Rattle.std.proofs.Common.{◌≡◌, ◌==◌, ◌+◌, ◌<◌, ◌⊎◌, inl, inr, ℕ, zero, suc, Bool, true, false, List, [], ◌∷◌, length, Option, Some, None, refl, sym, ap, subst, ◌∙◌, arith, get_or-take, length-take}
use Rattle.std.specs.Prelude.{◌||◌, not, ◌≢◌, unwrap_or, Contains, slice_get}
use Rattle.std.specs.Bool.{Decides}
use Rattle.std.specs.List.{list_any, find, flat_map}
use Rattle.std.specs.Cmp.Lexicographic.{bytes_decides}
use Rattle.std.proofs.lemmas.Bool.{cases_Bool, false≢true, eq-eqb, eqb-true, or_cases}
use Rattle.resolvo_text.specs.Line.{Version, Line, Skipped, Listed, Needs, Limits, Unknown, Lock, Favour, Exclude, Many, Wish}
use Rattle.resolvo_text.specs.Matches.{same_package}
use Rattle.resolvo_catalogue_core.specs.Grammar.{line_at, owner_of, AreCatalogueLines}
use Rattle.resolvo_catalogue_core.specs.Listed.{listed, version_at}
use Rattle.resolvo_catalogue_core.specs.Questions.{is_rule, IsOnly, BelongsTo, LineIs, LocksAnother, Excludes, MarksUnknownOf, Forbids}
use Rattle.resolvo_catalogue_core.specs.declared.rule.VersionNo.{VersionNo}
use Rattle.resolvo_terms.proofs.Places.{at_from_contains}
use Rattle.resolvo_pool_core.specs.RuleKeeping.{is_unknown, is_forbidden, locks_out}
use Rattle.resolvo_pool_core.specs.declared.id.StringId.{StringId}
use Rattle.resolvo_pool_core.specs.Provider as pool
use Rattle.resolvo_sat.specs.RuleClauses.{IsExact, ForbidReason, KeepsOut}
use Rattle.resolvo_sat.proofs.Lists.{contains_none}
use Rattle.resolvo_catalogue.specs.Ids.{SolvableId, IsPackage, IsWord, solvable_id, solvables_of}
use Rattle.resolvo_catalogue.specs.Known.{name_of, word_text}
use Rattle.resolvo_catalogue.specs.Dependencies.{IsReason, VersionDependencies, reason_in, lines_at, no_lines}
use Rattle.resolvo_catalogue.specs.Marked.{IsExclusion, IsMarked}
use Rattle.resolvo_catalogue.specs.Provider.{Provider, packages_of, listing_if_any, exclusions_of, marks_at, deps_at, needs_of}
use Rattle.resolvo_catalogue.specs.Over.{IsOver}
use Rattle.resolvo_catalogue.specs.KeptSets.{DistinguishesIds}
use Rattle.resolvo_catalogue.proofs.Alike.{is_package, in_from, candidate, listed_is}
use Rattle.resolvo_catalogue.proofs.KeptAlike.{deps_of_it, its_version}
use Rattle.resolvo_catalogue.proofs.MarkLemmas.{one_some}
use Rattle.resolvo_catalogue.proofs.PassLemmas.{any_from}
use Rattle.resolvo_catalogue.proofs.Elements.{flat_from, reason_from, from_lines}
use Rattle.resolvo_catalogue.proofs.RulesKept.{found_in, listing_is, locked_by, excluded_by, exclusion_from, exclusion_word}
use Rattle.std.proofs.lemmas.Option.{slice_get-get_or, slice_get_within, get_or_from_slice_get, unwrap_or-slice_get}
use Rattle.resolvo_report.specs.Value as in_report
use Rattle.resolvo_checker.specs.StepClauses as judge
use Rattle.resolve_refusal.specs.declared.named_lines.Text.{Text}
use Rattle.resolve_refusal.specs.Named.{line_in, in_catalogue}
use Rattle.resolve_refusal.specs.Lines.{locks, ForbidsAs, ExcludesAt, IsForbidLine, IsForbidLineOf, IsFree, IsLeast, IsLineOf, MarksUnknownAt, IsLineAt}
use Rattle.resolve_refusal.specs.declared.lines.ForbidLine.{ForbidLine}
use Rattle.resolve_refusal.specs.declared.lines.ForbidLine.TheVariants as forbid_by
use Rattle.resolve_refusal.specs.Refusal.{IsForbiddenAs, IsForbiddenBy, IsLockStep}

-- ---- the rules of the lines

lock_is : (v : Version) (owner : Option Version) (l : Line) → LocksAnother v owner l → (w : Version) × (l ≡ Lock w) × (w.name ≡ v.name) × (w.number ≢ v.number)
lock_is v owner (Lock w) h = (w, refl, h.0, h.1)
lock_is v owner Skipped h = absurd h
lock_is v owner (Listed w) h = absurd h
lock_is v owner (Needs ss c) h = absurd h
lock_is v owner (Limits s) h = absurd h
lock_is v owner (Unknown reason) h = absurd h
lock_is v owner (Favour w) h = absurd h
lock_is v owner (Many name) h = absurd h
lock_is v owner (Exclude w reason) h = absurd h
lock_is v owner (Wish w) h = absurd h

exclude_is : (v : Version) (owner : Option Version) (l : Line) → Excludes v owner l → (reason : List ℕ) × (l ≡ Exclude v reason)
exclude_is v owner (Exclude w reason) h = (reason, ap (λ (x : Version). Exclude x reason) h)
exclude_is v owner Skipped h = absurd h
exclude_is v owner (Listed w) h = absurd h
exclude_is v owner (Needs ss c) h = absurd h
exclude_is v owner (Limits s) h = absurd h
exclude_is v owner (Unknown reason) h = absurd h
exclude_is v owner (Lock w) h = absurd h
exclude_is v owner (Favour w) h = absurd h
exclude_is v owner (Many name) h = absurd h
exclude_is v owner (Wish w) h = absurd h

unknown_is : (v : Version) (owner : Option Version) (l : Line) → MarksUnknownOf v owner l → (reason : List ℕ) × (l ≡ Unknown reason) × (owner ≡ Some v)
unknown_is v owner (Unknown reason) h = (reason, refl, h)
unknown_is v owner Skipped h = absurd h
unknown_is v owner (Listed w) h = absurd h
unknown_is v owner (Needs ss c) h = absurd h
unknown_is v owner (Limits s) h = absurd h
unknown_is v owner (Lock w) h = absurd h
unknown_is v owner (Favour w) h = absurd h
unknown_is v owner (Many name) h = absurd h
unknown_is v owner (Exclude w reason) h = absurd h
unknown_is v owner (Wish w) h = absurd h

-- ---- the step

-- a lock forbids
pub lock_forbids : (catalogue : List Line) (v : Version) (t : in_report.Step) → (line : ℕ) × IsLockStep catalogue v t line → IsForbiddenBy catalogue v t
lock_forbids catalogue v t (line, lock) = (line, inl lock)

-- a version that is forbidden with a word is forbidden
pub word_forbids : (catalogue : List Line) (v : Version) (word : List ℕ) (t : in_report.Step) → IsForbiddenAs catalogue v word t → IsForbiddenBy catalogue v t
word_forbids catalogue v word t (line, inl (is, at), first) = (line, inr (inl (is, (Exclude v word, at, refl))))
word_forbids catalogue v word t (line, inr (is, (at, own)), first) = (line, inr (inr (is, (Unknown word, at, own))))

-- the step that forbids names a line with a rule
pub forbid_rule : (catalogue : List Line) (v : Version) (t : in_report.Step) → IsForbiddenBy catalogue v t → (line : ℕ) × (l : Line) × (line_at catalogue line ≡ Some l) × (is_rule l ≡ true) × ((of : Text) → line_in of t ≡ in_catalogue of line)
forbid_rule catalogue v t (line, inl (is, (l, at, other))) = (let (w, same, name, number) = lock_is v (owner_of catalogue line) l other in (line, l, at, ap is_rule same, λ of. ap (line_in of) is))
forbid_rule catalogue v t (line, inr (inl (is, (l, at, out)))) = (let (reason, same) = exclude_is v (owner_of catalogue line) l out in (line, l, at, ap is_rule same, λ of. ap (line_in of) is))
forbid_rule catalogue v t (line, inr (inr (is, (l, at, unknown)))) = (let (reason, same, own) = unknown_is v (owner_of catalogue line) l unknown in (line, l, at, ap is_rule same, λ of. ap (line_in of) is))

-- a value that is the same for the three steps that forbid a version
pub by_forbid : {X : Type 0} (catalogue : List Line) (v : Version) (t : in_report.Step) (f : in_report.Step → X) (x : X) → ((line : ℕ) → f (in_report.Lock line v) ≡ x) → ((line : ℕ) → f (in_report.Exclude line) ≡ x) → ((line : ℕ) → f (in_report.Unknown line) ≡ x) → IsForbiddenBy catalogue v t → f t ≡ x
by_forbid catalogue v t f x a b c (line, inl (is, other)) = ap f is ∙ a line
by_forbid catalogue v t f x a b c (line, inr (inl (is, out))) = ap f is ∙ b line
by_forbid catalogue v t f x a b c (line, inr (inr (is, unknown))) = ap f is ∙ c line

differs : (m n : ℕ) → (n ≢ m) → not (m == n) ≡ true
differs m n apart = go (m == n) refl
  where
    go : (b : Bool) → (m == n) ≡ b → not b ≡ true
    go false e = refl
    go true e = absurd (apart (sym (eqb-true m n e)))

-- the clause of the step is that the version is not chosen
pub forbid_clause : (catalogue request : List Line) (v : Version) (t : in_report.Step) → judge.is_listed catalogue v ≡ true → IsForbiddenBy catalogue v t → judge.clause_of catalogue request t ≡ Some (judge.not_in v ∷ [])
forbid_clause catalogue request v t here (line, inl (is, (l, at, other))) =
    let (w, same, name, number) = lock_is v (owner_of catalogue line) l other in
    let one_package : same_package v w ≡ true = (bytes_decides v.name w.name).1 (sym name) in
    let differ : not (v.number == w.number) ≡ true = differs v.number w.number number in
    let clause : judge.lock_clause catalogue v (Some (Lock w)) ≡ Some (judge.not_in v ∷ []) = rw (here, one_package, differ) refl in
    ap (judge.clause_of catalogue request) is ∙ (ap (judge.lock_clause catalogue v) (at ∙ ap (λ (x : Line). Some x) same) ∙ clause)
forbid_clause catalogue request v t here (line, inr (inl (is, (l, at, out)))) =
    let (reason, same) = exclude_is v (owner_of catalogue line) l out in
    ap (judge.clause_of catalogue request) is ∙ ap judge.exclude_clause (at ∙ ap (λ (x : Line). Some x) same)
forbid_clause catalogue request v t here (line, inr (inr (is, (l, at, unknown)))) =
    let (reason, same, own) = unknown_is v (owner_of catalogue line) l unknown in
    ap (judge.clause_of catalogue request) is ∙ (ap (judge.unknown_clause (owner_of catalogue line)) (at ∙ ap (λ (x : Line). Some x) same) ∙ ap (λ (o : Option Version). judge.unknown_clause o (Some (Unknown reason))) own)

-- ---- a rule that forbids a version has a line

module _ (catalogue : List Line) (p : Provider) (over : IsOver catalogue p) (same : SolvableId → SolvableId → Bool) (exact : IsExact same) where
  apart : DistinguishesIds same
  apart s t = (exact.one s t, λ e. subst (λ x. same s x ≡ true) e (exact.own s))

  marks_of : (s : SolvableId) (v : Version) → slice_get (listed catalogue) s.raw ≡ Some v → IsMarked p.ids catalogue catalogue v (marks_at p s)
  marks_of s v e = over.marks s.raw v e

  -- a lock or an exclusion is a line
  forbidden_from : (s : SolvableId) (v : Version) → slice_get (listed catalogue) s.raw ≡ Some v → is_forbidden same (packages_of p) s ≡ true
      → ((w : Version) × Contains catalogue (Lock w) × (v.name ≡ w.name) × (v ≡ w → ⊥)) ⊎ ((word : List ℕ) × Contains catalogue (Exclude v word))
  forbidden_from s v e h =
      let n = name_of p.ids s in
      let ss = solvables_of p.ids n.raw in
      let named : IsPackage p.ids n v.name = is_package p (listed catalogue) over.versions over.once same apart s v e in
      let among : Contains ss s = subst (λ (xs : List SolvableId). Contains xs s) (listed_is p ss) (in_from p (listed catalogue) over.versions over.once same apart _ s (candidate p (listed catalogue) over.versions over.once same apart n s v e ∙ eq-eqb n.raw n.raw refl)) in
      let here : (locks_out same (find (λ (t : SolvableId). (marks_at p t).locked) ss) s || list_any (λ (x : SolvableId × StringId). same x.0 s) (exclusions_of p ss)) ≡ true = rw (listing_is p ss s among) at h in
      elim (or_cases (locks_out same (find (λ (t : SolvableId). (marks_at p t).locked) ss) s) (list_any (λ (x : SolvableId × StringId). same x.0 s) (exclusions_of p ss)) here) [
        | inl out ↦
            let l = locked_by same (find (λ (t : SolvableId). (marks_at p t).locked) ss) s out in
            let f = found_in (λ (t : SolvableId). (marks_at p t).locked) ss l.0 l.1 in
            let w = its_version p catalogue over same apart n l.0 f.0 in
            let lock = (marks_of l.0 w.0 w.1).locked.0 f.1 in
            inl (w.0, lock, one_some (sym named ∙ w.2), λ is. l.2 ((apart l.0 s).1 (ap (λ (k : ℕ). solvable_id k) (over.distinct v l.0.raw s.raw (w.1 ∙ ap (λ (x : Version). Some x) (sym is)) e))))
        | inr excluded ↦
            let x = any_from (λ (x : SolvableId × StringId). same x.0 s) (exclusions_of p ss) excluded in
            let f = exclusion_from p ss x.0 x.1 in
            let by = excluded_by f.0 (marks_at p f.0).excluded x.0 f.2 in
            let is : f.0 ≡ s = by.1 ∙ (apart x.0.0 s).0 x.2 in
            inr (exclusion_word p.ids catalogue v (marks_at p s).excluded x.0.1 (marks_of s v e).excluded (subst (λ (t : SolvableId). (marks_at p t).excluded ≡ Some x.0.1) is by.0))
      ]

  lock_line : (v w : Version) → Contains catalogue (Lock w) → v.name ≡ w.name → (v ≡ w → ⊥) → (n : ℕ) × LineIs catalogue n (LocksAnother v)
  lock_line v w has name other =
      let (k, at) = at_from_contains catalogue (Lock w) has in
      (suc k, (Lock w, at, (sym name, λ number. other (λ i. record { name = name i; number = sym number i }))))

  -- a line that locks it out or excludes it is none that leaves it free
  free_forbidden : (s : SolvableId) (v : Version) → slice_get (listed catalogue) s.raw ≡ Some v → is_forbidden same (packages_of p) s ≡ true → IsFree catalogue v → ⊥
  free_forbidden s v e forbidden free = elim (forbidden_from s v e forbidden) [
    | inl (w, has, name, other) ↦ (let (n, lock) = lock_line v w has name other in free n (inl lock))
    | inr (word, has) ↦ (let (k, at) = at_from_contains catalogue (Exclude v word) has in free (suc k) (inr (λ m lock. free m (inl lock), (Exclude v word, at, refl))))
  ]

  -- a version that no line locks out or excludes isn't forbidden
  pub free_unbarred : (s : SolvableId) (v : Version) → slice_get (listed catalogue) s.raw ≡ Some v → IsFree catalogue v → is_forbidden same (packages_of p) s ≡ false
  free_unbarred s v e free = elim (cases_Bool (is_forbidden same (packages_of p) s)) [
    | inl forbidden ↦ absurd (free_forbidden s v e forbidden free)
    | inr none ↦ none
  ]

  -- ---- a forbidden solvable is a version

  -- a solvable with dependencies is a version
  pub known_version : (s : SolvableId) → (deps_at p s ≡ no_lines → ⊥) → (v : Version) × (slice_get (listed catalogue) s.raw ≡ Some v)
  known_version s there = go (slice_get p.deps s.raw) refl
    where
      go : (o : Option VersionDependencies) → slice_get p.deps s.raw ≡ o → (v : Version) × (slice_get (listed catalogue) s.raw ≡ Some v)
      go None e = absurd (there (sym (unwrap_or-slice_get p.deps s.raw no_lines) ∙ ap (λ (x : Option VersionDependencies). unwrap_or x no_lines) e))
      go (Some t) e =
          let below : s.raw < length p.deps = slice_get_within p.deps s.raw t e in
          let long : length p.deps ≡ length (listed catalogue) = over.deps.as_many in
          let none : Version = record { name = []; number = 0 } in
          (_, slice_get-get_or (listed catalogue) s.raw none (omega (arith, below, long)))

  candidates_are : (ss : List SolvableId) → (pool.listing_or_empty (listing_if_any p ss)).candidates ≡ ss
  candidates_are [] = refl
  candidates_are (x ∷ xs) = refl

  -- an excluded solvable is a candidate
  excluded_in : (ss : List SolvableId) (e : SolvableId × StringId) → Contains (pool.listing_or_empty (listing_if_any p ss)).excluded e → Contains ss e.0
  excluded_in [] e h = absurd (contains_none e h)
  excluded_in (x ∷ xs) e h =
      let f = exclusion_from p (x ∷ xs) e h in
      subst (λ (y : SolvableId). Contains (x ∷ xs) y) (excluded_by f.0 (marks_at p f.0).excluded e f.2).1 f.1

  pub forbidden_version : (s : SolvableId) (w : ForbidReason SolvableId) → KeepsOut same (packages_of p) w s → (v : Version) × (slice_get (listed catalogue) s.raw ≡ Some v)
  forbidden_version s w h = by_forbid w h
    where
      ss : List SolvableId
      ss = solvables_of p.ids (name_of p.ids s).raw

      among : Contains ss s → (v : Version) × (slice_get (listed catalogue) s.raw ≡ Some v)
      among has = (let (v, e, packaged) = its_version p catalogue over same apart (name_of p.ids s) s has in (v, e))

      by_forbid : (u : ForbidReason SolvableId) → KeepsOut same (packages_of p) u s → (v : Version) × (slice_get (listed catalogue) s.raw ≡ Some v)
      by_forbid (ForbidReason.lock l) (is, other, c) = among (subst (λ xs. Contains xs s) (candidates_are ss) (in_from p (listed catalogue) over.versions over.once same apart _ s c))
      by_forbid (ForbidReason.word why) (inl c) = among (excluded_in ss (s, why) c)
      by_forbid (ForbidReason.word why) (inr lost) = known_version s (λ e. false≢true (sym (ap (λ (t : VersionDependencies). is_unknown (needs_of t t.unknown)) e) ∙ ap is_unknown lost))

  -- ---- a version that a rule forbids is forbidden by a line

  -- the solvables of its package
  abbrev beside : SolvableId → List SolvableId
  beside s = solvables_of p.ids (name_of p.ids s).raw

  among_them : (s : SolvableId) (v : Version) → slice_get (listed catalogue) s.raw ≡ Some v → Contains (beside s) s
  among_them s v e = subst (λ (xs : List SolvableId). Contains xs s) (listed_is p (beside s)) (in_from p (listed catalogue) over.versions over.once same apart _ s (candidate p (listed catalogue) over.versions over.once same apart (name_of p.ids s) s v e ∙ eq-eqb (name_of p.ids s).raw (name_of p.ids s).raw refl))

  -- a lock is a line that locks another version of the package
  pub lock_there : (l s : SolvableId) (v : Version) → slice_get (listed catalogue) s.raw ≡ Some v → KeepsOut same (packages_of p) (ForbidReason.lock l) s → (n : ℕ) × LineIs catalogue n (LocksAnother v)
  lock_there l s v e (is, other, c) =
      let n = name_of p.ids s in
      let named : IsPackage p.ids n v.name = is_package p (listed catalogue) over.versions over.once same apart s v e in
      let found : find (λ (t : SolvableId). (marks_at p t).locked) (beside s) ≡ Some l = ap (λ (x : pool.Listing SolvableId). x.locked) (sym (listing_is p (beside s) s (among_them s v e))) ∙ is in
      let f = found_in (λ (t : SolvableId). (marks_at p t).locked) (beside s) l found in
      let w = its_version p catalogue over same apart n l f.0 in
      let lock = (marks_of l w.0 w.1).locked.0 f.1 in
      lock_line v w.0 lock (one_some (sym named ∙ w.2)) (λ i. false≢true (sym other ∙ (apart l s).1 (ap (λ (k : ℕ). solvable_id k) (over.distinct v l.raw s.raw (w.1 ∙ ap (λ (x : Version). Some x) (sym i)) e))))

  -- the word of a reason is its text
  word_is : (reason : StringId) (word : List ℕ) → IsWord p.ids reason word → word_text p.ids reason ≡ word
  word_is reason word is = get_or_from_slice_get p.ids.words reason.0 word [] is

  exclusion_line_of : (o : Option StringId) (v : Version) (why : StringId) → IsExclusion p.ids catalogue v o → o ≡ Some why → (word : List ℕ) × Contains catalogue (Exclude v word) × IsWord p.ids why word
  exclusion_line_of None v why h e = absurd cc
  exclusion_line_of (Some w) v why h e = (let same_word : w ≡ why = one_some e in (h.0, h.1, subst (λ (x : StringId). IsWord p.ids x h.0) same_word h.2))

  reason_known : (t : VersionDependencies) (o : Option StringId) (reasons : List (List ℕ)) (why : StringId) → IsReason p.ids o reasons → needs_of t o ≡ pool.unknown why → (word : List ℕ) × Contains reasons word × IsWord p.ids why word
  reason_known t None reasons why h e = absurd cc
  reason_known t (Some w) reasons why h e = (let same_word : w ≡ why = cc in (h.0, h.1, subst (λ (x : StringId). IsWord p.ids x h.0) same_word h.2))

  -- a solvable forbidden with a reason has a line with the reason's word
  pub word_there : (why : StringId) (s : SolvableId) (v : Version) → slice_get (listed catalogue) s.raw ≡ Some v → KeepsOut same (packages_of p) (ForbidReason.word why) s → (n : ℕ) × ForbidsAs catalogue v (word_text p.ids why) n
  word_there why s v e (inl c) =
      let there : Contains (exclusions_of p (beside s)) (s, why) = subst (λ (x : pool.Listing SolvableId). Contains x.excluded (s, why)) (listing_is p (beside s) s (among_them s v e)) c in
      let f = exclusion_from p (beside s) (s, why) there in
      let by = excluded_by f.0 (marks_at p f.0).excluded (s, why) f.2 in
      let of : (marks_at p s).excluded ≡ Some why = subst (λ (t : SolvableId). (marks_at p t).excluded ≡ Some why) by.1 by.0 in
      let (word, has, is) = exclusion_line_of (marks_at p s).excluded v why (marks_of s v e).excluded of in
      let (k, at) = at_from_contains catalogue (Exclude v word) has in
      (suc k, inl (subst (λ (x : List ℕ). line_at catalogue (suc k) ≡ Some (Exclude v x)) (sym (word_is why word is)) at))
  word_there why s v e (inr lost) =
      let is_known = deps_of_it p catalogue over same apart s v e in
      let (word, has, is) = reason_known (deps_at p s) (deps_at p s).unknown (flat_map reason_in (lines_at catalogue is_known.0)) why is_known.2.unknown lost in
      let f = flat_from reason_in (lines_at catalogue is_known.0) word has in
      let source : f.0 ≡ Unknown word = reason_from f.0 word f.2 in
      let at = from_lines (listed catalogue) catalogue s.raw v e is_known.0 is_known.1 (Unknown word) (subst (λ (l : Line). Contains (lines_at catalogue is_known.0) l) source f.1) in
      (at.0, inr (subst (λ (x : List ℕ). line_at catalogue at.0 ≡ Some (Unknown x)) (sym (word_is why word is)) at.1, at.2))

-- ---- the line that is found

-- the one line that forbids the version does
line_forbids : (catalogue : List Line) (k : ℕ) (v : Version) (line : ℕ) → slice_get (listed catalogue) k ≡ Some v → IsOnly (Some line) (λ n. (w : Version) × (version_at catalogue k ≡ Some w) × Forbids catalogue w n) → Forbids catalogue v line
line_forbids catalogue k v line at only = (let (w, there, forbids) = (only line).0 refl in let same : w ≡ v = one_some (sym there ∙ at) in subst (λ (x : Version). Forbids catalogue x line) same forbids)

-- a line that forbids and locks is one that locks another version
pub lock_found : (catalogue : List Line) (k : ℕ) (v : Version) (line : ℕ) (lock : Bool) → slice_get (listed catalogue) k ≡ Some v → IsOnly (Some line) (λ n. (w : Version) × (version_at catalogue k ≡ Some w) × Forbids catalogue w n)
    → ((l : Line) → line_at catalogue line ≡ Some l → lock ≡ locks l) → lock ≡ true → LineIs catalogue line (LocksAnother v)
lock_found catalogue k v line lock at only is_known locked = elim (line_forbids catalogue k v line at only) [
  | inl h ↦ h
  | inr (none, (l, there, out)) ↦ (let (reason, same) = exclude_is v (owner_of catalogue line) l out in absurd (false≢true (sym (ap locks same) ∙ (sym (is_known l there) ∙ locked))))
]

-- one that doesn't lock excludes the version, and no other one does
pub exclusion_found : (catalogue : List Line) (k : ℕ) (v : Version) (line : ℕ) (lock : Bool) → slice_get (listed catalogue) k ≡ Some v → IsOnly (Some line) (λ n. (w : Version) × (version_at catalogue k ≡ Some w) × Forbids catalogue w n)
    → ((l : Line) → line_at catalogue line ≡ Some l → lock ≡ locks l) → lock ≡ false → IsForbidLine catalogue v (Some (forbid_by.Exclude line))
exclusion_found catalogue k v line lock at only is_known free = elim (line_forbids catalogue k v line at only) [
  | inl (l, there, other) ↦ (let (w, same, name, number) = lock_is v (owner_of catalogue line) l other in absurd (false≢true (sym free ∙ (is_known l there ∙ ap locks same))))
  | inr (none, out) ↦ (none, out, λ m excludes. one_some (sym ((only m).1 (v, at, inr (none, excludes)))))
]

-- nothing forbids where no such line is
pub none_found : (catalogue : List Line) (k : ℕ) (v : Version) → slice_get (listed catalogue) k ≡ Some v → IsOnly None (λ n. (w : Version) × (version_at catalogue k ≡ Some w) × Forbids catalogue w n) → IsFree catalogue v
none_found catalogue k v at only m forbids = (let e : None ≡ Some m = (only m).1 (v, at, forbids) in absurd cc)

-- the version that a line forbids is listed
pub forbidden_listed : (catalogue : List Line) (k line : ℕ) → IsOnly (Some line) (λ n. (w : Version) × (version_at catalogue k ≡ Some w) × Forbids catalogue w n) → (v : Version) × (slice_get (listed catalogue) k ≡ Some v)
forbidden_listed catalogue k line only = (let (w, there, forbids) = (only line).0 refl in (w, there))

-- a line without a rule locks nothing
pub no_lock : (l : Line) → is_rule l ≡ false → false ≡ locks l
no_lock (Lock v) e = sym e
no_lock Skipped e = refl
no_lock (Listed w) e = refl
no_lock (Needs ss c) e = refl
no_lock (Limits s) e = refl
no_lock (Unknown reason) e = refl
no_lock (Favour w) e = refl
no_lock (Many name) e = refl
no_lock (Exclude w reason) e = refl
no_lock (Wish w) e = refl

-- ---- the line of a word

-- where the version isn't forbidden before a search, no line excludes it
pub free_exclusions : (catalogue : List Line) (v : Version) (word : List ℕ) (m : ℕ) → IsFree catalogue v → ExcludesAt catalogue v word m → ⊥
free_exclusions catalogue v word m free at = free m (inr (λ k lock. free k (inl lock), (Exclude v word, at, refl)))

-- a property of the line that forbids the version of a number, for this version
its_line : (catalogue : List Line) (number : ℕ) (v : Version) (line : ForbidLine) → slice_get (listed catalogue) number ≡ Some v → IsForbidLineOf catalogue number (Some line) → IsForbidLine catalogue v (Some line)
its_line catalogue number v line at (u, there, forbids) = subst (λ (x : Version). IsForbidLine catalogue x (Some line)) (one_some (sym there ∙ at)) forbids

-- the line of a lock locks another version
pub lock_of_line : (catalogue : List Line) (number n : ℕ) (v : Version) → slice_get (listed catalogue) number ≡ Some v → IsForbidLineOf catalogue number (Some (forbid_by.Lock n)) → LineIs catalogue n (LocksAnother v)
lock_of_line catalogue number n v at forbidden = its_line catalogue number v (forbid_by.Lock n) at forbidden

-- where a line excludes the version before a search, no line locks another one
pub no_lock_of_line : (catalogue : List Line) (number n : ℕ) (v : Version) → slice_get (listed catalogue) number ≡ Some v → IsForbidLineOf catalogue number (Some (forbid_by.Exclude n)) → (m : ℕ) → LineIs catalogue m (LocksAnother v) → ⊥
no_lock_of_line catalogue number n v at forbidden = (its_line catalogue number v (forbid_by.Exclude n) at forbidden).0

-- the one line that excludes a version is the first one with its word
pub one_exclusion : (catalogue : List Line) (number : ℕ) (v : Version) (word : List ℕ) (line : ℕ) (has : Bool) → slice_get (listed catalogue) number ≡ Some v → IsForbidLineOf catalogue number (Some (forbid_by.Exclude line)) → Decides has (ExcludesAt catalogue v word line) → has ≡ true → IsLeast (Some line) (ExcludesAt catalogue v word)
one_exclusion catalogue number v word line has at forbidden is_known e =
    let (none, out, alone) = its_line catalogue number v (forbid_by.Exclude line) at forbidden in
    (is_known.0 e, λ m below excludes_it. (let same_line : m ≡ line = alone m (Exclude v word, excludes_it, refl) in omega (arith, below, same_line)))

-- with another word there is none
pub no_exclusion : (catalogue : List Line) (number : ℕ) (v : Version) (word : List ℕ) (line : ℕ) (has : Bool) → slice_get (listed catalogue) number ≡ Some v → IsForbidLineOf catalogue number (Some (forbid_by.Exclude line)) → Decides has (ExcludesAt catalogue v word line) → has ≡ false → IsLeast None (ExcludesAt catalogue v word)
no_exclusion catalogue number v word line has at forbidden is_known e m excludes_it =
    let (none, out, alone) = its_line catalogue number v (forbid_by.Exclude line) at forbidden in
    false≢true (sym e ∙ is_known.1 (subst (ExcludesAt catalogue v word) (alone m (Exclude v word, excludes_it, refl)) excludes_it))

-- an exclusion is after so many lines
pub excluded_behind : (catalogue : List Line) (v : Version) (word : List ℕ) (m : ℕ) → ExcludesAt catalogue v word m → (k : ℕ) × (m ≡ k + 1) × (k < length catalogue)
excluded_behind catalogue v word zero excludes_it = absurd cc
excluded_behind catalogue v word (suc k) excludes_it = (k, omega arith, slice_get_within catalogue k (Exclude v word) excludes_it)

-- a version is excluded once
pub excluded_once : (catalogue : List Line) → AreCatalogueLines catalogue → (v : Version) (word : List ℕ) (m n : ℕ) → ExcludesAt catalogue v word m → ExcludesAt catalogue v word n → m < n → ⊥
excluded_once catalogue grammatical v word zero n first second before = absurd cc
excluded_once catalogue grammatical v word (suc i) zero first second before = absurd cc
excluded_once catalogue grammatical v word (suc i) (suc j) first second before =
    let lt : i < j = omega (arith, before) in
    let lt_i : i < length catalogue = slice_get_within catalogue i (Exclude v word) first in
    let lt_j : j < length catalogue = slice_get_within catalogue j (Exclude v word) second in
    (grammatical j (Exclude v word) second).1.place.1 word (i, simp length-take (omega arith), get_or-take j catalogue i (Exclude v word) lt ∙ get_or_from_slice_get catalogue i (Exclude v word) (Exclude v word) first)

-- a line of the version marks its needs as unknown with this word, and none before it does
pub marks_least : (catalogue request : List Line) (version : VersionNo) (v : Version) (word : List ℕ) (found : Option ℕ) → slice_get (listed catalogue) version.0 ≡ Some v → IsLeast found (λ n. IsLineOf catalogue request (Some version) n × IsLineAt catalogue (Unknown word) n) → IsLeast found (MarksUnknownAt catalogue v word)
marks_least catalogue request version v word found there least = go found least
  where
    of_it : (n : ℕ) → MarksUnknownAt catalogue v word n → IsLineOf catalogue request (Some version) n × IsLineAt catalogue (Unknown word) n
    of_it n (at, own) = ((v, there, (Unknown word, at, own)), at)

    from_it : (n : ℕ) → IsLineOf catalogue request (Some version) n × IsLineAt catalogue (Unknown word) n → MarksUnknownAt catalogue v word n
    from_it n ((w, of, (l, is_line, belongs)), at) =
        let same_line : l ≡ Unknown word = one_some (sym is_line ∙ at) in
        let own : owner_of catalogue n ≡ Some w = subst (λ (x : Line). BelongsTo w (owner_of catalogue n) x) same_line belongs in
        (at, own ∙ ap (λ (x : Version). Some x) (one_some (sym of ∙ there)))

    go : (o : Option ℕ) → IsLeast o (λ n. IsLineOf catalogue request (Some version) n × IsLineAt catalogue (Unknown word) n) → IsLeast o (MarksUnknownAt catalogue v word)
    go None none = λ n marks. none n (of_it n marks)
    go (Some n) (is, first) = (from_it n is, λ m below marks. first m below (of_it m marks))
