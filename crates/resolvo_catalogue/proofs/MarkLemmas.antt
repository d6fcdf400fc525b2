-- The marks of versions, line by line.
use Rattle.std.proofs.Common.{◌≡◌, inl, inr, ℕ, zero, suc, ◌<◌, ◌≤◌, ◌==◌, Bool, true, false, List, [], ◌∷◌, ◌++◌, ◌+◌, take, get_or, length, Option, Some, None, refl, sym, ap, subst, ◌∙◌, add-one, arith}
use Rattle.std.specs.Prelude.{Contains, slice_get, slice_index_or, option_to_list, map}
use Rattle.std.specs.List.{slice_set, flat_map}
use Rattle.std.specs.Option.{option_map}
use Rattle.std.proofs.lemmas.Bool.{cases_Bool, false≢true}
use Rattle.std.proofs.lemmas.Bool.Decides.{Decides-eqb}
use Rattle.std.proofs.lemmas.Option.{slice_get_within, slice_get-get_or, slice_get-map, get_or_from_slice_get}
use Rattle.std.proofs.lemmas.List.{append-nil, take_more, length-take}
use Rattle.resolvo_catalogue.proofs.DependencyLemmas.{last_piece}
use Rattle.resolvo_catalogue_core.specs.declared.rule.VersionNo.{VersionNo}
use Rattle.resolvo_catalogue_core.specs.Questions.{is_rule, AreAll, LineIs, IsFavour, FavoursAt}
use Rattle.std.proofs.lemmas.List.Elements.{Contains-append_left, Contains-push, Contains-push_cases}
use Rattle.resolvo_text.specs.Line.{Version, Spec, Cond, Line, Needs, Limits, Unknown, Lock, Favour, Exclude}
use Rattle.resolvo_catalogue_core.specs.Sets.{is_many}
use Rattle.resolvo_catalogue_core.specs.Listed.{listed, AreDistinct}
use Rattle.resolvo_pool_core.specs.declared.id.StringId.{StringId}
use Rattle.resolvo_catalogue.specs.Ids.{Ids, IsWord, Grows}
use Rattle.resolvo_catalogue.specs.Marked.{IsExclusion, IsMarked, AreMarked, AreMarksOf, AreMany, HaveNoMarks, no_marks}
use Rattle.resolvo_catalogue.specs.declared.candidate_flags.CandidateFlags.{CandidateFlags}
use Rattle.resolvo_terms.proofs.Places.{get_new, set_at, set_others, set_length, no_element, first_element, later_element, element_cases, at_from_contains}
use Rattle.std.proofs.lemmas.List.Concat.{flat_map-cons}
use Rattle.resolvo_catalogue_core.specs.Grammar.{line_at}
use Rattle.resolvo_catalogue_core.proofs.PlaceLemmas.{contains_from_line}
use Rattle.resolvo_catalogue_core.proofs.Pushed.{at_kept}

pub one_some : {X : Type 0} {a b : X} → Some a ≡ Some b → a ≡ b
one_some e = cc

-- ---- one version

exclusion_stays : (a b : Ids) → Grows a b → (lines : List Line) (v : Version) (o : Option StringId) → IsExclusion a lines v o → IsExclusion b lines v o
exclusion_stays a b grows lines v None h = h
exclusion_stays a b grows lines v (Some w) h = (h.0, h.1, grows.words _ _ h.2)

exclusion_same : (ids : Ids) (lines : List Line) (line : Line) (v : Version) → ((word : List ℕ) → line ≡ Exclude v word → ⊥) → (o : Option StringId) → IsExclusion ids lines v o → IsExclusion ids (lines ++ line ∷ []) v o
exclusion_same ids lines line v other None h = λ word has. elim (Contains-push_cases lines line (Exclude v word) has) [ inl old ↦ h word old | inr e ↦ other word e ]
exclusion_same ids lines line v other (Some w) h = (h.0, Contains-append_left lines (line ∷ []) _ h.1, h.2)

-- the line that excludes a version is there, one more below it or not
line_stays : (lines : List Line) (line : Line) (v : Version) (n : ℕ) → (word : List ℕ) × (line_at lines n ≡ Some (Exclude v word)) → (word : List ℕ) × (line_at (lines ++ line ∷ []) n ≡ Some (Exclude v word))
line_stays lines line v n (word, at) = (word, at_kept lines line n (Exclude v word) at)

last_line : (lines : List Line) (line : Line) (n : ℕ) → n ≡ length lines + 1 → line_at (lines ++ line ∷ []) n ≡ Some line
last_line lines line n e = rw (e, add-one) (get_new lines line)

module _ (ids : Ids) (lines favours : List Line) (v : Version) (m : CandidateFlags) (h : IsMarked ids lines favours v m) where
  -- a line that names another version, or none
  pub mark_same : (line : Line) → (line ≡ Lock v → ⊥) → ((word : List ℕ) → line ≡ Exclude v word → ⊥) → IsMarked ids (lines ++ line ∷ []) favours v m
  mark_same line not_lock not_exclude = record {
    locked = (λ e. Contains-append_left lines (line ∷ []) _ (h.locked.0 e), λ has. elim (Contains-push_cases lines line (Lock v) has) [ inl old ↦ h.locked.1 old | inr e ↦ absurd (not_lock e) ]);
    favored = h.favored;
    excluded = exclusion_same ids lines line v not_exclude m.excluded h.excluded;
    line = λ w e. line_stays lines line v m.line (h.line w e);
  }

  mark_locked : IsMarked ids (lines ++ Lock v ∷ []) favours v (record m { locked = true })
  mark_locked = record {
    locked = (λ e. Contains-push lines (Lock v), λ has. refl);
    favored = h.favored;
    excluded = exclusion_same ids lines (Lock v) v (λ word e. cc) m.excluded h.excluded;
    line = λ w e. line_stays lines (Lock v) v m.line (h.line w e);
  }

  mark_excluded : (word : List ℕ) (w : StringId) (n : ℕ) → n ≡ length lines + 1 → IsWord ids w word → IsMarked ids (lines ++ Exclude v word ∷ []) favours v (record m { excluded = Some w; line = n })
  mark_excluded word w n next is = record {
    locked = (λ e. Contains-append_left lines (Exclude v word ∷ []) _ (h.locked.0 e), λ has. elim (Contains-push_cases lines (Exclude v word) (Lock v) has) [ inl old ↦ h.locked.1 old | inr e ↦ absurd cc ]);
    favored = h.favored;
    excluded = (word, Contains-push lines (Exclude v word), is);
    line = λ u e. (word, last_line lines (Exclude v word) n next);
  }

-- ---- all versions

pub marks_stay : (a b : Ids) → Grows a b → (lines : List Line) (versions : List Version) (marks : List CandidateFlags) → AreMarksOf a lines versions marks → AreMarksOf b lines versions marks
marks_stay a b grows lines versions marks h = λ k v at.
    let m = slice_index_or marks k no_marks in
    let own = h k v at in
    record { locked = own.locked; favored = own.favored; excluded = exclusion_stays a b grows lines v m.excluded own.excluded; line = own.line }

module _ (ids : Ids) (lines favours : List Line) (versions : List Version) (marks : List CandidateFlags) (distinct : AreDistinct versions) (h : AreMarked ids lines favours versions marks) where
  pub marked_other : (line : Line) → ((v : Version) → line ≡ Lock v → ⊥) → ((v : Version) (word : List ℕ) → line ≡ Exclude v word → ⊥) → AreMarked ids (lines ++ line ∷ []) favours versions marks
  marked_other line not_lock not_exclude = record {
    as_many = h.as_many;
    each = λ k m v e f. mark_same ids lines favours v m (h.each k m v e f) line (not_lock v) (not_exclude v);
  }

  -- one version is marked by a line that names no other
  one_marked : (line : Line) (k : ℕ) (m x : CandidateFlags) (v : Version) → slice_get marks k ≡ Some m → slice_get versions k ≡ Some v → IsMarked ids (lines ++ line ∷ []) favours v x
      → ((w : Version) → line ≡ Lock w → v ≡ w) → ((w : Version) (word : List ℕ) → line ≡ Exclude w word → v ≡ w) → AreMarked ids (lines ++ line ∷ []) favours versions (slice_set marks k x)
  one_marked line k m x v at there own locks excludes = record {
    as_many = set_length marks k x ∙ h.as_many;
    each = λ j n w e f. elim (cases_Bool (k == j)) [
      | inl here ↦
          let same : k ≡ j = (Decides-eqb k j).0 here in
          let is_x : x ≡ n = one_some (sym (set_at marks k m x at) ∙ subst (λ (i : ℕ). slice_get (slice_set marks k x) i ≡ Some n) (sym same) e) in
          let is_v : v ≡ w = one_some (sym there ∙ subst (λ (i : ℕ). slice_get versions i ≡ Some w) (sym same) f) in
          subst (λ (y : CandidateFlags). IsMarked ids (lines ++ line ∷ []) favours w y) is_x (subst (λ (u : Version). IsMarked ids (lines ++ line ∷ []) favours u x) is_v own)
      | inr apart ↦
          let other : k ≡ j → ⊥ = λ same. false≢true (sym apart ∙ (Decides-eqb k j).1 same) in
          let not_v : v ≡ w → ⊥ = λ is. other (distinct v k j there (f ∙ ap (λ (u : Version). Some u) (sym is))) in
          mark_same ids lines favours w n (h.each j n w (sym (set_others marks k x j other) ∙ e) f) line (λ is. not_v (locks w is)) (λ word is. not_v (excludes w word is))
    ];
  }

  pub marked_lock : (line : Line) (k : ℕ) (m : CandidateFlags) (v : Version) → line ≡ Lock v → slice_get marks k ≡ Some m → slice_get versions k ≡ Some v → AreMarked ids (lines ++ line ∷ []) favours versions (slice_set marks k (record m { locked = true }))
  marked_lock line k m v line_is at there = rw line_is (one_marked (Lock v) k m _ v at there (mark_locked ids lines favours v m (h.each k m v at there)) (λ w e. cc) (λ w word e. absurd cc))

  pub marked_exclude : (line : Line) (k : ℕ) (m : CandidateFlags) (v : Version) (word : List ℕ) (w : StringId) (n : ℕ) → n ≡ length lines + 1 → line ≡ Exclude v word → IsWord ids w word → slice_get marks k ≡ Some m → slice_get versions k ≡ Some v
      → AreMarked ids (lines ++ line ∷ []) favours versions (slice_set marks k (record m { excluded = Some w; line = n }))
  marked_exclude line k m v word w n next line_is is at there = rw line_is (one_marked (Exclude v word) k m _ v at there (mark_excluded ids lines favours v m (h.each k m v at there) word w n next is) (λ u e. absurd cc) (λ u other e. cc))

  -- a listed version has its marks
  pub not_past : {P : Type 0} (k : ℕ) (v : Version) → slice_get versions k ≡ Some v → length marks ≤ k → P
  not_past k v at past = absurd (omega (arith, slice_get_within versions k v at, h.as_many, past))

-- ---- favours

-- the lines that favour these versions
abbrev pub favoured_by : List Version → ℕ × VersionNo → List Line
favoured_by versions f = map Favour (option_to_list (slice_get versions f.1.0))

abbrev pub favour_lines : List Version → List (ℕ × VersionNo) → List Line
favour_lines versions fs = flat_map (favoured_by versions) fs

mark_other_favour : (ids : Ids) (lines favours : List Line) (v w : Version) (m : CandidateFlags) → (w ≡ v → ⊥) → IsMarked ids lines favours v m → IsMarked ids lines (favours ++ Favour w ∷ []) v m
mark_other_favour ids lines favours v w m other h = record {
  locked = h.locked;
  favored = (λ e. Contains-append_left favours (Favour w ∷ []) _ (h.favored.0 e), λ has. elim (Contains-push_cases favours (Favour w) (Favour v) has) [ inl old ↦ h.favored.1 old | inr e ↦ absurd (other cc) ]);
  excluded = h.excluded;
  line = h.line;
}

pub marked_favour : (ids : Ids) (lines favours : List Line) (versions : List Version) (marks : List CandidateFlags) → AreDistinct versions → AreMarked ids lines favours versions marks → (k : ℕ) (m : CandidateFlags) (v : Version) → slice_get marks k ≡ Some m → slice_get versions k ≡ Some v
    → AreMarked ids lines (favours ++ Favour v ∷ []) versions (slice_set marks k (record m { favored = true }))
marked_favour ids lines favours versions marks distinct h k m v at there =
    let x : CandidateFlags = record m { favored = true } in
    let own : IsMarked ids lines (favours ++ Favour v ∷ []) v x = (let old = h.each k m v at there in record { locked = old.locked; favored = (λ e. Contains-push favours (Favour v), λ has. refl); excluded = old.excluded; line = old.line }) in
    record {
      as_many = set_length marks k x ∙ h.as_many;
      each = λ j n w e f. elim (cases_Bool (k == j)) [
        | inl here ↦
            let same : k ≡ j = (Decides-eqb k j).0 here in
            let is_x : x ≡ n = one_some (sym (set_at marks k m x at) ∙ subst (λ (i : ℕ). slice_get (slice_set marks k x) i ≡ Some n) (sym same) e) in
            let is_v : v ≡ w = one_some (sym there ∙ subst (λ (i : ℕ). slice_get versions i ≡ Some w) (sym same) f) in
            subst (λ (y : CandidateFlags). IsMarked ids lines (favours ++ Favour v ∷ []) w y) is_x (subst (λ (u : Version). IsMarked ids lines (favours ++ Favour v ∷ []) u x) is_v own)
        | inr apart ↦
            let other : k ≡ j → ⊥ = λ same. false≢true (sym apart ∙ (Decides-eqb k j).1 same) in
            mark_other_favour ids lines favours w v n (λ is. other (distinct v k j there (f ∙ ap (λ (u : Version). Some u) (sym is)))) (h.each j n w (sym (set_others marks k x j other) ∙ e) f)
      ];
    }

-- a line that favours a version of the list is among all lines
from_favours : (lines : List Line) (versions : List Version) (fs : List (ℕ × VersionNo)) → ((i : ℕ) (f : ℕ × VersionNo) → slice_get fs i ≡ Some f → FavoursAt versions lines f) → (l : Line) → Contains (favour_lines versions fs) l → Contains lines l
from_favours lines versions [] are l h = absurd (no_element l h)
from_favours lines versions (f ∷ fs) are l h =
    let own = are 0 f refl in
    let pieces : favour_lines versions (f ∷ fs) ≡ Favour own.0 ∷ favour_lines versions fs = flat_map-cons (favoured_by versions) f fs ∙ ap (λ (o : Option Version). map Favour (option_to_list o) ++ favour_lines versions fs) own.1 in
    elim (element_cases (Favour own.0) (favour_lines versions fs) l (subst (λ (ls : List Line). Contains ls l) pieces h)) [
      | inl same ↦ subst (λ (x : Line). Contains lines x) same (contains_from_line lines f.0 (Favour own.0) own.2)
      | inr more ↦ from_favours lines versions fs (λ i g e. are (suc i) g e) l more
    ]

-- a line that favours is in the list
in_favours : (lines : List Line) (versions : List Version) (fs : List (ℕ × VersionNo)) (n : ℕ) (v : Version) → ((i : ℕ) (f : ℕ × VersionNo) → slice_get fs i ≡ Some f → FavoursAt versions lines f) → Contains (map (λ (f : ℕ × VersionNo). f.0) fs) n → line_at lines n ≡ Some (Favour v)
    → Contains (favour_lines versions fs) (Favour v)
in_favours lines versions [] n v are has at = absurd (no_element n has)
in_favours lines versions (f ∷ fs) n v are has at =
    let own = are 0 f refl in
    let pieces : favour_lines versions (f ∷ fs) ≡ Favour own.0 ∷ favour_lines versions fs = flat_map-cons (favoured_by versions) f fs ∙ ap (λ (o : Option Version). map Favour (option_to_list o) ++ favour_lines versions fs) own.1 in
    elim (element_cases f.0 (map (λ (g : ℕ × VersionNo). g.0) fs) n has) [
      | inl same ↦
          let is : Favour own.0 ≡ Favour v = one_some (sym own.2 ∙ ap (λ (k : ℕ). line_at lines k) same ∙ at) in
          rw pieces (subst (λ (x : Line). Contains (Favour own.0 ∷ favour_lines versions fs) x) is (first_element (Favour own.0) (favour_lines versions fs)))
      | inr more ↦ rw pieces (later_element (Favour own.0) (favour_lines versions fs) (Favour v) (in_favours lines versions fs n v (λ i g e. are (suc i) g e) more at))
    ]

-- the lines that favour are those among all lines
pub all_favours : (ids : Ids) (lines : List Line) (versions : List Version) (marks : List CandidateFlags) (fs : List (ℕ × VersionNo)) → AreAll (map (λ f. f.0) fs) (λ n. LineIs lines n IsFavour) → ((i : ℕ) (f : ℕ × VersionNo) → slice_get fs i ≡ Some f → FavoursAt versions lines f)
    → AreMarked ids lines (favour_lines versions fs) versions marks → AreMarked ids lines lines versions marks
all_favours ids lines versions marks fs all are h = record {
  as_many = h.as_many;
  each = λ k m v e f. let own = h.each k m v e f in record {
    locked = own.locked;
    favored = (
      λ is. from_favours lines versions fs are (Favour v) (own.favored.0 is),
      λ has. let at = at_from_contains lines (Favour v) has in own.favored.1 (in_favours lines versions fs (suc at.0) v are ((all.all (suc at.0)).1 (Favour v, at.1, tt)) at.1),
    );
    excluded = own.excluded;
    line = own.line;
  };
}

pub marks_by_number : (ids : Ids) (lines : List Line) (versions : List Version) (marks : List CandidateFlags) → AreMarked ids lines lines versions marks → AreMarksOf ids lines versions marks
marks_by_number ids lines versions marks h = λ k v at. h.each k (slice_index_or marks k no_marks) v (slice_get-get_or marks k no_marks (rw h.as_many (slice_get_within versions k v at))) at

-- ---- no marks

pub no_favours : (lines : List Line) (fs : List (ℕ × VersionNo)) (v : Version) → AreAll (map (λ f. f.0) fs) (λ n. LineIs lines n IsFavour) → length fs ≡ 0 → Contains lines (Favour v) → ⊥
no_favours lines [] v all none has = let at = at_from_contains lines (Favour v) has in no_element (suc at.0) ((all.all (suc at.0)).1 (Favour v, at.1, tt))
no_favours lines (f ∷ fs) v all none has = omega (arith, none)

pub no_lines : (lines : List Line) (versions : List Version) → length lines ≡ 0 → HaveNoMarks lines versions
no_lines [] versions none = λ k v at. (λ has. omega (arith, has.1), λ word has. omega (arith, has.1))
no_lines (l ∷ ls) versions none = omega (arith, none)

pub none_marked : (ids : Ids) (lines : List Line) (versions : List Version) (marks : List CandidateFlags) → HaveNoMarks lines versions → ((v : Version) → Contains lines (Favour v) → ⊥) → marks ≡ [] → AreMarksOf ids lines versions marks
none_marked ids lines versions marks none favours is = subst (λ (ms : List CandidateFlags). AreMarksOf ids lines versions ms) (sym is) each
  where
    each : AreMarksOf ids lines versions []
    each k v at = record {
      locked = (λ e. absurd (false≢true e), λ has. absurd ((none k v at).0 has));
      favored = (λ e. absurd (false≢true e), λ has. absurd (favours v has));
      excluded = (none k v at).1;
      line = λ w e. absurd cc;
    }

pub many_by_number : (lines : List Line) (flags : List Bool) → flags ≡ map (λ v. is_many lines v.name) (listed lines) → AreMany lines flags
many_by_number lines flags is k v at = get_or_from_slice_get flags k (is_many lines v.name) false (ap (λ (xs : List Bool). slice_get xs k) is ∙ slice_get-map (λ (w : Version). is_many lines w.name) (listed lines) k ∙ ap (option_map (λ (w : Version). is_many lines w.name)) at)

pub none_many : (lines : List Line) (flags : List Bool) → ((name : List ℕ) → is_many lines name ≡ false) → flags ≡ [] → AreMany lines flags
none_many lines flags none is k v at = ap (λ (xs : List Bool). slice_index_or xs k false) is ∙ sym (none v.name)

-- the number of the line below some
pub next_number : (n : ℕ) (lines : List Line) → n ≤ length lines → n + 1 ≡ length (take n lines) + 1
next_number n lines within = omega (arith, length-take n lines)

-- the lines that favour, one more
pub favours_next : (versions : List Version) (fs : List (ℕ × VersionNo)) (i : ℕ) (d : ℕ × VersionNo) (v : Version) → i < length fs → slice_get versions (get_or fs i d).1.0 ≡ Some v
    → favour_lines versions (take (i + 1) fs) ≡ favour_lines versions (take i fs) ++ Favour v ∷ []
favours_next versions fs i d v within at =
    ap (λ (gs : List (ℕ × VersionNo)). favour_lines versions gs) (take_more fs i d within)
    ∙ last_piece (favoured_by versions) (take i fs) (get_or fs i d)
    ∙ ap (λ (o : Option Version). favour_lines versions (take i fs) ++ map Favour (option_to_list o)) at

-- a line that names no version to lock or exclude
pub names_none_need : (line : Line) (ss : List Spec) (c : Option Cond) → line ≡ Needs ss c → ((v : Version) → line ≡ Lock v → ⊥) × ((v : Version) (word : List ℕ) → line ≡ Exclude v word → ⊥)
names_none_need line ss c e = rw e (λ v f. cc, λ v word f. cc)

pub names_none_limit : (line : Line) (s : Spec) → line ≡ Limits s → ((v : Version) → line ≡ Lock v → ⊥) × ((v : Version) (word : List ℕ) → line ≡ Exclude v word → ⊥)
names_none_limit line s e = rw e (λ v f. cc, λ v word f. cc)

pub names_none_unknown : (line : Line) (reason : List ℕ) → line ≡ Unknown reason → ((v : Version) → line ≡ Lock v → ⊥) × ((v : Version) (word : List ℕ) → line ≡ Exclude v word → ⊥)
names_none_unknown line reason e = rw e (λ v f. cc, λ v word f. cc)

-- a line without a rule marks no version
names_none : (line : Line) → is_rule line ≡ false → ((v : Version) → line ≡ Lock v → ⊥) × ((v : Version) (word : List ℕ) → line ≡ Exclude v word → ⊥)
names_none line e = (λ v is. absurd (false≢true (sym e ∙ ap is_rule is)), λ v word is. absurd (false≢true (sym e ∙ ap is_rule is)))

pub marked_none : (ids : Ids) (lines before favours : List Line) (versions : List Version) (marks : List CandidateFlags) (n : ℕ) → AreDistinct versions → AreMarked ids before favours versions marks → ((l : Line) → line_at lines n ≡ Some l → is_rule l ≡ false) → AreMarked ids (before ++ option_to_list (line_at lines n)) favours versions marks
marked_none ids lines before favours versions marks n distinct h none = go (line_at lines n) none
  where
    go : (o : Option Line) → ((l : Line) → o ≡ Some l → is_rule l ≡ false) → AreMarked ids (before ++ option_to_list o) favours versions marks
    go None none = rw (append-nil before) h
    go (Some l) none = let named = names_none l (none l refl) in marked_other ids before favours versions marks distinct h l named.0 named.1

-- where no line marks a version, the marks of some lines are those of all
contained : (n : ℕ) (lines : List Line) (l : Line) → Contains (take n lines) l → Contains lines l
contained zero lines l h = absurd (no_element l h)
contained (suc n) [] l h = h
contained (suc n) (m ∷ lines) l h = elim (element_cases m (take n lines) l h) [
  | inl same ↦ subst (λ (x : Line). Contains (m ∷ lines) x) same (first_element m lines)
  | inr more ↦ later_element m lines l (contained n lines l more)
]

pub marked_by_none : (ids : Ids) (n : ℕ) (lines favours : List Line) (versions : List Version) (marks : List CandidateFlags) → HaveNoMarks lines versions → AreMarked ids (take n lines) favours versions marks → AreMarked ids lines favours versions marks
marked_by_none ids n lines favours versions marks none h = record {
  as_many = h.as_many;
  each = λ k m v e f.
      let own = h.each k m v e f in
      let unmarked = none k v f in record {
        locked = (λ is. absurd (unmarked.0 (contained n lines (Lock v) (own.locked.0 is))), λ has. absurd (unmarked.0 has));
        favored = own.favored;
        excluded = go v m.excluded unmarked.1 own.excluded;
        line = λ w is. absurd (excluded_by_none v m.excluded w unmarked.1 own.excluded is);
      };
}
  where
    excluded_by_none : (v : Version) (o : Option StringId) (w : StringId) → ((word : List ℕ) → Contains lines (Exclude v word) → ⊥) → IsExclusion ids (take n lines) v o → o ≡ Some w → ⊥
    excluded_by_none v None w unmarked h e = cc
    excluded_by_none v (Some u) w unmarked h e = unmarked h.0 (contained n lines (Exclude v h.0) h.1)

    go : (v : Version) (o : Option StringId) → ((word : List ℕ) → Contains lines (Exclude v word) → ⊥) → IsExclusion ids (take n lines) v o → IsExclusion ids lines v o
    go v None unmarked h = λ word has. unmarked word has
    go v (Some w) unmarked h = absurd (unmarked h.0 (contained n lines (Exclude v h.0) h.1))
