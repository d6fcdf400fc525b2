-- A table with one more line, by the kind of the line.
use Rattle.std.proofs.Common.{◌≡◌, ◌==◌, if◌then◌else◌, inl, inr, is_some, ℕ, zero, suc, Bool, true, false, not, option_map, ◌+◌, List, [], ◌∷◌, ◌++◌, map, length, take, Option, Some, None, refl, sym, ap, subst, ◌∙◌, add-one, arith}
use Rattle.std.specs.Prelude.{◌≤◌, Contains, slice_get, string_bytes, nat_eq, Result, Ok, Err, OnOk}
use Rattle.resolvo_catalogue_core.specs.declared.package.Package.{Package}
use Rattle.resolvo_catalogue_core.specs.Packages.{package_in}
use Rattle.resolvo_catalogue_core.specs.Table.{AddsVersion, IsPackage, package_named, numbers_in, line_of, Keeps, IsTable, Adds, lines_in, versions_in, kinds_in, number_in, mark_of}
use Rattle.resolvo_catalogue_core.specs.Questions.{IsOfPackage, number_of, IsOnly, AreAll, LineIs, BelongsTo, MarksUnknownOf, Locks, Favours, MarksMany, Excludes, IsFavour, IsVersionLine, FavoursAt}
use Rattle.std.specs.BTreeMap.{get, get_by_text}
use Rattle.std.specs.Ordering.{nat_cmp}
use Rattle.std.specs.Map.{update}
use Rattle.std.specs.Str.{bytes_eq}
use Rattle.std.proofs.lemmas.Bool.{and_parts, and_from, cases_Bool}
use Rattle.std.proofs.lemmas.Bool.Decides.{Decides-eqb}
use Rattle.std.specs.Bool.{Decides}
use Rattle.resolvo_text.specs.Matches.{same_version}
use Rattle.std.proofs.lemmas.List.{length-append, length-map, map_push}
use Rattle.std.proofs.lemmas.Option.{get_or_from_slice_get, slice_get_within}
use Rattle.std.proofs.lemmas.Slice.Eq.{bytes_eq-Decides}
use Rattle.std.specs.Global.{Global}
use Rattle.std.specs.declared.string.String.{String}
use Rattle.resolvo_text.specs.Line.{Version, Spec, Cond, Line, Skipped, Listed, Needs, Limits, Unknown, Lock, Favour, Exclude, Many}
use Rattle.resolvo_pool_core.specs.declared.id.StringId.{StringId}
use Rattle.resolvo_pool_core.specs.declared.id.VersionSetId.{VersionSetId}
use Rattle.resolvo_pool_core.specs.declared.requirement.ConditionalRequirement.{ConditionalRequirement}
use Rattle.resolvo_terms.specs.Terms.{Terms, AreSound, IsNeed, IsSpec, IsWord}
use Rattle.resolvo_terms.specs.Terms as terms
use Rattle.resolvo_terms.specs.Known.{need_at, spec_at, word_text}
use Rattle.resolvo_terms.specs.TermCounts.{term_count, terms_for_line}
use Rattle.resolvo_terms.specs.Reads.{Reads}
use Rattle.resolvo_catalogue_core.specs.Kept.{nth, nowhere}
use Rattle.resolvo_catalogue_core.specs.Listed.{kept_versions, are_kept}
use Rattle.resolvo_catalogue_core.specs.Grammar.{owner_below}
use Rattle.resolvo_catalogue_core.specs.LinesByVersion.{kept_of}
use Rattle.resolvo_catalogue_core.specs.Numbered.{beside, IsNumbered, numbers_of, versions_of}
use Rattle.resolvo_catalogue_core.specs.declared.rule.VersionNo.{VersionNo}
use Rattle.resolvo_catalogue_core.specs.declared.kept_rule.KeptRule.TheVariants as kept
use Rattle.resolvo_catalogue_core.specs.LineKind.{LineKind}
use Rattle.resolvo_catalogue_core.specs.LineKind as line_kinds
use Rattle.resolvo_catalogue_core.specs.declared.table.Table.{Table}
use Rattle.resolvo_terms.proofs.NameLemmas.{few_more}
use Rattle.resolvo_terms.proofs.Places.{get_new, get_kept, get_push}
use Rattle.resolvo_catalogue_core.proofs.PackageLemmas.{more_names, none_in}
use Rattle.resolvo_catalogue_core.proofs.VersionLemmas.{same_versions, still_kept}
use Rattle.resolvo_catalogue_core.proofs.NameMarks.{no_entry, no_mark, no_marks, marks_stay, more_marks, marks_more, mark_updated}
use Rattle.resolvo_catalogue_core.proofs.Pushed.{Grows, only_other, all_other, all_new, keyed_new, keyed_more, line_grows, line_within, version_line_grows, version_line_within, version_line_of_listed, get_grows}
use Rattle.resolvo_catalogue_core.proofs.PlaceLemmas.{none_from, excluded_listed, no_number}
use Rattle.resolvo_catalogue_core.proofs.TableLemmas.{lines_stay, are_kinds_stay, listed_same, listed_more, are_kinds_push, are_kinds_more, lines_of_more, favours_kept, favours_more, owner_listed, belongs_owner, marks_owner}

-- ---- any line

pub as_long : (t : Table) → length (kinds_in t) ≡ length (lines_in t)
as_long t = sym (length-map (kinds_in t) (line_of t.terms (versions_in t)))

-- the table has the new line
pub adds_from : (t u : Table) (s : LineKind) (l : Line) → u.terms ≡ t.terms → u.versions ≡ t.versions → kinds_in u ≡ kinds_in t ++ s ∷ [] → line_of t.terms (versions_in t) s ≡ l → Keeps u (versions_in t) (lines_in t ++ l ∷ []) → Adds t l u
adds_from t u s l terms same more is keeps =
    let vs : versions_in u ≡ versions_in t = rw (terms, same) refl in
    let lines : lines_in u ≡ lines_in t ++ l ∷ [] = rw (terms, same, more, ← is) (map_push (line_of t.terms (versions_in t)) (kinds_in t) s) in
    (subst (λ (ls : List Line). Keeps u (versions_in u) ls) (sym lines) (subst (λ (x : List Version). Keeps u x (lines_in t ++ l ∷ [])) (sym vs) keeps), lines, rw terms (omega arith))

-- more terms change no line
pub more_terms : (t : Table) (u : Terms) → IsTable t → terms.Grows t.terms u → AreSound u → (lines_in (record t { terms = u }) ≡ lines_in t) × IsTable (record t { terms = u })
more_terms t u keeps grows sound =
    let w : Table = record t { terms = u } in
    let vs = versions_in t in
    let named : versions_in w ≡ vs = same_versions t.terms.names u.names t.versions.items grows.names keeps.named in
    let stay : map (line_of u vs) (kinds_in t) ≡ lines_in t = lines_stay t.terms u grows sound vs (kinds_in t) (λ n s at. (owner_below (take n (lines_in t)), keeps.kinds n s at)) in
    let same : lines_in w ≡ lines_in t = ap (λ (x : List Version). map (line_of u x) (kinds_in t)) named ∙ stay in
    let few_names = few_more t.terms.names u.names (length t.terms.names) grows.names (omega arith) in
    let keeps_new : Keeps w vs (lines_in t) = record {
      listing = keeps.listing;
      sound = sound;
      kinds = are_kinds_stay t.terms u grows sound vs (lines_in t) (kinds_in t) keeps.kinds;
      packages = λ name. subst (λ (o : Option Package). IsPackage vs name o) (sym (more_names t.terms.names u.names t.packages name grows.names sound.names keeps.places)) (keeps.packages name);
      places = few_more t.terms.names u.names (length t.packages.places.items) grows.names keeps.places;
      named = still_kept (length t.terms.names) (length u.names) t.versions.items few_names keeps.named;
      marks = (marks_stay t.terms.names u.names t.locks few_names keeps.marks.0, marks_stay t.terms.names u.names t.favoured few_names keeps.marks.1);
      locks = λ name. subst (λ (o : Option ℕ). IsOnly o (λ n. LineIs (lines_in t) n (Locks name))) (sym (more_marks t.terms.names u.names t.locks name grows.names sound.names keeps.marks.0)) (keeps.locks name);
      favoured = λ name. subst (λ (o : Option ℕ). IsOnly o (λ n. LineIs (lines_in t) n (Favours name))) (sym (more_marks t.terms.names u.names t.favoured name grows.names sound.names keeps.marks.1)) (keeps.favoured name);
      many = keeps.many;
      excluded = keeps.excluded;
      unknown = keeps.unknown;
      owned = keeps.owned;
      as_many = keeps.as_many;
      favour_lines = keeps.favour_lines;
      favour_versions = keeps.favour_versions;
    } in
    (same, subst (λ (ls : List Line). Keeps w (versions_in w) ls) (sym same) (subst (λ (x : List Version). Keeps w x (lines_in t)) (sym named) keeps_new))

-- a line that is added over more terms
pub adds_over : (t : Table) (u : Terms) (l : Line) (w : Table) → IsTable t → terms.Grows t.terms u → AreSound u → term_count u ≤ term_count t.terms + terms_for_line l → w.terms ≡ u
    → (IsTable (record t { terms = u }) → lines_in (record t { terms = u }) ≡ lines_in t → Adds (record t { terms = u }) l w) → Adds t l w
adds_over t u l w keeps grows sound few same add =
    let more = more_terms t u keeps grows sound in
    let added = add more.1 more.0 in
    (added.0, added.1 ∙ ap (λ (ls : List Line). ls ++ l ∷ []) more.0, rw same few)

-- what is said of each of two clauses after an answer
pub on_ok_both : {T E : Type 0} {P Q R : Type 0} (r : Result T E) → (P → Q → R) → OnOk r P → OnOk r Q → OnOk r R
on_ok_both (Ok x) f p q = f p q
on_ok_both (Err e) f p q = tt

-- what was read, where something was
pub reads_ok : {X Y : Type 0} (R : X → Y → Type 0) (x : X) (o : Option Y) → Reads R (Ok x) o → (y : Y) × (o ≡ Some y) × R x y
reads_ok R x None h = absurd h
reads_ok R x (Some y) h = (y, refl, h)

-- a version has one number
pub one_number : (t : Table) (vs : List Version) (lines : List Line) → Keeps t vs lines → (v : Version) (j k : ℕ) → slice_get vs j ≡ Some v → slice_get vs k ≡ Some v → j ≡ k
one_number t vs lines keeps v j k at_j at_k =
    let only = (keeps.packages v.name).numbers v.number in
    let a = (only j).1 at_j in
    let b = (only k).1 at_k in cc

-- a version whose number is given
pub numbered : (vs : List Version) (n : VersionNo) (v : Version) → slice_get vs n.0 ≡ Some v → nth vs n ≡ v
numbered vs n v at = get_or_from_slice_get vs n.0 v nowhere at

pub skip : (t u : Table) → IsTable t → kinds_in u ≡ kinds_in t ++ line_kinds.Nothing ∷ [] → Adds t Skipped (record t { line_kinds = u.line_kinds })
skip t u keeps more =
    let vs = versions_in t in
    let lines = lines_in t in
    adds_from t (record t { line_kinds = u.line_kinds }) line_kinds.Nothing Skipped refl refl more refl (record {
      sound = keeps.sound;
      listing = listed_same lines Skipped refl ∙ keeps.listing;
      kinds = rw more (are_kinds_push t.terms vs lines (kinds_in t) Skipped line_kinds.Nothing (as_long t) keeps.kinds tt);
      packages = keeps.packages;
      places = keeps.places;
      named = keeps.named;
      marks = keeps.marks;
      locks = λ name. only_other (keeps.locks name) (line_grows lines Skipped (Locks name)) (λ x. x);
      favoured = λ name. only_other (keeps.favoured name) (line_grows lines Skipped (Favours name)) (λ x. x);
      many = λ name. only_other (keeps.many name) (line_grows lines Skipped (MarksMany name)) (λ x. x);
      excluded = λ k. only_other (keeps.excluded k) (version_line_grows vs lines Skipped k Excludes) (λ x. x.2);
      unknown = λ k. only_other (keeps.unknown k) (version_line_grows vs lines Skipped k MarksUnknownOf) (λ x. x.2);
      owned = λ k. all_other (keeps.owned k) (version_line_grows vs lines Skipped k BelongsTo) (λ x. x.2);
      as_many = keeps.as_many;
      favour_lines = all_other keeps.favour_lines (line_grows lines Skipped IsFavour) (λ x. x);
      favour_versions = λ i f at. favours_kept vs lines Skipped f (keeps.favour_versions i f at);
    })

-- ---- a lock

pub lock : (t u : Table) (line : ℕ) (k : VersionNo) (v : Version) (name : ℕ) → IsTable t → line ≡ length (lines_in t) + 1 → slice_get (versions_in t) k.0 ≡ Some v → slice_get t.terms.names name ≡ Some v.name → is_some (mark_of t.terms.names t.locks v.name) ≡ false
    → kinds_in u ≡ kinds_in t ++ line_kinds.Rule (kept.Lock k) ∷ [] → ((j : ℕ) → get nat_cmp u.locks j ≡ update nat_eq (get nat_cmp t.locks) name (Some line) j) → Adds t (Lock v) (record t { line_kinds = u.line_kinds; locks = u.locks })
lock t u line k v name keeps number at called absent more locked =
    let names = t.terms.names in
    let vs = versions_in t in
    let lines = lines_in t in
    let l = Lock v in
    adds_from t (record t { line_kinds = u.line_kinds; locks = u.locks }) (line_kinds.Rule (kept.Lock k)) l refl refl more (ap (λ (x : Version). Lock x) (numbered vs k v at)) (record {
      sound = keeps.sound;
      listing = listed_same lines l refl ∙ keeps.listing;
      kinds = rw more (are_kinds_push t.terms vs lines (kinds_in t) l (line_kinds.Rule (kept.Lock k)) (as_long t) keeps.kinds (tt, slice_get_within vs k.0 v at));
      packages = keeps.packages;
      places = keeps.places;
      named = keeps.named;
      marks = (marks_more names t.locks u.locks name line locked keeps.marks.0 (slice_get_within names name v.name called), keeps.marks.1);
      locks = keyed_new bytes_eq bytes_eq-Decides (mark_of names t.locks) (mark_of names u.locks) v.name line (λ name n. LineIs lines n (Locks name)) (λ name n. LineIs (lines ++ l ∷ []) n (Locks name)) (λ name. v.name ≡ name)
          (mark_updated names t.locks u.locks name line locked v.name keeps.sound.names called) (none_from (mark_of names t.locks v.name) absent) keeps.locks (λ name. rw number (line_grows lines l (Locks name))) refl (λ name same. same);
      favoured = λ name. only_other (keeps.favoured name) (line_grows lines l (Favours name)) (λ x. x);
      many = λ name. only_other (keeps.many name) (line_grows lines l (MarksMany name)) (λ x. x);
      excluded = λ j. only_other (keeps.excluded j) (version_line_grows vs lines l j Excludes) (λ x. x.2);
      unknown = λ j. only_other (keeps.unknown j) (version_line_grows vs lines l j MarksUnknownOf) (λ x. x.2);
      owned = λ j. all_other (keeps.owned j) (version_line_grows vs lines l j BelongsTo) (λ x. x.2);
      as_many = keeps.as_many;
      favour_lines = all_other keeps.favour_lines (line_grows lines l IsFavour) (λ x. x);
      favour_versions = λ i f at. favours_kept vs lines l f (keeps.favour_versions i f at);
    })

-- ---- a `many` line

pub mark_many : (t u : Table) (line : ℕ) (name : String Global) → IsTable t → line ≡ length (lines_in t) + 1 → is_some (get_by_text t.many (string_bytes name)) ≡ false
    → kinds_in u ≡ kinds_in t ++ line_kinds.Many name ∷ [] → ((other : List ℕ) → get_by_text u.many other ≡ update bytes_eq (get_by_text t.many) (string_bytes name) (Some line) other)
    → Adds t (Many (string_bytes name)) (record t { line_kinds = u.line_kinds; many = u.many })
mark_many t u line name keeps number absent more marked =
    let none : get_by_text t.many (string_bytes name) ≡ None = none_from (get_by_text t.many (string_bytes name)) absent in
    let vs = versions_in t in
    let lines = lines_in t in
    let l : Line = Many (string_bytes name) in
    adds_from t (record t { line_kinds = u.line_kinds; many = u.many }) (line_kinds.Many name) l refl refl more refl (record {
      sound = keeps.sound;
      listing = listed_same lines l refl ∙ keeps.listing;
      kinds = rw more (are_kinds_push t.terms vs lines (kinds_in t) l (line_kinds.Many name) (as_long t) keeps.kinds tt);
      packages = keeps.packages;
      places = keeps.places;
      named = keeps.named;
      marks = keeps.marks;
      locks = λ nm. only_other (keeps.locks nm) (line_grows lines l (Locks nm)) (λ x. x);
      favoured = λ nm. only_other (keeps.favoured nm) (line_grows lines l (Favours nm)) (λ x. x);
      many = keyed_new bytes_eq bytes_eq-Decides (get_by_text t.many) (get_by_text u.many) (string_bytes name) line (λ nm n. LineIs lines n (MarksMany nm)) (λ nm n. LineIs (lines ++ l ∷ []) n (MarksMany nm)) (λ nm. string_bytes name ≡ nm)
          marked none keeps.many (λ nm. rw number (line_grows lines l (MarksMany nm))) refl (λ nm same. same);
      excluded = λ j. only_other (keeps.excluded j) (version_line_grows vs lines l j Excludes) (λ x. x.2);
      unknown = λ j. only_other (keeps.unknown j) (version_line_grows vs lines l j MarksUnknownOf) (λ x. x.2);
      owned = λ j. all_other (keeps.owned j) (version_line_grows vs lines l j BelongsTo) (λ x. x.2);
      as_many = keeps.as_many;
      favour_lines = all_other keeps.favour_lines (line_grows lines l IsFavour) (λ x. x);
      favour_versions = λ i f at. favours_kept vs lines l f (keeps.favour_versions i f at);
    })

-- ---- lines that belong to a version

-- the version of a line below is the owner alone
owner_only : (t : Table) → IsTable t → (v : Version) (k : ℕ) → slice_get (versions_in t) k ≡ Some v → owner_below (lines_in t) ≡ Some v → (j : ℕ) → (w : Version) × (slice_get (versions_in t) j ≡ Some w) × (owner_below (lines_in t) ≡ Some w) → k ≡ j
owner_only t keeps v k at owner j h =
    let same : h.0 ≡ v = cc (h.2, owner) in
    one_number t (versions_in t) (lines_in t) keeps v k j at (h.1 ∙ ap (λ (x : Version). Some x) same)

pub need : (t u : Table) (line : ℕ) (k : VersionNo) (v : Version) (given : ConditionalRequirement) (written : List Spec × Option Cond) → IsTable t → need_at t.terms given ≡ written → IsNeed t.terms given written → line ≡ length (lines_in t) + 1 → slice_get (versions_in t) k.0 ≡ Some v → owner_below (lines_in t) ≡ Some v
    → kinds_in u ≡ kinds_in t ++ line_kinds.Rule (kept.Needs k given) ∷ [] → ((j : ℕ) → kept_of u.owned j ≡ (if k.0 == j then kept_of t.owned j ++ line ∷ [] else kept_of t.owned j)) → length u.owned ≡ length t.owned
    → Adds t (Needs written.0 written.1) (record t { line_kinds = u.line_kinds; owned = u.owned })
need t u line k v given written keeps is stands number at owner more recorded as_many =
    let vs = versions_in t in
    let lines = lines_in t in
    let l : Line = Needs written.0 written.1 in
    adds_from t (record t { line_kinds = u.line_kinds; owned = u.owned }) (line_kinds.Rule (kept.Needs k given)) l refl refl more (ap (λ (x : List Spec × Option Cond). Needs x.0 x.1) is) (record {
      sound = keeps.sound;
      listing = listed_same lines l refl ∙ keeps.listing;
      kinds = rw more (are_kinds_push t.terms vs lines (kinds_in t) l (line_kinds.Rule (kept.Needs k given)) (as_long t) keeps.kinds (subst (λ (x : List Spec × Option Cond). IsNeed t.terms given x) (sym is) stands, (v, at, owner)));
      packages = keeps.packages;
      places = keeps.places;
      named = keeps.named;
      marks = keeps.marks;
      locks = λ name. only_other (keeps.locks name) (line_grows lines l (Locks name)) (λ x. x);
      favoured = λ name. only_other (keeps.favoured name) (line_grows lines l (Favours name)) (λ x. x);
      many = λ name. only_other (keeps.many name) (line_grows lines l (MarksMany name)) (λ x. x);
      excluded = λ j. only_other (keeps.excluded j) (version_line_grows vs lines l j Excludes) (λ x. x.2);
      unknown = λ j. only_other (keeps.unknown j) (version_line_grows vs lines l j MarksUnknownOf) (λ x. x.2);
      owned = keyed_more nat_eq Decides-eqb (kept_of t.owned) (kept_of u.owned) k.0 line (λ j. IsVersionLine vs lines j BelongsTo) (λ j. IsVersionLine vs (lines ++ l ∷ []) j BelongsTo) (λ j. (w : Version) × (slice_get vs j ≡ Some w) × (owner_below lines ≡ Some w))
          recorded keeps.owned (λ j. rw number (version_line_grows vs lines l j BelongsTo)) (λ j n parsed. rw number (version_line_within vs lines j BelongsTo n parsed)) (v, at, owner) (owner_only t keeps v k.0 at owner);
      as_many = as_many ∙ keeps.as_many;
      favour_lines = all_other keeps.favour_lines (line_grows lines l IsFavour) (λ x. x);
      favour_versions = λ i f at. favours_kept vs lines l f (keeps.favour_versions i f at);
    })

pub limit : (t u : Table) (line : ℕ) (k : VersionNo) (v : Version) (number_of_spec : VersionSetId) (s : Spec) → IsTable t → spec_at t.terms number_of_spec ≡ s → IsSpec t.terms number_of_spec s → line ≡ length (lines_in t) + 1 → slice_get (versions_in t) k.0 ≡ Some v → owner_below (lines_in t) ≡ Some v
    → kinds_in u ≡ kinds_in t ++ line_kinds.Rule (kept.Limits k number_of_spec) ∷ [] → ((j : ℕ) → kept_of u.owned j ≡ (if k.0 == j then kept_of t.owned j ++ line ∷ [] else kept_of t.owned j)) → length u.owned ≡ length t.owned
    → Adds t (Limits s) (record t { line_kinds = u.line_kinds; owned = u.owned })
limit t u line k v number_of_spec s keeps is given number at owner more recorded as_many =
    let vs = versions_in t in
    let lines = lines_in t in
    let l : Line = Limits s in
    adds_from t (record t { line_kinds = u.line_kinds; owned = u.owned }) (line_kinds.Rule (kept.Limits k number_of_spec)) l refl refl more (ap (λ (x : Spec). Limits x) is) (record {
      sound = keeps.sound;
      listing = listed_same lines l refl ∙ keeps.listing;
      kinds = rw more (are_kinds_push t.terms vs lines (kinds_in t) l (line_kinds.Rule (kept.Limits k number_of_spec)) (as_long t) keeps.kinds (subst (λ (x : Spec). IsSpec t.terms number_of_spec x) (sym is) given, (v, at, owner)));
      packages = keeps.packages;
      places = keeps.places;
      named = keeps.named;
      marks = keeps.marks;
      locks = λ name. only_other (keeps.locks name) (line_grows lines l (Locks name)) (λ x. x);
      favoured = λ name. only_other (keeps.favoured name) (line_grows lines l (Favours name)) (λ x. x);
      many = λ name. only_other (keeps.many name) (line_grows lines l (MarksMany name)) (λ x. x);
      excluded = λ j. only_other (keeps.excluded j) (version_line_grows vs lines l j Excludes) (λ x. x.2);
      unknown = λ j. only_other (keeps.unknown j) (version_line_grows vs lines l j MarksUnknownOf) (λ x. x.2);
      owned = keyed_more nat_eq Decides-eqb (kept_of t.owned) (kept_of u.owned) k.0 line (λ j. IsVersionLine vs lines j BelongsTo) (λ j. IsVersionLine vs (lines ++ l ∷ []) j BelongsTo) (λ j. (w : Version) × (slice_get vs j ≡ Some w) × (owner_below lines ≡ Some w))
          recorded keeps.owned (λ j. rw number (version_line_grows vs lines l j BelongsTo)) (λ j n parsed. rw number (version_line_within vs lines j BelongsTo n parsed)) (v, at, owner) (owner_only t keeps v k.0 at owner);
      as_many = as_many ∙ keeps.as_many;
      favour_lines = all_other keeps.favour_lines (line_grows lines l IsFavour) (λ x. x);
      favour_versions = λ i f at. favours_kept vs lines l f (keeps.favour_versions i f at);
    })

pub mark_unknown : (t u : Table) (line : ℕ) (k : VersionNo) (v : Version) (w : StringId) (word : List ℕ) → IsTable t → word_text t.terms w ≡ word → IsWord t.terms w word → line ≡ length (lines_in t) + 1 → slice_get (versions_in t) k.0 ≡ Some v → owner_below (lines_in t) ≡ Some v
    → is_some (get nat_cmp t.unknown k.0) ≡ false → kinds_in u ≡ kinds_in t ++ line_kinds.Rule (kept.Unknown k w) ∷ []
    → ((j : ℕ) → kept_of u.owned j ≡ (if k.0 == j then kept_of t.owned j ++ line ∷ [] else kept_of t.owned j)) → length u.owned ≡ length t.owned
    → ((j : ℕ) → get nat_cmp u.unknown j ≡ update nat_eq (get nat_cmp t.unknown) k.0 (Some line) j)
    → Adds t (Unknown word) (record t { line_kinds = u.line_kinds; owned = u.owned; unknown = u.unknown })
mark_unknown t u line k v w word keeps is given number at owner absent more recorded as_many marked =
    let vs = versions_in t in
    let lines = lines_in t in
    let l : Line = Unknown word in
    adds_from t (record t { line_kinds = u.line_kinds; owned = u.owned; unknown = u.unknown }) (line_kinds.Rule (kept.Unknown k w)) l refl refl more (ap (λ (x : List ℕ). Unknown x) is) (record {
      sound = keeps.sound;
      listing = listed_same lines l refl ∙ keeps.listing;
      kinds = rw more (are_kinds_push t.terms vs lines (kinds_in t) l (line_kinds.Rule (kept.Unknown k w)) (as_long t) keeps.kinds (subst (λ (x : List ℕ). IsWord t.terms w x) (sym is) given, (v, at, owner)));
      packages = keeps.packages;
      places = keeps.places;
      named = keeps.named;
      marks = keeps.marks;
      locks = λ name. only_other (keeps.locks name) (line_grows lines l (Locks name)) (λ x. x);
      favoured = λ name. only_other (keeps.favoured name) (line_grows lines l (Favours name)) (λ x. x);
      many = λ name. only_other (keeps.many name) (line_grows lines l (MarksMany name)) (λ x. x);
      excluded = λ j. only_other (keeps.excluded j) (version_line_grows vs lines l j Excludes) (λ x. x.2);
      unknown = keyed_new nat_eq Decides-eqb (get nat_cmp t.unknown) (get nat_cmp u.unknown) k.0 line (λ j. IsVersionLine vs lines j MarksUnknownOf) (λ j. IsVersionLine vs (lines ++ l ∷ []) j MarksUnknownOf) (λ j. (w : Version) × (slice_get vs j ≡ Some w) × (owner_below lines ≡ Some w))
          marked (none_from (get nat_cmp t.unknown k.0) absent) keeps.unknown (λ j. rw number (version_line_grows vs lines l j MarksUnknownOf)) (v, at, owner) (owner_only t keeps v k.0 at owner);
      owned = keyed_more nat_eq Decides-eqb (kept_of t.owned) (kept_of u.owned) k.0 line (λ j. IsVersionLine vs lines j BelongsTo) (λ j. IsVersionLine vs (lines ++ l ∷ []) j BelongsTo) (λ j. (w : Version) × (slice_get vs j ≡ Some w) × (owner_below lines ≡ Some w))
          recorded keeps.owned (λ j. rw number (version_line_grows vs lines l j BelongsTo)) (λ j n parsed. rw number (version_line_within vs lines j BelongsTo n parsed)) (v, at, owner) (owner_only t keeps v k.0 at owner);
      as_many = as_many ∙ keeps.as_many;
      favour_lines = all_other keeps.favour_lines (line_grows lines l IsFavour) (λ x. x);
      favour_versions = λ i f at. favours_kept vs lines l f (keeps.favour_versions i f at);
    })

-- ---- exclusions and favours

pub exclude : (t u : Table) (line : ℕ) (k : VersionNo) (v : Version) (w : StringId) (word : List ℕ) → IsTable t → word_text t.terms w ≡ word → IsWord t.terms w word → line ≡ length (lines_in t) + 1 → slice_get (versions_in t) k.0 ≡ Some v → is_some (get nat_cmp t.excluded k.0) ≡ false
    → kinds_in u ≡ kinds_in t ++ line_kinds.Rule (kept.Exclude k w) ∷ [] → ((j : ℕ) → get nat_cmp u.excluded j ≡ update nat_eq (get nat_cmp t.excluded) k.0 (Some line) j) → Adds t (Exclude v word) (record t { line_kinds = u.line_kinds; excluded = u.excluded })
exclude t u line k v w word keeps is given number at absent more marked =
    let vs = versions_in t in
    let lines = lines_in t in
    let l : Line = Exclude v word in
    adds_from t (record t { line_kinds = u.line_kinds; excluded = u.excluded }) (line_kinds.Rule (kept.Exclude k w)) l refl refl more (ap (λ (x : Version). Exclude x (word_text t.terms w)) (numbered vs k v at) ∙ ap (λ (x : List ℕ). Exclude v x) is) (record {
      sound = keeps.sound;
      listing = listed_same lines l refl ∙ keeps.listing;
      kinds = rw more (are_kinds_push t.terms vs lines (kinds_in t) l (line_kinds.Rule (kept.Exclude k w)) (as_long t) keeps.kinds (subst (λ (x : List ℕ). IsWord t.terms w x) (sym is) given, slice_get_within vs k.0 v at));
      packages = keeps.packages;
      places = keeps.places;
      named = keeps.named;
      marks = keeps.marks;
      locks = λ name. only_other (keeps.locks name) (line_grows lines l (Locks name)) (λ x. x);
      favoured = λ name. only_other (keeps.favoured name) (line_grows lines l (Favours name)) (λ x. x);
      many = λ name. only_other (keeps.many name) (line_grows lines l (MarksMany name)) (λ x. x);
      excluded = keyed_new nat_eq Decides-eqb (get nat_cmp t.excluded) (get nat_cmp u.excluded) k.0 line (λ j. IsVersionLine vs lines j Excludes) (λ j. IsVersionLine vs (lines ++ l ∷ []) j Excludes) (λ j. (w : Version) × (slice_get vs j ≡ Some w) × (v ≡ w))
          marked (none_from (get nat_cmp t.excluded k.0) absent) keeps.excluded (λ j. rw number (version_line_grows vs lines l j Excludes)) (v, at, refl) (λ j h. one_number t vs lines keeps v k.0 j at (h.1 ∙ ap (λ (x : Version). Some x) (sym h.2)));
      unknown = λ j. only_other (keeps.unknown j) (version_line_grows vs lines l j MarksUnknownOf) (λ x. x.2);
      owned = λ j. all_other (keeps.owned j) (version_line_grows vs lines l j BelongsTo) (λ x. x.2);
      as_many = keeps.as_many;
      favour_lines = all_other keeps.favour_lines (line_grows lines l IsFavour) (λ x. x);
      favour_versions = λ i f at. favours_kept vs lines l f (keeps.favour_versions i f at);
    })

pub favour : (t u : Table) (line : ℕ) (k : VersionNo) (v : Version) (name : ℕ) → IsTable t → line ≡ length (lines_in t) + 1 → slice_get (versions_in t) k.0 ≡ Some v → slice_get t.terms.names name ≡ Some v.name → is_some (mark_of t.terms.names t.favoured v.name) ≡ false
    → kinds_in u ≡ kinds_in t ++ line_kinds.Favour k ∷ [] → ((j : ℕ) → get nat_cmp u.favoured j ≡ update nat_eq (get nat_cmp t.favoured) name (Some line) j) → u.favours.items ≡ t.favours.items ++ (line, k) ∷ []
    → Adds t (Favour v) (record t { line_kinds = u.line_kinds; favoured = u.favoured; favours = u.favours })
favour t u line k v name keeps number at called absent more favoured pushed =
    let names = t.terms.names in
    let vs = versions_in t in
    let lines = lines_in t in
    let l : Line = Favour v in
    let grows : Grows (λ n. LineIs lines n IsFavour) (λ n. LineIs (lines ++ l ∷ []) n IsFavour) line (IsFavour (owner_below lines) l) = rw number (line_grows lines l IsFavour) in
    adds_from t (record t { line_kinds = u.line_kinds; favoured = u.favoured; favours = u.favours }) (line_kinds.Favour k) l refl refl more (ap (λ (x : Version). Favour x) (numbered vs k v at)) (record {
      sound = keeps.sound;
      listing = listed_same lines l refl ∙ keeps.listing;
      kinds = rw more (are_kinds_push t.terms vs lines (kinds_in t) l (line_kinds.Favour k) (as_long t) keeps.kinds (slice_get_within vs k.0 v at));
      packages = keeps.packages;
      places = keeps.places;
      named = keeps.named;
      marks = (keeps.marks.0, marks_more names t.favoured u.favoured name line favoured keeps.marks.1 (slice_get_within names name v.name called));
      locks = λ name. only_other (keeps.locks name) (line_grows lines l (Locks name)) (λ x. x);
      favoured = keyed_new bytes_eq bytes_eq-Decides (mark_of names t.favoured) (mark_of names u.favoured) v.name line (λ name n. LineIs lines n (Favours name)) (λ name n. LineIs (lines ++ l ∷ []) n (Favours name)) (λ name. v.name ≡ name)
          (mark_updated names t.favoured u.favoured name line favoured v.name keeps.sound.names called) (none_from (mark_of names t.favoured v.name) absent) keeps.favoured (λ name. rw number (line_grows lines l (Favours name))) refl (λ name same. same);
      many = λ name. only_other (keeps.many name) (line_grows lines l (MarksMany name)) (λ x. x);
      excluded = λ j. only_other (keeps.excluded j) (version_line_grows vs lines l j Excludes) (λ x. x.2);
      unknown = λ j. only_other (keeps.unknown j) (version_line_grows vs lines l j MarksUnknownOf) (λ x. x.2);
      owned = λ j. all_other (keeps.owned j) (version_line_grows vs lines l j BelongsTo) (λ x. x.2);
      as_many = keeps.as_many;
      favour_lines = subst (λ (xs : List ℕ). AreAll xs (λ n. LineIs (lines ++ l ∷ []) n IsFavour)) (sym (ap (map (λ (f : ℕ × VersionNo). f.0)) pushed ∙ map_push (λ (f : ℕ × VersionNo). f.0) t.favours.items (line, k)))
          (all_new keeps.favour_lines grows (λ n is. rw number (line_within lines IsFavour n is)) tt);
      favour_versions = λ i f at_f.
          elim (get_push t.favours.items (line, k) f i (rw (← pushed) at_f)) [
            | inl old ↦ favours_kept vs lines l f (keeps.favour_versions i f old)
            | inr new ↦ subst (λ (x : ℕ × VersionNo). FavoursAt vs (lines ++ l ∷ []) x) new.1 (v, at, rw (number, add-one) (get_new lines l))
          ];
    })

-- ---- packages

-- whether a number is new, by the package before
pub new_number : (o : Option Package) (p : Package) (k : ℕ) → Some p ≡ o → is_some (beside (numbers_of p) (versions_of p) k) ≡ is_some (number_in o k)
new_number o p k is = rw (← is) (of_found (beside (numbers_of p) (versions_of p) k))
  where
    of_found : (v : Option VersionNo) → is_some v ≡ is_some (option_map number_of v)
    of_found None = refl
    of_found (Some n) = refl

-- a number that wasn't added was present, and one that was added wasn't
pub was_there : (added there : Bool) → added ≡ not there → added ≡ false → there ≡ true
was_there true there is e = absurd cc
was_there false true is e = refl
was_there false false is e = absurd cc

pub was_new : (added there : Bool) → added ≡ not there → added ≡ true → there ≡ false
was_new false there is e = absurd cc
was_new true false is e = refl
was_new true true is e = absurd cc

-- ---- a version that is listed

pub same_version_is : (v w : Version) → Decides (same_version v w) (v ≡ w)
same_version_is v w = (
  λ e.
      let p = and_parts (bytes_eq v.name w.name) (v.number == w.number) e in
      let names : v.name ≡ w.name = (bytes_eq-Decides v.name w.name).0 p.0 in
      let numbers : v.number ≡ w.number = (Decides-eqb v.number w.number).0 p.1 in
      ap (λ (n : List ℕ). let x : Version = record { name = n; number = v.number } in x) names ∙ ap (λ (n : ℕ). let x : Version = record { name = w.name; number = n } in x) numbers,
  λ is. and_from (bytes_eq v.name w.name) (v.number == w.number) ((bytes_eq-Decides v.name w.name).1 (ap (λ (x : Version). x.name) is)) ((Decides-eqb v.number w.number).1 (ap (λ (x : Version). x.number) is)),
)

-- the version's number is new in its package, and no other changes
number_updated : (before after : List ℕ → Option Package) (v : Version) (k : VersionNo) → AddsVersion before v k after → (w : Version) → number_in (after w.name) w.number ≡ update same_version (λ x. number_in (before x.name) x.number) v (Some k.0) w
number_updated before after v k adds w =
    elim (cases_Bool (bytes_eq v.name w.name)) [
      | inl same_name ↦
          let same : v.name ≡ w.name = (bytes_eq-Decides v.name w.name).0 same_name in
          let new : number_in (after w.name) w.number ≡ number_in (Some adds.added.0) w.number = ap (λ (o : Option Package). number_in o w.number) (ap after (sym same) ∙ adds.added.1) in
          let line_of : number_in (Some adds.added.0) w.number ≡ (if v.number == w.number then Some k.0 else number_in (before w.name) w.number) = rw (← same) (adds.added.2.numbers w.number) in
          new ∙ line_of ∙ rw same_name refl
      | inr apart ↦ ap (λ (o : Option Package). number_in o w.number) (adds.others w.name apart) ∙ rw apart refl
    ]

all_updated : (before after : List ℕ → Option Package) (v : Version) (k : VersionNo) → AddsVersion before v k after → (name : List ℕ) → numbers_in (after name) ≡ (if bytes_eq v.name name then numbers_in (before name) ++ k.0 ∷ [] else numbers_in (before name))
all_updated before after v k adds name =
    elim (cases_Bool (bytes_eq v.name name)) [
      | inl same_name ↦
          let same : v.name ≡ name = (bytes_eq-Decides v.name name).0 same_name in
          let new : numbers_in (after name) ≡ numbers_in (before v.name) ++ k.0 ∷ [] = ap numbers_in (ap after (sym same) ∙ adds.added.1) ∙ adds.added.2.all in
          new ∙ rw (same_name, same) refl
      | inr apart ↦ ap numbers_in (adds.others name apart) ∙ rw apart refl
    ]

-- each package is kept as before, or with the version
packages_kept : (before after : List ℕ → Option Package) (v : Version) (k : VersionNo) → AddsVersion before v k after → ((name : List ℕ) (p : Package) → before name ≡ Some p → IsNumbered p) → (name : List ℕ) (p : Package) → after name ≡ Some p → IsNumbered p
packages_kept before after v k adds kept name p is =
    elim (cases_Bool (bytes_eq v.name name)) [
      | inl same_name ↦
          let same : v.name ≡ name = (bytes_eq-Decides v.name name).0 same_name in
          let both : Some adds.added.0 ≡ Some p = sym adds.added.1 ∙ ap after same ∙ is in
          let one : adds.added.0 ≡ p = cc in
          subst IsNumbered one adds.added.2.kept
      | inr apart ↦ kept name p (sym (adds.others name apart) ∙ is)
    ]

of_package_grows : (vs : List Version) (v : Version) (name : List ℕ) → Grows (IsOfPackage vs name) (IsOfPackage (vs ++ v ∷ []) name) (length vs) (v.name ≡ name)
of_package_grows vs v name = record {
  kept = λ n h. (h.0, get_kept vs v h.0 n h.1, h.2);
  cases = λ n h. elim (get_push vs v h.0 n h.1) [ inl old ↦ inl (h.0, old, h.2) | inr new ↦ inr (new.0, ap (λ (x : Version). x.name) new.1 ∙ h.2) ];
  added = λ same. (v, get_new vs v, same);
}

pub list : (t u : Table) (k : VersionNo) (v : Version) → IsTable t → k.0 ≡ length (versions_in t) → (Contains (lines_in t) (Listed v) → ⊥) → AddsVersion (λ name. package_named t name) v k (λ name. package_in t.terms.names u.packages name) → length u.packages.places.items ≤ length t.terms.names
    → kept_versions t.terms.names u.versions.items ≡ versions_in t ++ v ∷ [] → are_kept (length t.terms.names) u.versions.items ≡ true → kinds_in u ≡ kinds_in t ++ line_kinds.Listed k ∷ [] → ((j : ℕ) → kept_of u.owned j ≡ kept_of t.owned j) → length u.owned ≡ length t.owned + 1
    → Adds t (Listed v) (record t { versions = u.versions; line_kinds = u.line_kinds; packages = u.packages; owned = u.owned })
list t u k v keeps number unlisted adds places versions named more kept as_many =
    let vs = versions_in t in
    let lines = lines_in t in
    let l : Line = Listed v in
    let w : Table = record t { versions = u.versions; line_kinds = u.line_kinds; packages = u.packages; owned = u.owned } in
    let here : slice_get (vs ++ v ∷ []) k.0 ≡ Some v = rw number (get_new vs v) in
    let old : map (line_of t.terms (vs ++ v ∷ [])) (kinds_in t) ≡ lines = lines_of_more t.terms vs v (kinds_in t) (λ n s at. (owner_below (take n lines), keeps.kinds n s at)) in
    let pushed : lines_in w ≡ map (line_of t.terms (vs ++ v ∷ [])) (kinds_in t) ++ Listed (nth (vs ++ v ∷ []) k) ∷ [] = rw (versions, more) (map_push (line_of t.terms (vs ++ v ∷ [])) (kinds_in t) (line_kinds.Listed k)) in
    let lines_now : lines_in w ≡ lines ++ l ∷ [] = pushed ∙ ap (λ (ls : List Line). ls ++ Listed (nth (vs ++ v ∷ []) k) ∷ []) old ∙ ap (λ (x : Version). lines ++ Listed x ∷ []) (numbered (vs ++ v ∷ []) k v here) in
    let above = λ (n : ℕ) (is : LineIs lines n (BelongsTo v)). unlisted (owner_listed lines n v (belongs_owner v lines n is)) in
    let none_forbids = λ (n : ℕ) (is : LineIs lines n (Excludes v)). unlisted (excluded_listed t keeps v n is) in
    let none_mark = λ (n : ℕ) (is : LineIs lines n (MarksUnknownOf v)). unlisted (owner_listed lines n v (marks_owner v lines n is)) in
    let keeps_new : Keeps w (vs ++ v ∷ []) (lines ++ l ∷ []) = record {
      sound = keeps.sound;
      listing = listed_more lines v ∙ rw keeps.listing refl;
      kinds = rw more (are_kinds_push t.terms (vs ++ v ∷ []) lines (kinds_in t) l (line_kinds.Listed k) (as_long t) (are_kinds_more t.terms vs v lines (kinds_in t) keeps.kinds) (slice_get_within (vs ++ v ∷ []) k.0 v here));
      packages = λ name. record {
        kept = packages_kept (λ nm. package_named t nm) (λ nm. package_in t.terms.names u.packages nm) v k adds (λ nm p is. (keeps.packages nm).kept p is) name;
        numbers = λ q. keyed_new same_version same_version_is (λ x. number_in (package_named t x.name) x.number) (λ x. number_in (package_in t.terms.names u.packages x.name) x.number) v (length vs) (λ x n. slice_get vs n ≡ Some x) (λ x n. slice_get (vs ++ v ∷ []) n ≡ Some x) (λ x. v ≡ x)
            (λ x. rw (← number) (number_updated (λ nm. package_named t nm) (λ nm. package_in t.terms.names u.packages nm) v k adds x)) (no_number t keeps v unlisted) (λ x. (keeps.packages x.name).numbers x.number) (λ x. get_grows vs v x) refl (λ x same. same) (record { name = name; number = q });
        all = keyed_more bytes_eq bytes_eq-Decides (λ nm. numbers_in (package_named t nm)) (λ nm. numbers_in (package_in t.terms.names u.packages nm)) v.name (length vs) (λ nm. IsOfPackage vs nm) (λ nm. IsOfPackage (vs ++ v ∷ []) nm) (λ nm. v.name ≡ nm)
            (λ nm. rw (← number) (all_updated (λ x. package_named t x) (λ x. package_in t.terms.names u.packages x) v k adds nm)) (λ nm. (keeps.packages nm).all) (of_package_grows vs v) (λ nm n h. slice_get_within vs n h.0 h.1) refl (λ nm same. same) name;
      };
      places = places;
      named = named;
      marks = keeps.marks;
      locks = λ name. only_other (keeps.locks name) (line_grows lines l (Locks name)) (λ x. x);
      favoured = λ name. only_other (keeps.favoured name) (line_grows lines l (Favours name)) (λ x. x);
      many = λ name. only_other (keeps.many name) (line_grows lines l (MarksMany name)) (λ x. x);
      excluded = λ j. only_other (keeps.excluded j) (version_line_of_listed vs lines v l j Excludes none_forbids (λ x h. h)) (λ x. x);
      unknown = λ j. only_other (keeps.unknown j) (version_line_of_listed vs lines v l j MarksUnknownOf none_mark (λ x h. h)) (λ x. x);
      owned = λ j. rw (kept j) (all_other (keeps.owned j) (version_line_of_listed vs lines v l j BelongsTo above (λ x h. h)) (λ x. x));
      as_many = omega (arith, as_many, keeps.as_many, length-append vs (v ∷ []));
      favour_lines = all_other keeps.favour_lines (line_grows lines l IsFavour) (λ x. x);
      favour_versions = λ i f at. favours_more vs v (lines ++ l ∷ []) f (favours_kept vs lines l f (keeps.favour_versions i f at));
    } in
    (subst (λ (ls : List Line). Keeps w (versions_in w) ls) (sym lines_now) (subst (λ (x : List Version). Keeps w x (lines ++ l ∷ [])) (sym versions) keeps_new), lines_now, omega arith)

-- an empty list more
pub empty_more : (lists more : List (List ℕ)) → more ≡ lists ++ [] ∷ [] → (j : ℕ) → kept_of more j ≡ kept_of lists j
empty_more lists more is j = rw is (of_pushed lists j)
  where
    of_pushed : (xs : List (List ℕ)) (j : ℕ) → kept_of (xs ++ [] ∷ []) j ≡ kept_of xs j
    of_pushed [] zero = refl
    of_pushed [] (suc j) = refl
    of_pushed (x ∷ xs) zero = refl
    of_pushed (x ∷ xs) (suc j) = of_pushed xs j

-- ---- no line

no_only : (found : Option ℕ) (P : ℕ → Type 0) → found ≡ None → ((n : ℕ) → P n → ⊥) → IsOnly found P
no_only found P none not = λ n. (λ is. absurd (none_is (sym none ∙ is)), λ p. absurd (not n p))
  where
    none_is : {n : ℕ} → ◌≡◌ {A = Option ℕ} None (Some n) → ⊥
    none_is e = cc

no_all : (P : ℕ → Type 0) → ((n : ℕ) → P n → ⊥) → AreAll [] P
no_all P not = record { rising = λ k h. absurd (omega arith); all = λ n. (λ has. absurd (omega (arith, has.1)), λ p. absurd (not n p)) }

no_line : (Q : Option Version → Line → Type 0) (n : ℕ) → LineIs [] n Q → ⊥
no_line Q zero h = absurd cc
no_line Q (suc n) h = absurd cc

-- a table of no line
pub empty : (t : Table) → AreSound t.terms → t.versions.items ≡ [] → kinds_in t ≡ [] → t.packages.places.items ≡ [] → t.locks.entries ≡ [] → t.favoured.entries ≡ [] → t.many.entries ≡ [] → t.excluded.entries ≡ [] → t.unknown.entries ≡ [] → t.owned ≡ [] → t.favours.items ≡ [] → IsTable t
empty t sound versions kinds places locks favoured many excluded unknown owned favours =
    let vs : versions_in t ≡ [] = rw versions refl in
    let lines : lines_in t ≡ [] = rw kinds refl in
    let packages : (name : List ℕ) → package_named t name ≡ None = λ name. none_in t.terms.names t.packages name places in
    let keeps : Keeps t [] [] = record {
      sound = sound;
      listing = refl;
      kinds = λ n s at. absurd (no_kind n s (rw kinds at at));
      packages = λ name. record { kept = λ p is. no_package (package_named t name) p (packages name) is; numbers = λ k. no_only _ _ (ap (λ (o : Option Package). number_in o k) (packages name)) (λ n at. none_got n (record { name = name; number = k }) at); all = subst (λ (o : Option Package). AreAll (numbers_in o) (IsOfPackage [] name)) (sym (packages name)) (no_all (IsOfPackage [] name) (λ n h. none_got n h.0 h.1)) };
      places = omega (arith, ap (λ (ps : List Package). length ps) places);
      named = rw versions refl;
      marks = (no_marks t.terms.names t.locks (no_entry t.locks locks), no_marks t.terms.names t.favoured (no_entry t.favoured favoured));
      locks = λ name. no_only _ _ (no_mark t.terms.names t.locks name (no_entry t.locks locks)) (no_line (Locks name));
      favoured = λ name. no_only _ _ (no_mark t.terms.names t.favoured name (no_entry t.favoured favoured)) (no_line (Favours name));
      many = λ name. no_only _ _ (rw many refl) (no_line (MarksMany name));
      excluded = λ k. no_only _ _ (rw excluded refl) (λ n h. none_got k h.0 h.1);
      unknown = λ k. no_only _ _ (rw unknown refl) (λ n h. none_got k h.0 h.1);
      owned = λ k. rw owned (no_all (IsVersionLine [] [] k BelongsTo) (λ n h. none_got k h.0 h.1));
      as_many = rw owned refl;
      favour_lines = rw favours (no_all (λ n. LineIs [] n IsFavour) (no_line IsFavour));
      favour_versions = λ i f at. absurd (no_favour i f (rw favours at at));
    } in
    subst (λ (ls : List Line). Keeps t (versions_in t) ls) (sym lines) (subst (λ (x : List Version). Keeps t x []) (sym vs) keeps)
  where
    none_got : (n : ℕ) (v : Version) → slice_get [] n ≡ Some v → ⊥
    none_got n v e = cc

    no_package : (o : Option Package) (p : Package) → o ≡ None → o ≡ Some p → IsNumbered p
    no_package o p none is = absurd cc

    no_kind : (n : ℕ) (s : LineKind) → slice_get [] n ≡ Some s → ⊥
    no_kind n s e = cc

    no_favour : (i : ℕ) (f : ℕ × VersionNo) → slice_get [] i ≡ Some f → ⊥
    no_favour i f e = cc
