-- A table's lines and versions, and one more line.
use Rattle.std.proofs.Common.{◌≡◌, inl, inr, ℕ, zero, suc, ◌-◌, ◌≤◌, List, [], ◌∷◌, ◌++◌, map, length, take, drop, Option, Some, None, refl, sym, ap, subst, ◌∙◌, arith, option_map}
use Rattle.std.specs.Prelude.{Contains, slice_get}
use Rattle.std.specs.List.{cons_option}
use Rattle.std.proofs.lemmas.List.{append-nil, length-append, take-append-le, take-append-drop}
use Rattle.std.proofs.Math.ListN.{get_or-append}
use Rattle.std.proofs.Math.Seq.{take-append_seam}
use Rattle.std.proofs.lemmas.List.Elements.{filter_map-append, Contains-append_left}
use Rattle.std.proofs.lemmas.Option.{slice_get_within, slice_get-get_or, slice_get-map}
use Rattle.resolvo_text.specs.Line.{Version, Spec, Cond, Line, Skipped, Listed, Needs, Limits, Unknown, Lock, Favour, Exclude, Many, Wish}
use Rattle.resolvo_catalogue_core.specs.Grammar.{owner_of, owner_below, later, version_of}
use Rattle.resolvo_catalogue_core.specs.Listed.{listed}
use Rattle.resolvo_catalogue_core.specs.Questions.{LineIs, BelongsTo, MarksUnknownOf, IsOwner, FavoursAt}
use Rattle.resolvo_catalogue_core.specs.Table.{line_of, IsKindOf, AreKindsOf}
use Rattle.resolvo_catalogue_core.specs.Kept.{nowhere, nth, kept_line, IsGiven}
use Rattle.resolvo_terms.specs.Terms.{Terms, AreSound, Grows, IsSpec, IsWord, IsNeed}
use Rattle.resolvo_catalogue_core.specs.declared.kept_rule.KeptRule.{KeptRule}
use Rattle.resolvo_terms.specs.Known.{word_text, need_at, spec_at}
use Rattle.resolvo_terms.proofs.GrowLemmas.{need_stays, spec_stays}
use Rattle.resolvo_terms.proofs.KnownLemmas.{need_known, spec_known, word_known}
use Rattle.resolvo_catalogue_core.specs.declared.rule.VersionNo.{VersionNo}
use Rattle.resolvo_catalogue_core.specs.declared.kept_rule.KeptRule.TheVariants as kept
use Rattle.resolvo_catalogue_core.specs.LineKind.{LineKind}
use Rattle.resolvo_catalogue_core.specs.LineKind as line_kinds
use Rattle.resolvo_terms.proofs.Places.{get_kept, get_push}
use Rattle.resolvo_catalogue_core.proofs.Pushed.{at_kept}

-- ---- listed versions

-- a listed version is that of a line, and the other way round
pub listed_has : (lines : List Line) (v : Version) → Contains lines (Listed v) → (k : ℕ) × (slice_get (listed lines) k ≡ Some v)
listed_has [] v (k, lt, at) = absurd (omega arith)
listed_has (line ∷ lines) v (zero, lt, at) = rw at (0, refl)
listed_has (line ∷ lines) v (suc k, lt, at) = later_has (version_of line) (listed_has lines v (k, omega arith, at))
  where
    later_has : (o : Option Version) → (k : ℕ) × (slice_get (listed lines) k ≡ Some v) → (k : ℕ) × (slice_get (cons_option o (listed lines)) k ≡ Some v)
    later_has None h = h
    later_has (Some w) h = (suc h.0, h.1)

pub listed_from : (lines : List Line) (v : Version) (k : ℕ) → slice_get (listed lines) k ≡ Some v → Contains lines (Listed v)
listed_from [] v k e = absurd cc
listed_from (line ∷ lines) v k e = from_line line v lines (λ j h. listed_from lines v j h) k e
  where
    further : (line : Line) (v : Version) (lines : List Line) → Contains lines (Listed v) → Contains (line ∷ lines) (Listed v)
    further line v lines h = (suc h.0, omega (arith, h.1), h.2)

    from_line : (l : Line) (v : Version) (lines : List Line) → ((j : ℕ) → slice_get (listed lines) j ≡ Some v → Contains lines (Listed v)) → (k : ℕ) → slice_get (cons_option (version_of l) (listed lines)) k ≡ Some v → Contains (l ∷ lines) (Listed v)
    from_line (Listed w) v lines below zero e = (0, omega arith, cc)
    from_line (Listed w) v lines below (suc k) e = further (Listed w) v lines (below k e)
    from_line Skipped v lines below k e = further Skipped v lines (below k e)
    from_line (Needs ss c) v lines below k e = further (Needs ss c) v lines (below k e)
    from_line (Limits s) v lines below k e = further (Limits s) v lines (below k e)
    from_line (Unknown r) v lines below k e = further (Unknown r) v lines (below k e)
    from_line (Lock w) v lines below k e = further (Lock w) v lines (below k e)
    from_line (Favour w) v lines below k e = further (Favour w) v lines (below k e)
    from_line (Many name) v lines below k e = further (Many name) v lines (below k e)
    from_line (Exclude w r) v lines below k e = further (Exclude w r) v lines (below k e)
    from_line (Wish w) v lines below k e = further (Wish w) v lines (below k e)

-- the owner of a line below is the last listed version
pub owner_is_last : (lines : List Line) → owner_below lines ≡ slice_get (listed lines) (length (listed lines) - 1)
owner_is_last [] = refl
owner_is_last (line ∷ lines) = rw (owner_is_last lines) (last_of (version_of line) (listed lines))
  where
    later_none : (o : Option Version) → later None o ≡ o
    later_none None = refl
    later_none (Some v) = refl

    last_of : (o : Option Version) (vs : List Version) → later o (slice_get vs (length vs - 1)) ≡ slice_get (cons_option o vs) (length (cons_option o vs) - 1)
    last_of None vs = later_none (slice_get vs (length vs - 1))
    last_of (Some w) [] = refl
    last_of (Some w) (v ∷ vs) =
        let here : suc (length vs) - 1 ≡ length vs = omega arith in
        let there : suc (suc (length vs)) - 1 ≡ suc (length vs) = omega arith in
        let has = slice_get-get_or (v ∷ vs) (length vs) v (omega arith) in
        rw (here, there, has) refl

pub fewer_listed : (lines : List Line) → length (listed lines) ≤ length lines
fewer_listed [] = omega arith
fewer_listed (line ∷ lines) = fewer (version_of line) (fewer_listed lines)
  where
    fewer : (o : Option Version) → length (listed lines) ≤ length lines → length (cons_option o (listed lines)) ≤ suc (length lines)
    fewer None h = omega arith
    fewer (Some v) h = omega arith

-- a line that lists no version
pub listed_same : (lines : List Line) (l : Line) → version_of l ≡ None → listed (lines ++ l ∷ []) ≡ listed lines
listed_same lines l none = filter_map-append version_of lines (l ∷ []) ∙ rw none (append-nil (listed lines))

pub listed_more : (lines : List Line) (v : Version) → listed (lines ++ Listed v ∷ []) ≡ listed lines ++ v ∷ []
listed_more lines v = filter_map-append version_of lines (Listed v ∷ [])

-- ---- lines

pub line_of_more : (t : Terms) (vs : List Version) (w : Version) (above : Option Version) (s : LineKind) → IsKindOf t vs above s → line_of t (vs ++ w ∷ []) s ≡ line_of t vs s
line_of_more t vs w above line_kinds.Nothing h = refl
line_of_more t vs w above (line_kinds.Listed v) h = ap (λ (x : Version). Listed x) (get_or-append vs (w ∷ []) nowhere v.0 h)
line_of_more t vs w above (line_kinds.Favour v) h = ap (λ (x : Version). Favour x) (get_or-append vs (w ∷ []) nowhere v.0 h)
line_of_more t vs w above (line_kinds.Many name) h = refl
line_of_more t vs w above (line_kinds.Rule (kept.Needs of need)) h = refl
line_of_more t vs w above (line_kinds.Rule (kept.Limits of s)) h = refl
line_of_more t vs w above (line_kinds.Rule (kept.Unknown of r)) h = refl
line_of_more t vs w above (line_kinds.Rule (kept.Lock v)) h = ap (λ (x : Version). Lock x) (get_or-append vs (w ∷ []) nowhere v.0 h.1)
line_of_more t vs w above (line_kinds.Rule (kept.Exclude v r)) h = ap (λ (x : Version). Exclude x (word_text t r)) (get_or-append vs (w ∷ []) nowhere v.0 h.1)

pub lines_of_more : (t : Terms) (vs : List Version) (w : Version) (kinds : List LineKind) → ((n : ℕ) (s : LineKind) → slice_get kinds n ≡ Some s → (above : Option Version) × IsKindOf t vs above s) → map (line_of t (vs ++ w ∷ [])) kinds ≡ map (line_of t vs) kinds
lines_of_more t vs w [] h = refl
lines_of_more t vs w (s ∷ kinds) h =
    let first = h 0 s refl in
    rw (line_of_more t vs w first.0 s first.1, lines_of_more t vs w kinds (λ n x e. h (suc n) x e)) refl

-- ---- more terms

-- the line of a rule stays, whatever else is numbered
pub kept_stays : (t u : Terms) → Grows t u → AreSound u → (vs : List Version) (r : KeptRule) → IsGiven t r → (kept_line u vs r ≡ kept_line t vs r) × IsGiven u r
kept_stays t u grows sound vs (kept.Needs of need) h =
    let there = need_stays t u grows need (need_at t need) h in
    let same : need_at u need ≡ need_at t need = need_known u sound.below need (need_at t need) there in
    (ap (λ (w : List Spec × Option Cond). Needs w.0 w.1) same, subst (λ (w : List Spec × Option Cond). IsNeed u need w) (sym same) there)
kept_stays t u grows sound vs (kept.Limits of v) h =
    let there = spec_stays t u grows v (spec_at t v) h in
    let same : spec_at u v ≡ spec_at t v = spec_known u v (spec_at t v) there in
    (ap (λ (s : Spec). Limits s) same, subst (λ (s : Spec). IsSpec u v s) (sym same) there)
kept_stays t u grows sound vs (kept.Unknown of w) h =
    let there = grows.words w.0 (word_text t w) h in
    let same : word_text u w ≡ word_text t w = word_known u w (word_text t w) there in
    (ap (λ (x : List ℕ). Unknown x) same, subst (λ (x : List ℕ). IsWord u w x) (sym same) there)
kept_stays t u grows sound vs (kept.Lock v) h = (refl, tt)
kept_stays t u grows sound vs (kept.Exclude v w) h =
    let there = grows.words w.0 (word_text t w) h in
    let same : word_text u w ≡ word_text t w = word_known u w (word_text t w) there in
    (ap (λ (x : List ℕ). Exclude (nth vs v) x) same, subst (λ (x : List ℕ). IsWord u w x) (sym same) there)

kind_stays : (t u : Terms) → Grows t u → AreSound u → (vs : List Version) (above : Option Version) (s : LineKind) → IsKindOf t vs above s → (line_of u vs s ≡ line_of t vs s) × IsKindOf u vs above s
kind_stays t u grows sound vs above line_kinds.Nothing h = (refl, h)
kind_stays t u grows sound vs above (line_kinds.Listed v) h = (refl, h)
kind_stays t u grows sound vs above (line_kinds.Favour v) h = (refl, h)
kind_stays t u grows sound vs above (line_kinds.Many name) h = (refl, h)
kind_stays t u grows sound vs above (line_kinds.Rule r) h = let stays = kept_stays t u grows sound vs r h.0 in (stays.0, (stays.1, h.1))

pub lines_stay : (t u : Terms) → Grows t u → AreSound u → (vs : List Version) (kinds : List LineKind) → ((n : ℕ) (s : LineKind) → slice_get kinds n ≡ Some s → (above : Option Version) × IsKindOf t vs above s) → map (line_of u vs) kinds ≡ map (line_of t vs) kinds
lines_stay t u grows sound vs [] h = refl
lines_stay t u grows sound vs (s ∷ kinds) h =
    let first = h 0 s refl in
    rw ((kind_stays t u grows sound vs first.0 s first.1).0, lines_stay t u grows sound vs kinds (λ n x e. h (suc n) x e)) refl

pub are_kinds_stay : (t u : Terms) → Grows t u → AreSound u → (vs : List Version) (lines : List Line) (kinds : List LineKind) → AreKindsOf t vs lines kinds → AreKindsOf u vs lines kinds
are_kinds_stay t u grows sound vs lines kinds h = λ n s at. (kind_stays t u grows sound vs (owner_below (take n lines)) s (h n s at)).1

is_owner_more : (vs : List Version) (w : Version) (of : Option VersionNo) (above : Option Version) → IsOwner vs of above → IsOwner (vs ++ w ∷ []) of above
is_owner_more vs w None above h = h
is_owner_more vs w (Some n) above h = (h.0, get_kept vs w h.0 n.0 h.1, h.2)

is_kind_more : (t : Terms) (vs : List Version) (w : Version) (above : Option Version) (s : LineKind) → IsKindOf t vs above s → IsKindOf t (vs ++ w ∷ []) above s
is_kind_more t vs w above line_kinds.Nothing h = h
is_kind_more t vs w above (line_kinds.Listed v) h = omega (arith, length-append vs (w ∷ []), h)
is_kind_more t vs w above (line_kinds.Favour v) h = omega (arith, length-append vs (w ∷ []), h)
is_kind_more t vs w above (line_kinds.Many name) h = h
is_kind_more t vs w above (line_kinds.Rule (kept.Needs of need)) h = (h.0, is_owner_more vs w (Some of) above h.1)
is_kind_more t vs w above (line_kinds.Rule (kept.Limits of s)) h = (h.0, is_owner_more vs w (Some of) above h.1)
is_kind_more t vs w above (line_kinds.Rule (kept.Unknown of r)) h = (h.0, is_owner_more vs w (Some of) above h.1)
is_kind_more t vs w above (line_kinds.Rule (kept.Lock v)) h = (h.0, omega (arith, length-append vs (w ∷ []), h.1))
is_kind_more t vs w above (line_kinds.Rule (kept.Exclude v r)) h = (h.0, omega (arith, length-append vs (w ∷ []), h.1))

pub are_kinds_more : (t : Terms) (vs : List Version) (w : Version) (lines : List Line) (kinds : List LineKind) → AreKindsOf t vs lines kinds → AreKindsOf t (vs ++ w ∷ []) lines kinds
are_kinds_more t vs w lines kinds h = λ n s at. is_kind_more t vs w (owner_below (take n lines)) s (h n s at)

pub are_kinds_push : (t : Terms) (vs : List Version) (lines : List Line) (kinds : List LineKind) (l : Line) (s : LineKind) → length kinds ≡ length lines → AreKindsOf t vs lines kinds → IsKindOf t vs (owner_below lines) s → AreKindsOf t vs (lines ++ l ∷ []) (kinds ++ s ∷ [])
are_kinds_push t vs lines kinds l s same h new = λ n x at.
    elim (get_push kinds s x n at) [
      | inl old ↦ subst (λ (ls : List Line). IsKindOf t vs (owner_below ls) x) (sym (take-append-le n lines (l ∷ []) (omega (arith, slice_get_within kinds n x old)))) (h n x old)
      | inr here ↦
          let above : take n (lines ++ l ∷ []) ≡ lines = rw (here.0, same) (take-append_seam lines (l ∷ [])) in
          subst (λ (ls : List Line). IsKindOf t vs (owner_below ls) x) (sym above) (subst (λ (y : LineKind). IsKindOf t vs (owner_below lines) y) here.1 new)
    ]

pub favours_kept : (vs : List Version) (lines : List Line) (l : Line) (f : ℕ × VersionNo) → FavoursAt vs lines f → FavoursAt vs (lines ++ l ∷ []) f
favours_kept vs lines l f h = (h.0, h.1, at_kept lines l f.0 (Favour h.0) h.2)

pub favours_more : (vs : List Version) (w : Version) (lines : List Line) (f : ℕ × VersionNo) → FavoursAt vs lines f → FavoursAt (vs ++ w ∷ []) lines f
favours_more vs w lines f h = (h.0, get_kept vs w h.0 f.1.0 h.1, h.2)

-- ---- owners

contains_taken : (n : ℕ) (xs : List Line) (x : Line) → Contains (take n xs) x → Contains xs x
contains_taken n xs x has = subst (λ (ys : List Line). Contains ys x) (take-append-drop n xs) (Contains-append_left (take n xs) (drop n xs) x has)

-- the owner of a line is listed above it
pub owner_listed : (lines : List Line) (n : ℕ) (v : Version) → owner_of lines n ≡ Some v → Contains lines (Listed v)
owner_listed lines zero v is = absurd cc
owner_listed lines (suc n) v is = contains_taken n lines (Listed v) (listed_from (take n lines) v (length (listed (take n lines)) - 1) (sym (owner_is_last (take n lines)) ∙ is))

pub belongs_owner : (v : Version) (lines : List Line) (n : ℕ) → LineIs lines n (BelongsTo v) → owner_of lines n ≡ Some v
belongs_owner v lines n (Needs ss c, at, is) = is
belongs_owner v lines n (Limits s, at, is) = is
belongs_owner v lines n (Unknown r, at, is) = is
belongs_owner v lines n (Skipped, at, is) = absurd is
belongs_owner v lines n (Listed w, at, is) = absurd is
belongs_owner v lines n (Lock w, at, is) = absurd is
belongs_owner v lines n (Favour w, at, is) = absurd is
belongs_owner v lines n (Many name, at, is) = absurd is
belongs_owner v lines n (Exclude w r, at, is) = absurd is
belongs_owner v lines n (Wish w, at, is) = absurd is

pub marks_owner : (v : Version) (lines : List Line) (n : ℕ) → LineIs lines n (MarksUnknownOf v) → owner_of lines n ≡ Some v
marks_owner v lines n (Unknown r, at, is) = is
marks_owner v lines n (Needs ss c, at, is) = absurd is
marks_owner v lines n (Limits s, at, is) = absurd is
marks_owner v lines n (Skipped, at, is) = absurd is
marks_owner v lines n (Listed w, at, is) = absurd is
marks_owner v lines n (Lock w, at, is) = absurd is
marks_owner v lines n (Favour w, at, is) = absurd is
marks_owner v lines n (Many name, at, is) = absurd is
marks_owner v lines n (Exclude w r, at, is) = absurd is
marks_owner v lines n (Wish w, at, is) = absurd is

-- ---- the kind of a line

some_mapped : {X Y : Type 0} (f : X → Y) (o : Option X) (y : Y) → option_map f o ≡ Some y → (x : X) × (o ≡ Some x) × (f x ≡ y)
some_mapped f None y e = absurd cc
some_mapped f (Some x) y e = (x, refl, cc)

-- the kind that is kept for a line, and the line
pub kind_at : (t : Terms) (vs : List Version) (kinds : List LineKind) (n : ℕ) (l : Line) → slice_get (map (line_of t vs) kinds) n ≡ Some l → (s : LineKind) × (slice_get kinds n ≡ Some s) × (line_of t vs s ≡ l)
kind_at t vs kinds n l at = some_mapped (line_of t vs) (slice_get kinds n) l (sym (slice_get-map (line_of t vs) kinds n) ∙ at)

-- a version that a line excludes has a number
pub excluded_at : (t : Terms) (vs : List Version) (above : Option Version) (s : LineKind) (v : Version) (word : List ℕ) → IsKindOf t vs above s → line_of t vs s ≡ Exclude v word → (k : ℕ) × (slice_get vs k ≡ Some v)
excluded_at t vs above (line_kinds.Rule (kept.Exclude k r)) v word is e = (k.0, slice_get-get_or vs k.0 nowhere is.1 ∙ cc)
excluded_at t vs above line_kinds.Nothing v word is e = absurd cc
excluded_at t vs above (line_kinds.Listed k) v word is e = absurd cc
excluded_at t vs above (line_kinds.Favour k) v word is e = absurd cc
excluded_at t vs above (line_kinds.Many name) v word is e = absurd cc
excluded_at t vs above (line_kinds.Rule (kept.Needs of need)) v word is e = absurd cc
excluded_at t vs above (line_kinds.Rule (kept.Limits of s)) v word is e = absurd cc
excluded_at t vs above (line_kinds.Rule (kept.Unknown of r)) v word is e = absurd cc
excluded_at t vs above (line_kinds.Rule (kept.Lock k)) v word is e = absurd cc
