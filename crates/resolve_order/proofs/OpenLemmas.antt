-- Open lines: the next entry, and what opens or closes a line.
use Rattle.std.proofs.Common.{◌≡◌, ◌⊎◌, inl, inr, ℕ, zero, suc, ◌<◌, ◌||◌, ◌&&◌, Bool, true, false, List, [], ◌∷◌, ◌++◌, length, Option, Some, None, refl, sym, ap, subst, ◌∙◌, length-append, arith}
use Rattle.std.specs.Prelude.{Contains, slice_get}
use Rattle.std.specs.Global.{Vec}
use Rattle.std.specs.BTreeSet.{BTreeSet, contains}
use Rattle.std.specs.Ordering.{nat_cmp}
use Rattle.std.proofs.lemmas.Bool.{false≢true, cases_Bool, cases_lt, cases_eq, eqb-true}
use Rattle.std.proofs.lemmas.List.Elements.{Contains-append_left, Contains-append_right, Contains-push_cases}
use Rattle.std.proofs.lemmas.List.Folds.{list_any-append}
use Rattle.std.proofs.lemmas.Option.{slice_get-get_or, slice_get_within, get_or_from_slice_get}
use Rattle.resolvo_text.specs.Line.{Version, Spec, Cond, Is, And, Or, Line}
use Rattle.resolvo_text.specs.declared.spec.Span.{Span}
use Rattle.resolvo_text.specs.declared.spec.Span.TheVariants.{Any, One, Range}
use Rattle.resolvo_text.specs.Matches.{Set, matches, is_met, is_in_span, holds, condition_holds}
use Rattle.resolvo_catalogue_core.specs.Answers as answers
use Rattle.resolvo_catalogue_core.specs.Listed.{listed}
use Rattle.resolvo_catalogue_core.specs.declared.rule.VersionNo.{VersionNo}
use Rattle.resolvo_catalogue_core.proofs.TableSteps.{numbered}
use Rattle.resolve_order.specs.Order.{line_named, MayGive, Precedes, IsNext, IsComplete}
use Rattle.resolve_order.specs.View.{reason_of}
use Rattle.resolve_order.specs.Kept.{first_of, AreLines, IsLineState, is_kept, KeepsAll, IsKeptByNeeds, specs_in, specs_under, IsOpen, IsFirstOpen, AreWithin, Closes, Reopens, IsVersionKey, IsKeyOf, IsKeptForAll, IsSpentLine, IsWaitingLine, OthersAreIdle, IsFound}
use Rattle.resolve_order.specs.declared.chosen.LineState.TheVariants as state
use Rattle.resolve_order.specs.declared.entry.Reason.{Reason}
use Rattle.resolve_order.specs.declared.open_lines.OpenLines.{OpenLines}
use Rattle.resolve_order.specs.declared.package_lines.PackageLines.{PackageLines}
use Rattle.resolve_order.proofs.Elements.{no_element, first_element, any_element}
use Rattle.resolve_order.proofs.LineLemmas.{ordered_at}
use Rattle.resolve_order.proofs.PackageLemmas.{has_first}
use Rattle.resolve_order.proofs.PickLemmas.{name_matched, in_span, version_is}

-- ---- a line that isn't open

-- Line i gives nothing, and is kept where something may open it.
abbrev pub IsIdle : List Line → List Line → Set → Set → OpenLines → ℕ → Reason → Type 0
IsIdle catalogue request chosen entries x i r = IsSpentLine (listed catalogue) chosen entries x.closed.items x.spent i (line_named catalogue request (reason_of (listed catalogue) r))
    ⊎ IsWaitingLine (listed catalogue) entries x.waiting i (line_named catalogue request (reason_of (listed catalogue) r))

idle_gives : (catalogue request : List Line) (chosen entries : Set) (x : OpenLines) (i : ℕ) (r : Reason) (w : Version) → IsIdle catalogue request chosen entries x i r → MayGive catalogue request chosen entries (reason_of (listed catalogue) r) w → ⊥
idle_gives catalogue request chosen entries x i r w (inl line) g = g.unlisted (line.is_spent g.needed.0 g.needed.1 w g.needed.2 g.needed.3 g.is_chosen)
idle_gives catalogue request chosen entries x i r w (inr line) g = false≢true (sym (line.waits g.needed.0 g.needed.1 g.needed.2) ∙ g.needed.4)

still_kept : (versions : List Version) (before after : PackageLines) (i : ℕ) (line : Option Line) → KeepsAll before after → IsKeptByNeeds versions before i line → IsKeptByNeeds versions after i line
still_kept versions before after i line keeps kept = λ ss c e s at p is. keeps p i (kept ss c e s at p is)

idle_kept : (catalogue request : List Line) (chosen entries : Set) (before after : OpenLines) (i : ℕ) (r : Reason) → (Contains before.closed.items i → Contains after.closed.items i) → KeepsAll before.spent after.spent → KeepsAll before.waiting after.waiting
    → IsIdle catalogue request chosen entries before i r → IsIdle catalogue request chosen entries after i r
idle_kept catalogue request chosen entries before after i r closed spent waiting (inl line) = inl (record {
  is_spent = line.is_spent;
  kept = elim line.kept [ inl c ↦ inl (closed c) | inr k ↦ inr (still_kept (listed catalogue) before.spent after.spent i (line_named catalogue request (reason_of (listed catalogue) r)) spent k) ];
})
idle_kept catalogue request chosen entries before after i r closed spent waiting (inr line) = inr (record { waits = line.waits; kept = λ ss c e s at p is. waiting p i (line.kept ss c e s at p is) })

-- one more line that isn't open
pub line_closed : (catalogue request : List Line) (chosen entries : Set) (lines : List Reason) (before after : OpenLines) (i : ℕ) (r : Reason) → slice_get lines i ≡ Some r → Closes before after i → IsIdle catalogue request chosen entries after i r
    → OthersAreIdle catalogue request chosen entries lines before → OthersAreIdle catalogue request chosen entries lines after
line_closed catalogue request chosen entries lines before after i r at closes idle h = record {
  within = closes.within (length lines) (slice_get_within lines i r at) h.within;
  each = λ j s at_j. elim (cases_eq j i) [
    | inl same ↦
        let at_i : slice_get lines i ≡ Some s = subst (λ (k : ℕ). slice_get lines k ≡ Some s) same at_j in
        let is : r ≡ s = cc in
        inr (subst (λ (k : ℕ). IsIdle catalogue request chosen entries after k s) (sym same) (subst (IsIdle catalogue request chosen entries after i) is idle))
    | inr apart ↦ elim (h.each j s at_j) [
      | inl still ↦ inl (closes.others j apart still)
      | inr line ↦ inr (idle_kept catalogue request chosen entries before after j s (closes.closed j) closes.spent closes.waiting line)
    ]
  ];
}

-- A closed line is kept by its packages.
pub one_kept : (catalogue request : List Line) (chosen entries : Set) (lines : List Reason) (x : OpenLines) (i : ℕ) (closed : Vec ℕ) (spent : PackageLines) → x.closed.items ≡ closed.items ++ i ∷ [] → KeepsAll x.spent spent
    → ((r : Reason) → slice_get lines i ≡ Some r → IsKeptByNeeds (listed catalogue) spent i (line_named catalogue request (reason_of (listed catalogue) r))) → OthersAreIdle catalogue request chosen entries lines x
    → OthersAreIdle catalogue request chosen entries lines (record x { closed = closed; spent = spent })
one_kept catalogue request chosen entries lines x i closed spent is keeps here h = record {
  within = h.within;
  each = λ j s at. elim (h.each j s at) [
    | inl still ↦ inl still
    | inr (inl line) ↦ inr (inl (record { is_spent = line.is_spent; kept = kept j s at line.kept }))
    | inr (inr line) ↦ inr (inr line)
  ];
}
  where
    kept : (j : ℕ) (s : Reason) → slice_get lines j ≡ Some s → Contains x.closed.items j ⊎ IsKeptByNeeds (listed catalogue) x.spent j (line_named catalogue request (reason_of (listed catalogue) s)) → Contains closed.items j ⊎ IsKeptByNeeds (listed catalogue) spent j (line_named catalogue request (reason_of (listed catalogue) s))
    kept j s at (inr k) = inr (still_kept (listed catalogue) x.spent spent j (line_named catalogue request (reason_of (listed catalogue) s)) keeps k)
    kept j s at (inl c) = elim (Contains-push_cases closed.items i j (subst (λ (ns : List ℕ). Contains ns j) is c)) [
      | inl old ↦ inl old
      | inr same ↦ inr (subst (λ (k : ℕ). IsKeptByNeeds (listed catalogue) spent k (line_named catalogue request (reason_of (listed catalogue) s))) same (here s (subst (λ (k : ℕ). slice_get lines k ≡ Some s) (sym same) at)))
    ]

-- the same closed lines
pub same_closed : (catalogue request : List Line) (chosen entries : Set) (lines : List Reason) (x : OpenLines) (closed : Vec ℕ) → x.closed.items ≡ closed.items → OthersAreIdle catalogue request chosen entries lines x
    → OthersAreIdle catalogue request chosen entries lines (record x { closed = closed })
same_closed catalogue request chosen entries lines x closed is h = record {
  within = h.within;
  each = λ i r at. elim (h.each i r at) [
    | inl still ↦ inl still
    | inr line ↦ inr (idle_kept catalogue request chosen entries x (record x { closed = closed }) i r (λ c. subst (λ (ns : List ℕ). Contains ns i) is c) (λ p j k. k) (λ p j k. k) line)
  ];
}

-- ---- the next entry

-- No line before the first open one is open.
before_first : (again : BTreeSet ℕ) (below count i j : ℕ) → IsFirstOpen again below i → AreWithin again below count → j < i → IsOpen again below j → ⊥
before_first again below count i j first within less (inl c) = let le = first.least j c in omega (arith, le, less)
before_first again below count i j first within less (inr le) = elim first.is_open [
  | inl c ↦ let lt = within.all i c in omega (arith, le, lt, less)
  | inr is ↦ let e = is.0 in omega (arith, le, e, less)
]

line_of : (catalogue request : List Line) (entries : Set) (lines : List Reason) (other : answers.Reason) (w : Version) (chosen : Set) → AreLines catalogue request entries lines → MayGive catalogue request chosen entries other w
    → (j : ℕ) × (s : Reason) × (slice_get lines j ≡ Some s) × (reason_of (listed catalogue) s ≡ other)
line_of catalogue request entries lines other w chosen are g =
    let e = are.each other g.needed.0 g.needed.1 g.asked g.needed.2 in
    let c = e.1 in
    (c.0, e.0, slice_get-get_or lines c.0 e.0 c.1 ∙ ap Some c.2, e.2)

pub first_gives : (catalogue request : List Line) (chosen entries : Set) (lines : List Reason) (x : OpenLines) (i : ℕ) (r : Reason) (n : VersionNo) → IsFirstOpen x.again x.below i → slice_get lines i ≡ Some r → AreLines catalogue request entries lines
    → OthersAreIdle catalogue request chosen entries lines x → IsLineState catalogue chosen entries (line_named catalogue request (reason_of (listed catalogue) r)) (state.Gives n) → IsFound catalogue request chosen entries (Some (record { version = n; reason = r }))
first_gives catalogue request chosen entries lines x i r n first at are h is = (slice_get_within (listed catalogue) n.0 is.0 is.1, subst (IsNext catalogue request chosen entries (reason_of (listed catalogue) r)) (sym (numbered (listed catalogue) n is.0 is.1)) next)
  where
    R : Reason → Reason → Type 0
    R a b = Precedes entries (reason_of (listed catalogue) a) (reason_of (listed catalogue) b)

    later : (other : answers.Reason) (w : Version) → MayGive catalogue request chosen entries other w → (reason_of (listed catalogue) r ≡ other) ⊎ Precedes entries (reason_of (listed catalogue) r) other
    later other w g =
        let e = line_of catalogue request entries lines other w chosen are g in
        let j = e.0 in
        let s = e.1 in
        elim (cases_lt j i) [
          | inl less ↦ elim (h.each j s e.2) [
            | inl still ↦ absurd (before_first x.again x.below (length lines) i j first h.within less still)
            | inr line ↦ absurd (idle_gives catalogue request chosen entries x j s w line (subst (λ (o : answers.Reason). MayGive catalogue request chosen entries o w) (sym e.3) g))
          ]
          | inr le ↦ elim (cases_lt i j) [
            | inl less ↦ inr (subst (Precedes entries (reason_of (listed catalogue) r)) e.3 (ordered_at R lines i j r s are.ordered less at e.2))
            | inr ge ↦
                let same : i ≡ j = omega (arith, le, ge) in
                let at_j : slice_get lines j ≡ Some r = subst (λ (k : ℕ). slice_get lines k ≡ Some r) same at in
                let one = e.2 in
                let is_r : r ≡ s = cc in
                inl (ap (λ (y : Reason). reason_of (listed catalogue) y) is_r ∙ e.3)
          ]
        ]

    next : IsNext catalogue request chosen entries (reason_of (listed catalogue) r) is.0
    next = record {
      gives = record { asked = are.asked r (i, slice_get_within lines i r at, get_or_from_slice_get lines i r r at); needed = is.4; is_chosen = is.2; unlisted = is.3 };
      first_line = later;
      first_alternative = is.5;
    }

pub nothing_found : (catalogue request : List Line) (chosen entries : Set) (lines : List Reason) (x : OpenLines) → ((i : ℕ) → i < length lines → IsOpen x.again x.below i → ⊥) → AreLines catalogue request entries lines
    → OthersAreIdle catalogue request chosen entries lines x → IsComplete catalogue request chosen entries
nothing_found catalogue request chosen entries lines x none are h = λ other w g.
    let e = line_of catalogue request entries lines other w chosen are g in
    elim (h.each e.0 e.1 e.2) [
      | inl still ↦ none e.0 (slice_get_within lines e.0 e.1 e.2) still
      | inr line ↦ idle_gives catalogue request chosen entries x e.0 e.1 w line (subst (λ (o : answers.Reason). MayGive catalogue request chosen entries o w) (sym e.3) g)
    ]

-- ---- more lines

pub lines_added : (catalogue request : List Line) (chosen entries : Set) (lines more : List Reason) (x : OpenLines) → OthersAreIdle catalogue request chosen entries lines x → OthersAreIdle catalogue request chosen entries (lines ++ more) x
lines_added catalogue request chosen entries lines more x h = record {
  within = record { bound = (let le = h.within.bound in let long = length-append lines more in omega (arith, le, long)); all = h.within.all };
  each = λ i r at. elim (cases_lt i (length lines)) [
    | inl less ↦ h.each i r (before lines i r less at)
    | inr ge ↦ inl (inr (let le = h.within.bound in omega (arith, le, ge)))
  ];
}
  where
    before : (xs : List Reason) (i : ℕ) (r : Reason) → i < length xs → slice_get (xs ++ more) i ≡ Some r → slice_get xs i ≡ Some r
    before [] i r less at = absurd (omega (arith, less))
    before (y ∷ xs) zero r less at = at
    before (y ∷ xs) (suc i) r less at = before xs i r (omega (arith, less)) at

-- ---- lines that are opened

-- lines that are opened by one key and by another
pub reopens_both : (before mid after : BTreeSet ℕ) (below n : ℕ) (p : Option ℕ) (q : ℕ) (kept some left : PackageLines) → Reopens before mid below kept some (λ k. n ≡ k) → Reopens mid after below some left (λ k. q ≡ k) → p ≡ Some q → Reopens before after below kept left (IsVersionKey n p)
reopens_both before mid after below n p q kept some left one two is = record {
  opened = opened;
  stays = λ i c. two.stays i (one.stays i c);
  within = λ i c. elim (two.within i c) [ inl old ↦ one.within i old | inr less ↦ inr less ];
  others = λ k i none c. two.others k i (λ e. none (inr (is ∙ ap (λ (j : ℕ). let o : Option ℕ = Some j in o) e))) (one.others k i (λ e. none (inl e)) c);
}
  where
    opened : (k i : ℕ) → IsVersionKey n p k → is_kept kept k i ≡ true → i < below → contains nat_cmp after i ≡ true
    opened k i (inl e) c less = two.stays i (one.opened k i e c less)
    opened k i (inr e) c less = elim (cases_eq n k) [
      | inl same ↦ two.stays i (one.opened k i same c less)
      | inr apart ↦ two.opened k i (let other : p ≡ Some k = e in cc) (one.others k i apart c) less
    ]

pub reopens_one : (before after : BTreeSet ℕ) (below n : ℕ) (p : Option ℕ) (kept left : PackageLines) → Reopens before after below kept left (λ k. n ≡ k) → p ≡ None → Reopens before after below kept left (IsVersionKey n p)
reopens_one before after below n p kept left one is = record {
  opened = opened;
  stays = one.stays;
  within = one.within;
  others = λ k i none c. one.others k i (λ e. none (inl e)) c;
}
  where
    opened : (k i : ℕ) → IsVersionKey n p k → is_kept kept k i ≡ true → i < below → contains nat_cmp after i ≡ true
    opened k i (inl e) c less = one.opened k i e c less
    opened k i (inr e) c less = absurd (let none = is in cc)

-- A line is open, or it isn't kept by a key of the version.
opened_or : (before after : BTreeSet ℕ) (below : ℕ) (kept left : PackageLines) (n : ℕ) (p : Option ℕ) (i : ℕ) → Reopens before after below kept left (IsVersionKey n p) → IsOpen after below i ⊎ ((k : ℕ) → IsVersionKey n p k → is_kept kept k i ≡ true → ⊥)
opened_or before after below kept left n p i h = elim (by_key n (inl refl)) [
  | inl opened ↦ inl opened
  | inr none ↦ by_package p refl none
]
  where
    by_key : (k : ℕ) → IsVersionKey n p k → IsOpen after below i ⊎ (is_kept kept k i ≡ true → ⊥)
    by_key k is = elim (cases_Bool (is_kept kept k i)) [
      | inl t ↦ elim (cases_lt i below) [ inl less ↦ inl (inl (h.opened k i is t less)) | inr ge ↦ inl (inr ge) ]
      | inr f ↦ inr (λ t. false≢true (sym f ∙ t))
    ]

    by_package : (o : Option ℕ) → p ≡ o → (is_kept kept n i ≡ true → ⊥) → IsOpen after below i ⊎ ((k : ℕ) → IsVersionKey n p k → is_kept kept k i ≡ true → ⊥)
    by_package None is none = inr keys
      where
        keys : (k : ℕ) → IsVersionKey n p k → is_kept kept k i ≡ true → ⊥
        keys k (inl e) t = none (subst (λ (j : ℕ). is_kept kept j i ≡ true) (sym e) t)
        keys k (inr e) t = let both = is in cc
    by_package (Some q) is none = elim (by_key q (inr is)) [ inl opened ↦ inl opened | inr other ↦ inr (keys other) ]
      where
        keys : (is_kept kept q i ≡ true → ⊥) → (k : ℕ) → IsVersionKey n p k → is_kept kept k i ≡ true → ⊥
        keys other k (inl e) t = none (subst (λ (j : ℕ). is_kept kept j i ≡ true) (sym e) t)
        keys other k (inr e) t = other (subst (λ (j : ℕ). is_kept kept j i ≡ true) (sym (let both = is in let same : q ≡ k = cc in same)) t)

still_open : (before after : BTreeSet ℕ) (below : ℕ) (kept left : PackageLines) (n : ℕ) (p : Option ℕ) (i : ℕ) → Reopens before after below kept left (IsVersionKey n p) → IsOpen before below i → IsOpen after below i
still_open before after below kept left n p i h (inl c) = inl (h.stays i c)
still_open before after below kept left n p i h (inr le) = inr le

still_within : (before after : BTreeSet ℕ) (below count : ℕ) (kept left : PackageLines) (n : ℕ) (p : Option ℕ) → Reopens before after below kept left (IsVersionKey n p) → AreWithin before below count → AreWithin after below count
still_within before after below count kept left n p h within = record { bound = within.bound; all = λ i c. elim (h.within i c) [ inl old ↦ within.all i old | inr less ↦ less ] }

-- The version has this number, and its package's first version has that one.
abbrev pub IsNumbered : List Version → ℕ → Option ℕ → Version → Type 0
IsNumbered versions n p v = (slice_get versions n ≡ Some v) × (first_of versions v.name ≡ p)

-- A SPEC that matches the version has a key of it.
key_matched : (versions : List Version) (n : ℕ) (p : Option ℕ) (v : Version) (s : Spec) → IsNumbered versions n p v → matches s v ≡ true → (k : ℕ) × IsVersionKey n p k × IsKeyOf versions s.name s.span k
key_matched versions n p v s is m = by_span s.span (in_span s v m)
  where
    same_name : v.name ≡ s.name
    same_name = name_matched s v m

    by_first : (o : Option ℕ) → first_of versions v.name ≡ o → (k : ℕ) × IsVersionKey n p k × (first_of versions s.name ≡ Some k)
    by_first None none = absurd (has_first versions n v is.0 none)
    by_first (Some k) first = (k, inr (sym is.1 ∙ first), ap (λ (name : List ℕ). first_of versions name) (sym same_name) ∙ first)

    by_span : (span : Span) → is_in_span span v.number ≡ true → (k : ℕ) × IsVersionKey n p k × IsKeyOf versions s.name span k
    by_span Any h = by_first (first_of versions v.name) refl
    by_span (Range low high) h = by_first (first_of versions v.name) refl
    by_span (One number) h = (n, inl refl, is.0 ∙ ap (λ (w : Version). let o : Option Version = Some w in o) (version_is v (record { name = s.name; number = number }) same_name (eqb-true v.number number h)))

-- A line that isn't kept by a key of the version doesn't match it.
no_match : (versions : List Version) (kept : PackageLines) (n : ℕ) (p : Option ℕ) (i : ℕ) (v : Version) (ss : List Spec) → IsNumbered versions n p v → ((k : ℕ) → IsVersionKey n p k → is_kept kept k i ≡ true → ⊥) → IsKeptForAll versions kept i ss
    → (s : Spec) → Contains ss s → matches s v ≡ false
no_match versions kept n p i v ss is none all s c = elim (cases_Bool (matches s v)) [
  | inl t ↦ absurd (let k = key_matched versions n p v s is t in none k.0 k.1 (all s c k.0 k.2))
  | inr f ↦ f
]

-- ---- chosen versions

pub choice_added : (catalogue request : List Line) (chosen wide entries : Set) (lines : List Reason) (x y : OpenLines) (n : ℕ) (p : Option ℕ) → ((w : Version) → Contains wide w → Contains chosen w ⊎ IsNumbered (listed catalogue) n p w) → Reopens x.again y.again x.below x.spent y.spent (IsVersionKey n p)
    → y.below ≡ x.below → y.waiting ≡ x.waiting → x.closed.items ≡ [] → OthersAreIdle catalogue request chosen entries lines x → OthersAreIdle catalogue request wide entries lines y
choice_added catalogue request chosen wide entries lines x y n p added reopens below waiting closed h = record {
  within = subst (λ (n : ℕ). AreWithin y.again n (length lines)) (sym below) (still_within x.again y.again x.below (length lines) x.spent y.spent n p reopens h.within);
  each = λ i r at. elim (h.each i r at) [
    | inl still ↦ inl (subst (λ (n : ℕ). IsOpen y.again n i) (sym below) (still_open x.again y.again x.below x.spent y.spent n p i reopens still))
    | inr (inl line) ↦ elim (opened_or x.again y.again x.below x.spent y.spent n p i reopens) [
      | inl opened ↦ inl (subst (λ (n : ℕ). IsOpen y.again n i) (sym below) opened)
      | inr none ↦ inr (inl (spent i (line_named catalogue request (reason_of (listed catalogue) r)) line none))
    ]
    | inr (inr line) ↦ inr (inr (subst (λ (t : PackageLines). IsWaitingLine (listed catalogue) entries t i (line_named catalogue request (reason_of (listed catalogue) r))) (sym waiting) line))
  ];
}
  where
    kept : (i : ℕ) (l : Option Line) → Contains x.closed.items i ⊎ IsKeptByNeeds (listed catalogue) x.spent i l → IsKeptByNeeds (listed catalogue) x.spent i l
    kept i l (inl c) = absurd (no_element i (subst (λ (ns : List ℕ). Contains ns i) closed c))
    kept i l (inr k) = k

    spent : (i : ℕ) (l : Option Line) → IsSpentLine (listed catalogue) chosen entries x.closed.items x.spent i l → ((k : ℕ) → IsVersionKey n p k → is_kept x.spent k i ≡ true → ⊥) → IsSpentLine (listed catalogue) wide entries y.closed.items y.spent i l
    spent i l line none = record {
      is_spent = λ ss c w e any in_wide. elim (added w in_wide) [
        | inl old ↦ line.is_spent ss c w e any old
        | inr of ↦
            let f = any_element (λ s. matches s w) ss any in
            absurd (false≢true (sym (no_match (listed catalogue) x.spent n p i w ss of none (kept i l line.kept ss c e) f.0 f.1) ∙ f.2))
      ];
      kept = inr (λ ss c e s at q is. let k = kept i l line.kept ss c e s at q is in reopens.others q i (λ same. none q same k) k);
    }

-- All chosen versions are entries.
pub all_entries : (catalogue request : List Line) (seen chosen entries : Set) (lines : List Reason) (x : OpenLines) → ((v : Version) → Contains chosen v → Contains entries v) → OthersAreIdle catalogue request seen entries lines x → OthersAreIdle catalogue request chosen entries lines x
all_entries catalogue request seen chosen entries lines x all h = record {
  within = h.within;
  each = λ i r at. elim (h.each i r at) [
    | inl still ↦ inl still
    | inr (inl line) ↦ inr (inl (record { is_spent = λ ss c w e any in_chosen. all w in_chosen; kept = line.kept }))
    | inr (inr line) ↦ inr (inr line)
  ];
}

-- ---- entries

same_holds : (c : Cond) (v : Version) (entries : Set) → ((s : Spec) → Contains (specs_in c) s → matches s v ≡ false) → holds c (entries ++ v ∷ []) ≡ holds c entries
same_holds (Is s) v entries none = list_any-append (matches s) entries (v ∷ []) ∙ ap (λ (b : Bool). is_met s entries || (b || false)) (none s (first_element s [])) ∙ or_false (is_met s entries)
  where
    or_false : (b : Bool) → b || (false || false) ≡ b
    or_false true = refl
    or_false false = refl
same_holds (And a b) v entries none =
    ap (λ (x : Bool). x && holds b (entries ++ v ∷ [])) (same_holds a v entries (λ s c. none s (Contains-append_left (specs_in a) (specs_in b) s c)))
    ∙ ap (λ (x : Bool). holds a entries && x) (same_holds b v entries (λ s c. none s (Contains-append_right (specs_in a) (specs_in b) s c)))
same_holds (Or a b) v entries none =
    ap (λ (x : Bool). x || holds b (entries ++ v ∷ [])) (same_holds a v entries (λ s c. none s (Contains-append_left (specs_in a) (specs_in b) s c)))
    ∙ ap (λ (x : Bool). holds a entries || x) (same_holds b v entries (λ s c. none s (Contains-append_right (specs_in a) (specs_in b) s c)))

same_condition : (c : Option Cond) (v : Version) (entries : Set) → ((s : Spec) → Contains (specs_under c) s → matches s v ≡ false) → condition_holds c (entries ++ v ∷ []) ≡ condition_holds c entries
same_condition None v entries none = refl
same_condition (Some c) v entries none = same_holds c v entries none

pub entry_added : (catalogue request : List Line) (chosen entries : Set) (lines : List Reason) (x y : OpenLines) (n : ℕ) (p : Option ℕ) (v : Version) → IsNumbered (listed catalogue) n p v → Reopens x.again y.again x.below x.waiting y.waiting (IsVersionKey n p)
    → y.below ≡ x.below → y.closed ≡ x.closed → y.spent ≡ x.spent → OthersAreIdle catalogue request chosen entries lines x → OthersAreIdle catalogue request chosen (entries ++ v ∷ []) lines y
entry_added catalogue request chosen entries lines x y n p v of reopens below closed spent h = record {
  within = subst (λ (n : ℕ). AreWithin y.again n (length lines)) (sym below) (still_within x.again y.again x.below (length lines) x.waiting y.waiting n p reopens h.within);
  each = λ i r at. elim (h.each i r at) [
    | inl still ↦ inl (subst (λ (n : ℕ). IsOpen y.again n i) (sym below) (still_open x.again y.again x.below x.waiting y.waiting n p i reopens still))
    | inr (inl line) ↦ inr (inl (record { is_spent = λ ss c w e any in_chosen. Contains-append_left entries (v ∷ []) w (line.is_spent ss c w e any in_chosen); kept = same_kept i (line_named catalogue request (reason_of (listed catalogue) r)) line.kept }))
    | inr (inr line) ↦ elim (opened_or x.again y.again x.below x.waiting y.waiting n p i reopens) [
      | inl opened ↦ inl (subst (λ (n : ℕ). IsOpen y.again n i) (sym below) opened)
      | inr none ↦ inr (inr (waits i (line_named catalogue request (reason_of (listed catalogue) r)) line none))
    ]
  ];
}
  where
    same_kept : (i : ℕ) (l : Option Line) → Contains x.closed.items i ⊎ IsKeptByNeeds (listed catalogue) x.spent i l → Contains y.closed.items i ⊎ IsKeptByNeeds (listed catalogue) y.spent i l
    same_kept i l (inl c) = inl (subst (λ (ns : Vec ℕ). Contains ns.items i) (sym closed) c)
    same_kept i l (inr k) = inr (subst (λ (t : PackageLines). IsKeptByNeeds (listed catalogue) t i l) (sym spent) k)

    waits : (i : ℕ) (l : Option Line) → IsWaitingLine (listed catalogue) entries x.waiting i l → ((k : ℕ) → IsVersionKey n p k → is_kept x.waiting k i ≡ true → ⊥) → IsWaitingLine (listed catalogue) (entries ++ v ∷ []) y.waiting i l
    waits i l line none = record {
      waits = λ ss c e. same_condition c v entries (no_match (listed catalogue) x.waiting n p i v (specs_under c) of none (line.kept ss c e)) ∙ line.waits ss c e;
      kept = λ ss c e s at q is. let k = line.kept ss c e s at q is in reopens.others q i (λ same. none q same k) k;
    }
