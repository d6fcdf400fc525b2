-- Lemmas on the trail.
use Rattle.std.proofs.Common.{◌≡◌, ℕ, zero, suc, ◌+◌, ◌<◌, ◌≤◌, ◌⊎◌, inl, inr, Bool, true, false, not, List, [], ◌∷◌, ◌++◌, reverse, take, drop, length, get_or, refl, sym, ◌∙◌, ap, subst, arith, eqb, eqb-true}
use Rattle.std.proofs.lemmas.Bool.{or_cases, both_ways, ne_eqb}
use Rattle.std.proofs.lemmas.List.{reverse-append, take_more, take_all, take-append-drop}
use Rattle.std.specs.List.{list_any, AllByRecursion, IsDistinct}
use Rattle.std.proofs.lemmas.Map.Steps.{length-le_from_distinct_below}
use Rattle.resolvo_store_core.specs.Signed.{Signed, negation, has}
use Rattle.resolvo_store_core.specs.Clauses.{yes, root}
use Rattle.resolvo_store_core.specs.declared.decision.Entry.{Entry}
use Rattle.resolvo_sat.specs.Known.{IsUndecided, IsForced, clause_at}
use Rattle.resolvo_sat.specs.Entries.{literal_of, reason_of, made_true, before, top_level, IsReasoned, Follows, IsTrail, IsTrueAt, IsOnTrail, EndsWith, IsUndone, IsRooted}
use Rattle.resolvo_sat.proofs.Literals.{negation-negation, has-cons, has_here, has_later}

-- the entry that is read at a place, and those before it
pub entry_read : (xs ys : List Entry) (i : ℕ) (d : Entry) → i < length xs → ys ≡ xs → before xs (i + 1) ≡ get_or ys i d ∷ before xs i
entry_read xs ys i d h e = ap reverse (take_more xs i d h) ∙ reverse-append (take i xs) (get_or xs i d ∷ []) ∙ ap (λ (zs : List Entry). get_or zs i d ∷ before xs i) (sym e)

pub before_all : (xs : List Entry) → before xs (length xs) ≡ reverse xs
before_all xs = ap reverse (take_all (length xs) xs (omega arith))

pub clause_at_kept : (cs ds : List (List Signed)) (n : ℕ) (l : Signed) → has (clause_at cs n) l ≡ true → clause_at (cs ++ ds) n ≡ clause_at cs n
clause_at_kept [] ds n l h = absurd (both_ways false refl h)
clause_at_kept (c ∷ cs) ds zero l h = refl
clause_at_kept (c ∷ cs) ds (suc n) l h = clause_at_kept cs ds n l h

reasoned_more : (cs ds : List (List Signed)) (d : Entry) (older : List Entry) → IsReasoned cs d older → IsReasoned (cs ++ ds) d older
reasoned_more cs ds d older (inl c) = inl c
reasoned_more cs ds d older (inr p) = inr (record { level = p.level; forced = subst (λ (x : List Signed). IsForced x (literal_of d) (made_true older)) (sym (clause_at_kept cs ds (reason_of d) (literal_of d) p.forced.present)) p.forced })

-- more variables and more clauses leave a trail a trail
pub trail_more : (count more : ℕ) (cs ds : List (List Signed)) (h : List Entry) → count ≤ more → IsTrail count cs h → IsTrail more (cs ++ ds) h
trail_more count more cs ds [] le t = tt
trail_more count more cs ds (d ∷ older) le t =
    let low : d.decision.variable.0 < count = t.0.in_range in (
      record { undecided = t.0.undecided; in_range = omega arith; reasoned = reasoned_more cs ds d older t.0.reasoned },
      trail_more count more cs ds older le t.1,
    )

pub known_from_level : (h : List Entry) (l : Signed) (k : ℕ) → IsTrueAt h l k → has (made_true h) l ≡ true
known_from_level [] l k s = absurd s
known_from_level (d ∷ older) l k (inl s) = has_here (literal_of d) (made_true older) l s.0
known_from_level (d ∷ older) l k (inr s) = has_later (literal_of d) (made_true older) l (known_from_level older l k s)

pub level_from_known : (h : List Entry) (l : Signed) → has (made_true h) l ≡ true → (k : ℕ) × IsTrueAt h l k
level_from_known [] l e = absurd (both_ways false refl e)
level_from_known (d ∷ older) l e =
    elim (has-cons (literal_of d) (made_true older) l e) [
      | inl i ↦ (d.level, inl (i, refl))
      | inr i ↦ let (k, s) = level_from_known older l i in (k, inr s)
    ]

-- an entry is at the level of the one before it, or one above
pub level_steps : (count : ℕ) (cs : List (List Signed)) (d : Entry) (older : List Entry) → Follows count cs d older → (top_level older ≤ d.level) × (d.level ≤ top_level older + 1)
level_steps count cs d older f = elim f.reasoned [
  | inl c ↦ let e : d.level ≡ suc (top_level older) = c.opens in (omega arith, omega arith)
  | inr p ↦ let e : d.level ≡ top_level older = p.level in (omega arith, omega arith)
]

-- no entry is above the last one
pub level_le_last : (count : ℕ) (cs : List (List Signed)) (h : List Entry) (l : Signed) (k : ℕ) → IsTrail count cs h → IsTrueAt h l k → k ≤ top_level h
level_le_last count cs [] l k t s = absurd s
level_le_last count cs (d ∷ older) l k t (inl s) = let e : d.level ≡ k = s.1 in omega arith
level_le_last count cs (d ∷ older) l k t (inr s) =
    let a : k ≤ top_level older = level_le_last count cs older l k t.1 s in
    let b : top_level older ≤ d.level = (level_steps count cs d older t.0).0 in
    omega arith

pub level_le_length : (count : ℕ) (cs : List (List Signed)) (h : List Entry) → IsTrail count cs h → top_level h ≤ length h
level_le_length count cs [] t = omega arith
level_le_length count cs (d ∷ older) t =
    let a : top_level older ≤ length older = level_le_length count cs older t.1 in
    let b : d.level ≤ top_level older + 1 = (level_steps count cs d older t.0).1 in
    omega arith

-- entries at or below the level are kept
pub kept : (j : ℕ) (old new : List Entry) (l : Signed) (k : ℕ) → IsUndone j old new → IsTrueAt old l k → k ≤ j → IsTrueAt new l k
kept j [] new l k u s le = absurd s
kept j (d ∷ older) new l k (inl u) s le = subst (λ (h : List Entry). IsTrueAt h l k) (sym u) s
kept j (d ∷ older) new l k (inr u) (inl s) le = let e : d.level ≡ k = s.1 in let above : j < d.level = u.0 in absurd (omega arith)
kept j (d ∷ older) new l k (inr u) (inr s) le = kept j older new l k u.1 s le

pub undone_trail : (j count : ℕ) (cs : List (List Signed)) (old new : List Entry) → IsUndone j old new → IsTrail count cs old → IsTrail count cs new
undone_trail j count cs [] new u t = subst (λ (h : List Entry). IsTrail count cs h) (sym u) tt
undone_trail j count cs (d ∷ older) new (inl u) t = subst (λ (h : List Entry). IsTrail count cs h) (sym u) t
undone_trail j count cs (d ∷ older) new (inr u) t = undone_trail j count cs older new u.1 t.1

pub undone_known : (j : ℕ) (old new : List Entry) (l : Signed) → IsUndone j old new → has (made_true new) l ≡ true → has (made_true old) l ≡ true
undone_known j [] new l u h = subst (λ (x : List Entry). has (made_true x) l ≡ true) u h
undone_known j (d ∷ older) new l (inl u) h = subst (λ (x : List Entry). has (made_true x) l ≡ true) u h
undone_known j (d ∷ older) new l (inr u) h = has_later (literal_of d) (made_true older) l (undone_known j older new l u.1 h)

pub undone_all : (j : ℕ) (h : List Entry) → IsUndone j h h
undone_all j [] = refl
undone_all j (d ∷ older) = inl refl

-- the remaining entries are the older part
pub undone_older : (j : ℕ) (old new : List Entry) → IsUndone j old new → EndsWith new old
undone_older j [] new u = ([], sym u)
undone_older j (d ∷ older) new (inl u) = ([], sym u)
undone_older j (d ∷ older) new (inr u) = let (p, is) = undone_older j older new u.1 in (d ∷ p, ap (λ (h : List Entry). d ∷ h) is)

pub false_unless : (b : Bool) → (b ≡ true → ⊥) → b ≡ false
false_unless true h = absurd (h refl)
false_unless false h = refl

-- a literal that became true above the level has no value after the undoing
pub undone_undecided :
    (j count : ℕ) (cs : List (List Signed)) (old new : List Entry) (l : Signed) (k : ℕ)
    → IsTrail count cs old → IsUndone j old new → top_level new ≤ j → IsTrueAt old l k → j < k → IsUndecided (made_true new) l
undone_undecided j count cs [] new l k t u low s above = absurd s
undone_undecided j count cs (d ∷ older) new l k t (inl u) low s above =
    let a : k ≤ d.level = level_le_last count cs (d ∷ older) l k t s in
    let b : top_level new ≡ d.level = ap top_level u in
    absurd (omega arith)
undone_undecided j count cs (d ∷ older) new l k t (inr u) low (inl s) above =
    subst (IsUndecided (made_true new)) s.0 (record {
      not_true = false_unless _ (λ h. both_ways _ t.0.undecided.not_true (undone_known j older new (literal_of d) u.1 h));
      not_false = false_unless _ (λ h. both_ways _ t.0.undecided.not_false (undone_known j older new (negation (literal_of d)) u.1 h));
    })
undone_undecided j count cs (d ∷ older) new l k t (inr u) low (inr s) above = undone_undecided j count cs older new l k t.1 u.1 low s above

own_sign : (b : Bool) → b ≡ not b → ⊥
own_sign true e = cc
own_sign false e = cc

not_own_negation : (l : Signed) → l ≡ negation l → ⊥
not_own_negation l e = own_sign l.positive (ap (λ (m : Signed). m.positive) e)

pub known_in_range : (count : ℕ) (cs : List (List Signed)) (h : List Entry) (l : Signed) → IsTrail count cs h → has (made_true h) l ≡ true → l.variable.0 < count
known_in_range count cs [] l t a = absurd (both_ways false refl a)
known_in_range count cs (d ∷ older) l t a =
    elim (has-cons (literal_of d) (made_true older) l a) [
      | inl e ↦ subst (λ (m : Signed). m.variable.0 < count) e t.0.in_range
      | inr e ↦ known_in_range count cs older l t.1 e
    ]

-- a literal and its negation are not both true
pub consistent : (count : ℕ) (cs : List (List Signed)) (h : List Entry) (l : Signed) → IsTrail count cs h → has (made_true h) l ≡ true → has (made_true h) (negation l) ≡ true → ⊥
consistent count cs [] l t a b = both_ways false refl a
consistent count cs (d ∷ older) l t a b = go (has-cons (literal_of d) (made_true older) l a) (has-cons (literal_of d) (made_true older) (negation l) b) (consistent count cs older l t.1)
  where
    go : (literal_of d ≡ l) ⊎ (has (made_true older) l ≡ true) → (literal_of d ≡ negation l) ⊎ (has (made_true older) (negation l) ≡ true) → (has (made_true older) l ≡ true → has (made_true older) (negation l) ≡ true → ⊥) → ⊥
    go (inl p) (inl q) ih = not_own_negation l (sym p ∙ q)
    go (inl p) (inr q) ih = both_ways _ t.0.undecided.not_false (subst (λ (m : Signed). has (made_true older) (negation m) ≡ true) (sym p) q)
    go (inr p) (inl q) ih = both_ways _ t.0.undecided.not_false (subst (λ (m : Signed). has (made_true older) m ≡ true) (sym (ap negation q ∙ negation-negation l)) p)
    go (inr p) (inr q) ih = ih p q

-- the variables that have a value
variables_of : List Entry → List ℕ
variables_of [] = []
variables_of (d ∷ older) = d.decision.variable.0 ∷ variables_of older

pub same_or_negated : (a b : Signed) → a.variable.0 ≡ b.variable.0 → (a ≡ b) ⊎ (a ≡ negation b)
same_or_negated a b e = go a.positive b.positive refl refl
  where
    go : (x y : Bool) → a.positive ≡ x → b.positive ≡ y → (a ≡ b) ⊎ (a ≡ negation b)
    go true true p q = inl (λ i. record { variable = record { 0 = e i }; positive = (p ∙ sym q) i })
    go false false p q = inl (λ i. record { variable = record { 0 = e i }; positive = (p ∙ sym q) i })
    go true false p q = inr (λ i. record { variable = record { 0 = e i }; positive = (p ∙ ap not (sym q)) i })
    go false true p q = inr (λ i. record { variable = record { 0 = e i }; positive = (p ∙ ap not (sym q)) i })

not_variable : (l : Signed) (older : List Entry) → IsUndecided (made_true older) l → AllByRecursion (λ n. eqb l.variable.0 n ≡ false) (variables_of older)
unfolding variables_of
not_variable l [] u = tt
not_variable l (d ∷ older) u = (
  ne_eqb l.variable.0 d.decision.variable.0 (λ e.
      elim (same_or_negated (literal_of d) l (sym e)) [
        | inl i ↦ both_ways _ u.not_true (has_here (literal_of d) (made_true older) l i)
        | inr i ↦ both_ways _ u.not_false (has_here (literal_of d) (made_true older) (negation l) i)
      ]),
  not_variable l older (record {
    not_true = false_unless _ (λ h. both_ways _ u.not_true (has_later (literal_of d) (made_true older) l h));
    not_false = false_unless _ (λ h. both_ways _ u.not_false (has_later (literal_of d) (made_true older) (negation l) h));
  }),
)

variables_distinct : (count : ℕ) (cs : List (List Signed)) (h : List Entry) → IsTrail count cs h → IsDistinct eqb (variables_of h)
unfolding variables_of IsDistinct
variables_distinct count cs [] t = tt
variables_distinct count cs (d ∷ older) t = (not_variable (literal_of d) older t.0.undecided, variables_distinct count cs older t.1)

variables_below : (count : ℕ) (cs : List (List Signed)) (h : List Entry) (q : ℕ) → IsTrail count cs h → list_any (eqb q) (variables_of h) ≡ true → q < count
unfolding variables_of
variables_below count cs [] q t a = absurd (both_ways false refl a)
variables_below count cs (d ∷ older) q t a =
    elim (or_cases (eqb q d.decision.variable.0) (list_any (eqb q) (variables_of older)) a) [
      | inl e ↦ let same : q ≡ d.decision.variable.0 = eqb-true q d.decision.variable.0 e in let below : d.decision.variable.0 < count = t.0.in_range in omega arith
      | inr e ↦ variables_below count cs older q t.1 e
    ]

variables_length : (h : List Entry) → length (variables_of h) ≡ length h
unfolding variables_of
variables_length [] = refl
variables_length (d ∷ older) = ap suc (variables_length older)

-- a trail has no more entries than there are variables
pub length_le : (count : ℕ) (cs : List (List Signed)) (h : List Entry) → IsTrail count cs h → length h ≤ count
length_le count cs h t =
    let a : length (variables_of h) ≤ count = length-le_from_distinct_below (variables_of h) count (variables_distinct count cs h t) (λ q e. variables_below count cs h q t e) in
    let b : length (variables_of h) ≡ length h = variables_length h in
    omega arith

pub level_from_entry : (h : List Entry) (d : Entry) (older : List Entry) → IsOnTrail h d older → IsTrueAt h (literal_of d) d.level
level_from_entry [] d older e = absurd e
level_from_entry (x ∷ xs) d older (inl e) = inl (ap literal_of e.0, ap (λ (y : Entry). y.level) e.0)
level_from_entry (x ∷ xs) d older (inr e) = inr (level_from_entry xs d older e)

-- what was before a jump to the level or above it, and not above the level, is the older part still
pub undone_ends : (j count : ℕ) (cs : List (List Signed)) (p base new : List Entry) → IsUndone j (p ++ base) new → top_level base ≤ j → EndsWith base new
undone_ends j count cs [] [] new u low = ([], u)
undone_ends j count cs [] (b ∷ bs) new (inl u) low = ([], u)
undone_ends j count cs [] (b ∷ bs) new (inr u) low = let above : j < b.level = u.0 in absurd (omega arith)
undone_ends j count cs (d ∷ ps) base new (inl u) low = (d ∷ ps, u)
undone_ends j count cs (d ∷ ps) base new (inr u) low = undone_ends j count cs ps base new u.1 low

trail_rest : (count : ℕ) (cs : List (List Signed)) (p base : List Entry) → IsTrail count cs (p ++ base) → IsTrail count cs base
trail_rest count cs [] base t = t
trail_rest count cs (d ∷ p) base t = trail_rest count cs p base t.1

-- the trail, with the entries before a place apart
pub whole_trail : (xs : List Entry) (n : ℕ) → reverse xs ≡ reverse (drop n xs) ++ before xs n
whole_trail xs n = ap reverse (sym (take-append-drop n xs)) ∙ reverse-append (take n xs) (drop n xs)

-- the entries before a place are a trail
pub trail_before : (count : ℕ) (cs : List (List Signed)) (xs : List Entry) (n : ℕ) → IsTrail count cs (reverse xs) → IsTrail count cs (before xs n)
trail_before count cs xs n t = trail_rest count cs (reverse (drop n xs)) (before xs n) (subst (IsTrail count cs) (whole_trail xs n) t)

-- an entry of the trail is of one of its variables
pub entry_in_range : (count : ℕ) (cs : List (List Signed)) (xs ys : List Entry) (i : ℕ) (d : Entry) → IsTrail count cs (reverse xs) → i < length xs → ys ≡ xs → (get_or ys i d).decision.variable.0 < count
entry_in_range count cs xs ys i d t h e = (subst (IsTrail count cs) (entry_read xs ys i d h e) (trail_before count cs xs (i + 1) t)).0.in_range

-- the root is true under a trail that begins with it
pub root_level : (h : List Entry) → IsRooted h → IsTrueAt h (yes root) 1
root_level [] r = absurd r
root_level (e ∷ []) r = inl (r.0, r.1)
root_level (e ∷ d ∷ older) r = inr (root_level (d ∷ older) r)

pub root_known : (h : List Entry) → IsRooted h → has (made_true h) (yes root) ≡ true
root_known h r = known_from_level h (yes root) 1 (root_level h r)

-- the rest of a trail begins with the root too
pub rooted_rest : (p : List Entry) (e : Entry) (base : List Entry) → IsRooted (p ++ e ∷ base) → IsRooted (e ∷ base)
rooted_rest [] e base r = r
rooted_rest (d ∷ []) e base r = r
rooted_rest (d ∷ c ∷ p) e base r = rooted_rest (c ∷ p) e base r

pub undone_rooted : (level : ℕ) (old new : List Entry) → 1 ≤ level → IsUndone level old new → IsRooted old → IsRooted new
undone_rooted level [] new one u r = absurd r
undone_rooted level (e ∷ []) new one (inl u) r = subst IsRooted (sym u) r
undone_rooted level (e ∷ []) new one (inr u) r = let a : e.level ≡ 1 = r.1 in let b : level < e.level = u.0 in absurd (omega arith)
undone_rooted level (e ∷ d ∷ older) new one (inl u) r = subst IsRooted (sym u) r
undone_rooted level (e ∷ d ∷ older) new one (inr u) r = undone_rooted level (d ∷ older) new one u.1 r
