-- What the marked entries of a trail deny.
use Rattle.std.proofs.Common.{◌≡◌, ℕ, zero, suc, ◌+◌, ◌-◌, ◌<◌, ◌≤◌, ◌⊎◌, inl, inr, Bool, true, false, not, if◌then◌else◌, cond, List, [], ◌∷◌, take, length, get_or, refl, sym, ◌∙◌, ap, subst, arith, ◌==◌, eqb-true, eq-eqb}
use Rattle.std.specs.Prelude.{slice_index_or, min}
use Rattle.std.proofs.lemmas.Bool.{both_ways}
use Rattle.std.proofs.lemmas.List.{length-reverse, length-take-le}
use Rattle.resolvo_store_core.specs.Signed.{Signed, negation, has}
use Rattle.resolvo_store_core.specs.declared.decision.Entry.{Entry}
use Rattle.resolvo_pool_core.specs.declared.id.VariableId.{VariableId}
use Rattle.resolvo_sat.specs.Known.{IsUndecided}
use Rattle.resolvo_sat.specs.Entries.{literal_of, made_true, before, top_level, IsTrail, IsTrueAt}
use Rattle.resolvo_sat.specs.Marks.{AreNone}
use Rattle.resolvo_sat.specs.Analysis.{is_seen, denied, Seen, MarksAtMost, AreDeniedBelow}
use Rattle.resolvo_sat.proofs.Literals.{negation-negation, has-cons, has_here, has_later, has_more, more_has_old, more_has_new}
use Rattle.resolvo_sat.proofs.Trails.{level_le_last, same_or_negated}

-- a denied literal is of the newest entry, which is marked, or of an older one
pub denied_cases : (seen : List Bool) (e : Entry) (older : List Entry) (l : Signed) → has (denied seen (e ∷ older)) l ≡ true → ((is_seen seen e ≡ true) × (l ≡ negation (literal_of e))) ⊎ (has (denied seen older) l ≡ true)
denied_cases seen e older l h = go (is_seen seen e) refl h
  where
    go : (b : Bool) → is_seen seen e ≡ b → has (cond b (negation (literal_of e) ∷ denied seen older) (denied seen older)) l ≡ true → ((is_seen seen e ≡ true) × (l ≡ negation (literal_of e))) ⊎ (has (denied seen older) l ≡ true)
    go true m g = elim (has-cons (negation (literal_of e)) (denied seen older) l g) [ inl i ↦ inl (m, sym i) | inr i ↦ inr i ]
    go false m g = inr g

pub denied_later : (seen : List Bool) (e : Entry) (older : List Entry) (l : Signed) → has (denied seen older) l ≡ true → has (denied seen (e ∷ older)) l ≡ true
denied_later seen e older l h = go (is_seen seen e)
  where
    go : (b : Bool) → has (cond b (negation (literal_of e) ∷ denied seen older) (denied seen older)) l ≡ true
    go true = has_later (negation (literal_of e)) (denied seen older) l h
    go false = h

denied_here : (seen : List Bool) (e : Entry) (older : List Entry) → is_seen seen e ≡ true → has (denied seen (e ∷ older)) (negation (literal_of e)) ≡ true
denied_here seen e older m = go (is_seen seen e) m
  where
    go : (b : Bool) → b ≡ true → has (cond b (negation (literal_of e) ∷ denied seen older) (denied seen older)) (negation (literal_of e)) ≡ true
    go true m = has_here (negation (literal_of e)) (denied seen older) (negation (literal_of e)) refl
    go false m = absurd (both_ways false refl m)

-- a denied literal is false by an entry
pub denied_level : (seen : List Bool) (h : List Entry) (l : Signed) → has (denied seen h) l ≡ true → (k : ℕ) × IsTrueAt h (negation l) k
denied_level seen [] l h = absurd (both_ways false refl h)
denied_level seen (e ∷ older) l h = elim (denied_cases seen e older l h) [
  | inl i ↦ (e.level, inl (sym (ap negation i.1 ∙ negation-negation (literal_of e)), refl))
  | inr i ↦ let (k, s) = denied_level seen older l i in (k, inr s)
]

-- a false literal whose variable is marked is denied
pub denied_has : (seen : List Bool) (h : List Entry) (l : Signed) → has (made_true h) (negation l) ≡ true → slice_index_or seen l.variable.0 false ≡ true → has (denied seen h) l ≡ true
denied_has seen [] l f m = absurd (both_ways false refl f)
denied_has seen (e ∷ older) l f m = elim (has-cons (literal_of e) (made_true older) (negation l) f) [
  | inl i ↦
      let same : negation (literal_of e) ≡ l = ap negation i ∙ negation-negation l in
      subst (λ (x : Signed). has (denied seen (e ∷ older)) x ≡ true) same (denied_here seen e older (ap (λ (x : Signed). slice_index_or seen x.variable.0 false) i ∙ m))
  | inr i ↦ denied_later seen e older l (denied_has seen older l i m)
]

-- more marks deny more
pub denied_more : (old new : List Bool) (h : List Entry) (l : Signed) → ((v : ℕ) → slice_index_or old v false ≡ true → slice_index_or new v false ≡ true) → has (denied old h) l ≡ true → has (denied new h) l ≡ true
denied_more old new [] l more h = h
denied_more old new (e ∷ older) l more h = elim (denied_cases old e older l h) [
  | inl i ↦ subst (λ (x : Signed). has (denied new (e ∷ older)) x ≡ true) (sym i.1) (denied_here new e older (more e.decision.variable.0 i.0))
  | inr i ↦ denied_later new e older l (denied_more old new older l more i)
]

-- a denied literal is of a marked variable
pub denied_marked : (seen : List Bool) (h : List Entry) (l : Signed) → has (denied seen h) l ≡ true → slice_index_or seen l.variable.0 false ≡ true
denied_marked seen [] l h = absurd (both_ways false refl h)
denied_marked seen (e ∷ older) l h = elim (denied_cases seen e older l h) [
  | inl i ↦ subst (λ (x : Signed). slice_index_or seen x.variable.0 false ≡ true) (sym i.1) i.0
  | inr i ↦ denied_marked seen older l i
]

-- where a trail ends below the level, each of its entries is below it
pub below_top : (count : ℕ) (cs : List (List Signed)) (seen : List Bool) (h : List Entry) (level : ℕ) → IsTrail count cs h → top_level h < level → AreDeniedBelow seen h level
below_top count cs seen h level t low l d =
    let (k, s) = denied_level seen h l d in
    let a : k ≤ top_level h = level_le_last count cs h (negation l) k t s in
    (k, omega arith, s)

pub below_passes : (seen : List Bool) (e : Entry) (older h : List Entry) (level : ℕ) → h ≡ e ∷ older → is_seen seen e ≡ false → AreDeniedBelow seen older level → AreDeniedBelow seen h level
below_passes seen e older h level same unmarked m = subst (λ (x : List Entry). AreDeniedBelow seen x level) (sym same) (λ l d. elim (denied_cases seen e older l d) [
  | inl i ↦ absurd (both_ways (is_seen seen e) unmarked i.0)
  | inr i ↦ let (k, le, s) = m l i in (k, le, inr s)
])

-- no entry is before the first place
pub below_first : (xs : List Entry) (p : ℕ) (seen : List Bool) (level : ℕ) → p ≤ 0 → AreDeniedBelow seen (before xs p) level
below_first xs zero seen level le l d = absurd (both_ways false refl d)
below_first xs (suc p) seen level le l d = absurd (omega arith)

-- no literal so far
pub marks_none : (seen : List Bool) → Seen [] seen seen
marks_none seen = record { keeps = λ v h. h; takes = λ l h. absurd (both_ways false refl h); only = λ v h. inl h }

pub marks_root : (literals : List Signed) (i : ℕ) (x : Signed) (old new : List Bool) → i < length literals → x ≡ get_or literals i x → x.variable.0 ≡ 0 → Seen (take i literals) old new → Seen (take (i + 1) literals) old new
marks_root literals i x old new lt is is_root m = record {
  keeps = m.keeps;
  takes = λ l h. elim (has_more literals i x l lt h) [
    | inl a ↦ m.takes l a
    | inr a ↦ inl (sym (ap (λ (y : Signed). y.variable.0) (is ∙ a)) ∙ is_root)
  ];
  only = λ v h. elim (m.only v h) [
    | inl a ↦ inl a
    | inr a ↦ let (l, present, same) = a.1 in inr (a.0, (l, more_has_old literals i x l lt present, same))
  ];
}

pub marks_more : (literals : List Signed) (i : ℕ) (x : Signed) (old mid new : List Bool) → i < length literals → x ≡ get_or literals i x → (x.variable.0 ≡ 0 → ⊥)
    → ((q : VariableId) → slice_index_or new q.0 false ≡ cond (x.variable.0 == q.0) true (slice_index_or mid q.0 false))
    → Seen (take i literals) old mid → Seen (take (i + 1) literals) old new
marks_more literals i x old mid new lt is nonroot put m = record {
  keeps = λ v h. kept v (m.keeps v h);
  takes = λ l h. elim (has_more literals i x l lt h) [
    | inl a ↦ elim (m.takes l a) [ inl r ↦ inl r | inr r ↦ inr (kept l.variable.0 r) ]
    | inr a ↦ inr (subst (λ (y : Signed). slice_index_or new y.variable.0 false ≡ true) (is ∙ a) here)
  ];
  only = λ v h. only_here v (x.variable.0 == v) refl (sym (put (record { 0 = v })) ∙ h);
}
  where
    kept : (v : ℕ) → slice_index_or mid v false ≡ true → slice_index_or new v false ≡ true
    kept v h = put (record { 0 = v }) ∙ go (x.variable.0 == v)
      where
        go : (b : Bool) → cond b true (slice_index_or mid v false) ≡ true
        go true = refl
        go false = h

    here : slice_index_or new x.variable.0 false ≡ true
    here = put x.variable ∙ ap (λ b. cond b true (slice_index_or mid x.variable.0 false)) (eq-eqb x.variable.0 x.variable.0 refl)

    only_here : (v : ℕ) (b : Bool) → (x.variable.0 == v) ≡ b → cond b true (slice_index_or mid v false) ≡ true → (slice_index_or old v false ≡ true) ⊎ ((v ≡ 0 → ⊥) × ((l : Signed) × (has (take (i + 1) literals) l ≡ true) × (l.variable.0 ≡ v)))
    only_here v true e h =
        let same : x.variable.0 ≡ v = eqb-true _ _ e in
        inr (λ z. nonroot (same ∙ z), (x, subst (λ (y : Signed). has (take (i + 1) literals) y ≡ true) (sym is) (more_has_new literals i x lt), same))
    only_here v false e h = elim (m.only v h) [
      | inl a ↦ inl a
      | inr a ↦ let (l, present, same) = a.1 in inr (a.0, (l, more_has_old literals i x l lt present, same))
    ]

-- the marks of the trail's variables alone decide what is denied
pub same_denied : (old new : List Bool) (h : List Entry) → ((l : Signed) → has (made_true h) l ≡ true → slice_index_or new l.variable.0 false ≡ slice_index_or old l.variable.0 false) → denied new h ≡ denied old h
same_denied old new [] same = refl
same_denied old new (e ∷ older) same =
    let here : is_seen new e ≡ is_seen old e = same (literal_of e) (has_here (literal_of e) (made_true older) (literal_of e) refl) in
    let rest : denied new older ≡ denied old older = same_denied old new older (λ l h. same l (has_later (literal_of e) (made_true older) l h)) in
    ap (λ b. cond b (negation (literal_of e) ∷ denied new older) (denied new older)) here ∙ ap (λ (ls : List Signed). cond (is_seen old e) (negation (literal_of e) ∷ ls) ls) rest

-- a marked entry counts one more than those before it, another one none
pub count_marked : (seen : List Bool) (e : Entry) (older : List Entry) → is_seen seen e ≡ true → length (denied seen (e ∷ older)) ≡ length (denied seen older) + 1
count_marked seen e older m =
    let is : length (denied seen (e ∷ older)) ≡ length (negation (literal_of e) ∷ denied seen older) = ap (λ b. length (cond b (negation (literal_of e) ∷ denied seen older) (denied seen older))) m in
    omega arith

pub count_unmarked : (seen : List Bool) (e : Entry) (older : List Entry) → is_seen seen e ≡ false → length (denied seen (e ∷ older)) ≡ length (denied seen older)
count_unmarked seen e older m = ap (λ b. length (cond b (negation (literal_of e) ∷ denied seen older) (denied seen older))) m

-- an entry's variable has no value before it
pub unmade : (h : List Entry) (e : Entry) (l : Signed) → IsUndecided (made_true h) (literal_of e) → has (made_true h) l ≡ true → l.variable.0 ≡ e.decision.variable.0 → ⊥
unmade h e l u t same = elim (same_or_negated l (literal_of e) same) [
  | inl i ↦ both_ways _ u.not_true (subst (λ (x : Signed). has (made_true h) x ≡ true) i t)
  | inr i ↦ both_ways _ u.not_false (subst (λ (x : Signed). has (made_true h) x ≡ true) i t)
]

distinct : (a b : ℕ) → (a ≡ b → ⊥) → (a == b) ≡ false
distinct a b h = go (a == b) refl
  where
    go : (x : Bool) → (a == b) ≡ x → x ≡ false
    go true e = absurd (h (eqb-true _ _ e))
    go false e = refl

-- the mark of one more variable is that of one entry at most
pub counts_one : (count : ℕ) (cs : List (List Signed)) (old new : List Bool) (v : ℕ) (h : List Entry) → IsTrail count cs h → ((q : ℕ) → slice_index_or new q false ≡ cond (v == q) true (slice_index_or old q false)) → length (denied new h) ≤ length (denied old h) + 1
counts_one count cs old new v [] t put = omega arith
counts_one count cs old new v (e ∷ older) t put = go (v == e.decision.variable.0) refl (is_seen old e) refl (counts_one count cs old new v older t.1 put)
  where
    kept : (v == e.decision.variable.0) ≡ false → is_seen new e ≡ is_seen old e
    kept is = put e.decision.variable.0 ∙ ap (λ b. cond b true (is_seen old e)) is

    at_least : (m : Bool) → is_seen old e ≡ m → length (denied old older) ≤ length (denied old (e ∷ older))
    at_least true was = let a : length (denied old (e ∷ older)) ≡ length (denied old older) + 1 = count_marked old e older was in omega arith
    at_least false was = let a : length (denied old (e ∷ older)) ≡ length (denied old older) = count_unmarked old e older was in omega arith

    go : (b : Bool) → (v == e.decision.variable.0) ≡ b → (m : Bool) → is_seen old e ≡ m → length (denied new older) ≤ length (denied old older) + 1 → length (denied new (e ∷ older)) ≤ length (denied old (e ∷ older)) + 1
    go true is m was rest =
        let same : v ≡ e.decision.variable.0 = eqb-true _ _ is in
        let others : denied new older ≡ denied old older = same_denied old new older (λ l h. put l.variable.0 ∙ ap (λ b. cond b true (slice_index_or old l.variable.0 false)) (distinct v l.variable.0 (λ i. unmade older e l t.0.undecided h (sym i ∙ same)))) in
        let a : length (denied new older) ≡ length (denied old older) = ap length others in
        let marked : is_seen new e ≡ true = put e.decision.variable.0 ∙ ap (λ b. cond b true (is_seen old e)) is in
        let b : length (denied new (e ∷ older)) ≡ length (denied new older) + 1 = count_marked new e older marked in
        let c : length (denied old older) ≤ length (denied old (e ∷ older)) = at_least m was in
        omega arith
    go false is true was rest =
        let b : length (denied new (e ∷ older)) ≡ length (denied new older) + 1 = count_marked new e older (kept is ∙ was) in
        let c : length (denied old (e ∷ older)) ≡ length (denied old older) + 1 = count_marked old e older was in
        omega (arith, rest)
    go false is false was rest =
        let b : length (denied new (e ∷ older)) ≡ length (denied new older) = count_unmarked new e older (kept is ∙ was) in
        let c : length (denied old (e ∷ older)) ≡ length (denied old older) = count_unmarked old e older was in
        omega (arith, rest)

-- one more variable was marked, which counts where it is new
pub few_more : (n m last : ℕ) (v : VariableId) (old mid new : List Bool) (is_new : Bool) → is_new ≡ not (slice_index_or mid v.0 false) → ((q : VariableId) → slice_index_or new q.0 false ≡ cond (v.0 == q.0) true (slice_index_or mid q.0 false))
    → m ≡ min (n + (if is_new then 1 else 0)) last → n < last → MarksAtMost n old mid → MarksAtMost m old new × (m ≤ n + 1)
few_more n m last v old mid new is_new was put more low few = (λ count cs h t. go count cs h t is_new was more, bounded is_new more)
  where
    was_marked : (b : Bool) → slice_index_or mid v.0 false ≡ b → false ≡ not b → slice_index_or mid v.0 false ≡ true
    was_marked true e f = e
    was_marked false e f = absurd (both_ways false refl f)

    agrees : (q : ℕ) → slice_index_or mid v.0 false ≡ true → cond (v.0 == q) true (slice_index_or mid q false) ≡ slice_index_or mid q false
    agrees q marked = step (v.0 == q) refl
      where
        step : (b : Bool) → (v.0 == q) ≡ b → cond b true (slice_index_or mid q false) ≡ slice_index_or mid q false
        step true e = sym (ap (λ (n : ℕ). slice_index_or mid n false) (sym (eqb-true _ _ e)) ∙ marked)
        step false e = refl

    bounded : (b : Bool) → m ≡ min (n + (if b then 1 else 0)) last → m ≤ n + 1
    bounded true one = omega (arith, one)
    bounded false one = omega (arith, one)

    go : (count : ℕ) (cs : List (List Signed)) (h : List Entry) → IsTrail count cs h → (b : Bool) → b ≡ not (slice_index_or mid v.0 false) → m ≡ min (n + (if b then 1 else 0)) last → length (denied new h) ≤ length (denied old h) + m
    go count cs h t true is one =
        let a : length (denied new h) ≤ length (denied mid h) + 1 = counts_one count cs mid new v.0 h t (λ q. put (record { 0 = q })) in
        let b : length (denied mid h) ≤ length (denied old h) + n = few count cs h t in
        omega (arith, one)
    go count cs h t false is one =
        let same : denied new h ≡ denied mid h = same_denied mid new h (λ l i. put l.variable ∙ agrees l.variable.0 (was_marked (slice_index_or mid v.0 false) refl is)) in
        let a : length (denied new h) ≡ length (denied mid h) = ap length same in
        let b : length (denied mid h) ≤ length (denied old h) + n = few count cs h t in
        omega (arith, one)

-- nothing is denied where nothing is marked
unmarked_none : (none : List Bool) (h : List Entry) → AreNone none → denied none h ≡ []
unmarked_none none [] empty = refl
unmarked_none none (e ∷ older) empty = ap (λ b. cond b (negation (literal_of e) ∷ denied none older) (denied none older)) (empty e.decision.variable.0) ∙ unmarked_none none older empty

-- no more entries are marked than were counted
pub few_begun : (n count : ℕ) (cs : List (List Signed)) (none seen : List Bool) (h : List Entry) → IsTrail count cs h → AreNone none → MarksAtMost n none seen → length (denied seen h) ≤ n
few_begun n count cs none seen h t empty few =
    let a : length (denied seen h) ≤ length (denied none h) + n = few count cs h t in
    let b : length (denied none h) ≡ 0 = ap length (unmarked_none none h empty) in
    omega arith

-- a marked entry was passed
pub few_passed : (seen : List Bool) (h : List Entry) (e : Entry) (older : List Entry) (all left : ℕ) → h ≡ e ∷ older → is_seen seen e ≡ true → length (denied seen h) ≤ all → left ≡ all - 1 → length (denied seen older) ≤ left
few_passed seen h e older all left is marked few less =
    let a : length (denied seen h) ≡ length (denied seen older) + 1 = ap (λ (x : List Entry). length (denied seen x)) is ∙ count_marked seen e older marked in
    omega (arith, few, less)

denied_short : (seen : List Bool) (h : List Entry) → length (denied seen h) ≤ length h
denied_short seen [] = omega arith
denied_short seen (e ∷ older) = go (is_seen seen e) refl (denied_short seen older)
  where
    go : (b : Bool) → is_seen seen e ≡ b → length (denied seen older) ≤ length older → length (denied seen (e ∷ older)) ≤ length (e ∷ older)
    go true m rest = let b : length (denied seen (e ∷ older)) ≡ length (denied seen older) + 1 = count_marked seen e older m in omega (arith, rest)
    go false m rest = let b : length (denied seen (e ∷ older)) ≡ length (denied seen older) = count_unmarked seen e older m in omega (arith, rest)

-- the reason's variables were marked
pub few_resolved : (n more sum last count : ℕ) (cs : List (List Signed)) (old new : List Bool) (xs : List Entry) (p : ℕ) → IsTrail count cs (before xs p) → p ≤ last → p ≤ length xs → MarksAtMost more old new → sum ≡ min (n + more) last → length (denied old (before xs p)) ≤ n → length (denied new (before xs p)) ≤ sum
few_resolved n more sum last count cs old new xs p t low within few is counted =
    let a : length (denied new (before xs p)) ≤ length (denied old (before xs p)) + more = few count cs (before xs p) t in
    let b : length (denied new (before xs p)) ≤ length (before xs p) = denied_short new (before xs p) in
    let c : length (before xs p) ≡ length (take p xs) = length-reverse (take p xs) in
    let d : length (take p xs) ≡ p = length-take-le p xs within in
    omega (arith, counted, is, low)
