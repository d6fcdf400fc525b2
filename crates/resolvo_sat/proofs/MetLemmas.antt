-- What a walk back along the trail met, and what is learnt from it.
use Rattle.std.proofs.Common.{◌≡◌, ℕ, ◌+◌, ◌<◌, ◌≤◌, ◌⊎◌, inl, inr, Bool, true, false, not, cond, List, [], ◌∷◌, ◌++◌, reverse, take, length, get_or, refl, sym, ◌∙◌, ap, subst, arith, ◌==◌, eqb-true}
use Rattle.std.specs.Prelude.{slice_index_or, max}
use Rattle.std.specs.List.{remove}
use Rattle.std.specs.List.Sorted.{IsPermutation}
use Rattle.std.proofs.lemmas.List.Sorted.{IsPermutation-append_comm, list_any-IsPermutation}
use Rattle.std.proofs.lemmas.Bool.{both_ways}
use Rattle.std.proofs.lemmas.List.{length-reverse, take_all}
use Rattle.resolvo_pool_core.specs.declared.id.ClauseId.{ClauseId}
use Rattle.resolvo_pool_core.specs.declared.id.VariableId.{VariableId}
use Rattle.resolvo_store_core.specs.Signed.{Signed, negation, same_literal, has}
use Rattle.resolvo_store_core.specs.Clauses.{no, root}
use Rattle.resolvo_store_core.specs.Trail.{assigned, level_or}
use Rattle.resolvo_store_core.specs.declared.decision.Entry.{Entry}
use Rattle.resolvo_sat.specs.declared.state.SatState.{SatState}
use Rattle.resolvo_sat.specs.declared.analyze.Analysis.{Analysis}
use Rattle.resolvo_sat.specs.declared.analyze.Learnt.{Learnt}
use Rattle.resolvo_sat.specs.Known.{IsFalseUnder, clause_at}
use Rattle.resolvo_sat.specs.Entries.{literal_of, reason_of, made_true, before, top_level, IsPropagated, IsTrueAt}
use Rattle.resolvo_sat.specs.State.{count_of, history, clauses_of, named, IsDerived, IsState}
use Rattle.resolvo_sat.specs.Marks.{AreNone}
use Rattle.resolvo_sat.specs.Analysis.{is_seen, denied, Seen, Collects, IsAppended, MayBeAppended, AreDeniedBelow, IsAsserting, IsMet, IsBelow, AreFromClauses, IsLearnt, IsLearntOf, IsAnalysis, IsRefusal, IsReason, Walks}
use Rattle.resolvo_sat.proofs.Literals.{negation-negation, has-cons, has_here, has-append, has_left, has_right, more_has_old, more_has_new}
use Rattle.resolvo_sat.proofs.Refutations.{refutes_more}
use Rattle.resolvo_sat.proofs.Trails.{known_from_level, level_from_known, level_from_entry}
use Rattle.resolvo_sat.proofs.Guards.{level_is}
use Rattle.resolvo_sat.proofs.MarkLemmas.{denied_marked}
use Rattle.resolvo_sat.proofs.WalkLemmas.{Meets, false_same, inside, denied_next, with_root, kept_moved, kept_back, kept_alone}

-- the members of a list to which a literal was appended, where it is new
appended_old : (x : Signed) (new : Bool) (old more : List Signed) → IsAppended x new old more → (l : Signed) → has old l ≡ true → has more l ≡ true
appended_old x true old more is l h = subst (λ (ls : List Signed). has ls l ≡ true) (sym is) (has_left old (x ∷ []) l h)
appended_old x false old more is l h = subst (λ (ls : List Signed). has ls l ≡ true) (sym is) h

appended_cases : (x : Signed) (new : Bool) (old more : List Signed) → IsAppended x new old more → (l : Signed) → has more l ≡ true → (has old l ≡ true) ⊎ ((new ≡ true) × (x ≡ l))
appended_cases x true old more is l h = elim (has-append old (x ∷ []) l (subst (λ (ls : List Signed). has ls l ≡ true) is h)) [
  | inl a ↦ inl a
  | inr a ↦ elim (has-cons x [] l a) [ inl e ↦ inr (refl, e) | inr e ↦ absurd (both_ways false refl e) ]
]
appended_cases x false old more is l h = inl (subst (λ (ls : List Signed). has ls l ≡ true) is h)

-- no literal so far
pub collects_none : (seen : List Bool) (met : List Signed) → Collects [] seen met seen met
collects_none seen met = record { keeps = λ l h. h; covers = λ v h. inl h; only = λ l h. inl h }

-- of one literal more
only_more : (literals : List Signed) (i : ℕ) (x : Signed) (old new : List Bool) (earlier met : List Signed) → i < length literals → Collects (take i literals) old earlier new met → (l : Signed) → has met l ≡ true
    → (has earlier l ≡ true) ⊎ ((has (take (i + 1) literals) l ≡ true) × ((l.variable.0 ≡ 0) ⊎ (slice_index_or old l.variable.0 false ≡ false)))
only_more literals i x old new earlier met lt m l h = elim (m.only l h) [ inl a ↦ inl a | inr a ↦ inr (more_has_old literals i x l lt a.0, a.1) ]

has_new : (literals : List Signed) (i : ℕ) (x l : Signed) → i < length literals → x ≡ get_or literals i x → x ≡ l → has (take (i + 1) literals) l ≡ true
has_new literals i x l lt is e = subst (λ (y : Signed). has (take (i + 1) literals) y ≡ true) (sym is ∙ e) (more_has_new literals i x lt)

-- the root's literal
pub collects_root : (literals : List Signed) (i : ℕ) (x : Signed) (old new : List Bool) (earlier met more : List Signed) → i < length literals → x ≡ get_or literals i x → x.variable.0 ≡ 0 → MayBeAppended x met more
    → Collects (take i literals) old earlier new met → Collects (take (i + 1) literals) old earlier new more
collects_root literals i x old new earlier met more lt is is_root appended m = elim appended [ inl e ↦ go false e | inr e ↦ go true e ]
  where
    go : (b : Bool) → IsAppended x b met more → Collects (take (i + 1) literals) old earlier new more
    go b app = record {
      keeps = λ l h. appended_old x b met more app l (m.keeps l h);
      covers = λ v h. elim (m.covers v h) [
        | inl o ↦ inl o
        | inr o ↦ let (l, present, same) = o in inr (l, appended_old x b met more app l present, same)
      ];
      only = λ l h. elim (appended_cases x b met more app l h) [
        | inl o ↦ only_more literals i x old new earlier met lt m l o
        | inr n ↦ inr (has_new literals i x l lt is n.1, inl (ap (λ (y : Signed). y.variable.0) (sym n.1) ∙ is_root))
      ];
    }

-- a literal whose variable was marked
pub collects_more : (literals : List Signed) (i : ℕ) (x : Signed) (is_new : Bool) (old mid new : List Bool) (earlier met more : List Signed) → i < length literals → x ≡ get_or literals i x
    → is_new ≡ not (slice_index_or mid x.variable.0 false) → ((q : VariableId) → slice_index_or new q.0 false ≡ cond (x.variable.0 == q.0) true (slice_index_or mid q.0 false)) → IsAppended x is_new met more
    → Seen (take i literals) old mid → Collects (take i literals) old earlier mid met → Collects (take (i + 1) literals) old earlier new more
collects_more literals i x is_new old mid new earlier met more lt is was put app marked m = record {
  keeps = λ l h. appended_old x is_new met more app l (m.keeps l h);
  covers = λ v h. covers_here v (x.variable.0 == v) refl (sym (put (record { 0 = v })) ∙ h);
  only = λ l h. elim (appended_cases x is_new met more app l h) [
    | inl o ↦ only_more literals i x old mid earlier met lt m l o
    | inr n ↦ inr (has_new literals i x l lt is n.1, inr (subst (λ (y : Signed). slice_index_or old y.variable.0 false ≡ false) n.1 (unmarked (slice_index_or old x.variable.0 false) refl n.0)))
  ];
}
  where
    -- it is new only where it wasn't marked
    was_marked : (b : Bool) → slice_index_or mid x.variable.0 false ≡ b → false ≡ not b → slice_index_or mid x.variable.0 false ≡ true
    was_marked true e f = e
    was_marked false e f = absurd (both_ways false refl f)

    unmarked : (b : Bool) → slice_index_or old x.variable.0 false ≡ b → is_new ≡ true → slice_index_or old x.variable.0 false ≡ false
    unmarked false e n = e
    unmarked true e n = absurd (both_ways is_new (was ∙ ap not (marked.keeps x.variable.0 e)) n)

    earlier_covers : (v : ℕ) → slice_index_or mid v false ≡ true → (slice_index_or old v false ≡ true) ⊎ ((l : Signed) × (has more l ≡ true) × (l.variable.0 ≡ v))
    earlier_covers v h = elim (m.covers v h) [
      | inl o ↦ inl o
      | inr o ↦ let (l, present, same) = o in inr (l, appended_old x is_new met more app l present, same)
    ]

    here : (v : ℕ) (b : Bool) → is_new ≡ b → x.variable.0 ≡ v → (slice_index_or old v false ≡ true) ⊎ ((l : Signed) × (has more l ≡ true) × (l.variable.0 ≡ v))
    here v true n same = inr (x, subst (λ (ls : List Signed). has ls x ≡ true) (sym (subst (λ (b : Bool). IsAppended x b met more) n app)) (has_right met (x ∷ []) x (has_here x [] x refl)), same)
    here v false n same = earlier_covers v (ap (λ (n : ℕ). slice_index_or mid n false) (sym same) ∙ was_marked (slice_index_or mid x.variable.0 false) refl (sym n ∙ was))

    covers_here : (v : ℕ) (b : Bool) → (x.variable.0 == v) ≡ b → cond b true (slice_index_or mid v false) ≡ true → (slice_index_or old v false ≡ true) ⊎ ((l : Signed) × (has more l ≡ true) × (l.variable.0 ≡ v))
    covers_here v true e h = here v is_new refl (eqb-true _ _ e)
    covers_here v false e h = earlier_covers v h

-- what was met of a broken clause
pub met_starts : (s : SatState) (falsified : ClauseId) (none seen : List Bool) (met : List Signed) → IsFalseUnder (made_true (history s)) (clause_at (clauses_of s) falsified.0) → AreNone none
    → Collects (clause_at (clauses_of s) falsified.0) none [] seen met → IsMet s seen met
met_starts s falsified none seen met falls empty c = record {
  covers = λ v h. elim (c.covers v h) [ inl o ↦ absurd (both_ways (slice_index_or none v false) (empty v) o) | inr o ↦ o ];
  falls = λ l h. elim (c.only l h) [ inl a ↦ absurd (both_ways false refl a) | inr a ↦ falls l a.0 ];
  from = λ l h. elim (c.only l h) [ inl a ↦ absurd (both_ways false refl a) | inr a ↦ (falsified.0, a.0) ];
}

-- and of the reason of a marked entry
pub met_resolves : (s : SatState) (p : ℕ) (d : Entry) (old new : List Bool) (earlier met : List Signed) → Meets s p d → slice_index_or old 0 false ≡ false → is_seen old d ≡ true → IsPropagated (clauses_of s) d (before s.tracker.trail p)
    → Collects (clause_at (clauses_of s) (reason_of d)) old earlier new met → IsMet s old earlier → IsMet s new met
met_resolves s p d old new earlier met m rootless marked propagated c is_met = record {
  covers = λ v h. elim (c.covers v h) [ inl o ↦ (let (l, present, same) = is_met.covers v o in (l, c.keeps l present, same)) | inr o ↦ o ];
  falls = λ l h. elim (c.only l h) [ inl a ↦ is_met.falls l a | inr a ↦ fell l a.0 (elim a.1 [ inl z ↦ ap (λ (n : ℕ). slice_index_or old n false) z ∙ rootless | inr n ↦ n ]) ];
  from = λ l h. elim (c.only l h) [ inl a ↦ is_met.from l a | inr a ↦ (reason_of d, a.0) ];
}
  where
    fell : (l : Signed) → has (clause_at (clauses_of s) (reason_of d)) l ≡ true → slice_index_or old l.variable.0 false ≡ false → has (made_true (history s)) (negation l) ≡ true
    fell l present unmarked = elim (propagated.forced.others l present) [
      | inl e ↦ absurd (both_ways (slice_index_or old l.variable.0 false) unmarked (ap (λ (y : Signed). slice_index_or old y.variable.0 false) e ∙ marked))
      | inr f ↦ let (k, at) = level_from_known (before s.tracker.trail p) (negation l) f in known_from_level (history s) (negation l) k (inside s.tracker.trail p (negation l) k at)
    ]

-- an entry is asserting where each marked one before it is below its level, unless the one before it is below it
pub asserting : (s : SatState) (seen : List Bool) (e : Entry) (older : List Entry) (b : Bool) → s.base_level < e.level → e.level ≤ top_level older → (b ≡ true → AreDeniedBelow seen older e.level) → IsAsserting s seen e older b
asserting s seen e older true above low below = (above, below refl)
asserting s seen e older false above low below = λ _ high. omega arith

-- each literal that the marked entries deny is among those that were met below the level
denied_taken : (s : SatState) (p : ℕ) (level highest : ℕ) (seen : List Bool) (met others : List Signed) → IsState s → AreDeniedBelow seen (before s.tracker.trail p) level → IsMet s seen met → IsBelow s met level others highest
    → (l : Signed) → has (denied seen (before s.tracker.trail p)) l ≡ true → has others l ≡ true
denied_taken s p level highest seen met others state below is_met b l h =
    let (k, lt, at) = below l h in
    let here : IsTrueAt (history s) (negation l) k = inside s.tracker.trail p (negation l) k at in
    let (m, present, same) = is_met.covers l.variable.0 (denied_marked seen (before s.tracker.trail p) l h) in
    let is : m ≡ l = false_same (count_of s) (clauses_of s) (history s) m l state.trail (is_met.falls m present) (known_from_level (history s) (negation l) k here) same in
    let at_level : level_or (assigned s.tracker.trail l.variable.0) ≡ k = level_is s (negation l) k state here in
    b.takes l (subst (λ (y : Signed). has met y ≡ true) is present) (omega arith)

-- where the others hold each denied literal, the learnt clause does
others_hold : (denials others kept last : List Signed) → ((l : Signed) → has denials l ≡ true → has others l ≡ true) → (l : Signed) → has (denials ++ (kept ++ last)) l ≡ true → has ((others ++ kept) ++ last) l ≡ true
others_hold denials others kept last more l h = elim (has-append denials (kept ++ last) l h) [
  | inl a ↦ has_left (others ++ kept) last l (has_left others kept l (more l a))
  | inr a ↦ elim (has-append kept last l a) [
    | inl b ↦ has_left (others ++ kept) last l (has_right others kept l b)
    | inr b ↦ has_right (others ++ kept) last l b
  ]
]

-- a literal of the learnt clause was met, or is kept or the last one
of_learnt : (denials others kept last : List Signed) (l : Signed) → has ((others ++ kept) ++ last) l ≡ true → (has others l ≡ true) ⊎ (has (denials ++ (kept ++ last)) l ≡ true)
of_learnt denials others kept last l h = elim (has-append (others ++ kept) last l h) [
  | inl a ↦ elim (has-append others kept l a) [ inl b ↦ inl b | inr b ↦ inr (has_right denials (kept ++ last) l (has_left kept last l b)) ]
  | inr a ↦ inr (has_right denials (kept ++ last) l (has_right kept last l a))
]

walk_learns : (s : SatState) (p : ℕ) (d : Entry) (seen : List Bool) (kept met others : List Signed) (causes : List ClauseId) (highest : ℕ) (x : Learnt) → IsState s → Meets s p d → is_seen seen d ≡ true → AreDeniedBelow seen (before s.tracker.trail p) d.level
    → IsMet s seen met → IsBelow s met d.level others highest → x.level < d.level → highest ≤ x.level → s.base_level ≤ x.level → x.literals.items ≡ (others ++ kept) ++ negation (literal_of d) ∷ [] → x.causes.items ≡ reverse causes → x.asserting ≡ negation (literal_of d)
    → Walks s [] (p + 1) seen kept causes → IsLearnt s x
walk_learns s p d seen kept met others causes highest x state m marked below is_met b above low base_level is_literals is_causes is_asserted w =
    let older : List Entry = before s.tracker.trail p in
    let last : List Signed = negation (literal_of d) ∷ [] in
    let derived' : IsDerived (clauses_of s) (denied seen (d ∷ older) ++ kept) (reverse causes) = subst (λ (ls : List Signed). IsDerived (clauses_of s) (ls ++ kept) (reverse causes)) (denied_next s p d seen m) w.derived in
    let from' : AreFromClauses s (denied seen (d ∷ older) ++ kept) = subst (λ (ls : List Signed). AreFromClauses s (ls ++ kept)) (denied_next s p d seen m) w.from in
    record {
      derived = subst (λ (cs : List ClauseId). IsDerived (clauses_of s) x.literals.items cs) (sym is_causes) (subst (λ (ls : List Signed). IsDerived (clauses_of s) ls (reverse causes)) (sym is_literals) (record {
        in_range = derived'.in_range;
        refuted = refutes_more (no root ∷ (denied seen (d ∷ older) ++ kept)) (no root ∷ ((others ++ kept) ++ last)) (named (clauses_of s) (reverse causes))
            (λ l h. with_root (denied seen (d ∷ older) ++ kept) ((others ++ kept) ++ last) l
            (λ y i. others_hold (denied seen older) others kept last (denied_taken s p d.level highest seen met others state below is_met b) y (kept_moved seen d older kept y i)) h)
            derived'.refuted;
      }));
      caused = subst (λ (cs : List ClauseId). 0 < length cs) (sym is_causes) (let same : length (reverse causes) ≡ length causes = length-reverse causes in let some : 0 < length causes = w.caused in omega arith);
      from = λ l h. elim (of_learnt (denied seen older) others kept last l (subst (λ (ls : List Signed). has ls l ≡ true) is_literals h)) [
        | inl a ↦ is_met.from l (b.only l a).0
        | inr a ↦ from' l (kept_back seen d older kept l marked a)
      ];
      present = subst (λ (l : Signed). has x.literals.items l ≡ true) (sym is_asserted) (subst (λ (ls : List Signed). has ls (negation (literal_of d)) ≡ true) (sym is_literals) (has_right (others ++ kept) last (negation (literal_of d)) (has_here (negation (literal_of d)) [] (negation (literal_of d)) refl)));
      others = λ l h. elim (has-append (others ++ kept) last l (subst (λ (ls : List Signed). has ls l ≡ true) is_literals h)) [
        | inl a ↦ elim (has-append others kept l a) [
          | inl c ↦
              let (k, at) = level_from_known (history s) (negation l) (is_met.falls l (b.only l c).0) in
              let at_level : level_or (assigned s.tracker.trail l.variable.0) ≡ k = level_is s (negation l) k state at in
              let under : level_or (assigned s.tracker.trail l.variable.0) ≤ highest = (b.only l c).1 in
              inr (k, omega arith, at)
          | inr c ↦
              let (e, before_e, on, is, kept_e) = kept_alone s kept w.denies l c in
              let under : e.level ≤ s.base_level = kept_e.low in
              inr (e.level, omega arith, subst (λ (y : Signed). IsTrueAt (history s) y e.level) is (level_from_entry (history s) e before_e on))
        ]
        | inr a ↦ elim (has-cons (negation (literal_of d)) [] l a) [
          | inl e ↦ inl (sym e ∙ sym is_asserted)
          | inr e ↦ absurd (both_ways false refl e)
        ]
      ];
      fell = (d.level, above, inside s.tracker.trail (p + 1) (negation x.asserting) d.level (subst (λ (h : List Entry). IsTrueAt h (negation x.asserting) d.level) (sym m.next) (inl (sym (ap negation is_asserted ∙ negation-negation (literal_of d)), refl))));
      low = base_level;
    }

-- the learnt clause of an entry that is the last marked one of its level, as an analysis
pub learnt_analysis : (s : SatState) (p : ℕ) (d : Entry) (seen : List Bool) (kept met others : List Signed) (causes : List ClauseId) (highest : ℕ) (x : Analysis) → IsState s → Meets s p d → is_seen seen d ≡ true → AreDeniedBelow seen (before s.tracker.trail p) d.level
    → s.base_level < d.level → IsMet s seen met → IsBelow s met d.level others highest → Walks s [] (p + 1) seen kept causes → IsLearntOf others kept causes d (max s.base_level highest) x → IsAnalysis s x
learnt_analysis s p d seen kept met others causes highest (Analysis.Refused x) state m marked below above is_met b w of = absurd of
learnt_analysis s p d seen kept met others causes highest (Analysis.Learnt x) state m marked below above is_met b w of =
    let is_level : x.level ≡ max s.base_level highest = of.3 in
    let under : highest < d.level = b.low in
    walk_learns s p d seen kept met others causes highest x state m marked below is_met b (omega arith) (omega arith) (omega arith) of.0 of.1 of.2 w

-- the same literals in another order
same_has : (xs ys : List Signed) → IsPermutation xs ys → (l : Signed) → has xs l ≡ has ys l
same_has xs ys moved l = list_any-IsPermutation (λ (x : Signed). same_literal x l) xs ys moved

derived_moved : (cs : List (List Signed)) (xs ys : List Signed) (causes : List ClauseId) → IsPermutation xs ys → IsDerived cs xs causes → IsDerived cs ys causes
derived_moved cs xs ys causes moved d = record {
  in_range = d.in_range;
  refuted = refutes_more (no root ∷ xs) (no root ∷ ys) (named cs causes) (λ l h. with_root xs ys l (λ y i. sym (same_has xs ys moved y) ∙ i) h) d.refuted;
}

pub refusal_moved : (s : SatState) (xs ys : List Signed) (causes : List ClauseId) → IsPermutation xs ys → IsRefusal s xs causes → IsRefusal s ys causes
refusal_moved s xs ys causes moved r = record {
  derived = derived_moved (clauses_of s) xs ys causes moved r.derived;
  caused = r.caused;
  from = λ l h. r.from l (same_has xs ys moved l ∙ h);
  denies = λ l h. r.denies l (same_has xs ys moved l ∙ h);
}

pub reason_moved : (s : SatState) (x : Signed) (xs ys : List Signed) (causes : List ClauseId) → IsPermutation xs ys → IsReason s x xs causes → IsReason s x ys causes
reason_moved s x xs ys causes moved r = record {
  derived = derived_moved (clauses_of s) xs ys causes moved r.derived;
  caused = r.caused;
  from = λ l h. r.from l (same_has xs ys moved l ∙ h);
  denies = λ l h. r.denies l (same_has xs ys moved l ∙ h);
}

-- the first one became the last one
pub rotated : {X : Type 0} (xs ys : List X) (x : X) → 0 < length xs → x ≡ slice_index_or xs 0 x → ys ≡ remove xs 0 ++ x ∷ [] → IsPermutation xs ys
rotated [] ys x some is moved = absurd (omega arith)
rotated {X} (d ∷ xs) ys x some is moved = subst (IsPermutation (d ∷ xs)) (sym (moved ∙ ap (λ (y : X). xs ++ y ∷ []) is)) (IsPermutation-append_comm (d ∷ []) xs)

-- the literals below the level, of those that were met so far
pub below_none : (s : SatState) (level : ℕ) → 0 < level → IsBelow s [] level [] 0
below_none s level above = record { only = λ l h. absurd (both_ways false refl h); takes = λ l h lt. absurd (both_ways false refl h); low = above }

pub below_ends : (s : SatState) (met : List Signed) (i level : ℕ) (literals moved : List Signed) (highest : ℕ) → length met ≤ i → IsPermutation literals moved → IsBelow s (take i met) level literals highest → IsBelow s met level moved highest
below_ends s met i level literals moved highest all same b =
    let whole : take i met ≡ met = take_all i met all in
    record {
      only = λ l h. let (a, low) = b.only l (same_has literals moved same l ∙ h) in (subst (λ (ms : List Signed). has ms l ≡ true) whole a, low);
      takes = λ l h low. sym (same_has literals moved same l) ∙ b.takes l (subst (λ (ms : List Signed). has ms l ≡ true) (sym whole) h) low;
      low = b.low;
    }
