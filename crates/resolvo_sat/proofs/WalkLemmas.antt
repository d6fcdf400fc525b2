-- The walk back along the trail from a broken clause.
use Rattle.std.proofs.Common.{◌≡◌, ℕ, zero, suc, ◌+◌, ◌-◌, ◌<◌, ◌≤◌, ◌⊎◌, inl, inr, Bool, true, false, cond, List, [], ◌∷◌, ◌++◌, reverse, drop, length, refl, sym, ◌∙◌, ap, subst, arith}
use Rattle.std.specs.Prelude.{slice_index_or, nat_eq, nat_lt, IfOk, Result, Ok, Err}
use Rattle.std.proofs.lemmas.Bool.{both_ways, cases_Bool}
use Rattle.std.proofs.lemmas.Bool.Decides.{nat_tests}
use Rattle.std.proofs.lemmas.List.{reverse-append, length-reverse}
use Rattle.resolvo_pool_core.specs.declared.id.ClauseId.{ClauseId}
use Rattle.resolvo_pool_core.specs.declared.id.VariableId.{VariableId}
use Rattle.resolvo_store_core.specs.Signed.{Signed, negation, has}
use Rattle.resolvo_store_core.specs.Clauses.{yes, no, root}
use Rattle.resolvo_store_core.specs.declared.decision.Entry.{Entry}
use Rattle.resolvo_sat.specs.declared.state.SatState.{SatState}
use Rattle.resolvo_sat.specs.Known.{IsFalseUnder, IsUndecided, IsForced, clause_at}
use Rattle.resolvo_sat.specs.Entries.{literal_of, reason_of, made_true, before, top_level, IsChoice, IsPropagated, IsReasoned, Follows, IsTrail, IsTrueAt, IsOnTrail, IsRooted}
use Rattle.resolvo_sat.specs.State.{count_of, history, clauses_of, named, IsDerived, IsState}
use Rattle.resolvo_sat.specs.Marks.{AreNone}
use Rattle.resolvo_sat.specs.Analysis.{is_seen, denied, Seen, IsSolvable, IsAssumption, IsDecisionOrForced, AreFromClauses, IsRefusal, IsReason, DenyAssumptions, DenyAssumptionsBut, Walks}
use Rattle.resolvo_sat.proofs.Literals.{negation-negation, has-cons, has_here, has_later, has-append, has_left, has_right}
use Rattle.resolvo_sat.proofs.Refutations.{exact, own, refutes_more, refutes_falsified, refutes_step}
use Rattle.resolvo_sat.proofs.Trails.{before_all, whole_trail, trail_before, consistent, same_or_negated, known_from_level, level_le_last, level_from_entry, root_known, rooted_rest}
use Rattle.resolvo_sat.proofs.MarkLemmas.{denied_cases, denied_later, denied_level, denied_has, denied_more, denied_marked}

pub in_range_from : (cs : List (List Signed)) (n : ℕ) (l : Signed) → has (clause_at cs n) l ≡ true → n < length cs
in_range_from [] n l h = absurd (both_ways false refl h)
in_range_from (c ∷ cs) zero l h = omega arith
in_range_from (c ∷ cs) (suc n) l h = let a : n < length cs = in_range_from cs n l h in omega arith

-- two false literals of one variable are one
pub false_same : (count : ℕ) (cs : List (List Signed)) (h : List Entry) (l m : Signed) → IsTrail count cs h → has (made_true h) (negation l) ≡ true → has (made_true h) (negation m) ≡ true → l.variable.0 ≡ m.variable.0 → l ≡ m
false_same count cs h l m t fl fm e = elim (same_or_negated l m e) [
  | inl i ↦ i
  | inr i ↦ absurd (consistent count cs h m t (subst (λ (x : Signed). has (made_true h) x ≡ true) (ap negation i ∙ negation-negation m) fl) fm)
]

-- a false literal of the root is its negation
pub root_false : (count : ℕ) (cs : List (List Signed)) (h : List Entry) (l : Signed) → IsTrail count cs h → has (made_true h) (yes root) ≡ true → has (made_true h) (negation l) ≡ true → l.variable.0 ≡ 0 → l ≡ no root
root_false count cs h l t rooted fl e = false_same count cs h l (no root) t fl rooted e

level_under : (p base : List Entry) (l : Signed) (k : ℕ) → IsTrueAt base l k → IsTrueAt (p ++ base) l k
level_under [] base l k s = s
level_under (d ∷ p) base l k s = inr (level_under p base l k s)

on_trail_under : (p base : List Entry) (e : Entry) (older : List Entry) → IsOnTrail base e older → IsOnTrail (p ++ base) e older
on_trail_under [] base e older s = s
on_trail_under (d ∷ p) base e older s = inr (on_trail_under p base e older s)

-- an entry before a place is on the trail
pub inside : (xs : List Entry) (n : ℕ) (l : Signed) (k : ℕ) → IsTrueAt (before xs n) l k → IsTrueAt (reverse xs) l k
inside xs n l k s = subst (λ (h : List Entry). IsTrueAt h l k) (sym (whole_trail xs n)) (level_under (reverse (drop n xs)) (before xs n) l k s)

pub inside_on : (xs : List Entry) (n : ℕ) (e : Entry) (older : List Entry) → IsOnTrail (before xs n) e older → IsOnTrail (reverse xs) e older
inside_on xs n e older s = subst (λ (h : List Entry). IsOnTrail h e older) (sym (whole_trail xs n)) (on_trail_under (reverse (drop n xs)) (before xs n) e older s)

-- the newest entry before a place, with its properties
pub record Meets (s : SatState) (p : ℕ) (d : Entry) : Type 0 where
  pub in_range : p < length s.tracker.trail
  pub next : before s.tracker.trail (p + 1) ≡ d ∷ before s.tracker.trail p
  pub follows : Follows (count_of s) (clauses_of s) d (before s.tracker.trail p)
  pub trail : IsTrail (count_of s) (clauses_of s) (before s.tracker.trail p)

pub meets : (s : SatState) (p : ℕ) (d : Entry) → IsState s → p < length s.tracker.trail → before s.tracker.trail (p + 1) ≡ d ∷ before s.tracker.trail p → Meets s p d
meets s p d state h e =
    let t : IsTrail (count_of s) (clauses_of s) (d ∷ before s.tracker.trail p) = subst (IsTrail (count_of s) (clauses_of s)) e (trail_before (count_of s) (clauses_of s) s.tracker.trail (p + 1) state.trail) in
    record { in_range = h; next = e; follows = t.0; trail = t.1 }

-- the entries before a place that was read
pub came : (xs : List Entry) (n : ℕ) (d : Entry) → 0 < n → before xs (n - 1 + 1) ≡ d ∷ before xs (n - 1) → before xs n ≡ d ∷ before xs (n - 1)
came xs n d some next = let same : n ≡ n - 1 + 1 = omega arith in ap (before xs) same ∙ next

-- the denied literals before the place, with the newest entry apart
pub denied_next : (s : SatState) (p : ℕ) (d : Entry) (seen : List Bool) → Meets s p d → denied seen (before s.tracker.trail (p + 1)) ≡ denied seen (d ∷ before s.tracker.trail p)
denied_next s p d seen m = ap (denied seen) m.next

-- the literals with the root's before them
pub with_root : (xs ys : List Signed) (l : Signed) → ((m : Signed) → has xs m ≡ true → has ys m ≡ true) → has (no root ∷ xs) l ≡ true → has (no root ∷ ys) l ≡ true
with_root xs ys l more h = elim (has-cons (no root) xs l h) [ inl e ↦ has_here (no root) ys l e | inr e ↦ has_later (no root) ys l (more l e) ]

pub kept_moved : (seen : List Bool) (d : Entry) (older : List Entry) (kept : List Signed) (l : Signed) → has (denied seen (d ∷ older) ++ kept) l ≡ true → has (denied seen older ++ (kept ++ negation (literal_of d) ∷ [])) l ≡ true
kept_moved seen d older kept l h = elim (has-append (denied seen (d ∷ older)) kept l h) [
  | inl a ↦ elim (denied_cases seen d older l a) [
    | inl i ↦ has_right (denied seen older) (kept ++ negation (literal_of d) ∷ []) l (has_right kept (negation (literal_of d) ∷ []) l (has_here (negation (literal_of d)) [] l (sym i.1)))
    | inr i ↦ has_left (denied seen older) (kept ++ negation (literal_of d) ∷ []) l i
  ]
  | inr a ↦ has_right (denied seen older) (kept ++ negation (literal_of d) ∷ []) l (has_left kept (negation (literal_of d) ∷ []) l a)
]

denied_first : (seen : List Bool) (d : Entry) (older : List Entry) → is_seen seen d ≡ true → denied seen (d ∷ older) ≡ negation (literal_of d) ∷ denied seen older
denied_first seen d older m = ap (λ b. cond b (negation (literal_of d) ∷ denied seen older) (denied seen older)) m

pub kept_back : (seen : List Bool) (d : Entry) (older : List Entry) (kept : List Signed) (l : Signed) → is_seen seen d ≡ true → has (denied seen older ++ (kept ++ negation (literal_of d) ∷ [])) l ≡ true → has (denied seen (d ∷ older) ++ kept) l ≡ true
kept_back seen d older kept l m h = elim (has-append (denied seen older) (kept ++ negation (literal_of d) ∷ []) l h) [
  | inl a ↦ has_left (denied seen (d ∷ older)) kept l (denied_later seen d older l a)
  | inr a ↦ elim (has-append kept (negation (literal_of d) ∷ []) l a) [
    | inl b ↦ has_right (denied seen (d ∷ older)) kept l b
    | inr b ↦ elim (has-cons (negation (literal_of d)) [] l b) [
      | inl e ↦ has_left (denied seen (d ∷ older)) kept l (subst (λ (ls : List Signed). has ls l ≡ true) (sym (denied_first seen d older m)) (has_here (negation (literal_of d)) (denied seen older) l e))
      | inr e ↦ absurd (both_ways false refl e)
    ]
  ]
]

pub walk_keeps : (s : SatState) (begun : List Signed) (p : ℕ) (d : Entry) (seen : List Bool) (kept more : List Signed) (causes : List ClauseId) → Meets s p d → is_seen seen d ≡ true → IsAssumption s d (before s.tracker.trail p)
    → more ≡ kept ++ negation (literal_of d) ∷ [] → Walks s begun (p + 1) seen kept causes → Walks s begun p seen more causes
walk_keeps s begun p d seen kept more causes m marked is_decision push w =
    let older : List Entry = before s.tracker.trail p in
    let bound : p < length s.tracker.trail = m.in_range in
    let derived' : IsDerived (clauses_of s) (denied seen (d ∷ older) ++ kept) (reverse causes) = subst (λ (ls : List Signed). IsDerived (clauses_of s) (ls ++ kept) (reverse causes)) (denied_next s p d seen m) w.derived in
    let from' : AreFromClauses s (denied seen (d ∷ older) ++ kept) = subst (λ (ls : List Signed). AreFromClauses s (ls ++ kept)) (denied_next s p d seen m) w.from in
    subst (λ (k : List Signed). Walks s begun p seen k causes) (sym push) (record {
      in_range = omega arith;
      derived = record {
        in_range = derived'.in_range;
        refuted = refutes_more (no root ∷ (denied seen (d ∷ older) ++ kept)) (no root ∷ (denied seen older ++ (kept ++ negation (literal_of d) ∷ []))) (named (clauses_of s) (reverse causes))
            (λ l h. with_root (denied seen (d ∷ older) ++ kept) (denied seen older ++ (kept ++ negation (literal_of d) ∷ [])) l (λ x i. kept_moved seen d older kept x i) h)
            derived'.refuted;
      };
      caused = w.caused;
      from = λ l h. from' l (kept_back seen d older kept l marked h);
      denies = λ l h. elim (has-append kept (negation (literal_of d) ∷ []) l h) [
        | inl a ↦ w.denies l a
        | inr a ↦ elim (has-cons (negation (literal_of d)) [] l a) [
          | inl e ↦ inr (d, older, inside_on s.tracker.trail (p + 1) d older (subst (λ (x : List Entry). IsOnTrail x d older) (sym m.next) (inl (refl, refl))), sym (negation-negation (literal_of d)) ∙ ap negation e, is_decision)
          | inr e ↦ absurd (both_ways false refl e)
        ]
      ];
      rootless = w.rootless;
    })

-- the walk at the place that was read
pub walk_at : (s : SatState) (begun : List Signed) (n : ℕ) (seen : List Bool) (kept : List Signed) (causes : List ClauseId) → 0 < n → Walks s begun n seen kept causes → Walks s begun (n - 1 + 1) seen kept causes
walk_at s begun n seen kept causes some w = let same : n ≡ n - 1 + 1 = omega arith in subst (λ (m : ℕ). Walks s begun m seen kept causes) same w

reverse_push : {X : Type 0} (xs : List X) (y : X) → reverse (xs ++ y ∷ []) ≡ y ∷ reverse xs
reverse_push xs y = reverse-append xs (y ∷ [])

-- the literals of the reason are the entry's, or denied once its variables are marked
reason_marked : (s : SatState) (p : ℕ) (d : Entry) (c : List Signed) (old new : List Bool) → Meets s p d → has (made_true (before s.tracker.trail p)) (yes root) ≡ true → IsForced c (literal_of d) (made_true (before s.tracker.trail p)) → Seen c old new
    → (l : Signed) → has c l ≡ true → (l ≡ literal_of d) ⊎ ((l ≡ no root) ⊎ (has (denied new (before s.tracker.trail p)) l ≡ true))
reason_marked s p d c old new m rooted forced marked l h = elim (forced.others l h) [
  | inl e ↦ inl e
  | inr f ↦ inr (elim (marked.takes l h) [
    | inl z ↦ inl (root_false (count_of s) (clauses_of s) (before s.tracker.trail p) l m.trail rooted f z)
    | inr r ↦ inr (denied_has new (before s.tracker.trail p) l f r)
  ])
]

-- an entry's variable has no value before it
not_before : (h : List Entry) (d : Entry) (l : Signed) → IsUndecided (made_true h) (literal_of d) → has (made_true h) (negation l) ≡ true → l.variable.0 ≡ d.decision.variable.0 → ⊥
not_before h d l u f e = elim (same_or_negated (negation l) (literal_of d) e) [
  | inl i ↦ both_ways _ u.not_true (subst (λ (x : Signed). has (made_true h) x ≡ true) i f)
  | inr i ↦ both_ways _ u.not_false (subst (λ (x : Signed). has (made_true h) x ≡ true) i f)
]

-- a newly denied literal is in the reason
from_reason : (s : SatState) (p : ℕ) (d : Entry) (c : List Signed) (old new : List Bool) → Meets s p d → IsForced c (literal_of d) (made_true (before s.tracker.trail p)) → Seen c old new
    → (l : Signed) → has (denied new (before s.tracker.trail p)) l ≡ true → (has (denied old (before s.tracker.trail p)) l ≡ true) ⊎ (has c l ≡ true)
from_reason s p d c old new m forced marked l h =
    let older : List Entry = before s.tracker.trail p in
    let denied_from = denied_level new older l h in
    let f : has (made_true older) (negation l) ≡ true = known_from_level older (negation l) denied_from.0 denied_from.1 in
    elim (marked.only l.variable.0 (denied_marked new older l h)) [
      | inl o ↦ inl (denied_has old older l f o)
      | inr o ↦
          let (x, present, same) = o.1 in
          inr (elim (forced.others x present) [
            | inl e ↦ absurd (not_before older d l m.follows.undecided f (sym same ∙ ap (λ (y : Signed). y.variable.0) e))
            | inr g ↦ subst (λ (y : Signed). has c y ≡ true) (false_same (count_of s) (clauses_of s) older x l m.trail g f same) present
          ])
    ]

-- the root isn't marked
still_rootless : (literals : List Signed) (old new : List Bool) → Seen literals old new → slice_index_or old 0 false ≡ false → slice_index_or new 0 false ≡ false
still_rootless literals old new marked before_ = go (slice_index_or new 0 false) refl
  where
    go : (b : Bool) → slice_index_or new 0 false ≡ b → b ≡ false
    go false e = refl
    go true e = elim (marked.only 0 e) [ inl o ↦ absurd (both_ways _ before_ o) | inr o ↦ absurd (o.0 refl) ]

-- the root is true before a marked entry
pub rooted_before : (s : SatState) (p : ℕ) (d : Entry) (seen : List Bool) → IsState s → Meets s p d → slice_index_or seen 0 false ≡ false → is_seen seen d ≡ true → has (made_true (before s.tracker.trail p)) (yes root) ≡ true
rooted_before s p d seen state m rootless marked =
    let whole : history s ≡ reverse (drop (p + 1) s.tracker.trail) ++ (d ∷ before s.tracker.trail p) = whole_trail s.tracker.trail (p + 1) ∙ ap (λ (h : List Entry). reverse (drop (p + 1) s.tracker.trail) ++ h) m.next in
    let here : IsRooted (d ∷ before s.tracker.trail p) = rooted_rest (reverse (drop (p + 1) s.tracker.trail)) d (before s.tracker.trail p) (subst IsRooted whole state.rooted) in
    go (before s.tracker.trail p) here
  where
    go : (older : List Entry) → IsRooted (d ∷ older) → has (made_true older) (yes root) ≡ true
    go [] r =
        let zero_is : d.decision.variable.0 ≡ 0 = ap (λ (l : Signed). l.variable.0) r.0 in
        absurd (both_ways (is_seen seen d) (ap (λ n. slice_index_or seen n false) zero_is ∙ rootless) marked)
    go (e ∷ older) r = root_known (e ∷ older) r

pub walk_resolves : (s : SatState) (begun : List Signed) (p : ℕ) (d : Entry) (old new : List Bool) (kept : List Signed) (causes more : List ClauseId) → Meets s p d → has (made_true (before s.tracker.trail p)) (yes root) ≡ true
    → IsPropagated (clauses_of s) d (before s.tracker.trail p) → Seen (clause_at (clauses_of s) (reason_of d)) old new → more ≡ causes ++ d.decision.derived_from ∷ [] → Walks s begun (p + 1) old kept causes → Walks s begun p new kept more
walk_resolves s begun p d old new kept causes more m rooted propagated marked push w =
    let older : List Entry = before s.tracker.trail p in
    let c : List Signed = clause_at (clauses_of s) (reason_of d) in
    let forced : IsForced c (literal_of d) (made_true older) = propagated.forced in
    let bound : p < length s.tracker.trail = m.in_range in
    let derived' : IsDerived (clauses_of s) (denied old (d ∷ older) ++ kept) (reverse causes) = subst (λ (ls : List Signed). IsDerived (clauses_of s) (ls ++ kept) (reverse causes)) (denied_next s p d old m) w.derived in
    let from' : AreFromClauses s (denied old (d ∷ older) ++ kept) = subst (λ (ls : List Signed). AreFromClauses s (ls ++ kept)) (denied_next s p d old m) w.from in
    let order : d.decision.derived_from ∷ reverse causes ≡ reverse more = sym (ap reverse push ∙ reverse_push causes d.decision.derived_from) in
    record {
      in_range = omega arith;
      derived = subst (IsDerived (clauses_of s) (denied new older ++ kept)) order (record {
        in_range = (in_range_from (clauses_of s) (reason_of d) (literal_of d) forced.present, derived'.in_range);
        refuted = refutes_step (no root ∷ (denied old (d ∷ older) ++ kept)) (no root ∷ (denied new older ++ kept)) c (literal_of d) (named (clauses_of s) (reverse causes))
            (λ l h. elim (has-cons (no root) (denied old (d ∷ older) ++ kept) l h) [
              | inl e ↦ inr (has_here (no root) (denied new older ++ kept) l e)
              | inr e ↦ elim (has-append (denied old (d ∷ older)) kept l e) [
                | inl a ↦ elim (denied_cases old d older l a) [
                  | inl i ↦ inl i.1
                  | inr i ↦ inr (has_later (no root) (denied new older ++ kept) l (has_left (denied new older) kept l (denied_more old new older l marked.keeps i)))
                ]
                | inr a ↦ inr (has_later (no root) (denied new older ++ kept) l (has_right (denied new older) kept l a))
              ]
            ])
            (λ l h. elim (reason_marked s p d c old new m rooted forced marked l h) [
              | inl e ↦ inl e
              | inr r ↦ inr (elim r [
                | inl e ↦ has_here (no root) (denied new older ++ kept) l (sym e)
                | inr e ↦ has_later (no root) (denied new older ++ kept) l (has_left (denied new older) kept l e)
              ])
            ])
            derived'.refuted;
      });
      caused = subst (λ (cs : List ClauseId). 0 < length cs) (sym push) (some_pushed causes d.decision.derived_from);
      from = λ l h. elim (has-append (denied new older) kept l h) [
        | inl a ↦ elim (from_reason s p d c old new m forced marked l a) [
          | inl b ↦ from' l (has_left (denied old (d ∷ older)) kept l (denied_later old d older l b))
          | inr b ↦ (reason_of d, b)
        ]
        | inr a ↦ from' l (has_right (denied old (d ∷ older)) kept l a)
      ];
      denies = w.denies;
      rootless = still_rootless c old new marked w.rootless;
    }
  where
    some_pushed : (xs : List ClauseId) (y : ClauseId) → 0 < length (xs ++ y ∷ [])
    some_pushed [] y = omega arith
    some_pushed (x ∷ xs) y = omega arith

pub walk_starts : (s : SatState) (falsified : ClauseId) (none seen : List Bool) → IsState s → falsified.0 < length (clauses_of s) → IsFalseUnder (made_true (history s)) (clause_at (clauses_of s) falsified.0) → AreNone none → Seen (clause_at (clauses_of s) falsified.0) none seen
    → Walks s [] (length s.tracker.trail) seen [] (falsified ∷ [])
walk_starts s falsified none seen state bound falls empty marked =
    let all : before s.tracker.trail (length s.tracker.trail) ≡ history s = before_all s.tracker.trail in
    let c : List Signed = clause_at (clauses_of s) falsified.0 in
    let rooted : has (made_true (history s)) (yes root) ≡ true = root_known (history s) state.rooted in
    let here : (l : Signed) → has c l ≡ true → has (no root ∷ (denied seen (history s) ++ [])) l ≡ true = λ l h.
    elim (marked.takes l h) [
      | inl z ↦ has_here (no root) (denied seen (history s) ++ []) l (sym (root_false (count_of s) (clauses_of s) (history s) l state.trail rooted (falls l h) z))
      | inr r ↦ has_later (no root) (denied seen (history s) ++ []) l (has_left (denied seen (history s)) [] l (denied_has seen (history s) l (falls l h) r))
    ] in
    let derived' : IsDerived (clauses_of s) (denied seen (history s) ++ []) (falsified ∷ []) = record { in_range = (bound, tt); refuted = refutes_falsified c (no root ∷ (denied seen (history s) ++ [])) here } in
    let from' : AreFromClauses s (denied seen (history s) ++ []) = λ l h. elim (has-append (denied seen (history s)) [] l h) [ inl a ↦ denied_from l a | inr a ↦ absurd (both_ways false refl a) ] in
    record {
      in_range = omega arith;
      derived = subst (λ (h : List Entry). IsDerived (clauses_of s) (denied seen h ++ []) (falsified ∷ [])) (sym all) derived';
      caused = omega arith;
      from = subst (λ (h : List Entry). AreFromClauses s (denied seen h ++ [])) (sym all) from';
      denies = λ l h. absurd (both_ways false refl h);
      rootless = still_rootless c none seen marked (empty 0);
    }
  where
    denied_from : (l : Signed) → has (denied seen (history s)) l ≡ true → (n : ℕ) × (has (clause_at (clauses_of s) n) l ≡ true)
    denied_from l a =
        let (k, at) = denied_level seen (history s) l a in
        elim (marked.only l.variable.0 (denied_marked seen (history s) l a)) [
          | inl o ↦ absurd (both_ways (slice_index_or none l.variable.0 false) (empty l.variable.0) o)
          | inr o ↦
              let (x, present, same) = o.1 in
              (falsified.0, subst (λ (y : Signed). has (clause_at (clauses_of s) falsified.0) y ≡ true) (false_same (count_of s) (clauses_of s) (history s) x l state.trail (falls x present) (known_from_level (history s) (negation l) k at) same) present)
        ]

-- a walk from a broken clause keeps nothing but choices
pub kept_alone : (s : SatState) (kept : List Signed) → DenyAssumptionsBut s [] kept → DenyAssumptions s kept
kept_alone s kept denies l h = elim (denies l h) [ inl e ↦ absurd (both_ways false refl e) | inr k ↦ k ]

-- no literal is denied where none is counted
none_denied : (seen : List Bool) (h : List Entry) → length (denied seen h) ≤ 0 → denied seen h ≡ []
none_denied seen h few = go (denied seen h) few
  where
    go : (ls : List Signed) → length ls ≤ 0 → ls ≡ []
    go [] few = refl
    go (l ∷ ls) few = absurd (omega arith)

-- no entry is before the first place
pub none_first : (xs : List Entry) (p : ℕ) (seen : List Bool) → p ≤ 0 → length (denied seen (before xs p)) ≤ 0
none_first xs zero seen le = omega arith
none_first xs (suc p) seen le = absurd (omega arith)

-- where no marked entry is left, only the kept literals are
walk_rests : (s : SatState) (begun : List Signed) (p : ℕ) (seen : List Bool) (kept : List Signed) (causes : List ClauseId) → length (denied seen (before s.tracker.trail p)) ≤ 0 → Walks s begun p seen kept causes
    → IsDerived (clauses_of s) kept (reverse causes) × AreFromClauses s kept
walk_rests s begun p seen kept causes few w =
    let none : denied seen (before s.tracker.trail p) ≡ [] = none_denied seen (before s.tracker.trail p) few in
    (subst (λ (ls : List Signed). IsDerived (clauses_of s) (ls ++ kept) (reverse causes)) none w.derived, subst (λ (ls : List Signed). AreFromClauses s (ls ++ kept)) none w.from)

pub walk_ends : (s : SatState) (p : ℕ) (seen : List Bool) (kept : List Signed) (causes : List ClauseId) → length (denied seen (before s.tracker.trail p)) ≤ 0 → Walks s [] p seen kept causes → IsRefusal s kept (reverse causes)
walk_ends s p seen kept causes few w =
    let (derived, from) = walk_rests s [] p seen kept causes few w in
    record {
      derived = derived;
      caused = (let same : length (reverse causes) ≡ length causes = length-reverse causes in let some : 0 < length causes = w.caused in omega arith);
      from = from;
      denies = kept_alone s kept w.denies;
    }

-- a walk that begins at the reason of a literal that an entry made true
pub walk_begins : (s : SatState) (p : ℕ) (d : Entry) (none seen : List Bool) → Meets s p d → has (made_true (before s.tracker.trail p)) (yes root) ≡ true → IsPropagated (clauses_of s) d (before s.tracker.trail p)
    → AreNone none → Seen (clause_at (clauses_of s) (reason_of d)) none seen → Walks s (literal_of d ∷ []) p seen (literal_of d ∷ []) (d.decision.derived_from ∷ [])
walk_begins s p d none seen m rooted propagated empty marked =
    let older : List Entry = before s.tracker.trail p in
    let c : List Signed = clause_at (clauses_of s) (reason_of d) in
    let forced : IsForced c (literal_of d) (made_true older) = propagated.forced in
    let bound : p < length s.tracker.trail = m.in_range in
    record {
      in_range = omega arith;
      derived = record {
        in_range = (in_range_from (clauses_of s) (reason_of d) (literal_of d) forced.present, tt);
        refuted = refutes_falsified c (no root ∷ (denied seen older ++ literal_of d ∷ [])) (λ l h. elim (reason_marked s p d c none seen m rooted forced marked l h) [
          | inl e ↦ has_later (no root) (denied seen older ++ literal_of d ∷ []) l (has_right (denied seen older) (literal_of d ∷ []) l (has_here (literal_of d) [] l (sym e)))
          | inr r ↦ elim r [
            | inl z ↦ has_here (no root) (denied seen older ++ literal_of d ∷ []) l (sym z)
            | inr k ↦ has_later (no root) (denied seen older ++ literal_of d ∷ []) l (has_left (denied seen older) (literal_of d ∷ []) l k)
          ]
        ]);
      };
      caused = omega arith;
      from = λ l h. elim (has-append (denied seen older) (literal_of d ∷ []) l h) [
        | inl a ↦ elim (from_reason s p d c none seen m forced marked l a) [
          | inl o ↦ absurd (both_ways (slice_index_or none l.variable.0 false) (empty l.variable.0) (denied_marked none older l o))
          | inr o ↦ (reason_of d, o)
        ]
        | inr a ↦ elim (has-cons (literal_of d) [] l a) [
          | inl e ↦ (reason_of d, subst (λ (y : Signed). has c y ≡ true) e forced.present)
          | inr e ↦ absurd (both_ways false refl e)
        ]
      ];
      denies = λ l h. inl h;
      rootless = still_rootless c none seen marked (empty 0);
    }

-- where no marked entry is left, only the kept literals are, and that from which the walk began
pub walk_explains : (s : SatState) (x : Signed) (p : ℕ) (seen : List Bool) (kept : List Signed) (causes : List ClauseId) → length (denied seen (before s.tracker.trail p)) ≤ 0 → Walks s (x ∷ []) p seen kept causes → IsReason s x kept (reverse causes)
walk_explains s x p seen kept causes few w =
    let (derived, from) = walk_rests s (x ∷ []) p seen kept causes few w in
    record {
      derived = derived;
      caused = (let same : length (reverse causes) ≡ length causes = length-reverse causes in let some : 0 < length causes = w.caused in omega arith);
      from = from;
      denies = w.denies;
    }

-- the root is true before an entry that makes a variable false
pub rooted_before_false : (s : SatState) (p : ℕ) (d : Entry) → IsState s → Meets s p d → d.decision.value ≡ false → has (made_true (before s.tracker.trail p)) (yes root) ≡ true
rooted_before_false s p d state m fell =
    let whole : history s ≡ reverse (drop (p + 1) s.tracker.trail) ++ (d ∷ before s.tracker.trail p) = whole_trail s.tracker.trail (p + 1) ∙ ap (λ (h : List Entry). reverse (drop (p + 1) s.tracker.trail) ++ h) m.next in
    go (before s.tracker.trail p) (rooted_rest (reverse (drop (p + 1) s.tracker.trail)) d (before s.tracker.trail p) (subst IsRooted whole state.rooted))
  where
    go : (older : List Entry) → IsRooted (d ∷ older) → has (made_true older) (yes root) ≡ true
    go [] r = absurd (both_ways d.decision.value fell (ap (λ (l : Signed). l.positive) r.0))
    go (e ∷ older) r = root_known (e ∷ older) r

-- an entry that makes a variable false was forced
pub false_forced : (s : SatState) (p : ℕ) (d : Entry) → Meets s p d → d.decision.value ≡ false → IsPropagated (clauses_of s) d (before s.tracker.trail p)
false_forced s p d m fell = elim m.follows.reasoned [ inl choice ↦ absurd (both_ways d.decision.value fell choice.positive) | inr forced ↦ forced ]

-- an entry that makes this variable false makes its denial true
pub denial_of : (d : Entry) (v : VariableId) → nat_eq d.decision.variable.0 v.0 ≡ true → d.decision.value ≡ false → literal_of d ≡ no v
denial_of d v is fell = let both : literal_of d ≡ no v = λ i. record { variable = record { 0 = exact d.decision.variable.0 v.0 is i }; positive = fell i } in both

-- an entry of another variable, or one that makes it true, does not
pub no_denial : (d : Entry) (v : VariableId) → (nat_eq d.decision.variable.0 v.0 ≡ false) ⊎ (d.decision.value ≡ true) → literal_of d ≡ no v → ⊥
no_denial d v (inl other) is = both_ways (nat_eq d.decision.variable.0 v.0) other (subst (λ (x : ℕ). nat_eq d.decision.variable.0 x ≡ true) (ap (λ (l : Signed). l.variable.0) is) (own d.decision.variable.0))
no_denial d v (inr rose) is = both_ways d.decision.value (ap (λ (l : Signed). l.positive) is) rose

-- a literal that is true before an entry is another one, or is before it
pub true_before : (s : SatState) (p : ℕ) (d : Entry) (l : Signed) → before s.tracker.trail (p + 1) ≡ d ∷ before s.tracker.trail p → (literal_of d ≡ l → ⊥) → has (made_true (before s.tracker.trail (p + 1))) l ≡ true → has (made_true (before s.tracker.trail p)) l ≡ true
true_before s p d l next other h = elim (has-cons (literal_of d) (made_true (before s.tracker.trail p)) l (subst (λ (x : List Entry). has (made_true x) l ≡ true) next h)) [ inl e ↦ absurd (other e) | inr r ↦ r ]

-- an entry's literal is true
pub entry_true : (s : SatState) (p : ℕ) (d : Entry) → Meets s p d → has (made_true (history s)) (literal_of d) ≡ true
entry_true s p d m = known_from_level (history s) (literal_of d) d.level (level_from_entry (history s) d (before s.tracker.trail p) (inside_on s.tracker.trail (p + 1) d (before s.tracker.trail p) (subst (λ (x : List Entry). IsOnTrail x d (before s.tracker.trail p)) (sym m.next) (inl (refl, refl)))))

-- an entry is a choice exactly where it is above the one before
pub decision_or_forced : (s : SatState) (p : ℕ) (d : Entry) (level : ℕ) → Meets s p d → level ≡ top_level (before s.tracker.trail p) → IsDecisionOrForced s d (before s.tracker.trail p) (nat_lt level d.level)
decision_or_forced s p d level m same = go (nat_lt level d.level) refl m.follows.reasoned
  where
    go : (b : Bool) → nat_lt level d.level ≡ b → IsReasoned (clauses_of s) d (before s.tracker.trail p) → IsDecisionOrForced s d (before s.tracker.trail p) b
    go true e (inl choice) = (choice.positive, inr choice)
    go true e (inr propagated) = let a : level < d.level = grind (arith, nat_tests, e) in let b : d.level ≡ top_level (before s.tracker.trail p) = propagated.level in absurd (omega arith)
    go false e (inl choice) = let a : d.level ≤ level = grind (arith, nat_tests, e) in let b : d.level ≡ suc (top_level (before s.tracker.trail p)) = choice.opens in absurd (omega arith)
    go false e (inr propagated) = propagated

not_above : (a b : ℕ) → (a < b → ⊥) → b ≤ a
not_above a b h = elim (cases_Bool (nat_lt a b)) [ inl t ↦ absurd (h (grind (arith, nat_tests, t))) | inr f ↦ grind (arith, nat_tests, f) ]

-- a kept entry isn't above the turn's first level, where the search did not stop at it
pub kept_low : (s : SatState) (p : ℕ) (d : Entry) (below : ℕ) → below ≤ top_level (before s.tracker.trail p) → (s.base_level < d.level → below < d.level → ⊥) → IsDecisionOrForced s d (before s.tracker.trail p) true → IsAssumption s d (before s.tracker.trail p)
kept_low s p d below low not_stopped k = record { chosen = k.0; low = go k.1; begins = k.1 }
  where
    go : ((d.level < s.base_level) × IsSolvable s d.decision.variable.0) ⊎ IsChoice d (before s.tracker.trail p) → d.level ≤ s.base_level
    go (inl early) = let a : d.level < s.base_level = early.0 in omega arith
    go (inr choice) =
        let opens : d.level ≡ suc (top_level (before s.tracker.trail p)) = choice.opens in
        let under : below < d.level = omega arith in
        not_above s.base_level d.level (λ above. not_stopped above under)

-- where the turn's first level is above the trail's, each entry is below it
pub below_turn : (s : SatState) (p : ℕ) (d : Entry) → IsState s → Meets s p d → top_level (history s) < s.base_level → d.level < s.base_level
below_turn s p d state m above =
    let present : IsOnTrail (history s) d (before s.tracker.trail p) = inside_on s.tracker.trail (p + 1) d (before s.tracker.trail p) (subst (λ (x : List Entry). IsOnTrail x d (before s.tracker.trail p)) (sym m.next) (inl (refl, refl))) in
    let low : d.level ≤ top_level (history s) = level_le_last (count_of s) (clauses_of s) (history s) (literal_of d) d.level state.trail (level_from_entry (history s) d (before s.tracker.trail p) present) in
    omega arith

pub if_ok_more : {A E : Type 0} {P Q : A → Type 0} (r : Result A E) → ((a : A) → P a → Q a) → IfOk r P → IfOk r Q
if_ok_more (Ok a) f h = f a h
if_ok_more (Err e) f h = h
