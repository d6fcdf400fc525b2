-- What holds of clauses and trails over variables holds of what they mean.
use Rattle.std.proofs.Common.{◌≡◌, ℕ, zero, suc, ◌<◌, ◌⊎◌, inl, inr, Bool, true, false, ◌==◌, List, [], ◌∷◌, length, reverse, cond, refl, sym, ◌∙◌, ap, subst, arith, eqb-true, eq-eqb}
use Rattle.std.specs.Prelude.{Contains}
use Rattle.std.specs.Bool.{beq}
use Rattle.std.proofs.lemmas.Bool.{both_ways, cases_Bool}
use Rattle.std.proofs.lemmas.List.{reverse-append, reverse-reverse}
use Rattle.resolvo_pool_core.specs.declared.id.ClauseId.{ClauseId}
use Rattle.resolvo_pool_core.specs.OnePass.{Literal, negate, is_true_at, clause_true}
use Rattle.resolvo_pool_core.specs.RuleKeeping.{Packages}
use Rattle.resolvo_store_core.specs.Signed.{Signed, negation, has, same_literal}
use Rattle.resolvo_store_core.specs.SignLaws.{same_literal-self}
use Rattle.resolvo_store_core.specs.Clauses.{yes, no, root as root_variable}
use Rattle.resolvo_store_core.specs.declared.decision.Entry.{Entry}
use Rattle.resolvo_sat.specs.Clauses.{SatClause}
use Rattle.resolvo_sat.specs.Known.{clause_at, holds, Satisfies, SatisfiesAll, IsForced as IsForcedBy}
use Rattle.resolvo_sat.specs.Entries.{literal_of, reason_of, made_true, IsTrail, IsRooted}
use Rattle.resolvo_sat.specs.Propagation.{IsQuiet}
use Rattle.resolvo_sat.specs.State.{lists, named, AllBelow, IsDerived, AreDerived}
use Rattle.resolvo_sat.proofs.Literals.{has-cons, has_here, has_later}
use Rattle.resolvo_sat.proofs.Trails.{consistent, known_in_range, root_known}
use Rattle.resolvo_sat.proofs.Refutations.{refuted_holds}
use Rattle.resolvo_sat.specs.RuleClauses.{Atom, Rule, plus, literals_of, IsImplied}
use Rattle.resolvo_sat.specs.SearchEnd as Ending
use Rattle.resolvo_sat.specs.Numbered.{meaning, Means, meanings, known_of, IsOnce, values_by, Spells, AreCalledFor, IsAccounted, AreCoded}
use Rattle.resolvo_sat.proofs.Lists.{contains_none, contains_cases, contains_first, contains_later, contains_left, contains_right}
use Rattle.resolvo_sat.proofs.Members.{makes, made_by}

pub contains_reverse : {X : Type 0} (x : X) (xs : List X) → Contains xs x → Contains (reverse xs) x
contains_reverse x [] h = absurd (contains_none x h)
contains_reverse x (y ∷ ys) h = subst (λ zs. Contains zs x) (sym (reverse-append (y ∷ []) ys)) (elim (contains_cases x y ys h) [
  | inl e ↦ contains_right x (reverse ys) (y ∷ []) (contains_first x y [] (sym e))
  | inr a ↦ contains_left x (reverse ys) (y ∷ []) (contains_reverse x ys a)
])

pub reverse_contains : {X : Type 0} (x : X) (xs : List X) → Contains (reverse xs) x → Contains xs x
reverse_contains x xs h = subst (λ zs. Contains zs x) (reverse-reverse xs) (contains_reverse x (reverse xs) h)

-- the clause of a place is one that is held
pub held_at : (cs : List SatClause) (n : ℕ) → n < length (lists cs) → (c : SatClause) × Contains cs c × (clause_at (lists cs) n ≡ c.literals)
held_at [] n below = absurd (omega arith)
held_at (c ∷ cs) zero below = (c, contains_first c c cs refl, refl)
held_at (c ∷ cs) (suc n) below = let (d, a, e) = held_at cs n (omega arith) in (d, contains_later d c cs a, e)

-- past the last clause there is no literal
pub clause_in_range : (cs : List (List Signed)) (n : ℕ) (l : Signed) → has (clause_at cs n) l ≡ true → n < length cs
clause_in_range [] n l h = absurd (both_ways false refl h)
clause_in_range (c ∷ cs) zero l h = omega arith
clause_in_range (c ∷ cs) (suc n) l h = let below : n < length cs = clause_in_range cs n l h in omega arith

-- clauses that are true are so where they are named
named_true : (v : ℕ → Bool) (earlier : List (List Signed)) (places : List ClauseId) → AllBelow (length earlier) places → ((n : ℕ) → n < length earlier → Satisfies v (clause_at earlier n)) → SatisfiesAll v (named earlier places)
named_true v earlier [] below all = tt
named_true v earlier (c ∷ cs) below all = (all c.0 below.0, named_true v earlier cs below.1 all)

-- a clause that follows from clauses that are true is true
pub derived_true : (v : ℕ → Bool) (cs : List SatClause) (literals : List Signed) (causes : List ClauseId) → v 0 ≡ true → ((c : SatClause) → Contains cs c → Satisfies v c.literals) → IsDerived (lists cs) literals causes → Satisfies v literals
derived_true v cs literals causes rooted all d = refuted_holds v literals (named (lists cs) causes) rooted d.refuted (named_true v (lists cs) causes d.in_range (λ n below.
    let (c, a, e) = held_at cs n below in
    subst (Satisfies v) (sym e) (all c a)))

-- the root's literal, true or not
root_literal : (l : Signed) → l.variable.0 ≡ 0 → (l ≡ yes root_variable) ⊎ (l ≡ no root_variable)
root_literal l z = go l.positive refl
  where
    go : (b : Bool) → l.positive ≡ b → (l ≡ yes root_variable) ⊎ (l ≡ no root_variable)
    go true e = inl (λ i. record { variable = record { 0 = z i }; positive = e i })
    go false e = inr (λ i. record { variable = record { 0 = z i }; positive = e i })

-- a variable is the root's or another
pub root_or_other : (n : ℕ) → (n ≡ 0) ⊎ (0 < n)
root_or_other zero = inl refl
root_or_other (suc n) = inr (omega arith)

not_zero : (n : ℕ) → 0 < n → (n == 0) ≡ false
not_zero n h = elim (cases_Bool (n == 0)) [ inl e ↦ (let z : n ≡ 0 = eqb-true n 0 e in absurd (omega arith)) | inr e ↦ e ]

module _ {N S : Type 0} (origin : ℕ → Atom N S) where
  -- a literal that is among others, by what it means
  pub meaning_in : (ls : List Signed) (l : Signed) → has ls l ≡ true → 0 < l.variable.0 → Contains (meanings origin ls) (meaning origin l)
  meaning_in [] l h other = absurd (both_ways false refl h)
  meaning_in (x ∷ xs) l h other = go (x.variable.0 == 0) refl (has-cons x xs l h) (λ a. meaning_in xs l a other)
    where
      go : (b : Bool) → (x.variable.0 == 0) ≡ b → (x ≡ l) ⊎ (has xs l ≡ true) → (has xs l ≡ true → Contains (meanings origin xs) (meaning origin l)) → Contains (cond b (meanings origin xs) (meaning origin x ∷ meanings origin xs)) (meaning origin l)
      go true e (inl i) rest = (let z : x.variable.0 ≡ 0 = eqb-true x.variable.0 0 e in let same : x.variable.0 ≡ l.variable.0 = ap (λ (m : Signed). m.variable.0) i in absurd (omega arith))
      go true e (inr a) rest = rest a
      go false e (inl i) rest = contains_first (meaning origin l) (meaning origin x) (meanings origin xs) (ap (meaning origin) i)
      go false e (inr a) rest = contains_later (meaning origin l) (meaning origin x) (meanings origin xs) (rest a)

  pub meaning_from : (ls : List Signed) (m : Literal (Atom N S)) → Contains (meanings origin ls) m → (l : Signed) × (has ls l ≡ true) × Means origin l m
  meaning_from [] m h = absurd (contains_none m h)
  meaning_from (x ∷ xs) m h = go (x.variable.0 == 0) refl h (meaning_from xs m)
    where
      later : (l : Signed) × (has xs l ≡ true) × Means origin l m → (l : Signed) × (has (x ∷ xs) l ≡ true) × Means origin l m
      later (l, a, e) = (l, has_later x xs l a, e)

      go : (b : Bool) → (x.variable.0 == 0) ≡ b → Contains (cond b (meanings origin xs) (meaning origin x ∷ meanings origin xs)) m → (Contains (meanings origin xs) m → (l : Signed) × (has xs l ≡ true) × Means origin l m) → (l : Signed) × (has (x ∷ xs) l ≡ true) × Means origin l m
      go true e a rest = later (rest a)
      go false e a rest = elim (contains_cases m (meaning origin x) (meanings origin xs) a) [
        | inl i ↦ (x, has_here x xs x refl, (elim (root_or_other x.variable.0) [ inl z ↦ absurd (both_ways (x.variable.0 == 0) e (eq-eqb x.variable.0 0 z)) | inr o ↦ o ], i))
        | inr b ↦ later (rest b)
      ]

  module _ (count : ℕ) (once : IsOnce origin count) where
    -- literals with one meaning are one
    pub one_literal : (l m : Signed) → 0 < l.variable.0 → l.variable.0 < count → 0 < m.variable.0 → m.variable.0 < count → meaning origin l ≡ meaning origin m → l ≡ m
    one_literal l m a b c d e =
        let v : l.variable.0 ≡ m.variable.0 = once l.variable.0 m.variable.0 a b c d (ap (λ (x : Literal (Atom N S)). x.atom) e) in
        let s : l.positive ≡ m.positive = ap (λ (x : Literal (Atom N S)). x.positive) e in
        λ i. record { variable = record { 0 = v i }; positive = s i }

    -- a literal is known where its meaning is
    pub found : (known : List Signed) (l : Signed) → ((m : Signed) → has known m ≡ true → m.variable.0 < count) → 0 < l.variable.0 → l.variable.0 < count → Contains (meanings origin known) (meaning origin l) → has known l ≡ true
    found known l below a b h =
        let (m, c, (d, e)) = meaning_from known (meaning origin l) h in
        subst (λ x. has known x ≡ true) (one_literal m l d (below m c) a b (sym e)) c

    -- what propagation leaves quiet is quiet in what it means
    pub quiet_meaning : (clauses : List (List Signed)) (h : List Entry) (clause : List Signed) (literals : List (Literal (Atom N S))) → IsTrail count clauses h → IsRooted h
        → ((l : Signed) → has clause l ≡ true → l.variable.0 < count) → Spells origin clause literals → IsQuiet (made_true h) clause → Ending.IsQuiet (known_of origin h) literals
    quiet_meaning clauses h clause literals t rooted below spells q = record {
      unbroken = λ f. fell (λ l a. denied f l (spells.only l a) a) q;
      complete = λ m b others.
          let (l, c, (o, e)) = spells.each m b in
          subst (Contains (known_of origin h)) (sym e) (meaning_in (made_true h) l (only_true l c (λ x a. either m l o (below l c) e others x (spells.only x a) a) q) o);
    }
      where
        known_below : (m : Signed) → has (made_true h) m ≡ true → m.variable.0 < count
        known_below m a = known_in_range count clauses h m t a

        root_false : (x : Signed) → x ≡ no root_variable → has (made_true h) (negation x) ≡ true
        root_false x e = subst (λ y. has (made_true h) (negation y) ≡ true) (sym e) (root_known h rooted)

        denied : Ending.AreFalse (known_of origin h) literals → (l : Signed) → (l ≡ no root_variable) ⊎ ((0 < l.variable.0) × Contains literals (meaning origin l)) → has clause l ≡ true → has (made_true h) (negation l) ≡ true
        denied f l (inl e) a = root_false l e
        denied f l (inr (o, c)) a = found (made_true h) (negation l) known_below o (below l a) (f (meaning origin l) c)

        not_known : (l : Signed) → has (made_true h) l ≡ true → has (made_true h) l ≡ false → ⊥
        not_known l a b = both_ways _ b a

        -- no clause that is quiet is wholly false
        fell : ((l : Signed) → has clause l ≡ true → has (made_true h) (negation l) ≡ true) → IsQuiet (made_true h) clause → ⊥
        fell f (inl (l, a, k)) = consistent count clauses h l t k (f l a)
        fell f (inr (l, m, a, b, differ, u, w)) = not_known (negation l) (f l a) u

        -- one that has a literal left has it true
        only_true : (l : Signed) → has clause l ≡ true → ((x : Signed) → has clause x ≡ true → (x ≡ l) ⊎ (has (made_true h) (negation x) ≡ true)) → IsQuiet (made_true h) clause → has (made_true h) l ≡ true
        only_true l c others (inl (x, a, k)) = elim (others x a) [
          | inl e ↦ subst (λ y. has (made_true h) y ≡ true) e k
          | inr f ↦ absurd (consistent count clauses h x t k f)
        ]
        only_true l c others (inr (x, y, a, b, differ, u, w)) = elim (others x a) [
          | inr f ↦ absurd (not_known (negation x) f u)
          | inl e ↦ elim (others y b) [
            | inr f ↦ absurd (not_known (negation y) f w)
            | inl g ↦ absurd (both_ways (same_literal x y) differ (subst (λ z. same_literal x z ≡ true) (e ∙ sym g) (same_literal-self x)))
          ]
        ]

        either : (m : Literal (Atom N S)) (l : Signed) → 0 < l.variable.0 → l.variable.0 < count → m ≡ meaning origin l → ((x : Literal (Atom N S)) → Contains literals x → (x ≡ m) ⊎ Contains (known_of origin h) (negate x))
            → (x : Signed) → (x ≡ no root_variable) ⊎ ((0 < x.variable.0) × Contains literals (meaning origin x)) → has clause x ≡ true → (x ≡ l) ⊎ (has (made_true h) (negation x) ≡ true)
        either m l o b e others x (inl r) a = inr (root_false x r)
        either m l o b e others x (inr (p, c)) a = elim (others (meaning origin x) c) [
          | inl i ↦ inl (one_literal x l p (below x a) o b (i ∙ e))
          | inr f ↦ inr (found (made_true h) (negation x) known_below p (below x a) f)
        ]

  -- a literal that is none of the root's has the value of what it means
  holds-meaning : (v : Atom N S → Bool) (l : Signed) → 0 < l.variable.0 → holds (values_by origin v) l ≡ is_true_at v (meaning origin l)
  holds-meaning v l other = go l.variable.0 other l.positive
    where
      go : (n : ℕ) → 0 < n → (b : Bool) → beq (values_by origin v n) b ≡ beq (v (origin n)) b
      go zero h b = absurd (omega arith)
      go (suc n) h b = refl

  -- the clause of a rule is true where the rule's literals are
  pub spelled_true : (v : Atom N S → Bool) (clause : List Signed) (literals : List (Literal (Atom N S))) → Spells origin clause literals → clause_true v literals ≡ true → Satisfies (values_by origin v) clause
  spelled_true v clause literals spells h =
      let (m, a, t) = made_by v literals h in
      let (l, b, (o, e)) = spells.each m a in
      (l, b, holds-meaning v l o ∙ subst (λ (x : Literal (Atom N S)). is_true_at v x ≡ true) e t)

  -- what is true of variables, and not by the root alone, is true of what they mean
  pub meant_true : (v : Atom N S → Bool) (clause : List Signed) → (has clause (yes root_variable) ≡ true → ⊥) → Satisfies (values_by origin v) clause → clause_true v (meanings origin clause) ≡ true
  meant_true v clause rootless (l, a, t) = elim (root_or_other l.variable.0) [
    | inl z ↦ elim (root_literal l z) [
      | inl e ↦ absurd (rootless (subst (λ x. has clause x ≡ true) e a))
      | inr e ↦ absurd (both_ways false refl (subst (λ (x : Signed). holds (values_by origin v) x ≡ true) e t))
    ]
    | inr o ↦ makes v (meanings origin clause) (meaning origin l) (meaning_in clause l a o) (sym (holds-meaning v l o) ∙ t)
  ]

  module _ (same : S → S → Bool) (p : Packages N S) (rules : Rule N S → Type 0) where
    -- clauses that are accounted for are true where the rules' clauses are
    pub accounted_true : (v : Atom N S → Bool) (cs : List SatClause) → ((r : Rule N S) → rules r → clause_true v (literals_of same p r) ≡ true)
        → AreDerived cs → ((c : SatClause) → Contains cs c → IsAccounted origin same p rules c) → (c : SatClause) → Contains cs c → Satisfies (values_by origin v) c.literals
    accounted_true v [] all d each c a = absurd (contains_none c a)
    accounted_true v (x ∷ older) all d each c a = go (contains_cases c x older a) (accounted_true v older all d.1 (λ y b. each y (contains_later y x older b)))
      where
        own : ((y : SatClause) → Contains older y → Satisfies (values_by origin v) y.literals) → IsAccounted origin same p rules x → Satisfies (values_by origin v) x.literals
        own ih (inl some) = derived_true (values_by origin v) (reverse older) x.literals x.causes refl (λ y b. ih y (reverse_contains y older b)) (d.0 some)
        own ih (inr (inl here)) = (yes root_variable, here, refl)
        own ih (inr (inr (r, present, spells))) = spelled_true v x.literals (literals_of same p r) spells (all r present)

        go : (c ≡ x) ⊎ Contains older c → ((y : SatClause) → Contains older y → Satisfies (values_by origin v) y.literals) → Satisfies (values_by origin v) c.literals
        go (inl e) ih = subst (λ (y : SatClause). Satisfies (values_by origin v) y.literals) (sym e) (own ih (each x (contains_first x x older refl)))
        go (inr b) ih = ih c b

    module _ (registered : S → Type 0) (count : ℕ) (clauses : List SatClause) (coded : AreCoded origin same p rules registered count clauses) where
      pub each_true : (v : Atom N S → Bool) → ((r : Rule N S) → rules r → clause_true v (literals_of same p r) ≡ true) → (c : SatClause) → Contains clauses c → Satisfies (values_by origin v) c.literals
      each_true v all c a = accounted_true v (reverse clauses) all coded.derived (λ y b. coded.accounted y (reverse_contains y clauses b)) c (contains_reverse c clauses a)

      -- a clause that does not say that the root is true follows from the rules
      pub clause_implied : (n : ℕ) → n < length (lists clauses) → (has (clause_at (lists clauses) n) (yes root_variable) ≡ true → ⊥) → IsImplied same p rules (meanings origin (clause_at (lists clauses) n))
      clause_implied n below rootless v all =
          let (c, a, e) = held_at clauses n below in
          meant_true v (clause_at (lists clauses) n) rootless (subst (Satisfies (values_by origin v)) (sym e) (each_true v all c a))

      -- so does one that follows from the clauses
      pub derived_implied : (literals : List Signed) (causes : List ClauseId) → IsDerived (lists clauses) literals causes → (has literals (yes root_variable) ≡ true → ⊥) → IsImplied same p rules (meanings origin literals)
      derived_implied literals causes d rootless v all = meant_true v literals rootless (derived_true (values_by origin v) clauses literals causes refl (each_true v all) d)

      -- an entry's clause forces what the entry means
      pub forced_meaning : (n : ℕ) (l : Signed) (older : List Entry) → IsTrail count (lists clauses) older → IsRooted older → 0 < l.variable.0 → IsForcedBy (clause_at (lists clauses) n) l (made_true older) → Ending.IsForced same p rules registered (known_of origin older) (meaning origin l)
      forced_meaning n l older t rooted other f = record {
        clause = meanings origin clause;
        implied = clause_implied n (clause_in_range (lists clauses) n l f.present) rootless;
        present = meaning_in clause l f.present other;
        others = λ m a. (let (x, b, (o, e)) = meaning_from clause m a in elim (f.others x b) [
          | inl i ↦ inl (e ∙ ap (meaning origin) i)
          | inr k ↦ inr (subst (λ (y : Literal (Atom N S)). Contains (known_of origin older) (negate y)) (sym e) (meaning_in (made_true older) (negation x) k o))
        ]);
        positive = λ s a. (let (x, b, e) = meaning_from clause (plus (Atom.solvable s)) a in coded.positive n x s b e);
      }
        where
          clause : List Signed
          clause = clause_at (lists clauses) n

          rootless : has clause (yes root_variable) ≡ true → ⊥
          rootless a = elim (f.others (yes root_variable) a) [
            | inl e ↦ (let z : 0 ≡ l.variable.0 = ap (λ (m : Signed). m.variable.0) e in omega arith)
            | inr k ↦ consistent count (lists clauses) older (yes root_variable) t (root_known older rooted) k
          ]

      -- what a trail makes true is a trail over atoms
      pub trail_meaning : (choice : List (Literal (Atom N S)) → Literal (Atom N S) → Type 0) (h : List Entry) → IsTrail count (lists clauses) h → IsRooted h → AreCalledFor origin choice h → Ending.IsTrail same p rules registered choice (known_of origin h)
      trail_meaning choice [] t rooted called = tt
      trail_meaning choice (e ∷ []) t rooted called = subst (Ending.IsTrail same p rules registered choice) (sym (ap (λ (l : Signed). cond (l.variable.0 == 0) [] (meaning origin l ∷ [])) rooted.0)) tt
      trail_meaning choice (e ∷ d ∷ older) t rooted called =
          subst (Ending.IsTrail same p rules registered choice) (sym (ap (λ b. cond b (known_of origin (d ∷ older)) (meaning origin (literal_of e) ∷ known_of origin (d ∷ older))) (not_zero e.decision.variable.0 other)))
          (follows, trail_meaning choice (d ∷ older) t.1 rooted (λ c before present. called c before (inr present)))
        where
          other : 0 < e.decision.variable.0
          other = elim (root_or_other e.decision.variable.0) [
            | inr o ↦ o
            | inl z ↦ elim (root_literal (literal_of e) z) [
              | inl i ↦ absurd (both_ways _ t.0.undecided.not_true (subst (λ (l : Signed). has (made_true (d ∷ older)) l ≡ true) (sym i) (root_known (d ∷ older) rooted)))
              | inr i ↦ absurd (both_ways _ t.0.undecided.not_false (subst (λ (l : Signed). has (made_true (d ∷ older)) (negation l) ≡ true) (sym i) (root_known (d ∷ older) rooted)))
            ]
          ]

          follows : Ending.Follows same p rules registered choice (meaning origin (literal_of e)) (known_of origin (d ∷ older))
          follows = record {
            fresh = λ a. both_ways _ t.0.undecided.not_false (found count coded.once (made_true (d ∷ older)) (negation (literal_of e)) (λ m b. known_in_range count (lists clauses) (d ∷ older) m t.1 b) other t.0.in_range a);
            reasoned = elim t.0.reasoned [
              | inl c ↦ inl (called e (d ∷ older) (inl (refl, refl)) c other)
              | inr q ↦ inr (forced_meaning (reason_of e) (literal_of e) (d ∷ older) t.1 rooted other q.forced)
            ];
          }
