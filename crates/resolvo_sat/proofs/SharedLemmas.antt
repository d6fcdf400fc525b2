-- Clauses that share their literals but the first with an earlier one.
use Rattle.std.proofs.Common.{◌≡◌, ℕ, zero, suc, ◌+◌, ◌≤◌, ◌<◌, ◌==◌, Bool, true, false, cond, List, [], ◌∷◌, ◌++◌, length, take, drop, get_or, Some, None, refl, sym, ap, subst, ◌∙◌, arith, eqb-true, eq-eqb}
use Rattle.std.specs.Prelude.{slice_get}
use Rattle.std.specs.Cmp.Lexicographic.{pointwise}
use Rattle.std.proofs.lemmas.List.{length-append, append-nil}
use Rattle.std.proofs.lemmas.Slice.Eq.{slice_eq-Decides}
use Rattle.resolvo_store_core.specs.Signed.{Signed, same_literal}
use Rattle.resolvo_store_core.specs.SignLaws.{same_literal_true, same_literal-self}
use Rattle.resolvo_sat.specs.Known.{clause_at}
use Rattle.resolvo_sat.specs.State.{lists}
use Rattle.resolvo_sat.specs.Clauses.{SatClause, sat_clause, causes_at, IsPlaceOf, AreNumbered}
use Rattle.resolvo_sat.specs.Shared.{rest_of, shared_of, with_shared, clauses_sharing, clauses_with, AreBelow, AreShared}
use Rattle.resolvo_sat.proofs.ArenaLemmas.{numbered_at, numbered_more, numbered_pushed}
use Rattle.resolvo_sat.proofs.Trails.{false_unless}

-- ---- a clause with what it shares

-- one literal, and then those that are shared
pub alone : (ls more : List Signed) → length ls ≡ 1 → ls ++ more ≡ with_shared ls more
alone [] more h = absurd (omega (arith, h))
alone (l ∷ []) more h = refl
alone (l ∷ k ∷ ls) more h = absurd (omega (arith, h))

-- any other clause has all its literals
pub not_alone : (ls more : List Signed) → (length ls ≡ 1 → ⊥) → ls ++ [] ≡ with_shared ls more
not_alone [] more h = refl
not_alone (l ∷ []) more h = absurd (h refl)
not_alone (l ∷ k ∷ ls) more h = append-nil (l ∷ k ∷ ls)

-- nothing is shared
nothing : (ls : List Signed) → with_shared ls [] ≡ ls
nothing [] = refl
nothing (l ∷ []) = refl
nothing (l ∷ k ∷ ls) = refl

-- the first literal, and what is shared of the others
pub first_and_rest : (ls : List Signed) → 0 < length ls → with_shared (take 1 ls) (drop 1 ls) ≡ ls
first_and_rest [] h = absurd (omega (arith, h))
first_and_rest (l ∷ ls) h = refl

-- what `==` says of two lists
pub same_rest : (xs ys : List Signed) (r : Bool) → r ≡ pointwise same_literal xs ys → r ≡ true → xs ≡ ys
same_rest xs ys r is h = (slice_eq-Decides (λ a b. (same_literal_true a b, λ e. subst (λ (l : Signed). same_literal a l ≡ true) e (same_literal-self a))) xs ys r is).0 h

-- there is nothing behind nothing
pub behind_none : (ls : List Signed) → length ls ≡ 0 → ls ≡ drop 1 ls
behind_none [] h = refl
behind_none (l ∷ ls) h = absurd (omega (arith, h))

-- ---- clauses from a number on

pub shared_count : (f : ℕ → List Signed) (n : ℕ) (cs : List SatClause) → length (clauses_sharing f n cs) ≡ length cs
shared_count f n [] = refl
shared_count f n (c ∷ cs) = ap suc (shared_count f (suc n) cs)

pub literals_shared : (f : ℕ → List Signed) (n : ℕ) (cs : List SatClause) (k last : ℕ) → last ≡ n + k → clause_at (lists (clauses_sharing f n cs)) k ≡ with_shared (clause_at (lists cs) k) (f last)
literals_shared f n [] k last is = refl
literals_shared f n (c ∷ cs) zero last is = let same : n ≡ last = omega (arith, is) in ap (λ (m : ℕ). with_shared c.literals (f m)) same
literals_shared f n (c ∷ cs) (suc k) last is = literals_shared f (suc n) cs k last (omega (arith, is))

pub causes_shared : (f : ℕ → List Signed) (n : ℕ) (cs : List SatClause) (k : ℕ) → causes_at (clauses_sharing f n cs) k ≡ causes_at cs k
causes_shared f n [] k = refl
causes_shared f n (c ∷ cs) zero = refl
causes_shared f n (c ∷ cs) (suc k) = causes_shared f (suc n) cs k

shared_append : (f : ℕ → List Signed) (n : ℕ) (cs : List SatClause) (c : SatClause) (last : ℕ) → last ≡ n + length cs
    → clauses_sharing f n (cs ++ c ∷ []) ≡ clauses_sharing f n cs ++ sat_clause (with_shared c.literals (f last)) c.causes ∷ []
shared_append f n [] c last is = let same : n ≡ last = omega (arith, is) in ap (λ (m : ℕ). sat_clause (with_shared c.literals (f m)) c.causes ∷ []) same
shared_append f n (d ∷ cs) c last is =
    let next : last ≡ suc n + length cs = omega (arith, is) in
    ap (λ (rest : List SatClause). sat_clause (with_shared d.literals (f n)) d.causes ∷ rest) (shared_append f (suc n) cs c last next)

shared_same : (f g : ℕ → List Signed) (n : ℕ) (cs : List SatClause) → ((k : ℕ) → k < n + length cs → f k ≡ g k) → clauses_sharing f n cs ≡ clauses_sharing g n cs
shared_same f g n [] same = refl
shared_same f g n (c ∷ cs) same =
    ap (λ (more : List Signed). sat_clause (with_shared c.literals more) c.causes ∷ clauses_sharing f (suc n) cs) (same n (omega arith))
    ∙ ap (λ (rest : List SatClause). sat_clause (with_shared c.literals (g n)) c.causes ∷ rest) (shared_same f g (suc n) cs (λ k below. same k (omega (arith, below))))

-- ---- what a number shares

literals_stay : (own more : List SatClause) (n : ℕ) → n < length own → clause_at (lists (own ++ more)) n ≡ clause_at (lists own) n
literals_stay [] more n h = absurd (omega (arith, h))
literals_stay (c ∷ own) more zero h = refl
literals_stay (c ∷ own) more (suc n) h = literals_stay own more n (omega (arith, h))

rest_stays : (own more : List SatClause) (n : ℕ) → n < length own → rest_of (own ++ more) n ≡ rest_of own n
rest_stays own more n h = ap (λ (ls : List Signed). drop 1 ls) (literals_stay own more n h)

shared_stays : (own more : List SatClause) (sharing sources : List ℕ) (n : ℕ) → AreBelow (length own) sources → shared_of (own ++ more) sharing sources n ≡ shared_of own sharing sources n
shared_stays own more [] sources n below = refl
shared_stays own more (c ∷ sharing) [] n below = refl
shared_stays own more (c ∷ sharing) (s ∷ sources) n below =
    ap (λ (ls : List Signed). cond (c == n) ls (shared_of (own ++ more) sharing sources n)) (rest_stays own more s below.0)
    ∙ ap (λ (ls : List Signed). cond (c == n) (rest_of own s) ls) (shared_stays own more sharing sources n below.1)

pub shared_none : (own : List SatClause) (sharing sources : List ℕ) (n : ℕ) → IsPlaceOf sharing n None → shared_of own sharing sources n ≡ []
shared_none own [] sources n none = refl
shared_none own (c ∷ sharing) [] n none = refl
shared_none own (c ∷ sharing) (s ∷ sources) n none =
    let other : (c == n) ≡ false = false_unless (c == n) (λ h. none 0 (omega arith) (eqb-true c n h)) in
    ap (λ (t : Bool). cond t (rest_of own s) (shared_of own sharing sources n)) other ∙ shared_none own sharing sources n (λ i below at. none (suc i) (omega (arith, below)) at)

pub shared_found : (own : List SatClause) (count low : ℕ) (sharing sources : List ℕ) (n i s : ℕ) → AreNumbered count low sharing → i < length sharing → get_or sharing i 0 ≡ n → slice_get sources i ≡ Some s
    → shared_of own sharing sources n ≡ rest_of own s
shared_found own count low [] sources n i s are below at is = absurd (omega arith)
shared_found own count low (c ∷ sharing) [] n i s are below at is = absurd cc
shared_found own count low (c ∷ sharing) (q ∷ sources) n zero s are below at is =
    let same : q ≡ s = cc in
    let here : (c == n) ≡ true = eq-eqb c n at in
    ap (λ (t : Bool). cond t (rest_of own q) (shared_of own sharing sources n)) here ∙ ap (rest_of own) same
shared_found own count low (c ∷ sharing) (q ∷ sources) n (suc i) s are below at is =
    let rest = numbered_at count (suc c) sharing i are.2 (omega arith) in
    let later : suc c ≤ get_or sharing i 0 = rest.0 in
    let here : get_or sharing i 0 ≡ n = at in
    let other : (c == n) ≡ false = false_unless (c == n) (λ h. let same : c ≡ n = eqb-true c n h in omega arith) in
    ap (λ (t : Bool). cond t (rest_of own q) (shared_of own sharing sources n)) other ∙ shared_found own count (suc c) sharing sources n i s are.2 (omega arith) here is

-- with one clause more that shares, the others share the same, and it shares this
shared_older : (own : List SatClause) (count low : ℕ) (sharing sources : List ℕ) (s n : ℕ) → length sharing ≡ length sources → n < count
    → shared_of own (sharing ++ count ∷ []) (sources ++ s ∷ []) n ≡ shared_of own sharing sources n
shared_older own count low [] [] s n paired below =
    let other : (count == n) ≡ false = false_unless (count == n) (λ h. let same : count ≡ n = eqb-true count n h in omega arith) in
    ap (λ (t : Bool). cond t (rest_of own s) []) other
shared_older own count low [] (q ∷ sources) s n paired below = absurd (omega (arith, paired))
shared_older own count low (c ∷ sharing) [] s n paired below = absurd (omega (arith, paired))
shared_older own count low (c ∷ sharing) (q ∷ sources) s n paired below =
    ap (λ (ls : List Signed). cond (c == n) (rest_of own q) ls) (shared_older own count low sharing sources s n (omega (arith, paired)) below)

shared_newest : (own : List SatClause) (count low : ℕ) (sharing sources : List ℕ) (s : ℕ) → AreNumbered count low sharing → length sharing ≡ length sources
    → shared_of own (sharing ++ count ∷ []) (sources ++ s ∷ []) count ≡ rest_of own s
shared_newest own count low [] [] s are paired = ap (λ (t : Bool). cond t (rest_of own s) []) (eq-eqb count count refl)
shared_newest own count low [] (q ∷ sources) s are paired = absurd (omega (arith, paired))
shared_newest own count low (c ∷ sharing) [] s are paired = absurd (omega (arith, paired))
shared_newest own count low (c ∷ sharing) (q ∷ sources) s are paired =
    let early : c < count = are.1 in
    let other : (c == count) ≡ false = false_unless (c == count) (λ h. let same : c ≡ count = eqb-true c count h in omega arith) in
    ap (λ (t : Bool). cond t (rest_of own q) (shared_of own (sharing ++ count ∷ []) (sources ++ s ∷ []) count)) other
    ∙ shared_newest own count (suc c) sharing sources s are.2 (omega (arith, paired))

-- ---- numbers below a count

below_more : (few many : ℕ) (sources : List ℕ) → few ≤ many → AreBelow few sources → AreBelow many sources
below_more few many [] le are = tt
below_more few many (s ∷ sources) le are = (omega (arith, are.0), below_more few many sources le are.1)

below_pushed : (few many : ℕ) (sources : List ℕ) (s : ℕ) → few ≤ many → s < many → AreBelow few sources → AreBelow many (sources ++ s ∷ [])
below_pushed few many [] s le low are = (low, tt)
below_pushed few many (q ∷ sources) s le low are = (omega (arith, are.0), below_pushed few many sources s le low are.1)

pub below_at : (count : ℕ) (sources : List ℕ) (i s : ℕ) → AreBelow count sources → slice_get sources i ≡ Some s → s < count
below_at count [] i s are at = absurd cc
below_at count (q ∷ sources) zero s are at = let same : q ≡ s = cc in subst (λ (r : ℕ). r < count) same are.0
below_at count (q ∷ sources) (suc i) s are at = below_at count sources i s are.1 at

-- ---- one clause more

module _ (own all : List SatClause) (c : SatClause) (sharing sources : List ℕ) (are : AreShared own sharing sources) (pushed : all ≡ own ++ c ∷ []) where
  longer : length all ≡ length own + 1
  longer = ap length pushed ∙ length-append own (c ∷ [])

  none_new : IsPlaceOf sharing (length own) None
  none_new i below at = let rest = numbered_at (length own) 0 sharing i are.numbered below in let early : get_or sharing i 0 < length own = rest.1 in omega arith

  -- it has all its literals
  pub whole_kept : AreShared all sharing sources
  whole_kept = record {
    numbered = numbered_more (length own) (length all) 0 sharing (omega (arith, longer)) are.numbered;
    paired = are.paired;
    below = below_more (length own) (length all) sources (omega (arith, longer)) are.below;
  }

  pub whole_pushed : clauses_with all sharing sources ≡ clauses_with own sharing sources ++ c ∷ []
  whole_pushed =
      ap (λ (xs : List SatClause). clauses_with xs sharing sources) pushed
      ∙ (shared_append f 0 own c (length own) (omega arith)
      ∙ (ap (λ (ls : List Signed). clauses_sharing f 0 own ++ sat_clause (with_shared c.literals ls) c.causes ∷ []) (shared_none (own ++ c ∷ []) sharing sources (length own) none_new)
      ∙ (ap (λ (ls : List Signed). clauses_sharing f 0 own ++ sat_clause ls c.causes ∷ []) (nothing c.literals)
      ∙ ap (λ (rest : List SatClause). rest ++ c ∷ []) (shared_same f (shared_of own sharing sources) 0 own (λ k below. shared_stays own (c ∷ []) sharing sources k are.below)))))
    where
      f : ℕ → List Signed
      f = shared_of (own ++ c ∷ []) sharing sources

  -- it shares its literals but the first
  module _ (new_sharing new_sources : List ℕ) (s : ℕ) (numbers : new_sharing ≡ sharing ++ length own ∷ []) (named : new_sources ≡ sources ++ s ∷ []) (low : s < length own) where
    pub sharing_kept : AreShared all new_sharing new_sources
    sharing_kept =
        subst (λ (ns : List ℕ). AreShared all ns new_sources) (sym numbers)
        (subst (λ (ss : List ℕ). AreShared all (sharing ++ length own ∷ []) ss) (sym named) (record {
          numbered = numbered_pushed (length own) (length all) 0 sharing (omega arith) (omega (arith, longer)) are.numbered;
          paired = omega (arith, are.paired, length-append sharing (length own ∷ []), length-append sources (s ∷ []));
          below = below_pushed (length own) (length all) sources s (omega (arith, longer)) (omega (arith, low, longer)) are.below;
        }))

    pub sharing_pushed : (ls : List Signed) → c ≡ sat_clause (take 1 ls) [] → 0 < length ls → rest_of own s ≡ drop 1 ls
        → clauses_with all new_sharing new_sources ≡ clauses_with own sharing sources ++ sat_clause ls [] ∷ []
    sharing_pushed ls first some rest =
        ap (λ (xs : List SatClause). clauses_with xs new_sharing new_sources) pushed
        ∙ (ap (λ (ns : List ℕ). clauses_with (own ++ c ∷ []) ns new_sources) numbers
        ∙ (ap (λ (ss : List ℕ). clauses_with (own ++ c ∷ []) (sharing ++ length own ∷ []) ss) named
        ∙ (shared_append g 0 own c (length own) (omega arith)
        ∙ (ap (λ (ms : List Signed). clauses_sharing g 0 own ++ sat_clause (with_shared c.literals ms) c.causes ∷ []) shares
        ∙ (ap (λ (d : SatClause). clauses_sharing g 0 own ++ sat_clause (with_shared d.literals (drop 1 ls)) d.causes ∷ []) first
        ∙ (ap (λ (ms : List Signed). clauses_sharing g 0 own ++ sat_clause ms [] ∷ []) (first_and_rest ls some)
        ∙ ap (λ (older : List SatClause). older ++ sat_clause ls [] ∷ []) (shared_same g (shared_of own sharing sources) 0 own (λ k below. shared_older (own ++ c ∷ []) (length own) 0 sharing sources s k are.paired (omega (arith, below)) ∙ shared_stays own (c ∷ []) sharing sources k are.below))))))))
      where
        g : ℕ → List Signed
        g = shared_of (own ++ c ∷ []) (sharing ++ length own ∷ []) (sources ++ s ∷ [])

        shares : g (length own) ≡ drop 1 ls
        shares = shared_newest (own ++ c ∷ []) (length own) 0 sharing sources s are.numbered are.paired ∙ (rest_stays own (c ∷ []) s low ∙ rest)
