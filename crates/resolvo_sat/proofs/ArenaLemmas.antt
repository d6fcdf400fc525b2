-- Clauses whose literals lie one after the other in one list, and their causes in another.
use Rattle.std.proofs.Common.{◌≡◌, ℕ, zero, suc, ◌+◌, ◌-◌, ◌≤◌, ◌<◌, ◌==◌, inl, inr, Bool, true, false, cond, List, [], ◌∷◌, ◌++◌, length, take, drop, get_or, Some, None, Result, Ok, Err, refl, sym, ap, subst, ◌∙◌, arith, eqb-true, eq-eqb}
use Rattle.std.specs.Prelude.{slice_get, nat_lt, MatchResult}
use Rattle.std.specs.List.{slice_range}
use Rattle.std.specs.List.Sorted.{IsBinarySearchResult}
use Rattle.std.specs.Ordering.{nat_cmp}
use Rattle.std.proofs.lemmas.Bool.{cases_Bool}
use Rattle.std.proofs.lemmas.Bool.Decides.{nat_tests}
use Rattle.std.proofs.lemmas.List.{drop-append-le, take-append-le, length-append, length-drop, take_all}
use Rattle.std.proofs.lemmas.List.Sorted.{searched}
use Rattle.resolvo_pool_core.specs.declared.id.ClauseId.{ClauseId}
use Rattle.resolvo_store_core.specs.Signed.{Signed}
use Rattle.resolvo_sat.specs.Known.{clause_at}
use Rattle.resolvo_sat.specs.State.{lists}
use Rattle.resolvo_sat.specs.Clauses.{SatClause, sat_clause, causes_at, causes_of, clauses_from, clauses_in, IsPlaceOf, AreRising, AreNumbered, AreEnds}
use Rattle.resolvo_sat.proofs.Trails.{false_unless}

-- a range within a list is the same where more follows
range_stays : {X : Type 0} (xs more : List X) (b e : ℕ) → b ≤ e → e ≤ length xs → slice_range (xs ++ more) b e ≡ slice_range xs b e
range_stays {X} xs more b e first last =
    ap (λ (ys : List X). take (e - b) ys) (drop-append-le b xs more (omega (arith, first, last)))
    ∙ take-append-le (e - b) (drop b xs) more (omega (arith, first, last, length-drop b xs))

dropped : {X : Type 0} (xs more : List X) → drop (length xs) (xs ++ more) ≡ more
dropped [] more = refl
dropped (x ∷ xs) more = dropped xs more

-- the range behind a list is what follows
range_added : {X : Type 0} (xs more : List X) → slice_range (xs ++ more) (length xs) (length xs + length more) ≡ more
range_added {X} xs more =
    ap (λ (ys : List X). take (length xs + length more - length xs) ys) (dropped xs more)
    ∙ take_all (length xs + length more - length xs) more (omega arith)

-- ---- ends that rise

-- where what is of a number begins, the first beginning here
abbrev pub begin_from : ℕ → List ℕ → ℕ → ℕ
begin_from b ends zero = b
begin_from b [] (suc n) = b
begin_from b (e ∷ ends) (suc n) = begin_from e ends n

-- no end is before the first one, nor past the list
within : (l b : ℕ) (ends : List ℕ) → AreRising l b ends → b ≤ l
within l b [] are = let same : b ≡ l = are in omega arith
within l b (e ∷ ends) are = let rest : e ≤ l = within l e ends are.1 in omega (arith, are.0)

-- the last end is where the list ends
last_is : (l b : ℕ) (ends : List ℕ) → AreRising l b ends → begin_from b ends (length ends) ≡ l
last_is l b [] are = are
last_is l b (e ∷ ends) are = last_is l e ends are.1

-- one end more rises too, if it is past the others
rising_pushed : (l b p : ℕ) (ends : List ℕ) → AreRising l b ends → l ≤ p → AreRising p b (ends ++ p ∷ [])
rising_pushed l b p [] are more = let same : b ≡ l = are in (omega arith, refl)
rising_pushed l b p (e ∷ ends) are more = (are.0, rising_pushed l e p ends are.1 more)

-- what is of a number is within the list
pub range_within : (l b : ℕ) (ends : List ℕ) (n e : ℕ) → AreRising l b ends → slice_get ends n ≡ Some e → (begin_from b ends n ≤ e) × (e ≤ l)
range_within l b [] n e are at = absurd cc
range_within l b (q ∷ ends) zero e are at =
    let inside : q ≤ l = within l q ends are.1 in
    let same : q ≡ e = cc in
    subst (λ (r : ℕ). (b ≤ r) × (r ≤ l)) same (are.0, inside)
range_within l b (q ∷ ends) (suc n) e are at = range_within l q ends n e are.1 at

begin_read : (b : ℕ) (ends : List ℕ) (n d : ℕ) → n < length ends → begin_from b ends (suc n) ≡ get_or ends n d
begin_read b [] n d h = absurd (omega arith)
begin_read b (q ∷ ends) zero d h = refl
begin_read b (q ∷ ends) (suc n) d h = begin_read q ends n d (omega arith)

-- what a number begins at, where it is the first one, and where it isn't
pub begin_is : (ends : List ℕ) (n b : ℕ) → (n ≡ 0 → b ≡ 0) → (0 < n → b ≡ get_or ends (n - 1) 0) → n ≤ length ends → b ≡ begin_from 0 ends n
begin_is ends zero b first later few = first refl
begin_is ends (suc n) b first later few =
    let before : suc n - 1 ≡ n = omega arith in
    later (omega arith) ∙ (ap (λ (k : ℕ). get_or ends k 0) before ∙ sym (begin_read 0 ends n 0 (omega arith)))

-- ---- the clauses of ends

pub clauses_count : (f : ℕ → List ClauseId) (ls : List Signed) (m b : ℕ) (ends : List ℕ) → length (clauses_from f ls m b ends) ≡ length ends
clauses_count f ls m b [] = refl
clauses_count f ls m b (e ∷ ends) = ap suc (clauses_count f ls (suc m) e ends)

-- the clause of a number, between its ends
pub literals_in : (f : ℕ → List ClauseId) (ls : List Signed) (m b : ℕ) (ends : List ℕ) (n e : ℕ) → slice_get ends n ≡ Some e → clause_at (lists (clauses_from f ls m b ends)) n ≡ slice_range ls (begin_from b ends n) e
literals_in f ls m b [] n e at = absurd cc
literals_in f ls m b (q ∷ ends) zero e at = let same : q ≡ e = cc in ap (λ (r : ℕ). slice_range ls b r) same
literals_in f ls m b (q ∷ ends) (suc n) e at = literals_in f ls (suc m) q ends n e at

pub causes_in : (f : ℕ → List ClauseId) (ls : List Signed) (m b : ℕ) (ends : List ℕ) (n last : ℕ) → n < length ends → last ≡ m + n → causes_at (clauses_from f ls m b ends) n ≡ f last
causes_in f ls m b [] n last below is = absurd (omega arith)
causes_in f ls m b (q ∷ ends) zero last below is = let same : m ≡ last = omega (arith, is) in ap f same
causes_in f ls m b (q ∷ ends) (suc n) last below is =
    let next : last ≡ suc m + n = omega (arith, is) in
    causes_in f ls (suc m) q ends n last (omega arith) next

-- the clauses are the same where more literals follow
clauses_stay : (f : ℕ → List ClauseId) (ls more : List Signed) (m b : ℕ) (ends : List ℕ) → AreRising (length ls) b ends → clauses_from f (ls ++ more) m b ends ≡ clauses_from f ls m b ends
clauses_stay f ls more m b [] are = refl
clauses_stay f ls more m b (e ∷ ends) are =
    let inside : e ≤ length ls = within (length ls) e ends are.1 in
    ap (λ (xs : List Signed). sat_clause xs (f m) ∷ clauses_from f (ls ++ more) (suc m) e ends) (range_stays ls more b e are.0 inside)
    ∙ ap (λ (rest : List SatClause). sat_clause (slice_range ls b e) (f m) ∷ rest) (clauses_stay f ls more (suc m) e ends are.1)

-- and where the causes of each are
clauses_same : (f g : ℕ → List ClauseId) (ls : List Signed) (m b : ℕ) (ends : List ℕ) → ((k : ℕ) → k < m + length ends → f k ≡ g k) → clauses_from f ls m b ends ≡ clauses_from g ls m b ends
clauses_same f g ls m b [] same = refl
clauses_same f g ls m b (e ∷ ends) same =
    ap (λ (cs : List ClauseId). sat_clause (slice_range ls b e) cs ∷ clauses_from f ls (suc m) e ends) (same m (omega arith))
    ∙ ap (λ (rest : List SatClause). sat_clause (slice_range ls b e) (g m) ∷ rest) (clauses_same f g ls (suc m) e ends (λ k below. same k (omega (arith, below))))

clauses_append : (f : ℕ → List ClauseId) (ls : List Signed) (m b : ℕ) (ends : List ℕ) (p last : ℕ) → last ≡ m + length ends
    → clauses_from f ls m b (ends ++ p ∷ []) ≡ clauses_from f ls m b ends ++ sat_clause (slice_range ls (begin_from b ends (length ends)) p) (f last) ∷ []
clauses_append f ls m b [] p last is = let same : m ≡ last = omega (arith, is) in ap (λ (k : ℕ). sat_clause (slice_range ls b p) (f k) ∷ []) same
clauses_append f ls m b (e ∷ ends) p last is =
    let next : last ≡ suc m + length ends = omega (arith, is) in
    ap (λ (rest : List SatClause). sat_clause (slice_range ls b e) (f m) ∷ rest) (clauses_append f ls (suc m) e ends p last next)

clause_pushed : (f : ℕ → List ClauseId) (ls more : List Signed) (others : List ClauseId) (ends : List ℕ) (p : ℕ) → AreRising (length ls) 0 ends → p ≡ length ls + length more → f (length ends) ≡ others
    → clauses_from f (ls ++ more) 0 0 (ends ++ p ∷ []) ≡ clauses_from f ls 0 0 ends ++ sat_clause more others ∷ []
clause_pushed f ls more others ends p rising to causes =
    let begins : begin_from 0 ends (length ends) ≡ length ls = last_is (length ls) 0 ends rising in
    let literals : slice_range (ls ++ more) (begin_from 0 ends (length ends)) p ≡ more = rw (begins, to) (range_added ls more) in
    clauses_append f (ls ++ more) 0 0 ends p (length ends) (omega arith)
    ∙ (ap (λ (xs : List Signed). clauses_from f (ls ++ more) 0 0 ends ++ sat_clause xs (f (length ends)) ∷ []) literals
    ∙ (ap (λ (xs : List ClauseId). clauses_from f (ls ++ more) 0 0 ends ++ sat_clause more xs ∷ []) causes
    ∙ ap (λ (rest : List SatClause). rest ++ sat_clause more others ∷ []) (clauses_stay f ls more 0 0 ends rising)))

-- ---- the causes of a number

-- a number is one of those from this one on, and below the count
pub numbered_at : (count low : ℕ) (caused : List ℕ) (i : ℕ) → AreNumbered count low caused → i < length caused → (low ≤ get_or caused i 0) × (get_or caused i 0 < count)
numbered_at count low [] i are below = absurd (omega arith)
numbered_at count low (c ∷ caused) zero are below = (are.0, are.1)
numbered_at count low (c ∷ caused) (suc i) are below =
    let rest = numbered_at count (suc c) caused i are.2 (omega arith) in
    let more : suc c ≤ get_or caused i 0 = rest.0 in
    (omega (arith, are.0), rest.1)

pub numbered_more : (few many low : ℕ) (caused : List ℕ) → few ≤ many → AreNumbered few low caused → AreNumbered many low caused
numbered_more few many low [] le are = tt
numbered_more few many low (c ∷ caused) le are = (are.0, omega (arith, are.1), numbered_more few many (suc c) caused le are.2)

pub numbered_pushed : (count many low : ℕ) (caused : List ℕ) → low ≤ count → count < many → AreNumbered count low caused → AreNumbered many low (caused ++ count ∷ [])
numbered_pushed count many low [] le below are = (le, below, tt)
numbered_pushed count many low (c ∷ caused) le below are =
    let early : c < count = are.1 in
    (are.0, omega arith, numbered_pushed count many (suc c) caused (omega arith) below are.2)

-- numbers that rise never fall
never_falls : (count low : ℕ) (caused : List ℕ) (i j : ℕ) → AreNumbered count low caused → i ≤ j → j < length caused → get_or caused i 0 ≤ get_or caused j 0
never_falls count low [] i j are le below = absurd (omega arith)
never_falls count low (c ∷ caused) zero zero are le below = omega arith
never_falls count low (c ∷ caused) zero (suc j) are le below =
    let rest = numbered_at count (suc c) caused j are.2 (omega arith) in
    let more : suc c ≤ get_or caused j 0 = rest.0 in
    omega arith
never_falls count low (c ∷ caused) (suc i) zero are le below = absurd (omega arith)
never_falls count low (c ∷ caused) (suc i) (suc j) are le below = never_falls count (suc c) caused i j are.2 (omega arith) (omega arith)

-- what a binary search answers
pub sought : (count : ℕ) (caused : List ℕ) (n : ℕ) (r : Result ℕ ℕ) → AreNumbered count 0 caused → IsBinarySearchResult (λ k. nat_cmp k n) caused r → MatchResult r (λ i. IsPlaceOf caused n (Some i)) (λ i. IsPlaceOf caused n None)
sought count caused n r are ended = go r (searched caused n r ended (λ i j le below. never_falls count 0 caused i j are le below))
  where
    go : (q : Result ℕ ℕ) → MatchResult q (λ i. (i < length caused) × (get_or caused i 0 ≡ n)) (λ i. (i ≤ length caused) × ((j : ℕ) → j < i → get_or caused j 0 < n) × ((j : ℕ) → i ≤ j → j < length caused → n < get_or caused j 0))
        → MatchResult q (λ i. IsPlaceOf caused n (Some i)) (λ i. IsPlaceOf caused n None)
    go (Ok i) h = h
    go (Err i) h = λ k below at. elim (cases_Bool (nat_lt k i)) [
      | inl less ↦ (let low : k < i = grind (arith, nat_tests) in omega (arith, h.1 k low, at))
      | inr more ↦ (let high : i ≤ k = grind (arith, nat_tests) in omega (arith, h.2 k high below, at))
    ]

pub causes_none : (cs : List ClauseId) (b : ℕ) (caused ends : List ℕ) (n : ℕ) → IsPlaceOf caused n None → causes_of cs b caused ends n ≡ []
causes_none cs b [] ends n none = refl
causes_none cs b (c ∷ caused) [] n none = refl
causes_none cs b (c ∷ caused) (e ∷ ends) n none =
    let other : (c == n) ≡ false = false_unless (c == n) (λ h. none 0 (omega arith) (eqb-true c n h)) in
    ap (λ (t : Bool). cond t (slice_range cs b e) (causes_of cs e caused ends n)) other ∙ causes_none cs e caused ends n (λ i below at. none (suc i) (omega (arith, below)) at)

pub causes_found : (cs : List ClauseId) (b count low : ℕ) (caused ends : List ℕ) (n i e : ℕ) → AreNumbered count low caused → i < length caused → get_or caused i 0 ≡ n → slice_get ends i ≡ Some e
    → causes_of cs b caused ends n ≡ slice_range cs (begin_from b ends i) e
causes_found cs b count low [] ends n i e are below at is = absurd (omega arith)
causes_found cs b count low (c ∷ caused) [] n i e are below at is = absurd cc
causes_found cs b count low (c ∷ caused) (q ∷ ends) n zero e are below at is =
    let same : q ≡ e = cc in
    let own : (c == n) ≡ true = eq-eqb c n at in
    ap (λ (t : Bool). cond t (slice_range cs b q) (causes_of cs q caused ends n)) own ∙ ap (λ (r : ℕ). slice_range cs b r) same
causes_found cs b count low (c ∷ caused) (q ∷ ends) n (suc i) e are below at is =
    let rest = numbered_at count (suc c) caused i are.2 (omega arith) in
    let later : suc c ≤ get_or caused i 0 = rest.0 in
    let here : get_or caused i 0 ≡ n = at in
    let other : (c == n) ≡ false = false_unless (c == n) (λ h. let same : c ≡ n = eqb-true c n h in omega arith) in
    ap (λ (t : Bool). cond t (slice_range cs b q) (causes_of cs q caused ends n)) other ∙ causes_found cs q count (suc c) caused ends n i e are.2 (omega arith) here is

-- with one clause more that has causes, those of the others are the same, and these are its own
causes_older : (cs others : List ClauseId) (b count low : ℕ) (caused ends : List ℕ) (q n : ℕ) → AreNumbered count low caused → length caused ≡ length ends → AreRising (length cs) b ends → n < count
    → causes_of (cs ++ others) b (caused ++ count ∷ []) (ends ++ q ∷ []) n ≡ causes_of cs b caused ends n
causes_older cs others b count low [] [] q n are paired rising below =
    let other : (count == n) ≡ false = false_unless (count == n) (λ h. let same : count ≡ n = eqb-true count n h in omega arith) in
    ap (λ (t : Bool). cond t (slice_range (cs ++ others) b q) []) other
causes_older cs others b count low [] (e ∷ ends) q n are paired rising below = absurd (omega (arith, paired))
causes_older cs others b count low (c ∷ caused) [] q n are paired rising below = absurd (omega (arith, paired))
causes_older cs others b count low (c ∷ caused) (e ∷ ends) q n are paired rising below =
    let inside : e ≤ length cs = within (length cs) e ends rising.1 in
    ap (λ (xs : List ClauseId). cond (c == n) xs (causes_of (cs ++ others) e (caused ++ count ∷ []) (ends ++ q ∷ []) n)) (range_stays cs others b e rising.0 inside)
    ∙ ap (λ (xs : List ClauseId). cond (c == n) (slice_range cs b e) xs) (causes_older cs others e count (suc c) caused ends q n are.2 (omega (arith, paired)) rising.1 below)

causes_newest : (cs others : List ClauseId) (b count low : ℕ) (caused ends : List ℕ) (q : ℕ) → AreNumbered count low caused → length caused ≡ length ends → AreRising (length cs) b ends → q ≡ length cs + length others
    → causes_of (cs ++ others) b (caused ++ count ∷ []) (ends ++ q ∷ []) count ≡ others
causes_newest cs others b count low [] [] q are paired rising to =
    let own : (count == count) ≡ true = eq-eqb count count refl in
    ap (λ (t : Bool). cond t (slice_range (cs ++ others) b q) []) own
    ∙ (ap (λ (k : ℕ). slice_range (cs ++ others) k q) rising ∙ (ap (λ (k : ℕ). slice_range (cs ++ others) (length cs) k) to ∙ range_added cs others))
causes_newest cs others b count low [] (e ∷ ends) q are paired rising to = absurd (omega (arith, paired))
causes_newest cs others b count low (c ∷ caused) [] q are paired rising to = absurd (omega (arith, paired))
causes_newest cs others b count low (c ∷ caused) (e ∷ ends) q are paired rising to =
    let early : c < count = are.1 in
    let other : (c == count) ≡ false = false_unless (c == count) (λ h. let same : c ≡ count = eqb-true c count h in omega arith) in
    ap (λ (t : Bool). cond t (slice_range (cs ++ others) b e) (causes_of (cs ++ others) e (caused ++ count ∷ []) (ends ++ q ∷ []) count)) other
    ∙ causes_newest cs others e count (suc c) caused ends q are.2 (omega (arith, paired)) rising.1 to

-- ---- one clause more

module _ (more ls ms : List Signed) (cs : List ClauseId) (ends new_ends caused cause_ends : List ℕ) (are : AreEnds (length ls) ends (length cs) caused cause_ends) (literals : ms ≡ ls ++ more) (last : new_ends ≡ ends ++ length ms ∷ []) where
  to : length ms ≡ length ls + length more
  to = ap length literals ∙ length-append ls more

  pub rule_ends : length ends < 4294967295 → AreEnds (length ms) new_ends (length cs) caused cause_ends
  rule_ends few =
      let longer : length (ends ++ length ms ∷ []) ≡ length ends + 1 = length-append ends (length ms ∷ []) in
      subst (λ (es : List ℕ). AreEnds (length ms) es (length cs) caused cause_ends) (sym last) (record {
        few = omega (arith, few);
        rising = rising_pushed (length ls) 0 (length ms) ends are.rising (omega (arith, to));
        for_causes = record { numbered = numbered_more (length ends) (length (ends ++ length ms ∷ [])) 0 caused (omega arith) are.for_causes.numbered; paired = are.for_causes.paired; rising = are.for_causes.rising };
      })

  none_new : IsPlaceOf caused (length ends) None
  none_new i below at = let rest = numbered_at (length ends) 0 caused i are.for_causes.numbered below in let early : get_or caused i 0 < length ends = rest.1 in omega arith

  pub rule_pushed : clauses_in ms new_ends cs caused cause_ends ≡ clauses_in ls ends cs caused cause_ends ++ sat_clause more [] ∷ []
  rule_pushed =
      ap (λ (es : List ℕ). clauses_in ms es cs caused cause_ends) last
      ∙ (ap (λ (xs : List Signed). clauses_in xs (ends ++ length ms ∷ []) cs caused cause_ends) literals
      ∙ clause_pushed (causes_of cs 0 caused cause_ends) ls more [] ends (length ms) are.rising to (causes_none cs 0 caused cause_ends (length ends) none_new))

  module _ (others ds : List ClauseId) (new_caused new_cause_ends : List ℕ) (causes : ds ≡ cs ++ others) (numbers : new_caused ≡ caused ++ length ends ∷ []) (end : new_cause_ends ≡ cause_ends ++ length ds ∷ []) where
    until : length ds ≡ length cs + length others
    until = ap length causes ∙ length-append cs others

    pub caused_ends : length ends < 4294967295 → AreEnds (length ms) new_ends (length ds) new_caused new_cause_ends
    caused_ends few =
        let longer : length (ends ++ length ms ∷ []) ≡ length ends + 1 = length-append ends (length ms ∷ []) in
        let paired : length caused ≡ length cause_ends = are.for_causes.paired in
        subst (λ (es : List ℕ). AreEnds (length ms) es (length ds) new_caused new_cause_ends) (sym last)
        (subst (λ (ns : List ℕ). AreEnds (length ms) (ends ++ length ms ∷ []) (length ds) ns new_cause_ends) (sym numbers)
        (subst (λ (es : List ℕ). AreEnds (length ms) (ends ++ length ms ∷ []) (length ds) (caused ++ length ends ∷ []) es) (sym end) (record {
          few = omega (arith, few);
          rising = rising_pushed (length ls) 0 (length ms) ends are.rising (omega (arith, to));
          for_causes = record {
            numbered = numbered_pushed (length ends) (length (ends ++ length ms ∷ [])) 0 caused (omega arith) (omega arith) are.for_causes.numbered;
            paired = omega (arith, length-append caused (length ends ∷ []), length-append cause_ends (length ds ∷ []));
            rising = rising_pushed (length cs) 0 (length ds) cause_ends are.for_causes.rising (omega (arith, until));
          };
        })))

    pub caused_pushed : clauses_in ms new_ends ds new_caused new_cause_ends ≡ clauses_in ls ends cs caused cause_ends ++ sat_clause more others ∷ []
    caused_pushed =
        ap (λ (es : List ℕ). clauses_in ms es ds new_caused new_cause_ends) last
        ∙ (ap (λ (xs : List Signed). clauses_in xs (ends ++ length ms ∷ []) ds new_caused new_cause_ends) literals
        ∙ (ap (λ (es : List ℕ). clauses_in (ls ++ more) (ends ++ length ms ∷ []) ds new_caused es) end
        ∙ (ap (λ (ns : List ℕ). clauses_in (ls ++ more) (ends ++ length ms ∷ []) ds ns (cause_ends ++ length ds ∷ [])) numbers
        ∙ (ap (λ (xs : List ClauseId). clauses_in (ls ++ more) (ends ++ length ms ∷ []) xs (caused ++ length ends ∷ []) (cause_ends ++ length ds ∷ [])) causes
        ∙ (clause_pushed g ls more others ends (length ms) are.rising to (causes_newest cs others 0 (length ends) 0 caused cause_ends (length ds) are.for_causes.numbered are.for_causes.paired are.for_causes.rising until)
        ∙ ap (λ (rest : List SatClause). rest ++ sat_clause more others ∷ [])
        (clauses_same g (causes_of cs 0 caused cause_ends) ls 0 0 ends (λ k below. causes_older cs others 0 (length ends) 0 caused cause_ends (length ds) k are.for_causes.numbered are.for_causes.paired are.for_causes.rising (omega (arith, below)))))))))
      where
        g : ℕ → List ClauseId
        g = causes_of (cs ++ others) 0 (caused ++ length ends ∷ []) (cause_ends ++ length ds ∷ [])
