-- Kinds as they are stored, while needs, entries and clauses are added.
use Rattle.std.proofs.Common.{◌≡◌, ℕ, zero, suc, ◌+◌, ◌-◌, ◌<◌, ◌≤◌, List, [], ◌∷◌, ◌++◌, length, get_or, Some, refl, sym, ◌∙◌, ap, subst, arith}
use Rattle.std.specs.Prelude.{slice_get, slice_index_or}
use Rattle.std.proofs.lemmas.List.{length-append, append-nil, append_assoc}
use Rattle.resolvo_state.specs.declared.clause_kind.Need.{Need}
use Rattle.resolvo_state.specs.declared.clause_kind.ClauseKind.{ClauseKind}
use Rattle.resolvo_state.specs.declared.clause_kind.ClauseKind.TheVariants.{RequiresIf, ForbidMultipleInstances}
use Rattle.resolvo_state.specs.Kinds.{Kind}
use Rattle.resolvo_state.specs.StoredKinds.{bit_after, kind_after, run_kinds, kinds_from, kinds_in, begin_after, begin_at, need_kind, kind_in, digit_kinds, plain_kind, IsPlain, IsWithin, AreWithin, AreRising, AreStored}
use Rattle.resolvo_state.proofs.Positions.{get_last}

get_stays : {X : Type 0} (xs more : List X) (i : ℕ) → i < length xs → slice_get (xs ++ more) i ≡ slice_get xs i
get_stays [] more i below = absurd (omega arith)
get_stays (x ∷ xs) more zero below = refl
get_stays (x ∷ xs) more (suc i) below = get_stays xs more i (omega arith)

kind_stays : {N S : Type 0} (needs more : List (Need S)) (x : ClauseKind N S) → IsWithin (length needs) x → kind_in (needs ++ more) x ≡ kind_in needs x
kind_stays needs more (RequiresIf i) within = ap need_kind (get_stays needs more i within)
kind_stays needs more other within = refl

-- needs change no kind that names none
pub plain_in : {N S : Type 0} (needs : List (Need S)) (x : ClauseKind N S) → IsPlain x → kind_in needs x ≡ plain_kind x
plain_in needs x plain = kind_stays [] needs x plain

-- a later clause of an entry names a need if the entry does
within_after : {N S : Type 0} (count k : ℕ) (x : ClauseKind N S) → IsWithin count x → IsWithin count (kind_after k x)
within_after count k (ForbidMultipleInstances n s place bit) within = within
within_after count k other within = within

after_none : {N S : Type 0} (x : ClauseKind N S) → kind_after 0 x ≡ x
after_none (ForbidMultipleInstances n s place bit) = refl
after_none other = refl

-- more needs change no kind
run_stays : {N S : Type 0} (needs more : List (Need S)) (x : ClauseKind N S) (k count : ℕ) → IsWithin (length needs) x → run_kinds (needs ++ more) x k count ≡ run_kinds needs x k count
run_stays needs more x k zero within = refl
run_stays {N} {S} needs more x k (suc count) within =
    ap (λ (y : Kind N S). y ∷ run_kinds (needs ++ more) x (suc k) count) (kind_stays needs more (kind_after k x) (within_after (length needs) k x within))
    ∙ ap (λ (ks : List (Kind N S)). kind_in needs (kind_after k x) ∷ ks) (run_stays needs more x (suc k) count within)

pub kinds_stay : {N S : Type 0} (needs more : List (Need S)) (start : ℕ) (entries : List (ClauseKind N S)) (ends : List ℕ) → AreWithin (length needs) entries → kinds_from (needs ++ more) start entries ends ≡ kinds_from needs start entries ends
kinds_stay needs more start [] ends within = refl
kinds_stay needs more start (x ∷ entries) [] within = refl
kinds_stay {N} {S} needs more start (x ∷ entries) (e ∷ ends) (here, rest) =
    ap (λ (ks : List (Kind N S)). ks ++ kinds_from (needs ++ more) e entries ends) (run_stays needs more x 0 (e - start) here)
    ∙ ap (λ (ks : List (Kind N S)). run_kinds needs x 0 (e - start) ++ ks) (kinds_stay needs more e entries ends rest)

one_within : {N S : Type 0} (few many : ℕ) (x : ClauseKind N S) → few ≤ many → IsWithin few x → IsWithin many x
one_within few many (RequiresIf i) le within = let below : i < few = within in omega arith
one_within few many other le within = tt

all_within : {N S : Type 0} (few many : ℕ) (entries : List (ClauseKind N S)) → few ≤ many → AreWithin few entries → AreWithin many entries
all_within few many [] le within = tt
all_within few many (x ∷ entries) le (here, rest) = (one_within few many x le here, all_within few many entries le rest)

within_push : {N S : Type 0} (count : ℕ) (entries : List (ClauseKind N S)) (x : ClauseKind N S) → AreWithin count entries → IsWithin count x → AreWithin count (entries ++ x ∷ [])
within_push count [] x within last = (last, tt)
within_push count (y ∷ entries) x (here, rest) last = (here, within_push count entries x rest last)

-- the needs that are named stay there
pub stored_longer : {N S : Type 0} (needs more : List (Need S)) (entries : List (ClauseKind N S)) (ends : List ℕ) → AreStored (length needs) entries ends → AreStored (length (needs ++ more)) entries ends
stored_longer needs more entries ends are =
    let long : length (needs ++ more) ≡ length needs + length more = length-append needs more in
    record { within = all_within (length needs) (length (needs ++ more)) entries (omega arith) are.within; paired = are.paired; rising = are.rising }

-- ---- where the clauses of entries begin

begin_step : (start e : ℕ) (ends : List ℕ) (p : ℕ) → begin_after start (e ∷ ends) (suc p) ≡ begin_after e ends p
begin_step start e ends zero = refl
begin_step start e ends (suc p) = refl

-- as it is read
pub begin_read : (ends : List ℕ) (p begin : ℕ) → (p ≡ 0 → begin ≡ 0) → (0 < p → begin ≡ slice_index_or ends (p - 1) 0) → begin ≡ begin_at ends p
begin_read ends zero begin first later = first refl
begin_read ends (suc p) begin first later = (let same : suc p - 1 ≡ p = omega arith in later (omega arith) ∙ ap (λ (k : ℕ). slice_index_or ends k 0) same)

begin_low : (start : ℕ) (ends : List ℕ) (p : ℕ) → AreRising start ends → p ≤ length ends → start ≤ begin_after start ends p
begin_low start ends zero rising low = omega arith
begin_low start [] (suc p) rising low = absurd (omega arith)
begin_low start (e ∷ ends) (suc p) (here, rest) low =
    let more : e ≤ begin_after e ends p = begin_low e ends p rest (omega arith) in
    let step : begin_after start (e ∷ ends) (suc p) ≡ begin_after e ends p = begin_step start e ends p in
    omega (arith, here, more, step)

rising_pushed : (start : ℕ) (ends : List ℕ) (e : ℕ) → AreRising start ends → begin_after start ends (length ends) ≤ e → AreRising start (ends ++ e ∷ [])
rising_pushed start [] e rising low = (low, tt)
rising_pushed start (d ∷ ends) e (here, rest) low = (here, rising_pushed d ends e rest (subst (λ (n : ℕ). n ≤ e) (begin_step start d ends (length ends)) low))

-- ---- an entry is pushed, with so many clauses

pub stored_pushed : {N S : Type 0} (count : ℕ) (entries : List (ClauseKind N S)) (ends : List ℕ) (x : ClauseKind N S) (more : ℕ) → AreStored count entries ends → IsWithin count x
    → AreStored count (entries ++ x ∷ []) (ends ++ (begin_at ends (length ends) + more) ∷ [])
stored_pushed count entries ends x more are within = record {
  within = within_push count entries x are.within within;
  paired = length-append ends ((begin_at ends (length ends) + more) ∷ []) ∙ ap (λ (n : ℕ). n + 1) are.paired ∙ sym (length-append entries (x ∷ []));
  rising = rising_pushed 0 ends (begin_at ends (length ends) + more) are.rising (omega arith);
}

kinds_pushed : {N S : Type 0} (needs : List (Need S)) (start : ℕ) (entries : List (ClauseKind N S)) (ends : List ℕ) (x : ClauseKind N S) (e : ℕ) → length ends ≡ length entries
    → kinds_from needs start (entries ++ x ∷ []) (ends ++ e ∷ []) ≡ kinds_from needs start entries ends ++ run_kinds needs x 0 (e - begin_after start ends (length ends))
kinds_pushed needs start [] [] x e paired = append-nil (run_kinds needs x 0 (e - start))
kinds_pushed needs start [] (d ∷ ends) x e paired = absurd (omega (arith, paired))
kinds_pushed needs start (y ∷ entries) [] x e paired = absurd (omega (arith, paired))
kinds_pushed {N} {S} needs start (y ∷ entries) (d ∷ ends) x e paired =
    ap (λ (ks : List (Kind N S)). run_kinds needs y 0 (d - start) ++ ks) (kinds_pushed needs d entries ends x e (omega (arith, paired)))
    ∙ (sym (append_assoc (run_kinds needs y 0 (d - start)) (kinds_from needs d entries ends) (run_kinds needs x 0 (e - begin_after d ends (length ends))))
    ∙ ap (λ (b : ℕ). (run_kinds needs y 0 (d - start) ++ kinds_from needs d entries ends) ++ run_kinds needs x 0 (e - b)) (sym (begin_step start d ends (length ends))))

-- that is, these kinds
pub run_pushed : {N S : Type 0} (needs : List (Need S)) (entries : List (ClauseKind N S)) (ends : List ℕ) (x : ClauseKind N S) (count : ℕ) → length ends ≡ length entries
    → kinds_in needs (entries ++ x ∷ []) (ends ++ (begin_at ends (length ends) + count) ∷ []) ≡ kinds_in needs entries ends ++ run_kinds needs x 0 count
run_pushed {N} {S} needs entries ends x count paired =
    let many : begin_at ends (length ends) + count - begin_at ends (length ends) ≡ count = omega arith in
    kinds_pushed needs 0 entries ends x (begin_at ends (length ends) + count) paired
    ∙ ap (λ (n : ℕ). kinds_in needs entries ends ++ run_kinds needs x 0 n) many

-- a kind that names no need is pushed
pub plain_pushed : {N S : Type 0} (needs : List (Need S)) (entries : List (ClauseKind N S)) (ends : List ℕ) (x : ClauseKind N S) → length ends ≡ length entries → IsPlain x
    → kinds_in needs (entries ++ x ∷ []) (ends ++ (begin_at ends (length ends) + 1) ∷ []) ≡ kinds_in needs entries ends ++ plain_kind x ∷ []
plain_pushed {N} {S} needs entries ends x paired plain =
    run_pushed needs entries ends x 1 paired
    ∙ ap (λ (k : Kind N S). kinds_in needs entries ends ++ k ∷ []) (ap (kind_in needs) (after_none x) ∙ plain_in needs x plain)

pub plain_stored : {N S : Type 0} (count : ℕ) (entries : List (ClauseKind N S)) (ends : List ℕ) (x : ClauseKind N S) → AreStored count entries ends → IsPlain x
    → AreStored count (entries ++ x ∷ []) (ends ++ (begin_at ends (length ends) + 1) ∷ [])
plain_stored count entries ends x are plain = stored_pushed count entries ends x 1 are (one_within 0 count x (omega arith) plain)

-- a need is pushed with its entry
pub need_pushed : {N S : Type 0} (needs : List (Need S)) (entries : List (ClauseKind N S)) (ends : List ℕ) (need : Need S) → AreStored (length needs) entries ends
    → kinds_in (needs ++ need ∷ []) (entries ++ RequiresIf (length needs) ∷ []) (ends ++ (begin_at ends (length ends) + 1) ∷ [])
    ≡ kinds_in needs entries ends ++ Kind.Needs need.parent need.need need.case ∷ []
need_pushed {N} {S} needs entries ends need are =
    let x : ClauseKind N S = RequiresIf (length needs) in
    run_pushed (needs ++ need ∷ []) entries ends x 1 are.paired
    ∙ (ap (λ (ks : List (Kind N S)). ks ++ kind_in (needs ++ need ∷ []) x ∷ []) (kinds_stay needs (need ∷ []) 0 entries ends are.within)
    ∙ ap (λ held. kinds_in needs entries ends ++ need_kind {N = N} held ∷ []) (get_last needs need))

pub need_stored : {N S : Type 0} (needs : List (Need S)) (entries : List (ClauseKind N S)) (ends : List ℕ) (need : Need S) → AreStored (length needs) entries ends
    → AreStored (length (needs ++ need ∷ [])) (entries ++ RequiresIf (length needs) ∷ []) (ends ++ (begin_at ends (length ends) + 1) ∷ [])
need_stored needs entries ends need are =
    let long : length (needs ++ need ∷ []) ≡ length needs + 1 = length-append needs (need ∷ []) in
    stored_pushed (length (needs ++ need ∷ [])) entries ends (RequiresIf (length needs)) 1 (stored_longer needs (need ∷ []) entries ends are) (omega arith)

-- ---- an entry that the clauses of a place's digits share

digit_bit : (k : ℕ) → k < 4294967296 → bit_after k 0 ≡ k
digit_bit zero few = refl
digit_bit (suc k) few = omega arith

digits_run : {N S : Type 0} (needs : List (Need S)) (name : N) (s : S) (place k count : ℕ) → k + count ≤ 4294967296 → run_kinds needs (ForbidMultipleInstances name s place 0) k count ≡ digit_kinds name s place k count
digits_run needs name s place k zero few = refl
digits_run {N} {S} needs name s place k (suc count) few =
    ap (λ (b : ℕ). Kind.Digit name s place b ∷ run_kinds {N = N} {S = S} needs (ForbidMultipleInstances name s place 0) (suc k) count) (digit_bit k (omega arith))
    ∙ ap (λ (ks : List (Kind N S)). Kind.Digit name s place k ∷ ks) (digits_run needs name s place (suc k) count (omega arith))

pub digits_pushed : {N S : Type 0} (needs : List (Need S)) (entries : List (ClauseKind N S)) (ends : List ℕ) (name : N) (s : S) (place count : ℕ) → length ends ≡ length entries → count ≤ 4294967296
    → kinds_in needs (entries ++ ForbidMultipleInstances name s place 0 ∷ []) (ends ++ (begin_at ends (length ends) + count) ∷ []) ≡ kinds_in needs entries ends ++ digit_kinds name s place 0 count
digits_pushed {N} {S} needs entries ends name s place count paired few =
    run_pushed needs entries ends (ForbidMultipleInstances name s place 0) count paired
    ∙ ap (λ (ks : List (Kind N S)). kinds_in needs entries ends ++ ks) (digits_run needs name s place 0 count (omega arith))

-- ---- the kind of a clause

within_at : {N S : Type 0} (count : ℕ) (entries : List (ClauseKind N S)) (i : ℕ) (d : ClauseKind N S) → i < length entries → AreWithin count entries → IsWithin count (get_or entries i d)
within_at count [] i d below within = absurd (omega arith)
within_at count (x ∷ entries) zero d below (here, rest) = here
within_at count (x ∷ entries) (suc i) d below (here, rest) = within_at count entries i d (omega arith) rest

-- what a clause's entry names is there
pub kind_within : {N S : Type 0} (count k : ℕ) (entries : List (ClauseKind N S)) (p : ℕ) (x : ClauseKind N S) → p < length entries → x ≡ get_or entries p x → AreWithin count entries → IsWithin count (kind_after k x)
kind_within {N} {S} count k entries p x below is within =
    within_after count k x (subst (λ (y : ClauseKind N S). IsWithin count y) (sym is) (within_at count entries p x below within))

got : {X : Type 0} (xs : List X) (i : ℕ) (x : X) → i < length xs → x ≡ get_or xs i x → slice_get xs i ≡ Some x
got [] i x below is = absurd (omega arith)
got {X} (y ∷ xs) zero x below is = ap (λ (k : X). Some k) (sym is)
got (y ∷ xs) (suc i) x below is = got xs i x (omega arith) is

get_behind : {X : Type 0} (xs more : List X) (i j : ℕ) → j ≡ length xs + i → slice_get (xs ++ more) j ≡ slice_get more i
get_behind [] more i j is = (let same : j ≡ i = omega (arith, is) in ap (slice_get more) same)
get_behind (x ∷ xs) more i zero is = absurd (omega (arith, is))
get_behind (x ∷ xs) more i (suc j) is = get_behind xs more i j (omega (arith, is))

run_count : {N S : Type 0} (needs : List (Need S)) (x : ClauseKind N S) (k count : ℕ) → length (run_kinds needs x k count) ≡ count
run_count needs x k zero = refl
run_count needs x k (suc count) = ap suc (run_count needs x (suc k) count)

run_get : {N S : Type 0} (needs : List (Need S)) (x : ClauseKind N S) (k count i : ℕ) → i < count → slice_get (run_kinds needs x k count) i ≡ Some (kind_in needs (kind_after (k + i) x))
run_get needs x k zero i low = absurd (omega arith)
run_get {N} {S} needs x k (suc count) zero low = (let same : k ≡ k + 0 = omega arith in ap (λ (n : ℕ). Some (kind_in needs (kind_after n x))) same)
run_get {N} {S} needs x k (suc count) (suc i) low =
    let same : suc k + i ≡ k + suc i = omega arith in
    run_get needs x (suc k) count i (omega arith) ∙ ap (λ (n : ℕ). Some (kind_in needs (kind_after n x))) same

some_is : {X : Type 0} (x y : X) → Some x ≡ Some y → x ≡ y
some_is x y h = cc

kind_from : {N S : Type 0} (needs : List (Need S)) (start : ℕ) (entries : List (ClauseKind N S)) (ends : List ℕ) (p number : ℕ) (x : ClauseKind N S) → length ends ≡ length entries → AreRising start ends → start ≤ number
    → slice_get entries p ≡ Some x → begin_after start ends p ≤ number → number < slice_index_or ends p 0 → slice_get (kinds_from needs start entries ends) (number - start) ≡ Some (kind_in needs (kind_after (number - begin_after start ends p) x))
kind_from needs start [] ends p number x paired rising order at above below = cc
kind_from needs start (y ∷ entries) [] p number x paired rising order at above below = absurd (omega (arith, paired))
kind_from {N} {S} needs start (y ∷ entries) (e ∷ ends) zero number x paired (here, rest) order at above below =
    let long : length (run_kinds needs y 0 (e - start)) ≡ e - start = run_count needs y 0 (e - start) in
    let same : 0 + (number - start) ≡ number - start = omega arith in
    get_stays (run_kinds needs y 0 (e - start)) (kinds_from needs e entries ends) (number - start) (omega (arith, long, order, below))
    ∙ (run_get needs y 0 (e - start) (number - start) (omega (arith, order, below))
    ∙ (ap (λ (n : ℕ). Some (kind_in needs (kind_after n y))) same
    ∙ ap (λ (z : ClauseKind N S). Some (kind_in needs (kind_after (number - start) z))) (some_is y x at)))
kind_from {N} {S} needs start (y ∷ entries) (e ∷ ends) (suc p) number x paired (here, rest) order at above below =
    let step : begin_after start (e ∷ ends) (suc p) ≡ begin_after e ends p = begin_step start e ends p in
    let inside : p < length ends = (let fits : p < length entries = inside_of entries p x at in omega (arith, fits, paired)) in
    let low : e ≤ begin_after e ends p = begin_low e ends p rest (omega (arith, inside)) in
    let long : length (run_kinds needs y 0 (e - start)) ≡ e - start = run_count needs y 0 (e - start) in
    let behind : number - start ≡ length (run_kinds needs y 0 (e - start)) + (number - e) = omega (arith, long, here, low, step, above) in
    get_behind (run_kinds needs y 0 (e - start)) (kinds_from needs e entries ends) (number - e) (number - start) behind
    ∙ (kind_from needs e entries ends p number x (omega (arith, paired)) rest (omega (arith, low, step, above)) at (omega (arith, step, above)) below
    ∙ ap (λ (b : ℕ). Some (kind_in needs (kind_after (number - b) x))) (sym step))
  where
    inside_of : {X : Type 0} (xs : List X) (i : ℕ) (z : X) → slice_get xs i ≡ Some z → i < length xs
    inside_of [] i z h = cc
    inside_of (w ∷ xs) zero z h = omega arith
    inside_of (w ∷ xs) (suc i) z h = let more : i < length xs = inside_of xs i z h in omega (arith, more)

pub kind_stored : {N S : Type 0} (needs : List (Need S)) (entries : List (ClauseKind N S)) (ends : List ℕ) (p number : ℕ) (x : ClauseKind N S) → length ends ≡ length entries → AreRising 0 ends → p < length entries → x ≡ get_or entries p x
    → begin_at ends p ≤ number → number < slice_index_or ends p 0 → slice_get (kinds_in needs entries ends) number ≡ Some (kind_in needs (kind_after (number - begin_at ends p) x))
kind_stored {N} {S} needs entries ends p number x paired rising inside is above below =
    let same : number ≡ number - 0 = omega arith in
    ap (slice_get (kinds_in needs entries ends)) same ∙ kind_from needs 0 entries ends p number x paired rising (omega arith) (got entries p x inside is) above below

-- how many clauses there are
kinds_after : {N S : Type 0} (needs : List (Need S)) (start : ℕ) (entries : List (ClauseKind N S)) (ends : List ℕ) → length ends ≡ length entries → AreRising start ends → start + length (kinds_from needs start entries ends) ≡ begin_after start ends (length ends)
kinds_after needs start [] [] paired rising = omega arith
kinds_after needs start [] (d ∷ ends) paired rising = absurd (omega (arith, paired))
kinds_after needs start (y ∷ entries) [] paired rising = absurd (omega (arith, paired))
kinds_after needs start (y ∷ entries) (e ∷ ends) paired (here, rest) =
    let both : length (run_kinds needs y 0 (e - start) ++ kinds_from needs e entries ends) ≡ length (run_kinds needs y 0 (e - start)) + length (kinds_from needs e entries ends) = length-append (run_kinds needs y 0 (e - start)) (kinds_from needs e entries ends) in
    let long : length (run_kinds needs y 0 (e - start)) ≡ e - start = run_count needs y 0 (e - start) in
    let more : e + length (kinds_from needs e entries ends) ≡ begin_after e ends (length ends) = kinds_after needs e entries ends (omega (arith, paired)) rest in
    let step : begin_after start (e ∷ ends) (suc (length ends)) ≡ begin_after e ends (length ends) = begin_step start e ends (length ends) in
    omega (arith, both, long, more, step, here)

pub kinds_count : {N S : Type 0} (needs : List (Need S)) (entries : List (ClauseKind N S)) (ends : List ℕ) → length ends ≡ length entries → AreRising 0 ends → length (kinds_in needs entries ends) ≡ begin_at ends (length ends)
kinds_count needs entries ends paired rising = (let all : 0 + length (kinds_in needs entries ends) ≡ begin_at ends (length ends) = kinds_after needs 0 entries ends paired rising in omega (arith, all))

-- a clause's number is below the last end
pub some_end : (ends : List ℕ) (number : ℕ) → number < begin_at ends (length ends) → 0 < length ends
some_end [] number low = absurd (omega (arith, low))
some_end (e ∷ ends) number low = omega arith

pub last_end : (ends : List ℕ) (number : ℕ) → number < begin_at ends (length ends) → number < slice_index_or ends (length ends - 1) 0
last_end [] number low = absurd (omega (arith, low))
last_end (e ∷ ends) number low = (let same : suc (length ends) - 1 ≡ length ends = omega arith in subst (λ (k : ℕ). number < slice_index_or (e ∷ ends) k 0) (sym same) low)
