-- The counts of clauses: how many candidates are true, and how many false, under a trail.
use Rattle.std.specs.Prelude.{◌≡◌, ℕ, ◌+◌, ◌-◌, ◌<◌, ◌==◌, nat_lt, min, cond, Bool, true, false, ⊤, ◌++◌, ◌≤◌, List, [], ◌∷◌, length, slice_get, slice_index_or, Option, Some, None, Vec, Contains}
use Rattle.std.specs.declared.alloc.Global.{Global}
use Rattle.std.specs.List.{count_by}
use Rattle.std.specs.Option.{option_map}
use Rattle.resolvo_store_core.specs.Signed.{Signed, same_literal, value_under, index_in, is_true, is_false}
use Rattle.resolvo_store_core.specs.Lists.{items_or_none}
use Rattle.resolvo_store_core.specs.Trail.{EachOnce, value_in}
use Rattle.resolvo_store_core.specs.declared.decision.Entry.{Entry}
use Rattle.resolvo_decide.specs.declared.candidate_counts.CountState.{CountState}
use Rattle.resolvo_decide.specs.declared.candidate_counts.CountState.TheVariants.{Never, Once, Kept}
use Rattle.resolvo_decide.specs.declared.candidate_counts.CandidateCounts.{CandidateCounts}
use Rattle.resolvo_decide.specs.declared.candidate_counts.Occurrence.{Occurrence}
use Rattle.resolvo_decide.specs.declared.candidate_count.CandidateChange.{CandidateChange}
use Rattle.resolvo_decide.specs.declared.candidate_count.CandidateChange.TheVariants.{MadeTrue, MadeFalse, UndoneTrue, UndoneFalse}
use Rattle.resolvo_decide.specs.declared.candidate_count.CandidateCount.{CandidateCount}

-- one more, up to the total
abbrev pub one_more : ℕ → ℕ → ℕ
one_more total n = cond (nat_lt n total) (n + 1) n

-- the count after a change of the candidate at a place
abbrev pub changed : CandidateChange → ℕ → CandidateCount → CandidateCount
changed MadeTrue place t = record t { trues = one_more t.total t.trues }
changed MadeFalse place t = record t { falses = one_more t.total t.falses }
changed UndoneTrue place t = record t { trues = t.trues - 1 }
changed UndoneFalse place t = record t { falses = t.falses - 1; passed = min t.passed place }

-- the same for each occurrence of the count of this number
abbrev pub changed_each : CandidateChange → ℕ → List Occurrence → CandidateCount → CandidateCount
changed_each change k [] t = t
changed_each change k (u ∷ us) t = changed_each change k us (cond (u.count == k) (changed change u.place t) t)

-- how many occurrences are the count's
abbrev pub times : ℕ → List Occurrence → ℕ
times k [] = 0
times k (u ∷ us) = cond (u.count == k) 1 0 + times k us

-- how many of the literals are this one
abbrev pub found : Signed → List Signed → ℕ
found l [] = 0
found l (x ∷ xs) = cond (same_literal l x) 1 0 + found l xs

-- the occurrences that are listed by an index of literals
abbrev pub occurrences_at : List (Vec Occurrence Global) → ℕ → List Occurrence
occurrences_at occurrences index = items_or_none (slice_get occurrences index)

-- the literal that an entry makes true
abbrev pub made_true : Entry → Signed
made_true e = record { variable = e.decision.variable; positive = e.decision.value }

-- the number of the clause's count, if it has one
abbrev pub kept_count : CountState → Option ℕ
kept_count Never = None
kept_count Once = None
kept_count (Kept k) = Some k

abbrev pub number_at : List CountState → ℕ → Option ℕ
number_at count_states i = kept_count (slice_index_or count_states i Never)

-- the count of this number, if there is one
abbrev pub count_in : List CandidateCount → Option ℕ → Option CandidateCount
count_in counts None = None
count_in counts (Some k) = slice_get counts k

-- a count has a true candidate
abbrev pub has_true_in : Option CandidateCount → Bool
has_true_in None = false
has_true_in (Some t) = nat_lt 0 t.trues

-- how many of the first candidates a count passes over
abbrev pub passed_by : Option CandidateCount → ℕ
passed_by None = 0
passed_by (Some t) = t.passed

-- the count is right for the literals under the values
pub record Counts (values : ℕ → Option Bool) (literals : List Signed) (t : CandidateCount) : Type 0 where
  pub total : t.total ≡ length literals
  pub trues : t.trues ≡ count_by (λ l. is_true (value_under values l)) literals
  pub falses : t.falses ≡ count_by (λ l. is_false (value_under values l)) literals
  pub passed : (p : ℕ) (l : Signed) → p < t.passed → slice_get literals p ≡ Some l → is_false (value_under values l) ≡ true

-- so is the count, if there is one
abbrev pub CountsIn : (ℕ → Option Bool) → List Signed → Option CandidateCount → Type 0
CountsIn values literals None = ⊤
CountsIn values literals (Some t) = Counts values literals t

-- the candidates with these literals are listed for the count of this number, each once
pub record AreListed (literals : List Signed) (occurrences : List (Vec Occurrence Global)) (k : ℕ) : Type 0 where
  pub times : (l : Signed) → times k (occurrences_at occurrences (index_in l)) ≡ found l literals
  pub placed : (p : ℕ) (l : Signed) → slice_get literals p ≡ Some l → Contains (occurrences_at occurrences (index_in l)) (record { count = k; place = p })

-- the occurrences are of counts below this number
abbrev pub AreBelow : ℕ → List (Vec Occurrence Global) → Type 0
AreBelow k occurrences = (index : ℕ) (u : Occurrence) → Contains (occurrences_at occurrences index) u → u.count < k

-- the occurrences of the literals of an index, for the count of this number, from a place on
abbrev pub occurrences_of : ℕ → ℕ → List Signed → ℕ → List Occurrence
occurrences_of k place [] index = []
occurrences_of k place (l ∷ ls) index = cond (index_in l == index) (record { count = k; place = place } ∷ []) [] ++ occurrences_of k (place + 1) ls index

-- the occurrences of these literals were added
abbrev pub Lists : ℕ → List Signed → List (Vec Occurrence Global) → List (Vec Occurrence Global) → Type 0
Lists k literals old new = (index : ℕ) → occurrences_at new index ≡ occurrences_at old index ++ occurrences_of k 0 literals index

-- no clause has a count
pub record HasNoCount (all : CandidateCounts) : Type 0 where
  pub count_states : all.count_states.items ≡ []
  pub occurrences : all.occurrences.items ≡ []

-- the count of this number is right under the trail, and its candidates are listed
pub record IsRightCount (literals : List Signed) (trail : List Entry) (all : CandidateCounts) (k : ℕ) : Type 0 where
  pub some : 0 < length literals
  pub once : EachOnce trail
  pub count : CandidateCount
  pub there : slice_get all.counts.items k ≡ Some count
  pub counts : Counts (value_in trail) literals count
  pub listed : AreListed literals all.occurrences.items k

-- the counts were changed, those of this index of literals
pub record Changes (change : CandidateChange) (index : ℕ) (old new : CandidateCounts) : Type 0 where
  pub counts : (k : ℕ) → slice_get new.counts.items k ≡ option_map (changed_each change k (occurrences_at old.occurrences.items index)) (slice_get old.counts.items k)
  pub len : length new.counts.items ≡ length old.counts.items
  pub occurrences : new.occurrences ≡ old.occurrences
  pub count_states : new.count_states ≡ old.count_states

-- the clause at the position was added, without a count
pub record Begins (position : ℕ) (old new : CandidateCounts) : Type 0 where
  pub counts : new.counts ≡ old.counts
  pub occurrences : new.occurrences ≡ old.occurrences
  pub fresh : (i : ℕ) → position ≤ i → number_at new.count_states.items i ≡ None
  pub kept : (i : ℕ) → i < position → number_at new.count_states.items i ≡ number_at old.count_states.items i
