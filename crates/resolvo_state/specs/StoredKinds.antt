-- How kinds of clauses are stored. Each entry has where its clauses end: digits that follow each other share one.
-- A need under a condition lies in a list of its own, by its index.
use Rattle.std.specs.Prelude.{◌≡◌, ℕ, zero, suc, ◌+◌, ◌-◌, ◌%◌, ◌<◌, ◌≤◌, List, [], ◌∷◌, ◌++◌, length, slice_get, slice_index_or, Option, Some, None}
use Rattle.resolvo_state.specs.declared.clause_kind.Need.{Need}
use Rattle.resolvo_state.specs.declared.clause_kind.ClauseKind.{ClauseKind}
use Rattle.resolvo_state.specs.declared.clause_kind.ClauseKind.TheVariants.{InstallRoot, Requires, RequiresIf, RequiresGate, GateRequires, Constrains, ConstrainsParent, ConstrainsExcluded, Lock, Excluded, ForbidMultipleInstances, AnyOf, AnyMatch, Learnt}
use Rattle.resolvo_state.specs.Kinds.{Kind}

-- the kinds of clauses, in the order of their numbers, and the needs that some of them name
pub record KindList (N S : Type 0) : Type 0 where
  pub items : List (Kind N S)
  pub needs : List (Need S)

-- the kind of a need's clause
abbrev pub need_kind : {N S : Type 0} → Option (Need S) → Kind N S
need_kind (Some need) = Kind.Needs need.parent need.need need.case
need_kind None = Kind.Learnt

-- the kind that is stored so, over these needs
abbrev pub kind_in : {N S : Type 0} → List (Need S) → ClauseKind N S → Kind N S
kind_in needs InstallRoot = Kind.Root
kind_in needs (Requires parent r) = Kind.Needs parent (record { condition = None; requirement = r }) []
kind_in needs (RequiresIf index) = need_kind (slice_get needs index)
kind_in needs (RequiresGate s r) = Kind.Gated s r
kind_in needs (GateRequires r) = Kind.Shared r
kind_in needs (Constrains parent v s) = Kind.Limits parent v s
kind_in needs (ConstrainsParent parent v) = Kind.LimitsOutside parent v
kind_in needs (ConstrainsExcluded v s) = Kind.IsOut v s
kind_in needs (Lock locked s) = Kind.Locked locked s
kind_in needs (Excluded s reason) = Kind.Excluded s reason
kind_in needs (ForbidMultipleInstances n s place bit) = Kind.Digit n s place bit
kind_in needs (AnyOf n s) = Kind.IsThere n s
kind_in needs (AnyMatch v s) = Kind.Matches v s
kind_in needs Learnt = Kind.Learnt

-- the bit of a later clause of an entry, the first of which has this one
abbrev pub bit_after : ℕ → ℕ → ℕ
bit_after zero bit = bit
bit_after (suc k) bit = (bit + suc k % 4294967296) % 4294967296

-- what is stored of a later clause of an entry
abbrev pub kind_after : {N S : Type 0} → ℕ → ClauseKind N S → ClauseKind N S
kind_after k (ForbidMultipleInstances n s place bit) = ForbidMultipleInstances n s place (bit_after k bit)
kind_after k other = other

-- the kinds of so many clauses of an entry, from this one on
abbrev pub run_kinds : {N S : Type 0} → List (Need S) → ClauseKind N S → ℕ → ℕ → List (Kind N S)
run_kinds needs x k zero = []
run_kinds needs x k (suc count) = kind_in needs (kind_after k x) ∷ run_kinds needs x (suc k) count

-- the kinds of the clauses from this number on: those of each entry end before one of the ends
abbrev pub kinds_from : {N S : Type 0} → List (Need S) → ℕ → List (ClauseKind N S) → List ℕ → List (Kind N S)
kinds_from needs start [] ends = []
kinds_from needs start (x ∷ entries) [] = []
kinds_from needs start (x ∷ entries) (e ∷ ends) = run_kinds needs x 0 (e - start) ++ kinds_from needs e entries ends

abbrev pub kinds_in : {N S : Type 0} → List (Need S) → List (ClauseKind N S) → List ℕ → List (Kind N S)
kinds_in needs entries ends = kinds_from needs 0 entries ends

-- where the clauses of an entry begin, by the ends
abbrev pub begin_after : ℕ → List ℕ → ℕ → ℕ
begin_after start ends zero = start
begin_after start ends (suc p) = slice_index_or ends p 0

abbrev pub begin_at : List ℕ → ℕ → ℕ
begin_at ends p = begin_after 0 ends p

-- the kinds of so many digits of the solvable's place, from this one on
abbrev pub digit_kinds : {N S : Type 0} → N → S → ℕ → ℕ → ℕ → List (Kind N S)
digit_kinds name s place bit zero = []
digit_kinds name s place bit (suc count) = Kind.Digit name s place bit ∷ digit_kinds name s place (suc bit) count

-- a need that the kind names is one of so many
abbrev pub IsWithin : {N S : Type 0} → ℕ → ClauseKind N S → Type 0
IsWithin count (RequiresIf index) = index < count
IsWithin count other = Unit {0}

abbrev pub AreWithin : {N S : Type 0} → ℕ → List (ClauseKind N S) → Type 0
AreWithin count [] = Unit {0}
AreWithin count (x ∷ stored) = IsWithin count x × AreWithin count stored

-- none of the ends is below the one before it
abbrev pub AreRising : ℕ → List ℕ → Type 0
AreRising start [] = Unit {0}
AreRising start (e ∷ ends) = (start ≤ e) × AreRising e ends

-- each entry has an end, and the needs that entries name are among so many
pub record AreStored {N S : Type 0} (count : ℕ) (entries : List (ClauseKind N S)) (ends : List ℕ) : Type 0 where
  pub within : AreWithin count entries
  pub paired : length ends ≡ length entries
  pub rising : AreRising 0 ends

-- the kind names no need
abbrev pub IsPlain : {N S : Type 0} → ClauseKind N S → Type 0
IsPlain x = IsWithin 0 x

-- what it is then
abbrev pub plain_kind : {N S : Type 0} → ClauseKind N S → Kind N S
plain_kind x = kind_in [] x
