-- The states of the need clauses by position, their marks, and the bounds of blocks.
use Rattle.std.specs.Prelude.{◌≡◌, ℕ, ◌/◌, ◌%◌, ◌<◌, ◌≤◌, ◌⊎◌, bit_and, cond, nat_lt, Bool, true, false, List, length, slice_index_or}
use Rattle.std.specs.Int.{bit_at}
use Rattle.resolvo_decide.specs.declared.clause_states.TheConstants.{BLOCK, GROUP}
use Rattle.resolvo_decide.specs.declared.clause_states.ClauseState.{ClauseState}
use Rattle.resolvo_decide.specs.declared.clause_states.ClauseState.TheVariants.{Open, Satisfied, Inactive}

-- the state of the clause at a position; open past the end
abbrev pub state_at : List ClauseState → ℕ → ClauseState
state_at states i = slice_index_or states i Open

-- the clause may offer a decision
abbrev pub is_open_state : ClauseState → Bool
is_open_state Open = true
is_open_state (Satisfied within) = false
is_open_state Inactive = false

-- the clauses from one position up to another are not open
abbrev pub AreClosed : List ClauseState → ℕ → ℕ → Type 0
AreClosed states from end = (i : ℕ) → from ≤ i → i < end → is_open_state (state_at states i) ≡ false

-- the state once the trail has only a prefix of this length in common
abbrev pub reopened : ℕ → ClauseState → ClauseState
reopened common Open = Open
reopened common (Satisfied within) = cond (nat_lt common within) Open (Satisfied within)
reopened common Inactive = Inactive

-- the word of a block, with a bit for each clause; all set past the end
abbrev pub word_at : List ℕ → ℕ → ℕ
word_at marks k = slice_index_or marks k 18446744073709551615

-- the bit of the clause at a position: 0 where it isn't open
unfoldable pub bit_of : List ℕ → ℕ → ℕ
bit_of marks i = bit_at (word_at marks (i / BLOCK)) (i % BLOCK)

-- the clauses from one position up to another are not open, or their bits here are 0
abbrev pub AreClosedOrCold : List ClauseState → List ℕ → ℕ → ℕ → Type 0
AreClosedOrCold states warm from end = (i : ℕ) → from ≤ i → i < end → (is_open_state (state_at states i) ≡ false) ⊎ (bit_of warm i ≡ 0)

-- no clause of the blocks from one up to another has a bit in both
abbrev pub AreApart : List ℕ → List ℕ → ℕ → ℕ → Type 0
AreApart marks warm from end = (k : ℕ) → from ≤ k → k < end → bit_and (word_at marks k) (word_at warm k) ≡ 0

-- a clause whose bit is 0 isn't open
abbrev pub AreMarked : List ClauseState → List ℕ → Type 0
AreMarked states marks = (i : ℕ) → i < length states → bit_of marks i ≡ 0 → is_open_state (state_at states i) ≡ false

-- whether a group may have an open clause; true past the end
abbrev pub mark_at : List Bool → ℕ → Bool
mark_at marks k = slice_index_or marks k true

-- a group of blocks whose mark is false has no open clause
abbrev pub AreGrouped : List ClauseState → List Bool → Type 0
AreGrouped states groups = (i : ℕ) → i < length states → mark_at groups (i / GROUP) ≡ false → is_open_state (state_at states i) ≡ false

-- no clause before this position is open
abbrev pub AreShut : List ClauseState → ℕ → Type 0
AreShut states end = (i : ℕ) → i < end → is_open_state (state_at states i) ≡ false

-- the length of the trail's prefix that satisfies the clause; 0 where none is known
abbrev pub met_within : ClauseState → ℕ
met_within Open = 0
met_within (Satisfied within) = within
met_within Inactive = 0

-- the length of a prefix that bounds those of a block's clauses; the highest number is no bound
abbrev pub bound_at : List ℕ → ℕ → ℕ
bound_at bounds k = slice_index_or bounds k 4294967295

-- the bounds of blocks hold
abbrev pub AreBounded : List ClauseState → List ℕ → Type 0
AreBounded states bounds = (i : ℕ) → i < length states → bound_at bounds (i / BLOCK) < 4294967295 → met_within (state_at states i) ≤ bound_at bounds (i / BLOCK)
