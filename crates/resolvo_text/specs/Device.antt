-- Contracts of a device that gives or takes bytes.
use Rattle.std.specs.Prelude.{◌≡◌, ℕ, ◌+◌, ◌<◌, ◌≤◌, ◌⊎◌, min, ◌==◌, if◌then◌else◌, List, ◌++◌, Option, Some, Result, Ok, Err}
use Rattle.std.specs.Io.KnownBytes.{Appends}
use Rattle.resolvo_text.specs.declared.device.IoFault.{IoFault}
use Rattle.resolvo_text.specs.declared.device.IoFault.TheVariants.{Interrupted, Failed}

-- a fact of the bytes, where they are known
abbrev pub IfKnown : Option (List ℕ) → (List ℕ → Type 0) → Type 0
IfKnown known P = (bytes : List ℕ) → known ≡ Some bytes → P bytes

-- the last count, of failures and of interruptions
abbrev pub last : ℕ
last = 18446744073709551615

-- one more, up to the last count
abbrev pub one_more : ℕ → ℕ
one_more n = min (n + 1) last

-- A call that failed is counted, up to the last count. At the last count each call fails.
abbrev pub CountsFailures : {T : Type 0} → ℕ → ℕ → Result T IoFault → Type 0
CountsFailures old new (Ok x) = (new ≡ old) × (old < last)
CountsFailures old new (Err Interrupted) = (new ≡ old) × (old < last)
CountsFailures old new (Err Failed) = new ≡ one_more old

-- An interruption is counted, up to the last count, and any other answer ends the row of them.
abbrev pub CountsInterruptions : {T : Type 0} → ℕ → ℕ → Result T IoFault → Type 0
CountsInterruptions old new (Ok x) = new ≡ 0
CountsInterruptions old new (Err Interrupted) = new ≡ one_more old
CountsInterruptions old new (Err Failed) = new ≡ 0

-- A write that took no byte is counted, up to the last count.
abbrev pub CountsEmpty : ℕ → ℕ → Result ℕ IoFault → Type 0
CountsEmpty old new (Ok n) = new ≡ (if n == 0 then one_more old else old)
CountsEmpty old new (Err e) = new ≡ old

-- In a call that found the first count of failures and left the second, and this row of interruptions, the
-- device failed: the count rose or was at the last, or more than 1,000 calls in a row were interrupted.
abbrev pub DeviceFailed : ℕ → ℕ → ℕ → Type 0
DeviceFailed failures_before failures_now interruptions = (failures_before < failures_now) ⊎ (last ≤ failures_before) ⊎ (1000 < interruptions)

-- The device failed so, or a write took no byte: the count of those found and of those left.
abbrev pub WriterFailed : ℕ → ℕ → ℕ → ℕ → ℕ → Type 0
WriterFailed failures_before failures_now interruptions empty_before empty_now = DeviceFailed failures_before failures_now interruptions ⊎ (empty_before < empty_now) ⊎ (last ≤ empty_before)

-- The device took the first of these bytes, and no others.
abbrev pub TakesPrefix : Option (List ℕ) → Option (List ℕ) → List ℕ → Type 0
TakesPrefix before after bytes = (prefix : List ℕ) × (rest : List ℕ) × (bytes ≡ prefix ++ rest) × Appends before after prefix
