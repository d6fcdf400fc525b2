-- The report of a text that was not read, and the name of a fault.
use Rattle.std.specs.Prelude.{◌≡◌, ℕ, List, Result, Err, IfOk, IfErr}
use Rattle.resolvo_text.specs.declared.lines.ReadFault.{ReadFault}
use Rattle.resolvo_text.specs.declared.lines.ReadFault.TheVariants as read
use Rattle.resolvo_pool_core.specs.declared.want.Want.{Want}
use Rattle.resolvo_pool_core.specs.declared.want.Want.TheVariants as want
use Rattle.resolve_check.specs.declared.outcome.Outcome.TheVariants as outcome
use Rattle.resolve_check.specs.declared.outcome.RunFault.{RunFault}
use Rattle.resolve_check.specs.declared.outcome.RunFault.TheVariants.{Reader, TooLong, Memory, Ids}
use Rattle.resolve_check.specs.declared.read_fault.Written.{Written}
use Rattle.resolve_check.specs.Texts.{fault_text}

-- the fault by the name of the lacking resource
abbrev pub fault_of : Want → RunFault
fault_of want.Memory = Memory
fault_of want.Ids = Ids

-- A faulty line is reported as such; every other fault is the run's, by its own name.
abbrev pub WritesFault : ReadFault → List ℕ → Result Written RunFault → Type 0
WritesFault (read.Fault n) which answered = IfOk answered (λ answer. (answer.outcome ≡ outcome.Faulty) × (answer.text.items ≡ fault_text which n)) × IfErr answered (λ e. e ≡ Memory)
WritesFault read.Reader which answered = answered ≡ Err Reader
WritesFault read.TooLong which answered = answered ≡ Err TooLong
WritesFault read.Memory which answered = answered ≡ Err Memory
WritesFault read.Ids which answered = answered ≡ Err Ids
