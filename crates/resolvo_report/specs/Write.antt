-- The effect of a writer of a report on its device.
use Rattle.std.specs.Prelude.{◌≡◌, ℕ, List, Option}
use Rattle.std.specs.Io.KnownBytes.{Appends}
use Rattle.resolvo_text.specs.Device.{WriterFailed, TakesPrefix}
use Rattle.resolvo_text.specs.declared.device.Sink as sink
use Rattle.resolvo_report.specs.declared.write.ReportWriteFault.{ReportWriteFault}
use Rattle.resolvo_report.specs.declared.write.ReportWriteFault.TheVariants.{Writer}

-- The device took this text, and didn't fail: its contents, its failures and its empty writes before and after.
abbrev pub Wrote : Option (List ℕ) → Option (List ℕ) → ℕ → ℕ → ℕ → ℕ → List ℕ → Type 0
Wrote before after failures failures_now empty empty_now text = Appends before after text × (failures_now ≡ failures) × (empty_now ≡ empty)

-- The device took a prefix of this text, and memory ran out or the device failed.
abbrev pub StopsWriting : ReportWriteFault → Option (List ℕ) → Option (List ℕ) → ℕ → ℕ → ℕ → ℕ → ℕ → List ℕ → Type 0
StopsWriting e before after failures failures_now interruptions empty empty_now text = TakesPrefix before after text
    × (e ≡ Writer → WriterFailed failures failures_now interruptions empty empty_now)

-- The same of a device with these members, before a call and after it: it took this text, and didn't fail.
abbrev pub WritesText : {S : Type 0} → sink.Ghosts S → S → S → List ℕ → Type 0
WritesText d before after text = Wrote (d.contents before) (d.contents after) (d.failures before) (d.failures after) (d.empty_writes before) (d.empty_writes after) text

-- It took a prefix of this text, and memory ran out or it failed.
abbrev pub StopsText : {S : Type 0} → sink.Ghosts S → ReportWriteFault → S → S → List ℕ → Type 0
StopsText d e before after text = StopsWriting e (d.contents before) (d.contents after) (d.failures before) (d.failures after) (d.interruptions after) (d.empty_writes before) (d.empty_writes after) text
