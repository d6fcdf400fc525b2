-- Facts of a source or a sink, by its members before a call and after it.
use Rattle.resolvo_text.specs.Device.{DeviceFailed, WriterFailed}
use Rattle.resolvo_text.specs.declared.device.Source as source
use Rattle.resolvo_text.specs.declared.device.Sink as sink

-- the source failed (`DeviceFailed`)
abbrev pub SourceFailed : {S : Type 0} → source.Ghosts S → S → S → Type 0
SourceFailed d before after = DeviceFailed (d.failures before) (d.failures after) (d.interruptions after)

-- the sink failed, or a write took no byte (`WriterFailed`)
abbrev pub SinkFailed : {S : Type 0} → sink.Ghosts S → S → S → Type 0
SinkFailed d before after = WriterFailed (d.failures before) (d.failures after) (d.interruptions after) (d.empty_writes before) (d.empty_writes after)
