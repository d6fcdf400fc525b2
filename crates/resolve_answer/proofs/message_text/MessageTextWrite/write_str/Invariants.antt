use Rattle.std.proofs.Common.{take}
use Rattle.resolve_answer.specs.Marked.{Marks}
use Rattle.resolve_answer.proofs.message_text.MessageTextWrite.write_str.Given as goal

-- the bytes so far are marked behind the old text
abbrev pub invariant-loop-byte : goal.invariant-loop-byte
invariant-loop-byte l = Marks l.initial.self.begins l.initial.self.bytes.items (take l.byte-index l.bytes) l.self.begins l.self.bytes.items
