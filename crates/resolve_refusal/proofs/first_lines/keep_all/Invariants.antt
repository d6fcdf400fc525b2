use Rattle.std.proofs.Common.{◌≡◌, ℕ, List, map, take}
use Rattle.std.specs.BTreeMap.{get_by_text}
use Rattle.std.specs.Set.{is_member}
use Rattle.std.specs.Str.{bytes_eq}
use Rattle.std.specs.String.{string_bytes}
use Rattle.resolve_refusal.specs.FirstLines.{first_or}
use Rattle.resolve_refusal.proofs.first_lines.keep_all.Given as goal

-- the line is put at the keys so far
abbrev pub invariant-loop-key : goal.invariant-loop-key
invariant-loop-key l = (q : List ℕ) → get_by_text l.lines q ≡ first_or (get_by_text l.fn.lines q) (is_member bytes_eq (map string_bytes (take l.key-index l.keys)) q) l.line
