-- A stored line as two numbers: its kind and its owner in one, and what it speaks of.
use Rattle.std.specs.Prelude.{ℕ, ◌==◌, ◌/◌, ◌%◌, if◌then◌else◌}
use Rattle.resolvo_catalogue_core.specs.declared.rule.VersionNo.{VersionNo}
use Rattle.resolvo_catalogue_core.specs.declared.stored_lines.StoredLine.{StoredLine}
use Rattle.resolvo_catalogue_core.specs.declared.stored_lines.PackedLine.{PackedLine}

-- the line of a kind
abbrev pub line_by : ℕ → VersionNo → ℕ → StoredLine
line_by kind owner number = if kind == 4 then StoredLine.Need owner (record { 0 = number })
    else if kind == 5 then StoredLine.AnyOf owner (record { 0 = number })
    else if kind == 6 then StoredLine.Limit owner (record { 0 = number })
    else if kind == 7 then StoredLine.Rule number
    else if kind == 3 then StoredLine.Many number
    else if kind == 2 then StoredLine.Favour (record { 0 = number })
    else if kind == 1 then StoredLine.Listed (record { 0 = number })
    else StoredLine.Nothing

-- the version above the kind
abbrev pub owner_at : ℕ → VersionNo
owner_at word = record { 0 = word / 8 }

abbrev pub unpacked : PackedLine → StoredLine
unpacked p = line_by (p.word % 8) (owner_at p.word) p.number
