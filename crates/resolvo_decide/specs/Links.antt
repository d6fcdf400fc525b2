-- The clauses of a parent, linked from the last one to the first.
use Rattle.std.specs.Prelude.{◌≡◌, ℕ, zero, suc, ◌⊎◌, List, slice_get, Option, Some, None}
use Rattle.resolvo_decide.specs.declared.clauses_by_parent.Link.{Link}

-- the link with this index, which is given as one more
abbrev pub link_at : List Link → ℕ → Option Link
link_at links zero = None
link_at links (suc k) = slice_get links k

-- the clause at the position is linked, within so many links from this one
unfoldable pub IsLinkedWithin : ℕ → List Link → ℕ → ℕ → Type 0
IsLinkedWithin zero links link i = ⊥
IsLinkedWithin (suc steps) links link i = (l : Link) × (link_at links link ≡ Some l) × ((l.position ≡ i) ⊎ IsLinkedWithin steps links l.previous i)

-- the clause at the position is linked from this link
abbrev pub IsLinked : List Link → ℕ → ℕ → Type 0
IsLinked links link i = (steps : ℕ) × IsLinkedWithin steps links link i
