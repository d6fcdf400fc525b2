use Rattle.std.proofs.Common.{◌≡◌, ℕ, ◌-◌, vec_len}
use Rattle.resolvo_graph.specs.Links.{links_of}
use Rattle.resolvo_graph.proofs.links.cover.Given as goal

abbrev pub invariant-loop-newest : goal.invariant-loop-newest
invariant-loop-newest l = (n : ℕ) → links_of l.newest.items n ≡ links_of l.initial.newest.items n

abbrev pub decreases-loop-newest : goal.decreases-loop-newest
decreases-loop-newest l = l.count - vec_len l.newest
