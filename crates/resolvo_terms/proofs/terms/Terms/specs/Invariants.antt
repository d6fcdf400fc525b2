use Rattle.std.proofs.Common.{◌+◌, ◌*◌, ◌≤◌, length, take}
use Rattle.resolvo_text.specs.View.{specs_of}
use Rattle.resolvo_terms.specs.Terms.{Grows, IsSpec, AreEach}
use Rattle.resolvo_terms.specs.TermCounts.{term_count}
use Rattle.resolvo_terms.proofs.terms.Terms.specs.Given as goal

abbrev pub invariant-loop-spec : goal.invariant-loop-spec
invariant-loop-spec l = AreEach (IsSpec l.self) l.ids.items (specs_of (take l.spec-index l.specs)) × Grows l.initial.self l.self
    × (term_count l.self ≤ term_count l.initial.self + 2 * l.spec-index) × (l.spec-index ≤ length l.specs)
