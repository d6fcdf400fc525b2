use Rattle.std.specs.Prelude.{◌≡◌, ◌++◌, [], take}
use Rattle.resolvo_text.specs.Matches.{Set}
use Rattle.resolvo_catalogue_core.specs.Listed.{listed, members}
use Rattle.resolve_order.specs.Kept.{OthersAreIdle}
use Rattle.resolve_order.proofs.open_lines.OpenLines.open_chosen.Given as goal

abbrev pub invariant-loop-version : goal.invariant-loop-version
invariant-loop-version l = record {
  none : l.self.closed.items ≡ [];
  idle : (seen entries : Set) → OthersAreIdle l.catalogue l.request.lines seen entries l.lines l.initial.self
      → OthersAreIdle l.catalogue l.request.lines (seen ++ members (listed l.catalogue) (take l.version-index l.versions)) entries l.lines l.self;
}
