use Rattle.std.proofs.Common.{◌≡◌, take, []}
use Rattle.resolvo_catalogue_core.specs.Listed.{listed}
use Rattle.resolvo_catalogue.specs.Ids.{Ids, terms_of}
use Rattle.resolvo_catalogue.specs.Marked.{AreMarked}
use Rattle.resolvo_catalogue.proofs.MarkLemmas.{favour_lines}
use Rattle.resolvo_catalogue.proofs.candidate_flags.marks_of.Given as goal

abbrev pub invariant-loop-line : goal.invariant-loop-line
invariant-loop-line l = (ids : Ids) → terms_of ids ≡ l.kept.terms → AreMarked ids (take l.line l.catalogue) [] (listed l.catalogue) l.marks.items

abbrev pub invariant-loop-version : goal.invariant-loop-version
invariant-loop-version l = (ids : Ids) → terms_of ids ≡ l.kept.terms → AreMarked ids l.catalogue (favour_lines (listed l.catalogue) (take l.version-index l.favours)) (listed l.catalogue) l.marks.items
