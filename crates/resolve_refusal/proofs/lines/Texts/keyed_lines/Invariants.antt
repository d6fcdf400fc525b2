use Rattle.std.specs.BTreeMap.{get_by_text}
use Rattle.resolve_refusal.specs.Lines.{text_of, IsLineOf}
use Rattle.resolve_refusal.proofs.FirstLemmas.{AreFirstSoFar}
use Rattle.resolve_refusal.proofs.lines.Texts.keyed_lines.Given as goal

-- the first ones of the lines so far
abbrev pub invariant-loop-at : goal.invariant-loop-at
invariant-loop-at l = AreFirstSoFar l.lines (IsLineOf l.fn.self.catalogue.now l.fn.self.request.now.lines l.fn.place) (λ q. get_by_text l.groups q) (text_of l.fn.self.catalogue.now l.fn.self.request.now.lines l.fn.place) l.at (λ q. get_by_text l.first q)
