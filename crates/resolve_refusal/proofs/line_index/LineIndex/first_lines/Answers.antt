use Rattle.std.proofs.Common.{Some, None}
use Rattle.std.specs.BTreeMap.{get}
use Rattle.std.specs.Ordering.{nat_cmp}
use Rattle.resolve_refusal.specs.FirstLines.{AreFirst}
use Rattle.resolve_refusal.proofs.FirstLemmas.{lent}
use Rattle.resolve_refusal.proofs.line_index.LineIndex.first_lines.Goals as goal

pub returns-in-None : goal.returns-in-None
returns-in-None c = λ catalogue request index. rw c.in-None.is (lent (AreFirst catalogue request None) c.as_ref.result c.args.self.now.request c.as_ref.ensures.value index.asked)

pub returns-in-Some : goal.returns-in-Some
returns-in-Some c = λ catalogue request index. rw c.in-Some.is (lent (AreFirst catalogue request (Some c.in-Some.version)) c.get.result (get nat_cmp c.args.self.now.versions c.in-Some.version.0) c.get.ensures.value (index.listed c.in-Some.version.0))
