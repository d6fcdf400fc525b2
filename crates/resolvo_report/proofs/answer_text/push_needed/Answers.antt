use Rattle.resolvo_report.proofs.PushLemmas.{pushed5}
use Rattle.resolvo_report.proofs.answer_text.push_needed.Goals as goal

pub returns : goal.returns
returns c = pushed5 _ _ _ _ _ _ _ _ _ _ _ c.in_ok-push_version.ensures c.in_ok-extend_from_slice.ensures.items c.in_ok-push_version-2.ensures c.in_ok-extend_from_slice-2.ensures.items c.in_ok-push_number.ensures
