use Rattle.resolvo_report.proofs.PushLemmas.{pushed3}
use Rattle.resolvo_report.proofs.answer_text.push_requested.Goals as goal

pub returns : goal.returns
returns c = pushed3 _ _ _ _ _ _ _ c.in_ok-push_version.ensures c.in_ok-extend_from_slice.ensures.items c.in_ok-push_number.ensures
