use Rattle.resolve_refusal.proofs.FirstLemmas.{listed_none}
use Rattle.resolve_refusal.proofs.line_index.version_lines.Goals as goal

pub loop-step-init : goal.loop-step-init
loop-step-init c = listed_none c.args.texts.catalogue.now c.args.texts.request.now.lines c.new-versions.result c.new-versions.ensures.empty
