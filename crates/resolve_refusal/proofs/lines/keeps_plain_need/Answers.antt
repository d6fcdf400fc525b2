use Rattle.std.proofs.Common.{None, refl}
use Rattle.resolvo_text.specs.Line.{Needs}
use Rattle.resolvo_text.specs.View.{specs_of}
use Rattle.resolve_refusal.proofs.KeptLemmas.{kept_decides, none_kept}
use Rattle.resolve_refusal.proofs.lines.keeps_plain_need.Goals as goal

pub returns-in-Some : goal.returns-in-Some
returns-in-Some c = kept_decides c.args.catalogue.now c.kept-kept.result.lines c.kept-kept.ensures c.kept-kept.result.terms c.terms.result.now c.terms.ensures.terms c.args.line c.in-Some.rule (Needs (specs_of c.args.alternatives.now) None) c.is_plain_need_kept.result c.in-Some.ensures.of_line
    (λ l is. c.is_plain_need_kept.ensures _ _ l is)

pub returns-in-None : goal.returns-in-None
returns-in-None c = none_kept c.args.catalogue.now c.kept-kept.result.lines c.kept-kept.ensures c.args.line (Needs (specs_of c.args.alternatives.now) None) refl c.in-None.ensures.none
