use Rattle.std.proofs.Common.{refl}
use Rattle.resolvo_text.specs.Line.{Unknown}
use Rattle.resolve_refusal.proofs.KeptLemmas.{kept_decides, none_kept}
use Rattle.resolve_refusal.proofs.lines.Texts.is_unknown.Goals as goal

pub returns-in-Some : goal.returns-in-Some
returns-in-Some c = kept_decides c.args.self.catalogue.now c.kept-kept.result.lines c.kept-kept.ensures c.kept-kept.result.terms c.terms.result.now c.terms.ensures.terms c.args.line c.in-Some.rule (Unknown c.args.word.now) c.marks_unknown.result c.in-Some.ensures.of_line
    (λ l is. c.marks_unknown.ensures _ _ l is)

pub returns-in-None : goal.returns-in-None
returns-in-None c = none_kept c.args.self.catalogue.now c.kept-kept.result.lines c.kept-kept.ensures c.args.line (Unknown c.args.word.now) refl c.in-None.ensures.none
