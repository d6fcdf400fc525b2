use Rattle.std.proofs.Common.{rules, codes}
use Rattle.resolvo_text.specs.Spelling.{alternatives_words}
use Rattle.resolvo_text.specs.View.{specs_of}
use Rattle.resolvo_report.proofs.TextLemmas.{join_spaced}
use Rattle.resolvo_report.proofs.step.Step.write_definition.Goals as goal

pub returns-in-Shared : goal.returns-in-Shared
returns-in-Shared g c = rw (c.in-Shared.is, join_spaced (codes "shared") (alternatives_words (specs_of c.in-Shared.alternatives.items))) (search rules)
