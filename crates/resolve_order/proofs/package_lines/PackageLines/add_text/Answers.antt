use Rattle.resolvo_text.specs.View.{spec_of}
use Rattle.resolve_order.proofs.NeedLemmas.{on_ok}
use Rattle.resolve_order.proofs.package_lines.PackageLines.add_text.Goals as goal

pub returns-clause-added : goal.returns-clause-added
returns-clause-added c = on_ok c.add_spec.result (λ added. added (spec_of c.args.spec.now) c.span_of.ensures) c.add_spec.ensures.added
