use Rattle.std.proofs.Common.{sym, ◌∙◌, take, false}
use Rattle.std.specs.Option.{option_map_or}
use Rattle.resolvo_text.specs.View.{version_of}
use Rattle.resolvo_checker.specs.declared.atom.Built.{Built}
use Rattle.resolvo_checker.specs.Built.{literal_of}
use Rattle.resolvo_judge.specs.Forbids.{literal_forbids}
use Rattle.resolvo_judge.proofs.ForbidLemmas.{not_all_at}
use Rattle.resolvo_judge.proofs.forbid.all_built_forbid.Goals as goal

pub returns-then-not-built_forbids : goal.returns-then-not-built_forbids
returns-then-not-built_forbids c = λ set h.
    sym (not_all_at (λ (b : Built). literal_of c.args.versions.now b.atom b.positive) (λ o. option_map_or (literal_forbids (take c.args.forbidden.now.above set) (version_of c.args.forbidden.now.wish)) o false) c.args.clause.now c.loop-built.built-index c.built-item.result c.loop-built-test.true c.built-item.is
    (sym (c.built_forbids.ensures set h) ∙ c.if-not-built_forbids.true))
