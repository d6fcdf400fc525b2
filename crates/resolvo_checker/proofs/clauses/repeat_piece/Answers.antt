use Rattle.std.proofs.Common.{◌∙◌, ap, sym, Some}
use Rattle.std.proofs.lemmas.Option.{slice_get-get_or}
use Rattle.resolvo_checker.proofs.PieceLemmas.{within-again}
use Rattle.resolvo_checker.proofs.clauses.repeat_piece.Goals as goal

pub returns-clause-inside : goal.returns-clause-inside
returns-clause-inside c = λ flat longs h.
    rw c.in_ok-push.ensures.items (within-again flat longs c.args.kept.now.items c.args.n _ (slice_get-get_or c.args.kept.now.items c.args.n _ c.requires.within ∙ ap Some (sym c.index-again.ensures)) h)
