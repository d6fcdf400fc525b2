use Rattle.std.proofs.Common.{◌++◌, ◌∷◌, [], Option, sym, subst}
use Rattle.resolvo_store_core.specs.Watches.{watchers, IsWatched}
use Rattle.resolvo_store_core.specs.declared.watched_literals.WatchedLiterals.{WatchedLiterals}
use Rattle.resolvo_store_core.proofs.Watched.{unwatched_well}
use Rattle.resolvo_store.proofs.clause_store.begin.Goals as goal

pub returns-in-None-clause-fits : goal.returns-in-None-clause-fits
returns-in-None-clause-fits c = λ pairs fit at.
    subst (λ (o : Option WatchedLiterals). IsWatched (pairs ++ o ∷ []) (watchers c.args.watches.now)) (sym c.in-None.is) (unwatched_well pairs (watchers c.args.watches.now) fit)
