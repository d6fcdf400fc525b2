use Rattle.std.proofs.Common.{OnOk, Ok, Err, Result}
use Rattle.resolvo_store_core.specs.Watches.{watchers}
use Rattle.resolvo_store_core.proofs.Watched.{started_well}
use Rattle.resolvo_store_core.proofs.watch_map.WatchMap.start_watching.Goals as goal

-- what follows after an answer
on_ok : {X E P Q : Type 0} (r : Result X E) → (P → Q) → OnOk r P → OnOk r Q
on_ok (Ok x) f p = f p
on_ok (Err e) f p = p

pub returns-then-is_ready-clause-fits : goal.returns-then-is_ready-clause-fits
returns-then-is_ready-clause-fits c = λ pairs fit number.
    started_well pairs (watchers c.args.self.now) (watchers c.start_ready.new.self) c.args.clause c.args.watched number fit c.requires c.start_ready.ensures.started

pub returns-clause-fits : goal.returns-clause-fits
returns-clause-fits c =
    on_ok c.start_new.result
    (λ starts pairs fit number. started_well pairs (watchers c.args.self.now) (watchers c.start_new.new.self) c.args.clause c.args.watched number fit c.requires starts)
    c.start_new.ensures.started
