use Rattle.std.proofs.KnownBytes.{Appends-trans}
use Rattle.std.proofs.Common.{Result, Ok, Err}
use Rattle.std.specs.Prelude.{OnOk, OnErr}
use Rattle.resolve_run.proofs.WriteLemmas.{takes_first, takes_later, fails_later}
use Rattle.resolve_run.proofs.text.write_both.Goals as goal

on_ok : {A E : Type 0} {P Q : Type 0} (r : Result A E) → (P → Q) → OnOk r P → OnOk r Q
on_ok (Ok a) f h = f h
on_ok (Err e) f h = tt

on_err : {A E : Type 0} {P Q : Type 0} (r : Result A E) → (P → Q) → OnErr r P → OnErr r Q
on_err (Ok a) f h = tt
on_err (Err e) f h = f h

pub returns-in-Ok-clause-whole : goal.returns-in-Ok-clause-whole
returns-in-Ok-clause-whole g c = on_ok c.write_all-in-Ok.result (λ more. Appends-trans _ _ _ c.args.head.now c.args.message.now c.in-Ok.ensures.whole more) c.write_all-in-Ok.ensures.whole

pub returns-in-Ok-clause-prefix : goal.returns-in-Ok-clause-prefix
returns-in-Ok-clause-prefix g c = on_err c.write_all-in-Ok.result (λ more. takes_later _ _ _ c.args.head.now c.args.message.now c.in-Ok.ensures.whole more) c.write_all-in-Ok.ensures.prefix

pub returns-in-Ok-clause-fault : goal.returns-in-Ok-clause-fault
returns-in-Ok-clause-fault g c = on_err c.write_all-in-Ok.result (λ failed. fails_later _ _ _ _ _ _ _ c.in-Ok.ensures.failures c.in-Ok.ensures.empty failed) c.write_all-in-Ok.ensures.fault

pub returns-in-Err-clause-prefix : goal.returns-in-Err-clause-prefix
returns-in-Err-clause-prefix g c = takes_first _ _ c.args.head.now c.args.message.now c.in-Err.ensures.prefix
