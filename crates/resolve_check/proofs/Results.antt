-- A property of each result, and a fault that reading never has.
use Rattle.std.specs.Prelude.{Result, Ok, Err, IfOk, IfErr}
use Rattle.resolvo_text.specs.declared.lines.ReadFault.TheVariants as read
use Rattle.resolve_check.specs.Devices.{Device, StopsReading, in_catalogue, in_request}

pub if_ok : {A E : Type 0} {P Q : A → Type 0} (r : Result A E) → ((a : A) → P a → Q a) → IfOk r P → IfOk r Q
if_ok (Ok a) f h = f a h
if_ok (Err e) f h = tt

pub if_err : {A E : Type 0} {P Q : E → Type 0} (r : Result A E) → ((e : E) → P e → Q e) → IfErr r P → IfErr r Q
if_err (Ok a) f h = tt
if_err (Err e) f h = f e h

pub never_ids : (catalogue request : Device) → StopsReading read.Ids catalogue request → ⊥
never_ids catalogue request (in_catalogue h unread) = h
never_ids catalogue request (in_request lines parses h) = h
