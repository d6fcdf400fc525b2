-- A property of a result, if there is one.
use Rattle.std.specs.Prelude.{Result, Ok, Err, IfOk, OnOk}

pub ok_map : {X E : Type 0} {P Q : X → Type 0} (r : Result X E) → ((x : X) → P x → Q x) → IfOk r P → IfOk r Q
ok_map (Ok x) f h = f x h
ok_map (Err e) f h = tt

pub on_ok : {X E P Q : Type 0} (r : Result X E) → (P → Q) → OnOk r P → OnOk r Q
on_ok (Ok x) f h = f h
on_ok (Err e) f h = tt
