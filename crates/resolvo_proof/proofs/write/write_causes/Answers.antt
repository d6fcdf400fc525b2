use Rattle.std.proofs.Common.{◌≡◌, ◌≤◌, ◌+◌, ◌-◌, ◌∷◌, ◌++◌, [], ◌∙◌, ℕ, Vec, Global, get_or, take, sym, ap, arith}
use Rattle.std.proofs.lemmas.List.{take_more}
use Rattle.resolvo_pool_core.specs.declared.id.ClauseId.{ClauseId}
use Rattle.resolvo_proof.specs.Written.{places}
use Rattle.resolvo_proof.proofs.Parts.{place_more, place_skip}
use Rattle.resolvo_proof.proofs.write.write_causes.Goals as goal
use Rattle.resolvo_proof.proofs.write.write_causes.Goals.{in-Some+in_ok-push, in_default}

pub loop-cause-preserved : goal.loop-cause-preserved
loop-cause-preserved c =
    let xs = c.args.causes.now in
    let i = c.loop-cause.cause-index in
    let d : ClauseId = record { 0 = 0 } in
    let more : take (i + 1) xs ≡ take i xs ++ get_or xs i d ∷ [] = take_more xs i d c.loop-cause-test.true in
    elim c.match-checked_sub.branch [
      | in-Some+in_ok-push w ↦
          let low : 1 ≤ (get_or xs i d).0 = w.in-Some.ensures.0 in
          let is : w.in-Some.place ≡ (get_or xs i d).0 - 1 = w.in-Some.ensures.1 in
          ap (λ (v : Vec ℕ Global). v.items) w.written-is ∙ (w.in_ok-push.ensures.items ∙ (place_more (take i xs) (get_or xs i d) w.in-Some.place c.loop-cause.written.items (omega arith) c.loop-cause.invariant ∙ sym (ap places more)))
      | in_default w ↦
          let low = w.in_default.ensures in
          ap (λ (v : Vec ℕ Global). v.items) w.written-is ∙ (place_skip (take i xs) (get_or xs i d) c.loop-cause.written.items (omega (arith, low)) c.loop-cause.invariant ∙ sym (ap places more))
    ]
