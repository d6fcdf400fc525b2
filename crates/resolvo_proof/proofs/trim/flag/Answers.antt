use Rattle.std.proofs.Common.{◌≡◌, ◌++◌, ◌∷◌, [], sym, subst, take, get_or, List, Bool, true, ℕ, ◌+◌, Vec, Global}
use Rattle.std.proofs.lemmas.List.{take_more, take_all}
use Rattle.std.specs.Prelude.{Contains, slice_set}
use Rattle.resolvo_proof.specs.Trimmed.{Flags}
use Rattle.resolvo_proof.proofs.FlagLemmas.{flags_more, flags_skip}
use Rattle.resolvo_proof.proofs.trim.flag.Goals as goal
use Rattle.resolvo_proof.proofs.trim.flag.Goals.{then-place-end, else-place-end}

pub loop-place-preserved : goal.loop-place-preserved
loop-place-preserved c =
    let xs = c.args.places.now in
    let i = c.loop-place.place-index in
    let old = c.args.flags.now.items in
    let mid = c.loop-place.flags.items in
    let more : take (i + 1) xs ≡ take i xs ++ get_or xs i 0 ∷ [] = take_more xs i 0 c.loop-place-test.true in
    elim c.if-place-end.branch [
      | then-place-end w ↦
          subst (λ (v : Vec Bool Global). Flags (Contains (take (i + 1) xs)) c.args.end old v.items) (sym w.flags-is)
          (subst (λ (ys : List ℕ). Flags (Contains ys) c.args.end old (slice_set mid (get_or xs i 0) true)) (sym more) (flags_more (take i xs) (get_or xs i 0) c.args.end old mid w.if-place-end.true c.requires c.loop-place.invariant))
      | else-place-end w ↦
          subst (λ (v : Vec Bool Global). Flags (Contains (take (i + 1) xs)) c.args.end old v.items) (sym w.flags-is)
          (subst (λ (ys : List ℕ). Flags (Contains ys) c.args.end old mid) (sym more) (flags_skip (take i xs) (get_or xs i 0) c.args.end old mid w.if-place-end.false c.loop-place.invariant))
    ]

pub returns : goal.returns
returns c = subst (λ (ys : List ℕ). Flags (Contains ys) c.args.end c.args.flags.now.items c.loop-place.flags.items) (take_all c.loop-place.place-index c.args.places.now c.loop-place-test.false) c.loop-place.invariant
