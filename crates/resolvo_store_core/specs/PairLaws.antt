-- Lemmas on two literals that are kept without a tag.
use Rattle.std.proofs.Common.{◌≡◌, Bool, true, false, cond, Some, None, refl, sym, ap}
use Rattle.std.proofs.lemmas.Bool.{cases_Bool}
use Rattle.resolvo_store_core.specs.Signed.{Signed, same_literal}
use Rattle.resolvo_store_core.specs.Pairs.{pair_in, first_in, second_in, IsKeptPair}
use Rattle.resolvo_store_core.specs.declared.watched_literals.WatchedLiterals.{WatchedLiterals}

pub pair_round_trip : (l m : Signed) → IsKeptPair l m → (first_in (pair_in l m) ≡ l) × (second_in (pair_in l m) ≡ m)
pair_round_trip l m kept = go (same_literal l m) refl
  where
    go : (b : Bool) → same_literal l m ≡ b → (first_in (cond b None (Some (record { first = l; second = m }))) ≡ l) × (second_in (cond b None (Some (record { first = l; second = m }))) ≡ m)
    go true e = (sym (kept e).0, sym (kept e).1)
    go false e = (refl, refl)
