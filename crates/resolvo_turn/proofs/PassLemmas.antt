-- A pass over the deferred cases.
use Rattle.std.proofs.Common.{◌≡◌, ℕ, ◌+◌, ◌<◌, ◌≤◌, inl, inr, ◌⊎◌, Bool, true, false, length, sym, ◌∙◌, subst, arith}
use Rattle.std.proofs.lemmas.Bool.{both_ways}
use Rattle.resolvo_state.proofs.Growth.{below_or_not}
use Rattle.resolvo_state.proofs.Positions.{prefix_long}
use Rattle.resolvo_encoder.specs.declared.encoder.Encoder.{Encoder}
use Rattle.resolvo_encoder.specs.Conditions.{IsSpent}
use Rattle.resolvo_turn.specs.Encoder.{AddsNeeds}
use Rattle.resolvo_turn.specs.Turn.{FiresMore}

-- whether some case became a clause, by the result of the last one
abbrev pub IsFired : Bool → Bool → Bool → Type 0
IsFired before now after = ((now ≡ true) × (after ≡ true)) ⊎ ((now ≡ false) × (after ≡ before))

module _ {N S : Type 0} (start e next : Encoder N S) (fired now after : Bool) where
  -- whether some case became a clause, after one more case
  pub fires_on : AddsNeeds start e → (fired ≡ true → FiresMore start e) → (now ≡ true → FiresMore e next) → (now ≡ false → next ≡ e) → IsFired fired now after → after ≡ true → FiresMore start next
  fires_on adds before fires stays (inl (is, all)) h =
      let long : length start.fired.keys ≤ length e.fired.keys = prefix_long start.fired.keys e.fired.keys adds.fired in
      let more : length e.fired.keys < length next.fired.keys = (fires is).more in
      record { more = omega arith; bounded = (fires is).bounded }
  fires_on adds before fires stays (inr (is, as_before)) h = subst (λ (x : Encoder N S). FiresMore start x) (sym (stays is)) (before (sym as_before ∙ h))

  pub stays_on : (fired ≡ false → e ≡ start) → (now ≡ false → next ≡ e) → IsFired fired now after → after ≡ false → next ≡ start
  stays_on before stays (inl (is, all)) h = absurd (both_ways _ h all)
  stays_on before stays (inr (is, as_before)) h = stays is ∙ before (sym as_before ∙ h)

module _ {N S : Type 0} (same : S → S → Bool) where
  -- Some case became a clause, or none of the first ones holds and nothing changed.
  pub record Passed (start e : Encoder N S) (fired : Bool) (count : ℕ) : Type 0 where
    pub fires : fired ≡ true → FiresMore start e
    pub unchanged : fired ≡ false → e ≡ start
    pub spent : fired ≡ false → (i : ℕ) → i < count → IsSpent same e i

  pub passed_none : (e : Encoder N S) (fired : Bool) → fired ≡ false → e ≡ e → Passed e e fired 0
  passed_none e fired none is = record { fires = λ h. absurd (both_ways _ none h); unchanged = λ h. is; spent = λ h i below. absurd (omega arith) }

  passed_spent : (start e next : Encoder N S) (fired now after : Bool) (index : ℕ) → Passed start e fired index → (now ≡ false → (next ≡ e) × IsSpent same next index) → IsFired fired now after → after ≡ false → (i : ℕ) → i < index + 1 → IsSpent same next i
  passed_spent start e next fired now after index before spent (inl (is, all)) h = absurd (both_ways _ h all)
  passed_spent start e next fired now after index before spent (inr (is, as_before)) h = λ i below.
      let (stays, last) = spent is in
      elim (below_or_not i index) [
        | inl low ↦ subst (λ (x : Encoder N S). IsSpent same x i) (sym stays) (before.spent (sym as_before ∙ h) i low)
        | inr high ↦ subst (λ n. IsSpent same next n) (let a : i < index + 1 = below in let b : index ≤ i = high in omega arith) last
      ]

  pub passed_more : (start e next : Encoder N S) (fired now after : Bool) (index : ℕ) → Passed start e fired index → AddsNeeds start e → (now ≡ true → FiresMore e next) → (now ≡ false → (next ≡ e) × IsSpent same next index) → IsFired fired now after → Passed start next after (index + 1)
  passed_more start e next fired now after index before adds fires spent was =
      let stays : now ≡ false → next ≡ e = λ h. (spent h).0 in
      record {
        fires = fires_on start e next fired now after adds before.fires fires stays was;
        unchanged = stays_on start e next fired now after before.unchanged stays was;
        spent = passed_spent start e next fired now after index before spent was;
      }
