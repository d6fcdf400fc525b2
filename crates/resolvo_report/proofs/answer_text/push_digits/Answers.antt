use Rattle.std.proofs.Common.{◌≡◌, ℕ, ◌+◌, ◌-◌, ◌/◌, ◌%◌, ◌^◌, ◌<◌, ◌≤◌, List, [], ◌∷◌, ◌++◌, length, take, drop, refl, sym, ap, ◌∙◌, append_assoc, append-nil, arith}
use Rattle.std.specs.Fmt.{decimal}
use Rattle.std.proofs.lemmas.Fmt.{decimal_step, decimal_digit, decimal_by_steps, length-decimal-le}
use Rattle.std.proofs.Math.ListN.{set}
use Rattle.std.proofs.lemmas.List.{length-append, length-drop, length-set, take_all}
use Rattle.std.proofs.lemmas.Grind.{drop-set_at}
use Rattle.resolvo_report.proofs.answer_text.push_digits.Goals as goal

few : (n : ℕ) → n < 2 ^ 32 → length (decimal n) ≤ 10
few n small = length-decimal-le 10 n (omega arith) (omega arith) (omega arith)

some : (n : ℕ) → n < 2 ^ 64 → 1 ≤ length (decimal n)
some n small = decimal_by_steps (λ m ds. 1 ≤ length ds) (λ m less. omega arith) (λ m ds more h. omega (arith, length-append ds ((48 + m % 10) ∷ []))) n small

shorter : (n : ℕ) → 10 ≤ n → n < 2 ^ 64 → length (decimal n) ≡ length (decimal (n / 10)) + 1
shorter n more small = ap length (decimal_step n more small) ∙ length-append (decimal (n / 10)) ((48 + n % 10) ∷ [])

pub loop-rest-init : goal.loop-rest-init
loop-rest-init c = record {
  low = omega arith;
  within = omega arith;
  size = refl;
  room = few c.args.number (omega arith);
  text = append-nil (decimal c.args.number);
}

pub overflow_sub-first : goal.overflow_sub-first
overflow_sub-first c = omega (arith, c.loop-rest.invariant.room, shorter c.loop-rest.rest c.loop-rest-test.true (omega arith), some (c.loop-rest.rest / 10) (omega arith))

pub loop-rest-preserved : goal.loop-rest-preserved
loop-rest-preserved c =
    let n = c.loop-rest.rest in
    let k = c.loop-rest.first in
    let ds = c.loop-rest.digits in
    let step = decimal_step n c.loop-rest-test.true (omega arith) in
    let long = shorter n c.loop-rest-test.true (omega arith) in
    let one = some (n / 10) (omega arith) in
    let room = c.loop-rest.invariant.room in
    let back : (k - 1) + 1 ≡ k = omega (arith, room, long, one) in
    let inside : k < length ds = omega (arith, c.loop-rest.invariant.within, c.loop-rest.invariant.size) in
    record {
      low = omega (arith, c.loop-rest.invariant.low);
      within = omega (arith, c.loop-rest.invariant.within);
      size = length-set ds k (48 + n % 10) ∙ c.loop-rest.invariant.size;
      room = omega (arith, room, long, one);
      text = ap (λ (xs : List ℕ). decimal (n / 10) ++ xs) (drop-set_at ds k ((k - 1) + 1) (48 + n % 10) back inside)
          ∙ sym (append_assoc (decimal (n / 10)) ((48 + n % 10) ∷ []) (drop (k + 1) ds)) ∙ ap (λ (xs : List ℕ). xs ++ drop (k + 1) ds) (sym step) ∙ c.loop-rest.invariant.text;
    }

pub returns : goal.returns
returns c =
    let n = c.loop-rest.rest in
    let k = c.loop-rest.first in
    let ds = c.loop-rest.digits in
    let xs = set ds k (48 + n) in
    let inside : k < length ds = omega (arith, c.loop-rest.invariant.within, c.loop-rest.invariant.size) in
    let whole : take (10 - k) (drop k xs) ≡ drop k xs = take_all (10 - k) (drop k xs) (omega (arith, length-drop k xs, length-set ds k (48 + n), c.loop-rest.invariant.size)) in
    let all : drop k xs ≡ decimal c.args.number = drop-set_at ds k k (48 + n) refl inside ∙ ap (λ (ys : List ℕ). ys ++ drop (k + 1) ds) (sym (decimal_digit n c.loop-rest-test.false)) ∙ c.loop-rest.invariant.text in
    c.in_ok-extend_from_slice.ensures.items ∙ ap (λ (ys : List ℕ). c.args.out.now.items ++ ys) (whole ∙ all)
