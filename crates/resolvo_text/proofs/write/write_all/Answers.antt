use Rattle.std.proofs.Common.{◌≡◌, ℕ, ◌-◌, List, ◌++◌, length, take, drop, sym, ap, ◌∙◌, append_assoc}
use Rattle.std.proofs.KnownBytes.{Appends-trans}
use Rattle.std.proofs.lemmas.List.{take-append-drop, take_rest}
use Rattle.resolvo_text.proofs.write.write_all.Goals as goal

-- some more bytes of the rest are written
split_more : (bytes prefix rest : List ℕ) (count : ℕ) → bytes ≡ prefix ++ rest → bytes ≡ (prefix ++ take count rest) ++ take (length rest - count) (drop count rest)
split_more bytes prefix rest count e =
    let parts : rest ≡ take count rest ++ take (length rest - count) (drop count rest) = sym (take-append-drop count rest) ∙ ap (λ (xs : List ℕ). take count rest ++ xs) (sym (take_rest rest count)) in
    e ∙ ap (λ (xs : List ℕ). prefix ++ xs) parts ∙ sym (append_assoc prefix (take count rest) (take (length rest - count) (drop count rest)))

pub loop-rest-preserved : goal.loop-rest-preserved
loop-rest-preserved g c =
    let inv = c.loop-rest.invariant in
    let rest = c.loop-rest.rest.now in
    let count = c.in_ok-count.count in (
      inv.0 ++ take count rest,
      split_more c.args.bytes.now inv.0 rest count inv.1,
      Appends-trans _ _ _ inv.0 (take count rest) inv.2 c.in_ok-count.ensures.bytes,
      c.in_ok-count.ensures.failures ∙ inv.3,
      c.in_ok-count.ensures.empty ∙ inv.4,
    )
