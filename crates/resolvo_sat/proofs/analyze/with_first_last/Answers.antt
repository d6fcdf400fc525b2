use Rattle.std.proofs.Common.{◌≡◌, ◌<◌, ◌==◌, ℕ, zero, suc, Bool, false, List, ◌∷◌, [], ◌++◌, Vec, Global, sym, ◌∙◌, ap, subst, arith}
use Rattle.std.specs.List.Sorted.{IsPermutation}
use Rattle.std.proofs.lemmas.Bool.{both_ways}
use Rattle.std.proofs.lemmas.List.Sorted.{IsPermutation-refl}
use Rattle.resolvo_store_core.specs.declared.literal.Literal.{Literal}
use Rattle.resolvo_sat.proofs.MetLemmas.{rotated}
use Rattle.resolvo_sat.proofs.analyze.with_first_last.Goals.{then-not-is_empty+in_ok-push, else-not-is_empty}
use Rattle.resolvo_sat.proofs.analyze.with_first_last.Goals as goal

-- what isn't empty has an element
some : (n m : ℕ) (b : Bool) → b ≡ (n == 0) → b ≡ false → n ≡ m → 0 < m
some zero m b e f same = absurd (both_ways b f e)
some (suc n) m b e f same = omega arith

pub returns-clause-same : goal.returns-clause-same
returns-clause-same c = elim c.if-not-is_empty.branch [
  | then-not-is_empty+in_ok-push w ↦
      subst (λ (v : Vec Literal Global). IsPermutation c.args.literals.items v.items) (sym w.literals-is)
      (rotated c.args.literals.items w.push.new.self.items w.remove-first.result (some _ _ c.is_empty.result c.is_empty.ensures w.if-not-is_empty.true c.args.literals.ok.0) w.remove-first.ensures.value
      (w.in_ok-push.ensures.items ∙ ap (λ (l : List Literal). l ++ w.remove-first.result ∷ []) w.remove-first.ensures.items))
  | else-not-is_empty w ↦ subst (λ (v : Vec Literal Global). IsPermutation c.args.literals.items v.items) (sym w.literals-is) (IsPermutation-refl c.args.literals.items)
]
