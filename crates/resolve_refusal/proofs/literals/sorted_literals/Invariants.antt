use Rattle.std.proofs.Common.{◌≡◌, ◌++◌, map, take}
use Rattle.resolve_refusal.proofs.SortLemmas.{AreByText}
use Rattle.resolve_refusal.proofs.literals.sorted_literals.Given as goal

-- the literals so far by their texts
abbrev pub invariant-loop-literal : goal.invariant-loop-literal
invariant-loop-literal l = AreByText l.catalogue l.provider.ids (take l.literal-index l.literals) l.by_text.entries

-- the values so far
abbrev pub invariant-loop-literal-2 : goal.invariant-loop-literal-2
invariant-loop-literal-2 l = (l.initial.literal-iterator ≡ l.yielded ++ l.literal-iterator) × (l.sorted.items ≡ map (λ e. e.1) l.yielded)
