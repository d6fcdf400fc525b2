use Rattle.std.proofs.Common.{ℕ, ◌-◌, ap, ◌∙◌}
use Rattle.resolvo_proof.specs.Trimmed.{IsTrimmed}
use Rattle.resolvo_proof.proofs.Shortened.{trimmed_empty}
use Rattle.resolvo_proof.proofs.NumberLemmas.{last_wanted, all_named}
use Rattle.resolvo_proof.proofs.trim.trim.Goals as goal

-- the kept steps lead to the last step
left : (g : _) (c : goal.After-drop-branch g) → IsTrimmed c.args.steps.items c.in_ok-steps.field-0.steps.items
left g c = last_wanted c.args.steps.items c.in_ok-steps.field-0.steps.items c.saturating_sub-last.result (c.saturating_sub-last.ensures ∙ ap (λ (n : ℕ). n - 1) (c.len.ensures ∙ c.args.steps.ok.0)) c.in_ok-steps.ensures.kept.trimmed

pub returns-clause-kept : goal.returns-clause-kept
returns-clause-kept g c = left g c

pub returns-clause-named : goal.returns-clause-named
returns-clause-named g c = all_named c.args.steps.items c.in_ok-steps.field-0.steps.items (left g c)

pub returns-clause-empty : goal.returns-clause-empty
returns-clause-empty g c = trimmed_empty c.args.steps.items c.in_ok-steps.field-0.steps.items (left g c)

pub returns-clause-proof : goal.returns-clause-proof
returns-clause-proof g c = c.in_ok-steps.ensures.proof

pub returns-clause-places : goal.returns-clause-places
returns-clause-places g c = c.in_ok-steps.ensures.places

pub returns-clause-signs : goal.returns-clause-signs
returns-clause-signs g c = c.in_ok-steps.ensures.signs
