use Rattle.std.proofs.Common.{sym, subst, Bool, refl}
use Rattle.resolvo_proof.specs.Trimmed.{Keeps}
use Rattle.resolvo_proof.proofs.trim.keep.Goals as goal

pub returns-clause-kept : goal.returns-clause-kept
returns-clause-kept g c = subst (λ (b : Bool). Keeps b c.args.numbers.now c.args.step c.args.kept.now.items c.push.new.self.items) (sym c.if-not-leads.false) (c.renumbered.result, c.renumbered.ensures, c.in_ok-push.ensures.items)

pub returns-then-not-leads-clause-kept : goal.returns-then-not-leads-clause-kept
returns-then-not-leads-clause-kept g c = subst (λ (b : Bool). Keeps b c.args.numbers.now c.args.step c.args.kept.now.items c.args.kept.now.items) (sym c.if-not-leads.true) refl
