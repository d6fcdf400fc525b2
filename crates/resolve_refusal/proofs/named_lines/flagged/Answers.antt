use Rattle.std.proofs.Common.{◌+◌, sym, ◌∙◌, subst, ap, Vec, Global, Some, true, false, get_or, ℕ}
use Rattle.std.proofs.lemmas.Bool.{both_ways}
use Rattle.std.proofs.lemmas.Option.{slice_get-get_or, get_or_from_slice_get}
use Rattle.resolvo_catalogue_core.specs.Questions.{AreAll}
use Rattle.resolve_refusal.specs.Named.{IsFlaggedLine}
use Rattle.resolve_refusal.proofs.NameLemmas.{lines_more, lines_skip}
use Rattle.resolve_refusal.proofs.named_lines.flagged.Goals as goal
use Rattle.resolve_refusal.proofs.named_lines.flagged.Goals.{then-flag+in_ok-push, else-flag}

pub loop-index-preserved : goal.loop-index-preserved
loop-index-preserved c =
    let flags = c.args.flags.now in
    let i = c.loop-index.index in
    let old = c.loop-index.lines.items in
    elim c.if-flag.branch [
      | then-flag+in_ok-push w ↦
          subst (λ (v : Vec ℕ Global). AreAll v.items (IsFlaggedLine flags (i + 1))) (sym w.lines-is)
          (subst (λ ns. AreAll ns (IsFlaggedLine flags (i + 1))) (sym w.in_ok-push.ensures.items) (lines_more flags i old (slice_get-get_or flags i false c.loop-index-test.true ∙ ap Some w.if-flag.true) c.loop-index.invariant))
      | else-flag w ↦
          subst (λ (v : Vec ℕ Global). AreAll v.items (IsFlaggedLine flags (i + 1))) (sym w.lines-is) (lines_skip flags i old (λ is. both_ways (get_or flags i false) w.if-flag.false (get_or_from_slice_get flags i true false is)) c.loop-index.invariant)
    ]
