use Rattle.std.proofs.Common.{◌∙◌, inl, inr, ap, sym}
use Rattle.std.proofs.lemmas.Bool.{false≢true}
use Rattle.resolvo_catalogue_core.specs.Kept.{KeptLines}
use Rattle.resolvo_catalogue_core.proofs.UnmarkedLemmas.{no_locks, no_exclusions, denied, allowed, some_lock, some_exclusion}
use Rattle.resolvo_catalogue_core.proofs.kept_lines.KeptLines.has_marks.Goals as goal
use Rattle.resolvo_catalogue_core.proofs.kept_lines.KeptLines.has_marks.Goals.{then-is_empty, else-is_empty}

pub returns-clause-locked : goal.returns-clause-locked
returns-clause-locked c none v has = elim c.if-is_empty.branch [
  | then-is_empty w ↦
      no_locks c.self.inside.table.now c.args.self.now.lines (ap (λ (s : KeptLines). s.lines) c.self.view_is) c.self.invariant.0 (c.is_empty.ensures.0 w.if-is_empty.true) v has
  | else-is_empty w ↦ absurd (false≢true (sym w.if-is_empty.false ∙ sym w.result-is ∙ denied c.if-is_empty.result none))
]

pub returns-clause-excluded : goal.returns-clause-excluded
returns-clause-excluded c none k v word there has = elim c.if-is_empty.branch [
  | then-is_empty w ↦
      no_exclusions c.self.inside.table.now c.args.self.now.lines (ap (λ (s : KeptLines). s.lines) c.self.view_is) c.self.invariant.0
      (w.is_empty-then-is_empty.ensures.0 (sym w.result-is ∙ denied c.if-is_empty.result none)) k v word there has
  | else-is_empty w ↦ absurd (false≢true (sym w.if-is_empty.false ∙ sym w.result-is ∙ denied c.if-is_empty.result none))
]

pub returns-clause-some : goal.returns-clause-some
returns-clause-some c some =
    let t = c.self.inside.table.now in
    let is = ap (λ (s : KeptLines). s.lines) c.self.view_is in
    elim c.if-is_empty.branch [
      | then-is_empty w ↦ inr (some_exclusion t c.args.self.now.lines is c.self.invariant.0 (λ none. false≢true (sym (sym w.result-is ∙ allowed c.if-is_empty.result some) ∙ w.is_empty-then-is_empty.ensures.1 none)))
      | else-is_empty w ↦ inl (some_lock t c.args.self.now.lines is c.self.invariant.0 (λ none. false≢true (sym w.if-is_empty.false ∙ c.is_empty.ensures.1 none)))
    ]
