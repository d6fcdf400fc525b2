use Rattle.std.proofs.Common.{inl, inr, ◌≤◌, [], sym, ap, ◌∙◌, take, length, arith}
use Rattle.std.proofs.lemmas.Bool.{eqb-true}
use Rattle.std.proofs.lemmas.List.{take_all}
use Rattle.std.proofs.lemmas.Option.{slice_get-get_or}
use Rattle.resolvo_catalogue_core.specs.Listed.{listed}
use Rattle.resolvo_catalogue.specs.Marked.{HaveNoMarks}
use Rattle.resolvo_catalogue.proofs.DependencyLemmas.{text_next, text_step}
use Rattle.resolvo_catalogue.proofs.MarkLemmas.{next_number, marked_none, marked_by_none, no_lines, none_marked, no_favours, marks_by_number, favours_next, all_favours}
use Rattle.resolvo_catalogue.proofs.candidate_flags.marks_of.Goals as goal
use Rattle.resolvo_catalogue.proofs.candidate_flags.marks_of.Goals.{in-Some, in_default}

pub returns-then-is_empty-clause-marked : goal.returns-then-is_empty-clause-marked
returns-then-is_empty-clause-marked c = λ ids same.
    let lines = c.args.catalogue.now in
    let marks : HaveNoMarks lines (listed lines) = elim c.lines_to_mark-lines.ensures [
      | inl all ↦ no_lines lines (listed lines) (sym (ap length c.requires) ∙ sym all ∙ c.if-lines-eq0.true)
      | inr none ↦ rw c.requires at none.1
    ] in
    none_marked ids lines (listed lines) c.new.result.items marks (λ v. no_favours lines c.favours-favours.result.now v c.favours-favours.ensures.lines (eqb-true _ _ (sym c.is_empty.ensures ∙ c.if-is_empty.true))) c.new.ensures.items

pub loop-line-init : goal.loop-line-init
loop-line-init c = λ ids same. c.in_ok-marks.ensures.marked ids (listed c.args.catalogue.now) (ap length (sym c.versions.ensures.listed) ∙ sym c.len.ensures)

pub loop-line-preserved : goal.loop-line-preserved
loop-line-preserved c = elim c.match-rule.branch [
  | in-Some w ↦ λ ids same.
      let lines = c.args.catalogue.now in
      let within : c.loop-line.line ≤ length lines = elim c.lines_to_mark-lines.ensures [
        | inl all ↦ omega (arith, c.loop-line-test.true, all, ap length c.requires)
        | inr none ↦ absurd (omega (arith, c.loop-line-test.true, none.0))
      ] in
      let of_line = rw (w.in-Some.is, c.requires, sym same) at c.rule.ensures.of_line in
      rw (w.marks-is, text_step c.args.catalogue.now c.loop-line.line of_line.0 of_line.1) (w.mark.ensures ids _ _ of_line.0 (take c.loop-line.line lines) [] (next_number c.loop-line.line lines within) c.versions.ensures.distinct of_line.2 (c.loop-line.invariant ids same))
  | in_default w ↦ λ ids same.
      let none = rw (w.in_default.is, c.requires) at c.rule.ensures.none in
      rw (w.marks-is, text_next c.args.catalogue.now c.loop-line.line) (marked_none ids c.args.catalogue.now _ [] (listed c.args.catalogue.now) c.loop-line.marks.items _ c.versions.ensures.distinct (c.loop-line.invariant ids same) none)
]

pub loop-version-init : goal.loop-version-init
loop-version-init c = λ ids same.
    let lines = c.args.catalogue.now in
    elim c.lines_to_mark-lines.ensures [
      | inl all ↦ rw (take_all c.loop-line.line lines (omega (arith, c.loop-line-test.false, all, ap length c.requires))) at c.loop-line.invariant ids same
      | inr none ↦ marked_by_none ids c.loop-line.line lines [] (listed lines) c.loop-line.marks.items (rw c.requires at none.1) (c.loop-line.invariant ids same)
    ]

pub loop-version-preserved : goal.loop-version-preserved
loop-version-preserved c = λ ids same.
    let fs = c.favours-favours.result.now in
    let i = c.loop-version.version-index in
    let own = c.favours-favours.ensures.versions i _ (slice_get-get_or fs i _ c.loop-version-test.true) in
    rw (favours_next (listed c.args.catalogue.now) fs i _ own.0 c.loop-version-test.true own.1) (c.favour.ensures ids (listed c.args.catalogue.now) c.args.catalogue.now _ own.0 c.versions.ensures.distinct own.1 (c.loop-version.invariant ids same))

pub returns-clause-marked : goal.returns-clause-marked
returns-clause-marked c = λ ids same.
    marks_by_number ids c.args.catalogue.now (listed c.args.catalogue.now) c.loop-version.marks.items (all_favours ids c.args.catalogue.now (listed c.args.catalogue.now) c.loop-version.marks.items c.favours-favours.result.now c.favours-favours.ensures.lines c.favours-favours.ensures.versions
    (rw (take_all c.loop-version.version-index c.favours-favours.result.now c.loop-version-test.false) at c.loop-version.invariant ids same))
