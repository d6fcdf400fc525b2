-- The report's lines of answers, whose versions are known by their numbers.
use Rattle.std.proofs.Common.{◌≡◌, List, [], ◌∷◌, map, Option, None, refl, ap, ◌∙◌}
use Rattle.std.specs.Prelude.{slice_get, unwrap_or}
use Rattle.std.proofs.lemmas.Option.{unwrap_or-slice_get}
use Rattle.resolvo_text.specs.Line.{Version}
use Rattle.resolvo_catalogue_core.specs.Kept.{nth, nowhere}
use Rattle.resolvo_catalogue_core.specs.declared.rule.VersionNo.{VersionNo}
use Rattle.resolve_order.specs.declared.entry.Reason.{Reason}
use Rattle.resolve_order.specs.declared.entry.Reason.TheVariants as reason
use Rattle.resolve_order.specs.declared.entry.Answer.{Answer}
use Rattle.resolve_order.specs.declared.entry.Answer.TheVariants as answer
use Rattle.resolve_order.specs.View as view
use Rattle.resolvo_catalogue_core.specs.Answers as answers
use Rattle.resolvo_judge.specs.Refusal.{answer_of}
use Rattle.resolve_install.specs.Lines.{entry_for, line_for, lines_for}

-- a number that no version has is that of the version without a name
pub version_nowhere : (all : List Version) (n : VersionNo) → None ≡ slice_get all n.0 → nowhere ≡ nth all n
version_nowhere all n none = ap (λ (o : Option Version). unwrap_or o nowhere) none ∙ unwrap_or-slice_get all n.0 nowhere

entry_written : (versions : List Version) (v : Version) (r : Reason) → answer_of (entry_for versions v r) ≡ answers.Entry v (view.reason_of versions r)
entry_written versions v (reason.ForRequest line) = refl
entry_written versions v (reason.ForVersion owner line) = refl
entry_written versions v (reason.Wished line) = refl

line_written : (versions : List Version) (a : Answer) → answer_of (line_for versions a) ≡ view.answer_of versions a
line_written versions (answer.Entry e) = entry_written versions (nth versions e.version) e.reason
line_written versions (answer.LeftOut version line step) = refl

-- the lines are those of the answers
pub lines_written : (versions : List Version) (list : List Answer) → map answer_of (lines_for versions list) ≡ view.answers_of versions list
lines_written versions [] = refl
lines_written versions (a ∷ list) = λ i. line_written versions a i ∷ lines_written versions list i
