-- Lines as they are shown, and where they are allowed.
use Rattle.std.proofs.Common.{◌≡◌, ℕ, Bool, true, false, List, [], Option, Some, None, refl, sym, ap, subst, ◌∙◌, inr, ⊎_elim, drop}
use Rattle.std.specs.Prelude.{if◌then◌else◌, is_some}
use Rattle.std.specs.Option.{option_map}
use Rattle.std.proofs.lemmas.Bool.{false≢true}
use Rattle.resolvo_report.specs.declared.report.ReportLine as code
use Rattle.resolvo_report.specs.declared.grammar.Part.{Part}
use Rattle.resolvo_report.specs.declared.grammar.Part.TheVariants as part
use Rattle.resolvo_report.specs.Value.{ReportLine, Message}
use Rattle.resolvo_report.specs.Grammar.{next_part}
use Rattle.resolvo_report.specs.Parse.{is_message, line_read}
use Rattle.resolvo_report.specs.Shown.{IsShown}

same_part : (p : Part) (bytes other : List ℕ) → next_part p (Message bytes) ≡ next_part p (Message other)
same_part part.Start bytes other = refl
same_part part.Answers bytes other = refl
same_part (part.InstallSteps n) bytes other = refl
same_part (part.Catalogue n) bytes other = refl
same_part (part.Request n) bytes other = refl
same_part (part.RefusedSteps n) bytes other = refl
same_part part.Message bytes other = refl

-- the shown line is allowed where the one in the text is
pub part_shown : (keeps : Bool) (p : Part) (parsed line : ReportLine) → IsShown keeps parsed line → next_part p parsed ≡ next_part p line
part_shown true p parsed line h = ap (next_part p) h
part_shown false p parsed line h = ⊎_elim
    (λ e. ap (next_part p) e)
    (λ m. ap (next_part p) m.1 ∙ same_part p m.0 [] ∙ ap (next_part p) (sym m.2)) h

-- ---- a message without its bytes

pub message_is : {M : Type 0} (view : M → List ℕ) (text : List ℕ) (m : Option M) → option_map view m ≡ (if is_message text then Some (drop 2 text) else None) → is_some m ≡ true → is_message text ≡ true
message_is view text None e some = absurd (false≢true some)
message_is view text (Some m) e some = one (is_message text) e where
  one : (b : Bool) → Some (view m) ≡ (if b then Some (drop 2 text) else None) → b ≡ true
  one true h = refl
  one false h = absurd cc

pub shows_message : (keeps : Bool) (text items : List ℕ) → keeps ≡ false → is_message text ≡ true → items ≡ [] → (x : ReportLine) × (line_read text ≡ Some x) × IsShown keeps x (Message items)
unfolding line_read
shows_message keeps text items unkept is none = (Message (drop 2 text), rw is refl, subst (λ (k : Bool). IsShown k (Message (drop 2 text)) (Message items)) (sym unkept) (inr (drop 2 text, refl, ap Message none)))
