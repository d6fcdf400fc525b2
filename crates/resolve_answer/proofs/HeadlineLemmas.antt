-- The report of the solver's answer is right.
use Rattle.std.proofs.Common.{◌≡◌, ℕ, true, false, List, [], ◌∷◌, ◌++◌, map, append-nil, Option, Some, None, refl, subst}
use Rattle.std.specs.Prelude.{IsTrue, Contains}
use Rattle.std.proofs.lemmas.Bool.{false≢true}
use Rattle.std.proofs.lemmas.List.Elements.{Contains-append_left}
use Rattle.resolvo_text.specs.Line.{Version, Line, Wish}
use Rattle.resolvo_text.specs.Matches.{Set}
use Rattle.resolvo_catalogue_core.specs.Answers.{Answer, entries_of}
use Rattle.resolvo_catalogue_core.specs.Grammar.{line_at}
use Rattle.resolvo_report.specs.Value.{Report, Install, Refused}
use Rattle.resolvo_sat.proofs.Lists.{contains_first}
use Rattle.resolve_order.specs.Order.{Turn, Chose, chosen_in}
use Rattle.resolve_answer.specs.Flat.{wishes_nothing, AllLines}
use Rattle.resolve_answer.specs.First.{HasFirstChosen}
use Rattle.resolve_answer.specs.Headline.{HasFirstChoices, IsRight}
use Rattle.resolve_answer.specs.Reported.{wish_of, AreListed, AreWishTurns, IsAnswer, IsReportOf}

-- a request without a wish has no turn of one
no_turns : (request : List Line) (turns : List Turn) (wishes : List (ℕ × Version)) → AllLines wishes_nothing request → map wish_of turns ≡ map Some wishes
    → ((w : ℕ × Version) → Contains wishes w → line_at request w.0 ≡ Some (Wish w.1)) → turns ≡ []
no_turns request [] wishes none each versions = refl
no_turns request (t ∷ turns) [] none each versions = cc
no_turns request (t ∷ turns) (w ∷ wishes) none each versions = absurd (false≢true (none w.0 (Wish w.1) (versions w (contains_first w w wishes refl))))

first_listed : (catalogue request : List Line) (answers : List Answer) → AreListed catalogue request answers → HasFirstChosen catalogue request answers
first_listed catalogue request answers l = record {
  chosen = l.chosen;
  first = l.first;
  entries = λ v h. (l.all v).0 (Contains-append_left l.chosen (chosen_in l.later) v h);
  all = λ none v h. alone none v ((l.all v).1 h);
}
  where
    alone : AllLines wishes_nothing request → (v : Version) → Contains (chosen_in (Chose None l.chosen ∷ l.later)) v → Contains l.chosen v
    alone none v h =
        let no_later : l.later ≡ [] = no_turns request l.later l.wished.wishes none l.wished.each l.wished.versions in
        subst (λ (s : Set). Contains s v) (append-nil l.chosen) (subst (λ (turns : List Turn). Contains (l.chosen ++ chosen_in turns) v) no_later h)

has_first : (catalogue request : List Line) (r : Report) → IsAnswer catalogue request r → HasFirstChoices catalogue request r
has_first catalogue request (Install lines steps) is = first_listed catalogue request _ is.0
has_first catalogue request (Refused catalogue_lines request_lines steps message) is = tt

pub is_right : (catalogue request : List Line) (r : Report) → IsReportOf catalogue request r → IsRight catalogue request r
is_right catalogue request r is = record { upheld = is.upheld; claim = is.claim; first = has_first catalogue request r is.answer }
