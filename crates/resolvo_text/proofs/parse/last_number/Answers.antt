use Rattle.std.proofs.Common.{◌∙◌, ℕ, List, Option, sym, ap, subst}
use Rattle.resolvo_text.specs.Parse.{Gives, last_number, words_in}
use Rattle.resolvo_text.proofs.BeginLemmas.{last_is, no_last}
use Rattle.resolvo_text.proofs.parse.last_number.Goals as goal

pub returns-in-Some : goal.returns-in-Some
returns-in-Some c = subst (λ (o : Option ℕ). Gives (λ n. n) c.number_of.result o) (sym (ap (λ (bs : List ℕ). last_number (words_in bs)) c.in-Some.ensures.cases.0 ∙ last_is c.in-Some.digits.now)) c.number_of.ensures

pub returns-in-None : goal.returns-in-None
returns-in-None c = no_last c.args.words.now c.in-None.ensures.cases
