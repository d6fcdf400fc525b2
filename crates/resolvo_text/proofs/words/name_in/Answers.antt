use Rattle.std.proofs.Common.{◌≡◌, List, ℕ, Option, Bor, true, sym, ap, ◌∙◌, refl}
use Rattle.std.specs.Option.{option_map}
use Rattle.std.specs.Str.{IsUtf8}
use Rattle.resolvo_text.specs.Spelling.{is_name}
use Rattle.resolvo_text.specs.Parse.{name_in}
use Rattle.resolvo_text.proofs.NameLemmas.{name_is_text}
use Rattle.resolvo_text.proofs.NumberLemmas.{text_given}
use Rattle.resolvo_text.proofs.words.name_in.Goals as goal

pub returns : goal.returns
unfolding name_in
returns c =
    let word = c.args.word.now in
    let named : is_name word ≡ true = sym c.is_name.ensures ∙ c.if-not-is_name.false in
    ap (λ (o : Option (Bor (List ℕ))). option_map (λ s. s.now) o) c.ok.ensures.value ∙ text_given (IsUtf8 word) _ word _ c.from_utf8.ensures.cases (name_is_text word named) ∙ rw named refl
