use Rattle.std.proofs.Common.{ℕ, List, Option, refl, sym, ap, subst}
use Rattle.std.proofs.lemmas.Option.{slice_get-get_or}
use Rattle.resolvo_text.specs.Line.{Version, Exclude}
use Rattle.resolvo_catalogue_core.specs.Questions.{IsRuleLine}
use Rattle.resolvo_catalogue_core.specs.Kept.{nth, nowhere, kept_line, IsKeptOf}
use Rattle.resolvo_catalogue_core.specs.declared.kept_rule.KeptRule.{KeptRule}
use Rattle.resolvo_catalogue_core.specs.declared.rule.Rule.TheVariants as rule
use Rattle.resolvo_catalogue_core.proofs.kept_rule.KeptRule.in_text.Goals as goal

pub returns-in-Lock : goal.returns-in-Lock
returns-in-Lock c =
    let k = c.in-Lock.version in
    subst (λ (r : KeptRule). (versions : List Version) (owner : Option Version) → IsKeptOf versions owner r → IsRuleLine versions (rule.Lock k) owner (kept_line c.args.terms.now versions r)) (sym c.in-Lock.is)
    (λ versions owner h. (nth versions k, slice_get-get_or versions k.0 nowhere h, refl))

pub returns-in_ok-word_of-in-Exclude : goal.returns-in_ok-word_of-in-Exclude
returns-in_ok-word_of-in-Exclude c =
    let k = c.in-Exclude.version in
    let word = c.in_ok-word_of-in-Exclude in
    subst (λ (r : KeptRule). (versions : List Version) (owner : Option Version) → IsKeptOf versions owner r → IsRuleLine versions (rule.Exclude k word.field-0) owner (kept_line c.args.terms.now versions r)) (sym c.in-Exclude.is)
    (λ versions owner h. (nth versions k, slice_get-get_or versions k.0 nowhere h, ap (λ (w : List ℕ). Exclude (nth versions k) w) (sym word.ensures)))
