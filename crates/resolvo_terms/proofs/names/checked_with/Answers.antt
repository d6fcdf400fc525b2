use Rattle.std.proofs.Common.{◌∙◌, sym, ap}
use Rattle.resolvo_text.specs.Spelling.{is_name}
use Rattle.resolvo_terms.proofs.NameLemmas.{checked_more}
use Rattle.resolvo_terms.proofs.names.checked_with.Goals as goal

pub returns-then-is_name : goal.returns-then-is_name
returns-then-is_name c = λ texts are at.
    checked_more texts c.args.checked c.args.number c.args.name.now are at c.if-number-checked.true (ap is_name (sym c.as_bytes.ensures.value) ∙ sym c.is_name.ensures ∙ c.if-is_name.true)
