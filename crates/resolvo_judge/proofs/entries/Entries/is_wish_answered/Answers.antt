use Rattle.std.proofs.Common.{sym, ◌∙◌, ap, option_map}
use Rattle.std.specs.Option.{option_copied}
use Rattle.resolvo_text.specs.View.{version_of}
use Rattle.resolvo_judge.specs.Entries.{entries_of}
use Rattle.resolvo_judge.proofs.EntryLemmas.{answered_by}
use Rattle.resolvo_judge.proofs.entries.Entries.is_wish_answered.Goals as goal

pub returns-else-has : goal.returns-else-has
returns-else-has c = λ before h lines.
    let w = version_of c.in-Some.wish.now in
    let wished = sym c.wish.ensures ∙ ap (λ o. option_map version_of (option_copied o)) c.in-Some.is in
    let out = sym (c.has.ensures (entries_of before) h.chosen) ∙ c.if-has.false in
    answered_by c.args.request.now.lines before c.args.line w c.contains_key.result wished out (λ is_wished. c.contains_key.ensures ∙ lines c.args.line w is_wished)
