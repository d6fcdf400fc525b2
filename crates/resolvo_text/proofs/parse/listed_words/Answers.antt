use Rattle.std.specs.Prelude.{codes}
use Rattle.std.proofs.lemmas.Bool.Decides.{Decides-eqb}
use Rattle.std.proofs.lemmas.Slice.Eq.{starts_is}
use Rattle.resolvo_text.proofs.TextLaws.{version_from}
use Rattle.resolvo_text.proofs.parse.listed_words.Goals as goal

pub returns-then-starts_with : goal.returns-then-starts_with
returns-then-starts_with c = version_from c.args.text.now ((starts_is Decides-eqb c.args.text.now (codes "version ") c.starts_with.result c.starts_with.ensures.value).0 c.if-starts_with.true)
