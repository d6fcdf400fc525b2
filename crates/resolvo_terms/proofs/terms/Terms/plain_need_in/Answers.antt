use Rattle.std.proofs.lemmas.Option.{IfSome_then}
use Rattle.resolvo_text.specs.declared.spec.Span.TheVariants.{Any}
use Rattle.resolvo_terms.proofs.ReadLemmas.{lone_text}
use Rattle.resolvo_terms.proofs.terms.Terms.plain_need_in.Goals as goal

pub returns : goal.returns
returns c = IfSome_then c.known_whole.result c.known_whole.ensures (λ v at. (
  record { name = c.in_ok-parts.parts.1.now; span = Any },
  lone_text c.args.words.now c.in_ok-parts.parts.1.now _ c.in_ok-parts.ensures.cases.0 c.in_ok-package.ensures.name,
  (c.in_ok-package.package, at, c.in_ok-package.ensures.package),
))
