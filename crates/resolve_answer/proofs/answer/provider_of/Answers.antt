use Rattle.std.proofs.Common.{◌≡◌, sym, subst}
use Rattle.resolvo_catalogue.specs.Provider.{Provider}
use Rattle.resolvo_catalogue.specs.Over.{IsOver}
use Rattle.resolve_answer.proofs.answer.provider_of.Goals as goal

pub returns-in-Some-clause-over : goal.returns-in-Some-clause-over
returns-in-Some-clause-over c =
    let over = c.in_ok-provider.ensures.over in
    subst (λ (p : Provider). IsOver c.args.catalogue.now p) (sym c.within.ensures) (record {
      versions = over.versions;
      deps = over.deps;
      marks = over.marks;
      many = over.many;
      once = over.once;
      distinct = over.distinct;
      grammatical = over.grammatical;
    })
