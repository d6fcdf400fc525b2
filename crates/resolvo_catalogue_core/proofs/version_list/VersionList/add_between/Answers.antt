use Rattle.std.proofs.Common.{subst}
use Rattle.std.proofs.lemmas.Result.{on_ok_weaker}
use Rattle.resolvo_catalogue_core.specs.Numbered.{IsSought}
use Rattle.resolvo_catalogue_core.proofs.PickedLemmas.{mapped_among}
use Rattle.resolvo_catalogue_core.proofs.version_list.VersionList.add_between.Goals as goal

pub returns-in-Some : goal.returns-in-Some
returns-in-Some c =
    let ns = c.args.self.now.numbers.items in
    let vs = c.args.self.now.versions.items in
    let finds = subst (λ m. IsSought m ns vs) c.in-Some.is c.requires.numbered.sought in
    on_ok_weaker c.add_mapped.result (mapped_among ns vs c.in-Some.map c.args.start c.args.end c.args.out.now c.add_mapped.new.out c.add_mapped.ensures.ordered finds) c.add_mapped.ensures.added
