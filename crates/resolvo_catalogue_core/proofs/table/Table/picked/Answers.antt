use Rattle.std.proofs.Common.{List, ℕ, Option, None, Some, sym, subst}
use Rattle.std.proofs.lemmas.Result.{IfOk-weaker}
use Rattle.resolvo_text.specs.View.{spec_of}
use Rattle.resolvo_catalogue_core.specs.Numbered.{numbers_of, versions_of}
use Rattle.resolvo_catalogue_core.specs.Picked.{HasEach, IsAmong, IsPicked, is_picked}
use Rattle.resolvo_catalogue_core.specs.Questions.{AreAll}
use Rattle.resolvo_catalogue_core.specs.Table.{IsPackage, versions_in}
use Rattle.resolvo_catalogue_core.specs.declared.package.Package.{Package}
use Rattle.resolvo_catalogue_core.proofs.PickedLemmas.{all_picked, none_picked}
use Rattle.resolvo_catalogue_core.proofs.table.Table.picked.Goals as goal

pub picked-requires : goal.picked-requires
picked-requires c = (c.requires.packages c.as_str.result.now).kept c.in-Some.package.now (sym c.in-Some.ensures.value)

pub returns-in-Some : goal.returns-in-Some
returns-in-Some c =
    let vs = versions_in c.args.self.now in
    let p = c.in-Some.package.now in
    let of_name = subst (λ (o : Option Package). IsPackage vs c.as_str.result.now o) (sym c.in-Some.ensures.value) (c.requires.packages c.as_str.result.now) in
    let kept = subst (λ (name : List ℕ). IsPackage vs name (Some p)) c.as_str.ensures.value of_name in
    IfOk-weaker c.picked.result (HasEach (IsAmong (numbers_of p) (versions_of p) (is_picked c.args.spec.now.span c.args.outside))) (λ set. AreAll set.keys (IsPicked vs (spec_of c.args.spec.now) c.args.outside))
    (λ set has. all_picked vs (spec_of c.args.spec.now) c.args.outside p kept set has) c.picked.ensures

pub returns-in-None : goal.returns-in-None
returns-in-None c =
    let vs = versions_in c.args.self.now in
    let of_name = subst (λ (o : Option Package). IsPackage vs c.as_str.result.now o) (sym c.in-None.ensures.value) (c.requires.packages c.as_str.result.now) in
    let kept = subst (λ (name : List ℕ). IsPackage vs name None) c.as_str.ensures.value of_name in
    rw c.new.ensures.empty (none_picked vs (spec_of c.args.spec.now) c.args.outside kept)
