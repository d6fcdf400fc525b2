use Rattle.std.proofs.Common.{◌≡◌, ◌∙◌, ◌+◌, ◌∷◌, [], List, length, ap, arith}
use Rattle.std.proofs.lemmas.List.{length-append}
use Rattle.resolvo_catalogue_core.specs.Packages.{package_at}
use Rattle.resolvo_catalogue_core.specs.declared.package.Package.{Package}
use Rattle.resolvo_catalogue_core.specs.declared.package.Package.TheVariants.{Absent}
use Rattle.resolvo_catalogue_core.proofs.PackageLemmas.{empty_place}
use Rattle.resolvo_catalogue_core.proofs.package_table.lengthen.Goals as goal

pub loop-preserved : goal.loop-preserved
loop-preserved c =
    let inv = c.loop.invariant in
    let ps = c.loop.places.items in
    let more = c.in_ok-push.ensures.items in
    let long : length c.push.new.self.items ≡ length ps + 1 = ap (λ (xs : List Package). length xs) more ∙ length-append ps (Absent ∷ []) in (
      λ n. ap (λ (xs : List Package). package_at xs n) more ∙ empty_place ps n ∙ inv.0 n,
      omega (arith, long, inv.1),
      λ bound a b. omega (arith, long, inv.1, c.loop-test.true, b),
    )
