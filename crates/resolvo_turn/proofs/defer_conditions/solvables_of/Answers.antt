use Rattle.std.proofs.Common.{◌≡◌, ◌+◌, ◌∷◌, ◌++◌, [], ◌∙◌, List, take, sym, ap}
use Rattle.std.proofs.lemmas.List.{take_more, map-append}
use Rattle.resolvo_packages.specs.declared.package_source.Offered.{Offered}
use Rattle.resolvo_packages.specs.PackageSource.{offered_solvables}
use Rattle.resolvo_turn.proofs.defer_conditions.solvables_of.Goals as goal

pub loop-one-preserved : goal.loop-one-preserved
loop-one-preserved g c =
    let xs = c.args.offered.now in
    let i = c.loop-one.one-index in
    let item = c.one-item.result in
    let more : take (i + 1) xs ≡ take i xs ++ item ∷ [] = take_more xs i item c.loop-one-test.true ∙ ap (λ (x : Offered _ _). take i xs ++ x ∷ []) (sym c.one-item.is) in
    c.in_ok-push.ensures.items
    ∙ (ap (λ (ys : List g.row.S.Denot). ys ++ item.solvable ∷ []) c.loop-one.invariant
    ∙ (sym (map-append (λ (x : Offered _ _). x.solvable) (take i xs) (item ∷ [])) ∙ ap (λ (ys : List (Offered _ _)). offered_solvables ys) (sym more)))
