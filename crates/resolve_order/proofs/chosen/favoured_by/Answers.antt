use Rattle.std.proofs.Common.{◌≡◌, ◌∙◌, ◌+◌, ◌++◌, ◌∷◌, [], ℕ, List, Some, get_or, take, sym, ap, subst, arith}
use Rattle.std.proofs.lemmas.List.{take_all, take_more}
use Rattle.std.proofs.lemmas.Option.{slice_get-get_or}
use Rattle.resolvo_catalogue_core.proofs.Sorted.{updates_number}
use Rattle.resolvo_catalogue_core.specs.Listed.{listed}
use Rattle.resolvo_catalogue_core.specs.declared.rule.VersionNo.{VersionNo}
use Rattle.resolve_order.specs.Kept.{favoured_in}
use Rattle.resolve_order.proofs.FavourLemmas.{IsFavouredSoFar, no_favours, favours_more, favours_all}
use Rattle.resolve_order.proofs.PackageLemmas.{favoured_put, favoured_nothing}
use Rattle.resolve_order.proofs.chosen.favoured_by.Goals as goal
use Rattle.resolve_order.proofs.chosen.favoured_by.Goals.{in-Some+in_ok-insert, in_default}

pub loop-version-init : goal.loop-version-init
loop-version-init c = λ name.
    let lines = c.args.catalogue.now in
    subst (IsFavouredSoFar lines [] name) (sym (favoured_nothing (listed lines) c.new-map.result name c.new-map.ensures.empty)) (no_favours lines name)

pub loop-version-preserved : goal.loop-version-preserved
loop-version-preserved c = λ name.
    let lines = c.args.catalogue.now in
    let items = c.favours-version-items.result.now in
    let i = c.loop-version.version-index in
    let none : ℕ × VersionNo = (0, record { 0 = 0 }) in
    let f = get_or items i none in
    let more : take (i + 1) items ≡ take i items ++ f ∷ [] = take_more items i none c.loop-version-test.true in
    let favours = c.favours-version-items.ensures.versions i f (slice_get-get_or items i none c.loop-version-test.true) in
    subst (λ (seen : List (ℕ × VersionNo)). IsFavouredSoFar lines seen name (favoured_in (listed lines) c.match-place_of.map name)) (sym more) (elim c.match-place_of.branch [
      | in-Some+in_ok-insert w ↦
          let at = w.in-Some.ensures in
          let put = updates_number w.in-Some.place.0 c.loop-version.map w.insert.new.self (Some f.1) w.in_ok-insert.ensures.updates.0 in
          favours_more lines (take i items) f at.0 name (favoured_in (listed lines) c.loop-version.map name) (favoured_in (listed lines) c.match-place_of.map name) favours at.1
          (ap (λ m. favoured_in (listed lines) m name) w.map-is ∙ favoured_put (listed lines) at.0 w.in-Some.place.0 f.1 c.loop-version.map w.insert.new.self name at.2 put) (c.loop-version.invariant name)
      | in_default w ↦ absurd (let missing = w.in_default.ensures in cc (favours.1, missing))
    ])

pub returns : goal.returns
returns c = λ name.
    let lines = c.args.catalogue.now in
    let items = c.favours-version-items.result.now in
    favours_all lines items name _ c.lines_are_in_place.ensures c.favours-version-items.ensures.lines c.favours-version-items.ensures.versions
    (subst (λ (seen : List (ℕ × VersionNo)). IsFavouredSoFar lines seen name (favoured_in (listed lines) c.loop-version.map name)) (take_all c.loop-version.version-index items (omega (arith, c.loop-version-test.false))) (c.loop-version.invariant name))
