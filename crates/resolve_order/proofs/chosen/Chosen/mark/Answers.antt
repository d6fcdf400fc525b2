use Rattle.std.proofs.Common.{◌≡◌, ◌+◌, List, Bool, true, None, Some, refl, sym, ap, subst, set}
use Rattle.resolvo_text.specs.Line.{Version}
use Rattle.resolvo_catalogue_core.specs.Listed.{listed}
use Rattle.resolve_order.specs.Kept.{unlisted}
use Rattle.resolve_order.specs.declared.chosen.Chosen.{Chosen}
use Rattle.resolve_order.proofs.PackageLemmas.{puts_at}
use Rattle.resolve_order.proofs.PickLemmas.{Moves, fewer_unlisted, marks}
use Rattle.resolve_order.proofs.chosen.Chosen.mark.Goals as goal
use Rattle.resolve_order.proofs.chosen.Chosen.mark.Goals.{in-Some+in_ok-add, in_default}

pub returns-clause-fewer : goal.returns-clause-fewer
returns-clause-fewer c =
    let same : c.match-place_of.self.listed.items ≡ c.args.self.now.listed.items = elim c.match-place_of.branch [
      | in-Some+in_ok-add w ↦ ap (λ (x : Chosen). x.listed.items) w.self-is
      | in_default w ↦ ap (λ (x : Chosen). x.listed.items) w.self-is
    ] in
    subst (λ (flags : List Bool). unlisted (set flags c.args.version.0 true) + 1 ≡ unlisted c.args.self.now.listed.items) (sym same) (fewer_unlisted c.args.self.now.listed.items c.args.version.0 c.requires)

pub returns-clause-marked : goal.returns-clause-marked
returns-clause-marked c = λ chosen entries v at among h.
    let lines = c.args.catalogue.now in
    let before = c.args.self.now in
    let mid = c.match-place_of.self in
    let same : mid.listed.items ≡ before.listed.items = elim c.match-place_of.branch [
      | in-Some+in_ok-add w ↦ ap (λ (x : Chosen). x.listed.items) w.self-is
      | in_default w ↦ ap (λ (x : Chosen). x.listed.items) w.self-is
    ] in
    let moves : Moves lines before mid c.args.version v = elim c.match-place_of.branch [
      | in-Some+in_ok-add w ↦
          let p = w.in-Some.place in
          let here = w.in-Some.ensures in
          let is : here.0 ≡ v = (let there = here.1 in cc) in
          subst (λ (x : Version). Moves lines before mid c.args.version x) is (subst (λ (x : Chosen). Moves lines before x c.args.version here.0) (sym w.self-is) (record {
            entered = puts_at (listed lines) here.0 p.0 p.1 (Some c.args.version) before.entries w.add.new.self here.2 here.3 w.in_ok-add.ensures;
            taken = puts_at (listed lines) here.0 p.0 p.1 None before.unlisted w.remove.new.self here.2 here.3 w.remove.ensures;
            same_favoured = refl;
            same_left = refl;
          }))
      | in_default w ↦ absurd (let none = w.in_default.ensures in cc (none, at))
    ] in
    marks lines before _ chosen entries c.args.version v at among c.requires (record { entered = moves.entered; taken = moves.taken; same_favoured = moves.same_favoured; same_left = moves.same_left }) (ap (λ (flags : List Bool). set flags c.args.version.0 true) same) h
