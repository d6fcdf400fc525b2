use Rattle.std.proofs.Common.{◌∙◌, ◌++◌, ◌∷◌, [], ap, refl}
use Rattle.resolvo_catalogue_core.proofs.Sorted.{updates_number}
use Rattle.resolvo_catalogue_core.proofs.NumberedLemmas.{mapped}
use Rattle.resolvo_catalogue_core.proofs.version_list.VersionList.map.Goals as goal

pub returns : goal.returns
returns c =
    mapped c.args.self.now (record { numbers = c.push.new.self; versions = c.push-2.new.self; by_number = _ }) c.args.number c.args.version c.insert.new.self c.requires.numbered c.requires.new
    (λ k. updates_number c.args.number c.in_ok-map.map c.insert.new.self _ c.in_ok-insert.ensures.updates.0 k ∙ rw (c.in_ok-map.ensures.map k) refl)
    (c.in_ok-push.ensures.items ∙ ap (λ xs. xs.items ++ c.args.number ∷ []) c.take_map.ensures.numbers) (c.in_ok-push-2.ensures.items ∙ ap (λ xs. xs.items ++ c.args.version ∷ []) c.take_map.ensures.versions) refl
