use Rattle.std.proofs.Common.{◌≡◌, ◌∙◌, ◌+◌, ℕ, List, Some, length, refl, ap, sym, subst}
use Rattle.std.specs.Prelude.{slice_get}
use Rattle.std.specs.String.{string_bytes}
use Rattle.resolvo_text.specs.Line.{Version, Line, Unknown}
use Rattle.resolvo_terms.specs.Terms.{IsWord}
use Rattle.resolvo_catalogue_core.specs.declared.table.Table.{Table}
use Rattle.resolvo_terms.proofs.KnownLemmas.{word_known}
use Rattle.resolvo_catalogue_core.specs.Grammar.{owner_below}
use Rattle.resolvo_catalogue_core.proofs.Sorted.{updates_number}
use Rattle.resolvo_catalogue_core.proofs.TableSteps.{adds_over, mark_unknown}
use Rattle.resolvo_catalogue_core.proofs.VersionLemmas.{same_versions}
use Rattle.resolvo_catalogue_core.proofs.PlaceLemmas.{unknown_placed, unknown_twice}
use Rattle.resolvo_catalogue_core.proofs.table.Table.mark_unknown.Goals as goal

pub returns-then-is_unknown-clause-fault : goal.returns-then-is_unknown-clause-fault
returns-then-is_unknown-clause-fault c =
    let owner = c.in_ok-version.ensures.found in
    λ e. unknown_twice c.args.self.now c.requires.table owner.0 (string_bytes c.args.word) c.in_ok-version.version.0 owner.1 owner.2 (sym c.is_unknown.ensures ∙ c.if-is_unknown.true)

pub returns-clause-placed : goal.returns-clause-placed
returns-clause-placed c =
    let owner = c.in_ok-version.ensures.found in
    unknown_placed c.args.self.now c.requires.table owner.0 (string_bytes c.args.word) c.in_ok-version.version.0 owner.1 owner.2 (sym c.is_unknown.ensures ∙ c.if-is_unknown.false)

pub returns-clause-ok : goal.returns-clause-ok
returns-clause-ok c =
    let t = c.args.self.now in
    let u = c.word.new.self in
    let w = c.in-Ok.word in
    let word = string_bytes c.args.word in
    let owner = c.in_ok-version.ensures.found in
    let is : IsWord u w word = subst (λ (x : List ℕ). IsWord u w x) c.deref.ensures c.in-Ok.ensures.word in
    let stay = same_versions t.terms.names u.names t.versions.items c.word.ensures.grows.names c.requires.table.named in
    let at = subst (λ (vs : List Version). slice_get vs c.in_ok-version.version.0 ≡ Some owner.0) (sym stay) owner.1 in
    let now : Table = record t { terms = u; line_kinds = c.push_long.new.self; owned = c.add_line.new.self; unknown = c.insert.new.self } in
    adds_over t u (Unknown word) now c.requires.table c.word.ensures.grows c.ids_are_once.ensures c.word.ensures.few refl
    (λ keeps same. mark_unknown (record t { terms = u }) now c.args.line c.in_ok-version.version owner.0 w word keeps (word_known u w word is) is (c.requires.line ∙ ap (λ (ls : List Line). length ls + 1) (sym same))
    at (ap owner_below same ∙ owner.2) (sym c.is_unknown.ensures ∙ c.if-is_unknown.false) c.in_ok-push_long.ensures c.in_ok-add_line.ensures.added c.in_ok-add_line.ensures.same (updates_number c.in_ok-version.version.0 t.unknown c.insert.new.self _ c.in_ok-insert.ensures.updates.0))
