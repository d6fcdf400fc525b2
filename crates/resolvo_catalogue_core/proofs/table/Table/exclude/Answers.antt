use Rattle.std.proofs.Common.{◌≡◌, ◌∙◌, ◌+◌, ℕ, List, Some, length, refl, ap, sym, subst}
use Rattle.std.specs.Prelude.{slice_get}
use Rattle.std.specs.String.{string_bytes}
use Rattle.resolvo_text.specs.View.{version_of}
use Rattle.resolvo_text.specs.Line.{Version, Line, Exclude}
use Rattle.resolvo_terms.specs.Terms.{IsWord}
use Rattle.resolvo_catalogue_core.specs.declared.table.Table.{Table}
use Rattle.resolvo_terms.proofs.KnownLemmas.{word_known}
use Rattle.resolvo_catalogue_core.proofs.Sorted.{updates_number}
use Rattle.resolvo_catalogue_core.proofs.TableSteps.{adds_over, exclude}
use Rattle.resolvo_catalogue_core.proofs.VersionLemmas.{same_versions}
use Rattle.resolvo_catalogue_core.proofs.PlaceLemmas.{exclude_placed, excluded_twice}
use Rattle.resolvo_catalogue_core.proofs.table.Table.exclude.Goals as goal

pub returns-then-is_excluded-clause-fault : goal.returns-then-is_excluded-clause-fault
returns-then-is_excluded-clause-fault c = λ e. excluded_twice c.args.self.now c.requires.table (version_of c.args.version) (string_bytes c.args.word) c.in_ok-version.version.0 c.in_ok-version.ensures.found (sym c.is_excluded.ensures ∙ c.if-is_excluded.true)

pub returns-clause-placed : goal.returns-clause-placed
returns-clause-placed c = exclude_placed c.args.self.now c.requires.table (version_of c.args.version) (string_bytes c.args.word) c.in_ok-version.version.0 c.in_ok-version.ensures.found (sym c.is_excluded.ensures ∙ c.if-is_excluded.false)

pub returns-clause-ok : goal.returns-clause-ok
returns-clause-ok c =
    let t = c.args.self.now in
    let u = c.word.new.self in
    let w = c.in-Ok.word in
    let word = string_bytes c.args.word in
    let is : IsWord u w word = subst (λ (x : List ℕ). IsWord u w x) c.deref.ensures c.in-Ok.ensures.word in
    let stay = same_versions t.terms.names u.names t.versions.items c.word.ensures.grows.names c.requires.table.named in
    let at = subst (λ (vs : List Version). slice_get vs c.in_ok-version.version.0 ≡ Some (version_of c.args.version)) (sym stay) c.in_ok-version.ensures.found in
    let now : Table = record t { terms = u; line_kinds = c.push_long.new.self; excluded = c.insert.new.self } in
    adds_over t u (Exclude (version_of c.args.version) word) now c.requires.table c.word.ensures.grows c.ids_are_once.ensures c.word.ensures.few refl
    (λ keeps same. exclude (record t { terms = u }) now c.args.line c.in_ok-version.version (version_of c.args.version) w word keeps (word_known u w word is) is (c.requires.line ∙ ap (λ (ls : List Line). length ls + 1) (sym same))
    at (sym c.is_excluded.ensures ∙ c.if-is_excluded.false) c.in_ok-push_long.ensures (updates_number c.in_ok-version.version.0 t.excluded c.insert.new.self _ c.in_ok-insert.ensures.updates.0))
