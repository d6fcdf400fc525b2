use Rattle.std.proofs.Common.{◌≡◌, ◌∙◌, Option, Some, ℕ, is_some, true, false, ap, sym, subst}
use Rattle.std.specs.Prelude.{slice_get}
use Rattle.std.specs.BTreeMap.{get}
use Rattle.std.specs.Ordering.{nat_cmp}
use Rattle.std.proofs.lemmas.Option.{slice_get_within}
use Rattle.resolvo_text.specs.View.{version_of}
use Rattle.resolvo_catalogue_core.specs.Table.{versions_in}
use Rattle.resolvo_catalogue_core.proofs.NameMarks.{marked_at}
use Rattle.resolvo_catalogue_core.proofs.Sorted.{updates_number}
use Rattle.resolvo_catalogue_core.proofs.TableSteps.{favour}
use Rattle.resolvo_catalogue_core.proofs.PlaceLemmas.{favour_placed, favoured_twice}
use Rattle.resolvo_catalogue_core.proofs.table.Table.favour.Goals as goal

pub package_of-name-requires : goal.package_of-name-requires
package_of-name-requires c = record {
  table = c.requires.table;
  listed = slice_get_within (versions_in c.args.self.now) c.in_ok-favoured.favoured.0 (version_of c.args.version) c.in_ok-favoured.ensures.found;
}

pub returns-then-is_favoured-clause-fault : goal.returns-then-is_favoured-clause-fault
returns-then-is_favoured-clause-fault c = λ e.
    let t = c.args.self.now in
    let v = version_of c.args.version in
    let called = c.package_of-name.ensures v c.in_ok-favoured.ensures.found in
    let found = marked_at t.terms.names t.favoured v.name c.package_of-name.result.raw c.requires.table.sound.names called in
    favoured_twice t c.requires.table v (subst (λ (o : Option ℕ). is_some o ≡ true) (sym found) (sym c.is_favoured.ensures ∙ c.if-is_favoured.true))

pub returns-clause-placed : goal.returns-clause-placed
returns-clause-placed c =
    let t = c.args.self.now in
    let v = version_of c.args.version in
    let called = c.package_of-name.ensures v c.in_ok-favoured.ensures.found in
    let found = marked_at t.terms.names t.favoured v.name c.package_of-name.result.raw c.requires.table.sound.names called in
    favour_placed t c.requires.table v c.in_ok-favoured.favoured.0 c.in_ok-favoured.ensures.found (subst (λ (o : Option ℕ). is_some o ≡ false) (sym found) (sym c.is_favoured.ensures ∙ c.if-is_favoured.false))

pub returns-clause-ok : goal.returns-clause-ok
returns-clause-ok c =
    let t = c.args.self.now in
    let v = version_of c.args.version in
    let names = t.terms.names in
    let name = c.into_raw.result in
    let called = subst (λ (n : ℕ). slice_get names n ≡ Some v.name) (sym c.into_raw.ensures) (c.package_of-name.ensures v c.in_ok-favoured.ensures.found) in
    let found = marked_at names t.favoured v.name name c.requires.table.sound.names called in
    let absent = subst (λ (o : Option ℕ). is_some o ≡ false) (sym found) (ap (λ (n : ℕ). is_some (get nat_cmp t.favoured n)) c.into_raw.ensures ∙ sym c.is_favoured.ensures ∙ c.if-is_favoured.false) in
    let updated = updates_number name t.favoured c.insert.new.self _ c.in_ok-insert.ensures.updates.0 in
    favour t (record t { line_kinds = c.hold.new.self; favoured = c.insert.new.self; favours = c.push.new.self }) c.args.line c.in_ok-favoured.favoured v name c.requires.table c.requires.line
    c.in_ok-favoured.ensures.found called absent c.in_ok-hold.ensures updated c.in_ok-push.ensures.items
