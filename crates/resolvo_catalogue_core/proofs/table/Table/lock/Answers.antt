use Rattle.std.proofs.Common.{◌≡◌, ◌∙◌, Option, Some, ℕ, is_some, true, false, ap, sym, subst}
use Rattle.std.specs.Prelude.{slice_get}
use Rattle.std.specs.BTreeMap.{get}
use Rattle.std.specs.Ordering.{nat_cmp}
use Rattle.std.proofs.lemmas.Option.{slice_get_within}
use Rattle.resolvo_text.specs.View.{version_of}
use Rattle.resolvo_catalogue_core.specs.Table.{versions_in}
use Rattle.resolvo_catalogue_core.proofs.NameMarks.{marked_at}
use Rattle.resolvo_catalogue_core.proofs.Sorted.{updates_number}
use Rattle.resolvo_catalogue_core.proofs.TableSteps.{lock}
use Rattle.resolvo_catalogue_core.proofs.PlaceLemmas.{lock_placed, locked_twice}
use Rattle.resolvo_catalogue_core.proofs.table.Table.lock.Goals as goal

pub package_of-name-requires : goal.package_of-name-requires
package_of-name-requires c = record {
  table = c.requires.table;
  listed = slice_get_within (versions_in c.args.self.now) c.in_ok-locked.locked.0 (version_of c.args.version) c.in_ok-locked.ensures.found;
}

pub returns-then-is_locked-clause-fault : goal.returns-then-is_locked-clause-fault
returns-then-is_locked-clause-fault c = λ e.
    let t = c.args.self.now in
    let v = version_of c.args.version in
    let called = c.package_of-name.ensures v c.in_ok-locked.ensures.found in
    let found = marked_at t.terms.names t.locks v.name c.package_of-name.result.raw c.requires.table.sound.names called in
    locked_twice t c.requires.table v (subst (λ (o : Option ℕ). is_some o ≡ true) (sym found) (sym c.is_locked.ensures ∙ c.if-is_locked.true))

pub returns-clause-placed : goal.returns-clause-placed
returns-clause-placed c =
    let t = c.args.self.now in
    let v = version_of c.args.version in
    let called = c.package_of-name.ensures v c.in_ok-locked.ensures.found in
    let found = marked_at t.terms.names t.locks v.name c.package_of-name.result.raw c.requires.table.sound.names called in
    lock_placed t c.requires.table v c.in_ok-locked.locked.0 c.in_ok-locked.ensures.found (subst (λ (o : Option ℕ). is_some o ≡ false) (sym found) (sym c.is_locked.ensures ∙ c.if-is_locked.false))

pub returns-clause-ok : goal.returns-clause-ok
returns-clause-ok c =
    let t = c.args.self.now in
    let v = version_of c.args.version in
    let names = t.terms.names in
    let name = c.into_raw.result in
    let called = subst (λ (n : ℕ). slice_get names n ≡ Some v.name) (sym c.into_raw.ensures) (c.package_of-name.ensures v c.in_ok-locked.ensures.found) in
    let found = marked_at names t.locks v.name name c.requires.table.sound.names called in
    let absent = subst (λ (o : Option ℕ). is_some o ≡ false) (sym found) (ap (λ (n : ℕ). is_some (get nat_cmp t.locks n)) c.into_raw.ensures ∙ sym c.is_locked.ensures ∙ c.if-is_locked.false) in
    let updated = updates_number name t.locks c.insert.new.self _ c.in_ok-insert.ensures.updates.0 in
    lock t (record t { line_kinds = c.push_long.new.self; locks = c.insert.new.self }) c.args.line c.in_ok-locked.locked v name c.requires.table c.requires.line
    c.in_ok-locked.ensures.found called absent c.in_ok-push_long.ensures updated
