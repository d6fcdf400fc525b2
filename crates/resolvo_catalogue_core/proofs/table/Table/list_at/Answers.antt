use Rattle.std.proofs.Common.{◌≡◌, ◌≤◌, ◌∙◌, ◌∷◌, [], Option, true, false, get_or, is_some, length, ◌+◌, ap, sym, subst, arith}
use Rattle.std.proofs.lemmas.List.{length-append}
use Rattle.std.proofs.lemmas.Option.{slice_get-get_or}
use Rattle.resolvo_catalogue_core.specs.Listed.{version_by, kept_versions, are_kept}
use Rattle.resolvo_catalogue_core.specs.Table.{number_in, versions_in}
use Rattle.resolvo_catalogue_core.specs.declared.rule.VersionNo.{VersionNo}
use Rattle.resolvo_catalogue_core.specs.declared.versions.KeptVersion.{KeptVersion}
use Rattle.resolvo_catalogue_core.specs.declared.package.Package.{Package}
use Rattle.resolvo_catalogue_core.proofs.PackageLemmas.{named_at, adds_by}
use Rattle.resolvo_catalogue_core.proofs.TableSteps.{list, empty_more, was_there, was_new}
use Rattle.resolvo_catalogue_core.proofs.VersionLemmas.{adds, as_many, kept_push}
use Rattle.resolvo_catalogue_core.proofs.PlaceLemmas.{versions_few, listed_by_number, unlisted_by_number}
use Rattle.resolvo_catalogue_core.proofs.table.Table.list_at.Goals as goal

pub add-requires : goal.add-requires
add-requires c = λ p is.
    let t = c.args.self.now in
    let id = c.args.id.raw in
    let name = get_or t.terms.names id [] in
    let same = named_at t.terms.names t.packages name id c.requires.table.sound.names (slice_get-get_or t.terms.names id [] c.requires.named) in
    (c.requires.table.packages name).kept p (sym same ∙ is)

pub overflow_cast-version : goal.overflow_cast-version
overflow_cast-version c =
    let t = c.args.self.now in
    omega (arith, as_many t.terms.names t.versions.items, versions_few t c.requires.table, c.requires.short, c.len.ensures)

pub returns-then-not-branch-clause-fault : goal.returns-then-not-branch-clause-fault
returns-then-not-branch-clause-fault c = λ e may.
    let t = c.args.self.now in
    let id = c.args.id.raw in
    let name = get_or t.terms.names id [] in
    let same = named_at t.terms.names t.packages name id c.requires.table.sound.names (slice_get-get_or t.terms.names id [] c.requires.named) in
    let there = was_there c.in_ok-add.field-0 _ c.in_ok-add.ensures.new c.if-not-branch.true in
    may (listed_by_number t c.requires.table (version_by name c.args.number) (subst (λ (o : Option Package). is_some (number_in o c.args.number) ≡ true) same there))

pub returns-clause-placed : goal.returns-clause-placed
returns-clause-placed c =
    let t = c.args.self.now in
    let id = c.args.id.raw in
    let name = get_or t.terms.names id [] in
    let same = named_at t.terms.names t.packages name id c.requires.table.sound.names (slice_get-get_or t.terms.names id [] c.requires.named) in
    let new = was_new c.in_ok-add.field-0 _ c.in_ok-add.ensures.new c.if-not-branch.false in
    unlisted_by_number t c.requires.table (version_by name c.args.number) (subst (λ (o : Option Package). is_some (number_in o c.args.number) ≡ false) same new)

pub returns-clause-ok : goal.returns-clause-ok
returns-clause-ok c =
    let t = c.args.self.now in
    let names = t.terms.names in
    let id = c.args.id.raw in
    let name = get_or names id [] in
    let named = slice_get-get_or names id [] c.requires.named in
    let version : VersionNo = record { 0 = c.len.result } in
    let v = version_by name c.args.number in
    let kept_one : KeptVersion = record { «package» = c.args.id; number = c.args.number } in
    let u = record t { versions = c.push.new.self; line_kinds = c.hold.new.self; packages = c.add.new.self; owned = c.add_version.new.self } in
    let same = named_at names t.packages name id c.requires.table.sound.names named in
    let added = c.if-not-branch.false in
    let new = subst (λ (o : Option Package). is_some (number_in o c.args.number) ≡ false) same (was_new c.in_ok-add.field-0 _ c.in_ok-add.ensures.new added) in
    let unlisted = unlisted_by_number t c.requires.table v new in
    let more = adds_by names t.packages c.add.new.self id v version c.requires.table.sound.names named (c.in_ok-add.ensures.put added) in
    let places : length c.add.new.self.places.items ≤ length names = c.in_ok-add.ensures.few (length names) c.requires.table.places c.requires.named in
    let versions = ap (kept_versions names) c.in_ok-push.ensures.items ∙ adds names t.versions.items kept_one in
    let kept = subst (λ vs. are_kept (length names) vs ≡ true) (sym c.in_ok-push.ensures.items) (kept_push (length names) t.versions.items kept_one c.requires.table.named c.requires.named) in
    let owned = empty_more t.owned c.add_version.new.self c.in_ok-add_version.ensures in
    let number : c.len.result ≡ length (versions_in t) = omega (arith, as_many names t.versions.items, c.len.ensures) in
    let owned_count : length c.add_version.new.self ≡ length t.owned + 1 = omega (arith, ap (λ xs. length xs) c.in_ok-add_version.ensures, length-append t.owned ([] ∷ [])) in
    list t u version v c.requires.table number unlisted more places versions kept c.in_ok-hold.ensures owned owned_count
