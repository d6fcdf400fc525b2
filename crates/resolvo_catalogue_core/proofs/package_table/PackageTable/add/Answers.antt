use Rattle.std.proofs.Common.{◌≡◌, ◌∙◌, ◌<◌, ℕ, Option, length, not, is_some, ap, subst, arith}
use Rattle.std.specs.Prelude.{IfOk}
use Rattle.resolvo_terms.proofs.Places.{set_length}
use Rattle.resolvo_catalogue_core.specs.Numbered.{present}
use Rattle.resolvo_catalogue_core.specs.Packages.{package_at}
use Rattle.resolvo_catalogue_core.specs.Table.{number_in, AddsNumber}
use Rattle.resolvo_catalogue_core.specs.declared.package.Package.{Package}
use Rattle.resolvo_catalogue_core.proofs.CatalogueFacts.{ok_map}
use Rattle.resolvo_catalogue_core.proofs.PackageLemmas.{numbered_place, puts, read_at}
use Rattle.resolvo_catalogue_core.proofs.package_table.PackageTable.add.Goals as goal

pub index_mut-requires : goal.index_mut-requires
index_mut-requires c = omega (arith, c.in_ok-lengthen.ensures.long)

pub add_to-requires : goal.add_to-requires
add_to-requires c =
    let mid = c.lengthen.new.places.items in
    let old = c.args.self.now.places.items in
    let at = c.to_index-at.result in
    let read = read_at mid at c.index_mut.result.now (omega (arith, c.in_ok-lengthen.ensures.long)) c.index_mut.ensures.value in
    numbered_place c.index_mut.result.now (package_at old c.args.name.raw) (read ∙ c.in_ok-lengthen.ensures.same at ∙ ap (λ (n : ℕ). package_at old n) c.to_index-at.ensures.index) c.requires

pub returns-clause-new : goal.returns-clause-new
returns-clause-new c =
    let mid = c.lengthen.new.places.items in
    let at = c.to_index-at.result in
    let read = read_at mid at c.index_mut.result.now (omega (arith, c.in_ok-lengthen.ensures.long)) c.index_mut.ensures.value in
    let was : present c.index_mut.result.now ≡ package_at c.args.self.now.places.items c.args.name.raw = read ∙ c.in_ok-lengthen.ensures.same at ∙ ap (λ (n : ℕ). package_at c.args.self.now.places.items n) c.to_index-at.ensures.index in
    subst (λ (o : Option Package). IfOk c.add_to.result (λ added. added ≡ not (is_some (number_in o c.args.number)))) was c.add_to.ensures.new

pub returns-clause-put : goal.returns-clause-put
returns-clause-put c =
    let old = c.args.self.now.places.items in
    let mid = c.lengthen.new.places.items in
    let at = c.to_index-at.result in
    let within : at < length mid = omega (arith, c.in_ok-lengthen.ensures.long) in
    let was : present c.index_mut.result.now ≡ package_at old at = read_at mid at c.index_mut.result.now within c.index_mut.ensures.value ∙ c.in_ok-lengthen.ensures.same at in
    rw (← c.to_index-at.ensures.index)
    (ok_map c.add_to.result c.add_to.ensures.put (λ new added is.
    let a = added is in
    puts old mid at c.args.number c.args.version c.add_to.new.place c.in_ok-lengthen.ensures.same within
    (a.0, a.1, subst (λ (o : Option Package). AddsNumber o c.args.number c.args.version a.0) was a.2)))

pub returns-clause-few : goal.returns-clause-few
returns-clause-few c = λ bound short below.
    let few = c.in_ok-lengthen.ensures.few bound short (omega (arith, below, c.to_index-at.ensures.index)) in
    omega (arith, few, set_length c.lengthen.new.places.items c.to_index-at.result c.add_to.new.place)
