use Rattle.std.proofs.Common.{◌≡◌, Bool, Some, not, subst}
use Rattle.std.specs.Prelude.{IfOk}
use Rattle.resolvo_catalogue_core.proofs.CatalogueFacts.{ok_map}
use Rattle.resolvo_catalogue_core.proofs.PackageLemmas.{added_present, present_added, sought_present}
use Rattle.resolvo_catalogue_core.proofs.package_table.add_to.Goals as goal

pub returns-clause-new : goal.returns-clause-new
returns-clause-new c = subst (λ (b : Bool). IfOk c.add.result (λ added. added ≡ not b)) (sought_present c.args.place.now c.args.number) c.add.ensures.new

pub returns-clause-put : goal.returns-clause-put
returns-clause-put c =
    ok_map c.add.result c.add.ensures.put (λ new added is.
    let a = added is in
    let q = c.add.new.self in
    (q, present_added (Some c.args.place.now) c.args.number c.args.version q a, added_present c.args.place.now c.args.number c.args.version q a))
