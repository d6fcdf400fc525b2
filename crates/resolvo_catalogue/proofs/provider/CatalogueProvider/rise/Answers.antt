use Rattle.std.proofs.Common.{◌≡◌, ◌∙◌, ap, get_or}
use Rattle.resolvo_catalogue.specs.Ids.{SolvableId, solvable_id}
use Rattle.resolvo_catalogue.specs.Known.{solvable_at}
use Rattle.resolvo_catalogue.specs.Provider.{Provider}
use Rattle.resolvo_catalogue.proofs.RiseLemmas.{rises_none, rises_more, rises_all}
use Rattle.resolvo_catalogue.proofs.provider.CatalogueProvider.rise.Goals as goal

pub loop-solvable-init : goal.loop-solvable-init
loop-solvable-init c = rises_none 4294967295 (λ s. (solvable_at c.args.self.now.ids s).version) 0

pub loop-solvable-preserved : goal.loop-solvable-preserved
loop-solvable-preserved c =
    let number = λ (p : Provider) (s : SolvableId). (solvable_at p.ids s).version in
    let xs = c.args.solvables.now in
    let i = c.loop-solvable.solvable-index in
    let d : SolvableId = solvable_id 0 in
    let is : c.from-number.result ≡ number c.args.self.now (get_or xs i d) = c.from-number.ensures ∙ (c.number_of.ensures ∙ ap (λ (p : Provider). number p (get_or xs i d)) c.self.view_is) in
    rises_more 4294967295 (number c.args.self.now) xs i d c.loop-solvable.least c.from-number.result c.loop-solvable-test.true is c.if-number-least.false c.loop-solvable.invariant

pub returns : goal.returns
returns c = λ yes. rises_all 4294967295 (λ s. (solvable_at c.args.self.now.ids s).version) c.args.solvables.now c.loop-solvable.solvable-index c.loop-solvable.least c.loop-solvable-test.false c.loop-solvable.invariant
