use Rattle.std.proofs.Common.{[], ◌∷◌, None}
use Rattle.resolvo_pool_core.specs.declared.requirement.Requirement.TheVariants.{Single}
use Rattle.resolvo_pool_core.specs.declared.requirement.ConditionalRequirement.{ConditionalRequirement}
use Rattle.resolvo_terms.proofs.KnownLemmas.{need_known}
use Rattle.resolvo_catalogue_core.proofs.TableSteps.{need}
use Rattle.resolvo_catalogue_core.proofs.table.Table.add_plain_need.Goals as goal

pub returns-clause-ok : goal.returns-clause-ok
returns-clause-ok c =
    let t = c.args.self.now in
    let owner = c.in_ok-owner.ensures.found in
    let given : ConditionalRequirement = record { condition = None; requirement = Single c.args.spec } in
    λ s is. need t (record t { line_kinds = c.hold.new.self; owned = c.add_line.new.self }) c.args.line c.in_ok-owner.owner owner.0 given (s ∷ [], None) c.requires.table (need_known t.terms c.requires.table.sound.below given (s ∷ [], None) ((is, tt), tt)) ((is, tt), tt) c.requires.line
    owner.1 owner.2 c.in_ok-hold.ensures c.in_ok-add_line.ensures.added c.in_ok-add_line.ensures.same
