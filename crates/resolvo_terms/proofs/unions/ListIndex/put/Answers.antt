use Rattle.std.proofs.Common.{◌∙◌, sym, Some, subst, List, ℕ}
use Rattle.std.specs.BTreeMap.{UpdatesBy}
use Rattle.std.specs.Ordering.{nat_cmp}
use Rattle.std.specs.Cmp.Lexicographic.{slice_cmp}
use Rattle.resolvo_terms.specs.Lists.{list_eq, list_hash, map_number, set_numbers}
use Rattle.resolvo_terms.proofs.FoundLemmas.{list_number_put}
use Rattle.resolvo_terms.proofs.IndexLemmas.{put_placed, put_mapped}
use Rattle.resolvo_terms.proofs.unions.ListIndex.put.Goals as goal

pub returns-then-placed-clause-put : goal.returns-then-placed-clause-put
returns-then-placed-clause-put c =
    put_placed list_eq c.args.list.now (list_hash c.args.list.now) c.args.hash c.args.number c.requires.hash c.args.self.now.slots.numbers.items c.put-placed.new.self.numbers.items (map_number c.args.self.now.others.entries) c.put-placed.ensures.slots (sym c.if-placed.true ∙ c.put-placed.ensures.put)

pub returns-clause-put : goal.returns-clause-put
returns-clause-put c =
    let set = subst (λ (t : List ℕ). UpdatesBy (λ x y. slice_cmp nat_cmp x.items y.items) (λ k. slice_cmp nat_cmp t k.items) c.args.self.now.others c.insert.new.self (Some c.args.number)) c.in_ok-key_of_list.ensures c.in_ok-insert.ensures.updates in
    put_mapped list_eq c.args.list.now (list_hash c.args.list.now) c.args.hash c.args.number c.requires.hash c.args.self.now.slots.numbers.items c.put-placed.new.self.numbers.items (map_number c.args.self.now.others.entries) c.put-placed.ensures.slots
    (map_number c.insert.new.self.entries) (sym c.if-placed.false ∙ c.put-placed.ensures.put) (λ w. list_number_put c.args.self.now.others c.insert.new.self (set_numbers c.args.list.now) (Some c.args.number) set (set_numbers w))
