use Rattle.std.proofs.Common.{Some, subst, List, ℕ}
use Rattle.std.specs.BTreeMap.{UpdatesBy}
use Rattle.std.specs.Ordering.{nat_cmp}
use Rattle.std.specs.Cmp.Lexicographic.{slice_cmp}
use Rattle.resolvo_terms.proofs.FoundLemmas.{list_number_put}
use Rattle.resolvo_terms.proofs.text_ids.TextIndex.put_other.Goals as goal

pub returns-clause-put : goal.returns-clause-put
returns-clause-put c =
    let set = subst (λ (t : List ℕ). UpdatesBy (λ x y. slice_cmp nat_cmp x.items y.items) (λ k. slice_cmp nat_cmp t k.items) c.args.self.now.others c.insert.new.self (Some c.args.number)) c.in_ok-from_slice.ensures.items c.in_ok-insert.ensures.updates in
    list_number_put c.args.self.now.others c.insert.new.self c.args.text.now (Some c.args.number) set
