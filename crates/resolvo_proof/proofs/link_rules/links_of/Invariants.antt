use Rattle.std.proofs.Common.{◌≡◌, ◌++◌, take, drop}
use Rattle.std.specs.HashMap.{get}
use Rattle.resolvo_proof.specs.Offered.{offered_by}
use Rattle.resolvo_proof.specs.Order.{rules_at}
use Rattle.resolvo_proof.specs.LinkRules.{last_instance, links_after, all_links}
use Rattle.resolvo_proof.proofs.link_rules.links_of.Given as goal

-- the links so far and those of the remaining rules are all links; the last version of each package
-- is recorded
abbrev pub invariant-loop-place : goal.invariant-loop-place
invariant-loop-place g l = record {
  links : l.links.items ++ links_after g.I.NameId.PartialEq.eq (g.I.Interner.name_of_solvable l.interner) (offered_by l.offers) (rules_at l.steps l.order) (rules_at l.steps (take l.place-index l.order)) (rules_at l.steps (drop l.place-index l.order))
      ≡ all_links g.I.NameId.PartialEq.eq (g.I.Interner.name_of_solvable l.interner) (offered_by l.offers) (rules_at l.steps l.order);
  recorded : (n : g.row.I-NameId.Denot) → get g.I.NameId.PartialEq.eq l.instances n ≡ last_instance g.I.NameId.PartialEq.eq (g.I.Interner.name_of_solvable l.interner) (rules_at l.steps (take l.place-index l.order)) n;
}
