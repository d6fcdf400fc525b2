use Rattle.std.proofs.Common.{List, refl, sym, subst, inr, rules}
use Rattle.resolvo_store_core.specs.Lists.{FixesCandidates}
use Rattle.resolvo_store_core.specs.declared.lists.Candidate.{Candidate}
use Rattle.resolvo_encoder.specs.Steps.{LacksNumberFor}
use Rattle.resolvo_encoder.proofs.RequireLemmas.{where_none}
use Rattle.resolvo_encoder.proofs.encoder.Encoder.fix_candidates.Goals as goal

pub returns-clause-fixed : goal.returns-clause-fixed
returns-clause-fixed g c =
    let fixes = subst (λ (cs : List (Candidate _)). FixesCandidates c.args.requirement cs c.register.new.self.lists c.fix_candidates.new.self) c.as_slice.ensures.value c.in_ok-fix_candidates.ensures.fixed in
    record {
      fixed = inr (where_none c.candidates.result _ _ c.candidates.ensures (sym c.if-is_some.ensures), c.register.new.self, c.in_ok-candidates.candidates.items, c.in_ok-candidates.ensures.enrolled, fixes, refl);
    }

pub returns-in_err-candidates-clause-ids : goal.returns-in_err-candidates-clause-ids
returns-in_err-candidates-clause-ids g c = search (rules, LacksNumberFor.coding)

pub returns-in_err-fix_candidates-clause-ids : goal.returns-in_err-fix_candidates-clause-ids
returns-in_err-fix_candidates-clause-ids g c = search (rules, LacksNumberFor.requirement)
