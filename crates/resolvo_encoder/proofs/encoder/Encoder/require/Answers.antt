use Rattle.std.proofs.Common.{ap}
use Rattle.resolvo_sat.specs.RuleClauses.{IsExact}
use Rattle.resolvo_store_core.specs.declared.lists.FixedLists.{FixedLists}
use Rattle.resolvo_encoder.proofs.EnrollLemmas.{fixes_keep, fixes_add, fixes_extend, built_fixes}
use Rattle.resolvo_encoder.proofs.RequireLemmas.{extends_then}
use Rattle.resolvo_encoder.proofs.encoder.Encoder.require.Goals as goal

pub require_again-requires : goal.require_again-requires
require_again-requires g c = built_fixes g.S.PartialEq.eq c.args.need.requirement c.args.offered.now c.args.self.now c.fix_candidates.new.self c.requires c.in_ok-fix_candidates.ensures.fixed

pub returns-clause-encoded : goal.returns-clause-encoded
returns-clause-encoded g c = λ p root lawful e offered prepared needs.
    let exact : IsExact g.S.PartialEq.eq = record { one = g.met.S.Exact.exact; own = g.met.S.Eq.laws.refl } in
    let fixes = c.in_ok-fix_candidates.ensures.fixed in
    let (fixed, has) = fixes_keep g.S.PartialEq.eq exact p root lawful c.args.need.requirement c.args.offered.now c.args.self.now c.fix_candidates.new.self e offered prepared fixes in
    c.in_ok-require_again.ensures.encoded p root lawful fixed has needs

pub returns-clause-candidates : goal.returns-clause-candidates
returns-clause-candidates g c =
    fixes_add g.S.PartialEq.eq c.args.need.requirement c.args.offered.now c.args.self.now c.fix_candidates.new.self c.require_again.new.self c.in_ok-fix_candidates.ensures.fixed c.in_ok-require_again.ensures.kept.grows (ap (λ (ls : FixedLists _). ls.candidates) c.in_ok-require_again.ensures.lists)

pub returns-clause-kept : goal.returns-clause-kept
returns-clause-kept g c =
    extends_then c.args.self.now c.fix_candidates.new.self c.require_again.new.self (fixes_extend g.S.PartialEq.eq c.args.need.requirement c.args.offered.now c.args.self.now c.fix_candidates.new.self c.in_ok-fix_candidates.ensures.fixed) c.in_ok-require_again.ensures.kept
