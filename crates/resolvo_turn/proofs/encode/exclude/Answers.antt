use Rattle.std.proofs.Common.{inl, inr, refl, sym, subst}
use Rattle.resolvo_sat.specs.RuleClauses.{Rule, ForbidReason, IsForbidden}
use Rattle.resolvo_sat.proofs.Lists.{contains_only}
use Rattle.resolvo_encoder.specs.Encoded.{rules_of}
use Rattle.resolvo_turn.proofs.AddLemmas.{needs_none, extends_needs, excluded_rule}
use Rattle.resolvo_turn.proofs.TaskLemmas.{excluded_stays}
use Rattle.resolvo_turn.proofs.encode.exclude.Goals as goal

pub returns-then-is_excluded-clause-excludes : goal.returns-then-is_excluded-clause-excludes
returns-then-is_excluded-clause-excludes g c = record {
  lists = refl;
  stays = λ p root lawful asked e. e;
  excluded = λ p root lawful asked e before. (before, before c.args.solvable (c.is_excluded.ensures.0 c.if-is_excluded.true));
}

pub returns-then-is_excluded-clause-kept : goal.returns-then-is_excluded-clause-kept
returns-then-is_excluded-clause-kept g c = needs_none c.args.encoding.now

pub returns-clause-excludes : goal.returns-clause-excludes
returns-clause-excludes g c =
    let same = g.S.PartialEq.eq in
    let old = c.args.encoding.now in
    let new = c.exclude.new.self in
    let f = c.in_ok-exclude.ensures.encodes in
    record {
      lists = f.lists;
      stays = λ p root lawful asked e. (f.encoding p root lawful e (excluded_rule same p root c.args.solvable c.args.reason asked)).0;
      excluded = λ p root lawful asked e before.
          let (last, encoded) = f.encoding p root lawful e (excluded_rule same p root c.args.solvable c.args.reason asked) in
          let rule : Rule _ _ = Rule.forbids (ForbidReason.word c.args.reason) c.args.solvable in
          let one : IsForbidden (rules_of new) c.args.solvable = (ForbidReason.word c.args.reason, encoded rule (contains_only rule)) in (
            λ s h. elim (c.in_ok-add_key.ensures.only s h) [
              | inl a ↦ excluded_stays c.args.excluded.now.keys old new f.extends.grows before s a
              | inr is ↦ subst (λ x. IsForbidden (rules_of new) x) (sym is) one
            ],
            one,
          );
    }

pub returns-clause-kept : goal.returns-clause-kept
returns-clause-kept g c = extends_needs c.args.encoding.now c.exclude.new.self c.in_ok-exclude.ensures.encodes.extends
