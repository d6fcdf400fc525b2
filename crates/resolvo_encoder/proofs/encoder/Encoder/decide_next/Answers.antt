use Rattle.std.proofs.Common.{◌<◌, ◌∙◌, sym, subst, ap, refl, inr}
use Rattle.resolvo_store_core.specs.Lists.{named_by}
use Rattle.resolvo_decide.specs.Queue.{needs_of}
use Rattle.resolvo_sat.specs.PropagateAndLearn.{weight_left}
use Rattle.resolvo_sat.specs.RuleClauses.{IsExact}
use Rattle.resolvo_encoder.specs.Base.{KeepsFirst}
use Rattle.resolvo_encoder.specs.Progress.{AreQuiet}
use Rattle.resolvo_encoder.specs.declared.encoder.Encoder.{Encoder}
use Rattle.resolvo_encoder.proofs.DecideLemmas.{choice_taken, none_picked}
use Rattle.resolvo_encoder.proofs.BuildLemmas.{built_choice, built_rest}
use Rattle.resolvo_encoder.proofs.StayLemmas.{digits_kept, choice_goes, choice_keeps, choice_gains, goes_then, synced_goes, synced_keeps}
use Rattle.resolvo_encoder.proofs.Bases.{choice_first, first_same, first_then}
use Rattle.resolvo_encoder.proofs.encoder.Encoder.decide_next.Goals as goal

pub choose-requires-clause-in_range : goal.choose-requires-clause-in_range
choose-requires-clause-in_range g c =
    let next = c.in_ok-next_decision.ensures.next in
    (built_choice c.next_decision.new.self next.values (g.C.ScoreMap.score_of c.args.scores.now.map) c.in-Some.next c.in_ok-next_decision.ensures.built next.agree (next.picked ∙ c.in-Some.is)).1

pub choose-requires-clause-undecided : goal.choose-requires-clause-undecided
choose-requires-clause-undecided g c =
    let next = c.in_ok-next_decision.ensures.next in
    (built_choice c.next_decision.new.self next.values (g.C.ScoreMap.score_of c.args.scores.now.map) c.in-Some.next c.in_ok-next_decision.ensures.built next.agree (next.picked ∙ c.in-Some.is)).0

pub returns-in-None-clause-stays : goal.returns-in-None-clause-stays
returns-in-None-clause-stays g c = λ p root lawful e.
    let exact : IsExact g.S.PartialEq.eq = record { one = g.met.S.Exact.exact; own = g.met.S.Eq.laws.refl } in
    synced_keeps c.args.self.now c.next_decision.new.self c.in_ok-next_decision.ensures.syncs g.S.PartialEq.eq exact p root lawful e

pub returns-in-None-clause-goes_on : goal.returns-in-None-clause-goes_on
returns-in-None-clause-goes_on g c = synced_goes c.args.self.now c.next_decision.new.self c.in_ok-next_decision.ensures.syncs c.requires.built.coding

pub returns-in-None-clause-built : goal.returns-in-None-clause-built
returns-in-None-clause-built g c = c.in_ok-next_decision.ensures.built

pub returns-in-None-clause-first : goal.returns-in-None-clause-first
returns-in-None-clause-first g c = subst (λ (x : Encoder _ _). KeepsFirst c.args.self.now x) (sym c.in_ok-next_decision.ensures.syncs.rest) (first_same c.args.self.now)

pub returns-in-None-clause-chosen : goal.returns-in-None-clause-chosen
returns-in-None-clause-chosen g c =
    let next = c.in_ok-next_decision.ensures.next in
    record {
      quiet = subst (λ (x : Encoder _ _). AreQuiet x) (sym c.in_ok-next_decision.ensures.syncs.rest) c.requires.quiet;
      values = next.values;
      score = g.C.ScoreMap.score_of c.args.scores.now.map;
      agree = next.agree;
      decided = none_picked (named_by c.next_decision.new.self.lists) next.values (g.C.ScoreMap.score_of c.args.scores.now.map) (needs_of c.next_decision.new.self.queue) (next.picked ∙ c.in-None.is);
    }

pub returns-in_ok-choose-in-Some-clause-stays : goal.returns-in_ok-choose-in-Some-clause-stays
returns-in_ok-choose-in-Some-clause-stays g c = λ p root lawful e.
    let exact : IsExact g.S.PartialEq.eq = record { one = g.met.S.Exact.exact; own = g.met.S.Eq.laws.refl } in
    let next = c.in_ok-next_decision.ensures.next in
    let recorded = synced_keeps c.args.self.now c.next_decision.new.self c.in_ok-next_decision.ensures.syncs g.S.PartialEq.eq exact p root lawful e in
    let taken = choice_taken g.S.PartialEq.eq p root c.next_decision.new.self recorded next.values (g.C.ScoreMap.score_of c.args.scores.now.map) c.in-Some.next next.agree (next.picked ∙ c.in-Some.is) in
    choice_keeps c.next_decision.new.self c.choose.new.self g.S.PartialEq.eq exact p root lawful c.in-Some.next.candidate c.in-Some.next.clause_id c.in_ok-choose-in-Some.ensures.chosen c.in_ok-choose-in-Some.ensures.kept (inr taken) recorded

pub returns-in_ok-choose-in-Some-clause-goes_on : goal.returns-in_ok-choose-in-Some-clause-goes_on
returns-in_ok-choose-in-Some-clause-goes_on g c =
    goes_then c.args.self.now c.next_decision.new.self (record c.next_decision.new.self { coding = c.choose.new.self }) (synced_goes c.args.self.now c.next_decision.new.self c.in_ok-next_decision.ensures.syncs c.requires.built.coding)
    (choice_goes c.next_decision.new.self c.choose.new.self c.in-Some.next.candidate c.in-Some.next.clause_id c.in_ok-choose-in-Some.ensures.chosen c.in_ok-choose-in-Some.ensures.kept)

pub returns-in_ok-choose-in-Some-clause-chosen : goal.returns-in_ok-choose-in-Some-clause-chosen
returns-in_ok-choose-in-Some-clause-chosen g c =
    subst (λ (x : Encoder _ _). weight_left c.choose.new.self.search < weight_left x.coding.search) c.in_ok-next_decision.ensures.syncs.rest
    (choice_gains c.in-Some.next.candidate c.in-Some.next.clause_id c.next_decision.new.self.coding.search c.choose.new.self.search c.in_ok-choose-in-Some.ensures.chosen)

pub returns-in_ok-choose-in-Some-clause-built : goal.returns-in_ok-choose-in-Some-clause-built
returns-in_ok-choose-in-Some-clause-built g c =
    let recorded = c.next_decision.new.self in
    let new : Encoder _ _ = record recorded { coding = c.choose.new.self } in
    let built = c.in_ok-next_decision.ensures.built in
    let goes = choice_goes recorded c.choose.new.self c.in-Some.next.candidate c.in-Some.next.clause_id c.in_ok-choose-in-Some.ensures.chosen c.in_ok-choose-in-Some.ensures.kept in
    built_rest recorded new built goes.coding goes.grows (digits_kept recorded new built.coding goes) goes.rest refl c.in_ok-choose-in-Some.ensures.chosen.same.seen

pub returns-in_ok-choose-in-Some-clause-first : goal.returns-in_ok-choose-in-Some-clause-first
returns-in_ok-choose-in-Some-clause-first g c =
    let recorded = c.next_decision.new.self in
    first_then c.args.self.now recorded (record recorded { coding = c.choose.new.self }) (ap (λ (x : Encoder _ _). x.coding.search.base_level) c.in_ok-next_decision.ensures.syncs.rest)
    (subst (λ (x : Encoder _ _). KeepsFirst c.args.self.now x) (sym c.in_ok-next_decision.ensures.syncs.rest) (first_same c.args.self.now)) (choice_first recorded c.choose.new.self _ _ c.in_ok-choose-in-Some.ensures.chosen)
