use Rattle.std.proofs.Common.{◌∷◌, [], ap, refl}
use Rattle.resolvo_store_core.specs.Signed.{Signed}
use Rattle.resolvo_store_core.specs.Clauses.{no}
use Rattle.resolvo_sat.specs.State.{count_of}
use Rattle.resolvo_encoder.specs.ClauseRules.{IsPair}
use Rattle.resolvo_encoder.proofs.EncodesLemmas.{pair_in_range, pair_long}
use Rattle.resolvo_encoder.proofs.encoder.Encoder.encode_pair.Goals as goal

pub add_clause-requires-clause-some : goal.add_clause-requires-clause-some
add_clause-requires-clause-some g c =
    let pair : IsPair (no c.args.first) c.args.second c.distinct.result.now = c.distinct.ensures (no c.args.first) c.args.second (ap (λ (x : Signed). x ∷ c.args.second ∷ []) c.new.ensures) in
    pair_long (no c.args.first) c.args.second c.distinct.result.now pair

pub add_clause-requires-clause-in_range : goal.add_clause-requires-clause-in_range
add_clause-requires-clause-in_range g c =
    let pair : IsPair (no c.args.first) c.args.second c.distinct.result.now = c.distinct.ensures (no c.args.first) c.args.second (ap (λ (x : Signed). x ∷ c.args.second ∷ []) c.new.ensures) in
    pair_in_range (count_of c.args.self.now.coding.search) (no c.args.first) c.args.second c.distinct.result.now pair c.requires.first c.requires.second

pub returns-clause-kind : goal.returns-clause-kind
returns-clause-kind g c = record {
  number = c.in_ok-add_clause.field-0;
  literals = c.distinct.result.now;
  pair = c.distinct.ensures (no c.args.first) c.args.second (ap (λ (x : Signed). x ∷ c.args.second ∷ []) c.new.ensures);
  states = c.in_ok-add_clause.ensures.added_rule;
  rest = record { registry = refl; lists = refl; queue = refl; gates = refl; recorded = refl; parents = refl; encoded = refl; deferred = refl; fired = refl };
  same_queue = refl;
}
