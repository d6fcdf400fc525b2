use Rattle.std.proofs.Common.{◌≡◌, ◌==◌, ℕ, List, refl, sym, ◌∙◌, ap, subst, eqb-true, length, arith}
use Rattle.std.specs.Prelude.{Contains}
use Rattle.indexmap.specs.IndexSet.{insert_key}
use Rattle.resolvo_store_core.specs.AtMostOne.{IsPrefixOf}
use Rattle.resolvo_sat.specs.RuleClauses.{IsExact}
use Rattle.resolvo_encoder.proofs.FireLemmas.{fire_keeps}
use Rattle.resolvo_encoder.proofs.Parents.{prefix_insert, inserted, inserted_long, inserted_only}
use Rattle.resolvo_encoder.proofs.encoder.Encoder.end_case.Goals as goal

pub returns-clause-fired : goal.returns-clause-fired
returns-clause-fired g c =
    let keys = c.args.self.now.fired.keys in
    let added : c.insert.new.self.keys ≡ insert_key (λ m n. m == n) keys c.args.index = c.in_ok-insert.ensures.added in
    let count : c.len-count.result ≡ length c.insert.new.self.keys = c.len-count.ensures.len in
    let small = c.len-count.ensures.small in
    record {
      fired = subst (λ (xs : List ℕ). Contains xs c.args.index) (sym added) (inserted (λ m n. m == n) keys c.args.index (λ y e. sym (eqb-true c.args.index y e)));
      prefix = subst (λ (xs : List ℕ). IsPrefixOf keys xs) (sym added) (prefix_insert (λ m n. m == n) keys c.args.index);
      fresh = λ none. ap length added ∙ inserted_long (λ m n. m == n) keys c.args.index (λ y e. sym (eqb-true c.args.index y e)) none;
      small = omega (arith, count, small);
      rest = refl;
    }

pub returns-clause-encoding : goal.returns-clause-encoding
returns-clause-encoding g c = λ p root e encoded.
    let exact : IsExact g.S.PartialEq.eq = record { one = g.met.S.Exact.exact; own = g.met.S.Eq.laws.refl } in
    let keys = c.args.self.now.fired.keys in
    fire_keeps g.S.PartialEq.eq exact p root c.args.self.now _ c.args.index e c.requires (λ i h. inserted_only (λ m n. m == n) keys c.args.index i (subst (λ (xs : List ℕ). Contains xs i) c.in_ok-insert.ensures.added h)) encoded refl
