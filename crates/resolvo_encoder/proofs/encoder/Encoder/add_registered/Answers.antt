use Rattle.std.proofs.Common.{List, ◌∷◌, [], subst}
use Rattle.resolvo_packages.specs.declared.package_source.Offered.{Offered}
use Rattle.resolvo_encoder.specs.AtLeastOneClauses.{AddsAtLeastOne}
use Rattle.resolvo_encoder.proofs.encoder.Encoder.add_registered.Goals as goal

pub returns-in-Some-clause-added : goal.returns-in-Some-clause-added
returns-in-Some-clause-added g c = record { list = c.in-Some.one ∷ []; those = c.in-Some.ensures; adds = c.in_ok-add_at_least_one.ensures.added }

pub returns-clause-added : goal.returns-clause-added
returns-clause-added g c = record {
  list = c.in_ok-registered.registered.items;
  those = c.in_ok-registered.ensures.those;
  adds = subst (λ (xs : List (Offered _ _)). AddsAtLeastOne g.S.PartialEq.eq xs c.args.self.now c.add_at_least_ones.new.self) c.as_slice.ensures.value c.in_ok-add_at_least_ones.ensures.added;
}
