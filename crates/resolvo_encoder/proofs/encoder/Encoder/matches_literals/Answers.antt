use Rattle.std.proofs.Common.{[], ◌∷◌, ◌++◌, ◌∙◌, List, ap, subst}
use Rattle.resolvo_store_core.specs.Signed.{Signed}
use Rattle.resolvo_packages.specs.declared.package_source.Offered.{Offered}
use Rattle.resolvo_sat.specs.RuleClauses.{IsExact}
use Rattle.resolvo_encoder.specs.AtLeastOneClauses.{HoldsMatches}
use Rattle.resolvo_encoder.proofs.MatchLemmas.{marked_literals}
use Rattle.resolvo_state.specs.declared.atom.ProofAtom.TheVariants.{Matches}
use Rattle.resolvo_encoder.proofs.RangeLemmas.{atom_small}
use Rattle.resolvo_encoder.proofs.encoder.Encoder.matches_literals.Goals as goal

pub returns-clause-literals : goal.returns-clause-literals
returns-clause-literals g c =
    let exact : IsExact g.S.PartialEq.eq = record { one = g.met.S.Exact.exact; own = g.met.S.Eq.laws.refl } in
    marked_literals g.S.PartialEq.eq exact c.args.set.now c.in_ok-matches.matches _ c.args.self.now c.hold_matches.new.self c.give.new.self c.requires.many
    (subst (λ (xs : List (Offered _ _)). HoldsMatches g.S.PartialEq.eq c.args.set.now.version_set xs c.args.self.now c.hold_matches.new.self) c.as_slice.ensures.value c.in_ok-hold_matches.ensures.held)
    c.in_ok-matches.ensures.encodes c.in_ok-matches.ensures.present
    (c.in_ok-push.ensures.items ∙ ap (λ (xs : List Signed). xs ++ c.new.result ∷ []) c.new-literals.ensures.items ∙ ap (λ (l : Signed). l ∷ []) c.new.ensures)

pub new-requires : goal.new-requires
new-requires g c = atom_small c.give.new.self c.in_ok-matches.ensures.encodes.built c.in_ok-matches.matches (Matches c.args.set.now.version_set) c.in_ok-matches.ensures.present
