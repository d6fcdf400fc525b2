use Rattle.std.proofs.Common.{◌≡◌, ◌∙◌, ◌++◌, ◌∷◌, [], ℕ, Bool, List, ap, sym, subst}
use Rattle.std.proofs.lemmas.Bool.{both_ways}
use Rattle.resolvo_pool_core.specs.Ordered.{Ordered}
use Rattle.resolvo_encoder.specs.FiredCases.{AreFlagged}
use Rattle.resolvo_encoder.proofs.FlagLemmas.{flags_more, insert_there, insert_new}
use Rattle.resolvo_encoder.proofs.fired_cases.FiredCases.insert.Goals as goal

pub returns-then-contains-clause-added : goal.returns-then-contains-clause-added
returns-then-contains-clause-added c = insert_there c.args.self.now.keys c.args.place (c.contains.ensures.0 c.if-contains.true)

pub invariant_of-self : goal.invariant_of-self
invariant_of-self c =
    subst (λ (bs : List Bool). AreFlagged bs c.put.new.places.items) (sym c.in_err-put.ensures.err_flags)
    (subst (λ (xs : List ℕ). AreFlagged c.self.inside.flags.items xs) (sym c.in_err-put.ensures.err_places) c.self.invariant)

pub invariant_of-self-2 : goal.invariant_of-self-2
invariant_of-self-2 c =
    subst (λ (xs : List ℕ). AreFlagged c.put.new.flags.items xs) (sym c.in_ok-put.ensures.places)
    (flags_more c.self.inside.flags.items c.put.new.flags.items c.self.inside.places.items c.args.place c.in_ok-put.ensures.flags c.self.invariant)

pub returns-clause-added : goal.returns-clause-added
returns-clause-added c =
    let keys : c.self.inside.places.items ≡ c.args.self.now.keys = ap (λ (o : Ordered ℕ). o.keys) c.self.view_is in
    c.in_ok-put.ensures.places ∙ (ap (λ (xs : List ℕ). xs ++ c.args.place ∷ []) keys ∙ insert_new c.args.self.now.keys c.args.place (λ h. both_ways _ c.if-contains.false (c.contains.ensures.1 h)))
