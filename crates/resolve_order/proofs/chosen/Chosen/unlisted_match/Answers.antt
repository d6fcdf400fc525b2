use Rattle.std.proofs.Common.{◌∙◌, sym, subst}
use Rattle.resolve_order.specs.Kept.{IsUnlistedMatch}
use Rattle.resolve_order.proofs.PickLemmas.{still_unlisted}
use Rattle.resolve_order.proofs.chosen.Chosen.unlisted_match.Goals as goal

pub returns-else-is_unlisted-clause-matched : goal.returns-else-is_unlisted-clause-matched
returns-else-is_unlisted-clause-matched c = λ chosen entries s of h.
    let lines = c.args.catalogue.now in
    absurd (still_unlisted lines c.args.self.now chosen entries s c.in-Some.version h (subst (IsUnlistedMatch lines chosen entries s) c.in-Some.is (c.sorted_match.ensures chosen entries s of h)) (sym c.is_unlisted.ensures ∙ c.if-is_unlisted.false))
