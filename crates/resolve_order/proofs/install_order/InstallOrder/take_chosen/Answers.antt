use Rattle.std.proofs.Common.{subst, sym}
use Rattle.resolvo_text.specs.Matches.{Set}
use Rattle.resolve_order.specs.Kept.{Holds, IsListing, entries_in}
use Rattle.resolve_order.proofs.FinishLemmas.{turn_taken}
use Rattle.resolve_order.proofs.install_order.InstallOrder.take_chosen.Goals as goal

pub returns : goal.returns
returns c = λ before chosen is h accepted.
    let catalogue = c.args.catalogue.now in
    let request = c.args.request.now.lines in
    let x = c.args.self.now in
    let holds = subst (λ (set : Set). Holds catalogue c.add_all.new.self set (entries_in catalogue x)) (sym is) (c.in_ok-add_all.ensures before (entries_in catalogue x) h.holds) in
    let ready : IsListing catalogue request (record x { chosen = c.add_all.new.self }) chosen before = record { holds = holds; lines = h.lines; idle = h.idle; numbered = h.numbered } in
    let listing = c.in_ok-begin.ensures.listing request chosen before ready accepted in
    turn_taken catalogue request chosen _ _ x c.begin.new.self c.finish.new.self (c.in_ok-begin.ensures.listed request chosen before ready accepted) (c.in_ok-finish.ensures.listed before chosen is listing)
    (c.in_ok-finish.ensures.complete before chosen is listing)
