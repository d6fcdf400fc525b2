use Rattle.std.proofs.Common.{◌≡◌, ◌∙◌, ◌++◌, sym, subst}
use Rattle.std.proofs.lemmas.List.{append-nil}
use Rattle.std.proofs.lemmas.Option.{slice_get_within}
use Rattle.resolvo_text.specs.Matches.{Set}
use Rattle.resolvo_catalogue_core.specs.Listed.{listed}
use Rattle.resolve_order.specs.Order.{chosen_by}
use Rattle.resolve_order.specs.View.{turn_of, IsWishOf}
use Rattle.resolve_order.specs.Kept.{IsListing, TakesTurn}
use Rattle.resolve_order.specs.declared.entry.Turn.{Turn}
use Rattle.resolve_order.proofs.install_order.InstallOrder.take_turn.Goals as goal

pub returns-in_ok-take_chosen-in-Chose : goal.returns-in_ok-take_chosen-in-Chose
returns-in_ok-take_chosen-in-Chose c = λ before chosen is h wish.
    let vs = listed c.args.catalogue.now in
    let request = c.args.request.now.lines in
    let was = c.in-Chose.is in
    subst (λ (t : Turn). TakesTurn c.args.catalogue.now request chosen (turn_of vs t) c.args.self.now c.take_chosen.new.self) (sym was)
    (c.in_ok-take_chosen-in-Chose.ensures before chosen (subst (λ (t : Turn). chosen ≡ before ++ chosen_by (turn_of vs t)) was is) h (subst (IsWishOf vs request chosen) was wish))

pub returns-in_ok-leave_out-in-LeftOut : goal.returns-in_ok-leave_out-in-LeftOut
returns-in_ok-leave_out-in-LeftOut c = λ before chosen is h wish.
    let catalogue = c.args.catalogue.now in
    let vs = listed catalogue in
    let request = c.args.request.now.lines in
    let x = c.args.self.now in
    let was = c.in-LeftOut.is in
    let same : chosen ≡ before = subst (λ (t : Turn). chosen ≡ before ++ chosen_by (turn_of vs t)) was is ∙ append-nil before in
    let is_wish = subst (IsWishOf vs request chosen) was wish in
    subst (λ (t : Turn). TakesTurn catalogue request chosen (turn_of vs t) x c.leave_out.new.self) (sym was)
    (c.in_ok-leave_out-in-LeftOut.ensures catalogue request chosen (subst (λ (set : Set). IsListing catalogue request x set set) (sym same) h) (slice_get_within vs c.in-LeftOut.wish.1.0 is_wish.0 is_wish.1))
