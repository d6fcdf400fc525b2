use Rattle.std.proofs.Common.{◌≡◌, ◌∙◌, ◌++◌, sym, subst}
use Rattle.std.specs.Prelude.{Contains}
use Rattle.std.specs.Option.{option_map}
use Rattle.resolvo_catalogue_core.specs.Listed.{listed}
use Rattle.resolvo_catalogue_core.proofs.TableSteps.{numbered}
use Rattle.resolve_order.specs.Order.{wish_entry}
use Rattle.resolve_order.specs.View.{wish_at, IsAccepted}
use Rattle.resolve_order.specs.Kept.{answers_in, entries_in}
use Rattle.resolve_order.proofs.GiveLemmas.{answers_more, wish_listed, wish_is_entry}
use Rattle.resolve_order.proofs.install_order.InstallOrder.begin.Goals as goal

pub returns-in_ok-give-clause-listing : goal.returns-in_ok-give-clause-listing
returns-in_ok-give-clause-listing c = λ request chosen seen h accepted.
    let vs = listed c.args.catalogue.now in
    let wish = (subst (IsAccepted vs request chosen) c.in-Some.is accepted).0 in
    let in_chosen = (subst (IsAccepted vs request chosen) c.in-Some.is accepted).1 in
    c.in_ok-give.ensures.listing request chosen seen wish.0 wish.1 (subst (Contains chosen) (numbered vs c.in-Some.version wish.0 wish.1) in_chosen) h

pub returns-in_ok-give-clause-listed : goal.returns-in_ok-give-clause-listed
returns-in_ok-give-clause-listed c = λ request chosen seen h accepted.
    let catalogue = c.args.catalogue.now in
    let vs = listed catalogue in
    let x = c.args.self.now in
    subst (λ wish. answers_in catalogue c.give.new.self ≡ answers_in catalogue x ++ wish_entry (option_map (wish_at vs) wish) (entries_in catalogue x)) (sym c.in-Some.is)
    (wish_listed catalogue request chosen seen x c.give.new.self c.in-Some.line c.in-Some.version h (subst (IsAccepted vs request chosen) c.in-Some.is accepted)
    (sym c.is_unlisted.ensures ∙ c.if-is_unlisted.true) (answers_more catalogue x c.give.new.self _ c.in_ok-give.ensures.answers))

pub returns-else-is_unlisted-clause-listed : goal.returns-else-is_unlisted-clause-listed
returns-else-is_unlisted-clause-listed c = λ request chosen seen h accepted.
    let catalogue = c.args.catalogue.now in
    let vs = listed catalogue in
    let x = c.args.self.now in
    subst (λ wish. answers_in catalogue x ≡ answers_in catalogue x ++ wish_entry (option_map (wish_at vs) wish) (entries_in catalogue x)) (sym c.in-Some.is)
    (wish_is_entry catalogue request chosen seen x c.in-Some.line c.in-Some.version h (subst (IsAccepted vs request chosen) c.in-Some.is accepted) (sym c.is_unlisted.ensures ∙ c.if-is_unlisted.false))
