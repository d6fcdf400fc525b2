use Rattle.std.proofs.Common.{List, subst, arith}
use Rattle.resolvo_catalogue_core.specs.Listed.{listed}
use Rattle.resolvo_catalogue_core.specs.Kept.{nth}
use Rattle.resolve_order.specs.Kept.{AreLines, OthersAreIdle, IsFound, entries_in}
use Rattle.resolve_order.specs.declared.entry.Reason.{Reason}
use Rattle.resolve_order.proofs.FinishLemmas.{ready, seen_all, extends_none, extends_again, extends_opened, number_at, extends_more}
use Rattle.resolve_order.proofs.OpenLemmas.{all_entries}
use Rattle.resolve_order.proofs.install_order.InstallOrder.finish.Goals as goal

pub returns-then-are_all_listed-clause-listed : goal.returns-then-are_all_listed-clause-listed
returns-then-are_all_listed-clause-listed c = λ seen chosen is h.
    let catalogue = c.args.catalogue.now in
    let request = c.args.request.now.lines in
    let x = c.args.self.now in
    let kept = c.are_all_listed.new.self in
    let E = entries_in catalogue x in
    let idle = all_entries catalogue request seen chosen E x.lines.items x.open_lines (c.are_all_listed.ensures.listed c.if-are_all_listed.true catalogue chosen E h.holds) h.idle in
    extends_again catalogue request chosen x kept x.open_lines _ (extends_none catalogue request chosen _ (seen_all catalogue request chosen seen (record x { chosen = kept }) x.open_lines idle (ready catalogue request chosen seen x kept c.are_all_listed.ensures.holds h)))

pub returns-then-are_all_listed-clause-complete : goal.returns-then-are_all_listed-clause-complete
returns-then-are_all_listed-clause-complete c = λ seen chosen is h reason v g.
    let catalogue = c.args.catalogue.now in
    g.unlisted (c.are_all_listed.ensures.listed c.if-are_all_listed.true catalogue chosen (entries_in catalogue c.args.self.now) h.holds v g.is_chosen)

pub loop-entry-init : goal.loop-entry-init
loop-entry-init c = λ chosen h. extends_none c.args.catalogue.now c.args.request.now.lines chosen _ h

pub loop-entry-preserved : goal.loop-entry-preserved
loop-entry-preserved c = λ chosen h.
    let catalogue = c.args.catalogue.now in
    let request = c.args.request.now.lines in
    let x = c.loop-entry.self in
    let E = entries_in catalogue x in
    let e = c.in-Some.entry in
    let v = nth (listed catalogue) e.version in
    let before = c.loop-entry.invariant chosen h in
    let l = before.listing in
    let same = c.deref-in-loop-entry.ensures.value in
    let found = subst (IsFound catalogue request chosen E) c.in-Some.is
    (subst (λ (rs : List Reason). AreLines catalogue request E rs → OthersAreIdle catalogue request chosen E rs x.open_lines → IsFound catalogue request chosen E c.in_ok-entry.field-0) same (c.in_ok-entry.ensures.found chosen E l.holds) l.lines l.idle) in
    let idle = subst (λ (rs : List Reason). OthersAreIdle catalogue request chosen E rs x.open_lines → OthersAreIdle catalogue request chosen E rs c.next.new.self) same (c.in_ok-entry.ensures.idle chosen E l.holds) l.idle in
    let at = number_at catalogue e.version found.0 in
    let given = c.in_ok-give.ensures in
    extends_more catalogue request chosen (record c.args.self.now { chosen = c.are_all_listed.new.self; open_lines = c.open_chosen.new.self }) x c.give.new.self e before found given.answers
    (given.listing request chosen chosen v at found.1.gives.is_chosen (seen_all catalogue request chosen chosen x c.next.new.self idle l))

pub loop-entry-smaller : goal.loop-entry-smaller
loop-entry-smaller c = let fewer = c.in_ok-give.ensures.fewer in omega (arith, fewer)

pub returns-clause-listed : goal.returns-clause-listed
returns-clause-listed c = λ seen chosen is h.
    let catalogue = c.args.catalogue.now in
    let request = c.args.request.now.lines in
    let x = c.args.self.now in
    let y = c.loop-entry.self in
    let kept = c.are_all_listed.new.self in
    let E = entries_in catalogue x in
    let F = entries_in catalogue y in
    let r = ready catalogue request chosen seen x kept c.are_all_listed.ensures.holds h in
    let opened = subst (λ (rs : List Reason). OthersAreIdle catalogue request seen E rs x.open_lines → OthersAreIdle catalogue request chosen E rs c.open_chosen.new.self) c.deref.ensures.value (c.in_ok-open_chosen.ensures seen chosen E is) r.idle in
    let before = c.loop-entry.invariant chosen (seen_all catalogue request chosen seen (record x { chosen = kept }) c.open_chosen.new.self opened r) in
    let l = before.listing in
    let idle = subst (λ (rs : List Reason). OthersAreIdle catalogue request chosen F rs y.open_lines → OthersAreIdle catalogue request chosen F rs c.next.new.self) c.deref-in-loop-entry.ensures.value (c.in_ok-entry.ensures.idle chosen F l.holds) l.idle in
    extends_again catalogue request chosen x kept c.open_chosen.new.self _ (extends_opened catalogue request chosen _ y c.next.new.self idle before)

pub returns-clause-complete : goal.returns-clause-complete
returns-clause-complete c = λ seen chosen is h.
    let catalogue = c.args.catalogue.now in
    let request = c.args.request.now.lines in
    let x = c.args.self.now in
    let y = c.loop-entry.self in
    let kept = c.are_all_listed.new.self in
    let E = entries_in catalogue x in
    let F = entries_in catalogue y in
    let r = ready catalogue request chosen seen x kept c.are_all_listed.ensures.holds h in
    let opened = subst (λ (rs : List Reason). OthersAreIdle catalogue request seen E rs x.open_lines → OthersAreIdle catalogue request chosen E rs c.open_chosen.new.self) c.deref.ensures.value (c.in_ok-open_chosen.ensures seen chosen E is) r.idle in
    let l = (c.loop-entry.invariant chosen (seen_all catalogue request chosen seen (record x { chosen = kept }) c.open_chosen.new.self opened r)).listing in
    subst (IsFound catalogue request chosen F) c.in_default.is
    (subst (λ (rs : List Reason). AreLines catalogue request F rs → OthersAreIdle catalogue request chosen F rs y.open_lines → IsFound catalogue request chosen F c.in_ok-entry.field-0) c.deref-in-loop-entry.ensures.value (c.in_ok-entry.ensures.found chosen F l.holds) l.lines l.idle)
