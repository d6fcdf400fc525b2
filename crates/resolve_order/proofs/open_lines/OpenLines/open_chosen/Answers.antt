use Rattle.std.proofs.Common.{◌≡◌, ◌∙◌, ◌+◌, ◌++◌, ◌∷◌, [], get_or, take, sym, ap, subst, append_assoc, arith}
use Rattle.std.proofs.lemmas.List.{take_all}
use Rattle.resolvo_text.specs.Matches.{Set}
use Rattle.resolvo_catalogue_core.specs.Listed.{listed, members}
use Rattle.resolve_order.specs.Kept.{OthersAreIdle, package_at}
use Rattle.resolve_order.proofs.GiveLemmas.{choice_packages}
use Rattle.resolve_order.proofs.OpenLemmas.{choice_added}
use Rattle.resolve_order.proofs.PickLemmas.{members_more}
use Rattle.resolve_order.proofs.open_lines.OpenLines.open_chosen.Goals as goal

pub loop-version-preserved : goal.loop-version-preserved
loop-version-preserved c = record {
  none = ap (λ ns. ns.items) c.in_ok-open_spent.ensures.closed ∙ c.loop-version.invariant.none;
  idle = λ seen entries h.
      let catalogue = c.args.catalogue.now in
      let request = c.args.request.now.lines in
      let lines = c.args.lines.now in
      let vs = listed catalogue in
      let i = c.loop-version.version-index in
      let numbers = c.args.versions.now in
      let item = get_or numbers i (record { 0 = 0 }) in
      let before = seen ++ members vs (take i numbers) in
      let more : seen ++ members vs (take (i + 1) numbers) ≡ before ++ members vs (item ∷ []) =
      ap (λ (set : Set). seen ++ set) (members_more vs numbers i (record { 0 = 0 }) c.loop-version-test.true) ∙ sym (append_assoc seen (members vs (take i numbers)) (members vs (item ∷ []))) in
      subst (λ (set : Set). OthersAreIdle catalogue request set entries lines c.open_spent.new.self) (sym more)
      (choice_added catalogue request before (before ++ members vs (item ∷ [])) entries lines c.loop-version.self c.open_spent.new.self item.0 (package_at vs item.0)
      (choice_packages vs before item) c.in_ok-open_spent.ensures.opened
      c.in_ok-open_spent.ensures.below c.in_ok-open_spent.ensures.waiting c.loop-version.invariant.none (c.loop-version.invariant.idle seen entries h));
}

pub returns : goal.returns
returns c = λ seen all entries is h.
    let vs = listed c.args.catalogue.now in
    subst (λ (set : Set). OthersAreIdle c.args.catalogue.now c.args.request.now.lines set entries c.args.lines.now c.loop-version.self)
    (ap (λ ns. seen ++ members vs ns) (take_all c.loop-version.version-index c.args.versions.now (omega (arith, c.loop-version-test.false))) ∙ sym is)
    (c.loop-version.invariant.idle seen entries (c.in_ok-keep_closed.ensures.idle seen entries h))
