use Rattle.std.proofs.Common.{◌≡◌, ◌∙◌, ◌+◌, ◌++◌, ◌∷◌, [], get_or, take, sym, ap, subst, append_assoc, arith}
use Rattle.std.proofs.lemmas.List.{append-nil, take_all}
use Rattle.resolvo_text.specs.Matches.{Set}
use Rattle.resolvo_catalogue_core.specs.Listed.{listed, members}
use Rattle.resolve_order.specs.Kept.{Holds}
use Rattle.resolve_order.proofs.PickLemmas.{members_more}
use Rattle.resolve_order.proofs.chosen.Chosen.add_all.Goals as goal

pub loop-version-init : goal.loop-version-init
loop-version-init c = λ chosen entries h. subst (λ (set : Set). Holds c.args.catalogue.now c.args.self.now set entries) (sym (append-nil chosen)) h

pub loop-version-preserved : goal.loop-version-preserved
loop-version-preserved c = λ chosen entries h.
    let vs = listed c.args.catalogue.now in
    let i = c.loop-version.version-index in
    let numbers = c.args.versions.now in
    let item = get_or numbers i (record { 0 = 0 }) in
    let more : chosen ++ members vs (take (i + 1) numbers) ≡ (chosen ++ members vs (take i numbers)) ++ members vs (item ∷ []) =
    ap (λ (set : Set). chosen ++ set) (members_more vs numbers i (record { 0 = 0 }) c.loop-version-test.true) ∙ sym (append_assoc chosen (members vs (take i numbers)) (members vs (item ∷ []))) in
    subst (λ (set : Set). Holds c.args.catalogue.now c.add.new.self set entries) (sym more)
    (c.in_ok-add.ensures (chosen ++ members vs (take i numbers)) entries (c.loop-version.invariant chosen entries h))

pub returns : goal.returns
returns c = λ chosen entries h.
    subst (λ numbers. Holds c.args.catalogue.now c.loop-version.self (chosen ++ members (listed c.args.catalogue.now) numbers) entries)
    (take_all c.loop-version.version-index c.args.versions.now (omega (arith, c.loop-version-test.false))) (c.loop-version.invariant chosen entries h)
