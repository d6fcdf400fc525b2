use Rattle.std.proofs.Common.{◌≡◌, ◌∙◌, ◌-◌, List, None, Some, length, take, refl, sym, ap, subst}
use Rattle.std.specs.Prelude.{slice_get}
use Rattle.resolvo_catalogue_core.specs.declared.rule.VersionNo.{VersionNo}
use Rattle.resolve_order.proofs.PickLemmas.{popped, last_none, drops, none_left_entries}
use Rattle.resolve_order.proofs.chosen.Chosen.are_all_listed.Goals as goal

pub loop-version-preserved : goal.loop-version-preserved
loop-version-preserved c = λ catalogue chosen entries h.
    let x = c.loop-version.self in
    let last : slice_get c.deref.result.now (length c.deref.result.now - 1) ≡ Some c.in-Some.version = sym c.last.ensures.value ∙ sym c.copied.ensures ∙ c.in-Some.is in
    let at = subst (λ (ns : List VersionNo). slice_get ns (length ns - 1) ≡ Some c.in-Some.version) c.deref.ensures.value last in
    let rest = subst (λ k. c.pop.new.self.items ≡ take (k - 1) x.left.items) (sym c.deref.ensures.len ∙ ap (λ (ns : List VersionNo). length ns) c.deref.ensures.value) c.pop.ensures.rest in
    drops catalogue x (record x { left = c.pop.new.self }) chosen entries c.in-Some.version (popped x.left.items c.pop.new.self.items c.in-Some.version rest at)
    (sym c.is_unlisted.ensures ∙ c.if-is_unlisted.false) refl refl refl refl (c.loop-version.invariant catalogue chosen entries h)

pub returns-clause-listed : goal.returns-clause-listed
returns-clause-listed c = λ _ catalogue chosen entries h.
    let last : slice_get c.deref.result.now (length c.deref.result.now - 1) ≡ None = sym c.last.ensures.value ∙ sym c.copied.ensures ∙ c.in_default.is in
    let none = last_none c.loop-version.self.left.items (subst (λ (ns : List VersionNo). slice_get ns (length ns - 1) ≡ None) c.deref.ensures.value last) in
    none_left_entries catalogue c.loop-version.self chosen entries none (c.loop-version.invariant catalogue chosen entries h)
