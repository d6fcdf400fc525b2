use Rattle.std.proofs.Common.{◌∙◌, Some, sym, subst}
use Rattle.std.specs.BTreeMap.{get}
use Rattle.std.specs.Ordering.{nat_cmp}
use Rattle.resolvo_text.specs.declared.spec.Span.{Span}
use Rattle.resolve_order.specs.Numbers.{IsNewest}
use Rattle.resolve_order.proofs.NewestLemmas.{newest_of_all, newest_of_one, newest_between}
use Rattle.resolve_order.proofs.version_table.newest_of.Goals as goal
use Rattle.resolve_order.proofs.version_table.newest_of.Goals.{in-Any, in-One, in-Range+else-low-high}

pub returns-in-Some : goal.returns-in-Some
returns-in-Some c =
    let m = c.args.numbers.now in
    let n = c.in-Some.number in
    let k = c.in-Some.version in
    elim c.match-span.branch [
      | in-Any w ↦ subst (λ (s : Span). IsNewest (get nat_cmp m) s (Some (record { number = n.now; version = k.now }))) (sym w.in-Any.is)
          (newest_of_all m w.last_key_value-newest.result n k (sym w.newest-is ∙ c.in-Some.is) w.last_key_value-newest.ensures.value w.last_key_value-newest.ensures.greatest)
      | in-One w ↦ subst (λ (s : Span). IsNewest (get nat_cmp m) s (Some (record { number = n.now; version = k.now }))) (sym w.in-One.is)
          (newest_of_one m w.in-One.number w.get_key_value-newest.result n k (sym w.newest-is ∙ c.in-Some.is) w.get_key_value-newest.ensures.value w.get_key_value-newest.ensures.same_key)
      | in-Range+else-low-high w ↦ subst (λ (s : Span). IsNewest (get nat_cmp m) s (Some (record { number = n.now; version = k.now }))) (sym w.in-Range.is)
          (newest_between m w.in-Range.low w.in-Range.high w.range.result w.next_back-newest.new.self w.next_back-newest.result n k (sym w.newest-is ∙ c.in-Some.is) (w.range.ensures.in_range tt) w.next_back-newest.ensures.steps)
    ]
