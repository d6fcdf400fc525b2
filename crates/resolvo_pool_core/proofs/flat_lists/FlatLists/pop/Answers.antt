use Rattle.std.proofs.Common.{◌≡◌, ◌∙◌, ◌<◌, ◌-◌, ◌++◌, ℕ, List, Option, length, get_or, take, ap, arith}
use Rattle.std.specs.Option.{option_to_list}
use Rattle.resolvo_pool_core.proofs.FlatLemmas.{begin_from, begin_is, below_ends, ends_popped, list_popped}
use Rattle.resolvo_pool_core.proofs.flat_lists.FlatLists.pop.Goals as goal

pub invariant_of-self : goal.invariant_of-self
invariant_of-self g c =
    let inside = c.self.inside in
    let left = c.pop.new.self.items in
    let some : 0 < length inside.ends.items = below_ends inside.items.items inside.ends.items c.args.self.now 0 c.self.view_is c.requires in
    let last = c.pop.ensures.items ∙ ap (λ (o : Option ℕ). left ++ option_to_list o) (c.pop.ensures.value 0 (omega (arith, some, inside.ends.ok.0))) in
    let later = λ (h : 0 < c.len.result). c.begin_of-begin.ensures.later h ∙ ap (λ (es : List ℕ). get_or es (c.len.result - 1) 0) c.deref.ensures.value in
    let count : c.len.result ≡ length left = omega (arith, c.len.ensures, c.pop.new.self.ok.0) in
    let from : c.begin_of-begin.result ≡ begin_from 0 left (length left) = rw (← count) (begin_is left c.len.result c.begin_of-begin.result c.begin_of-begin.ensures.first later (omega (arith, count))) in
    ends_popped inside.items.items c.truncate.new.self.items inside.ends.items left _ c.begin_of-begin.result c.self.invariant last from c.truncate.ensures.items

pub returns : goal.returns
returns g c =
    let inside = c.self.inside in
    let left = c.pop.new.self.items in
    let some : 0 < length inside.ends.items = below_ends inside.items.items inside.ends.items c.args.self.now 0 c.self.view_is c.requires in
    let last = c.pop.ensures.items ∙ ap (λ (o : Option ℕ). left ++ option_to_list o) (c.pop.ensures.value 0 (omega (arith, some, inside.ends.ok.0))) in
    let later = λ (h : 0 < c.len.result). c.begin_of-begin.ensures.later h ∙ ap (λ (es : List ℕ). get_or es (c.len.result - 1) 0) c.deref.ensures.value in
    let count : c.len.result ≡ length left = omega (arith, c.len.ensures, c.pop.new.self.ok.0) in
    let from : c.begin_of-begin.result ≡ begin_from 0 left (length left) = rw (← count) (begin_is left c.len.result c.begin_of-begin.result c.begin_of-begin.ensures.first later (omega (arith, count))) in
    list_popped inside.items.items c.truncate.new.self.items inside.ends.items left _ c.begin_of-begin.result c.self.invariant last from c.truncate.ensures.items
    ∙ ap (λ (ls : List (List _)). take (length ls - 1) ls) c.self.view_is
