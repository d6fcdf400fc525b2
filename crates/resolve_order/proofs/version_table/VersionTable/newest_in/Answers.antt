use Rattle.std.proofs.Common.{◌∙◌, Option, ap, subst}
use Rattle.std.specs.Option.{option_map}
use Rattle.std.specs.BTreeMap.{get}
use Rattle.std.specs.Ordering.{nat_cmp}
use Rattle.resolve_order.specs.Numbers.{number_at, single_of, version_in, newer, IsNewestIn}
use Rattle.resolve_order.specs.declared.version_table.Numbered.{Numbered}
use Rattle.resolve_order.proofs.NewestLemmas.{newest_in_both}
use Rattle.resolve_order.proofs.version_table.VersionTable.newest_in.Goals as goal

pub returns-in-Some : goal.returns-in-Some
returns-in-Some c =
    let t = c.args.self.now in
    let p = c.args.«package» in
    let beside = c.newest_beside-beside.result in
    subst (λ (o : Option Numbered). IsNewestIn (version_in t p) c.args.span (option_map (λ (x : Numbered). x.version) o)) c.in-Some.is
    (newest_in_both (single_of t p) (number_at (get nat_cmp t.beside p)) c.args.span beside c.newer.result c.newest_beside-beside.ensures (c.newer.ensures ∙ ap (λ (o : Option Numbered). newer o beside) c.single_within.ensures))

pub returns-in-None : goal.returns-in-None
returns-in-None c =
    let t = c.args.self.now in
    let p = c.args.«package» in
    let beside = c.newest_beside-beside.result in
    subst (λ (o : Option Numbered). IsNewestIn (version_in t p) c.args.span (option_map (λ (x : Numbered). x.version) o)) c.in-None.is
    (newest_in_both (single_of t p) (number_at (get nat_cmp t.beside p)) c.args.span beside c.newer.result c.newest_beside-beside.ensures (c.newer.ensures ∙ ap (λ (o : Option Numbered). newer o beside) c.single_within.ensures))
