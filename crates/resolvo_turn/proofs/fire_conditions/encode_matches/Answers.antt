use Rattle.std.proofs.Common.{rules}
use Rattle.resolvo_encoder.specs.Conditions.{sets_case}
use Rattle.resolvo_turn.specs.LacksIds.{LacksIds}
use Rattle.resolvo_turn.proofs.AddLemmas.{needs_none, needs_then, extends_needs, extends_in_order}
use Rattle.resolvo_turn.proofs.fire_conditions.encode_matches.Goals as goal

pub returns-then-keeps_out-clause-kept : goal.returns-then-keeps_out-clause-kept
returns-then-keeps_out-clause-kept g c = needs_none c.args.encoding.now

pub returns-clause-encoded : goal.returns-clause-encoded
returns-clause-encoded g c = λ root e sets listed among.
    let same = g.A.SolvableId.PartialEq.eq in
    let p = g.A.PackageSource.packages c.args.answers.now in
    let orders = g.A.PackageSource.orders c.args.answers.now in
    let middle = c.forbid_named.new.encoding in
    let new = c.encode_sets_matches.new.encoding in
    let (first, guarded) = c.in_ok-forbid_named.ensures.encoded root e in
    let held = c.in_ok-encode_sets_matches.ensures.matches in
    extends_in_order same p orders root middle new held.extends.grows held.lists
    (λ m. held.encoding p root (g.met.A.PackageSource.lawful c.args.answers.now) m sets (λ v h. (c.args.parent, c.args.need, sets_case c.args.sets.now, listed, among, h)))
    first

pub returns-clause-kept : goal.returns-clause-kept
returns-clause-kept g c = needs_then c.args.encoding.now c.forbid_named.new.encoding c.encode_sets_matches.new.encoding c.in_ok-forbid_named.ensures.kept (extends_needs c.forbid_named.new.encoding c.encode_sets_matches.new.encoding c.in_ok-encode_sets_matches.ensures.matches.extends)

pub returns-in_err-encode_sets_matches-clause-ids : goal.returns-in_err-encode_sets_matches-clause-ids
returns-in_err-encode_sets_matches-clause-ids g c = search (rules, LacksIds.coding)
