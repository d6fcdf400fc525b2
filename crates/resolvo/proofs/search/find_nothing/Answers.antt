use Rattle.std.proofs.Common.{refl, arith, sym, subst}
use Rattle.resolvo.proofs.Nothing.{nothing_encoded, nothing_found, nothing_listed, only_root, parent_left}
use Rattle.resolvo_encoder.proofs.BuildLemmas.{built_begun}
use Rattle.resolvo.proofs.search.find_nothing.Goals as goal

pub end_parent-requires : goal.end_parent-requires
end_parent-requires g c = parent_left c.args.encoding.now c.requires

pub returns-clause-found : goal.returns-clause-found
returns-clause-found g c = λ root needless free encoded.
    let same = g.A.SolvableId.PartialEq.eq in
    let p = g.A.PackageSource.packages c.args.answers.now in
    let (found, preferred) = nothing_found same p root needless free (g.A.PackageSource.orders c.args.answers.now) c.end_parent.new.self c.new.result c.new-2.result c.new.ensures.items c.new-2.ensures.items in
    record { encoding = c.end_parent.ensures.encoding p root encoded (nothing_encoded same p root needless free c.args.encoding.now c.requires); found = found; preferred = preferred }

pub returns-clause-listed : goal.returns-clause-listed
returns-clause-listed g c = nothing_listed c.args.encoding.now c.end_parent.new.self c.requires c.end_parent.ensures.next c.new.result.items c.new.ensures.items

pub returns-clause-provable : goal.returns-clause-provable
returns-clause-provable g c = record { built = c.end_parent.ensures.built (built_begun c.args.encoding.now c.requires); denial = tt }

pub returns-clause-alone : goal.returns-clause-alone
returns-clause-alone g c = only_root c.args.encoding.now c.end_parent.new.self c.requires c.end_parent.ensures.next
