use Rattle.std.proofs.Common.{◌≡◌, not, Option, sym, ap, subst}
use Rattle.std.proofs.lemmas.Option.{slice_get-get_or}
use Rattle.resolvo_text.specs.Line.{Version}
use Rattle.resolvo_catalogue_core.specs.Rules.{obeys}
use Rattle.resolvo_catalogue_core.specs.Listed.{members}
use Rattle.resolvo_catalogue_core.specs.Kept.{nth, nowhere, kept_line, IsKeptOf}
use Rattle.resolvo_catalogue_core.specs.declared.kept_rule.KeptRule.{KeptRule}
use Rattle.resolvo_catalogue_core.proofs.obey.obeys_kept.Goals as goal

pub returns-in-Lock : goal.returns-in-Lock
returns-in-Lock c =
    let vs = c.args.versions.now in
    let k = c.in-Lock.version in
    subst (λ (r : KeptRule). (owner : Option Version) → IsKeptOf vs owner r → c.obeys_lock.result ≡ obeys owner (kept_line c.args.terms.now vs r) (members vs c.args.set.now)) (sym c.in-Lock.is)
    (λ owner h. c.obeys_lock.ensures (nth vs k) (slice_get-get_or vs k.0 nowhere h))

pub returns-in-Exclude : goal.returns-in-Exclude
returns-in-Exclude c =
    let vs = c.args.versions.now in
    let k = c.in-Exclude.version in
    subst (λ (r : KeptRule). (owner : Option Version) → IsKeptOf vs owner r → not c.is_member.result ≡ obeys owner (kept_line c.args.terms.now vs r) (members vs c.args.set.now)) (sym c.in-Exclude.is)
    (λ owner h. ap not (c.is_member.ensures vs (nth vs k) c.requires (slice_get-get_or vs k.0 nowhere h)))
