use Rattle.std.proofs.Common.{◌≡◌, ◌∙◌, not, ◌||◌, ◌==◌, subst}
use Rattle.std.specs.List.{list_all}
use Rattle.resolvo_text.specs.Matches.{same_package}
use Rattle.resolvo_text.specs.Line.{Version}
use Rattle.resolvo_catalogue_core.specs.Listed.{version_by, members}
use Rattle.resolvo_catalogue_core.proofs.Members.{each_member}
use Rattle.resolvo_catalogue_core.proofs.obey.obeys_lock.Goals as goal

pub returns-in-Some : goal.returns-in-Some
returns-in-Some c = λ v at.
    let vs = c.args.versions.now in
    let same : version_by c.in-Some.locked.0.now c.in-Some.locked.1 ≡ v = cc (c.in-Some.ensures, at) in
    subst (λ (x : Version). c.all_keep_lock.result ≡ list_all (λ w. not (same_package w x) || w.number == x.number) (members vs c.args.set.now)) same
    (c.all_keep_lock.ensures ∙ each_member (λ w. not (same_package w (version_by c.in-Some.locked.0.now c.in-Some.locked.1)) || w.number == c.in-Some.locked.1) vs c.args.set.now)

pub returns-in-None : goal.returns-in-None
returns-in-None c = λ v at. absurd (cc (c.in-None.ensures, at))
