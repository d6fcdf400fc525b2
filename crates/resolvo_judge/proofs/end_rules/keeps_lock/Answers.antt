use Rattle.std.proofs.Common.{◌≡◌, ◌||◌, ◌==◌, not, subst}
use Rattle.std.specs.List.{list_all}
use Rattle.resolvo_text.specs.Line.{Version}
use Rattle.resolvo_text.specs.Matches.{same_package}
use Rattle.resolvo_catalogue_core.specs.Listed.{version_by}
use Rattle.resolvo_judge.proofs.end_rules.keeps_lock.Goals as goal

pub returns-in-Some : goal.returns-in-Some
returns-in-Some c = λ set v h at.
    let same : version_by c.in-Some.version.0.now c.in-Some.version.1 ≡ v = cc (c.in-Some.ensures, at) in
    subst (λ (x : Version). c.keeps_lock.result ≡ list_all (λ w. not (same_package w x) || w.number == x.number) set) same (c.keeps_lock.ensures set h)

pub returns-in-None : goal.returns-in-None
returns-in-None c = λ set v h at. absurd (cc (c.in-None.ensures, at))
