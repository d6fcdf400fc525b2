use Rattle.std.proofs.Common.{◌≡◌, List, map, sym, ◌∙◌, ap, subst}
use Rattle.std.specs.Prelude.{Contains}
use Rattle.resolvo_pool_core.specs.declared.id.VersionSetId.{VersionSetId}
use Rattle.resolvo_pool_core.specs.declared.requirement.Requirement.{Requirement}
use Rattle.resolvo_pool_core.specs.Text.{alternatives_of}
use Rattle.resolvo_sat.proofs.Lists.{contains_map, contains_one}
use Rattle.resolvo_sat.specs.RuleClauses.{IsForbiddenIn}
use Rattle.resolvo_encoder.specs.Encoded.{IsMarkKnown}
use Rattle.resolvo_turn.proofs.forbid.forbid_named.Goals as goal

pub returns-in_ok-forbid_package-in-Single-clause-encoded : goal.returns-in_ok-forbid_package-in-Single-clause-encoded
returns-in_ok-forbid_package-in-Single-clause-encoded g c = λ root e.
    let same = g.A.SolvableId.PartialEq.eq in
    let p = g.A.PackageSource.packages c.args.answers.now in
    let one = c.in-Single.version_set in
    let name = c.set_package-name.result in
    let is : name ≡ p.set_package one = c.set_package-name.ensures in
    let new = c.forbid_package.new.encoding in
    let only : (v : VersionSetId) → Contains (alternatives_of p.members_of c.args.requirement) v → v ≡ one =
    λ v h. contains_one v one (subst (λ (r : Requirement). Contains (alternatives_of p.members_of r) v) c.in-Single.is h) in
    let (last, done, known) = c.in_ok-forbid_package-in-Single.ensures.encoded root e in
    (last, ((λ v s h forbidden. done s (subst (λ n. IsForbiddenIn same p n s) (ap p.set_package (only v h) ∙ sym is) forbidden)), λ v h. subst (λ n. IsMarkKnown same p new n) (is ∙ sym (ap p.set_package (only v h))) known))

pub returns-in_ok-forbid_packages-in-Union-clause-encoded : goal.returns-in_ok-forbid_packages-in-Union-clause-encoded
returns-in_ok-forbid_packages-in-Union-clause-encoded g c = λ root e.
    let p = g.A.PackageSource.packages c.args.answers.now in
    let names : c.as_slice.result.now ≡ map p.set_package (alternatives_of p.members_of c.args.requirement) = c.as_slice.ensures.value ∙ c.in_ok-names-in-Union.ensures.named in
    let (last, done, known) = c.in_ok-forbid_packages-in-Union.ensures.encoded root e in
    (last, ((λ v s h forbidden. done (p.set_package v) s (subst (λ (xs : List _). Contains xs (p.set_package v)) (sym names) (contains_map p.set_package v (alternatives_of p.members_of c.args.requirement) h)) forbidden), λ v h. known (p.set_package v) (subst (λ (xs : List _). Contains xs (p.set_package v)) (sym names) (contains_map p.set_package v (alternatives_of p.members_of c.args.requirement) h))))
