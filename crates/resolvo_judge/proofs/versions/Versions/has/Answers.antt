use Rattle.std.proofs.Common.{◌≡◌, ◌==◌, ◌∙◌, List, ℕ, ap}
use Rattle.std.specs.BTreeMap.{get_by_text}
use Rattle.std.specs.List.{list_any}
use Rattle.resolvo_text.specs.View.{version_of}
use Rattle.resolvo_judge.specs.Versions.{numbers_kept, numbers_for}
use Rattle.resolvo_judge.proofs.VersionLemmas.{member_by_number, flipped}
use Rattle.resolvo_judge.proofs.versions.Versions.has.Goals as goal

pub returns : goal.returns
returns c = λ set h.
    let v = version_of c.args.version.now in
    let kept : c.numbers_of.result.now ≡ numbers_for set v.name = c.numbers_of.ensures ∙ ap (λ (name : List ℕ). numbers_kept (get_by_text c.args.self.now.numbers name)) c.deref.ensures ∙ h v.name in
    c.contains.ensures.value ∙ flipped c.args.version.now.number c.numbers_of.result.now ∙ ap (λ (xs : List ℕ). list_any (λ n. v.number == n) xs) kept ∙ member_by_number v set
