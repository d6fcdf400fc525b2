use Rattle.std.proofs.Common.{◌≡◌, ◌∙◌, ℕ, List, Option, None, ap, subst}
use Rattle.std.specs.Prelude.{slice_get, unwrap_or}
use Rattle.std.proofs.lemmas.Option.{unwrap_or-slice_get}
use Rattle.resolvo_text.specs.Line.{Version}
use Rattle.resolvo_catalogue_core.specs.Listed.{listed}
use Rattle.resolvo_catalogue_core.specs.Kept.{nowhere}
use Rattle.resolve_refusal.proofs.literals.version_of.Goals as goal

pub returns-in-None-clause-version : goal.returns-in-None-clause-version
returns-in-None-clause-version c =
    let all = listed c.args.catalogue.now in
    let place : c.into_raw.result ≡ c.args.solvable.raw = c.into_raw.ensures in
    let there : None ≡ slice_get all c.into_raw.result = subst (λ (vs : List Version). None ≡ slice_get vs c.into_raw.result) c.versions.ensures.listed c.in-None.ensures in
    let none : None ≡ slice_get all c.args.solvable.raw = subst (λ (n : ℕ). None ≡ slice_get all n) place there in
    ap (λ (bytes : List ℕ). record { name = bytes; number = 0 }) c.new.ensures.bytes
    ∙ (ap (λ (o : Option Version). unwrap_or o nowhere) none ∙ unwrap_or-slice_get all c.args.solvable.raw nowhere)
