use Rattle.std.proofs.Common.{◌≡◌, ◌∙◌, ◌++◌, ◌∷◌, [], Bool, List, sym, ap, map, take}
use Rattle.std.specs.Prelude.{slice_index_or}
use Rattle.std.proofs.lemmas.List.{map_more, take_all}
use Rattle.resolvo_text.specs.Line.{Version}
use Rattle.resolvo_terms.specs.Known.{name_id, name_text}
use Rattle.resolvo_terms.specs.Terms.{Terms}
use Rattle.resolvo_catalogue_core.specs.Listed.{listed, name_at}
use Rattle.resolvo_catalogue_core.specs.Sets.{is_many}
use Rattle.resolvo_catalogue_core.specs.declared.versions.KeptVersion.{KeptVersion}
use Rattle.resolvo_catalogue.proofs.ListLemmas.{flags_are}
use Rattle.resolvo_catalogue.proofs.MarkLemmas.{many_by_number, none_many}
use Rattle.resolvo_catalogue.proofs.candidate_flags.many_of.Goals as goal

pub loop-version-preserved : goal.loop-version-preserved
loop-version-preserved c =
    let lines = c.args.catalogue.now in
    let names = c.args.kept.now.terms.names in
    let vs = c.versions-versions.result.now in
    let i = c.loop-version.version-index in
    let none : KeptVersion = record { «package» = name_id 0; number = 0 } in
    let test : KeptVersion → Bool = λ v. is_many lines (name_at names v.«package».raw) in
    let one : c.is_many.result ≡ test (slice_index_or vs i none) = c.is_many.ensures ∙ ap (λ (t : Terms). is_many lines (name_text t (slice_index_or vs i none).«package»)) c.terms-terms.ensures.terms in
    c.in_ok-push.ensures.items
    ∙ ap (λ (xs : List Bool). xs ++ c.is_many.result ∷ []) c.loop-version.invariant
    ∙ ap (λ (b : Bool). map test (take i vs) ++ b ∷ []) one
    ∙ sym (map_more test vs i none c.loop-version-test.true)

pub returns-clause-many : goal.returns-clause-many
returns-clause-many c =
    let lines = c.args.catalogue.now in
    let kept = c.args.kept.now in
    let vs = c.versions-versions.result.now in
    let test : KeptVersion → Bool = λ v. is_many lines (name_at kept.terms.names v.«package».raw) in
    let all : take c.loop-version.version-index vs ≡ vs = take_all c.loop-version.version-index vs c.loop-version-test.false in
    many_by_number lines c.loop-version.flags.items (c.loop-version.invariant ∙ (ap (map test) all ∙ (flags_are (is_many lines) kept.terms.names vs
    ∙ (ap (map (λ (v : Version). is_many lines v.name)) (c.versions-versions.ensures.versions ∙ ap listed c.requires)))))

pub returns-then-not-marks_many-clause-many : goal.returns-then-not-marks_many-clause-many
returns-then-not-marks_many-clause-many c = none_many c.args.catalogue.now c.new.result.items (c.marks_many.ensures.none c.if-not-marks_many.true) c.new.ensures.items
