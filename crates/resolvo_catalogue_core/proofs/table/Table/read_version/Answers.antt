use Rattle.std.proofs.Common.{◌≡◌, ◌+◌, ◌≤◌, ◌<◌, ◌∙◌, ℕ, List, [], length, get_or, ap, sym, subst, arith}
use Rattle.std.proofs.lemmas.Option.{get_or_from_slice_get, slice_get_within}
use Rattle.resolvo_text.specs.Line.{Version, Line, Listed}
use Rattle.resolvo_text.specs.Parse.{words_in, version_in}
use Rattle.resolvo_terms.specs.Terms.{Terms, NameId, IsPackage}
use Rattle.resolvo_terms.specs.TermCounts.{term_count, terms_for_line}
use Rattle.resolvo_catalogue_core.specs.Grammar.{MayFollow}
use Rattle.resolvo_catalogue_core.specs.Listed.{version_by}
use Rattle.resolvo_catalogue_core.specs.Table.{Adds, lines_in}
use Rattle.resolvo_catalogue_core.proofs.TableSteps.{adds_over, more_terms, on_ok_both, reads_ok}
use Rattle.resolvo_catalogue_core.proofs.table.Table.read_version.Goals as goal

-- the version of a package's number and a number
by_number : (u : Terms) (id : NameId) (number : ℕ) (v : Version) → IsPackage u id v.name → number ≡ v.number → version_by (get_or u.names id.raw []) number ≡ v
by_number u id number v named same =
    ap (λ (name : List ℕ). version_by name number) (get_or_from_slice_get u.names id.raw v.name [] named) ∙ ap (λ (n : ℕ). version_by v.name n) same

pub list_at-requires : goal.list_at-requires
list_at-requires c =
    let u = c.version_in.new.self in
    let more = more_terms c.args.self.now u c.requires.table c.version_in.ensures.grows c.ids_are_once.ensures in
    let read = reads_ok (λ (x : NameId × ℕ) (v : Version). IsPackage u x.0 v.name × (x.1 ≡ v.number)) (c.in_ok-id.id, c.in_ok-id.number) (version_in (words_in c.args.words.now)) c.in_ok-id.ensures.version in
    record {
      table = more.1;
      short = subst (λ (ls : List Line). length ls < 16777216) (sym more.0) c.requires.short;
      named = slice_get_within u.names c.in_ok-id.id.raw read.0.name read.2.0;
    }

pub returns-clause-ok : goal.returns-clause-ok
returns-clause-ok c =
    let t = c.args.self.now in
    let u = c.version_in.new.self in
    let w = c.list_at.new.self in
    let more = more_terms t u c.requires.table c.version_in.ensures.grows c.ids_are_once.ensures in
    let read = reads_ok (λ (x : NameId × ℕ) (v : Version). IsPackage u x.0 v.name × (x.1 ≡ v.number)) (c.in_ok-id.id, c.in_ok-id.number) (version_in (words_in c.args.words.now)) c.in_ok-id.ensures.version in
    let v = read.0 in
    let is = by_number u c.in_ok-id.id c.in_ok-id.number v read.2.0 read.2.1 in
    let few : term_count u ≤ term_count t.terms + terms_for_line (Listed v) = omega (arith, c.version_in.ensures.few) in
    on_ok_both c.list_at.result
    (λ add may. (
      v,
      read.1,
      subst (λ (ls : List Line). MayFollow ls (Listed v)) more.0 (subst (λ (x : Version). MayFollow (lines_in (record t { terms = u })) (Listed x)) is may),
      adds_over t u (Listed v) w c.requires.table c.version_in.ensures.grows c.ids_are_once.ensures few c.list_at.ensures.terms
          (λ keeps same. subst (λ (x : Version). Adds (record t { terms = u }) (Listed x) w) is add),
    ))
    c.list_at.ensures.ok c.list_at.ensures.placed

pub returns-clause-fault : goal.returns-clause-fault
returns-clause-fault c = λ e v written may.
    let u = c.version_in.new.self in
    let more = more_terms c.args.self.now u c.requires.table c.version_in.ensures.grows c.ids_are_once.ensures in
    let read = reads_ok (λ (x : NameId × ℕ) (v : Version). IsPackage u x.0 v.name × (x.1 ≡ v.number)) (c.in_ok-id.id, c.in_ok-id.number) (version_in (words_in c.args.words.now)) c.in_ok-id.ensures.version in
    let same : read.0 ≡ v = cc (read.1, written) in
    let is = by_number u c.in_ok-id.id c.in_ok-id.number read.0 read.2.0 read.2.1 ∙ same in
    c.list_at.ensures.fault e (subst (λ (x : Version). MayFollow (lines_in (record c.args.self.now { terms = u })) (Listed x)) (sym is) (subst (λ (ls : List Line). MayFollow ls (Listed v)) (sym more.0) may))
