use Rattle.std.proofs.Common.{◌≡◌, ◌+◌, ◌≤◌, ◌<◌, ℕ, List, [], length, get_or, sym, subst, arith}
use Rattle.std.proofs.lemmas.Option.{get_or_from_slice_get, slice_get_within}
use Rattle.std.proofs.lemmas.Result.{on_ok_weaker}
use Rattle.resolvo_text.specs.Line.{Line, Listed}
use Rattle.resolvo_terms.specs.TermCounts.{term_count, terms_for_line}
use Rattle.resolvo_catalogue_core.specs.Grammar.{MayFollow}
use Rattle.resolvo_catalogue_core.specs.Listed.{version_by}
use Rattle.resolvo_catalogue_core.specs.Table.{Adds, lines_in}
use Rattle.resolvo_catalogue_core.proofs.TableSteps.{adds_over, more_terms}
use Rattle.resolvo_catalogue_core.proofs.table.Table.list.Goals as goal

pub list_at-requires : goal.list_at-requires
list_at-requires c =
    let more = more_terms c.args.self.now c.package.new.self c.requires.table c.package.ensures.grows c.ids_are_once.ensures in
    record {
      table = more.1;
      short = subst (λ (ls : List Line). length ls < 16777216) (sym more.0) c.requires.short;
      named = slice_get_within c.package.new.self.names c.in-Ok.id.raw c.args.name.now c.in-Ok.ensures.«package»;
    }

pub returns-clause-ok : goal.returns-clause-ok
returns-clause-ok c =
    let t = c.args.self.now in
    let u = c.package.new.self in
    let l : Line = Listed (version_by c.args.name.now c.args.number) in
    let is : get_or u.names c.in-Ok.id.raw [] ≡ c.args.name.now = get_or_from_slice_get u.names c.in-Ok.id.raw c.args.name.now [] c.in-Ok.ensures.«package» in
    let few : term_count u ≤ term_count t.terms + terms_for_line l = omega (arith, c.package.ensures.few) in
    on_ok_weaker c.list_at.result (λ add. adds_over t u l c.list_at.new.self c.requires.table c.package.ensures.grows c.ids_are_once.ensures few c.list_at.ensures.terms
    (λ keeps same. subst (λ (name : List ℕ). Adds (record t { terms = u }) (Listed (version_by name c.args.number)) c.list_at.new.self) is add)) c.list_at.ensures.ok

pub returns-clause-placed : goal.returns-clause-placed
returns-clause-placed c =
    let u = c.package.new.self in
    let more = more_terms c.args.self.now u c.requires.table c.package.ensures.grows c.ids_are_once.ensures in
    let is : get_or u.names c.in-Ok.id.raw [] ≡ c.args.name.now = get_or_from_slice_get u.names c.in-Ok.id.raw c.args.name.now [] c.in-Ok.ensures.«package» in
    on_ok_weaker c.list_at.result (λ may. subst (λ (name : List ℕ). MayFollow (lines_in c.args.self.now) (Listed (version_by name c.args.number))) is (subst (λ (ls : List Line). MayFollow ls (Listed (version_by (get_or u.names c.in-Ok.id.raw []) c.args.number))) more.0 may)) c.list_at.ensures.placed

pub returns-clause-fault : goal.returns-clause-fault
returns-clause-fault c = λ e may.
    let u = c.package.new.self in
    let more = more_terms c.args.self.now u c.requires.table c.package.ensures.grows c.ids_are_once.ensures in
    let is : get_or u.names c.in-Ok.id.raw [] ≡ c.args.name.now = get_or_from_slice_get u.names c.in-Ok.id.raw c.args.name.now [] c.in-Ok.ensures.«package» in
    c.list_at.ensures.fault e (subst (λ (name : List ℕ). MayFollow (lines_in (record c.args.self.now { terms = u })) (Listed (version_by name c.args.number))) (sym is) (subst (λ (ls : List Line). MayFollow ls (Listed (version_by c.args.name.now c.args.number))) (sym more.0) may))
