use Rattle.std.proofs.Common.{ℕ, Option, sym, subst}
use Rattle.resolvo_catalogue_core.specs.Questions.{IsOnly, Excludes, IsVersionLine}
use Rattle.resolvo_catalogue_core.specs.Table.{lines_in, versions_in}
use Rattle.resolvo_catalogue_core.proofs.ForbidLemmas.{forbidden_by_lock, forbidden_by_exclusion}
use Rattle.resolvo_catalogue_core.proofs.table.Table.forbidden_as.Goals as goal

pub returns-in-Some : goal.returns-in-Some
returns-in-Some c = λ v at same. forbidden_by_lock (lines_in c.args.self.now) v c.in-Some.line (c.in-Some.ensures v at same)

pub returns-in-None : goal.returns-in-None
returns-in-None c = λ v at same.
    let excluded = subst (λ (o : Option ℕ). IsOnly o (IsVersionLine (versions_in c.args.self.now) (lines_in c.args.self.now) c.args.version.0 Excludes)) (sym c.excluded_by.ensures) (c.requires.excluded c.args.version.0) in
    forbidden_by_exclusion (versions_in c.args.self.now) (lines_in c.args.self.now) v c.args.version.0 c.excluded_by.result at (c.in-None.ensures v at same) excluded
