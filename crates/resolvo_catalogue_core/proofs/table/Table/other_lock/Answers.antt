use Rattle.std.proofs.Common.{sym, ◌∙◌}
use Rattle.resolvo_catalogue_core.proofs.ForbidLemmas.{other_lock, own_lock, no_lock}
use Rattle.resolvo_catalogue_core.proofs.NameMarks.{marked_at}
use Rattle.resolvo_catalogue_core.proofs.table.Table.other_lock.Goals as goal

pub returns-then-locks_another : goal.returns-then-locks_another
returns-then-locks_another c = λ v at called.
    let t = c.args.self.now in
    let found = marked_at t.terms.names t.locks v.name c.args.name.raw c.requires.sound.names called in
    other_lock t c.requires v c.args.version.0 c.in-Some.line at (found ∙ sym c.lock_of.ensures ∙ c.in-Some.is) (sym c.locks_another.ensures ∙ c.if-locks_another.true)

pub returns-else-locks_another : goal.returns-else-locks_another
returns-else-locks_another c = λ v at called.
    let t = c.args.self.now in
    let found = marked_at t.terms.names t.locks v.name c.args.name.raw c.requires.sound.names called in
    own_lock t c.requires v c.args.version.0 c.in-Some.line at (found ∙ sym c.lock_of.ensures ∙ c.in-Some.is) (sym c.locks_another.ensures ∙ c.if-locks_another.false)

pub returns-in-None : goal.returns-in-None
returns-in-None c = λ v at called.
    let t = c.args.self.now in
    let found = marked_at t.terms.names t.locks v.name c.args.name.raw c.requires.sound.names called in
    no_lock t c.requires v (found ∙ sym c.lock_of.ensures ∙ c.in-None.is)
