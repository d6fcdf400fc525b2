use Rattle.std.proofs.Common.{ℕ, List}
use Rattle.resolvo_text.specs.Reader.{left, TakesLine, EndsLine}
use Rattle.resolvo_text.proofs.PlaceLemmas.{line_in_place, ends_in_place, of_copied}
use Rattle.resolvo_text.proofs.lines.LineReader.next_line.Goals as goal

pub returns-in-Some-clause-taken : goal.returns-in-Some-clause-taken
returns-in-Some-clause-taken g c = λ yes. line_in_place c.args.self.now c.take_in_place.new.self (g.S.Source.left c.args.source.now) c.take_in_place.ensures

pub returns-in-Some-clause-ending : goal.returns-in-Some-clause-ending
returns-in-Some-clause-ending g c = λ yes. ends_in_place c.args.self.now c.take_in_place.new.self (g.S.Source.left c.args.source.now) c.take_in_place.ensures

pub returns-clause-taken : goal.returns-clause-taken
returns-clause-taken g c =
    let s = c.take_across.new.self in
    of_copied c.take_across.result s (λ (line : List ℕ). TakesLine (left c.args.self.now (g.S.Source.left c.args.source.now)) c.args.self.now.room line (left s (g.S.Source.left c.take_across.new.source)) s.room) c.take_across.ensures.copied c.take_across.ensures.taken

pub returns-clause-ending : goal.returns-clause-ending
returns-clause-ending g c =
    let s = c.take_across.new.self in
    of_copied c.take_across.result s (λ (line : List ℕ). EndsLine s.whole (left c.args.self.now (g.S.Source.left c.args.source.now)) c.args.self.now.room line (left s (g.S.Source.left c.take_across.new.source)) s.room) c.take_across.ensures.copied c.take_across.ensures.ending
