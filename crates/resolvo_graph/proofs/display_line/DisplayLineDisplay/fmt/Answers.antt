use Rattle.std.proofs.Common.{refl}
use Rattle.std.proofs.lemmas.Grind.{put_three}
use Rattle.resolvo_graph.proofs.display_line.DisplayLineDisplay.fmt.Goals as goal

pub returns-clause-writes : goal.returns-clause-writes
returns-clause-writes g c plain ok =
    let indent = c.in_ok-write.ensures.writes plain refl in
    let sentence = c.in_ok-write_sentence.ensures indent.plain refl in
    put_three g.W.Write.write_str_gives _ _ _ _ _ _ _ _ indent sentence (c.write_str.ensures.writes sentence.plain ok) refl
