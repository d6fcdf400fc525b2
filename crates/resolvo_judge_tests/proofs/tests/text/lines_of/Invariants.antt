use Rattle.resolvo_judge_tests.proofs.tests.text.lines_of.Given as goal

abbrev pub decreases-loop-all : goal.decreases-loop-all
decreases-loop-all l = l.reader.room
