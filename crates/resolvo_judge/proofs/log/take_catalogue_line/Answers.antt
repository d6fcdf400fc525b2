use Rattle.resolvo_judge.proofs.LogLemmas.{catalogue_line_more}
use Rattle.resolvo_judge.proofs.log.take_catalogue_line.Goals as goal

pub returns-clause-represents : goal.returns-clause-represents
returns-clause-represents c = λ fine request clauses above s.
    catalogue_line_more c.args.catalogue.now request c.args.log.now.checker.numbers clauses c.args.log.now.checker.places.items c.args.log.now.checker.rules c.args.log.now.scope c.args.log.now.ends_empty above s
    c.name_catalogue.new.scope c.args.line (c.in_ok-fine.ensures.named fine) (c.in_ok-fine.ensures.others fine)
