use Rattle.resolvo_text.specs.View.{version_of}
use Rattle.resolvo_judge.proofs.VersionLemmas.{on_ok, adds_all}
use Rattle.resolvo_judge.proofs.versions.Versions.add.Goals as goal

pub returns : goal.returns
returns c = on_ok c.add_number.result c.add_number.ensures (λ adds set h. adds_all c.args.self.now (record { numbers = c.add_number.new.numbers }) (version_of c.args.version.now) set adds h)
