use Rattle.std.proofs.Common.{◌∙◌, Some, ap, sym}
use Rattle.std.proofs.lemmas.Option.{slice_get-get_or}
use Rattle.resolvo_encoder.proofs.encoder.Encoder.waiting.Goals as goal

pub returns : goal.returns
returns g c = slice_get-get_or c.args.self.now.deferred.items c.args.index c.index.result.now c.requires ∙ ap Some (sym c.index.ensures)
