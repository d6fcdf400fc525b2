use Rattle.std.proofs.Common.{◌∙◌, sym}
use Rattle.resolvo_text.specs.View.{version_of, spec_of}
use Rattle.resolvo_text.specs.Matches.{matches}
use Rattle.resolvo_judge.proofs.EntryLemmas.{any_map}
use Rattle.resolvo_judge.proofs.entries.one_matches.Goals as goal

pub returns : goal.returns
returns c = c.any_matches.ensures ∙ any_map spec_of (λ s. matches s (version_of c.args.version.now)) c.args.alternatives.now

pub returns-then-matches_at : goal.returns-then-matches_at
returns-then-matches_at c = sym (c.matches_at.ensures c.if-matches_at.true) ∙ any_map spec_of (λ s. matches s (version_of c.args.version.now)) c.args.alternatives.now
