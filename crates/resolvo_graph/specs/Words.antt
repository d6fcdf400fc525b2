-- The wording of the message's lines.
use Rattle.std.specs.Prelude.{ℕ, ◌==◌, ◌++◌, Bool, true, false, List, [], codes, length}
use Rattle.resolvo_pool_core.specs.declared.id.StringId.{StringId}
use Rattle.resolvo_pool_core.specs.declared.id.VersionSetId.{VersionSetId}
use Rattle.resolvo_pool_core.specs.declared.id.VersionSetUnionId.{VersionSetUnionId}
use Rattle.resolvo_pool_core.specs.declared.provider.Interner as interner
use Rattle.resolvo_pool_core.specs.declared.requirement.Requirement.{Requirement}
use Rattle.resolvo_pool_core.specs.Text.{set_text, requirement_text}
use Rattle.resolvo_graph.specs.declared.display_line.Outlook.{Outlook}
use Rattle.resolvo_graph.specs.declared.display_line.Outlook.TheVariants.{Missing, Installable, Hopeless}
use Rattle.resolvo_graph.specs.declared.display_line.Verdict.{Verdict}
use Rattle.resolvo_graph.specs.declared.display_line.Verdict.TheVariants.{Alone, Excluded, Conflicts, Constrains, Requires, Locked}
use Rattle.resolvo_graph.specs.declared.display_line.Sentence.{Sentence}
use Rattle.resolvo_graph.specs.declared.display_line.Sentence.TheVariants as Sentences
use Rattle.resolvo_graph.specs.declared.display_line.MessageLine.{MessageLine}
use Rattle.resolvo_graph.specs.Indent.{indent_text}

-- the meaning of ids, and their texts
pub record Meaning (N S : Type 0) : Type 0 where
  pub name_of : VersionSetId → N
  pub members_of : VersionSetUnionId → List VersionSetId
  pub name_text : N → List ℕ
  pub version_set_text : VersionSetId → List ℕ
  pub versions_text : List S → List ℕ
  pub word_text : StringId → List ℕ

-- the meaning by an interner's members; the last six types are those of its ids' maps and sets
abbrev pub meaning_by : {A N S B C D E F G : Type 0} → interner.Ghosts A N S B C D E F G → A → Meaning N S
meaning_by g i = record {
  name_of = g.name_of_version_set i;
  members_of = g.members_of i;
  name_text = g.name_text i;
  version_set_text = g.version_set_text i;
  versions_text = g.merged_text i;
  word_text = g.string_text i;
}

-- before a requirement, at the top and below
unfoldable pub words_before : Bool → Outlook → List ℕ
words_before true Missing = codes "No candidates were found for "
words_before true Installable = codes ""
words_before true Hopeless = codes ""
words_before false outlook = codes ""

-- behind a requirement, at the top and below
unfoldable pub words_behind : Bool → Outlook → List ℕ
words_behind true Missing = codes "."
words_behind true Installable = codes " can be installed with any of the following options:"
words_behind true Hopeless = codes " cannot be installed because there are no viable options:"
words_behind false Missing = codes ", for which no candidates were found."
words_behind false Installable = codes ", which can be installed with any of the following options:"
words_behind false Hopeless = codes ", which cannot be installed because there are no viable options:"

-- behind versions, before a reason
unfoldable pub words_of : Verdict → List ℕ
words_of Alone = codes ""
words_of (Excluded why) = codes " is excluded because "
words_of Conflicts = codes ", which conflicts with the versions reported above."
words_of Constrains = codes " would constrain"
words_of Requires = codes " would require"
words_of Locked = codes " is locked, but another version is required as reported above"

module _ {N S : Type 0} (m : Meaning N S) where
  -- a version set: its package's name, a space, and its range
  abbrev pub set_words : VersionSetId → List ℕ
  set_words v = set_text m.name_text m.version_set_text m.name_of v

  abbrev pub requirement_words : Bool → Requirement → Outlook → List ℕ
  requirement_words top q outlook = words_before top outlook ++ (requirement_text set_words m.members_of q ++ words_behind top outlook)

  -- the reason of an exclusion
  abbrev pub reason_words : Verdict → List ℕ
  reason_words Alone = []
  reason_words (Excluded why) = m.word_text why
  reason_words Conflicts = []
  reason_words Constrains = []
  reason_words Requires = []
  reason_words Locked = []

  abbrev pub versions_words : List S → Verdict → List ℕ
  versions_words ids verdict = m.versions_text ids ++ (words_of verdict ++ reason_words verdict)

  abbrev pub admitted_words : VersionSetId → List ℕ
  admitted_words v = set_words v ++ codes ", which conflicts with any installable versions previously reported"

  abbrev pub constraint_words : VersionSetId → List ℕ
  constraint_words v = codes "the constraint " ++ (set_words v ++ codes " cannot be fulfilled")

  abbrev pub sentence_words : Bool → Sentence S → List ℕ
  sentence_words top Sentences.Incompatible = codes "The following packages are incompatible"
  sentence_words top (Sentences.Requirement q outlook) = requirement_words top q outlook
  sentence_words top (Sentences.Versions ids verdict) = versions_words ids verdict
  sentence_words top (Sentences.Admitted v) = admitted_words v
  sentence_words top (Sentences.Constraint v) = constraint_words v

  -- an indent, a sentence, a newline; a line of one level is at the top
  abbrev pub line_text : MessageLine S → List ℕ
  line_text l = indent_text l.indenter ++ (sentence_words (length l.indenter.levels == 1) l.sentence ++ codes "\n")
