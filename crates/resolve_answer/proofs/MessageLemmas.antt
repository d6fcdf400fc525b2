-- The lines of a message are the text of its graph.
use Rattle.std.proofs.Common.{◌≡◌, ℕ, Bool, List, ◌++◌, length, sym, ◌∙◌, ap, subst, append_assoc}
use Rattle.std.specs.Prelude.{◌==◌, codes}
use Rattle.resolvo_pool_core.specs.declared.requirement.Requirement.{Requirement}
use Rattle.resolvo_graph.specs.Graph.{Graph}
use Rattle.resolvo_graph.specs.Indent.{indent_text}
use Rattle.resolvo_graph.specs.Message.{IsMessage, text_of}
use Rattle.resolvo_graph.specs.Words.{line_text, sentence_words}
use Rattle.resolvo_graph.specs.declared.display_line.MessageLine.{MessageLine}
use Rattle.resolvo_proof.specs.declared.step.ProofStep.{ProofStep}
use Rattle.resolvo_terms.specs.Terms.{NameId}
use Rattle.resolvo_catalogue.specs.Ids.{SolvableId}
use Rattle.resolvo_catalogue.specs.Known.{name_of}
use Rattle.resolvo_catalogue.specs.Provider.{Provider}
use Rattle.resolvo_proof.specs.Draw.{conflict_drawing}
use Rattle.resolvo_proof.specs.Order.{conflict_rules}
use Rattle.resolve_answer.specs.Message.{AreLinesOf, IsTextOf, joined, meaning_of}
use Rattle.resolve_answer.proofs.JoinLemmas.{all_lines, each_ends, ends_line}

-- each line of a message ends with a newline
line_ends_so : (p : Provider) (l : MessageLine SolvableId) → (text : List ℕ) × (line_text (meaning_of p) l ≡ text ++ codes "\n")
line_ends_so p l = (_, sym (append_assoc (indent_text l.indenter) (sentence_words (meaning_of p) (length l.indenter.levels == 1) l.sentence) (codes "\n")))

-- so its lines are all
pub lines_joined : (p : Provider) (lines : List (MessageLine SolvableId)) (text : List ℕ) (message : List (List ℕ)) → text ≡ text_of (meaning_of p) lines → AreLinesOf text message → joined message ≡ text
lines_joined p lines text message bytes are = all_lines text message (ap ends_line bytes ∙ each_ends (line_text (meaning_of p)) (line_ends_so p) lines) are

pub text_lines : (same_name : NameId → NameId → Bool) (same : SolvableId → SolvableId → Bool) (p : Provider) (offered : Requirement → List SolvableId) (steps : List (ProofStep NameId SolvableId)) (g : Graph SolvableId) (lines : List (MessageLine SolvableId)) (text : List ℕ) (message : List (List ℕ))
    → g ≡ conflict_drawing same_name same (name_of p.ids) offered (conflict_rules steps) → IsMessage same_name same (name_of p.ids) g lines → text ≡ text_of (meaning_of p) lines → AreLinesOf text message → IsTextOf same_name same p offered steps message
text_lines same_name same p offered steps g lines text message drawn is_message bytes are = record {
  lines = lines;
  is_message = subst (λ (x : Graph SolvableId). IsMessage same_name same (name_of p.ids) x lines) drawn is_message;
  text = lines_joined p lines text message bytes are ∙ bytes;
  plain = are.plain;
}
