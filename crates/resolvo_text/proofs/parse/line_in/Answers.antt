use Rattle.std.proofs.Common.{◌≡◌, ℕ, List, Result, Ok, Err}
use Rattle.std.specs.Prelude.{IfOk}
use Rattle.resolvo_text.specs.declared.line.Line as code
use Rattle.resolvo_text.specs.declared.line.LineFault.{LineFault}
use Rattle.resolvo_text.specs.declared.line.LineFault.TheVariants.{Fault, Memory}
use Rattle.resolvo_text.specs.Line as parsed
use Rattle.resolvo_text.specs.Spelling.{SpellsLine}
use Rattle.resolvo_text.specs.View.{view}
use Rattle.resolvo_text.specs.Parse.{Gives, line_in}
use Rattle.resolvo_text.proofs.TextLaws.{line_takes, spells_none}
use Rattle.resolvo_text.proofs.parse.line_in.Goals as goal

-- the text spells the line that was read
ok_spells : (text : List ℕ) (r : Result code.Line LineFault) → Gives view r (line_in text) → IfOk r (λ line. SpellsLine text (view line))
ok_spells text (Ok line) h = line_takes text (view line) h
ok_spells text (Err e) h = tt

-- at a fault the text spells no line
fault_spells : (text : List ℕ) (r : Result code.Line LineFault) → Gives view r (line_in text) → r ≡ Err Fault → (line : parsed.Line) → SpellsLine text line → ⊥
fault_spells text (Ok line) h e = absurd cc
fault_spells text (Err Fault) h e = spells_none text h
fault_spells text (Err Memory) h e = absurd cc

pub returns-clause-parsed : goal.returns-clause-parsed
returns-clause-parsed c = ok_spells c.args.text.now c.line_read.result c.line_read.ensures

pub returns-clause-fault : goal.returns-clause-fault
returns-clause-fault c = fault_spells c.args.text.now c.line_read.result c.line_read.ensures
