-- What takes the lines of a message.
use Rattle.std.specs.Prelude.{◌++◌, List}
use Rattle.resolvo_graph.specs.declared.display_line.MessageLine.{MessageLine}

module _ {W S : Type 0} (took : W → List (MessageLine S) → W → Type 0) where
  -- from one state to another it took these lines, after those that it took before
  abbrev pub Adds : W → List (MessageLine S) → W → Type 0
  Adds old lines new = (start : W) (before : List (MessageLine S)) → took start before old → took start (before ++ lines) new

  -- whichever lines come next, it stays in this state
  abbrev pub Stays : W → Type 0
  Stays full = (lines : List (MessageLine S)) → Adds full lines full
