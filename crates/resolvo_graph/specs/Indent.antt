-- The indent of a line of the message.
use Rattle.std.specs.Prelude.{ℕ, ◌++◌, Bool, true, false, List, [], ◌∷◌, cond, drop, replicate}
use Rattle.std.specs.List.{flat_map}
use Rattle.resolvo_graph.specs.declared.indenter.ChildOrder.{ChildOrder}
use Rattle.resolvo_graph.specs.declared.indenter.ChildOrder.TheVariants.{HasRemainingSiblings, Last}
use Rattle.resolvo_graph.specs.declared.indenter.FirstLevel.{FirstLevel}
use Rattle.resolvo_graph.specs.declared.indenter.FirstLevel.TheVariants.{Shown, Hidden, Awaited}
use Rattle.resolvo_graph.specs.declared.indenter.Stretch.{Stretch}

-- the levels of a line, the topmost first
pub record Indent : Type 0 where
  pub levels : List ChildOrder
  pub top_level_indent : Bool

-- the levels of a stretch: one, and as many more
abbrev pub levels_in : Stretch → List ChildOrder
levels_in s = s.order ∷ replicate s.more s.order

-- the levels by the first one and the stretches of those that have a sign
abbrev pub levels_with : FirstLevel → List Stretch → List ChildOrder
levels_with Shown ss = flat_map levels_in ss
levels_with (Hidden o) ss = o ∷ flat_map levels_in ss
levels_with Awaited ss = []

abbrev pub has_sign : FirstLevel → Bool
has_sign Shown = true
has_sign (Hidden o) = false
has_sign Awaited = false

-- the sign of the line's own level, in UTF-8: a tee or a corner, a dash, a space
abbrev pub own_sign : ChildOrder → List ℕ
own_sign HasRemainingSiblings = 226 ∷ 148 ∷ 156 ∷ 226 ∷ 148 ∷ 128 ∷ 32 ∷ []
own_sign Last = 226 ∷ 148 ∷ 148 ∷ 226 ∷ 148 ∷ 128 ∷ 32 ∷ []

-- the sign of a level above: a bar and two spaces, or three spaces
abbrev pub sign_above : ChildOrder → List ℕ
sign_above HasRemainingSiblings = 226 ∷ 148 ∷ 130 ∷ 32 ∷ 32 ∷ []
sign_above Last = 32 ∷ 32 ∷ 32 ∷ []

-- the levels that have a sign: all, or all but the first
abbrev pub shown_levels : Indent → List ChildOrder
shown_levels i = cond i.top_level_indent i.levels (drop 1 i.levels)

-- the signs of the levels above, then the line's own
abbrev pub signs : List ChildOrder → List ℕ
signs [] = []
signs (o ∷ []) = own_sign o
signs (o ∷ p ∷ os) = sign_above o ++ signs (p ∷ os)

abbrev pub indent_text : Indent → List ℕ
indent_text i = signs (shown_levels i)

-- the indent with one level more
abbrev pub level_below : Indent → ChildOrder → Indent
level_below i order = record i { levels = i.levels ++ order ∷ [] }
