-- What takes the lines of a message, over some calls.
use Rattle.std.proofs.Common.{◌≡◌, List, [], ◌∷◌, ◌++◌, sym, ap, subst, ◌∙◌, append_assoc}
use Rattle.std.proofs.lemmas.List.{append-nil}
use Rattle.resolvo_graph.specs.declared.display_line.MessageLine.{MessageLine}
use Rattle.resolvo_graph.specs.Sink.{Adds}

module _ {W S : Type 0} (took : W → List (MessageLine S) → W → Type 0) where
  -- no line
  pub adds_none : (w : W) → Adds took w [] w
  adds_none w start before t = subst (λ xs. took start xs w) (sym (append-nil before)) t

  -- some lines, then others
  pub adds_both : (u v w : W) (xs ys : List (MessageLine S)) → Adds took u xs v → Adds took v ys w → Adds took u (xs ++ ys) w
  adds_both u v w xs ys first second start before t = subst (λ ls. took start ls w) (append_assoc before xs ys) (second start (before ++ xs) (first start before t))

  -- equal lines
  pub adds_same : (u v : W) (xs ys : List (MessageLine S)) → xs ≡ ys → Adds took u xs v → Adds took u ys v
  adds_same u v xs ys is adds = subst (λ ls. Adds took u ls v) is adds

  -- from a start at which it took nothing
  pub added : (start end : W) (lines : List (MessageLine S)) → took start [] start → Adds took start lines end → took start lines end
  added start end lines none adds = adds start [] none
