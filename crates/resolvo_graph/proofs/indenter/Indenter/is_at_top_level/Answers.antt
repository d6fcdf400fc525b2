use Rattle.std.proofs.Common.{◌∙◌, ap, sym, suc, length, List}
use Rattle.std.specs.Prelude.{◌==◌}
use Rattle.std.specs.List.{flat_map}
use Rattle.resolvo_graph.specs.declared.indenter.FirstLevel.{FirstLevel}
use Rattle.resolvo_graph.specs.declared.indenter.Stretch.{Stretch}
use Rattle.resolvo_graph.specs.Indent.{Indent, levels_in, levels_with}
use Rattle.resolvo_graph.proofs.indenter.Indenter.is_at_top_level.Goals as goal

pub returns-in-Hidden : goal.returns-in-Hidden
returns-in-Hidden c =
    c.is_none.ensures c.in-Hidden.field-0 ∙ ap (λ (ss : List Stretch). suc (length (flat_map levels_in ss)) == 1) c.as_slice-in-Hidden.ensures.value
    ∙ sym (ap (λ (f : FirstLevel). length (levels_with f c.self.inside.stretches.items) == 1) c.in-Hidden.is) ∙ ap (λ (i : Indent). length i.levels == 1) c.self.view_is
