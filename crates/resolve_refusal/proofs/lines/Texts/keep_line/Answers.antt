use Rattle.std.proofs.Common.{◌∙◌, List, Global, map, ap}
use Rattle.std.specs.BTreeMap.{get_by_text}
use Rattle.std.specs.Set.{is_member}
use Rattle.std.specs.Str.{bytes_eq}
use Rattle.std.specs.String.{string_bytes}
use Rattle.std.specs.declared.string.String.{String}
use Rattle.resolve_refusal.specs.FirstLines.{first_or}
use Rattle.resolve_refusal.proofs.lines.Texts.keep_line.Goals as goal

pub returns-clause-first : goal.returns-clause-first
returns-clause-first c = (
  map string_bytes c.in_ok-keys.keys.items,
  c.in_ok-keys.ensures.keys,
  λ q. c.in_ok-keep_all.ensures.first q ∙ ap (λ (ks : List (String Global)). first_or (get_by_text c.args.first.now q) (is_member bytes_eq (map string_bytes ks) q) c.args.line) c.as_slice.ensures.value,
)
