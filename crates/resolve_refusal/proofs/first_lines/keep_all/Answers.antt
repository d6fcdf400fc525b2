use Rattle.std.proofs.Common.{◌≡◌, List, Global, map, subst}
use Rattle.std.specs.BTreeMap.{get_by_text}
use Rattle.std.specs.Set.{is_member}
use Rattle.std.specs.Str.{bytes_eq}
use Rattle.std.specs.String.{string_bytes}
use Rattle.std.specs.declared.string.String.{String}
use Rattle.std.proofs.lemmas.List.{take_all}
use Rattle.resolve_refusal.specs.FirstLines.{first_or}
use Rattle.resolve_refusal.proofs.FirstLemmas.{keys_more, put_none}
use Rattle.resolve_refusal.proofs.first_lines.keep_all.Goals as goal

pub loop-key-preserved : goal.loop-key-preserved
loop-key-preserved c = keys_more (λ q. get_by_text c.args.lines.now q) (λ q. get_by_text c.loop-key.lines q) (λ q. get_by_text c.keep_first.new.lines q) c.args.keys.now c.loop-key.key-index c.key-item.result c.as_str.result.now c.args.line c.loop-key-test.true c.key-item.is c.as_str.ensures.value c.loop-key.invariant c.in_ok-keep_first.ensures.first

pub loop-key-init : goal.loop-key-init
loop-key-init c = λ q. put_none (get_by_text c.args.lines.now q) c.args.line

pub returns-clause-first : goal.returns-clause-first
returns-clause-first c = λ q. subst (λ (ks : List (String Global)). get_by_text c.loop-key.lines q ≡ first_or (get_by_text c.args.lines.now q) (is_member bytes_eq (map string_bytes ks) q) c.args.line) (take_all c.loop-key.key-index c.args.keys.now c.loop-key-test.false) (c.loop-key.invariant q)
