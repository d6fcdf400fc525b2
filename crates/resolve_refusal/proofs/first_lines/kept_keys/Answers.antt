use Rattle.std.proofs.Common.{◌≡◌, Option, Some, map, ap, subst}
use Rattle.std.specs.Prelude.{IfSome, IfNone, false}
use Rattle.std.specs.BTreeMap.{get_by_text}
use Rattle.std.specs.String.{string_bytes}
use Rattle.resolvo_text.specs.Line.{Line}
use Rattle.resolvo_catalogue_core.specs.Grammar.{line_at, owner_of}
use Rattle.resolvo_catalogue_core.specs.Listed.{listed}
use Rattle.resolvo_catalogue_core.specs.Questions.{IsRuleLine, is_rule}
use Rattle.resolvo_catalogue_core.specs.declared.rule.Rule.{Rule}
use Rattle.resolve_refusal.proofs.FirstLemmas.{keys_at_line, no_keys_at}
use Rattle.resolve_refusal.proofs.first_lines.kept_keys.Goals as goal

pub returns-in_ok-keys-in-Some-clause-keys : goal.returns-in_ok-keys-in-Some-clause-keys
returns-in_ok-keys-in-Some-clause-keys c =
    let lines = c.args.catalogue.now in
    let n = c.args.line in
    let (l, at, is) = subst (λ (o : Option Rule). IfSome o (λ r. (l : Line) × (line_at lines n ≡ Some l) × IsRuleLine (listed lines) r (owner_of lines n) l)) c.in-Some.is c.in_ok-found.ensures.of_line in
    keys_at_line (λ q. get_by_text c.args.groups.now q) lines n l at (map string_bytes c.in_ok-keys-in-Some.keys.items) (c.in_ok-keys-in-Some.ensures.keys (listed lines) (owner_of lines n) l is)

pub returns-in-None-clause-keys : goal.returns-in-None-clause-keys
returns-in-None-clause-keys c =
    let lines = c.args.catalogue.now in
    let n = c.args.line in
    let none = subst (λ (o : Option Rule). IfNone o ((l : Line) → line_at lines n ≡ Some l → is_rule l ≡ false)) c.in-None.is c.in_ok-found.ensures.none in
    no_keys_at (λ q. get_by_text c.args.groups.now q) lines n none (map string_bytes c.new.result.items) (ap (map string_bytes) c.new.ensures.items)
