use Rattle.std.proofs.Common.{[], None, map, ap}
use Rattle.std.specs.BTreeMap.{get_by_text}
use Rattle.std.specs.String.{string_bytes}
use Rattle.resolve_refusal.proofs.FirstLemmas.{keys_at_line, no_keys_at}
use Rattle.resolve_refusal.proofs.lines.Texts.keys_at.Goals as goal

pub returns-in_ok-keys-in-Some-rule-clause-keys : goal.returns-in_ok-keys-in-Some-rule-clause-keys
returns-in_ok-keys-in-Some-rule-clause-keys c =
    let (l, at, states) = c.in-Some-rule.ensures.of_line in
    rw c.in-None.is (keys_at_line (λ q. get_by_text c.args.groups.now q) c.args.self.request.now.lines c.args.line l at (map string_bytes c.in_ok-keys-in-Some-rule.keys.items) (c.in_ok-keys-in-Some-rule.ensures.keys [] None l (states [])))

pub returns-in-None-rule-clause-keys : goal.returns-in-None-rule-clause-keys
returns-in-None-rule-clause-keys c = rw c.in-None.is (no_keys_at (λ q. get_by_text c.args.groups.now q) c.args.self.request.now.lines c.args.line c.in-None-rule.ensures.none (map string_bytes c.new.result.items) (ap (map string_bytes) c.new.ensures.items))

pub returns-in-Some-clause-keys : goal.returns-in-Some-clause-keys
returns-in-Some-clause-keys c = rw c.in-Some.is c.kept_keys.ensures.keys
