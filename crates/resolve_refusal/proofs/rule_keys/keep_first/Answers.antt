use Rattle.std.proofs.Common.{◌≡◌, ◌∙◌, ℕ, List, Some, false, ap, subst, sym}
use Rattle.std.specs.Prelude.{is_some}
use Rattle.std.specs.BTreeMap.{get_by_text}
use Rattle.std.specs.String.{string_bytes}
use Rattle.std.specs.Str.{bytes_eq}
use Rattle.std.proofs.lemmas.Map.Text.{btree_map_updates_text}
use Rattle.resolve_refusal.specs.FirstLines.{first_or}
use Rattle.resolve_refusal.proofs.FirstLemmas.{kept_first, put_first}
use Rattle.resolve_refusal.proofs.rule_keys.keep_first.Goals as goal

pub returns-then-contains_key-clause-first : goal.returns-then-contains_key-clause-first
returns-then-contains_key-clause-first c = kept_first (λ q. get_by_text c.args.lines.now q) c.args.text.now c.args.line (sym c.contains_key.ensures ∙ c.if-contains_key.true)

pub returns-clause-first : goal.returns-clause-first
returns-clause-first c =
    let lines = c.args.lines.now in
    let bytes = string_bytes c.in_ok-text.text in
    let same : bytes ≡ c.args.text.now = c.in_ok-text.ensures.ok in
    let none : is_some (get_by_text lines bytes) ≡ false = ap (λ (x : List ℕ). is_some (get_by_text lines x)) same ∙ (sym c.contains_key.ensures ∙ c.if-contains_key.false) in
    subst (λ (t : List ℕ). (q : List ℕ) → get_by_text c.insert.new.self q ≡ first_or (get_by_text lines q) (bytes_eq q t) c.args.line) same
    (put_first (λ q. get_by_text lines q) (λ q. get_by_text c.insert.new.self q) bytes c.args.line none (btree_map_updates_text bytes lines c.insert.new.self (Some c.args.line) c.in_ok-insert.ensures.updates))
