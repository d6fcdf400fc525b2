use Rattle.std.proofs.Common.{◌≡◌, ◌∙◌, List, ℕ, true, false, not, ◌==◌, length, is_some, Some, sym, subst}
use Rattle.std.specs.Map.{update}
use Rattle.std.specs.Str.{bytes_eq}
use Rattle.std.specs.BTreeMap.{get_by_text}
use Rattle.std.specs.String.{string_bytes}
use Rattle.std.proofs.lemmas.Map.Text.{btree_map_updates_text}
use Rattle.resolvo_catalogue_core.specs.Table.{package_named, numbers_in}
use Rattle.resolvo_catalogue_core.proofs.TableSteps.{mark_many}
use Rattle.resolvo_catalogue_core.proofs.PlaceLemmas.{many_placed, many_twice, many_below}
use Rattle.resolvo_catalogue_core.proofs.ManyLemmas.{first_number, no_numbers}
use Rattle.resolvo_catalogue_core.proofs.table.Table.mark_many.Goals as goal

pub returns-then-is_many-clause-fault : goal.returns-then-is_many-clause-fault
returns-then-is_many-clause-fault c = λ e.
    many_twice c.args.self.now c.requires.table (string_bytes c.args.name)
    (subst (λ (x : List ℕ). is_some (get_by_text c.args.self.now.many x) ≡ true) c.deref.ensures (sym c.is_many.ensures ∙ c.if-is_many.true))

pub returns-then-lists_package-clause-fault : goal.returns-then-lists_package-clause-fault
returns-then-lists_package-clause-fault c =
    let name = string_bytes c.args.name in
    let some = first_number (numbers_in (package_named c.args.self.now name))
    (subst (λ (x : List ℕ). not (length (numbers_in (package_named c.args.self.now x)) == 0) ≡ true) c.deref-2.ensures (sym c.lists_package.ensures ∙ c.if-lists_package.true)) in
    λ e. many_below c.args.self.now c.requires.table name some.0 some.1

pub returns-clause-placed : goal.returns-clause-placed
returns-clause-placed c =
    let name = string_bytes c.args.name in
    many_placed c.args.self.now c.requires.table name
    (subst (λ (x : List ℕ). is_some (get_by_text c.args.self.now.many x) ≡ false) c.deref.ensures (sym c.is_many.ensures ∙ c.if-is_many.false))
    (no_numbers (numbers_in (package_named c.args.self.now name))
    (subst (λ (x : List ℕ). not (length (numbers_in (package_named c.args.self.now x)) == 0) ≡ false) c.deref-2.ensures (sym c.lists_package.ensures ∙ c.if-lists_package.false)))

pub returns-clause-ok : goal.returns-clause-ok
returns-clause-ok c =
    let t = c.args.self.now in
    let marked = btree_map_updates_text (string_bytes c.in_ok-clone.field-0) t.many c.insert.new.self (Some c.args.line) c.in_ok-insert.ensures.updates in
    mark_many t (record t { line_kinds = c.push_marked.new.self; many = c.insert.new.self }) c.args.line c.args.name c.requires.table c.requires.line
    (subst (λ (x : List ℕ). is_some (get_by_text t.many x) ≡ false) c.deref.ensures (sym c.is_many.ensures ∙ c.if-is_many.false)) c.in_ok-push_marked.ensures
    (subst (λ (bs : List ℕ). (other : List ℕ) → get_by_text c.insert.new.self other ≡ update bytes_eq (get_by_text t.many) bs (Some c.args.line) other) c.in_ok-clone.ensures.cases marked)
