use Rattle.std.proofs.Common.{◌≡◌, ◌∙◌, ◌<◌, ℕ, Bool, false, List, length, Option, Some, None, sym, ap, rules, arith}
use Rattle.std.specs.Prelude.{slice_get}
use Rattle.std.proofs.lemmas.Option.{slice_get_within, slice_get-get_or}
use Rattle.resolvo_catalogue_core.specs.Listed.{listed}
use Rattle.resolvo_text.specs.Line.{Version}
use Rattle.resolvo_catalogue_core.specs.declared.rule.VersionNo.{VersionNo}
use Rattle.resolve_order.specs.Numbers.{version_in}
use Rattle.resolve_order.specs.Kept.{first_of, numbers_in, by_name, AreNumbersOf}
use Rattle.resolve_order.specs.declared.version_table.VersionTable.{VersionTable}
use Rattle.resolve_order.proofs.chosen.Chosen.new.Goals as goal

-- an empty table has the versions of an empty set
no_numbers : (versions : List Version) (P : Version → Type 0) (name : List ℕ) (t : VersionTable) → ((k n : ℕ) → version_in t k n ≡ None) → ((v : Version) → P v → ⊥) → AreNumbersOf versions P name (by_name versions t name)
no_numbers versions P name t none never = λ number k. (λ e. absurd (nothing (first_of versions name) number k e), λ f. absurd (never f.0 f.4))
  where
    some_none : (k : VersionNo) → ◌≡◌ {A = Option VersionNo} (Some k) None → ⊥
    some_none k e = cc

    nothing : (o : Option ℕ) (number : ℕ) (k : VersionNo) → numbers_in t o number ≡ Some k → ⊥
    nothing None number k e = some_none k (sym e)
    nothing (Some p) number k e = some_none k (sym e ∙ none p number)

pub returns : goal.returns
returns c = record {
  unlisted = λ name. no_numbers _ _ name c.new.result c.new.ensures (search rules);
  entered = λ name. no_numbers _ _ name c.new-2.result c.new-2.ensures (search rules);
  favoured = search rules;
  flags = λ n v at. flag n (slice_get_within (listed c.args.catalogue.now) n v at);
  distinct = search rules;
  among = search rules;
  known = search rules;
  left = search rules;
}
  where
    flag : (n : ℕ) → n < length (listed c.args.catalogue.now) → slice_get c.resize.new.self.items n ≡ Some false
    flag n within =
        let low : n < c.len.result = omega (arith, within, c.len.ensures, ap length c.versions.ensures.listed) in
        slice_get-get_or c.resize.new.self.items n false (omega (arith, low, c.in_ok-resize.ensures.len, c.resize.new.self.ok))
        ∙ ap (λ (b : Bool). let x : Option Bool = Some b in x) (c.resize.ensures.by_index.1 n false (search rules) (omega arith) low)
