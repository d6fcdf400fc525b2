use Rattle.std.proofs.Common.{◌≡◌, ◌∙◌, inl, inr, ℕ, List, Option, Some, sym, ap, subst}
use Rattle.std.specs.Option.{option_map, option_and_then, is_some}
use Rattle.std.specs.BTreeMap.{BTreeMap, get}
use Rattle.std.specs.Ordering.{nat_cmp}
use Rattle.resolvo_text.specs.Line.{Version}
use Rattle.resolvo_text.specs.Matches.{is_in_span}
use Rattle.resolvo_text.specs.declared.spec.Span.{Span}
use Rattle.resolvo_catalogue_core.specs.Listed.{listed, version_by}
use Rattle.resolvo_catalogue_core.specs.declared.rule.VersionNo.{VersionNo}
use Rattle.resolve_order.specs.Numbers.{version_in}
use Rattle.resolve_order.specs.Kept.{first_of, favoured_in, IsFavouredOf, IsFavouredMatch}
use Rattle.resolve_order.proofs.PickLemmas.{favoured_none, favoured_known, favoured_found, favoured_other}
use Rattle.resolve_order.proofs.chosen.Chosen.favoured_match.Goals as goal
use Rattle.resolve_order.proofs.chosen.Chosen.favoured_match.Goals.{else-is_some-via-then-is_some+else-is_in_span, else-is_some-via-else-is_some}

-- what the map has for the package
has : (versions : List Version) (map : BTreeMap ℕ VersionNo) (name : List ℕ) (p : ℕ) (o : Option VersionNo) → first_of versions name ≡ Some p → get nat_cmp map p ≡ o → favoured_in versions map name ≡ o
has versions map name p o first is = ap (λ (x : Option ℕ). option_and_then (λ k. get nat_cmp map k) x) first ∙ is

pub returns-in_err-version : goal.returns-in_err-version
returns-in_err-version c = λ chosen entries s first span h are.
    let lines = c.args.catalogue.now in
    let is = has (listed lines) c.args.self.now.favoured s.name c.args.«package» _ first (sym c.favoured_of.ensures ∙ c.in_err-version.was) in
    subst (IsFavouredMatch lines chosen entries s) (sym c.from_residual.ensures) (favoured_none lines chosen entries s (subst (IsFavouredOf lines s.name) is (h.favoured s.name)))

pub returns-in_err-listed : goal.returns-in_err-listed
returns-in_err-listed c = λ chosen entries s first span h are.
    let lines = c.args.catalogue.now in
    let is = has (listed lines) c.args.self.now.favoured s.name c.args.«package» _ first (sym c.favoured_of.ensures ∙ c.in_ok-version.was) in
    let none = sym c.version_at.ensures ∙ ap (option_map (λ p. version_by p.0.now p.1)) c.in_err-listed.was in
    absurd (favoured_known lines s.name c.in_ok-version.version (subst (IsFavouredOf lines s.name) is (h.favoured s.name)) none)

pub returns-then-is_in_span : goal.returns-then-is_in_span
returns-then-is_in_span c = λ chosen entries s first span h are.
    let lines = c.args.catalogue.now in
    let is = has (listed lines) c.args.self.now.favoured s.name c.args.«package» _ first (sym c.favoured_of.ensures ∙ c.in_ok-version.was) in
    let at = sym c.version_at.ensures ∙ ap (option_map (λ p. version_by p.0.now p.1)) c.in_ok-listed.was in
    favoured_found lines chosen entries s (version_in c.args.self.now.unlisted c.args.«package») c.in_ok-version.version (version_by c.in_ok-listed.listed.0.now c.in_ok-listed.listed.1) (subst (IsFavouredOf lines s.name) is (h.favoured s.name)) are at
    (sym (c.is_some.ensures ∙ ap is_some c.get-chosen.ensures) ∙ c.if-is_some.true) (ap (λ (x : Span). is_in_span x c.in_ok-listed.listed.1) span ∙ sym c.is_in_span.ensures ∙ c.if-is_in_span.true)

pub returns-else-is_some : goal.returns-else-is_some
returns-else-is_some c = λ chosen entries s first span h are.
    let lines = c.args.catalogue.now in
    let is = has (listed lines) c.args.self.now.favoured s.name c.args.«package» _ first (sym c.favoured_of.ensures ∙ c.in_ok-version.was) in
    let at = sym c.version_at.ensures ∙ ap (option_map (λ p. version_by p.0.now p.1)) c.in_ok-listed.was in
    favoured_other lines chosen entries s (version_in c.args.self.now.unlisted c.args.«package») c.in_ok-version.version (version_by c.in_ok-listed.listed.0.now c.in_ok-listed.listed.1) (subst (IsFavouredOf lines s.name) is (h.favoured s.name)) are at
    (elim c.else-is_some.branch [
      | else-is_some-via-then-is_some+else-is_in_span w ↦ inr (ap (λ (x : Span). is_in_span x c.in_ok-listed.listed.1) span ∙ sym w.is_in_span.ensures ∙ w.if-is_in_span.false)
      | else-is_some-via-else-is_some w ↦ inl (sym (c.is_some.ensures ∙ ap is_some c.get-chosen.ensures) ∙ w.if-is_some.false)
    ])
