-- A known item has a text in a report.
use Rattle.std.proofs.Common.{◌≡◌, ℕ, List, Some, sym, subst}
use Rattle.std.specs.Prelude.{IsTrue, Contains, slice_get}
use Rattle.resolvo_text.specs.Line.{Version, Spec, Line, Listed}
use Rattle.resolvo_text.specs.Spelling.{is_name}
use Rattle.resolvo_text.specs.Spelling as form
use Rattle.resolvo_catalogue_core.specs.Grammar.{AreCatalogueLines}
use Rattle.resolvo_catalogue_core.specs.Listed.{listed}
use Rattle.resolvo_terms.proofs.Places.{at_from_contains}
use Rattle.resolvo_catalogue_core.proofs.TableLemmas.{listed_from}
use Rattle.resolvo_state.specs.declared.atom.ProofAtom.{ProofAtom}
use Rattle.resolvo_state.specs.declared.atom.ProofAtom.TheVariants as atom
use Rattle.resolvo_proof.specs.declared.step.ProofLiteral.{ProofLiteral}
use Rattle.resolvo_terms.specs.Terms.{NameId}
use Rattle.resolvo_catalogue.specs.Ids.{SolvableId}
use Rattle.resolvo_catalogue.specs.Known.{name_text}
use Rattle.resolvo_catalogue.specs.Provider.{Provider}
use Rattle.resolvo_catalogue.specs.Over.{IsOver}
use Rattle.resolvo_catalogue.proofs.CoverLemmas.{alternatives_are}
use Rattle.resolvo_report.specs.Text.{AreAlternatives, IsAtom}
use Rattle.resolve_refusal.specs.RefusedReport.{version_at}
use Rattle.resolve_refusal.specs.Refusal.{IsVersion, IsSpelledName, IsKnownAtom, atom_at, HaveForm}
use Rattle.resolve_refusal.proofs.RenameLemmas.{version_is, name_is, spec_is}

-- a listed version has a text
pub listed_fits : (catalogue : List Line) → AreCatalogueLines catalogue → (number : ℕ) (v : Version) → slice_get (listed catalogue) number ≡ Some v → form.IsVersion v
listed_fits catalogue grammatical number v e =
    let (k, at) = at_from_contains catalogue (Listed v) (listed_from catalogue v number e) in
    let (bytes, line) = grammatical k (Listed v) at in
    line.parsed.form

module _ (catalogue : List Line) (provider : Provider) (over : IsOver catalogue provider) where
  pub version_fits : (s : SolvableId) → IsVersion catalogue provider.ids s → form.IsVersion (version_at catalogue s)
  version_fits s (v, e) = subst (λ (w : Version). form.IsVersion w) (sym (version_is catalogue provider over s v e)) (listed_fits catalogue over.grammatical s.raw v e)

  name_fits : (n : NameId) → IsSpelledName catalogue provider.ids n → IsTrue (is_name (name_text provider.ids n))
  name_fits n (name, is, fits) = subst (λ (t : List ℕ). IsTrue (is_name t)) (sym (name_is catalogue provider over n name is)) fits

  pub atom_fits : (a : ProofAtom NameId SolvableId) → IsKnownAtom catalogue provider.ids a → IsAtom (atom_at catalogue provider.ids a)
  atom_fits (atom.Solvable s) h = version_fits s h
  atom_fits (atom.AtLeastOne n) h = name_fits n h
  atom_fits (atom.Gate r) (ss, are, fits) = subst (λ (ts : List Spec). AreAlternatives ts) (sym (alternatives_are provider.ids r ss are)) fits
  atom_fits (atom.Outside v) (s, is, fits) = subst (λ (t : Spec). form.IsSpec t) (sym (spec_is catalogue provider over v s is)) fits
  atom_fits (atom.Matches v) ((s, is, fits), many) = subst (λ (t : Spec). form.IsSpec t) (sym (spec_is catalogue provider over v s is)) fits
  atom_fits (atom.Bit n bit) (name, below, unmarked) = (below, name_fits n name)

  -- known literals have texts
  pub literals_fit : (literals : List (ProofLiteral NameId SolvableId)) → ((l : ProofLiteral NameId SolvableId) → Contains literals l → IsKnownAtom catalogue provider.ids l.atom) → HaveForm catalogue provider.ids literals
  literals_fit literals known l h = atom_fits l.atom (known l h)
