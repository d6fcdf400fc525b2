use Rattle.std.proofs.Common.{◌∙◌, sym, subst}
use Rattle.resolvo_text.specs.declared.spec.Span.{Span}
use Rattle.resolvo_catalogue_core.specs.Listed.{listed}
use Rattle.resolve_order.specs.Numbers.{version_in, IsNewestIn}
use Rattle.resolve_order.specs.Kept.{IsLeftOver, IsUnlistedMatch, IsFavouredMatch}
use Rattle.resolve_order.proofs.PickLemmas.{no_numbers, numbers_of_first, favoured_first, newest_first}
use Rattle.resolve_order.proofs.chosen.Chosen.sorted_match.Goals as goal

pub returns-in_err-package : goal.returns-in_err-package
returns-in_err-package c = λ chosen entries s of h.
    let lines = c.args.catalogue.now in
    subst (IsUnlistedMatch lines chosen entries s) (sym c.from_residual.ensures) (no_numbers lines c.args.self.now chosen entries s h (sym of.0 ∙ c.in_err-package.was))

pub returns-in-Some : goal.returns-in-Some
returns-in-Some c = λ chosen entries s of h.
    let x = c.args.self.now in
    let lines = c.args.catalogue.now in
    let first = sym of.0 ∙ c.in_ok-package.was in
    let are = numbers_of_first (listed lines) (IsLeftOver chosen entries) x.unlisted s.name c.in_ok-package.«package» first (h.unlisted s.name) in
    favoured_first lines chosen entries s c.in-Some.version (subst (IsFavouredMatch lines chosen entries s) c.in-Some.is (c.favoured_match.ensures chosen entries s first (sym of.1) h are))

pub returns-in-None : goal.returns-in-None
returns-in-None c = λ chosen entries s of h.
    let x = c.args.self.now in
    let lines = c.args.catalogue.now in
    let p = c.in_ok-package.«package» in
    let first = sym of.0 ∙ c.in_ok-package.was in
    let are = numbers_of_first (listed lines) (IsLeftOver chosen entries) x.unlisted s.name p first (h.unlisted s.name) in
    newest_first lines x chosen entries s p c.newest_in.result h first (subst (IsFavouredMatch lines chosen entries s) c.in-None.is (c.favoured_match.ensures chosen entries s first (sym of.1) h are))
    (subst (λ (span : Span). IsNewestIn (version_in x.unlisted p) span c.newest_in.result) of.1 c.newest_in.ensures)
