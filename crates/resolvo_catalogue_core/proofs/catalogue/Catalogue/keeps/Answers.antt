use Rattle.std.proofs.Common.{◌≡◌, ◌∙◌, List, sym, subst}
use Rattle.resolvo_text.specs.Line.{Version}
use Rattle.resolvo_catalogue_core.specs.Rules.{obeys}
use Rattle.resolvo_catalogue_core.specs.Kept.{kept_line, IsKeptOf}
use Rattle.resolvo_catalogue_core.specs.Listed.{listed, members, AreDistinct}
use Rattle.resolvo_catalogue_core.proofs.CatalogueFacts.{keeps_no_rule, keeps_kept, no_rule}
use Rattle.resolvo_catalogue_core.proofs.catalogue.Catalogue.keeps.Goals as goal

pub obeys_kept-requires : goal.obeys_kept-requires
obeys_kept-requires c = subst (λ (vs : List Version). AreDistinct vs) (sym c.versions.ensures.listed) c.versions.ensures.distinct

pub returns-in-Some : goal.returns-in-Some
returns-in-Some c =
    let t = c.self.inside.table in
    let lines = c.args.self.now in
    let r = c.in-Some.rule in
    keeps_kept t lines c.self.view_is c.self.invariant.0 c.args.line r (sym c.rule.ensures ∙ c.in-Some.is) (members (listed lines) c.args.set.now) c.obeys_kept.result (λ owner of.
    subst (λ (vs : List Version). c.obeys_kept.result ≡ obeys owner (kept_line t.terms vs r) (members vs c.args.set.now)) c.versions.ensures.listed
    (c.obeys_kept.ensures owner (subst (λ (vs : List Version). IsKeptOf vs owner r) (sym c.versions.ensures.listed) of)))

pub returns-in-None : goal.returns-in-None
returns-in-None c = keeps_no_rule c.args.self.now c.args.line (members (listed c.args.self.now) c.args.set.now) (no_rule c.self.inside.table c.args.self.now c.self.view_is c.args.line (sym c.rule.ensures ∙ c.in-None.is))
