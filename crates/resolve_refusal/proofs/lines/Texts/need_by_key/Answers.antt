use Rattle.std.proofs.Common.{◌≡◌, ◌∙◌, ℕ, List, Option, Some, None, ap, subst, sym}
use Rattle.resolvo_text.specs.View.{specs_of}
use Rattle.resolve_refusal.specs.Lines.{IsLeast, text_of, IsLineOf}
use Rattle.resolve_refusal.specs.RuleKeys.{need_key, HasKey}
use Rattle.resolve_refusal.specs.FirstLines.{groups_of, first_of}
use Rattle.resolve_refusal.proofs.FirstLemmas.{none_before, no_need_by_key}
use Rattle.resolve_refusal.proofs.lines.Texts.need_by_key.Goals as goal

pub need_from-requires : goal.need_from-requires
need_from-requires c =
    let among = IsLineOf c.args.self.catalogue.now c.args.self.request.now.lines c.args.place in
    let text = text_of c.args.self.catalogue.now c.args.self.request.now.lines c.args.place in
    let groups = groups_of c.args.first.now in
    let key = need_key groups (specs_of c.args.alternatives.now) (specs_of c.args.case.now) in
    let found : Some c.in-Some.line ≡ first_of c.args.first.now key = c.in-Some.ensures ∙ ap (λ (k : List ℕ). first_of c.args.first.now k) (c.as_str.ensures.value ∙ c.in_ok-key.ensures.key) in
    let least : IsLeast (Some c.in-Some.line) (λ n. among n × HasKey groups text key n) = subst (λ (o : Option ℕ). IsLeast o (λ n. among n × HasKey groups text key n)) (sym found) (c.requires key) in
    record { among = least.0.0; before = none_before among groups text (specs_of c.args.alternatives.now) (specs_of c.args.case.now) c.in-Some.line least }

pub returns-in-None-clause-line : goal.returns-in-None-clause-line
returns-in-None-clause-line c =
    let among = IsLineOf c.args.self.catalogue.now c.args.self.request.now.lines c.args.place in
    let text = text_of c.args.self.catalogue.now c.args.self.request.now.lines c.args.place in
    let groups = groups_of c.args.first.now in
    let key = need_key groups (specs_of c.args.alternatives.now) (specs_of c.args.case.now) in
    let found : None ≡ first_of c.args.first.now key = c.in-None.ensures ∙ ap (λ (k : List ℕ). first_of c.args.first.now k) (c.as_str.ensures.value ∙ c.in_ok-key.ensures.key) in
    no_need_by_key among groups text (specs_of c.args.alternatives.now) (specs_of c.args.case.now) (subst (λ (o : Option ℕ). IsLeast o (λ n. among n × HasKey groups text key n)) (sym found) (c.requires key))
