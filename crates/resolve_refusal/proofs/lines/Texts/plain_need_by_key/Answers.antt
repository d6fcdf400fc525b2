use Rattle.std.proofs.Common.{◌≡◌, ◌∙◌, ℕ, List, [], Option, Some, None, ap, subst, sym}
use Rattle.resolvo_text.specs.Line.{Needs}
use Rattle.resolvo_text.specs.View.{specs_of}
use Rattle.resolve_refusal.specs.Lines.{IsLeast, text_of, IsLineOf}
use Rattle.resolve_refusal.specs.RuleKeys.{need_key, HasKey}
use Rattle.resolve_refusal.specs.FirstLines.{groups_of, first_of}
use Rattle.resolve_refusal.proofs.FirstLemmas.{line_by_key, none_by_key, has_one}
use Rattle.resolve_refusal.proofs.lines.Texts.plain_need_by_key.Goals as goal

pub returns-in-None-clause-line : goal.returns-in-None-clause-line
returns-in-None-clause-line c =
    let among = IsLineOf c.args.self.catalogue.now c.args.self.request.now.lines c.args.place in
    let text = text_of c.args.self.catalogue.now c.args.self.request.now.lines c.args.place in
    let groups = groups_of c.args.first.now in
    let key = need_key groups (specs_of c.args.alternatives.now) [] in
    let found : None ≡ first_of c.args.first.now key = c.in-None.ensures ∙ ap (λ (k : List ℕ). first_of c.args.first.now k) (c.as_str.ensures.value ∙ c.in_ok-key.ensures.key) in
    none_by_key among groups text (Needs (specs_of c.args.alternatives.now) None) key (has_one key) (subst (λ (o : Option ℕ). IsLeast o (λ n. among n × HasKey groups text key n)) (sym found) (c.requires key))

pub returns-then-needs_plainly-clause-line : goal.returns-then-needs_plainly-clause-line
returns-then-needs_plainly-clause-line c =
    let among = IsLineOf c.args.self.catalogue.now c.args.self.request.now.lines c.args.place in
    let text = text_of c.args.self.catalogue.now c.args.self.request.now.lines c.args.place in
    let groups = groups_of c.args.first.now in
    let key = need_key groups (specs_of c.args.alternatives.now) [] in
    let found : Some c.in-Some.line ≡ first_of c.args.first.now key = c.in-Some.ensures ∙ ap (λ (k : List ℕ). first_of c.args.first.now k) (c.as_str.ensures.value ∙ c.in_ok-key.ensures.key) in
    line_by_key among groups text (Needs (specs_of c.args.alternatives.now) None) key (has_one key) c.in-Some.line (subst (λ (o : Option ℕ). IsLeast o (λ n. among n × HasKey groups text key n)) (sym found) (c.requires key)) (c.needs_plainly.ensures.0 c.if-needs_plainly.true)
