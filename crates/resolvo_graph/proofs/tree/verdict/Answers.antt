use Rattle.std.proofs.Common.{◌≡◌, ◌∙◌, ap, sym, cond, false, length, None}
use Rattle.std.specs.Prelude.{◌==◌}
use Rattle.resolvo_graph.specs.declared.display_line.Verdict.TheVariants.{Conflicts, Constrains, Requires}
use Rattle.std.specs.List.{list_any}
use Rattle.resolvo_graph.specs.Tree.{is_admitting, reason_in}
use Rattle.resolvo_graph.proofs.TreeLemmas.{unexcluded}
use Rattle.resolvo_graph.proofs.tree.verdict.Goals as goal

pub returns-then-has_forbidden : goal.returns-then-has_forbidden
returns-then-has_forbidden g c =
    let none : reason_in c.args.graph.now c.args.edges.now ≡ None = sym c.reason.ensures ∙ c.in_default.is in
    let some : (length c.args.edges.now == 0) ≡ false = sym c.is_empty.ensures ∙ c.if-is_empty.false in
    sym (unexcluded (reason_in c.args.graph.now c.args.edges.now) c.args.edges.now none some ∙ ap (λ b. cond b Conflicts (cond (list_any is_admitting c.args.edges.now) Constrains Requires)) (sym c.has_forbidden.ensures ∙ c.if-has_forbidden.true))

pub returns-then-has_admitted : goal.returns-then-has_admitted
returns-then-has_admitted g c =
    let none : reason_in c.args.graph.now c.args.edges.now ≡ None = sym c.reason.ensures ∙ c.in_default.is in
    let some : (length c.args.edges.now == 0) ≡ false = sym c.is_empty.ensures ∙ c.if-is_empty.false in
    sym (unexcluded (reason_in c.args.graph.now c.args.edges.now) c.args.edges.now none some ∙ ap (λ b. cond b Conflicts (cond (list_any is_admitting c.args.edges.now) Constrains Requires)) (sym c.has_forbidden.ensures ∙ c.if-has_forbidden.false) ∙ ap (λ b. cond b Constrains Requires) (sym c.has_admitted.ensures ∙ c.if-has_admitted.true))

pub returns-else-has_admitted : goal.returns-else-has_admitted
returns-else-has_admitted g c =
    let none : reason_in c.args.graph.now c.args.edges.now ≡ None = sym c.reason.ensures ∙ c.in_default.is in
    let some : (length c.args.edges.now == 0) ≡ false = sym c.is_empty.ensures ∙ c.if-is_empty.false in
    sym (unexcluded (reason_in c.args.graph.now c.args.edges.now) c.args.edges.now none some ∙ ap (λ b. cond b Conflicts (cond (list_any is_admitting c.args.edges.now) Constrains Requires)) (sym c.has_forbidden.ensures ∙ c.if-has_forbidden.false) ∙ ap (λ b. cond b Constrains Requires) (sym c.has_admitted.ensures ∙ c.if-has_admitted.false))
