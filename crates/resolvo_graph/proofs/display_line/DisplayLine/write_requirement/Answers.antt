use Rattle.std.proofs.Common.{◌≡◌, ℕ, Bool, List, ◌++◌, ◌∙◌, ap, refl}
use Rattle.std.proofs.lemmas.Grind.{put_three}
use Rattle.resolvo_pool_core.specs.declared.requirement.Requirement.{Requirement}
use Rattle.resolvo_pool_core.specs.Text.{requirement_text}
use Rattle.resolvo_graph.specs.declared.display_line.Outlook.{Outlook}
use Rattle.resolvo_graph.specs.Words.{Meaning, meaning_by, set_words, requirement_words, words_before, words_behind}
use Rattle.resolvo_graph.proofs.display_line.DisplayLine.write_requirement.Goals as goal

-- the words before a requirement, the requirement, and the words behind it
all_words : {N S : Type 0} (m : Meaning N S) (q : Requirement) (outlook : Outlook) (top to : Bool) (before behind : List ℕ) → to ≡ top → before ≡ words_before to outlook → behind ≡ words_behind to outlook → before ++ (requirement_text (set_words m) m.members_of q ++ behind) ≡ requirement_words m top q outlook
all_words m q outlook top to before behind same first last =
    let text = requirement_text (set_words m) m.members_of q in
    ap (λ xs. xs ++ (text ++ behind)) first ∙ ap (λ xs. words_before to outlook ++ (text ++ xs)) last ∙ ap (λ t. words_before t outlook ++ (text ++ words_behind t outlook)) same

pub returns : goal.returns
returns g c plain ok =
    let before = c.in_ok-write_str.ensures.writes plain refl in
    let shown = c.in_ok-write.ensures.writes before.plain refl in
    put_three g.W.Write.write_str_gives _ _ _ _ _ _ _ _ before shown (c.write_str-2.ensures.writes shown.plain ok)
    (all_words (meaning_by g.I.Interner c.args.self.now.interner.now) c.args.requirement c.args.outlook _ c.is_at_top_level-top.result c.words_before.result.now c.words_behind.result.now c.is_at_top_level-top.ensures c.words_before.ensures c.words_behind.ensures)
