use Rattle.std.proofs.Common.{◌≡◌, ℕ, List, ◌++◌, ◌∙◌, [], ap, sym, refl}
use Rattle.std.proofs.lemmas.Grind.{put_two, put_three}
use Rattle.std.proofs.lemmas.List.{append-nil}
use Rattle.resolvo_pool_core.specs.declared.id.StringId.{StringId}
use Rattle.resolvo_graph.specs.declared.display_line.Verdict.{Verdict}
use Rattle.resolvo_graph.specs.declared.display_line.Verdict.TheVariants.{Alone, Excluded, Conflicts, Constrains, Requires, Locked}
use Rattle.resolvo_graph.specs.Words.{Meaning, meaning_by, words_of, reason_words, versions_words}
use Rattle.resolvo_graph.proofs.display_line.DisplayLine.write_versions.Goals as goal

-- no reason follows another verdict than an exclusion
no_reason : {N S : Type 0} (m : Meaning N S) (v : Verdict) → ((why : StringId) → v ≡ Excluded why → ⊥) → reason_words m v ≡ []
no_reason m Alone h = refl
no_reason m (Excluded why) h = absurd (h why refl)
no_reason m Conflicts h = refl
no_reason m Constrains h = refl
no_reason m Requires h = refl
no_reason m Locked h = refl

module _ {N S : Type 0} (m : Meaning N S) (ids to : List S) (v : Verdict) (words : List ℕ) (same : to ≡ ids) (is : words ≡ words_of v) where
  without_reason : ((why : StringId) → v ≡ Excluded why → ⊥) → m.versions_text to ++ words ≡ versions_words m ids v
  without_reason other = ap (λ xs. m.versions_text xs ++ words) same ∙ ap (λ ws. m.versions_text ids ++ ws) (is ∙ sym (append-nil (words_of v)) ∙ ap (λ r. words_of v ++ r) (sym (no_reason m v other)))

  with_reason : (why : StringId) → v ≡ Excluded why → m.versions_text to ++ (words ++ m.word_text why) ≡ versions_words m ids v
  with_reason why excluded =
      ap (λ xs. m.versions_text xs ++ (words ++ m.word_text why)) same ∙ ap (λ ws. m.versions_text ids ++ (ws ++ m.word_text why)) is
      ∙ ap (λ u. m.versions_text ids ++ (words_of v ++ reason_words m u)) (sym excluded)

pub returns-in-Excluded : goal.returns-in-Excluded
returns-in-Excluded g c plain ok =
    let versions = c.in_ok-display_merged_solvables.ensures plain refl in
    let words = c.in_ok-write_str.ensures.writes versions.plain refl in
    put_three g.W.Write.write_str_gives _ _ _ _ _ _ _ _ versions words (c.display_string.ensures words.plain ok)
    (with_reason (meaning_by g.I.Interner c.args.self.now.interner.now) c.args.versions.now c.ids.result.now c.args.verdict c.words.result.now c.ids.ensures c.words.ensures c.in-Excluded.reason c.in-Excluded.is)

pub returns-in_default : goal.returns-in_default
returns-in_default g c plain ok =
    let versions = c.in_ok-display_merged_solvables.ensures plain refl in
    let words = c.in_ok-write_str.ensures.writes versions.plain refl in
    put_two g.W.Write.write_str_gives _ _ _ _ _ _ versions words
    (without_reason (meaning_by g.I.Interner c.args.self.now.interner.now) c.args.versions.now c.ids.result.now c.args.verdict c.words.result.now c.ids.ensures c.words.ensures c.in_default.not-Excluded)
