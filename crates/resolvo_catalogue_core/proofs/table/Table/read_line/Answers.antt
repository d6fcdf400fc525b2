use Rattle.std.proofs.Common.{◌≡◌, ◌∙◌, Option, Some, None, refl, ap, sym, subst, option_map}
use Rattle.std.proofs.lemmas.Result.{on_ok_weaker}
use Rattle.resolvo_text.specs.Line.{Version, Spec, Line, Skipped, Listed, Limits}
use Rattle.resolvo_text.specs.Parse.{words_in, spec_in, version_in}
use Rattle.resolvo_text.proofs.TextLaws.{line_again, line_takes}
use Rattle.resolvo_catalogue_core.specs.Grammar.{MayFollow}
use Rattle.resolvo_catalogue_core.specs.Table.{lines_in}
use Rattle.resolvo_catalogue_core.proofs.table.Table.read_line.Goals as goal

pub returns-in-Some-clause-ok : goal.returns-in-Some-clause-ok
returns-in-Some-clause-ok c = on_ok_weaker c.read_need.result (λ h. (h.0, record { parsed = line_takes c.args.text.now h.0 (c.in-Some.ensures ∙ h.1); place = h.2 }, h.3)) c.read_need.ensures.ok

pub returns-in-Some-clause-fault : goal.returns-in-Some-clause-fault
returns-in-Some-clause-fault c = λ e line p. c.read_need.ensures.fault e line (sym c.in-Some.ensures ∙ line_again c.args.text.now line p.parsed.form p.parsed.spelled) p.place

version_of : (o : Option Version) (line : Line) → option_map (λ (v : Version). Listed v) o ≡ Some line → (v : Version) × (o ≡ Some v) × (line ≡ Listed v)
version_of None line e = absurd cc
version_of (Some v) line e = (v, refl, cc)

pub returns-in-Some-listed_words-clause-ok : goal.returns-in-Some-listed_words-clause-ok
returns-in-Some-listed_words-clause-ok c = on_ok_weaker c.read_version.result (λ h. (Listed h.0, record { parsed = line_takes c.args.text.now (Listed h.0) (c.in-Some-listed_words.ensures ∙ ap (λ (o : Option Version). option_map (λ (v : Version). Listed v) o) h.1); place = h.2 }, h.3)) c.read_version.ensures.ok

pub returns-in-Some-listed_words-clause-fault : goal.returns-in-Some-listed_words-clause-fault
returns-in-Some-listed_words-clause-fault c = λ e line p.
    let v = version_of (version_in (words_in c.in-Some-listed_words.words.now)) line (sym c.in-Some-listed_words.ensures ∙ line_again c.args.text.now line p.parsed.form p.parsed.spelled) in
    c.read_version.ensures.fault e v.0 v.1 (subst (λ (l : Line). MayFollow (lines_in c.args.self.now) l) v.2 p.place)

limit_of : (o : Option Spec) (line : Line) → option_map (λ (s : Spec). Limits s) o ≡ Some line → (s : Spec) × (o ≡ Some s) × (line ≡ Limits s)
limit_of None line e = absurd cc
limit_of (Some s) line e = (s, refl, cc)

pub returns-in-Some-limits_words-clause-ok : goal.returns-in-Some-limits_words-clause-ok
returns-in-Some-limits_words-clause-ok c = on_ok_weaker c.read_limit.result (λ h. (Limits h.0, record { parsed = line_takes c.args.text.now (Limits h.0) (c.in-Some-limits_words.ensures ∙ ap (λ (o : Option Spec). option_map (λ (s : Spec). Limits s) o) h.1); place = h.2 }, h.3)) c.read_limit.ensures.ok

pub returns-in-Some-limits_words-clause-fault : goal.returns-in-Some-limits_words-clause-fault
returns-in-Some-limits_words-clause-fault c = λ e line p.
    let s = limit_of (spec_in (words_in c.in-Some-limits_words.words.now)) line (sym c.in-Some-limits_words.ensures ∙ line_again c.args.text.now line p.parsed.form p.parsed.spelled) in
    c.read_limit.ensures.fault e s.0 s.1 (subst (λ (l : Line). MayFollow (lines_in c.args.self.now) l) s.2 p.place)

pub returns-then-is_skipped-clause-ok : goal.returns-then-is_skipped-clause-ok
returns-then-is_skipped-clause-ok c = on_ok_weaker c.skip.result (λ h. (Skipped, record { parsed = line_takes c.args.text.now Skipped (c.is_skipped.ensures.line c.if-is_skipped.true); place = tt }, h)) c.skip.ensures.ok

pub returns-then-is_skipped-clause-fault : goal.returns-then-is_skipped-clause-fault
returns-then-is_skipped-clause-fault c = λ e line p. absurd (c.skip.ensures.memory e)
