-- Whole lines: a spelling is read back, and has no newline.
use Rattle.std.proofs.Common.{◌≡◌, ℕ, ◌+◌, ◌<◌, Bool, true, false, not, cond, List, [], ◌∷◌, ◌++◌, map, Some, None, refl, sym, ap, ◌∙◌, append_assoc, arith}
use Rattle.std.specs.Prelude.{codes, IsTrue}
use Rattle.std.specs.Fmt.{decimal}
use Rattle.std.specs.List.{AllByRecursion, list_all, slice_split, join_with_byte, flat_map}
use Rattle.std.proofs.lemmas.Bool.{and_parts, ne_eqb}
use Rattle.std.proofs.lemmas.Bool.Decides.{nat_tests}
use Rattle.std.proofs.lemmas.Option.{same_Some}
use Rattle.std.proofs.lemmas.List.Folds.{list_all-append}
use Rattle.std.proofs.lemmas.List.Splits.{slice_split_at}
use Rattle.std.proofs.lemmas.List.Sums.{sum_by-cons}
use Rattle.resolvo_text.specs.Line.{Version}
use Rattle.resolvo_text.specs.Lines.{newlines, is_newline}
use Rattle.resolvo_text.specs.Spelling.{Words, is_name, is_word, is_reserved, starts_name, continues_name, IsVersion}
use Rattle.resolvo_text.specs.Parse.{is_space}
use Rattle.resolvo_text.proofs.PartLaws.{skip_is, no_skip}
use Rattle.resolvo_report.specs.Value.{Place, Literal, Step, Need, Gate, Shared, LimitBars, Limit, Outside, Matches, Lock, Exclude, Unknown, Digit, Any, Derive, Entry, Wished, LeftOut, ReportLine, InstallHead, RefusedHead, Answer, CatalogueLine, RequestLine, Numbered, Message}
use Rattle.resolvo_report.specs.Text.{version_text, place_text, literal_text, literal_words, clause_text, step_words, step_text, answer_words, line_text, IsAtom, IsStep, IsAnswer, HasText}
use Rattle.resolvo_report.specs.Parse.{version_in, entry_in, numbered_in, step_by, line_by, is_message, line_read}
use Rattle.resolvo_report.proofs.FormLaws.{is_plain, Plain, ArePlain, number_is_plain, version_is_plain, number_law, place_law, version_in_again, behind_again}
use Rattle.resolvo_report.proofs.StepLaws.{NoSpace-plain, split_plain, no_keyword, literal_are_plain, numbers_are_plain}
use Rattle.resolvo_report.proofs.LineLaws.{step_again, left_out_kind, entry_kind, line_kind, need_kind, gate_kind, shared_kind, outside_kind, matches_kind, lock_kind, digit_kind, any_kind}

-- ---- no newlines

abbrev is_inner : ℕ → Bool
is_inner b = not (is_newline b)

-- without a newline
abbrev IsOneLine : List ℕ → Type 0
IsOneLine bytes = list_all is_inner bytes ≡ true

one_line_both : (xs ys : List ℕ) → IsOneLine xs → IsOneLine ys → IsOneLine (xs ++ ys)
one_line_both xs ys p q = list_all-append is_inner xs ys ∙ rw (p, q) refl

inner : (b : ℕ) → is_plain b ≡ true → is_inner b ≡ true
inner b h = rw (ne_eqb b 10 (λ e. absurd (grind (arith, nat_tests)))) refl

word_one_line : (w : List ℕ) → Plain w → IsOneLine w
word_one_line [] h = refl
word_one_line (b ∷ bs) h = let p = and_parts (is_plain b) (list_all is_plain bs) h in rw (inner b p.0, word_one_line bs p.1) refl

joined_one_line : (ws : Words) → ArePlain ws → IsOneLine (join_with_byte 32 ws)
joined_one_line [] each = refl
joined_one_line (w ∷ []) each = word_one_line w each.0
joined_one_line (w ∷ x ∷ ws) each = one_line_both w (32 ∷ join_with_byte 32 (x ∷ ws)) (word_one_line w each.0) (joined_one_line (x ∷ ws) each.1)

more_one_line : (ls : List Literal) → AllByRecursion (λ l. IsAtom l.atom) ls → IsOneLine (flat_map (λ m. codes "; " ++ literal_text m) ls)
more_one_line [] each = refl
more_one_line (l ∷ ls) each = one_line_both (codes "; " ++ literal_text l) (flat_map (λ m. codes "; " ++ literal_text m) ls) (joined_one_line (literal_words l) (literal_are_plain l.positive l.atom each.0)) (more_one_line ls each.1)

clause_one_line : (ls : List Literal) → AllByRecursion (λ l. IsAtom l.atom) ls → IsOneLine (clause_text ls)
clause_one_line [] each = refl
clause_one_line (l ∷ ls) each =
    let more : List ℕ = flat_map (λ m. codes "; " ++ literal_text m) ls in
    one_line_both ((codes "[" ++ literal_text l) ++ more) (codes "]") (one_line_both (codes "[" ++ literal_text l) more (joined_one_line (literal_words l) (literal_are_plain l.positive l.atom each.0)) (more_one_line ls each.1)) refl

step_one_line : (s : Step) → IsStep s → IsOneLine (step_text s)
step_one_line (Need p n k) fits = joined_one_line (step_words (Need p n k)) (refl, need_kind.plain (p, (n, k)) (fits.0, (fits.1, fits.2)))
step_one_line (Gate v n) fits = joined_one_line (step_words (Gate v n)) (refl, gate_kind.plain (v, n) fits)
step_one_line (Shared ss) fits = joined_one_line (step_words (Shared ss)) (refl, shared_kind.plain ss fits)
step_one_line (LimitBars p n v) fits = joined_one_line (step_words (LimitBars p n v)) (refl, ((place_law.plain p fits.0).0, (refl, (number_is_plain n fits.1.1, (refl, (version_is_plain v fits.2, tt))))))
step_one_line (Limit p n) fits = joined_one_line (step_words (Limit p n)) (refl, ((place_law.plain p fits.0).0, (refl, (number_is_plain n fits.1.1, tt))))
step_one_line (Outside s v) fits = joined_one_line (step_words (Outside s v)) (refl, outside_kind.plain (s, v) fits)
step_one_line (Matches s v) fits = joined_one_line (step_words (Matches s v)) (refl, matches_kind.plain (s, v) fits)
step_one_line (Lock n v) fits = joined_one_line (step_words (Lock n v)) (refl, lock_kind.plain (n, v) fits)
step_one_line (Exclude n) fits = joined_one_line (step_words (Exclude n)) (refl, line_kind.plain n fits)
step_one_line (Unknown n) fits = joined_one_line (step_words (Unknown n)) (refl, line_kind.plain n fits)
step_one_line (Digit v n k) fits = joined_one_line (step_words (Digit v n k)) (refl, digit_kind.plain (v, (n, k)) (fits.0, (fits.1, fits.2)))
step_one_line (Any v) fits = joined_one_line (step_words (Any v)) (refl, any_kind.plain v fits)
step_one_line (Derive ls ns) fits =
    let by : List ℕ = join_with_byte 32 (codes "by" ∷ map decimal ns) in
    one_line_both (codes "derive ") (clause_text ls ++ 32 ∷ by) refl (one_line_both (clause_text ls) (32 ∷ by) (clause_one_line ls fits.0.each) (joined_one_line (codes "by" ∷ map decimal ns) (refl, numbers_are_plain ns fits.1.1)))

line_is_one_line : (l : ReportLine) → HasText l → IsOneLine (line_text l)
line_is_one_line InstallHead fits = refl
line_is_one_line RefusedHead fits = refl
line_is_one_line (Answer (Entry v p n)) fits = joined_one_line (answer_words (Entry v p n)) (version_is_plain v fits.0, (refl, (entry_kind v).plain (p, n) (fits.1, fits.2)))
line_is_one_line (Answer (Wished v n)) fits = joined_one_line (answer_words (Wished v n)) (version_is_plain v fits.0, (refl, line_kind.plain n fits.1))
line_is_one_line (Answer (LeftOut v n k)) fits = joined_one_line (answer_words (LeftOut v n k)) (refl, left_out_kind.plain (v, (n, k)) (fits.0, (fits.1, fits.2)))
line_is_one_line (CatalogueLine n) fits = joined_one_line (codes "catalogue" ∷ codes "line" ∷ decimal n ∷ []) (refl, line_kind.plain n fits)
line_is_one_line (RequestLine n) fits = joined_one_line (codes "request" ∷ codes "line" ∷ decimal n ∷ []) (refl, line_kind.plain n fits)
line_is_one_line (Numbered n s) fits = one_line_both ((codes "step " ++ decimal n) ++ codes " ") (step_text s) (one_line_both (codes "step " ++ decimal n) (codes " ") (one_line_both (codes "step ") (decimal n) refl (word_one_line (decimal n) (number_is_plain n fits.0))) refl) (step_one_line s fits.1)
line_is_one_line (Message bytes) fits = fits

none_of : (bytes : List ℕ) → IsOneLine bytes → newlines bytes ≡ 0
none_of [] h = refl
none_of (b ∷ bs) h =
    let p = and_parts (is_inner b) (list_all is_inner bs) h in
    sum_by-cons (λ x. cond (is_newline x) 1 0) b bs ∙ ap (λ (t : Bool). cond t 1 0 + newlines bs) (opened (is_newline b) p.0) ∙ omega (arith, none_of bs p.1)
  where
    opened : (t : Bool) → not t ≡ true → t ≡ false
    opened true e = absurd cc
    opened false e = refl

-- A line's text holds no newline.
pub line_has_no_newline : (l : ReportLine) → HasText l → newlines (line_text l) ≡ 0
line_has_no_newline l fits = none_of (line_text l) (line_is_one_line l fits)

-- ---- reading again

name_is_no_message : (name rest : List ℕ) → IsTrue (is_name name) → is_message (name ++ rest) ≡ false
name_is_no_message [] rest named = absurd cc
name_is_no_message (b ∷ bs) rest named =
    let word = (and_parts (is_word (b ∷ bs)) (not (is_reserved (b ∷ bs))) named).0 in
    let first = (and_parts (starts_name b) (list_all continues_name bs) word).0 in
    rw (ne_eqb b 124 (λ e. absurd (grind (arith, nat_tests, first)))) refl

version_is_no_message : (v : Version) (rest : List ℕ) → IsVersion v → is_message (version_text v ++ rest) ≡ false
version_is_no_message v rest fits = ap is_message (append_assoc (v.name ++ codes "=") (decimal v.number) rest ∙ append_assoc v.name (codes "=") (decimal v.number ++ rest)) ∙ name_is_no_message v.name (codes "=" ++ (decimal v.number ++ rest)) fits.name

again_by : (text k : List ℕ) (ws : Words) (l : ReportLine) → is_message text ≡ false → slice_split is_space text ≡ k ∷ ws → line_by k ws ≡ Some l → line_read text ≡ Some l
unfolding line_read
again_by text k ws l other split parsed = rw (other, split) parsed

no_step : version_in (codes "step") ≡ None
unfolding version_in
no_step = refl

no_install : version_in (codes "install") ≡ None
unfolding version_in
no_install = refl

no_refused : version_in (codes "refused") ≡ None
unfolding version_in
no_refused = refl

no_left : version_in (codes "left") ≡ None
unfolding version_in
no_left = refl

no_catalogue : version_in (codes "catalogue") ≡ None
unfolding version_in
no_catalogue = refl

no_request : version_in (codes "request") ≡ None
unfolding version_in
no_request = refl

entry_by : (v : Version) (ws : Words) (l : ReportLine) → IsVersion v → entry_in v ws ≡ Some l → line_by (version_text v) ws ≡ Some l
unfolding line_by
entry_by v ws l fits parsed = rw (no_keyword (codes "step") v fits no_step, no_keyword (codes "install") v fits no_install, no_keyword (codes "refused") v fits no_refused, no_keyword (codes "left") v fits no_left, no_keyword (codes "catalogue") v fits no_catalogue, no_keyword (codes "request") v fits no_request, version_in_again v fits) parsed

entry_again : (v : Version) (p : Place) (n : ℕ) → IsAnswer (Entry v p n) → entry_in v (codes "for" ∷ place_text p ∷ codes "line" ∷ decimal n ∷ []) ≡ Some (Answer (Entry v p n))
unfolding entry_in
entry_again v p n fits = rw (skip_is (codes "for") (place_text p ∷ codes "line" ∷ decimal n ∷ [])) ((entry_kind v).again (p, n) (fits.1, fits.2))

wished_again : (v : Version) (n : ℕ) → IsAnswer (Wished v n) → entry_in v (codes "wished" ∷ codes "line" ∷ decimal n ∷ []) ≡ Some (Answer (Wished v n))
unfolding entry_in
wished_again v n fits = rw (no_skip (codes "for") (codes "wished" ∷ codes "line" ∷ decimal n ∷ []) refl, behind_again (codes "wished") (codes "line" ∷ decimal n ∷ []), line_kind.again n fits.1) refl

numbered_again : (n : ℕ) (s : Step) (k : List ℕ) (ws : Words) → n < 4294967296 → step_by k ws ≡ Some s → numbered_in (decimal n ∷ k ∷ ws) ≡ Some (Numbered n s)
unfolding numbered_in
numbered_again n s k ws small parsed = rw (number_law.again n (k ∷ ws) small tt, parsed) refl

numbered_split : (n : ℕ) (t : List ℕ) → n < 4294967296 → slice_split is_space (((codes "step " ++ decimal n) ++ codes " ") ++ t) ≡ codes "step" ∷ decimal n ∷ slice_split is_space t
numbered_split n t small =
    let parts : ((codes "step " ++ decimal n) ++ codes " ") ++ t ≡ codes "step" ++ 32 ∷ (decimal n ++ 32 ∷ t) = append_assoc (codes "step " ++ decimal n) (codes " ") t ∙ append_assoc (codes "step ") (decimal n) (32 ∷ t) in
    ap (slice_split is_space) parts ∙ slice_split_at is_space (codes "step") 32 (decimal n ++ 32 ∷ t) (NoSpace-plain (codes "step") refl) refl
    ∙ ap (λ (ws : Words). codes "step" ∷ ws) (slice_split_at is_space (decimal n) 32 t (NoSpace-plain (decimal n) (number_is_plain n small)) refl)

message_again : (bytes : List ℕ) → line_read (codes "| " ++ bytes) ≡ Some (Message bytes)
unfolding line_read
message_again bytes = refl

pub line_again : (l : ReportLine) → HasText l → line_read (line_text l) ≡ Some l
unfolding line_by
line_again InstallHead fits = again_by (codes "install") (codes "install") [] InstallHead refl (split_plain (codes "install") [] (refl, tt)) refl
line_again RefusedHead fits = again_by (codes "refused") (codes "refused") [] RefusedHead refl (split_plain (codes "refused") [] (refl, tt)) refl
line_again (Answer (Entry v p n)) fits = again_by (line_text (Answer (Entry v p n))) (version_text v) (codes "for" ∷ place_text p ∷ codes "line" ∷ decimal n ∷ []) (Answer (Entry v p n))
    (version_is_no_message v (32 ∷ join_with_byte 32 (codes "for" ∷ place_text p ∷ codes "line" ∷ decimal n ∷ [])) fits.0)
    (split_plain (version_text v) (codes "for" ∷ place_text p ∷ codes "line" ∷ decimal n ∷ []) (version_is_plain v fits.0, (refl, (entry_kind v).plain (p, n) (fits.1, fits.2))))
    (entry_by v (codes "for" ∷ place_text p ∷ codes "line" ∷ decimal n ∷ []) (Answer (Entry v p n)) fits.0 (entry_again v p n fits))
line_again (Answer (Wished v n)) fits = again_by (line_text (Answer (Wished v n))) (version_text v) (codes "wished" ∷ codes "line" ∷ decimal n ∷ []) (Answer (Wished v n))
    (version_is_no_message v (32 ∷ join_with_byte 32 (codes "wished" ∷ codes "line" ∷ decimal n ∷ [])) fits.0)
    (split_plain (version_text v) (codes "wished" ∷ codes "line" ∷ decimal n ∷ []) (version_is_plain v fits.0, (refl, line_kind.plain n fits.1)))
    (entry_by v (codes "wished" ∷ codes "line" ∷ decimal n ∷ []) (Answer (Wished v n)) fits.0 (wished_again v n fits))
line_again (Answer (LeftOut v n k)) fits = again_by (line_text (Answer (LeftOut v n k))) (codes "left") _ (Answer (LeftOut v n k)) refl (split_plain (codes "left") _ (refl, left_out_kind.plain (v, (n, k)) (fits.0, (fits.1, fits.2)))) (left_out_kind.again (v, (n, k)) (fits.0, (fits.1, fits.2)))
line_again (CatalogueLine n) fits = again_by (line_text (CatalogueLine n)) (codes "catalogue") (codes "line" ∷ decimal n ∷ []) (CatalogueLine n) refl (split_plain (codes "catalogue") (codes "line" ∷ decimal n ∷ []) (refl, line_kind.plain n fits)) (rw (line_kind.again n fits) refl)
line_again (RequestLine n) fits = again_by (line_text (RequestLine n)) (codes "request") (codes "line" ∷ decimal n ∷ []) (RequestLine n) refl (split_plain (codes "request") (codes "line" ∷ decimal n ∷ []) (refl, line_kind.plain n fits)) (rw (line_kind.again n fits) refl)
line_again (Numbered n s) fits =
    let a = step_again s fits.1 in
    again_by (line_text (Numbered n s)) (codes "step") (decimal n ∷ a.keyword ∷ a.words) (Numbered n s) refl (numbered_split n (step_text s) fits.0 ∙ ap (λ (ws : Words). codes "step" ∷ decimal n ∷ ws) a.split) (numbered_again n s a.keyword a.words fits.0 a.parsed)
line_again (Message bytes) fits = message_again bytes

-- a text spells one line at most
pub same_line : (a b : ReportLine) → HasText a → HasText b → line_text a ≡ line_text b → a ≡ b
same_line a b p q e = same_Some a b (sym (line_again a p) ∙ ap line_read e ∙ line_again b q)
