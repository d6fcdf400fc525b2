-- The text of a line: parsing and spelling are inverse.
use Rattle.std.proofs.Common.{◌≡◌, ℕ, ◌^◌, ◌<◌, ◌-◌, inl, inr, Bool, true, false, not, eqb, List, [], ◌∷◌, ◌++◌, take, drop, length, get_or, Option, Some, None, All, refl, sym, ap, subst, ◌∙◌, arith, ⊎_elim}
use Rattle.std.specs.Prelude.{codes, IsTrue}
use Rattle.std.specs.Fmt.{decimal}
use Rattle.std.specs.Option.{option_map}
use Rattle.std.specs.List.{AllByRecursion, join_with_byte, slice_split, list_all}
use Rattle.std.proofs.lemmas.Bool.{and_parts, ne_eqb, eqb-true}
use Rattle.std.proofs.lemmas.Bool.Decides.{nat_tests}
use Rattle.std.proofs.lemmas.Option.{same_Some}
use Rattle.std.proofs.lemmas.List.{get_or_default, length-drop, take_all}
use Rattle.std.proofs.lemmas.List.Elements.{All-append, All-from_recursion}
use Rattle.std.proofs.lemmas.List.Splits.{slice_split_at, slice_split_none, join_with_byte-slice_split}
use Rattle.std.proofs.lemmas.Str.Parse.{digit_at}
use Rattle.resolvo_text.specs.declared.spec.Span.{Span}
use Rattle.resolvo_text.specs.declared.spec.Span.TheVariants.{Any, One, Range}
use Rattle.resolvo_text.specs.Line.{Version, Spec, Cond, Line, Skipped, Listed, Needs, Limits, Unknown, Lock, Favour, Exclude, Many, Wish}
use Rattle.resolvo_text.specs.Spelling.{Words, starts_name, continues_name, is_word, is_reserved, is_name, IsVersion, IsSpec, IsSpan, version_words, span_words, spec_words, alternatives_words, AreWordsOf, AreWordsOfCondition, Written, Lone, Group, Both, Either, IsWritten, written_words, SpellsLine, HasForm, Spells, IsSkipped}
use Rattle.resolvo_text.specs.Parse.{◌>>=◌, is_space, word_at, words_in, version_in, spec_in, needs_in, line_by, is_skipped, line_in}
use Rattle.resolvo_text.proofs.NumberLemmas.{digits}
use Rattle.resolvo_text.proofs.AlternativeLemmas.{bind_some}
use Rattle.resolvo_text.proofs.PartLaws.{word_takes, chosen}
use Rattle.resolvo_text.proofs.LineLaws.{line_by_takes, line_by_again}

-- ---- words without a space

abbrev NoSpace : List ℕ → Type 0
NoSpace word = All (λ b. is_space b ≡ false) word

opened : (b : Bool) → not b ≡ true → b ≡ false
opened true e = absurd cc
opened false e = refl

by_test : (word : List ℕ) → list_all (λ b. not (is_space b)) word ≡ true → NoSpace word
by_test word e = All-from_recursion _ word (each word e)
  where
    each : (word : List ℕ) → list_all (λ b. not (is_space b)) word ≡ true → AllByRecursion (λ b. is_space b ≡ false) word
    each [] e = tt
    each (b ∷ bs) e = let p = and_parts (not (is_space b)) (list_all (λ b. not (is_space b)) bs) e in (opened (is_space b) p.0, each bs p.1)

name_byte : (b : ℕ) → continues_name b ≡ true → is_space b ≡ false
name_byte b h = ne_eqb b 32 (λ e. absurd (grind (arith, nat_tests)))

first_name_byte : (b : ℕ) → starts_name b ≡ true → is_space b ≡ false
first_name_byte b h = ne_eqb b 32 (λ e. absurd (grind (arith, nat_tests)))

name_bytes : (bs : List ℕ) → list_all continues_name bs ≡ true → AllByRecursion (λ b. is_space b ≡ false) bs
name_bytes [] h = tt
name_bytes (b ∷ bs) h = let p = and_parts (continues_name b) (list_all continues_name bs) h in (name_byte b p.0, name_bytes bs p.1)

word_bytes : (word : List ℕ) → is_word word ≡ true → AllByRecursion (λ b. is_space b ≡ false) word
word_bytes [] h = tt
word_bytes (b ∷ bs) h = let p = and_parts (starts_name b) (list_all continues_name bs) h in (first_name_byte b p.0, name_bytes bs p.1)

name_has_no_space : (name : List ℕ) → IsTrue (is_name name) → NoSpace name
name_has_no_space name h = All-from_recursion _ name (word_bytes name (and_parts (is_word name) (not (is_reserved name)) h).0)

-- A text that is a name is one word.
pub name_is_one_word : (name : List ℕ) → is_name name ≡ true → slice_split is_space name ≡ name ∷ []
name_is_one_word name h = slice_split_none is_space name (name_has_no_space name h)

number_has_no_space : (n : ℕ) → n < 2 ^ 32 → NoSpace (decimal n)
number_has_no_space n small = λ k d lt. let r = digit_at (decimal n) k (digits n small) lt in rw (get_or_default (decimal n) k d 0 lt) (ne_eqb (get_or (decimal n) k 0) 32 (λ e. absurd (omega arith)))

abbrev AreWords : Words → Type 0
AreWords words = AllByRecursion NoSpace words

both : (words more : Words) → AreWords words → AreWords more → AreWords (words ++ more)
both [] more h k = k
both (w ∷ ws) more h k = (h.0, both ws more h.1 k)

version_are_words : (v : Version) → IsVersion v → AreWords (version_words v)
version_are_words v fits = (name_has_no_space v.name fits.name, (number_has_no_space v.number fits.number, tt))

span_are_words : (span : Span) → IsSpan span → AreWords (span_words span)
span_are_words Any fits = tt
span_are_words (One n) fits = (number_has_no_space n fits, tt)
span_are_words (Range low high) fits = (All-append (λ b. is_space b ≡ false) (decimal low) (codes ".." ++ decimal high) (number_has_no_space low (omega arith)) (All-append (λ b. is_space b ≡ false) (codes "..") (decimal high) (by_test (codes "..") refl) (number_has_no_space high fits.1)), tt)

spec_are_words : (s : Spec) → IsSpec s → AreWords (spec_words s)
spec_are_words s fits = (name_has_no_space s.name fits.name, span_are_words s.span fits.span)

alternatives_are_words : (ss : List Spec) → AllByRecursion IsSpec ss → AreWords (alternatives_words ss)
alternatives_are_words [] each = tt
alternatives_are_words (s ∷ []) each = spec_are_words s each.0
alternatives_are_words (s ∷ t ∷ ts) each = both (spec_words s) (codes "|" ∷ alternatives_words (t ∷ ts)) (spec_are_words s each.0) (by_test (codes "|") refl, alternatives_are_words (t ∷ ts) each.1)

written_are_words : (w : Written) → IsWritten w → AreWords (written_words w)
written_are_words (Lone s) form = spec_are_words s form
written_are_words (Group w) form = (by_test (codes "(") refl, both (written_words w) (codes ")" ∷ []) (written_are_words w form) (by_test (codes ")") refl, tt))
written_are_words (Both v w) form = both (written_words v) (codes "and" ∷ written_words w) (written_are_words v form.0) (by_test (codes "and") refl, written_are_words w form.1)
written_are_words (Either v w) form = both (written_words v) (codes "or" ∷ written_words w) (written_are_words v form.0) (by_test (codes "or") refl, written_are_words w form.1)

condition_are_words : (words : Words) (c : Cond) → AreWordsOfCondition words c → AreWords words
condition_are_words words c a = subst AreWords (sym a.spelled) (written_are_words a.written a.form.form)

-- ---- words joined, and split again

split_join : (word : List ℕ) (words : Words) → AreWords (word ∷ words) → slice_split is_space (join_with_byte 32 (word ∷ words)) ≡ word ∷ words
split_join word [] each = slice_split_none is_space word each.0
split_join word (next ∷ words) each =
    slice_split_at is_space word 32 (join_with_byte 32 (next ∷ words)) each.0 refl ∙ ap (λ (ws : Words). word ∷ ws) (split_join next words each.1)

join_begins : (b : ℕ) (bs : List ℕ) (words : Words) → is_skipped (join_with_byte 32 ((b ∷ bs) ∷ words)) ≡ eqb b 35
join_begins b bs [] = refl
join_begins b bs (w ∷ ws) = refl

text_again : (text : List ℕ) (b : ℕ) (bs : List ℕ) (words : Words) (line : Line) → eqb b 35 ≡ false → text ≡ join_with_byte 32 ((b ∷ bs) ∷ words) → AreWords ((b ∷ bs) ∷ words)
    → line_by (b ∷ bs) words ≡ Some line → line_in text ≡ Some line
unfolding line_in
text_again text b bs words line first spelled each by_keyword =
    let begins : is_skipped text ≡ false = ap is_skipped spelled ∙ join_begins b bs words ∙ first in
    let split : slice_split is_space text ≡ (b ∷ bs) ∷ words = ap (slice_split is_space) spelled ∙ split_join (b ∷ bs) words each in
    rw (begins, split) by_keyword

-- ---- the two laws

spells_words : (text : List ℕ) (words : Words) (line : Line) → AreWordsOf words line → text ≡ join_with_byte 32 words → Spells text line
spells_words text words Skipped is e = absurd is
spells_words text words (Listed v) is e = (words, e, is)
spells_words text words (Needs ss None) is e = (words, e, is)
spells_words text words (Needs ss (Some c)) is e = (words, e, is)
spells_words text words (Limits s) is e = (words, e, is)
spells_words text words (Unknown reason) is e = (words, e, is)
spells_words text words (Lock v) is e = (words, e, is)
spells_words text words (Favour v) is e = (words, e, is)
spells_words text words (Exclude v reason) is e = (words, e, is)
spells_words text words (Many name) is e = (words, e, is)
spells_words text words (Wish v) is e = (words, e, is)

skipped_is : (text : List ℕ) → is_skipped text ≡ true → IsSkipped text
skipped_is [] e = inl refl
skipped_is (b ∷ bs) e = inr (ap (λ (n : ℕ). Some n) (eqb-true b 35 e))

is_skipped_from : (text : List ℕ) → IsSkipped text → is_skipped text ≡ true
is_skipped_from [] h = refl
is_skipped_from (b ∷ bs) h = ⊎_elim (λ none. absurd cc) (λ first. ap (λ (n : ℕ). eqb n 35) (same_Some b 35 first)) h

-- the text spells the parsed line
pub line_takes : (text : List ℕ) (line : Line) → line_in text ≡ Some line → SpellsLine text line
unfolding line_in
line_takes text line e =
    elim (chosen (is_skipped text) _ _ _ e) [
      | inl skipped ↦ subst (λ (l : Line). SpellsLine text l) (same_Some Skipped line skipped.1) (record { spelled = skipped_is text skipped.0; form = tt })
      | inr by_keyword ↦
          let b = bind_some (word_at (slice_split is_space text)) (λ x. line_by x.0 x.1) line by_keyword.1 in
          let words = line_by_takes b.0.0 b.0.1 line b.2 in
          let joined : text ≡ join_with_byte 32 (b.0.0 ∷ b.0.1) = sym (join_with_byte-slice_split 32 text) ∙ ap (join_with_byte 32) (word_takes (slice_split is_space text) b.0.0 b.0.1 b.1) in
          record { spelled = spells_words text (b.0.0 ∷ b.0.1) line words.spelled joined; form = words.form }
    ]

skipped_again : (text : List ℕ) → IsSkipped text → line_in text ≡ Some Skipped
unfolding line_in
skipped_again text h = rw (is_skipped_from text h) refl

-- the words that a text is joined of
joined_of : (text : List ℕ) (words ws : Words) → text ≡ join_with_byte 32 words → words ≡ ws → text ≡ join_with_byte 32 ws
joined_of text words ws e is = e ∙ ap (join_with_byte 32) is

-- a line that the text spells is parsed
pub line_again : (text : List ℕ) (line : Line) → HasForm line → Spells text line → line_in text ≡ Some line
line_again text Skipped form spells = skipped_again text spells
line_again text (Listed v) form (words, joined, is) = text_again text _ _ (version_words v) (Listed v) refl (joined_of text words _ joined is) (by_test (codes "version") refl, version_are_words v form) (line_by_again (codes "version") _ (Listed v) form refl)
line_again text (Needs ss None) form (words, joined, is) = text_again text _ _ (alternatives_words ss) (Needs ss None) refl (joined_of text words _ joined is) (by_test (codes "needs") refl, alternatives_are_words ss form.1) (line_by_again (codes "needs") _ (Needs ss None) form refl)
line_again text (Needs ss (Some c)) form (words, joined, (others, is, spelled)) =
    let each : AreWords (alternatives_words ss ++ codes "if" ∷ others) = both (alternatives_words ss) (codes "if" ∷ others) (alternatives_are_words ss form.1) (by_test (codes "if") refl, condition_are_words others c spelled) in
    text_again text _ _ (alternatives_words ss ++ codes "if" ∷ others) (Needs ss (Some c)) refl (joined_of text words _ joined is) (by_test (codes "needs") refl, each) (line_by_again (codes "needs") _ (Needs ss (Some c)) form (others, refl, spelled))
line_again text (Limits s) form (words, joined, is) = text_again text _ _ (spec_words s) (Limits s) refl (joined_of text words _ joined is) (by_test (codes "limits") refl, spec_are_words s form) (line_by_again (codes "limits") _ (Limits s) form refl)
line_again text (Unknown reason) form (words, joined, is) = text_again text _ _ (reason ∷ []) (Unknown reason) refl (joined_of text words _ joined is) (by_test (codes "unknown") refl, (name_has_no_space reason form, tt)) (line_by_again (codes "unknown") _ (Unknown reason) form refl)
line_again text (Lock v) form (words, joined, is) = text_again text _ _ (version_words v) (Lock v) refl (joined_of text words _ joined is) (by_test (codes "lock") refl, version_are_words v form) (line_by_again (codes "lock") _ (Lock v) form refl)
line_again text (Favour v) form (words, joined, is) = text_again text _ _ (version_words v) (Favour v) refl (joined_of text words _ joined is) (by_test (codes "favour") refl, version_are_words v form) (line_by_again (codes "favour") _ (Favour v) form refl)
line_again text (Exclude v reason) form (words, joined, is) = text_again text _ _ (version_words v ++ reason ∷ []) (Exclude v reason) refl (joined_of text words _ joined is) (by_test (codes "exclude") refl, both (version_words v) (reason ∷ []) (version_are_words v form.0) (name_has_no_space reason form.1, tt)) (line_by_again (codes "exclude") _ (Exclude v reason) form refl)
line_again text (Many name) form (words, joined, is) = text_again text _ _ (name ∷ []) (Many name) refl (joined_of text words _ joined is) (by_test (codes "many") refl, (name_has_no_space name form, tt)) (line_by_again (codes "many") _ (Many name) form refl)
line_again text (Wish v) form (words, joined, is) = text_again text _ _ (version_words v) (Wish v) refl (joined_of text words _ joined is) (by_test (codes "wish") refl, version_are_words v form) (line_by_again (codes "wish") _ (Wish v) form refl)

-- a text spells one line at most
pub one_line : (text : List ℕ) (a b : Line) → SpellsLine text a → SpellsLine text b → a ≡ b
one_line text a b p q = same_Some a b (sym (line_again text a p.form p.spelled) ∙ line_again text b q.form q.spelled)

some_is_none : (line : Line) → Some line ≡ None → ⊥
some_is_none line e = cc

-- where nothing is read, the text spells no line
pub spells_none : (text : List ℕ) → line_in text ≡ None → (line : Line) → SpellsLine text line → ⊥
spells_none text none line p = some_is_none line (sym (line_again text line p.form p.spelled) ∙ none)

-- ---- lines `version`, `needs` and `limits`

listed_map : (o : Option Version) → (o >>= λ v. Some (Listed v)) ≡ option_map (λ v. Listed v) o
listed_map None = refl
listed_map (Some v) = refl

version_line : (rest : List ℕ) → line_in (codes "version " ++ rest) ≡ option_map (λ v. Listed v) (version_in (slice_split is_space rest))
unfolding line_in line_by
version_line rest =
    let split : slice_split is_space (codes "version" ++ 32 ∷ rest) ≡ codes "version" ∷ slice_split is_space rest = slice_split_at is_space (codes "version") 32 rest (by_test (codes "version") refl) refl in
    ap (λ (ws : Words). word_at ws >>= λ x. line_by x.0 x.1) split ∙ listed_map (version_in (slice_split is_space rest))

needs_line : (rest : List ℕ) → line_in (codes "needs " ++ rest) ≡ needs_in (slice_split is_space rest)
unfolding line_in line_by
needs_line rest =
    let split : slice_split is_space (codes "needs" ++ 32 ∷ rest) ≡ codes "needs" ∷ slice_split is_space rest = slice_split_at is_space (codes "needs") 32 rest (by_test (codes "needs") refl) refl in
    ap (λ (ws : Words). word_at ws >>= λ x. line_by x.0 x.1) split

as_map : (o : Option Spec) → (o >>= λ s. Some (Limits s)) ≡ option_map (λ s. Limits s) o
as_map None = refl
as_map (Some s) = refl

limits_line : (rest : List ℕ) → line_in (codes "limits " ++ rest) ≡ option_map (λ s. Limits s) (spec_in (slice_split is_space rest))
unfolding line_in line_by
limits_line rest =
    let split : slice_split is_space (codes "limits" ++ 32 ∷ rest) ≡ codes "limits" ∷ slice_split is_space rest = slice_split_at is_space (codes "limits") 32 rest (by_test (codes "limits") refl) refl in
    ap (λ (ws : Words). word_at ws >>= λ x. line_by x.0 x.1) split ∙ as_map (spec_in (slice_split is_space rest))

-- all that is left from a place on
from_place : (n : ℕ) (text : List ℕ) → take (length text - n) (drop n text) ≡ drop n text
from_place n text = take_all (length text - n) (drop n text) (let left = length-drop n text in omega (arith, left))

pub needs_from : (text : List ℕ) → text ≡ codes "needs " ++ drop 6 text → line_in text ≡ needs_in (words_in (take (length text - 5) (drop 5 text)))
needs_from text begins =
    let words : take (length text - 5) (drop 5 text) ≡ 32 ∷ drop 6 text = from_place 5 text ∙ ap (λ (t : List ℕ). drop 5 t) begins in
    ap line_in begins ∙ needs_line (drop 6 text) ∙ sym (ap (λ (t : List ℕ). needs_in (words_in t)) words)

pub version_from : (text : List ℕ) → text ≡ codes "version " ++ drop 8 text → line_in text ≡ option_map (λ v. Listed v) (version_in (words_in (take (length text - 7) (drop 7 text))))
version_from text begins =
    let words : take (length text - 7) (drop 7 text) ≡ 32 ∷ drop 8 text = from_place 7 text ∙ ap (λ (t : List ℕ). drop 7 t) begins in
    ap line_in begins ∙ version_line (drop 8 text) ∙ sym (ap (λ (t : List ℕ). option_map (λ v. Listed v) (version_in (words_in t))) words)

pub limits_from : (text : List ℕ) → text ≡ codes "limits " ++ drop 7 text → line_in text ≡ option_map (λ s. Limits s) (spec_in (words_in (take (length text - 6) (drop 6 text))))
limits_from text begins =
    let words : take (length text - 6) (drop 6 text) ≡ 32 ∷ drop 7 text = from_place 6 text ∙ ap (λ (t : List ℕ). drop 6 t) begins in
    ap line_in begins ∙ limits_line (drop 7 text) ∙ sym (ap (λ (t : List ℕ). option_map (λ s. Limits s) (spec_in (words_in t))) words)
