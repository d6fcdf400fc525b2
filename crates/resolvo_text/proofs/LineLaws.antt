-- Lines: parsing and spelling are inverse.
use Rattle.std.proofs.Common.{◌≡◌, ℕ, ◌<◌, ◌≤◌, Bool, true, false, cond, List, [], ◌∷◌, ◌++◌, length, inl, inr, Option, Some, None, refl, sym, ap, subst, ◌∙◌, arith}
use Rattle.std.specs.Prelude.{codes, IsTrue}
use Rattle.std.specs.Str.{bytes_eq}
use Rattle.std.specs.List.{AllByRecursion}
use Rattle.std.proofs.lemmas.Slice.Eq.{bytes_eq-Decides}
use Rattle.std.proofs.lemmas.Option.{same_Some}
use Rattle.std.proofs.lemmas.List.{append-nil, length-append}
use Rattle.resolvo_text.specs.Line.{Version, Spec, Cond, Line, Skipped, Listed, Needs, Limits, Unknown, Lock, Favour, Exclude, Many, Wish}
use Rattle.resolvo_text.specs.Spelling.{Words, is_name, IsVersion, IsSpec, version_words, spec_words, alternatives_words, AreWordsOf, AreWordsOfCondition, HasForm}
use Rattle.resolvo_text.specs.Parse.{◌>>=◌, version_at, reason_at, spec_at, alternatives_at, version_in, reason_in, spec_in, span_in, skip, end_at, behind_if, condition_in, needs_in, line_by}
use Rattle.resolvo_text.proofs.AlternativeLemmas.{bind_some}
use Rattle.resolvo_text.proofs.PartLaws.{version_takes, version_again, reason_takes, reason_again, spec_takes, spec_again, alternatives_take, alternatives_again, AreAlternatives, chosen, skip_takes, skip_is, no_skip, BeginsNoSpan, BeginsNot, whole_takes, whole_again}
use Rattle.resolvo_text.proofs.SpanLaws.{not_a_span}
use Rattle.resolvo_text.proofs.ConditionLaws.{behind_if_takes, behind_if_again}

-- the words after the alternatives of a line `needs`
abbrev IsBehindNeeds : Words → Option Cond → Type 0
IsBehindNeeds words None = words ≡ []
IsBehindNeeds words (Some c) = (others : Words) × (words ≡ codes "if" ∷ others) × AreWordsOfCondition others c

no_span_if : span_in (codes "if") ≡ None
no_span_if = not_a_span 105 (102 ∷ []) (inr (omega arith))

-- ---- words, all of them

version_in_takes : (words : Words) (v : Version) → version_in words ≡ Some v → (words ≡ version_words v) × IsVersion v
unfolding version_in
version_in_takes words v e = let h = version_takes words v [] (whole_takes (version_at words) v e) in (h.0, h.1)

version_in_again : (v : Version) → IsVersion v → version_in (version_words v) ≡ Some v
unfolding version_in
version_in_again v fits = whole_again (version_at (version_words v)) v (version_again v [] fits)

reason_in_takes : (words : Words) (reason : List ℕ) → reason_in words ≡ Some reason → (words ≡ reason ∷ []) × IsTrue (is_name reason)
unfolding reason_in
reason_in_takes words reason e = reason_takes words reason [] (whole_takes (reason_at words) reason e)

reason_in_again : (reason : List ℕ) → IsTrue (is_name reason) → reason_in (reason ∷ []) ≡ Some reason
unfolding reason_in
reason_in_again reason named = whole_again (reason_at (reason ∷ [])) reason (reason_again reason [] named)

spec_in_takes : (words : Words) (s : Spec) → spec_in words ≡ Some s → (words ≡ spec_words s) × IsSpec s
unfolding spec_in
spec_in_takes words s e = let h = spec_takes words s [] (whole_takes (spec_at words) s e) in (h.0 ∙ append-nil (spec_words s), h.1)

spec_in_again : (s : Spec) → IsSpec s → spec_in (spec_words s) ≡ Some s
unfolding spec_in
spec_in_again s fits = whole_again (spec_at (spec_words s)) s (ap spec_at (sym (append-nil (spec_words s))) ∙ spec_again s [] fits tt)

words_each : (ss : List Spec) → length ss ≤ length (alternatives_words ss)
words_each [] = omega arith
words_each (s ∷ []) = omega arith
words_each (s ∷ t ∷ ts) = omega (arith, words_each (t ∷ ts), length-append (spec_words s) (codes "|" ∷ alternatives_words (t ∷ ts)))

condition_in_takes : (words : Words) (c : Option Cond) → condition_in words ≡ Some c → IsBehindNeeds words c
unfolding condition_in
condition_in_takes words c e =
    elim (chosen (skip (codes "if") words).0 _ _ _ e) [
      | inl found ↦
          let b = bind_some (behind_if (skip (codes "if") words).1) (λ x. Some (Some x)) c found.1 in
          subst (λ (o : Option Cond). IsBehindNeeds words o) (same_Some _ _ b.2) ((skip (codes "if") words).1, skip_takes (codes "if") words found.0, behind_if_takes (skip (codes "if") words).1 b.0 b.1)
      | inr none ↦ subst (λ (o : Option Cond). IsBehindNeeds words o) (at_end words c none.1).1 (at_end words c none.1).0
    ]
  where
    at_end : (words : Words) (c : Option Cond) → (end_at words >>= λ _. Some None) ≡ Some c → (words ≡ []) × (None ≡ c)
    at_end [] c e = (refl, same_Some _ _ e)
    at_end (word ∷ words) c e = absurd cc

condition_in_again : (words : Words) (c : Option Cond) → IsBehindNeeds words c → condition_in words ≡ Some c
unfolding condition_in
condition_in_again words None is = ap condition_in is ∙ rw (no_skip (codes "if") [] tt) refl
condition_in_again words (Some c) (others, is, spelled) = ap condition_in is ∙ rw (skip_is (codes "if") others, behind_if_again others c spelled) refl

-- the words after alternatives begin with no span and no bar
ends_alternatives : (words : Words) (c : Option Cond) → IsBehindNeeds words c → BeginsNoSpan words × BeginsNot (codes "|") words
ends_alternatives words None is = subst (λ (ws : Words). BeginsNoSpan ws × BeginsNot (codes "|") ws) (sym is) (tt, tt)
ends_alternatives words (Some c) (others, is, spelled) = subst (λ (ws : Words). BeginsNoSpan ws × BeginsNot (codes "|") ws) (sym is) (no_span_if, refl)

-- ---- the words of a line

-- The words spell the line, and the line has a form.
pub record AreSpelling (words : Words) (line : Line) : Type 0 where
  pub spelled : AreWordsOf words line
  pub form : HasForm line

-- a part, and the line that is made of it
made_takes : {X : Type 0} (o : Option X) (make : X → Line) (words : Words) (line : Line) → (o >>= λ x. Some (make x)) ≡ Some line → ((x : X) → o ≡ Some x → AreSpelling words (make x)) → AreSpelling words line
made_takes o make words line e takes =
    let b = bind_some o (λ x. Some (make x)) line e in
    subst (λ (l : Line). AreSpelling words l) (same_Some _ _ b.2) (takes b.0 b.1)

keyword_is : (keyword : List ℕ) (word : List ℕ) → bytes_eq keyword word ≡ true → keyword ≡ word
keyword_is keyword word e = (bytes_eq-Decides keyword word).0 e

-- the first of two cases that the test chooses
chooses : {G : Type 0} (b : Bool) (x y : Option Line) (line : Line) → (b ≡ true → x ≡ Some line → G) → (y ≡ Some line → G) → cond b x y ≡ Some line → G
chooses true x y line f g e = f refl e
chooses false x y line f g e = g e

headed : (keyword k : List ℕ) (words ws : Words) → bytes_eq keyword k ≡ true → words ≡ ws → keyword ∷ words ≡ k ∷ ws
headed keyword k words ws e is = ap (λ (w : List ℕ). w ∷ words) (keyword_is keyword k e) ∙ ap (λ (x : Words). k ∷ x) is

-- a line of a keyword and a version
of_version : (keyword k : List ℕ) (words : Words) (line : Line) (make : Version → Line) → bytes_eq keyword k ≡ true → (version_in words >>= λ v. Some (make v)) ≡ Some line
    → ((v : Version) → IsVersion v → AreSpelling (k ∷ version_words v) (make v)) → AreSpelling (keyword ∷ words) line
of_version keyword k words line make same e each_version = made_takes (version_in words) make (keyword ∷ words) line e (λ v h.
    let t = version_in_takes words v h in subst (λ (ws : Words). AreSpelling ws (make v)) (sym (headed keyword k words (version_words v) same t.0)) (each_version v t.1))

exclude_takes : (keyword : List ℕ) (words : Words) (line : Line) → bytes_eq keyword (codes "exclude") ≡ true
    → (version_at words >>= λ v. reason_in v.1 >>= λ reason. Some (Exclude v.0 reason)) ≡ Some line → AreSpelling (keyword ∷ words) line
exclude_takes keyword words line same e =
    let a = bind_some (version_at words) (λ v. reason_in v.1 >>= λ reason. Some (Exclude v.0 reason)) line e in
    let b = bind_some (reason_in a.0.1) (λ reason. Some (Exclude a.0.0 reason)) line a.2 in
    let v = version_takes words a.0.0 a.0.1 a.1 in
    let r = reason_in_takes a.0.1 b.0 b.1 in
    subst (λ (l : Line). AreSpelling (keyword ∷ words) l) (same_Some _ _ b.2)
    (record { spelled = headed keyword (codes "exclude") words _ same (v.0 ∙ ap (λ (ws : Words). version_words a.0.0 ++ ws) r.0); form = (v.1, r.1) })

-- a line whose alternatives and condition are spelled so
needs_spelled : (keyword : List ℕ) (words rest : Words) (ss : List Spec) (c : Option Cond) → bytes_eq keyword (codes "needs") ≡ true → AreAlternatives words ss rest → IsBehindNeeds rest c → AreSpelling (keyword ∷ words) (Needs ss c)
needs_spelled keyword words rest ss None same are is =
    record { spelled = headed keyword (codes "needs") words (alternatives_words ss) same (are.spelled ∙ ap (λ (ws : Words). alternatives_words ss ++ ws) is ∙ append-nil (alternatives_words ss)); form = (are.some, are.each) }
needs_spelled keyword words rest ss (Some c) same are (others, is, spelled) =
    record { spelled = (others, headed keyword (codes "needs") words (alternatives_words ss ++ codes "if" ∷ others) same (are.spelled ∙ ap (λ (ws : Words). alternatives_words ss ++ ws) is), spelled); form = (are.some, are.each) }

needs_take : (keyword : List ℕ) (words : Words) (line : Line) → bytes_eq keyword (codes "needs") ≡ true → needs_in words ≡ Some line → AreSpelling (keyword ∷ words) line
unfolding needs_in
needs_take keyword words line same e =
    let a = bind_some (alternatives_at (length words) words) (λ x. condition_in x.1 >>= λ c. Some (Needs x.0 c)) line e in
    let b = bind_some (condition_in a.0.1) (λ c. Some (Needs a.0.0 c)) line a.2 in
    subst (λ (l : Line). AreSpelling (keyword ∷ words) l) (same_Some _ _ b.2)
    (needs_spelled keyword words a.0.1 a.0.0 b.0 same (alternatives_take (length words) words a.0.0 a.0.1 a.1) (condition_in_takes a.0.1 b.0 b.1))

needs_again : (ss : List Spec) (rest : Words) (c : Option Cond) → 0 < length ss → AllByRecursion IsSpec ss → IsBehindNeeds rest c → needs_in (alternatives_words ss ++ rest) ≡ Some (Needs ss c)
unfolding needs_in
needs_again ss rest c some each is =
    let ends = ends_alternatives rest c is in
    let enough : length ss ≤ length (alternatives_words ss ++ rest) = omega (arith, words_each ss, length-append (alternatives_words ss) rest) in
    rw (alternatives_again (length (alternatives_words ss ++ rest)) ss rest some enough each ends.0 ends.1, condition_in_again rest c is) refl

pub line_by_takes : (keyword : List ℕ) (words : Words) (line : Line) → line_by keyword words ≡ Some line → AreSpelling (keyword ∷ words) line
unfolding line_by
line_by_takes keyword words line e =
    chooses (bytes_eq keyword (codes "version")) _ _ line
    (λ same made. of_version keyword (codes "version") words line (λ v. Listed v) same made (λ v fits. record { spelled = refl; form = fits }))
    (chooses (bytes_eq keyword (codes "needs")) _ _ line
    (λ same made. needs_take keyword words line same made)
    (chooses (bytes_eq keyword (codes "limits")) _ _ line
    (λ same made. made_takes (spec_in words) (λ s. Limits s) (keyword ∷ words) line made (λ s h.
    let t = spec_in_takes words s h in record { spelled = headed keyword (codes "limits") words _ same t.0; form = t.1 }))
    (chooses (bytes_eq keyword (codes "unknown")) _ _ line
    (λ same made. made_takes (reason_in words) (λ reason. Unknown reason) (keyword ∷ words) line made (λ reason h.
    let t = reason_in_takes words reason h in record { spelled = headed keyword (codes "unknown") words _ same t.0; form = t.1 }))
    (chooses (bytes_eq keyword (codes "lock")) _ _ line
    (λ same made. of_version keyword (codes "lock") words line (λ v. Lock v) same made (λ v fits. record { spelled = refl; form = fits }))
    (chooses (bytes_eq keyword (codes "favour")) _ _ line
    (λ same made. of_version keyword (codes "favour") words line (λ v. Favour v) same made (λ v fits. record { spelled = refl; form = fits }))
    (chooses (bytes_eq keyword (codes "exclude")) _ _ line
    (λ same made. exclude_takes keyword words line same made)
    (chooses (bytes_eq keyword (codes "many")) _ _ line
    (λ same made. made_takes (reason_in words) (λ name. Many name) (keyword ∷ words) line made (λ name h.
    let t = reason_in_takes words name h in record { spelled = headed keyword (codes "many") words _ same t.0; form = t.1 }))
    (chooses (bytes_eq keyword (codes "wish")) _ _ line
    (λ same made. of_version keyword (codes "wish") words line (λ v. Wish v) same made (λ v fits. record { spelled = refl; form = fits }))
    (λ none. absurd cc))))))))) e

abbrev line_of_words : Words → Option Line
line_of_words [] = None
line_of_words (keyword ∷ words) = line_by keyword words

pub line_by_again : (keyword : List ℕ) (words : Words) (line : Line) → HasForm line → AreWordsOf (keyword ∷ words) line → line_by keyword words ≡ Some line
unfolding line_by
line_by_again keyword words Skipped form spelled = absurd spelled
line_by_again keyword words (Listed v) form spelled = ap line_of_words spelled ∙ rw (version_in_again v form) refl
line_by_again keyword words (Needs ss None) form spelled = ap line_of_words (spelled ∙ ap (λ (ws : Words). codes "needs" ∷ ws) (sym (append-nil (alternatives_words ss)))) ∙ rw (needs_again ss [] None form.0 form.1 refl) refl
line_by_again keyword words (Needs ss (Some c)) form (others, spelled, is) = ap line_of_words spelled ∙ rw (needs_again ss (codes "if" ∷ others) (Some c) form.0 form.1 (others, refl, is)) refl
line_by_again keyword words (Limits s) form spelled = ap line_of_words spelled ∙ rw (spec_in_again s form) refl
line_by_again keyword words (Unknown reason) form spelled = ap line_of_words spelled ∙ rw (reason_in_again reason form) refl
line_by_again keyword words (Lock v) form spelled = ap line_of_words spelled ∙ rw (version_in_again v form) refl
line_by_again keyword words (Favour v) form spelled = ap line_of_words spelled ∙ rw (version_in_again v form) refl
line_by_again keyword words (Exclude v reason) form spelled = ap line_of_words spelled ∙ rw (version_again v (reason ∷ []) form.0, reason_in_again reason form.1) refl
line_by_again keyword words (Many name) form spelled = ap line_of_words spelled ∙ rw (reason_in_again name form) refl
line_by_again keyword words (Wish v) form spelled = ap line_of_words spelled ∙ rw (version_in_again v form) refl
