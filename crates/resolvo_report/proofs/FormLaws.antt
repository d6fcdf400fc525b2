-- Parts of lines: parsing and spelling are inverse.
use Rattle.std.proofs.Common.{◌≡◌, ℕ, ◌+◌, ◌^◌, ◌<◌, ◌≤◌, inl, inr, Bool, true, false, not, cond, ◌&&◌, List, [], ◌∷◌, ◌++◌, length, get_or, take, drop, Option, Some, None, All, refl, sym, ap, subst, ◌∙◌, append_assoc, append-nil, arith}
use Rattle.std.specs.Prelude.{codes, IsTrue, ⊤, ◌==◌, nat_lt}
use Rattle.std.specs.Fmt.{decimal}
use Rattle.std.specs.Str.{bytes_eq}
use Rattle.std.specs.List.{AllByRecursion, list_all, position, position_or_len}
use Rattle.std.proofs.lemmas.Slice.Eq.{bytes_eq-Decides}
use Rattle.std.proofs.lemmas.Bool.{and_parts, ne_eqb, eqb-true, ltb-true, lt-ltb}
use Rattle.std.proofs.lemmas.Bool.Decides.{nat_tests}
use Rattle.std.proofs.lemmas.Option.{same_Some, cond_some}
use Rattle.std.proofs.lemmas.List.{get_or_default, take_at, drop_at, drop-drop, take-append-drop, drop_more, length-append, get_or_append_left, get_or_at}
use Rattle.std.proofs.lemmas.List.Elements.{All-from_recursion, recursion_from_All}
use Rattle.std.proofs.lemmas.List.Folds.{list_all-append}
use Rattle.std.proofs.lemmas.List.Sums.{position_or_len_is}
use Rattle.std.proofs.lemmas.List.Quantifiers.{position-Some}
use Rattle.std.proofs.lemmas.Str.Parse.{digit_at}
use Rattle.resolvo_text.specs.declared.spec.Span.{Span}
use Rattle.resolvo_text.specs.declared.spec.Span.TheVariants.{Any, One, Range}
use Rattle.resolvo_text.specs.Line.{Version, Spec}
use Rattle.resolvo_text.specs.Spelling.{Words, is_name, is_word, is_reserved, starts_name, continues_name, IsNumber, IsVersion, IsSpan, IsSpec, span_words, spec_words, alternatives_words}
use Rattle.resolvo_text.specs.Parse.{◌>>=◌, word_at, end_at, name_in, number_in, reason_at, spec_at, skip}
use Rattle.resolvo_text.proofs.NumberLemmas.{number_in-decimal, number_in_spells, digits}
use Rattle.resolvo_text.proofs.AlternativeLemmas.{bind_some}
use Rattle.resolvo_text.proofs.PartLaws.{name_takes, name_again, word_takes, reason_takes, reason_again, spec_takes, spec_again, BeginsNoSpan, BeginsNot, skip_takes, skip_is, no_skip, alternatives_take, alternatives_again, chosen}
use Rattle.resolvo_report.specs.Value.{Place, OfRequest, OfVersion}
use Rattle.resolvo_report.specs.Text.{version_text, place_text, IsPlace, IsLineNumber, IsBit, AreAlternatives}
use Rattle.resolvo_report.specs.Parse.{Reader, pair_at, behind, behind_at, whole, is_equals, version_in, version_at, place_at, number_at, line_number_at, bit_at, line_at, specs_at}

-- ---- plain words: without spaces, newlines, semicolons and brackets

abbrev pub is_plain : ℕ → Bool
is_plain b = nat_lt 32 b && (not (b == 59) && not (b == 93))

abbrev pub Plain : List ℕ → Type 0
Plain word = list_all is_plain word ≡ true

abbrev pub ArePlain : Words → Type 0
ArePlain words = AllByRecursion Plain words

pub plain_both : (xs ys : List ℕ) → Plain xs → Plain ys → Plain (xs ++ ys)
plain_both xs ys p q = list_all-append is_plain xs ys ∙ rw (p, q) refl

pub are_plain_both : (xs ys : Words) → ArePlain xs → ArePlain ys → ArePlain (xs ++ ys)
are_plain_both [] ys p q = q
are_plain_both (x ∷ xs) ys p q = (p.0, are_plain_both xs ys p.1 q)

plain_from : (b : ℕ) → 32 < b → (b ≡ 59 → ⊥) → (b ≡ 93 → ⊥) → is_plain b ≡ true
plain_from b above other not_close = rw (lt-ltb 32 b above, ne_eqb b 59 other, ne_eqb b 93 not_close) refl

name_byte : (b : ℕ) → continues_name b ≡ true → is_plain b ≡ true
name_byte b h = plain_from b (grind (arith, nat_tests)) (λ e. absurd (grind (arith, nat_tests))) (λ e. absurd (grind (arith, nat_tests)))

first_name_byte : (b : ℕ) → starts_name b ≡ true → is_plain b ≡ true
first_name_byte b h = plain_from b (grind (arith, nat_tests)) (λ e. absurd (grind (arith, nat_tests))) (λ e. absurd (grind (arith, nat_tests)))

name_bytes : (bs : List ℕ) → list_all continues_name bs ≡ true → Plain bs
name_bytes [] h = refl
name_bytes (b ∷ bs) h = let p = and_parts (continues_name b) (list_all continues_name bs) h in rw (name_byte b p.0, name_bytes bs p.1) refl

word_bytes : (word : List ℕ) → is_word word ≡ true → Plain word
word_bytes [] h = refl
word_bytes (b ∷ bs) h = let p = and_parts (starts_name b) (list_all continues_name bs) h in rw (first_name_byte b p.0, name_bytes bs p.1) refl

pub name_is_plain : (name : List ℕ) → IsTrue (is_name name) → Plain name
name_is_plain name h = word_bytes name (and_parts (is_word name) (not (is_reserved name)) h).0

by_each : (bs : List ℕ) → AllByRecursion (λ b. is_plain b ≡ true) bs → Plain bs
by_each [] h = refl
by_each (b ∷ bs) h = rw (h.0, by_each bs h.1) refl

pub number_is_plain : (n : ℕ) → n < 2 ^ 32 → Plain (decimal n)
number_is_plain n small = by_each (decimal n) (recursion_from_All (λ b. is_plain b ≡ true) (decimal n)
    (λ k d lt. let r = digit_at (decimal n) k (digits n small) lt in rw (get_or_default (decimal n) k d 0 lt) (plain_from (get_or (decimal n) k 0) (omega arith) (λ e. absurd (omega arith)) (λ e. absurd (omega arith)))))

pub version_is_plain : (v : Version) → IsVersion v → Plain (version_text v)
version_is_plain v fits = plain_both (v.name ++ codes "=") (decimal v.number) (plain_both v.name (codes "=") (name_is_plain v.name fits.name) refl) (number_is_plain v.number fits.number)

span_are_plain : (span : Span) → IsSpan span → ArePlain (span_words span)
span_are_plain Any fits = tt
span_are_plain (One n) fits = (number_is_plain n fits, tt)
span_are_plain (Range low high) fits = (plain_both (decimal low) (codes ".." ++ decimal high) (number_is_plain low (omega arith)) (plain_both (codes "..") (decimal high) refl (number_is_plain high fits.1)), tt)

pub spec_are_plain : (s : Spec) → IsSpec s → ArePlain (spec_words s)
spec_are_plain s fits = (name_is_plain s.name fits.name, span_are_plain s.span fits.span)

pub alternatives_are_plain : (ss : List Spec) → AllByRecursion IsSpec ss → ArePlain (alternatives_words ss)
alternatives_are_plain [] each = tt
alternatives_are_plain (s ∷ []) each = spec_are_plain s each.0
alternatives_are_plain (s ∷ t ∷ ts) each = are_plain_both (spec_words s) (codes "|" ∷ alternatives_words (t ∷ ts)) (spec_are_plain s each.0) (refl, alternatives_are_plain (t ∷ ts) each.1)

-- ---- laws of a part

-- A reader takes a part that fits from words that begin with its spelling, where the rest may follow.
pub record Law {X : Type 0} (read : Reader X) (spell : X → Words) (Fits : X → Type 0) (Ends : Words → Type 0) : Type 0 where
  pub takes : (ws : Words) (x : X) (rest : Words) → read ws ≡ Some (x, rest) → (ws ≡ spell x ++ rest) × Fits x
  pub again : (x : X) (rest : Words) → Fits x → Ends rest → read (spell x ++ rest) ≡ Some (x, rest)
  pub plain : (x : X) → Fits x → ArePlain (spell x)

-- words that are this value, and no more
pub record Kind {X Y : Type 0} (read : Words → Option Y) (make : X → Y) (spell : X → Words) (Fits : X → Type 0) : Type 0 where
  pub takes : (ws : Words) (y : Y) → read ws ≡ Some y → (x : X) × (ws ≡ spell x) × Fits x × (make x ≡ y)
  pub again : (x : X) → Fits x → read (spell x) ≡ Some (make x)
  pub plain : (x : X) → Fits x → ArePlain (spell x)

abbrev pub Anything : Words → Type 0
Anything words = ⊤

pub pair_law : {A B : Type 0} {ra : Reader A} {rb : Reader B} {sa : A → Words} {sb : B → Words} {Fa : A → Type 0} {Fb : B → Type 0} {Ea Eb : Words → Type 0}
    → Law ra sa Fa Ea → Law rb sb Fb Eb → ((y : B) (rest : Words) → Fb y → Eb rest → Ea (sb y ++ rest)) → Law (pair_at ra rb) (λ x. sa x.0 ++ sb x.1) (λ x. Fa x.0 × Fb x.1) Eb
pair_law {A} {B} {ra} {rb} {sa} {sb} {Fa} {Fb} {Ea} {Eb} a b fit = record {
  takes = λ ws x rest e.
      let p = bind_some (ra ws) (λ x. rb x.1 >>= λ y. Some ((x.0, y.0), y.1)) (x, rest) e in
      let q = bind_some (rb p.0.1) (λ y. Some ((p.0.0, y.0), y.1)) (x, rest) p.2 in
      let first = a.takes ws p.0.0 p.0.1 p.1 in
      let second = b.takes p.0.1 q.0.0 q.0.1 q.1 in
      let is : ◌≡◌ {A = (A × B) × Words} ((p.0.0, q.0.0), q.0.1) (x, rest) = same_Some _ _ q.2 in
      let spelled : ws ≡ (sa p.0.0 ++ sb q.0.0) ++ q.0.1 = first.0 ∙ ap (λ (r : Words). sa p.0.0 ++ r) second.0 ∙ sym (append_assoc (sa p.0.0) (sb q.0.0) q.0.1) in
      subst (λ (z : (A × B) × Words). (ws ≡ (sa z.0.0 ++ sb z.0.1) ++ z.1) × (Fa z.0.0 × Fb z.0.1)) is (spelled, (first.1, second.1));
  again = λ x rest fits ends.
      let first : ra ((sa x.0 ++ sb x.1) ++ rest) ≡ Some (x.0, sb x.1 ++ rest) = ap ra (append_assoc (sa x.0) (sb x.1) rest) ∙ a.again x.0 (sb x.1 ++ rest) fits.0 (fit x.1 rest fits.1 ends) in
      let second : rb (sb x.1 ++ rest) ≡ Some (x.1, rest) = b.again x.1 rest fits.1 ends in
      ap (λ (o : Option (A × Words)). o >>= λ x. rb x.1 >>= λ y. Some ((x.0, y.0), y.1)) first ∙ ap (λ (o : Option (B × Words)). o >>= λ y. Some ((x.0, y.0), y.1)) second;
  plain = λ x fits. are_plain_both (sa x.0) (sb x.1) (a.plain x.0 fits.0) (b.plain x.1 fits.1);
}

behind_takes : (k : List ℕ) (words rest : Words) → behind k words ≡ Some rest → words ≡ k ∷ rest
unfolding behind
behind_takes k words rest e = let g = cond_some (skip k words).0 (skip k words).1 rest e in skip_takes k words g.0 ∙ ap (λ (ws : Words). k ∷ ws) g.1

pub behind_again : (k : List ℕ) (words : Words) → behind k (k ∷ words) ≡ Some words
unfolding behind
behind_again k words = rw (skip_is k words) refl

pub behind_law : {A : Type 0} {read : Reader A} {spell : A → Words} {Fits : A → Type 0} {Ends : Words → Type 0} → (k : List ℕ) → Plain k → Law read spell Fits Ends
    → Law (behind_at k read) (λ x. k ∷ spell x) Fits Ends
behind_law {A} {read} {spell} {Fits} {Ends} k plain law = record {
  takes = λ ws x rest e.
      let p = bind_some (behind k ws) read (x, rest) e in
      let t = law.takes p.0 x rest p.2 in
      (behind_takes k ws p.0 p.1 ∙ ap (λ (r : Words). k ∷ r) t.0, t.1);
  again = λ x rest fits ends. ap (λ (o : Option Words). o >>= read) (behind_again k (spell x ++ rest)) ∙ law.again x rest fits ends;
  plain = λ x fits. (plain, law.plain x fits);
}

at_end : (words : Words) (u : Unit {0}) → end_at words ≡ Some u → words ≡ []
at_end [] u e = refl
at_end (w ∷ ws) u e = absurd cc

pub whole_kind : {X Y : Type 0} {read : Reader X} {spell : X → Words} {Fits : X → Type 0} {Ends : Words → Type 0} → (make : X → Y) → Law read spell Fits Ends → Ends [] → Kind (whole read make) make spell Fits
whole_kind {X} {Y} {read} {spell} {Fits} {Ends} make law ends = record {
  takes = λ ws y e.
      let p = bind_some (read ws) (λ x. end_at x.1 >>= λ _. Some (make x.0)) y e in
      let q = bind_some (end_at p.0.1) (λ _. Some (make p.0.0)) y p.2 in
      let t = law.takes ws p.0.0 p.0.1 p.1 in
      (p.0.0, t.0 ∙ ap (λ (r : Words). spell p.0.0 ++ r) (at_end p.0.1 q.0 q.1) ∙ append-nil (spell p.0.0), t.1, same_Some _ _ q.2);
  again = λ x fits. ap (λ (o : Option (X × Words)). o >>= λ z. end_at z.1 >>= λ _. Some (make z.0)) (ap read (sym (append-nil (spell x))) ∙ law.again x [] fits ends);
  plain = law.plain;
}

-- ---- numbers

number_takes : (ws : Words) (n : ℕ) (rest : Words) → number_at ws ≡ Some (n, rest) → (ws ≡ decimal n ∷ rest) × IsNumber n
unfolding number_at
number_takes ws n rest e =
    let p = bind_some (word_at ws) (λ x. number_in x.0 >>= λ n. Some (n, x.1)) (n, rest) e in
    let q = bind_some (number_in p.0.0) (λ n. Some (n, p.0.1)) (n, rest) p.2 in
    let number = number_in_spells p.0.0 q.0 q.1 in
    let is : ◌≡◌ {A = ℕ × Words} (q.0, p.0.1) (n, rest) = same_Some _ _ q.2 in
    subst (λ (z : ℕ × Words). (ws ≡ decimal z.0 ∷ z.1) × IsNumber z.0) is (word_takes ws p.0.0 p.0.1 p.1 ∙ ap (λ (w : List ℕ). w ∷ p.0.1) number.0, number.1)

number_again : (n : ℕ) (rest : Words) → IsNumber n → number_at (decimal n ∷ rest) ≡ Some (n, rest)
unfolding number_at
number_again n rest small = rw (number_in-decimal n small) refl

pub number_law : Law number_at (λ n. decimal n ∷ []) IsNumber Anything
number_law = record { takes = number_takes; again = λ n rest fits ends. number_again n rest fits; plain = λ n fits. (number_is_plain n fits, tt) }

cond_none : {A : Type 0} (b : Bool) (x y : A) → cond b None (Some x) ≡ Some y → (b ≡ false) × (x ≡ y)
cond_none true x y e = absurd cc
cond_none false x y e = (refl, same_Some x y e)

line_number_takes : (ws : Words) (n : ℕ) (rest : Words) → line_number_at ws ≡ Some (n, rest) → (ws ≡ decimal n ∷ rest) × IsLineNumber n
unfolding line_number_at
line_number_takes ws n rest e =
    let p = bind_some (number_at ws) (λ x. cond (x.0 == 0) None (Some x)) (n, rest) e in
    let t = cond_none (p.0.0 == 0) p.0 (n, rest) p.2 in
    let number = number_takes ws p.0.0 p.0.1 p.1 in
    subst (λ (z : ℕ × Words). (ws ≡ decimal z.0 ∷ z.1) × IsLineNumber z.0) t.1 (number.0, (grind (arith, nat_tests, t.0), number.1))

line_number_again : (n : ℕ) (rest : Words) → IsLineNumber n → line_number_at (decimal n ∷ rest) ≡ Some (n, rest)
unfolding line_number_at
line_number_again n rest fits = rw (number_again n rest fits.1, ne_eqb n 0 (λ e. absurd (omega (arith, fits.0)))) refl

pub line_number_law : Law line_number_at (λ n. decimal n ∷ []) IsLineNumber Anything
line_number_law = record { takes = line_number_takes; again = λ n rest fits ends. line_number_again n rest fits; plain = λ n fits. (number_is_plain n fits.1, tt) }

bit_takes : (ws : Words) (n : ℕ) (rest : Words) → bit_at ws ≡ Some (n, rest) → (ws ≡ decimal n ∷ rest) × IsBit n
unfolding bit_at
bit_takes ws n rest e =
    let p = bind_some (number_at ws) (λ x. cond (nat_lt x.0 32) (Some x) None) (n, rest) e in
    let t = cond_some (nat_lt p.0.0 32) p.0 (n, rest) p.2 in
    let number = number_takes ws p.0.0 p.0.1 p.1 in
    subst (λ (z : ℕ × Words). (ws ≡ decimal z.0 ∷ z.1) × IsBit z.0) t.1 (number.0, ltb-true p.0.0 32 t.0)

bit_again : (n : ℕ) (rest : Words) → IsBit n → bit_at (decimal n ∷ rest) ≡ Some (n, rest)
unfolding bit_at
bit_again n rest fits = rw (number_again n rest (omega (arith, fits)), lt-ltb n 32 fits) refl

pub bit_law : Law bit_at (λ n. decimal n ∷ []) IsBit Anything
bit_law = record { takes = bit_takes; again = λ n rest fits ends. bit_again n rest fits; plain = λ n fits. (number_is_plain n (omega (arith, fits)), tt) }

pub line_law : Law line_at (λ n. codes "line" ∷ decimal n ∷ []) IsLineNumber Anything
unfolding line_at
line_law = behind_law (codes "line") refl line_number_law

-- ---- names, versions, places

pub name_law : Law reason_at (λ name. name ∷ []) (λ name. IsTrue (is_name name)) Anything
name_law = record { takes = reason_takes; again = λ name rest fits ends. reason_again name rest fits; plain = λ name fits. (name_is_plain name fits, tt) }

no_equals : (bs : List ℕ) → list_all continues_name bs ≡ true → AllByRecursion (λ b. is_equals b ≡ false) bs
no_equals [] h = tt
no_equals (b ∷ bs) h = let p = and_parts (continues_name b) (list_all continues_name bs) h in (ne_eqb b 61 (λ e. absurd (grind (arith, nat_tests, p.0))), no_equals bs p.1)

no_equals_word : (word : List ℕ) → is_word word ≡ true → AllByRecursion (λ b. is_equals b ≡ false) word
no_equals_word [] h = tt
no_equals_word (b ∷ bs) h = let p = and_parts (starts_name b) (list_all continues_name bs) h in (ne_eqb b 61 (λ e. absurd (grind (arith, nat_tests, p.0))), no_equals bs p.1)

equals_at : (name digits : List ℕ) → IsTrue (is_name name) → position is_equals (name ++ 61 ∷ digits) ≡ Some (length name)
equals_at name digits named =
    let each : All (λ b. is_equals b ≡ false) name = All-from_recursion _ name (no_equals_word name (and_parts (is_word name) (not (is_reserved name)) named).0) in
    let at : position_or_len is_equals (name ++ 61 ∷ digits) ≡ length name = position_or_len_is is_equals (name ++ 61 ∷ digits) (length name) 0 (omega (arith, length-append name (61 ∷ digits)))
    (λ k lt. rw (get_or_append_left name (61 ∷ digits) 0 k lt) (each k 0 lt))
    (λ lt. rw (get_or_at name 61 digits 0 (length name) refl) refl) in
    rw (at, lt-ltb (length name) (length (name ++ 61 ∷ digits)) (omega (arith, length-append name (61 ∷ digits)))) refl

pub version_in_again : (v : Version) → IsVersion v → version_in (version_text v) ≡ Some v
unfolding version_in
version_in_again v fits =
    let parts : version_text v ≡ v.name ++ 61 ∷ decimal v.number = append_assoc v.name (codes "=") (decimal v.number) in
    ap (λ (word : List ℕ). position is_equals word >>= λ at. name_in (take at word) >>= λ name. number_in (drop (at + 1) word) >>= λ n. Some (record { name = name; number = n })) parts
    ∙ rw (equals_at v.name (decimal v.number) fits.name, take_at v.name (61 ∷ decimal v.number) (length v.name) refl, sym (drop-drop 1 (length v.name) (v.name ++ 61 ∷ decimal v.number)), drop_at v.name (61 ∷ decimal v.number) (length v.name) refl, name_again v.name fits.name, number_in-decimal v.number fits.number) refl

pub version_in_takes : (word : List ℕ) (v : Version) → version_in word ≡ Some v → (word ≡ version_text v) × IsVersion v
unfolding version_in
version_in_takes word v e =
    let a = bind_some (position is_equals word) (λ at. name_in (take at word) >>= λ name. number_in (drop (at + 1) word) >>= λ n. Some (record { name = name; number = n })) v e in
    let b = bind_some (name_in (take a.0 word)) (λ name. number_in (drop (a.0 + 1) word) >>= λ n. Some (record { name = name; number = n })) v a.2 in
    let d = bind_some (number_in (drop (a.0 + 1) word)) (λ n. Some (record { name = b.0; number = n })) v b.2 in
    let name = name_takes (take a.0 word) b.0 b.1 in
    let number = number_in_spells (drop (a.0 + 1) word) d.0 d.1 in
    let at = position-Some is_equals word a.0 0 a.1 in
    let equals : get_or word a.0 0 ≡ 61 = eqb-true (get_or word a.0 0) 61 at.1 in
    let made : Version = record { name = b.0; number = d.0 } in
    let is : made ≡ v = same_Some _ _ d.2 in
    let parts : word ≡ take a.0 word ++ 61 ∷ drop (a.0 + 1) word = sym (take-append-drop a.0 word) ∙ ap (λ (xs : List ℕ). take a.0 word ++ xs) (drop_more word a.0 0 at.0 ∙ ap (λ (b : ℕ). b ∷ drop (a.0 + 1) word) equals) in
    let spelled : word ≡ version_text made = parts ∙ ap (λ (xs : List ℕ). xs ++ 61 ∷ drop (a.0 + 1) word) name.0 ∙ ap (λ (xs : List ℕ). b.0 ++ 61 ∷ xs) number.0 ∙ sym (append_assoc b.0 (codes "=") (decimal d.0)) in
    subst (λ (z : Version). (word ≡ version_text z) × IsVersion z) is (spelled, record { name = name.1; number = number.1 })

version_takes : (ws : Words) (v : Version) (rest : Words) → version_at ws ≡ Some (v, rest) → (ws ≡ version_text v ∷ rest) × IsVersion v
unfolding version_at
version_takes ws v rest e =
    let p = bind_some (word_at ws) (λ x. version_in x.0 >>= λ v. Some (v, x.1)) (v, rest) e in
    let q = bind_some (version_in p.0.0) (λ v. Some (v, p.0.1)) (v, rest) p.2 in
    let version = version_in_takes p.0.0 q.0 q.1 in
    let is : ◌≡◌ {A = Version × Words} (q.0, p.0.1) (v, rest) = same_Some _ _ q.2 in
    subst (λ (z : Version × Words). (ws ≡ version_text z.0 ∷ z.1) × IsVersion z.0) is (word_takes ws p.0.0 p.0.1 p.1 ∙ ap (λ (w : List ℕ). w ∷ p.0.1) version.0, version.1)

version_again : (v : Version) (rest : Words) → IsVersion v → version_at (version_text v ∷ rest) ≡ Some (v, rest)
unfolding version_at
version_again v rest fits = rw (version_in_again v fits) refl

pub version_law : Law version_at (λ v. version_text v ∷ []) IsVersion Anything
version_law = record { takes = version_takes; again = λ v rest fits ends. version_again v rest fits; plain = λ v fits. (version_is_plain v fits, tt) }

no_version : (k : List ℕ) (v : Version) → IsVersion v → version_in k ≡ None → bytes_eq (version_text v) k ≡ false
no_version k v fits none = by_test (bytes_eq (version_text v) k) refl
  where
    by_test : (b : Bool) → bytes_eq (version_text v) k ≡ b → b ≡ false
    by_test false e = refl
    by_test true e = let is : version_text v ≡ k = (bytes_eq-Decides (version_text v) k).0 e in absurd (some_none (sym (version_in_again v fits) ∙ ap version_in is ∙ none))
      where
        some_none : Some v ≡ None → ⊥
        some_none e = cc

pub request_is_no_version : version_in (codes "request") ≡ None
unfolding version_in
request_is_no_version = refl

place_takes : (ws : Words) (p : Place) (rest : Words) → place_at ws ≡ Some (p, rest) → (ws ≡ place_text p ∷ rest) × IsPlace p
unfolding place_at
place_takes ws p rest e =
    elim (chosen (skip (codes "request") ws).0 _ _ _ e) [
      | inl found ↦
          let is : ◌≡◌ {A = Place × Words} (OfRequest, (skip (codes "request") ws).1) (p, rest) = same_Some _ _ found.1 in
          subst (λ (z : Place × Words). (ws ≡ place_text z.0 ∷ z.1) × IsPlace z.0) is (skip_takes (codes "request") ws found.0, tt)
      | inr other ↦
          let q = bind_some (version_at ws) (λ x. Some (OfVersion x.0, x.1)) (p, rest) other.1 in
          let version = version_takes ws q.0.0 q.0.1 q.1 in
          let is : ◌≡◌ {A = Place × Words} (OfVersion q.0.0, q.0.1) (p, rest) = same_Some _ _ q.2 in
          subst (λ (z : Place × Words). (ws ≡ place_text z.0 ∷ z.1) × IsPlace z.0) is version
    ]

place_again : (p : Place) (rest : Words) → IsPlace p → place_at (place_text p ∷ rest) ≡ Some (p, rest)
unfolding place_at
place_again OfRequest rest fits = rw (skip_is (codes "request") rest) refl
place_again (OfVersion v) rest fits = rw (no_skip (codes "request") (version_text v ∷ rest) (no_version (codes "request") v fits request_is_no_version), version_again v rest fits) refl

place_is_plain : (p : Place) → IsPlace p → Plain (place_text p)
place_is_plain OfRequest fits = refl
place_is_plain (OfVersion v) fits = version_is_plain v fits

pub place_law : Law place_at (λ p. place_text p ∷ []) IsPlace Anything
place_law = record { takes = place_takes; again = λ p rest fits ends. place_again p rest fits; plain = λ p fits. (place_is_plain p fits, tt) }

-- ---- SPECs

pub spec_law : Law spec_at spec_words IsSpec BeginsNoSpan
spec_law = record { takes = spec_takes; again = spec_again; plain = spec_are_plain }

abbrev pub EndsAlternatives : Words → Type 0
EndsAlternatives words = BeginsNoSpan words × BeginsNot (codes "|") words

many_words : (ss : List Spec) → length ss ≤ length (alternatives_words ss)
many_words [] = omega arith
many_words (s ∷ []) = omega arith
many_words (s ∷ t ∷ ts) = omega (arith, many_words (t ∷ ts), length-append (spec_words s) (codes "|" ∷ alternatives_words (t ∷ ts)))

specs_takes : (ws : Words) (ss : List Spec) (rest : Words) → specs_at ws ≡ Some (ss, rest) → (ws ≡ alternatives_words ss ++ rest) × AreAlternatives ss
unfolding specs_at
specs_takes ws ss rest e = let t = alternatives_take (length ws) ws ss rest e in (t.spelled, (t.some, t.each))

specs_again : (ss : List Spec) (rest : Words) → AreAlternatives ss → EndsAlternatives rest → specs_at (alternatives_words ss ++ rest) ≡ Some (ss, rest)
unfolding specs_at
specs_again ss rest fits ends = alternatives_again (length (alternatives_words ss ++ rest)) ss rest fits.0 (omega (arith, many_words ss, length-append (alternatives_words ss) rest)) fits.1 ends.0 ends.1

pub specs_law : Law specs_at alternatives_words AreAlternatives EndsAlternatives
specs_law = record { takes = specs_takes; again = specs_again; plain = λ ss fits. alternatives_are_plain ss fits.1 }
