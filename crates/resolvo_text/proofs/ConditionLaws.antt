-- Conditions: parsing and spelling are inverse.
use Rattle.std.proofs.Common.{◌≡◌, ℕ, zero, suc, ◌+◌, ◌-◌, ◌<◌, ◌≤◌, inl, inr, Bool, true, false, cond, List, [], ◌∷◌, ◌++◌, Option, Some, None, refl, sym, ap, subst, ◌∙◌, append_assoc, arith}
use Rattle.std.specs.Prelude.{codes, IsTrue, ⊤}
use Rattle.std.specs.Str.{bytes_eq}
use Rattle.std.specs.Option.{option_map}
use Rattle.std.proofs.lemmas.Slice.Eq.{bytes_eq-Decides}
use Rattle.std.proofs.lemmas.Option.{cond_some, same_Some}
use Rattle.std.proofs.lemmas.List.{append-nil}
use Rattle.resolvo_text.specs.Line.{Spec, Cond, Is}
use Rattle.resolvo_text.specs.Spelling.{Words, is_name, IsSpec, spec_words, Written, Lone, Group, Both, Either, meant, written_words, looseness, IsWritten, depth_of, spec_count, AreWordsOfCondition}
use Rattle.resolvo_text.specs.declared.condition.Joint.{Joint}
use Rattle.resolvo_text.specs.declared.condition.Joint.TheVariants.{And, Or}
use Rattle.resolvo_text.specs.Parse.{◌>>=◌, PartReader, Part, skip, span_in, spec_at, word_of, join, joined, closed, lone_at, atom_with, parts_at, parts_with, group_at, joined_at, end_at, behind_if}
use Rattle.resolvo_text.proofs.AlternativeLemmas.{bind_some}
use Rattle.resolvo_text.proofs.SpanLaws.{not_a_span}
use Rattle.resolvo_text.proofs.ConditionLemmas.{group_is, joined_is}
use Rattle.resolvo_text.proofs.PartLaws.{chosen, spec_takes, spec_again, skip_is, skip_takes, skip_misses, no_skip, BeginsNoSpan, BeginsNot}

-- ---- two conditions as they are written, joined

abbrev written_join : Joint → Written → Written → Written
written_join And v w = Both v w
written_join Or v w = Either v w

abbrev written_joined : Joint → Option Written → Written → Written
written_joined j None w = w
written_joined j (Some v) w = written_join j v w

-- how loosely the parts of such a condition may bind
abbrev tightness : Joint → ℕ
tightness And = 0
tightness Or = 1

abbrev count_before : Option Written → ℕ
count_before None = 0
count_before (Some v) = spec_count v

abbrev prefix : Joint → Option Written → Words → Words
prefix j None words = words
prefix j (Some v) words = written_words v ++ word_of j ∷ words

-- The parts before can be joined so.
abbrev MayPrecede : Joint → ℕ → Option Written → Type 0
MayPrecede j deep None = ⊤
MayPrecede j deep (Some v) = IsWritten v × (looseness v ≤ suc (tightness j)) × (depth_of v ≤ deep)

pub record Fits (loose deep : ℕ) (w : Written) : Type 0 where
  pub form : IsWritten w
  pub binds : looseness w ≤ loose
  pub depth : depth_of w ≤ deep

joined_fits : (j : Joint) (deep : ℕ) (before : Option Written) (w : Written) → MayPrecede j deep before → Fits (tightness j) deep w → Fits (suc (tightness j)) deep (written_joined j before w)
joined_fits j deep None w first f = record { form = f.form; binds = omega (arith, f.binds); depth = f.depth }
joined_fits And deep (Some v) w first f = record { form = (first.0, f.form, first.1, f.binds); binds = omega arith; depth = omega (arith, first.2, f.depth) }
joined_fits Or deep (Some v) w first f = record { form = (first.0, f.form, f.binds); binds = omega arith; depth = omega (arith, first.2, f.depth) }

joined_count : (j : Joint) (before : Option Written) (w : Written) → spec_count (written_joined j before w) ≡ count_before before + spec_count w
joined_count j None w = omega arith
joined_count And (Some v) w = refl
joined_count Or (Some v) w = refl

joined_means : (j : Joint) (before : Option Written) (w : Written) → meant (written_joined j before w) ≡ joined j (option_map meant before) (meant w)
joined_means j None w = refl
joined_means And (Some v) w = refl
joined_means Or (Some v) w = refl

joined_words : (j : Joint) (before : Option Written) (w : Written) (rest : Words) → prefix j before (written_words w ++ rest) ≡ written_words (written_joined j before w) ++ rest
joined_words j None w rest = refl
joined_words And (Some v) w rest = sym (append_assoc (written_words v) (codes "and" ∷ written_words w) rest)
joined_words Or (Some v) w rest = sym (append_assoc (written_words v) (codes "or" ∷ written_words w) rest)

may_precede : (j : Joint) (deep : ℕ) (w : Written) → Fits (suc (tightness j)) deep w → MayPrecede j deep (Some w)
may_precede j deep w f = (f.form, f.binds, f.depth)

-- ---- a parsed condition has this spelling

-- Of the words a condition was read that binds so and is so deep; so many SPECs may still follow.
pub record IsRead (loose deep room : ℕ) (words : Words) (x : Part) : Type 0 where
  pub written : Written
  pub fits : Fits loose deep written
  pub specs : spec_count written + x.1 ≡ room
  pub means : meant written ≡ x.0
  pub spelled : words ≡ written_words written ++ x.2

abbrev Takes : ℕ → ℕ → PartReader → Type 0
Takes loose deep part = (room : ℕ) (words : Words) (x : Part) → part room words ≡ Some x → IsRead loose deep room words x

lone_takes : (deep : ℕ) → Takes 0 deep lone_at
unfolding lone_at
lone_takes deep zero words x e = absurd cc
lone_takes deep (suc room) words x e =
    let b = bind_some (spec_at words) (λ y. Some (Is y.0, room, y.1)) x e in
    let t = spec_takes words b.0.0 b.0.1 b.1 in
    subst (λ (p : Part). IsRead 0 deep (suc room) words p) (same_Some _ _ b.2)
    (record { written = Lone b.0.0; fits = record { form = t.1; binds = omega arith; depth = omega arith }; specs = omega arith; means = refl; spelled = t.0 })

-- the parsed parts, joined to those before them
pub record IsJoined (j : Joint) (deep : ℕ) (before : Option Written) (room : ℕ) (words : Words) (x : Part) : Type 0 where
  pub written : Written
  pub fits : Fits (suc (tightness j)) deep written
  pub specs : spec_count written + x.1 ≡ count_before before + room
  pub means : meant written ≡ x.0
  pub spelled : prefix j before words ≡ written_words written ++ x.2

parts_take : (j : Joint) (deep : ℕ) (part : PartReader) → Takes (tightness j) deep part → (n : ℕ) (before : Option Written) → MayPrecede j deep before → (room : ℕ) (words : Words) (x : Part)
    → parts_at j part n (option_map meant before) room words ≡ Some x → IsJoined j deep before room words x
unfolding parts_at
parts_take j deep part takes zero before first room words x e = absurd cc
parts_take j deep part takes (suc n) before first room words x e =
    let step : Part → Option Part = λ y. cond (skip (word_of j) y.2).0 (parts_at j part n (Some (joined j (option_map meant before) y.0)) y.1 (skip (word_of j) y.2).1) (Some (joined j (option_map meant before) y.0, y.1, (skip (word_of j) y.2).1)) in
    let a = bind_some (part room words) step x e in
    let r = takes room words a.0 a.1 in
    let whole = written_joined j before r.written in
    let f = joined_fits j deep before r.written first r.fits in
    let means : meant whole ≡ joined j (option_map meant before) a.0.0 = joined_means j before r.written ∙ ap (λ (c : Cond). joined j (option_map meant before) c) r.means in
    let spelled : prefix j before words ≡ written_words whole ++ a.0.2 = ap (prefix j before) r.spelled ∙ joined_words j before r.written a.0.2 in
    elim (chosen (skip (word_of j) a.0.2).0 _ _ _ a.2) [
      | inl more ↦
          let on = parts_take j deep part takes n (Some whole) (may_precede j deep whole f) a.0.1 (skip (word_of j) a.0.2).1 x (ap (λ (c : Cond). parts_at j part n (Some c) a.0.1 (skip (word_of j) a.0.2).1) means ∙ more.1) in
          let next : prefix j before words ≡ prefix j (Some whole) (skip (word_of j) a.0.2).1 = spelled ∙ ap (λ (ws : Words). written_words whole ++ ws) (skip_takes (word_of j) a.0.2 more.0) in
          record { written = on.written; fits = on.fits; specs = omega (arith, on.specs, joined_count j before r.written, r.specs); means = on.means; spelled = next ∙ on.spelled }
      | inr end ↦
          subst (λ (p : Part). IsJoined j deep before room words p) (same_Some _ _ end.1)
          (record { written = whole; fits = f; specs = omega (arith, joined_count j before r.written, r.specs); means = means; spelled = spelled ∙ ap (λ (ws : Words). written_words whole ++ ws) (sym (skip_misses (word_of j) a.0.2 end.0)) })
    ]

parts_with_take : (j : Joint) (deep : ℕ) (part : PartReader) → Takes (tightness j) deep part → Takes (suc (tightness j)) deep (parts_with j part)
unfolding parts_with
parts_with_take j deep part takes room words x e =
    let r = parts_take j deep part takes room None tt room words x e in
    record { written = r.written; fits = r.fits; specs = omega (arith, r.specs); means = r.means; spelled = r.spelled }

-- the inside of parentheses is one less deep
abbrev GroupTakes : ℕ → PartReader → Type 0
GroupTakes deep group = (room : ℕ) (words : Words) (x : Part) → group room words ≡ Some x → (below : ℕ) × (deep ≡ suc below) × IsRead 2 below room words x

atom_takes : (deep : ℕ) (group : PartReader) → GroupTakes deep group → Takes 0 deep (atom_with group)
unfolding atom_with
atom_takes deep group takes room words x e =
    elim (chosen (skip (codes "(") words).0 _ _ _ e) [
      | inl opens ↦
          let inside = (skip (codes "(") words).1 in
          let b = bind_some (group room inside) (λ y. closed y) x opens.1 in
          let g = takes room inside b.0 b.1 in
          let shut = cond_some (skip (codes ")") b.0.2).0 (b.0.0, b.0.1, (skip (codes ")") b.0.2).1) x b.2 in
          let w = g.2.written in
          let rest = (skip (codes ")") b.0.2).1 in
          let spelled : words ≡ written_words (Group w) ++ rest = skip_takes (codes "(") words opens.0 ∙ ap (λ (ws : Words). codes "(" ∷ ws) (g.2.spelled ∙ ap (λ (ws : Words). written_words w ++ ws) (skip_takes (codes ")") b.0.2 shut.0) ∙ sym (append_assoc (written_words w) (codes ")" ∷ []) rest)) in
          subst (λ (p : Part). IsRead 0 deep room words p) shut.1
          (record { written = Group w; fits = record { form = g.2.fits.form; binds = omega arith; depth = omega (arith, g.1, g.2.fits.depth) }; specs = g.2.specs; means = g.2.means; spelled = spelled })
      | inr bare ↦ lone_takes deep room words x bare.1
    ]

group_takes : (deep : ℕ) → GroupTakes deep (group_at deep)
unfolding group_at
group_takes zero room words x e = absurd cc
group_takes (suc deep) room words x e =
    (deep, refl, parts_with_take Or deep (parts_with And (atom_with (group_at deep))) (parts_with_take And deep (atom_with (group_at deep)) (atom_takes deep (group_at deep) (group_takes deep))) room words x e)

joined_takes : (deep : ℕ) → Takes 2 deep (joined_at Or deep)
joined_takes deep room words x e =
    let g = group_takes (suc deep) room words x (group_is deep room words ∙ e) in
    let same : g.0 ≡ deep = omega (arith, g.1) in
    subst (λ (d : ℕ). IsRead 2 d room words x) same g.2

pub behind_if_takes : (words : Words) (c : Cond) → behind_if words ≡ Some c → AreWordsOfCondition words c
unfolding behind_if
behind_if_takes words c e =
    let a = bind_some (joined_at Or 16 16 words) (λ x. end_at x.2 >>= λ _. Some x.0) c e in
    let r = joined_takes 16 16 words a.0 a.1 in
    let end = end_of a.0.2 a.0.0 c a.2 in
    record {
      written = r.written;
      form = record { form = r.fits.form; specs = omega (arith, r.specs); depth = r.fits.depth };
      means = r.means ∙ end.1;
      spelled = r.spelled ∙ ap (λ (ws : Words). written_words r.written ++ ws) end.0 ∙ append-nil (written_words r.written);
    }
  where
    end_of : (rest : Words) (made c : Cond) → (end_at rest >>= λ _. Some made) ≡ Some c → (rest ≡ []) × (made ≡ c)
    end_of [] made c e = (refl, same_Some _ _ e)
    end_of (word ∷ rest) made c e = absurd cc

-- ---- a spelling is parsed back

some_specs : (w : Written) → 0 < spec_count w
some_specs (Lone s) = omega arith
some_specs (Group w) = some_specs w
some_specs (Both v w) = omega (arith, some_specs v, some_specs w)
some_specs (Either v w) = omega (arith, some_specs v, some_specs w)

loosest : (w : Written) → looseness w ≤ 2
loosest (Lone s) = omega arith
loosest (Group w) = omega arith
loosest (Both v w) = omega arith
loosest (Either v w) = omega arith

abbrev Again : ℕ → ℕ → PartReader → (Words → Type 0) → Type 0
Again loose deep part Ends = (w : Written) → Fits loose deep w → (room left : ℕ) (rest : Words) → spec_count w + left ≡ room → Ends rest → part room (written_words w ++ rest) ≡ Some (meant w, left, rest)

-- the words that may follow a part
abbrev EndsPart : Joint → Words → Type 0
EndsPart And rest = BeginsNoSpan rest
EndsPart Or rest = BeginsNoSpan rest × BeginsNot (codes "and") rest

abbrev EndsParts : Joint → Words → Type 0
EndsParts j rest = EndsPart j rest × BeginsNot (word_of j) rest

no_span_and : span_in (codes "and") ≡ None
no_span_and = not_a_span 97 (110 ∷ 100 ∷ []) (inr (omega arith))

no_span_or : span_in (codes "or") ≡ None
no_span_or = not_a_span 111 (114 ∷ []) (inr (omega arith))

no_span_close : span_in (codes ")") ≡ None
no_span_close = not_a_span 41 [] (inl (omega arith))

close_ends : (rest : Words) → EndsParts Or (codes ")" ∷ rest)
close_ends rest = ((no_span_close, refl), refl)

-- the words after a parsed part: more parts, or the end
abbrev follows_part : Joint → PartReader → ℕ → Cond → ℕ → Words → Option Part
follows_part j part n c left rest = cond (skip (word_of j) rest).0 (parts_at j part n (Some c) left (skip (word_of j) rest).1) (Some (c, left, (skip (word_of j) rest).1))

-- The condition was read, and reading goes on behind it.
abbrev IsFollowed : Joint → PartReader → ℕ → ℕ → Words → Written → ℕ → Words → Type 0
IsFollowed j part n room words w left rest = (m : ℕ) × (left ≤ m) × (parts_at j part n None room words ≡ follows_part j part m (meant w) left rest)

one_part : (j : Joint) (deep : ℕ) (part : PartReader) → Again (tightness j) deep part (EndsPart j) → (w : Written) → Fits (tightness j) deep w → (n room left : ℕ) (rest : Words) → room ≤ n → spec_count w + left ≡ room → EndsPart j rest
    → IsFollowed j part n room (written_words w ++ rest) w left rest
unfolding parts_at
one_part j deep part again w f zero room left rest le count ends = absurd (omega (arith, some_specs w))
one_part j deep part again w f (suc n) room left rest le count ends = (n, omega (arith, some_specs w), rw (again w f room left rest count ends) refl)

more_parts : (j : Joint) (deep : ℕ) (part : PartReader) → Again (tightness j) deep part (EndsPart j) → (c : Cond) (x : Written) → Fits (tightness j) deep x → (n room left : ℕ) (rest : Words) → room ≤ n → spec_count x + left ≡ room → EndsPart j rest
    → (m : ℕ) × (left ≤ m) × (follows_part j part n c room (word_of j ∷ (written_words x ++ rest)) ≡ follows_part j part m (join j c (meant x)) left rest)
unfolding parts_at
more_parts j deep part again c x f zero room left rest le count ends = absurd (omega (arith, some_specs x))
more_parts j deep part again c x f (suc n) room left rest le count ends = (n, omega (arith, some_specs x), rw (skip_is (word_of j) (written_words x ++ rest), again x f room left rest count ends) refl)

joined_parts : (j : Joint) (deep : ℕ) (part : PartReader) → Again (tightness j) deep part (EndsPart j) → (v x : Written) → Fits (tightness j) deep x → (n room left mid : ℕ) (rest : Words) → spec_count x + left ≡ mid → EndsPart j rest
    → IsFollowed j part n room (written_words v ++ word_of j ∷ (written_words x ++ rest)) v mid (word_of j ∷ (written_words x ++ rest))
    → meant (written_join j v x) ≡ join j (meant v) (meant x) → (written_words (written_join j v x) ++ rest) ≡ written_words v ++ word_of j ∷ (written_words x ++ rest)
    → IsFollowed j part n room (written_words (written_join j v x) ++ rest) (written_join j v x) left rest
joined_parts j deep part again v x f n room left mid rest count ends first means words =
    let on = more_parts j deep part again (meant v) x f first.0 mid left rest first.1 count ends in
    (on.0, on.1, ap (λ (ws : Words). parts_at j part n None room ws) words ∙ first.2 ∙ on.2 ∙ ap (λ (c : Cond). follows_part j part on.0 c left rest) (sym means))

-- From the left, part after part: `and` joins atoms, `or` joins conjunctions.
parts_follow : (j : Joint) (deep : ℕ) (part : PartReader) → Again (tightness j) deep part (EndsPart j) → (w : Written) → Fits (suc (tightness j)) deep w → (n room left : ℕ) (rest : Words) → room ≤ n → spec_count w + left ≡ room → EndsPart j rest
    → IsFollowed j part n room (written_words w ++ rest) w left rest
parts_follow And deep part again (Lone s) f n room left rest le count ends = one_part And deep part again (Lone s) (record { form = f.form; binds = omega arith; depth = f.depth }) n room left rest le count ends
parts_follow And deep part again (Group w) f n room left rest le count ends = one_part And deep part again (Group w) (record { form = f.form; binds = omega arith; depth = f.depth }) n room left rest le count ends
parts_follow And deep part again (Both v x) f n room left rest le count ends =
    let first = parts_follow And deep part again v (record { form = f.form.0; binds = f.form.2; depth = omega (arith, f.depth) }) n room (spec_count x + left) (codes "and" ∷ (written_words x ++ rest)) le (omega arith) no_span_and in
    joined_parts And deep part again v x (record { form = f.form.1; binds = f.form.3; depth = omega (arith, f.depth) }) n room left (spec_count x + left) rest refl ends first refl (append_assoc (written_words v) (codes "and" ∷ written_words x) rest)
parts_follow And deep part again (Either v x) f n room left rest le count ends = absurd (omega (arith, f.binds))
parts_follow Or deep part again (Lone s) f n room left rest le count ends = one_part Or deep part again (Lone s) (record { form = f.form; binds = omega arith; depth = f.depth }) n room left rest le count ends
parts_follow Or deep part again (Group w) f n room left rest le count ends = one_part Or deep part again (Group w) (record { form = f.form; binds = omega arith; depth = f.depth }) n room left rest le count ends
parts_follow Or deep part again (Both v x) f n room left rest le count ends = one_part Or deep part again (Both v x) (record { form = f.form; binds = omega arith; depth = f.depth }) n room left rest le count ends
parts_follow Or deep part again (Either v x) f n room left rest le count ends =
    let first = parts_follow Or deep part again v (record { form = f.form.0; binds = loosest v; depth = omega (arith, f.depth) }) n room (spec_count x + left) (codes "or" ∷ (written_words x ++ rest)) le (omega arith) (no_span_or, refl) in
    joined_parts Or deep part again v x (record { form = f.form.1; binds = f.form.2; depth = omega (arith, f.depth) }) n room left (spec_count x + left) rest refl ends first refl (append_assoc (written_words v) (codes "or" ∷ written_words x) rest)

parts_with_again : (j : Joint) (deep : ℕ) (part : PartReader) → Again (tightness j) deep part (EndsPart j) → Again (suc (tightness j)) deep (parts_with j part) (EndsParts j)
unfolding parts_with
parts_with_again j deep part again w f room left rest count ends =
    let on = parts_follow j deep part again w f room room left rest (omega arith) count ends.0 in
    on.2 ∙ rw (no_skip (word_of j) rest ends.1) refl

-- a name is none of the marks
no_mark : (name k : List ℕ) → IsTrue (is_name name) → is_name k ≡ false → bytes_eq name k ≡ false
no_mark name k named mark = by_test (bytes_eq name k) refl
  where
    by_test : (b : Bool) → bytes_eq name k ≡ b → b ≡ false
    by_test false e = refl
    by_test true e = sym named ∙ ap is_name ((bytes_eq-Decides name k).0 e) ∙ mark

lone_again : (s : Spec) (room left : ℕ) (rest : Words) → IsSpec s → 1 + left ≡ room → BeginsNoSpan rest → lone_at room (spec_words s ++ rest) ≡ Some (Is s, left, rest)
unfolding lone_at
lone_again s zero left rest fits count none = absurd (omega arith)
lone_again s (suc room) left rest fits count none = let same : room ≡ left = omega arith in rw (spec_again s rest fits none, same) refl

abbrev GroupAgain : ℕ → PartReader → Type 0
GroupAgain deep group = (w : Written) → IsWritten w → depth_of w + 1 ≤ deep → (room left : ℕ) (rest : Words) → spec_count w + left ≡ room → group room (written_words w ++ codes ")" ∷ rest) ≡ Some (meant w, left, codes ")" ∷ rest)

atom_again : (deep : ℕ) (group : PartReader) → GroupAgain deep group → Again 0 deep (atom_with group) BeginsNoSpan
unfolding atom_with
atom_again deep group again (Lone s) f room left rest count none =
    let named : bytes_eq s.name (codes "(") ≡ false = no_mark s.name (codes "(") f.form.name refl in
    rw (no_skip (codes "(") (spec_words s ++ rest) named) (lone_again s room left rest f.form count none)
atom_again deep group again (Group w) f room left rest count none =
    let words : written_words (Group w) ++ rest ≡ codes "(" ∷ (written_words w ++ codes ")" ∷ rest) = ap (λ (ws : Words). codes "(" ∷ ws) (append_assoc (written_words w) (codes ")" ∷ []) rest) in
    ap (atom_with group room) words ∙ rw (skip_is (codes "(") (written_words w ++ codes ")" ∷ rest), again w f.form f.depth room left rest count, skip_is (codes ")") rest) refl
atom_again deep group again (Both v w) f room left rest count none = absurd (omega (arith, f.binds))
atom_again deep group again (Either v w) f room left rest count none = absurd (omega (arith, f.binds))

group_again : (deep : ℕ) → GroupAgain deep (group_at deep)
unfolding group_at
group_again zero w form depth room left rest count = absurd (omega arith)
group_again (suc deep) w form depth room left rest count =
    parts_with_again Or deep (parts_with And (atom_with (group_at deep))) (parts_with_again And deep (atom_with (group_at deep)) (atom_again deep (group_at deep) (group_again deep)))
    w (record { form = form; binds = loosest w; depth = omega arith }) room left (codes ")" ∷ rest) count (close_ends rest)

joined_again : (deep : ℕ) → Again 2 deep (joined_at Or deep) (EndsParts Or)
joined_again deep w f room left rest count ends =
    joined_is deep room (written_words w ++ rest) ∙ parts_with_again Or deep (parts_with And (atom_with (group_at deep))) (parts_with_again And deep (atom_with (group_at deep)) (atom_again deep (group_at deep) (group_again deep))) w f room left rest count ends

pub behind_if_again : (words : Words) (c : Cond) → AreWordsOfCondition words c → behind_if words ≡ Some c
unfolding behind_if
behind_if_again words c a =
    let w = a.written in
    let count : spec_count w + (16 - spec_count w) ≡ 16 = omega (arith, a.form.specs) in
    let read : joined_at Or 16 16 (written_words w ++ []) ≡ Some (meant w, 16 - spec_count w, []) = joined_again 16 w (record { form = a.form.form; binds = loosest w; depth = a.form.depth }) 16 (16 - spec_count w) [] count ((tt, tt), tt) in
    let words_are : words ≡ written_words w ++ [] = a.spelled ∙ sym (append-nil (written_words w)) in
    ap behind_if words_are ∙ rw read (ap (λ (x : Cond). Some x) a.means)
