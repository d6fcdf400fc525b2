-- The first lines of a place by their keys: the keys of a line, one line more, all lines, and the first line of a rule.
use Rattle.std.proofs.Common.{◌≡◌, ◌⊎◌, ◌<◌, ◌≤◌, ◌+◌, ◌++◌, ◌∷◌, [], ◌||◌, ℕ, Bool, true, false, cond, List, length, take, map, get_or, Option, Some, None, Bor, Vec, Global, inl, inr, refl, sym, ◌∙◌, ap, subst, append-nil, append_assoc, arith}
use Rattle.std.specs.Prelude.{nat_eq, IfSome, Contains, is_some, option_copied}
use Rattle.std.specs.BTreeMap.{BTreeMap, get, get_by_text, is_at}
use Rattle.std.specs.Cmp.Lexicographic.{slice_cmp}
use Rattle.std.specs.Map.{lookup, update}
use Rattle.std.specs.Ordering.{nat_cmp}
use Rattle.std.specs.Set.{is_member}
use Rattle.std.specs.Str.{bytes_eq}
use Rattle.std.specs.String.{string_bytes}
use Rattle.std.specs.declared.string.String.{String}
use Rattle.std.proofs.lemmas.Bool.{cases_lt, eqb-true, false≢true}
use Rattle.std.proofs.lemmas.List.{take_more, map-append}
use Rattle.std.proofs.lemmas.List.Folds.{list_any-append}
use Rattle.std.proofs.lemmas.Map.Made.{is_member-Decides}
use Rattle.std.proofs.lemmas.Slice.Eq.{bytes_eq-Decides}
use Rattle.resolvo_text.specs.declared.spec.Spec as code
use Rattle.resolvo_text.specs.View.{spec_of, specs_of, cases_of}
use Rattle.resolvo_text.specs.Line.{Spec, Cond, Line, Skipped, Listed, Needs, Limits, Unknown, Lock, Favour, Exclude, Many, Wish}
use Rattle.resolvo_text.specs.Cases.{condition_cases}
use Rattle.resolvo_catalogue_core.specs.Grammar.{line_at}
use Rattle.resolvo_catalogue_core.specs.Questions.{is_rule, cases_of_line}
use Rattle.resolvo_catalogue_core.specs.declared.rule.VersionNo.{VersionNo}
use Rattle.resolvo_catalogue.proofs.MarkLemmas.{one_some}
use Rattle.resolvo_judge.proofs.ChosenLemmas.{bytes_eq_sym}
use Rattle.resolvo_sat.proofs.Lists.{contains_first, contains_map, contains_none}
use Rattle.resolve_refusal.specs.declared.lines.PlaceLines.{PlaceLines}
use Rattle.resolve_refusal.specs.declared.first_lines.FirstLines.{FirstLines}
use Rattle.resolve_refusal.specs.Lines.{count_of, number_at, AreLines, IsLeast, text_of, IsLineOf, IsLineAt, IsAt, NeedsIn, IsNeedLine}
use Rattle.resolve_refusal.specs.RuleKeys.{barred_text, barred_texts, need_key, line_keys, HasKey, AreKeysAt}
use Rattle.resolve_refusal.specs.FirstLines.{first_or, KeepsFirst, AreFirstBy, AreFirst, AreListed}

-- ---- texts of keys

-- one more element so far
more_taken : {X : Type 0} (xs : List X) (i : ℕ) (x : X) → i < length xs → x ≡ get_or xs i x → take i xs ++ x ∷ [] ≡ take (i + 1) xs
more_taken {X} xs i x within is = sym (take_more xs i x within ∙ ap (λ (y : X). take i xs ++ y ∷ []) (sym is))

-- the texts of SPECs and of one more
texts_push : (ss : List Spec) (s : Spec) → barred_texts (ss ++ s ∷ []) ≡ barred_texts ss ++ barred_text s
texts_push [] s = append-nil (barred_text s)
texts_push (x ∷ ss) s = ap (λ (t : List ℕ). barred_text x ++ t) (texts_push ss s) ∙ sym (append_assoc (barred_text x) (barred_texts ss) (barred_text s))

-- the text so far with the next SPEC
pub specs_more : (start old new : List ℕ) (xs : List code.Spec) (i : ℕ) (x : code.Spec) → i < length xs → x ≡ get_or xs i x → old ≡ start ++ barred_texts (specs_of (take i xs)) → new ≡ old ++ barred_text (spec_of x) → new ≡ start ++ barred_texts (specs_of (take (i + 1) xs))
specs_more start old new xs i x within is before pushed =
    let all : specs_of (take i xs) ++ spec_of x ∷ [] ≡ specs_of (take (i + 1) xs) = sym (map-append spec_of (take i xs) (x ∷ [])) ∙ ap specs_of (more_taken xs i x within is) in
    pushed ∙ (ap (λ (t : List ℕ). t ++ barred_text (spec_of x)) before ∙ (append_assoc start (barred_texts (specs_of (take i xs))) (barred_text (spec_of x))
    ∙ ap (λ (t : List ℕ). start ++ t) (sym (texts_push (specs_of (take i xs)) (spec_of x)) ∙ ap barred_texts all)))

-- mapped lists that are pushed alike
pub mapped_more : {X Y Z : Type 0} (f : X → Z) (g : Y → Z) (old new : List X) (ys : List Y) (i : ℕ) (x : X) (y : Y) → i < length ys → y ≡ get_or ys i y → map f old ≡ map g (take i ys) → new ≡ old ++ x ∷ [] → f x ≡ g y → map f new ≡ map g (take (i + 1) ys)
mapped_more {X} {Y} {Z} f g old new ys i x y within is before pushed same =
    ap (map f) pushed ∙ (map-append f old (x ∷ []) ∙ (ap (λ (zs : List Z). zs ++ f x ∷ []) before ∙ (ap (λ (z : Z). map g (take i ys) ++ z ∷ []) same
    ∙ (sym (map-append g (take i ys) (y ∷ [])) ∙ ap (map g) (more_taken ys i y within is)))))

-- a text with each case
pub cases_texts : (start : List ℕ) (cases : List (Vec code.Spec Global)) → map (λ (case : Vec code.Spec Global). start ++ barred_texts (specs_of case.items)) cases ≡ map (λ (case : List Spec). start ++ barred_texts case) (cases_of cases)
cases_texts start [] = refl
cases_texts start (case ∷ cases) = ap (λ (ts : List (List ℕ)). (start ++ barred_texts (specs_of case.items)) ∷ ts) (cases_texts start cases)

-- the keys of a need
pub need_keys_are : (groups : List ℕ → Option ℕ) (some alternatives : List Spec) (condition : Option Cond) (cases : List (List Spec)) (line : Line) (keys : List (List ℕ)) → keys ≡ map (need_key groups some) cases → some ≡ alternatives → cases ≡ cases_of_line (Some line)
    → line ≡ Needs alternatives condition → keys ≡ line_keys groups line
need_keys_are groups some alternatives condition cases line keys are same of_line is =
    are ∙ (ap (λ (ss : List Spec). map (need_key groups ss) cases) same
    ∙ (ap (map (need_key groups alternatives)) (of_line ∙ ap (λ (l : Line). cases_of_line (Some l)) is) ∙ sym (ap (line_keys groups) is)))

-- a line without a rule has no keys
no_rule : (groups : List ℕ → Option ℕ) (l : Line) → is_rule l ≡ false → line_keys groups l ≡ []
no_rule groups (Needs alternatives condition) e = absurd (false≢true (sym e))
no_rule groups (Limits s) e = absurd (false≢true (sym e))
no_rule groups (Unknown reason) e = refl
no_rule groups (Lock v) e = refl
no_rule groups (Exclude v reason) e = refl
no_rule groups Skipped e = refl
no_rule groups (Listed v) e = refl
no_rule groups (Favour v) e = refl
no_rule groups (Many name) e = refl
no_rule groups (Wish v) e = refl

pub no_keys_at : (groups : List ℕ → Option ℕ) (text : List Line) (n : ℕ) → ((l : Line) → line_at text n ≡ Some l → is_rule l ≡ false) → (keys : List (List ℕ)) → keys ≡ [] → AreKeysAt groups text n keys
no_keys_at groups text n none keys empty = inr (empty, λ l at. no_rule groups l (none l at))

pub keys_at_line : (groups : List ℕ → Option ℕ) (text : List Line) (n : ℕ) (l : Line) → line_at text n ≡ Some l → (keys : List (List ℕ)) → keys ≡ line_keys groups l → AreKeysAt groups text n keys
keys_at_line groups text n l at keys are = inl (l, at, are)

-- ---- a line is kept

none_of : (o : Option ℕ) → is_some o ≡ false → o ≡ None
none_of None e = refl
none_of (Some n) e = absurd (false≢true (sym e))

-- the text has a line before
pub kept_first : (old : List ℕ → Option ℕ) (text : List ℕ) (line : ℕ) → is_some (old text) ≡ true → (q : List ℕ) → old q ≡ first_or (old q) (bytes_eq q text) line
kept_first old text line some q = by_test (old q) (bytes_eq q text) (λ e. subst (λ (x : List ℕ). is_some (old x) ≡ true) (sym ((bytes_eq-Decides q text).0 e)) some)
  where
    by_test : (o : Option ℕ) (b : Bool) → (b ≡ true → is_some o ≡ true) → o ≡ first_or o b line
    by_test (Some m) b h = refl
    by_test None true h = absurd (false≢true (h refl))
    by_test None false h = refl

-- it has none
pub put_first : (old new : List ℕ → Option ℕ) (text : List ℕ) (line : ℕ) → is_some (old text) ≡ false → ((q : List ℕ) → new q ≡ update bytes_eq old text (Some line) q) → (q : List ℕ) → new q ≡ first_or (old q) (bytes_eq q text) line
put_first old new text line none updated q =
    updated q ∙ (ap (λ (b : Bool). cond b (Some line) (old q)) (bytes_eq_sym text q) ∙ by_test (bytes_eq q text) (old q) (λ e. ap old ((bytes_eq-Decides q text).0 e) ∙ none_of (old text) none))
  where
    by_test : (b : Bool) (o : Option ℕ) → (b ≡ true → o ≡ None) → cond b (Some line) o ≡ first_or o b line
    by_test true (Some m) h = (let e : Some m ≡ None = h refl in absurd cc)
    by_test true None h = refl
    by_test false (Some m) h = refl
    by_test false None h = refl

-- a line that is put at one text, then at another
put_both : (o : Option ℕ) (a b : Bool) (line : ℕ) → first_or (first_or o a line) b line ≡ first_or o (a || (b || false)) line
put_both (Some m) a b line = refl
put_both None true b line = refl
put_both None false true line = refl
put_both None false false line = refl

pub put_none : (o : Option ℕ) (line : ℕ) → o ≡ first_or o false line
put_none None line = refl
put_none (Some n) line = refl

-- one more of the keys
pub keys_more : (first before after : List ℕ → Option ℕ) (keys : List (String Global)) (i : ℕ) (key : String Global) (text : List ℕ) (line : ℕ) → i < length keys → key ≡ get_or keys i key → text ≡ string_bytes key
    → ((q : List ℕ) → before q ≡ first_or (first q) (is_member bytes_eq (map string_bytes (take i keys)) q) line)
    → ((q : List ℕ) → after q ≡ first_or (before q) (bytes_eq q text) line)
    → (q : List ℕ) → after q ≡ first_or (first q) (is_member bytes_eq (map string_bytes (take (i + 1) keys)) q) line
keys_more first before after keys i key text line within is named so_far puts q =
    let more : map string_bytes (take i keys) ++ string_bytes key ∷ [] ≡ map string_bytes (take (i + 1) keys) = sym (map-append string_bytes (take i keys) (key ∷ [])) ∙ ap (map string_bytes) (more_taken keys i key within is) in
    let all : is_member bytes_eq (map string_bytes (take i keys)) q || (bytes_eq q (string_bytes key) || false) ≡ is_member bytes_eq (map string_bytes (take (i + 1) keys)) q = sym (list_any-append (bytes_eq q) (map string_bytes (take i keys)) (string_bytes key ∷ [])) ∙ ap (λ (ks : List (List ℕ)). is_member bytes_eq ks q) more in
    puts q ∙ (ap (λ (o : Option ℕ). first_or o (bytes_eq q text) line) (so_far q) ∙ (ap (λ (t : List ℕ). first_or (first_or (first q) (is_member bytes_eq (map string_bytes (take i keys)) q) line) (bytes_eq q t) line) named
    ∙ (put_both (first q) (is_member bytes_eq (map string_bytes (take i keys)) q) (bytes_eq q (string_bytes key)) line ∙ ap (λ (b : Bool). first_or (first q) b line) all)))

-- an empty map has none
pub text_none : (m : BTreeMap (String Global) ℕ) → m.entries ≡ [] → (text : List ℕ) → get_by_text m text ≡ None
text_none m empty text = ap (λ (es : List (String Global × ℕ)). lookup (is_at (λ (k : String Global). slice_cmp nat_cmp text (string_bytes k))) es) empty

-- ---- the lines so far

-- Line n is one of those so far, and has the key.
abbrev pub IsSoFar : PlaceLines → (ℕ → Type 0) → (List ℕ → Option ℕ) → List Line → ℕ → List ℕ → ℕ → Type 0
IsSoFar lines Among groups text at key n = (k : ℕ) × (k < at) × (number_at lines k ≡ n) × Among n × HasKey groups text key n

-- They are the first of those with each key.
abbrev pub AreFirstSoFar : PlaceLines → (ℕ → Type 0) → (List ℕ → Option ℕ) → List Line → ℕ → (List ℕ → Option ℕ) → Type 0
AreFirstSoFar lines Among groups text at first = (key : List ℕ) → IsLeast (first key) (IsSoFar lines Among groups text at key)

pub first_none : (lines : PlaceLines) (Among : ℕ → Type 0) (groups : List ℕ → Option ℕ) (text : List Line) (first : List ℕ → Option ℕ) → ((key : List ℕ) → first key ≡ None) → AreFirstSoFar lines Among groups text 0 first
first_none lines Among groups text first none key = subst (λ (o : Option ℕ). IsLeast o (IsSoFar lines Among groups text 0 key)) (sym (none key)) (λ n (k, below, there, among, has). omega (arith, below))

module _ (lines : PlaceLines) (Among : ℕ → Type 0) (groups : List ℕ → Option ℕ) (text : List Line) (are : AreLines lines Among) (at : ℕ) (within : at < count_of lines) (line : ℕ) (is : line ≡ number_at lines at) (q : List ℕ) where
  later : (n : ℕ) → IsSoFar lines Among groups text at q n → IsSoFar lines Among groups text (at + 1) q n
  later n (k, below, there, among, has) = (k, omega (arith, below), there, among, has)

  smaller : (m : ℕ) → IsSoFar lines Among groups text at q m → m < line
  smaller m (k, below, there, among, has) = (let up : number_at lines k < number_at lines at = are.rising k at below within in omega (arith, up, there, is))

  before_or_new : (m : ℕ) → IsSoFar lines Among groups text (at + 1) q m → IsSoFar lines Among groups text at q m ⊎ ((m ≡ line) × HasKey groups text q line)
  before_or_new m (k, below, there, among, has) = elim (cases_lt k at) [
    | inl earlier ↦ inl (k, earlier, there, among, has)
    | inr other ↦
        let same : k ≡ at = omega (arith, below, other) in
        let e : m ≡ line = sym there ∙ (ap (number_at lines) same ∙ sym is) in
        inr (e, subst (HasKey groups text q) e has)
  ]

  -- the line has other keys, or none
  apart : (HasKey groups text q line → ⊥) → (o : Option ℕ) → IsLeast o (IsSoFar lines Among groups text at q) → IsLeast (first_or o false line) (IsSoFar lines Among groups text (at + 1) q)
  apart not None least = λ n h. elim (before_or_new n h) [ inl old ↦ least n old | inr new ↦ not new.1 ]
  apart not (Some m) least = (later m least.0, λ n below h. elim (before_or_new n h) [ inl old ↦ least.1 n below old | inr new ↦ not new.1 ])

  -- the line has the key
  here : HasKey groups text q line → (o : Option ℕ) → IsLeast o (IsSoFar lines Among groups text at q) → IsLeast (first_or o true line) (IsSoFar lines Among groups text (at + 1) q)
  here has None least = (
    (at, omega arith, sym is, subst Among (sym is) (are.only at within), has),
    λ n below h. elim (before_or_new n h) [ inl old ↦ least n old | inr new ↦ (let e : n ≡ line = new.0 in omega (arith, below, e)) ],
  )
  here has (Some m) least = (
    later m least.0,
    λ n below h. elim (before_or_new n h) [
      | inl old ↦ least.1 n below old
      | inr new ↦ (let up : m < line = smaller m least.0 in let e : n ≡ line = new.0 in omega (arith, below, e, up))
    ],
  )

  has_key : (keys : List (List ℕ)) → AreKeysAt groups text line keys → Contains keys q → HasKey groups text q line
  has_key keys (inl (l, there, are_of)) has = (l, there, subst (λ (ks : List (List ℕ)). Contains ks q) are_of has)
  has_key keys (inr (empty, none)) has = absurd (contains_none q (subst (λ (ks : List (List ℕ)). Contains ks q) empty has))

  key_is : (keys : List (List ℕ)) → AreKeysAt groups text line keys → HasKey groups text q line → Contains keys q
  key_is keys (inl (l, there, are_of)) (m, at_line, has) = (let both : Some m ≡ Some l = sym at_line ∙ there in subst (λ (ks : List (List ℕ)). Contains ks q) (ap (line_keys groups) (one_some both) ∙ sym are_of) has)
  key_is keys (inr (empty, none)) (m, at_line, has) = absurd (contains_none q (subst (λ (ks : List (List ℕ)). Contains ks q) (none m at_line) has))

  by_test : (keys : List (List ℕ)) → AreKeysAt groups text line keys → (o : Option ℕ) → IsLeast o (IsSoFar lines Among groups text at q) → (b : Bool) → is_member bytes_eq keys q ≡ b → IsLeast (first_or o b line) (IsSoFar lines Among groups text (at + 1) q)
  by_test keys keyed o least true e = here (has_key keys keyed ((is_member-Decides bytes_eq-Decides keys q).0 e)) o least
  by_test keys keyed o least false e = apart (λ has. false≢true (sym e ∙ (is_member-Decides bytes_eq-Decides keys q).1 (key_is keys keyed has))) o least

-- one more line
pub first_more : (lines : PlaceLines) (Among : ℕ → Type 0) (groups : List ℕ → Option ℕ) (text : List Line) → AreLines lines Among → (at : ℕ) → at < count_of lines → (line : ℕ) → line ≡ number_at lines at → (before after : List ℕ → Option ℕ) → KeepsFirst groups text line before after
    → AreFirstSoFar lines Among groups text at before → AreFirstSoFar lines Among groups text (at + 1) after
first_more lines Among groups text are at within line is before after (keys, keyed, changes) first q =
    subst (λ (o : Option ℕ). IsLeast o (IsSoFar lines Among groups text (at + 1) q)) (sym (changes q)) (by_test lines Among groups text are at within line is q keys keyed (before q) (first q) (is_member bytes_eq keys q) refl)

-- at the end they are those of the place
pub first_all : (groups : List ℕ → Option ℕ) (catalogue request : List Line) (place : Option VersionNo) (lines : PlaceLines) → AreLines lines (IsLineOf catalogue request place) → (at : ℕ) → count_of lines ≤ at → (first : List ℕ → Option ℕ)
    → AreFirstSoFar lines (IsLineOf catalogue request place) groups (text_of catalogue request place) at first → AreFirstBy groups catalogue request place first
first_all groups catalogue request place lines are at end first so_far key = by_found (first key) (so_far key)
  where
    among : (n : ℕ) → IsSoFar lines (IsLineOf catalogue request place) groups (text_of catalogue request place) at key n → IsLineOf catalogue request place n × HasKey groups (text_of catalogue request place) key n
    among n (k, below, there, here, has) = (here, has)

    so_far_of : (n : ℕ) → IsLineOf catalogue request place n × HasKey groups (text_of catalogue request place) key n → IsSoFar lines (IsLineOf catalogue request place) groups (text_of catalogue request place) at key n
    so_far_of n (here, has) = (let (k, within, is) = are.all n here in (k, omega (arith, within, end), is, here, has))

    by_found : (o : Option ℕ) → IsLeast o (IsSoFar lines (IsLineOf catalogue request place) groups (text_of catalogue request place) at key) → IsLeast o (λ n. IsLineOf catalogue request place n × HasKey groups (text_of catalogue request place) key n)
    by_found None none = λ n h. none n (so_far_of n h)
    by_found (Some m) least = (among m least.0, λ n below h. least.1 n below (so_far_of n h))

-- ---- the first line of a rule

module _ (Among : ℕ → Type 0) (groups : List ℕ → Option ℕ) (text : List Line) where
  -- the one that a key of the line finds
  pub line_by_key : (content : Line) (key : List ℕ) → Contains (line_keys groups content) key → (n : ℕ) → IsLeast (Some n) (λ m. Among m × HasKey groups text key m) → IsLineAt text content n → IsLeast (Some n) (λ m. Among m × IsLineAt text content m)
  line_by_key content key keyed n least at = ((least.0.0, at), λ m below both. least.1 m below (both.0, (content, both.1, keyed)))

  pub none_by_key : (content : Line) (key : List ℕ) → Contains (line_keys groups content) key → IsLeast None (λ m. Among m × HasKey groups text key m) → IsLeast None (λ m. Among m × IsLineAt text content m)
  none_by_key content key keyed none = λ m both. none m (both.0, (content, both.1, keyed))

  -- a line that needs something in a case has that key
  has_need_key : (alternatives case : List Spec) (m : ℕ) → IsAt text (NeedsIn alternatives case) m → HasKey groups text (need_key groups alternatives case) m
  has_need_key alternatives case m (l, there, (condition, is, has)) = (l, there, subst (λ (x : Line). Contains (line_keys groups x) (need_key groups alternatives case)) (sym is) (contains_map (need_key groups alternatives) case (condition_cases condition) has))

  -- no line before the one with the key needs that
  pub none_before : (alternatives case : List Spec) (n : ℕ) → IsLeast (Some n) (λ m. Among m × HasKey groups text (need_key groups alternatives case) m) → (m : ℕ) → m < n → Among m → IsAt text (NeedsIn alternatives case) m → ⊥
  none_before alternatives case n least m below here needs = least.1 m below (here, has_need_key alternatives case m needs)

  pub no_need_by_key : (alternatives case : List Spec) → IsLeast None (λ m. Among m × HasKey groups text (need_key groups alternatives case) m) → IsNeedLine Among text alternatives case None
  no_need_by_key alternatives case none = λ m here needs. none m (here, has_need_key alternatives case m needs)

-- the one key of a limit, and that of a need without a condition
pub has_one : (key : List ℕ) → Contains (key ∷ []) key
has_one key = contains_first key key [] refl

-- ---- the first lines of places

-- what holds of a value holds of the value that is lent
pub lent : {X : Type 0} (P : X → Type 0) (o : Option (Bor X)) (x : Option X) → option_copied o ≡ x → IfSome x P → IfSome o (λ b. P b.now)
lent P None x is h = tt
lent P (Some b) None is h = absurd cc
lent P (Some b) (Some x) is h = subst P (sym (one_some is)) h

-- no version's first lines
pub listed_none : (catalogue request : List Line) (m : BTreeMap ℕ FirstLines) → m.entries ≡ [] → AreListed catalogue request (get nat_cmp m)
listed_none catalogue request m empty n = subst (λ (es : List (ℕ × FirstLines)). IfSome (lookup (is_at (nat_cmp n)) es) (AreFirst catalogue request (Some (record { 0 = n })))) (sym empty) tt

-- one more version's first lines
pub listed_more : (catalogue request : List Line) (old new : ℕ → Option FirstLines) (v : VersionNo) (f : FirstLines) → ((n : ℕ) → new n ≡ update nat_eq old v.0 (Some f) n) → AreFirst catalogue request (Some v) f → AreListed catalogue request old → AreListed catalogue request new
listed_more catalogue request old new v f changes first before n = subst (λ (o : Option FirstLines). IfSome o (AreFirst catalogue request (Some (record { 0 = n })))) (sym (changes n)) (by_number (nat_eq v.0 n) refl)
  where
    by_number : (b : Bool) → nat_eq v.0 n ≡ b → IfSome (cond b (Some f) (old n)) (AreFirst catalogue request (Some (record { 0 = n })))
    by_number true e = subst (λ (k : ℕ). AreFirst catalogue request (Some (record { 0 = k })) f) (eqb-true v.0 n e) first
    by_number false e = before n
