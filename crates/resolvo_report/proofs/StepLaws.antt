-- Literals, clauses and steps: parsing and spelling are inverse.
use Rattle.std.proofs.Common.{◌≡◌, ℕ, zero, suc, ◌+◌, ◌<◌, inl, inr, Bool, true, false, cond, eqb, ◌&&◌, List, [], ◌∷◌, ◌++◌, length, get_or, take, drop, map, Option, Some, None, All, refl, sym, ap, subst, ◌∙◌, append_assoc, append-nil, arith}
use Rattle.std.specs.Prelude.{codes, IsTrue, ◌==◌}
use Rattle.std.specs.Fmt.{decimal}
use Rattle.std.specs.Str.{bytes_eq}
use Rattle.std.specs.List.{AllByRecursion, list_all, position, position_or_len, slice_split, join_with_byte, flat_map}
use Rattle.std.proofs.lemmas.Slice.Eq.{bytes_eq-Decides}
use Rattle.std.proofs.lemmas.Bool.{and_parts, ne_eqb, eqb-true, lt-ltb}
use Rattle.std.proofs.lemmas.Bool.Decides.{nat_tests}
use Rattle.std.proofs.lemmas.Option.{same_Some, cond_some}
use Rattle.std.proofs.lemmas.List.{take_at, drop_at, drop-drop, take-append-drop, drop_more, length-append, get_or_append_left, get_or_at}
use Rattle.std.proofs.lemmas.List.Elements.{All-from_recursion}
use Rattle.std.proofs.lemmas.List.Sums.{position_or_len_is}
use Rattle.std.proofs.lemmas.List.Quantifiers.{position-Some}
use Rattle.std.proofs.lemmas.List.Splits.{slice_split_at, slice_split_none, join_with_byte-slice_split, length-slice_split}
use Rattle.resolvo_text.specs.Line.{Version}
use Rattle.resolvo_text.specs.Spelling.{Words, is_name, IsNumber, IsVersion, IsSpec, spec_words, alternatives_words}
use Rattle.resolvo_text.specs.Parse.{◌>>=◌, word_at, end_at, reason_at, spec_at, number_in, skip, words_in, is_space}
use Rattle.resolvo_text.proofs.NumberLemmas.{number_in-decimal, number_in_spells}
use Rattle.resolvo_text.proofs.AlternativeLemmas.{bind_some}
use Rattle.resolvo_text.proofs.PartLaws.{word_takes, skip_takes, skip_is, no_skip, chosen, BeginsNot}
use Rattle.resolvo_report.specs.Value.{Atom, Chosen, AnyOf, SharedBy, OutsideOf, MatchesOf, BitOf, Literal, Step, Derive}
use Rattle.resolvo_report.specs.Text.{version_text, atom_words, atom_text, signed, literal_words, literal_text, clause_text, IsBit, AreAlternatives, IsAtom, are_rising, are_once, AreLiterals, AreNumbers}
use Rattle.resolvo_report.specs.Parse.{pair_at, behind, behind_at, whole, version_in, bit_at, specs_at, any_atom_in, shared_atom_in, outside_atom_in, matches_atom_in, bit_atom_in, atom_by, atom_in, literal_in, literal_behind, literals_behind, text_behind, atom_part, are_in_order, is_semicolon, pieces_in, literals_in, numbers_in, some_of, causes_in, causes_behind, is_close, derived_in}
use Rattle.resolvo_report.proofs.TextLemmas.{join_spaced}
use Rattle.resolvo_report.proofs.FormLaws.{is_plain, Plain, ArePlain, number_is_plain, version_is_plain, Kind, pair_law, behind_law, whole_kind, bit_law, name_law, spec_law, specs_law, version_in_takes, version_in_again, behind_again}

-- ---- words that are joined, and split again

is_word_byte : (b : ℕ) → is_plain b ≡ true → is_space b ≡ false
is_word_byte b h = ne_eqb b 32 (λ e. absurd (grind (arith, nat_tests)))

no_space : (w : List ℕ) → Plain w → AllByRecursion (λ b. is_space b ≡ false) w
no_space [] h = tt
no_space (b ∷ bs) h = let p = and_parts (is_plain b) (list_all is_plain bs) h in (is_word_byte b p.0, no_space bs p.1)

pub NoSpace-plain : (w : List ℕ) → Plain w → All (λ b. is_space b ≡ false) w
NoSpace-plain w h = All-from_recursion _ w (no_space w h)

pub split_plain : (w : List ℕ) (ws : Words) → ArePlain (w ∷ ws) → slice_split is_space (join_with_byte 32 (w ∷ ws)) ≡ w ∷ ws
split_plain w [] each = slice_split_none is_space w (NoSpace-plain w each.0)
split_plain w (next ∷ ws) each = slice_split_at is_space w 32 (join_with_byte 32 (next ∷ ws)) (NoSpace-plain w each.0) refl ∙ ap (λ (x : Words). w ∷ x) (split_plain next ws each.1)

-- ---- atoms

any_atom : Kind (whole reason_at (λ name. AnyOf name)) (λ name. AnyOf name) (λ name. name ∷ []) (λ name. IsTrue (is_name name))
any_atom = whole_kind (λ name. AnyOf name) name_law tt

shared_atom : Kind (whole specs_at (λ ss. SharedBy ss)) (λ ss. SharedBy ss) alternatives_words AreAlternatives
shared_atom = whole_kind (λ ss. SharedBy ss) specs_law (tt, tt)

outside_atom : Kind (whole spec_at (λ s. OutsideOf s)) (λ s. OutsideOf s) spec_words IsSpec
outside_atom = whole_kind (λ s. OutsideOf s) spec_law tt

matches_atom : Kind (whole spec_at (λ s. MatchesOf s)) (λ s. MatchesOf s) spec_words IsSpec
matches_atom = whole_kind (λ s. MatchesOf s) spec_law tt

bit_atom : Kind (whole (pair_at bit_at (behind_at (codes "of") reason_at)) (λ x. BitOf x.0 x.1)) (λ (x : ℕ × List ℕ). BitOf x.0 x.1) (λ (x : ℕ × List ℕ). (decimal x.0 ∷ []) ++ codes "of" ∷ (x.1 ∷ [])) (λ (x : ℕ × List ℕ). IsBit x.0 × IsTrue (is_name x.1))
bit_atom = whole_kind (λ (x : ℕ × List ℕ). BitOf x.0 x.1) (pair_law bit_law (behind_law (codes "of") refl name_law) (λ y rest fits ends. tt)) tt

-- the keyword, and words of a kind that make an atom
abbrev AtomBy : List ℕ → Words → Atom → Type 0
AtomBy k words a = (k ∷ words ≡ atom_words a) × IsAtom a

of_kind : {X : Type 0} {read : Words → Option Atom} {make : X → Atom} {spell : X → Words} {Fits : X → Type 0} → Kind read make spell Fits → (keyword k : List ℕ) (words : Words) (a : Atom)
    → ((x : X) → Fits x → (keyword ∷ spell x ≡ atom_words (make x)) × IsAtom (make x)) → k ≡ keyword → read words ≡ Some a → AtomBy k words a
of_kind {X} {read} {make} {spell} {Fits} kind keyword k words a made is e =
    let t = kind.takes words a e in
    let m = made t.0 t.2 in
    subst (AtomBy k words) t.3 (ap (λ (w : List ℕ). w ∷ words) is ∙ ap (λ (ws : Words). keyword ∷ ws) t.1 ∙ m.0, m.1)

pub is_keyword : (k keyword : List ℕ) → bytes_eq k keyword ≡ true → k ≡ keyword
is_keyword k keyword e = (bytes_eq-Decides k keyword).0 e

pub at_end : (words : Words) (u : Unit {0}) → end_at words ≡ Some u → words ≡ []
at_end [] u e = refl
at_end (w ∷ ws) u e = absurd cc

atom_by_takes : (k : List ℕ) (words : Words) (a : Atom) → atom_by k words ≡ Some a → AtomBy k words a
unfolding atom_by any_atom_in shared_atom_in outside_atom_in matches_atom_in bit_atom_in
atom_by_takes k words a e =
    elim (chosen (bytes_eq k (codes "any")) _ _ _ e) [
      | inl h ↦ of_kind any_atom (codes "any") k words a (λ x fits. (refl, fits)) (is_keyword k (codes "any") h.0) h.1
      | inr e1 ↦ elim (chosen (bytes_eq k (codes "shared")) _ _ _ e1.1) [
        | inl h ↦ of_kind shared_atom (codes "shared") k words a (λ x fits. (refl, fits)) (is_keyword k (codes "shared") h.0) h.1
        | inr e2 ↦ elim (chosen (bytes_eq k (codes "outside")) _ _ _ e2.1) [
          | inl h ↦ of_kind outside_atom (codes "outside") k words a (λ x fits. (refl, fits)) (is_keyword k (codes "outside") h.0) h.1
          | inr em ↦ elim (chosen (bytes_eq k (codes "matches")) _ _ _ em.1) [
            | inl h ↦ of_kind matches_atom (codes "matches") k words a (λ x fits. (refl, fits)) (is_keyword k (codes "matches") h.0) h.1
            | inr e3 ↦ elim (chosen (bytes_eq k (codes "bit")) _ _ _ e3.1) [
              | inl h ↦ of_kind bit_atom (codes "bit") k words a (λ x fits. (refl, fits)) (is_keyword k (codes "bit") h.0) h.1
              | inr e4 ↦
                  let p = bind_some (version_in k) (λ v. end_at words >>= λ _. Some (Chosen v)) a e4.1 in
                  let q = bind_some (end_at words) (λ _. Some (Chosen p.0)) a p.2 in
                  let version = version_in_takes k p.0 p.1 in
                  subst (AtomBy k words) (same_Some _ _ q.2) (ap (λ (w : List ℕ). w ∷ words) version.0 ∙ ap (λ (ws : Words). version_text p.0 ∷ ws) (at_end words q.0 q.1), version.1)
            ]
          ]
        ]
      ]
    ]

pub no_keyword : (k : List ℕ) (v : Version) → IsVersion v → version_in k ≡ None → bytes_eq (version_text v) k ≡ false
no_keyword k v fits none = by_test (bytes_eq (version_text v) k) refl
  where
    some_none : Some v ≡ None → ⊥
    some_none e = cc

    by_test : (b : Bool) → bytes_eq (version_text v) k ≡ b → b ≡ false
    by_test false e = refl
    by_test true e = let is : version_text v ≡ k = (bytes_eq-Decides (version_text v) k).0 e in absurd (some_none (sym (version_in_again v fits) ∙ ap version_in is ∙ none))

-- a word without `=` is no version
pub no_version_any : version_in (codes "any") ≡ None
unfolding version_in
no_version_any = refl

pub no_version_shared : version_in (codes "shared") ≡ None
unfolding version_in
no_version_shared = refl

pub no_version_outside : version_in (codes "outside") ≡ None
unfolding version_in
no_version_outside = refl

pub no_version_matches : version_in (codes "matches") ≡ None
unfolding version_in
no_version_matches = refl

pub no_version_bit : version_in (codes "bit") ≡ None
unfolding version_in
no_version_bit = refl

pub no_version_not : version_in (codes "not") ≡ None
unfolding version_in
no_version_not = refl

abbrev first_of : Words → List ℕ
first_of [] = []
first_of (w ∷ ws) = w

abbrev rest_of : Words → Words
rest_of [] = []
rest_of (w ∷ ws) = ws

atom_by_again : (a : Atom) → IsAtom a → atom_by (first_of (atom_words a)) (rest_of (atom_words a)) ≡ Some a
unfolding atom_by any_atom_in shared_atom_in outside_atom_in matches_atom_in bit_atom_in
atom_by_again (Chosen v) fits = rw (no_keyword (codes "any") v fits no_version_any, no_keyword (codes "shared") v fits no_version_shared, no_keyword (codes "outside") v fits no_version_outside, no_keyword (codes "matches") v fits no_version_matches, no_keyword (codes "bit") v fits no_version_bit, version_in_again v fits) refl
atom_by_again (AnyOf name) fits = any_atom.again name fits
atom_by_again (SharedBy ss) fits = shared_atom.again ss fits
atom_by_again (OutsideOf s) fits = outside_atom.again s fits
atom_by_again (MatchesOf s) fits = matches_atom.again s fits
atom_by_again (BitOf bit name) fits = bit_atom.again (bit, name) fits

atom_begins : (a : Atom) → atom_words a ≡ first_of (atom_words a) ∷ rest_of (atom_words a)
atom_begins (Chosen v) = refl
atom_begins (AnyOf name) = refl
atom_begins (SharedBy ss) = refl
atom_begins (OutsideOf s) = refl
atom_begins (MatchesOf s) = refl
atom_begins (BitOf bit name) = refl

atom_takes : (words : Words) (a : Atom) → atom_in words ≡ Some a → (words ≡ atom_words a) × IsAtom a
unfolding atom_in
atom_takes words a e =
    let p = bind_some (word_at words) (λ x. atom_by x.0 x.1) a e in
    let t = atom_by_takes p.0.0 p.0.1 a p.2 in
    (word_takes words p.0.0 p.0.1 p.1 ∙ t.0, t.1)

atom_again : (a : Atom) → IsAtom a → atom_in (atom_words a) ≡ Some a
unfolding atom_in
atom_again a fits = ap (λ (ws : Words). word_at ws >>= λ x. atom_by x.0 x.1) (atom_begins a) ∙ atom_by_again a fits

atom_are_plain : (a : Atom) → IsAtom a → ArePlain (atom_words a)
atom_are_plain (Chosen v) fits = (version_is_plain v fits, tt)
atom_are_plain (AnyOf name) fits = (refl, any_atom.plain name fits)
atom_are_plain (SharedBy ss) fits = (refl, shared_atom.plain ss fits)
atom_are_plain (OutsideOf s) fits = (refl, outside_atom.plain s fits)
atom_are_plain (MatchesOf s) fits = (refl, matches_atom.plain s fits)
atom_are_plain (BitOf bit name) fits = (refl, bit_atom.plain (bit, name) fits)

-- ---- literals

literal_takes : (words : Words) (l : Literal) → literal_in words ≡ Some l → (words ≡ literal_words l) × IsAtom l.atom
unfolding literal_in
literal_takes words l e =
    elim (chosen (skip (codes "not") words).0 _ _ _ e) [
      | inl h ↦
          let p = bind_some (atom_in (skip (codes "not") words).1) (λ a. Some (record { atom = a; positive = false })) l h.1 in
          let t = atom_takes (skip (codes "not") words).1 p.0 p.1 in
          subst (λ (x : Literal). (words ≡ literal_words x) × IsAtom x.atom) (same_Some _ _ p.2) (skip_takes (codes "not") words h.0 ∙ ap (λ (ws : Words). codes "not" ∷ ws) t.0, t.1)
      | inr h ↦
          let p = bind_some (atom_in words) (λ a. Some (record { atom = a; positive = true })) l h.1 in
          let t = atom_takes words p.0 p.1 in
          subst (λ (x : Literal). (words ≡ literal_words x) × IsAtom x.atom) (same_Some _ _ p.2) t
    ]

not_not : (a : Atom) → IsAtom a → BeginsNot (codes "not") (atom_words a)
not_not (Chosen v) fits = no_keyword (codes "not") v fits no_version_not
not_not (AnyOf name) fits = refl
not_not (SharedBy ss) fits = refl
not_not (OutsideOf s) fits = refl
not_not (MatchesOf s) fits = refl
not_not (BitOf bit name) fits = refl

literal_by_sign : (positive : Bool) (a : Atom) → IsAtom a → literal_in (signed positive (atom_words a)) ≡ Some (record { atom = a; positive = positive })
unfolding literal_in
literal_by_sign true a fits = rw (no_skip (codes "not") (atom_words a) (not_not a fits), atom_again a fits) refl
literal_by_sign false a fits = rw (skip_is (codes "not") (atom_words a), atom_again a fits) refl

literal_again : (l : Literal) → IsAtom l.atom → literal_in (literal_words l) ≡ Some l
literal_again l fits = literal_by_sign l.positive l.atom fits

literal_begins : (positive : Bool) (a : Atom) → signed positive (atom_words a) ≡ first_of (signed positive (atom_words a)) ∷ rest_of (signed positive (atom_words a))
literal_begins true a = atom_begins a
literal_begins false a = refl

pub literal_are_plain : (positive : Bool) (a : Atom) → IsAtom a → ArePlain (signed positive (atom_words a))
literal_are_plain true a fits = atom_are_plain a fits
literal_are_plain false a fits = (refl, atom_are_plain a fits)

-- the words of a literal's text are its words
literal_split : (l : Literal) → IsAtom l.atom → slice_split is_space (literal_text l) ≡ literal_words l
literal_split l fits =
    let begins = literal_begins l.positive l.atom in
    ap (λ (ws : Words). slice_split is_space (join_with_byte 32 ws)) begins
    ∙ split_plain (first_of (literal_words l)) (rest_of (literal_words l)) (subst ArePlain begins (literal_are_plain l.positive l.atom fits))
    ∙ sym begins

literal_behind_takes : (sign : ℕ) (piece : List ℕ) (l : Literal) → literal_behind sign piece ≡ Some l → (piece ≡ sign ∷ literal_text l) × IsAtom l.atom
unfolding literal_behind
literal_behind_takes sign [] l e = absurd cc
literal_behind_takes sign (b ∷ bs) l e =
    let g = by_sign (b == sign) (literal_in (words_in (b ∷ bs))) e in
    let t = literal_takes (words_in (b ∷ bs)) l g.1 in
    let text : bs ≡ literal_text l = sym (join_with_byte-slice_split 32 bs) ∙ ap (join_with_byte 32) t.0 in
    (ap (λ (n : ℕ). n ∷ bs) (eqb-true b sign g.0) ∙ ap (λ (xs : List ℕ). sign ∷ xs) text, t.1)
  where
    by_sign : (c : Bool) (o : Option Literal) → cond c o None ≡ Some l → (c ≡ true) × (o ≡ Some l)
    by_sign true o h = (refl, h)
    by_sign false o h = absurd cc

same_byte : (n : ℕ) → eqb n n ≡ true
same_byte n = grind (arith, nat_tests)

literal_behind_again : (sign : ℕ) (l : Literal) → IsAtom l.atom → literal_behind sign (sign ∷ literal_text l) ≡ Some l
unfolding literal_behind
literal_behind_again sign l fits = rw (same_byte sign, literal_split l fits) (literal_again l fits)

-- ---- clauses

-- the pieces of a clause between semicolons
abbrev pub pieces_of : ℕ → List Literal → List (List ℕ)
pieces_of sign [] = []
pieces_of sign (l ∷ ls) = (sign ∷ literal_text l) ∷ pieces_of 32 ls

abbrev AreAtoms : List Literal → Type 0
AreAtoms ls = AllByRecursion (λ l. IsAtom l.atom) ls

pieces_take : (sign : ℕ) (pieces : List (List ℕ)) (ls : List Literal) → literals_behind sign pieces ≡ Some ls → (pieces ≡ pieces_of sign ls) × AreAtoms ls
pieces_take sign [] ls e = let is : [] ≡ ls = same_Some _ _ e in subst (λ (xs : List Literal). ([] ≡ pieces_of sign xs) × AreAtoms xs) is (refl, tt)
pieces_take sign (p ∷ ps) ls e =
    let a = bind_some (literal_behind sign p) (λ l. literals_behind 32 ps >>= λ ls. Some (l ∷ ls)) ls e in
    let b = bind_some (literals_behind 32 ps) (λ ls. Some (a.0 ∷ ls)) ls a.2 in
    let first = literal_behind_takes sign p a.0 a.1 in
    let others = pieces_take 32 ps b.0 b.1 in
    subst (λ (xs : List Literal). (p ∷ ps ≡ pieces_of sign xs) × AreAtoms xs) (same_Some _ _ b.2) (ap (λ (t : List ℕ). t ∷ ps) first.0 ∙ ap (λ (ts : List (List ℕ)). (sign ∷ literal_text a.0) ∷ ts) others.0, (first.1, others.1))

pieces_again : (sign : ℕ) (ls : List Literal) → AreAtoms ls → literals_behind sign (pieces_of sign ls) ≡ Some ls
pieces_again sign [] each = refl
pieces_again sign (l ∷ ls) each = rw (literal_behind_again sign l each.0, pieces_again 32 ls each.1) refl

texts_behind : (sign : ℕ) (ls : List Literal) → map text_behind (pieces_of sign ls) ≡ map literal_text ls
texts_behind sign [] = refl
texts_behind sign (l ∷ ls) = ap (λ (ts : List (List ℕ)). literal_text l ∷ ts) (texts_behind 32 ls)

plain_take : (n : ℕ) (xs : List ℕ) → Plain xs → Plain (take n xs)
plain_take zero xs h = refl
plain_take (suc n) [] h = refl
plain_take (suc n) (x ∷ xs) h = let p = and_parts (is_plain x) (list_all is_plain xs) h in rw (p.0, plain_take n xs p.1) refl

-- a plain text doesn't begin with `not `
plain_begins : (text : List ℕ) → Plain text → bytes_eq (take 4 text) (codes "not ") ≡ false
plain_begins text plain = by_test (bytes_eq (take 4 text) (codes "not ")) refl
  where
    by_test : (b : Bool) → bytes_eq (take 4 text) (codes "not ") ≡ b → b ≡ false
    by_test false e = refl
    by_test true e =
        let is : take 4 text ≡ codes "not " = (bytes_eq-Decides (take 4 text) (codes "not ")).0 e in
        let kept : list_all is_plain (take 4 text) ≡ true = plain_take 4 text plain in
        sym (sym (ap (list_all is_plain) is) ∙ kept)

atom_is_no_not : (a : Atom) → IsAtom a → bytes_eq (take 4 (atom_text a)) (codes "not ") ≡ false
atom_is_no_not (Chosen v) fits = plain_begins (version_text v) (version_is_plain v fits)
atom_is_no_not (AnyOf name) fits = refl
atom_is_no_not (SharedBy ss) fits = rw (join_spaced (codes "shared") (alternatives_words ss)) refl
atom_is_no_not (OutsideOf s) fits = refl
atom_is_no_not (MatchesOf s) fits = refl
atom_is_no_not (BitOf bit name) fits = refl

part_by_sign : (positive : Bool) (a : Atom) → IsAtom a → atom_part (join_with_byte 32 (signed positive (atom_words a))) ≡ atom_text a
part_by_sign true a fits = rw (atom_is_no_not a fits) refl
part_by_sign false a fits =
    let begins = atom_begins a in
    let text : join_with_byte 32 (codes "not" ∷ atom_words a) ≡ codes "not " ++ atom_text a = ap (λ (ws : Words). join_with_byte 32 (codes "not" ∷ ws)) begins ∙ ap (λ (ws : Words). codes "not " ++ join_with_byte 32 ws) (sym begins) in
    ap atom_part text

parts_of_texts : (ls : List Literal) → AreAtoms ls → map atom_part (map literal_text ls) ≡ map (λ l. atom_text l.atom) ls
parts_of_texts [] each = refl
parts_of_texts (l ∷ ls) each = ap (λ (t : List ℕ). t ∷ map atom_part (map literal_text ls)) (part_by_sign l.positive l.atom each.0) ∙ ap (λ (ts : List (List ℕ)). atom_text l.atom ∷ ts) (parts_of_texts ls each.1)

-- the text of the literals behind the first one
abbrev parted_more : List Literal → List ℕ
parted_more ls = flat_map (λ m. codes "; " ++ literal_text m) ls

joined_pieces : (sign : ℕ) (l : Literal) (ls : List Literal) → join_with_byte 59 (pieces_of sign (l ∷ ls)) ≡ (sign ∷ literal_text l) ++ parted_more ls
joined_pieces sign l [] = sym (append-nil (sign ∷ literal_text l))
joined_pieces sign l (m ∷ ls) = ap (λ (t : List ℕ). (sign ∷ literal_text l) ++ 59 ∷ t) (joined_pieces 32 m ls)

-- a clause's text without its closing bracket
abbrev pub opened_text : List Literal → List ℕ
opened_text [] = codes "["
opened_text (l ∷ ls) = codes "[" ++ literal_text l ++ parted_more ls

closed : (ls : List Literal) → opened_text ls ++ codes "]" ≡ clause_text ls
closed [] = refl
closed (l ∷ ls) = refl

opened_joined : (l : Literal) (ls : List Literal) → join_with_byte 59 (pieces_of 91 (l ∷ ls)) ≡ opened_text (l ∷ ls)
opened_joined l ls = joined_pieces 91 l ls

literals_take : (text : List ℕ) (ls : List Literal) → literals_in text ≡ Some ls → (text ≡ opened_text ls) × AreLiterals ls
unfolding literals_in pieces_in
literals_take text ls e =
    elim (chosen (bytes_eq text (codes "[")) _ _ _ e) [
      | inl h ↦ subst (λ (xs : List Literal). (text ≡ opened_text xs) × AreLiterals xs) (same_Some _ _ h.1) (is_keyword text (codes "[") h.0, record { each = tt; rising = refl; once = refl })
      | inr h ↦
          let pieces = slice_split is_semicolon text in
          let p = bind_some (literals_behind 91 pieces) (λ ls. cond (are_in_order (map text_behind pieces)) (Some ls) None) ls h.1 in
          let g = cond_some (are_in_order (map text_behind pieces)) p.0 ls p.2 in
          let t = pieces_take 91 pieces p.0 p.1 in
          let texts : map text_behind pieces ≡ map literal_text p.0 = ap (map text_behind) t.0 ∙ texts_behind 91 p.0 in
          let order = and_parts (are_rising (map literal_text p.0)) (are_once (map atom_part (map literal_text p.0))) (ap are_in_order (sym texts) ∙ g.0) in
          let all : AreLiterals p.0 = record { each = t.1; rising = order.0; once = ap are_once (sym (parts_of_texts p.0 t.1)) ∙ order.1 } in
          subst (λ (xs : List Literal). (text ≡ opened_text xs) × AreLiterals xs) g.1 (spelled p.0 (sym (join_with_byte-slice_split 59 text) ∙ ap (join_with_byte 59) t.0) (ap length (sym t.0)), all)
    ]
  where
    spelled : (xs : List Literal) → text ≡ join_with_byte 59 (pieces_of 91 xs) → length (pieces_of 91 xs) ≡ length (slice_split is_semicolon text) → text ≡ opened_text xs
    spelled [] is count = absurd (omega (arith, length-slice_split is_semicolon text, count))
    spelled (l ∷ ls) is count = is ∙ opened_joined l ls

-- ---- bytes of a clause

-- no semicolon and no bracket that closes
abbrev IsClauseByte : ℕ → Type 0
IsClauseByte b = (is_semicolon b ≡ false) × (is_close b ≡ false)

plain_in_clause : (b : ℕ) → is_plain b ≡ true → IsClauseByte b
plain_in_clause b h = (ne_eqb b 59 (λ e. absurd (grind (arith, nat_tests))), ne_eqb b 93 (λ e. absurd (grind (arith, nat_tests))))

abbrev InClause : List ℕ → Type 0
InClause text = AllByRecursion IsClauseByte text

in_clause_both : (xs ys : List ℕ) → InClause xs → InClause ys → InClause (xs ++ ys)
in_clause_both [] ys p q = q
in_clause_both (x ∷ xs) ys p q = (p.0, in_clause_both xs ys p.1 q)

word_in_clause : (w : List ℕ) → Plain w → InClause w
word_in_clause [] h = tt
word_in_clause (b ∷ bs) h = let p = and_parts (is_plain b) (list_all is_plain bs) h in (plain_in_clause b p.0, word_in_clause bs p.1)

joined_in_clause : (ws : Words) → ArePlain ws → InClause (join_with_byte 32 ws)
joined_in_clause [] each = tt
joined_in_clause (w ∷ []) each = word_in_clause w each.0
joined_in_clause (w ∷ x ∷ ws) each = in_clause_both w (32 ∷ join_with_byte 32 (x ∷ ws)) (word_in_clause w each.0) ((refl, refl), joined_in_clause (x ∷ ws) each.1)

literal_in_clause : (l : Literal) → IsAtom l.atom → InClause (literal_text l)
literal_in_clause l fits = joined_in_clause (literal_words l) (literal_are_plain l.positive l.atom fits)

no_semicolon : (text : List ℕ) → InClause text → AllByRecursion (λ b. is_semicolon b ≡ false) text
no_semicolon [] h = tt
no_semicolon (b ∷ bs) h = (h.0.0, no_semicolon bs h.1)

abbrev NoClose : List ℕ → Type 0
NoClose text = AllByRecursion (λ b. is_close b ≡ false) text

no_close : (text : List ℕ) → InClause text → NoClose text
no_close [] h = tt
no_close (b ∷ bs) h = (h.0.1, no_close bs h.1)

no_close_both : (xs ys : List ℕ) → NoClose xs → NoClose ys → NoClose (xs ++ ys)
no_close_both [] ys p q = q
no_close_both (x ∷ xs) ys p q = (p.0, no_close_both xs ys p.1 q)

split_pieces : (sign : ℕ) (l : Literal) (ls : List Literal) → IsClauseByte sign → AreAtoms (l ∷ ls) → slice_split is_semicolon (join_with_byte 59 (pieces_of sign (l ∷ ls))) ≡ pieces_of sign (l ∷ ls)
split_pieces sign l [] ok each = slice_split_none is_semicolon (sign ∷ literal_text l) (All-from_recursion _ (sign ∷ literal_text l) (ok.0, no_semicolon (literal_text l) (literal_in_clause l each.0)))
split_pieces sign l (m ∷ ls) ok each =
    slice_split_at is_semicolon (sign ∷ literal_text l) 59 (join_with_byte 59 (pieces_of 32 (m ∷ ls))) (All-from_recursion _ (sign ∷ literal_text l) (ok.0, no_semicolon (literal_text l) (literal_in_clause l each.0))) refl
    ∙ ap (λ (ps : List (List ℕ)). (sign ∷ literal_text l) ∷ ps) (split_pieces 32 m ls (refl, refl) each.1)

more_no_close : (ls : List Literal) → AreAtoms ls → NoClose (parted_more ls)
more_no_close [] each = tt
more_no_close (l ∷ ls) each = no_close_both (codes "; " ++ literal_text l) (parted_more ls) (refl, (refl, no_close (literal_text l) (literal_in_clause l each.0))) (more_no_close ls each.1)

opened_no_close : (ls : List Literal) → AreAtoms ls → NoClose (opened_text ls)
opened_no_close [] each = (refl, tt)
opened_no_close (l ∷ ls) each = no_close_both (codes "[" ++ literal_text l) (parted_more ls) (refl, no_close (literal_text l) (literal_in_clause l each.0)) (more_no_close ls each.1)

some_joined : (w : List ℕ) (ws : Words) → 0 < length w → 0 < length (join_with_byte 32 (w ∷ ws))
some_joined w [] lt = lt
some_joined w (x ∷ ws) lt = omega (arith, lt, length-append w (32 ∷ join_with_byte 32 (x ∷ ws)))

literal_some : (positive : Bool) (a : Atom) → 0 < length (join_with_byte 32 (signed positive (atom_words a)))
literal_some false a = some_joined (codes "not") (atom_words a) (omega arith)
literal_some true (Chosen v) = omega (arith, length-append (v.name ++ codes "=") (decimal v.number), length-append v.name (codes "="))
literal_some true (AnyOf name) = some_joined (codes "any") (name ∷ []) (omega arith)
literal_some true (SharedBy ss) = some_joined (codes "shared") (alternatives_words ss) (omega arith)
literal_some true (OutsideOf s) = some_joined (codes "outside") (spec_words s) (omega arith)
literal_some true (MatchesOf s) = some_joined (codes "matches") (spec_words s) (omega arith)
literal_some true (BitOf bit name) = some_joined (codes "bit") (decimal bit ∷ codes "of" ∷ name ∷ []) (omega arith)

-- more than a bracket
not_alone : (l : Literal) (ls : List Literal) → bytes_eq (opened_text (l ∷ ls)) (codes "[") ≡ false
not_alone l ls = by_test (bytes_eq (opened_text (l ∷ ls)) (codes "[")) refl
  where
    by_test : (b : Bool) → bytes_eq (opened_text (l ∷ ls)) (codes "[") ≡ b → b ≡ false
    by_test false e = refl
    by_test true e =
        let is : opened_text (l ∷ ls) ≡ codes "[" = is_keyword (opened_text (l ∷ ls)) (codes "[") e in
        absurd (omega (arith, ap (λ (xs : List ℕ). length xs) is, length-append (codes "[" ++ literal_text l) (parted_more ls), length-append (codes "[") (literal_text l), literal_some l.positive l.atom))

literals_again : (ls : List Literal) → AreLiterals ls → literals_in (opened_text ls) ≡ Some ls
unfolding literals_in pieces_in
literals_again [] all = refl
literals_again (l ∷ ls) all =
    let split : slice_split is_semicolon (opened_text (l ∷ ls)) ≡ pieces_of 91 (l ∷ ls) = ap (slice_split is_semicolon) (sym (opened_joined l ls)) ∙ split_pieces 91 l ls (refl, refl) all.each in
    let texts : map text_behind (pieces_of 91 (l ∷ ls)) ≡ map literal_text (l ∷ ls) = texts_behind 91 (l ∷ ls) in
    let order : are_in_order (map literal_text (l ∷ ls)) ≡ true = both (are_rising (map literal_text (l ∷ ls))) (are_once (map atom_part (map literal_text (l ∷ ls)))) all.rising (ap are_once (parts_of_texts (l ∷ ls) all.each) ∙ all.once) in
    rw (not_alone l ls, split, pieces_again 91 (l ∷ ls) all.each, ap are_in_order texts ∙ order) refl
  where
    both : (a b : Bool) → a ≡ true → b ≡ true → (a && b) ≡ true
    both a b p q = rw (p, q) refl

-- ---- causes

numbers_take : (ws : Words) (ns : List ℕ) → numbers_in ws ≡ Some ns → (ws ≡ map decimal ns) × AllByRecursion IsNumber ns
numbers_take [] ns e = let is : [] ≡ ns = same_Some _ _ e in subst (λ (xs : List ℕ). ([] ≡ map decimal xs) × AllByRecursion IsNumber xs) is (refl, tt)
numbers_take (w ∷ ws) ns e =
    let a = bind_some (number_in w) (λ n. numbers_in ws >>= λ ns. Some (n ∷ ns)) ns e in
    let b = bind_some (numbers_in ws) (λ ns. Some (a.0 ∷ ns)) ns a.2 in
    let first = number_in_spells w a.0 a.1 in
    let others = numbers_take ws b.0 b.1 in
    subst (λ (xs : List ℕ). (w ∷ ws ≡ map decimal xs) × AllByRecursion IsNumber xs) (same_Some _ _ b.2) (ap (λ (t : List ℕ). t ∷ ws) first.0 ∙ ap (λ (ts : Words). decimal a.0 ∷ ts) others.0, (first.1, others.1))

numbers_again : (ns : List ℕ) → AllByRecursion IsNumber ns → numbers_in (map decimal ns) ≡ Some ns
numbers_again [] each = refl
numbers_again (n ∷ ns) each = rw (number_in-decimal n each.0, numbers_again ns each.1) refl

pub numbers_are_plain : (ns : List ℕ) → AllByRecursion IsNumber ns → ArePlain (map decimal ns)
numbers_are_plain [] each = tt
numbers_are_plain (n ∷ ns) each = (number_is_plain n each.0, numbers_are_plain ns each.1)

some_takes : (xs ns : List ℕ) → some_of xs ≡ Some ns → (xs ≡ ns) × (0 < length ns)
some_takes [] ns e = absurd cc
some_takes (x ∷ xs) ns e = let is : x ∷ xs ≡ ns = same_Some _ _ e in subst (λ (ys : List ℕ). (x ∷ xs ≡ ys) × (0 < length ys)) is (refl, omega arith)

some_again : (ns : List ℕ) → 0 < length ns → some_of ns ≡ Some ns
some_again [] lt = absurd (omega arith)
some_again (n ∷ ns) lt = refl

pub behind_is : (k : List ℕ) (words rest : Words) → behind k words ≡ Some rest → words ≡ k ∷ rest
unfolding behind
behind_is k words rest e = let g = cond_some (skip k words).0 (skip k words).1 rest e in skip_takes k words g.0 ∙ ap (λ (ws : Words). k ∷ ws) g.1

causes_take : (ws : Words) (ns : List ℕ) → causes_in ws ≡ Some ns → (ws ≡ codes "by" ∷ map decimal ns) × AreNumbers ns
unfolding causes_in
causes_take ws ns e =
    let a = bind_some (behind (codes "by") ws) (λ ws. numbers_in ws >>= λ ns. some_of ns) ns e in
    let b = bind_some (numbers_in a.0) (λ ns. some_of ns) ns a.2 in
    let some = some_takes b.0 ns b.2 in
    let numbers = numbers_take a.0 b.0 b.1 in
    (behind_is (codes "by") ws a.0 a.1 ∙ ap (λ (ts : Words). codes "by" ∷ ts) numbers.0 ∙ ap (λ (xs : List ℕ). codes "by" ∷ map decimal xs) some.0, (some.1, subst (λ (xs : List ℕ). AllByRecursion IsNumber xs) some.0 numbers.1))

causes_again : (ns : List ℕ) → AreNumbers ns → causes_in (codes "by" ∷ map decimal ns) ≡ Some ns
unfolding causes_in
causes_again ns all = rw (behind_again (codes "by") (map decimal ns), numbers_again ns all.1) (some_again ns all.0)

-- the text after a clause
abbrev pub by_text : List ℕ → List ℕ
by_text ns = join_with_byte 32 (codes "by" ∷ map decimal ns)

causes_behind_take : (text ns : List ℕ) → causes_behind text ≡ Some ns → (text ≡ 32 ∷ by_text ns) × AreNumbers ns
unfolding causes_behind
causes_behind_take [] ns e = absurd cc
causes_behind_take (b ∷ bs) ns e =
    let g = by_sign (is_space b) (causes_in (words_in (b ∷ bs))) e in
    let t = causes_take (words_in (b ∷ bs)) ns g.1 in
    (ap (λ (n : ℕ). n ∷ bs) (eqb-true b 32 g.0) ∙ ap (λ (xs : List ℕ). 32 ∷ xs) (sym (join_with_byte-slice_split 32 bs) ∙ ap (join_with_byte 32) t.0), t.1)
  where
    by_sign : (c : Bool) (o : Option (List ℕ)) → cond c o None ≡ Some ns → (c ≡ true) × (o ≡ Some ns)
    by_sign true o h = (refl, h)
    by_sign false o h = absurd cc

by_split : (ns : List ℕ) → AreNumbers ns → slice_split is_space (by_text ns) ≡ codes "by" ∷ map decimal ns
by_split ns all = split_plain (codes "by") (map decimal ns) (refl, numbers_are_plain ns all.1)

causes_behind_again : (ns : List ℕ) → AreNumbers ns → causes_behind (32 ∷ by_text ns) ≡ Some ns
unfolding causes_behind
causes_behind_again ns all = ap causes_in (by_split ns all) ∙ causes_again ns all

-- ---- derived steps

abbrev pub derived_text : List Literal → List ℕ → List ℕ
derived_text ls ns = clause_text ls ++ 32 ∷ by_text ns

pub derived_takes : (text : List ℕ) (s : Step) → derived_in text ≡ Some s → (ls : List Literal) × (ns : List ℕ) × (s ≡ Derive ls ns) × (text ≡ derived_text ls ns) × AreLiterals ls × AreNumbers ns
unfolding derived_in
derived_takes text s e =
    let a = bind_some (position is_close text) (λ at. literals_in (take at text) >>= λ ls. causes_behind (drop (at + 1) text) >>= λ ns. Some (Derive ls ns)) s e in
    let b = bind_some (literals_in (take a.0 text)) (λ ls. causes_behind (drop (a.0 + 1) text) >>= λ ns. Some (Derive ls ns)) s a.2 in
    let d = bind_some (causes_behind (drop (a.0 + 1) text)) (λ ns. Some (Derive b.0 ns)) s b.2 in
    let at = position-Some is_close text a.0 0 a.1 in
    let close : get_or text a.0 0 ≡ 93 = eqb-true (get_or text a.0 0) 93 at.1 in
    let literals = literals_take (take a.0 text) b.0 b.1 in
    let causes = causes_behind_take (drop (a.0 + 1) text) d.0 d.1 in
    let parts : text ≡ take a.0 text ++ 93 ∷ drop (a.0 + 1) text = sym (take-append-drop a.0 text) ∙ ap (λ (xs : List ℕ). take a.0 text ++ xs) (drop_more text a.0 0 at.0 ∙ ap (λ (b : ℕ). b ∷ drop (a.0 + 1) text) close) in
    let spelled : text ≡ derived_text b.0 d.0 = parts ∙ ap (λ (xs : List ℕ). xs ++ 93 ∷ drop (a.0 + 1) text) literals.0 ∙ ap (λ (xs : List ℕ). opened_text b.0 ++ 93 ∷ xs) causes.0 ∙ sym (append_assoc (opened_text b.0) (codes "]") (32 ∷ by_text d.0)) ∙ ap (λ (xs : List ℕ). xs ++ 32 ∷ by_text d.0) (closed b.0) in
    (b.0, d.0, sym (same_Some _ _ d.2), spelled, literals.1, causes.1)

close_at : (prefix rest : List ℕ) → NoClose prefix → position is_close (prefix ++ 93 ∷ rest) ≡ Some (length prefix)
close_at prefix rest none =
    let each : All (λ b. is_close b ≡ false) prefix = All-from_recursion _ prefix none in
    let at : position_or_len is_close (prefix ++ 93 ∷ rest) ≡ length prefix = position_or_len_is is_close (prefix ++ 93 ∷ rest) (length prefix) 0 (omega (arith, length-append prefix (93 ∷ rest)))
    (λ k lt. rw (get_or_append_left prefix (93 ∷ rest) 0 k lt) (each k 0 lt))
    (λ lt. rw (get_or_at prefix 93 rest 0 (length prefix) refl) refl) in
    rw (at, lt-ltb (length prefix) (length (prefix ++ 93 ∷ rest)) (omega (arith, length-append prefix (93 ∷ rest)))) refl

pub derived_again : (ls : List Literal) (ns : List ℕ) → AreLiterals ls → AreNumbers ns → derived_in (derived_text ls ns) ≡ Some (Derive ls ns)
unfolding derived_in
derived_again ls ns all numbers =
    let prefix = opened_text ls in
    let rest = 32 ∷ by_text ns in
    let parts : derived_text ls ns ≡ prefix ++ 93 ∷ rest = ap (λ (xs : List ℕ). xs ++ 32 ∷ by_text ns) (sym (closed ls)) ∙ append_assoc (opened_text ls) (codes "]") (32 ∷ by_text ns) in
    ap (λ (text : List ℕ). position is_close text >>= λ at. literals_in (take at text) >>= λ ls. causes_behind (drop (at + 1) text) >>= λ ns. Some (Derive ls ns)) parts
    ∙ rw (close_at (opened_text ls) (32 ∷ by_text ns) (opened_no_close ls all.each), take_at (opened_text ls) (93 ∷ 32 ∷ by_text ns) (length (opened_text ls)) refl, sym (drop-drop 1 (length (opened_text ls)) (opened_text ls ++ 93 ∷ 32 ∷ by_text ns)), drop_at (opened_text ls) (93 ∷ 32 ∷ by_text ns) (length (opened_text ls)) refl, literals_again ls all, causes_behind_again ns numbers) refl
