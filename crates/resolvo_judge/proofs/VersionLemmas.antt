-- A set of versions by the numbers of each package.
use Rattle.std.proofs.Common.{◌≡◌, inl, inr, ◌==◌, ℕ, Bool, true, false, ◌&&◌, ◌||◌, List, [], ◌∷◌, ◌++◌, Option, Some, refl, sym, ap, ◌∙◌, if◌then◌else◌}
use Rattle.std.specs.Global.{Vec}
use Rattle.std.specs.List.{list_any}
use Rattle.std.specs.Map.{update}
use Rattle.std.specs.Str.{bytes_eq}
use Rattle.std.proofs.lemmas.Bool.{cases_Bool}
use Rattle.std.proofs.lemmas.Slice.Eq.{bytes_eq-Decides}
use Rattle.resolvo_text.specs.Line.{Version}
use Rattle.resolvo_text.specs.Matches.{Set, is_member}
use Rattle.std.specs.BTreeMap.{get_by_text}
use Rattle.std.specs.Prelude.{Result, Ok, Err, OnOk}
use Rattle.resolvo_judge.specs.declared.versions.Versions.{Versions}
use Rattle.resolvo_judge.specs.Versions.{numbers_for, numbers_kept, AddsNumber, HoldsAll}
use Rattle.resolvo_judge.proofs.ChosenLemmas.{bytes_eq_sym, any_same}
use Rattle.std.proofs.lemmas.Bool.Decides.{Decides-eqb}

pub numbers_more : (set : Set) (v : Version) (name : List ℕ) → numbers_for (set ++ v ∷ []) name ≡ (if bytes_eq v.name name then numbers_for set name ++ v.number ∷ [] else numbers_for set name)
numbers_more [] v name = refl
numbers_more (w ∷ set) v name = by_test (bytes_eq w.name name) (numbers_more set v name)
  where
    inside : (t : Bool) (xs : List ℕ) → w.number ∷ (if t then xs ++ v.number ∷ [] else xs) ≡ (if t then (w.number ∷ xs) ++ v.number ∷ [] else w.number ∷ xs)
    inside true xs = refl
    inside false xs = refl

    by_test : (b : Bool) → numbers_for (set ++ v ∷ []) name ≡ (if bytes_eq v.name name then numbers_for set name ++ v.number ∷ [] else numbers_for set name)
        → (if b then w.number ∷ numbers_for (set ++ v ∷ []) name else numbers_for (set ++ v ∷ []) name) ≡ (if bytes_eq v.name name then (if b then w.number ∷ numbers_for set name else numbers_for set name) ++ v.number ∷ [] else (if b then w.number ∷ numbers_for set name else numbers_for set name))
    by_test true more = ap (λ (xs : List ℕ). w.number ∷ xs) more ∙ inside (bytes_eq v.name name) (numbers_for set name)
    by_test false more = more

-- a version is a member where its number is among those of its package
pub member_by_number : (v : Version) (set : Set) → list_any (λ n. v.number == n) (numbers_for set v.name) ≡ is_member v set
member_by_number v [] = refl
member_by_number v (w ∷ set) =
    by_test (bytes_eq w.name v.name) (member_by_number v set)
    ∙ ap (λ (b : Bool). (b && v.number == w.number) || is_member v set) (bytes_eq_sym w.name v.name)
  where
    by_test : (b : Bool) → list_any (λ n. v.number == n) (numbers_for set v.name) ≡ is_member v set
        → list_any (λ n. v.number == n) (if b then w.number ∷ numbers_for set v.name else numbers_for set v.name) ≡ (b && v.number == w.number) || is_member v set
    by_test true rest = ap (λ (b : Bool). v.number == w.number || b) rest
    by_test false rest = rest

-- the numbers of one package are put in
pub puts : (before after : List ℕ → Option (Vec ℕ)) (v : Version) (kept : Vec ℕ) (name : List ℕ) → name ≡ v.name → ((q : List ℕ) → after q ≡ update bytes_eq before name (Some kept) q)
    → kept.items ≡ numbers_kept (before name) ++ v.number ∷ [] → AddsNumber before v after
puts before after v kept name same updated items q =
    elim (cases_Bool (bytes_eq name q)) [
      | inl here ↦
          let is : name ≡ q = (bytes_eq-Decides name q).0 here in
          let same_name : bytes_eq v.name q ≡ true = ap (λ (n : List ℕ). bytes_eq n q) (sym same) ∙ here in
          ap numbers_kept (updated q) ∙ rw (here, same_name) (items ∙ ap (λ (n : List ℕ). numbers_kept (before n) ++ v.number ∷ []) is)
      | inr apart ↦
          let same_name : bytes_eq v.name q ≡ false = ap (λ (n : List ℕ). bytes_eq n q) (sym same) ∙ apart in
          ap numbers_kept (updated q) ∙ rw (apart, same_name) refl
    ]

pub on_ok : {T E : Type 0} {P Q : Type 0} (r : Result T E) → OnOk r P → (P → Q) → OnOk r Q
on_ok (Ok x) h f = f h
on_ok (Err e) h f = tt

pub adds_all : (before after : Versions) (v : Version) (set : Set) → AddsNumber (λ name. get_by_text before.numbers name) v (λ name. get_by_text after.numbers name) → HoldsAll before set → HoldsAll after (set ++ v ∷ [])
adds_all before after v set adds h name =
    adds name
    ∙ ap (λ (xs : List ℕ). if bytes_eq v.name name then xs ++ v.number ∷ [] else xs) (h name)
    ∙ sym (numbers_more set v name)

eqb_sym : (m n : ℕ) → (m == n) ≡ (n == m)
eqb_sym m n = by_test (m == n) (n == m) refl refl
  where
    by_test : (a b : Bool) → (m == n) ≡ a → (n == m) ≡ b → a ≡ b
    by_test true true e f = refl
    by_test false false e f = refl
    by_test true false e f = sym ((Decides-eqb n m).1 (sym ((Decides-eqb m n).0 e))) ∙ f
    by_test false true e f = sym e ∙ (Decides-eqb m n).1 (sym ((Decides-eqb n m).0 f))

pub flipped : (m : ℕ) (ns : List ℕ) → list_any (λ n. n == m) ns ≡ list_any (λ n. m == n) ns
flipped m ns = any_same (λ n. n == m) (λ n. m == n) (λ n. eqb_sym n m) ns
