-- Built clauses and the clauses that they are.
use Rattle.std.proofs.Common.{◌≡◌, ℕ, ◌+◌, ◌<◌, Bool, true, false, cond, OnOk, List, [], ◌∷◌, ◌++◌, length, take, get_or, Option, Some, None, refl, sym, ap, subst, ◌∙◌}
use Rattle.std.specs.Prelude.{slice_get, Result, Ok, Err}
use Rattle.std.specs.Global.{Vec}
use Rattle.std.specs.List.{flat_map}
use Rattle.std.specs.Option.{option_map}
use Rattle.std.proofs.lemmas.List.{append_assoc, append-nil, map-append, take_more}
use Rattle.std.proofs.lemmas.List.Concat.{flat_map-append}
use Rattle.resolvo_text.specs.Line.{Version, Spec, Line}
use Rattle.resolvo_text.specs.View.{specs_of, spec_of}
use Rattle.resolvo_text.specs.declared.spec.Spec as code
use Rattle.resolvo_pool_core.specs.OnePass as pass
use Rattle.resolvo_catalogue_core.specs.Sets.{is_many}
use Rattle.resolvo_report.specs.Value.{Atom, Chosen, AnyOf, MatchesOf}
use Rattle.resolvo_checker.specs.declared.literal.Literal.{Literal}
use Rattle.resolvo_checker.specs.declared.atom.Built.{Built}
use Rattle.resolvo_checker.specs.StepClauses.{Clause, membership, literal, each_listed, is_outside, spec_fails}
use Rattle.resolvo_checker.specs.Built.{member_of, literals_in, literal_of, somes}
use Rattle.resolvo_checker.specs.Keys.{IsKey, Extends}
use Rattle.resolvo_checker.proofs.NameLemmas.{extends_none, extends_then}

-- a clause of one literal
pub one_some : (clause : Clause) (o : Option (pass.Literal Atom)) → somes clause ≡ o ∷ [] → (l : pass.Literal Atom) × (o ≡ Some l) × (clause ≡ l ∷ [])
one_some [] o h = absurd cc
one_some (l ∷ []) o h = let e : o ≡ Some l = cc in (l, e, refl)
one_some (l ∷ m ∷ ms) o h = absurd cc

-- a clause that ends in one more literal
split : (clause : Clause) (os : List (Option (pass.Literal Atom))) (o : Option (pass.Literal Atom)) → somes clause ≡ os ++ o ∷ [] → (first : Clause) × (last : Clause) × (clause ≡ first ++ last) × (somes first ≡ os) × (somes last ≡ o ∷ [])
split clause [] o h = ([], clause, refl, refl, h)
split [] (p ∷ os) o h = absurd cc
split (l ∷ ls) (p ∷ os) o h =
    let e : Some l ≡ p = cc in
    let t : somes ls ≡ os ++ o ∷ [] = cc in
    let r = split ls os o t in
    (l ∷ r.0, r.1, ap (λ (c : Clause). l ∷ c) r.2, ap (λ (x : Option (pass.Literal Atom)). x ∷ somes r.0) e ∙ ap (λ xs. p ∷ xs) r.3, r.4)

pub version_named : (vs : List Version) (old : List (Vec ℕ × ℕ)) (before : List Literal) (new : List (Vec ℕ × ℕ)) (after : List Literal) (n : ℕ) (p : Bool)
    → ((a : Atom) → IsKey vs a (0 ∷ n ∷ []) → Extends vs old before new after (literal a p ∷ []))
    → (clause : Clause) → somes clause ≡ member_of vs p n ∷ [] → Extends vs old before new after clause
version_named vs old before new after n p extends clause e = one (slice_get vs n) refl e where
  one : (o : Option Version) → slice_get vs n ≡ o → somes clause ≡ option_map (λ v. membership v p) o ∷ [] → Extends vs old before new after clause
  one None at h = let s = one_some clause None h in absurd (let k : None ≡ Some s.0 = s.1 in cc)
  one (Some v) at h =
      let s = one_some clause (Some (membership v p)) h in
      let m : membership v p ≡ s.0 = let k : Some (membership v p) ≡ Some s.0 = s.1 in cc in
      subst (Extends vs old before new after) (ap (λ (l : pass.Literal Atom). let c : Clause = l ∷ [] in c) m ∙ sym s.2) (extends (Chosen v) (n, at, refl))

-- one more built literal is numbered
pub number_more : (vs : List Version) (old : List (Vec ℕ × ℕ)) (middle : List (Vec ℕ × ℕ)) (before : List Literal) (new : List (Vec ℕ × ℕ)) (after : List Literal) (built : List Built) (i : ℕ) (d : Built) → i < length built
    → ((clause : Clause) → somes clause ≡ literals_in vs (take i built) → Extends vs old [] middle before clause)
    → ((clause : Clause) → somes clause ≡ literal_of vs (get_or built i d).atom (get_or built i d).positive ∷ [] → Extends vs middle before new after clause)
    → (clause : Clause) → somes clause ≡ literals_in vs (take (i + 1) built) → Extends vs old [] new after clause
number_more vs old middle before new after built i d l first next clause e =
    let more : literals_in vs (take (i + 1) built) ≡ literals_in vs (take i built) ++ literal_of vs (get_or built i d).atom (get_or built i d).positive ∷ [] =
    ap (literals_in vs) (take_more built i d l) ∙ map-append (λ b. literal_of vs b.atom b.positive) (take i built) (get_or built i d ∷ []) in
    let s = split clause (literals_in vs (take i built)) (literal_of vs (get_or built i d).atom (get_or built i d).positive) (e ∙ more) in
    subst (Extends vs old [] new after) (sym s.2) (extends_then vs old [] middle before new after s.0 s.1 (first s.0 s.3) (next s.1 s.4))

-- ---- one more SPEC

-- the literals of one more SPEC
pub somes_more : (f : Spec → Clause) (specs : List code.Spec) (i : ℕ) (d : code.Spec) → i < length specs
    → somes (flat_map f (specs_of (take (i + 1) specs))) ≡ somes (flat_map f (specs_of (take i specs))) ++ somes (f (spec_of (get_or specs i d)))
somes_more f specs i d h =
    ap (λ xs. somes (flat_map f (specs_of xs))) (take_more specs i d h)
    ∙ (ap (λ xs. somes (flat_map f xs)) (map-append spec_of (take i specs) (get_or specs i d ∷ []))
    ∙ (ap somes (flat_map-append f (specs_of (take i specs)) (spec_of (get_or specs i d) ∷ []) ∙ ap (λ ys. flat_map f (specs_of (take i specs)) ++ ys) (append-nil (f (spec_of (get_or specs i d)))))
    ∙ map-append Some (flat_map f (specs_of (take i specs))) (f (spec_of (get_or specs i d)))))

-- no literal is numbered yet
pub number_none : (vs : List Version) (old : List (Vec ℕ × ℕ)) (before : List Literal) → (clause : Clause) → somes clause ≡ [] → Extends vs old before old before clause
number_none vs old before [] e = extends_none vs old before
number_none vs old before (l ∷ ls) e = absurd cc

pub one_more : (old here new : List (Option (pass.Literal Atom))) (f : Spec → Clause) (specs : List code.Spec) (i : ℕ) (item : code.Spec) → i < length specs → item ≡ get_or specs i item
    → here ≡ old ++ somes (flat_map f (specs_of (take i specs))) → new ≡ here ++ somes (f (spec_of item)) → new ≡ old ++ somes (flat_map f (specs_of (take (i + 1) specs)))
one_more old here new f specs i item h is before e =
    e ∙ (ap (λ xs. xs ++ somes (f (spec_of item))) before
    ∙ (append_assoc old (somes (flat_map f (specs_of (take i specs)))) (somes (f (spec_of item)))
    ∙ ap (λ xs. old ++ xs) (ap (λ s. somes (flat_map f (specs_of (take i specs))) ++ somes (f (spec_of s))) is ∙ sym (somes_more f specs i item h))))

-- a clause of one literal that is there
pub one_literal : (clause : Clause) (l : pass.Literal Atom) → somes clause ≡ Some l ∷ [] → l ∷ [] ≡ clause
one_literal clause l e =
    let s = one_some clause (Some l) e in
    let k : l ≡ s.0 = let m : Some l ≡ Some s.0 = s.1 in cc in
    ap (λ (x : pass.Literal Atom). let c : Clause = x ∷ [] in c) k ∙ sym s.2

-- ---- a SPEC that isn't met

pub marked_fails : (catalogue : List Line) (s : Spec) → is_many catalogue s.name ≡ true → literal (MatchesOf s) false ∷ [] ≡ spec_fails catalogue s
marked_fails catalogue s e = sym (ap (λ b. cond b (literal (MatchesOf s) false ∷ []) (literal (AnyOf s.name) false ∷ each_listed catalogue (is_outside s))) e)

pub unmarked_fails : (catalogue : List Line) (s : Spec) → is_many catalogue s.name ≡ false → literal (AnyOf s.name) false ∷ each_listed catalogue (is_outside s) ≡ spec_fails catalogue s
unmarked_fails catalogue s e = sym (ap (λ b. cond b (literal (MatchesOf s) false ∷ []) (literal (AnyOf s.name) false ∷ each_listed catalogue (is_outside s))) e)

pub on_ok : {X E P Q : Type 0} (r : Result X E) → (P → Q) → OnOk r P → OnOk r Q
on_ok (Ok x) f h = f h
on_ok (Err e) f h = tt
