-- One pass is the same over clauses with the same literals, in any order and number.
use Rattle.std.proofs.Common.{◌≡◌, inl, inr, Bool, true, false, List, [], ◌∷◌, Option, Some, cond, refl, sym, ap, ◌∙◌}
use Rattle.std.specs.Prelude.{not, Contains, ◌||◌}
use Rattle.std.specs.List.{AllZip, list_any}
use Rattle.std.proofs.lemmas.Bool.{cases_Bool, both_ways}
use Rattle.resolvo_pool_core.specs.OnePass.{Literal, negate, assign, deny, nothing, is_broken, reading, learn, refutes, one_pass}
use Rattle.resolvo_sat.specs.RuleClauses.{IsExact}
use Rattle.resolvo_sat.proofs.Lists.{contains_none, contains_cases, contains_first, contains_later, any_contained, none_contained}
use Rattle.resolvo_proof.specs.Members.{SameMembers, HaveOneSign}
use Rattle.resolvo_proof.proofs.PassSets.{Spelt, Agree, read_alike}

module _ {A : Type 0} (same : A → A → Bool) (exact : IsExact same) where
  -- an atom is its own name, and no literal is left out
  abbrev Is : A → A → Type 0
  Is a b = a ≡ b

  abbrev NoLiteral : Literal A → Type 0
  NoLiteral l = ⊥

  abbrev Alike : (A → Option Bool) → (A → Option Bool) → Type 0
  Alike known also = Agree same exact.one exact.own same exact.one exact.own Is (λ a b i e f. e ∙ sym f) (λ a i j e f. sym e ∙ f) NoLiteral known also

  abbrev Spelled : List (Literal A) → List (Literal A) → Type 0
  Spelled = Spelt same exact.one exact.own same exact.one exact.own Is (λ a b i e f. e ∙ sym f) (λ a i j e f. sym e ∙ f) NoLiteral

  spelled : (c d : List (Literal A)) → SameMembers c d → Spelled c d
  spelled c d alike = record {
    only = λ l h. inr (l, alike.only l h, (refl, refl));
    each = λ l h. (l, alike.each l h, (refl, refl));
  }

  refutes_alike : (cs ds : List (List (Literal A))) → AllZip SameMembers cs ds → (known also : A → Option Bool) → Alike known also → refutes same known cs ≡ refutes same also ds
  refutes_alike [] [] z known also agree = refl
  refutes_alike [] (d ∷ ds) z known also agree = absurd z
  refutes_alike (c ∷ cs) [] z known also agree = absurd z
  refutes_alike (c ∷ cs) (d ∷ ds) (first, rest) known also agree =
      let read = read_alike same exact.one exact.own same exact.one exact.own Is (λ a b i e f. e ∙ sym f) (λ a i j e f. sym e ∙ f) NoLiteral known also agree c d (spelled c d first) in
      ap (λ b. b || refutes same (learn same known (reading same known c)) cs) read.0
      ∙ ap (λ b. is_broken (reading same also d) || b) (refutes_alike cs ds rest (learn same known (reading same known c)) (learn same also (reading same also d)) read.1)

  -- denying literals of other atoms leaves the value of an atom
  untouched : (known : A → Option Bool) (a : A) (ls : List (Literal A)) → ((l : Literal A) → Contains ls l → same a l.atom ≡ false) → deny same known ls a ≡ known a
  untouched known a [] other = refl
  untouched known a (l ∷ ls) other =
      untouched (assign same known (negate l)) a ls (λ m h. other m (contains_later m l ls h))
      ∙ ap (λ b. cond b (Some (not l.positive)) (known a)) (other l (contains_first l l ls refl))

  -- denying a clause makes each of its literals false
  deny_value : (known : A → Option Bool) (c : List (Literal A)) → HaveOneSign c → (l : Literal A) → Contains c l → deny same known c l.atom ≡ Some (not l.positive)
  deny_value known [] signs l h = absurd (contains_none l h)
  deny_value known (x ∷ xs) signs l h = elim (cases_Bool (list_any (λ (y : Literal A). same l.atom y.atom) xs)) [
    | inl t ↦
        let (y, a, e) = any_contained (λ (z : Literal A). same l.atom z.atom) xs t in
        let at : l.atom ≡ y.atom = exact.one l.atom y.atom e in
        let sign : y.positive ≡ l.positive = signs y l (contains_later y x xs a) h (sym at) in
        ap (deny same (assign same known (negate x)) xs) at ∙ (deny_value (assign same known (negate x)) xs (λ u v b c. signs u v (contains_later u x xs b) (contains_later v x xs c)) y a ∙ ap (λ b. Some (not b)) sign)
    | inr f ↦
        untouched (assign same known (negate x)) l.atom xs (λ m b. none_contained (λ (z : Literal A). same l.atom z.atom) m xs b f)
        ∙ elim (contains_cases l x xs h) [
          | inl e ↦ ap (λ b. cond b (Some (not x.positive)) (known l.atom)) (ap (λ (z : Literal A). same l.atom z.atom) (sym e) ∙ exact.own l.atom) ∙ ap (λ (z : Literal A). Some (not z.positive)) (sym e)
          | inr b ↦ absurd (both_ways (same l.atom l.atom) (none_contained (λ (z : Literal A). same l.atom z.atom) l xs b f) (exact.own l.atom))
        ]
  ]

  -- denying two clauses with the same literals gives the same
  deny_alike : (c d : List (Literal A)) → SameMembers c d → HaveOneSign c → Alike (deny same nothing c) (deny same nothing d)
  deny_alike c d alike signs = record { at = λ a b e. ap (deny same nothing d) (sym e) ∙ go a (list_any (λ (y : Literal A). same a y.atom) c) refl; gone = λ l h. absurd h }
    where
      signs_too : HaveOneSign d
      signs_too l m a b e = signs l m (alike.each l a) (alike.each m b) e

      go : (a : A) (b : Bool) → list_any (λ (y : Literal A). same a y.atom) c ≡ b → deny same nothing d a ≡ deny same nothing c a
      go a true t =
          let (l, h, e) = any_contained (λ (y : Literal A). same a y.atom) c t in
          let at : a ≡ l.atom = exact.one a l.atom e in
          ap (deny same nothing d) at ∙ (deny_value nothing d signs_too l (alike.only l h) ∙ (sym (deny_value nothing c signs l h) ∙ ap (deny same nothing c) (sym at)))
      go a false f =
          untouched nothing a d (λ m h. none_contained (λ (y : Literal A). same a y.atom) m c (alike.each m h) f)
          ∙ sym (untouched nothing a c (λ m h. none_contained (λ (y : Literal A). same a y.atom) m c h f))

  -- The pass over clauses with the same literals gives the same, where no atom is denied and
  -- affirmed in the derived one.
  pub one_pass_members : (c d : List (Literal A)) (cs ds : List (List (Literal A))) → SameMembers c d → HaveOneSign c → AllZip SameMembers cs ds → one_pass same c cs ≡ one_pass same d ds
  one_pass_members c d cs ds alike signs all = refutes_alike cs ds all (deny same nothing c) (deny same nothing d) (deny_alike c d alike signs)
