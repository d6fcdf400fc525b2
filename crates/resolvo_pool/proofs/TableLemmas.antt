-- Pairs of keys and values, as one more is put in.
use Rattle.std.proofs.Common.{◌≡◌, ◌++◌, Bool, true, false, List, [], ◌∷◌, refl, subst, cond, ◌∙◌, sym}
use Rattle.std.specs.Prelude.{Option, None, Some}
use Rattle.std.specs.Cmp.{IsEquivalence}
use Rattle.std.specs.Map.{lookup}
use Rattle.std.specs.Option.{is_some, option_or}
use Rattle.std.proofs.lemmas.Bool.{false≢true}
use Rattle.resolvo_pool.specs.Keyed.{PutsKey}

chosen : {V : Type 0} (b : Bool) (w : V) (o before last : Option V) → o ≡ option_or before last → cond b (Some w) o ≡ option_or (cond b (Some w) before) last
chosen true w o before last h = refl
chosen false w o before last h = h

-- a look-up among the entries with one more
lookup_pushed : {K V : Type 0} (p : K → Bool) (es : List (K × V)) (k : K) (v : V) → lookup p (es ++ (k, v) ∷ []) ≡ option_or (lookup p es) (cond (p k) (Some v) None)
lookup_pushed p [] k v = refl
lookup_pushed p (e ∷ es) k v =
    chosen (p e.0) e.1 (lookup p (es ++ (k, v) ∷ [])) (lookup p es) (cond (p k) (Some v) None) (lookup_pushed p es k v)

lookup_same : {K V : Type 0} (p q : K → Bool) (es : List (K × V)) → ((x : K) → p x ≡ q x) → lookup p es ≡ lookup q es
lookup_same p q [] h = refl
lookup_same p q (e ∷ es) h = rw (h e.0, lookup_same p q es h) refl

module _ {K V : Type 0} (eq : K → K → Bool) (laws : IsEquivalence eq) (es : List (K × V)) (k : K) (v : V) (fresh : is_some (lookup (eq k) es) ≡ false) where
  -- a key that has no value
  absent : lookup (eq k) es ≡ None
  absent = none (lookup (eq k) es) fresh
    where
      none : (o : Option V) → is_some o ≡ false → o ≡ None
      none None h = refl
      none (Some x) h = absurd (false≢true (sym h))

  same_absent : (q : K) → eq k q ≡ true → lookup (eq q) es ≡ None
  same_absent q e = lookup_same (eq q) (eq k) es (λ x. sym (laws.congr k q x e)) ∙ absent

  -- the key has the value then, and the others have theirs
  pushed : PutsKey eq es (es ++ (k, v) ∷ []) k v
  pushed q = go (eq k q) refl
    where
      go : (b : Bool) → eq k q ≡ b → lookup (eq q) (es ++ (k, v) ∷ []) ≡ cond b (Some v) (lookup (eq q) es)
      go true e =
          lookup_pushed (eq q) es k v ∙ rw (same_absent q e, laws.symm q k, e) refl
      go false e = lookup_pushed (eq q) es k v ∙ rw (laws.symm q k, e) (right (lookup (eq q) es))
        where
          right : (o : Option V) → option_or o None ≡ o
          right None = refl
          right (Some x) = refl

  -- the same of a list that is the entries with one more
  pub pushed_to : (fs : List (K × V)) → fs ≡ es ++ (k, v) ∷ [] → PutsKey eq es fs k v
  pushed_to fs is = subst (λ (xs : List (K × V)). PutsKey eq es xs k v) (sym is) pushed

  pub found_in : (fs : List (K × V)) → fs ≡ es ++ (k, v) ∷ [] → lookup (eq k) fs ≡ Some v
  found_in fs is = pushed_to fs is k ∙ rw (laws.refl k) refl
