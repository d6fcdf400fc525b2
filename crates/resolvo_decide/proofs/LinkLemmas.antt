-- Linked clauses: after another link, and as they are walked.
use Rattle.std.proofs.Common.{◌≡◌, ℕ, zero, suc, ◌+◌, ◌<◌, ◌⊎◌, inl, inr, List, [], ◌∷◌, ◌++◌, length, get_or, Some, None, refl, sym, ◌∙◌, ap, subst, arith}
use Rattle.std.specs.Prelude.{slice_get, slice_set, slice_index_or}
use Rattle.resolvo_decide.specs.declared.clauses_by_parent.Link.{Link}
use Rattle.resolvo_decide.specs.Links.{link_at, IsLinkedWithin, IsLinked}

module _ (ls : List Link) (x : Link) where
  kept_link : (xs : List Link) (k : ℕ) (l : Link) → slice_get xs k ≡ Some l → slice_get (xs ++ x ∷ []) k ≡ Some l
  kept_link [] k l h = cc
  kept_link (y ∷ xs) zero l h = h
  kept_link (y ∷ xs) (suc k) l h = kept_link xs k l h

  last_link : (xs : List Link) → slice_get (xs ++ x ∷ []) (length xs) ≡ Some x
  last_link [] = refl
  last_link (y ∷ xs) = last_link xs

  kept_at : (link : ℕ) (l : Link) → link_at ls link ≡ Some l → link_at (ls ++ x ∷ []) link ≡ Some l
  kept_at zero l h = cc
  kept_at (suc k) l h = kept_link ls k l h

  linked_within : (steps link i : ℕ) → IsLinkedWithin steps ls link i → IsLinkedWithin steps (ls ++ x ∷ []) link i
  unfolding IsLinkedWithin
  linked_within zero link i h = absurd h
  linked_within (suc steps) link i (l, at, inl here) = (l, kept_at link l at, inl here)
  linked_within (suc steps) link i (l, at, inr behind) = (l, kept_at link l at, inr (linked_within steps l.previous i behind))

  -- what was linked is so still
  pub linked_more : (link i : ℕ) → IsLinked ls link i → IsLinked (ls ++ x ∷ []) link i
  linked_more link i (steps, h) = (steps, linked_within steps link i h)

  -- also from the new link
  pub linked_behind : (i : ℕ) → IsLinked ls x.previous i → IsLinked (ls ++ x ∷ []) (suc (length ls)) i
  unfolding IsLinkedWithin
  linked_behind i (steps, h) = (suc steps, (x, last_link ls, inr (linked_within steps x.previous i h)))

  -- the new clause is linked
  pub linked_here : IsLinked (ls ++ x ∷ []) (suc (length ls)) x.position
  unfolding IsLinkedWithin
  linked_here = (1, (x, last_link ls, inl refl))

-- none is linked where there is no link
pub linked_none : (ls : List Link) (link i : ℕ) → link_at ls link ≡ None → IsLinked ls link i → ⊥
unfolding IsLinkedWithin
linked_none ls link i none (zero, h) = h
linked_none ls link i none (suc steps, (l, at, h)) = (let no : None ≡ Some l = sym none ∙ at in absurd cc)

-- one of the link, or of those behind it
pub linked_step : (ls : List Link) (link i : ℕ) (l : Link) → link_at ls link ≡ Some l → IsLinked ls link i → (i ≡ l.position) ⊎ IsLinked ls l.previous i
unfolding IsLinkedWithin
linked_step ls link i l at (zero, h) = absurd h
linked_step ls link i l at (suc steps, (m, is, h)) = (let same : m ≡ l = cc in elim h [
  | inl here ↦ inl (sym here ∙ ap (λ (n : Link). n.position) same)
  | inr behind ↦ inr (subst (λ (n : Link). IsLinked ls n.previous i) same (steps, behind))
])

-- the last links, where that of one parent is another
pub last_set : (xs : List ℕ) (p link v : ℕ) → p < length xs → (slice_index_or (slice_set xs p link) v 0 ≡ slice_index_or xs v 0) ⊎ (v ≡ p)
last_set [] p link v h = absurd (omega arith)
last_set (x ∷ xs) zero link zero h = inr refl
last_set (x ∷ xs) zero link (suc v) h = inl refl
last_set (x ∷ xs) (suc p) link zero h = inl refl
last_set (x ∷ xs) (suc p) link (suc v) h = elim (last_set xs p link v (omega arith)) [ inl same ↦ inl same | inr is ↦ inr (ap suc is) ]

pub last_put : (xs : List ℕ) (p link : ℕ) → p < length xs → slice_index_or (slice_set xs p link) p 0 ≡ link
last_put [] p link h = absurd (omega arith)
last_put (x ∷ xs) zero link h = refl
last_put (x ∷ xs) (suc p) link h = last_put xs p link (omega arith)

last_read : (xs : List ℕ) (p x : ℕ) → p < length xs → x ≡ get_or xs p x → x ≡ slice_index_or xs p 0
last_read [] p x h e = absurd (omega arith)
last_read (y ∷ xs) zero x h e = e
last_read (y ∷ xs) (suc p) x h e = last_read xs p x (omega arith) e

-- after a clause was added to those of a parent
module _ (ls new : List Link) (last : List ℕ) (p link : ℕ) (x : Link) (room : p < length last) (pushed : new ≡ ls ++ x ∷ []) (number : link ≡ length ls + 1) where
  pub added_here : (i : ℕ) → x.position ≡ i → IsLinked new (slice_index_or (slice_set last p link) p 0) i
  added_here i is = (let here : slice_index_or (slice_set last p link) p 0 ≡ suc (length ls) = last_put last p link room ∙ number ∙ omega arith in
      subst (λ (n : ℕ). IsLinked new n i) (sym here) (subst (λ (xs : List Link). IsLinked xs (suc (length ls)) i) (sym pushed) (subst (IsLinked (ls ++ x ∷ []) (suc (length ls))) is (linked_here ls x))))

  pub added_kept : x.previous ≡ get_or last p x.previous → (v i : ℕ) → IsLinked ls (slice_index_or last v 0) i → IsLinked new (slice_index_or (slice_set last p link) v 0) i
  added_kept read v i h = subst (λ (xs : List Link). IsLinked xs (slice_index_or (slice_set last p link) v 0) i) (sym pushed) (elim (last_set last p link v room) [
    | inl same ↦ subst (λ (n : ℕ). IsLinked (ls ++ x ∷ []) n i) (sym same) (linked_more ls x (slice_index_or last v 0) i h)
    | inr is ↦ (let here : slice_index_or (slice_set last p link) v 0 ≡ suc (length ls) = ap (λ n. slice_index_or (slice_set last p link) n 0) is ∙ last_put last p link room ∙ number ∙ omega arith in
        let before : slice_index_or last v 0 ≡ x.previous = ap (λ n. slice_index_or last n 0) is ∙ sym (last_read last p x.previous room read) in
        subst (λ (n : ℕ). IsLinked (ls ++ x ∷ []) n i) (sym here) (linked_behind ls x i (subst (λ (n : ℕ). IsLinked ls n i) before h)))
  ])
