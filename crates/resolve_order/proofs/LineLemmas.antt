-- The lines that ask for versions, in their order.
use Rattle.std.proofs.Common.{◌≡◌, ◌⊎◌, inl, inr, ℕ, zero, suc, ◌<◌, ◌≤◌, List, [], ◌∷◌, ◌++◌, map, length, Option, Some, refl, sym, ap, subst, ◌∙◌, append_assoc, arith}
use Rattle.std.specs.Prelude.{Contains, slice_get}
use Rattle.std.specs.List.{AllPairs}
use Rattle.std.proofs.lemmas.List.Elements.{Contains-append_left, Contains-append_right, Contains-append_cases, Contains-push, Contains-push_cases}
use Rattle.std.proofs.lemmas.List.Kept.{AllPairs-from_increasing}
use Rattle.std.proofs.lemmas.Option.{slice_get_within, get_or_from_slice_get}
use Rattle.resolvo_text.specs.Line.{Version, Spec, Cond, Line, Needs}
use Rattle.resolvo_text.specs.Matches.{Set}
use Rattle.resolvo_catalogue_core.specs.Answers as answers
use Rattle.resolvo_catalogue_core.specs.Grammar.{owner_of}
use Rattle.resolvo_catalogue_core.specs.Listed.{listed}
use Rattle.resolvo_catalogue_core.specs.Questions.{AreAll, IsVersionLine, BelongsTo}
use Rattle.resolvo_catalogue_core.specs.declared.rule.VersionNo.{VersionNo}
use Rattle.resolvo_catalogue_core.proofs.TableLemmas.{belongs_owner}
use Rattle.resolvo_catalogue_core.proofs.TableSteps.{numbered}
use Rattle.resolve_order.specs.Order.{line_named, IsAsked, IsEarlier, Precedes}
use Rattle.resolve_order.specs.View.{reason_of}
use Rattle.resolve_order.specs.Kept.{AreOrdered, AreLines, lines_to, lines_for}
use Rattle.resolve_order.specs.declared.entry.Reason.{Reason}
use Rattle.resolve_order.specs.declared.entry.Reason.TheVariants as reason
use Rattle.resolve_order.proofs.Elements.{no_element, first_element, later_element, mapped_element, map_element}

-- ---- ordered lists

pub ordered_append : {X : Type 0} (R : X → X → Type 0) (xs ys : List X) → AreOrdered R xs → AreOrdered R ys → ((x y : X) → Contains xs x → Contains ys y → R x y) → AreOrdered R (xs ++ ys)
ordered_append R [] ys a b f = b
ordered_append R (x ∷ xs) ys a b f = (
  λ y c. elim (Contains-append_cases xs ys y c) [ inl l ↦ a.0 y l | inr r ↦ f x y (first_element x xs) r ],
  ordered_append R xs ys a.1 b (λ u v cu cv. f u v (later_element x xs u cu) cv),
)

pub ordered_weaker : {X : Type 0} (R S : X → X → Type 0) (xs : List X) → ((x y : X) → R x y → S x y) → AreOrdered R xs → AreOrdered S xs
ordered_weaker R S [] w h = tt
ordered_weaker R S (x ∷ xs) w h = (λ y c. w x y (h.0 y c), ordered_weaker R S xs w h.1)

-- two elements by their places
pub ordered_at : {X : Type 0} (R : X → X → Type 0) (xs : List X) (i j : ℕ) (a b : X) → AreOrdered R xs → i < j → slice_get xs i ≡ Some a → slice_get xs j ≡ Some b → R a b
ordered_at R [] i j a b h less at_i at_j = absurd cc
ordered_at R (x ∷ xs) i zero a b h less at_i at_j = absurd (omega (arith, less))
ordered_at R (x ∷ xs) zero (suc j) a b h less at_i at_j =
    let is : x ≡ a = cc in
    subst (λ (y : _). R y b) is (h.0 b (j, slice_get_within xs j b at_j, get_or_from_slice_get xs j b b at_j))
ordered_at R (x ∷ xs) (suc i) (suc j) a b h less at_i at_j = ordered_at R xs i j a b h.1 (omega (arith, less)) at_i at_j

ordered_map : {X Y : Type 0} (R : Y → Y → Type 0) (f : X → Y) (xs : List X) → AreOrdered (λ a b. R (f a) (f b)) xs → AreOrdered R (map f xs)
ordered_map R f [] h = tt
ordered_map R f (x ∷ xs) h = (λ y c. let m = mapped_element f xs y c in subst (R (f x)) m.2 (h.0 m.0 m.1), ordered_map R f xs h.1)

ordered_pairs : {X : Type 0} (R : X → X → Type 0) (xs : List X) → AllPairs R xs → AreOrdered R xs
ordered_pairs R [] h = tt
ordered_pairs R (x ∷ xs) h = (
  λ y c. subst (R x) c.2 (h 0 (suc c.0) y (omega arith) (omega (arith, c.1))),
  ordered_pairs R xs (λ i j d less within. h (suc i) (suc j) d (omega (arith, less)) (omega (arith, within))),
)

-- ---- lines of a request

line_to : (n : ℕ) (r : Reason) → Contains (lines_to n) r → (k : ℕ) × (r ≡ reason.ForRequest k) × (k ≤ n)
line_to zero r c = absurd (no_element r c)
line_to (suc n) r c = elim (Contains-push_cases (lines_to n) (reason.ForRequest (suc n)) r c) [
  | inl old ↦ let m = line_to n r old in (m.0, m.1, omega (arith, m.2))
  | inr new ↦ (suc n, sym new, omega arith)
]

to_line : (n k : ℕ) → k < n → Contains (lines_to n) (reason.ForRequest (suc k))
to_line zero k lt = absurd (omega (arith, lt))
to_line (suc n) k lt = of (below_or n k lt) (λ less. to_line n k less)
  where
    below_or : (n k : ℕ) → k < suc n → (k < n) ⊎ (k ≡ n)
    below_or zero zero lt = inr refl
    below_or zero (suc k) lt = absurd (omega (arith, lt))
    below_or (suc n) zero lt = inl (omega arith)
    below_or (suc n) (suc k) lt = elim (below_or n k (omega (arith, lt))) [ inl less ↦ inl (omega (arith, less)) | inr same ↦ inr (ap (λ (m : ℕ). suc m) same) ]

    of : (k < n) ⊎ (k ≡ n) → (k < n → Contains (lines_to n) (reason.ForRequest (suc k))) → Contains (lines_to (suc n)) (reason.ForRequest (suc k))
    of (inl less) rest = Contains-append_left (lines_to n) (reason.ForRequest (suc n) ∷ []) (reason.ForRequest (suc k)) (rest less)
    of (inr same) rest = subst (λ (m : ℕ). Contains (lines_to (suc n)) (reason.ForRequest (suc m))) (sym same) (Contains-push (lines_to n) (reason.ForRequest (suc n)))

ordered_to : (versions : List Version) (entries : Set) (n : ℕ) → AreOrdered (λ a b. Precedes entries (reason_of versions a) (reason_of versions b)) (lines_to n)
ordered_to versions entries zero = tt
ordered_to versions entries (suc n) = ordered_append (λ a b. Precedes entries (reason_of versions a) (reason_of versions b)) (lines_to n) (reason.ForRequest (suc n) ∷ []) (ordered_to versions entries n)
    (λ y c. absurd (no_element y c), tt) (λ x y cx cy. before x y (line_to n x cx) (Contains-push_cases [] (reason.ForRequest (suc n)) y cy))
  where
    before : (x y : Reason) → (k : ℕ) × (x ≡ reason.ForRequest k) × (k ≤ n) → Contains [] y ⊎ (reason.ForRequest (suc n) ≡ y) → Precedes entries (reason_of versions x) (reason_of versions y)
    before x y m (inl none) = absurd (no_element y none)
    before x y m (inr is) = let le = m.2 in let less : m.0 < suc n = omega (arith, le) in
        subst (λ (z : Reason). Precedes entries (reason_of versions x) (reason_of versions z)) is
        (subst (λ (z : Reason). Precedes entries (reason_of versions z) (answers.ForRequest (suc n))) (sym m.1) less)

pub first_lines : (catalogue request : List Line) → AreLines catalogue request [] (lines_to (length request))
first_lines catalogue request = record {
  asked = λ r c. let m = line_to (length request) r c in subst (λ (x : Reason). IsAsked catalogue [] (reason_of (listed catalogue) x)) (sym m.1) tt;
  each = each;
  ordered = ordered_to (listed catalogue) [] (length request);
}
  where
    each : (reason : answers.Reason) (ss : List Spec) (c : Option Cond) → IsAsked catalogue [] reason → line_named catalogue request reason ≡ Some (Needs ss c)
        → (r : Reason) × Contains (lines_to (length request)) r × (reason_of (listed catalogue) r ≡ reason)
    each (answers.ForRequest zero) ss c asked at = absurd cc
    each (answers.ForRequest (suc k)) ss c asked at = (reason.ForRequest (suc k), to_line (length request) k (slice_get_within request k (Needs ss c) at), refl)
    each (answers.ForVersion w n) ss c asked at = absurd (no_element w asked.0)
    each (answers.Wished n) ss c asked at = absurd asked

-- ---- lines of one more entry

pub asked_more : (catalogue : List Line) (entries : Set) (v : Version) (reason : answers.Reason) → IsAsked catalogue entries reason → IsAsked catalogue (entries ++ v ∷ []) reason
asked_more catalogue entries v (answers.ForRequest n) asked = tt
asked_more catalogue entries v (answers.ForVersion w n) asked = (Contains-append_left entries (v ∷ []) w asked.0, asked.1)
asked_more catalogue entries v (answers.Wished n) asked = absurd asked

earlier_more : (entries : Set) (x u w : Version) → IsEarlier entries u w → IsEarlier (entries ++ x ∷ []) u w
earlier_more entries x u w e = (e.0, e.1 ++ x ∷ [], ap (λ (set : Set). set ++ x ∷ []) e.2 ∙ append_assoc e.0 e.1 (x ∷ []), e.3, Contains-append_left e.1 (x ∷ []) w e.4)

precedes_more : (entries : Set) (v : Version) (a b : answers.Reason) → Precedes entries a b → Precedes (entries ++ v ∷ []) a b
precedes_more entries v (answers.ForRequest m) (answers.ForRequest n) p = p
precedes_more entries v (answers.ForRequest m) (answers.ForVersion w n) p = tt
precedes_more entries v (answers.ForVersion u m) (answers.ForVersion w n) (inl e) = inl (earlier_more entries v u w e)
precedes_more entries v (answers.ForVersion u m) (answers.ForVersion w n) (inr e) = inr e
precedes_more entries v (answers.ForVersion u m) (answers.ForRequest n) p = absurd p
precedes_more entries v (answers.Wished m) b p = absurd p
precedes_more entries v (answers.ForRequest m) (answers.Wished n) p = absurd p
precedes_more entries v (answers.ForVersion u m) (answers.Wished n) p = absurd p

precedes_new : (catalogue : List Line) (entries : Set) (v : Version) (k : ℕ) (reason : answers.Reason) → IsAsked catalogue entries reason → Precedes (entries ++ v ∷ []) reason (answers.ForVersion v k)
precedes_new catalogue entries v k (answers.ForRequest n) asked = tt
precedes_new catalogue entries v k (answers.ForVersion u m) asked = inl (entries, v ∷ [], refl, asked.0, first_element v [])
precedes_new catalogue entries v k (answers.Wished n) asked = absurd asked

-- the line is in the catalogue, and is the version's
line_for : (catalogue : List Line) (n : VersionNo) (v : Version) (numbers : List ℕ) (r : Reason) → slice_get (listed catalogue) n.0 ≡ Some v → AreAll numbers (IsVersionLine (listed catalogue) catalogue n.0 BelongsTo)
    → Contains (lines_for n numbers) r → (k : ℕ) × (reason_of (listed catalogue) r ≡ answers.ForVersion v k) × (owner_of catalogue k ≡ Some v)
line_for catalogue n v numbers r at all c =
    let m = mapped_element (λ (k : ℕ). reason.ForVersion n k) numbers r c in
    let owned_by = (all.all m.0).0 m.1 in
    let same : owned_by.0 ≡ v = (let e : slice_get (listed catalogue) n.0 ≡ Some owned_by.0 = owned_by.1 in cc) in (
      m.0,
      ap (λ (x : Reason). reason_of (listed catalogue) x) (sym m.2) ∙ ap (λ (w : Version). answers.ForVersion w m.0) (numbered (listed catalogue) n v at),
      subst (λ (w : Version). owner_of catalogue m.0 ≡ Some w) same (belongs_owner owned_by.0 catalogue m.0 owned_by.2),
    )

pub more_lines : (catalogue request : List Line) (entries : Set) (lines : List Reason) (n : VersionNo) (v : Version) (numbers : List ℕ) → slice_get (listed catalogue) n.0 ≡ Some v
    → AreAll numbers (IsVersionLine (listed catalogue) catalogue n.0 BelongsTo) → AreLines catalogue request entries lines → AreLines catalogue request (entries ++ v ∷ []) (lines ++ lines_for n numbers)
more_lines catalogue request entries lines n v numbers at all old = record {
  asked = λ r c. elim (Contains-append_cases lines (lines_for n numbers) r c) [
    | inl l ↦ asked_more catalogue entries v (reason_of (listed catalogue) r) (old.asked r l)
    | inr l ↦ let f = line_for catalogue n v numbers r at all l in subst (IsAsked catalogue (entries ++ v ∷ [])) (sym f.1) (Contains-push entries v, f.2)
  ];
  each = each;
  ordered = ordered_append R lines (lines_for n numbers)
      (ordered_weaker (λ a b. Precedes entries (reason_of (listed catalogue) a) (reason_of (listed catalogue) b)) R lines (λ a b p. precedes_more entries v (reason_of (listed catalogue) a) (reason_of (listed catalogue) b) p) old.ordered)
      (ordered_map R (λ (k : ℕ). reason.ForVersion n k) numbers (ordered_weaker (λ (a b : ℕ). a < b) (λ (a b : ℕ). R (reason.ForVersion n a) (reason.ForVersion n b)) numbers (λ a b less. inr (refl, less)) (ordered_pairs (λ (a b : ℕ). a < b) numbers (AllPairs-from_increasing numbers all.rising))))
      (λ x y cx cy. let f = line_for catalogue n v numbers y at all cy in subst (Precedes (entries ++ v ∷ []) (reason_of (listed catalogue) x)) (sym f.1) (precedes_new catalogue entries v f.0 (reason_of (listed catalogue) x) (old.asked x cx)));
}
  where
    R : Reason → Reason → Type 0
    R a b = Precedes (entries ++ v ∷ []) (reason_of (listed catalogue) a) (reason_of (listed catalogue) b)

    kept : (reason : answers.Reason) → (r : Reason) × Contains lines r × (reason_of (listed catalogue) r ≡ reason) → (r : Reason) × Contains (lines ++ lines_for n numbers) r × (reason_of (listed catalogue) r ≡ reason)
    kept reason m = (m.0, Contains-append_left lines (lines_for n numbers) m.0 m.1, m.2)

    each : (reason : answers.Reason) (ss : List Spec) (c : Option Cond) → IsAsked catalogue (entries ++ v ∷ []) reason → line_named catalogue request reason ≡ Some (Needs ss c)
        → (r : Reason) × Contains (lines ++ lines_for n numbers) r × (reason_of (listed catalogue) r ≡ reason)
    each (answers.ForRequest k) ss c asked is = kept (answers.ForRequest k) (old.each (answers.ForRequest k) ss c tt is)
    each (answers.ForVersion w k) ss c asked is = elim (Contains-push_cases entries v w asked.0) [
      | inl before ↦ kept (answers.ForVersion w k) (old.each (answers.ForVersion w k) ss c (before, asked.1) is)
      | inr same ↦
          let has = (all.all k).1 (v, at, (Needs ss c, is, asked.1 ∙ ap Some (sym same))) in (
            reason.ForVersion n k,
            Contains-append_right lines (lines_for n numbers) (reason.ForVersion n k) (map_element (λ (j : ℕ). reason.ForVersion n j) numbers k has),
            ap (λ (x : Version). answers.ForVersion x k) (numbered (listed catalogue) n v at ∙ same),
          )
    ]
    each (answers.Wished k) ss c asked is = absurd asked
