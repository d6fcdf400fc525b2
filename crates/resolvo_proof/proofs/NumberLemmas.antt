-- Numbers of the steps that are kept, and the steps by these numbers.
use Rattle.std.proofs.Common.{◌≡◌, ℕ, zero, suc, ◌+◌, ◌-◌, ◌<◌, ◌≤◌, ◌⊎◌, inl, inr, Bool, true, false, List, [], ◌∷◌, ◌++◌, map, length, Some, refl, sym, ◌∙◌, ap, subst, arith}
use Rattle.std.specs.Prelude.{◌↔◌, slice_get, slice_index_or, Contains}
use Rattle.std.specs.List.{AllZip}
use Rattle.std.proofs.lemmas.Bool.{cases_eq}
use Rattle.std.proofs.lemmas.List.{length-append}
use Rattle.std.proofs.lemmas.Option.{slice_get_within}
use Rattle.resolvo_sat.proofs.Lists.{contains_none, contains_one, contains_cases, contains_first, contains_later}
use Rattle.resolvo_state.proofs.Positions.{get_in_prefix, get_last, get_push, get_below}
use Rattle.resolvo_proof.specs.declared.step.ProofStep.{ProofStep}
use Rattle.resolvo_proof.specs.declared.step.ProofStep.TheVariants.{Rule, Derived}
use Rattle.resolvo_proof.specs.Trimmed.{Names, IsNamedLater, IsFlagged, AreLeading, number_of, IsNumbered, Keeps, IsRenumbered, IsTrimmedTo, IsTrimmed, IsTrimmedWith, AreNamed}

-- The flagged ones of the first steps, with their places, and the numbers of all of these.
pub record AreKept {N S : Type 0} (steps : List (ProofStep N S)) (flags : List Bool) (done : ℕ) (numbers : List ℕ) (kept : List (ProofStep N S)) : Type 0 where
  pub from : List ℕ
  pub long : length numbers ≡ done
  pub count : length kept ≡ length from
  pub below : (k place : ℕ) → slice_get from k ≡ Some place → place < done
  pub flagged : (k place : ℕ) → slice_get from k ≡ Some place → IsFlagged flags place
  pub rising : (k l a b : ℕ) → k < l → slice_get from k ≡ Some a → slice_get from l ≡ Some b → a < b
  pub numbered : (place : ℕ) → place < done → IsFlagged flags place → (k : ℕ) × (slice_get numbers place ≡ Some k) × (slice_get from k ≡ Some place)
  pub each : (k place : ℕ) (step : ProofStep N S) → slice_get from k ≡ Some place → slice_get kept k ≡ Some step → (old : ProofStep N S) × (slice_get steps place ≡ Some old) × IsRenumbered from place old step
  pub before : (place number : ℕ) → slice_get numbers place ≡ Some number → (number ≤ length kept) × ((k had : ℕ) → slice_get from k ≡ Some had → (k < number) ↔ (had < place))

pub kept_none : {N S : Type 0} (steps : List (ProofStep N S)) (flags : List Bool) → AreKept steps flags 0 [] []
kept_none steps flags = record {
  from = [];
  long = refl;
  count = refl;
  below = λ k place h. absurd cc;
  flagged = λ k place h. absurd cc;
  rising = λ k l a b less h i. absurd cc;
  numbered = λ place below is. absurd (omega arith);
  each = λ k place step h i. absurd cc;
  before = λ place number h. absurd cc;
}

get_number : (numbers : List ℕ) (place k d : ℕ) → slice_get numbers place ≡ Some k → slice_index_or numbers place d ≡ k
get_number [] place k d h = absurd cc
get_number (n ∷ numbers) zero k d h = cc
get_number (n ∷ numbers) (suc place) k d h = get_number numbers place k d h

pub one_place : {X : Type 0} (xs : List X) (k l : ℕ) (x y : X) → k ≡ l → slice_get xs k ≡ Some x → slice_get xs l ≡ Some y → x ≡ y
one_place xs k l x y e h i = let both : Some x ≡ Some y = sym h ∙ (ap (slice_get xs) e ∙ i) in cc

-- more places change nothing of a step
renumbered_more : {N S : Type 0} (from more : List ℕ) (place : ℕ) (old step : ProofStep N S) → IsRenumbered from place old step → IsRenumbered (from ++ more) place old step
renumbered_more from more place (Rule r) step h = h
renumbered_more from more place (Derived literals causes) step (renumbered, is, zip) = (renumbered, is, go causes.items renumbered.items zip)
  where
    go : (xs ys : List ℕ) → AllZip (λ cause number. cause < place → slice_get from number ≡ Some cause) xs ys → AllZip (λ cause number. cause < place → slice_get (from ++ more) number ≡ Some cause) xs ys
    go [] [] h = h
    go [] (y ∷ ys) h = h
    go (x ∷ xs) [] h = h
    go (x ∷ xs) (y ∷ ys) (first, rest) = (λ small. get_in_prefix from more y x (first small), go xs ys rest)

-- numbers that name the places of earlier causes
numbers_name : (from numbers : List ℕ) (place : ℕ) (causes : List ℕ) → ((cause : ℕ) → Contains causes cause → cause < place → (k : ℕ) × (slice_get numbers cause ≡ Some k) × (slice_get from k ≡ Some cause))
    → AllZip (λ cause number. cause < place → slice_get from number ≡ Some cause) causes (map (number_of numbers) causes)
numbers_name from numbers place [] known = tt
numbers_name from numbers place (c ∷ cs) known = (
  λ small. (let (k, number, at) = known c (contains_first c c cs refl) small in subst (λ n. slice_get from n ≡ Some c) (sym (get_number numbers c k c number)) at),
  numbers_name from numbers place cs (λ cause a small. known cause (contains_later cause c cs a) small),
)

numbered_is : {N S : Type 0} (from numbers : List ℕ) (place : ℕ) (old step : ProofStep N S) → ((cause : ℕ) → Names old cause → cause < place → (k : ℕ) × (slice_get numbers cause ≡ Some k) × (slice_get from k ≡ Some cause)) → IsNumbered numbers old step → IsRenumbered from place old step
numbered_is from numbers place (Rule r) step known h = h
numbered_is from numbers place (Derived literals causes) step known (renumbered, is, items) =
    (renumbered, is, subst (λ (ys : List ℕ). AllZip (λ cause number. cause < place → slice_get from number ≡ Some cause) causes.items ys) (sym items) (numbers_name from numbers place causes.items known))

-- one more place has all that are kept so far before it
numbers_before : {N S : Type 0} (steps : List (ProofStep N S)) (flags : List Bool) (done : ℕ) (numbers : List ℕ) (kept : List (ProofStep N S)) (are : AreKept steps flags done numbers kept) → (place number : ℕ) → slice_get (numbers ++ length kept ∷ []) place ≡ Some number
    → (number ≤ length kept) × ((k had : ℕ) → slice_get are.from k ≡ Some had → (k < number) ↔ (had < place))
numbers_before steps flags done numbers kept are place number h = elim (get_push numbers (length kept) number place h) [
  | inl a ↦ are.before place number a
  | inr (e, f) ↦ (
    omega (arith, f),
    λ k had at. (
      λ less. (let small : had < done = are.below k had at in let l : length numbers ≡ done = are.long in omega (arith, small, l, e)),
      λ less. (let within : k < length are.from = slice_get_within are.from k had at in let c : length kept ≡ length are.from = are.count in omega (arith, within, c, f)),
    ),
  )
]

-- one more step, which is flagged
pub kept_more : {N S : Type 0} {Wanted : ℕ → Type 0} (steps : List (ProofStep N S)) (flags : List Bool) (done : ℕ) (numbers : List ℕ) (kept : List (ProofStep N S)) (old step : ProofStep N S) → AreLeading Wanted steps flags → slice_get steps done ≡ Some old → IsFlagged flags done → IsNumbered numbers old step
    → AreKept steps flags done numbers kept → AreKept steps flags (suc done) (numbers ++ length kept ∷ []) (kept ++ step ∷ [])
kept_more {N} {S} steps flags done numbers kept old step leads at is number are = record {
  from = from;
  long = length-append numbers (length kept ∷ []) ∙ ap (λ n. n + 1) are.long ∙ omega arith;
  count = length-append kept (step ∷ []) ∙ (ap (λ n. n + 1) are.count ∙ sym (length-append are.from (done ∷ [])));
  below = λ k place h. elim (get_push are.from done place k h) [ inl a ↦ (let small : place < done = are.below k place a in omega arith) | inr (e, i) ↦ omega arith ];
  flagged = λ k place h. elim (get_push are.from done place k h) [ inl a ↦ are.flagged k place a | inr (e, i) ↦ subst (IsFlagged flags) (sym i) is ];
  rising = λ k l a b less h i. elim (get_push are.from done b l i) [
    | inl later ↦ elim (get_push are.from done a k h) [
      | inl earlier ↦ are.rising k l a b less earlier later
      | inr (e, f) ↦ absurd (let within : l < length are.from = slice_get_within are.from l b later in omega arith)
    ]
    | inr (e, f) ↦ elim (get_push are.from done a k h) [
      | inl earlier ↦ (let small : a < done = are.below k a earlier in omega arith)
      | inr (g, j) ↦ absurd (omega arith)
    ]
  ];
  numbered = λ place below f. elim (cases_eq place done) [
    | inl e ↦ (
      length kept,
      subst (λ p. slice_get (numbers ++ length kept ∷ []) p ≡ Some (length kept)) (are.long ∙ sym e) (get_last numbers (length kept)),
      subst (λ n. slice_get from n ≡ Some place) (sym are.count) (subst (λ p. slice_get from (length are.from) ≡ Some p) (sym e) (get_last are.from done)),
    )
    | inr other ↦ old_number place (omega (arith, other)) f
  ];
  each = λ k place x h i. elim (get_push are.from done place k h) [
    | inl a ↦ (let (was, there, new) = are.each k place x a (kept_old k x (slice_get_within are.from k place a) i) in (was, there, renumbered_more are.from (done ∷ []) place was x new))
    | inr (e, f) ↦ (
      old,
      subst (λ p. slice_get steps p ≡ Some old) (sym f) at,
      subst (λ p. IsRenumbered from p old x) (sym f) (subst (IsRenumbered from done old) (sym (kept_last k x (e ∙ sym are.count) i)) (numbered_is from numbers done old step known number)),
    )
  ];
  before = λ place n h. (
    most place n h,
    λ k had at_k. elim (get_push are.from done had k at_k) [
      | inl a ↦ (numbers_before steps flags done numbers kept are place n h).1 k had a
      | inr (e, f) ↦ (λ less. absurd (last_not place n k h e less), λ less. absurd (done_not place n had h f less))
    ],
  );
}
  where
    from : List ℕ
    from = are.from ++ done ∷ []

    most : (place n : ℕ) → slice_get (numbers ++ length kept ∷ []) place ≡ Some n → n ≤ length (kept ++ step ∷ [])
    most place n h = (let m = (numbers_before steps flags done numbers kept are place n h).0 in let longer = length-append kept (step ∷ []) in omega (arith, m, longer))

    -- the new step is after each that has a number, and its place is none before it
    last_not : (place n k : ℕ) → slice_get (numbers ++ length kept ∷ []) place ≡ Some n → k ≡ length are.from → k < n → ⊥
    last_not place n k h e less = (let m = (numbers_before steps flags done numbers kept are place n h).0 in let c : length kept ≡ length are.from = are.count in omega (arith, m, c, e, less))

    done_not : (place n had : ℕ) → slice_get (numbers ++ length kept ∷ []) place ≡ Some n → had ≡ done → had < place → ⊥
    done_not place n had h e less =
        let within = slice_get_within (numbers ++ length kept ∷ []) place n h in
        let longer = length-append numbers (length kept ∷ []) in
        let l : length numbers ≡ done = are.long in
        omega (arith, within, longer, l, e, less)

    old_number : (place : ℕ) → place < done → IsFlagged flags place → (k : ℕ) × (slice_get (numbers ++ length kept ∷ []) place ≡ Some k) × (slice_get from k ≡ Some place)
    old_number place below f = let (k, n, a) = are.numbered place below f in (k, get_in_prefix numbers (length kept ∷ []) place k n, get_in_prefix are.from (done ∷ []) k place a)

    kept_old : (k : ℕ) (x : ProofStep N S) → k < length are.from → slice_get (kept ++ step ∷ []) k ≡ Some x → slice_get kept k ≡ Some x
    kept_old k x below h = elim (get_push kept step x k h) [ inl a ↦ a | inr (e, i) ↦ (let c : length kept ≡ length are.from = are.count in absurd (omega arith)) ]

    kept_last : (k : ℕ) (x : ProofStep N S) → k ≡ length kept → slice_get (kept ++ step ∷ []) k ≡ Some x → x ≡ step
    kept_last k x e h = one_place (kept ++ step ∷ []) k (length kept) x step e h (get_last kept step)

    known : (cause : ℕ) → Names old cause → cause < done → (k : ℕ) × (slice_get numbers cause ≡ Some k) × (slice_get from k ≡ Some cause)
    known cause names small =
        let (k, n, a) = are.numbered cause small (leads.closed done cause old (omega arith) is at names small) in
        (k, n, get_in_prefix are.from (done ∷ []) k cause a)

-- one that is not
pub kept_skip : {N S : Type 0} (steps : List (ProofStep N S)) (flags : List Bool) (done : ℕ) (numbers : List ℕ) (kept : List (ProofStep N S)) → (IsFlagged flags done → ⊥) → AreKept steps flags done numbers kept → AreKept steps flags (suc done) (numbers ++ length kept ∷ []) kept
kept_skip steps flags done numbers kept out are = record {
  from = are.from;
  long = length-append numbers (length kept ∷ []) ∙ ap (λ n. n + 1) are.long ∙ omega arith;
  count = are.count;
  below = λ k place h. (let small : place < done = are.below k place h in omega arith);
  flagged = are.flagged;
  rising = are.rising;
  numbered = λ place below f. elim (cases_eq place done) [
    | inl e ↦ absurd (out (subst (IsFlagged flags) e f))
    | inr other ↦ (let (k, n, a) = are.numbered place (omega (arith, other)) f in (k, get_in_prefix numbers (length kept ∷ []) place k n, a))
  ];
  each = are.each;
  before = numbers_before steps flags done numbers kept are;
}

-- the next step, which is kept where it is flagged
pub kept_next : {N S : Type 0} {Wanted : ℕ → Type 0} (steps : List (ProofStep N S)) (flags : List Bool) (done : ℕ) (numbers more : List ℕ) (kept new : List (ProofStep N S)) (leads : Bool) (step : ProofStep N S) → AreLeading Wanted steps flags → slice_get steps done ≡ Some step → slice_get flags done ≡ Some leads
    → Keeps leads numbers step kept new → more ≡ numbers ++ length kept ∷ [] → AreKept steps flags done numbers kept → AreKept steps flags (suc done) more new
kept_next {N} {S} steps flags done numbers more kept new true step leading at flag (numbered, is, pushed) long are =
    subst (λ (xs : List ℕ). AreKept steps flags (suc done) xs new) (sym long) (subst (λ (xs : List (ProofStep N S)). AreKept steps flags (suc done) (numbers ++ length kept ∷ []) xs) (sym pushed) (kept_more steps flags done numbers kept step numbered leading at flag is are))
kept_next {N} {S} steps flags done numbers more kept new false step leading at flag same long are =
    subst (λ (xs : List ℕ). AreKept steps flags (suc done) xs new) (sym long) (subst (λ (xs : List (ProofStep N S)). AreKept steps flags (suc done) (numbers ++ length kept ∷ []) xs) (sym same)
    (kept_skip steps flags done numbers kept (λ h. (let both : Some false ≡ Some true = sym flag ∙ h in absurd cc)) are))

pub order : (k l : ℕ) → (k < l) ⊎ (l ≤ k)
order k zero = inr (omega arith)
order zero (suc l) = inl (omega arith)
order (suc k) (suc l) = elim (order k l) [ inl h ↦ inl (omega arith) | inr h ↦ inr (omega arith) ]

-- rising places are determined by their order
pub falls_back : (from : List ℕ) → ((k l a b : ℕ) → k < l → slice_get from k ≡ Some a → slice_get from l ≡ Some b → a < b) → (k l a b : ℕ) → slice_get from k ≡ Some a → slice_get from l ≡ Some b → a < b → k < l
falls_back from rising k l a b h i less = elim (order k l) [
  | inl small ↦ small
  | inr back ↦ absurd (elim (cases_eq k l) [
    | inl e ↦ (let same : a ≡ b = one_place from k l a b e h i in omega arith)
    | inr other ↦ (let more : b < a = rising l k b a (omega (arith, other)) i h in omega arith)
  ])
]

same_place : (from : List ℕ) → ((k l a b : ℕ) → k < l → slice_get from k ≡ Some a → slice_get from l ≡ Some b → a < b) → (k l a : ℕ) → slice_get from k ≡ Some a → slice_get from l ≡ Some a → k ≡ l
same_place from rising k l a h i = elim (order k l) [
  | inl less ↦ absurd (let no : a < a = rising k l a a less h i in omega arith)
  | inr back ↦ elim (order l k) [
    | inl less ↦ absurd (let no : a < a = rising l k a a less i h in omega arith)
    | inr forth ↦ omega arith
  ]
]

-- a renumbered step names the same causes
renamed : {N S : Type 0} (from : List ℕ) → ((k l a b : ℕ) → k < l → slice_get from k ≡ Some a → slice_get from l ≡ Some b → a < b) → (place cause k : ℕ) (old step : ProofStep N S) → IsRenumbered from place old step → Names old cause → cause < place → slice_get from k ≡ Some cause → Names step k
renamed from rising place cause k (Rule r) step h names small at = absurd names
renamed from rising place cause k (Derived literals causes) step (renumbered, is, zip) names small at = subst (λ (x : ProofStep _ _). Names x k) (sym is) (go causes.items renumbered.items zip names)
  where
    go : (xs ys : List ℕ) → AllZip (λ c n. c < place → slice_get from n ≡ Some c) xs ys → Contains xs cause → Contains ys k
    go [] [] h a = absurd (contains_none cause a)
    go [] (y ∷ ys) h a = absurd h
    go (x ∷ xs) [] h a = absurd h
    go (x ∷ xs) (y ∷ ys) (first, rest) a = elim (contains_cases cause x xs a) [
      | inl e ↦ contains_first k y ys (same_place from rising y k cause (subst (λ c. slice_get from y ≡ Some c) (sym e) (first (omega arith))) at)
      | inr b ↦ contains_later k y ys (go xs ys rest b)
    ]

-- so one of them is named where its old one was
named_later : {N S : Type 0} (steps : List (ProofStep N S)) (flags : List Bool) (done : ℕ) (numbers : List ℕ) (kept : List (ProofStep N S)) → done ≡ length steps → (are : AreKept steps flags done numbers kept) → (k place later : ℕ) (old : ProofStep N S) → slice_get are.from k ≡ Some place
    → place < later → IsFlagged flags later → slice_get steps later ≡ Some old → Names old place → IsNamedLater kept k
named_later steps flags done numbers kept all are k place later old at behind is there names =
    let count : length kept ≡ length are.from = are.count in
    let below : later < length steps = slice_get_within steps later old there in
    let (l, number, present) = are.numbered later (omega (arith, below, all)) is in
    let inside : l < length are.from = slice_get_within are.from l later present in
    let (step, new) = get_below kept l (omega (arith, inside, count)) in
    let (was, had, moved) = are.each l later step present new in (
      l,
      step,
      falls_back are.from are.rising k l place later at present behind,
      new,
      renamed are.from are.rising later place k was step moved (subst (λ (x : ProofStep _ _). Names x place) (one_place steps later later old was refl there had) names) behind at,
    )

-- all steps
kept_all : {N S : Type 0} {Wanted : ℕ → Type 0} (steps : List (ProofStep N S)) (flags : List Bool) (done : ℕ) (numbers : List ℕ) (kept : List (ProofStep N S)) → AreLeading Wanted steps flags → done ≡ length steps → AreKept steps flags done numbers kept → IsTrimmedTo Wanted steps kept
kept_all steps flags done numbers kept leads all are = record {
  from = are.from;
  count = are.count;
  rising = are.rising;
  each = are.each;
  wanted = λ place is within. (let (k, n, a) = are.numbered place (omega (arith, within, all)) (leads.wanted place is within) in (k, a));
  named = λ k place at. elim (leads.named place (are.flagged k place at)) [
    | inl is_wanted ↦ inl is_wanted
    | inr (later, old, behind, is, there, names) ↦ inr (named_later steps flags done numbers kept all are k place later old at behind is there names)
  ];
}

-- and their numbers
pub kept_numbers : {N S : Type 0} {Wanted : ℕ → Type 0} (steps : List (ProofStep N S)) (flags : List Bool) (done : ℕ) (numbers : List ℕ) (kept : List (ProofStep N S)) → AreLeading Wanted steps flags → done ≡ length steps → AreKept steps flags done numbers kept → IsTrimmedWith Wanted steps kept numbers
unfolding kept_all
kept_numbers {N} {S} {Wanted} steps flags done numbers kept leads all are = record {
  trimmed = kept_all steps flags done numbers kept leads all are;
  long = are.long ∙ all;
  before = are.before;
  present = present;
}
  where
    present : (place : ℕ) (old : ProofStep N S) → Wanted place → slice_get steps place ≡ Some old → (k : ℕ) × (step : ProofStep N S) × (slice_get numbers place ≡ Some k) × (slice_get kept k ≡ Some step) × IsRenumbered are.from place old step
    present place old is at =
        let below : place < length steps = slice_get_within steps place old at in
        let (k, number, there) = are.numbered place (omega (arith, below, all)) (leads.wanted place is below) in
        let inside : k < length are.from = slice_get_within are.from k place there in
        let count : length kept ≡ length are.from = are.count in
        let (step, new) = get_below kept k (omega (arith, inside, count)) in
        let (was, had, moved) = are.each k place step there new in
        (k, step, number, new, subst (λ (x : ProofStep N S). IsRenumbered are.from place x step) (one_place steps place place was old refl had at) moved)

-- where the place of the last step alone is wanted, that is the last one
pub last_wanted : {N S : Type 0} (steps kept : List (ProofStep N S)) (last : ℕ) → last ≡ length steps - 1 → IsTrimmedTo (Contains (last ∷ [])) steps kept → IsTrimmed steps kept
last_wanted {N} {S} steps kept last is trimmed = record {
  from = trimmed.from;
  count = trimmed.count;
  rising = trimmed.rising;
  each = trimmed.each;
  wanted = λ place e within. trimmed.wanted place (contains_first place last [] (omega (arith, is, e))) within;
  named = λ k place at. elim (trimmed.named k place at) [ inl w ↦ inl (ends k place at (contains_one place last w)) | inr later ↦ inr later ];
}
  where
    ends : (k place : ℕ) → slice_get trimmed.from k ≡ Some place → place ≡ last → suc place ≡ length steps
    ends k place at e =
        let inside : k < length trimmed.from = slice_get_within trimmed.from k place at in
        let count : length kept ≡ length trimmed.from = trimmed.count in
        let (step, here) = get_below kept k (omega (arith, inside, count)) in
        let (old, there, moved) = trimmed.each k place step at here in
        let within : place < length steps = slice_get_within steps place old there in
        omega (arith, is, e, within)

-- where the last one alone is wanted, each but the last is named
pub all_named : {N S : Type 0} (steps kept : List (ProofStep N S)) → IsTrimmed steps kept → AreNamed kept
all_named steps kept trimmed k early =
    let count : length kept ≡ length trimmed.from = trimmed.count in
    let (place, at) = get_below trimmed.from k (omega (arith, early, count)) in
    let (next, after) = get_below trimmed.from (suc k) (omega (arith, early, count)) in
    let rises : place < next = trimmed.rising k (suc k) place next (omega arith) at after in
    let (step, here) = get_below kept (suc k) early in
    let (old, there, moved) = trimmed.each (suc k) next step after here in
    let within : next < length steps = slice_get_within steps next old there in
    elim (trimmed.named k place at) [ inl last ↦ absurd (let e : suc place ≡ length steps = last in omega (arith, e, rises, within)) | inr later ↦ later ]
