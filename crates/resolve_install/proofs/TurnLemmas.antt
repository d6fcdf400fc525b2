-- The wishes in the turns that serve a request: wishes of the request, in order, each chosen or
-- forbidden.
use Rattle.std.proofs.Common.{◌≡◌, ◌⊎◌, inl, inr, ℕ, zero, suc, ◌+◌, ◌<◌, ◌≤◌, Bool, true, false, if◌then◌else◌, List, [], ◌∷◌, ◌++◌, map, length, take, drop, get_or, Option, Some, None, refl, sym, ap, subst, ◌∙◌, append_assoc, arith}
use Rattle.std.specs.Prelude.{⊤, Contains, slice_get}
use Rattle.std.specs.List.{flat_map}
use Rattle.std.specs.List.Sorted.{IsStrictlyIncreasing}
use Rattle.std.specs.Option.{option_map, option_map_or, option_and_then}
use Rattle.std.proofs.lemmas.Bool.{false≢true}
use Rattle.std.proofs.lemmas.List.{append-nil, map-append, take-append-drop}
use Rattle.std.proofs.lemmas.List.Concat.{flat_map-append}
use Rattle.std.proofs.lemmas.List.Elements.{Contains-append_left}
use Rattle.std.proofs.lemmas.Option.{slice_get-map, slice_get_within}
use Rattle.resolvo_text.specs.Line.{Version, Line, Wish}
use Rattle.resolvo_text.specs.Matches.{Set, is_member}
use Rattle.resolvo_catalogue_core.specs.Grammar.{line_at}
use Rattle.resolvo_catalogue_core.specs.Answers.{ForRequest, ForVersion, Wished, Answer, Entry, LeftOut, entries_of, wish_line_of}
use Rattle.resolvo_catalogue_core.specs.Listed.{listed}
use Rattle.resolvo_catalogue_core.specs.Kept.{nth}
use Rattle.resolvo_catalogue_core.specs.declared.rule.VersionNo.{VersionNo}
use Rattle.resolvo_terms.proofs.Places.{at_from_contains}
use Rattle.resolvo_catalogue_core.proofs.TableSteps.{numbered}
use Rattle.resolve_order.specs.Order as order
use Rattle.resolve_order.specs.Order.{AreInOrder, IsOneTurn, AreTurns, AreReached, wish_entry, chosen_by, chosen_in, wishes_in}
use Rattle.resolve_order.specs.View.{wish_at, turn_of, turns_of, IsWishOf, AreWishesOf, AreTurnsOf}
use Rattle.resolve_order.specs.declared.entry.Turn.{Turn}
use Rattle.resolve_order.specs.declared.entry.Turn.TheVariants as turn
use Rattle.resolve_order.proofs.Elements.{first_element, later_element, mapped_element}
use Rattle.resolve_order.proofs.FinishLemmas.{all_accepted}
use Rattle.resolve_order.proofs.TurnLemmas.{AllAccepted, exact_entries}
use Rattle.resolve_order.proofs.PartLemmas.{IsTurnsLine, left_out_by, accepted_parted}
use Rattle.resolvo_catalogue.proofs.MarkLemmas.{one_some}
use Rattle.resolvo_report.specs.Value.{Step}
use Rattle.resolvo_checker.specs.StepClauses.{Clause, clause_of}
use Rattle.resolvo_checker.specs.Proof.{forbids}
use Rattle.resolvo_checker.proofs.ProofTrue.{proof_forbids}
use Rattle.resolvo_judge.specs.Refusal.{step_forbids}
use Rattle.resolvo_judge.proofs.Accepted.{get_seam}
use Rattle.resolve_install.specs.Install.{wish_of, accepted_of, chosen_before, all_chosen, Serve}
use Rattle.resolve_install.proofs.SameSets.{AreSame, step_forbids_same}

-- ---- places in lists

take_seam : {X : Type 0} (prefix : List X) (x : X) (back : List X) → take (suc (length prefix)) (prefix ++ x ∷ back) ≡ prefix ++ x ∷ []
take_seam [] x back = refl
take_seam (y ∷ prefix) x back = ap (λ xs. y ∷ xs) (take_seam prefix x back)

some_at : {X : Type 0} (xs : List X) (j : ℕ) (x : X) → slice_get (map Some xs) j ≡ Some (Some x) → slice_get xs j ≡ Some x
some_at [] j x e = absurd cc
some_at (y ∷ xs) zero x e = one_some e
some_at (y ∷ xs) (suc j) x e = some_at xs j x e

at_some : {X : Type 0} (xs : List X) (j : ℕ) (x : X) → slice_get xs j ≡ Some x → slice_get (map Some xs) j ≡ Some (Some x)
at_some [] j x e = absurd cc
at_some (y ∷ xs) zero x e = ap Some e
at_some (y ∷ xs) (suc j) x e = at_some xs j x e

-- the origin of a mapped list's element
mapped_at : {X Y : Type 0} (f : X → Y) (xs : List X) (k : ℕ) (y : Y) → slice_get (map f xs) k ≡ Some y → (x : X) × (slice_get xs k ≡ Some x) × (f x ≡ y)
mapped_at f [] k y e = absurd cc
mapped_at f (x ∷ xs) zero y e = (x, refl, one_some e)
mapped_at f (x ∷ xs) (suc k) y e = mapped_at f xs k y e

at_mapped : {X Y : Type 0} (f : X → Y) (xs : List X) (k : ℕ) (x : X) → slice_get xs k ≡ Some x → slice_get (map f xs) k ≡ Some (f x)
at_mapped f xs k x e = slice_get-map f xs k ∙ ap (option_map f) e

map_seam : {X Y : Type 0} (f : X → Y) (xs : List X) (prefix : List Y) (y : Y) (back : List Y) → map f xs ≡ prefix ++ y ∷ back → (x : X) × (slice_get xs (length prefix) ≡ Some x) × (f x ≡ y) × (map f (take (length prefix) xs) ≡ prefix)
map_seam f [] [] y back e = absurd cc
map_seam f [] (z ∷ prefix) y back e = absurd cc
map_seam f (x ∷ xs) [] y back e = let head : f x ≡ y = cc in (x, refl, head, refl)
map_seam f (x ∷ xs) (z ∷ prefix) y back e =
    let head : f x ≡ z = cc in
    let tail : map f xs ≡ prefix ++ y ∷ back = cc in
    let r = map_seam f xs prefix y back tail in
    (r.0, r.1, r.2, (λ i. head i ∷ r.3 i))

-- ---- rising lines

-- the numbers rise, the first one is greater than this one
abbrev pub IsRisingFrom : ℕ → List ℕ → Type 0
IsRisingFrom last [] = ⊤
IsRisingFrom last (n ∷ ns) = (last < n) × IsRisingFrom n ns

rising_tail : (n : ℕ) (ns : List ℕ) → IsStrictlyIncreasing (n ∷ ns) → IsStrictlyIncreasing ns
rising_tail n ns rising j lt = subst (λ (i : ℕ). get_or ns j 0 < get_or (n ∷ ns) i 0) (let e : suc j + 1 ≡ suc (j + 1) = omega arith in e) (rising (suc j) (omega (arith, lt)))

rising_from : (ns : List ℕ) (last : ℕ) → IsStrictlyIncreasing ns → ((n : ℕ) → slice_get ns 0 ≡ Some n → last < n) → IsRisingFrom last ns
rising_from [] last rising first = tt
rising_from (n ∷ []) last rising first = (first n refl, tt)
rising_from (n ∷ m ∷ ns) last rising first = (
  first n refl,
  rising_from (m ∷ ns) n (rising_tail n (m ∷ ns) rising) (λ k e. (let same : m ≡ k = one_some e in subst (λ (x : ℕ). n < x) same (rising 0 (omega arith)))),
)

rising_lower : (low last : ℕ) (ns : List ℕ) → low < last → IsRisingFrom last ns → IsRisingFrom low ns
rising_lower low last [] lt h = tt
rising_lower low last (n ∷ ns) lt h = (let less : last < n = h.0 in omega (arith, lt, less), h.1)

abbrev line_of_wish : Option (ℕ × Version) → List ℕ
line_of_wish None = []
line_of_wish (Some w) = w.0 ∷ []

-- the line of a turn's wish, accepted or left out
abbrev line_of_turn : order.Turn → List ℕ
line_of_turn (order.Chose wish chosen) = line_of_wish wish
line_of_turn (order.LeavesOut wish step) = wish.0 ∷ []

-- a wish is listed by its line, or isn't listed
IsPart : List ℕ → List ℕ → Type 0
IsPart kept mine = (kept ≡ []) ⊎ (kept ≡ mine)

order_lines : (catalogue request : List Line) (chosen entries : Set) (answers : List Answer) → AreInOrder catalogue request chosen entries answers → flat_map wish_line_of answers ≡ []
order_lines catalogue request chosen entries [] h = refl
order_lines catalogue request chosen entries (Entry v (ForRequest n) ∷ answers) h = order_lines catalogue request chosen (entries ++ v ∷ []) answers h.1
order_lines catalogue request chosen entries (Entry v (ForVersion w n) ∷ answers) h = order_lines catalogue request chosen (entries ++ v ∷ []) answers h.1
order_lines catalogue request chosen entries (Entry v (Wished n) ∷ answers) h = absurd h.0.gives.asked
order_lines catalogue request chosen entries (LeftOut v n step ∷ answers) h = absurd h

wish_part : (wish : Option (ℕ × Version)) (entries : Set) → IsPart (flat_map wish_line_of (wish_entry wish entries)) (line_of_wish wish)
unfolding IsPart
wish_part None entries = inl refl
wish_part (Some w) entries = by_test (is_member w.1 entries)
  where
    by_test : (b : Bool) → (flat_map wish_line_of (if b then [] else Entry w.1 (Wished w.0) ∷ []) ≡ []) ⊎ (flat_map wish_line_of (if b then [] else Entry w.1 (Wished w.0) ∷ []) ≡ w.0 ∷ [])
    by_test true = inl refl
    by_test false = inr refl

turn_part : (catalogue request : List Line) (chosen entries : Set) (t : order.Turn) (answers : List Answer) → IsOneTurn catalogue request chosen entries t answers → IsPart (flat_map wish_line_of answers) (line_of_turn t)
unfolding IsPart
turn_part catalogue request chosen entries (order.Chose wish more) answers h =
    let first = wish_entry wish entries in
    let lines : flat_map wish_line_of answers ≡ flat_map wish_line_of first =
    ap (flat_map wish_line_of) h.wish_first ∙ flat_map-append wish_line_of first h.others
    ∙ ap (λ (ns : List ℕ). flat_map wish_line_of first ++ ns) (order_lines catalogue request chosen (entries ++ entries_of first) h.others h.in_order)
    ∙ append-nil (flat_map wish_line_of first) in
    elim (wish_part wish entries) [ inl none ↦ inl (lines ∙ none) | inr one ↦ inr (lines ∙ one) ]
turn_part catalogue request chosen entries (order.LeavesOut wish step) answers h = inr (ap (flat_map wish_line_of) h)

rising_part : (t : order.Turn) (kept rest more : List ℕ) (last : ℕ) → IsPart kept (line_of_turn t) → IsRisingFrom last (line_of_turn t ++ more) → ((low : ℕ) → IsRisingFrom low more → IsRisingFrom low rest) → IsRisingFrom last (kept ++ rest)
unfolding IsPart
rising_part (order.Chose None chosen) kept rest more last part h next = elim part [
  | inl none ↦ subst (λ (ns : List ℕ). IsRisingFrom last (ns ++ rest)) (sym none) (next last h)
  | inr one ↦ subst (λ (ns : List ℕ). IsRisingFrom last (ns ++ rest)) (sym one) (next last h)
]
rising_part (order.Chose (Some w) chosen) kept rest more last part h next = elim part [
  | inl none ↦ subst (λ (ns : List ℕ). IsRisingFrom last (ns ++ rest)) (sym none) (rising_lower last w.0 rest h.0 (next w.0 h.1))
  | inr one ↦ subst (λ (ns : List ℕ). IsRisingFrom last (ns ++ rest)) (sym one) (h.0, next w.0 h.1)
]
rising_part (order.LeavesOut w step) kept rest more last part h next = elim part [
  | inl none ↦ subst (λ (ns : List ℕ). IsRisingFrom last (ns ++ rest)) (sym none) (rising_lower last w.0 rest h.0 (next w.0 h.1))
  | inr one ↦ subst (λ (ns : List ℕ). IsRisingFrom last (ns ++ rest)) (sym one) (h.0, next w.0 h.1)
]

-- The lines that the answers name rise where those of the turns' wishes do.
turns_rise : (catalogue request : List Line) (chosen entries : Set) (turns : List order.Turn) (answers : List Answer) (last : ℕ) → AreTurns catalogue request chosen entries turns answers → IsRisingFrom last (flat_map line_of_turn turns) → IsRisingFrom last (flat_map wish_line_of answers)
turns_rise catalogue request chosen entries [] answers last h rising = subst (λ (xs : List Answer). IsRisingFrom last (flat_map wish_line_of xs)) (sym h) tt
turns_rise catalogue request chosen entries (t ∷ turns) answers last h rising =
    let C = chosen ++ chosen_by t in
    subst (λ (ns : List ℕ). IsRisingFrom last ns) (sym (ap (flat_map wish_line_of) h.2 ∙ flat_map-append wish_line_of h.0 h.1))
    (rising_part t (flat_map wish_line_of h.0) (flat_map wish_line_of h.1) (flat_map line_of_turn turns) last (turn_part catalogue request C entries t h.0 h.3) rising
    (λ low. turns_rise catalogue request C (entries ++ entries_of h.0) turns h.1 low h.4))

abbrev wish_line : Option (ℕ × VersionNo) → List ℕ
wish_line None = []
wish_line (Some w) = w.0 ∷ []

turn_line : (versions : List Version) (t : Turn) → line_of_turn (turn_of versions t) ≡ wish_line (wish_of t)
turn_line versions (turn.Chose None chosen) = refl
turn_line versions (turn.Chose (Some w) chosen) = refl
turn_line versions (turn.LeftOut w step) = refl

turn_lines : (versions : List Version) (turns : List Turn) → flat_map line_of_turn (turns_of versions turns) ≡ flat_map wish_line (map wish_of turns)
turn_lines versions [] = refl
turn_lines versions (t ∷ turns) = λ i. turn_line versions t i ++ turn_lines versions turns i

wish_lines : (wishes : List (ℕ × VersionNo)) → flat_map wish_line (map Some wishes) ≡ map (λ f. f.0) wishes
wish_lines [] = refl
wish_lines (w ∷ wishes) = ap (λ (ns : List ℕ). w.0 ∷ ns) (wish_lines wishes)

-- ---- a wish that is left out is listed

left_out_in : (catalogue request : List Line) (chosen entries : Set) (turns : List order.Turn) (answers : List Answer) (k : ℕ) (w : ℕ × Version) (step : ℕ) → AreTurns catalogue request chosen entries turns answers → slice_get turns k ≡ Some (order.LeavesOut w step) → Contains answers (LeftOut w.1 w.0 step)
left_out_in catalogue request chosen entries [] answers k w step h at = absurd cc
left_out_in catalogue request chosen entries (t ∷ turns) answers zero w step h at =
    let is : h.0 ≡ LeftOut w.1 w.0 step ∷ [] = subst (λ (x : order.Turn). IsOneTurn catalogue request (chosen ++ chosen_by t) entries x h.0) (one_some at) h.3 in
    subst (λ (xs : List Answer). Contains xs (LeftOut w.1 w.0 step)) (sym (h.2 ∙ ap (λ (xs : List Answer). xs ++ h.1) is)) (first_element (LeftOut w.1 w.0 step) h.1)
left_out_in catalogue request chosen entries (t ∷ turns) answers (suc k) w step h at =
    subst (λ (xs : List Answer). Contains xs (LeftOut w.1 w.0 step)) (sym h.2)
    (behind h.0 h.1 (left_out_in catalogue request (chosen ++ chosen_by t) (entries ++ entries_of h.0) turns h.1 k w step h.4 at))
  where
    behind : (one two : List Answer) → Contains two (LeftOut w.1 w.0 step) → Contains (one ++ two) (LeftOut w.1 w.0 step)
    behind [] two c = c
    behind (a ∷ one) two c = later_element a (one ++ two) (LeftOut w.1 w.0 step) (behind one two c)

-- ---- the step of a wish

-- the step that forbids a version
pub record IsStepThat (catalogue request : List Line) (steps : List Step) (entries : Set) (v : Version) (step : ℕ) : Type 0 where
  pub k : ℕ
  pub number : step ≡ suc k
  pub found : Step
  pub clause : Clause
  pub there : slice_get steps k ≡ Some found
  pub spelled : clause_of catalogue request found ≡ Some clause
  pub denied : forbids entries v clause ≡ true

step_that : (catalogue request : List Line) (steps : List Step) (entries : Set) (v : Version) (step : ℕ) → step_forbids catalogue request steps entries v step ≡ true → IsStepThat catalogue request steps entries v step
step_that catalogue request steps entries v zero h = absurd (false≢true h)
step_that catalogue request steps entries v (suc k) h = one (slice_get steps k) refl h
  where
    two : (s : Step) (o : Option Clause) → slice_get steps k ≡ Some s → clause_of catalogue request s ≡ o → option_map_or (forbids entries v) o false ≡ true → IsStepThat catalogue request steps entries v (suc k)
    two s None at is b = absurd (false≢true b)
    two s (Some clause) at is b = record { k = k; number = refl; found = s; clause = clause; there = at; spelled = is; denied = b }

    one : (o : Option Step) → slice_get steps k ≡ o → option_map_or (forbids entries v) (option_and_then (clause_of catalogue request) o) false ≡ true → IsStepThat catalogue request steps entries v (suc k)
    one None at b = absurd (false≢true b)
    one (Some s) at b = two s (clause_of catalogue request s) at refl b

-- ---- turns that serve

leaves : (versions : List Version) (t : Turn) (n : ℕ) (v : Version) (step : ℕ) → turn_of versions t ≡ order.LeavesOut (n, v) step → (wish : ℕ × VersionNo) × (t ≡ turn.LeftOut wish step) × (wish.0 ≡ n) × (nth versions wish.1 ≡ v)
leaves versions (turn.Chose wish chosen) n v step e = absurd cc
leaves versions (turn.LeftOut wish s) n v step e =
    let steps : s ≡ step = cc in
    let pair : wish_at versions wish ≡ (n, v) = cc in
    (wish, ap (turn.LeftOut wish) steps, ap (λ (x : ℕ × Version). x.0) pair, ap (λ (x : ℕ × Version). x.1) pair)

module _ (catalogue request : List Line) (turns : List Turn) (steps : List Step) (serve : Serve catalogue request turns steps) where
  -- a turn's wish is one of the request
  wish_in : (k : ℕ) (t : Turn) (wish : ℕ × VersionNo) → slice_get turns k ≡ Some t → wish_of t ≡ Some wish → (j : ℕ) × (k ≡ suc j) × (slice_get serve.wishes j ≡ Some wish)
  wish_in k t wish at is = in_list k (sym (ap (λ xs. slice_get xs k) serve.in_turn) ∙ at_mapped wish_of turns k t at ∙ ap Some is)
    where
      in_list : (m : ℕ) → slice_get (None ∷ map Some serve.wishes) m ≡ Some (Some wish) → (j : ℕ) × (m ≡ suc j) × (slice_get serve.wishes j ≡ Some wish)
      in_list zero e = absurd cc
      in_list (suc j) e = (j, refl, some_at serve.wishes j wish e)

  before_within : (k : ℕ) (v : Version) → Contains (chosen_before catalogue turns k) v → Contains (all_chosen catalogue turns) v
  before_within k v c = subst (λ (set : Set). Contains set v) (sym all) (Contains-append_left (chosen_in (turns_of (listed catalogue) (take k turns))) (chosen_in (turns_of (listed catalogue) (drop k turns))) v c)
    where
      all : chosen_in (turns_of (listed catalogue) turns) ≡ chosen_in (turns_of (listed catalogue) (take k turns)) ++ chosen_in (turns_of (listed catalogue) (drop k turns))
      all =
          ap (λ (ts : List Turn). chosen_in (turns_of (listed catalogue) ts)) (sym (take-append-drop k turns)) ∙ ap chosen_in (map-append (turn_of (listed catalogue)) (take k turns) (drop k turns))
          ∙ flat_map-append chosen_by (turns_of (listed catalogue) (take k turns)) (turns_of (listed catalogue) (drop k turns))

  -- one more turn
  chosen_more : (prefix : List Turn) (t : Turn) → chosen_in (turns_of (listed catalogue) (prefix ++ t ∷ [])) ≡ chosen_in (turns_of (listed catalogue) prefix) ++ chosen_by (turn_of (listed catalogue) t)
  chosen_more prefix t =
      ap chosen_in (map-append (turn_of (listed catalogue)) prefix (t ∷ [])) ∙ flat_map-append chosen_by (turns_of (listed catalogue) prefix) (turn_of (listed catalogue) t ∷ [])
      ∙ ap (λ (set : Set). chosen_in (turns_of (listed catalogue) prefix) ++ set) (append-nil (chosen_by (turn_of (listed catalogue) t)))

  wish_here : (prefix : List Turn) (t : Turn) (back : List Turn) → turns ≡ prefix ++ t ∷ back → IsWishOf (listed catalogue) request (chosen_in (turns_of (listed catalogue) prefix) ++ chosen_by (turn_of (listed catalogue) t)) t
  wish_here prefix t back is = go t refl
    where
      at : slice_get turns (length prefix) ≡ Some t
      at = ap (λ ts. slice_get ts (length prefix)) is ∙ get_seam prefix t back

      upto : chosen_before catalogue turns (suc (length prefix)) ≡ chosen_in (turns_of (listed catalogue) prefix) ++ chosen_by (turn_of (listed catalogue) t)
      upto = ap (λ (ts : List Turn). chosen_in (turns_of (listed catalogue) ts)) (ap (take (suc (length prefix))) is ∙ take_seam prefix t back) ∙ chosen_more prefix t

      go : (u : Turn) → t ≡ u → IsWishOf (listed catalogue) request (chosen_in (turns_of (listed catalogue) prefix) ++ chosen_by (turn_of (listed catalogue) t)) u
      go (turn.Chose None chosen) e = tt
      go (turn.Chose (Some w) chosen) e =
          let j = wish_in (length prefix) t w at (ap wish_of e) in
          (serve.are_wishes.versions j.0 w j.2, subst (λ (set : Set). Contains set (nth (listed catalogue) w.1)) upto (serve.accepted (length prefix) t w at (ap accepted_of e)))
      go (turn.LeftOut w step) e = let j = wish_in (length prefix) t w at (ap wish_of e) in serve.are_wishes.versions j.0 w j.2

  wishes_here : (prefix back : List Turn) → turns ≡ prefix ++ back → AreWishesOf (listed catalogue) request (chosen_in (turns_of (listed catalogue) prefix)) back
  wishes_here prefix [] is = tt
  wishes_here prefix (t ∷ back) is = (
    wish_here prefix t back is,
    subst (λ (set : Set). AreWishesOf (listed catalogue) request set back) (chosen_more prefix t) (wishes_here (prefix ++ t ∷ []) back (is ∙ sym (append_assoc prefix (t ∷ []) back))),
  )

  pub are_turns : AreTurnsOf catalogue request turns
  are_turns = record { single = serve.keeping.single; wishes = wishes_here [] turns refl }

  pub all_reached : AreReached catalogue request (all_chosen catalogue turns) (wishes_in (turns_of (listed catalogue) turns))
  all_reached = go turns refl
    where
      go : (ts : List Turn) → turns ≡ ts → AreReached catalogue request (all_chosen catalogue turns) (wishes_in (turns_of (listed catalogue) turns))
      go [] is = absurd (none (sym (ap (map wish_of) is) ∙ serve.in_turn))
        where
          none : [] ≡ None ∷ map Some serve.wishes → ⊥
          none e = cc
      go (t ∷ ts) is =
          let whole : take (suc (length ts)) turns ≡ turns = ap (take (suc (length ts))) is ∙ all_taken ts t ∙ sym is in
          subst (λ (us : List Turn). AreReached catalogue request (chosen_in (turns_of (listed catalogue) us)) (wishes_in (turns_of (listed catalogue) us))) whole (serve.reached (length ts) (below ts t is))
        where
          all_taken : (us : List Turn) (u : Turn) → take (suc (length us)) (u ∷ us) ≡ u ∷ us
          all_taken [] u = refl
          all_taken (x ∷ us) u = ap (λ (ys : List Turn). u ∷ ys) (all_taken us x)

          below : (us : List Turn) (u : Turn) → turns ≡ u ∷ us → length us < length turns
          below us u e = let n : length turns ≡ suc (length us) = ap length e in omega (arith, n)

  module _ (answers : List Answer) (kept : AreTurns catalogue request [] [] (turns_of (listed catalogue) turns) answers) where
    pub lines_rise : IsRisingFrom 0 (flat_map wish_line_of answers)
    lines_rise = turns_rise catalogue request [] [] (turns_of (listed catalogue) turns) answers 0 kept
        (subst (IsRisingFrom 0) (sym (turn_lines (listed catalogue) turns ∙ ap (flat_map wish_line) serve.in_turn ∙ wish_lines serve.wishes)) (rising_from (map (λ f. f.0) serve.wishes) 0 serve.are_wishes.lines.rising first))
      where
        from_one : (n : ℕ) (l : Line) → line_at request n ≡ Some l → 0 < n
        from_one zero l e = absurd cc
        from_one (suc n) l e = omega arith

        first : (n : ℕ) → slice_get (map (λ (f : ℕ × VersionNo). f.0) serve.wishes) 0 ≡ Some n → 0 < n
        first n e =
            let w = mapped_at (λ (f : ℕ × VersionNo). f.0) serve.wishes 0 n e in
            let spelled = serve.are_wishes.versions 0 w.0 w.1 in
            subst (λ (m : ℕ). 0 < m) w.2 (from_one w.0.0 (Wish spelled.0) spelled.2)

    all_accepted_in : AllAccepted request [] (turns_of (listed catalogue) turns)
    all_accepted_in = all_accepted (listed catalogue) request [] turns are_turns.wishes

    -- The entries are the chosen versions.
    pub entries_exact : AreSame (all_chosen catalogue turns) (entries_of answers)
    entries_exact = exact_entries catalogue request (turns_of (listed catalogue) turns) answers kept all_accepted_in all_reached

    -- A line of a wish that is left out. It is a wish of the request, its step forbids it with the
    -- entries above, and it isn't chosen.
    pub record IsRightlyLeftOut (above : List Answer) (v : Version) (n step : ℕ) : Type 0 where
      pub wished : line_at request n ≡ Some (Wish v)
      pub known : (k : ℕ) × (slice_get (listed catalogue) k ≡ Some v)
      pub forbidden : step_forbids catalogue request steps (entries_of above) v step ≡ true
      pub unchosen : Contains (all_chosen catalogue turns) v → ⊥
      pub from_one : 1 ≤ step
      pub number : step ≤ length steps

    pub rightly_left_out : (above below : List Answer) (v : Version) (n step : ℕ) → answers ≡ above ++ LeftOut v n step ∷ below → IsRightlyLeftOut above v n step
    rightly_left_out above below v n step is = record {
      wished = subst (λ (m : ℕ). line_at request m ≡ Some (Wish v)) left.2 (subst (λ (x : Version). line_at request wish.0 ≡ Some (Wish x)) same spelled.2);
      known = (wish.1.0, subst (λ (x : Version). slice_get (listed catalogue) wish.1.0 ≡ Some x) same spelled.1);
      forbidden = sym (step_forbids_same (chosen_before catalogue turns k) (entries_of above) exact catalogue request steps v step) ∙ denied;
      unchosen = λ c. proof_forbids catalogue request steps serve.proof (chosen_before catalogue turns k) v by.k by.found by.clause by.there by.spelled by.denied (all_chosen catalogue turns) serve.keeping c (before_within k);
      from_one = let s : step ≡ suc by.k = by.number in omega (arith, s);
      number = let s : step ≡ suc by.k = by.number in let lt : by.k < length steps = slice_get_within steps by.k by.found by.there in omega (arith, s, lt);
    }
      where
        line : IsTurnsLine catalogue request [] [] (turns_of (listed catalogue) turns) above v n step
        line = left_out_by catalogue request [] [] (turns_of (listed catalogue) turns) answers above below v n step kept is

        k : ℕ
        k = length line.prefix

        seam : (x : Turn) × (slice_get turns k ≡ Some x) × (turn_of (listed catalogue) x ≡ order.LeavesOut (n, v) step) × (turns_of (listed catalogue) (take k turns) ≡ line.prefix)
        seam = map_seam (turn_of (listed catalogue)) turns line.prefix (order.LeavesOut (n, v) step) line.back line.turn

        left : (wish : ℕ × VersionNo) × (seam.0 ≡ turn.LeftOut wish step) × (wish.0 ≡ n) × (nth (listed catalogue) wish.1 ≡ v)
        left = leaves (listed catalogue) seam.0 n v step seam.2

        wish : ℕ × VersionNo
        wish = left.0

        at : slice_get turns k ≡ Some (turn.LeftOut wish step)
        at = seam.1 ∙ ap Some left.1

        place : (j : ℕ) × (k ≡ suc j) × (slice_get serve.wishes j ≡ Some wish)
        place = wish_in k (turn.LeftOut wish step) wish at refl

        spelled : (x : Version) × (slice_get (listed catalogue) wish.1.0 ≡ Some x) × (line_at request wish.0 ≡ Some (Wish x))
        spelled = serve.are_wishes.versions place.0 wish place.2

        same : spelled.0 ≡ v
        same = sym (numbered (listed catalogue) wish.1 spelled.0 spelled.1) ∙ left.3

        denied : step_forbids catalogue request steps (chosen_before catalogue turns k) v step ≡ true
        denied = subst (λ (x : Version). step_forbids catalogue request steps (chosen_before catalogue turns k) x step ≡ true) left.3 (serve.forbidden k wish step at)

        by : IsStepThat catalogue request steps (chosen_before catalogue turns k) v step
        by = step_that catalogue request steps (chosen_before catalogue turns k) v step denied

        reached : AreReached catalogue request (chosen_before catalogue turns k) (wishes_in (turns_of (listed catalogue) (take k turns)))
        reached =
            let less : k < length turns = slice_get_within turns k (turn.LeftOut wish step) at in
            let is_k : k ≡ suc place.0 = place.1 in
            subst (λ (m : ℕ). AreReached catalogue request (chosen_before catalogue turns m) (wishes_in (turns_of (listed catalogue) (take m turns)))) (sym place.1) (serve.reached place.0 (omega (arith, less, is_k)))

        exact : AreSame (chosen_before catalogue turns k) (entries_of above)
        exact = exact_entries catalogue request (turns_of (listed catalogue) (take k turns)) above (subst (λ (ts : List order.Turn). AreTurns catalogue request [] [] ts above) (sym seam.3) line.before)
            (accepted_parted request [] (turns_of (listed catalogue) (take k turns)) (order.LeavesOut (n, v) step ∷ line.back)
            (subst (AllAccepted request []) (line.turn ∙ ap (λ (ts : List order.Turn). ts ++ order.LeavesOut (n, v) step ∷ line.back) (sym seam.3)) all_accepted_in)) reached

    -- Each wish is chosen or listed as left out.
    pub accounted : (n : ℕ) (v : Version) → line_at request n ≡ Some (Wish v) → Contains (all_chosen catalogue turns) v ⊎ ((step : ℕ) × Contains answers (LeftOut v n step))
    accounted n v e = go t.0 refl
      where
        w : (x : ℕ × VersionNo) × Contains serve.wishes x × (x.0 ≡ n)
        w = mapped_element (λ (f : ℕ × VersionNo). f.0) serve.wishes n ((serve.are_wishes.lines.all n).1 (Wish v, e, tt))

        place : (j : ℕ) × (slice_get serve.wishes j ≡ Some w.0)
        place = at_from_contains serve.wishes w.0 w.1

        t : (x : Turn) × (slice_get turns (suc place.0) ≡ Some x) × (wish_of x ≡ Some w.0)
        t = mapped_at wish_of turns (suc place.0) (Some w.0) (ap (λ xs. slice_get xs (suc place.0)) serve.in_turn ∙ at_some serve.wishes place.0 w.0 place.1)

        spelled : (x : Version) × (slice_get (listed catalogue) w.0.1.0 ≡ Some x) × (line_at request w.0.0 ≡ Some (Wish x))
        spelled = serve.are_wishes.versions place.0 w.0 place.1

        same : nth (listed catalogue) w.0.1 ≡ v
        same = numbered (listed catalogue) w.0.1 spelled.0 spelled.1 ∙ wished (one_some (sym spelled.2 ∙ ap (line_at request) w.2 ∙ e))
          where
            wished : Wish spelled.0 ≡ Wish v → spelled.0 ≡ v
            wished h = cc

        go : (u : Turn) → t.0 ≡ u → Contains (all_chosen catalogue turns) v ⊎ ((step : ℕ) × Contains answers (LeftOut v n step))
        go (turn.Chose wish chosen) is =
            let accepts : accepted_of t.0 ≡ Some w.0 = ap accepted_of is ∙ sym (ap wish_of is) ∙ t.2 in
            inl (subst (Contains (all_chosen catalogue turns)) same (before_within (suc (suc place.0)) (nth (listed catalogue) w.0.1) (serve.accepted (suc place.0) t.0 w.0 t.1 accepts)))
        go (turn.LeftOut wish step) is =
            let is_wish : wish ≡ w.0 = one_some (sym (ap wish_of is) ∙ t.2) in
            let at : slice_get (turns_of (listed catalogue) turns) (suc place.0) ≡ Some (order.LeavesOut (wish_at (listed catalogue) wish) step) = at_mapped (turn_of (listed catalogue)) turns (suc place.0) t.0 t.1 ∙ ap (λ (x : Turn). Some (turn_of (listed catalogue) x)) is in
            let c : Contains answers (LeftOut (nth (listed catalogue) wish.1) wish.0 step) = left_out_in catalogue request [] [] (turns_of (listed catalogue) turns) answers (suc place.0) (wish_at (listed catalogue) wish) step kept at in
            let version : nth (listed catalogue) wish.1 ≡ v = ap (λ (x : ℕ × VersionNo). nth (listed catalogue) x.1) is_wish ∙ same in
            let number : wish.0 ≡ n = ap (λ (x : ℕ × VersionNo). x.0) is_wish ∙ w.2 in
            inr (step, subst (λ (m : ℕ). Contains answers (LeftOut v m step)) number (subst (λ (x : Version). Contains answers (LeftOut x wish.0 step)) version c))
