-- The answers of one turn after the other.
use Rattle.std.proofs.Common.{◌≡◌, ◌↔◌, inl, inr, ℕ, Bool, true, false, if◌then◌else◌, List, [], ◌∷◌, ◌++◌, Option, Some, None, refl, sym, ap, subst, ◌∙◌, append_assoc}
use Rattle.std.specs.Prelude.{Contains, ⊤}
use Rattle.std.proofs.lemmas.Bool.{cases_Bool}
use Rattle.std.proofs.lemmas.Grind.{flat_map-append}
use Rattle.std.proofs.lemmas.List.{append-nil}
use Rattle.std.proofs.lemmas.List.Elements.{Contains-append_left, Contains-append_right, Contains-append_cases}
use Rattle.resolvo_text.specs.Line.{Version, Line, Wish}
use Rattle.resolvo_text.specs.Matches.{Set, is_member}
use Rattle.resolvo_catalogue_core.specs.Answers.{Reason, ForRequest, ForVersion, Wished, Answer, Entry, LeftOut, entry_of, entries_of, IsReason, IsReasoned, IsNeededBy}
use Rattle.resolvo_catalogue_core.specs.Grammar.{line_at}
use Rattle.resolve_order.specs.Order.{line_named, IsAsked, MayGive, IsNext, AreInOrder, IsComplete, Turn, Chose, LeavesOut, chosen_by, chosen_in, wish_entry, IsOneTurn, AreTurns, accepted_by, wished_by, wishes_in, IsClosed, AreReached}
use Rattle.resolve_order.proofs.Elements.{no_element, first_element, element_cases, from_member, none_from_member}

-- the entries, part by part
pub entries_append : (one two : List Answer) → entries_of (one ++ two) ≡ entries_of one ++ entries_of two
entries_append one two = flat_map-append entry_of one two

pub after_both : (set : Set) (one two : List Answer) → set ++ entries_of (one ++ two) ≡ (set ++ entries_of one) ++ entries_of two
after_both set one two = ap (λ (xs : Set). set ++ xs) (entries_append one two) ∙ sym (append_assoc set (entries_of one) (entries_of two))

after_entry : (set : Set) (v : Version) (reason : Reason) (answers : List Answer) → set ++ entries_of (Entry v reason ∷ answers) ≡ (set ++ v ∷ []) ++ entries_of answers
after_entry set v reason answers = after_both set (Entry v reason ∷ []) answers

-- ---- one more

pub in_order_more : (catalogue request : List Line) (chosen entries : Set) (answers : List Answer) (reason : Reason) (v : Version) → AreInOrder catalogue request chosen entries answers
    → IsNext catalogue request chosen (entries ++ entries_of answers) reason v → AreInOrder catalogue request chosen entries (answers ++ Entry v reason ∷ [])
in_order_more catalogue request chosen entries [] reason v h next = (subst (λ (set : Set). IsNext catalogue request chosen set reason v) (append-nil entries) next, tt)
in_order_more catalogue request chosen entries (Entry w other ∷ answers) reason v h next =
    (h.0, in_order_more catalogue request chosen (entries ++ w ∷ []) answers reason v h.1 (subst (λ (set : Set). IsNext catalogue request chosen set reason v) (after_entry entries w other answers) next))
in_order_more catalogue request chosen entries (LeftOut w n step ∷ answers) reason v h next = absurd h

pub turns_more : (catalogue request : List Line) (chosen entries : Set) (turns : List Turn) (answers : List Answer) (t : Turn) (more : List Answer) → AreTurns catalogue request chosen entries turns answers
    → IsOneTurn catalogue request (chosen ++ chosen_in (turns ++ t ∷ [])) (entries ++ entries_of answers) t more → AreTurns catalogue request chosen entries (turns ++ t ∷ []) (answers ++ more)
turns_more catalogue request chosen entries [] answers t more h turn =
    let all : chosen ++ chosen_in (t ∷ []) ≡ chosen ++ chosen_by t = ap (λ (set : Set). chosen ++ set) (append-nil (chosen_by t)) in
    let none : entries ++ entries_of answers ≡ entries = ap (λ (xs : List Answer). entries ++ entries_of xs) h ∙ append-nil entries in (
      more,
      [],
      ap (λ (xs : List Answer). xs ++ more) h ∙ sym (append-nil more),
      subst (λ (set : Set). IsOneTurn catalogue request set entries t more) all (subst (λ (set : Set). IsOneTurn catalogue request (chosen ++ chosen_in (t ∷ [])) set t more) none turn),
      refl,
    )
turns_more catalogue request chosen entries (u ∷ turns) answers t more h turn =
    let all : chosen ++ chosen_in (u ∷ (turns ++ t ∷ [])) ≡ (chosen ++ chosen_by u) ++ chosen_in (turns ++ t ∷ []) = sym (append_assoc chosen (chosen_by u) (chosen_in (turns ++ t ∷ []))) in
    let those : entries ++ entries_of answers ≡ (entries ++ entries_of h.0) ++ entries_of h.1 = ap (λ (xs : List Answer). entries ++ entries_of xs) h.2 ∙ after_both entries h.0 h.1 in (
      h.0,
      h.1 ++ more,
      ap (λ (xs : List Answer). xs ++ more) h.2 ∙ append_assoc h.0 h.1 more,
      h.3,
      turns_more catalogue request (chosen ++ chosen_by u) (entries ++ entries_of h.0) turns h.1 t more h.4
          (subst (λ (set : Set). IsOneTurn catalogue request set ((entries ++ entries_of h.0) ++ entries_of h.1) t more) all
          (subst (λ (set : Set). IsOneTurn catalogue request (chosen ++ chosen_in (u ∷ (turns ++ t ∷ []))) set t more) those turn)),
    )

-- ---- accepted wishes

abbrev pub Accepts : List Line → Set → Option (ℕ × Version) → Type 0
Accepts request chosen None = ⊤
Accepts request chosen (Some w) = (line_at request w.0 ≡ Some (Wish w.1)) × Contains chosen w.1

abbrev pub AllAccepted : List Line → Set → List Turn → Type 0
AllAccepted request chosen [] = ⊤
AllAccepted request chosen (t ∷ turns) = Accepts request (chosen ++ chosen_by t) (accepted_by t) × AllAccepted request (chosen ++ chosen_by t) turns

-- ---- each entry has its reason

reason_is : (catalogue request : List Line) (chosen entries : Set) (reason : Reason) (v : Version) → MayGive catalogue request chosen entries reason v → IsReason catalogue request entries v reason
reason_is catalogue request chosen entries (ForRequest n) v g = g.needed
reason_is catalogue request chosen entries (ForVersion w n) v g = (g.asked.0, g.asked.1, g.needed)
reason_is catalogue request chosen entries (Wished n) v g = absurd g.asked

reasoned_order : (catalogue request : List Line) (chosen entries : Set) (answers : List Answer) → AreInOrder catalogue request chosen entries answers → IsReasoned catalogue request entries answers
reasoned_order catalogue request chosen entries [] h = tt
reasoned_order catalogue request chosen entries (Entry v reason ∷ answers) h =
    (h.0.gives.unlisted, reason_is catalogue request chosen entries reason v h.0.gives, reasoned_order catalogue request chosen (entries ++ v ∷ []) answers h.1)
reasoned_order catalogue request chosen entries (LeftOut w n step ∷ answers) h = absurd h

reasoned_both : (catalogue request : List Line) (entries : Set) (one two : List Answer) → IsReasoned catalogue request entries one → IsReasoned catalogue request (entries ++ entries_of one) two → IsReasoned catalogue request entries (one ++ two)
reasoned_both catalogue request entries [] two a b = subst (λ (set : Set). IsReasoned catalogue request set two) (append-nil entries) b
reasoned_both catalogue request entries (Entry v reason ∷ one) two a b =
    (a.0, a.1, reasoned_both catalogue request (entries ++ v ∷ []) one two a.2 (subst (λ (set : Set). IsReasoned catalogue request set two) (after_entry entries v reason one) b))
reasoned_both catalogue request entries (LeftOut w n step ∷ one) two a b = reasoned_both catalogue request entries one two a b

reasoned_wish : (catalogue request : List Line) (chosen entries : Set) (wish : Option (ℕ × Version)) → Accepts request chosen wish → IsReasoned catalogue request entries (wish_entry wish entries)
reasoned_wish catalogue request chosen entries None h = tt
reasoned_wish catalogue request chosen entries (Some w) h = by_test (is_member w.1 entries) refl
  where
    by_test : (b : Bool) → is_member w.1 entries ≡ b → IsReasoned catalogue request entries (if b then [] else Entry w.1 (Wished w.0) ∷ [])
    by_test true e = tt
    by_test false e = (none_from_member entries w.1 e, h.0, tt)

reasoned_turn : (catalogue request : List Line) (chosen entries : Set) (t : Turn) (answers : List Answer) → IsOneTurn catalogue request chosen entries t answers → Accepts request chosen (accepted_by t) → IsReasoned catalogue request entries answers
reasoned_turn catalogue request chosen entries (Chose wish more) answers turn accepted =
    let first = wish_entry wish entries in
    subst (IsReasoned catalogue request entries) (sym turn.wish_first)
    (reasoned_both catalogue request entries first turn.others (reasoned_wish catalogue request chosen entries wish accepted) (reasoned_order catalogue request chosen (entries ++ entries_of first) turn.others turn.in_order))
reasoned_turn catalogue request chosen entries (LeavesOut wish step) answers is accepted = subst (IsReasoned catalogue request entries) (sym is) tt

pub reasoned_turns : (catalogue request : List Line) (chosen entries : Set) (turns : List Turn) (answers : List Answer) → AreTurns catalogue request chosen entries turns answers → AllAccepted request chosen turns → IsReasoned catalogue request entries answers
reasoned_turns catalogue request chosen entries [] answers h accepted = subst (IsReasoned catalogue request entries) (sym h) tt
reasoned_turns catalogue request chosen entries (t ∷ turns) answers h accepted =
    subst (IsReasoned catalogue request entries) (sym h.2)
    (reasoned_both catalogue request entries h.0 h.1 (reasoned_turn catalogue request (chosen ++ chosen_by t) entries t h.0 h.3 accepted.0)
    (reasoned_turns catalogue request (chosen ++ chosen_by t) (entries ++ entries_of h.0) turns h.1 h.4 accepted.1))

-- ---- the entries are chosen

abbrev Within : Set → Set → Type 0
Within part whole = (v : Version) → Contains part v → Contains whole v

within_more : (part whole : Set) (v : Version) → Within part whole → Contains whole v → Within (part ++ v ∷ []) whole
within_more part whole v within has w c = elim (Contains-append_cases part (v ∷ []) w c) [
  | inl old ↦ within w old
  | inr new ↦ elim (element_cases v [] w new) [ inl same ↦ subst (Contains whole) same has | inr none ↦ absurd (no_element w none) ]
]

order_within : (catalogue request : List Line) (chosen entries : Set) (answers : List Answer) → AreInOrder catalogue request chosen entries answers → Within entries chosen → Within (entries ++ entries_of answers) chosen
order_within catalogue request chosen entries [] h within = subst (λ (set : Set). Within set chosen) (sym (append-nil entries)) within
order_within catalogue request chosen entries (Entry v reason ∷ answers) h within =
    subst (λ (set : Set). Within set chosen) (sym (after_entry entries v reason answers)) (order_within catalogue request chosen (entries ++ v ∷ []) answers h.1 (within_more entries chosen v within h.0.gives.is_chosen))
order_within catalogue request chosen entries (LeftOut w n step ∷ answers) h within = absurd h

wish_within : (request : List Line) (chosen entries : Set) (wish : Option (ℕ × Version)) → Accepts request chosen wish → Within entries chosen → Within (entries ++ entries_of (wish_entry wish entries)) chosen
wish_within request chosen entries None h within = subst (λ (set : Set). Within set chosen) (sym (append-nil entries)) within
wish_within request chosen entries (Some w) h within = by_test (is_member w.1 entries)
  where
    by_test : (b : Bool) → Within (entries ++ entries_of (if b then [] else Entry w.1 (Wished w.0) ∷ [])) chosen
    by_test true = subst (λ (set : Set). Within set chosen) (sym (append-nil entries)) within
    by_test false = within_more entries chosen w.1 within h.1

-- the entries above a wish that is left out are those below it
after_left_out : (entries : Set) (wish : ℕ × Version) (step : ℕ) (answers : List Answer) → answers ≡ LeftOut wish.1 wish.0 step ∷ [] → entries ++ entries_of answers ≡ entries
after_left_out entries wish step answers is = ap (λ (xs : List Answer). entries ++ entries_of xs) is ∙ append-nil entries

turn_within : (catalogue request : List Line) (chosen entries : Set) (t : Turn) (answers : List Answer) → IsOneTurn catalogue request chosen entries t answers → Accepts request chosen (accepted_by t) → Within entries chosen → Within (entries ++ entries_of answers) chosen
turn_within catalogue request chosen entries (Chose wish more) answers turn accepted within =
    let first = wish_entry wish entries in
    subst (λ (set : Set). Within set chosen) (sym (ap (λ (xs : List Answer). entries ++ entries_of xs) turn.wish_first ∙ after_both entries first turn.others))
    (order_within catalogue request chosen (entries ++ entries_of first) turn.others turn.in_order (wish_within request chosen entries wish accepted within))
turn_within catalogue request chosen entries (LeavesOut wish step) answers is accepted within = subst (λ (set : Set). Within set chosen) (sym (after_left_out entries wish step answers is)) within

-- ---- the wishes are entries

wish_is_listed : (entries : Set) (wish : Option (ℕ × Version)) (v : Version) → Contains (wished_by wish) v → Contains (entries ++ entries_of (wish_entry wish entries)) v
wish_is_listed entries None v c = absurd (no_element v c)
wish_is_listed entries (Some w) v c = elim (element_cases w.1 [] v c) [ inl same ↦ subst (Contains (entries ++ entries_of (wish_entry (Some w) entries))) same (by_test (is_member w.1 entries) refl) | inr none ↦ absurd (no_element v none) ]
  where
    by_test : (b : Bool) → is_member w.1 entries ≡ b → Contains (entries ++ entries_of (if b then [] else Entry w.1 (Wished w.0) ∷ [])) w.1
    by_test true e = Contains-append_left entries [] w.1 (from_member entries w.1 e)
    by_test false e = Contains-append_right entries (w.1 ∷ []) w.1 (first_element w.1 [])

turn_wished : (catalogue request : List Line) (chosen entries : Set) (t : Turn) (answers : List Answer) → IsOneTurn catalogue request chosen entries t answers → (v : Version) → Contains (wished_by (accepted_by t)) v → Contains (entries ++ entries_of answers) v
turn_wished catalogue request chosen entries (Chose wish more) answers turn v c =
    let first = wish_entry wish entries in
    subst (λ (set : Set). Contains set v) (sym (ap (λ (xs : List Answer). entries ++ entries_of xs) turn.wish_first ∙ after_both entries first turn.others))
    (Contains-append_left (entries ++ entries_of first) (entries_of turn.others) v (wish_is_listed entries wish v c))
turn_wished catalogue request chosen entries (LeavesOut wish step) answers is v c = absurd (no_element v c)

-- ---- at the end of all turns

-- No line gives anything more after a turn, where none did before it.
turn_complete : (catalogue request : List Line) (chosen entries : Set) (t : Turn) (answers : List Answer) → IsOneTurn catalogue request (chosen ++ chosen_by t) entries t answers → IsComplete catalogue request chosen entries
    → IsComplete catalogue request (chosen ++ chosen_by t) (entries ++ entries_of answers)
turn_complete catalogue request chosen entries (Chose wish more) answers turn done = turn.complete
turn_complete catalogue request chosen entries (LeavesOut wish step) answers is done =
    subst (λ (set : Set). IsComplete catalogue request set (entries ++ entries_of answers)) (sym (append-nil chosen)) (subst (IsComplete catalogue request chosen) (sym (after_left_out entries wish step answers is)) done)

-- The entries of the turns are chosen, have their wishes, and are complete.
pub record IsListed (catalogue request : List Line) (chosen entries : Set) (turns : List Turn) (answers : List Answer) : Type 0 where
  pub within : Within (entries ++ entries_of answers) (chosen ++ chosen_in turns)
  pub wishes : (v : Version) → Contains (wishes_in turns) v → Contains (entries ++ entries_of answers) v
  pub complete : IsComplete catalogue request (chosen ++ chosen_in turns) (entries ++ entries_of answers)

pub are_listed : (catalogue request : List Line) (chosen entries : Set) (turns : List Turn) (answers : List Answer) → AreTurns catalogue request chosen entries turns answers → AllAccepted request chosen turns → Within entries chosen
    → IsComplete catalogue request chosen entries → IsListed catalogue request chosen entries turns answers
are_listed catalogue request chosen entries [] answers h accepted within done =
    let none : entries ++ entries_of answers ≡ entries = ap (λ (xs : List Answer). entries ++ entries_of xs) h ∙ append-nil entries in
    record {
      within = subst (λ (set : Set). Within set (chosen ++ [])) (sym none) (subst (Within entries) (sym (append-nil chosen)) within);
      wishes = λ v c. absurd (no_element v c);
      complete = subst (λ (set : Set). IsComplete catalogue request set (entries ++ entries_of answers)) (sym (append-nil chosen)) (subst (IsComplete catalogue request chosen) (sym none) done);
    }
are_listed catalogue request chosen entries (t ∷ turns) answers h accepted within done =
    let C = chosen ++ chosen_by t in
    let E = entries ++ entries_of h.0 in
    let wide : Within entries C = (λ v c. Contains-append_left chosen (chosen_by t) v (within v c)) in
    let rest = are_listed catalogue request C E turns h.1 h.4 accepted.1 (turn_within catalogue request C entries t h.0 h.3 accepted.0 wide) (turn_complete catalogue request chosen entries t h.0 h.3 done) in
    let all : (chosen ++ chosen_by t) ++ chosen_in turns ≡ chosen ++ (chosen_by t ++ chosen_in turns) = append_assoc chosen (chosen_by t) (chosen_in turns) in
    let those : (entries ++ entries_of h.0) ++ entries_of h.1 ≡ entries ++ entries_of answers = sym (ap (λ (xs : List Answer). entries ++ entries_of xs) h.2 ∙ after_both entries h.0 h.1) in
    record {
      within = subst (Within (entries ++ entries_of answers)) all (subst (λ (set : Set). Within set (C ++ chosen_in turns)) those rest.within);
      wishes = λ v c. subst (λ (set : Set). Contains set v) those (elim (Contains-append_cases (wished_by (accepted_by t)) (wishes_in turns) v c) [
        | inl here ↦ Contains-append_left E (entries_of h.1) v (turn_wished catalogue request C entries t h.0 h.3 v here)
        | inr there ↦ rest.wishes v there
      ]);
      complete = subst (λ (set : Set). IsComplete catalogue request set (entries ++ entries_of answers)) all (subst (IsComplete catalogue request (C ++ chosen_in turns)) those rest.complete);
    }

-- Where all chosen versions are reached, they are the entries.
pub exact_entries : (catalogue request : List Line) (turns : List Turn) (answers : List Answer) → AreTurns catalogue request [] [] turns answers → AllAccepted request [] turns
    → AreReached catalogue request (chosen_in turns) (wishes_in turns) → (v : Version) → Contains (chosen_in turns) v ↔ Contains (entries_of answers) v
exact_entries catalogue request turns answers h accepted reached = λ v. (λ c. reached (entries_of answers) closed v c, λ c. all.within v c)
  where
    all : IsListed catalogue request [] [] turns answers
    all = are_listed catalogue request [] [] turns answers h accepted (λ v c. absurd (no_element v c)) (λ reason v g. no_element v g.is_chosen)

    needed : (reason : Reason) (v : Version) → IsAsked catalogue (entries_of answers) reason → IsNeededBy (entries_of answers) (line_named catalogue request reason) v → Contains (chosen_in turns) v → Contains (entries_of answers) v
    needed reason v asked need c = elim (cases_Bool (is_member v (entries_of answers))) [
      | inl e ↦ from_member (entries_of answers) v e
      | inr e ↦ absurd (all.complete reason v (record { asked = asked; needed = need; is_chosen = c; unlisted = none_from_member (entries_of answers) v e }))
    ]

    closed : IsClosed catalogue request (chosen_in turns) (wishes_in turns) (entries_of answers)
    closed = record { within = all.within; wished = all.wishes; needed = needed }
