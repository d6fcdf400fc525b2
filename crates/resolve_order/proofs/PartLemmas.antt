-- The wishes of the first turns, and the entries above a wish that is left out.
use Rattle.std.proofs.Common.{◌≡◌, ℕ, Bool, true, false, if◌then◌else◌, List, [], ◌∷◌, ◌++◌, Option, Some, None, refl, sym, ap, subst, ◌∙◌}
use Rattle.std.specs.Prelude.{⊤}
use Rattle.resolvo_text.specs.Line.{Version, Line}
use Rattle.resolvo_text.specs.Matches.{Set, is_member}
use Rattle.resolvo_catalogue_core.specs.Answers.{Wished, Answer, Entry, LeftOut, entries_of}
use Rattle.resolve_order.specs.Order.{Turn, Chose, LeavesOut, AreInOrder, chosen_by, wish_entry, IsTurn, AreTurns}
use Rattle.resolve_order.proofs.TurnLemmas.{AllAccepted}

-- ---- the first turns

pub accepted_parted : (request : List Line) (chosen : Set) (prefix back : List Turn) → AllAccepted request chosen (prefix ++ back) → AllAccepted request chosen prefix
accepted_parted request chosen [] back h = tt
accepted_parted request chosen (t ∷ prefix) back h = (h.0, accepted_parted request (chosen ++ chosen_by t) prefix back h.1)

-- ---- a wish that is left out

-- no wish is left out
abbrev AreEntries : List Answer → Type 0
AreEntries [] = ⊤
AreEntries (Entry v reason ∷ answers) = AreEntries answers
AreEntries (LeftOut v n step ∷ answers) = ⊥

order_entries : (catalogue request : List Line) (chosen entries : Set) (answers : List Answer) → AreInOrder catalogue request chosen entries answers → AreEntries answers
order_entries catalogue request chosen entries [] h = tt
order_entries catalogue request chosen entries (Entry v reason ∷ answers) h = order_entries catalogue request chosen (entries ++ v ∷ []) answers h.1
order_entries catalogue request chosen entries (LeftOut v n step ∷ answers) h = absurd h

both_entries : (one two : List Answer) → AreEntries one → AreEntries two → AreEntries (one ++ two)
both_entries [] two a b = b
both_entries (Entry v reason ∷ one) two a b = both_entries one two a b
both_entries (LeftOut v n step ∷ one) two a b = absurd a

wish_entries : (wish : Option (ℕ × Version)) (entries : Set) → AreEntries (wish_entry wish entries)
wish_entries None entries = tt
wish_entries (Some w) entries = by_test (is_member w.1 entries)
  where
    by_test : (b : Bool) → AreEntries (if b then [] else Entry w.1 (Wished w.0) ∷ [])
    by_test true = tt
    by_test false = tt

turn_entries : (catalogue request : List Line) (chosen entries : Set) (wish : Option (ℕ × Version)) (answers : List Answer) → IsTurn catalogue request chosen entries wish answers → AreEntries answers
turn_entries catalogue request chosen entries wish answers turn =
    subst AreEntries (sym turn.wish_first) (both_entries (wish_entry wish entries) turn.others (wish_entries wish entries) (order_entries catalogue request chosen (entries ++ entries_of (wish_entry wish entries)) turn.others turn.in_order))

-- entries above a wish that is left out
entries_above : (first rest above below : List Answer) (v : Version) (n step : ℕ) → AreEntries first → first ++ rest ≡ above ++ LeftOut v n step ∷ below → (more : List Answer) × (above ≡ first ++ more) × (rest ≡ more ++ LeftOut v n step ∷ below)
entries_above [] rest above below v n step are is = (above, refl, is)
entries_above (Entry w reason ∷ first) rest [] below v n step are is = absurd cc
entries_above (Entry w reason ∷ first) rest (a ∷ above) below v n step are is =
    let head : a ≡ Entry w reason = cc in
    let tail : first ++ rest ≡ above ++ LeftOut v n step ∷ below = cc in
    let r = entries_above first rest above below v n step are tail in
    (r.0, ap (λ (x : Answer). x ∷ above) head ∙ ap (λ (xs : List Answer). Entry w reason ∷ xs) r.1, r.2)
entries_above (LeftOut w m k ∷ first) rest above below v n step are is = absurd are

-- The line is that of a turn, and the turns before it list the lines above.
pub record IsTurnsLine (catalogue request : List Line) (chosen entries : Set) (turns : List Turn) (above : List Answer) (v : Version) (n step : ℕ) : Type 0 where
  pub prefix : List Turn
  pub back : List Turn
  pub turn : turns ≡ prefix ++ LeavesOut (n, v) step ∷ back
  pub before : AreTurns catalogue request chosen entries prefix above

pub left_out_by : (catalogue request : List Line) (chosen entries : Set) (turns : List Turn) (answers above below : List Answer) (v : Version) (n step : ℕ) → AreTurns catalogue request chosen entries turns answers → answers ≡ above ++ LeftOut v n step ∷ below
    → IsTurnsLine catalogue request chosen entries turns above v n step
left_out_by catalogue request chosen entries [] answers [] below v n step h is = absurd cc
left_out_by catalogue request chosen entries [] answers (a ∷ above) below v n step h is = absurd cc
left_out_by catalogue request chosen entries (Chose wish more ∷ turns) answers above below v n step h is =
    let p = entries_above h.0 h.1 above below v n step (turn_entries catalogue request (chosen ++ more) entries wish h.0 h.3) (sym h.2 ∙ is) in
    let r = left_out_by catalogue request (chosen ++ more) (entries ++ entries_of h.0) turns h.1 p.0 below v n step h.4 p.2 in
    record { prefix = Chose wish more ∷ r.prefix; back = r.back; turn = ap (λ (ts : List Turn). Chose wish more ∷ ts) r.turn; before = (h.0, p.0, p.1, h.3, r.before) }
left_out_by catalogue request chosen entries (LeavesOut wish k ∷ turns) answers [] below v n step h is =
    let one : LeftOut wish.1 wish.0 k ∷ h.1 ≡ LeftOut v n step ∷ below = sym (ap (λ (xs : List Answer). xs ++ h.1) h.3) ∙ sym h.2 ∙ is in
    let versions : wish.1 ≡ v = cc in
    let lines : wish.0 ≡ n = cc in
    let steps : k ≡ step = cc in
    let same : wish ≡ (n, v) = (λ i. (lines i, versions i)) in
    record { prefix = []; back = turns; turn = (λ i. LeavesOut (same i) (steps i) ∷ turns); before = refl }
left_out_by catalogue request chosen entries (LeavesOut wish k ∷ turns) answers (a ∷ above) below v n step h is =
    let one : LeftOut wish.1 wish.0 k ∷ h.1 ≡ a ∷ (above ++ LeftOut v n step ∷ below) = sym (ap (λ (xs : List Answer). xs ++ h.1) h.3) ∙ sym h.2 ∙ is in
    let head : a ≡ LeftOut wish.1 wish.0 k = cc in
    let tail : h.1 ≡ above ++ LeftOut v n step ∷ below = cc in
    let r = left_out_by catalogue request (chosen ++ []) (entries ++ entries_of h.0) turns h.1 above below v n step h.4 tail in
    record {
      prefix = LeavesOut wish k ∷ r.prefix;
      back = r.back;
      turn = ap (λ (ts : List Turn). LeavesOut wish k ∷ ts) r.turn;
      before = (h.0, above, ap (λ (x : Answer). x ∷ above) head ∙ ap (λ (xs : List Answer). xs ++ above) (sym h.3), h.3, r.before);
    }
