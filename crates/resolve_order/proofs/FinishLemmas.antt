-- Entries one after the other, and turns one after the other.
use Rattle.std.proofs.Common.{◌≡◌, ℕ, zero, suc, ◌+◌, ◌<◌, List, [], ◌∷◌, ◌++◌, length, take, get_or, Option, Some, None, refl, sym, ap, subst, ◌∙◌, append_assoc, add-one, arith}
use Rattle.std.specs.Prelude.{slice_get}
use Rattle.std.specs.Option.{option_map}
use Rattle.std.proofs.lemmas.Grind.{flat_map-append}
use Rattle.std.proofs.lemmas.List.{append-nil, map-append, take_more}
use Rattle.std.proofs.lemmas.Option.{slice_get-get_or}
use Rattle.resolvo_text.specs.Line.{Version, Line, Wish}
use Rattle.resolvo_text.specs.Matches.{Set}
use Rattle.resolvo_catalogue_core.specs.Answers as answers
use Rattle.resolvo_catalogue_core.specs.Answers.{entries_of}
use Rattle.resolvo_catalogue_core.specs.Grammar.{line_at}
use Rattle.resolvo_catalogue_core.specs.Listed.{listed}
use Rattle.resolvo_catalogue_core.specs.Kept.{nth, nowhere}
use Rattle.resolvo_catalogue_core.specs.declared.rule.VersionNo.{VersionNo}
use Rattle.resolvo_catalogue_core.proofs.TableSteps.{numbered}
use Rattle.resolve_order.specs.Order as order
use Rattle.resolve_order.specs.Order.{IsNext, AreInOrder, IsComplete, IsOneTurn, AreTurns, wish_entry, chosen_by, chosen_in, accepted_by}
use Rattle.resolve_order.specs.View.{reason_of, answer_of, wish_at, turn_of, turns_of, IsAccepted, IsWishOf, AreWishesOf}
use Rattle.resolve_order.specs.Kept.{Holds, OthersAreIdle, IsListing, IsFound, Extends, TakesTurn, answers_in, entries_in}
use Rattle.resolve_order.specs.declared.chosen.Chosen.{Chosen}
use Rattle.resolve_order.specs.declared.entry.Answer.TheVariants as answer
use Rattle.resolve_order.specs.declared.entry.Entry.{Entry}
use Rattle.resolve_order.specs.declared.entry.Turn.{Turn}
use Rattle.resolve_order.specs.declared.entry.Turn.TheVariants as turn
use Rattle.resolve_order.specs.declared.install_order.InstallOrder.{InstallOrder}
use Rattle.resolve_order.specs.declared.open_lines.OpenLines.{OpenLines}
use Rattle.resolve_order.proofs.GiveLemmas.{answers_more}
use Rattle.resolve_order.proofs.TurnLemmas.{Accepts, AllAccepted, after_both, in_order_more, turns_more}

-- ---- one entry after the other

pub extends_none : (catalogue request : List Line) (chosen : Set) (x : InstallOrder) → IsListing catalogue request x chosen chosen → Extends catalogue request chosen x x
extends_none catalogue request chosen x h = record { listing = h; others = []; more = sym (append-nil (answers_in catalogue x)); in_order = tt }

-- the same listing, where fewer versions are left
pub ready : (catalogue request : List Line) (chosen seen : Set) (x : InstallOrder) (kept : Chosen) → ((lines : List Line) (all entries : Set) → Holds lines x.chosen all entries → Holds lines kept all entries)
    → IsListing catalogue request x chosen seen → IsListing catalogue request (record x { chosen = kept }) chosen seen
ready catalogue request chosen seen x kept holds h = record { holds = holds catalogue chosen (entries_in catalogue x) h.holds; lines = h.lines; idle = h.idle; numbered = h.numbered }

-- all chosen versions were seen
pub seen_all : (catalogue request : List Line) (chosen seen : Set) (x : InstallOrder) (places : OpenLines) → OthersAreIdle catalogue request chosen (entries_in catalogue x) x.lines.items places → IsListing catalogue request x chosen seen
    → IsListing catalogue request (record x { open_lines = places }) chosen chosen
seen_all catalogue request chosen seen x places idle h = record { holds = h.holds; lines = h.lines; idle = idle; numbered = h.numbered }

pub extends_opened : (catalogue request : List Line) (chosen : Set) (first x : InstallOrder) (places : OpenLines) → OthersAreIdle catalogue request chosen (entries_in catalogue x) x.lines.items places → Extends catalogue request chosen first x
    → Extends catalogue request chosen first (record x { open_lines = places })
extends_opened catalogue request chosen first x places idle h = record { listing = seen_all catalogue request chosen chosen x places idle h.listing; others = h.others; more = h.more; in_order = h.in_order }

pub extends_again : (catalogue request : List Line) (chosen : Set) (x : InstallOrder) (kept : Chosen) (places : OpenLines) (after : InstallOrder) → Extends catalogue request chosen (record x { chosen = kept; open_lines = places }) after → Extends catalogue request chosen x after
extends_again catalogue request chosen x kept places after h = record { listing = h.listing; others = h.others; more = h.more; in_order = h.in_order }

pub number_at : (catalogue : List Line) (n : VersionNo) → n.0 < length (listed catalogue) → slice_get (listed catalogue) n.0 ≡ Some (nth (listed catalogue) n)
number_at catalogue n lt = slice_get-get_or (listed catalogue) n.0 nowhere lt

pub extends_more : (catalogue request : List Line) (chosen : Set) (first before after : InstallOrder) (e : Entry) → Extends catalogue request chosen first before → IsFound catalogue request chosen (entries_in catalogue before) (Some e)
    → after.answers.items ≡ before.answers.items ++ answer.Entry e ∷ [] → IsListing catalogue request after chosen chosen → Extends catalogue request chosen first after
extends_more catalogue request chosen first before after e h found more listing = record {
  listing = listing;
  others = h.others ++ answer_of (listed catalogue) (answer.Entry e) ∷ [];
  more = answers_more catalogue before after (answer.Entry e) more ∙ ap (λ (xs : List answers.Answer). xs ++ answer_of (listed catalogue) (answer.Entry e) ∷ []) h.more ∙ append_assoc (answers_in catalogue first) h.others (answer_of (listed catalogue) (answer.Entry e) ∷ []);
  in_order = in_order_more catalogue request chosen (entries_in catalogue first) h.others (reason_of (listed catalogue) e.reason) (nth (listed catalogue) e.version) h.in_order
      (subst (λ (set : Set). IsNext catalogue request chosen set (reason_of (listed catalogue) e.reason) (nth (listed catalogue) e.version)) (ap entries_of h.more ∙ after_both [] (answers_in catalogue first) h.others) found.1);
}

-- ---- one turn

pub turn_taken : (catalogue request : List Line) (chosen : Set) (wish : Option (ℕ × Version)) (mine : Set) (first begun after : InstallOrder) → answers_in catalogue begun ≡ answers_in catalogue first ++ wish_entry wish (entries_in catalogue first)
    → Extends catalogue request chosen begun after → IsComplete catalogue request chosen (entries_in catalogue after) → TakesTurn catalogue request chosen (order.Chose wish mine) first after
turn_taken catalogue request chosen wish mine first begun after wished h complete = record {
  listing = h.listing;
  others = wish_entry wish (entries_in catalogue first) ++ h.others;
  more = more;
  is_turn = record {
    others = h.others;
    wish_first = refl;
    in_order = subst (λ (set : Set). AreInOrder catalogue request chosen set h.others) (ap entries_of wished ∙ after_both [] (answers_in catalogue first) (wish_entry wish (entries_in catalogue first))) h.in_order;
    complete = subst (IsComplete catalogue request chosen) (ap entries_of more ∙ after_both [] (answers_in catalogue first) (wish_entry wish (entries_in catalogue first) ++ h.others)) complete;
  };
}
  where
    more : answers_in catalogue after ≡ answers_in catalogue first ++ (wish_entry wish (entries_in catalogue first) ++ h.others)
    more = h.more ∙ ap (λ (xs : List answers.Answer). xs ++ h.others) wished ∙ append_assoc (answers_in catalogue first) (wish_entry wish (entries_in catalogue first)) h.others

-- ---- one turn after the other

pub turns_next : (versions : List Version) (turns : List Turn) (i : ℕ) (t : Turn) → i < length turns → t ≡ get_or turns i t → turns_of versions (take (i + 1) turns) ≡ turns_of versions (take i turns) ++ turn_of versions t ∷ []
turns_next versions turns i t lt is = ap (turns_of versions) (take_more turns i t lt ∙ ap (λ (x : Turn). take i turns ++ x ∷ []) (sym is)) ∙ map-append (turn_of versions) (take i turns) (t ∷ [])

-- the choices of the turns up to turn i
pub chosen_more : (versions : List Version) (turns : List Turn) (i : ℕ) (t : Turn) → i < length turns → t ≡ get_or turns i t
    → chosen_in (turns_of versions (take (i + 1) turns)) ≡ chosen_in (turns_of versions (take i turns)) ++ chosen_by (turn_of versions t)
chosen_more versions turns i t lt is =
    ap chosen_in (turns_next versions turns i t lt is) ∙ flat_map-append chosen_by (turns_of versions (take i turns)) (turn_of versions t ∷ [])
    ∙ ap (λ (set : Set). chosen_in (turns_of versions (take i turns)) ++ set) (append-nil (chosen_by (turn_of versions t)))

wish_suc : (versions : List Version) (request : List Line) (chosen : Set) (turns : List Turn) (i : ℕ) (t : Turn) → i < length turns → t ≡ get_or turns i t → AreWishesOf versions request chosen turns
    → IsWishOf versions request (chosen ++ chosen_in (turns_of versions (take (suc i) turns))) t
wish_suc versions request chosen [] i t lt is h = absurd (omega (arith, lt))
wish_suc versions request chosen (u ∷ turns) zero t lt is h =
    subst (λ (x : Turn). IsWishOf versions request (chosen ++ chosen_in (turns_of versions (u ∷ []))) x) (sym is)
    (subst (λ (set : Set). IsWishOf versions request (chosen ++ set) u) (sym (append-nil (chosen_by (turn_of versions u)))) h.0)
wish_suc versions request chosen (u ∷ turns) (suc i) t lt is h =
    subst (λ (set : Set). IsWishOf versions request set t) (append_assoc chosen (chosen_by (turn_of versions u)) (chosen_in (turns_of versions (take (suc i) turns))))
    (wish_suc versions request (chosen ++ chosen_by (turn_of versions u)) turns i t (omega (arith, lt)) is h.1)

pub wish_at_turn : (versions : List Version) (request : List Line) (turns : List Turn) (i : ℕ) (t : Turn) → i < length turns → t ≡ get_or turns i t → AreWishesOf versions request [] turns
    → IsWishOf versions request (chosen_in (turns_of versions (take (i + 1) turns))) t
wish_at_turn versions request turns i t lt is h = subst (λ (n : ℕ). IsWishOf versions request (chosen_in (turns_of versions (take n turns))) t) (sym (add-one i)) (wish_suc versions request [] turns i t lt is h)

accepts : (versions : List Version) (request : List Line) (chosen : Set) (wish : Option (ℕ × VersionNo)) → IsAccepted versions request chosen wish → Accepts request chosen (option_map (wish_at versions) wish)
accepts versions request chosen None h = tt
accepts versions request chosen (Some w) h = (subst (λ (v : Version). line_at request w.0 ≡ Some (Wish v)) (sym (numbered versions w.1 h.0.0 h.0.1)) h.0.2, h.1)

turn_accepts : (versions : List Version) (request : List Line) (chosen : Set) (t : Turn) → IsWishOf versions request chosen t → Accepts request chosen (accepted_by (turn_of versions t))
turn_accepts versions request chosen (turn.Chose wish more) h = accepts versions request chosen wish h
turn_accepts versions request chosen (turn.LeftOut wish step) h = tt

pub all_accepted : (versions : List Version) (request : List Line) (chosen : Set) (turns : List Turn) → AreWishesOf versions request chosen turns → AllAccepted request chosen (turns_of versions turns)
all_accepted versions request chosen [] h = tt
all_accepted versions request chosen (t ∷ turns) h =
    (turn_accepts versions request (chosen ++ chosen_by (turn_of versions t)) t h.0, all_accepted versions request (chosen ++ chosen_by (turn_of versions t)) turns h.1)

-- The answers of the turns up to turn i.
pub record ListsTurns (catalogue request : List Line) (turns : List Turn) (i : ℕ) (x : InstallOrder) : Type 0 where
  pub listing : IsListing catalogue request x (chosen_in (turns_of (listed catalogue) (take i turns))) (chosen_in (turns_of (listed catalogue) (take i turns)))
  pub turns_listed : AreTurns catalogue request [] [] (turns_of (listed catalogue) (take i turns)) (answers_in catalogue x)

pub lists_more : (catalogue request : List Line) (turns : List Turn) (i : ℕ) (t : Turn) (before after : InstallOrder) → i < length turns → t ≡ get_or turns i t → ListsTurns catalogue request turns i before
    → TakesTurn catalogue request (chosen_in (turns_of (listed catalogue) (take (i + 1) turns))) (turn_of (listed catalogue) t) before after → ListsTurns catalogue request turns (i + 1) after
lists_more catalogue request turns i t before after lt is h took =
    let vs = listed catalogue in
    let next = turns_next vs turns i t lt is in
    record {
      listing = took.listing;
      turns_listed = subst (λ (ts : List order.Turn). AreTurns catalogue request [] [] ts (answers_in catalogue after)) (sym next)
          (subst (AreTurns catalogue request [] [] (turns_of vs (take i turns) ++ turn_of vs t ∷ [])) (sym took.more)
          (turns_more catalogue request [] [] (turns_of vs (take i turns)) (answers_in catalogue before) (turn_of vs t) took.others h.turns_listed
          (subst (λ (ts : List order.Turn). IsOneTurn catalogue request (chosen_in ts) (entries_in catalogue before) (turn_of vs t) took.others) next took.is_turn)));
    }

-- an element in range, by any default
pub any_default : {X : Type 0} (xs : List X) (i : ℕ) (d e : X) → i < length xs → get_or xs i d ≡ get_or xs i e
any_default [] i d e lt = absurd (omega (arith, lt))
any_default (x ∷ xs) zero d e lt = refl
any_default (x ∷ xs) (suc i) d e lt = any_default xs i d e (omega (arith, lt))
