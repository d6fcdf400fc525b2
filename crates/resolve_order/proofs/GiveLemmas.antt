-- A listing with one more entry.
use Rattle.std.proofs.Common.{◌≡◌, ◌⊎◌, inl, inr, ℕ, ◌<◌, ◌+◌, true, false, if◌then◌else◌, List, [], ◌∷◌, ◌++◌, length, Option, None, Some, refl, sym, ap, subst, ◌∙◌, arith}
use Rattle.std.specs.Prelude.{slice_get, not, Contains, option_to_list}
use Rattle.std.specs.Option.{option_and_then}
use Rattle.std.specs.BTreeSet.{contains}
use Rattle.std.specs.Ordering.{nat_cmp}
use Rattle.std.proofs.lemmas.Bool.{false≢true, cases_Bool}
use Rattle.std.proofs.lemmas.Grind.{flat_map-append}
use Rattle.std.proofs.lemmas.List.{append-nil, map-append}
use Rattle.std.proofs.lemmas.List.Elements.{Contains-append_cases}
use Rattle.std.proofs.lemmas.Option.{slice_get_within}
use Rattle.resolvo_text.specs.Line.{Version, Line}
use Rattle.resolvo_text.specs.Matches.{Set, is_member}
use Rattle.resolvo_catalogue_core.specs.Answers as answers
use Rattle.resolvo_catalogue_core.specs.Answers.{entry_of, entries_of}
use Rattle.resolvo_catalogue_core.specs.Listed.{listed, members}
use Rattle.resolvo_catalogue_core.specs.Questions.{AreAll, IsVersionLine, BelongsTo}
use Rattle.resolvo_catalogue_core.specs.Kept.{nth}
use Rattle.resolvo_catalogue_core.specs.declared.rule.VersionNo.{VersionNo}
use Rattle.resolvo_terms.proofs.Places.{get_push}
use Rattle.resolvo_catalogue_core.proofs.TableSteps.{numbered}
use Rattle.resolve_order.specs.Order.{wish_entry, LeavesOut}
use Rattle.resolve_order.specs.View.{answer_of, answers_of, number_of, IsAccepted}
use Rattle.resolve_order.specs.Kept.{first_of, package_at, Holds, AreLines, OthersAreIdle, IsListing, TakesTurn, answers_in, entries_in, lines_to, lines_for, is_unlisted}
use Rattle.resolve_order.specs.declared.chosen.Chosen.{Chosen}
use Rattle.resolve_order.specs.declared.entry.Entry.{Entry}
use Rattle.resolve_order.specs.declared.entry.Reason.{Reason}
use Rattle.resolve_order.specs.declared.entry.Answer.{Answer}
use Rattle.resolve_order.specs.declared.entry.Answer.TheVariants as answer
use Rattle.resolve_order.specs.declared.install_order.InstallOrder.{InstallOrder}
use Rattle.resolve_order.proofs.Elements.{no_element, element_cases}
use Rattle.resolve_order.proofs.LineLemmas.{first_lines, more_lines}
use Rattle.resolve_order.proofs.OpenLemmas.{IsNumbered, lines_added}
use Rattle.resolve_order.proofs.PickLemmas.{flag_means}

pub no_entries : (catalogue request : List Line) (x : InstallOrder) (n : ℕ) → x.answers.items ≡ [] → x.lines.items ≡ lines_to n → n ≡ length request → ((i : ℕ) → contains nat_cmp x.open_lines.again i ≡ true → ⊥) → x.open_lines.below ≡ 0
    → Holds catalogue x.chosen [] [] → IsListing catalogue request x [] []
no_entries catalogue request x n none lines count again below h = record {
  holds = subst (λ (es : List Answer). Holds catalogue x.chosen [] (entries_of (answers_of (listed catalogue) es))) (sym none) h;
  lines = subst (λ (es : List Answer). AreLines catalogue request (entries_of (answers_of (listed catalogue) es)) x.lines.items) (sym none)
      (subst (AreLines catalogue request []) (sym (lines ∙ ap lines_to count)) (first_lines catalogue request));
  idle = record {
    within = record { bound = omega (arith, below); all = λ i c. absurd (again i c) };
    each = λ i r at. inl (inr (omega (arith, below)));
  };
  numbered = λ i e at. absurd (past i e (subst (λ (es : List Answer). slice_get es i ≡ Some e) none at));
}
  where
    past : (i : ℕ) (e : Answer) → slice_get [] i ≡ Some e → ⊥
    past i e at = cc

pub answers_more : (catalogue : List Line) (before after : InstallOrder) (a : Answer) → after.answers.items ≡ before.answers.items ++ a ∷ [] → answers_in catalogue after ≡ answers_in catalogue before ++ answer_of (listed catalogue) a ∷ []
answers_more catalogue before after a more = ap (answers_of (listed catalogue)) more ∙ map-append (answer_of (listed catalogue)) before.answers.items (a ∷ [])

pub entries_more : (catalogue : List Line) (before after : InstallOrder) (e : Entry) (v : Version) → slice_get (listed catalogue) e.version.0 ≡ Some v → after.answers.items ≡ before.answers.items ++ answer.Entry e ∷ [] → entries_in catalogue after ≡ entries_in catalogue before ++ v ∷ []
entries_more catalogue before after e v at more =
    ap entries_of (answers_more catalogue before after (answer.Entry e) more)
    ∙ flat_map-append entry_of (answers_in catalogue before) (answer_of (listed catalogue) (answer.Entry e) ∷ [])
    ∙ ap (λ (w : Version). entries_in catalogue before ++ w ∷ []) (numbered (listed catalogue) e.version v at)

pub listing_more : (catalogue request : List Line) (chosen seen : Set) (before after : InstallOrder) (e : Entry) (v : Version) (numbers : List ℕ) → slice_get (listed catalogue) e.version.0 ≡ Some v
    → after.answers.items ≡ before.answers.items ++ answer.Entry e ∷ [] → after.lines.items ≡ before.lines.items ++ lines_for e.version numbers → AreAll numbers (IsVersionLine (listed catalogue) catalogue e.version.0 BelongsTo)
    → Holds catalogue after.chosen chosen (entries_in catalogue before ++ v ∷ []) → OthersAreIdle catalogue request seen (entries_in catalogue before ++ v ∷ []) before.lines.items after.open_lines
    → IsListing catalogue request before chosen seen → IsListing catalogue request after chosen seen
listing_more catalogue request chosen seen before after e v numbers at more lines all h idle was =
    let now = entries_more catalogue before after e v at more in
    record {
      holds = subst (Holds catalogue after.chosen chosen) (sym now) h;
      lines = subst (λ (set : Set). AreLines catalogue request set after.lines.items) (sym now)
          (subst (AreLines catalogue request (entries_in catalogue before ++ v ∷ [])) (sym lines) (more_lines catalogue request (entries_in catalogue before) before.lines.items e.version v numbers at all was.lines));
      idle = subst (λ (set : Set). OthersAreIdle catalogue request seen set after.lines.items after.open_lines) (sym now)
          (subst (λ (rs : List Reason). OthersAreIdle catalogue request seen (entries_in catalogue before ++ v ∷ []) rs after.open_lines) (sym lines) (lines_added catalogue request seen (entries_in catalogue before ++ v ∷ []) before.lines.items (lines_for e.version numbers) after.open_lines idle));
      numbered = λ i x at_i. elim (get_push before.answers.items (answer.Entry e) x i (subst (λ (es : List Answer). slice_get es i ≡ Some x) more at_i)) [
        | inl old ↦ was.numbered i x old
        | inr new ↦ subst (λ (y : Answer). number_of y < length (listed catalogue)) new.1 (slice_get_within (listed catalogue) e.version.0 v at)
      ];
    }

-- ---- packages of what was added

pub entry_package : (versions : List Version) (n : ℕ) (v : Version) → slice_get versions n ≡ Some v → IsNumbered versions n (package_at versions n) v
entry_package versions n v at = (at, sym (ap (option_and_then (λ (w : Version). first_of versions w.name)) at))

pub choice_packages : (versions : List Version) (chosen : Set) (n : VersionNo) (w : Version) → Contains (chosen ++ members versions (n ∷ [])) w → Contains chosen w ⊎ IsNumbered versions n.0 (package_at versions n.0) w
choice_packages versions chosen n w c = elim (Contains-append_cases chosen (members versions (n ∷ [])) w c) [
  | inl old ↦ inl old
  | inr new ↦ inr (of (slice_get versions n.0) refl new)
]
  where
    of : (o : Option Version) → slice_get versions n.0 ≡ o → Contains (option_to_list o ++ []) w → IsNumbered versions n.0 (package_at versions n.0) w
    of None at here = absurd (no_element w here)
    of (Some v) at here = elim (element_cases v [] w here) [
      | inl same ↦ entry_package versions n.0 w (at ∙ ap Some same)
      | inr none ↦ absurd (no_element w none)
    ]

-- ---- wishes

-- a wish that is no entry
pub wish_listed : (catalogue request : List Line) (chosen seen : Set) (before after : InstallOrder) (line : ℕ) (n : VersionNo) → IsListing catalogue request before chosen seen → IsAccepted (listed catalogue) request chosen (Some (line, n))
    → is_unlisted before.chosen.listed.items n.0 ≡ not false → answers_in catalogue after ≡ answers_in catalogue before ++ answers.Entry (nth (listed catalogue) n) (answers.Wished line) ∷ []
    → answers_in catalogue after ≡ answers_in catalogue before ++ wish_entry (Some (line, nth (listed catalogue) n)) (entries_in catalogue before)
wish_listed catalogue request chosen seen before after line n h accepted unset more =
    let v = nth (listed catalogue) n in
    let E = entries_in catalogue before in
    let at : slice_get (listed catalogue) n.0 ≡ Some v = accepted.0.1 ∙ ap Some (sym (numbered (listed catalogue) n accepted.0.0 accepted.0.1)) in
    let out : is_member v E ≡ false = not_true (is_member v E) (sym (flag_means catalogue before.chosen chosen E n.0 v h.holds at) ∙ unset) in
    more ∙ ap (λ b. answers_in catalogue before ++ (if b then [] else answers.Entry v (answers.Wished line) ∷ [])) (sym out)
  where
    not_true : (b : _) → not b ≡ not false → b ≡ false
    not_true b e = elim (cases_Bool b) [ inl t ↦ absurd (false≢true (ap not (sym t) ∙ e)) | inr f ↦ f ]

-- a wish that is an entry
pub wish_is_entry : (catalogue request : List Line) (chosen seen : Set) (before : InstallOrder) (line : ℕ) (n : VersionNo) → IsListing catalogue request before chosen seen → IsAccepted (listed catalogue) request chosen (Some (line, n))
    → is_unlisted before.chosen.listed.items n.0 ≡ false → answers_in catalogue before ≡ answers_in catalogue before ++ wish_entry (Some (line, nth (listed catalogue) n)) (entries_in catalogue before)
wish_is_entry catalogue request chosen seen before line n h accepted is_set =
    let v = nth (listed catalogue) n in
    let E = entries_in catalogue before in
    let at : slice_get (listed catalogue) n.0 ≡ Some v = accepted.0.1 ∙ ap Some (sym (numbered (listed catalogue) n accepted.0.0 accepted.0.1)) in
    let among = not_false (is_member v E) (sym (flag_means catalogue before.chosen chosen E n.0 v h.holds at) ∙ is_set) in
    sym (append-nil (answers_in catalogue before)) ∙ ap (λ b. answers_in catalogue before ++ (if b then [] else answers.Entry v (answers.Wished line) ∷ [])) (sym among)
  where
    not_false : (b : _) → not b ≡ false → b ≡ not false
    not_false b e = elim (cases_Bool b) [ inl t ↦ t | inr f ↦ absurd (false≢true (sym e ∙ ap not f)) ]

-- a wish that is left out
pub left_out_more : (catalogue request : List Line) (chosen : Set) (before after : InstallOrder) (line : ℕ) (n : VersionNo) (step : ℕ) → after.chosen ≡ before.chosen → after.lines ≡ before.lines → after.open_lines ≡ before.open_lines
    → after.answers.items ≡ before.answers.items ++ answer.LeftOut n line step ∷ [] → n.0 < length (listed catalogue) → IsListing catalogue request before chosen chosen → TakesTurn catalogue request chosen (LeavesOut (line, nth (listed catalogue) n) step) before after
left_out_more catalogue request chosen before after line n step chosen_is lines_are idle_are more known h =
    let added : answers_in catalogue after ≡ answers_in catalogue before ++ answers.LeftOut (nth (listed catalogue) n) line step ∷ [] = answers_more catalogue before after (answer.LeftOut n line step) more in
    let same : entries_in catalogue after ≡ entries_in catalogue before =
    ap entries_of added ∙ flat_map-append entry_of (answers_in catalogue before) (answers.LeftOut (nth (listed catalogue) n) line step ∷ []) ∙ append-nil (entries_in catalogue before) in
    record {
      listing = record {
        holds = subst (Holds catalogue after.chosen chosen) (sym same) (subst (λ (kept : Chosen). Holds catalogue kept chosen (entries_in catalogue before)) (sym chosen_is) h.holds);
        lines = subst (λ (set : Set). AreLines catalogue request set after.lines.items) (sym same)
            (subst (λ (rs : List Reason). AreLines catalogue request (entries_in catalogue before) rs) (sym (ap (λ ls. ls.items) lines_are)) h.lines);
        idle = subst (λ (set : Set). OthersAreIdle catalogue request chosen set after.lines.items after.open_lines) (sym same)
            (subst (λ (rs : List Reason). OthersAreIdle catalogue request chosen (entries_in catalogue before) rs after.open_lines) (sym (ap (λ ls. ls.items) lines_are))
            (subst (OthersAreIdle catalogue request chosen (entries_in catalogue before) before.lines.items) (sym idle_are) h.idle));
        numbered = λ i x at_i. elim (get_push before.answers.items (answer.LeftOut n line step) x i (subst (λ (es : List Answer). slice_get es i ≡ Some x) more at_i)) [
          | inl old ↦ h.numbered i x old
          | inr new ↦ subst (λ (y : Answer). number_of y < length (listed catalogue)) new.1 known
        ];
      };
      others = answers.LeftOut (nth (listed catalogue) n) line step ∷ [];
      more = added;
      is_turn = refl;
    }
