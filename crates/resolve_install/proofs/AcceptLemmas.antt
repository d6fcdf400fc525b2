-- The report of listed lines and of steps is in the grammar, and the judge accepts it.
use Rattle.std.proofs.Common.{◌≡◌, ◌⊎◌, inl, inr, ℕ, zero, suc, ◌+◌, ◌≤◌, Bool, true, List, [], ◌∷◌, ◌++◌, map, take, length, Option, Some, None, refl, sym, ap, subst, ◌∙◌, append_assoc, arith}
use Rattle.std.specs.Prelude.{Contains, slice_get, if◌then◌else◌}
use Rattle.std.specs.List.{AllByRecursion}
use Rattle.std.specs.Option.{option_map, option_and_then}
use Rattle.std.proofs.lemmas.Bool.{eq-eqb}
use Rattle.std.proofs.lemmas.Option.{same_Some, none-some, slice_get-map}
use Rattle.std.proofs.lemmas.List.{append-nil}
use Rattle.std.proofs.lemmas.List.Concat.{flat_map-append}
use Rattle.resolvo_text.specs.Line.{Version, Line, Listed, Wish}
use Rattle.resolvo_text.specs.Matches.{Set}
use Rattle.resolvo_text.specs.Spelling.{IsNumber, IsVersion}
use Rattle.resolvo_catalogue_core.specs.Grammar.{AreCatalogueLines}
use Rattle.resolvo_catalogue_core.specs.Sets.{IsSingle}
use Rattle.resolvo_terms.proofs.Places.{at_from_contains}
use Rattle.resolve_order.proofs.Elements.{first_element}
use Rattle.resolvo_report.specs.Value.{Place, OfRequest, OfVersion, AnswerLine, Entry, Wished, LeftOut, Step, Install, ReportLine, InstallHead, Numbered, Answer}
use Rattle.resolvo_report.specs.Text.{numbered, report_lines, HasText, IsAnswer, IsPlace, IsStep}
use Rattle.resolvo_report.specs.Grammar.{part_after, may_end, IsReport}
use Rattle.resolvo_report.specs.declared.grammar.Part.{Part}
use Rattle.resolvo_report.specs.declared.grammar.Part.TheVariants as part
use Rattle.resolvo_checker.specs.Proof.{every_line, is_valid_step, IsProof}
use Rattle.resolvo_judge.specs.Entries.{entries_of, answer_fits}
use Rattle.resolvo_judge.specs.Refusal.{answer_in, step_in, answers_in, steps_in, passes, ArePassed, InstallEnds, IsAccepted}
use Rattle.resolve_install.specs.Install.{line_of}
use Rattle.resolve_install.proofs.FitLemmas.{AreRight, reasoned_by, from_one, inside_before, inside_after, reasoned_here}

-- ---- places in two lists

-- An item of two lists is one of the first, with the part above it, or is in the second.
get_parts : {X : Type 0} (xs ys : List X) (n : ℕ) (x : X) → slice_get (xs ++ ys) n ≡ Some x
    → ((slice_get xs n ≡ Some x) × (take n (xs ++ ys) ≡ take n xs)) ⊎ ((m : ℕ) × (slice_get ys m ≡ Some x) × (take n (xs ++ ys) ≡ xs ++ take m ys))
get_parts [] ys n x e = inr (n, e, refl)
get_parts (y ∷ xs) ys zero x e = inl (e, refl)
get_parts (y ∷ xs) ys (suc n) x e = elim (get_parts xs ys n x e) [
  | inl a ↦ inl (a.0, ap (λ zs. y ∷ zs) a.1)
  | inr r ↦ inr (r.0, r.1, ap (λ zs. y ∷ zs) r.2)
]

numbered_at : (first : ℕ) (steps : List Step) (m : ℕ) (l : ReportLine) → slice_get (numbered first steps) m ≡ Some l → (number : ℕ) × (t : Step) × (slice_get steps m ≡ Some t) × (l ≡ Numbered number t) × (take m (numbered first steps) ≡ numbered first (take m steps))
numbered_at first [] m l e = absurd cc
numbered_at first (s ∷ steps) zero l e = (first, s, refl, sym (same_Some (Numbered first s) l e), refl)
numbered_at first (s ∷ steps) (suc m) l e =
    let r = numbered_at (first + 1) steps m l e in
    (r.0, r.1, r.2, r.3, ap (λ (ls : List ReportLine). Numbered first s ∷ ls) r.4)

-- ---- the lines of the report

answers_written : (lines : List AnswerLine) → answers_in (map Answer lines) ≡ lines
answers_written [] = refl
answers_written (l ∷ lines) = ap (λ (xs : List AnswerLine). l ∷ xs) (answers_written lines)

answers_above : (lines : List AnswerLine) (k : ℕ) → answers_in (take k (map Answer lines)) ≡ take k lines
answers_above lines zero = refl
answers_above [] (suc k) = refl
answers_above (l ∷ lines) (suc k) = ap (λ (xs : List AnswerLine). l ∷ xs) (answers_above lines k)

no_steps : (lines : List AnswerLine) → steps_in (map Answer lines) ≡ []
no_steps [] = refl
no_steps (l ∷ lines) = no_steps lines

no_answers : (first : ℕ) (steps : List Step) → answers_in (numbered first steps) ≡ []
no_answers first [] = refl
no_answers first (s ∷ steps) = no_answers (first + 1) steps

steps_written : (first : ℕ) (steps : List Step) → steps_in (numbered first steps) ≡ steps
steps_written first [] = refl
steps_written first (s ∷ steps) = ap (λ (ss : List Step). s ∷ ss) (steps_written (first + 1) steps)

-- the answers of the report's lines
all_answers : (lines : List AnswerLine) (first : ℕ) (steps : List Step) → answers_in (map Answer lines ++ numbered first steps) ≡ lines
all_answers lines first steps = flat_map-append answer_in (map Answer lines) (numbered first steps) ∙ (λ i. answers_written lines i ++ no_answers first steps i) ∙ append-nil lines

all_steps : (lines : List AnswerLine) (first : ℕ) (steps : List Step) → steps_in (map Answer lines ++ numbered first steps) ≡ steps
all_steps lines first steps = flat_map-append step_in (map Answer lines) (numbered first steps) ∙ (λ i. no_steps lines i ++ steps_written first steps i)

module _ (catalogue request : List Line) (lines : List AnswerLine) (steps : List Step) (fit : (k : ℕ) (a : AnswerLine) → slice_get lines k ≡ Some a → answer_fits catalogue request (take k lines) a ≡ true)
    (proof : IsProof catalogue request every_line every_line steps) where
  answer_passes : (k : ℕ) (l : ReportLine) (o : Option AnswerLine) → slice_get lines k ≡ o → option_map Answer o ≡ Some l → passes catalogue request (InstallHead ∷ take k (map Answer lines)) l ≡ true
  answer_passes k l None at e = absurd (none-some l e)
  answer_passes k l (Some a) at e =
      subst (λ (x : ReportLine). passes catalogue request (InstallHead ∷ take k (map Answer lines)) x ≡ true) (same_Some (Answer a) l e)
      (subst (λ (xs : List AnswerLine). answer_fits catalogue request xs a ≡ true) (sym (answers_above lines k)) (fit k a at))

  step_passes : (m number : ℕ) (t : Step) → slice_get steps m ≡ Some t → passes catalogue request (InstallHead ∷ (map Answer lines ++ numbered 1 (take m steps))) (Numbered number t) ≡ true
  step_passes m number t at = subst (λ (ss : List Step). is_valid_step catalogue request every_line every_line ss t ≡ true) (sym (all_steps lines 1 (take m steps))) (proof m t at)

  all_pass : ArePassed catalogue request (InstallHead ∷ (map Answer lines ++ numbered 1 steps))
  all_pass zero l e = subst (λ (x : ReportLine). passes catalogue request [] x ≡ true) (same_Some InstallHead l e) refl
  all_pass (suc k) l e = elim (get_parts (map Answer lines) (numbered 1 steps) k l e) [
    | inl a ↦ ap (λ (ls : List ReportLine). passes catalogue request (InstallHead ∷ ls) l) a.1 ∙ answer_passes k l (slice_get lines k) refl (sym (slice_get-map Answer lines k) ∙ a.0)
    | inr r ↦ (
        let n = numbered_at 1 steps r.0 l r.1 in
        ap (λ (ls : List ReportLine). passes catalogue request (InstallHead ∷ ls) l) (r.2 ∙ ap (λ (ls : List ReportLine). map Answer lines ++ ls) n.4)
        ∙ (ap (passes catalogue request (InstallHead ∷ (map Answer lines ++ numbered 1 (take r.0 steps)))) n.3 ∙ step_passes r.0 n.0 n.1 n.2)
        )
  ]

  -- where each line fits and the end is right, the report is accepted
  pub accepted : InstallEnds catalogue request lines steps → IsAccepted catalogue request (report_lines (Install lines steps))
  accepted ends = record {
    passed = all_pass;
    ends = subst (λ (xs : List AnswerLine). InstallEnds catalogue request xs (steps_in (map Answer lines ++ numbered 1 steps))) (sym (all_answers lines 1 steps))
        (subst (λ (ss : List Step). InstallEnds catalogue request lines ss) (sym (all_steps lines 1 steps)) ends);
  }

-- ---- the grammar

placed_steps : (count : ℕ) (steps : List Step) → part_after (part.InstallSteps count) (numbered (count + 1) steps) ≡ Some (part.InstallSteps (count + length steps))
placed_steps count [] = ap (λ (n : ℕ). Some (part.InstallSteps n)) (omega arith)
placed_steps count (s ∷ steps) =
    ap (λ (b : Bool). option_and_then (λ q. part_after q (numbered (count + 1 + 1) steps)) (if b then Some (part.InstallSteps (count + 1)) else None)) (eq-eqb (count + 1) (count + 1) refl)
    ∙ (placed_steps (count + 1) steps ∙ ap (λ (n : ℕ). Some (part.InstallSteps n)) (omega arith))

-- the part of a report with so many steps
abbrev part_with : List Step → Part
part_with [] = part.Answers
part_with (s ∷ steps) = part.InstallSteps (1 + length steps)

placed : (lines : List AnswerLine) (steps : List Step) → part_after part.Answers (map Answer lines ++ numbered 1 steps) ≡ Some (part_with steps)
placed [] [] = refl
placed [] (s ∷ steps) = placed_steps 1 steps
placed (l ∷ lines) steps = placed lines steps

ends_there : (steps : List Step) → may_end (part_with steps) ≡ true
ends_there [] = refl
ends_there (s ∷ steps) = refl

all_append : {X : Type 0} (P : X → Type 0) (xs ys : List X) → AllByRecursion P xs → AllByRecursion P ys → AllByRecursion P (xs ++ ys)
all_append P [] ys a b = b
all_append P (x ∷ xs) ys a b = (a.0, all_append P xs ys a.1 b)

one_of : {X : Type 0} (P : X → Type 0) (prefix : List X) (x : X) (back : List X) → AllByRecursion P (prefix ++ x ∷ back) → P x
one_of P [] x back h = h.0
one_of P (y ∷ prefix) x back h = one_of P prefix x back h.1

step_texts : (first : ℕ) (steps : List Step) → AllByRecursion IsStep steps → first + length steps ≤ 4294967296 → AllByRecursion HasText (numbered first steps)
step_texts first [] each most = tt
step_texts first (s ∷ steps) each most = ((omega (arith, most), each.0), step_texts (first + 1) steps each.1 (omega (arith, most)))

module _ (catalogue request : List Line) (steps : List Step) (set : Set) (lines : List AnswerLine) (single : IsSingle catalogue set) (right : AreRight catalogue request steps set lines) (grammatical : AreCatalogueLines catalogue) where
  -- a listed version has a text
  version_has : (v : Version) → Contains catalogue (Listed v) → IsVersion v
  version_has v c = let at = at_from_contains catalogue (Listed v) c in (grammatical at.0 (Listed v) at.1).1.parsed.form

  place_has : (earlier : Set) (place : Place) → ((w : Version) → place ≡ OfVersion w → Contains earlier w) → ((w : Version) → Contains earlier w → Contains set w) → IsPlace place
  place_has earlier OfRequest owner above = tt
  place_has earlier (OfVersion w) owner above = version_has w (single.listed w (above w (owner w refl)))

  module _ (numbers : AllByRecursion (λ l. IsNumber (line_of l)) lines)
      (left : (above below : List AnswerLine) (v : Version) (n step : ℕ) → lines ≡ above ++ LeftOut v n step ∷ below → Contains catalogue (Listed v) × (1 ≤ step) × IsNumber step) where
    has_text : (before : List AnswerLine) (a : AnswerLine) (below : List AnswerLine) → lines ≡ before ++ a ∷ below → IsNumber (line_of a) → IsAnswer a
    has_text before (Entry v place n) below is number =
        let t = reasoned_by catalogue request (entries_of before) v place n below (reasoned_here catalogue request steps set lines single right before (Entry v place n) below is) in
        let inside = inside_after catalogue request steps set lines single right before (Entry v place n) below is v (first_element v (entries_of below)) in
        (version_has v (single.listed v inside), place_has (entries_of before) place t.owner (inside_before catalogue request steps set lines single right before (Entry v place n) below is), (t.line, number))
    has_text before (Wished v n) below is number =
        let has_reason = reasoned_here catalogue request steps set lines single right before (Wished v n) below is in
        let inside = inside_after catalogue request steps set lines single right before (Wished v n) below is v (first_element v (entries_of below)) in
        (version_has v (single.listed v inside), (from_one request n (Wish v) has_reason.1, number))
    has_text before (LeftOut v n step) below is number =
        let l = left before below v n step is in
        (version_has v l.0, (from_one request n (Wish v) (right.wished before below v n step is), number), (l.1, l.2))

    have_text : (prefix back : List AnswerLine) → lines ≡ prefix ++ back → AllByRecursion HasText (map Answer back)
    have_text prefix [] is = tt
    have_text prefix (a ∷ back) is = (
      has_text prefix a back is (one_of (λ l. IsNumber (line_of l)) prefix a back (subst (AllByRecursion (λ l. IsNumber (line_of l))) is numbers)),
      have_text (prefix ++ a ∷ []) back (is ∙ sym (append_assoc prefix (a ∷ []) back)),
    )

    -- the report is in the grammar
    pub in_grammar : AllByRecursion IsStep steps → IsNumber (length steps) → IsReport (Install lines steps)
    in_grammar texts most = record {
      part = part_with steps;
      lines = record {
        each = (tt, all_append HasText (map Answer lines) (numbered 1 steps) (have_text [] lines refl) (step_texts 1 steps texts (omega (arith, most))));
        placed = placed lines steps;
      };
      whole = ends_there steps;
    }
