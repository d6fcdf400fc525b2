-- Other bytes in a line of message leave the place where a text is refused.
use Rattle.std.proofs.Common.{◌≡◌, inl, inr, ◌⊎◌, ⊎_elim, ℕ, zero, suc, ◌<◌, ◌≤◌, List, [], ◌∷◌, ◌++◌, take, length, Bool, Option, Some, None, refl, sym, ◌∙◌, ap, subst, arith, append_assoc, length-append}
use Rattle.std.specs.Prelude.{codes, true, slice_get, option_and_then, IsTrue, if◌then◌else◌}
use Rattle.std.specs.List.{AllByRecursion, flat_map}
use Rattle.std.proofs.lemmas.Bool.{cases_lt}
use Rattle.std.proofs.lemmas.Option.{same_Some}
use Rattle.std.proofs.lemmas.List.Concat.{flat_map-append}
use Rattle.resolvo_text.specs.Line.{Line}
use Rattle.resolvo_report.specs.Value.{AnswerLine, Step, ReportLine, InstallHead, RefusedHead, Answer, CatalogueLine, RequestLine, Numbered, Message}
use Rattle.resolvo_report.specs.Text.{line_text, lines_text, HasText}
use Rattle.resolvo_report.specs.Grammar.{next_part, part_after}
use Rattle.resolvo_report.specs.declared.grammar.Part.{Part}
use Rattle.resolvo_report.specs.declared.grammar.Part.TheVariants as part
use Rattle.resolvo_report.proofs.StreamLemmas.{first_newline}
use Rattle.resolvo_report.proofs.WholeLines.{line_has_no_newline, same_line}
use Rattle.resolvo_checker.specs.Proof.{is_valid_step, is_named, ends_empty}
use Rattle.resolvo_judge.specs.Entries.{answer_fits}
use Rattle.resolvo_judge.specs.Refusal.{answer_in, answers_in, step_in, steps_in, catalogue_line_in, catalogue_lines_in, request_line_in, request_lines_in, is_refusal, may_rest, passes, InstallEnds, Ends, ArePassed}
use Rattle.resolvo_judge.specs.Judgement.{HoldsOn, IsRefusedAt}
use Rattle.resolvo_judge.proofs.PlaceLaws.{splits, line_first}

-- ---- lines with a message line among them: its bytes don't matter

module _ (bytes other : List ℕ) where
  same_part : (p : Part) → next_part p (Message bytes) ≡ next_part p (Message other)
  same_part part.Start = refl
  same_part part.Answers = refl
  same_part (part.InstallSteps n) = refl
  same_part (part.Catalogue n) = refl
  same_part (part.Request n) = refl
  same_part (part.RefusedSteps n) = refl
  same_part part.Message = refl

  same_parts : (p : Part) (prefix back : List ReportLine) → part_after p (prefix ++ Message bytes ∷ back) ≡ part_after p (prefix ++ Message other ∷ back)
  same_parts p [] back = ap (λ (o : Option Part). option_and_then (λ q. part_after q back) o) (same_part p)
  same_parts p (l ∷ prefix) back = go (λ q. same_parts q prefix back) (next_part p l)
    where
      go : ((q : Part) → part_after q (prefix ++ Message bytes ∷ back) ≡ part_after q (prefix ++ Message other ∷ back)) → (o : Option Part)
          → option_and_then (λ q. part_after q (prefix ++ Message bytes ∷ back)) o ≡ option_and_then (λ q. part_after q (prefix ++ Message other ∷ back)) o
      go again None = refl
      go again (Some q) = again q

  pub same_lists : {X : Type 0} (f : ReportLine → List X) → f (Message bytes) ≡ f (Message other) → (prefix back : List ReportLine) → flat_map f (prefix ++ Message bytes ∷ back) ≡ flat_map f (prefix ++ Message other ∷ back)
  same_lists {X} f is [] back = ap (λ (xs : List X). xs ++ flat_map f back) is
  same_lists {X} f is (l ∷ prefix) back = ap (λ (xs : List X). f l ++ xs) (same_lists f is prefix back)

  pub same_refusal : (prefix back : List ReportLine) → is_refusal (prefix ++ Message bytes ∷ back) ≡ is_refusal (prefix ++ Message other ∷ back)
  same_refusal [] back = refl
  same_refusal (InstallHead ∷ prefix) back = refl
  same_refusal (RefusedHead ∷ prefix) back = refl
  same_refusal (Answer a ∷ prefix) back = refl
  same_refusal (CatalogueLine n ∷ prefix) back = refl
  same_refusal (RequestLine n ∷ prefix) back = refl
  same_refusal (Numbered n s ∷ prefix) back = refl
  same_refusal (Message b ∷ prefix) back = refl

  each_swapped : (prefix back : List ReportLine) → HasText (Message other) → AllByRecursion HasText (prefix ++ Message bytes ∷ back) → AllByRecursion HasText (prefix ++ Message other ∷ back)
  each_swapped [] back fits all = (fits, all.1)
  each_swapped (l ∷ prefix) back fits all = (all.0, each_swapped prefix back fits all.1)

  module _ (catalogue request : List Line) where
    pub same_rest : (f : ReportLine → List ℕ) → f (Message bytes) ≡ f (Message other) → (prefix back : List ReportLine) (n : ℕ)
        → may_rest (prefix ++ Message bytes ∷ back) (flat_map f (prefix ++ Message bytes ∷ back)) n ≡ may_rest (prefix ++ Message other ∷ back) (flat_map f (prefix ++ Message other ∷ back)) n
    same_rest f is prefix back n =
        ap (λ (xs : List ℕ). may_rest (prefix ++ Message bytes ∷ back) xs n) (same_lists f is prefix back)
        ∙ ap (λ (b : Bool). if b then is_named (flat_map f (prefix ++ Message other ∷ back)) n else true) (same_refusal prefix back)

    same_passes : (prefix back : List ReportLine) (l : ReportLine) → passes catalogue request (prefix ++ Message bytes ∷ back) l ≡ passes catalogue request (prefix ++ Message other ∷ back) l
    same_passes prefix back InstallHead = refl
    same_passes prefix back RefusedHead = refl
    same_passes prefix back (Answer a) = ap (λ (xs : List AnswerLine). answer_fits catalogue request xs a) (same_lists answer_in refl prefix back)
    same_passes prefix back (CatalogueLine n) = refl
    same_passes prefix back (RequestLine n) = refl
    same_passes prefix back (Numbered n s) =
        let before : List ReportLine = prefix ++ Message bytes ∷ back in
        let after : List ReportLine = prefix ++ Message other ∷ back in
        ap (λ (c : ℕ → Bool). is_valid_step catalogue request c (may_rest before (request_lines_in before)) (steps_in before) s) (λ i k. same_rest catalogue_line_in refl prefix back k i)
        ∙ ap (λ (r : ℕ → Bool). is_valid_step catalogue request (may_rest after (catalogue_lines_in after)) r (steps_in before) s) (λ i k. same_rest request_line_in refl prefix back k i)
        ∙ ap (λ (xs : List Step). is_valid_step catalogue request (may_rest after (catalogue_lines_in after)) (may_rest after (request_lines_in after)) xs s) (same_lists step_in refl prefix back)
    same_passes prefix back (Message b) = refl

    installed : (prefix back : List ReportLine) → InstallEnds catalogue request (answers_in (prefix ++ Message bytes ∷ back)) (steps_in (prefix ++ Message bytes ∷ back)) → InstallEnds catalogue request (answers_in (prefix ++ Message other ∷ back)) (steps_in (prefix ++ Message other ∷ back))
    installed prefix back ends =
        subst (λ (xs : List Step). InstallEnds catalogue request (answers_in (prefix ++ Message other ∷ back)) xs) (same_lists step_in refl prefix back)
        (subst (λ (xs : List AnswerLine). InstallEnds catalogue request xs (steps_in (prefix ++ Message bytes ∷ back))) (same_lists answer_in refl prefix back) ends)

    same_ends : (prefix back : List ReportLine) → Ends catalogue request (prefix ++ Message bytes ∷ back) → Ends catalogue request (prefix ++ Message other ∷ back)
    same_ends [] back ends = installed [] back ends
    same_ends (RefusedHead ∷ prefix) back ends = subst (λ (xs : List Step). IsTrue (ends_empty xs)) (same_lists step_in refl prefix back) ends
    same_ends (InstallHead ∷ prefix) back ends = installed (InstallHead ∷ prefix) back ends
    same_ends (Answer a ∷ prefix) back ends = installed (Answer a ∷ prefix) back ends
    same_ends (CatalogueLine n ∷ prefix) back ends = installed (CatalogueLine n ∷ prefix) back ends
    same_ends (RequestLine n ∷ prefix) back ends = installed (RequestLine n ∷ prefix) back ends
    same_ends (Numbered n s ∷ prefix) back ends = installed (Numbered n s ∷ prefix) back ends
    same_ends (Message b ∷ prefix) back ends = installed (Message b ∷ prefix) back ends

    same_holds : (prefix back : List ReportLine) (p : Part) (below : List ℕ) → HoldsOn catalogue request (prefix ++ Message bytes ∷ back) p below → HoldsOn catalogue request (prefix ++ Message other ∷ back) p below
    same_holds prefix back p below holds = ⊎_elim
        (λ h. inl (h.0, h.1, h.2, h.3, h.4, h.5, sym (same_passes prefix back h.0) ∙ h.6))
        (λ h. inr (h.0, h.1, same_ends prefix back h.2)) holds

    -- the lines above a place
    above_swapped : (prefix back : List ReportLine) (n : ℕ) → (take n (prefix ++ Message bytes ∷ back) ≡ take n (prefix ++ Message other ∷ back))
        ⊎ ((rest : List ReportLine) × (take n (prefix ++ Message bytes ∷ back) ≡ prefix ++ Message bytes ∷ rest) × (take n (prefix ++ Message other ∷ back) ≡ prefix ++ Message other ∷ rest))
    above_swapped [] back zero = inl refl
    above_swapped [] back (suc n) = inr (take n back, refl, refl)
    above_swapped (l ∷ prefix) back zero = inl refl
    above_swapped (l ∷ prefix) back (suc n) = elim (above_swapped prefix back n) [
      | inl e ↦ inl (ap (λ (xs : List ReportLine). l ∷ xs) e)
      | inr h ↦ inr (h.0, ap (λ (xs : List ReportLine). l ∷ xs) h.1, ap (λ (xs : List ReportLine). l ∷ xs) h.2)
    ]

    -- the line at a place
    at_swapped : (prefix back : List ReportLine) (n : ℕ) (l : ReportLine) → slice_get (prefix ++ Message other ∷ back) n ≡ Some l → (slice_get (prefix ++ Message bytes ∷ back) n ≡ Some l) ⊎ (Message other ≡ l)
    at_swapped [] back zero l e = inr (same_Some (Message other) l e)
    at_swapped [] back (suc n) l e = inl e
    at_swapped (k ∷ prefix) back zero l e = inl e
    at_swapped (k ∷ prefix) back (suc n) l e = at_swapped prefix back n l e

    passed_swapped : (prefix back : List ReportLine) → ArePassed catalogue request (prefix ++ Message bytes ∷ back) → ArePassed catalogue request (prefix ++ Message other ∷ back)
    passed_swapped prefix back passed n l at = elim (at_swapped prefix back n l at) [
      | inr is ↦ subst (λ (x : ReportLine). passes catalogue request (take n (prefix ++ Message other ∷ back)) x ≡ true) is refl
      | inl there ↦ elim (above_swapped prefix back n) [
        | inl same ↦ subst (λ (xs : List ReportLine). passes catalogue request xs l ≡ true) same (passed n l there)
        | inr h ↦ ap (λ (xs : List ReportLine). passes catalogue request xs l) h.2 ∙ sym (same_passes prefix h.0 l) ∙ ap (λ (xs : List ReportLine). passes catalogue request xs l) (sym h.1) ∙ passed n l there
      ]
    ]

-- ---- the text

module _ (catalogue request : List Line) (bytes other : List ℕ) (fits : HasText (Message bytes)) (too : HasText (Message other)) (below : List ℕ) where
  abbrev line_of : ReportLine → List ℕ
  line_of l = line_text l ++ codes "\n"

  some_byte : (l : ReportLine) (ls : List ReportLine) (rest : List ℕ) → lines_text (l ∷ ls) ++ rest ≡ [] → ⊥
  some_byte l ls rest e = omega (arith, ap (λ (xs : List ℕ). length xs) (sym (line_first l ls rest) ∙ e), length-append (line_text l) (10 ∷ (lines_text ls ++ rest)))

  seam : (above : List ReportLine) (m : List ℕ) → lines_text (above ++ Message m ∷ []) ++ below ≡ lines_text above ++ (lines_text (Message m ∷ []) ++ below)
  seam above m = ap (λ (t : List ℕ). t ++ below) (flat_map-append line_of above (Message m ∷ [])) ∙ append_assoc (lines_text above) (lines_text (Message m ∷ [])) below

  -- a text that begins with a line that passes
  first_is : (above : List ReportLine) (p : Part) (l : ReportLine) (ls : List ReportLine) (rest text : List ℕ) → HasText l → text ≡ lines_text (l ∷ ls) ++ rest → HoldsOn catalogue request above p text
      → ((q : Part) × (next_part p l ≡ Some q) × (passes catalogue request above l ≡ true))
  first_is above p l ls rest text has e holds = ⊎_elim
      (λ h.
      let first = first_newline (line_text l) (line_text h.0) (lines_text ls ++ rest) h.1 (line_has_no_newline l has) (line_has_no_newline h.0 h.3) (sym (line_first l ls rest) ∙ sym e ∙ h.5 ∙ append_assoc (line_text h.0) (codes "\n") h.1) in
      let same : l ≡ h.0 = same_line l h.0 has h.3 first.0 in
      (h.2, ap (next_part p) same ∙ h.4, ap (passes catalogue request above) same ∙ h.6))
      (λ h. absurd (some_byte l ls rest (sym e ∙ h.0))) holds

  begins : (above : List ReportLine) (p q : Part) (l : ReportLine) (ls : List ReportLine) (rest : List ℕ) → HasText l → next_part p l ≡ Some q → passes catalogue request above l ≡ true → HoldsOn catalogue request above p (lines_text (l ∷ ls) ++ rest)
  begins above p q l ls rest has next pass = inl (l, lines_text ls ++ rest, q, has, next, line_first l ls rest ∙ sym (append_assoc (line_text l) (codes "\n") (lines_text ls ++ rest)), pass)

  swapped_below : (above : List ReportLine) (p : Part) (more : List ReportLine) → AllByRecursion HasText more → HoldsOn catalogue request above p (lines_text more ++ (lines_text (Message other ∷ []) ++ below)) → HoldsOn catalogue request above p (lines_text more ++ (lines_text (Message bytes ∷ []) ++ below))
  swapped_below above p [] all holds =
      let f = first_is above p (Message other) [] below (lines_text (Message other ∷ []) ++ below) too refl holds in
      begins above p f.0 (Message bytes) [] below fits (same_part bytes other p ∙ f.1) refl
  swapped_below above p (l ∷ ls) all holds =
      let text : List ℕ = lines_text (l ∷ ls) ++ (lines_text (Message other ∷ []) ++ below) in
      let f = first_is above p l ls (lines_text (Message other ∷ []) ++ below) text all.0 refl holds in
      begins above p f.0 l ls (lines_text (Message bytes ∷ []) ++ below) all.0 f.1 f.2

  each_more : (xs ys : List ReportLine) → AllByRecursion HasText (xs ++ ys) → AllByRecursion HasText ys
  each_more [] ys h = h
  each_more (x ∷ xs) ys h = each_more xs ys h.1

  each_push : (xs : List ReportLine) (l : ReportLine) → AllByRecursion HasText xs → HasText l → AllByRecursion HasText (xs ++ l ∷ [])
  each_push [] l all has = (has, tt)
  each_push (x ∷ xs) l all has = (all.0, each_push xs l all.1 has)

  -- below the place where it is refused
  refused_above : (above : List ReportLine) (n : ℕ) → AllByRecursion HasText above → (r : IsRefusedAt catalogue request (lines_text (above ++ Message bytes ∷ []) ++ below) n) → length r.above ≤ length above → IsRefusedAt catalogue request (lines_text (above ++ Message other ∷ []) ++ below) n
  refused_above above n all r le =
      let s = splits r.above above r.below (lines_text (Message bytes ∷ []) ++ below) r.good.each all le (sym (seam above bytes) ∙ r.parts) in
      let rest : List ℕ = lines_text (Message other ∷ []) ++ below in
      let more : AllByRecursion HasText s.more = each_more r.above s.more (subst (λ (ls : List ReportLine). AllByRecursion HasText ls) s.parts all) in
      record {
        above = r.above;
        below = lines_text s.more ++ rest;
        part = r.part;
        parts = seam above other ∙ ap (λ (ls : List ReportLine). lines_text ls ++ rest) s.parts ∙ ap (λ (t : List ℕ). t ++ rest) (flat_map-append line_of r.above s.more) ∙ append_assoc (lines_text r.above) (lines_text s.more) rest;
        good = r.good;
        passed = r.passed;
        place = r.place;
        none = λ h. r.none (subst (λ (t : List ℕ). HoldsOn catalogue request r.above r.part t) (sym s.left) (swapped_below r.above r.part s.more more h));
      }

  -- above it
  refused_below : (above : List ReportLine) (n : ℕ) → AllByRecursion HasText above → (r : IsRefusedAt catalogue request (lines_text (above ++ Message bytes ∷ []) ++ below) n) → length above < length r.above → IsRefusedAt catalogue request (lines_text (above ++ Message other ∷ []) ++ below) n
  refused_below above n all r lt =
      let prefix : List ReportLine = above ++ Message bytes ∷ [] in
      let long : length prefix ≤ length r.above = omega (arith, lt, length-append above (Message bytes ∷ [])) in
      let s = splits prefix r.above below r.below (each_push above (Message bytes) all fits) r.good.each long (sym r.parts) in
      let is : r.above ≡ above ++ Message bytes ∷ s.more = s.parts ∙ append_assoc above (Message bytes ∷ []) s.more in
      record {
        above = above ++ Message other ∷ s.more;
        below = r.below;
        part = r.part;
        parts =
            ap (λ (b : List ℕ). lines_text (above ++ Message other ∷ []) ++ b) s.left ∙ sym (append_assoc (lines_text (above ++ Message other ∷ [])) (lines_text s.more) r.below)
            ∙ ap (λ (t : List ℕ). t ++ r.below) (sym (flat_map-append line_of (above ++ Message other ∷ []) s.more) ∙ ap (λ (ls : List ReportLine). lines_text ls) (append_assoc above (Message other ∷ []) s.more));
        good = record {
          each = each_swapped bytes other above s.more too (subst (λ (ls : List ReportLine). AllByRecursion HasText ls) is r.good.each);
          placed = sym (same_parts bytes other part.Start above s.more) ∙ (ap (part_after part.Start) (sym is) ∙ r.good.placed);
        };
        passed = passed_swapped bytes other catalogue request above s.more (subst (ArePassed catalogue request) is r.passed);
        place = omega (arith, r.place, ap (λ (ls : List ReportLine). length ls) is, length-append above (Message bytes ∷ s.more), length-append above (Message other ∷ s.more));
        none = λ h. r.none (subst (λ (ls : List ReportLine). HoldsOn catalogue request ls r.part r.below) (sym is) (same_holds other bytes catalogue request above s.more r.part r.below h));
      }

  pub refused_with : (above : List ReportLine) (n : ℕ) → AllByRecursion HasText above → IsRefusedAt catalogue request (lines_text (above ++ Message bytes ∷ []) ++ below) n → IsRefusedAt catalogue request (lines_text (above ++ Message other ∷ []) ++ below) n
  refused_with above n all r = elim (cases_lt (length above) (length r.above)) [
    | inl lt ↦ refused_below above n all r lt
    | inr ge ↦ refused_above above n all r ge
  ]
