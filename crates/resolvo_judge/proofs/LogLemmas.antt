-- What is kept of the lines of a report, as one line more is taken.
use Rattle.std.proofs.Common.{◌≡◌, ℕ, Bool, true, false, List, [], ◌∷◌, ◌++◌, Option, refl, sym, ap, subst, ◌∙◌, cond, eqb}
use Rattle.std.specs.Prelude.{◌||◌}
use Rattle.std.specs.Global.{Vec}
use Rattle.std.specs.List.{flat_map}
use Rattle.std.proofs.lemmas.List.{append-nil}
use Rattle.std.proofs.lemmas.List.Concat.{flat_map-append}
use Rattle.resolvo_text.specs.Line.{Line}
use Rattle.resolvo_report.specs.Value.{AnswerLine, ReportLine, InstallHead, RefusedHead, CatalogueLine, RequestLine, Numbered, Message, Step}
use Rattle.resolvo_report.specs.Value as line
use Rattle.resolvo_checker.specs.Kept.{Kept}
use Rattle.resolvo_checker.specs.declared.check_step.Premises.{Premises}
use Rattle.resolvo_checker.specs.Proof.{is_valid_step, is_named, derives_empty, ends_empty}
use Rattle.resolvo_checker.specs.CheckStep.{names_catalogue, names_request, CheckerInvariant}
use Rattle.resolvo_judge.specs.Refusal.{answer_in, answers_in, step_in, steps_in, catalogue_line_in, catalogue_lines_in, request_line_in, request_lines_in, is_refusal, may_rest, passes}
use Rattle.resolvo_judge.specs.Log.{LogInvariant}

-- a line that isn't the head of a refusal makes none
pub refusal_more : (above : List ReportLine) (l : ReportLine) → is_refusal (l ∷ []) ≡ false → is_refusal (above ++ l ∷ []) ≡ is_refusal above
refusal_more [] l h = h
refusal_more (InstallHead ∷ above) l h = refl
refusal_more (RefusedHead ∷ above) l h = refl
refusal_more (line.Answer a ∷ above) l h = refl
refusal_more (CatalogueLine n ∷ above) l h = refl
refusal_more (RequestLine n ∷ above) l h = refl
refusal_more (Numbered n s ∷ above) l h = refl
refusal_more (Message b ∷ above) l h = refl

pub one_more : {X : Type 0} (f : ReportLine → List X) (above : List ReportLine) (l : ReportLine) (xs : List X) → f l ≡ xs → flat_map f (above ++ l ∷ []) ≡ flat_map f above ++ xs
one_more f above l xs h = flat_map-append f above (l ∷ []) ∙ ap (λ ys. flat_map f above ++ ys) (append-nil (f l) ∙ h)

ends_push : (steps : List Step) (s : Step) → ends_empty (steps ++ s ∷ []) ≡ derives_empty s
ends_push [] s = refl
ends_push (x ∷ []) s = refl
ends_push (x ∷ y ∷ steps) s = ends_push (y ∷ steps) s

rest_more : (above : List ReportLine) (n : ℕ) (s : Step) (f : ReportLine → List ℕ) → f (Numbered n s) ≡ [] → (k : ℕ) → may_rest (above ++ Numbered n s ∷ []) (flat_map f (above ++ Numbered n s ∷ [])) k ≡ may_rest above (flat_map f above) k
rest_more above n s f none k =
    ap (λ xs. may_rest (above ++ Numbered n s ∷ []) xs k) (one_more f above (Numbered n s) [] none ∙ append-nil (flat_map f above))
    ∙ ap (λ b. cond b (is_named (flat_map f above) k) true) (refusal_more above (Numbered n s) refl)

module _ (catalogue request : List Line) (entries : List (Vec ℕ × ℕ)) (clauses : List Kept) (places : List (Option ℕ)) (rules : List (Vec ℕ × ℕ)) (scope : Premises) (empty : Bool) (above : List ReportLine) (represents : LogInvariant catalogue request entries clauses places rules scope empty above) where
  -- a step passes exactly where it is valid after the steps so far
  pub passes_so : (n : ℕ) (s : Step) → is_valid_step catalogue request (names_catalogue scope) (names_request scope) (steps_in above) s ≡ passes catalogue request above (Numbered n s)
  passes_so n s =
      ap (λ (c : ℕ → Bool). is_valid_step catalogue request c (names_request scope) (steps_in above) s) (λ i k. represents.catalogue_lines k i)
      ∙ ap (λ (r : ℕ → Bool). is_valid_step catalogue request (may_rest above (catalogue_lines_in above)) r (steps_in above) s) (λ i k. represents.request_lines k i)

  pub step_more : (new : List (Vec ℕ × ℕ)) (more : List Kept) (after : List (Option ℕ)) (found : List (Vec ℕ × ℕ)) (n : ℕ) (s : Step) → CheckerInvariant catalogue request new more after found (steps_in above ++ s ∷ []) → LogInvariant catalogue request new more after found scope (derives_empty s) (above ++ Numbered n s ∷ [])
  step_more new more after found n s kept = record {
    steps = subst (λ (xs : List Step). CheckerInvariant catalogue request new more after found xs) (sym (one_more step_in above (Numbered n s) (s ∷ []) refl)) kept;
    catalogue_lines = λ k. represents.catalogue_lines k ∙ sym (rest_more above n s catalogue_line_in refl k);
    request_lines = λ k. represents.request_lines k ∙ sym (rest_more above n s request_line_in refl k);
    ends = sym (ap ends_empty (one_more step_in above (Numbered n s) (s ∷ []) refl) ∙ ends_push (steps_in above) s);
  }

  -- ---- named lines

  named_push : (xs : List ℕ) (m n : ℕ) → is_named (xs ++ m ∷ []) n ≡ (eqb m n || is_named xs n)
  named_push [] m n = refl
  named_push (x ∷ xs) m n = ap (λ b. eqb x n || b) (named_push xs m n) ∙ swap (eqb x n) (eqb m n) (is_named xs n) where
    swap : (a b c : Bool) → (a || (b || c)) ≡ (b || (a || c))
    swap true true c = refl
    swap true false c = refl
    swap false b c = refl

  rest_named : (b : Bool) (xs : List ℕ) (m n : ℕ) (old : Bool) → old ≡ cond b (is_named xs n) true → (eqb m n || old) ≡ cond b (is_named (xs ++ m ∷ []) n) true
  rest_named true xs m n old h = ap (λ o. eqb m n || o) h ∙ sym (named_push xs m n)
  rest_named false xs m n old h = ap (λ o. eqb m n || o) h ∙ always (eqb m n) where
    always : (a : Bool) → (a || true) ≡ true
    always true = refl
    always false = refl

  -- a line that gives no step, of which f gives these lines
  lines_more : (l : ReportLine) (f : ReportLine → List ℕ) (ms : List ℕ) → f l ≡ ms → is_refusal (l ∷ []) ≡ false → (n : ℕ) → may_rest (above ++ l ∷ []) (flat_map f (above ++ l ∷ [])) n ≡ cond (is_refusal above) (is_named (flat_map f above ++ ms) n) true
  lines_more l f ms h r n = ap (λ xs. may_rest (above ++ l ∷ []) xs n) (one_more f above l ms h) ∙ ap (λ b. cond b (is_named (flat_map f above ++ ms) n) true) (refusal_more above l r)

  without_step : (l : ReportLine) → step_in l ≡ [] → steps_in (above ++ l ∷ []) ≡ steps_in above
  without_step l h = one_more step_in above l [] h ∙ append-nil (steps_in above)

  pub catalogue_line_more : (after : Premises) (m : ℕ) → ((n : ℕ) → names_catalogue after n ≡ (eqb m n || names_catalogue scope n)) → ((n : ℕ) → names_request after n ≡ names_request scope n) → LogInvariant catalogue request entries clauses places rules after empty (above ++ CatalogueLine m ∷ [])
  catalogue_line_more after m named others = record {
    steps = subst (λ (xs : List Step). CheckerInvariant catalogue request entries clauses places rules xs) (sym (without_step (CatalogueLine m) refl)) represents.steps;
    catalogue_lines = λ n. named n ∙ (rest_named (is_refusal above) (catalogue_lines_in above) m n (names_catalogue scope n) (represents.catalogue_lines n) ∙ sym (lines_more (CatalogueLine m) catalogue_line_in (m ∷ []) refl refl n));
    request_lines = λ n. others n ∙ (represents.request_lines n ∙ sym (lines_more (CatalogueLine m) request_line_in [] refl refl n ∙ ap (λ xs. may_rest above xs n) (append-nil (request_lines_in above))));
    ends = represents.ends ∙ ap ends_empty (sym (without_step (CatalogueLine m) refl));
  }

  pub request_line_more : (after : Premises) (m : ℕ) → ((n : ℕ) → names_request after n ≡ (eqb m n || names_request scope n)) → ((n : ℕ) → names_catalogue after n ≡ names_catalogue scope n) → LogInvariant catalogue request entries clauses places rules after empty (above ++ RequestLine m ∷ [])
  request_line_more after m named others = record {
    steps = subst (λ (xs : List Step). CheckerInvariant catalogue request entries clauses places rules xs) (sym (without_step (RequestLine m) refl)) represents.steps;
    catalogue_lines = λ n. others n ∙ (represents.catalogue_lines n ∙ sym (lines_more (RequestLine m) catalogue_line_in [] refl refl n ∙ ap (λ xs. may_rest above xs n) (append-nil (catalogue_lines_in above))));
    request_lines = λ n. named n ∙ (rest_named (is_refusal above) (request_lines_in above) m n (names_request scope n) (represents.request_lines n) ∙ sym (lines_more (RequestLine m) request_line_in (m ∷ []) refl refl n));
    ends = represents.ends ∙ ap ends_empty (sym (without_step (RequestLine m) refl));
  }

-- the answers of one line more
pub answers_more : (above : List ReportLine) (l : ReportLine) (xs : List AnswerLine) → answer_in l ≡ xs → answers_in (above ++ l ∷ []) ≡ answers_in above ++ xs
answers_more above l xs h = one_more answer_in above l xs h

pub no_answers_more : (above : List ReportLine) (l : ReportLine) → answer_in l ≡ [] → answers_in above ≡ answers_in (above ++ l ∷ [])
no_answers_more above l h = sym (one_more answer_in above l [] h ∙ append-nil (answers_in above))
