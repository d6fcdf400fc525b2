-- The judge's way through the bytes of a report: the lines so far, all of which passed, and the next.
use Rattle.std.proofs.Common.{◌≡◌, ℕ, ◌+◌, ◌<◌, ◌≤◌, true, false, List, [], ◌∷◌, ◌++◌, length, take, drop, map, Option, Some, refl, sym, ap, subst, ◌∙◌, inl, inr, ⊎_elim, append_assoc, append-nil, length-append, arith, take-append-drop, length-drop}
use Rattle.std.specs.Prelude.{codes, IsTrue}
use Rattle.std.specs.List.{flat_map, join_with_byte}
use Rattle.std.specs.Fmt.{decimal}
use Rattle.std.specs.Io.KnownBytes.{IsAtEnd}
use Rattle.std.proofs.lemmas.Bool.{false≢true}
use Rattle.std.proofs.lemmas.Option.{same_Some, slice_get_within}
use Rattle.std.proofs.lemmas.List.{length-take, length-map, take-append-le}
use Rattle.std.proofs.lemmas.List.Concat.{flat_map-append}
use Rattle.resolvo_text.specs.Device.{IfKnown, DeviceFailed}
use Rattle.resolvo_text.specs.Line.{Line}
use Rattle.resolvo_text.specs.Spelling.{Words}
use Rattle.resolvo_text.proofs.KnownBytes.{consumed}
use Rattle.resolvo_catalogue_core.specs.Answers.{ClaimsInstall, ClaimsRefusal}
use Rattle.resolvo_catalogue_core.specs.Listed.{listed}
use Rattle.resolvo_terms.proofs.Places.{get_push}
use Rattle.resolvo_report.specs.declared.grammar.Part.{Part}
use Rattle.resolvo_report.specs.declared.grammar.Part.TheVariants as part
use Rattle.resolvo_report.specs.declared.reader.ReportReader.{ReportReader}
use Rattle.resolvo_report.specs.declared.reader.ReportFault.{ReportFault}
use Rattle.resolvo_report.specs.declared.reader.ReportFault.TheVariants.{NotAReport, Reader, TooLong, Memory}
use Rattle.resolvo_report.specs.Value.{Report, Install, Refused, ReportLine, InstallHead, RefusedHead, CatalogueLine, RequestLine, Numbered, Message, Step, AnswerLine}
use Rattle.resolvo_report.specs.Value as model
use Rattle.resolvo_report.specs.Text.{line_text, lines_text, step_text, step_words, report_lines, numbered}
use Rattle.resolvo_report.specs.Grammar.{next_part, may_end, GoesOn, most_bytes}
use Rattle.resolvo_report.specs.Draft.{part_of, Grows}
use Rattle.resolvo_report.specs.Stream.{GivesLine, IsLineFault}
use Rattle.resolvo_report.proofs.DraftLemmas.{push_answer, push_install_step, push_catalogue, push_request, push_refused_step, push_message, install_takes, no_install_head, no_refused_head, no_answer}
use Rattle.resolvo_report.proofs.StreamLemmas.{ReadTo, first_newline, read_gives, read_whole}
use Rattle.resolvo_report.proofs.WholeLines.{line_has_no_newline, same_line}
use Rattle.resolvo_checker.specs.declared.clauses.Clauses.{Clauses}
use Rattle.resolvo_judge.specs.declared.judge_state.JudgeState.{JudgeState}
use Rattle.resolvo_judge.specs.declared.judgement.Verdict.{Verdict}
use Rattle.resolvo_judge.specs.declared.judgement.Verdict.TheVariants.{Yes, No}
use Rattle.resolvo_checker.specs.CheckStep.{causes_in, count_causes}
use Rattle.resolvo_judge.specs.Refusal.{answer_of, answer_in, answers_in, step_in, steps_in, catalogue_line_in, catalogue_lines_in, request_line_in, request_lines_in, is_refusal, passes, ArePassed, IsAccepted}
use Rattle.resolvo_judge.specs.Log.{is_head, causes_of_line}
use Rattle.resolvo_judge.specs.JudgeState.{JudgeInvariant, DecidesEnd}
use Rattle.resolvo_judge.specs.Judgement.{IsClaimTrue, IsUpheld, causes_named, HoldsOn, IsRefusedAt, IsVerdict, ClaimsTruth, IsStop}
use Rattle.resolvo_checker.proofs.WholeProofs.{take_prefix, count_push}
use Rattle.resolvo_judge.proofs.LogLemmas.{one_more}
use Rattle.resolvo_judge.proofs.Accepted.{install_true, refusal_true}

-- ---- a report grows by each line that may be next

pub grows : (r : Report) (l : ReportLine) (q : Part) → next_part (part_of r) l ≡ Some q → (s : Report) × Grows r l s
grows (Install ls ss) (model.Answer a) q e = (Install (ls ++ a ∷ []) ss, push_answer ls ss a q e)
grows (Install ls ss) (Numbered n s) q e = (Install ls (ss ++ s ∷ []), push_install_step ls ss n s q e)
grows (Install ls ss) InstallHead q e = absurd (install_takes ls ss InstallHead q e (λ a h. cc) (λ n s h. cc))
grows (Install ls ss) RefusedHead q e = absurd (install_takes ls ss RefusedHead q e (λ a h. cc) (λ n s h. cc))
grows (Install ls ss) (CatalogueLine n) q e = absurd (install_takes ls ss (CatalogueLine n) q e (λ a h. cc) (λ m s h. cc))
grows (Install ls ss) (RequestLine n) q e = absurd (install_takes ls ss (RequestLine n) q e (λ a h. cc) (λ m s h. cc))
grows (Install ls ss) (Message b) q e = absurd (install_takes ls ss (Message b) q e (λ a h. cc) (λ n s h. cc))
grows (Refused cs rs ss ms) (CatalogueLine n) q e = (Refused (cs ++ n ∷ []) rs ss ms, push_catalogue cs rs ss ms n q e)
grows (Refused cs rs ss ms) (RequestLine n) q e = (Refused cs (rs ++ n ∷ []) ss ms, push_request cs rs ss ms n q e)
grows (Refused cs rs ss ms) (Numbered n s) q e = (Refused cs rs (ss ++ s ∷ []) ms, push_refused_step cs rs ss ms n s q e)
grows (Refused cs rs ss ms) (Message b) q e = (Refused cs rs ss (ms ++ b ∷ []), push_message cs rs ss ms b q e)
grows (Refused cs rs ss ms) InstallHead q e = absurd (no_install_head cs rs ss ms q e)
grows (Refused cs rs ss ms) RefusedHead q e = absurd (no_refused_head cs rs ss ms q e)
grows (Refused cs rs ss ms) (model.Answer a) q e = absurd (no_answer cs rs ss ms a q e)

-- no second head
pub no_head : (r : Report) (l : ReportLine) (q : Part) → next_part (part_of r) l ≡ Some q → is_head l ≡ false
no_head (Install ls ss) InstallHead q e = absurd (install_takes ls ss InstallHead q e (λ a h. cc) (λ n s h. cc))
no_head (Install ls ss) RefusedHead q e = absurd (install_takes ls ss RefusedHead q e (λ a h. cc) (λ n s h. cc))
no_head (Refused cs rs ss ms) InstallHead q e = absurd (no_install_head cs rs ss ms q e)
no_head (Refused cs rs ss ms) RefusedHead q e = absurd (no_refused_head cs rs ss ms q e)
no_head r (model.Answer a) q e = refl
no_head r (CatalogueLine n) q e = refl
no_head r (RequestLine n) q e = refl
no_head r (Numbered n s) q e = refl
no_head r (Message b) q e = refl

-- a head is first
pub head_first : (l : ReportLine) (q : Part) → next_part part.Start l ≡ Some q → is_head l ≡ true
head_first InstallHead q e = refl
head_first RefusedHead q e = refl
head_first (model.Answer a) q e = absurd cc
head_first (CatalogueLine n) q e = absurd cc
head_first (RequestLine n) q e = absurd cc
head_first (Numbered n s) q e = absurd cc
head_first (Message b) q e = absurd cc

-- the report of its head alone
pub begun : (l : ReportLine) (q : Part) → next_part part.Start l ≡ Some q → (r : Report) × (report_lines r ≡ l ∷ []) × (q ≡ part_of r)
begun InstallHead q e = (Install [] [], refl, sym (same_Some part.Answers q e))
begun RefusedHead q e = (Refused [] [] [] [], refl, sym (same_Some (part.Catalogue 0) q e))
begun (model.Answer a) q e = absurd cc
begun (CatalogueLine n) q e = absurd cc
begun (RequestLine n) q e = absurd cc
begun (Numbered n s) q e = absurd cc
begun (Message b) q e = absurd cc

-- ---- lines that pass

pub passed_push : (catalogue request : List Line) (xs : List ReportLine) (l : ReportLine) → ArePassed catalogue request xs → passes catalogue request xs l ≡ true → ArePassed catalogue request (xs ++ l ∷ [])
passed_push catalogue request xs l passed fine n m at = elim (get_push xs l m n at) [
  | inl e ↦ subst (λ (ys : List ReportLine). passes catalogue request ys m ≡ true) (sym (take-append-le n xs (l ∷ []) (let w = slice_get_within xs n m e in omega (arith, w)))) (passed n m e)
  | inr e ↦ subst (λ (ys : List ReportLine). passes catalogue request ys m ≡ true) (sym (ap (λ k. take k (xs ++ l ∷ [])) e.0 ∙ take_prefix xs (l ∷ []))) (subst (λ (u : ReportLine). passes catalogue request xs u ≡ true) e.1 fine)
]

pub head_passes : (catalogue request : List Line) (l : ReportLine) → is_head l ≡ true → ArePassed catalogue request (l ∷ [])
head_passes catalogue request l head = passed_push catalogue request [] l (λ n m at. absurd cc) (one l head)
  where
    one : (l : ReportLine) → is_head l ≡ true → passes catalogue request [] l ≡ true
    one InstallHead h = refl
    one RefusedHead h = refl
    one (model.Answer a) h = absurd cc
    one (CatalogueLine n) h = absurd cc
    one (RequestLine n) h = absurd cc
    one (Numbered n s) h = absurd cc
    one (Message b) h = absurd cc

-- ---- clauses that are named

no_causes : (above : List ReportLine) (l : ReportLine) → step_in l ≡ [] → causes_of_line l ≡ 0 → count_causes (steps_in (above ++ l ∷ [])) ≡ count_causes (steps_in above) + causes_of_line l
no_causes above l h none = ap count_causes (one_more step_in above l [] h ∙ append-nil (steps_in above)) ∙ omega (arith, none)

pub causes_more : (above : List ReportLine) (l : ReportLine) → count_causes (steps_in (above ++ l ∷ [])) ≡ count_causes (steps_in above) + causes_of_line l
causes_more above (Numbered n s) = ap count_causes (one_more step_in above (Numbered n s) (s ∷ []) refl) ∙ count_push (steps_in above) s
causes_more above InstallHead = no_causes above InstallHead refl refl
causes_more above RefusedHead = no_causes above RefusedHead refl refl
causes_more above (model.Answer a) = no_causes above (model.Answer a) refl refl
causes_more above (CatalogueLine n) = no_causes above (CatalogueLine n) refl refl
causes_more above (RequestLine n) = no_causes above (RequestLine n) refl refl
causes_more above (Message b) = no_causes above (Message b) refl refl

head_names_none : (l : ReportLine) → is_head l ≡ true → count_causes (steps_in (l ∷ [])) ≡ 0
head_names_none InstallHead h = refl
head_names_none RefusedHead h = refl
head_names_none (model.Answer a) h = absurd cc
head_names_none (CatalogueLine n) h = absurd cc
head_names_none (RequestLine n) h = absurd cc
head_names_none (Numbered n s) h = absurd cc
head_names_none (Message b) h = absurd cc

-- words are parted by a byte each
words_within : (ws : Words) → length ws ≤ length (join_with_byte 32 ws) + 1
words_within [] = omega arith
words_within (w ∷ []) = omega arith
words_within (w ∷ x ∷ ws) = omega (arith, words_within (x ∷ ws), length-append w (32 ∷ join_with_byte 32 (x ∷ ws)))

step_within : (s : Step) → causes_in s ≤ length (step_text s)
step_within (model.Derive ls ns) = omega (arith, words_within (step_words (model.Derive ls ns)), length-map ns decimal)
step_within (model.Need p n k) = omega arith
step_within (model.Gate v n) = omega arith
step_within (model.Shared ss) = omega arith
step_within (model.LimitBars p n v) = omega arith
step_within (model.Limit p n) = omega arith
step_within (model.Outside s v) = omega arith
step_within (model.Matches s v) = omega arith
step_within (model.Lock n v) = omega arith
step_within (model.Exclude n) = omega arith
step_within (model.Unknown n) = omega arith
step_within (model.Digit v p b) = omega arith
step_within (model.Any v) = omega arith

-- a line names no more clauses than it has bytes
line_within : (l : ReportLine) → causes_of_line l ≤ length (line_text l)
line_within (Numbered n s) = omega (arith, step_within s, length-append (codes "step " ++ decimal n ++ codes " ") (step_text s))
line_within InstallHead = omega arith
line_within RefusedHead = omega arith
line_within (model.Answer a) = omega arith
line_within (CatalogueLine n) = omega arith
line_within (RequestLine n) = omega arith
line_within (Message b) = omega arith

causes_first : (l : ReportLine) (ls : List ReportLine) → count_causes (steps_in (l ∷ ls)) ≡ causes_of_line l + count_causes (steps_in ls)
causes_first (Numbered n s) ls = refl
causes_first InstallHead ls = omega arith
causes_first RefusedHead ls = omega arith
causes_first (model.Answer a) ls = omega arith
causes_first (CatalogueLine n) ls = omega arith
causes_first (RequestLine n) ls = omega arith
causes_first (Message b) ls = omega arith

lines_within : (ls : List ReportLine) → (count_causes (steps_in ls) ≤ length (lines_text ls)) × (length ls ≤ length (lines_text ls))
lines_within [] = (omega arith, omega arith)
lines_within (l ∷ ls) =
    let rest = lines_within ls in
    let here = length-append (line_text l ++ codes "\n") (lines_text ls) in
    let line = length-append (line_text l) (codes "\n") in
    (omega (arith, rest.0, here, line, line_within l, causes_first l ls), omega (arith, rest.1, here, line))

-- ---- the lines so far

-- The lines of a report were read from the bytes known at first. All passed, and the judge's state
-- is that after them.
pub record Reached (catalogue request : List Line) (known left : Option (List ℕ)) (r : ReportReader) (j : JudgeState) (clauses : Clauses) (next : ℕ) : Type 0 where
  pub report : Report
  pub read : ReadTo known left (report_lines report) r.part r.number r.lines.room
  pub part : r.part ≡ part_of report
  pub passed : ArePassed catalogue request (report_lines report)
  pub represents : JudgeInvariant catalogue request j clauses.kept (report_lines report)
  pub next_line : next ≡ r.number + 1
  pub later : j.log.checker.truth.pass ≤ length clauses.kept
  pub long : length j.log.checker.places.items ≡ length (listed catalogue)
  pub few_steps : length clauses.kept ≤ r.number
  pub few_entries : j.entries.chosen.count ≤ r.number
  pub named : clauses.readings.named ≡ causes_named report
  pub counted : clauses.readings.read ≡ causes_named report

pub reached_first : (catalogue request : List Line) (known before after : Option (List ℕ)) (fresh r : ReportReader) (l : ReportLine) (j : JudgeState) (clauses : Clauses) → ReadTo known before [] fresh.part fresh.number fresh.lines.room → fresh.part ≡ part.Start
    → GivesLine before fresh l after r → JudgeInvariant catalogue request j clauses.kept (l ∷ []) → j.log.checker.truth.pass ≤ length clauses.kept → length j.log.checker.places.items ≡ length (listed catalogue) → length clauses.kept ≡ 0 → j.entries.chosen.count ≡ 0
    → clauses.readings.named ≡ 0 → clauses.readings.read ≡ 0 → Reached catalogue request known after r j clauses 2
reached_first catalogue request known before after fresh r l j clauses nothing start g represents later long steps entries named read =
    let placed : next_part part.Start l ≡ Some r.part = ap (λ (p : Part). next_part p l) (sym start) ∙ g.placed in
    let b = begun l r.part placed in
    let head = head_first l r.part placed in
    let none : causes_named b.0 ≡ 0 = ap (λ (ls : List ReportLine). count_causes (steps_in ls)) b.1 ∙ head_names_none l head in
    record {
      report = b.0;
      read = read_gives known before after [] (report_lines b.0) l fresh r nothing g b.1;
      part = b.2;
      passed = subst (ArePassed catalogue request) (sym b.1) (head_passes catalogue request l head);
      represents = subst (λ (ls : List ReportLine). JudgeInvariant catalogue request j clauses.kept ls) (sym b.1) represents;
      next_line = omega (arith, g.number, nothing.count);
      later = later;
      long = long;
      few_steps = omega (arith, steps);
      few_entries = omega (arith, entries);
      named = named ∙ sym none;
      counted = read ∙ sym none;
    }

-- the report's verdict so far is that of its head
pub refusal_kept : (r : Report) (l : ReportLine) → is_refusal (report_lines r ++ l ∷ []) ≡ is_refusal (report_lines r)
refusal_kept (Install ls ss) l = refl
refusal_kept (Refused cs rs ss ms) l = refl

module _ (catalogue request : List Line) (known before after : Option (List ℕ)) (r s : ReportReader) (l : ReportLine) (j : JudgeState) (clauses : Clauses) (n : ℕ) (reached : Reached catalogue request known before r j clauses n) (g : GivesLine before r l after s) where
  -- so many clauses were named, with those of the line
  pub few_causes : causes_named reached.report + causes_of_line l ≤ most_bytes
  few_causes = omega (arith, (lines_within (report_lines reached.report)).0, line_within l, length-append (line_text l) (codes "\n"), reached.read.used, g.room)

  pub is_no_head : is_head l ≡ false
  is_no_head = no_head reached.report l s.part (ap (λ (p : Part). next_part p l) (sym reached.part) ∙ g.placed)

  pub reached_more : (k : JudgeState) (grown_clauses : Clauses) → passes catalogue request (report_lines reached.report) l ≡ true → JudgeInvariant catalogue request k grown_clauses.kept (report_lines reached.report ++ l ∷ []) → k.log.checker.truth.pass ≤ length grown_clauses.kept
      → length k.log.checker.places.items ≡ length (listed catalogue) → length grown_clauses.kept ≤ length clauses.kept + 1 → k.entries.chosen.count < j.entries.chosen.count + 2
      → grown_clauses.readings.named ≡ clauses.readings.named + causes_of_line l → grown_clauses.readings.read ≡ clauses.readings.read + causes_of_line l → Reached catalogue request known after s k grown_clauses (n + 1)
  reached_more k grown_clauses pass represents later long steps entries named read =
      let grown = grows reached.report l s.part (ap (λ (p : Part). next_part p l) (sym reached.part) ∙ g.placed) in
      let lines = grown.1.lines in
      let causes : causes_named grown.0 ≡ causes_named reached.report + causes_of_line l = ap (λ (ls : List ReportLine). count_causes (steps_in ls)) lines ∙ causes_more (report_lines reached.report) l in
      record {
        report = grown.0;
        read = read_gives known before after (report_lines reached.report) (report_lines grown.0) l r s reached.read g lines;
        part = same_Some s.part (part_of grown.0) (sym g.placed ∙ ap (λ (p : Part). next_part p l) reached.part ∙ grown.1.placed);
        passed = subst (ArePassed catalogue request) (sym lines) (passed_push catalogue request (report_lines reached.report) l reached.passed pass);
        represents = subst (λ (ls : List ReportLine). JudgeInvariant catalogue request k grown_clauses.kept ls) (sym lines) represents;
        next_line = omega (arith, reached.next_line, g.number);
        later = later;
        long = long;
        few_steps = omega (arith, steps, reached.few_steps, g.number);
        few_entries = omega (arith, entries, reached.few_entries, g.number);
        named = named ∙ omega (arith, reached.named, causes);
        counted = read ∙ omega (arith, reached.counted, causes);
      }

-- ---- where a text is refused

newline_behind : (text rest : List ℕ) → (text ++ codes "\n") ++ rest ≡ text ++ 10 ∷ rest
newline_behind text rest = append_assoc text (codes "\n") rest

some_byte : (text rest : List ℕ) → text ++ 10 ∷ rest ≡ [] → ⊥
some_byte text rest e = omega (arith, ap (λ (xs : List ℕ). length xs) e, length-append text (10 ∷ rest))

pub refused_here : (catalogue request : List Line) (known left : Option (List ℕ)) (lines : List ReportLine) (p : Part) (number room n : ℕ) → ReadTo known left lines p number room → ArePassed catalogue request lines → n ≡ number + 1
    → IfKnown left (λ below. HoldsOn catalogue request lines p below → ⊥) → IfKnown known (λ text. IsRefusedAt catalogue request text n)
refused_here catalogue request known left lines p number room n read passed is none = λ text e.
    let c = consumed known left (lines_text lines) read.bytes text e in
    record { above = lines; below = c.0; part = p; parts = c.2; good = read.good; passed = passed; place = omega (arith, is, read.count); none = none c.0 c.1 }

-- the next line doesn't pass
pub line_refused : (catalogue request : List Line) (above : List ReportLine) (before after : Option (List ℕ)) (r s : ReportReader) (l : ReportLine) → GivesLine before r l after s → passes catalogue request above l ≡ false → IfKnown before (λ below. HoldsOn catalogue request above r.part below → ⊥)
line_refused catalogue request above before after r s l g fails = λ below e holds.
    let c = consumed before after (line_text l ++ codes "\n") g.bytes below e in
    let text : below ≡ line_text l ++ 10 ∷ c.0 = c.2 ∙ newline_behind (line_text l) c.0 in
    ⊎_elim
    (λ h.
    let first = first_newline (line_text l) (line_text h.0) c.0 h.1 (line_has_no_newline l g.text) (line_has_no_newline h.0 h.3) (sym text ∙ h.5 ∙ newline_behind (line_text h.0) h.1) in
    let same : l ≡ h.0 = same_line l h.0 g.text h.3 first.0 in
    false≢true (sym fails ∙ ap (passes catalogue request above) same ∙ h.6))
    (λ h. some_byte (line_text l) c.0 (sym text ∙ h.0)) holds

-- the report may not end there
pub end_refused : (catalogue request : List Line) (above : List ReportLine) (p : Part) (left : Option (List ℕ)) → IsAtEnd left → DecidesEnd catalogue request above false → IfKnown left (λ below. HoldsOn catalogue request above p below → ⊥)
end_refused catalogue request above p left end fails = λ below e holds.
    let over : below ≡ [] = subst IsAtEnd e end in
    ⊎_elim (λ h. some_byte (line_text h.0) h.1 (sym (h.5 ∙ newline_behind (line_text h.0) h.1) ∙ over)) (λ h. fails h.2) holds

-- the next line is none of a report
pub outside_refused : (catalogue request : List Line) (above : List ReportLine) (p : Part) (left : Option (List ℕ)) → IfKnown left (λ bytes. GoesOn p bytes → ⊥) → IfKnown left (λ below. HoldsOn catalogue request above p below → ⊥)
outside_refused catalogue request above p left none = λ below e holds. none below e (elim holds [
  | inl h ↦ inl (h.0, h.1, h.2, h.3, h.4, h.5)
  | inr h ↦ inr (h.0, h.1)
])

-- ---- a report that holds

each_one : {X : Type 0} (f : ReportLine → List X) (make : X → ReportLine) → ((x : X) → f (make x) ≡ x ∷ []) → (xs : List X) → flat_map f (map make xs) ≡ xs
each_one f make is [] = refl
each_one {X} f make is (x ∷ xs) = ap (λ (ys : List X). ys ++ flat_map f (map make xs)) (is x) ∙ ap (λ (ys : List X). x ∷ ys) (each_one f make is xs)

each_none : {X Y : Type 0} (f : ReportLine → List X) (make : Y → ReportLine) → ((y : Y) → f (make y) ≡ []) → (ys : List Y) → flat_map f (map make ys) ≡ []
each_none f make is [] = refl
each_none {X} {Y} f make is (y ∷ ys) = ap (λ (xs : List X). xs ++ flat_map f (map make ys)) (is y) ∙ each_none f make is ys

no_steps : {X : Type 0} (f : ReportLine → List X) → ((n : ℕ) (s : Step) → f (Numbered n s) ≡ []) → (n : ℕ) (ss : List Step) → flat_map f (numbered n ss) ≡ []
no_steps f is n [] = refl
no_steps {X} f is n (s ∷ ss) = ap (λ (xs : List X). xs ++ flat_map f (numbered (n + 1) ss)) (is n s) ∙ no_steps f is (n + 1) ss

four : {X : Type 0} (f : ReportLine → List X) (c r n m : List ReportLine) → flat_map f (c ++ r ++ n ++ m) ≡ flat_map f c ++ flat_map f r ++ flat_map f n ++ flat_map f m
four {X} f c r n m = flat_map-append f (c ++ r ++ n) m ∙ ap (λ (xs : List X). xs ++ flat_map f m) (flat_map-append f (c ++ r) n ∙ ap (λ (xs : List X). xs ++ flat_map f n) (flat_map-append f c r))

answers_are : (ls : List AnswerLine) (ss : List Step) → answers_in (map (λ a. model.Answer a) ls ++ numbered 1 ss) ≡ ls
answers_are ls ss =
    flat_map-append answer_in (map (λ a. model.Answer a) ls) (numbered 1 ss) ∙ ap (λ (xs : List AnswerLine). flat_map answer_in (map (λ a. model.Answer a) ls) ++ xs) (no_steps answer_in (λ n s. refl) 1 ss)
    ∙ append-nil (flat_map answer_in (map (λ a. model.Answer a) ls)) ∙ each_one answer_in (λ a. model.Answer a) (λ a. refl) ls

module _ (cs rs : List ℕ) (ss : List Step) (ms : List (List ℕ)) where
  catalogue_lines_are : catalogue_lines_in (map CatalogueLine cs ++ map RequestLine rs ++ numbered 1 ss ++ map Message ms) ≡ cs
  catalogue_lines_are =
      four catalogue_line_in (map CatalogueLine cs) (map RequestLine rs) (numbered 1 ss) (map Message ms)
      ∙ rw (each_none catalogue_line_in (λ x. RequestLine x) (λ x. refl) rs, no_steps catalogue_line_in (λ n s. refl) 1 ss, each_none catalogue_line_in (λ x. Message x) (λ x. refl) ms, each_one catalogue_line_in (λ x. CatalogueLine x) (λ x. refl) cs)
      (append-nil ((cs ++ []) ++ []) ∙ append-nil (cs ++ []) ∙ append-nil cs)

  request_lines_are : request_lines_in (map CatalogueLine cs ++ map RequestLine rs ++ numbered 1 ss ++ map Message ms) ≡ rs
  request_lines_are =
      four request_line_in (map CatalogueLine cs) (map RequestLine rs) (numbered 1 ss) (map Message ms)
      ∙ rw (each_none request_line_in (λ x. CatalogueLine x) (λ x. refl) cs, no_steps request_line_in (λ n s. refl) 1 ss, each_none request_line_in (λ x. Message x) (λ x. refl) ms, each_one request_line_in (λ x. RequestLine x) (λ x. refl) rs)
      (append-nil (rs ++ []) ∙ append-nil rs)

pub claim_true : (catalogue request : List Line) (r : Report) → IsAccepted catalogue request (report_lines r) → IsClaimTrue catalogue request r
claim_true catalogue request (Install ls ss) accepted = subst (λ (xs : List AnswerLine). ClaimsInstall catalogue request (map answer_of xs)) (answers_are ls ss) (install_true catalogue request (map (λ a. model.Answer a) ls ++ numbered 1 ss) accepted)
claim_true catalogue request (Refused cs rs ss ms) accepted =
    subst (λ (xs : List ℕ). ClaimsRefusal catalogue request cs xs) (request_lines_are cs rs ss ms)
    (subst (λ (xs : List ℕ). ClaimsRefusal catalogue request xs (request_lines_in (map CatalogueLine cs ++ map RequestLine rs ++ numbered 1 ss ++ map Message ms))) (catalogue_lines_are cs rs ss ms)
    (refusal_true catalogue request (map CatalogueLine cs ++ map RequestLine rs ++ numbered 1 ss ++ map Message ms) accepted))

pub upheld : (catalogue request : List Line) (known left : Option (List ℕ)) (r : ReportReader) (j : JudgeState) (clauses : Clauses) (n : ℕ) (reached : Reached catalogue request known left r j clauses n) → IsAtEnd left → IsTrue (may_end r.part) → DecidesEnd catalogue request (report_lines reached.report) true
    → IfKnown known (λ text. IsUpheld catalogue request text reached.report)
upheld catalogue request known left r j clauses n reached end may ends = λ text e. record {
  report = record { part = r.part; lines = reached.read.good; whole = may };
  is = read_whole known left (report_lines reached.report) r.part r.number r.lines.room reached.read end text e;
  accepted = record { passed = reached.passed; ends = ends };
}

-- ---- where no line is given

module _ (catalogue request : List Line) (known left after : Option (List ℕ)) (lines : List ReportLine) (r : ReportReader) (read : ReadTo known left lines r.part r.number r.lines.room) (passed : ArePassed catalogue request lines) (failures failures_before failures_now interruptions : ℕ) (same : failures ≡ failures_before) where
  pub stops : (f : ReportFault) → IsLineFault f r left after (DeviceFailed failures failures_now interruptions) → IsStop catalogue request f known after (DeviceFailed failures_before failures_now interruptions)
  stops (NotAReport n) h = refused_here catalogue request known left lines r.part r.number r.lines.room n read passed h.0 (outside_refused catalogue request lines r.part left h.1)
  stops Memory h = tt
  stops Reader h = (
    subst (λ (n : ℕ). DeviceFailed n failures_now interruptions) same h.0,
    λ text e.
        let c = consumed known left (lines_text lines) read.bytes text e in
        let d = h.1 c.0 c.1 in (
          lines_text lines ++ d.0,
          d.1,
          d.2,
          record {
            parts = c.2 ∙ ap (λ (bs : List ℕ). lines_text lines ++ bs) d.3 ∙ sym (append_assoc (lines_text lines) d.0 d.1);
            above = lines;
            begun = d.0;
            part = r.part;
            lines = refl;
            good = read.good;
            passed = passed;
            unfinished = d.4;
          },
        ),
  )
  stops TooLong h = λ text e.
      let c = consumed known left (lines_text lines) read.bytes text e in
      let d = h c.0 c.1 in
      let prefix : List ℕ = take r.lines.room c.0 in
      let rest : List ℕ = drop r.lines.room c.0 in (
        lines_text lines ++ prefix,
        rest,
        omega (arith, read.used, length-append (lines_text lines) prefix, length-take r.lines.room c.0, d.0),
        omega (arith, length-drop r.lines.room c.0, d.0),
        record {
          parts = c.2 ∙ ap (λ (bs : List ℕ). lines_text lines ++ bs) (sym (take-append-drop r.lines.room c.0)) ∙ sym (append_assoc (lines_text lines) prefix rest);
          above = lines;
          begun = prefix;
          part = r.part;
          lines = refl;
          good = read.good;
          passed = passed;
          unfinished = d.1;
        },
      )

-- after a yes the claim is true
pub claims : (catalogue request : List Line) (text : List ℕ) (v : Verdict) → IsVerdict catalogue request text v → ClaimsTruth catalogue request text v
claims catalogue request text Yes h = (h.0, h.1.report, h.1.is, claim_true catalogue request h.0 h.1.accepted)
claims catalogue request text (No n) h = tt
