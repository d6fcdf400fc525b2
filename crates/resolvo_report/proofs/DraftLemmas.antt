-- A report with one line more.
use Rattle.std.proofs.Common.{◌≡◌, ℕ, ◌+◌, List, [], ◌∷◌, ◌++◌, length, map, Option, Some, None, refl, sym, ap, ◌∙◌, append_assoc, append-nil, length-append, arith}
use Rattle.std.specs.Prelude.{nat_lt, ◌==◌}
use Rattle.std.proofs.lemmas.Option.{cond_some}
use Rattle.std.proofs.lemmas.Bool.{eqb-true}
use Rattle.std.proofs.lemmas.List.{map-append}
use Rattle.resolvo_report.specs.declared.grammar.Part.{Part}
use Rattle.resolvo_report.specs.declared.grammar.Part.TheVariants as part
use Rattle.resolvo_report.specs.Value.{Step, AnswerLine, Install, Refused, ReportLine, InstallHead, RefusedHead, Answer, CatalogueLine, RequestLine, Numbered, Message}
use Rattle.resolvo_report.specs.Text.{numbered}
use Rattle.resolvo_report.specs.Grammar.{next_part}
use Rattle.resolvo_report.specs.Draft.{last_of, part_of, Grows}

last_push : (ns : List ℕ) (n : ℕ) → last_of (ns ++ n ∷ []) ≡ n
last_push [] n = refl
last_push (m ∷ []) n = refl
last_push (m ∷ k ∷ ns) n = last_push (k ∷ ns) n

numbered_push : (n : ℕ) (ss : List Step) (s : Step) → numbered n (ss ++ s ∷ []) ≡ numbered n ss ++ Numbered (n + length ss) s ∷ []
numbered_push n [] s = ap (λ (k : ℕ). Numbered k s ∷ []) (omega arith)
numbered_push n (t ∷ ss) s = ap (λ (ls : List ReportLine). Numbered n t ∷ ls) (numbered_push (n + 1) ss s ∙ ap (λ (k : ℕ). numbered (n + 1) ss ++ Numbered k s ∷ []) (omega arith))

none_some : {A : Type 0} (x : A) → ◌≡◌ {A = Option A} None (Some x) → ⊥
none_some x e = cc

-- ---- an install report

pub push_answer : (ls : List AnswerLine) (ss : List Step) (a : AnswerLine) (q : Part) → next_part (part_of (Install ls ss)) (Answer a) ≡ Some q → Grows (Install ls ss) (Answer a) (Install (ls ++ a ∷ []) ss)
push_answer ls [] a q e = record {
  lines = ap (λ (x : List ReportLine). InstallHead ∷ x) (append-nil (map Answer (ls ++ a ∷ [])) ∙ map-append Answer ls (a ∷ []) ∙ ap (λ (x : List ReportLine). x ++ Answer a ∷ []) (sym (append-nil (map Answer ls))));
  placed = refl;
}
push_answer ls (s ∷ ss) a q e = absurd (none_some q e)

pub push_install_step : (ls : List AnswerLine) (ss : List Step) (n : ℕ) (s : Step) (q : Part) → next_part (part_of (Install ls ss)) (Numbered n s) ≡ Some q → Grows (Install ls ss) (Numbered n s) (Install ls (ss ++ s ∷ []))
push_install_step ls [] n s q e =
    let g = cond_some (n == 0 + 1) (part.InstallSteps n) q e in
    let is : n ≡ 1 = eqb-true n 1 g.0 in
    record { lines = ap (λ (k : ℕ). InstallHead ∷ (map Answer ls ++ Numbered k s ∷ [])) (sym is) ∙ ap (λ (x : List ReportLine). InstallHead ∷ (x ++ Numbered n s ∷ [])) (sym (append-nil (map Answer ls))); placed = e ∙ sym (ap (λ (p : Part). Some p) g.1) ∙ ap (λ (k : ℕ). Some (part.InstallSteps k)) is }
push_install_step ls (t ∷ ss) n s q e =
    let g = cond_some (n == length (t ∷ ss) + 1) (part.InstallSteps n) q e in
    let is : n ≡ length (t ∷ ss) + 1 = eqb-true n (length (t ∷ ss) + 1) g.0 in
    let more : numbered 1 ((t ∷ ss) ++ s ∷ []) ≡ numbered 1 (t ∷ ss) ++ Numbered n s ∷ [] = numbered_push 1 (t ∷ ss) s ∙ ap (λ (k : ℕ). numbered 1 (t ∷ ss) ++ Numbered k s ∷ []) (omega (arith, is)) in
    record { lines = ap (λ (x : List ReportLine). InstallHead ∷ x) (ap (λ (x : List ReportLine). map Answer ls ++ x) more ∙ sym (append_assoc (map Answer ls) (numbered 1 (t ∷ ss)) (Numbered n s ∷ []))); placed = e ∙ sym (ap (λ (p : Part). Some p) g.1) ∙ ap (λ (k : ℕ). Some (part.InstallSteps k)) (omega (arith, is, length-append (t ∷ ss) (s ∷ []))) }

-- ---- a refused report

-- the lines of a refused report, one kind after the other
abbrev named : List ℕ → List ReportLine
named cs = map CatalogueLine cs

abbrev asked : List ℕ → List ReportLine
asked rs = map RequestLine rs

abbrev messages : List (List ℕ) → List ReportLine
messages ms = map Message ms

pub push_catalogue : (cs rs : List ℕ) (ss : List Step) (ms : List (List ℕ)) (n : ℕ) (q : Part) → next_part (part_of (Refused cs rs ss ms)) (CatalogueLine n) ≡ Some q → Grows (Refused cs rs ss ms) (CatalogueLine n) (Refused (cs ++ n ∷ []) rs ss ms)
push_catalogue cs [] [] [] n q e =
    let g = cond_some (nat_lt (last_of cs) n) (part.Catalogue n) q e in
    record { lines = ap (λ (x : List ReportLine). RefusedHead ∷ x) (simp (append-nil, map-append) refl); placed = e ∙ sym (ap (λ (p : Part). Some p) g.1) ∙ ap (λ (k : ℕ). Some (part.Catalogue k)) (sym (last_push cs n)) }
push_catalogue cs (r ∷ rs) [] [] n q e = absurd (none_some q e)
push_catalogue cs rs (s ∷ ss) [] n q e = absurd (none_some q e)
push_catalogue cs rs ss (m ∷ ms) n q e = absurd (none_some q e)

pub push_request : (cs rs : List ℕ) (ss : List Step) (ms : List (List ℕ)) (n : ℕ) (q : Part) → next_part (part_of (Refused cs rs ss ms)) (RequestLine n) ≡ Some q → Grows (Refused cs rs ss ms) (RequestLine n) (Refused cs (rs ++ n ∷ []) ss ms)
push_request cs [] [] [] n q e =
    let g = cond_some (nat_lt 0 n) (part.Request n) q e in
    record { lines = ap (λ (x : List ReportLine). RefusedHead ∷ x) (simp (append-nil, map-append) refl); placed = e ∙ sym (ap (λ (p : Part). Some p) g.1) }
push_request cs (r ∷ rs) [] [] n q e =
    let g = cond_some (nat_lt (last_of (r ∷ rs)) n) (part.Request n) q e in
    record { lines = ap (λ (x : List ReportLine). RefusedHead ∷ x) (simp (append-nil, map-append, append_assoc) refl); placed = e ∙ sym (ap (λ (p : Part). Some p) g.1) ∙ ap (λ (k : ℕ). Some (part.Request k)) (sym (last_push (r ∷ rs) n)) }
push_request cs rs (s ∷ ss) [] n q e = absurd (none_some q e)
push_request cs rs ss (m ∷ ms) n q e = absurd (none_some q e)

abbrev StepGrows : List ℕ → List ℕ → List Step → List (List ℕ) → ℕ → Step → Type 0
StepGrows cs rs ss ms n s = Grows (Refused cs rs ss ms) (Numbered n s) (Refused cs rs (ss ++ s ∷ []) ms)

first_step : (cs rs : List ℕ) (n : ℕ) (s : Step) (q : Part) → n ≡ 1 → next_part (part_of (Refused cs rs [] [])) (Numbered n s) ≡ Some (part.RefusedSteps n) → StepGrows cs rs [] [] n s
first_step cs rs n s q is placed = record {
  lines = ap (λ (x : List ReportLine). RefusedHead ∷ x) (append-nil ((named cs ++ asked rs) ++ Numbered 1 s ∷ []) ∙ ap (λ (k : ℕ). (named cs ++ asked rs) ++ Numbered k s ∷ []) (sym is) ∙ ap (λ (x : List ReportLine). x ++ Numbered n s ∷ []) (sym (append-nil ((named cs ++ asked rs) ++ []) ∙ append-nil (named cs ++ asked rs))));
  placed = placed ∙ ap (λ (k : ℕ). Some (part.RefusedSteps k)) is;
}

pub push_refused_step : (cs rs : List ℕ) (ss : List Step) (ms : List (List ℕ)) (n : ℕ) (s : Step) (q : Part) → next_part (part_of (Refused cs rs ss ms)) (Numbered n s) ≡ Some q → StepGrows cs rs ss ms n s
push_refused_step cs [] [] [] n s q e =
    let g = cond_some (n == 0 + 1) (part.RefusedSteps n) q e in first_step cs [] n s q (eqb-true n 1 g.0) (e ∙ sym (ap (λ (p : Part). Some p) g.1))
push_refused_step cs (r ∷ rs) [] [] n s q e =
    let g = cond_some (n == 0 + 1) (part.RefusedSteps n) q e in first_step cs (r ∷ rs) n s q (eqb-true n 1 g.0) (e ∙ sym (ap (λ (p : Part). Some p) g.1))
push_refused_step cs rs (t ∷ ss) [] n s q e =
    let g = cond_some (n == length (t ∷ ss) + 1) (part.RefusedSteps n) q e in
    let is : n ≡ length (t ∷ ss) + 1 = eqb-true n (length (t ∷ ss) + 1) g.0 in
    let more : numbered 1 ((t ∷ ss) ++ s ∷ []) ≡ numbered 1 (t ∷ ss) ++ Numbered n s ∷ [] = numbered_push 1 (t ∷ ss) s ∙ ap (λ (k : ℕ). numbered 1 (t ∷ ss) ++ Numbered k s ∷ []) (omega (arith, is)) in
    let prefix : List ReportLine = named cs ++ asked rs in
    record {
      lines = ap (λ (x : List ReportLine). RefusedHead ∷ x) (append-nil (prefix ++ numbered 1 ((t ∷ ss) ++ s ∷ [])) ∙ ap (λ (x : List ReportLine). prefix ++ x) more ∙ sym (append_assoc prefix (numbered 1 (t ∷ ss)) (Numbered n s ∷ [])) ∙ ap (λ (x : List ReportLine). x ++ Numbered n s ∷ []) (sym (append-nil (prefix ++ numbered 1 (t ∷ ss)))));
      placed = e ∙ sym (ap (λ (p : Part). Some p) g.1) ∙ ap (λ (k : ℕ). Some (part.RefusedSteps k)) (omega (arith, is, length-append (t ∷ ss) (s ∷ [])));
    }
push_refused_step cs rs ss (m ∷ ms) n s q e = absurd (none_some q e)

pub push_message : (cs rs : List ℕ) (ss : List Step) (ms : List (List ℕ)) (m : List ℕ) (q : Part) → next_part (part_of (Refused cs rs ss ms)) (Message m) ≡ Some q → Grows (Refused cs rs ss ms) (Message m) (Refused cs rs ss (ms ++ m ∷ []))
push_message cs [] [] [] m q e = absurd (none_some q e)
push_message cs (r ∷ rs) [] [] m q e = absurd (none_some q e)
push_message cs rs (s ∷ ss) [] m q e = record { lines = ap (λ (x : List ReportLine). RefusedHead ∷ x) (ap (λ (x : List ReportLine). x ++ Message m ∷ []) (sym (append-nil ((named cs ++ asked rs) ++ numbered 1 (s ∷ ss))))); placed = refl }
push_message cs rs ss (k ∷ ms) m q e =
    let prefix : List ReportLine = (named cs ++ asked rs) ++ numbered 1 ss in
    record { lines = ap (λ (x : List ReportLine). RefusedHead ∷ x) (ap (λ (x : List ReportLine). prefix ++ x) (map-append Message (k ∷ ms) (m ∷ [])) ∙ sym (append_assoc prefix (messages (k ∷ ms)) (Message m ∷ []))); placed = refl }

-- ---- no line of the other report

pub install_takes : (ls : List AnswerLine) (ss : List Step) (l : ReportLine) (q : Part) → next_part (part_of (Install ls ss)) l ≡ Some q → ((a : AnswerLine) → l ≡ Answer a → ⊥) → ((n : ℕ) (s : Step) → l ≡ Numbered n s → ⊥) → ⊥
install_takes ls ss (Answer a) q e no_answer no_step = no_answer a refl
install_takes ls ss (Numbered n s) q e no_answer no_step = no_step n s refl
install_takes ls [] InstallHead q e no_answer no_step = none_some q e
install_takes ls [] RefusedHead q e no_answer no_step = none_some q e
install_takes ls [] (CatalogueLine n) q e no_answer no_step = none_some q e
install_takes ls [] (RequestLine n) q e no_answer no_step = none_some q e
install_takes ls [] (Message m) q e no_answer no_step = none_some q e
install_takes ls (t ∷ ss) InstallHead q e no_answer no_step = none_some q e
install_takes ls (t ∷ ss) RefusedHead q e no_answer no_step = none_some q e
install_takes ls (t ∷ ss) (CatalogueLine n) q e no_answer no_step = none_some q e
install_takes ls (t ∷ ss) (RequestLine n) q e no_answer no_step = none_some q e
install_takes ls (t ∷ ss) (Message m) q e no_answer no_step = none_some q e

refused_head : (cs rs : List ℕ) (ss : List Step) (ms : List (List ℕ)) → next_part (part_of (Refused cs rs ss ms)) InstallHead ≡ None
refused_head cs [] [] [] = refl
refused_head cs (r ∷ rs) [] [] = refl
refused_head cs rs (s ∷ ss) [] = refl
refused_head cs rs ss (m ∷ ms) = refl

refused_head_too : (cs rs : List ℕ) (ss : List Step) (ms : List (List ℕ)) → next_part (part_of (Refused cs rs ss ms)) RefusedHead ≡ None
refused_head_too cs [] [] [] = refl
refused_head_too cs (r ∷ rs) [] [] = refl
refused_head_too cs rs (s ∷ ss) [] = refl
refused_head_too cs rs ss (m ∷ ms) = refl

refused_answer : (cs rs : List ℕ) (ss : List Step) (ms : List (List ℕ)) (a : AnswerLine) → next_part (part_of (Refused cs rs ss ms)) (Answer a) ≡ None
refused_answer cs [] [] [] a = refl
refused_answer cs (r ∷ rs) [] [] a = refl
refused_answer cs rs (s ∷ ss) [] a = refl
refused_answer cs rs ss (m ∷ ms) a = refl

pub no_install_head : (cs rs : List ℕ) (ss : List Step) (ms : List (List ℕ)) (q : Part) → next_part (part_of (Refused cs rs ss ms)) InstallHead ≡ Some q → ⊥
no_install_head cs rs ss ms q e = none_some q (sym (refused_head cs rs ss ms) ∙ e)

pub no_refused_head : (cs rs : List ℕ) (ss : List Step) (ms : List (List ℕ)) (q : Part) → next_part (part_of (Refused cs rs ss ms)) RefusedHead ≡ Some q → ⊥
no_refused_head cs rs ss ms q e = none_some q (sym (refused_head_too cs rs ss ms) ∙ e)

pub no_answer : (cs rs : List ℕ) (ss : List Step) (ms : List (List ℕ)) (a : AnswerLine) (q : Part) → next_part (part_of (Refused cs rs ss ms)) (Answer a) ≡ Some q → ⊥
no_answer cs rs ss ms a q e = none_some q (sym (refused_answer cs rs ss ms a) ∙ e)
