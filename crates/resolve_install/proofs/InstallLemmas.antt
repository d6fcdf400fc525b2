-- The listing of turns that serve a request is the install report of them.
use Rattle.std.proofs.Common.{◌≡◌, ◌⊎◌, inl, inr, ℕ, ◌≤◌, List, [], ◌∷◌, ◌++◌, map, length, Some, refl, sym, ap, subst, ◌∙◌, arith}
use Rattle.std.specs.Prelude.{Contains}
use Rattle.std.specs.List.{AllByRecursion, flat_map}
use Rattle.std.proofs.lemmas.List.{map-append}
use Rattle.resolvo_text.specs.Line.{Version, Line, Listed, Wish}
use Rattle.resolvo_text.specs.Matches.{Set}
use Rattle.resolvo_text.specs.Spelling.{IsNumber}
use Rattle.resolvo_catalogue_core.specs.Grammar.{line_at, AreCatalogueLines}
use Rattle.resolvo_catalogue_core.specs.Answers as answers
use Rattle.resolvo_catalogue_core.specs.Answers.{IsReasoned}
use Rattle.resolvo_catalogue_core.specs.Listed.{listed}
use Rattle.resolvo_terms.proofs.Places.{contains_from_at}
use Rattle.resolve_order.specs.Order.{AreTurns}
use Rattle.resolve_order.specs.View.{turns_of}
use Rattle.resolve_order.specs.declared.entry.Turn.{Turn}
use Rattle.resolvo_report.specs.Value.{OfRequest, OfVersion, AnswerLine, Entry, Wished, LeftOut, Step, Install}
use Rattle.resolvo_report.specs.Text.{report_lines}
use Rattle.resolvo_judge.specs.Entries.{entries_of, wish_lines}
use Rattle.resolvo_judge.specs.Refusal.{answer_of, step_forbids, IsAccepted}
use Rattle.resolvo_judge.proofs.FitLemmas.{same_entries}
use Rattle.resolvo_judge.proofs.JudgeLemmas.{claim_true}
use Rattle.resolvo_checker.proofs.ListedLemmas.{contains_listed}
use Rattle.resolvo_checker.proofs.Sets.{is_contained}
use Rattle.resolve_install.specs.Install.{Serve, all_chosen, line_of, IsInstallOf}
use Rattle.resolve_install.proofs.SameSets.{AreSame, keeping_same}
use Rattle.resolve_install.proofs.TurnLemmas.{IsRisingFrom, IsRightlyLeftOut, lines_rise, entries_exact, rightly_left_out, accounted}
use Rattle.resolve_install.proofs.FitLemmas.{AreRight, fits, ends_well}
use Rattle.resolve_install.proofs.AcceptLemmas.{accepted, in_grammar}

-- the lines of wishes in a report's lines are those of its claim
same_lines : (lines : List AnswerLine) → flat_map answers.wish_line_of (map answer_of lines) ≡ wish_lines lines
same_lines [] = refl
same_lines (Entry v OfRequest n ∷ lines) = same_lines lines
same_lines (Entry v (OfVersion w) n ∷ lines) = same_lines lines
same_lines (Wished v n ∷ lines) = ap (λ (ns : List ℕ). n ∷ ns) (same_lines lines)
same_lines (LeftOut v n step ∷ lines) = ap (λ (ns : List ℕ). n ∷ ns) (same_lines lines)

module _ (catalogue request : List Line) (turns : List Turn) (steps : List Step) (serve : Serve catalogue request turns steps) (lines : List AnswerLine)
    (in_order : AreTurns catalogue request [] [] (turns_of (listed catalogue) turns) (map answer_of lines)) (reasoned : IsReasoned catalogue request [] (map answer_of lines)) where
  exact : AreSame (all_chosen catalogue turns) (answers.entries_of (map answer_of lines))
  exact = entries_exact catalogue request turns steps serve (map answer_of lines) in_order

  listed_exact : AreSame (all_chosen catalogue turns) (entries_of lines)
  listed_exact = subst (AreSame (all_chosen catalogue turns)) (same_entries lines) exact

  left : (above below : List AnswerLine) (v : Version) (n step : ℕ) → lines ≡ above ++ LeftOut v n step ∷ below → IsRightlyLeftOut catalogue request turns steps serve (map answer_of lines) in_order (map answer_of above) v n step
  left above below v n step is = rightly_left_out catalogue request turns steps serve (map answer_of lines) in_order (map answer_of above) (map answer_of below) v n step (ap (map answer_of) is ∙ map-append answer_of above (LeftOut v n step ∷ below))

  right : AreRight catalogue request steps (all_chosen catalogue turns) lines
  right = record {
    reasoned = reasoned;
    within = λ v c. (listed_exact v).1 c;
    rising = subst (IsRisingFrom 0) (same_lines lines) (lines_rise catalogue request turns steps serve (map answer_of lines) in_order);
    wished = λ above below v n step is. (left above below v n step is).wished;
    unchosen = λ above below v n step is. (left above below v n step is).unchosen;
    forbidden = λ above below v n step is. ap (λ (set : Set). step_forbids catalogue request steps set v step) (sym (same_entries above)) ∙ (left above below v n step is).forbidden;
  }

  each_wish : (n : ℕ) (v : Version) → line_at request n ≡ Some (Wish v) → Contains (entries_of lines) v ⊎ ((step : ℕ) × Contains (map answer_of lines) (answers.LeftOut v n step))
  each_wish n v at = elim (accounted catalogue request turns steps serve (map answer_of lines) in_order n v at) [
    | inl c ↦ inl ((listed_exact v).0 c)
    | inr out ↦ inr out
  ]

  passed : IsAccepted catalogue request (report_lines (Install lines steps))
  passed = accepted catalogue request lines steps (fits catalogue request steps (all_chosen catalogue turns) lines serve.keeping.single right) serve.proof
      (ends_well catalogue request steps (all_chosen catalogue turns) lines serve.keeping.single right (keeping_same (all_chosen catalogue turns) (entries_of lines) listed_exact catalogue request serve.keeping) each_wish)

  -- the install report
  pub install_is : AreCatalogueLines catalogue → AllByRecursion (λ l. IsNumber (line_of l)) lines → IsInstallOf catalogue request turns steps (Install lines steps)
  install_is grammatical numbers = record {
    lines = lines;
    installs = refl;
    report = in_grammar catalogue request steps (all_chosen catalogue turns) lines serve.keeping.single right grammatical numbers has serve.texts serve.numbers;
    accepted = passed;
    claim = claim_true catalogue request (Install lines steps) passed;
    order = in_order;
    entries = exact;
  }
    where
      has : (above below : List AnswerLine) (v : Version) (n step : ℕ) → lines ≡ above ++ LeftOut v n step ∷ below → Contains catalogue (Listed v) × (1 ≤ step) × IsNumber step
      has above below v n step is =
          let l = left above below v n step is in
          let most = serve.numbers in
          let few : step ≤ length steps = l.number in (
            contains_listed catalogue v (is_contained (listed catalogue) v (contains_from_at (listed catalogue) v l.known.0 l.known.1)),
            l.from_one,
            omega (arith, most, few),
          )
