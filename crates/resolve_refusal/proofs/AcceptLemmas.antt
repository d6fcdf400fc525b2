-- The judge accepts the refused report whose steps write a proof, and its claim is true.
use Rattle.std.proofs.Common.{◌≡◌, ◌⊎◌, inl, inr, ℕ, zero, suc, ◌+◌, ◌<◌, true, List, [], ◌∷◌, ◌++◌, map, take, length, Some, refl, sym, ap, subst, ◌∙◌}
use Rattle.std.specs.Prelude.{◌==◌, Contains, slice_get}
use Rattle.std.specs.List.{AllZip, flat_map}
use Rattle.std.proofs.lemmas.Bool.{eq-eqb}
use Rattle.std.proofs.lemmas.Option.{slice_get_within}
use Rattle.std.proofs.lemmas.List.{append_assoc, append-nil}
use Rattle.std.proofs.lemmas.List.Concat.{flat_map-append}
use Rattle.resolvo_text.specs.Line.{Line}
use Rattle.resolvo_catalogue_core.specs.Grammar.{line_at}
use Rattle.resolvo_catalogue_core.specs.Questions.{ReadRequest, AreAll}
use Rattle.resolvo_terms.proofs.Places.{at_from_contains, contains_from_at}
use Rattle.resolvo_sat.proofs.Lists.{contains_later, map_contains, contained_any}
use Rattle.resolvo_proof.specs.declared.step.ProofStep.{ProofStep}
use Rattle.resolvo_terms.specs.Terms.{NameId}
use Rattle.resolvo_catalogue.specs.Ids.{SolvableId}
use Rattle.resolvo_catalogue.specs.Provider.{Provider}
use Rattle.resolvo_catalogue.proofs.MarkLemmas.{one_some}
use Rattle.resolvo_report.specs.Value.{Step, ReportLine, RefusedHead, CatalogueLine, RequestLine, Numbered, Refused}
use Rattle.resolvo_report.specs.Text.{numbered, report_lines}
use Rattle.resolvo_report.specs.Grammar.{IsReport}
use Rattle.resolvo_report.specs.View.{steps_of}
use Rattle.resolvo_checker.specs.Proof.{is_valid_step, is_named, ends_empty}
use Rattle.resolvo_judge.specs.Refusal.{catalogue_line_in, request_line_in, step_in, catalogue_lines_in, request_lines_in, steps_in, has_rule, passes, ArePassed, IsAccepted}
use Rattle.resolvo_judge.specs.Judgement.{IsClaimTrue}
use Rattle.resolvo_judge.proofs.JudgeLemmas.{claim_true}
use Rattle.resolve_refusal.specs.declared.named_lines.Text.{Text}
use Rattle.resolve_refusal.specs.declared.report.Refusal.{Refusal}
use Rattle.resolve_refusal.specs.declared.named_lines.Text.TheVariants as text
use Rattle.resolve_refusal.specs.Named.{line_in, IsNamedBy}
use Rattle.resolve_refusal.specs.Refusal.{IsWrittenAs, Refutes}
use Rattle.resolve_refusal.specs.Parts.{IsRefusalOf, IsRefusedBy, report_with}
use Rattle.resolve_refusal.proofs.FollowLemmas.{zip_right, rests, lines_in, line_rule, present, written_ends}

-- ---- lists, place by place

-- an item of two lists is in the first or in the second
get_parts : {X : Type 0} (xs ys : List X) (n : ℕ) (x : X) → slice_get (xs ++ ys) n ≡ Some x → Contains xs x ⊎ ((m : ℕ) × (slice_get ys m ≡ Some x) × (take n (xs ++ ys) ≡ xs ++ take m ys))
get_parts [] ys n x e = inr (n, e, refl)
get_parts (y ∷ xs) ys zero x e = (let same : y ≡ x = one_some e in inl (contains_from_at (y ∷ xs) x zero (ap (λ z. Some z) same)))
get_parts (y ∷ xs) ys (suc n) x e = elim (get_parts xs ys n x e) [
  | inl a ↦ inl (contains_later x y xs a)
  | inr (m, there, above) ↦ inr (m, there, ap (λ zs. y ∷ zs) above)
]

-- ---- the lines of a report

numbered_at : (first : ℕ) (steps : List Step) (m : ℕ) (l : ReportLine) → slice_get (numbered first steps) m ≡ Some l → (number : ℕ) × (t : Step) × (slice_get steps m ≡ Some t) × (l ≡ Numbered number t) × (take m (numbered first steps) ≡ numbered first (take m steps))
numbered_at first [] m l e = absurd cc
numbered_at first (s ∷ steps) zero l e = (first, s, refl, sym (one_some e), refl)
numbered_at first (s ∷ steps) (suc m) l e =
    let (number, t, at, is, above) = numbered_at (first + 1) steps m l e in
    (number, t, at, is, ap (λ ls. Numbered first s ∷ ls) above)

-- lines that each give one item, or none
each_one : {X Y : Type 0} (f : Y → List X) (g : X → Y) → ((x : X) → f (g x) ≡ x ∷ []) → (xs : List X) → flat_map f (map g xs) ≡ xs
each_one f g one [] = refl
each_one f g one (x ∷ xs) = ap (λ ys. ys ++ flat_map f (map g xs)) (one x) ∙ ap (λ ys. x ∷ ys) (each_one f g one xs)

each_none : {W X Y : Type 0} (f : Y → List X) (g : W → Y) → ((w : W) → f (g w) ≡ []) → (ws : List W) → flat_map f (map g ws) ≡ []
each_none f g none [] = refl
each_none f g none (w ∷ ws) = ap (λ ys. ys ++ flat_map f (map g ws)) (none w) ∙ each_none f g none ws

steps_numbered : (first : ℕ) (steps : List Step) → steps_in (numbered first steps) ≡ steps
steps_numbered first [] = refl
steps_numbered first (s ∷ steps) = ap (λ ss. s ∷ ss) (steps_numbered (first + 1) steps)

none_numbered : {X : Type 0} (f : ReportLine → List X) → ((n : ℕ) (s : Step) → f (Numbered n s) ≡ []) → (first : ℕ) (steps : List Step) → flat_map f (numbered first steps) ≡ []
none_numbered f none first [] = refl
none_numbered f none first (s ∷ steps) = ap (λ xs. xs ++ flat_map f (numbered (first + 1) steps)) (none first s) ∙ none_numbered f none (first + 1) steps

-- the lines above a step
abbrev pub lines_to : List ℕ → List ℕ → List Step → List ReportLine
lines_to in_catalogue in_request earlier = map (λ n. CatalogueLine n) in_catalogue ++ (map (λ n. RequestLine n) in_request ++ numbered 1 earlier)

-- the lines of a refused report without a message
pub lines_are : (in_catalogue in_request : List ℕ) (written : List Step) → report_lines (Refused in_catalogue in_request written []) ≡ RefusedHead ∷ lines_to in_catalogue in_request written
lines_are in_catalogue in_request written = ap (λ ls. RefusedHead ∷ ls) (append-nil ((map (λ x. CatalogueLine x) in_catalogue ++ map (λ x. RequestLine x) in_request) ++ numbered 1 written) ∙ append_assoc (map (λ x. CatalogueLine x) in_catalogue) (map (λ x. RequestLine x) in_request) (numbered 1 written))

three : {X : Type 0} (f : ReportLine → List X) (a b c : List ReportLine) → flat_map f (a ++ (b ++ c)) ≡ flat_map f a ++ (flat_map f b ++ flat_map f c)
three f a b c = flat_map-append f a (b ++ c) ∙ ap (λ xs. flat_map f a ++ xs) (flat_map-append f b c)

module _ (in_catalogue in_request : List ℕ) (earlier : List Step) where
  catalogue_named : catalogue_lines_in (lines_to in_catalogue in_request earlier) ≡ in_catalogue
  catalogue_named = three catalogue_line_in (map (λ n. CatalogueLine n) in_catalogue) (map (λ n. RequestLine n) in_request) (numbered 1 earlier)
      ∙ rw (each_one catalogue_line_in (λ n. CatalogueLine n) (λ n. refl) in_catalogue, each_none catalogue_line_in (λ n. RequestLine n) (λ n. refl) in_request, none_numbered catalogue_line_in (λ n s. refl) 1 earlier) (append-nil in_catalogue)

  request_named : request_lines_in (lines_to in_catalogue in_request earlier) ≡ in_request
  request_named = three request_line_in (map (λ n. CatalogueLine n) in_catalogue) (map (λ n. RequestLine n) in_request) (numbered 1 earlier)
      ∙ rw (each_none request_line_in (λ n. CatalogueLine n) (λ n. refl) in_catalogue, each_one request_line_in (λ n. RequestLine n) (λ n. refl) in_request, none_numbered request_line_in (λ n s. refl) 1 earlier) (append-nil in_request)

  steps_written : steps_in (lines_to in_catalogue in_request earlier) ≡ earlier
  steps_written = three step_in (map (λ n. CatalogueLine n) in_catalogue) (map (λ n. RequestLine n) in_request) (numbered 1 earlier)
      ∙ rw (each_none step_in (λ n. CatalogueLine n) (λ n. refl) in_catalogue, each_none step_in (λ n. RequestLine n) (λ n. refl) in_request) (steps_numbered 1 earlier)

-- a step passes below these lines where it is allowed after the steps of them
step_passes : (catalogue request : List Line) (above : List ReportLine) (in_catalogue in_request : List ℕ) (earlier : List Step) (n : ℕ) (t : Step) → catalogue_lines_in above ≡ in_catalogue → request_lines_in above ≡ in_request → steps_in above ≡ earlier
    → is_valid_step catalogue request (is_named in_catalogue) (is_named in_request) earlier t ≡ true → passes catalogue request (RefusedHead ∷ above) (Numbered n t) ≡ true
step_passes catalogue request above in_catalogue in_request earlier n t c r s may =
    subst (λ (xs : List ℕ). is_valid_step catalogue request (is_named xs) (is_named (request_lines_in above)) (steps_in above) t ≡ true) (sym c)
    (subst (λ (ys : List ℕ). is_valid_step catalogue request (is_named in_catalogue) (is_named ys) (steps_in above) t ≡ true) (sym r)
    (subst (λ (ss : List Step). is_valid_step catalogue request (is_named in_catalogue) (is_named in_request) ss t ≡ true) (sym s) may))

-- a line of this list is named
listed_named : (numbers : List ℕ) (n : ℕ) → Contains numbers n → is_named numbers n ≡ true
listed_named numbers n h = contained_any (λ m. m == n) n numbers h (eq-eqb n n refl)

-- a number of a line is one of the lines
number_within : (lines : List Line) (n : ℕ) (l : Line) → line_at lines n ≡ Some l → (k : ℕ) × (n ≡ suc k) × (k < length lines)
number_within lines zero l e = absurd cc
number_within lines (suc k) l e = (k, refl, slice_get_within lines k l e)

module _ (catalogue : List Line) (source : ReadRequest) (provider : Provider) (steps : List (ProofStep NameId SolvableId)) (refuted : Refutes catalogue source provider steps)
    (in_catalogue in_request : List ℕ) (written : List Step) (each : AllZip (IsWrittenAs catalogue provider.ids source.lines) steps written)
    (named : AreAll in_catalogue (IsNamedBy text.Catalogue (length catalogue) written)) (asked : AreAll in_request (IsNamedBy text.Request (length source.lines) written)) where
  -- a named line has a rule
  states : (of : Text) (numbers : List ℕ) (count n : ℕ) → AreAll numbers (IsNamedBy of count written) → Contains numbers n → has_rule (line_at (lines_in catalogue source.lines of) n) ≡ true
  states of numbers count n all h =
      let (k, is, below, (t, there, rests_on)) = (all.all n).0 h in
      let (m, e) = at_from_contains written t there in
      let (s, at, names_rule) = zip_right (IsWrittenAs catalogue provider.ids source.lines) steps written each m t e in
      let (l, at_line, rule) = line_rule catalogue source provider steps refuted.proves of s t n names_rule rests_on in
      ap has_rule at_line ∙ rule

  -- the line that a step rests on is named
  names : (of : Text) (numbers : List ℕ) (m : ℕ) (t : Step) (n : ℕ) → AreAll numbers (IsNamedBy of (length (lines_in catalogue source.lines of)) written) → slice_get written m ≡ Some t → line_in of t ≡ Some n → is_named numbers n ≡ true
  names of numbers m t n all e rests_on =
      let (s, at, names_rule) = zip_right (IsWrittenAs catalogue provider.ids source.lines) steps written each m t e in
      let (l, at_line, rule) = line_rule catalogue source provider steps refuted.proves of s t n names_rule rests_on in
      let (k, is, below) = number_within (lines_in catalogue source.lines of) n l at_line in
      listed_named numbers n ((all.all n).1 (k, is, below, (t, contains_from_at written t m e, rests_on)))

  line_passes : (n : ℕ) (l : ReportLine) → slice_get (lines_to in_catalogue in_request written) n ≡ Some l → passes catalogue source.lines (RefusedHead ∷ take n (lines_to in_catalogue in_request written)) l ≡ true
  line_passes n l e = elim (get_parts (map (λ x. CatalogueLine x) in_catalogue) (map (λ x. RequestLine x) in_request ++ numbered 1 written) n l e) [
    | inl a ↦ (let (x, h, is) = map_contains (λ (x : ℕ). CatalogueLine x) l in_catalogue a in ap (passes catalogue source.lines (RefusedHead ∷ take n (lines_to in_catalogue in_request written))) is ∙ states text.Catalogue in_catalogue (length catalogue) x named h)
    | inr (m, there, above) ↦ elim (get_parts (map (λ x. RequestLine x) in_request) (numbered 1 written) m l there) [
      | inl a ↦ (let (x, h, is) = map_contains (λ (x : ℕ). RequestLine x) l in_request a in ap (passes catalogue source.lines (RefusedHead ∷ take n (lines_to in_catalogue in_request written))) is ∙ states text.Request in_request (length source.lines) x asked h)
      | inr (k, at, over) ↦ (
          let (number, t, step, is, before) = numbered_at 1 written k l at in
          let whole : take n (lines_to in_catalogue in_request written) ≡ lines_to in_catalogue in_request (take k written) =
          above ∙ ap (λ ls. map (λ x. CatalogueLine x) in_catalogue ++ ls) (over ∙ ap (λ ls. map (λ x. RequestLine x) in_request ++ ls) before) in
          let may = present catalogue source provider steps refuted.proves written each (is_named in_catalogue) (is_named in_request) k t step
          (rests (is_named in_catalogue) (is_named in_request) t (λ x g. names text.Catalogue in_catalogue k t x named step g) (λ x g. names text.Request in_request k t x asked step g)) in
          ap (passes catalogue source.lines (RefusedHead ∷ take n (lines_to in_catalogue in_request written))) is
          ∙ (ap (λ ls. passes catalogue source.lines (RefusedHead ∷ ls) (Numbered number t)) whole
          ∙ step_passes catalogue source.lines (lines_to in_catalogue in_request (take k written)) in_catalogue in_request (take k written) number t
          (catalogue_named in_catalogue in_request (take k written)) (request_named in_catalogue in_request (take k written)) (steps_written in_catalogue in_request (take k written)) may)
          )
    ]
  ]

  all_pass : ArePassed catalogue source.lines (RefusedHead ∷ lines_to in_catalogue in_request written)
  all_pass zero l e = (let same : RefusedHead ≡ l = one_some e in ap (passes catalogue source.lines []) (sym same))
  all_pass (suc n) l e = line_passes n l e

  pub accepted : IsAccepted catalogue source.lines (report_lines (Refused in_catalogue in_request written []))
  accepted = subst (IsAccepted catalogue source.lines) (sym (lines_are in_catalogue in_request written)) (record {
    passed = all_pass;
    ends = ap ends_empty (steps_written in_catalogue in_request written) ∙ written_ends catalogue source provider steps refuted written each;
  })

  pub claimed : IsClaimTrue catalogue source.lines (Refused in_catalogue in_request written [])
  claimed = claim_true catalogue source.lines (Refused in_catalogue in_request written []) accepted

-- The judge accepts a refusal whose steps write the proof's.
pub refusal_of : (catalogue : List Line) (source : ReadRequest) (provider : Provider) (steps : List (ProofStep NameId SolvableId)) → Refutes catalogue source provider steps → (r : Refusal) (refused : IsRefusedBy catalogue source.lines provider.ids steps r)
    → AllZip (IsWrittenAs catalogue provider.ids source.lines) steps (steps_of r.steps.items) → IsReport (report_with [] r) → IsRefusalOf catalogue source.lines provider.ids steps r
refusal_of catalogue source provider steps refuted r refused each report = record {
  each = each;
  used = record { named = refused.named; asked = refused.asked };
  report = report;
  accepted = accepted catalogue source provider steps refuted r.catalogue.items r.request.items (steps_of r.steps.items) each refused.named refused.asked;
  claim = claimed catalogue source provider steps refuted r.catalogue.items r.request.items (steps_of r.steps.items) each refused.named refused.asked;
}
