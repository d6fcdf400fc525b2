-- The claim of a report whose lines and end pass is true.
use Rattle.std.proofs.Common.{◌≡◌, ℕ, zero, suc, ◌<◌, Bool, true, false, List, [], ◌∷◌, ◌++◌, length, take, Option, Some, None, refl, sym, ap, subst, ◌∙◌, inl, inr, ◌⊎◌, arith, eqb}
use Rattle.std.specs.Prelude.{not, ◌&&◌, ◌||◌, nat_lt, slice_get, slice_index_or, Contains}
use Rattle.std.specs.List.{list_any, list_all, flat_map}
use Rattle.std.specs.Str.{bytes_eq}
use Rattle.std.specs.List.Sorted.{IsStrictlyIncreasing}
use Rattle.std.specs.Option.{option_map_or, option_and_then}
use Rattle.std.proofs.lemmas.Bool.{false≢true, and_parts, and_from, or_cases, or_parts, or_left, or_right, not-true, eqb-true, ltb-true}
use Rattle.std.proofs.lemmas.Option.{same_Some}
use Rattle.std.proofs.lemmas.List.{append_assoc, append-nil}
use Rattle.std.proofs.lemmas.List.Concat.{flat_map-append}
use Rattle.resolvo_text.specs.Line.{Version, Line, Skipped, Listed, Needs, Limits, Unknown, Lock, Favour, Exclude, Many, Wish}
use Rattle.resolvo_text.specs.Matches.{Set, same_package, same_version, is_member, matches, condition_holds}
use Rattle.resolvo_catalogue_core.specs.Grammar.{line_at, owner_of}
use Rattle.resolvo_catalogue_core.specs.Sets.{is_many, IsSingle, IsRuleKeeping}
use Rattle.resolvo_catalogue_core.specs.Answers.{Answer, Reason, Entry, LeftOut, ForRequest, ForVersion, Wished, entry_of, entries_of, wish_line_of, IsNeededBy, IsReason, IsReasoned, IsLeftOut, ClaimsInstall, ClaimsRefusal}
use Rattle.resolvo_catalogue_core.proofs.Pushed.{increasing_push}
use Rattle.resolvo_report.specs.Value.{Place, OfRequest, OfVersion, AnswerLine, ReportLine, InstallHead, RefusedHead, CatalogueLine, RequestLine, Numbered, Message, Step}
use Rattle.resolvo_report.specs.Value as line
use Rattle.resolvo_checker.specs.StepClauses.{Clause, clause_of, is_listed, is_owner}
use Rattle.resolvo_checker.specs.Proof.{is_valid_step, rests_on_named, follows, is_named, every_line, IsProof, forbids}
use Rattle.resolvo_judge.specs.Refusal.{answer_in, step_in, answers_in, answers_claimed, steps_in, catalogue_lines_in, request_lines_in, catalogue_line_in, request_line_in, may_rest, passes, step_forbids, ArePassed, IsAccepted}
use Rattle.resolvo_judge.specs.Entries.{answer_fits, is_free}
use Rattle.resolvo_judge.proofs.FreeLemmas.{free_is_new, free_is_alone}
use Rattle.resolvo_judge.proofs.AnswerTests.{is_needed, is_wish, has_reason, leaves_out, is_left_out, rises, answer_passes, leaves_out_at, AnswersEnd}
use Rattle.resolvo_judge.proofs.FitLemmas.{AnswersPass, answers_pass, ends_so}
use Rattle.resolvo_checker.proofs.Sets.{contained, is_contained, same_own, same_is}
use Rattle.resolvo_checker.proofs.Atoms.{bytes_own}
use Rattle.resolvo_checker.proofs.ListedLemmas.{contains_listed}
use Rattle.resolvo_checker.proofs.ProofTrue.{proof_forbids}
use Rattle.resolvo_judge.proofs.ProofLaws.{refutes}
use Rattle.resolvo_checker.proofs.WholeProofs.{take_prefix}

-- ---- parts of the lines

-- the place of a part of the lines, of which each line gives at most one
pub record FoundAt {L X : Type 0} (f : L → List X) (lines : List L) (k : ℕ) (x : X) : Type 0 where
  pub place : ℕ
  pub item : L
  pub there : slice_get lines place ≡ Some item
  pub gives : f item ≡ x ∷ []
  pub above : flat_map f (take place lines) ≡ take k (flat_map f lines)

AtMostOne : {L X : Type 0} → (L → List X) → Type 0
AtMostOne {L} {X} f = (l : L) → (f l ≡ []) ⊎ ((x : X) × (f l ≡ x ∷ []))

by_place : {L X : Type 0} (f : L → List X) (l : L) (lines : List L) (y : X) → f l ≡ y ∷ [] → ((k : ℕ) (x : X) → slice_get (flat_map f lines) k ≡ Some x → FoundAt f lines k x)
    → (k : ℕ) (x : X) → slice_get (f l ++ flat_map f lines) k ≡ Some x → FoundAt f (l ∷ lines) k x
by_place f l lines y is rest zero x e = record { place = 0; item = l; there = refl; gives = is ∙ ap (λ z. z ∷ []) (same_Some y x (ap (λ ys. slice_get (ys ++ flat_map f lines) 0) (sym is) ∙ e)); above = refl }
by_place f l lines y is rest (suc k) x e =
    let r = rest k x (ap (λ ys. slice_get (ys ++ flat_map f lines) (suc k)) (sym is) ∙ e) in
    record { place = suc r.place; item = r.item; there = r.there; gives = r.gives; above = ap (λ ys. ys ++ flat_map f (take r.place lines)) is ∙ (ap (λ ys. y ∷ ys) r.above ∙ ap (λ ys. take (suc k) (ys ++ flat_map f lines)) (sym is)) }

found_at : {L X : Type 0} (f : L → List X) → AtMostOne f → (lines : List L) (k : ℕ) (x : X) → slice_get (flat_map f lines) k ≡ Some x → FoundAt f lines k x
unfolding AtMostOne
found_at f one [] k x e = cc
found_at f one (l ∷ lines) k x e = elim (one l) [
  | inl none ↦
      let r = found_at f one lines k x (ap (λ ys. slice_get (ys ++ flat_map f lines) k) (sym none) ∙ e) in
      record { place = suc r.place; item = r.item; there = r.there; gives = r.gives; above = ap (λ ys. ys ++ flat_map f (take r.place lines)) none ∙ (r.above ∙ ap (λ ys. take k (ys ++ flat_map f lines)) (sym none)) }
  | inr p ↦ by_place f l lines p.0 p.1 (λ j y g. found_at f one lines j y g) k x e
]

one_step : AtMostOne step_in
unfolding AtMostOne
one_step (Numbered n s) = inr (s, refl)
one_step InstallHead = inl refl
one_step RefusedHead = inl refl
one_step (line.Answer a) = inl refl
one_step (CatalogueLine n) = inl refl
one_step (RequestLine n) = inl refl
one_step (Message b) = inl refl

one_answer : AtMostOne answer_in
unfolding AtMostOne
one_answer (line.Answer a) = inr (a, refl)
one_answer InstallHead = inl refl
one_answer RefusedHead = inl refl
one_answer (Numbered n s) = inl refl
one_answer (CatalogueLine n) = inl refl
one_answer (RequestLine n) = inl refl
one_answer (Message b) = inl refl

-- a line that gives a step passes xs that step
step_passes : (catalogue request : List Line) (above : List ReportLine) (l : ReportLine) (s : Step) → step_in l ≡ s ∷ [] → passes catalogue request above l ≡ true
    → is_valid_step catalogue request (may_rest above (catalogue_lines_in above)) (may_rest above (request_lines_in above)) (steps_in above) s ≡ true
step_passes catalogue request above (Numbered n t) s g p = let same : t ≡ s = cc in subst (λ (u : Step). is_valid_step catalogue request (may_rest above (catalogue_lines_in above)) (may_rest above (request_lines_in above)) (steps_in above) u ≡ true) same p
step_passes catalogue request above InstallHead s g p = absurd cc
step_passes catalogue request above RefusedHead s g p = absurd cc
step_passes catalogue request above (line.Answer a) s g p = absurd cc
step_passes catalogue request above (CatalogueLine n) s g p = absurd cc
step_passes catalogue request above (RequestLine n) s g p = absurd cc
step_passes catalogue request above (Message b) s g p = absurd cc

answer_fits_at : (catalogue request : List Line) (above : List ReportLine) (l : ReportLine) (a : AnswerLine) → answer_in l ≡ a ∷ [] → passes catalogue request above l ≡ true → answer_fits catalogue request (answers_in above) a ≡ true
answer_fits_at catalogue request above (line.Answer b) a g p = let same : b ≡ a = cc in subst (λ (x : AnswerLine). answer_fits catalogue request (answers_in above) x ≡ true) same p
answer_fits_at catalogue request above InstallHead a g p = absurd cc
answer_fits_at catalogue request above RefusedHead a g p = absurd cc
answer_fits_at catalogue request above (Numbered n s) a g p = absurd cc
answer_fits_at catalogue request above (CatalogueLine n) a g p = absurd cc
answer_fits_at catalogue request above (RequestLine n) a g p = absurd cc
answer_fits_at catalogue request above (Message b) a g p = absurd cc

-- ---- a refusal

named_more : (xs ys : List ℕ) (n : ℕ) → is_named xs n ≡ true → is_named (xs ++ ys) n ≡ true
named_more [] ys n h = absurd (false≢true h)
named_more (x ∷ xs) ys n h = elim (or_cases (eqb x n) (is_named xs n) h) [ inl e ↦ or_left _ _ e | inr e ↦ or_right _ _ (named_more xs ys n e) ]

drop_prefix : {X : Type 0} (k : ℕ) (xs : List X) → (ys : List X) × (xs ≡ take k xs ++ ys)
drop_prefix zero xs = (xs, refl)
drop_prefix (suc k) [] = ([], refl)
drop_prefix (suc k) (x ∷ xs) = let r = drop_prefix k xs in (r.0, ap (λ zs. x ∷ zs) r.1)

-- a line that is named above another is named in all lines
named_above : (f : ReportLine → List ℕ) (lines : List ReportLine) (k n : ℕ) → is_named (flat_map f (take k lines)) n ≡ true → is_named (flat_map f lines) n ≡ true
named_above f lines k n h =
    let r = drop_prefix k lines in
    ap (λ xs. is_named (flat_map f xs) n) r.1 ∙ (ap (λ xs. is_named xs n) (flat_map-append f (take k lines) r.0) ∙ named_more (flat_map f (take k lines)) (flat_map f r.0) n h)

module _ (c d r t : ℕ → Bool) (more_c : (n : ℕ) → c n ≡ true → d n ≡ true) (more_r : (n : ℕ) → r n ≡ true → t n ≡ true) where
  rests_more : (s : Step) → rests_on_named c r s ≡ true → rests_on_named d t s ≡ true
  rests_more (line.Need OfRequest n k) h = more_r n h
  rests_more (line.Need (OfVersion v) n k) h = more_c n h
  rests_more (line.Gate v n) h = more_c n h
  rests_more (line.LimitBars OfRequest n v) h = more_r n h
  rests_more (line.LimitBars (OfVersion w) n v) h = more_c n h
  rests_more (line.Limit OfRequest n) h = more_r n h
  rests_more (line.Limit (OfVersion v) n) h = more_c n h
  rests_more (line.Lock n v) h = more_c n h
  rests_more (line.Exclude n) h = more_c n h
  rests_more (line.Unknown n) h = more_c n h
  rests_more (line.Shared a) h = refl
  rests_more (line.Outside s v) h = refl
  rests_more (line.Matches s v) h = refl
  rests_more (line.Digit v p b) h = refl
  rests_more (line.Any v) h = refl
  rests_more (line.Derive a b) h = refl

  valid_more : (catalogue request : List Line) (above : List Step) (s : Step) → is_valid_step catalogue request c r above s ≡ true → is_valid_step catalogue request d t above s ≡ true
  valid_more catalogue request above s h =
      let p = and_parts _ (rests_on_named c r s && follows catalogue request above s) h in
      let q = and_parts (rests_on_named c r s) (follows catalogue request above s) p.1 in
      and_from _ _ p.0 (and_from _ _ (rests_more s q.0) q.1)

-- the steps of lines that pass are a proof
refusal_proof : (catalogue request : List Line) (lines : List ReportLine) → ArePassed catalogue request (RefusedHead ∷ lines) → IsProof catalogue request (is_named (catalogue_lines_in lines)) (is_named (request_lines_in lines)) (steps_in lines)
refusal_proof catalogue request lines passed k s at =
    let f = found_at step_in one_step lines k s at in
    let p = step_passes catalogue request (RefusedHead ∷ take f.place lines) f.item s f.gives (passed (suc f.place) f.item f.there) in
    subst (λ (ss : List Step). is_valid_step catalogue request (is_named (catalogue_lines_in lines)) (is_named (request_lines_in lines)) ss s ≡ true) f.above
    (valid_more (is_named (catalogue_lines_in (take f.place lines))) (is_named (catalogue_lines_in lines)) (is_named (request_lines_in (take f.place lines))) (is_named (request_lines_in lines))
    (λ n h. named_above catalogue_line_in lines f.place n h) (λ n h. named_above request_line_in lines f.place n h)
    catalogue request (steps_in (take f.place lines)) s p)

pub refusal_true : (catalogue request : List Line) (lines : List ReportLine) → IsAccepted catalogue request (RefusedHead ∷ lines) → ClaimsRefusal catalogue request (catalogue_lines_in lines) (request_lines_in lines)
refusal_true catalogue request lines accepted = refutes catalogue request (catalogue_lines_in lines) (request_lines_in lines) (steps_in lines) (refusal_proof catalogue request lines accepted.passed) accepted.ends

-- ---- an install report

pub install_proof : (catalogue request : List Line) (lines : List ReportLine) → ArePassed catalogue request (InstallHead ∷ lines) → IsProof catalogue request every_line every_line (steps_in lines)
install_proof catalogue request lines passed k s at =
    let f = found_at step_in one_step lines k s at in
    subst (λ (ss : List Step). is_valid_step catalogue request every_line every_line ss s ≡ true) f.above
    (step_passes catalogue request (InstallHead ∷ take f.place lines) f.item s f.gives (passed (suc f.place) f.item f.there))

-- each answer fits after those above it
answers_fit : (catalogue request : List Line) (lines : List ReportLine) → ArePassed catalogue request (InstallHead ∷ lines) → (k : ℕ) (a : AnswerLine) → slice_get (answers_in lines) k ≡ Some a → answer_fits catalogue request (take k (answers_in lines)) a ≡ true
answers_fit catalogue request lines passed k a at =
    let f = found_at answer_in one_answer lines k a at in
    subst (λ (xs : List AnswerLine). answer_fits catalogue request xs a ≡ true) f.above
    (answer_fits_at catalogue request (InstallHead ∷ take f.place lines) f.item a f.gives (passed (suc f.place) f.item f.there))

pub get_seam : {X : Type 0} (xs : List X) (y : X) (ys : List X) → slice_get (xs ++ y ∷ ys) (length xs) ≡ Some y
get_seam [] y ys = refl
get_seam (x ∷ xs) y ys = get_seam xs y ys

module _ (catalogue request : List Line) (answers : List Answer) (pass : AnswersPass catalogue request answers) where
  -- the answer between those above and below it passes
  here : (above : List Answer) (a : Answer) (below : List Answer) → answers ≡ above ++ a ∷ below → answer_passes catalogue request above a ≡ true
  here above a below is =
      subst (λ (xs : List Answer). answer_passes catalogue request xs a ≡ true) (ap (take (length above)) is ∙ take_prefix above (a ∷ below))
      (pass (length above) a (ap (λ xs. slice_get xs (length above)) is ∙ get_seam above a below))

  -- what an entry that passes implies
  record EntryPasses (above : List Answer) (v : Version) (reason : Reason) : Type 0 where
    pub listed : is_listed catalogue v ≡ true
    pub free : is_free catalogue (entries_of above) v ≡ true
    pub kept : is_left_out above v ≡ false
    pub reasoned : has_reason catalogue request (entries_of above) v reason ≡ true
    pub rises : rises above (Entry v reason) ≡ true

  entry_passes : (above : List Answer) (v : Version) (reason : Reason) (below : List Answer) → answers ≡ above ++ Entry v reason ∷ below → EntryPasses above v reason
  entry_passes above v reason below is =
      let p = and_parts (is_listed catalogue v) _ (here above (Entry v reason) below is) in
      let q = and_parts (is_free catalogue (entries_of above) v) _ p.1 in
      let r = and_parts (not (is_left_out above v)) _ q.1 in
      let s = and_parts (has_reason catalogue request (entries_of above) v reason) (rises above (Entry v reason)) r.1 in
      record { listed = p.0; free = q.0; kept = not-true _ r.0; reasoned = s.0; rises = s.1 }

  record LeftPasses (above : List Answer) (v : Version) (n k : ℕ) : Type 0 where
    pub wish : is_wish (line_at request n) v ≡ true
    pub absent : is_member v (entries_of above) ≡ false
    pub rises : rises above (LeftOut v n k) ≡ true

  left_passes : (above : List Answer) (v : Version) (n k : ℕ) (below : List Answer) → answers ≡ above ++ LeftOut v n k ∷ below → LeftPasses above v n k
  left_passes above v n k below is =
      let p = and_parts (is_wish (line_at request n) v) _ (here above (LeftOut v n k) below is) in
      let q = and_parts (not (is_member v (entries_of above))) (rises above (LeftOut v n k)) p.1 in
      record { wish = p.0; absent = not-true _ q.0; rises = q.1 }

  next : (above : List Answer) (a : Answer) (below : List Answer) → answers ≡ above ++ a ∷ below → answers ≡ (above ++ a ∷ []) ++ below
  next above a below is = is ∙ sym (append_assoc above (a ∷ []) below)

  entries_more : (above : List Answer) (a : Answer) (es : Set) → entries_of (a ∷ []) ≡ es → entries_of (above ++ a ∷ []) ≡ entries_of above ++ es
  entries_more above a es e = flat_map-append entry_of above (a ∷ []) ∙ ap (λ xs. entries_of above ++ xs) e

  -- ---- reasons

  needed : (earlier : Set) (l : Option Line) (v : Version) → is_needed earlier l v ≡ true → IsNeededBy earlier l v
  needed earlier None v h = absurd (false≢true h)
  needed earlier (Some (Needs a c)) v h = let p = and_parts (list_any (λ s. matches s v) a) (condition_holds c earlier) h in (a, c, refl, p.0, p.1)
  needed earlier (Some Skipped) v h = absurd (false≢true h)
  needed earlier (Some (Listed w)) v h = absurd (false≢true h)
  needed earlier (Some (Limits s)) v h = absurd (false≢true h)
  needed earlier (Some (Unknown r)) v h = absurd (false≢true h)
  needed earlier (Some (Lock w)) v h = absurd (false≢true h)
  needed earlier (Some (Favour w)) v h = absurd (false≢true h)
  needed earlier (Some (Many name)) v h = absurd (false≢true h)
  needed earlier (Some (Exclude w r)) v h = absurd (false≢true h)
  needed earlier (Some (Wish w)) v h = absurd (false≢true h)

  wish_is : (l : Option Line) (v : Version) → is_wish l v ≡ true → l ≡ Some (Wish v)
  wish_is None v h = absurd (false≢true h)
  wish_is (Some (Wish w)) v h = ap (λ x. Some (Wish x)) (same_is w v h)
  wish_is (Some (Needs a c)) v h = absurd (false≢true h)
  wish_is (Some Skipped) v h = absurd (false≢true h)
  wish_is (Some (Listed w)) v h = absurd (false≢true h)
  wish_is (Some (Limits s)) v h = absurd (false≢true h)
  wish_is (Some (Unknown r)) v h = absurd (false≢true h)
  wish_is (Some (Lock w)) v h = absurd (false≢true h)
  wish_is (Some (Favour w)) v h = absurd (false≢true h)
  wish_is (Some (Many name)) v h = absurd (false≢true h)
  wish_is (Some (Exclude w r)) v h = absurd (false≢true h)

  owner_is : (v : Version) (o : Option Version) → is_owner v o ≡ true → o ≡ Some v
  owner_is v None h = absurd (false≢true h)
  owner_is v (Some w) h = ap Some (sym (same_is v w h))

  reason_is : (earlier : Set) (v : Version) (reason : Reason) → has_reason catalogue request earlier v reason ≡ true → IsReason catalogue request earlier v reason
  reason_is earlier v (ForRequest n) h = needed earlier (line_at request n) v h
  reason_is earlier v (ForVersion w n) h =
      let p = and_parts (is_member w earlier) _ h in
      let q = and_parts (is_owner w (owner_of catalogue n)) (is_needed earlier (line_at catalogue n) v) p.1 in
      (contained earlier w p.0, owner_is w (owner_of catalogue n) q.0, needed earlier (line_at catalogue n) v q.1)
  reason_is earlier v (Wished n) h = wish_is (line_at request n) v h

  reasoned : (above below : List Answer) → answers ≡ above ++ below → IsReasoned catalogue request (entries_of above) below
  reasoned above [] is = tt
  reasoned above (Entry v reason ∷ below) is =
      let p = entry_passes above v reason below is in (
        λ c. false≢true (sym (free_is_new catalogue (entries_of above) v p.free) ∙ is_contained (entries_of above) v c),
        reason_is (entries_of above) v reason p.reasoned,
        subst (λ (es : Set). IsReasoned catalogue request es below) (entries_more above (Entry v reason) (v ∷ []) refl) (reasoned (above ++ Entry v reason ∷ []) below (next above (Entry v reason) below is)),
      )
  reasoned above (LeftOut v n k ∷ below) is =
      subst (λ (es : Set). IsReasoned catalogue request es below) (entries_more above (LeftOut v n k) [] refl ∙ append-nil (entries_of above)) (reasoned (above ++ LeftOut v n k ∷ []) below (next above (LeftOut v n k) below is))

  -- ---- the answers above a later entry, and above a later left-out wish

  any_prefix : (p : Version → Bool) (above : List Answer) (a : Answer) → list_any p (entries_of (above ++ a ∷ [])) ≡ false → list_any p (entries_of above) ≡ false
  any_prefix p above a h = prefix (entries_of above) (entries_of (a ∷ [])) (sym (ap (list_any p) (flat_map-append entry_of above (a ∷ []))) ∙ h) where
    prefix : (xs ys : Set) → list_any p (xs ++ ys) ≡ false → list_any p xs ≡ false
    prefix [] ys e = refl
    prefix (x ∷ xs) ys e = let q = or_parts (p x) (list_any p (xs ++ ys)) e in ap (λ b. b || list_any p xs) q.0 ∙ prefix xs ys q.1

  left_prefix : (above : List Answer) (a : Answer) (v : Version) → is_left_out (above ++ a ∷ []) v ≡ false → is_left_out above v ≡ false
  left_prefix [] a v h = refl
  left_prefix (x ∷ xs) a v h = let q = or_parts (leaves_out v x) (is_left_out (xs ++ a ∷ []) v) h in ap (λ b. b || is_left_out xs v) q.0 ∙ left_prefix xs a v q.1

  alone_above : (above rest : List Answer) (w : Version) → is_many catalogue w.name ≡ false → answers ≡ above ++ rest → is_member w (entries_of rest) ≡ true → list_any (same_package w) (entries_of above) ≡ false
  alone_above above [] w single is h = absurd (false≢true h)
  alone_above above (Entry x r ∷ rest) w single is h = elim (or_cases (same_version w x) (is_member w (entries_of rest)) h) [
    | inl e ↦ subst (λ (y : Version). list_any (same_package y) (entries_of above) ≡ false) (sym (same_is w x e))
        (free_is_alone catalogue (entries_of above) x (subst (λ (y : Version). is_many catalogue y.name ≡ false) (same_is w x e) single) (entry_passes above x r rest is).free)
    | inr e ↦ any_prefix (same_package w) above (Entry x r) (alone_above (above ++ Entry x r ∷ []) rest w single (next above (Entry x r) rest is) e)
  ]
  alone_above above (LeftOut x n k ∷ rest) w single is h = any_prefix (same_package w) above (LeftOut x n k) (alone_above (above ++ LeftOut x n k ∷ []) rest w single (next above (LeftOut x n k) rest is) h)

  kept_above : (above rest : List Answer) (v : Version) → answers ≡ above ++ rest → is_member v (entries_of rest) ≡ true → is_left_out above v ≡ false
  kept_above above [] v is h = absurd (false≢true h)
  kept_above above (Entry x r ∷ rest) v is h = elim (or_cases (same_version v x) (is_member v (entries_of rest)) h) [
    | inl e ↦ subst (λ (y : Version). is_left_out above y ≡ false) (sym (same_is v x e)) (entry_passes above x r rest is).kept
    | inr e ↦ left_prefix above (Entry x r) v (kept_above (above ++ Entry x r ∷ []) rest v (next above (Entry x r) rest is) e)
  ]
  kept_above above (LeftOut x n k ∷ rest) v is h = left_prefix above (LeftOut x n k) v (kept_above (above ++ LeftOut x n k ∷ []) rest v (next above (LeftOut x n k) rest is) h)

  absent_above : (above rest : List Answer) (v : Version) → answers ≡ above ++ rest → is_left_out rest v ≡ true → is_member v (entries_of above) ≡ false
  absent_above above [] v is h = absurd (false≢true h)
  absent_above above (Entry x r ∷ rest) v is h = any_prefix (same_version v) above (Entry x r) (absent_above (above ++ Entry x r ∷ []) rest v (next above (Entry x r) rest is) h)
  absent_above above (LeftOut x n k ∷ rest) v is h = elim (or_cases (same_version x v) (is_left_out rest v) h) [
    | inl e ↦ subst (λ (y : Version). is_member y (entries_of above) ≡ false) (same_is x v e) (left_passes above x n k rest is).absent
    | inr e ↦ any_prefix (same_version v) above (LeftOut x n k) (absent_above (above ++ LeftOut x n k ∷ []) rest v (next above (LeftOut x n k) rest is) e)
  ]

  -- the last of the entries above is among them
  last_in : (p : Version → Bool) (above : List Answer) (x : Version) (r : Reason) → p x ≡ true → list_any p (entries_of (above ++ Entry x r ∷ [])) ≡ true
  last_in p above x r h = ap (list_any p) (flat_map-append entry_of above (Entry x r ∷ [])) ∙ back (entries_of above) where
    back : (xs : Set) → list_any p (xs ++ x ∷ []) ≡ true
    back [] = or_left _ _ h
    back (y ∷ ys) = or_right _ _ (back ys)

  last_left : (above : List Answer) (x : Version) (n k : ℕ) → is_left_out (above ++ LeftOut x n k ∷ []) x ≡ true
  last_left [] x n k = or_left _ _ (same_own x)
  last_left (a ∷ above) x n k = or_right _ _ (last_left above x n k)

  -- ---- the entries are a single set

  listed_from : (above rest : List Answer) (v : Version) → answers ≡ above ++ rest → is_member v (entries_of rest) ≡ true → is_listed catalogue v ≡ true
  listed_from above [] v is h = absurd (false≢true h)
  listed_from above (Entry x r ∷ rest) v is h = elim (or_cases (same_version v x) (is_member v (entries_of rest)) h) [
    | inl e ↦ subst (λ (y : Version). is_listed catalogue y ≡ true) (sym (same_is v x e)) (entry_passes above x r rest is).listed
    | inr e ↦ listed_from (above ++ Entry x r ∷ []) rest v (next above (Entry x r) rest is) e
  ]
  listed_from above (LeftOut x n k ∷ rest) v is h = listed_from (above ++ LeftOut x n k ∷ []) rest v (next above (LeftOut x n k) rest is) h

  apart : (above rest : List Answer) (x w : Version) (r : Reason) → is_many catalogue w.name ≡ false → answers ≡ above ++ Entry x r ∷ rest → is_member w (entries_of rest) ≡ true → w.name ≡ x.name → ⊥
  apart above rest x w r single is h same =
      false≢true (sym (alone_above (above ++ Entry x r ∷ []) rest w single (next above (Entry x r) rest is) h) ∙ last_in (same_package w) above x r (subst (λ (m : List ℕ). bytes_eq w.name m ≡ true) same (bytes_own w.name)))

  one_from : (above rest : List Answer) (v w : Version) → answers ≡ above ++ rest → is_member v (entries_of rest) ≡ true → is_member w (entries_of rest) ≡ true → v.name ≡ w.name → is_many catalogue v.name ≡ false → v ≡ w
  one_from above [] v w is h g same single = absurd (false≢true h)
  one_from above (LeftOut x n k ∷ rest) v w is h g same single = one_from (above ++ LeftOut x n k ∷ []) rest v w (next above (LeftOut x n k) rest is) h g same single
  one_from above (Entry x r ∷ rest) v w is h g same single = elim (or_cases (same_version v x) (is_member v (entries_of rest)) h) [
    | inl e ↦ elim (or_cases (same_version w x) (is_member w (entries_of rest)) g) [
      | inl f ↦ same_is v x e ∙ sym (same_is w x f)
      | inr f ↦ absurd (apart above rest x w r (subst (λ (n : List ℕ). is_many catalogue n ≡ false) same single) is f (sym same ∙ ap (λ (y : Version). y.name) (same_is v x e)))
    ]
    | inr e ↦ elim (or_cases (same_version w x) (is_member w (entries_of rest)) g) [
      | inl f ↦ absurd (apart above rest x v r single is e (same ∙ ap (λ (y : Version). y.name) (same_is w x f)))
      | inr f ↦ one_from (above ++ Entry x r ∷ []) rest v w (next above (Entry x r) rest is) e f same single
    ]
  ]

  pub single : IsSingle catalogue (entries_of answers)
  single = record {
    listed = λ v c. contains_listed catalogue v (listed_from [] answers v refl (is_contained (entries_of answers) v c));
    one_each = λ v w c d same single. one_from [] answers v w refl (is_contained (entries_of answers) v c) (is_contained (entries_of answers) w d) same single;
  }

  -- ---- the account of the wishes

  both_from : (above rest : List Answer) (v : Version) → answers ≡ above ++ rest → is_left_out rest v ≡ true → is_member v (entries_of rest) ≡ true → ⊥
  both_from above [] v is l h = false≢true h
  both_from above (Entry x r ∷ rest) v is l h = elim (or_cases (same_version v x) (is_member v (entries_of rest)) h) [
    | inl e ↦ false≢true (sym (absent_above (above ++ Entry x r ∷ []) rest v (next above (Entry x r) rest is) l) ∙ last_in (same_version v) above x r e)
    | inr e ↦ both_from (above ++ Entry x r ∷ []) rest v (next above (Entry x r) rest is) l e
  ]
  both_from above (LeftOut x n k ∷ rest) v is l h = elim (or_cases (same_version x v) (is_left_out rest v) l) [
    | inl e ↦ false≢true (sym (kept_above (above ++ LeftOut x n k ∷ []) rest v (next above (LeftOut x n k) rest is) h) ∙ subst (λ (y : Version). is_left_out (above ++ LeftOut x n k ∷ []) y ≡ true) (same_is x v e) (last_left above x n k))
    | inr e ↦ both_from (above ++ LeftOut x n k ∷ []) rest v (next above (LeftOut x n k) rest is) e h
  ]

  get_in : {X : Type 0} (xs : List X) (x : X) (k : ℕ) → k < length xs → slice_index_or xs k x ≡ x → slice_get xs k ≡ Some x
  get_in [] x k l e = absurd (omega arith)
  get_in (y ∷ ys) x zero l e = ap Some e
  get_in (y ∷ ys) x (suc k) l e = get_in ys x k (omega arith) e

  left_in : (xs : List Answer) (v : Version) (n k i : ℕ) → slice_get xs i ≡ Some (LeftOut v n k) → is_left_out xs v ≡ true
  left_in [] v n k i e = cc
  left_in (a ∷ xs) v n k zero e = let same : a ≡ LeftOut v n k = cc in or_left _ _ (subst (λ (x : Answer). leaves_out v x ≡ true) (sym same) (same_own v))
  left_in (a ∷ xs) v n k (suc i) e = or_right _ _ (left_in xs v n k i e)

  left_at : (xs : List Answer) (v : Version) (n : ℕ) → list_any (leaves_out_at v n) xs ≡ true → IsLeftOut xs v n
  left_at [] v n h = absurd (false≢true h)
  left_at (Entry x r ∷ xs) v n h = let l = left_at xs v n h in (l.0, (suc l.1.0, omega (arith, l.1.1), l.1.2))
  left_at (LeftOut x m k ∷ xs) v n h = elim (or_cases (same_version x v && eqb m n) (list_any (leaves_out_at v n) xs) h) [
    | inl e ↦ let p = and_parts (same_version x v) (eqb m n) e in (k, (0, omega arith, ap (λ (y : Version). LeftOut y m k) (same_is x v p.0) ∙ ap (λ (i : ℕ). LeftOut v i k) (eqb-true m n p.1)))
    | inr e ↦ let l = left_at xs v n e in (l.0, (suc l.1.0, omega (arith, l.1.1), l.1.2))
  ]

  below_all : (xs : List ℕ) (m n : ℕ) → list_all (λ k. nat_lt k m) xs ≡ true → Contains xs n → n < m
  below_all xs m n h c = at xs c.0 c.1 c.2 h where
    at : (ys : List ℕ) (i : ℕ) → i < length ys → slice_index_or ys i n ≡ n → list_all (λ k. nat_lt k m) ys ≡ true → n < m
    at [] i l e a = absurd (omega arith)
    at (y ∷ ys) zero l e a = subst (λ (x : ℕ). x < m) e (ltb-true y m (and_parts (nat_lt y m) _ a).0)
    at (y ∷ ys) (suc i) l e a = at ys i (omega arith) e (and_parts (nat_lt y m) _ a).1

  lines_more : (above : List Answer) (a : Answer) → flat_map wish_line_of (above ++ a ∷ []) ≡ flat_map wish_line_of above ++ (wish_line_of a ++ [])
  lines_more above a = flat_map-append wish_line_of above (a ∷ [])

  one_line : (b : Answer) (n m : ℕ) (ns : List ℕ) → wish_line_of b ≡ n ∷ m ∷ ns → ⊥
  one_line (Entry v (ForRequest i)) n m ns e = cc
  one_line (Entry v (ForVersion w i)) n m ns e = cc
  one_line (Entry v (Wished i)) n m ns e = cc
  one_line (LeftOut v i k) n m ns e = cc

  rising_one : (above : List Answer) (a : Answer) → rises above a ≡ true → IsStrictlyIncreasing (flat_map wish_line_of above) → IsStrictlyIncreasing (flat_map wish_line_of (above ++ a ∷ []))
  rising_one above a h inc = subst IsStrictlyIncreasing (sym (lines_more above a)) (one (wish_line_of a) refl h) where
    one : (ns : List ℕ) → wish_line_of a ≡ ns → list_all (λ n. list_all (λ m. nat_lt m n) (flat_map wish_line_of above)) ns ≡ true → IsStrictlyIncreasing (flat_map wish_line_of above ++ (ns ++ []))
    one [] e g = subst IsStrictlyIncreasing (sym (append-nil (flat_map wish_line_of above))) inc
    one (n ∷ []) e g = increasing_push (flat_map wish_line_of above) n inc (λ k c. below_all (flat_map wish_line_of above) n k (and_parts _ _ g).0 c)
    one (n ∷ m ∷ ns) e g = absurd (one_line a n m ns e)

  rising_from : (above rest : List Answer) → answers ≡ above ++ rest → IsStrictlyIncreasing (flat_map wish_line_of above) → IsStrictlyIncreasing (flat_map wish_line_of answers)
  rising_from above [] is inc = subst (λ (xs : List Answer). IsStrictlyIncreasing (flat_map wish_line_of xs)) (sym (is ∙ append-nil above)) inc
  rising_from above (Entry v r ∷ rest) is inc = rising_from (above ++ Entry v r ∷ []) rest (next above (Entry v r) rest is) (rising_one above (Entry v r) (entry_passes above v r rest is).rises inc)
  rising_from above (LeftOut v n k ∷ rest) is inc = rising_from (above ++ LeftOut v n k ∷ []) rest (next above (LeftOut v n k) rest is) (rising_one above (LeftOut v n k) (left_passes above v n k rest is).rises inc)

  none_rise : IsStrictlyIncreasing []
  none_rise = λ k h. absurd (omega (arith, h))

  wished_at : (i n k : ℕ) (v : Version) → slice_get answers i ≡ Some (LeftOut v n k) → line_at request n ≡ Some (Wish v)
  wished_at i n k v at = wish_is (line_at request n) v (and_parts (is_wish (line_at request n) v) _ (pass i (LeftOut v n k) at)).0

  module _ (steps : List Step) (proof : IsProof catalogue request every_line every_line steps) (ends : AnswersEnd catalogue request answers steps) where
    forbidden : (entries : Set) (v : Version) (k : ℕ) → step_forbids catalogue request steps entries v k ≡ true → (set : Set) → IsRuleKeeping catalogue request set → Contains set v → ((w : Version) → Contains entries w → Contains set w) → ⊥
    forbidden entries v zero h = absurd (false≢true h)
    forbidden entries v (suc k) h = one (slice_get steps k) refl h where
      two : (s : Step) (o : Option Clause) → slice_get steps k ≡ Some s → clause_of catalogue request s ≡ o → option_map_or (forbids entries v) o false ≡ true → (set : Set) → IsRuleKeeping catalogue request set → Contains set v → ((w : Version) → Contains entries w → Contains set w) → ⊥
      two s None at is b = absurd (false≢true b)
      two s (Some clause) at is b = proof_forbids catalogue request steps proof entries v k s clause at is b

      one : (o : Option Step) → slice_get steps k ≡ o → option_map_or (forbids entries v) (option_and_then (clause_of catalogue request) o) false ≡ true → (set : Set) → IsRuleKeeping catalogue request set → Contains set v → ((w : Version) → Contains entries w → Contains set w) → ⊥
      one None at b = absurd (false≢true b)
      one (Some s) at b = two s (clause_of catalogue request s) at refl b

    pub install_claim : ClaimsInstall catalogue request answers
    install_claim = record {
      keeps_rules = record { single = single; catalogue_lines = ends.catalogue_lines; request_lines = ends.request_lines };
      reasoned = reasoned [] answers refl;
      wishes = record {
        each = λ n v at. elim (or_cases (is_member v (entries_of answers)) (list_any (leaves_out_at v n) answers) (ends.wishes n v at)) [
          | inl e ↦ inl (contained (entries_of answers) v e)
          | inr e ↦ inr (left_at answers v n e)
        ];
        never_both = λ n v left c. both_from [] answers v refl (left_in answers v n left.0 left.1.0 (get_in answers (LeftOut v n left.0) left.1.0 left.1.1 left.1.2)) (is_contained (entries_of answers) v c);
        rising = rising_from [] answers refl none_rise;
        wished = λ n v left. wished_at left.1.0 n left.0 v (get_in answers (LeftOut v n left.0) left.1.0 left.1.1 left.1.2);
        forbidden = λ above below v n k is set keeping c all. forbidden (entries_of above) v k (ends.forbidden above below v n k is) set keeping c all;
      };
    }

pub install_true : (catalogue request : List Line) (lines : List ReportLine) → IsAccepted catalogue request (InstallHead ∷ lines) → ClaimsInstall catalogue request (answers_claimed lines)
install_true catalogue request lines accepted =
    install_claim catalogue request (answers_claimed lines) (answers_pass catalogue request (answers_in lines) (answers_fit catalogue request lines accepted.passed)) (steps_in lines) (install_proof catalogue request lines accepted.passed)
    (ends_so catalogue request (answers_in lines) (steps_in lines) accepted.ends)
