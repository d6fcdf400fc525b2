-- Lines that fit claim answers that pass.
use Rattle.std.proofs.Common.{◌≡◌, ℕ, zero, suc, Bool, true, false, List, [], ◌∷◌, ◌++◌, map, take, Option, Some, None, refl, sym, ap, subst, ◌∙◌, cond, eqb}
use Rattle.std.specs.Prelude.{not, ◌&&◌, ◌||◌, nat_lt, slice_get}
use Rattle.std.specs.List.{list_any, list_all, flat_map}
use Rattle.std.specs.Option.{option_map}
use Rattle.std.proofs.lemmas.Bool.{false≢true, and_parts, and_from, or_parts, false_from_ne_true, not-true}
use Rattle.std.proofs.lemmas.Option.{none-some, same_Some, slice_get-map}
use Rattle.resolvo_text.specs.Line.{Version, Line, Skipped, Listed, Needs, Limits, Unknown, Lock, Favour, Exclude, Many, Wish}
use Rattle.resolvo_text.specs.Matches.{Set, same_version, is_member}
use Rattle.resolvo_catalogue_core.specs.Grammar.{line_at, owner_of}
use Rattle.resolvo_catalogue_core.specs.Rules.{keeps, keeps_in_request}
use Rattle.resolvo_catalogue_core.specs.Answers as answer
use Rattle.resolvo_catalogue_core.specs.Answers.{Answer}
use Rattle.resolvo_report.specs.Value.{OfRequest, OfVersion, AnswerLine, Entry, Wished, LeftOut, Step}
use Rattle.resolvo_checker.specs.StepClauses.{is_listed, is_owner, line_of}
use Rattle.resolvo_judge.specs.Entries as judged
use Rattle.resolvo_judge.specs.Entries.{answer_fits, is_free, may_enter, gives, wishes, left_out, is_reason}
use Rattle.resolvo_judge.specs.Refusal.{answer_of, step_forbids, leaves_out, InstallEnds}
use Rattle.resolvo_judge.proofs.AnswerTests as test
use Rattle.resolvo_judge.proofs.AnswerTests.{answer_passes, is_needed, is_wish, is_left_out, rises, leaves_out_at, AnswersEnd}
use Rattle.resolvo_checker.proofs.Sets.{same_own, same_is}

-- ---- both sides agree on the lines

pub same_entries : (lines : List AnswerLine) → answer.entries_of (map answer_of lines) ≡ judged.entries_of lines
same_entries [] = refl
same_entries (Entry v OfRequest n ∷ lines) = ap (λ (es : Set). v ∷ es) (same_entries lines)
same_entries (Entry v (OfVersion w) n ∷ lines) = ap (λ (es : Set). v ∷ es) (same_entries lines)
same_entries (Wished v n ∷ lines) = ap (λ (es : Set). v ∷ es) (same_entries lines)
same_entries (LeftOut v n k ∷ lines) = same_entries lines

same_lines : (lines : List AnswerLine) → flat_map answer.wish_line_of (map answer_of lines) ≡ judged.wish_lines lines
same_lines [] = refl
same_lines (Entry v OfRequest n ∷ lines) = same_lines lines
same_lines (Entry v (OfVersion w) n ∷ lines) = same_lines lines
same_lines (Wished v n ∷ lines) = ap (λ ns. n ∷ ns) (same_lines lines)
same_lines (LeftOut v n k ∷ lines) = ap (λ ns. n ∷ ns) (same_lines lines)

turned : (v w : Version) → same_version v w ≡ false → same_version w v ≡ false
turned v w h = false_from_ne_true (same_version w v) (λ t. false≢true (sym h ∙ subst (λ (x : Version). same_version x w ≡ true) (same_is w v t) (same_own w)))

not_left : (lines : List AnswerLine) (v : Version) → is_member v (left_out lines) ≡ false → is_left_out (map answer_of lines) v ≡ false
not_left [] v h = refl
not_left (Entry x OfRequest n ∷ lines) v h = not_left lines v h
not_left (Entry x (OfVersion w) n ∷ lines) v h = not_left lines v h
not_left (Wished x n ∷ lines) v h = not_left lines v h
not_left (LeftOut x n k ∷ lines) v h =
    let p = or_parts (same_version v x) (is_member v (left_out lines)) h in
    ap (λ b. b || is_left_out (map answer_of lines) v) (turned v x p.0) ∙ not_left lines v p.1

need_same : (entries : Set) (l : Option Line) (v : Version) → gives l entries v ≡ true → is_needed entries l v ≡ true
need_same entries None v h = absurd (false≢true h)
need_same entries (Some (Needs a c)) v h = h
need_same entries (Some Skipped) v h = absurd (false≢true h)
need_same entries (Some (Listed w)) v h = absurd (false≢true h)
need_same entries (Some (Limits s)) v h = absurd (false≢true h)
need_same entries (Some (Unknown r)) v h = absurd (false≢true h)
need_same entries (Some (Lock w)) v h = absurd (false≢true h)
need_same entries (Some (Favour w)) v h = absurd (false≢true h)
need_same entries (Some (Many name)) v h = absurd (false≢true h)
need_same entries (Some (Exclude w r)) v h = absurd (false≢true h)
need_same entries (Some (Wish w)) v h = absurd (false≢true h)

wish_same : (l : Option Line) (v : Version) → wishes l v ≡ true → is_wish l v ≡ true
wish_same None v h = absurd (false≢true h)
wish_same (Some (Wish w)) v h = subst (λ (x : Version). same_version x v ≡ true) (same_is v w h) (same_own v)
wish_same (Some (Needs a c)) v h = absurd (false≢true h)
wish_same (Some Skipped) v h = absurd (false≢true h)
wish_same (Some (Listed w)) v h = absurd (false≢true h)
wish_same (Some (Limits s)) v h = absurd (false≢true h)
wish_same (Some (Unknown r)) v h = absurd (false≢true h)
wish_same (Some (Lock w)) v h = absurd (false≢true h)
wish_same (Some (Favour w)) v h = absurd (false≢true h)
wish_same (Some (Many name)) v h = absurd (false≢true h)
wish_same (Some (Exclude w r)) v h = absurd (false≢true h)

-- ---- one line

module _ (catalogue request : List Line) (before : List AnswerLine) where
  record Enters (v : Version) : Type 0 where
    pub listed : is_listed catalogue v ≡ true
    pub free : is_free catalogue (answer.entries_of (map answer_of before)) v ≡ true
    pub kept : is_left_out (map answer_of before) v ≡ false

  enters : (v : Version) → may_enter catalogue before v ≡ true → Enters v
  enters v h =
      let p = and_parts (is_listed catalogue v) _ h in
      let q = and_parts (is_free catalogue (judged.entries_of before) v) (not (is_member v (left_out before))) p.1 in
      record {
        listed = p.0;
        free = ap (λ es. is_free catalogue es v) (same_entries before) ∙ q.0;
        kept = not_left before v (not-true _ q.1);
      }

  entry_with : (v : Version) (reason : answer.Reason) → Enters v → test.has_reason catalogue request (answer.entries_of (map answer_of before)) v reason ≡ true → rises (map answer_of before) (answer.Entry v reason) ≡ true → answer_passes catalogue request (map answer_of before) (answer.Entry v reason) ≡ true
  entry_with v reason e r w = and_from _ _ e.listed (and_from _ _ e.free (and_from _ _ (ap not e.kept) (and_from _ _ r w)))

  rises_same : (n : ℕ) → list_all (λ m. nat_lt m n) (judged.wish_lines before) ≡ true → list_all (λ m. nat_lt m n) (flat_map answer.wish_line_of (map answer_of before)) ≡ true
  rises_same n h = ap (list_all (λ m. nat_lt m n)) (same_lines before) ∙ h

  owned : (w : Version) (n : ℕ) (b : Bool) (l : Option Line) (entries : Set) (v : Version) → gives (cond b l None) entries v ≡ true → (b ≡ true) × (gives l entries v ≡ true)
  owned w n true l entries v h = (refl, h)
  owned w n false l entries v h = absurd (false≢true h)

  passes_so : (a : AnswerLine) → answer_fits catalogue request before a ≡ true → answer_passes catalogue request (map answer_of before) (answer_of a) ≡ true
  passes_so (Entry v OfRequest n) h =
      let p = and_parts (may_enter catalogue before v) (is_reason catalogue request (judged.entries_of before) OfRequest n v) h in
      entry_with v (answer.ForRequest n) (enters v p.0) (ap (λ es. is_needed es (line_at request n) v) (same_entries before) ∙ need_same (judged.entries_of before) (line_at request n) v p.1) refl
  passes_so (Entry v (OfVersion w) n) h =
      let p = and_parts (may_enter catalogue before v) (is_reason catalogue request (judged.entries_of before) (OfVersion w) n v) h in
      let q = and_parts (is_member w (judged.entries_of before)) (gives (line_of catalogue request (OfVersion w) n) (judged.entries_of before) v) p.1 in
      let o = owned w n (is_owner w (owner_of catalogue n)) (line_at catalogue n) (judged.entries_of before) v q.1 in
      entry_with v (answer.ForVersion w n) (enters v p.0)
      (and_from _ _ (ap (is_member w) (same_entries before) ∙ q.0) (and_from _ _ o.0 (ap (λ es. is_needed es (line_at catalogue n) v) (same_entries before) ∙ need_same (judged.entries_of before) (line_at catalogue n) v o.1))) refl
  passes_so (Wished v n) h =
      let p = and_parts (may_enter catalogue before v) _ h in
      let q = and_parts (wishes (line_at request n) v) (list_all (λ m. nat_lt m n) (judged.wish_lines before)) p.1 in
      entry_with v (answer.Wished n) (enters v p.0) (wish_same (line_at request n) v q.0) (and_from _ _ (rises_same n q.1) refl)
  passes_so (LeftOut v n k) h =
      let p = and_parts (judged.is_wish request before n v) (not (is_member v (judged.entries_of before))) h in
      let q = and_parts (wishes (line_at request n) v) (list_all (λ m. nat_lt m n) (judged.wish_lines before)) p.0 in
      and_from _ _ (wish_same (line_at request n) v q.0) (and_from _ _ (ap (λ es. not (is_member v es)) (same_entries before) ∙ p.1) (and_from _ _ (rises_same n q.1) refl))

-- ---- all lines

-- each answer passes after those above it
abbrev pub AnswersPass : List Line → List Line → List Answer → Type 0
AnswersPass catalogue request answers = (k : ℕ) (a : Answer) → slice_get answers k ≡ Some a → answer_passes catalogue request (take k answers) a ≡ true

taken : (lines : List AnswerLine) (k : ℕ) → map answer_of (take k lines) ≡ take k (map answer_of lines)
taken lines zero = refl
taken [] (suc k) = refl
taken (l ∷ lines) (suc k) = ap (λ xs. answer_of l ∷ xs) (taken lines k)

pub answers_pass : (catalogue request : List Line) (lines : List AnswerLine) → ((k : ℕ) (a : AnswerLine) → slice_get lines k ≡ Some a → answer_fits catalogue request (take k lines) a ≡ true) → AnswersPass catalogue request (map answer_of lines)
answers_pass catalogue request lines fit k a at = one (slice_get lines k) refl (sym (slice_get-map answer_of lines k) ∙ at) where
  one : (o : Option AnswerLine) → slice_get lines k ≡ o → option_map answer_of o ≡ Some a → answer_passes catalogue request (take k (map answer_of lines)) a ≡ true
  one None e h = absurd (none-some a h)
  one (Some l) e h =
      subst (λ (x : Answer). answer_passes catalogue request (take k (map answer_of lines)) x ≡ true) (same_Some (answer_of l) a h)
      (subst (λ (xs : List Answer). answer_passes catalogue request xs (answer_of l) ≡ true) (taken lines k) (passes_so catalogue request (take k lines) l (fit k l e)))

-- ---- the end

left_same : (lines : List AnswerLine) (v : Version) (n : ℕ) → list_any (leaves_out v n) lines ≡ list_any (leaves_out_at v n) (map answer_of lines)
left_same [] v n = refl
left_same (Entry x OfRequest m ∷ lines) v n = left_same lines v n
left_same (Entry x (OfVersion w) m ∷ lines) v n = left_same lines v n
left_same (Wished x m ∷ lines) v n = left_same lines v n
left_same (LeftOut x m k ∷ lines) v n = ap (λ b. (same_version x v && eqb m n) || b) (left_same lines v n)

-- where the claims part at a wish that is left out, the lines do
pub record Parted (lines : List AnswerLine) (above : List Answer) (v : Version) (n k : ℕ) : Type 0 where
  pub prefix : List AnswerLine
  pub back : List AnswerLine
  pub parts : lines ≡ prefix ++ LeftOut v n k ∷ back
  pub prefixes : map answer_of prefix ≡ above

left_is : (l : AnswerLine) (v : Version) (n k : ℕ) → answer_of l ≡ answer.LeftOut v n k → l ≡ LeftOut v n k
left_is (LeftOut w m j) v n k e = let a : w ≡ v = cc in let b : m ≡ n = cc in let d : j ≡ k = cc in cc
left_is (Entry w OfRequest m) v n k e = absurd cc
left_is (Entry w (OfVersion x) m) v n k e = absurd cc
left_is (Wished w m) v n k e = absurd cc

parted : (lines : List AnswerLine) (above below : List Answer) (v : Version) (n k : ℕ) → map answer_of lines ≡ above ++ answer.LeftOut v n k ∷ below → Parted lines above v n k
parted [] [] below v n k e = absurd cc
parted [] (a ∷ above) below v n k e = absurd cc
parted (l ∷ lines) [] below v n k e = let h : answer_of l ≡ answer.LeftOut v n k = cc in record { prefix = []; back = lines; parts = ap (λ (x : AnswerLine). x ∷ lines) (left_is l v n k h); prefixes = refl }
parted (l ∷ lines) (a ∷ above) below v n k e =
    let h : answer_of l ≡ a = cc in
    let t : map answer_of lines ≡ above ++ answer.LeftOut v n k ∷ below = cc in
    let r = parted lines above below v n k t in
    record { prefix = l ∷ r.prefix; back = r.back; parts = ap (λ (xs : List AnswerLine). l ∷ xs) r.parts; prefixes = ap (λ (x : Answer). x ∷ map answer_of r.prefix) h ∙ ap (λ (xs : List Answer). a ∷ xs) r.prefixes }

pub ends_so : (catalogue request : List Line) (lines : List AnswerLine) (steps : List Step) → InstallEnds catalogue request lines steps → AnswersEnd catalogue request (map answer_of lines) steps
ends_so catalogue request lines steps ends = record {
  catalogue_lines = λ n. ap (λ es. keeps catalogue n es) (same_entries lines) ∙ ends.catalogue_lines n;
  request_lines = λ n. ap (λ es. keeps_in_request request n es) (same_entries lines) ∙ ends.request_lines n;
  wishes = λ n v at. ap (λ es. is_member v es || list_any (leaves_out_at v n) (map answer_of lines)) (same_entries lines) ∙ (ap (λ b. is_member v (judged.entries_of lines) || b) (sym (left_same lines v n)) ∙ ends.wishes n v at);
  forbidden = λ above below v n k e.
      let r = parted lines above below v n k e in
      ap (λ xs. step_forbids catalogue request steps (answer.entries_of xs) v k) (sym r.prefixes) ∙ (ap (λ es. step_forbids catalogue request steps es v k) (same_entries r.prefix) ∙ ends.forbidden r.prefix r.back v n k r.parts);
}
