-- The left-out wishes in the judge's state, and their places among the lines.
use Rattle.std.proofs.Common.{◌≡◌, ℕ, ◌+◌, Bool, true, List, [], ◌∷◌, ◌++◌, length, take, refl, sym, ap, subst, ◌∙◌, length-append}
use Rattle.std.specs.List.{list_all}
use Rattle.std.proofs.lemmas.Bool.{and_parts, and_from}
use Rattle.std.proofs.lemmas.List.{append_assoc, append-nil}
use Rattle.std.proofs.lemmas.List.Concat.{flat_map-append}
use Rattle.resolvo_text.specs.Line.{Version}
use Rattle.resolvo_text.specs.Matches.{Set}
use Rattle.resolvo_report.specs.Value.{AnswerLine, Entry, Wished, LeftOut}
use Rattle.resolvo_judge.specs.Entries.{entry_of, entries_of}
use Rattle.resolvo_judge.specs.ForbiddenWishes.{ForbiddenWish}
use Rattle.resolvo_judge.specs.KeptAnswers.{forbidden_from}
use Rattle.resolvo_checker.proofs.WholeProofs.{take_prefix}

module _ (f : Set → Version → ℕ → Bool) (answers : List AnswerLine) where
  -- the wish is forbidden with the entries above it
  abbrev pub is_forbidden : ForbiddenWish → Bool
  is_forbidden b = f (take b.above (entries_of answers)) b.wish b.step

  next : (prefix : List AnswerLine) (a : AnswerLine) (rest : List AnswerLine) → answers ≡ prefix ++ a ∷ rest → answers ≡ (prefix ++ a ∷ []) ++ rest
  next prefix a rest is = is ∙ sym (append_assoc prefix (a ∷ []) rest)

  entered : (prefix : List AnswerLine) (a : AnswerLine) (v : Version) → entry_of a ≡ v ∷ [] → length (entries_of prefix) + 1 ≡ length (entries_of (prefix ++ a ∷ []))
  entered prefix a v e =
      let same : entries_of (prefix ++ a ∷ []) ≡ entries_of prefix ++ v ∷ [] = flat_map-append entry_of prefix (a ∷ []) ∙ ap (λ (es : Set). entries_of prefix ++ (es ++ [])) e in
      sym (ap length same ∙ length-append (entries_of prefix) (v ∷ []))

  passed : (prefix : List AnswerLine) (v : Version) (n k : ℕ) → entries_of (prefix ++ LeftOut v n k ∷ []) ≡ entries_of prefix
  passed prefix v n k = flat_map-append entry_of prefix (LeftOut v n k ∷ []) ∙ append-nil (entries_of prefix)

  -- the entries above a line
  above_is : (prefix rest : List AnswerLine) → answers ≡ prefix ++ rest → take (length (entries_of prefix)) (entries_of answers) ≡ entries_of prefix
  above_is prefix rest is = ap (λ (xs : List AnswerLine). take (length (entries_of prefix)) (entries_of xs)) is ∙ (ap (take (length (entries_of prefix))) (flat_map-append entry_of prefix rest) ∙ take_prefix (entries_of prefix) (entries_of rest))

  each_from : (prefix rest : List AnswerLine) → answers ≡ prefix ++ rest → list_all is_forbidden (forbidden_from (length (entries_of prefix)) rest) ≡ true
      → (above below : List AnswerLine) (v : Version) (n k : ℕ) → rest ≡ above ++ LeftOut v n k ∷ below → f (entries_of (prefix ++ above)) v k ≡ true
  each_from prefix [] is h [] below v n k e = absurd cc
  each_from prefix [] is h (b ∷ above) below v n k e = absurd cc
  each_from prefix (Entry w p m ∷ rest) is h [] below v n k e = absurd cc
  each_from prefix (Wished w m ∷ rest) is h [] below v n k e = absurd cc
  each_from prefix (LeftOut w m j ∷ rest) is h [] below v n k e =
      let a : w ≡ v = cc in
      let b : j ≡ k = cc in
      let g : f (take (length (entries_of prefix)) (entries_of answers)) w j ≡ true = (and_parts (f (take (length (entries_of prefix)) (entries_of answers)) w j) _ h).0 in
      ap (λ (xs : List AnswerLine). f (entries_of xs) v k) (append-nil prefix)
      ∙ (ap (λ (es : Set). f es v k) (sym (above_is prefix (LeftOut w m j ∷ rest) is)) ∙ (ap (λ (x : Version). f (take (length (entries_of prefix)) (entries_of answers)) x k) (sym a) ∙ (ap (f (take (length (entries_of prefix)) (entries_of answers)) w) (sym b) ∙ g)))
  each_from prefix (Entry w p m ∷ rest) is h (b ∷ above) below v n k e =
      let a : Entry w p m ≡ b = cc in
      let t : rest ≡ above ++ LeftOut v n k ∷ below = cc in
      ap (λ (xs : List AnswerLine). f (entries_of xs) v k) (ap (λ (x : AnswerLine). prefix ++ x ∷ above) (sym a) ∙ sym (append_assoc prefix (Entry w p m ∷ []) above))
      ∙ each_from (prefix ++ Entry w p m ∷ []) rest (next prefix (Entry w p m) rest is) (subst (λ (i : ℕ). list_all is_forbidden (forbidden_from i rest) ≡ true) (entered prefix (Entry w p m) w refl) h) above below v n k t
  each_from prefix (Wished w m ∷ rest) is h (b ∷ above) below v n k e =
      let a : Wished w m ≡ b = cc in
      let t : rest ≡ above ++ LeftOut v n k ∷ below = cc in
      ap (λ (xs : List AnswerLine). f (entries_of xs) v k) (ap (λ (x : AnswerLine). prefix ++ x ∷ above) (sym a) ∙ sym (append_assoc prefix (Wished w m ∷ []) above))
      ∙ each_from (prefix ++ Wished w m ∷ []) rest (next prefix (Wished w m) rest is) (subst (λ (i : ℕ). list_all is_forbidden (forbidden_from i rest) ≡ true) (entered prefix (Wished w m) w refl) h) above below v n k t
  each_from prefix (LeftOut w m j ∷ rest) is h (b ∷ above) below v n k e =
      let a : LeftOut w m j ≡ b = cc in
      let t : rest ≡ above ++ LeftOut v n k ∷ below = cc in
      ap (λ (xs : List AnswerLine). f (entries_of xs) v k) (ap (λ (x : AnswerLine). prefix ++ x ∷ above) (sym a) ∙ sym (append_assoc prefix (LeftOut w m j ∷ []) above))
      ∙ each_from (prefix ++ LeftOut w m j ∷ []) rest (next prefix (LeftOut w m j) rest is)
      (subst (λ (es : Set). list_all is_forbidden (forbidden_from (length es) rest) ≡ true) (sym (passed prefix w m j)) (and_parts (f (take (length (entries_of prefix)) (entries_of answers)) w j) _ h).1) above below v n k t

  -- each left-out wish is forbidden
  pub forbidden_each : list_all is_forbidden (forbidden_from 0 answers) ≡ true → (above below : List AnswerLine) (v : Version) (n k : ℕ) → answers ≡ above ++ LeftOut v n k ∷ below → f (entries_of above) v k ≡ true
  forbidden_each h above below v n k e = each_from [] answers refl h above below v n k e

  all_from : ((above below : List AnswerLine) (v : Version) (n k : ℕ) → answers ≡ above ++ LeftOut v n k ∷ below → f (entries_of above) v k ≡ true) → (prefix rest : List AnswerLine) → answers ≡ prefix ++ rest → list_all is_forbidden (forbidden_from (length (entries_of prefix)) rest) ≡ true
  all_from all prefix [] is = refl
  all_from all prefix (Entry w p m ∷ rest) is = subst (λ (i : ℕ). list_all is_forbidden (forbidden_from i rest) ≡ true) (sym (entered prefix (Entry w p m) w refl)) (all_from all (prefix ++ Entry w p m ∷ []) rest (next prefix (Entry w p m) rest is))
  all_from all prefix (Wished w m ∷ rest) is = subst (λ (i : ℕ). list_all is_forbidden (forbidden_from i rest) ≡ true) (sym (entered prefix (Wished w m) w refl)) (all_from all (prefix ++ Wished w m ∷ []) rest (next prefix (Wished w m) rest is))
  all_from all prefix (LeftOut w m j ∷ rest) is =
      and_from _ _ (ap (λ (es : Set). f es w j) (above_is prefix (LeftOut w m j ∷ rest) is) ∙ all prefix rest w m j is)
      (subst (λ (es : Set). list_all is_forbidden (forbidden_from (length es) rest) ≡ true) (passed prefix w m j) (all_from all (prefix ++ LeftOut w m j ∷ []) rest (next prefix (LeftOut w m j) rest is)))

  -- and if each is, all are
  pub forbidden_all : ((above below : List AnswerLine) (v : Version) (n k : ℕ) → answers ≡ above ++ LeftOut v n k ∷ below → f (entries_of above) v k ≡ true) → list_all is_forbidden (forbidden_from 0 answers) ≡ true
  forbidden_all all = all_from all [] answers refl
