-- Steps and lines: parsing and spelling are inverse.
use Rattle.std.proofs.Common.{◌≡◌, ℕ, ◌<◌, inl, inr, true, not, cond, List, [], ◌∷◌, ◌++◌, length, take, drop, Option, Some, None, refl, sym, ap, subst, ◌∙◌, append_assoc, take-append-drop, length-append, arith}
use Rattle.std.specs.Prelude.{codes}
use Rattle.std.specs.Fmt.{decimal}
use Rattle.std.specs.Str.{bytes_eq}
use Rattle.std.specs.List.{list_all, slice_split, join_with_byte}
use Rattle.std.proofs.lemmas.Option.{same_Some}
use Rattle.std.proofs.lemmas.List.Splits.{slice_split_at, join_with_byte-slice_split}
use Rattle.resolvo_text.specs.Line.{Version, Spec}
use Rattle.resolvo_text.specs.Lines.{newlines, is_newline}
use Rattle.resolvo_text.specs.Spelling.{Words, IsNumber, IsVersion, IsSpec, spec_words, alternatives_words}
use Rattle.resolvo_text.specs.Parse.{◌>>=◌, word_at, end_at, skip, is_space}
use Rattle.resolvo_text.proofs.AlternativeLemmas.{bind_some}
use Rattle.resolvo_text.proofs.LineLemmas.{newlines-append, no_newline}
use Rattle.resolvo_text.proofs.SpanLaws.{not_a_span}
use Rattle.resolvo_text.proofs.PartLaws.{word_takes, skip_takes, skip_is, no_skip, chosen}
use Rattle.resolvo_report.specs.Value.{Place, Step, Need, Gate, Shared, LimitBars, Limit, Outside, Matches, Lock, Exclude, Unknown, Digit, Any, Derive, Entry, Wished, LeftOut, ReportLine, InstallHead, RefusedHead, Answer, CatalogueLine, RequestLine, Numbered}
use Rattle.resolvo_report.specs.Text.{version_text, place_text, clause_text, step_words, step_text, line_text, IsLineNumber, IsBit, IsPlace, AreAlternatives, IsStep, HasText}
use Rattle.resolvo_report.specs.Parse.{pair_at, behind, whole, version_in, version_at, place_at, number_at, line_at, derived_in, limit_in, need_in, gate_in, shared_in, outside_in, matches_in, lock_in, line_in, digit_in, any_in, definition_by, step_by, left_out_in, numbered_in, entry_in, line_by, is_message, line_read}
use Rattle.resolvo_report.proofs.FormLaws.{Plain, ArePlain, number_is_plain, version_is_plain, Kind, pair_law, behind_law, whole_kind, number_law, line_number_law, bit_law, line_law, version_law, place_law, spec_law, specs_law, version_in_takes}
use Rattle.resolvo_report.proofs.StepLaws.{NoSpace-plain, split_plain, is_keyword, at_end, behind_is, derived_takes, derived_again, derived_text, by_text}

-- ---- the kinds of steps

pub need_kind : Kind need_in (λ (x : Place × (ℕ × ℕ)). Need x.0 x.1.0 x.1.1) (λ (x : Place × (ℕ × ℕ)). (place_text x.0 ∷ []) ++ ((codes "line" ∷ decimal x.1.0 ∷ []) ++ (codes "case" ∷ decimal x.1.1 ∷ []))) (λ (x : Place × (ℕ × ℕ)). IsPlace x.0 × (IsLineNumber x.1.0 × IsNumber x.1.1))
unfolding need_in
need_kind = whole_kind (λ (x : Place × (ℕ × ℕ)). Need x.0 x.1.0 x.1.1) (pair_law place_law (pair_law line_law (behind_law (codes "case") refl number_law) (λ y rest fits ends. tt)) (λ y rest fits ends. tt)) tt

pub gate_kind : Kind gate_in (λ (x : Version × ℕ). Gate x.0 x.1) (λ (x : Version × ℕ). (version_text x.0 ∷ []) ++ (codes "line" ∷ decimal x.1 ∷ [])) (λ (x : Version × ℕ). IsVersion x.0 × IsLineNumber x.1)
unfolding gate_in
gate_kind = whole_kind (λ (x : Version × ℕ). Gate x.0 x.1) (pair_law version_law line_law (λ y rest fits ends. tt)) tt

pub shared_kind : Kind shared_in (λ ss. Shared ss) alternatives_words AreAlternatives
unfolding shared_in
shared_kind = whole_kind (λ ss. Shared ss) specs_law (tt, tt)

pub outside_kind : Kind outside_in (λ (x : Spec × Version). Outside x.0 x.1) (λ (x : Spec × Version). spec_words x.0 ++ (codes "holds" ∷ version_text x.1 ∷ [])) (λ (x : Spec × Version). IsSpec x.0 × IsVersion x.1)
unfolding outside_in
outside_kind = whole_kind (λ (x : Spec × Version). Outside x.0 x.1) (pair_law spec_law (behind_law (codes "holds") refl version_law) (λ y rest fits ends. not_a_span 104 (codes "olds") (inr (omega arith)))) tt

pub matches_kind : Kind matches_in (λ (x : Spec × Version). Matches x.0 x.1) (λ (x : Spec × Version). spec_words x.0 ++ (codes "holds" ∷ version_text x.1 ∷ [])) (λ (x : Spec × Version). IsSpec x.0 × IsVersion x.1)
unfolding matches_in
matches_kind = whole_kind (λ (x : Spec × Version). Matches x.0 x.1) (pair_law spec_law (behind_law (codes "holds") refl version_law) (λ y rest fits ends. not_a_span 104 (codes "olds") (inr (omega arith)))) tt

pub lock_kind : Kind lock_in (λ (x : ℕ × Version). Lock x.0 x.1) (λ (x : ℕ × Version). (codes "line" ∷ decimal x.0 ∷ []) ++ (codes "bars" ∷ version_text x.1 ∷ [])) (λ (x : ℕ × Version). IsLineNumber x.0 × IsVersion x.1)
unfolding lock_in
lock_kind = whole_kind (λ (x : ℕ × Version). Lock x.0 x.1) (pair_law line_law (behind_law (codes "bars") refl version_law) (λ y rest fits ends. tt)) tt

pub line_kind : Kind line_in (λ n. n) (λ n. codes "line" ∷ decimal n ∷ []) IsLineNumber
unfolding line_in
line_kind = whole_kind (λ n. n) line_law tt

pub digit_kind : Kind digit_in (λ (x : Version × (ℕ × ℕ)). Digit x.0 x.1.0 x.1.1) (λ (x : Version × (ℕ × ℕ)). (version_text x.0 ∷ []) ++ ((codes "place" ∷ decimal x.1.0 ∷ []) ++ (codes "bit" ∷ decimal x.1.1 ∷ []))) (λ (x : Version × (ℕ × ℕ)). IsVersion x.0 × (IsNumber x.1.0 × IsBit x.1.1))
unfolding digit_in
digit_kind = whole_kind (λ (x : Version × (ℕ × ℕ)). Digit x.0 x.1.0 x.1.1) (pair_law version_law (pair_law (behind_law (codes "place") refl number_law) (behind_law (codes "bit") refl bit_law) (λ y rest fits ends. tt)) (λ y rest fits ends. tt)) tt

pub any_kind : Kind any_in (λ v. Any v) (λ v. version_text v ∷ []) IsVersion
unfolding any_in
any_kind = whole_kind (λ v. Any v) version_law tt

forbids_kind : (p : Place) (n : ℕ) → Kind (whole version_at (λ v. LimitBars p n v)) (λ v. LimitBars p n v) (λ v. version_text v ∷ []) IsVersion
forbids_kind p n = whole_kind (λ v. LimitBars p n v) version_law tt

-- the step of the keyword and the words after it
pub record StepBy (k : List ℕ) (words : Words) (s : Step) : Type 0 where
  pub text : join_with_byte 32 (k ∷ words) ≡ step_text s
  pub fits : IsStep s

by_words : (k : List ℕ) (words : Words) (s : Step) → k ∷ words ≡ step_words s → IsStep s → StepBy k words s
by_words k words s is fits = record { text = ap (join_with_byte 32) is; fits = fits }

of_kind : {X : Type 0} {read : Words → Option Step} {make : X → Step} {spell : X → Words} {Fits : X → Type 0} → Kind read make spell Fits → (keyword k : List ℕ) (words : Words) (s : Step)
    → ((x : X) → Fits x → (keyword ∷ spell x ≡ step_words (make x)) × IsStep (make x)) → bytes_eq k keyword ≡ true → read words ≡ Some s → StepBy k words s
of_kind {X} {read} {make} {spell} {Fits} kind keyword k words s made test e =
    let t = kind.takes words s e in
    let m = made t.0 t.2 in
    let is = is_keyword k keyword test in
    subst (StepBy k words) t.3 (by_words k words (make t.0) (ap (λ (w : List ℕ). w ∷ words) is ∙ ap (λ (ws : Words). keyword ∷ ws) t.1 ∙ m.0) m.1)

limit_takes : (words : Words) (s : Step) → limit_in words ≡ Some s → (codes "limit" ∷ words ≡ step_words s) × IsStep s
unfolding limit_in
limit_takes words s e =
    let a = bind_some (place_at words) (λ p. line_at p.1 >>= λ n. cond (skip (codes "bars") n.1).0 (whole version_at (λ v. LimitBars p.0 n.0 v) (skip (codes "bars") n.1).1) (end_at n.1 >>= λ _. Some (Limit p.0 n.0))) s e in
    let b = bind_some (line_at a.0.1) (λ n. cond (skip (codes "bars") n.1).0 (whole version_at (λ v. LimitBars a.0.0 n.0 v) (skip (codes "bars") n.1).1) (end_at n.1 >>= λ _. Some (Limit a.0.0 n.0))) s a.2 in
    let place = place_law.takes words a.0.0 a.0.1 a.1 in
    let line = line_law.takes a.0.1 b.0.0 b.0.1 b.1 in
    let begins : words ≡ place_text a.0.0 ∷ codes "line" ∷ decimal b.0.0 ∷ b.0.1 = place.0 ∙ ap (λ (ws : Words). place_text a.0.0 ∷ ws) line.0 in
    elim (chosen (skip (codes "bars") b.0.1).0 _ _ _ b.2) [
      | inl h ↦
          let t = (forbids_kind a.0.0 b.0.0).takes (skip (codes "bars") b.0.1).1 s h.1 in
          subst (λ (x : Step). (codes "limit" ∷ words ≡ step_words x) × IsStep x) t.3 (ap (λ (ws : Words). codes "limit" ∷ ws) (begins ∙ ap (λ (ws : Words). place_text a.0.0 ∷ codes "line" ∷ decimal b.0.0 ∷ ws) (skip_takes (codes "bars") b.0.1 h.0 ∙ ap (λ (ws : Words). codes "bars" ∷ ws) t.1)), (place.1, line.1, t.2))
      | inr h ↦
          let q = bind_some (end_at b.0.1) (λ _. Some (Limit a.0.0 b.0.0)) s h.1 in
          subst (λ (x : Step). (codes "limit" ∷ words ≡ step_words x) × IsStep x) (same_Some _ _ q.2) (ap (λ (ws : Words). codes "limit" ∷ ws) (begins ∙ ap (λ (ws : Words). place_text a.0.0 ∷ codes "line" ∷ decimal b.0.0 ∷ ws) (at_end b.0.1 q.0 q.1)), (place.1, line.1))
    ]

limit_again : (p : Place) (n : ℕ) → IsPlace p → IsLineNumber n → limit_in (place_text p ∷ codes "line" ∷ decimal n ∷ []) ≡ Some (Limit p n)
unfolding limit_in
limit_again p n place line = rw (place_law.again p (codes "line" ∷ decimal n ∷ []) place tt, line_law.again n [] line tt, no_skip (codes "bars") [] tt) refl

forbids_again : (p : Place) (n : ℕ) (v : Version) → IsPlace p → IsLineNumber n → IsVersion v → limit_in (place_text p ∷ codes "line" ∷ decimal n ∷ codes "bars" ∷ version_text v ∷ []) ≡ Some (LimitBars p n v)
unfolding limit_in
forbids_again p n v place line version = rw (place_law.again p (codes "line" ∷ decimal n ∷ codes "bars" ∷ version_text v ∷ []) place tt, line_law.again n (codes "bars" ∷ version_text v ∷ []) line tt, skip_is (codes "bars") (version_text v ∷ [])) ((forbids_kind p n).again v version)

joined_behind : (k : List ℕ) (words : Words) (t : List ℕ) → join_with_byte 32 words ≡ t → 0 < length t → join_with_byte 32 (k ∷ words) ≡ k ++ 32 ∷ t
joined_behind k [] t e some = absurd (omega (arith, ap (λ (xs : List ℕ). length xs) e))
joined_behind k (w ∷ ws) t e some = ap (λ (xs : List ℕ). k ++ 32 ∷ xs) e

derive_by : (k : List ℕ) (words : Words) (s : Step) → bytes_eq k (codes "derive") ≡ true → derived_in (join_with_byte 32 words) ≡ Some s → StepBy k words s
derive_by k words s test e =
    let t = derived_takes (join_with_byte 32 words) s e in
    let is = is_keyword k (codes "derive") test in
    let some : 0 < length (derived_text t.0 t.1) = omega (arith, length-append (clause_text t.0) (32 ∷ by_text t.1)) in
    let text : join_with_byte 32 (k ∷ words) ≡ codes "derive" ++ 32 ∷ derived_text t.0 t.1 = ap (λ (w : List ℕ). join_with_byte 32 (w ∷ words)) is ∙ joined_behind (codes "derive") words (derived_text t.0 t.1) t.3 some in
    subst (StepBy k words) (sym t.2) (record { text = text; fits = (t.4, t.5) })

-- the line number alone
abbrev numbered_kind : (ℕ → Step) → Words → Option Step
numbered_kind make words = line_in words >>= λ n. Some (make n)

lines_kind : (make : ℕ → Step) → Kind (numbered_kind make) make (λ n. codes "line" ∷ decimal n ∷ []) IsLineNumber
lines_kind make = record {
  takes = λ ws s e.
      let p = bind_some (line_in ws) (λ n. Some (make n)) s e in
      let t = line_kind.takes ws p.0 p.1 in
      (t.0, t.1, t.2, ap make t.3 ∙ same_Some _ _ p.2);
  again = λ n fits. rw (line_kind.again n fits) refl;
  plain = λ n fits. line_kind.plain n fits;
}

definition_takes : (k : List ℕ) (words : Words) (s : Step) → definition_by k words ≡ Some s → StepBy k words s
unfolding definition_by
definition_takes k words s e =
    elim (chosen (bytes_eq k (codes "shared")) _ _ _ e) [
      | inl h ↦ of_kind shared_kind (codes "shared") k words s (λ x fits. (refl, fits)) h.0 h.1
      | inr e1 ↦ elim (chosen (bytes_eq k (codes "outside")) _ _ _ e1.1) [
        | inl h ↦ of_kind outside_kind (codes "outside") k words s (λ x fits. (refl, fits)) h.0 h.1
        | inr e2 ↦ elim (chosen (bytes_eq k (codes "matches")) _ _ _ e2.1) [
          | inl h ↦ of_kind matches_kind (codes "matches") k words s (λ x fits. (refl, fits)) h.0 h.1
          | inr e3 ↦ elim (chosen (bytes_eq k (codes "digit")) _ _ _ e3.1) [
            | inl h ↦ of_kind digit_kind (codes "digit") k words s (λ x fits. (refl, (fits.0, fits.1.0, fits.1.1))) h.0 h.1
            | inr e4 ↦ elim (chosen (bytes_eq k (codes "any")) _ _ _ e4.1) [
              | inl h ↦ of_kind any_kind (codes "any") k words s (λ x fits. (refl, fits)) h.0 h.1
              | inr e5 ↦ absurd (none e5.1)
            ]
          ]
        ]
      ]
    ]
  where
    none : None ≡ Some s → ⊥
    none h = cc

pub step_takes : (k : List ℕ) (words : Words) (s : Step) → step_by k words ≡ Some s → StepBy k words s
unfolding step_by
step_takes k words s e =
    elim (chosen (bytes_eq k (codes "need")) _ _ _ e) [
      | inl h ↦ of_kind need_kind (codes "need") k words s (λ x fits. (refl, (fits.0, fits.1.0, fits.1.1))) h.0 h.1
      | inr e1 ↦ elim (chosen (bytes_eq k (codes "gate")) _ _ _ e1.1) [
        | inl h ↦ of_kind gate_kind (codes "gate") k words s (λ x fits. (refl, fits)) h.0 h.1
        | inr e2 ↦ elim (chosen (bytes_eq k (codes "limit")) _ _ _ e2.1) [
          | inl h ↦ let t = limit_takes words s h.1 in by_words k words s (ap (λ (w : List ℕ). w ∷ words) (is_keyword k (codes "limit") h.0) ∙ t.0) t.1
          | inr e3 ↦ elim (chosen (bytes_eq k (codes "lock")) _ _ _ e3.1) [
            | inl h ↦ of_kind lock_kind (codes "lock") k words s (λ x fits. (refl, fits)) h.0 h.1
            | inr e4 ↦ elim (chosen (bytes_eq k (codes "exclude")) _ _ _ e4.1) [
              | inl h ↦ of_kind (lines_kind (λ n. Exclude n)) (codes "exclude") k words s (λ x fits. (refl, fits)) h.0 h.1
              | inr e5 ↦ elim (chosen (bytes_eq k (codes "unknown")) _ _ _ e5.1) [
                | inl h ↦ of_kind (lines_kind (λ n. Unknown n)) (codes "unknown") k words s (λ x fits. (refl, fits)) h.0 h.1
                | inr e6 ↦ elim (chosen (bytes_eq k (codes "derive")) _ _ _ e6.1) [
                  | inl h ↦ derive_by k words s h.0 h.1
                  | inr e7 ↦ definition_takes k words s e7.1
                ]
              ]
            ]
          ]
        ]
      ]
    ]

-- a step's text is split so, and read so
pub record StepAgain (s : Step) : Type 0 where
  pub keyword : List ℕ
  pub words : Words
  pub split : slice_split is_space (step_text s) ≡ keyword ∷ words
  pub parsed : step_by keyword words ≡ Some s

again_words : (s : Step) (keyword : List ℕ) (words : Words) → step_words s ≡ keyword ∷ words → Plain keyword → ArePlain words → step_by keyword words ≡ Some s → StepAgain s
again_words s keyword words is plain each parsed = record { keyword = keyword; words = words; split = ap (λ (ws : Words). slice_split is_space (join_with_byte 32 ws)) is ∙ split_plain keyword words (plain, each); parsed = parsed }

derive_split : (text : List ℕ) → slice_split is_space (codes "derive" ++ 32 ∷ text) ≡ codes "derive" ∷ slice_split is_space text
derive_split text = slice_split_at is_space (codes "derive") 32 text (NoSpace-plain (codes "derive") refl) refl

pub step_again : (s : Step) → IsStep s → StepAgain s
unfolding step_by definition_by
step_again (Need p n k) fits = again_words (Need p n k) (codes "need") _ refl refl (need_kind.plain (p, (n, k)) (fits.0, (fits.1, fits.2))) (need_kind.again (p, (n, k)) (fits.0, (fits.1, fits.2)))
step_again (Gate v n) fits = again_words (Gate v n) (codes "gate") _ refl refl (gate_kind.plain (v, n) fits) (gate_kind.again (v, n) fits)
step_again (Shared ss) fits = again_words (Shared ss) (codes "shared") _ refl refl (shared_kind.plain ss fits) (shared_kind.again ss fits)
step_again (LimitBars p n v) fits = again_words (LimitBars p n v) (codes "limit") _ refl refl ((place_law.plain p fits.0).0, (refl, (number_is_plain n fits.1.1, (refl, (version_is_plain v fits.2, tt))))) (forbids_again p n v fits.0 fits.1 fits.2)
step_again (Limit p n) fits = again_words (Limit p n) (codes "limit") _ refl refl ((place_law.plain p fits.0).0, (refl, (number_is_plain n fits.1.1, tt))) (limit_again p n fits.0 fits.1)
step_again (Outside s v) fits = again_words (Outside s v) (codes "outside") _ refl refl (outside_kind.plain (s, v) fits) (outside_kind.again (s, v) fits)
step_again (Matches s v) fits = again_words (Matches s v) (codes "matches") _ refl refl (matches_kind.plain (s, v) fits) (matches_kind.again (s, v) fits)
step_again (Lock n v) fits = again_words (Lock n v) (codes "lock") _ refl refl (lock_kind.plain (n, v) fits) (lock_kind.again (n, v) fits)
step_again (Exclude n) fits = again_words (Exclude n) (codes "exclude") _ refl refl (line_kind.plain n fits) ((lines_kind (λ n. Exclude n)).again n fits)
step_again (Unknown n) fits = again_words (Unknown n) (codes "unknown") _ refl refl (line_kind.plain n fits) ((lines_kind (λ n. Unknown n)).again n fits)
step_again (Digit v n k) fits = again_words (Digit v n k) (codes "digit") _ refl refl (digit_kind.plain (v, (n, k)) (fits.0, (fits.1, fits.2))) (digit_kind.again (v, (n, k)) (fits.0, (fits.1, fits.2)))
step_again (Any v) fits = again_words (Any v) (codes "any") _ refl refl (any_kind.plain v fits) (any_kind.again v fits)
step_again (Derive ls ns) fits = record {
  keyword = codes "derive";
  words = slice_split is_space (derived_text ls ns);
  split = derive_split (derived_text ls ns);
  parsed = ap derived_in (join_with_byte-slice_split 32 (derived_text ls ns)) ∙ derived_again ls ns fits.0 fits.1;
}

-- ---- lines

pub left_out_kind : Kind left_out_in (λ (x : Version × (ℕ × ℕ)). Answer (LeftOut x.0 x.1.0 x.1.1)) (λ (x : Version × (ℕ × ℕ)). (codes "out" ∷ version_text x.0 ∷ []) ++ ((codes "line" ∷ decimal x.1.0 ∷ []) ++ (codes "by" ∷ decimal x.1.1 ∷ []))) (λ (x : Version × (ℕ × ℕ)). IsVersion x.0 × (IsLineNumber x.1.0 × IsLineNumber x.1.1))
unfolding left_out_in
left_out_kind = whole_kind (λ (x : Version × (ℕ × ℕ)). Answer (LeftOut x.0 x.1.0 x.1.1)) (pair_law (behind_law (codes "out") refl version_law) (pair_law line_law (behind_law (codes "by") refl line_number_law) (λ y rest fits ends. tt)) (λ y rest fits ends. tt)) tt

pub entry_kind : (v : Version) → Kind (whole (pair_at place_at line_at) (λ x. Answer (Entry v x.0 x.1))) (λ (x : Place × ℕ). Answer (Entry v x.0 x.1)) (λ (x : Place × ℕ). (place_text x.0 ∷ []) ++ (codes "line" ∷ decimal x.1 ∷ [])) (λ (x : Place × ℕ). IsPlace x.0 × IsLineNumber x.1)
entry_kind v = whole_kind (λ (x : Place × ℕ). Answer (Entry v x.0 x.1)) (pair_law place_law line_law (λ y rest fits ends. tt)) tt

-- the line of the first word and those after it
abbrev LineBy : List ℕ → Words → ReportLine → Type 0
LineBy k words l = (join_with_byte 32 (k ∷ words) ≡ line_text l) × HasText l

entry_takes : (v : Version) (words : Words) (l : ReportLine) → IsVersion v → entry_in v words ≡ Some l → LineBy (version_text v) words l
unfolding entry_in
entry_takes v words l version e =
    elim (chosen (skip (codes "for") words).0 _ _ _ e) [
      | inl h ↦
          let t = (entry_kind v).takes (skip (codes "for") words).1 l h.1 in
          subst (LineBy (version_text v) words) t.3 (ap (λ (ws : Words). join_with_byte 32 (version_text v ∷ ws)) (skip_takes (codes "for") words h.0 ∙ ap (λ (ws : Words). codes "for" ∷ ws) t.1), (version, t.2.0, t.2.1))
      | inr h ↦
          let p = bind_some (behind (codes "wished") words) (λ ws. line_in ws >>= λ n. Some (Answer (Wished v n))) l h.1 in
          let q = bind_some (line_in p.0) (λ n. Some (Answer (Wished v n))) l p.2 in
          let t = line_kind.takes p.0 q.0 q.1 in
          let n : ℕ = t.0 in
          subst (LineBy (version_text v) words) (ap (λ (k : ℕ). Answer (Wished v k)) t.3 ∙ same_Some _ _ q.2) (ap (λ (ws : Words). join_with_byte 32 (version_text v ∷ ws)) (behind_is (codes "wished") words p.0 p.1 ∙ ap (λ (ws : Words). codes "wished" ∷ ws) t.1), (version, t.2))
    ]

numbered_takes : (words : Words) (l : ReportLine) → numbered_in words ≡ Some l → LineBy (codes "step") words l
unfolding numbered_in
numbered_takes words l e =
    let a = bind_some (number_at words) (λ n. word_at n.1 >>= λ k. step_by k.0 k.1 >>= λ s. Some (Numbered n.0 s)) l e in
    let b = bind_some (word_at a.0.1) (λ k. step_by k.0 k.1 >>= λ s. Some (Numbered a.0.0 s)) l a.2 in
    let d = bind_some (step_by b.0.0 b.0.1) (λ s. Some (Numbered a.0.0 s)) l b.2 in
    let number = number_law.takes words a.0.0 a.0.1 a.1 in
    let step = step_takes b.0.0 b.0.1 d.0 d.1 in
    let spelled : words ≡ decimal a.0.0 ∷ (b.0.0 ∷ b.0.1) = number.0 ∙ ap (λ (ws : Words). decimal a.0.0 ∷ ws) (word_takes a.0.1 b.0.0 b.0.1 b.1) in
    let text : join_with_byte 32 (codes "step" ∷ words) ≡ codes "step " ++ (decimal a.0.0 ++ 32 ∷ step_text d.0) = ap (λ (ws : Words). join_with_byte 32 (codes "step" ∷ ws)) spelled ∙ ap (λ (t : List ℕ). codes "step " ++ (decimal a.0.0 ++ 32 ∷ t)) step.text in
    subst (LineBy (codes "step") words) (same_Some _ _ d.2) (text ∙ sym (numbered_text a.0.0 (step_text d.0)), (number.1, step.fits))
  where
    numbered_text : (n : ℕ) (t : List ℕ) → codes "step " ++ decimal n ++ codes " " ++ t ≡ codes "step " ++ (decimal n ++ 32 ∷ t)
    numbered_text n t = append_assoc (codes "step " ++ decimal n) (codes " ") t ∙ append_assoc (codes "step ") (decimal n) (32 ∷ t)

named_takes : (keyword : List ℕ) (make : ℕ → ReportLine) (k : List ℕ) (words : Words) (l : ReportLine) → ((n : ℕ) → IsLineNumber n → (join_with_byte 32 (keyword ∷ codes "line" ∷ decimal n ∷ []) ≡ line_text (make n)) × HasText (make n))
    → bytes_eq k keyword ≡ true → (line_in words >>= λ n. Some (make n)) ≡ Some l → LineBy k words l
named_takes keyword make k words l made test e =
    let p = bind_some (line_in words) (λ n. Some (make n)) l e in
    let t = line_kind.takes words p.0 p.1 in
    let m = made t.0 t.2 in
    subst (LineBy k words) (ap make t.3 ∙ same_Some _ _ p.2) (ap (λ (w : List ℕ). join_with_byte 32 (w ∷ words)) (is_keyword k keyword test) ∙ ap (λ (ws : Words). join_with_byte 32 (keyword ∷ ws)) t.1 ∙ m.0, m.1)

head_takes : (keyword : List ℕ) (line : ReportLine) (k : List ℕ) (words : Words) (l : ReportLine) → line_text line ≡ keyword → HasText line → bytes_eq k keyword ≡ true → (end_at words >>= λ _. Some line) ≡ Some l → LineBy k words l
head_takes keyword line k words l text fits test e =
    let p = bind_some (end_at words) (λ _. Some line) l e in
    subst (LineBy k words) (same_Some _ _ p.2) (ap (λ (w : List ℕ). join_with_byte 32 (w ∷ words)) (is_keyword k keyword test) ∙ ap (λ (ws : Words). join_with_byte 32 (keyword ∷ ws)) (at_end words p.0 p.1) ∙ sym text, fits)

line_by_takes : (k : List ℕ) (words : Words) (l : ReportLine) → line_by k words ≡ Some l → LineBy k words l
unfolding line_by
line_by_takes k words l e =
    elim (chosen (bytes_eq k (codes "step")) _ _ _ e) [
      | inl h ↦ subst (λ (w : List ℕ). LineBy w words l) (sym (is_keyword k (codes "step") h.0)) (numbered_takes words l h.1)
      | inr e1 ↦ elim (chosen (bytes_eq k (codes "install")) _ _ _ e1.1) [
        | inl h ↦ head_takes (codes "install") InstallHead k words l refl tt h.0 h.1
        | inr e2 ↦ elim (chosen (bytes_eq k (codes "refused")) _ _ _ e2.1) [
          | inl h ↦ head_takes (codes "refused") RefusedHead k words l refl tt h.0 h.1
          | inr e3 ↦ elim (chosen (bytes_eq k (codes "left")) _ _ _ e3.1) [
            | inl h ↦
                let t = left_out_kind.takes words l h.1 in
                subst (LineBy k words) t.3 (ap (λ (w : List ℕ). join_with_byte 32 (w ∷ words)) (is_keyword k (codes "left") h.0) ∙ ap (λ (ws : Words). join_with_byte 32 (codes "left" ∷ ws)) t.1, (t.2.0, t.2.1.0, t.2.1.1))
            | inr e4 ↦ elim (chosen (bytes_eq k (codes "catalogue")) _ _ _ e4.1) [
              | inl h ↦ named_takes (codes "catalogue") (λ n. CatalogueLine n) k words l (λ n fits. (refl, fits)) h.0 h.1
              | inr e5 ↦ elim (chosen (bytes_eq k (codes "request")) _ _ _ e5.1) [
                | inl h ↦ named_takes (codes "request") (λ n. RequestLine n) k words l (λ n fits. (refl, fits)) h.0 h.1
                | inr e6 ↦
                    let p = bind_some (version_in k) (λ v. entry_in v words) l e6.1 in
                    let version = version_in_takes k p.0 p.1 in
                    subst (λ (w : List ℕ). LineBy w words l) (sym version.0) (entry_takes p.0 words l version.1 p.2)
              ]
            ]
          ]
        ]
      ]
    ]

-- a line without newlines holds none
pub no_newlines : (bytes : List ℕ) → newlines bytes ≡ 0 → list_all (λ b. not (is_newline b)) bytes ≡ true
no_newlines [] e = refl
no_newlines (b ∷ bs) e = let p = no_newline b bs e in rw (p.0, no_newlines bs p.1) refl

pub line_takes : (text : List ℕ) (l : ReportLine) → newlines text ≡ 0 → line_read text ≡ Some l → (text ≡ line_text l) × HasText l
unfolding line_read
line_takes text l none e =
    elim (chosen (is_message text) _ _ _ e) [
      | inl h ↦
          let sign : take 2 text ≡ codes "| " = is_keyword (take 2 text) (codes "| ") h.0 in
          let parts : text ≡ codes "| " ++ drop 2 text = sym (take-append-drop 2 text) ∙ ap (λ (xs : List ℕ). xs ++ drop 2 text) sign in
          let whole : newlines (drop 2 text) ≡ 0 = omega (arith, none, ap newlines parts, newlines-append (codes "| ") (drop 2 text)) in
          subst (λ (x : ReportLine). (text ≡ line_text x) × HasText x) (same_Some _ _ h.1) (parts, no_newlines (drop 2 text) whole)
      | inr h ↦
          let p = bind_some (word_at (slice_split is_space text)) (λ x. line_by x.0 x.1) l h.1 in
          let parsed = line_by_takes p.0.0 p.0.1 l p.2 in
          (sym (join_with_byte-slice_split 32 text) ∙ ap (join_with_byte 32) (word_takes (slice_split is_space text) p.0.0 p.0.1 p.1) ∙ parsed.0, parsed.1)
    ]
