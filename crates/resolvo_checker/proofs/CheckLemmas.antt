-- What is kept of the steps, as one step more is taken.
use Rattle.std.proofs.Common.{◌≡◌, ℕ, zero, suc, ◌+◌, ◌-◌, ◌<◌, ◌≤◌, Bool, true, false, List, [], ◌∷◌, ◌++◌, map, length, take, get_or, Option, Some, None, refl, sym, ap, subst, ◌∙◌, inl, inr, cond, eqb, ltb, leb, nat_eq, arith, slice_set}
use Rattle.std.specs.Prelude.{not, ◌&&◌, ◌||◌, slice_get, slice_index_or, is_some, unwrap_or}
use Rattle.std.specs.Global.{Vec}
use Rattle.std.specs.List.{list_all}
use Rattle.std.proofs.lemmas.Bool.{cases_Bool, false≢true, and_parts, and_from, and_left, and_right, eqb-true, leb-true}
use Rattle.std.proofs.lemmas.Option.{same_Some, none-some}
use Rattle.std.proofs.lemmas.List.{take_more, map-append}
use Rattle.std.proofs.lemmas.List.Folds.{list_all-append}
use Rattle.resolvo_text.specs.Line.{Version, Line}
use Rattle.resolvo_text.specs.Matches.{same_version}
use Rattle.resolvo_catalogue_core.specs.Listed.{listed, AreDistinct}
use Rattle.resolvo_catalogue_core.specs.Sets.{is_many}
use Rattle.resolvo_pool_core.specs.OnePass.{AreNamed, AreNamedClauses, one_pass}
use Rattle.resolvo_pool_core.proofs.PassNamed.{one_pass_alike}
use Rattle.std.specs.Int.{bit_at}
use Rattle.resolvo_report.specs.Value.{BitOf, Step}
use Rattle.resolvo_report.specs.Value as step
use Rattle.resolvo_report.specs.View as view
use Rattle.resolvo_report.specs.declared.step.Literal as code
use Rattle.resolvo_report.specs.declared.step.Step.{Step as CodeStep}
use Rattle.resolvo_report.specs.declared.step.Step.TheVariants as codestep
use Rattle.resolvo_text.specs.declared.spec.Version.{Version as CodeVersion}
use Rattle.resolvo_checker.specs.declared.literal.Literal.{Literal}
use Rattle.resolvo_checker.specs.Kept.{Kept, Ready, Deferred, is_long, literals_at, step_kept, deferred_at, is_ready, IsBuilt, AreBuilt}
use Rattle.resolvo_checker.specs.Literals.{literals_of, clause_at}
use Rattle.resolvo_checker.specs.Numbers.{AreNumbers, Keeps}
use Rattle.resolvo_checker.specs.Rup.{is_earlier}
use Rattle.resolvo_checker.specs.StepClauses.{Clause, is_listed, is_atom, literal, literal_of, not_in, digit_clause, clause_of}
use Rattle.resolvo_checker.specs.AtomValues.{same_atom}
use Rattle.resolvo_checker.specs.Proof.{allows_place, cause_of, follows}
use Rattle.resolvo_checker.specs.Keys.{Names, Numbered, Extends}
use Rattle.resolvo_checker.specs.StepKeys.{IsKnownAt, Recorded}
use Rattle.resolvo_checker.proofs.StepKeyLemmas.{plain, plain_long, recorded_kept}
use Rattle.resolvo_checker.specs.declared.clauses.Readings.{Readings}
use Rattle.resolvo_checker.specs.CheckStep.{allows, clause_or_none, Given, AtomIds, IsKept, AreKept, CheckerInvariant}
use Rattle.resolvo_checker.proofs.Sets.{same_own, same_is}
use Rattle.resolvo_checker.proofs.NameLemmas.{names_agree, named_kept, extends_then, extends_all}

-- ---- literals of a derived clause

more : {B : Type 0} (f : List code.Literal → B) (ls : List code.Literal) (i : ℕ) (l : code.Literal) → i < length ls → l ≡ get_or ls i l → f (take (i + 1) ls) ≡ f (take i ls ++ l ∷ [])
more f ls i l h is = ap f (take_more ls i l h ∙ ap (λ (x : code.Literal). take i ls ++ x ∷ []) (sym is))

pub derived_more : (c : List Line) (ls : List code.Literal) (i : ℕ) (l : code.Literal) → i < length ls → l ≡ get_or ls i l → list_all (λ x. is_atom c x.atom) (view.literals_of (take i ls)) ≡ true → is_atom c (view.atom_of l.atom) ≡ true
    → list_all (λ x. is_atom c x.atom) (view.literals_of (take (i + 1) ls)) ≡ true
derived_more c ls i l h is before fine =
    more (λ xs. list_all (λ x. is_atom c x.atom) (view.literals_of xs)) ls i l h is
    ∙ (ap (list_all (λ x. is_atom c x.atom)) (map-append view.literal_of (take i ls) (l ∷ []))
    ∙ (list_all-append (λ x. is_atom c x.atom) (view.literals_of (take i ls)) (view.literal_of l ∷ [])
    ∙ and_from _ _ before (and_from _ _ fine refl)))

fails_at : (p : step.Literal → Bool) (ls : List code.Literal) (i : ℕ) (l : code.Literal) → i < length ls → l ≡ get_or ls i l → p (view.literal_of l) ≡ false → list_all p (view.literals_of ls) ≡ false
fails_at p [] i l h is e = absurd (omega arith)
fails_at p (x ∷ xs) zero l h is e = and_left _ _ (ap (λ (y : code.Literal). p (view.literal_of y)) (sym is) ∙ e)
fails_at p (x ∷ xs) (suc i) l h is e = and_right _ _ (fails_at p xs i l (omega arith) is e)

pub derived_fails : (c : List Line) (ls : List code.Literal) (i : ℕ) (l : code.Literal) → i < length ls → l ≡ get_or ls i l → is_atom c (view.atom_of l.atom) ≡ false → false ≡ list_all (λ x. is_atom c x.atom) (view.literals_of ls)
derived_fails c ls i l h is e = sym (fails_at (λ x. is_atom c x.atom) ls i l h is e)

pub derived_extends : (vs : List Version) (old middle : List (Vec ℕ × ℕ)) (before : List Literal) (new : List (Vec ℕ × ℕ)) (after : List Literal) (ls : List code.Literal) (i : ℕ) (l : code.Literal) → i < length ls → l ≡ get_or ls i l
    → Extends vs old [] middle before (map literal_of (view.literals_of (take i ls))) → Extends vs middle before new after (literal_of (view.literal_of l) ∷ [])
    → Extends vs old [] new after (map literal_of (view.literals_of (take (i + 1) ls)))
derived_extends vs old middle before new after ls i l h is e f =
    let joined : map literal_of (view.literals_of (take i ls ++ l ∷ [])) ≡ map literal_of (view.literals_of (take i ls)) ++ literal_of (view.literal_of l) ∷ [] =
    ap (map literal_of) (map-append view.literal_of (take i ls) (l ∷ [])) ∙ map-append literal_of (view.literals_of (take i ls)) (view.literal_of l ∷ []) in
    subst (Extends vs old [] new after) (sym (more (λ xs. map literal_of (view.literals_of xs)) ls i l h is ∙ joined))
    (extends_then vs old [] middle before new after (map literal_of (view.literals_of (take i ls))) (literal_of (view.literal_of l) ∷ []) e f)

-- ---- clauses that are kept

module _ (catalogue request : List Line) where
  is_kept_more : (old new : List (Vec ℕ × ℕ)) → Keeps old new → (s : Step) (k : Kept) → IsKept catalogue request old s k → IsKept catalogue request new s k
  is_kept_more old new keeps s (Ready ls) h = named_kept (listed catalogue) old new keeps (clause_or_none catalogue request s) (literals_of ls) h
  is_kept_more old new keeps s (Deferred t) h = h

  kept_more : (old new : List (Vec ℕ × ℕ)) → Keeps old new → (earlier : List Step) (kept : List Kept) → AreKept catalogue request old earlier kept → AreKept catalogue request new earlier kept
  kept_more old new keeps [] [] h = tt
  kept_more old new keeps [] (k ∷ ks) h = absurd h
  kept_more old new keeps (s ∷ ss) [] h = absurd h
  kept_more old new keeps (s ∷ ss) (k ∷ ks) h = (is_kept_more old new keeps s k h.0, kept_more old new keeps ss ks h.1)

  -- the clause of a deferred step is built
  is_kept_built : (entries : List (Vec ℕ × ℕ)) (s : Step) (ls : List Literal) → Numbered (listed catalogue) entries (clause_or_none catalogue request s) ls → (t : Step) (x y : Kept) → IsKept catalogue request entries t x → IsBuilt s ls x y → IsKept catalogue request entries t y
  is_kept_built entries s ls numbered t x y h (inl same) = subst (IsKept catalogue request entries t) (sym same) h
  is_kept_built entries s ls numbered t x y h (inr b) =
      let was : s ≡ t = (subst (IsKept catalogue request entries t) b.0 h).0 in
      subst (IsKept catalogue request entries t) (sym b.1) (subst (λ (u : Step). Numbered (listed catalogue) entries (clause_or_none catalogue request u) ls) was numbered)

  kept_built : (entries : List (Vec ℕ × ℕ)) (s : Step) (ls : List Literal) → Numbered (listed catalogue) entries (clause_or_none catalogue request s) ls → (earlier : List Step) (old new : List Kept) → AreKept catalogue request entries earlier old → AreBuilt s ls old new → AreKept catalogue request entries earlier new
  kept_built entries s ls numbered [] [] [] h b = tt
  kept_built entries s ls numbered [] [] (y ∷ ys) h b = absurd b
  kept_built entries s ls numbered [] (x ∷ xs) new h b = absurd h
  kept_built entries s ls numbered (t ∷ ts) [] new h b = absurd h
  kept_built entries s ls numbered (t ∷ ts) (x ∷ xs) [] h b = absurd b
  kept_built entries s ls numbered (t ∷ ts) (x ∷ xs) (y ∷ ys) h b = (is_kept_built entries s ls numbered t x y h.0 b.0, kept_built entries s ls numbered ts xs ys h.1 b.1)

  module _ (entries : List (Vec ℕ × ℕ)) where
    kept_push : (earlier : List Step) (kept : List Kept) (s : Step) (k : Kept) → AreKept catalogue request entries earlier kept → IsKept catalogue request entries s k → AreKept catalogue request entries (earlier ++ s ∷ []) (kept ++ k ∷ [])
    kept_push [] [] s k h is = (is, tt)
    kept_push [] (x ∷ xs) s k h is = absurd h
    kept_push (t ∷ ts) [] s k h is = absurd h
    kept_push (t ∷ ts) (x ∷ xs) s k h is = (h.0, kept_push ts xs s k h.1 is)

    pub same_length : (earlier : List Step) (kept : List Kept) → AreKept catalogue request entries earlier kept → length kept ≡ length earlier
    same_length [] [] h = refl
    same_length [] (k ∷ ks) h = absurd h
    same_length (s ∷ ss) [] h = absurd h
    same_length (s ∷ ss) (k ∷ ks) h = ap suc (same_length ss ks h.1)

    kept_at : (earlier : List Step) (kept : List Kept) (n : ℕ) (s : Step) → AreKept catalogue request entries earlier kept → slice_get earlier n ≡ Some s → IsKept catalogue request entries s (slice_index_or kept n (Ready []))
    kept_at [] kept n s h e = absurd (none-some s e)
    kept_at (t ∷ ts) [] n s h e = absurd h
    kept_at (t ∷ ts) (k ∷ ks) zero s h e = subst (λ (u : Step). IsKept catalogue request entries u k) (same_Some t s e) h.0
    kept_at (t ∷ ts) (k ∷ ks) (suc n) s h e = kept_at ts ks n s h.1 e

    -- a deferred step has a clause
    has_clause : (earlier : List Step) (kept : List Kept) (n : ℕ) (s : Step) → AreKept catalogue request entries earlier kept → deferred_at kept n ≡ Some s → is_some (clause_of catalogue request s) ≡ true
    has_clause earlier [] n s h e = absurd (none-some s e)
    has_clause [] (k ∷ ks) n s h e = absurd h
    has_clause (t ∷ ts) (Ready ls ∷ ks) zero s h e = absurd (none-some s e)
    has_clause (t ∷ ts) (Deferred u ∷ ks) zero s h e = subst (λ (x : Step). is_some (clause_of catalogue request x) ≡ true) (sym h.0.0 ∙ same_Some u s e) h.0.1
    has_clause (t ∷ ts) (k ∷ ks) (suc n) s h e = has_clause ts ks n s h.1 e

    named_at : (earlier : List Step) (kept : List Kept) (n : ℕ) → n < length earlier → not (is_some (deferred_at kept n)) ≡ true → AreKept catalogue request entries earlier kept
        → AreNamed (Names (listed catalogue) entries) (cause_of catalogue request earlier (suc n)) (literals_of (literals_at kept n))
    named_at [] kept n l ready h = absurd (omega arith)
    named_at (s ∷ ss) [] n l ready h = absurd h
    named_at (s ∷ ss) (Ready ls ∷ ks) zero l ready h = h.0
    named_at (s ∷ ss) (Deferred t ∷ ks) zero l ready h = absurd (false≢true ready)
    named_at (s ∷ ss) (k ∷ ks) (suc n) l ready h = named_at ss ks n (omega arith) ready h.1

    cause_named : (earlier : List Step) (kept : List Kept) (n : ℕ) → is_earlier (length earlier) n ≡ true → is_ready kept n ≡ true → AreKept catalogue request entries earlier kept
        → AreNamed (Names (listed catalogue) entries) (cause_of catalogue request earlier n) (clause_at kept n)
    cause_named earlier kept zero e ready h = absurd (false≢true e)
    cause_named earlier kept (suc m) e ready h =
        let l : suc m ≤ length earlier = leb-true (suc m) (length earlier) (and_parts (ltb 0 (suc m)) (leb (suc m) (length earlier)) e).1 in
        let d : m ≡ suc m - 1 = omega arith in
        subst (λ (i : ℕ). AreNamed (Names (listed catalogue) entries) (cause_of catalogue request earlier (suc m)) (literals_of (literals_at kept i))) d
        (named_at earlier kept m (omega arith) (subst (λ (i : ℕ). not (is_some (deferred_at kept i)) ≡ true) (sym d) ready) h)

    causes_named : (earlier : List Step) (kept : List Kept) (causes : List ℕ) → list_all (is_earlier (length earlier)) causes ≡ true → list_all (is_ready kept) causes ≡ true → AreKept catalogue request entries earlier kept
        → AreNamedClauses (Names (listed catalogue) entries) (map (cause_of catalogue request earlier) causes) (map (clause_at kept) causes)
    causes_named earlier kept [] e ready h = tt
    causes_named earlier kept (n ∷ ns) e ready h =
        let p = and_parts (is_earlier (length earlier) n) (list_all (is_earlier (length earlier)) ns) e in
        let r = and_parts (is_ready kept n) (list_all (is_ready kept) ns) ready in
        (cause_named earlier kept n p.0 r.0 h, causes_named earlier kept ns p.1 r.1 h)

    -- the pass over numbered clauses has the answer of the pass over the clauses themselves
    pub derived_alike : (count : ℕ) → AreNumbers entries count → AreDistinct (listed catalogue) → (earlier : List Step) (clauses : List Kept) (causes : List ℕ) (clause : Clause) (ids : List Literal)
        → AreKept catalogue request entries earlier clauses → Numbered (listed catalogue) entries clause ids → list_all (is_ready clauses) causes ≡ true
        → (list_all (is_earlier (length clauses)) causes && one_pass nat_eq (literals_of ids) (map (clause_at clauses) causes))
        ≡ (list_all (is_earlier (length earlier)) causes && one_pass same_atom clause (map (cause_of catalogue request earlier) causes))
    derived_alike count numbers distinct earlier clauses causes clause ids kept numbered ready =
        ap (λ n. list_all (is_earlier n) causes && one_pass nat_eq (literals_of ids) (map (clause_at clauses) causes)) (same_length earlier clauses kept)
        ∙ one (list_all (is_earlier (length earlier)) causes) refl where
          one : (b : Bool) → list_all (is_earlier (length earlier)) causes ≡ b → (b && one_pass nat_eq (literals_of ids) (map (clause_at clauses) causes)) ≡ (b && one_pass same_atom clause (map (cause_of catalogue request earlier) causes))
          one false e = refl
          one true e = one_pass_alike same_atom nat_eq (Names (listed catalogue) entries) (names_agree (listed catalogue) distinct entries count numbers) (literals_of ids) clause (map (clause_at clauses) causes) (map (cause_of catalogue request earlier) causes) numbered (causes_named earlier clauses causes e ready kept)

-- ---- deferred clauses that are built

pub built_length : (s : Step) (ls : List Literal) (old new : List Kept) → AreBuilt s ls old new → length new ≡ length old
built_length s ls [] [] b = refl
built_length s ls [] (y ∷ ys) b = absurd b
built_length s ls (x ∷ xs) [] b = absurd b
built_length s ls (x ∷ xs) (y ∷ ys) b = ap suc (built_length s ls xs ys b.1)

is_built_stays : (s : Step) (ls : List Literal) (x y : Kept) → IsBuilt s ls x y → step_kept x ≡ None → step_kept y ≡ None
is_built_stays s ls x y (inl same) e = ap step_kept same ∙ e
is_built_stays s ls x y (inr b) e = ap step_kept b.1

pub built_stays : (s : Step) (ls : List Literal) (old new : List Kept) → AreBuilt s ls old new → (n : ℕ) → deferred_at old n ≡ None → deferred_at new n ≡ None
built_stays s ls [] [] b n e = e
built_stays s ls [] (y ∷ ys) b n e = absurd b
built_stays s ls (x ∷ xs) [] b n e = absurd b
built_stays s ls (x ∷ xs) (y ∷ ys) b zero e = is_built_stays s ls x y b.0 e
built_stays s ls (x ∷ xs) (y ∷ ys) b (suc n) e = built_stays s ls xs ys b.1 n e

ready_is : (o : Option Step) → not (is_some o) ≡ true → o ≡ None
ready_is None e = refl
ready_is (Some s) e = absurd (false≢true e)

all_stay : (old new : List Kept) → ((n : ℕ) → deferred_at old n ≡ None → deferred_at new n ≡ None) → (ns : List ℕ) → list_all (is_ready old) ns ≡ true → list_all (is_ready new) ns ≡ true
all_stay old new stays [] h = refl
all_stay old new stays (n ∷ ns) h =
    let p = and_parts (is_ready old n) (list_all (is_ready old) ns) h in
    and_from _ _ (ap (λ o. not (is_some o)) (stays (n - 1) (ready_is (deferred_at old (n - 1)) p.0))) (all_stay old new stays ns p.1)

-- the clause of one cause more is built
pub causes_more : (old new : List Kept) (causes : List ℕ) (i d : ℕ) → i < length causes → ((n : ℕ) → deferred_at old n ≡ None → deferred_at new n ≡ None) → deferred_at new (get_or causes i d - 1) ≡ None
    → list_all (is_ready old) (take i causes) ≡ true → list_all (is_ready new) (take (i + 1) causes) ≡ true
causes_more old new causes i d h stays here before =
    ap (list_all (is_ready new)) (take_more causes i d h)
    ∙ (list_all-append (is_ready new) (take i causes) (get_or causes i d ∷ [])
    ∙ and_from _ _ (all_stay old new stays (take i causes) before) (and_from _ _ (ap (λ o. not (is_some o)) here) refl))

-- the clause of a derived step that has one is that of its literals
pub derived_is : (catalogue request : List Line) (literals : List step.Literal) (causes : List ℕ) → is_some (clause_of catalogue request (step.Derive literals causes)) ≡ true → clause_or_none catalogue request (step.Derive literals causes) ≡ map literal_of literals
derived_is catalogue request literals causes h = one (list_all (λ l. is_atom catalogue l.atom) literals) h where
  one : (b : Bool) → is_some (cond b (Some (map literal_of literals)) None) ≡ true → unwrap_or (cond b (Some (map literal_of literals)) None) [] ≡ map literal_of literals
  one true e = refl
  one false e = absurd (false≢true e)

-- ---- places

-- a step that gives no place
pub not_digit : (catalogue : List Line) (places : List (Option ℕ)) (earlier : List Step) (s : Step) → ((v : Version) (place : ℕ) → allows_place v place s ≡ true) → Given catalogue places earlier → Given catalogue places (earlier ++ s ∷ [])
not_digit catalogue places earlier s all given = λ v n place at.
    list_all-append (allows_place v place) earlier (s ∷ [])
    ∙ (ap (λ b. list_all (allows_place v place) earlier && (b && true)) (all v place) ∙ (keep (list_all (allows_place v place) earlier) ∙ given v n place at)) where
      keep : (x : Bool) → (x && (true && true)) ≡ x
      keep true = refl
      keep false = refl

pub get_set : {X : Type 0} (xs : List X) (i : ℕ) (x : X) → i < length xs → slice_get (slice_set xs i x) i ≡ Some x
get_set [] i x h = absurd (omega arith)
get_set (y ∷ ys) zero x h = refl
get_set (y ∷ ys) (suc i) x h = get_set ys i x (omega arith)

pub get_set_other : {X : Type 0} (xs : List X) (i j : ℕ) (x : X) → (i ≡ j → ⊥) → slice_get (slice_set xs i x) j ≡ slice_get xs j
get_set_other [] i j x h = refl
get_set_other (y ∷ ys) zero zero x h = absurd (h refl)
get_set_other (y ∷ ys) zero (suc j) x h = refl
get_set_other (y ∷ ys) (suc i) zero x h = refl
get_set_other (y ∷ ys) (suc i) (suc j) x h = get_set_other ys i j x (λ e. h (ap suc e))

-- a digit step of the version of number k
pub digit_given : (catalogue : List Line) (places : List (Option ℕ)) (earlier : List Step) (w : Version) (q b k : ℕ) → AreDistinct (listed catalogue) → slice_get (listed catalogue) k ≡ Some w → k < length places
    → list_all (allows_place w q) earlier ≡ true → Given catalogue places earlier → Given catalogue (slice_set places k (Some q)) (earlier ++ step.Digit w q b ∷ [])
digit_given catalogue places earlier w q b k distinct there long all given = λ v n place at.
    list_all-append (allows_place v place) earlier (step.Digit w q b ∷ []) ∙ elim (cases_Bool (same_version w v)) [
      | inl e ↦
          let same : w ≡ v = same_is w v e in
          let number : n ≡ k = distinct v n k at (there ∙ ap Some same) in
          ap (λ t. list_all (allows_place v place) earlier && ((not t || eqb q place) && true)) e
          ∙ (one (list_all (allows_place v place) earlier) (eqb q place) (λ y. subst (λ (x : Version). list_all (allows_place x place) earlier ≡ true) same (subst (λ (p : ℕ). list_all (allows_place w p) earlier ≡ true) (eqb-true q place y) all))
          ∙ ap (λ o. allows o place) (sym (ap (slice_get (slice_set places k (Some q))) number ∙ get_set places k (Some q) long)))
      | inr e ↦
          ap (λ t. list_all (allows_place v place) earlier && ((not t || eqb q place) && true)) e
          ∙ (keep (list_all (allows_place v place) earlier) ∙ (given v n place at ∙ ap (λ o. allows o place) (sym (get_set_other places k n (Some q) (λ i. false≢true (sym e ∙ own v (same_Some w v (sym there ∙ (ap (slice_get (listed catalogue)) i ∙ at)))))))))
    ] where
      own : (v : Version) → w ≡ v → same_version w v ≡ true
      own v e = subst (λ (x : Version). same_version w x ≡ true) e (same_own w)

      one : (x t : Bool) → (t ≡ true → x ≡ true) → (x && ((false || t) && true)) ≡ t
      one x true h = ap (λ y. y && true) (h refl)
      one x false h = and_right x _ refl

      keep : (x : Bool) → (x && (true && true)) ≡ x
      keep true = refl
      keep false = refl

-- ---- one step more

pub numbers_some : (o : Option Clause) (there : Bool) (vs : List Version) (old new : List (Vec ℕ × ℕ)) (ids : List Literal) → AtomIds o there vs old new ids → there ≡ true → is_some o ≡ true
numbers_some None there vs old new ids n e = absurd (false≢true (sym n ∙ e))
numbers_some (Some clause) there vs old new ids n e = refl

pub numbers_keep : (o : Option Clause) (there : Bool) (vs : List Version) (old new : List (Vec ℕ × ℕ)) (ids : List Literal) → AtomIds o there vs old new ids → there ≡ true → Keeps old new
numbers_keep None there vs old new ids n e = absurd (false≢true (sym n ∙ e))
numbers_keep (Some clause) there vs old new ids n e = n.1.keeps

pub numbers_are : (o : Option Clause) (there : Bool) (vs : List Version) (old new : List (Vec ℕ × ℕ)) (ids : List Literal) → AtomIds o there vs old new ids → there ≡ true → Numbered vs new (unwrap_or o []) ids
numbers_are None there vs old new ids n e = absurd (false≢true (sym n ∙ e))
numbers_are (Some clause) there vs old new ids n e = extends_all vs old new ids clause n.1

numbers_there : (o : Option Clause) (there : Bool) (vs : List Version) (old new : List (Vec ℕ × ℕ)) (ids : List Literal) → AtomIds o there vs old new ids → is_some o ≡ true → there ≡ true
numbers_there None there vs old new ids n e = absurd (false≢true e)
numbers_there (Some clause) there vs old new ids n e = n.0

pub invariant_push : (catalogue request : List Line) (old new : List (Vec ℕ × ℕ)) (clauses : List Kept) (places after : List (Option ℕ)) (rules found : List (Vec ℕ × ℕ)) (k : Kept) (earlier : List Step) (s : Step)
    → CheckerInvariant catalogue request old clauses places rules earlier → Keeps old new → IsKept catalogue request new s k → Given catalogue after (earlier ++ s ∷ []) → Recorded catalogue request found (earlier ++ s ∷ [])
    → CheckerInvariant catalogue request new (clauses ++ k ∷ []) after found (earlier ++ s ∷ [])
invariant_push catalogue request old new clauses places after rules found k earlier s represents keeps kept given recorded = record {
  kept = kept_push catalogue request new earlier clauses s k (kept_more catalogue request old new keeps earlier clauses represents.kept) kept;
  placed = given;
  recorded = recorded;
}

-- a long step, whose clause isn't built
pub invariant_defer : (catalogue request : List Line) (entries : List (Vec ℕ × ℕ)) (clauses : List Kept) (places : List (Option ℕ)) (rules found : List (Vec ℕ × ℕ)) (earlier : List Step) (s : Step) → is_long s ≡ true → is_some (clause_of catalogue request s) ≡ true
    → CheckerInvariant catalogue request entries clauses places rules earlier → Recorded catalogue request found (earlier ++ s ∷ [])
    → CheckerInvariant catalogue request entries (clauses ++ Deferred s ∷ []) places found (earlier ++ s ∷ [])
invariant_defer catalogue request entries clauses places rules found earlier s long there represents recorded =
    invariant_push catalogue request entries entries clauses places places rules found (Deferred s) earlier s represents (λ a i h. h) (refl, there)
    (not_digit catalogue places earlier s (plain_long s long).allows represents.placed) recorded

-- a deferred clause is built
pub invariant_built : (catalogue request : List Line) (old new : List (Vec ℕ × ℕ)) (clauses after : List Kept) (places : List (Option ℕ)) (rules : List (Vec ℕ × ℕ)) (earlier : List Step) (s : Step) (n : ℕ) (there : Bool) (ids : List Literal) → deferred_at clauses n ≡ Some s
    → AtomIds (clause_of catalogue request s) there (listed catalogue) old new ids → AreBuilt s ids clauses after
    → CheckerInvariant catalogue request old clauses places rules earlier → CheckerInvariant catalogue request new after places rules earlier
invariant_built catalogue request old new clauses after places rules earlier s n there ids deferred numbers built represents =
    let yes = numbers_there (clause_of catalogue request s) there (listed catalogue) old new ids numbers (has_clause catalogue request old earlier clauses n s represents.kept deferred) in
    record {
      kept = kept_built catalogue request new s ids (numbers_are (clause_of catalogue request s) there (listed catalogue) old new ids numbers yes) earlier clauses after
          (kept_more catalogue request old new (numbers_keep (clause_of catalogue request s) there (listed catalogue) old new ids numbers yes) earlier clauses represents.kept) built;
      placed = represents.placed;
      recorded = represents.recorded;
    }

-- ---- how a step fits the earlier ones

pub digit_listed : (catalogue : List Line) (v : Version) (place bit : ℕ) → is_some (digit_clause catalogue v place bit) ≡ true → is_listed catalogue v ≡ true
digit_listed catalogue v place bit h = one (is_listed catalogue v) (not (is_many catalogue v.name) && ltb bit 32) refl h where
  one : (b fits : Bool) → is_listed catalogue v ≡ b → is_some (cond (b && fits) (Some (not_in v ∷ literal (BitOf bit v.name) (eqb (bit_at place bit) 1) ∷ [])) None) ≡ true → is_listed catalogue v ≡ true
  one true fits e k = e
  one false fits e k = absurd (false≢true k)

pub follows_derived : (catalogue request : List Line) (entries : List (Vec ℕ × ℕ)) (clauses : List Kept) (places : List (Option ℕ)) (rules : List (Vec ℕ × ℕ)) (ids : List Literal) (earlier : List Step) (count : ℕ) → AreNumbers entries count → AreDistinct (listed catalogue)
    → (literals : List step.Literal) (causes : List ℕ) → is_some (clause_of catalogue request (step.Derive literals causes)) ≡ true → CheckerInvariant catalogue request entries clauses places rules earlier
    → Numbered (listed catalogue) entries (clause_or_none catalogue request (step.Derive literals causes)) ids → list_all (is_ready clauses) causes ≡ true
    → (list_all (is_earlier (length clauses)) causes && one_pass nat_eq (literals_of ids) (map (clause_at clauses) causes)) ≡ follows catalogue request earlier (step.Derive literals causes)
follows_derived catalogue request entries clauses places rules ids earlier count numbers distinct literals causes there represents numbered ready =
    derived_alike catalogue request entries count numbers distinct earlier clauses causes (map literal_of literals) ids represents.kept
    (subst (λ (x : Clause). Numbered (listed catalogue) entries x ids) (derived_is catalogue request literals causes there) numbered) ready

pub other_step : (s : CodeStep) → ((v : CodeVersion) (place bit : ℕ) → s ≡ codestep.Digit v place bit → ⊥) → (v : Version) (place : ℕ) → allows_place v place (view.step_of s) ≡ true
other_step (codestep.Digit w q b) h v place = absurd (h w q b refl)
other_step (codestep.Need p l c) h v place = refl
other_step (codestep.Gate w l) h v place = refl
other_step (codestep.Shared a) h v place = refl
other_step (codestep.LimitBars p l w) h v place = refl
other_step (codestep.Limit p l) h v place = refl
other_step (codestep.Outside x w) h v place = refl
other_step (codestep.Matches x w) h v place = refl
other_step (codestep.Lock l w) h v place = refl
other_step (codestep.Exclude l) h v place = refl
other_step (codestep.Unknown l) h v place = refl
other_step (codestep.Any w) h v place = refl
other_step (codestep.Derive c d) h v place = refl

-- ---- one step

pub invariant_kept : (catalogue request : List Line) (old new : List (Vec ℕ × ℕ)) (clauses : List Kept) (places : List (Option ℕ)) (rules : List (Vec ℕ × ℕ)) (earlier : List Step) → Keeps old new → CheckerInvariant catalogue request old clauses places rules earlier → CheckerInvariant catalogue request new clauses places rules earlier
invariant_kept catalogue request old new clauses places rules earlier keeps represents = record {
  kept = kept_more catalogue request old new keeps earlier clauses represents.kept;
  placed = represents.placed;
  recorded = represents.recorded;
}

pub all_three : (a b c d : Bool) → a ≡ true → b ≡ true → d ≡ c → d ≡ (a && (b && c))
all_three a b c d e f g = g ∙ (ap (λ y. y && c) (sym f) ∙ ap (λ x. x && (b && c)) (sym e))

-- ---- a step that is there already

pub only_named : (a b c d : Bool) → a ≡ true → c ≡ true → d ≡ b → d ≡ (a && (b && c))
only_named a b c d e f g = g ∙ (alone b ∙ (ap (λ y. b && y) (sym f) ∙ ap (λ x. x && (b && c)) (sym e))) where
  alone : (x : Bool) → x ≡ (x && true)
  alone true = refl
  alone false = refl

pub no_more : (r : Readings) (n : ℕ) → n ≡ 0 → r ≡ record r { read = r.read + n }
no_more r n e = ap (λ (m : ℕ). record r { read = m }) (let same : r.read ≡ r.read + n = omega (arith, e) in same)

pub invariant_again : (catalogue request : List Line) (entries : List (Vec ℕ × ℕ)) (clauses : List Kept) (places : List (Option ℕ)) (rules : List (Vec ℕ × ℕ)) (earlier : List Step) (s : Step) (k : ℕ)
    → CheckerInvariant catalogue request entries clauses places rules earlier → IsKnownAt rules s k
    → CheckerInvariant catalogue request entries (clauses ++ slice_index_or clauses k (Ready []) ∷ []) places rules (earlier ++ s ∷ [])
invariant_again catalogue request entries clauses places rules earlier s k represents known =
    invariant_push catalogue request entries entries clauses places places rules rules (slice_index_or clauses k (Ready [])) earlier s represents (λ a i h. h)
    (kept_at catalogue request entries earlier clauses k s represents.kept (represents.recorded s k known).0)
    (not_digit catalogue places earlier s (plain s known.0 known.1).allows represents.placed)
    (recorded_kept catalogue request rules earlier s represents.recorded)
