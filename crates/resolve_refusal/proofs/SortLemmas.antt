-- Literals by their texts.
use Rattle.std.proofs.Common.{Ordering, ◌+◌, ◌<◌, take, length, get_or, ◌&&◌, true, ◌≡◌, ◌⊎◌, inl, inr, ℕ, List, [], ◌∷◌, ◌++◌, map, refl, sym, ◌∙◌, ap, subst, Global, Less, Equal, Greater, arith}
use Rattle.std.specs.Prelude.{Contains, IsTrue, string_bytes, codes}
use Rattle.std.specs.List.{join_with_byte}
use Rattle.std.specs.Fmt.{decimal}
use Rattle.std.specs.Ordering.{match_ordering, nat_cmp, is_eq, is_lt}
use Rattle.std.specs.Cmp.Lexicographic.{slice_cmp, bytes_decides}
use Rattle.std.specs.List.Sorted.{IsStrictlySortedBy}
use Rattle.std.specs.Map.{keys_of}
use Rattle.std.proofs.lemmas.Map.Text.{is_eq-slice_cmp}
use Rattle.std.specs.BTreeMap.{insert_entry}
use Rattle.std.specs.declared.string.String.{String}
use Rattle.resolvo_text.specs.Line.{Line}
use Rattle.resolvo_catalogue.specs.Ids.{Ids, SolvableId}
use Rattle.resolvo_terms.specs.Terms.{NameId}
use Rattle.resolvo_terms.proofs.Places.{no_element, first_element, later_element, element_cases}
use Rattle.resolvo_sat.proofs.Lists.{contains_one, contains_left, contains_right, contains_parts, contains_first, contains_map, map_contains}
use Rattle.resolvo_proof.specs.declared.step.ProofLiteral.{ProofLiteral}
use Rattle.std.proofs.lemmas.List.{take_more}
use Rattle.resolvo_report.specs.declared.step.Atom.{Atom}
use Rattle.resolvo_report.specs.declared.step.Literal.{Literal}
use Rattle.resolvo_report.specs.Value as in_report
use Rattle.resolvo_report.specs.View.{atom_of, literal_of, literals_of}
use Rattle.resolvo_report.specs.Text.{literal_text, IsAtom}
use Rattle.resolvo_report.specs.Text as text
use Rattle.resolvo_report.specs.Grammar.{IsReport}
use Rattle.resolvo_report.specs.declared.grammar.Part.TheVariants as part
use Rattle.resolvo_report.proofs.ReportLaws.{one_report}
use Rattle.resolve_refusal.specs.Refusal.{atom_at, literal_at, AreLiterals, HaveForm}

-- ---- one more entry

module _ {K X : Type 0} (cmp : K → K → Ordering) (bytes : K → List ℕ) (same : (a b : K) → cmp a b ≡ Equal → bytes a ≡ bytes b) where
  -- an entry is one of before, or the new value at an equal key
  pub insert_from : (es : List (K × X)) (k : K) (v : X) (e : K × X) → Contains (insert_entry cmp es k v) e → ((e.1 ≡ v) × (bytes e.0 ≡ bytes k)) ⊎ Contains es e
  insert_from [] k v e h = elim (element_cases (k, v) [] e h) [ inl i ↦ inl (ap (λ (x : K × X). x.1) (sym i), ap (λ (x : K × X). bytes x.0) (sym i)) | inr m ↦ absurd (no_element e m) ]
  insert_from (f ∷ es) k v e h = by_order (insert_from es k v e) (cmp k f.0) refl h
    where
      by_order : (Contains (insert_entry cmp es k v) e → ((e.1 ≡ v) × (bytes e.0 ≡ bytes k)) ⊎ Contains es e) → (o : Ordering) → o ≡ cmp k f.0 → Contains (match_ordering o ((k, v) ∷ f ∷ es) ((f.0, v) ∷ es) (f ∷ insert_entry cmp es k v)) e → ((e.1 ≡ v) × (bytes e.0 ≡ bytes k)) ⊎ Contains (f ∷ es) e
      by_order below Less is h = elim (element_cases (k, v) (f ∷ es) e h) [ inl i ↦ inl (ap (λ (x : K × X). x.1) (sym i), ap (λ (x : K × X). bytes x.0) (sym i)) | inr m ↦ inr m ]
      by_order below Equal is h = elim (element_cases (f.0, v) es e h) [ inl i ↦ inl (ap (λ (x : K × X). x.1) (sym i), ap (λ (x : K × X). bytes x.0) (sym i) ∙ sym (same k f.0 (sym is))) | inr m ↦ inr (later_element f es e m) ]
      by_order below Greater is h = elim (element_cases f (insert_entry cmp es k v) e h) [
        | inl i ↦ inr (subst (λ x. Contains (f ∷ es) x) i (first_element f es))
        | inr m ↦ elim (below m) [ inl new ↦ inl new | inr old ↦ inr (later_element f es e old) ]
      ]

  -- an entry has the new key
  pub insert_new : (es : List (K × X)) (k : K) (v : X) → (e : K × X) × Contains (insert_entry cmp es k v) e × (bytes e.0 ≡ bytes k)
  insert_new [] k v = ((k, v), first_element (k, v) [], refl)
  insert_new (f ∷ es) k v = by_order (insert_new es k v) (cmp k f.0) refl
    where
      by_order : ((e : K × X) × Contains (insert_entry cmp es k v) e × (bytes e.0 ≡ bytes k)) → (o : Ordering) → o ≡ cmp k f.0 → (e : K × X) × Contains (match_ordering o ((k, v) ∷ f ∷ es) ((f.0, v) ∷ es) (f ∷ insert_entry cmp es k v)) e × (bytes e.0 ≡ bytes k)
      by_order below Less is = ((k, v), first_element (k, v) (f ∷ es), refl)
      by_order below Equal is = ((f.0, v), first_element (f.0, v) es, sym (same k f.0 (sym is)))
      by_order below Greater is = (let n = below in (n.0, later_element f (insert_entry cmp es k v) n.0 n.1, n.2))

  -- the keys of before are there
  pub insert_kept : (es : List (K × X)) (k : K) (v : X) (e : K × X) → Contains es e → (d : K × X) × Contains (insert_entry cmp es k v) d × (bytes d.0 ≡ bytes e.0)
  insert_kept [] k v e h = absurd (no_element e h)
  insert_kept (f ∷ es) k v e h = by_order (insert_kept es k v e) (cmp k f.0) refl
    where
      by_order : (Contains es e → (d : K × X) × Contains (insert_entry cmp es k v) d × (bytes d.0 ≡ bytes e.0)) → (o : Ordering) → o ≡ cmp k f.0 → (d : K × X) × Contains (match_ordering o ((k, v) ∷ f ∷ es) ((f.0, v) ∷ es) (f ∷ insert_entry cmp es k v)) d × (bytes d.0 ≡ bytes e.0)
      by_order below Less is = (e, later_element (k, v) (f ∷ es) e h, refl)
      by_order below Equal is = elim (element_cases f es e h) [
        | inl i ↦ ((f.0, v), first_element (f.0, v) es, ap (λ (x : K × X). bytes x.0) i)
        | inr m ↦ (e, later_element (f.0, v) es e m, refl)
      ]
      by_order below Greater is = elim (element_cases f es e h) [
        | inl i ↦ (f, first_element f (insert_entry cmp es k v), ap (λ (x : K × X). bytes x.0) i)
        | inr m ↦ (let n = below m in (n.0, later_element f (insert_entry cmp es k v) n.0 n.1, n.2))
      ]

-- ---- literals by their texts

-- the entries are the literals of a clause, each at its text
pub record AreByText (catalogue : List Line) (ids : Ids) (literals : List (ProofLiteral NameId SolvableId)) (entries : List (String Global × Literal)) : Type 0 where
  pub keyed : (e : String Global × Literal) → Contains entries e → string_bytes e.0 ≡ literal_text (literal_of e.1)
  pub from : (e : String Global × Literal) → Contains entries e → (k : ProofLiteral NameId SolvableId) × Contains literals k × (literal_of e.1 ≡ literal_at catalogue ids k)
  pub all : (k : ProofLiteral NameId SolvableId) → Contains literals k → (e : String Global × Literal) × Contains entries e × (string_bytes e.0 ≡ literal_text (literal_at catalogue ids k))

pub by_text_more : (cmp : String Global → String Global → Ordering) → ((a b : String Global) → cmp a b ≡ Equal → string_bytes a ≡ string_bytes b) → (catalogue : List Line) (ids : Ids) (literals : List (ProofLiteral NameId SolvableId)) (entries : List (String Global × Literal))
    (k : ProofLiteral NameId SolvableId) (key : String Global) (w : Literal) → string_bytes key ≡ literal_text (literal_of w) → literal_of w ≡ literal_at catalogue ids k → AreByText catalogue ids literals entries → AreByText catalogue ids (literals ++ k ∷ []) (insert_entry cmp entries key w)
by_text_more cmp same catalogue ids literals entries k key w spelled is are = record {
  keyed = λ e h. elim (insert_from cmp string_bytes same entries key w e h) [
    | inl new ↦ new.1 ∙ (spelled ∙ ap (λ (x : Literal). literal_text (literal_of x)) (sym new.0))
    | inr old ↦ are.keyed e old
  ];
  from = λ e h. elim (insert_from cmp string_bytes same entries key w e h) [
    | inl new ↦ (k, contains_right k literals (k ∷ []) (contains_first k k [] refl), ap literal_of new.0 ∙ is)
    | inr old ↦ (let f = are.from e old in (f.0, contains_left f.0 literals (k ∷ []) f.1, f.2))
  ];
  all = λ j h. elim (contains_parts j literals (k ∷ []) h) [
    | inl old ↦ (let a = are.all j old in let n = insert_kept cmp string_bytes same entries key w a.0 a.1 in (n.0, n.1, n.2 ∙ a.2))
    | inr one ↦ (let n = insert_new cmp string_bytes same entries key w in (n.0, n.1, n.2 ∙ (spelled ∙ (ap literal_text is ∙ ap (λ (x : ProofLiteral NameId SolvableId). literal_text (literal_at catalogue ids x)) (sym (contains_one j k one))))))
  ];
}

-- ---- one literal has the text

abbrev one_step : (l : in_report.Literal) → in_report.Report
one_step l = in_report.Refused [] [] (in_report.Derive (l ∷ []) (0 ∷ []) ∷ []) []

one_step_report : (l : in_report.Literal) → IsAtom l.atom → IsReport (one_step l)
one_step_report l fits = record {
  part = part.RefusedSteps 1;
  lines = record { each = (tt, ((omega arith, (record { each = (fits, tt); rising = refl; once = refl }, (omega arith, (omega arith, tt)))), tt)); placed = refl };
  whole = refl;
}

pub one_literal : (l m : in_report.Literal) → IsAtom l.atom → IsAtom m.atom → literal_text l ≡ literal_text m → l ≡ m
one_literal l m fits suits is = (let whole : one_step l ≡ one_step m = one_report (one_step l) (one_step m) (one_step_report l fits) (one_step_report m suits) texts in cc)
  where
    texts : text.report_text (one_step l) ≡ text.report_text (one_step m)
    texts = ap (λ (t : List ℕ). (codes "refused" ++ codes "\n") ++ (((codes "step " ++ decimal 1 ++ codes " " ++ join_with_byte 32 (codes "derive" ∷ (codes "[" ++ t ++ [] ++ codes "]") ∷ codes "by" ∷ decimal 0 ∷ [])) ++ codes "\n") ++ [])) is

-- the values are the literals
pub values_are : (catalogue : List Line) (ids : Ids) (literals : List (ProofLiteral NameId SolvableId)) (entries : List (String Global × Literal)) → AreByText catalogue ids literals entries → HaveForm catalogue ids literals → AreLiterals catalogue ids literals (literals_of (map (λ e. e.1) entries))
values_are catalogue ids literals entries are form = λ l. (
  λ h. (let a = map_contains literal_of l (map (λ e. e.1) entries) h in let b = map_contains (λ (e : String Global × Literal). e.1) a.0 entries a.1 in let f = are.from b.0 b.1 in (f.0, f.1, a.2 ∙ (ap literal_of b.2 ∙ f.2))),
  λ (k, has, is).
      let a = are.all k has in
      let f = are.from a.0 a.1 in
      let same : literal_of a.0.1 ≡ literal_at catalogue ids k = one_literal (literal_of a.0.1) (literal_at catalogue ids k) (subst (λ (x : in_report.Literal). IsAtom x.atom) (sym f.2) (form f.0 f.1)) (form k has) (sym (are.keyed a.0 a.1) ∙ a.2) in
      subst (λ (x : in_report.Literal). Contains (literals_of (map (λ e. e.1) entries)) x) (same ∙ sym is) (contains_map literal_of a.0.1 (map (λ e. e.1) entries) (contains_map (λ (e : String Global × Literal). e.1) a.0 entries a.1)),
)

-- the keys' order is that of the texts
abbrev pub by_bytes : String Global → String Global → Ordering
by_bytes a b = slice_cmp nat_cmp (string_bytes a) (string_bytes b)

pub same_bytes : (a b : String Global) → by_bytes a b ≡ Equal → string_bytes a ≡ string_bytes b
same_bytes a b e = (bytes_decides (string_bytes a) (string_bytes b)).0 (sym (is_eq-slice_cmp (string_bytes a) (string_bytes b)) ∙ ap is_eq e)

pub values_rising : (entries : List (String Global × Literal)) → ((e : String Global × Literal) → Contains entries e → string_bytes e.0 ≡ literal_text (literal_of e.1)) → IsStrictlySortedBy by_bytes (keys_of entries) → IsTrue (text.are_rising (map literal_text (literals_of (map (λ e. e.1) entries))))
unfolding IsStrictlySortedBy
values_rising [] keyed sorted = refl
values_rising (e ∷ []) keyed sorted = refl
values_rising (e ∷ f ∷ es) keyed sorted =
    let before : text.is_before (string_bytes e.0) (string_bytes f.0) ≡ true = ap is_lt sorted.0.0 in
    let here : string_bytes e.0 ≡ literal_text (literal_of e.1) = keyed e (first_element e (f ∷ es)) in
    let there : string_bytes f.0 ≡ literal_text (literal_of f.1) = keyed f (later_element e (f ∷ es) f (first_element f es)) in
    let below : text.is_before (literal_text (literal_of e.1)) (literal_text (literal_of f.1)) ≡ true = subst (λ (t : List ℕ). text.is_before t (literal_text (literal_of f.1)) ≡ true) here (subst (λ (t : List ℕ). text.is_before (string_bytes e.0) t ≡ true) there before) in
    let more = values_rising (f ∷ es) (λ d h. keyed d (later_element e (f ∷ es) d h)) sorted.1 in
    subst (λ b. IsTrue (b && text.are_rising (map literal_text (literals_of (map (λ (d : String Global × Literal). d.1) (f ∷ es)))))) (sym below) more

-- the literal at a place, with its atom as it is written
abbrev pub written_at : List (ProofLiteral NameId SolvableId) → ℕ → ProofLiteral NameId SolvableId → Atom → Literal
written_at literals i d a = record { atom = a; positive = (get_or literals i d).positive }

-- one more literal of the clause
pub by_text_step : (catalogue : List Line) (ids : Ids) (literals : List (ProofLiteral NameId SolvableId)) (i : ℕ) (d : ProofLiteral NameId SolvableId) (old new : List (String Global × Literal)) (key : String Global) (a : Atom) → i < length literals
    → atom_of a ≡ atom_at catalogue ids (get_or literals i d).atom → string_bytes key ≡ literal_text (literal_of (written_at literals i d a)) → new ≡ insert_entry by_bytes old key (written_at literals i d a) → AreByText catalogue ids (take i literals) old → AreByText catalogue ids (take (i + 1) literals) new
by_text_step catalogue ids literals i d old new key a within is spelled added are =
    subst (λ ks. AreByText catalogue ids ks new) (sym (take_more literals i d within))
    (subst (λ es. AreByText catalogue ids (take i literals ++ get_or literals i d ∷ []) es) (sym added)
    (by_text_more by_bytes same_bytes catalogue ids (take i literals) old (get_or literals i d) key (written_at literals i d a) spelled (ap (λ (x : in_report.Atom). record { atom = x; positive = (get_or literals i d).positive }) is) are))
