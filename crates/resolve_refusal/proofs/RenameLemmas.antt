-- The atoms of a proof over a provider's ids under their names in a report.
use Rattle.std.proofs.Common.{◌≡◌, ℕ, Bool, true, false, List, [], ◌∷◌, map, Some, refl, sym, ap, subst, ◌∙◌}
use Rattle.std.specs.Prelude.{Contains, slice_get}
use Rattle.std.specs.List.{AllZip}
use Rattle.std.proofs.lemmas.Bool.{both_ways}
use Rattle.std.proofs.lemmas.Option.{get_or_from_slice_get}
use Rattle.resolvo_text.specs.Line.{Version, Spec, Line}
use Rattle.resolvo_catalogue_core.specs.Listed.{listed}
use Rattle.resolvo_pool_core.specs.declared.id.VersionSetId.{VersionSetId}
use Rattle.resolvo_pool_core.specs.declared.requirement.Requirement.{Requirement}
use Rattle.resolvo_pool_core.specs.declared.requirement.Requirement.TheVariants.{Single, Union}
use Rattle.resolvo_pool_core.specs.OnePass as pass
use Rattle.resolvo_pool_core.specs.OnePass.{one_pass, AreNamed, AreNamedClauses}
use Rattle.resolvo_pool_core.specs.Text.{alternatives_of}
use Rattle.resolvo_pool_core.proofs.PassNamed.{one_pass_alike}
use Rattle.resolvo_sat.specs.RuleClauses.{Atom, IsExact}
use Rattle.resolvo_sat.proofs.Lists.{contains_first, contains_later, map_contains}
use Rattle.resolvo_proof.specs.Members.{SameMembers, HaveOneSign}
use Rattle.resolvo_proof.proofs.PassMembers.{one_pass_members}
use Rattle.resolvo_terms.specs.Terms.{NameId, AreEach}
use Rattle.resolvo_catalogue.specs.Ids.{SolvableId, IsPackage, IsSpec}
use Rattle.resolvo_catalogue.specs.Known.{name_text, set_at, spec_at, members_of, alternatives_at}
use Rattle.resolvo_catalogue.specs.Provider.{Provider}
use Rattle.resolvo_catalogue.specs.Over.{IsOver}
use Rattle.resolvo_terms.specs.declared.terms.Numbers.{Numbers}
use Rattle.resolvo_report.specs.Value as in_report
use Rattle.resolvo_checker.specs.AtomValues as judge
use Rattle.resolvo_checker.proofs.Atoms.{same_atom_is, atom_own}
use Rattle.resolve_refusal.specs.RefusedReport.{version_at}
use Rattle.resolve_refusal.specs.Refusal.{IsVersion, IsRequirement, IsName}

module _ (catalogue : List Line) (provider : Provider) (over : IsOver catalogue provider) where
  -- the package or version of the atom is the catalogue's
  abbrev pub IsKnown : Atom NameId SolvableId → Type 0
  IsKnown (Atom.solvable s) = IsVersion catalogue provider.ids s
  IsKnown (Atom.any_of n) = IsName catalogue provider.ids n
  IsKnown (Atom.gate r) = IsRequirement catalogue provider.ids r
  IsKnown (Atom.outside v) = (s : Spec) × IsSpec provider.ids v s
  IsKnown (Atom.matches v) = (s : Spec) × IsSpec provider.ids v s
  IsKnown (Atom.digit n bit) = IsName catalogue provider.ids n

  -- the atom in the words of a report
  abbrev pub name : Atom NameId SolvableId → in_report.Atom
  name (Atom.solvable s) = in_report.Chosen (version_at catalogue s)
  name (Atom.any_of n) = in_report.AnyOf (name_text provider.ids n)
  name (Atom.gate r) = in_report.SharedBy (alternatives_at provider.ids r)
  name (Atom.outside v) = in_report.OutsideOf (spec_at provider.ids v)
  name (Atom.matches v) = in_report.MatchesOf (spec_at provider.ids v)
  name (Atom.digit n bit) = in_report.BitOf bit (name_text provider.ids n)

  abbrev pub name_literal : pass.Literal (Atom NameId SolvableId) → pass.Literal in_report.Atom
  name_literal l = record { atom = name l.atom; positive = l.positive }

  abbrev pub name_clause : List (pass.Literal (Atom NameId SolvableId)) → List (pass.Literal in_report.Atom)
  name_clause c = map name_literal c

  -- each atom of the clause is known
  abbrev pub IsKnownClause : List (pass.Literal (Atom NameId SolvableId)) → Type 0
  IsKnownClause c = (l : pass.Literal (Atom NameId SolvableId)) → Contains c l → IsKnown l.atom

  -- ---- values by their ids

  pub version_is : (s : SolvableId) (v : Version) → slice_get (listed catalogue) s.raw ≡ Some v → version_at catalogue s ≡ v
  version_is s v e = get_or_from_slice_get (listed catalogue) s.raw v _ e

  pub name_is : (n : NameId) (text : List ℕ) → IsPackage provider.ids n text → name_text provider.ids n ≡ text
  name_is n text e = get_or_from_slice_get provider.ids.names n.raw text _ e

  pub spec_is : (v : VersionSetId) (s : Spec) → IsSpec provider.ids v s → spec_at provider.ids v ≡ s
  spec_is v s (n, e, g) =
      let at : set_at provider.ids v ≡ (n, record { 0 = s.span }) = get_or_from_slice_get provider.ids.version_sets v.0 _ _ e in
      let text : name_text provider.ids (set_at provider.ids v).0 ≡ s.name = ap (λ (x : NameId × Numbers). name_text provider.ids x.0) at ∙ name_is n s.name g in
      let span : (set_at provider.ids v).1.0 ≡ s.span = ap (λ (x : NameId × Numbers). x.1.0) at in
      λ i. record { name = text i; span = span i }

  pub specs_are : (vs : List VersionSetId) (ss : List Spec) → AreEach (IsSpec provider.ids) vs ss → map (spec_at provider.ids) vs ≡ ss
  specs_are [] [] h = refl
  specs_are [] (s ∷ ss) h = absurd h
  specs_are (v ∷ vs) [] h = absurd h
  specs_are (v ∷ vs) (s ∷ ss) h =
      let first : spec_at provider.ids v ≡ s = spec_is v s h.0 in
      let rest : map (spec_at provider.ids) vs ≡ ss = specs_are vs ss h.1 in
      λ i. first i ∷ rest i

  -- the version sets of a known requirement are known
  pub members_known : (r : Requirement) → IsRequirement catalogue provider.ids r → (ss : List Spec) × AreEach (IsSpec provider.ids) (alternatives_of (members_of provider.ids) r) ss
  members_known (Single v) h = h
  members_known (Union u) (ss, (vs, e, each)) = (ss, subst (λ (ws : List VersionSetId). AreEach (IsSpec provider.ids) ws ss) (sym (get_or_from_slice_get provider.ids.unions u.0 vs [] e)) each)

  -- ---- no value has two ids

  one_name : (n m : NameId) → IsName catalogue provider.ids n → IsName catalogue provider.ids m → name_text provider.ids n ≡ name_text provider.ids m → n ≡ m
  one_name n m (a, e) (b, g) h =
      let same : a ≡ b = sym (name_is n a e) ∙ (h ∙ name_is m b g) in
      let at : n.raw ≡ m.raw = over.once.names n.raw m.raw b (e ∙ ap (λ (x : List ℕ). Some x) same) g in
      λ i. record { raw = at i; tag = n.tag }

  one_set : (v w : VersionSetId) (s : Spec) → IsSpec provider.ids v s → IsSpec provider.ids w s → v ≡ w
  one_set v w s (n, e, g) (m, f, k) =
      let same : n ≡ m = one_name n m (s.name, g) (s.name, k) (name_is n s.name g ∙ sym (name_is m s.name k)) in
      let at : v.0 ≡ w.0 = over.once.version_sets v.0 w.0 (m, record { 0 = s.span }) (e ∙ ap (λ (x : NameId). Some (x, (let z : Numbers = record { 0 = s.span } in z))) same) f in
      λ i. record { 0 = at i }

  one_list : (vs ws : List VersionSetId) (ss : List Spec) → AreEach (IsSpec provider.ids) vs ss → AreEach (IsSpec provider.ids) ws ss → vs ≡ ws
  one_list [] [] ss h k = refl
  one_list [] (w ∷ ws) [] h k = absurd k
  one_list [] (w ∷ ws) (s ∷ ss) h k = absurd h
  one_list (v ∷ vs) [] [] h k = absurd h
  one_list (v ∷ vs) [] (s ∷ ss) h k = absurd k
  one_list (v ∷ vs) (w ∷ ws) [] h k = absurd h
  one_list (v ∷ vs) (w ∷ ws) (s ∷ ss) h k =
      let first : v ≡ w = one_set v w s h.0 k.0 in
      let rest : vs ≡ ws = one_list vs ws ss h.1 k.1 in
      λ i. first i ∷ rest i

  same_members : (r q : Requirement) → IsRequirement catalogue provider.ids r → IsRequirement catalogue provider.ids q → alternatives_at provider.ids r ≡ alternatives_at provider.ids q → alternatives_of (members_of provider.ids) r ≡ alternatives_of (members_of provider.ids) q
  same_members r q x y h =
      let (a, e) = members_known r x in
      let (b, g) = members_known q y in
      let same : a ≡ b = sym (specs_are _ a e) ∙ (h ∙ specs_are _ b g) in
      one_list (alternatives_of (members_of provider.ids) r) (alternatives_of (members_of provider.ids) q) b (subst (λ (ss : List Spec). AreEach (IsSpec provider.ids) (alternatives_of (members_of provider.ids) r) ss) same e) g

  one_requirement : (r q : Requirement) → IsRequirement catalogue provider.ids r → IsRequirement catalogue provider.ids q → alternatives_of (members_of provider.ids) r ≡ alternatives_of (members_of provider.ids) q → r ≡ q
  one_requirement (Single v) (Single w) x y h = (let e : v ≡ w = cc in ap (λ (u : VersionSetId). Single u) e)
  one_requirement (Union u) (Union w) (a, (vs, e, each)) (b, (ws, g, other)) h =
      let same : vs ≡ ws = sym (get_or_from_slice_get provider.ids.unions u.0 vs [] e) ∙ (h ∙ get_or_from_slice_get provider.ids.unions w.0 ws [] g) in
      let at : u.0 ≡ w.0 = over.once.unions u.0 w.0 ws (e ∙ ap (λ (x : List VersionSetId). Some x) same) g in
      λ i. Union (record { 0 = at i })
  one_requirement (Single v) (Union w) x (b, (ws, g, other)) h =
      absurd (over.once.several w.0 v (g ∙ ap (λ (x : List VersionSetId). Some x) (sym (get_or_from_slice_get provider.ids.unions w.0 ws [] g) ∙ sym h)))
  one_requirement (Union u) (Single w) (a, (vs, e, each)) y h =
      absurd (over.once.several u.0 w (e ∙ ap (λ (x : List VersionSetId). Some x) (sym (get_or_from_slice_get provider.ids.unions u.0 vs [] e) ∙ h)))

  chosen_one : {v w : Version} → in_report.Chosen v ≡ in_report.Chosen w → v ≡ w
  chosen_one h = cc

  any_one : {v w : List ℕ} → in_report.AnyOf v ≡ in_report.AnyOf w → v ≡ w
  any_one h = cc

  shared_one : {v w : List Spec} → in_report.SharedBy v ≡ in_report.SharedBy w → v ≡ w
  shared_one h = cc

  outside_one : {v w : Spec} → in_report.OutsideOf v ≡ in_report.OutsideOf w → v ≡ w
  outside_one h = cc

  matches_one : {v w : Spec} → in_report.MatchesOf v ≡ in_report.MatchesOf w → v ≡ w
  matches_one h = cc

  bit_one : {a b : ℕ} {v w : List ℕ} → in_report.BitOf a v ≡ in_report.BitOf b w → (a ≡ b) × (v ≡ w)
  bit_one h = (cc, cc)

  -- two known atoms with one name are one
  pub one_atom : (a b : Atom NameId SolvableId) → IsKnown a → IsKnown b → name a ≡ name b → a ≡ b
  one_atom (Atom.solvable s) (Atom.solvable t) x y h =
      let (v, e) = x in
      let (w, g) = y in
      let same : v ≡ w = sym (version_is s v e) ∙ (chosen_one h ∙ version_is t w g) in
      let at : s.raw ≡ t.raw = over.distinct w s.raw t.raw (e ∙ ap (λ (u : Version). Some u) same) g in
      λ i. Atom.solvable (record { raw = at i; tag = s.tag })
  one_atom (Atom.solvable s) (Atom.gate q) x y h = absurd cc
  one_atom (Atom.solvable s) (Atom.outside w) x y h = absurd cc
  one_atom (Atom.solvable s) (Atom.matches w) x y h = absurd cc
  one_atom (Atom.solvable s) (Atom.any_of m) x y h = absurd cc
  one_atom (Atom.solvable s) (Atom.digit m other) x y h = absurd cc
  one_atom (Atom.gate r) (Atom.solvable t) x y h = absurd cc
  one_atom (Atom.gate r) (Atom.gate q) x y h =
      ap (λ (u : Requirement). Atom.gate u) (one_requirement r q x y (same_members r q x y (shared_one h)))
  one_atom (Atom.gate r) (Atom.outside w) x y h = absurd cc
  one_atom (Atom.gate r) (Atom.matches w) x y h = absurd cc
  one_atom (Atom.gate r) (Atom.any_of m) x y h = absurd cc
  one_atom (Atom.gate r) (Atom.digit m other) x y h = absurd cc
  one_atom (Atom.outside v) (Atom.solvable t) x y h = absurd cc
  one_atom (Atom.outside v) (Atom.gate q) x y h = absurd cc
  one_atom (Atom.outside v) (Atom.outside w) x y h =
      let (a, e) = x in
      let (b, g) = y in
      let same : a ≡ b = sym (spec_is v a e) ∙ (outside_one h ∙ spec_is w b g) in
      ap (λ (u : VersionSetId). Atom.outside u) (one_set v w b (subst (IsSpec provider.ids v) same e) g)
  one_atom (Atom.outside v) (Atom.matches w) x y h = absurd cc
  one_atom (Atom.outside v) (Atom.any_of m) x y h = absurd cc
  one_atom (Atom.outside v) (Atom.digit m other) x y h = absurd cc
  one_atom (Atom.matches v) (Atom.solvable t) x y h = absurd cc
  one_atom (Atom.matches v) (Atom.gate q) x y h = absurd cc
  one_atom (Atom.matches v) (Atom.outside w) x y h = absurd cc
  one_atom (Atom.matches v) (Atom.matches w) x y h =
      let (a, e) = x in
      let (b, g) = y in
      let same : a ≡ b = sym (spec_is v a e) ∙ (matches_one h ∙ spec_is w b g) in
      ap (λ (u : VersionSetId). Atom.matches u) (one_set v w b (subst (IsSpec provider.ids v) same e) g)
  one_atom (Atom.matches v) (Atom.any_of m) x y h = absurd cc
  one_atom (Atom.matches v) (Atom.digit m other) x y h = absurd cc
  one_atom (Atom.any_of n) (Atom.solvable t) x y h = absurd cc
  one_atom (Atom.any_of n) (Atom.gate q) x y h = absurd cc
  one_atom (Atom.any_of n) (Atom.outside w) x y h = absurd cc
  one_atom (Atom.any_of n) (Atom.matches w) x y h = absurd cc
  one_atom (Atom.any_of n) (Atom.any_of m) x y h =
      let at : n ≡ m = one_name n m x y (any_one h) in
      ap (λ (u : NameId). Atom.any_of u) at
  one_atom (Atom.any_of n) (Atom.digit m other) x y h = absurd cc
  one_atom (Atom.digit n bit) (Atom.solvable t) x y h = absurd cc
  one_atom (Atom.digit n bit) (Atom.gate q) x y h = absurd cc
  one_atom (Atom.digit n bit) (Atom.outside w) x y h = absurd cc
  one_atom (Atom.digit n bit) (Atom.matches w) x y h = absurd cc
  one_atom (Atom.digit n bit) (Atom.any_of m) x y h = absurd cc
  one_atom (Atom.digit n bit) (Atom.digit m other) x y h =
      let at : n ≡ m = one_name n m x y (bit_one h).1 in
      let bits : bit ≡ other = (bit_one h).0 in
      λ i. Atom.digit (at i) (bits i)

  -- ---- passes

  -- the name of a known atom
  abbrev Names : Atom NameId SolvableId → in_report.Atom → Type 0
  Names a i = IsKnown a × (i ≡ name a)

  module _ (same : Atom NameId SolvableId → Atom NameId SolvableId → Bool) (exact : IsExact same) where
    same_value : (a b : Atom NameId SolvableId) (i j : in_report.Atom) → Names a i → Names b j → judge.same_atom i j ≡ same a b
    same_value a b i j (x, e) (y, f) = go (judge.same_atom i j) (same a b) refl refl
      where
        go : (p q : Bool) → judge.same_atom i j ≡ p → same a b ≡ q → judge.same_atom i j ≡ same a b
        go true true g h = g ∙ sym h
        go false false g h = g ∙ sym h
        go true false g h = absurd (both_ways (same a b) h (subst (λ t. same a t ≡ true) (one_atom a b x y (sym e ∙ (same_atom_is i j g ∙ f))) (exact.own a)))
        go false true g h = absurd (both_ways (judge.same_atom i j) g (subst (λ t. judge.same_atom i t ≡ true) (e ∙ (ap name (exact.one a b h) ∙ sym f)) (atom_own i)))

    named : (c : List (pass.Literal (Atom NameId SolvableId))) → IsKnownClause c → AreNamed Names c (name_clause c)
    named [] known = tt
    named (l ∷ ls) known = ((known l (contains_first l l ls refl), refl), refl, named ls (λ m h. known m (contains_later m l ls h)))

    all_named : (cs : List (List (pass.Literal (Atom NameId SolvableId)))) → ((c : List (pass.Literal (Atom NameId SolvableId))) → Contains cs c → IsKnownClause c) → AreNamedClauses Names cs (map name_clause cs)
    all_named [] known = tt
    all_named (c ∷ cs) known = (named c (known c (contains_first c c cs refl)), all_named cs (λ d h. known d (contains_later d c cs h)))

    -- distinct known atoms keep their signs apart under their names
    pub named_once : (c : List (pass.Literal (Atom NameId SolvableId))) → IsKnownClause c → HaveOneSign c → HaveOneSign (name_clause c)
    named_once c known signs l m h k e =
        let (x, a, f) = map_contains name_literal l c h in
        let (y, b, g) = map_contains name_literal m c k in
        let same_name : name x.atom ≡ name y.atom = sym (ap (λ (z : pass.Literal in_report.Atom). z.atom) f) ∙ (e ∙ ap (λ (z : pass.Literal in_report.Atom). z.atom) g) in
        let signed : x.positive ≡ y.positive = signs x y a b (one_atom x.atom y.atom (known x a) (known y b) same_name) in
        ap (λ (z : pass.Literal in_report.Atom). z.positive) f ∙ (signed ∙ sym (ap (λ (z : pass.Literal in_report.Atom). z.positive) g))

    -- A pass over clauses of known atoms is one over clauses with the names of their literals, in any order.
    pub pass_alike : (c : List (pass.Literal (Atom NameId SolvableId))) (d : List (pass.Literal in_report.Atom)) (cs : List (List (pass.Literal (Atom NameId SolvableId)))) (ds : List (List (pass.Literal in_report.Atom)))
        → IsKnownClause c → ((e : List (pass.Literal (Atom NameId SolvableId))) → Contains cs e → IsKnownClause e) → HaveOneSign c → SameMembers (name_clause c) d → AllZip SameMembers (map name_clause cs) ds
        → one_pass judge.same_atom d ds ≡ one_pass same c cs
    pass_alike c d cs ds known all signs alike each =
        sym (one_pass_members judge.same_atom (record { one = same_atom_is; own = atom_own }) (name_clause c) d (map name_clause cs) ds alike (named_once c known signs) each)
        ∙ one_pass_alike same judge.same_atom Names same_value (name_clause c) c (map name_clause cs) cs (named c known) (all_named cs all)
