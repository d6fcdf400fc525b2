-- The chosen versions by their packages and numbers, and which of them are entries.
use Rattle.std.proofs.Common.{◌≡◌, ◌⊎◌, inl, inr, ℕ, zero, suc, ◌+◌, ◌-◌, ◌<◌, Bool, true, false, not, List, [], ◌∷◌, ◌++◌, length, Option, Some, None, refl, sym, ap, subst, ◌∙◌, set, get_or, take, drop, arith}
use Rattle.std.specs.Prelude.{slice_get, Contains, option_to_list, ◌==◌, IsTrue}
use Rattle.std.specs.Option.{option_map_or, is_some}
use Rattle.std.specs.List.{list_any}
use Rattle.std.specs.Str.{bytes_eq}
use Rattle.std.proofs.lemmas.Bool.{false≢true, cases_Bool, and_parts, and_from}
use Rattle.std.proofs.lemmas.List.Elements.{Contains-append_left, Contains-append_right, Contains-push, Contains-push_cases}
use Rattle.std.proofs.lemmas.List.Sums.{sum_by-set}
use Rattle.std.proofs.lemmas.List.{append-nil, take_all, take_more, take-append-drop, drop_more}
use Rattle.std.proofs.lemmas.Grind.{flat_map-append}
use Rattle.std.proofs.lemmas.Option.{slice_get_within, slice_get-get_or, get_or_from_slice_get}
use Rattle.std.proofs.lemmas.Bool.Decides.{Decides-eqb}
use Rattle.std.proofs.lemmas.Slice.Eq.{bytes_eq-Decides}
use Rattle.resolvo_text.specs.Line.{Version, Spec, Cond, Line, Needs, Favour}
use Rattle.resolvo_text.specs.declared.spec.Span.TheVariants.{Any}
use Rattle.resolvo_text.specs.Matches.{Set, matches, is_member, is_met, is_in_span, condition_holds}
use Rattle.resolvo_catalogue_core.specs.Listed.{listed, members}
use Rattle.resolvo_catalogue_core.specs.declared.rule.VersionNo.{VersionNo}
use Rattle.resolvo_catalogue_core.proofs.TableSteps.{same_version_is}
use Rattle.resolve_order.specs.Order.{IsSorted}
use Rattle.resolve_order.specs.Numbers.{version_in, IsNewestIn}
use Rattle.resolve_order.specs.Kept.{first_of, numbers_in, by_name, AreNumbersOf, IsLeftOver, IsFavouredOf, favoured_in, is_unlisted, weight, unlisted, IsIn, Holds, IsFavouredMatch, IsUnlistedMatch, IsFirstMatch, IsLineState, IsWaiting, IsSpent}
use Rattle.resolve_order.specs.declared.chosen.LineState.TheVariants as state
use Rattle.resolve_order.specs.declared.version_table.VersionTable.{VersionTable}
use Rattle.resolve_order.specs.declared.chosen.Chosen.{Chosen}
use Rattle.resolve_order.proofs.NumberLemmas.{PutsNumber, numbers_more, numbers_less, numbers_same}
use Rattle.resolve_order.proofs.Elements.{no_element, first_element, any_from, any_element, any_none, member_from, from_member, member_none, none_from_member}

-- ---- one more chosen version

alone : (versions : List Version) (n : VersionNo) (v : Version) → slice_get versions n.0 ≡ Some v → members versions (n ∷ []) ≡ v ∷ []
alone versions n v at = ap (λ (o : Option Version). option_to_list o ++ []) at

-- whether it is no entry, by its flag
pub flag_means : (catalogue : List Line) (kept : Chosen) (chosen entries : Set) (n : ℕ) (v : Version) → Holds catalogue kept chosen entries → slice_get (listed catalogue) n ≡ Some v → is_unlisted kept.listed.items n ≡ not (is_member v entries)
flag_means catalogue kept chosen entries n v h at = ap (λ (o : Option Bool). option_map_or not o false) (h.flags n v at)

not_true : (b : Bool) → not b ≡ true → b ≡ false
not_true true e = absurd (false≢true e)
not_true false e = refl

not_false : (b : Bool) → not b ≡ false → b ≡ true
not_false true e = refl
not_false false e = absurd (false≢true (sym e))

is_nat : (a b : ℕ) → (a ≡ b) ⊎ (a ≡ b → ⊥)
is_nat zero zero = inl refl
is_nat zero (suc b) = inr (λ e. omega (arith, e))
is_nat (suc a) zero = inr (λ e. omega (arith, e))
is_nat (suc a) (suc b) = elim (is_nat a b) [ inl e ↦ inl (ap suc e) | inr apart ↦ inr (λ e. apart (omega (arith, e))) ]

-- a version that is no entry
pub adds : (catalogue : List Line) (before after : Chosen) (chosen entries : Set) (n : VersionNo) (v : Version) → slice_get (listed catalogue) n.0 ≡ Some v → is_unlisted before.listed.items n.0 ≡ true
    → ((name : List ℕ) → PutsNumber v (Some n) name (by_name (listed catalogue) before.unlisted name) (by_name (listed catalogue) after.unlisted name)) → after.entries ≡ before.entries → after.favoured ≡ before.favoured → after.listed ≡ before.listed → after.left.items ≡ before.left.items ++ n ∷ []
    → Holds catalogue before chosen entries → Holds catalogue after (chosen ++ members (listed catalogue) (n ∷ [])) entries
adds catalogue before after chosen entries n v at unset puts entered favoured flags left h = subst (λ (new : Set). Holds catalogue after (chosen ++ new) entries) (sym (alone (listed catalogue) n v at)) (record {
  unlisted = λ name. numbers_more (listed catalogue) (IsLeftOver chosen entries) (IsLeftOver (chosen ++ v ∷ []) entries) v n name (by_name (listed catalogue) before.unlisted name) (by_name (listed catalogue) after.unlisted name) h.distinct at
      (λ w l. (Contains-append_left chosen (v ∷ []) w l.0, l.1)) (Contains-push chosen v, none_from_member entries v (not_true (is_member v entries) (sym (flag_means catalogue before chosen entries n.0 v h at) ∙ unset)))
      (λ w l apart. (elim (Contains-push_cases chosen v w l.0) [ inl old ↦ old | inr new ↦ absurd (apart new) ], l.1)) (puts name) (h.unlisted name);
  entered = λ name. subst (λ (m : _). AreNumbersOf (listed catalogue) (Contains entries) name (by_name (listed catalogue) m name)) (sym entered) (h.entered name);
  favoured = λ name. subst (λ (m : _). IsFavouredOf catalogue name (favoured_in (listed catalogue) m name)) (sym favoured) (h.favoured name);
  flags = λ k w at_k. ap (λ (l : _). slice_get l.items k) flags ∙ h.flags k w at_k;
  distinct = h.distinct;
  among = λ w c. Contains-append_left chosen (v ∷ []) w (h.among w c);
  known = λ w c. elim (Contains-push_cases chosen v w c) [ inl old ↦ h.known w old | inr new ↦ (n, at ∙ ap Some new) ];
  left = λ w c. elim (Contains-push_cases chosen v w c) [
    | inl old ↦ elim (h.left w old) [
      | inl entry ↦ inl entry
      | inr i ↦ inr (i.0, subst (λ (ns : List VersionNo). Contains ns i.0) (sym left) (Contains-append_left before.left.items (n ∷ []) i.0 i.1), i.2)
    ]
    | inr new ↦ inr (n, subst (λ (ns : List VersionNo). Contains ns n) (sym left) (Contains-push before.left.items n), at ∙ ap Some new)
  ];
})

-- no version has this number
pub adds_none : (catalogue : List Line) (kept : Chosen) (chosen entries : Set) (n : VersionNo) → slice_get (listed catalogue) n.0 ≡ None → Holds catalogue kept chosen entries → Holds catalogue kept (chosen ++ members (listed catalogue) (n ∷ [])) entries
adds_none catalogue kept chosen entries n at h = subst (λ (set : Set). Holds catalogue kept set entries) (sym (append-nil chosen) ∙ ap (λ (new : Set). chosen ++ new) (sym none)) h
  where
    none : members (listed catalogue) (n ∷ []) ≡ []
    none = ap (λ (o : Option Version). option_to_list o ++ []) at

-- an entry
adds_entry : (catalogue : List Line) (kept : Chosen) (chosen entries : Set) (n : VersionNo) (v : Version) → slice_get (listed catalogue) n.0 ≡ Some v → Contains entries v → Holds catalogue kept chosen entries → Holds catalogue kept (chosen ++ members (listed catalogue) (n ∷ [])) entries
adds_entry catalogue kept chosen entries n v at entry h = subst (λ (new : Set). Holds catalogue kept (chosen ++ new) entries) (sym (alone (listed catalogue) n v at)) (record {
  unlisted = λ name. numbers_same (listed catalogue) (IsLeftOver chosen entries) (IsLeftOver (chosen ++ v ∷ []) entries) name (by_name (listed catalogue) kept.unlisted name) (λ w l. (Contains-append_left chosen (v ∷ []) w l.0, l.1)) (λ w l. (was w l.0, l.1)) (h.unlisted name);
  entered = h.entered;
  favoured = h.favoured;
  flags = h.flags;
  distinct = h.distinct;
  among = λ w c. Contains-append_left chosen (v ∷ []) w (h.among w c);
  known = λ w c. h.known w (was w c);
  left = λ w c. h.left w (was w c);
})
  where
    was : (w : Version) → Contains (chosen ++ v ∷ []) w → Contains chosen w
    was w c = elim (Contains-push_cases chosen v w c) [ inl old ↦ old | inr new ↦ subst (Contains chosen) new (h.among v entry) ]

-- an entry, or a number that no version has
pub adds_listed : (catalogue : List Line) (kept : Chosen) (chosen entries : Set) (n : VersionNo) → is_unlisted kept.listed.items n.0 ≡ false → Holds catalogue kept chosen entries → Holds catalogue kept (chosen ++ members (listed catalogue) (n ∷ [])) entries
adds_listed catalogue kept chosen entries n is_set h = of (slice_get (listed catalogue) n.0) refl
  where
    of : (o : Option Version) → slice_get (listed catalogue) n.0 ≡ o → Holds catalogue kept (chosen ++ members (listed catalogue) (n ∷ [])) entries
    of None at = adds_none catalogue kept chosen entries n at h
    of (Some v) at = adds_entry catalogue kept chosen entries n v at (from_member entries v (not_false (is_member v entries) (sym (flag_means catalogue kept chosen entries n.0 v h at) ∙ is_set))) h

pub members_more : (versions : List Version) (numbers : List VersionNo) (i : ℕ) (d : VersionNo) → i < length numbers → members versions (take (i + 1) numbers) ≡ members versions (take i numbers) ++ members versions (get_or numbers i d ∷ [])
members_more versions numbers i d lt = ap (members versions) (take_more numbers i d lt) ∙ flat_map-append (λ (n : VersionNo). option_to_list (slice_get versions n.0)) (take i numbers) (get_or numbers i d ∷ [])

-- ---- one more entry

get_set_here : (flags : List Bool) (i : ℕ) (b : Bool) → i < length flags → slice_get (set flags i b) i ≡ Some b
get_set_here [] i b lt = absurd (omega (arith, lt))
get_set_here (x ∷ flags) zero b lt = refl
get_set_here (x ∷ flags) (suc i) b lt = get_set_here flags i b (omega (arith, lt))

get_set_apart : (flags : List Bool) (i n : ℕ) (b : Bool) → (n ≡ i → ⊥) → slice_get (set flags i b) n ≡ slice_get flags n
get_set_apart [] i n b apart = refl
get_set_apart (x ∷ flags) zero zero b apart = absurd (apart refl)
get_set_apart (x ∷ flags) zero (suc n) b apart = refl
get_set_apart (x ∷ flags) (suc i) zero b apart = refl
get_set_apart (x ∷ flags) (suc i) (suc n) b apart = get_set_apart flags i n b (λ e. apart (ap suc e))

-- a flag that isn't set
pub unlisted_flag : (flags : List Bool) (n : ℕ) → is_unlisted flags n ≡ true → slice_get flags n ≡ Some false
unlisted_flag flags n h = of (slice_get flags n) refl h
  where
    of : (o : Option Bool) → slice_get flags n ≡ o → option_map_or not o false ≡ true → slice_get flags n ≡ Some false
    of None e h = absurd (false≢true h)
    of (Some true) e h = absurd (false≢true h)
    of (Some false) e h = e

pub within_flags : (flags : List Bool) (n : ℕ) → is_unlisted flags n ≡ true → n < length flags
within_flags flags n h = slice_get_within flags n false (unlisted_flag flags n h)

pub fewer_unlisted : (flags : List Bool) (n : ℕ) → is_unlisted flags n ≡ true → unlisted (set flags n true) + 1 ≡ unlisted flags
fewer_unlisted flags n h =
    let sums = sum_by-set weight flags n true false (within_flags flags n h) in
    let was : weight (get_or flags n false) ≡ 1 = ap weight (get_or_from_slice_get flags n false false (unlisted_flag flags n h)) in
    omega (arith, sums, was)

-- whether the version is a member of one set more
member_more : (w v : Version) (set : Set) → (w ≡ v → ⊥) → is_member w (set ++ v ∷ []) ≡ is_member w set
member_more w v set apart = elim (cases_Bool (is_member w set)) [
  | inl e ↦ member_from (set ++ v ∷ []) w (Contains-append_left set (v ∷ []) w (from_member set w e)) ∙ sym e
  | inr e ↦ member_none (set ++ v ∷ []) w (λ c. elim (Contains-push_cases set v w c) [ inl old ↦ none_from_member set w e old | inr new ↦ apart (sym new) ]) ∙ sym e
]

-- The version is moved from the unlisted ones to the entries.
pub record Moves (catalogue : List Line) (before after : Chosen) (n : VersionNo) (v : Version) : Type 0 where
  pub entered : (name : List ℕ) → PutsNumber v (Some n) name (by_name (listed catalogue) before.entries name) (by_name (listed catalogue) after.entries name)
  pub taken : (name : List ℕ) → PutsNumber v None name (by_name (listed catalogue) before.unlisted name) (by_name (listed catalogue) after.unlisted name)
  pub same_favoured : after.favoured ≡ before.favoured
  pub same_left : after.left ≡ before.left

pub marks : (catalogue : List Line) (before after : Chosen) (chosen entries : Set) (n : VersionNo) (v : Version) → slice_get (listed catalogue) n.0 ≡ Some v → Contains chosen v → is_unlisted before.listed.items n.0 ≡ true
    → Moves catalogue before after n v → after.listed.items ≡ set before.listed.items n.0 true → Holds catalogue before chosen entries → Holds catalogue after chosen (entries ++ v ∷ [])
marks catalogue before after chosen entries n v at in_chosen unset moves flags h = record {
  unlisted = λ name. numbers_less (listed catalogue) (IsLeftOver chosen entries) (IsLeftOver chosen (entries ++ v ∷ [])) v name (by_name (listed catalogue) before.unlisted name) (by_name (listed catalogue) after.unlisted name)
      (λ w l. (l.0, λ c. l.1 (Contains-append_left entries (v ∷ []) w c))) (λ l. l.1 (Contains-push entries v))
      (λ w l apart. (l.0, λ c. elim (Contains-push_cases entries v w c) [ inl old ↦ l.1 old | inr new ↦ apart new ])) (moves.taken name) (h.unlisted name);
  entered = λ name. numbers_more (listed catalogue) (Contains entries) (Contains (entries ++ v ∷ [])) v n name (by_name (listed catalogue) before.entries name) (by_name (listed catalogue) after.entries name) h.distinct at
      (λ w c. Contains-append_left entries (v ∷ []) w c) (Contains-push entries v) (λ w c apart. elim (Contains-push_cases entries v w c) [ inl old ↦ old | inr new ↦ absurd (apart new) ]) (moves.entered name) (h.entered name);
  favoured = λ name. subst (λ (m : _). IsFavouredOf catalogue name (favoured_in (listed catalogue) m name)) (sym moves.same_favoured) (h.favoured name);
  flags = λ k w at_k. ap (λ (fs : List Bool). slice_get fs k) flags ∙ of k w at_k (is_nat k n.0);
  distinct = h.distinct;
  among = λ w c. elim (Contains-push_cases entries v w c) [ inl old ↦ h.among w old | inr new ↦ subst (Contains chosen) new in_chosen ];
  known = h.known;
  left = λ w c. elim (h.left w c) [
    | inl entry ↦ inl (Contains-append_left entries (v ∷ []) w entry)
    | inr i ↦ inr (i.0, subst (λ (l : _). Contains l.items i.0) (sym moves.same_left) i.1, i.2)
  ];
}
  where
    of : (k : ℕ) (w : Version) → slice_get (listed catalogue) k ≡ Some w → (k ≡ n.0) ⊎ (k ≡ n.0 → ⊥) → slice_get (set before.listed.items n.0 true) k ≡ Some (is_member w (entries ++ v ∷ []))
    of k w at_k (inl same) =
        let is : w ≡ v = (let e : slice_get (listed catalogue) n.0 ≡ Some w = subst (λ (i : ℕ). slice_get (listed catalogue) i ≡ Some w) same at_k in cc) in
        ap (λ (i : ℕ). slice_get (set before.listed.items n.0 true) i) same
        ∙ get_set_here before.listed.items n.0 true (within_flags before.listed.items n.0 unset)
        ∙ ap Some (sym (member_from (entries ++ v ∷ []) w (subst (Contains (entries ++ v ∷ [])) (sym is) (Contains-push entries v))))
    of k w at_k (inr apart) =
        get_set_apart before.listed.items n.0 k true apart ∙ h.flags k w at_k
        ∙ ap Some (sym (member_more w v entries (λ same. apart (h.distinct v k n.0 (subst (λ (x : Version). slice_get (listed catalogue) k ≡ Some x) same at_k) at))))

-- ---- those left

-- the last number of a list, which is dropped
pub popped : (before after : List VersionNo) (n : VersionNo) → after ≡ take (length before - 1) before → slice_get before (length before - 1) ≡ Some n → before ≡ after ++ n ∷ []
popped before after n rest at =
    let i = length before - 1 in
    let lt = slice_get_within before i n at in
    sym (take_all (i + 1) before (omega (arith, lt))) ∙ take_more before i n lt ∙ ap (λ (x : VersionNo). take i before ++ x ∷ []) (get_or_from_slice_get before i n n at) ∙ ap (λ (ns : List VersionNo). ns ++ n ∷ []) (sym rest)

pub last_none : (numbers : List VersionNo) → slice_get numbers (length numbers - 1) ≡ None → numbers ≡ []
last_none [] at = refl
last_none (n ∷ numbers) at =
    let is = slice_get-get_or (n ∷ numbers) (length (n ∷ numbers) - 1) n (omega arith) in cc

-- an entry is dropped
pub drops : (catalogue : List Line) (before after : Chosen) (chosen entries : Set) (n : VersionNo) → before.left.items ≡ after.left.items ++ n ∷ [] → is_unlisted before.listed.items n.0 ≡ false
    → after.unlisted ≡ before.unlisted → after.entries ≡ before.entries → after.favoured ≡ before.favoured → after.listed ≡ before.listed → Holds catalogue before chosen entries → Holds catalogue after chosen entries
drops catalogue before after chosen entries n left is_set over entered favoured flags h = record {
  unlisted = λ name. subst (λ (m : _). AreNumbersOf (listed catalogue) (IsLeftOver chosen entries) name (by_name (listed catalogue) m name)) (sym over) (h.unlisted name);
  entered = λ name. subst (λ (m : _). AreNumbersOf (listed catalogue) (Contains entries) name (by_name (listed catalogue) m name)) (sym entered) (h.entered name);
  favoured = λ name. subst (λ (m : _). IsFavouredOf catalogue name (favoured_in (listed catalogue) m name)) (sym favoured) (h.favoured name);
  flags = λ k w at. ap (λ (l : _). slice_get l.items k) flags ∙ h.flags k w at;
  distinct = h.distinct;
  among = h.among;
  known = h.known;
  left = λ w c. elim (h.left w c) [
    | inl entry ↦ inl entry
    | inr i ↦ of w i.0 i.2 (Contains-push_cases after.left.items n i.0 (subst (λ (ns : List VersionNo). Contains ns i.0) left i.1))
  ];
}
  where
    of : (w : Version) (m : VersionNo) → slice_get (listed catalogue) m.0 ≡ Some w → Contains after.left.items m ⊎ (n ≡ m) → Contains entries w ⊎ IsIn (listed catalogue) after.left.items w
    of w m at (inl old) = inr (m, old, at)
    of w m at (inr same) =
        inl (from_member entries w (not_false (is_member w entries) (sym (flag_means catalogue before chosen entries m.0 w h at) ∙ subst (λ (k : VersionNo). is_unlisted before.listed.items k.0 ≡ false) same is_set)))

pub none_left_entries : (catalogue : List Line) (kept : Chosen) (chosen entries : Set) → kept.left.items ≡ [] → Holds catalogue kept chosen entries → (v : Version) → Contains chosen v → Contains entries v
none_left_entries catalogue kept chosen entries none h v c = elim (h.left v c) [ inl entry ↦ entry | inr i ↦ absurd (no_element i.0 (subst (λ (ns : List VersionNo). Contains ns i.0) none i.1)) ]

-- ---- matches

pub name_matched : (s : Spec) (w : Version) → matches s w ≡ true → w.name ≡ s.name
name_matched s w m = (bytes_eq-Decides w.name s.name).0 (and_parts (bytes_eq w.name s.name) (is_in_span s.span w.number) m).0

pub in_span : (s : Spec) (w : Version) → matches s w ≡ true → is_in_span s.span w.number ≡ true
in_span s w m = (and_parts (bytes_eq w.name s.name) (is_in_span s.span w.number) m).1

match_from : (s : Spec) (w : Version) → w.name ≡ s.name → is_in_span s.span w.number ≡ true → matches s w ≡ true
match_from s w name span = and_from (bytes_eq w.name s.name) (is_in_span s.span w.number) ((bytes_eq-Decides w.name s.name).1 name) span

pub version_is : (u v : Version) → u.name ≡ v.name → u.number ≡ v.number → u ≡ v
version_is u v name number = (same_version_is u v).0 (and_from (bytes_eq u.name v.name) (u.number == v.number) ((bytes_eq-Decides u.name v.name).1 name) ((Decides-eqb u.number v.number).1 number))

-- the numbers of a package that is known by its first version
pub numbers_of_first : (versions : List Version) (P : Version → Type 0) (table : VersionTable) (name : List ℕ) (p : ℕ) → first_of versions name ≡ Some p → AreNumbersOf versions P name (by_name versions table name) → AreNumbersOf versions P name (version_in table p)
numbers_of_first versions P table name p is are = subst (λ (o : Option ℕ). AreNumbersOf versions P name (numbers_in table o)) is are

-- The numbers in the span are those of the matches.
found_match : (versions : List Version) (P : Version → Type 0) (s : Spec) (numbers : ℕ → Option VersionNo) (n : ℕ) (k : VersionNo) → AreNumbersOf versions P s.name numbers → numbers n ≡ Some k → is_in_span s.span n ≡ true
    → (v : Version) × (slice_get versions k.0 ≡ Some v) × (v.number ≡ n) × (matches s v ≡ true) × P v
found_match versions P s numbers n k are is span =
    let v = (are n k).0 is in
    (v.0, v.1, v.3, match_from s v.0 v.2 (subst (λ (i : ℕ). is_in_span s.span i ≡ true) (sym v.3) span), v.4)

number_found : (versions : List Version) (P : Version → Type 0) (s : Spec) (numbers : ℕ → Option VersionNo) (w : Version) (k : VersionNo) → AreNumbersOf versions P s.name numbers → slice_get versions k.0 ≡ Some w → matches s w ≡ true → P w → numbers w.number ≡ Some k
number_found versions P s numbers w k are at m p = (are w.number k).1 (w, at, name_matched s w m, refl, p)

-- ---- the favoured match

pub favoured_none : (catalogue : List Line) (chosen entries : Set) (s : Spec) → IsFavouredOf catalogue s.name None → IsFavouredMatch catalogue chosen entries s None
favoured_none catalogue chosen entries s none = λ w f m l. none w f (name_matched s w m)

pub favoured_known : (catalogue : List Line) (name : List ℕ) (k : VersionNo) → IsFavouredOf catalogue name (Some k) → slice_get (listed catalogue) k.0 ≡ None → ⊥
favoured_known catalogue name k h none = cc (h.1, none)

module _ (catalogue : List Line) (chosen entries : Set) (s : Spec) (numbers : ℕ → Option VersionNo) (k : VersionNo) (p : Version) (favoured : IsFavouredOf catalogue s.name (Some k))
    (are : AreNumbersOf (listed catalogue) (IsLeftOver chosen entries) s.name numbers) (at : slice_get (listed catalogue) k.0 ≡ Some p) where
  it_is : p ≡ favoured.0
  it_is = (let a = favoured.1 in cc)

  pub favoured_found : is_some (numbers p.number) ≡ true → is_in_span s.span p.number ≡ true → IsFavouredMatch catalogue chosen entries s (Some k)
  favoured_found has is = of (numbers p.number) refl has
    where
      of : (o : Option VersionNo) → numbers p.number ≡ o → is_some o ≡ true → IsFavouredMatch catalogue chosen entries s (Some k)
      of None e h = absurd (false≢true h)
      of (Some j) e h =
          let u = (are p.number j).0 e in
          let same : u.0 ≡ favoured.0 = version_is u.0 favoured.0 (u.2 ∙ sym favoured.2) (u.3 ∙ ap (λ (x : Version). x.number) it_is) in
          (favoured.0, favoured.1, favoured.3, match_from s favoured.0 favoured.2 (subst (λ (x : Version). is_in_span s.span x.number ≡ true) it_is is), subst (IsLeftOver chosen entries) same u.4)

  pub favoured_other : (is_some (numbers p.number) ≡ false) ⊎ (is_in_span s.span p.number ≡ false) → IsFavouredMatch catalogue chosen entries s None
  favoured_other fails = λ w f m l. elim fails [
    | inl none ↦ false≢true (sym none ∙ ap is_some (found w f m l))
    | inr fails ↦ false≢true (sym fails ∙ ap (λ (x : Version). is_in_span s.span x.number) (it_is ∙ sym (same w f m)) ∙ in_span s w m)
  ]
    where
      same : (w : Version) → Contains catalogue (Favour w) → matches s w ≡ true → w ≡ favoured.0
      same w f m = favoured.4 w f (name_matched s w m)

      at_w : (w : Version) → Contains catalogue (Favour w) → matches s w ≡ true → slice_get (listed catalogue) k.0 ≡ Some w
      at_w w f m = favoured.1 ∙ ap Some (sym (same w f m))

      found : (w : Version) → Contains catalogue (Favour w) → matches s w ≡ true → IsLeftOver chosen entries w → numbers p.number ≡ Some k
      found w f m l = ap (λ (x : Version). numbers x.number) (it_is ∙ sym (same w f m)) ∙ number_found (listed catalogue) (IsLeftOver chosen entries) s numbers w k are (at_w w f m) m l

-- ---- the first unlisted match

left_from_none : (entries : Set) (w : Version) → ((Contains entries w → ⊥) → ⊥) → Contains entries w
left_from_none entries w h = elim (cases_Bool (is_member w entries)) [
  | inl e ↦ from_member entries w e
  | inr e ↦ absurd (h (none_from_member entries w e))
]

-- no match is left over
pub none_matches : (catalogue : List Line) (kept : Chosen) (chosen entries : Set) (s : Spec) → Holds catalogue kept chosen entries → ((n : ℕ) (k : VersionNo) → by_name (listed catalogue) kept.unlisted s.name n ≡ Some k → is_in_span s.span n ≡ true → ⊥)
    → IsUnlistedMatch catalogue chosen entries s None
none_matches catalogue kept chosen entries s h none = λ w c m. left_from_none entries w (λ out.
    let k = h.known w c in
    none w.number k.0 (number_found (listed catalogue) (IsLeftOver chosen entries) s (by_name (listed catalogue) kept.unlisted s.name) w k.0 (h.unlisted s.name) k.1 m (c, out)) (in_span s w m))

pub no_numbers : (catalogue : List Line) (kept : Chosen) (chosen entries : Set) (s : Spec) → Holds catalogue kept chosen entries → first_of (listed catalogue) s.name ≡ None → IsUnlistedMatch catalogue chosen entries s None
no_numbers catalogue kept chosen entries s h none =
    none_matches catalogue kept chosen entries s h (λ n k at span. let is = subst (λ (o : Option ℕ). numbers_in kept.unlisted o n ≡ Some k) none at in cc)

pub favoured_first : (catalogue : List Line) (chosen entries : Set) (s : Spec) (k : VersionNo) → IsFavouredMatch catalogue chosen entries s (Some k) → IsUnlistedMatch catalogue chosen entries s (Some k)
favoured_first catalogue chosen entries s k f = (f.0, f.1, f.3, f.4, λ w m l. inr (inl f.2))

pub newest_first : (catalogue : List Line) (kept : Chosen) (chosen entries : Set) (s : Spec) (p : ℕ) (o : Option VersionNo) → Holds catalogue kept chosen entries → first_of (listed catalogue) s.name ≡ Some p
    → IsFavouredMatch catalogue chosen entries s None → IsNewestIn (version_in kept.unlisted p) s.span o → IsUnlistedMatch catalogue chosen entries s o
newest_first catalogue kept chosen entries s p None h is none newest =
    none_matches catalogue kept chosen entries s h (λ n k at span. newest n k (subst (λ (x : Option ℕ). numbers_in kept.unlisted x n ≡ Some k) is at) span)
newest_first catalogue kept chosen entries s p (Some k) h is none newest = (v.0, v.1, v.3, v.4, first)
  where
    are : AreNumbersOf (listed catalogue) (IsLeftOver chosen entries) s.name (version_in kept.unlisted p)
    are = numbers_of_first (listed catalogue) (IsLeftOver chosen entries) kept.unlisted s.name p is (h.unlisted s.name)

    v : (v : Version) × (slice_get (listed catalogue) k.0 ≡ Some v) × (v.number ≡ newest.0) × (matches s v ≡ true) × IsLeftOver chosen entries v
    v = found_match (listed catalogue) (IsLeftOver chosen entries) s (version_in kept.unlisted p) newest.0 k are newest.1 newest.2

    first : (w : Version) → IsTrue (matches s w) → IsLeftOver chosen entries w → (w ≡ v.0) ⊎ IsSorted catalogue v.0 w
    first w m l = elim (is_nat w.number v.0.number) [
      | inl same ↦ inl (version_is w v.0 (name_matched s w m ∙ sym (name_matched s v.0 v.3)) same)
      | inr apart ↦ inr (inr (λ f. none w f m l, lower apart))
    ]
      where
        lower : (w.number ≡ v.0.number → ⊥) → w.number < v.0.number
        lower apart =
            let j = h.known w l.0 in
            let most = newest.3 w.number j.0 (number_found (listed catalogue) (IsLeftOver chosen entries) s (version_in kept.unlisted p) w j.0 are j.1 m l) (in_span s w m) in
            let is_newest = v.2 in
            omega (arith, most, is_newest, apart)

-- the test of its flag says the same
pub still_unlisted : (catalogue : List Line) (kept : Chosen) (chosen entries : Set) (s : Spec) (k : VersionNo) → Holds catalogue kept chosen entries → IsUnlistedMatch catalogue chosen entries s (Some k) → is_unlisted kept.listed.items k.0 ≡ false → ⊥
still_unlisted catalogue kept chosen entries s k h m is_set =
    m.3.1 (from_member entries m.0 (not_false (is_member m.0 entries) (sym (flag_means catalogue kept chosen entries k.0 m.0 h m.1) ∙ is_set)))

-- ---- met SPECs

pub met_by : (catalogue : List Line) (kept : Chosen) (chosen entries : Set) (s : Spec) (p : ℕ) (o : Option VersionNo) → Holds catalogue kept chosen entries → first_of (listed catalogue) s.name ≡ Some p
    → IsNewestIn (version_in kept.entries p) s.span o → is_some o ≡ is_met s entries
met_by catalogue kept chosen entries s p None h is newest = sym (any_none (matches s) entries (λ w c m.
    let k = h.known w (h.among w c) in
    newest w.number k.0 (subst (λ (x : Option ℕ). numbers_in kept.entries x w.number ≡ Some k.0) is (number_found (listed catalogue) (Contains entries) s (by_name (listed catalogue) kept.entries s.name) w k.0 (h.entered s.name) k.1 m c)) (in_span s w m)))
met_by catalogue kept chosen entries s p (Some k) h is newest =
    let are = numbers_of_first (listed catalogue) (Contains entries) kept.entries s.name p is (h.entered s.name) in
    let v = found_match (listed catalogue) (Contains entries) s (version_in kept.entries p) newest.0 k are newest.1 newest.2 in
    sym (any_from (matches s) entries v.0 v.4 v.3)

pub met_none : (catalogue : List Line) (kept : Chosen) (chosen entries : Set) (s : Spec) → Holds catalogue kept chosen entries → first_of (listed catalogue) s.name ≡ None → false ≡ is_met s entries
met_none catalogue kept chosen entries s h none = sym (any_none (matches s) entries (λ w c m.
    let k = h.known w (h.among w c) in
    let is = subst (λ (o : Option ℕ). numbers_in kept.entries o w.number ≡ Some k.0) none (number_found (listed catalogue) (Contains entries) s (by_name (listed catalogue) kept.entries s.name) w k.0 (h.entered s.name) k.1 m c) in
    cc))

-- ---- the first of several SPECs

-- The alternative at a place that is within; the default is never used.
blank : Spec
blank = record { name = []; span = Any }

pub none_of_first : (catalogue : List Line) (chosen entries : Set) (alternatives : List Spec) (i : ℕ) → i < length alternatives
    → IsFirstMatch catalogue chosen entries (take i alternatives) None → ((s : Spec) → slice_get alternatives i ≡ Some s → IsUnlistedMatch catalogue chosen entries s None) → IsFirstMatch catalogue chosen entries (take (i + 1) alternatives) None
none_of_first catalogue chosen entries alternatives i lt before here = λ t w c m chosen_w.
    elim (Contains-push_cases (take i alternatives) (get_or alternatives i blank) t (subst (λ (ss : List Spec). Contains ss t) (take_more alternatives i blank lt) c)) [
      | inl old ↦ before t w old m chosen_w
      | inr new ↦ here (get_or alternatives i blank) (slice_get-get_or alternatives i blank lt) w chosen_w (subst (λ (x : Spec). matches x w ≡ true) (sym new) m)
    ]

pub found_first : (catalogue : List Line) (chosen entries : Set) (alternatives : List Spec) (i : ℕ) (n : VersionNo) → i < length alternatives
    → IsFirstMatch catalogue chosen entries (take i alternatives) None → ((s : Spec) → slice_get alternatives i ≡ Some s → IsUnlistedMatch catalogue chosen entries s (Some n)) → IsFirstMatch catalogue chosen entries alternatives (Some n)
found_first catalogue chosen entries alternatives i n lt before there =
    let s = get_or alternatives i blank in
    let here = there s (slice_get-get_or alternatives i blank lt) in
    (here.0, here.1, here.3, (take i alternatives, s, drop (i + 1) alternatives, parts, here.2, here.4, before))
  where
    parts : alternatives ≡ take i alternatives ++ get_or alternatives i blank ∷ drop (i + 1) alternatives
    parts = sym (take-append-drop i alternatives) ∙ ap (λ (ss : List Spec). take i alternatives ++ ss) (drop_more alternatives i blank lt)

-- ---- the version of a need

pub gives_need : (catalogue : List Line) (chosen entries : Set) (alternatives : List Spec) (condition : Option Cond) (n : VersionNo) → IsFirstMatch catalogue chosen entries alternatives (Some n) → condition_holds condition entries ≡ true
    → IsLineState catalogue chosen entries (Some (Needs alternatives condition)) (state.Gives n)
gives_need catalogue chosen entries alternatives condition n m holds =
    let f = m.3 in
    (m.0, m.1, m.2.0, m.2.1, (alternatives, condition, refl, matched, holds), (f.0, f.1, f.2, condition, ap (λ (ss : _). Some (Needs ss condition)) f.3, f.4, λ w is c out. f.5 w is (c, out), f.6))
  where
    matched : list_any (λ s. matches s m.0) alternatives ≡ true
    matched =
        let f = m.3 in
        any_from (λ s. matches s m.0) alternatives f.1 (subst (λ (ss : _). Contains ss f.1) (sym f.3) (Contains-append_right f.0 (f.1 ∷ f.2) f.1 (first_element f.1 f.2))) f.4

same_need : (ss ts : List Spec) (c d : Option Cond) → ◌≡◌ {A = Option Line} (Some (Needs ss c)) (Some (Needs ts d)) → (ss ≡ ts) × (c ≡ d)
same_need ss ts c d e = (cc, cc)

pub waits_need : (entries : Set) (alternatives : List Spec) (condition : Option Cond) → condition_holds condition entries ≡ false → IsWaiting entries (Some (Needs alternatives condition))
waits_need entries alternatives condition fails = λ ss c e. ap (λ (x : Option Cond). condition_holds x entries) (sym (same_need alternatives ss condition c e).1) ∙ fails

pub spent_need : (catalogue : List Line) (chosen entries : Set) (alternatives : List Spec) (condition : Option Cond) → IsFirstMatch catalogue chosen entries alternatives None → IsSpent chosen entries (Some (Needs alternatives condition))
spent_need catalogue chosen entries alternatives condition none = λ ss c w e any in_chosen.
    let f = any_element (λ s. matches s w) ss any in
    none f.0 w (subst (λ (xs : _). Contains xs f.0) (sym (same_need alternatives ss condition c e).0) f.1) f.2 in_chosen

-- a line that is no need
pub no_need : (chosen entries : Set) (line : Option Line) → ((ss : List Spec) (c : Option Cond) → line ≡ Some (Needs ss c) → ⊥) → IsSpent chosen entries line
no_need chosen entries line none = λ ss c w e any in_chosen. absurd (none ss c e)
