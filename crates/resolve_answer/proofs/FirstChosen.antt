-- The solver's choices in the order of tries are the first choices of the two texts, and of flat
-- texts the newest that fit.
use Rattle.std.proofs.Common.{◌≡◌, Bool, true, false, List, [], ◌∷◌, Some, None, refl, sym, subst, ◌∙◌, arith, inl, inr}
use Rattle.std.specs.Prelude.{◌↔◌, Contains, slice_get}
use Rattle.std.specs.List.{list_any}
use Rattle.std.proofs.lemmas.List.{append-nil}
use Rattle.std.proofs.lemmas.Option.{get_or_from_slice_get}
use Rattle.resolvo_text.specs.Line.{Version, Spec, Line, Listed, Needs}
use Rattle.resolvo_text.specs.Matches.{Set, matches}
use Rattle.resolvo_catalogue_core.specs.Listed.{listed}
use Rattle.resolvo_catalogue_core.specs.Questions.{ReadRequest}
use Rattle.resolvo_catalogue_core.specs.Sets as sets
use Rattle.resolvo_catalogue_core.proofs.TableLemmas.{listed_from}
use Rattle.resolvo_pool_core.specs.declared.id.VersionSetId.{VersionSetId}
use Rattle.resolvo_pool_core.specs.declared.requirement.ConditionalRequirement.{ConditionalRequirement}
use Rattle.resolvo_pool_core.specs.declared.requirement.Requirement.{Requirement}
use Rattle.resolvo_pool_core.specs.declared.requirement.Requirement.TheVariants.{Single, Union}
use Rattle.resolvo_pool_core.specs.Provider.{IsTriedFor, tried_first}
use Rattle.resolvo_pool_core.specs.RuleKeeping.{is_in, IsRuleKeeping}
use Rattle.resolvo_pool_core.specs.Text.{alternatives_of}
use Rattle.resolvo_sat.specs.First.{IsTriedBefore, IsUnbeaten, ArePreferred}
use Rattle.resolvo_catalogue.specs.Ids.{Ids, SolvableId, IsSpec, AreAlternatives}
use Rattle.resolvo_terms.specs.Terms.{AreEach}
use Rattle.resolvo_catalogue.specs.Known.{set_at, members_of}
use Rattle.resolvo_catalogue.specs.Provider.{Provider, candidates_of, packages_of, IsSorted}
use Rattle.resolvo_catalogue.specs.CandidateOrder.{matching, IsOrder}
use Rattle.resolvo_catalogue.specs.Over.{IsOver, AreAsked}
use Rattle.resolvo_catalogue.specs.KeptSets.{Represents, DistinguishesIds, root_of}
use Rattle.resolvo_catalogue.specs.declared.provider.RequestIds.{RequestIds}
use Rattle.resolvo_catalogue.proofs.MarkLemmas.{one_some}
use Rattle.resolvo_catalogue.proofs.PassLemmas.{any_from}
use Rattle.resolvo_terms.proofs.Places.{no_element, element_cases}
use Rattle.resolvo_catalogue.proofs.RulesKept.{not_false}
use Rattle.resolve_answer.specs.Flat.{AllLines}
use Rattle.resolve_answer.specs.First.{IsFirstMatchOf, IsMatch, IsNeeded, HoldsFirst, IsFirstChoices, is_flat_listing, is_flat_need, AreNewest, AreFirstChosen}
use Rattle.resolve_answer.specs.TryOrder.{orders_of}
use Rattle.resolve_answer.proofs.FirstMatches.{IsSooner, first_match, none_sooner, needed_grows}
use Rattle.resolve_answer.proofs.FirstTried.{sooner_from}
use Rattle.resolve_answer.proofs.FirstNeeds.{solvables_for, found, held, needed_by, needed_met, one_each, keeps_rules}
use Rattle.resolve_answer.proofs.FirstFlat.{matches_name, nothing_marked, needed_alone, newest_for, newest_met, newest_keep, newest_first}

-- ---- one alternative

each_one : {X Y : Type 0} (R : X → Y → Type 0) (xs : List X) (y : Y) → AreEach R xs (y ∷ []) → (x : X) × (xs ≡ x ∷ []) × R x y
each_one R [] y h = absurd h
each_one R (x ∷ []) y h = (x, refl, h.0)
each_one R (x ∷ z ∷ zs) y h = absurd h.1

specs_of : (ids : Ids) (r : Requirement) (ss : List Spec) → AreAlternatives ids r ss → AreEach (IsSpec ids) (alternatives_of (members_of ids) r) ss
specs_of ids (Single w) ss h = h
specs_of ids (Union u) ss h = subst (λ (vs : List VersionSetId). AreEach (IsSpec ids) vs ss) (sym (get_or_from_slice_get ids.unions u.0 h.0 [] h.1)) h.2

one_matched : (alternatives : List Spec) (s : Spec) (v : Version) → alternatives ≡ s ∷ [] → list_any (λ (t : Spec). matches t v) alternatives ≡ true → matches s v ≡ true
one_matched alternatives s v e h =
    let t = any_from (λ (u : Spec). matches u v) (s ∷ []) (subst (λ (ss : List Spec). list_any (λ (u : Spec). matches u v) ss ≡ true) e h) in
    elim (element_cases s [] t.0 t.1) [
      | inl is ↦ subst (λ (u : Spec). matches u v ≡ true) (sym is) t.2
      | inr m ↦ absurd (no_element t.0 m)
    ]

first_matched : (catalogue : List Line) (alternatives : List Spec) (s : Spec) (v : Version) → alternatives ≡ s ∷ [] → IsFirstMatchOf catalogue alternatives v → IsMatch catalogue s v
first_matched catalogue alternatives s v e h = go (subst (λ (ss : List Spec). IsFirstMatchOf catalogue ss v) e h)
  where
    go : IsFirstMatchOf catalogue (s ∷ []) v → IsMatch catalogue s v
    go (inl first) = first.0
    go (inr more) = absurd more.1

order_for : (p : Provider) (same : SolvableId → SolvableId → Bool) (r : Requirement) (w : VersionSetId) (list : List SolvableId) → alternatives_of (members_of p.ids) r ≡ w ∷ [] → orders_of same p r list → IsOrder p same w list
order_for p same r w list one ordered =
    let (order, each, is) = subst (λ (vs : List VersionSetId). IsTriedFor (IsSorted p) same (tried_first (λ v. (set_at p.ids v).0) (candidates_of p)) (matching p) vs list) one ordered in
    subst (λ (xs : List SolvableId). IsOrder p same w xs) (sym (is ∙ append-nil (order w))) (each 0 w (omega arith))

module _ (catalogue : List Line) (source : ReadRequest) (p : Provider) (asked : RequestIds) (over : IsOver catalogue p) (asks : AreAsked p.ids source asked) (same : SolvableId → SolvableId → Bool) (apart : DistinguishesIds same) (chosen : List SolvableId)
    (keeps : IsRuleKeeping same (packages_of p) (root_of asked) chosen) (preferred : ArePreferred same (packages_of p) (orders_of same p) (root_of asked) chosen) (entries : Set) (represents : Represents (listed catalogue) chosen entries) where
  entry_listed : (v : Version) → Contains entries v → Contains catalogue (Listed v)
  entry_listed v c = let s = represents.all v c in listed_from catalogue v s.0.raw s.2

  entry_met : (alternatives : List Spec) → IsNeeded catalogue source.lines entries alternatives → (v : Version) × Contains entries v × (list_any (λ (s : Spec). matches s v) alternatives ≡ true)
  entry_met alternatives need = needed_met p catalogue over same apart source asked asks chosen entries represents keeps alternatives need

  -- A need has one SPEC, and a member of the set matches it that no entry precedes.
  record HasBest (set : Set) (alternatives : List Spec) : Type 0 where
    spec : Spec
    alone : alternatives ≡ spec ∷ []
    best : Version
    member : Contains set best
    matched : matches spec best ≡ true
    unbeaten : (x : Version) → Contains entries x → matches spec x ≡ true → IsSooner catalogue x best → ⊥

  module _ (set : Set) (keeping : sets.IsRuleKeeping catalogue source.lines set) (bests : (alternatives : List Spec) → IsNeeded catalogue source.lines set alternatives → HasBest set alternatives) where
    is_unbeaten : (list : List SolvableId) → Represents (listed catalogue) list set → IsUnbeaten same (packages_of p) (orders_of same p) (root_of asked) chosen list
    is_unbeaten list are = record {
      keeping = keeps_rules p catalogue over same apart source asked asks list set are keeping;
      meets_best = λ parent need m c b.
          let n = needed_by p catalogue over same apart source asked asks list set are parent need m c b in
          let top = bests n.0 n.2 in
          let f = are.all top.best top.member in
          (f.0, held p catalogue over same apart source asked asks list set are f.0 f.1, λ order s ordered before. none need n.0 n.1 top f.0 f.2 order s ordered before);
    }
      where
        none : (need : ConditionalRequirement) (alternatives : List Spec) → AreAlternatives p.ids need.requirement alternatives → (top : HasBest set alternatives) (f : SolvableId) → slice_get (listed catalogue) f.raw ≡ Some top.best
            → (order : List SolvableId) (s : SolvableId) → orders_of same p need.requirement order → IsTriedBefore order s f → is_in same (packages_of p) chosen s ≡ false
        none need alternatives are top f at order s ordered before =
            let w = each_one (IsSpec p.ids) (alternatives_of (members_of p.ids) need.requirement) top.spec (subst (λ (ss : List Spec). AreEach (IsSpec p.ids) (alternatives_of (members_of p.ids) need.requirement) ss) top.alone (specs_of p.ids need.requirement alternatives are)) in
            let x = sooner_from p catalogue over same apart w.0 top.spec w.2 order s f top.best (order_for p same need.requirement w.0 order w.1 ordered) at top.matched before in
            not_false (is_in same (packages_of p) chosen s) (λ h.
            let e = represents.each s (found p catalogue over same apart source asked asks chosen entries represents s h) in
            let is : e.0 ≡ x.0 = one_some (sym e.1 ∙ x.1) in
            top.unbeaten x.0 (subst (λ (y : Version). Contains entries y) is e.2) x.2 x.3)

    -- the entries are members of each such set
    entries_within : (v : Version) → Contains entries v → Contains set v
    entries_within v c =
        let (list, are) = solvables_for catalogue set keeping.single.listed in
        let s = represents.all v c in
        let there = preferred.within list (is_unbeaten list are) s.0 (held p catalogue over same apart source asked asks chosen entries represents s.0 s.1) in
        let e = are.each s.0 (found p catalogue over same apart source asked asks list set are s.0 there) in
        subst (λ (y : Version). Contains set y) (one_some (sym e.1 ∙ s.2)) e.2

  -- ---- first choices

  module _ (first : Set) (choices : IsFirstChoices catalogue source.lines first) where
    first_best : (alternatives : List Spec) → IsNeeded catalogue source.lines first alternatives → HasBest first alternatives
    first_best alternatives need =
        let (list, are) = solvables_for catalogue first choices.keeping.single.listed in
        let (s, alone) = choices.alone alternatives need in
        let u = needed_met p catalogue over same apart source asked asks list first are (keeps_rules p catalogue over same apart source asked asks list first are choices.keeping) alternatives need in
        let v = first_match catalogue over.grammatical s u.0 (choices.keeping.single.listed u.0 u.1, one_matched alternatives s u.0 alone u.2) in
        record {
          spec = s;
          alone = alone;
          best = v.0;
          member = choices.holds alternatives v.0 need (subst (λ (ss : List Spec). IsFirstMatchOf catalogue ss v.0) (sym alone) (inl v.1));
          matched = v.1.0.1;
          unbeaten = λ x c m sooner. none_sooner catalogue s v.0 x v.1 (entry_listed x c, m) sooner;
        }

    inside : (v : Version) → Contains entries v → Contains first v
    inside v c = entries_within first choices.keeping first_best v c

    entries_hold : HoldsFirst catalogue source.lines entries
    entries_hold alternatives v need m =
        let grown = needed_grows entries first inside catalogue source.lines alternatives need in
        let (s, alone) = choices.alone alternatives grown in
        let u = entry_met alternatives need in
        let own = first_matched catalogue alternatives s v alone m in
        let name : u.0.name ≡ v.name = matches_name s u.0 (one_matched alternatives s u.0 alone u.2) ∙ sym (matches_name s v own.1) in
        subst (λ (x : Version). Contains entries x) (choices.keeping.single.one_each u.0 v (inside u.0 u.1) (choices.holds alternatives v grown m) name (choices.unmarked u.0.name)) u.1

    first_chosen_are : (v : Version) → Contains entries v ↔ Contains first v
    first_chosen_are v = (inside v, λ c. choices.least entries entries_hold v c)

  -- ---- flat texts

  module _ (flat_listing : AllLines is_flat_listing catalogue) (flat_request : AllLines is_flat_need source.lines) where
    need_met : (s : Spec) → Contains source.lines (Needs (s ∷ []) None) → (v : Version) × Contains entries v × (matches s v ≡ true)
    need_met s c =
        let v = entry_met (s ∷ []) (record { owner = None; condition = None; line = c; member = refl; holds = refl }) in
        (v.0, v.1, one_matched (s ∷ []) s v.0 refl v.2)

    entry_alone : (v w : Version) → Contains entries v → Contains entries w → v.name ≡ w.name → v ≡ w
    entry_alone v w c d name = one_each p catalogue over same apart source asked asks chosen entries represents keeps v w c d name (nothing_marked catalogue source.lines flat_listing flat_request v.name)

    entries_newest : AreNewest catalogue source.lines entries
    entries_newest v c =
        let (set, are) = newest_for catalogue source.lines flat_listing flat_request entries entry_listed entry_alone need_met entries (λ w d. d) in
        let keeping = newest_keep catalogue source.lines flat_listing flat_request entries entry_listed entry_alone need_met set are in
        (are.each v (entries_within set keeping (λ alternatives need.
        let n = needed_alone catalogue source.lines flat_listing flat_request set alternatives need in
        let u = newest_met catalogue source.lines flat_listing flat_request entries entry_listed entry_alone need_met set are n.0 n.2 in
        record {
          spec = n.0;
          alone = n.1;
          best = u.0;
          member = u.1;
          matched = u.2;
          unbeaten = λ x d m sooner. newest_first catalogue source.lines flat_listing flat_request entries entry_listed entry_alone need_met set are n.0 u.0 x u.1 u.2 d m sooner;
        }) v c)).newest

  -- The law: where there are first choices, they were chosen; and of flat texts the newest versions that fit.
  pub first_chosen : AreFirstChosen catalogue source.lines entries
  first_chosen = record { first = first_chosen_are; newest = entries_newest }
