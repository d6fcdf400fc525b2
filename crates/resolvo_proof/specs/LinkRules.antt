-- The links of a conflict's rules, in the conflict's order.
use Rattle.std.specs.Prelude.{Bool, true, not, cond, List, [], ◌∷◌, ◌++◌, map, filter, Option, Some, None}
use Rattle.std.specs.List.{flat_map, filter_map, list_any}
use Rattle.std.specs.Option.{option_or, option_and_then, option_to_list}
use Rattle.resolvo_pool_core.specs.declared.id.VersionSetId.{VersionSetId}
use Rattle.resolvo_pool_core.specs.declared.requirement.Requirement.{Requirement}
use Rattle.resolvo_proof.specs.declared.step.ProofRule.{ProofRule}
use Rattle.resolvo_proof.specs.declared.step.ProofRule.TheVariants.{Needs, GateOf, Shared, Limit, Outside, Locked, Excluded, Digit, AtLeastOne, Matches}
use Rattle.resolvo_proof.specs.declared.link.Link.{Link}
use Rattle.resolvo_proof.specs.declared.link.Link.TheVariants as Links
use Rattle.resolvo_graph.specs.Tree.{same_set}
use Rattle.resolvo_sat.specs.RuleClauses.{same_requirement}
use Rattle.resolvo_proof.specs.Tests.{same_limited}

-- the parent that opens the gate of a requirement
abbrev pub gate_in : {N S : Type 0} → ProofRule N S → Option (Requirement × S)
gate_in (Needs parent q case) = None
gate_in (GateOf s q) = Some (q, s)
gate_in (Shared q) = None
gate_in (Limit parent v barred) = None
gate_in (Outside v s) = None
gate_in (Locked locked s) = None
gate_in (Excluded s why) = None
gate_in (Digit s place bit) = None
gate_in (AtLeastOne n s) = None
gate_in (Matches v s) = None

-- the parent and its version set, which keeps out the versions outside it
abbrev pub limit_in : {N S : Type 0} → ProofRule N S → Option (VersionSetId × Option S)
limit_in (Needs parent q case) = None
limit_in (GateOf s q) = None
limit_in (Shared q) = None
limit_in (Limit parent v None) = Some (v, parent)
limit_in (Limit parent v (Some s)) = None
limit_in (Outside v s) = None
limit_in (Locked locked s) = None
limit_in (Excluded s why) = None
limit_in (Digit s place bit) = None
limit_in (AtLeastOne n s) = None
limit_in (Matches v s) = None

-- the solvable outside a version set
abbrev pub outside_in : {N S : Type 0} → ProofRule N S → Option (VersionSetId × S)
outside_in (Needs parent q case) = None
outside_in (GateOf s q) = None
outside_in (Shared q) = None
outside_in (Limit parent v barred) = None
outside_in (Outside v s) = Some (v, s)
outside_in (Locked locked s) = None
outside_in (Excluded s why) = None
outside_in (Digit s place bit) = None
outside_in (AtLeastOne n s) = None
outside_in (Matches v s) = None

-- the version of a digit
abbrev pub instance_in : {N S : Type 0} → ProofRule N S → Option S
instance_in (Needs parent q case) = None
instance_in (GateOf s q) = None
instance_in (Shared q) = None
instance_in (Limit parent v barred) = None
instance_in (Outside v s) = None
instance_in (Locked locked s) = None
instance_in (Excluded s why) = None
instance_in (Digit s place bit) = Some s
instance_in (AtLeastOne n s) = None
instance_in (Matches v s) = None

-- the parents that open the gate of the requirement
abbrev pub requirers : {S : Type 0} → List (Requirement × S) → Requirement → List S
requirers gates q = map (λ g. g.1) (filter (λ g. same_requirement g.0 q) gates)

-- the entries of the version set
abbrev pub under_set : {X : Type 0} → List (VersionSetId × X) → VersionSetId → List X
under_set recorded v = map (λ l. l.1) (filter (λ l. same_set l.0 v) recorded)

-- a parent is linked to each candidate of its requirement, or to none where there is none
abbrev pub needed : {S : Type 0} → Option S → Requirement → List S → List (Link S)
needed parent q [] = Links.Requires parent q None ∷ []
needed parent q (c ∷ cs) = map (λ s. Links.Requires parent q (Some s)) (c ∷ cs)

-- a parent is linked to the solvable that its constraint bars, or to each of these, which are
-- outside its version set
abbrev pub limited : {S : Type 0} → Option S → VersionSetId → List S → Option S → List (Link S)
limited parent v outsiders None = map (λ s. Links.Constrains parent v s) outsiders
limited parent v outsiders (Some s) = Links.Constrains parent v s ∷ []

-- The links of a rule with those that it is drawn together with: the parents that open a
-- requirement's gate, the parents with a version set, and the versions outside one. A digit is
-- linked to the version before it.
module _ {S : Type 0} (offered : Requirement → List S) (parents : Requirement → List S) (limiters : VersionSetId → List (Option S)) (outsiders : VersionSetId → List S) where
  abbrev pub links_at : {N : Type 0} → Option S → ProofRule N S → List (Link S)
  links_at before (Needs parent q case) = needed parent q (offered q)
  links_at before (GateOf s q) = []
  links_at before (Shared q) = flat_map (λ s. needed (Some s) q (offered q)) (parents q)
  links_at before (Limit parent v barred) = limited parent v (outsiders v) barred
  links_at before (Outside v s) = map (λ parent. Links.Constrains parent v s) (limiters v)
  links_at before (Locked locked s) = Links.Locked locked s ∷ []
  links_at before (Excluded s why) = Links.Excluded s why ∷ []
  links_at before (Digit s place bit) = Links.Instance before s ∷ []
  links_at before (AtLeastOne n s) = []
  links_at before (Matches v s) = []

module _ {N S : Type 0} (same_name : N → N → Bool) (package_of : S → N) where
  abbrev pub named : N → Option S → Option S
  named n None = None
  named n (Some s) = cond (same_name (package_of s) n) (Some s) None

  -- the last version of the package that has a digit
  abbrev pub last_instance : List (ProofRule N S) → N → Option S
  last_instance [] n = None
  last_instance (r ∷ rs) n = option_or (last_instance rs n) (named n (instance_in r))

  -- the version of its package before the one whose digit a rule encodes
  abbrev pub before_in : (N → Option S) → ProofRule N S → Option S
  before_in last r = option_and_then (λ s. last (package_of s)) (instance_in r)

  module _ (offered : Requirement → List S) (rules : List (ProofRule N S)) where
    -- the links of the remaining rules, after these
    abbrev pub links_after : List (ProofRule N S) → List (ProofRule N S) → List (Link S)
    links_after earlier [] = []
    links_after earlier (r ∷ rs) = links_at offered (requirers (filter_map gate_in rules)) (under_set (filter_map limit_in rules)) (under_set (filter_map outside_in rules)) (before_in (last_instance earlier) r) r ++ links_after (earlier ++ r ∷ []) rs

    -- the links of all rules, in their order
    unfoldable pub all_links : List (Link S)
    all_links = links_after [] rules

-- the key of a constraint's link: the parent, its version set and the solvable that this keeps out
abbrev pub limited_in : {S : Type 0} → Link S → Option (Option S × VersionSetId × S)
limited_in (Links.Excluded s why) = None
limited_in (Links.Requires parent q candidate) = None
limited_in (Links.Locked locked s) = None
limited_in (Links.Instance before s) = None
limited_in (Links.Constrains parent v s) = Some (parent, v, s)

module _ {S : Type 0} (same : S → S → Bool) where
  -- the link is no constraint's, or its key is not among these
  abbrev pub is_new : List (Option S × VersionSetId × S) → Option (Option S × VersionSetId × S) → Bool
  is_new joined None = true
  is_new joined (Some l) = not (list_any (same_limited same l) joined)

  -- the remaining links, after these keys: of a constraint's links with the same key only the first
  abbrev pub once_after : List (Option S × VersionSetId × S) → List (Link S) → List (Link S)
  once_after joined [] = []
  once_after joined (l ∷ ls) = cond (is_new joined (limited_in l)) (l ∷ once_after (joined ++ option_to_list (limited_in l)) ls) (once_after joined ls)

  -- the links, of a constraint's with the same key only the first
  unfoldable pub each_limit_once : List (Link S) → List (Link S)
  each_limit_once links = once_after [] links
