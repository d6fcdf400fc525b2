-- The texts of variables and clauses.
use Rattle.std.specs.Prelude.{ℕ, ◌++◌, Bool, true, false, List, [], codes, slice_get, Option, Some, None}
use Rattle.std.specs.Fmt.{decimal}
use Rattle.resolvo_pool_core.specs.declared.id.DenseId.{DenseId}
use Rattle.resolvo_pool_core.specs.declared.id.DisjunctionTag.{DisjunctionTag}
use Rattle.resolvo_pool_core.specs.declared.id.StringId.{StringId}
use Rattle.resolvo_pool_core.specs.declared.id.VariableId.{VariableId}
use Rattle.resolvo_pool_core.specs.declared.id.VersionSetId.{VersionSetId}
use Rattle.resolvo_pool_core.specs.declared.id.VersionSetUnionId.{VersionSetUnionId}
use Rattle.resolvo_pool_core.specs.declared.provider.Interner as interner
use Rattle.resolvo_pool_core.specs.declared.requirement.Requirement.{Requirement}
use Rattle.resolvo_pool_core.specs.Text.{set_text, requirement_text}
use Rattle.resolvo_store_core.specs.Signed.{Signed}
use Rattle.resolvo_store_core.specs.declared.store_clause.Clause.{Clause}
use Rattle.resolvo_store_core.specs.declared.store_clause.Clause.TheVariants.{InstallRoot, Requires, ForbidMultipleInstances, Constrains, ConstrainsParent, ConstrainsExcluded, Lock, Learnt, Excluded, AnyOf}
use Rattle.resolvo_store.specs.declared.variable_map.VariableOrigin.{VariableOrigin}
use Rattle.resolvo_store.specs.declared.variable_map.VariableOrigin.TheVariants.{Root, Solvable, ForbidMultiple, AtLeastOne, ConstrainsViolation, RequiresGate, Matches}

-- the meaning of ids, and their texts
pub record Meaning (N S : Type 0) : Type 0 where
  pub name_of : VersionSetId → N
  pub members_of : VersionSetUnionId → List VersionSetId
  pub solvable_text : S → List ℕ
  pub name_text : N → List ℕ
  pub version_set_text : VersionSetId → List ℕ
  pub string_text : StringId → List ℕ

-- the meaning by an interner's members; the last six types are those of its ids' maps and sets
abbrev pub meaning_by : {A N S B C D E F G : Type 0} → interner.Ghosts A N S B C D E F G → A → Meaning N S
meaning_by g i = record {
  name_of = g.name_of_version_set i;
  members_of = g.members_of i;
  solvable_text = g.solvable_text i;
  name_text = g.name_text i;
  version_set_text = g.version_set_text i;
  string_text = g.string_text i;
}

-- the number of a condition's case, if there is a condition
abbrev pub case_words : Option (DenseId DisjunctionTag ℕ) → List ℕ
case_words None = []
case_words (Some d) = codes ", DisjunctionId(" ++ (decimal d.raw ++ codes ")")

module _ {N S : Type 0} (m : Meaning N S) where
  -- a version set: its package's name, a space, and its range
  abbrev pub set_words : VersionSetId → List ℕ
  set_words v = set_text m.name_text m.version_set_text m.name_of v

  abbrev pub requirement_words : Requirement → List ℕ
  requirement_words r = requirement_text set_words m.members_of r

  -- the origin of a variable, if there is one
  abbrev pub origin_words : Option (VariableOrigin N S) → List ℕ
  origin_words None = codes "unknown"
  origin_words (Some Root) = codes "root"
  origin_words (Some (Solvable s)) = m.solvable_text s
  origin_words (Some (ForbidMultiple n)) = codes "forbid-multiple(" ++ (m.name_text n ++ codes ")")
  origin_words (Some (AtLeastOne n)) = codes "any-of(" ++ (m.name_text n ++ codes ")")
  origin_words (Some (ConstrainsViolation v)) = codes "constrains-violation(" ++ (set_words v ++ codes ")")
  origin_words (Some (RequiresGate r)) = codes "requires-gate(" ++ (requirement_words r ++ codes ")")
  origin_words (Some (Matches v)) = codes "matches(" ++ (set_words v ++ codes ")")

  module _ (origins : List (VariableOrigin N S)) where
    -- the origin of the variable, and its number
    abbrev pub variable_words : VariableId → List ℕ
    variable_words v = origin_words (slice_get origins v.0) ++ (codes "(VariableId(" ++ (decimal v.0 ++ codes "))"))

    -- the sign of a literal: nothing, or a word where it is negated
    abbrev pub sign_words : Bool → List ℕ
    sign_words true = codes ""
    sign_words false = codes "not "

    -- a parent, its requirement, and the case of its condition
    abbrev pub need_words : VariableId → Option (DenseId DisjunctionTag ℕ) → Requirement → List ℕ
    need_words p d r = codes "Requires(" ++ (variable_words p ++ (codes ", " ++ (requirement_words r ++ (case_words d ++ codes ")"))))

    -- a variable, a literal, and their package
    abbrev pub forbid_words : VariableId → Signed → N → List ℕ
    forbid_words v l n = codes "ForbidMultipleInstances(" ++ (variable_words v ++ (codes ", " ++ (sign_words l.positive ++ (variable_words l.variable ++ (codes ", " ++ (m.name_text n ++ codes ")"))))))

    -- two variables and their version set
    abbrev pub limit_words : VariableId → VariableId → VersionSetId → List ℕ
    limit_words v w s = codes "(" ++ (variable_words v ++ (codes ", " ++ (variable_words w ++ (codes ", " ++ (m.version_set_text s ++ codes ")")))))

    abbrev pub pair_words : VariableId → VariableId → List ℕ
    pair_words v w = codes "(" ++ (variable_words v ++ (codes ", " ++ (variable_words w ++ codes ")")))

    -- a variable and the reason of its exclusion
    abbrev pub excluded_words : VariableId → StringId → List ℕ
    excluded_words v s = codes "Excluded(" ++ (variable_words v ++ (codes ", " ++ (m.string_text s ++ codes ")")))

    -- the kind of the clause, and its arguments in brackets
    abbrev pub clause_words : Clause N → List ℕ
    clause_words InstallRoot = codes "InstallRoot"
    clause_words (Requires p d r) = need_words p d r
    clause_words (ForbidMultipleInstances v l n) = forbid_words v l n
    clause_words (Constrains p c s) = codes "Constrains" ++ limit_words p c s
    clause_words (ConstrainsParent p x s) = codes "ConstrainsParent" ++ limit_words p x s
    clause_words (ConstrainsExcluded c x s) = codes "ConstrainsExcluded" ++ limit_words c x s
    clause_words (Lock l o) = codes "Lock" ++ pair_words l o
    clause_words (Learnt l) = codes "Learnt(LearntClauseId(" ++ (decimal l.raw ++ codes "))")
    clause_words (Excluded v s) = excluded_words v s
    clause_words (AnyOf x v) = codes "AnyOf" ++ pair_words x v
