-- The matches of a case's version sets, one after the other.
use Rattle.std.proofs.Common.{◌≡◌, Bool, true, List, [], ◌∷◌, ◌++◌, refl, sym, ◌∙◌, ap, subst}
use Rattle.std.specs.Prelude.{Contains}
use Rattle.std.specs.List.{AllByRecursion}
use Rattle.std.proofs.lemmas.List.{map-append}
use Rattle.resolvo_pool_core.specs.declared.id.VersionSetId.{VersionSetId}
use Rattle.resolvo_pool_core.specs.RuleKeeping.{is_many}
use Rattle.resolvo_sat.proofs.Lists.{contains_only, contains_left, contains_right}
use Rattle.resolvo_encoder.specs.declared.conditions.ConditionSet.{ConditionSet}
use Rattle.resolvo_encoder.specs.declared.encoder.Encoder.{Encoder}
use Rattle.resolvo_encoder.specs.AtLeastOneClauses.{HoldsMatches}
use Rattle.resolvo_encoder.specs.Cases.{sets_case, IsSet}
use Rattle.resolvo_encoder.specs.Steps.{IsBuilt}
use Rattle.resolvo_encoder.proofs.RequireLemmas.{extends_then, extends_same}
use Rattle.resolvo_turn.specs.Matches.{MatchesSets}

all_parts : {X : Type 0} (P : X → Type 0) (xs ys : List X) → AllByRecursion P (xs ++ ys) → AllByRecursion P xs × AllByRecursion P ys
all_parts P [] ys h = (tt, h)
all_parts P (x ∷ xs) ys (a, h) = let (b, c) = all_parts P xs ys h in ((a, b), c)

module _ {N S : Type 0} (same : S → S → Bool) where
  pub sets_none : (xs : List (ConditionSet N S)) (e : Encoder N S) → IsBuilt e → MatchesSets same xs e e
  sets_none xs e built = record { built = built; extends = extends_same e; lists = refl; encoding = λ p root lawful holds sets of. holds }

  -- one whose package is marked
  pub set_held : (set : ConditionSet N S) (a b : Encoder N S) → set.many ≡ true → HoldsMatches same set.version_set set.matching.items a b → MatchesSets same (set ∷ []) a b
  set_held set a b many holds = record {
    built = holds.built;
    extends = holds.extends;
    lists = holds.lists;
    encoding = λ p root lawful e sets of.
        let is_set : IsSet same p set = sets.0 in
        holds.encoding p root lawful e (is_set.matching many) (sym (is_set.mark ∙ ap (is_many p) is_set.named) ∙ many) (of set.version_set (contains_only set.version_set));
  }

  pub sets_more : (xs : List (ConditionSet N S)) (set : ConditionSet N S) (a b c : Encoder N S) → MatchesSets same xs a b → MatchesSets same (set ∷ []) b c → MatchesSets same (xs ++ set ∷ []) a c
  sets_more xs set a b c f g = record {
    built = g.built;
    extends = extends_then a b c f.extends g.extends;
    lists = g.lists ∙ f.lists;
    encoding = λ p root lawful e sets of.
        let (before, own) = all_parts (IsSet same p) xs (set ∷ []) sets in
        let middle = f.encoding p root lawful e before (λ v h. of v (among v (contains_left v (sets_case xs) (set.version_set ∷ []) h))) in
        g.encoding p root lawful middle own (λ v h. of v (among v (contains_right v (sets_case xs) (set.version_set ∷ []) h)));
  }
    where
      among : (v : VersionSetId) → Contains (sets_case xs ++ set.version_set ∷ []) v → Contains (sets_case (xs ++ set ∷ [])) v
      among v h = subst (λ vs. Contains vs v) (sym (map-append (λ (x : ConditionSet N S). x.version_set) xs (set ∷ []))) h
