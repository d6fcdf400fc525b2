-- The value of an id is kept, whatever else is interned.
use Rattle.std.proofs.Common.{◌≡◌, ℕ, List, sym, subst, ◌∙◌, Some}
use Rattle.std.specs.Prelude.{Option, slice_get}
use Rattle.resolvo_text.specs.Line.{Spec, Cond}
use Rattle.resolvo_pool_core.specs.declared.id.VersionSetId.{VersionSetId}
use Rattle.resolvo_pool_core.specs.declared.requirement.ConditionalRequirement.{ConditionalRequirement}
use Rattle.resolvo_intern.specs.declared.pool.Solvable.{Solvable}
use Rattle.resolvo_terms.specs.Terms.{AreEach, Grows as TermsGrow, LacksNumber as LacksTerm}
use Rattle.resolvo_terms.proofs.GrowLemmas as numbered
use Rattle.resolvo_catalogue.specs.Ids.{Ids, terms_of, IsSpec, IsNeed, Grows, Interns, LacksNumber}

pub grows_on : (a b c : Ids) → Grows a b → Grows b c → Grows a c
grows_on a b c g h = record {
  names = λ k x e. h.names k x (g.names k x e);
  words = λ k x e. h.words k x (g.words k x e);
  solvables = λ k x e. h.solvables k x (g.solvables k x e);
  version_sets = λ k x e. h.version_sets k x (g.version_sets k x e);
  unions = λ k x e. h.unions k x (g.unions k x e);
  conditions = λ k x e. h.conditions k x (g.conditions k x e);
}

pub interns_on : (a b c : Ids) → Interns a b → Interns b c → Interns a c
interns_on a b c g h = record { grows = grows_on a b c g.grows h.grows; same = h.same ∙ g.same }

-- the same of the ids without the solvables
terms_grow : (a b : Ids) → Grows a b → TermsGrow (terms_of a) (terms_of b)
terms_grow a b g = record { names = g.names; words = g.words; version_sets = g.version_sets; unions = g.unions; conditions = g.conditions }

pub interns_by : (a b : Ids) → TermsGrow (terms_of a) (terms_of b) → b.solvables ≡ a.solvables → Interns a b
interns_by a b g same = record {
  grows = record { names = g.names; words = g.words; solvables = λ k x e. subst (λ (ss : List (Solvable ℕ)). slice_get ss k ≡ Some x) (sym same) e; version_sets = g.version_sets; unions = g.unions; conditions = g.conditions };
  same = same;
}

pub lacks_by : (ids : Ids) → LacksTerm (terms_of ids) → LacksNumber ids
lacks_by ids (LacksTerm.names few) = LacksNumber.names few
lacks_by ids (LacksTerm.words few) = LacksNumber.words few
lacks_by ids (LacksTerm.version_sets few) = LacksNumber.version_sets few
lacks_by ids (LacksTerm.unions few) = LacksNumber.unions few
lacks_by ids (LacksTerm.conditions few) = LacksNumber.conditions few

module _ (a b : Ids) (grows : Grows a b) where
  pub specs_stay : (vs : List VersionSetId) (ss : List Spec) → AreEach (IsSpec a) vs ss → AreEach (IsSpec b) vs ss
  specs_stay vs ss h = numbered.specs_stay (terms_of a) (terms_of b) (terms_grow a b grows) vs ss h

  pub needs_stay : (needs : List ConditionalRequirement) (written : List (List Spec × Option Cond)) → AreEach (IsNeed a) needs written → AreEach (IsNeed b) needs written
  needs_stay needs written h = numbered.needs_stay (terms_of a) (terms_of b) (terms_grow a b grows) needs written h
