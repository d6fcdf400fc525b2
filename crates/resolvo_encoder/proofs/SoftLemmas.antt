-- The turn of a soft requirement.
use Rattle.std.proofs.Common.{◌≡◌, ℕ, inl, inr, Bool, false, List, Option, Some, None, refl, sym}
use Rattle.std.proofs.lemmas.Bool.{cases_Bool}
use Rattle.resolvo_pool_core.specs.declared.id.VariableId.{VariableId}
use Rattle.resolvo_pool_core.specs.OnePass.{Literal}
use Rattle.resolvo_pool_core.specs.RuleKeeping.{Packages, Rules}
use Rattle.resolvo_store_core.specs.Signed.{has}
use Rattle.resolvo_store_core.specs.Clauses.{yes, no}
use Rattle.resolvo_sat.specs.declared.analyze.FinalConflict.{FinalConflict}
use Rattle.resolvo_sat.specs.declared.state.SatState.{SatState}
use Rattle.resolvo_sat.specs.Analysis.{IsRefuted}
use Rattle.resolvo_sat.specs.Entries.{made_true}
use Rattle.resolvo_sat.specs.Known.{IsUndecided}
use Rattle.resolvo_sat.specs.State.{history}
use Rattle.resolvo_sat.specs.RuleClauses.{IsExact, Atom}
use Rattle.resolvo_sat.specs.Numbered.{meaning}
use Rattle.resolvo_sat.proofs.Members.{contained_in}
use Rattle.resolvo_state.specs.Atoms.{origin}
use Rattle.resolvo_state.specs.SolverState.{IsCoding}
use Rattle.resolvo_state.specs.Registered.{AreTied}
use Rattle.resolvo_state.proofs.Origins.{solvable_means}
use Rattle.resolvo_encoder.specs.declared.encoder.Encoder.{Encoder}
use Rattle.resolvo_encoder.specs.Encoded.{IsChosenFor, IsEncoding}
use Rattle.resolvo_encoder.specs.Steps.{IsBuilt}
use Rattle.resolvo_encoder.specs.SoftRequirement.{IsSoft}

-- ---- a turn's first level

-- the encoding with another first level of its turn
abbrev pub floored : {N S : Type 0} → Encoder N S → ℕ → Encoder N S
floored e level = record e { coding = record e.coding { search = record e.coding.search { base_level = level } } }

retied : {N S : Type 0} (e : Encoder N S) (level : ℕ) → AreTied e.registry e.coding → AreTied e.registry (floored e level).coding
retied e level h = record {
  each = h.each;
  once = h.once;
  tied = λ k name t a b. (let i = h.tied k name t a b in record { solvables = i.solvables; digits = i.digits; room = i.room; few = i.few; once = i.once; by_digits = i.by_digits });
  placed = λ n name s place bit at. (let i = h.placed n name s place bit at in record { number = i.number; tracker = i.tracker; variable = i.variable; named = i.named; tracked = i.tracked; present = i.present; means = i.means });
  within = h.within;
  solvables = h.solvables;
  registered = h.registered;
  rest = h.rest;
}

pub floor_built : {N S : Type 0} (e : Encoder N S) (level : ℕ) → IsCoding (floored e level).coding → IsBuilt e → IsBuilt (floored e level)
floor_built e level coding b = record { coding = coding; tied = retied e level b.tied; candidates = b.candidates; gates = b.gates; within = b.within; clauses = b.clauses; queue = b.queue; seen = b.seen }

-- it still satisfies the invariant
pub floor_keeps : {N S : Type 0} (same : S → S → Bool) (p : Packages N S) (root : Rules) (e : Encoder N S) (level : ℕ) → IsCoding (floored e level).coding → IsEncoding same p root e → IsEncoding same p root (floored e level)
floor_keeps same p root e level coding h = record {
  coding = coding;
  tied = retied e level h.tied;
  spelled = h.spelled;
  rule = h.rule;
  positive = h.positive;
  named = h.named;
  candidates = h.candidates;
  listed = λ q c a. (let (s, fits, m) = h.listed q c a in (s, record { positive = fits.positive; present = fits.present; tracked = fits.tracked }, m));
  offered = λ q s k m. (let (c, a, fits) = h.offered q s k m in (c, a, record { positive = fits.positive; present = fits.present; tracked = fits.tracked }));
  fixed = h.fixed;
  queued = h.queued;
  asked = h.asked;
  gates = h.gates;
  forbid = h.forbid;
  recorded = record { packages = h.recorded.packages; version_sets = h.recorded.version_sets; matches = h.recorded.matches };
  marks = record { right = h.marks.right; registered = h.marks.registered; recorded = h.marks.recorded };
  cases = record { waiting = h.cases.waiting; places = h.cases.places; fired = h.cases.fired; cased = h.cases.cased; at_least_one = h.cases.at_least_one; there = h.cases.there };
  within = h.within;
  encoded = λ i parent below at. (let k = h.encoded i parent below at in record { needs = k.needs; limits = k.limits; guarded = k.guarded; unknown = k.unknown });
  wished = h.wished;
  called = h.called;
}

-- ---- the decision of a soft requirement

-- a variable that is neither true nor refuted is undecided
pub open_soft : (s : SatState) (v : VariableId) (o : Option FinalConflict) → IsRefuted s v o → o ≡ None → has (made_true (history s)) (yes v) ≡ false → IsUndecided (made_true (history s)) (yes v)
open_soft s v None unfalse is open_one = record { not_true = open_one; not_false = elim (cases_Bool (has (made_true (history s)) (no v))) [ inl t ↦ absurd (unfalse t) | inr f ↦ f ] }
open_soft s v (Some r) refuted is open_one = absurd cc

-- a soft requirement justifies its own decision
pub soft_chosen : {N S : Type 0} (same : S → S → Bool) → IsExact same → (p : Packages N S) (e : Encoder N S) (v : VariableId) (known : List (Literal (Atom N S))) → IsSoft e v → IsChosenFor same p e known (meaning (origin e.coding.atoms.keys) (yes v))
soft_chosen same exact p e v known w = inl (record {
  solvable = w.solvable;
  is = sym (solvable_means e.coding.atoms.keys (yes v) w.solvable refl w.present).1;
  wished = contained_in same exact p e.recorded.softs.items w.solvable w.wished;
})
