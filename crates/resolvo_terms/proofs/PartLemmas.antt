-- What is read of a condition as numbers, part by part, beside what the parser reads.
use Rattle.std.proofs.Common.{◌≡◌, ◌≤◌, ◌<◌, ◌+◌, ◌-◌, ℕ, zero, suc, Bool, true, false, length, Option, Some, None, refl, ap, subst, arith}
use Rattle.std.specs.Prelude.{IfOk, IfSome, Result, Ok, Err, slice_get}
use Rattle.resolvo_text.specs.Line.{Spec, Cond, Is}
use Rattle.resolvo_text.specs.Spelling.{Words}
use Rattle.resolvo_text.specs.declared.line.LineFault.{LineFault}
use Rattle.resolvo_text.specs.declared.line.LineFault.TheVariants.{Fault, Memory}
use Rattle.resolvo_text.specs.declared.condition.Joint.{Joint}
use Rattle.resolvo_text.specs.declared.condition.Joint.TheVariants.{And, Or}
use Rattle.resolvo_text.specs.Parse.{Fails, PartReader, Part, spec_at, skip, word_of, joined, lone_at, parts_at}
use Rattle.resolvo_text.proofs.ConditionLemmas.{goes_on, ends}
use Rattle.resolvo_pool_core.specs.declared.id.ConditionId.{ConditionId}
use Rattle.resolvo_pool_core.specs.declared.condition.Condition.TheVariants.{Binary}
use Rattle.resolvo_terms.specs.Terms.{Terms, IsCondition, IsConditionOf, Grows}
use Rattle.resolvo_terms.specs.TermCounts.{term_count, ids_for_condition, ids_for_any_condition}
use Rattle.resolvo_terms.specs.Reads.{Reads, IsPartRead, operator_of}
use Rattle.resolvo_terms.proofs.GrowLemmas.{condition_stays, condition_within}

-- the part that was read, and the words behind it
pub part_of_read : {B : Type 0} (old new : Terms) (c : ConditionId) (left : ℕ) (b : B) (f : B → Words) (o : Option Part)
    → Reads {X = ConditionId × ℕ × B} (λ x read. IsPartRead old new x.0 x.1 (f x.2) read) (Ok (c, left, b)) o
    → (cond : Cond) × (o ≡ Some (cond, left, f b)) × IsCondition new c cond × (term_count new ≤ term_count old + ids_for_condition cond)
part_of_read old new c left b f (Some y) h = (y.0, rw (h.1, h.2) refl, h.0, h.3)
part_of_read old new c left b f None h = absurd h

-- what holds of the number of an answer
pub numbered_as : {T E : Type 0} (r : Result T LineFault) (s : Result T E) (P Q : T → Type 0) → ((x : T) → P x → Q x) → IfOk r (λ x. s ≡ Ok x) → IfOk s P → IfOk r Q
numbered_as {T} {E} (Ok x) s P Q f given h = f x (subst (λ (z : Result T E). IfOk z P) given h)
numbered_as (Err e) s P Q f given h = tt

-- ---- one SPEC

pub no_room : (room : ℕ) (words : Words) → room ≡ 0 → lone_at room words ≡ None
unfolding lone_at
no_room room words e = rw e refl

pub no_lone : (e : LineFault) (room : ℕ) (words : Words) → 0 < room → Fails e (spec_at words) → Fails e (lone_at room words)
unfolding lone_at
no_lone Fault zero words lt h = absurd (omega arith)
no_lone Fault (suc room) words lt h = rw h refl
no_lone Memory room words lt h = tt

pub lone_of : (room : ℕ) (words : Words) (s : Spec) (after : Words) → 0 < room → spec_at words ≡ Some (s, after) → lone_at room words ≡ Some (Is s, room - 1, after)
unfolding lone_at
lone_of zero words s after lt h = absurd (omega arith)
lone_of (suc room) words s after lt h = let same : room ≡ suc room - 1 = omega arith in rw h (ap (λ (r : ℕ). Some (Is s, r, after)) same)

-- ---- parts that are joined

-- two conditions under a number of their own
pub joined_by : (t u : Terms) (j : Joint) (left right x : ConditionId) (b : Option Cond) (c : Cond) → Grows t u → term_count u ≤ term_count t + 1 → IsConditionOf t (Some left) b → IsCondition t right c
    → slice_get u.conditions x.0 ≡ Some (Binary (operator_of j) left right)
    → IsCondition u x (joined j b c) × (term_count u + ids_for_any_condition b + ids_for_condition c ≤ term_count t + ids_for_condition (joined j b c))
joined_by t u j left right x None c grows few h k e = absurd h
joined_by t u And left right x (Some a) c grows few h k e = ((left, right, e, condition_stays t u grows left a h, condition_stays t u grows right c k), omega (arith, few))
joined_by t u Or left right x (Some a) c grows few h k e = ((left, right, e, condition_stays t u grows left a h, condition_stays t u grows right c k), omega (arith, few))

-- an earlier condition is among the conditions
pub before_within : (t : Terms) (before : Option ConditionId) (cond : Option Cond) → IsConditionOf t before cond → IfSome before (λ c. c.0 < length t.conditions)
before_within t None cond h = tt
before_within t (Some c) None h = absurd h
before_within t (Some c) (Some cond) h = condition_within t c cond h

-- the parts so far are joined, and no more is numbered than they need
pub record HasParts (j : Joint) (part : PartReader) (t : Terms) (start : ℕ) (before : Option ConditionId) (room : ℕ) (rest : Words) (total : Option Part) : Type 0 where
  pub cond : Option Cond
  pub most : ℕ
  pub fits : room ≤ most
  pub is : IsConditionOf t before cond
  pub so_far : parts_at j part most cond room rest ≡ total
  pub few : term_count t ≤ start + ids_for_any_condition cond

module _ (j : Joint) (part : PartReader) (t u w : Terms) (start : ℕ) (before : Option ConditionId) (room : ℕ) (rest : Words) (total : Option Part) (h : HasParts j part t start before room rest total)
    (c : Cond) (left : ℕ) (after : Words) (fewer : left < room) (read : part room rest ≡ Some (c, left, after)) (few : term_count u ≤ term_count t + ids_for_condition c)
    (whole : ConditionId) (joins : IsCondition w whole (joined j h.cond c) × (term_count w + ids_for_any_condition h.cond + ids_for_condition c ≤ term_count u + ids_for_condition (joined j h.cond c)))
    (more : Bool) (others : Words) (skipped : skip (word_of j) after ≡ (more, others)) where
  -- one part more, and a joining word
  pub more_parts : more ≡ true → HasParts j part w start (Some whole) left others total
  more_parts is_more =
      let on = goes_on j part h.most room h.cond rest c left after more others total h.fits fewer read skipped is_more h.so_far in
      record {
        cond = Some (joined j h.cond c);
        most = on.0;
        fits = on.1;
        is = joins.0;
        so_far = on.2;
        few = omega (arith, h.few, few, joins.1);
      }

  -- the last part
  pub all_parts : more ≡ false → (total ≡ Some (joined j h.cond c, left, others)) × IsCondition w whole (joined j h.cond c) × (term_count w ≤ start + ids_for_condition (joined j h.cond c))
  all_parts is_end = (ends j part h.most room h.cond rest c left after more others total h.fits fewer read skipped is_end h.so_far, joins.0, omega (arith, h.few, few, joins.1))

-- ---- the whole condition

-- the condition that was read
pub condition_read : (t : Terms) (start : ℕ) (c : Option ConditionId) (o : Option (Option Cond)) → Reads (λ x read. IsConditionOf t x read × (term_count t ≤ start + ids_for_any_condition read)) (Ok c) o
    → (cond : Option Cond) × (o ≡ Some cond) × IsConditionOf t c cond × (term_count t ≤ start + ids_for_any_condition cond)
condition_read t start c (Some y) h = (y, refl, h.0, h.1)
condition_read t start c None h = absurd h
