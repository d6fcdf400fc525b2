-- The literals of two lists, one after the other.
use Rattle.std.proofs.Common.{◌≡◌, ℕ, ◌+◌, Bool, false, List, ◌++◌, inl, inr, arith}
use Rattle.std.specs.Prelude.{slice_index_or}
use Rattle.std.proofs.lemmas.Bool.{both_ways}
use Rattle.resolvo_store_core.specs.Signed.{Signed}
use Rattle.resolvo_sat.specs.Analysis.{Seen, Collects, MarksAtMost}
use Rattle.resolvo_sat.proofs.Literals.{has-append, has_left, has_right}
use Rattle.resolvo_sat.proofs.Trails.{false_unless}

-- what is marked by one list, and then by the other
pub seen_both : (xs ys : List Signed) (old mid new : List Bool) → Seen xs old mid → Seen ys mid new → Seen (xs ++ ys) old new
seen_both xs ys old mid new first second = record {
  keeps = λ v h. second.keeps v (first.keeps v h);
  takes = λ l h. elim (has-append xs ys l h) [
    | inl a ↦ elim (first.takes l a) [ inl root ↦ inl root | inr marked ↦ inr (second.keeps l.variable.0 marked) ]
    | inr b ↦ second.takes l b
  ];
  only = λ v h. elim (second.only v h) [
    | inl earlier ↦ elim (first.only v earlier) [ inl before ↦ inl before | inr a ↦ inr (a.0, (a.1.0, has_left xs ys a.1.0 a.1.1, a.1.2)) ]
    | inr b ↦ inr (b.0, (b.1.0, has_right xs ys b.1.0 b.1.1, b.1.2))
  ];
}

-- what is met by one list, and then by the other
pub collects_both : (xs ys : List Signed) (old mid new : List Bool) (earlier some met : List Signed) → Seen xs old mid → Collects xs old earlier mid some → Collects ys mid some new met → Collects (xs ++ ys) old earlier new met
collects_both xs ys old mid new earlier some met marks first second = record {
  keeps = λ l h. second.keeps l (first.keeps l h);
  covers = λ v h. elim (second.covers v h) [
    | inl marked ↦ elim (first.covers v marked) [ inl before ↦ inl before | inr a ↦ inr (a.0, second.keeps a.0 a.1, a.2) ]
    | inr b ↦ inr b
  ];
  only = λ l h. elim (second.only l h) [
    | inl a ↦ elim (first.only l a) [ inl before ↦ inl before | inr x ↦ inr (has_left xs ys l x.0, x.1) ]
    | inr b ↦ inr (
      has_right xs ys l b.0,
      elim b.1 [
        | inl root ↦ inl root
        | inr unmarked ↦ inr (false_unless (slice_index_or old l.variable.0 false) (λ m. both_ways (slice_index_or mid l.variable.0 false) unmarked (marks.keeps l.variable.0 m)))
      ],
    )
  ];
}

-- how many are marked by both
pub marks_both : (n m all : ℕ) (old mid new : List Bool) → all ≡ n + m → MarksAtMost n old mid → MarksAtMost m mid new → MarksAtMost all old new
marks_both n m all old mid new sum first second count cs h t = omega (arith, first count cs h t, second count cs h t, sum)
