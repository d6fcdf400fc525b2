-- Conditions, one part after the other.
use Rattle.std.proofs.Common.{◌≡◌, ℕ, zero, suc, ◌-◌, ◌<◌, ◌≤◌, Bool, true, false, List, Option, Some, None, refl, sym, ap, ◌∙◌, arith}
use Rattle.std.specs.Prelude.{codes}
use Rattle.resolvo_text.specs.Line.{Cond}
use Rattle.resolvo_text.specs.Spelling.{Words}
use Rattle.resolvo_text.specs.declared.condition.Joint.{Joint}
use Rattle.resolvo_text.specs.declared.condition.Joint.TheVariants.{And, Or}
use Rattle.resolvo_text.specs.declared.line.LineFault.{LineFault}
use Rattle.resolvo_text.specs.declared.line.LineFault.TheVariants.{Fault, Memory}
use Rattle.resolvo_text.specs.Parse.{◌>>=◌, Fails, PartReader, Part, skip, word_of, joined, closed, lone_at, atom_with, parts_at, parts_with, group_at, atom_at, part_at, joined_at}

-- The readers of conditions call one another, at each depth from the looser to the tighter.
abbrev pub rank : Joint → ℕ
rank And = 1
rank Or = 3

module _ (j : Joint) (part : PartReader) where
  pub goes_on : (n room : ℕ) (before : Option Cond) (words : Words) (c : Cond) (left : ℕ) (after : Words) (more : Bool) (others : Words) (total : Option Part) → room ≤ n → left < room
      → part room words ≡ Some (c, left, after) → skip (word_of j) after ≡ (more, others) → more ≡ true → parts_at j part n before room words ≡ total
      → (m : ℕ) × (left ≤ m) × (parts_at j part m (Some (joined j before c)) left others ≡ total)
  unfolding parts_at
  goes_on zero room before words c left after more others total le fewer h skipped is_more so_far = absurd (omega arith)
  goes_on (suc n) room before words c left after more others total le fewer h skipped is_more so_far =
      let one : parts_at j part (suc n) before room words ≡ parts_at j part n (Some (joined j before c)) left others = rw (h, skipped, is_more) refl in
      (n, omega arith, sym one ∙ so_far)

  pub ends : (n room : ℕ) (before : Option Cond) (words : Words) (c : Cond) (left : ℕ) (after : Words) (more : Bool) (others : Words) (total : Option Part) → room ≤ n → left < room
      → part room words ≡ Some (c, left, after) → skip (word_of j) after ≡ (more, others) → more ≡ false → parts_at j part n before room words ≡ total
      → total ≡ Some (joined j before c, left, others)
  unfolding parts_at
  ends zero room before words c left after more others total le fewer h skipped is_end so_far = absurd (omega arith)
  ends (suc n) room before words c left after more others total le fewer h skipped is_end so_far =
      let one : parts_at j part (suc n) before room words ≡ Some (joined j before c, left, others) = rw (h, skipped, is_end) refl in
      sym so_far ∙ one

  fails : (n room : ℕ) (before : Option Cond) (words : Words) (total : Option Part) → part room words ≡ None → parts_at j part n before room words ≡ total → total ≡ None
  unfolding parts_at
  fails zero room before words total h so_far = sym so_far
  fails (suc n) room before words total h so_far =
      let one : parts_at j part (suc n) before room words ≡ None = rw h refl in
      sym so_far ∙ one

  pub fails_so : (e : LineFault) (n room : ℕ) (before : Option Cond) (words : Words) (total : Option Part) → Fails e (part room words) → parts_at j part n before room words ≡ total → Fails e total
  fails_so Fault n room before words total h so_far = fails n room before words total h so_far
  fails_so Memory n room before words total h so_far = tt

-- ---- one part

-- a part without an opening parenthesis, and with one
pub lone : (depth room : ℕ) (words : Words) (opens : Bool) (inside : Words) → (opens, inside) ≡ skip (codes "(") words → opens ≡ false → atom_at depth room words ≡ lone_at room words
unfolding atom_at atom_with
lone depth room words opens inside is none = rw (sym is, none) refl

group : (depth room : ℕ) (words : Words) (opens : Bool) (inside : Words) → (opens, inside) ≡ skip (codes "(") words → opens ≡ true
    → atom_at depth room words ≡ (group_at depth room inside >>= λ x. closed x)
unfolding atom_at atom_with
group depth room words opens inside is opened = rw (sym is, opened) refl

no_group : (depth room : ℕ) (words : Words) → depth ≡ 0 → group_at depth room words ≡ None
unfolding group_at
no_group depth room words e = rw e refl

pub group_is : (depth room : ℕ) (words : Words) → group_at (suc depth) room words ≡ joined_at Or depth room words
unfolding group_at joined_at part_at atom_at
group_is depth room words = refl

group_below : (depth room : ℕ) (words : Words) → 0 < depth → group_at depth room words ≡ joined_at Or (depth - 1) room words
group_below zero room words lt = absurd (omega arith)
group_below (suc depth) room words lt = let same : depth ≡ suc depth - 1 = omega arith in group_is depth room words ∙ ap (λ (d : ℕ). joined_at Or d room words) same

pub too_deep : (depth room : ℕ) (words : Words) (opens : Bool) (inside : Words) → (opens, inside) ≡ skip (codes "(") words → opens ≡ true → depth ≡ 0 → atom_at depth room words ≡ None
too_deep depth room words opens inside is opened e = group depth room words opens inside is opened ∙ ap (λ (o : Option Part). o >>= λ x. closed x) (no_group depth room inside e)

group_of : (depth room : ℕ) (words : Words) (opens : Bool) (inside : Words) → (opens, inside) ≡ skip (codes "(") words → opens ≡ true → 0 < depth
    → atom_at depth room words ≡ (joined_at Or (depth - 1) room inside >>= λ x. closed x)
group_of depth room words opens inside is opened lt = group depth room words opens inside is opened ∙ ap (λ (o : Option Part). o >>= λ x. closed x) (group_below depth room inside lt)

pub group_fails : (e : LineFault) (depth room : ℕ) (words : Words) (opens : Bool) (inside : Words) → (opens, inside) ≡ skip (codes "(") words → opens ≡ true → 0 < depth
    → Fails e (joined_at Or (depth - 1) room inside) → Fails e (atom_at depth room words)
group_fails Fault depth room words opens inside is opened lt h = group_of depth room words opens inside is opened lt ∙ ap (λ (o : Option Part). o >>= λ x. closed x) h
group_fails Memory depth room words opens inside is opened lt h = tt

pub group_unclosed : (depth room : ℕ) (words : Words) (opens : Bool) (inside : Words) (c : Cond) (left : ℕ) (after : Words) (closes : Bool) (rest : Words) → (opens, inside) ≡ skip (codes "(") words → opens ≡ true → 0 < depth
    → joined_at Or (depth - 1) room inside ≡ Some (c, left, after) → (closes, rest) ≡ skip (codes ")") after → closes ≡ false → atom_at depth room words ≡ None
group_unclosed depth room words opens inside c left after closes rest is opened lt read closing none =
    group_of depth room words opens inside is opened lt ∙ ap (λ (o : Option Part). o >>= λ x. closed x) read ∙ rw (sym closing, none) refl

pub group_closed : (depth room : ℕ) (words : Words) (opens : Bool) (inside : Words) (c : Cond) (left : ℕ) (after : Words) (closes : Bool) (rest : Words) → (opens, inside) ≡ skip (codes "(") words → opens ≡ true → 0 < depth
    → joined_at Or (depth - 1) room inside ≡ Some (c, left, after) → (closes, rest) ≡ skip (codes ")") after → closes ≡ true → atom_at depth room words ≡ Some (c, left, rest)
group_closed depth room words opens inside c left after closes rest is opened lt read closing shut =
    group_of depth room words opens inside is opened lt ∙ ap (λ (o : Option Part). o >>= λ x. closed x) read ∙ rw (sym closing, shut) refl

-- ---- parts that are joined

pub from_none : (j : Joint) (depth room : ℕ) (words : Words) → parts_at j (part_at j depth) room None room words ≡ joined_at j depth room words
unfolding joined_at parts_with
from_none j depth room words = refl

-- the word that was looked for is the joining one
pub skipped_by : (after : Words) (k word : List ℕ) {found : Bool × Words} → k ≡ word → found ≡ skip k after → skip word after ≡ found
skipped_by after k word same is = ap (λ (w : List ℕ). skip w after) (sym same) ∙ sym is

pub joined_is : (depth room : ℕ) (words : Words) → joined_at Or depth room words ≡ parts_with Or (parts_with And (atom_with (group_at depth))) room words
unfolding joined_at part_at atom_at
joined_is depth room words = refl
