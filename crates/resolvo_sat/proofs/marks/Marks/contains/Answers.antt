use Rattle.std.proofs.Common.{◌<◌, ◌≤◌, ◌==◌, ℕ, List, Bool, false, length, sym, ◌∙◌, ap, arith, le-ltb}
use Rattle.std.specs.Prelude.{slice_index_or}
use Rattle.resolvo_sat.proofs.FlagLemmas.{flag_at, flag_past}
use Rattle.resolvo_sat.proofs.marks.Marks.contains.Goals as goal

pub returns-then-index-len : goal.returns-then-index-len
returns-then-index-len c =
    let n : ℕ = c.self.inside.walk in
    let ks : List ℕ = c.self.inside.walks.items in
    let i : ℕ = c.to_index-index.result in
    let inside : i < length ks = omega (arith, c.if-index-len.true, c.len.ensures, c.self.inside.walks.ok.0) in
    ap (λ (k : ℕ). k == n) c.index.ensures ∙ sym (flag_at n ks i c.index.result.now inside)
    ∙ ap (λ (fs : List Bool). slice_index_or fs i false) c.self.view_is ∙ ap (λ (v : ℕ). slice_index_or c.args.self.now v false) c.to_index-index.ensures.index

pub returns-else-index-len : goal.returns-else-index-len
returns-else-index-len c =
    let n : ℕ = c.self.inside.walk in
    let ks : List ℕ = c.self.inside.walks.items in
    let i : ℕ = c.to_index-index.result in
    let past : length ks ≤ i = omega (arith, c.if-index-len.false, c.len.ensures, c.self.inside.walks.ok.0) in
    le-ltb i c.len.result c.if-index-len.false ∙ sym (flag_past n ks i past)
    ∙ ap (λ (fs : List Bool). slice_index_or fs i false) c.self.view_is ∙ ap (λ (v : ℕ). slice_index_or c.args.self.now v false) c.to_index-index.ensures.index
