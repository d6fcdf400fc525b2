use Rattle.std.proofs.Common.{◌≡◌, ◌∙◌, ◌+◌, ◌∷◌, ◌++◌, [], ℕ, List, map, length, ap, sym, subst, arith}
use Rattle.resolvo_terms.specs.declared.text_list.Bounds.{Bounds}
use Rattle.resolvo_terms.specs.Texts.{AreTexts, text_between}
use Rattle.resolvo_terms.proofs.TextLemmas.{texts_push, are_texts_push}
use Rattle.resolvo_terms.proofs.text_list.TextList.push.Goals as goal

pub invariant_of-self-2 : goal.invariant_of-self-2
invariant_of-self-2 c =
    let b : Bounds = record { begin = c.len-begin.result; end = c.in_ok-end.end } in
    let begin : c.len-begin.result ≡ length c.self.inside.bytes.items = omega (arith, c.self.inside.bytes.ok, c.len-begin.ensures) in
    let end : c.in_ok-end.end ≡ length c.self.inside.bytes.items + length c.args.text.now = omega (arith, c.self.inside.bytes.ok, c.len-begin.ensures, c.in_ok-end.ensures) in
    let all : c.extend_from_slice.new.self.items ≡ c.self.inside.bytes.items ++ c.args.text.now = c.in_ok-extend_from_slice.ensures.items in
    let bounds : c.push_reserved.new.self.items ≡ c.self.inside.bounds.items ++ b ∷ [] = c.push_reserved.ensures.items ∙ ap (λ (xs : List Bounds). xs ++ b ∷ []) c.in_ok-reserve.ensures.items in
    subst (λ (xs : List ℕ). AreTexts xs c.push_reserved.new.self.items) (sym all)
    (subst (λ (xs : List Bounds). AreTexts (c.self.inside.bytes.items ++ c.args.text.now) xs) (sym bounds)
    (are_texts_push c.self.inside.bytes.items c.args.text.now c.self.inside.bounds.items b c.self.invariant begin end c.requires))

pub returns-clause-added : goal.returns-clause-added
returns-clause-added c =
    let b : Bounds = record { begin = c.len-begin.result; end = c.in_ok-end.end } in
    let begin : c.len-begin.result ≡ length c.self.inside.bytes.items = omega (arith, c.self.inside.bytes.ok, c.len-begin.ensures) in
    let end : c.in_ok-end.end ≡ length c.self.inside.bytes.items + length c.args.text.now = omega (arith, c.self.inside.bytes.ok, c.len-begin.ensures, c.in_ok-end.ensures) in
    let all : c.extend_from_slice.new.self.items ≡ c.self.inside.bytes.items ++ c.args.text.now = c.in_ok-extend_from_slice.ensures.items in
    let bounds : c.push_reserved.new.self.items ≡ c.self.inside.bounds.items ++ b ∷ [] = c.push_reserved.ensures.items ∙ ap (λ (xs : List Bounds). xs ++ b ∷ []) c.in_ok-reserve.ensures.items in
    ap (λ (xs : List ℕ). map (text_between xs) c.push_reserved.new.self.items) all
    ∙ ap (λ (xs : List Bounds). map (text_between (c.self.inside.bytes.items ++ c.args.text.now)) xs) bounds
    ∙ texts_push c.self.inside.bytes.items c.args.text.now c.self.inside.bounds.items b c.self.invariant begin end
    ∙ ap (λ (ts : List (List ℕ)). ts ++ c.args.text.now ∷ []) c.self.view_is
