use Rattle.std.proofs.Common.{◌≡◌, ◌∙◌, ◌+◌, ◌∷◌, ◌++◌, [], List, map, length, ap, sym, subst, arith}
use Rattle.resolvo_pool_core.specs.declared.id.VersionSetId.{VersionSetId}
use Rattle.resolvo_terms.specs.declared.set_lists.Part.{Part}
use Rattle.resolvo_terms.specs.Lists.{AreParts, part_of}
use Rattle.resolvo_terms.proofs.ListLemmas.{parts_push, are_parts_push}
use Rattle.resolvo_terms.proofs.set_lists.SetLists.push.Goals as goal

pub invariant_of-self-2 : goal.invariant_of-self-2
invariant_of-self-2 c =
    let p : Part = record { begin = c.len-begin.result; end = c.in_ok-end.end } in
    let begin : c.len-begin.result ≡ length c.self.inside.members.items = omega (arith, c.self.inside.members.ok, c.len-begin.ensures) in
    let end : c.in_ok-end.end ≡ length c.self.inside.members.items + length c.args.list.now = omega (arith, c.self.inside.members.ok, c.len-begin.ensures, c.in_ok-end.ensures) in
    let parts : c.push_reserved.new.self.items ≡ c.self.inside.parts.items ++ p ∷ [] = c.push_reserved.ensures.items ∙ ap (λ (xs : List Part). xs ++ p ∷ []) c.in_ok-reserve.ensures.items in
    subst (λ (xs : List VersionSetId). AreParts xs c.push_reserved.new.self.items) (sym c.in_ok-extend_from_slice.ensures.items)
    (subst (λ (xs : List Part). AreParts (c.self.inside.members.items ++ c.args.list.now) xs) (sym parts)
    (are_parts_push c.self.inside.members.items c.args.list.now c.self.inside.parts.items p c.self.invariant begin end))

pub returns-clause-added : goal.returns-clause-added
returns-clause-added c =
    let p : Part = record { begin = c.len-begin.result; end = c.in_ok-end.end } in
    let begin : c.len-begin.result ≡ length c.self.inside.members.items = omega (arith, c.self.inside.members.ok, c.len-begin.ensures) in
    let end : c.in_ok-end.end ≡ length c.self.inside.members.items + length c.args.list.now = omega (arith, c.self.inside.members.ok, c.len-begin.ensures, c.in_ok-end.ensures) in
    let parts : c.push_reserved.new.self.items ≡ c.self.inside.parts.items ++ p ∷ [] = c.push_reserved.ensures.items ∙ ap (λ (xs : List Part). xs ++ p ∷ []) c.in_ok-reserve.ensures.items in
    ap (λ (xs : List VersionSetId). map (part_of xs) c.push_reserved.new.self.items) c.in_ok-extend_from_slice.ensures.items
    ∙ ap (λ (xs : List Part). map (part_of (c.self.inside.members.items ++ c.args.list.now)) xs) parts
    ∙ parts_push c.self.inside.members.items c.args.list.now c.self.inside.parts.items p c.self.invariant begin end
    ∙ ap (λ (ts : List (List VersionSetId)). ts ++ c.args.list.now ∷ []) c.self.view_is
