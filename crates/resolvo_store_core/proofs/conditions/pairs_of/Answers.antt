use Rattle.std.proofs.Common.{◌≡◌, ◌+◌, List, [], ◌∷◌, ◌++◌, map, take, get_or, sym, ap, ◌∙◌}
use Rattle.std.specs.Global.{Vec}
use Rattle.std.proofs.lemmas.List.{map_more, map-append}
use Rattle.resolvo_pool_core.specs.declared.id.VersionSetId.{VersionSetId}
use Rattle.resolvo_store_core.specs.Cases.{cases_of, pairs}
use Rattle.resolvo_store_core.proofs.CaseLaws.{pairs_more}
use Rattle.resolvo_store_core.proofs.conditions.pairs_of.Goals as goal

pub loop-case-preserved : goal.loop-case-preserved
loop-case-preserved c =
    let left = c.args.left.now in
    let right = cases_of c.args.right.now in
    let i = c.loop-case.case-index in
    let case = c.case-item.result in
    let item : c.deref.result.now ≡ (get_or left i case).items = c.deref.ensures.value ∙ ap (λ (v : Vec VersionSetId). v.items) c.case-item.is in
    let paired : cases_of c.in_ok-paired.paired.items ≡ map (λ r. (get_or left i case).items ++ r) right = c.in_ok-paired.ensures.cases ∙ ap (λ (l : List VersionSetId). map (λ r. l ++ r) right) item in
    let more : cases_of (take (i + 1) left) ≡ cases_of (take i left) ++ (get_or left i case).items ∷ [] = map_more (λ (v : Vec VersionSetId). v.items) left i case c.loop-case-test.true in
    ap cases_of c.in_ok-append.ensures.items ∙ map-append (λ (v : Vec VersionSetId). v.items) c.loop-case.all.items c.in_ok-paired.paired.items
    ∙ ap (λ (cs : List (List VersionSetId)). cs ++ cases_of c.in_ok-paired.paired.items) c.loop-case.invariant
    ∙ ap (λ (cs : List (List VersionSetId)). pairs (cases_of (take i left)) right ++ cs) paired
    ∙ sym (pairs_more (cases_of (take i left)) (get_or left i case).items right)
    ∙ ap (λ (cs : List (List VersionSetId)). pairs cs right) (sym more)
