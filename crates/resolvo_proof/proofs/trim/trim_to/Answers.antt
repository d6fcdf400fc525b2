use Rattle.std.proofs.Common.{◌≡◌, suc, ℕ, List, [], ◌∷◌, ◌++◌, Some, length, sym, subst, ap, ◌∙◌, arith}
use Rattle.std.specs.Prelude.{slice_get, Contains}
use Rattle.std.proofs.lemmas.Iterator.Adapters.{YieldsList-from_vec}
use Rattle.std.proofs.lemmas.Iterator.Consumers.{YieldsList-turn, YieldsList-end}
use Rattle.std.proofs.lemmas.List.{length_push}
use Rattle.std.proofs.lemmas.Option.{slice_get-get_or}
use Rattle.resolvo_proof.specs.declared.step.ProofStep.{ProofStep}
use Rattle.resolvo_proof.specs.Trimmed.{AreLeading, Keeps, IsTrimmedWith}
use Rattle.resolvo_proof.proofs.Drawn.{trimmed_signs}
use Rattle.resolvo_proof.proofs.OnePlace.{trimmed_one_place}
use Rattle.resolvo_proof.proofs.Shortened.{trimmed_proves}
use Rattle.resolvo_proof.proofs.NumberLemmas.{AreKept, kept_none, kept_next, kept_numbers}
use Rattle.resolvo_proof.proofs.trim.trim_to.Goals as goal

pub index-requires : goal.index-requires
index-requires g c =
    let t = YieldsList-turn (YieldsList-from_vec {s = c.into_iter-step-iterator.result} c.args.steps.items c.into_iter-step-iterator.ensures.into_iter_gives.0 (c.into_iter-step-iterator.ensures.into_iter_gives.1 ∙ c.args.steps.ok.0)) c.loop-step.yielded c.loop-step.step-iterator c.loop-step.yielded_by c.next.result c.next.new.self c.in-Some.step c.in-Some.is c.next.ensures.steps in
    let long : length c.in_ok-leading.leading.items ≡ length c.args.steps.items = c.in_ok-leading.ensures.leads.count ∙ ap length c.as_slice.ensures.value in
    omega (arith, c.len.ensures, c.in_ok-leading.leading.ok.0, c.loop-step.numbers.ok.0, c.loop-step.invariant.long, t.0)

pub loop-step-init : goal.loop-step-init
loop-step-init g c =
    subst (λ (xs : List ℕ). AreKept c.args.steps.items c.in_ok-leading.leading.items 0 xs c.new-kept.result.items) (sym c.new-numbers.ensures.items)
    (subst (λ (xs : List (ProofStep g.row.N.Denot g.row.S.Denot)). AreKept c.args.steps.items c.in_ok-leading.leading.items 0 [] xs) (sym c.new-kept.ensures.items) (kept_none c.args.steps.items c.in_ok-leading.leading.items))

pub loop-step-preserved : goal.loop-step-preserved
loop-step-preserved g c =
    let t = YieldsList-turn (YieldsList-from_vec {s = c.into_iter-step-iterator.result} c.args.steps.items c.into_iter-step-iterator.ensures.into_iter_gives.0 (c.into_iter-step-iterator.ensures.into_iter_gives.1 ∙ c.args.steps.ok.0)) c.loop-step.yielded c.loop-step.step-iterator c.loop-step.yielded_by c.next.result c.next.new.self c.in-Some.step c.in-Some.is c.next.ensures.steps in
    let steps = c.args.steps.items in
    let flags = c.in_ok-leading.leading.items in
    let done = length c.loop-step.yielded in
    let leads : AreLeading (Contains c.args.wanted.now) steps flags = subst (λ (xs : List (ProofStep g.row.N.Denot g.row.S.Denot)). AreLeading (Contains c.args.wanted.now) xs flags) c.as_slice.ensures.value c.in_ok-leading.ensures.leads in
    let at : slice_get steps done ≡ Some c.in-Some.step = slice_get-get_or steps done c.in-Some.step t.0 ∙ ap Some (sym t.1) in
    let number : length c.loop-step.numbers.items ≡ done = c.loop-step.invariant.long in
    let count : length flags ≡ length steps = leads.count in
    let here : c.len.result ≡ done = c.len.ensures ∙ (c.loop-step.numbers.ok.0 ∙ number) in
    let flag : slice_get flags done ≡ Some c.index.result.now = subst (λ k. slice_get flags k ≡ Some c.index.result.now) here (slice_get-get_or flags c.len.result c.index.result.now (omega (arith, t.0)) ∙ ap Some (sym c.index.ensures)) in
    let longer : suc done ≡ length (c.loop-step.yielded ++ c.in-Some.step ∷ []) = (let l = length_push c.loop-step.yielded c.in-Some.step in omega arith) in
    subst (λ k. AreKept steps flags k c.push.new.self.items c.keep.new.kept.items) longer
    (kept_next steps flags done c.loop-step.numbers.items c.push.new.self.items c.loop-step.kept.items c.keep.new.kept.items c.index.result.now c.in-Some.step leads at flag (subst (λ (ns : List ℕ). Keeps c.index.result.now ns c.in-Some.step c.loop-step.kept.items c.keep.new.kept.items) c.as_slice-in-loop-step.ensures.value c.in_ok-keep.ensures.kept) (c.in_ok-push.ensures.items ∙ ap (λ n. c.loop-step.numbers.items ++ n ∷ []) (c.len-number.ensures ∙ c.loop-step.kept.ok.0)) c.loop-step.invariant)

-- the kept steps when the loop has ended
left : (g : _) (c : goal.After-drop-leading-2 g) → IsTrimmedWith (Contains c.args.wanted.now) c.args.steps.items c.loop-step.kept.items c.loop-step.numbers.items
left g c =
    let steps = c.args.steps.items in
    let flags = c.in_ok-leading.leading.items in
    let t = YieldsList-end (YieldsList-from_vec {s = c.into_iter-step-iterator.result} steps c.into_iter-step-iterator.ensures.into_iter_gives.0 (c.into_iter-step-iterator.ensures.into_iter_gives.1 ∙ c.args.steps.ok.0)) c.loop-step.yielded c.loop-step.step-iterator c.loop-step.yielded_by c.next.result c.next.new.self c.in-None.is c.next.ensures.steps in
    let leads : AreLeading (Contains c.args.wanted.now) steps flags = subst (λ (xs : List (ProofStep g.row.N.Denot g.row.S.Denot)). AreLeading (Contains c.args.wanted.now) xs flags) c.as_slice.ensures.value c.in_ok-leading.ensures.leads in
    let done = length c.loop-step.yielded in
    kept_numbers steps flags done c.loop-step.numbers.items c.loop-step.kept.items leads t.1 c.loop-step.invariant

pub returns-clause-kept : goal.returns-clause-kept
returns-clause-kept g c = left g c

pub returns-clause-proof : goal.returns-clause-proof
returns-clause-proof g c = trimmed_proves c.args.steps.items c.loop-step.kept.items (left g c).trimmed

pub returns-clause-places : goal.returns-clause-places
returns-clause-places g c = trimmed_one_place c.args.steps.items c.loop-step.kept.items (left g c).trimmed

pub returns-clause-signs : goal.returns-clause-signs
returns-clause-signs g c = trimmed_signs c.args.steps.items c.loop-step.kept.items (left g c).trimmed
