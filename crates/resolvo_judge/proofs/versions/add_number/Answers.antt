use Rattle.std.proofs.Common.{◌≡◌, ◌∙◌, ◌∷◌, ◌++◌, [], List, ℕ, Option, sym, ap, subst, rules, Some}
use Rattle.std.specs.Global.{Vec}
use Rattle.std.specs.String.{string_bytes}
use Rattle.std.specs.BTreeMap.{get_by_text}
use Rattle.std.specs.Map.{update}
use Rattle.std.specs.Str.{bytes_eq}
use Rattle.std.proofs.lemmas.Map.Text.{btree_map_updates_text}
use Rattle.resolvo_text.specs.View.{version_of}
use Rattle.resolvo_judge.specs.Versions.{numbers_kept}
use Rattle.resolvo_judge.proofs.VersionLemmas.{puts}
use Rattle.resolvo_judge.proofs.versions.add_number.Goals as goal

pub returns-in-Some : goal.returns-in-Some
returns-in-Some c =
    let w = c.push.new.self in
    let bs = c.as_str.result.now in
    let kept = c.args.numbers.now in
    let updates = (c.get_mut.follows.holds w).3 (search rules) in
    puts (λ name. get_by_text kept name) (λ name. get_by_text (c.get_mut.follows.lender w) name) (version_of c.args.version.now) w bs c.as_str.ensures.value
    (btree_map_updates_text bs kept (c.get_mut.follows.lender w) (Some w) updates)
    (c.in_ok-push.ensures.items ∙ ap (λ (o : Option (Vec ℕ)). numbers_kept o ++ c.args.version.now.number ∷ []) c.in-Some.ensures.value)

pub returns : goal.returns
returns c =
    let bs = string_bytes c.in_ok-clone.field-0 in
    let kept = c.args.numbers.now in
    let w = c.push-2.new.self in
    let none = c.in_default.ensures.value in
    let updated = btree_map_updates_text bs c.get_mut.follows.lender-at-none c.insert.new.self (Some w) c.in_ok-insert.ensures.updates in
    let fresh = none ∙ ap (λ (x : List ℕ). get_by_text kept x) (c.as_str.ensures.value ∙ sym c.in_ok-clone.ensures.cases) in
    puts (λ name. get_by_text kept name) (λ name. get_by_text c.insert.new.self name) (version_of c.args.version.now) w bs c.in_ok-clone.ensures.cases
    (subst (λ m. (q : List ℕ) → get_by_text c.insert.new.self q ≡ update bytes_eq (λ name. get_by_text m name) bs (Some w) q) c.get_mut.follows.holds-at-none updated)
    (c.in_ok-push-2.ensures.items ∙ ap (λ (xs : List ℕ). xs ++ c.args.version.now.number ∷ []) c.new-kept.ensures.items ∙ ap (λ (o : Option (Vec ℕ)). numbers_kept o ++ c.args.version.now.number ∷ []) fresh)
