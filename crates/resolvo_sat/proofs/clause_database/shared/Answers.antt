use Rattle.std.proofs.Common.{◌≡◌, ◌∙◌, ◌<◌, List, length, get_or, drop, sym, ap, Some, arith}
use Rattle.std.specs.Prelude.{slice_get}
use Rattle.std.proofs.lemmas.Option.{slice_get-get_or}
use Rattle.resolvo_store_core.specs.Signed.{Signed}
use Rattle.resolvo_sat.proofs.SharedLemmas.{below_at, shared_none, shared_found}
use Rattle.resolvo_sat.proofs.clause_database.shared.Goals as goal

pub place_of-requires : goal.place_of-requires
place_of-requires c = (length c.args.own.now, c.requires.shared.numbered)

pub literals-whole-requires : goal.literals-whole-requires
literals-whole-requires c =
    let sources = c.args.sources.now in
    let i = c.in-Some.place in
    let s = get_or sources i 0 in
    let within : i < length sources = omega (arith, c.in-Some.ensures.0, c.requires.shared.paired) in
    let at : slice_get sources i ≡ Some s = slice_get-get_or sources i 0 within in
    below_at (length c.args.own.now) sources i s c.requires.shared.below at

pub returns-in-Some : goal.returns-in-Some
returns-in-Some c =
    let sources = c.args.sources.now in
    let i = c.in-Some.place in
    let s = get_or sources i 0 in
    let within : i < length sources = omega (arith, c.in-Some.ensures.0, c.requires.shared.paired) in
    let at : slice_get sources i ≡ Some s = slice_get-get_or sources i 0 within in
    c.behind_first.ensures
    ∙ (ap (λ (ls : List Signed). drop 1 ls) c.literals-whole.ensures
    ∙ sym (shared_found c.args.own.now (length c.args.own.now) 0 c.args.sharing.now sources c.args.number i s c.requires.shared.numbered c.in-Some.ensures.0 c.in-Some.ensures.1 at))

pub returns-in-None : goal.returns-in-None
returns-in-None c = sym (shared_none c.args.own.now c.args.sharing.now c.args.sources.now c.args.number c.in-None.ensures)
