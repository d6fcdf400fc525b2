use Rattle.std.proofs.Common.{◌≡◌, Some, sym, ap, ◌∙◌}
use Rattle.std.specs.Prelude.{slice_get}
use Rattle.std.proofs.lemmas.Option.{slice_get-get_or}
use Rattle.resolvo_catalogue_core.specs.Kept.{nowhere}
use Rattle.resolvo_catalogue.specs.declared.candidate_flags.CandidateFlags.{CandidateFlags}
use Rattle.resolvo_catalogue.proofs.MarkLemmas.{marked_lock, marked_exclude, marked_other, not_past, names_none_need, names_none_limit, names_none_unknown}
use Rattle.resolvo_catalogue.proofs.candidate_flags.mark.Goals as goal

pub returns-in-Some : goal.returns-in-Some
returns-in-Some c ids versions owner line lines favours next distinct kept h =
    let k = rw c.in-Lock.is at kept in
    let item = c.in-Some.ensures.item in
    let at : slice_get c.args.marks.now.items c.in-Lock.version.0 ≡ Some c.in-Some.found.now = slice_get-get_or c.args.marks.now.items _ c.in-Some.found.now item.3.0 ∙ ap (λ (m : CandidateFlags). Some m) (sym item.1) in
    marked_lock ids lines favours versions c.args.marks.now.items distinct h line c.in-Lock.version.0 c.in-Some.found.now _ (sym k.is) at (slice_get-get_or versions c.in-Lock.version.0 nowhere k.of)

pub returns-in_default : goal.returns-in_default
returns-in_default c ids versions owner line lines favours next distinct kept h =
    let k = rw c.in-Lock.is at kept in
    not_past ids lines favours versions c.args.marks.now.items distinct h c.in-Lock.version.0 _ (slice_get-get_or versions c.in-Lock.version.0 nowhere k.of) c.in_default.ensures.item.3

pub returns-in-Some-get_mut : goal.returns-in-Some-get_mut
returns-in-Some-get_mut c ids versions owner line lines favours next distinct kept h =
    let k = rw c.in-Exclude.is at kept in
    let item = c.in-Some-get_mut.ensures.item in
    let at : slice_get c.args.marks.now.items c.in-Exclude.version.0 ≡ Some c.in-Some-get_mut.found.now = slice_get-get_or c.args.marks.now.items _ c.in-Some-get_mut.found.now item.3.0 ∙ ap (λ (m : CandidateFlags). Some m) (sym item.1) in
    marked_exclude ids lines favours versions c.args.marks.now.items distinct h line c.in-Exclude.version.0 c.in-Some-get_mut.found.now _ _ c.in-Exclude.word c.args.number next (sym k.is) k.given at (slice_get-get_or versions c.in-Exclude.version.0 nowhere k.of)

pub returns-in_default-get_mut : goal.returns-in_default-get_mut
returns-in_default-get_mut c ids versions owner line lines favours next distinct kept h =
    let k = rw c.in-Exclude.is at kept in
    not_past ids lines favours versions c.args.marks.now.items distinct h c.in-Exclude.version.0 _ (slice_get-get_or versions c.in-Exclude.version.0 nowhere k.of) c.in_default-get_mut.ensures.item.3

pub returns-in-Needs : goal.returns-in-Needs
returns-in-Needs c ids versions owner line lines favours next distinct kept h =
    let k = rw c.in-Needs.is at kept in
    let named = names_none_need line _ _ (sym k.is) in
    marked_other ids lines favours versions c.args.marks.now.items distinct h line named.0 named.1

pub returns-in-Limits : goal.returns-in-Limits
returns-in-Limits c ids versions owner line lines favours next distinct kept h =
    let k = rw c.in-Limits.is at kept in
    let named = names_none_limit line _ (sym k.is) in
    marked_other ids lines favours versions c.args.marks.now.items distinct h line named.0 named.1

pub returns-in-Unknown : goal.returns-in-Unknown
returns-in-Unknown c ids versions owner line lines favours next distinct kept h =
    let k = rw c.in-Unknown.is at kept in
    let named = names_none_unknown line _ (sym k.is) in
    marked_other ids lines favours versions c.args.marks.now.items distinct h line named.0 named.1
