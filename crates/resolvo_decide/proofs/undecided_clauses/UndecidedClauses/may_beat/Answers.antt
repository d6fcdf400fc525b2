use Rattle.std.proofs.Common.{◌≡◌, ℕ, ◌≤◌, None, sym, ◌∙◌, ap, subst}
use Rattle.std.proofs.lemmas.Bool.{not-false}
use Rattle.resolvo_store_core.specs.Pick.{offer, later}
use Rattle.resolvo_store_core.specs.Values.{value_at}
use Rattle.resolvo_store_core.specs.declared.pick.NeedClause.{NeedClause}
use Rattle.resolvo_decide.specs.declared.undecided_clauses.UndecidedClauses.{UndecidedClauses}
use Rattle.resolvo_decide.specs.Needs.{literals_in, Fits}
use Rattle.resolvo_decide.proofs.FitLemmas.{fits_counted, read_at, read_is, read_fits, offer_beaten, later_none}
use Rattle.resolvo_decide.proofs.undecided_clauses.UndecidedClauses.may_beat.Goals.{in-Some, in_default}
use Rattle.resolvo_decide.proofs.undecided_clauses.UndecidedClauses.may_beat.Goals as goal

pub first_undecided-requires-clause-kept_count : goal.first_undecided-requires-clause-kept_count
first_undecided-requires-clause-kept_count g c =
    let lists = c.args.lists.now in
    let qs = c.args.queue.now in
    let fits : Fits (literals_in lists) c.match-candidates.self qs = elim c.match-candidates.branch [
      | in-Some w ↦ subst (λ (n : UndecidedClauses). Fits (literals_in lists) n qs) (sym w.self-is)
          (fits_counted lists (value_at c.args.values.now) c.args.self.now w.pass_false.new.self qs c.args.position _ w.in-Some.candidates.now w.in-Some.ensures.1 c.requires.values (w.pass_false.ensures.kept c.args.self.now.seen.items) c.requires.fits)
      | in_default w ↦ subst (λ (n : UndecidedClauses). Fits (literals_in lists) n qs) (sym w.self-is) c.requires.fits
    ] in
    λ k number. fits.kept_count.each c.args.position _ k (read_at qs c.args.position _ c.requires.within) number

pub returns-in-Ok-clause-nothing : goal.returns-in-Ok-clause-nothing
returns-in-Ok-clause-nothing g c = λ h q at.
    let lists = c.args.lists.now in
    let values = value_at c.args.values.now in
    let score = g.C.ScoreMap.score_of c.args.scores.now in
    subst (λ (r : NeedClause). later c.args.best (offer lists values score r) ≡ c.args.best) (read_is c.args.queue.now c.args.position _ q at)
    (offer_beaten lists values score _ c.args.best c.in-Ok.candidate c.in-Ok.ensures.first (λ next low least. c.is_final.ensures (not-false c.is_final.result h) next (subst (λ (n : ℕ). next.package_activity ≤ n) (sym c.get.ensures) low) least))

pub returns-in-Ok-clause-fits : goal.returns-in-Ok-clause-fits
returns-in-Ok-clause-fits g c =
    let lists = c.args.lists.now in
    let qs = c.args.queue.now in
    let fits : Fits (literals_in lists) c.match-candidates.self qs = elim c.match-candidates.branch [
      | in-Some w ↦ subst (λ (n : UndecidedClauses). Fits (literals_in lists) n qs) (sym w.self-is)
          (fits_counted lists (value_at c.args.values.now) c.args.self.now w.pass_false.new.self qs c.args.position _ w.in-Some.candidates.now w.in-Some.ensures.1 c.requires.values (w.pass_false.ensures.kept c.args.self.now.seen.items) c.requires.fits)
      | in_default w ↦ subst (λ (n : UndecidedClauses). Fits (literals_in lists) n qs) (sym w.self-is) c.requires.fits
    ] in
    fits

pub returns-in-Err-clause-nothing : goal.returns-in-Err-clause-nothing
returns-in-Err-clause-nothing g c = λ h q at.
    let lists = c.args.lists.now in
    let values = value_at c.args.values.now in
    let score = g.C.ScoreMap.score_of c.args.scores.now in
    ap (later c.args.best) (subst (λ (r : NeedClause). offer lists values score r ≡ None) (read_is c.args.queue.now c.args.position _ q at) (c.in-Err.ensures.nothing score)) ∙ later_none c.args.best

pub returns-in-Err-clause-fits : goal.returns-in-Err-clause-fits
returns-in-Err-clause-fits g c =
    let lists = c.args.lists.now in
    let qs = c.args.queue.now in
    let fits : Fits (literals_in lists) c.match-candidates.self qs = elim c.match-candidates.branch [
      | in-Some w ↦ subst (λ (n : UndecidedClauses). Fits (literals_in lists) n qs) (sym w.self-is)
          (fits_counted lists (value_at c.args.values.now) c.args.self.now w.pass_false.new.self qs c.args.position _ w.in-Some.candidates.now w.in-Some.ensures.1 c.requires.values (w.pass_false.ensures.kept c.args.self.now.seen.items) c.requires.fits)
      | in_default w ↦ subst (λ (n : UndecidedClauses). Fits (literals_in lists) n qs) (sym w.self-is) c.requires.fits
    ] in
    read_fits (literals_in lists) c.match-candidates.self _ qs c.args.position _ c.requires.within fits c.in-Err.state c.in-Err.ensures.state (ap (λ states. record c.match-candidates.self { states = states }) c.put.ensures)
