use Rattle.std.proofs.Common.{◌∙◌, ap, sym, subst, List}
use Rattle.std.specs.Prelude.{slice_get}
use Rattle.std.specs.Option.{option_and_then}
use Rattle.std.proofs.lemmas.Option.{none-some}
use Rattle.resolvo_checker.specs.declared.kept_clause.Kept.{Kept as CodeKept}
use Rattle.resolvo_checker.specs.declared.kept_clause.Kept.TheVariants as code
use Rattle.resolvo_checker.specs.Kept.{Kept, deferred_at, AreBuilt}
use Rattle.resolvo_checker.specs.Pieces.{long_number, pieces}
use Rattle.resolvo_checker.proofs.PieceLemmas.{on_ok_map, long_found, long_there, deferred-of, long-step, long-ready, no_long}
use Rattle.resolvo_checker.proofs.clauses.Flat.build.Goals as goal

pub build_long-requires : goal.build_long-requires
build_long-requires c =
    let e = long_found c.self.inside.kept.items c.args.n c.in-Some.place (ap (λ (ks : List CodeKept). option_and_then long_number (slice_get ks c.args.n)) (sym c.deref.ensures.value) ∙ (sym c.long_of.ensures ∙ c.in-Some.is)) in
    record { within = long_there c.self.inside.literals.items c.self.inside.longs.items c.self.inside.kept.items c.args.n c.in-Some.place c.self.invariant e }

pub returns-in-Some-clause-built : goal.returns-in-Some-clause-built
returns-in-Some-clause-built c =
    let e = long_found c.self.inside.kept.items c.args.n c.in-Some.place (ap (λ (ks : List CodeKept). option_and_then long_number (slice_get ks c.args.n)) (sym c.deref.ensures.value) ∙ (sym c.long_of.ensures ∙ c.in-Some.is)) in
    on_ok_map c.build_long.result c.build_long.ensures.built (λ b s d.
    let here = sym (deferred-of c.self.inside.literals.items c.self.inside.longs.items c.self.inside.kept.items c.args.n (code.Long c.in-Some.place) e) ∙ (ap (λ (ks : List Kept). deferred_at ks c.args.n) c.self.view_is ∙ d) in
    subst (λ (ks : List Kept). AreBuilt s c.args.clause.now ks (pieces c.build_long.new.literals.items c.build_long.new.longs.items c.self.inside.kept.items)) c.self.view_is
    (b c.self.inside.kept.items s c.self.invariant (long-step c.self.inside.literals.items c.self.inside.longs.items c.in-Some.place s here)))

pub returns-in-Some-clause-ready : goal.returns-in-Some-clause-ready
returns-in-Some-clause-ready c =
    let e = long_found c.self.inside.kept.items c.args.n c.in-Some.place (ap (λ (ks : List CodeKept). option_and_then long_number (slice_get ks c.args.n)) (sym c.deref.ensures.value) ∙ (sym c.long_of.ensures ∙ c.in-Some.is)) in
    on_ok_map c.build_long.result c.build_long.ensures.ready (λ r.
    deferred-of c.build_long.new.literals.items c.build_long.new.longs.items c.self.inside.kept.items c.args.n (code.Long c.in-Some.place) e
    ∙ long-ready c.build_long.new.literals.items c.build_long.new.longs.items c.in-Some.place r)

pub returns-in-None-clause-built : goal.returns-in-None-clause-built
returns-in-None-clause-built c = λ s d.
    let none = no_long c.self.inside.literals.items c.self.inside.longs.items c.self.inside.kept.items c.args.n (ap (λ (ks : List CodeKept). option_and_then long_number (slice_get ks c.args.n)) (sym c.deref.ensures.value) ∙ (sym c.long_of.ensures ∙ c.in-None.is)) in
    let here = ap (λ (ks : List Kept). deferred_at ks c.args.n) (sym c.self.view_is) ∙ none in
    absurd (none-some s (sym here ∙ d))

pub returns-in-None-clause-ready : goal.returns-in-None-clause-ready
returns-in-None-clause-ready c =
    let none = no_long c.self.inside.literals.items c.self.inside.longs.items c.self.inside.kept.items c.args.n (ap (λ (ks : List CodeKept). option_and_then long_number (slice_get ks c.args.n)) (sym c.deref.ensures.value) ∙ (sym c.long_of.ensures ∙ c.in-None.is)) in
    let here = ap (λ (ks : List Kept). deferred_at ks c.args.n) (sym c.self.view_is) ∙ none in
    here
