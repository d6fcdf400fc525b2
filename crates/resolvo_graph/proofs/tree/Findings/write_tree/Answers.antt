use Rattle.std.proofs.Common.{◌≡◌, ◌∙◌, ◌++◌, ◌∷◌, [], Some, ap, sym, refl, reverse, arith}
use Rattle.std.proofs.lemmas.List.{nil_from_length}
use Rattle.std.proofs.lemmas.List.Elements.{All-pop, All-same}
use Rattle.resolvo_graph.specs.Kept.{findings}
use Rattle.resolvo_graph.specs.Runs.{runs_of}
use Rattle.resolvo_graph.specs.Tree.{siblings, in_rank}
use Rattle.resolvo_graph.proofs.TreeLemmas.{IsKnown, reached, reached_own, reached_edges, known_start, known_next, smaller, begins, follows, taken, filled}
use Rattle.resolvo_graph.proofs.tree.Findings.write_tree.Goals as goal

pub loop-entry-init : goal.loop-entry-init
loop-entry-init g c =
    let f = findings g.S.PartialEq.eq c.args.self.now in
    let es = c.args.edges.now in
    let put : c.place_top.new.stack.items ≡ [] ++ reverse (siblings (record { levels = []; top_level_indent = c.args.top_level_indent }) [] (reverse (in_rank f (runs_of es)))) =
    c.in_ok-place_top.ensures.stack ∙ ap (λ xs. xs ++ reverse (siblings (record { levels = []; top_level_indent = c.args.top_level_indent }) [] (reverse (in_rank f (runs_of es))))) c.requires.stack in
    record {
      known = known_start f (reached c.args.self.now.graph.now es) (record { levels = []; top_level_indent = c.args.top_level_indent }) c.place_top.new.stack.items es (reached_own c.args.self.now.graph.now es) put;
      none = c.requires.lines;
      follows = begins f g.L.LineSink.took (siblings (record { levels = []; top_level_indent = c.args.top_level_indent }) [] (reverse (in_rank f (runs_of es)))) c.place_top.new.stack.items c.args.writer.now.covered.keys c.args.sink.now put c.requires.covered;
    }

pub loop-entry-smaller : goal.loop-entry-smaller
loop-entry-smaller g c =
    let f = findings g.S.PartialEq.eq c.args.self.now in
    let us = reached c.args.self.now.graph.now c.args.edges.now in
    let below = c.pop.new.self.items in
    let e = c.in-Some.entry in
    let parts = All-pop (λ d. IsKnown f us d.op) (below ++ e ∷ []) below (Some e) refl (All-same (λ d. IsKnown f us d.op) (below ++ e ∷ []) c.loop-entry.writer.stack.items (sym c.in-Some.ensures.items) c.loop-entry.invariant.known) in
    smaller f us c.loop-entry.writer.stack.items below c.write_entry.new.writer.stack.items c.loop-entry.writer.covered.keys e parts.1 c.in-Some.ensures.items c.in_ok-write_entry.ensures.stack

pub loop-entry-preserved : goal.loop-entry-preserved
loop-entry-preserved g c =
    let f = findings g.S.PartialEq.eq c.args.self.now in
    let es = c.args.edges.now in
    let us = reached c.args.self.now.graph.now es in
    let below = c.pop.new.self.items in
    let e = c.in-Some.entry in
    let parts = All-pop (λ d. IsKnown f us d.op) (below ++ e ∷ []) below (Some e) refl (All-same (λ d. IsKnown f us d.op) (below ++ e ∷ []) c.loop-entry.writer.stack.items (sym c.in-Some.ensures.items) c.loop-entry.invariant.known) in
    record {
      known = known_next f us (reached_edges c.args.self.now.graph.now es) below c.write_entry.new.writer.stack.items c.loop-entry.writer.covered.keys e parts.0 parts.1 c.in_ok-write_entry.ensures.stack;
      none = c.in_ok-take.ensures.left;
      follows = follows f g.L.LineSink.took (siblings (record { levels = []; top_level_indent = c.args.top_level_indent }) [] (reverse (in_rank f (runs_of es)))) c.loop-entry.writer.stack.items below c.write_entry.new.writer.stack.items c.loop-entry.writer.covered.keys c.write_entry.new.writer.covered.keys c.loop-entry.writer.lines.items c.write_entry.new.writer.lines.items c.args.sink.now c.loop-entry.sink c.take.new.self e c.loop-entry.invariant.follows c.in-Some.ensures.items c.in_ok-write_entry.ensures.stack c.in_ok-write_entry.ensures.covered c.loop-entry.invariant.none c.in_ok-write_entry.ensures.lines c.in_ok-take.ensures.took;
    }

pub returns-then-is_full-clause-lines : goal.returns-then-is_full-clause-lines
returns-then-is_full-clause-lines g c =
    let f = findings g.S.PartialEq.eq c.args.self.now in
    let es = c.args.edges.now in
    filled f (reached c.args.self.now.graph.now es) g.L.LineSink.took (reached_edges c.args.self.now.graph.now es) (siblings (record { levels = []; top_level_indent = c.args.top_level_indent }) [] (reverse (in_rank f (runs_of es)))) c.loop-entry.writer.stack.items c.loop-entry.writer.covered.keys c.args.sink.now c.loop-entry.sink c.loop-entry.invariant.known c.loop-entry.invariant.follows (c.is_full.ensures c.if-is_full.true)

pub returns-clause-lines : goal.returns-clause-lines
returns-clause-lines g c =
    let f = findings g.S.PartialEq.eq c.args.self.now in
    taken f g.L.LineSink.took (siblings (record { levels = []; top_level_indent = c.args.top_level_indent }) [] (reverse (in_rank f (runs_of c.args.edges.now)))) c.loop-entry.writer.stack.items c.loop-entry.writer.covered.keys c.args.sink.now c.loop-entry.sink c.loop-entry.invariant.follows (nil_from_length c.loop-entry.writer.stack.items (omega (arith, c.loop-entry.writer.stack.ok, c.in_default.ensures.cases)))
