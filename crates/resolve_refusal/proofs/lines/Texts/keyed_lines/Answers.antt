use Rattle.std.proofs.Common.{◌≡◌, ◌<◌, ◌≤◌, arith}
use Rattle.std.specs.BTreeMap.{get_by_text}
use Rattle.resolve_refusal.specs.Lines.{text_of, IsLineOf, count_of}
use Rattle.resolve_refusal.proofs.FirstLemmas.{first_none, first_more, first_all, text_none}
use Rattle.resolve_refusal.proofs.lines.Texts.keyed_lines.Goals as goal

pub loop-at-preserved : goal.loop-at-preserved
loop-at-preserved c =
    let lines = c.lines_of-lines.result in
    let within : c.loop-at.at < count_of lines = (let is : c.count-at-end.result ≡ count_of lines = c.count-at-end.ensures in omega (arith, is, c.loop-at-test.true)) in
    first_more lines (IsLineOf c.args.self.catalogue.now c.args.self.request.now.lines c.args.place) (λ q. get_by_text c.args.groups.now q) (text_of c.args.self.catalogue.now c.args.self.request.now.lines c.args.place) c.lines_of-lines.ensures c.loop-at.at within c.number-line.result c.number-line.ensures
    (λ q. get_by_text c.loop-at.first q) (λ q. get_by_text c.keep_line.new.first q) c.in_ok-keep_line.ensures.first c.loop-at.invariant

pub returns-clause-first : goal.returns-clause-first
returns-clause-first c =
    let lines = c.lines_of-lines.result in
    let end : count_of lines ≤ c.loop-at.at = (let is : c.count-at-end.result ≡ count_of lines = c.count-at-end.ensures in omega (arith, is, c.loop-at-test.false)) in
    first_all (λ q. get_by_text c.args.groups.now q) c.args.self.catalogue.now c.args.self.request.now.lines c.args.place lines c.lines_of-lines.ensures c.loop-at.at end (λ q. get_by_text c.loop-at.first q) c.loop-at.invariant

pub loop-at-init : goal.loop-at-init
loop-at-init c = first_none c.lines_of-lines.result (IsLineOf c.args.self.catalogue.now c.args.self.request.now.lines c.args.place) (λ q. get_by_text c.args.groups.now q) (text_of c.args.self.catalogue.now c.args.self.request.now.lines c.args.place) (λ q. get_by_text c.new-first.result q) (text_none c.new-first.result c.new-first.ensures.empty)
