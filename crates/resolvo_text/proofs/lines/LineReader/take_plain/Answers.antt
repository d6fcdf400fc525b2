use Rattle.std.proofs.Common.{◌≡◌, ℕ, ◌+◌, ◌-◌, ◌≤◌, List, ◌++◌, length, take, drop, subst, arith}
use Rattle.std.specs.List.{slice_range}
use Rattle.std.proofs.lemmas.List.{length-take, length-take-le}
use Rattle.resolvo_text.proofs.KnownBytes.{plain_piece}
use Rattle.resolvo_text.proofs.lines.LineReader.take_plain.Goals as goal

pub returns-clause-taken : goal.returns-clause-taken
returns-clause-taken c =
    let r = c.args.self.now in
    let bytes = c.deref.result.now in
    let n = c.plain_bytes-count.result in
    let stop = c.min-end.result in
    let few = c.plain_bytes-count.ensures.within in
    let parted = plain_piece bytes r.at r.end stop n r.begun (omega (arith, c.min-end.ensures)) few in
    let count : length (take n (slice_range bytes r.at stop)) ≡ n = length-take-le n (slice_range bytes r.at stop) few in
    let within : n ≤ stop - r.at = omega (arith, few, length-take (stop - r.at) (drop r.at bytes)) in
    record {
      bytes = take n (slice_range bytes r.at stop);
      piece = subst (λ (xs : List ℕ). drop r.at (take r.end xs) ≡ take n (slice_range bytes r.at stop) ++ drop (r.at + n) (take r.end xs)) c.deref.ensures.value parted;
      line = c.in_ok-extend_from_slice.ensures.items;
      plain = c.plain_bytes-count.ensures.plain;
      room = omega (arith, count, within, c.min-end.ensures);
    }
