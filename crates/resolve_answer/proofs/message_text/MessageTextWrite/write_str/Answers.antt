use Rattle.std.proofs.Common.{ℕ, List, [], ◌∷◌, take, get_or, sym, subst, ◌∙◌}
use Rattle.std.proofs.lemmas.List.{take_more, take_all}
use Rattle.resolve_answer.specs.Marked.{Marks}
use Rattle.resolve_answer.proofs.MarkLemmas.{marks_more, marks_nothing}
use Rattle.resolve_answer.proofs.message_text.MessageTextWrite.write_str.Goals as goal

pub loop-byte-init : goal.loop-byte-init
loop-byte-init c = marks_nothing c.args.self.now.begins c.args.self.now.bytes.items

pub loop-byte-preserved : goal.loop-byte-preserved
loop-byte-preserved c =
    let i = c.loop-byte.byte-index in
    let bytes = c.as_bytes-bytes.result.now in
    let old = c.args.self.now in
    let now = c.push.new.self in
    subst (λ (xs : List ℕ). Marks old.begins old.bytes.items xs now.begins now.bytes.items) (sym (take_more bytes i 0 c.loop-byte-test.true))
    (marks_more old.begins c.loop-byte.self.begins now.begins old.bytes.items c.loop-byte.self.bytes.items now.bytes.items (take i bytes) (get_or bytes i 0 ∷ []) c.loop-byte.invariant c.in-Ok-push.ensures.pushed)

pub returns : goal.returns
returns c = record {
  ok = λ ok. subst (λ (xs : List ℕ). Marks c.args.self.now.begins c.args.self.now.bytes.items xs c.loop-byte.self.begins c.loop-byte.self.bytes.items)
      (take_all c.loop-byte.byte-index c.as_bytes-bytes.result.now c.loop-byte-test.false ∙ c.as_bytes-bytes.ensures.value) c.loop-byte.invariant;
}

pub returns-then-is_plain : goal.returns-then-is_plain
returns-then-is_plain c = record {
  ok = λ ok. subst (λ (xs : List ℕ). Marks c.args.self.now.begins c.args.self.now.bytes.items xs c.push_plain.new.self.begins c.push_plain.new.self.bytes.items) c.as_bytes-bytes.ensures.value c.in-Ok.ensures.pushed;
}
