-- The message of a refused report changes nothing: with other lines, or with none, it is accepted as before.
use Rattle.std.proofs.Common.{◌≡◌, ◌⊎◌, inl, inr, ℕ, zero, suc, ◌+◌, Bool, true, false, List, [], ◌∷◌, ◌++◌, map, take, Option, Some, None, refl, sym, ◌∙◌, ap, subst, arith}
use Rattle.std.specs.Prelude.{◌==◌, nat_lt, if◌then◌else◌, IsTrue, slice_get, option_and_then}
use Rattle.std.specs.List.{AllByRecursion}
use Rattle.std.proofs.lemmas.Bool.{both_ways}
use Rattle.std.proofs.lemmas.Option.{same_Some, slice_get_within}
use Rattle.std.proofs.lemmas.List.{append-nil, take-append-le}
use Rattle.std.proofs.lemmas.List.Concat.{flat_map-append}
use Rattle.resolvo_text.specs.Line.{Line}
use Rattle.resolvo_report.specs.Value.{Step, ReportLine, InstallHead, RefusedHead, Answer, CatalogueLine, RequestLine, Numbered, Message, Refused}
use Rattle.resolvo_report.specs.Text.{HasText, numbered, report_text}
use Rattle.resolvo_report.specs.Grammar.{next_part, part_after, may_end, IsReport}
use Rattle.resolvo_report.specs.declared.grammar.Part.{Part}
use Rattle.resolvo_report.specs.declared.grammar.Part.TheVariants as part
use Rattle.resolvo_judge.specs.Refusal.{step_in, steps_in, passes, ArePassed, IsAccepted}
use Rattle.resolvo_checker.specs.Proof.{ends_empty}
use Rattle.resolvo_judge.specs.Judgement.{IsUpheld}

-- ---- lists

prefix_at : {X : Type 0} (xs ys : List X) (n : ℕ) (x : X) → slice_get xs n ≡ Some x → slice_get (xs ++ ys) n ≡ Some x
prefix_at [] ys n x e = absurd cc
prefix_at (z ∷ xs) ys zero x e = e
prefix_at (z ∷ xs) ys (suc n) x e = prefix_at xs ys n x e

parts_at : {X : Type 0} (xs ys : List X) (n : ℕ) (x : X) → slice_get (xs ++ ys) n ≡ Some x → (slice_get xs n ≡ Some x) ⊎ ((m : ℕ) × (slice_get ys m ≡ Some x))
parts_at [] ys n x e = inr (n, e)
parts_at (z ∷ xs) ys zero x e = inl e
parts_at (z ∷ xs) ys (suc n) x e = parts_at xs ys n x e

each_prefix : {X : Type 0} (P : X → Type 0) (xs ys : List X) → AllByRecursion P (xs ++ ys) → AllByRecursion P xs
each_prefix P [] ys all = tt
each_prefix P (x ∷ xs) ys all = (all.0, each_prefix P xs ys all.1)

each_both : {X : Type 0} (P : X → Type 0) (xs ys : List X) → AllByRecursion P xs → AllByRecursion P ys → AllByRecursion P (xs ++ ys)
each_both P [] ys a b = b
each_both P (x ∷ xs) ys a b = (a.0, each_both P xs ys a.1 b)

-- ---- the lines of a message

message_at : (message : List (List ℕ)) (n : ℕ) (l : ReportLine) → slice_get (map Message message) n ≡ Some l → (bytes : List ℕ) × (Message bytes ≡ l)
message_at [] n l e = absurd cc
message_at (bytes ∷ message) zero l e = (bytes, same_Some _ l e)
message_at (bytes ∷ message) (suc n) l e = message_at message n l e

no_steps : (message : List (List ℕ)) → steps_in (map Message message) ≡ []
no_steps [] = refl
no_steps (bytes ∷ message) = no_steps message

-- lines that pass with a message pass without it
without_passes : (catalogue request : List Line) (lines : List ReportLine) (message : List (List ℕ)) → ArePassed catalogue request (lines ++ map Message message) → ArePassed catalogue request lines
without_passes catalogue request lines message passed n l e =
    subst (λ (above : List ReportLine). passes catalogue request above l ≡ true) (take-append-le n lines (map Message message) (let low = slice_get_within lines n l e in omega (arith, low))) (passed n l (prefix_at lines (map Message message) n l e))

-- and with any other
with_passes : (catalogue request : List Line) (lines : List ReportLine) (message : List (List ℕ)) → ArePassed catalogue request lines → ArePassed catalogue request (lines ++ map Message message)
with_passes catalogue request lines message passed n l e = elim (parts_at lines (map Message message) n l e) [
  | inl here ↦ subst (λ (above : List ReportLine). passes catalogue request above l ≡ true) (sym (take-append-le n lines (map Message message) (let low = slice_get_within lines n l here in omega (arith, low)))) (passed n l here)
  | inr (m, there) ↦ (let (bytes, is) = message_at message m l there in subst (λ (x : ReportLine). passes catalogue request (take n (lines ++ map Message message)) x ≡ true) is refl)
]

same_steps : (lines : List ReportLine) (message : List (List ℕ)) → steps_in (lines ++ map Message message) ≡ steps_in lines
same_steps lines message = flat_map-append step_in lines (map Message message) ∙ ap (λ xs. steps_in lines ++ xs) (no_steps message) ∙ append-nil (steps_in lines)

-- A refused report's lines are accepted with one message exactly where they are with another.
pub any_message : (catalogue request : List Line) (lines : List ReportLine) (message other : List (List ℕ)) → IsAccepted catalogue request (RefusedHead ∷ (lines ++ map Message message)) → IsAccepted catalogue request (RefusedHead ∷ (lines ++ map Message other))
any_message catalogue request lines message other h = record {
  passed = with_passes catalogue request (RefusedHead ∷ lines) other (without_passes catalogue request (RefusedHead ∷ lines) message h.passed);
  ends = subst (λ (steps : List Step). IsTrue (ends_empty steps)) (same_steps lines message ∙ sym (same_steps lines other)) h.ends;
}

-- ---- where the lines may be

after_parts : (ls ms : List ReportLine) (p q : Part) → part_after p (ls ++ ms) ≡ Some q → (m : Part) × (part_after p ls ≡ Some m) × (part_after m ms ≡ Some q)
after_parts [] ms p q e = (p, refl, e)
after_parts (l ∷ ls) ms p q e = go (λ z at. after_parts ls ms z q at) (next_part p l) e
  where
    go : ((z : Part) → part_after z (ls ++ ms) ≡ Some q → (m : Part) × (part_after z ls ≡ Some m) × (part_after m ms ≡ Some q)) → (o : Option Part) → option_and_then (λ z. part_after z (ls ++ ms)) o ≡ Some q
        → (m : Part) × (option_and_then (λ z. part_after z ls) o ≡ Some m) × (part_after m ms ≡ Some q)
    go again None at = absurd cc
    go again (Some z) at = again z at

after_both : (ls ms : List ReportLine) (p m q : Part) → part_after p ls ≡ Some m → part_after m ms ≡ Some q → part_after p (ls ++ ms) ≡ Some q
after_both [] ms p m q e f = ap (λ (z : Part). part_after z ms) (same_Some p m e) ∙ f
after_both (l ∷ ls) ms p m q e f = go (λ z at. after_both ls ms z m q at f) (next_part p l) e
  where
    go : ((z : Part) → part_after z ls ≡ Some m → part_after z (ls ++ ms) ≡ Some q) → (o : Option Part) → option_and_then (λ z. part_after z ls) o ≡ Some m → option_and_then (λ z. part_after z (ls ++ ms)) o ≡ Some q
    go again None at = absurd cc
    go again (Some z) at = again z at

-- the part is one below `refused`
abbrev is_refusing : Part → Bool
is_refusing part.Start = false
is_refusing part.Answers = false
is_refusing (part.InstallSteps n) = false
is_refusing (part.Catalogue n) = true
is_refusing (part.Request n) = true
is_refusing (part.RefusedSteps n) = true
is_refusing part.Message = true

only_if : (b : Bool) (x q : Part) → (if b then Some x else None) ≡ Some q → x ≡ q
only_if true x q e = same_Some x q e
only_if false x q e = absurd cc

refusing_next : (p : Part) (l : ReportLine) (q : Part) → is_refusing p ≡ true → next_part p l ≡ Some q → is_refusing q ≡ true
refusing_next part.Start l q is e = absurd (both_ways false refl is)
refusing_next part.Answers l q is e = absurd (both_ways false refl is)
refusing_next (part.InstallSteps k) l q is e = absurd (both_ways false refl is)
refusing_next (part.Catalogue k) InstallHead q is e = absurd cc
refusing_next (part.Catalogue k) RefusedHead q is e = absurd cc
refusing_next (part.Catalogue k) (Answer a) q is e = absurd cc
refusing_next (part.Catalogue k) (CatalogueLine n) q is e = ap is_refusing (sym (only_if (nat_lt k n) (part.Catalogue n) q e))
refusing_next (part.Catalogue k) (RequestLine n) q is e = ap is_refusing (sym (only_if (nat_lt 0 n) (part.Request n) q e))
refusing_next (part.Catalogue k) (Numbered n s) q is e = ap is_refusing (sym (only_if (n == 0 + 1) (part.RefusedSteps n) q e))
refusing_next (part.Catalogue k) (Message b) q is e = absurd cc
refusing_next (part.Request k) InstallHead q is e = absurd cc
refusing_next (part.Request k) RefusedHead q is e = absurd cc
refusing_next (part.Request k) (Answer a) q is e = absurd cc
refusing_next (part.Request k) (CatalogueLine n) q is e = absurd cc
refusing_next (part.Request k) (RequestLine n) q is e = ap is_refusing (sym (only_if (nat_lt k n) (part.Request n) q e))
refusing_next (part.Request k) (Numbered n s) q is e = ap is_refusing (sym (only_if (n == 0 + 1) (part.RefusedSteps n) q e))
refusing_next (part.Request k) (Message b) q is e = absurd cc
refusing_next (part.RefusedSteps k) InstallHead q is e = absurd cc
refusing_next (part.RefusedSteps k) RefusedHead q is e = absurd cc
refusing_next (part.RefusedSteps k) (Answer a) q is e = absurd cc
refusing_next (part.RefusedSteps k) (CatalogueLine n) q is e = absurd cc
refusing_next (part.RefusedSteps k) (RequestLine n) q is e = absurd cc
refusing_next (part.RefusedSteps k) (Numbered n s) q is e = ap is_refusing (sym (only_if (n == k + 1) (part.RefusedSteps n) q e))
refusing_next (part.RefusedSteps k) (Message b) q is e = ap is_refusing (sym (same_Some part.Message q e))
refusing_next part.Message InstallHead q is e = absurd cc
refusing_next part.Message RefusedHead q is e = absurd cc
refusing_next part.Message (Answer a) q is e = absurd cc
refusing_next part.Message (CatalogueLine n) q is e = absurd cc
refusing_next part.Message (RequestLine n) q is e = absurd cc
refusing_next part.Message (Numbered n s) q is e = absurd cc
refusing_next part.Message (Message b) q is e = ap is_refusing (sym (same_Some part.Message q e))

refusing_after : (ls : List ReportLine) (p q : Part) → is_refusing p ≡ true → part_after p ls ≡ Some q → is_refusing q ≡ true
refusing_after [] p q is e = ap is_refusing (sym (same_Some p q e)) ∙ is
refusing_after (l ∷ ls) p q is e = go (λ z r at. refusing_after ls z q r at) (next_part p l) refl e
  where
    go : ((z : Part) → is_refusing z ≡ true → part_after z ls ≡ Some q → is_refusing q ≡ true) → (o : Option Part) → next_part p l ≡ o → option_and_then (λ z. part_after z ls) o ≡ Some q → is_refusing q ≡ true
    go again None next at = absurd cc
    go again (Some z) next at = again z (refusing_next p l z is next) at

-- a report may end with each message where it may end with one
ends_so : (m : Part) (message other : List (List ℕ)) (q : Part) → is_refusing m ≡ true → part_after m (map Message message) ≡ Some q → IsTrue (may_end q) → (r : Part) × (part_after m (map Message other) ≡ Some r) × IsTrue (may_end r)
ends_so part.Start message other q is e ends = absurd (both_ways false refl is)
ends_so part.Answers message other q is e ends = absurd (both_ways false refl is)
ends_so (part.InstallSteps k) message other q is e ends = absurd (both_ways false refl is)
ends_so (part.Catalogue k) [] other q is e ends = absurd (both_ways false refl (subst (λ (z : Part). IsTrue (may_end z)) (sym (same_Some (part.Catalogue k) q e)) ends))
ends_so (part.Catalogue k) (b ∷ message) other q is e ends = absurd cc
ends_so (part.Request k) [] other q is e ends = absurd (both_ways false refl (subst (λ (z : Part). IsTrue (may_end z)) (sym (same_Some (part.Request k) q e)) ends))
ends_so (part.Request k) (b ∷ message) other q is e ends = absurd cc
ends_so (part.RefusedSteps k) message [] q is e ends = (part.RefusedSteps k, refl, refl)
ends_so (part.RefusedSteps k) message (b ∷ other) q is e ends = (part.Message, only_messages other, refl)
  where
    only_messages : (ms : List (List ℕ)) → part_after part.Message (map Message ms) ≡ Some part.Message
    only_messages [] = refl
    only_messages (m ∷ ms) = only_messages ms
ends_so part.Message message other q is e ends = (part.Message, only_messages other, refl)
  where
    only_messages : (ms : List (List ℕ)) → part_after part.Message (map Message ms) ≡ Some part.Message
    only_messages [] = refl
    only_messages (m ∷ ms) = only_messages ms

-- ---- the whole report

module _ (in_catalogue in_request : List ℕ) (steps : List Step) where
  -- its lines but the first and the message
  abbrev lines_between : List ReportLine
  lines_between = map CatalogueLine in_catalogue ++ map RequestLine in_request ++ numbered 1 steps

  -- it is one of the grammar with each message that has a text
  pub report_with : (message other : List (List ℕ)) → AllByRecursion HasText (map Message other) → IsReport (Refused in_catalogue in_request steps message) → IsReport (Refused in_catalogue in_request steps other)
  report_with message other texts h =
      let (m, prefix, back) = after_parts lines_between (map Message message) (part.Catalogue 0) h.part h.lines.placed in
      let (r, follows, ends) = ends_so m message other h.part (refusing_after lines_between (part.Catalogue 0) m refl prefix) back h.whole in
      record {
        part = r;
        lines = record {
          each = each_both HasText (RefusedHead ∷ lines_between) (map Message other) (each_prefix HasText (RefusedHead ∷ lines_between) (map Message message) h.lines.each) texts;
          placed = after_both lines_between (map Message other) (part.Catalogue 0) m r prefix follows;
        };
        whole = ends;
      }

  -- it is upheld with each message that has a text, where it is with one
  pub upheld_with : (catalogue request : List Line) (message other : List (List ℕ)) → AllByRecursion HasText (map Message other) → IsUpheld catalogue request (report_text (Refused in_catalogue in_request steps message)) (Refused in_catalogue in_request steps message)
      → IsUpheld catalogue request (report_text (Refused in_catalogue in_request steps other)) (Refused in_catalogue in_request steps other)
  upheld_with catalogue request message other texts h = record {
    report = report_with message other texts h.report;
    is = refl;
    accepted = any_message catalogue request lines_between message other h.accepted;
  }
