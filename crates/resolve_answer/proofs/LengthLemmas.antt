-- A report is no shorter than its message.
use Rattle.std.proofs.Common.{◌≡◌, ℕ, ◌+◌, ◌≤◌, List, [], ◌∷◌, ◌++◌, map, length, ap, ◌∙◌, arith}
use Rattle.std.specs.Prelude.{codes}
use Rattle.std.proofs.lemmas.List.{length-append}
use Rattle.std.proofs.lemmas.List.Concat.{flat_map-append}
use Rattle.resolvo_report.specs.Value.{ReportLine, RefusedHead, CatalogueLine, RequestLine, Message, Step, Refused}
use Rattle.resolvo_report.specs.Text.{line_text, lines_text, numbered, report_text}
use Rattle.resolve_answer.specs.Message.{joined}

-- a line has a sign before it, in a report
message_longer : (message : List (List ℕ)) → length (joined message) ≤ length (lines_text (map Message message))
message_longer [] = omega arith
message_longer (line ∷ lines) =
    let bare : length ((line ++ codes "\n") ++ joined lines) ≡ length (line ++ codes "\n") + length (joined lines) = length-append (line ++ codes "\n") (joined lines) in
    let ends : length (line ++ codes "\n") ≡ length line + 1 = length-append line (codes "\n") in
    let shown : length (((codes "| " ++ line) ++ codes "\n") ++ lines_text (map Message lines)) ≡ length ((codes "| " ++ line) ++ codes "\n") + length (lines_text (map Message lines)) = length-append ((codes "| " ++ line) ++ codes "\n") (lines_text (map Message lines)) in
    let sign_ends : length ((codes "| " ++ line) ++ codes "\n") ≡ length (codes "| " ++ line) + 1 = length-append (codes "| " ++ line) (codes "\n") in
    let sign : length (codes "| " ++ line) ≡ 2 + length line = length-append (codes "| ") line in
    let rest : length (joined lines) ≤ length (lines_text (map Message lines)) = message_longer lines in
    omega arith

-- lines are no shorter than their last ones
ends_longer : (first last : List ReportLine) → length (lines_text last) ≤ length (lines_text (first ++ last))
ends_longer first last =
    let both : length (lines_text (first ++ last)) ≡ length (lines_text first) + length (lines_text last) =
    ap length (flat_map-append (λ (l : ReportLine). line_text l ++ codes "\n") first last) ∙ length-append (lines_text first) (lines_text last) in
    omega arith

at_most : (a b d e : ℕ) → a ≤ b → b ≤ d → d ≤ e → a ≤ e
at_most a b d e first second third = omega arith

pub report_longer : (catalogue request : List ℕ) (steps : List Step) (message : List (List ℕ)) → length (joined message) ≤ length (report_text (Refused catalogue request steps message))
report_longer catalogue request steps message =
    let shown : List ReportLine = map Message message in
    let named : List ReportLine = map CatalogueLine catalogue ++ map RequestLine request ++ numbered 1 steps in
    at_most (length (joined message)) (length (lines_text shown)) (length (lines_text (named ++ shown))) (length (lines_text (RefusedHead ∷ (named ++ shown))))
    (message_longer message) (ends_longer named shown) (ends_longer (RefusedHead ∷ []) (named ++ shown))
