-- The bytes that a device took, line by line.
use Rattle.std.proofs.Common.{◌≡◌, ℕ, zero, suc, ◌+◌, ◌<◌, List, [], ◌∷◌, ◌++◌, length, take, drop, get_or, map, Option, Some, None, Result, Ok, Err, refl, sym, ap, subst, ◌∙◌, append_assoc, append-nil, take-append-drop, add-one, arith}
use Rattle.std.specs.Prelude.{codes, IfErr, OnOk}
use Rattle.std.specs.Io.KnownBytes.{Appends}
use Rattle.std.proofs.KnownBytes.{Appends-trans}
use Rattle.std.proofs.lemmas.Grind.{flat_map-append}
use Rattle.std.proofs.lemmas.List.{drop_more}
use Rattle.std.proofs.Math.Seq.{take-suc}
use Rattle.resolvo_text.specs.Device.{WriterFailed}
use Rattle.resolvo_report.specs.declared.write.ReportWriteFault.{ReportWriteFault}
use Rattle.resolvo_report.specs.declared.write.ReportWriteFault.TheVariants.{Memory}
use Rattle.resolvo_report.specs.Value.{Step, AnswerLine, Install, Refused, ReportLine, Answer, CatalogueLine, RequestLine, Numbered, Message}
use Rattle.resolvo_report.specs.Text.{line_text, lines_text, numbered, report_text}
use Rattle.resolvo_report.specs.Write.{Wrote, StopsWriting}

pub wrote_nothing : (a : Option (List ℕ)) (f e : ℕ) → Wrote a a f f e e []
wrote_nothing None f e = (tt, refl, refl)
wrote_nothing (Some xs) f e = (sym (append-nil xs), refl, refl)

pub wrote_more : (a b c : Option (List ℕ)) (fa fb fc ea eb ec : ℕ) (first more all : List ℕ) → Wrote a b fa fb ea eb first → Wrote b c fb fc eb ec more → first ++ more ≡ all → Wrote a c fa fc ea ec all
wrote_more a b c fa fb fc ea eb ec first more all p q is = (subst (λ (t : List ℕ). Appends a c t) is (Appends-trans a b c first more p.0 q.0), q.1 ∙ p.1, q.2 ∙ p.2)

-- want of memory after some text
pub stops_there : (a b : Option (List ℕ)) (fa fb i ea eb : ℕ) (first rest all : List ℕ) → Wrote a b fa fb ea eb first → all ≡ first ++ rest → StopsWriting Memory a b fa fb i ea eb all
stops_there a b fa fb i ea eb first rest all p is = ((first, rest, is, p.0), λ e. absurd cc)

-- a stop after some text
pub stops_later : (e : ReportWriteFault) (a b c : Option (List ℕ)) (fa fb fc i ea eb ec : ℕ) (first more rest all : List ℕ) → Wrote a b fa fb ea eb first → StopsWriting e b c fb fc i eb ec more → all ≡ first ++ (more ++ rest) → StopsWriting e a c fa fc i ea ec all
stops_later e a b c fa fb fc i ea eb ec first more rest all p q is =
    let prefix = q.0.0 in
    let left = q.0.1 in
    let parts : all ≡ (first ++ prefix) ++ (left ++ rest) = is ∙ ap (λ (t : List ℕ). first ++ (t ++ rest)) q.0.2 ∙ ap (λ (t : List ℕ). first ++ t) (append_assoc prefix left rest) ∙ sym (append_assoc first prefix (left ++ rest)) in
    ((first ++ prefix, left ++ rest, parts, Appends-trans a b c first prefix p.0 q.0.3), λ w. subst (λ (n : ℕ). WriterFailed n fc i ea ec) p.1 (subst (λ (n : ℕ). WriterFailed fb fc i n ec) p.2 (q.1 w)))

-- a stop in the first text
pub stops_first : (e : ReportWriteFault) (a b : Option (List ℕ)) (fa fb i ea eb : ℕ) (more rest all : List ℕ) → StopsWriting e a b fa fb i ea eb more → all ≡ more ++ rest → StopsWriting e a b fa fb i ea eb all
stops_first e a b fa fb i ea eb more rest all q is =
    ((q.0.0, q.0.1 ++ rest, is ∙ ap (λ (t : List ℕ). t ++ rest) q.0.2 ∙ append_assoc q.0.0 q.0.1 rest, q.0.3), q.1)

-- ---- the lines so far, and the next

abbrev with_newline : ReportLine → List ℕ
with_newline l = line_text l ++ codes "\n"

pub lines_next : (ls : List ReportLine) (i : ℕ) (l : ReportLine) → i < length ls → get_or ls i l ≡ l → lines_text (take i ls) ++ with_newline l ≡ lines_text (take (i + 1) ls)
lines_next ls i l lt is = sym (
    ap (λ (n : ℕ). lines_text (take n ls)) (add-one i) ∙ ap lines_text (take-suc ls i l lt) ∙ flat_map-append with_newline (take i ls) (get_or ls i l ∷ [])
    ∙ ap (λ (t : List ℕ). lines_text (take i ls) ++ t) (append-nil (with_newline (get_or ls i l))) ∙ ap (λ (x : ReportLine). lines_text (take i ls) ++ with_newline x) is)

-- all lines are those so far, the next and the rest
pub lines_split : (ls : List ReportLine) (i : ℕ) (l : ReportLine) → i < length ls → get_or ls i l ≡ l → lines_text ls ≡ lines_text (take i ls) ++ (with_newline l ++ lines_text (drop (i + 1) ls))
lines_split ls i l lt is =
    ap lines_text (sym (take-append-drop i ls)) ∙ flat_map-append with_newline (take i ls) (drop i ls)
    ∙ ap (λ (xs : List ReportLine). lines_text (take i ls) ++ lines_text xs) (drop_more ls i l lt ∙ ap (λ (x : ReportLine). x ∷ drop (i + 1) ls) is)

pub lines_rest : (ls : List ReportLine) (i : ℕ) → lines_text ls ≡ lines_text (take i ls) ++ lines_text (drop i ls)
lines_rest ls i = ap lines_text (sym (take-append-drop i ls)) ∙ flat_map-append with_newline (take i ls) (drop i ls)

pub lines_both : (xs ys : List ReportLine) → lines_text (xs ++ ys) ≡ lines_text xs ++ lines_text ys
lines_both xs ys = flat_map-append with_newline xs ys

-- ---- numbered steps

pub length-numbered : (n : ℕ) (ss : List Step) → length (numbered n ss) ≡ length ss
length-numbered n [] = refl
length-numbered n (s ∷ ss) = omega (arith, length-numbered (n + 1) ss)

pub numbered_at : (n i : ℕ) (ss : List Step) (s : Step) (d : ReportLine) → i < length ss → get_or ss i s ≡ s → get_or (numbered n ss) i d ≡ Numbered (n + i) s
numbered_at n i [] s d lt is = absurd (omega (arith, lt))
numbered_at n zero (t ∷ ss) s d lt is = ap (λ (x : Step). Numbered n x) is ∙ ap (λ (k : ℕ). Numbered k s) (omega arith)
numbered_at n (suc i) (t ∷ ss) s d lt is = numbered_at (n + 1) i ss s d (omega (arith, lt)) is ∙ ap (λ (k : ℕ). Numbered k s) (omega arith)

-- ---- whole reports

pub install_text : (ls : List AnswerLine) (ss : List Step) → report_text (Install ls ss) ≡ codes "install\n" ++ (lines_text (map Answer ls) ++ lines_text (numbered 1 ss))
install_text ls ss = ap (λ (t : List ℕ). codes "install\n" ++ t) (lines_both (map Answer ls) (numbered 1 ss))

pub refused_text : (cs rs : List ℕ) (ss : List Step) (ms : List (List ℕ)) → report_text (Refused cs rs ss ms)
    ≡ codes "refused\n" ++ (lines_text (map CatalogueLine cs) ++ (lines_text (map RequestLine rs) ++ (lines_text (numbered 1 ss) ++ lines_text (map Message ms))))
refused_text cs rs ss ms =
    let c = map CatalogueLine cs in
    let r = map RequestLine rs in
    let n = numbered 1 ss in
    let m = map Message ms in
    ap (λ (t : List ℕ). codes "refused\n" ++ t) (
    lines_both (c ++ r ++ n) m ∙ ap (λ (t : List ℕ). t ++ lines_text m) (lines_both (c ++ r) n ∙ ap (λ (t : List ℕ). t ++ lines_text n) (lines_both c r))
    ∙ append_assoc (lines_text c ++ lines_text r) (lines_text n) (lines_text m) ∙ append_assoc (lines_text c) (lines_text r) (lines_text n ++ lines_text m))

pub if_err : {A E : Type 0} {P Q : E → Type 0} (r : Result A E) → ((e : E) → P e → Q e) → IfErr r P → IfErr r Q
if_err (Ok a) f h = tt
if_err (Err e) f h = f e h

pub on_ok : {A E : Type 0} {P Q : Type 0} (r : Result A E) → (P → Q) → OnOk r P → OnOk r Q
on_ok (Ok a) f h = f h
on_ok (Err e) f h = tt
