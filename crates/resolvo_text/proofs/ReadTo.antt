-- Reading a text line by line, in any grammar: the invariant of a loop over `next_line`.
use Rattle.std.proofs.Common.{◌≡◌, ℕ, zero, suc, ◌+◌, ◌≤◌, List, [], ◌∷◌, ◌++◌, length, take, Option, Some, refl, sym, ap, subst, ◌∙◌, append_assoc, arith}
use Rattle.std.specs.Io.KnownBytes.{prepend_known}
use Rattle.std.proofs.lemmas.List.{append-nil, length-append, take-append-le}
use Rattle.std.proofs.Math.Seq.{take-append-add}
use Rattle.resolvo_text.specs.Device.{IfKnown, DeviceFailed}
use Rattle.resolvo_text.specs.Lines.{lines_of, newlines, whole_lines}
use Rattle.resolvo_text.specs.Reader.{TakesLine, IsReadFault}
use Rattle.resolvo_text.specs.Texts.{Grammar, Reads, IsGrammatical, IsFaultyAt, IsGoodSoFar, IsTextFault}
use Rattle.resolvo_text.specs.declared.lines.ReadFault.{ReadFault}
use Rattle.resolvo_text.specs.declared.lines.ReadFault.TheVariants.{Fault, Reader, TooLong, Memory, Ids}
use Rattle.resolvo_text.proofs.LineLemmas.{newlines-append}

-- Of the text these lines were read, so many, of at most `limit` bytes; this is left of it and of the room.
pub record IsReadTo {L : Type 0} (Parses : Grammar L) (text rest : List ℕ) (lines : List L) (number limit room : ℕ) : Type 0 where
  pub prefix : List ℕ
  pub texts : List (List ℕ)
  pub parts : text ≡ prefix ++ rest
  pub split : lines_of text ≡ texts ++ lines_of rest
  pub read : Reads Parses [] texts lines
  pub count : number ≡ length texts
  pub ended : newlines prefix ≤ number
  pub used : length prefix + room ≡ limit

-- the same of the device's bytes at first, and the rest of them
abbrev pub ReadTo : {L : Type 0} → Grammar L → Option (List ℕ) → Option (List ℕ) → List L → ℕ → ℕ → ℕ → Type 0
ReadTo Parses known left lines number limit room = IfKnown known (λ text. (rest : List ℕ) × (left ≡ Some rest) × IsReadTo Parses text rest lines number limit room)

-- A text spells one line at most after given lines.
abbrev pub IsUnambiguous : {L : Type 0} → Grammar L → Type 0
IsUnambiguous {L} Parses = (before : List L) (text : List ℕ) (a b : L) → Parses before text a → Parses before text b → a ≡ b

same_cons : {A : Type 0} (x y : A) (xs ys : List A) → ◌≡◌ {A = List A} (x ∷ xs) (y ∷ ys) → (x ≡ y) × (xs ≡ ys)
same_cons x y xs ys e = (cc, cc)

no_cons : {A : Type 0} (x : A) (xs : List A) → ◌≡◌ {A = List A} [] (x ∷ xs) → ⊥
no_cons x xs e = cc

module _ {L : Type 0} (Parses : Grammar L) where
  pub Reads-push : (before : List L) (texts : List (List ℕ)) (lines : List L) (text : List ℕ) (line : L) → Reads Parses before texts lines → Parses (before ++ lines) text line
      → Reads Parses before (texts ++ text ∷ []) (lines ++ line ∷ [])
  Reads-push before [] [] text line h new = (subst (λ (ls : List L). Parses ls text line) (append-nil before) new, tt)
  Reads-push before [] (l ∷ lines) text line h new = absurd h
  Reads-push before (t ∷ texts) [] text line h new = absurd h
  Reads-push before (t ∷ texts) (l ∷ lines) text line h new =
      (h.0, Reads-push (before ++ l ∷ []) texts lines text line h.1 (subst (λ (ls : List L). Parses ls text line) (sym (append_assoc before (l ∷ []) lines)) new))

  pub Reads-take : (n : ℕ) (before : List L) (texts : List (List ℕ)) (lines : List L) → Reads Parses before texts lines → Reads Parses before (take n texts) (take n lines)
  Reads-take zero before texts lines h = tt
  Reads-take (suc n) before [] [] h = tt
  Reads-take (suc n) before [] (l ∷ lines) h = absurd h
  Reads-take (suc n) before (t ∷ texts) [] h = absurd h
  Reads-take (suc n) before (t ∷ texts) (l ∷ lines) h = (h.0, Reads-take n (before ++ l ∷ []) texts lines h.1)

  -- ---- a loop over the lines

  pub at_start : (known left : Option (List ℕ)) (unread : List ℕ) (lines : List L) (limit room : ℕ) → left ≡ prepend_known unread known → unread ≡ [] → lines ≡ [] → room ≡ limit
      → ReadTo Parses known left lines 0 limit room
  at_start known left unread lines limit room is none no_lines same = λ text e. (
    text,
    is ∙ ap (λ (k : Option (List ℕ)). prepend_known unread k) e ∙ ap (λ (u : List ℕ). Some (u ++ text)) none,
    record {
      prefix = [];
      texts = [];
      parts = refl;
      split = refl;
      read = subst (λ (ls : List L). Reads Parses [] [] ls) (sym no_lines) tt;
      count = refl;
      ended = omega arith;
      used = omega arith;
    },
  )

  pub one_more : (known left after : Option (List ℕ)) (lines more : List L) (text : List ℕ) (line : L) (number limit room room_after : ℕ)
      → ReadTo Parses known left lines number limit room → TakesLine left room text after room_after → Parses lines text line → more ≡ lines ++ line ∷ [] → ReadTo Parses known after more (number + 1) limit room_after
  one_more known left after lines more text line number limit room room_after so_far taken new is = λ all e.
      let h = so_far all e in
      let r = h.2 in
      let t = taken h.0 h.1 in
      let parts : all ≡ (r.prefix ++ t.0) ++ t.1 = r.parts ∙ ap (λ (bs : List ℕ). r.prefix ++ bs) t.3.parts ∙ sym (append_assoc r.prefix t.0 t.1) in
      let split : lines_of all ≡ (r.texts ++ text ∷ []) ++ lines_of t.1 = r.split ∙ ap (λ (ls : List (List ℕ)). r.texts ++ ls) t.3.lines ∙ sym (append_assoc r.texts (text ∷ []) (lines_of t.1)) in (
        t.1,
        t.2,
        record {
          prefix = r.prefix ++ t.0;
          texts = r.texts ++ text ∷ [];
          parts = parts;
          split = split;
          read = subst (λ (ls : List L). Reads Parses [] (r.texts ++ text ∷ []) ls) (sym is) (Reads-push [] r.texts lines text line r.read new);
          count = omega (arith, r.count, length-append r.texts (text ∷ []));
          ended = omega (arith, r.ended, t.3.one, newlines-append r.prefix t.0);
          used = omega (arith, r.used, t.4, length-append r.prefix t.0);
        },
      )

  -- the lines that end among the bytes read are among the lines read
  good_so_far : (text rest received : List ℕ) (lines : List L) (number limit room : ℕ) → IsReadTo Parses text rest lines number limit room → newlines received ≤ number → IsGoodSoFar Parses text received
  good_so_far text rest received lines number limit room r few =
      let within : newlines received ≤ length r.texts = omega (arith, r.count) in
      let whole : whole_lines text received ≡ take (newlines received) r.texts = ap (λ (ls : List (List ℕ)). take (newlines received) ls) r.split ∙ take-append-le (newlines received) r.texts (lines_of rest) within in
      (take (newlines received) lines, subst (λ (ts : List (List ℕ)). Reads Parses [] ts (take (newlines received) lines)) (sym whole) (Reads-take (newlines received) [] r.texts lines r.read))

  -- where the next line can't be read, the whole lines before it are good
  pub read_fails : (e : ReadFault) (known left after : Option (List ℕ)) (lines : List L) (number limit room failures failures_before failures_now interruptions : ℕ)
      → ReadTo Parses known left lines number limit room → failures ≡ failures_before → IsReadFault e left after room (DeviceFailed failures failures_now interruptions)
      → IsTextFault Parses e known after limit (DeviceFailed failures_before failures_now interruptions)
  read_fails (Fault n) known left after lines number limit room failures failures_before failures_now interruptions so_far same h = absurd h
  read_fails Reader known left after lines number limit room failures failures_before failures_now interruptions so_far same h = (
    subst (λ (n : ℕ). DeviceFailed n failures_now interruptions) same h.0,
    λ all e.
        let s = so_far all e in
        let r = s.2 in
        let d = h.1 s.0 s.1 in
        record {
          received = r.prefix ++ d.0;
          rest = d.1;
          left = d.2;
          parts = r.parts ∙ ap (λ (bs : List ℕ). r.prefix ++ bs) d.3 ∙ sym (append_assoc r.prefix d.0 d.1);
          good = good_so_far all s.0 (r.prefix ++ d.0) lines number limit room r (omega (arith, r.ended, newlines-append r.prefix d.0, d.4));
        },
  )
  read_fails TooLong known left after lines number limit room failures failures_before failures_now interruptions so_far same h = λ all e.
      let s = so_far all e in
      let r = s.2 in
      let d = h s.0 s.1 in
      let sum : limit ≡ length r.prefix + room = omega (arith, r.used) in
      let prefix : take limit all ≡ r.prefix ++ take room s.0 = ap (λ (bs : List ℕ). take limit bs) r.parts ∙ ap (λ (n : ℕ). take n (r.prefix ++ s.0)) sum ∙ take-append-add r.prefix s.0 room in
      let few : newlines (take limit all) ≤ number = omega (arith, ap newlines prefix, newlines-append r.prefix (take room s.0), d.1, r.ended) in
      (omega (arith, ap (λ (bs : List ℕ). length bs) r.parts, length-append r.prefix s.0, d.0, r.used), good_so_far all s.0 (take limit all) lines number limit room r few)
  read_fails Memory known left after lines number limit room failures failures_before failures_now interruptions so_far same h = tt
  read_fails Ids known left after lines number limit room failures failures_before failures_now interruptions so_far same h = absurd h

  -- ---- laws of a grammar in which a text spells one line at most

  pub same_lines : IsUnambiguous Parses → (before : List L) (texts : List (List ℕ)) (xs ys : List L) → Reads Parses before texts xs → Reads Parses before texts ys → xs ≡ ys
  same_lines one before [] [] [] h k = refl
  same_lines one before [] [] (y ∷ ys) h k = absurd k
  same_lines one before [] (x ∷ xs) ys h k = absurd h
  same_lines one before (t ∷ texts) [] ys h k = absurd h
  same_lines one before (t ∷ texts) (x ∷ xs) [] h k = absurd k
  same_lines one before (t ∷ texts) (x ∷ xs) (y ∷ ys) h k =
      let same : x ≡ y = one before t x y h.0 k.0 in
      let rest : xs ≡ ys = same_lines one (before ++ y ∷ []) texts xs ys (subst (λ (l : L). Reads Parses (before ++ l ∷ []) texts xs) same h.1) k.1 in
      ap (λ (l : L). l ∷ xs) same ∙ ap (λ (ls : List L). y ∷ ls) rest

  no_fault_from : IsUnambiguous Parses → (before : List L) (texts above below : List (List ℕ)) (faulty : List ℕ) (lines read : List L) → texts ≡ above ++ faulty ∷ below
      → Reads Parses before texts lines → Reads Parses before above read → ((line : L) → Parses (before ++ read) faulty line → ⊥) → ⊥
  no_fault_from one before [] [] below faulty lines read e whole part none = no_cons faulty below e
  no_fault_from one before (text ∷ texts) [] below faulty [] read e whole part none = whole
  no_fault_from one before (text ∷ texts) [] below faulty (line ∷ lines) [] e whole part none =
      let p = same_cons text faulty texts below e in
      none line (subst (λ (ls : List L). Parses ls faulty line) (sym (append-nil before)) (subst (λ (t : List ℕ). Parses before t line) p.0 whole.0))
  no_fault_from one before (text ∷ texts) [] below faulty (line ∷ lines) (other ∷ read) e whole part none = part
  no_fault_from one before [] (first ∷ above) below faulty lines read e whole part none = no_cons first (above ++ faulty ∷ below) e
  no_fault_from one before (text ∷ texts) (first ∷ above) below faulty [] read e whole part none = whole
  no_fault_from one before (text ∷ texts) (first ∷ above) below faulty (line ∷ lines) [] e whole part none = part
  no_fault_from one before (text ∷ texts) (first ∷ above) below faulty (line ∷ lines) (other ∷ read) e whole part none =
      let p = same_cons text first texts (above ++ faulty ∷ below) e in
      let same : line ≡ other = one before first line other (subst (λ (t : List ℕ). Parses before t line) p.0 whole.0) part.0 in
      no_fault_from one (before ++ line ∷ []) texts above below faulty lines read p.1 whole.1 (subst (λ (l : L). Reads Parses (before ++ l ∷ []) above read) (sym same) part.1)
      (λ l h. none l (subst (λ (ls : List L). Parses ls faulty l) (append_assoc before (line ∷ []) read ∙ ap (λ (o : L). before ++ o ∷ read) same) h))

  -- a grammatical text has no faulty line
  pub no_fault : IsUnambiguous Parses → (text : List ℕ) (lines : List L) (n : ℕ) → IsGrammatical Parses text lines → IsFaultyAt Parses text n → ⊥
  no_fault one text lines n whole fault = no_fault_from one [] (lines_of text) fault.above fault.below fault.faulty lines fault.before fault.lines whole fault.read fault.none
