-- A request's lines with one more, by the kind of the line.
use Rattle.std.proofs.Common.{◌≡◌, inl, inr, is_some, ℕ, zero, suc, true, false, ◌+◌, List, [], ◌∷◌, ◌++◌, map, length, take, Option, Some, None, refl, sym, ap, subst, ◌∙◌, add-one, arith, option_map}
use Rattle.std.specs.Prelude.{Contains, slice_get, nat_eq, option_and_then}
use Rattle.std.specs.BTreeMap.{get}
use Rattle.std.specs.Ordering.{nat_cmp}
use Rattle.std.specs.Map.{update}
use Rattle.std.proofs.lemmas.Bool.Decides.{Decides-eqb}
use Rattle.std.proofs.lemmas.List.{map_push, take-append-le}
use Rattle.std.proofs.Math.Seq.{take-append_seam}
use Rattle.std.proofs.lemmas.Option.{slice_get-map, slice_get_within}
use Rattle.resolvo_text.specs.View.{version_of}
use Rattle.resolvo_text.specs.Line.{Version, Line, Skipped, Listed, Needs, Limits, Unknown, Lock, Favour, Exclude, Many, Wish}
use Rattle.resolvo_text.specs.declared.spec.Version as code
use Rattle.resolvo_catalogue_core.specs.Grammar.{line_at, owner_below, MayFollowInRequest, IsRequestLine, AreRequestLines}
use Rattle.resolvo_catalogue_core.specs.Listed.{listed, AreDistinct}
use Rattle.resolvo_catalogue_core.specs.Questions.{AreAll, LineIs, IsVersionLine, Wishes, WishesAt, IsWish, IsRuleLine, is_rule, wished_in}
use Rattle.resolvo_catalogue_core.specs.RequestLines.{rule_line, asked, asked_lines, IsAsk, IsAskedRule, KeepsAsks, AreAsks, AddsAsk, ask_at, rule_asked, wish_asked}
use Rattle.resolvo_catalogue_core.specs.declared.rule.VersionNo.{VersionNo}
use Rattle.resolvo_catalogue_core.specs.declared.rule.Rule.{Rule}
use Rattle.resolvo_catalogue_core.specs.declared.rule.Rule.TheVariants as rule
use Rattle.resolvo_catalogue_core.specs.declared.request_lines.RequestLine.{RequestLine}
use Rattle.resolvo_catalogue_core.specs.declared.request_lines.RequestLine.TheVariants as ask
use Rattle.resolvo_catalogue_core.specs.declared.request_lines.RequestLines.{RequestLines}
use Rattle.resolvo_terms.proofs.Places.{get_new, get_push}
use Rattle.resolvo_catalogue_core.proofs.Pushed.{at_kept, Grows, only_other, all_other, all_new, keyed_new, line_grows, line_within, version_line_grows}
use Rattle.resolvo_catalogue_core.proofs.TableLemmas.{listed_from}
use Rattle.resolvo_catalogue_core.proofs.PlaceLemmas.{none_from, some_from, line_from_contains, contains_from_line}

-- ---- any line

asks_push : (xs : List RequestLine) (x : RequestLine) → ((n : ℕ) (y : RequestLine) → slice_get xs n ≡ Some y → IsAsk y) → IsAsk x → (n : ℕ) (y : RequestLine) → slice_get (xs ++ x ∷ []) n ≡ Some y → IsAsk y
asks_push xs x were new n y at = elim (get_push xs x y n at) [ inl old ↦ were n y old | inr here ↦ subst IsAsk here.1 new ]

adds_from : (vs : List Version) (a b : RequestLines) (x : RequestLine) (l : Line) → b.asks.items ≡ a.asks.items ++ x ∷ [] → asked x ≡ l → KeepsAsks b vs (asked_lines a ++ l ∷ []) → AddsAsk vs a l b
adds_from vs a b x l more is keeps =
    let lines : asked_lines b ≡ asked_lines a ++ l ∷ [] = rw (more, ← is) (map_push asked a.asks.items x) in
    (rw lines keeps, lines)

wishes_kept : (vs : List Version) (lines : List Line) (l : Line) (f : ℕ × VersionNo) → WishesAt vs lines f → WishesAt vs (lines ++ l ∷ []) f
wishes_kept vs lines l f h = (h.0, h.1, at_kept lines l f.0 (Wish h.0) h.2)

-- a line that is no wish
pub plain : (vs : List Version) (a b : RequestLines) (x : RequestLine) (l : Line) → AreAsks vs a → b.asks.items ≡ a.asks.items ++ x ∷ [] → asked x ≡ l → IsAsk x → ((v : Version) (o : Option Version) → Wishes v o l → ⊥) → ((o : Option Version) → IsWish o l → ⊥)
    → AddsAsk vs a l (record a { asks = b.asks })
plain vs a b x l keeps more is ok no_wish not_wish =
    let lines = asked_lines a in
    adds_from vs a (record a { asks = b.asks }) x l more is (record {
      asks = rw more (asks_push a.asks.items x keeps.asks ok);
      wished = λ k. only_other (keeps.wished k) (version_line_grows vs lines l k Wishes) (λ h. no_wish h.0 (owner_below lines) h.2);
      wish_lines = all_other keeps.wish_lines (line_grows lines l IsWish) (not_wish (owner_below lines));
      wish_versions = λ i f at. wishes_kept vs lines l f (keeps.wish_versions i f at);
    })

-- ---- a wish

pub wish : (vs : List Version) → AreDistinct vs → (a b : RequestLines) (line : ℕ) (k : VersionNo) (v : code.Version) → AreAsks vs a → line ≡ length (asked_lines a) + 1 → slice_get vs k.0 ≡ Some (version_of v) → is_some (get nat_cmp a.wished k.0) ≡ false
    → b.asks.items ≡ a.asks.items ++ ask.Wish v ∷ [] → b.wishes.items ≡ a.wishes.items ++ (line, k) ∷ [] → ((j : ℕ) → get nat_cmp b.wished j ≡ update nat_eq (get nat_cmp a.wished) k.0 (Some line) j) → AddsAsk vs a (Wish (version_of v)) b
wish vs distinct a b line k v keeps number at absent more pushed marked =
    let lines = asked_lines a in
    let l : Line = Wish (version_of v) in
    let grows : Grows (λ n. LineIs lines n IsWish) (λ n. LineIs (lines ++ l ∷ []) n IsWish) line (IsWish (owner_below lines) l) = rw number (line_grows lines l IsWish) in
    adds_from vs a b (ask.Wish v) l more refl (record {
      asks = rw more (asks_push a.asks.items (ask.Wish v) keeps.asks tt);
      wished = keyed_new nat_eq Decides-eqb (get nat_cmp a.wished) (get nat_cmp b.wished) k.0 line (λ j. IsVersionLine vs lines j Wishes) (λ j. IsVersionLine vs (lines ++ l ∷ []) j Wishes) (λ j. (w : Version) × (slice_get vs j ≡ Some w) × (version_of v ≡ w))
          marked (none_from (get nat_cmp a.wished k.0) absent) keeps.wished (λ j. rw number (version_line_grows vs lines l j Wishes)) (version_of v, at, refl) (λ j h. distinct (version_of v) k.0 j at (h.1 ∙ ap (λ (x : Version). Some x) (sym h.2)));
      wish_lines = subst (λ (xs : List ℕ). AreAll xs (λ n. LineIs (lines ++ l ∷ []) n IsWish)) (sym (ap (map (λ (f : ℕ × VersionNo). f.0)) pushed ∙ map_push (λ (f : ℕ × VersionNo). f.0) a.wishes.items (line, k)))
          (all_new keeps.wish_lines grows (λ n is. rw number (line_within lines IsWish n is)) tt);
      wish_versions = λ i f at_f.
          elim (get_push a.wishes.items (line, k) f i (rw (← pushed) at_f)) [
            | inl old ↦ wishes_kept vs lines l f (keeps.wish_versions i f old)
            | inr new ↦ subst (λ (x : ℕ × VersionNo). WishesAt vs (lines ++ l ∷ []) x) new.1 (version_of v, at, rw (number, add-one) (get_new lines l))
          ];
    })

pub wish_placed : (catalogue : List Line) (a : RequestLines) → AreAsks (listed catalogue) a → (v : Version) (k : ℕ) → slice_get (listed catalogue) k ≡ Some v → is_some (get nat_cmp a.wished k) ≡ false → MayFollowInRequest catalogue (asked_lines a) (Wish v)
wish_placed catalogue a keeps v k at absent =
    let none = none_from (get nat_cmp a.wished k) absent in (
      listed_from catalogue v k at,
      λ has.
          let h = line_from_contains (asked_lines a) (Wish v) (Wishes v) has (λ owner. refl) in
          none_is_some h.0 (sym none ∙ (keeps.wished k h.0).1 (v, at, h.1)),
    )
  where
    none_is_some : (n : ℕ) → ◌≡◌ {A = Option ℕ} None (Some n) → ⊥
    none_is_some n e = cc

pub wished_twice : (catalogue : List Line) (a : RequestLines) → AreAsks (listed catalogue) a → (v : Version) (k : ℕ) → slice_get (listed catalogue) k ≡ Some v → is_some (get nat_cmp a.wished k) ≡ true → MayFollowInRequest catalogue (asked_lines a) (Wish v) → ⊥
wished_twice catalogue a keeps v k here present may =
    let some = some_from (get nat_cmp a.wished k) present in
    of_version some.0 ((keeps.wished k some.0).0 some.1)
  where
    from_line : (n : ℕ) (w : Version) → w ≡ v → LineIs (asked_lines a) n (Wishes w) → ⊥
    from_line n w is (Wish x, at, same) = may.1 (subst (λ (y : Version). Contains (asked_lines a) (Wish y)) (same ∙ is) (contains_from_line (asked_lines a) n (Wish x) at))
    from_line n w is (Skipped, at, same) = same
    from_line n w is (Listed x, at, same) = same
    from_line n w is (Needs ss c, at, same) = same
    from_line n w is (Limits s, at, same) = same
    from_line n w is (Unknown r, at, same) = same
    from_line n w is (Lock x, at, same) = same
    from_line n w is (Favour x, at, same) = same
    from_line n w is (Many name, at, same) = same
    from_line n w is (Exclude x r, at, same) = same

    of_version : (n : ℕ) → IsVersionLine (listed catalogue) (asked_lines a) k Wishes n → ⊥
    of_version n (w, there, line) = let same : w ≡ v = cc in from_line n w same line

-- ---- rules

asked_rule_is_line : (versions : List Version) (r : Rule) → IsAskedRule r → IsRuleLine versions r None (rule_line r)
asked_rule_is_line versions (rule.Needs None ss c) h = (refl, refl)
asked_rule_is_line versions (rule.Needs (Some n) ss c) h = absurd cc
asked_rule_is_line versions (rule.Limits None s) h = (refl, refl)
asked_rule_is_line versions (rule.Limits (Some n) s) h = absurd cc
asked_rule_is_line versions (rule.Unknown of w) h = absurd h
asked_rule_is_line versions (rule.Lock k) h = absurd h
asked_rule_is_line versions (rule.Exclude k w) h = absurd h

asked_by : (o : Option RequestLine) (r : Rule) → option_and_then rule_asked o ≡ Some r → o ≡ Some (ask.Rule r)
asked_by None r e = absurd cc
asked_by (Some (ask.Rule x)) r e = cc
asked_by (Some ask.Nothing) r e = absurd cc
asked_by (Some (ask.Wish v)) r e = absurd cc

-- where a rule is stored for a line, it is that line's rule
pub asked_rule : (a : RequestLines) (lines : List Line) → asked_lines a ≡ lines → ((n : ℕ) (x : RequestLine) → slice_get a.asks.items n ≡ Some x → IsAsk x) → (n : ℕ) (r : Rule) → option_and_then rule_asked (ask_at a.asks.items n) ≡ Some r
    → (l : Line) × (line_at lines n ≡ Some l) × ((versions : List Version) → IsRuleLine versions r None l)
asked_rule a lines is ok zero r e = absurd cc
asked_rule a lines is ok (suc n) r e =
    let at = asked_by (slice_get a.asks.items n) r e in
    (rule_line r, ap (λ (ls : List Line). slice_get ls n) (sym is) ∙ slice_get-map asked a.asks.items n ∙ ap (λ (o : Option RequestLine). option_map asked o) at, λ versions. asked_rule_is_line versions r (ok n (ask.Rule r) at))

no_asked_rule : (x : RequestLine) → rule_asked x ≡ None → is_rule (asked x) ≡ false
no_asked_rule ask.Nothing e = refl
no_asked_rule (ask.Wish v) e = refl
no_asked_rule (ask.Rule r) e = absurd cc

pub no_rule : (a : RequestLines) (lines : List Line) → asked_lines a ≡ lines → (n : ℕ) → option_and_then rule_asked (ask_at a.asks.items n) ≡ None → (l : Line) → line_at lines n ≡ Some l → is_rule l ≡ false
no_rule a lines is zero e l at = absurd cc
no_rule a lines is (suc n) e l at = from_ask (slice_get a.asks.items n) e (sym (slice_get-map asked a.asks.items n) ∙ ap (λ (ls : List Line). slice_get ls n) is ∙ at)
  where
    from_ask : (o : Option RequestLine) → option_and_then rule_asked o ≡ None → option_map asked o ≡ Some l → is_rule l ≡ false
    from_ask None e at = absurd cc
    from_ask (Some x) e at = let same : asked x ≡ l = cc in subst (λ (y : Line). is_rule y ≡ false) same (no_asked_rule x e)

-- ---- the lines that were read

pub no_lines : (catalogue lines : List Line) → lines ≡ [] → AreRequestLines catalogue lines
no_lines catalogue lines none = rw none (λ n l at. absurd (not_there n l at))
  where
    not_there : (n : ℕ) (l : Line) → slice_get [] n ≡ Some l → ⊥
    not_there n l e = cc

pub lines_push : (catalogue lines more : List Line) (text : List ℕ) (line : Line) → AreRequestLines catalogue lines → IsRequestLine catalogue lines text line → more ≡ lines ++ line ∷ [] → AreRequestLines catalogue more
lines_push catalogue lines more text line are new is = rw is (λ n l at.
    elim (get_push lines line l n at) [
      | inl old ↦ subst (λ (ls : List Line). (text : List ℕ) × IsRequestLine catalogue ls text l) (sym (take-append-le n lines (line ∷ []) (omega (arith, slice_get_within lines n l old)))) (are n l old)
      | inr here ↦
          let above : take n (lines ++ line ∷ []) ≡ lines = rw here.0 (take-append_seam lines (line ∷ [])) in
          subst (λ (ls : List Line). (text : List ℕ) × IsRequestLine catalogue ls text l) (sym above) (text, subst (λ (x : Line). IsRequestLine catalogue lines text x) here.1 new)
    ])

-- the stored form of a line, and the version of its wish
pub asked_wish : (a : RequestLines) (lines : List Line) → asked_lines a ≡ lines → (n : ℕ) → option_map version_of (option_and_then wish_asked (ask_at a.asks.items n)) ≡ wished_in (line_at lines n)
asked_wish a lines is zero = refl
asked_wish a lines is (suc n) =
    from_ask (slice_get a.asks.items n)
    ∙ ap wished_in (sym (slice_get-map asked a.asks.items n) ∙ ap (λ (ls : List Line). slice_get ls n) is)
  where
    from_rule : (r : Rule) → None ≡ wished_in (Some (rule_line r))
    from_rule (rule.Needs of ss c) = refl
    from_rule (rule.Limits of s) = refl
    from_rule (rule.Unknown of w) = refl
    from_rule (rule.Lock k) = refl
    from_rule (rule.Exclude k w) = refl

    from_ask : (o : Option RequestLine) → option_map version_of (option_and_then wish_asked o) ≡ wished_in (option_map asked o)
    from_ask None = refl
    from_ask (Some ask.Nothing) = refl
    from_ask (Some (ask.Wish v)) = refl
    from_ask (Some (ask.Rule r)) = from_rule r
