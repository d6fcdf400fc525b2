-- What a rule by numbers says of its line: whether it excludes a version, and what a test of the rule decides.
use Rattle.std.proofs.Common.{◌≡◌, ℕ, Bool, true, false, List, Option, Some, None, Result, Ok, Err, sym, ap, subst, ◌∙◌}
use Rattle.std.specs.Prelude.{Decides, IfOk, slice_get}
use Rattle.std.proofs.lemmas.Bool.{false≢true}
use Rattle.std.proofs.lemmas.Option.{slice_get-get_or, get_or_from_slice_get}
use Rattle.resolvo_text.specs.Line.{Version, Spec, Line, Exclude}
use Rattle.resolvo_pool_core.specs.declared.id.StringId.{StringId}
use Rattle.resolvo_terms.specs.Terms.{Terms}
use Rattle.resolvo_terms.specs.Known.{word_text}
use Rattle.resolvo_catalogue_core.specs.Grammar.{line_at, owner_of}
use Rattle.resolvo_catalogue_core.specs.Kept.{nth, nowhere, IsKeptLine}
use Rattle.resolvo_catalogue_core.specs.Listed.{listed, AreDistinct}
use Rattle.resolvo_catalogue_core.specs.Questions.{is_rule}
use Rattle.resolvo_catalogue_core.specs.declared.rule.VersionNo.{VersionNo}
use Rattle.resolvo_catalogue_core.specs.declared.kept_rule.KeptRule.{KeptRule}
use Rattle.resolvo_catalogue_core.specs.declared.kept_rule.KeptRule.TheVariants as kept
use Rattle.resolve_refusal.specs.Lines.{IsLineAt, IsCaseOf, IsCaseAt, NeedsIn}

module _ (t : Terms) (versions : List Version) (owner : Option Version) (line : Line) where
  module _ (excluded : VersionNo) (w : StringId) (number : ℕ) (v : Version) (at : slice_get versions number ≡ Some v) (h : IsKeptLine t versions (kept.Exclude excluded w) owner line) where
    -- a rule that excludes a version by its number
    pub excludes_it : (word : List ℕ) → excluded.0 ≡ number → word_text t w ≡ word → line ≡ Exclude v word
    excludes_it word same text =
        let version : nth versions excluded ≡ v = get_or_from_slice_get versions excluded.0 v nowhere (ap (slice_get versions) same ∙ at) in
        sym h.is ∙ ap (λ (x : Version). Exclude x (word_text t w)) version ∙ ap (λ (x : List ℕ). Exclude v x) text

    -- it names the version's only number, and the word's
    pub excluded_so : (word : List ℕ) → AreDistinct versions → line ≡ Exclude v word → (excluded.0 ≡ number) × (word_text t w ≡ word)
    excluded_so word distinct e =
        let both : Exclude (nth versions excluded) (word_text t w) ≡ Exclude v word = h.is ∙ e in
        let version : nth versions excluded ≡ v = cc in
        (distinct v excluded.0 number (slice_get-get_or versions excluded.0 nowhere h.of ∙ ap (λ (x : Version). Some x) version) at, cc)

-- ---- lines of a catalogue, as they are kept

-- both are the line at one place
pub one_line : (lines kept : List Line) → kept ≡ lines → (n : ℕ) (l written : Line) → line_at kept n ≡ Some l → line_at lines n ≡ Some written → l ≡ written
one_line lines kept same n l written at there = (let both : Some l ≡ Some written = sym at ∙ ap (λ (ls : List Line). line_at ls n) same ∙ there in cc)

-- the line of a rule that is kept, by the same lines and terms
pub kept_at : (lines kept : List Line) → kept ≡ lines → (t u : Terms) → u ≡ t → (n : ℕ) (r : KeptRule) → (l : Line) × (line_at kept n ≡ Some l) × IsKeptLine t (listed kept) r (owner_of kept n) l
    → (l : Line) × (line_at lines n ≡ Some l) × IsKeptLine u (listed kept) r (owner_of kept n) l
kept_at lines kept same t u terms n r (l, at, is) = (l, ap (λ (ls : List Line). line_at ls n) (sym same) ∙ at, subst (λ (x : Terms). IsKeptLine x (listed kept) r (owner_of kept n) l) (sym terms) is)

-- what a test of the rule decides of the line
pub kept_decides : (lines kept : List Line) → kept ≡ lines → (t u : Terms) → u ≡ t → (n : ℕ) (r : KeptRule) (line : Line) (b : Bool) → (l : Line) × (line_at kept n ≡ Some l) × IsKeptLine t (listed kept) r (owner_of kept n) l
    → ((l : Line) → IsKeptLine u (listed kept) r (owner_of kept n) l → Decides b (l ≡ line)) → Decides b (IsLineAt lines line n)
kept_decides lines kept same t u terms n r line b found test =
    let (l, at, is) = kept_at lines kept same t u terms n r found in
    let decides = test l is in (
      λ e. at ∙ ap (λ (x : Line). Some x) (decides.0 e),
      λ there. decides.1 (let both : Some l ≡ Some line = sym at ∙ there in cc),
    )

-- a line without a rule is no such line
pub none_kept : (lines kept : List Line) → kept ≡ lines → (n : ℕ) (line : Line) → is_rule line ≡ true → ((l : Line) → line_at kept n ≡ Some l → is_rule l ≡ false) → Decides false (IsLineAt lines line n)
none_kept lines kept same n line has none = (λ e. absurd (false≢true e), λ there. absurd (false≢true (sym (none line (ap (λ (ls : List Line). line_at ls n) same ∙ there)) ∙ has)))

-- ---- the cases of a line

-- what is said of a line's case, of its place in the text
case_of_line : (lines : List Line) (n : ℕ) (l : Line) → line_at lines n ≡ Some l → (alternatives case : List Spec) (found : Option ℕ) → IsCaseOf alternatives case l found → IsCaseAt lines alternatives case n found
case_of_line lines n l at alternatives case (Some k) h = (l, at, h)
case_of_line lines n l at alternatives case None h = λ (other, there, needs). h (subst (λ (x : Line). NeedsIn alternatives case x) (let both : Some other ≡ Some l = sym there ∙ at in cc) needs)

-- what is said of the case of each line of a rule, of the place of one
pub case_found : {E : Type 0} (lines : List Line) (n : ℕ) (l : Line) → line_at lines n ≡ Some l → (alternatives case : List Spec) (Is : List Version → Option Version → Line → Type 0) (versions : List Version) (owner : Option Version) → Is versions owner l
    → (found : Result (Option ℕ) E) → IfOk found (λ k. (vs : List Version) (o : Option Version) (line : Line) → Is vs o line → IsCaseOf alternatives case line k) → IfOk found (IsCaseAt lines alternatives case n)
case_found lines n l at alternatives case Is versions owner is (Ok k) h = case_of_line lines n l at alternatives case k (h versions owner l is)
case_found lines n l at alternatives case Is versions owner is (Err e) h = h

-- a line without a rule has no case
pub no_case : (lines : List Line) (n : ℕ) (alternatives case : List Spec) → ((l : Line) → line_at lines n ≡ Some l → is_rule l ≡ false) → IsCaseAt lines alternatives case n None
no_case lines n alternatives case none = λ (l, there, (condition, is, has)). false≢true (sym (none l there) ∙ ap is_rule is)
