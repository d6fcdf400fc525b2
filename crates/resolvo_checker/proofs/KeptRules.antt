-- Rules that a catalogue keeps by numbers, and their lines.
use Rattle.std.proofs.Common.{◌≡◌, ℕ, Bool, true, false, List, Option, Some, None, is_some, refl, sym, ap, ◌∙◌, cond}
use Rattle.std.specs.Option.{option_map, option_map_or}
use Rattle.std.proofs.lemmas.Bool.{false≢true}
use Rattle.std.proofs.lemmas.Option.{slice_get-get_or}
use Rattle.resolvo_text.specs.Line.{Version, Line, Skipped, Listed, Needs, Limits, Unknown, Lock, Favour, Exclude, Many, Wish}
use Rattle.resolvo_pool_core.specs.declared.requirement.ConditionalRequirement.{ConditionalRequirement}
use Rattle.resolvo_terms.specs.Terms.{Terms}
use Rattle.resolvo_terms.specs.Known.{need_at, word_text}
use Rattle.resolvo_catalogue_core.specs.Grammar.{line_at, owner_of}
use Rattle.resolvo_catalogue_core.specs.Listed.{listed}
use Rattle.resolvo_catalogue_core.specs.Questions.{is_rule}
use Rattle.resolvo_catalogue_core.specs.Kept.{nth, nowhere, IsKeptLine}
use Rattle.resolvo_catalogue_core.specs.declared.kept_rule.KeptRule.{KeptRule}
use Rattle.resolvo_catalogue_core.specs.declared.kept_rule.KeptRule.TheVariants as kept
use Rattle.resolvo_report.specs.Value.{Place}
use Rattle.resolvo_checker.specs.StepClauses.{is_owner, case_at, need_clause}
use Rattle.resolvo_checker.specs.RuleLines.{rule_line, line_of_kept, IsValid, need_line, line_of_need, need_kept}

-- ---- the line of a rule

-- the line that a kept rule encodes
pub kept_encodes : (t : Terms) (vs : List Version) (r : KeptRule) (owner : Option Version) (l : Line) → IsKeptLine t vs r owner l → rule_line (Some l) ≡ line_of_kept t vs r
kept_encodes t vs (kept.Needs of need) owner l h = ap (λ (x : Line). rule_line (Some x)) (sym h.is)
kept_encodes t vs (kept.Limits of s) owner l h = ap (λ (x : Line). rule_line (Some x)) (sym h.is)
kept_encodes t vs (kept.Unknown of w) owner l h = ap (λ (x : Line). rule_line (Some x)) (sym h.is)
kept_encodes t vs (kept.Lock n) owner l h = ap (λ (x : Line). rule_line (Some x)) (sym h.is) ∙ ap (option_map Lock) (sym (slice_get-get_or vs n.0 nowhere h.of))
kept_encodes t vs (kept.Exclude n w) owner l h = ap (λ (x : Line). rule_line (Some x)) (sym h.is) ∙ ap (option_map (λ v. Exclude v (word_text t w))) (sym (slice_get-get_or vs n.0 nowhere h.of))

-- an excluded version is listed
pub valid : (t : Terms) (vs : List Version) (r : KeptRule) (owner : Option Version) (l : Line) → IsKeptLine t vs r owner l → IsValid vs owner r
valid t vs (kept.Unknown of w) owner l h = h.of
valid t vs (kept.Exclude n w) owner l h = (nth vs n, slice_get-get_or vs n.0 nowhere h.of)
valid t vs (kept.Needs of need) owner l h = tt
valid t vs (kept.Limits of s) owner l h = tt
valid t vs (kept.Lock n) owner l h = tt

-- ---- the line of a need

if_need : (b : Bool) (o : Option Line) (l : Line) (t : Terms) (need : ConditionalRequirement) → o ≡ Some l → line_of_need t need ≡ l → need_line (cond b o None) ≡ option_map (line_of_need t) (cond b (Some need) None)
if_need true o l t need at is = ap need_line at ∙ sym (ap (λ (x : Line). need_line (Some x)) is)
if_need false o l t need at is = refl

if_other : (b : Bool) (o : Option Line) (l : Line) → o ≡ Some l → need_line (Some l) ≡ None → need_line (cond b o None) ≡ None
if_other true o l at e = ap need_line at ∙ e
if_other false o l at e = refl

-- a rule that is kept is a need of the version exactly if its line is one
pub kept_need : (lines : List Line) (n : ℕ) (t : Terms) (r : KeptRule) (v : Version) → ((l : Line) × (line_at lines n ≡ Some l) × IsKeptLine t (listed lines) r (owner_of lines n) l)
    → need_line (cond (is_owner v (owner_of lines n)) (line_at lines n) None) ≡ option_map (line_of_need t) (need_kept (listed lines) r v)
kept_need lines n t (kept.Needs of need) v h =
    if_need (is_owner v (owner_of lines n)) (line_at lines n) h.0 t need h.1 h.2.is
    ∙ ap (λ (o : Option Version). option_map (line_of_need t) (cond (is_owner v o) (Some need) None)) (h.2.of.2 ∙ sym h.2.of.1)
kept_need lines n t (kept.Limits of s) v h = if_other (is_owner v (owner_of lines n)) (line_at lines n) h.0 h.1 (ap (λ (x : Line). need_line (Some x)) (sym h.2.is))
kept_need lines n t (kept.Unknown of w) v h = if_other (is_owner v (owner_of lines n)) (line_at lines n) h.0 h.1 (ap (λ (x : Line). need_line (Some x)) (sym h.2.is))
kept_need lines n t (kept.Lock locked) v h = if_other (is_owner v (owner_of lines n)) (line_at lines n) h.0 h.1 (ap (λ (x : Line). need_line (Some x)) (sym h.2.is))
kept_need lines n t (kept.Exclude excluded w) v h = if_other (is_owner v (owner_of lines n)) (line_at lines n) h.0 h.1 (ap (λ (x : Line). need_line (Some x)) (sym h.2.is))

not_needed : (o : Option Line) → ((l : Line) → o ≡ Some l → is_rule l ≡ false) → need_line o ≡ None
not_needed None h = refl
not_needed (Some (Needs a c)) h = absurd (false≢true (sym (h (Needs a c) refl)))
not_needed (Some (Limits s)) h = refl
not_needed (Some Skipped) h = refl
not_needed (Some (Listed v)) h = refl
not_needed (Some (Unknown r)) h = refl
not_needed (Some (Lock v)) h = refl
not_needed (Some (Favour v)) h = refl
not_needed (Some (Many name)) h = refl
not_needed (Some (Exclude v r)) h = refl
not_needed (Some (Wish v)) h = refl

-- nor is a line without a rule
pub no_kept_need : (b : Bool) (o : Option Line) → ((l : Line) → o ≡ Some l → is_rule l ≡ false) → need_line (cond b o None) ≡ None
no_kept_need true o h = not_needed o h
no_kept_need false o h = refl

-- ---- cases

need_needed : (c : List Line) (p : Place) (k : ℕ) (o : Option Line) → need_clause c p k (need_line o) ≡ need_clause c p k o
need_needed c p k None = refl
need_needed c p k (Some (Needs a d)) = refl
need_needed c p k (Some (Limits s)) = refl
need_needed c p k (Some Skipped) = refl
need_needed c p k (Some (Listed v)) = refl
need_needed c p k (Some (Unknown r)) = refl
need_needed c p k (Some (Lock v)) = refl
need_needed c p k (Some (Favour v)) = refl
need_needed c p k (Some (Many name)) = refl
need_needed c p k (Some (Exclude v r)) = refl
need_needed c p k (Some (Wish v)) = refl

pub still_some : {X Y : Type 0} (f : X → Y) (o : Option X) → is_some (option_map f o) ≡ is_some o
still_some f None = refl
still_some f (Some x) = refl

-- a need has a clause for each case of its condition
pub case_there : (c : List Line) (p : Place) (k : ℕ) (o : Option Line) (t : Terms) (need : Option ConditionalRequirement) → need_line o ≡ option_map (line_of_need t) need
    → is_some (need_clause c p k o) ≡ option_map_or (λ n. is_some (case_at (need_at t n).1 k)) need false
case_there c p k o t need e = ap (λ x. is_some x) (sym (need_needed c p k o) ∙ ap (need_clause c p k) e) ∙ by_need need where
  by_need : (need : Option ConditionalRequirement) → is_some (need_clause c p k (option_map (line_of_need t) need)) ≡ option_map_or (λ n. is_some (case_at (need_at t n).1 k)) need false
  by_need None = refl
  by_need (Some n) = still_some _ (case_at (need_at t n).1 k)
