-- What is read as numbers, SPEC by SPEC, beside what the parser reads.
use Rattle.std.proofs.Common.{◌≡◌, ◌∙◌, ◌≤◌, ◌+◌, ◌*◌, ◌∷◌, ◌++◌, [], ℕ, Bool, true, false, List, length, Option, Some, None, refl, sym, ap, arith}
use Rattle.std.specs.Prelude.{codes, Ok}
use Rattle.std.proofs.lemmas.List.{length_push}
use Rattle.resolvo_text.specs.Line.{Spec, Cond, Needs}
use Rattle.resolvo_text.specs.Spelling.{Words, is_name}
use Rattle.resolvo_text.specs.declared.spec.Span.TheVariants.{Any}
use Rattle.resolvo_text.specs.declared.line.LineFault.{LineFault}
use Rattle.resolvo_text.specs.declared.line.LineFault.TheVariants.{Fault, Memory}
use Rattle.resolvo_text.specs.Parse.{Fails, name_in, span_at, spec_at, skip, with_first, alternatives_at, condition_in, needs_in, words_in}
use Rattle.resolvo_text.proofs.TextLaws.{name_is_one_word}
use Rattle.resolvo_text.proofs.AlternativeLemmas.{with_prefix, goes_on, ends}
use Rattle.resolvo_pool_core.specs.declared.id.VersionSetId.{VersionSetId}
use Rattle.resolvo_pool_core.specs.declared.requirement.Requirement as needs
use Rattle.resolvo_terms.specs.Terms.{Terms, AreEach, IsSpec, AreAlternatives, Grows}
use Rattle.resolvo_terms.specs.TermCounts.{term_count}
use Rattle.resolvo_terms.specs.Reads.{Reads}
use Rattle.resolvo_terms.proofs.GrowLemmas.{each_more, specs_stay}

-- the members so far are those of the SPECs so far, and each SPEC but the first took two numbers at most
pub record HasRead (t : Terms) (start : ℕ) (members : List VersionSetId) (rest : Words) (total : Option (List Spec × Words)) : Type 0 where
  pub specs : List Spec
  pub most : ℕ
  pub fits : length rest ≤ most
  pub each : AreEach (IsSpec t) members specs
  pub so_far : with_prefix specs (alternatives_at most rest) ≡ total
  pub few : term_count t + 2 ≤ start + 2 * length specs

-- the first member
pub one_read : (t : Terms) (v : VersionSetId) (s : Spec) (rest : Words) (most : ℕ) → length rest ≤ most → IsSpec t v s → HasRead t (term_count t) (v ∷ []) rest (with_first s (alternatives_at most rest))
one_read t v s rest most fits is = record { specs = s ∷ []; most = most; fits = fits; each = (is, tt); so_far = refl; few = omega arith }

module _ (t u : Terms) (grows : Grows t u) (start : ℕ) (members : List VersionSetId) (rest : Words) (total : Option (List Spec × Words)) (h : HasRead t start members rest total) where
  -- one member more, and a bar
  pub more_read : (v : VersionSetId) (s : Spec) (after : Words) → IsSpec u v s → spec_at rest ≡ Some (s, after) → term_count u ≤ term_count t + 2
      → (more : Bool) (others : Words) → skip (codes "|") after ≡ (more, others) → more ≡ true → HasRead u start (members ++ v ∷ []) others total
  more_read v s after is read few more others bar is_more =
      let on = goes_on h.specs h.most rest s after more others total h.fits read bar is_more h.so_far in
      record {
        specs = h.specs ++ s ∷ [];
        most = on.0;
        fits = on.1;
        each = each_more (IsSpec u) members (v ∷ []) h.specs (s ∷ []) (specs_stay t u grows members h.specs h.each) (is, tt);
        so_far = on.2;
        few = omega (arith, h.few, few, length_push h.specs s);
      }

  -- the last member
  pub all_read : (v : VersionSetId) (s : Spec) (after : Words) → IsSpec u v s → spec_at rest ≡ Some (s, after) → term_count u ≤ term_count t + 2
      → (more : Bool) (others : Words) → skip (codes "|") after ≡ (more, others) → more ≡ false
      → (total ≡ Some (h.specs ++ s ∷ [], others)) × AreEach (IsSpec u) (members ++ v ∷ []) (h.specs ++ s ∷ []) × (term_count u + 2 ≤ start + 2 * length (h.specs ++ s ∷ []))
  all_read v s after is read few more others bar is_end = (
    ends h.specs h.most rest s after more others total h.fits read bar is_end h.so_far,
    each_more (IsSpec u) members (v ∷ []) h.specs (s ∷ []) (specs_stay t u grows members h.specs h.each) (is, tt),
    omega (arith, h.few, few, length_push h.specs s),
  )

-- the words of a need, from its alternatives and its condition
pub need_of : (words : Words) (read : List Spec × Words) (c : Option Cond) → alternatives_at (length words) words ≡ Some read → condition_in read.1 ≡ Some c → needs_in words ≡ Some (Needs read.0 c)
unfolding needs_in
need_of words read c first last = rw (first, last) refl

pub no_alternatives : (e : LineFault) (words : Words) → Fails e (alternatives_at (length words) words) → Fails e (needs_in words)
unfolding needs_in
no_alternatives Fault words h = rw h refl
no_alternatives Memory words h = tt

pub no_condition : (e : LineFault) (words : Words) (read : List Spec × Words) → alternatives_at (length words) words ≡ Some read → Fails e (condition_in read.1) → Fails e (needs_in words)
unfolding needs_in
no_condition Fault words read first h = rw (first, h) refl
no_condition Memory words read first h = tt

-- the SPEC that was read, and the words behind it
pub spec_of_read : {B : Type 0} (t : Terms) (v : VersionSetId) (b : B) (f : B → Words) (o : Option (Spec × Words)) → Reads {X = VersionSetId × B} (λ x read. IsSpec t x.0 read.0 × (f x.1 ≡ read.1)) (Ok (v, b)) o → (s : Spec) × (o ≡ Some (s, f b)) × IsSpec t v s
spec_of_read t v b f (Some y) h = (y.0, ap (λ (ws : Words). Some (y.0, ws)) (sym h.1), h.0)
spec_of_read t v b f None h = absurd h

-- the members that were read
pub members_read : {V B : Type 0} (t : Terms) (start : ℕ) (v : V) (items : V → List VersionSetId) (b : B) (f : B → Words) (o : Option (List Spec × Words))
    → Reads {X = V × B} (λ x read. AreEach (IsSpec t) (items x.0) read.0 × (f x.1 ≡ read.1) × (term_count t + 2 ≤ start + 2 * length read.0)) (Ok (v, b)) o
    → (ss : List Spec) × (o ≡ Some (ss, f b)) × AreEach (IsSpec t) (items v) ss × (term_count t + 2 ≤ start + 2 * length ss)
members_read t start v items b f (Some y) h = (y.0, ap (λ (ws : Words). Some (y.0, ws)) (sym h.1), h.0, h.2)
members_read t start v items b f None h = absurd h

-- the alternatives that were read
pub alternatives_read : {B : Type 0} (t : Terms) (start : ℕ) (r : needs.Requirement) (b : B) (f : B → Words) (o : Option (List Spec × Words))
    → Reads {X = needs.Requirement × B} (λ x read. AreAlternatives t x.0 read.0 × (f x.1 ≡ read.1) × (term_count t ≤ start + 2 * length read.0 + 1)) (Ok (r, b)) o
    → (ss : List Spec) × (o ≡ Some (ss, f b)) × AreAlternatives t r ss × (term_count t ≤ start + 2 * length ss + 1)
alternatives_read t start r b f (Some y) h = (y.0, ap (λ (ws : Words). Some (y.0, ws)) (sym h.1), h.0, h.2)
alternatives_read t start r b f None h = absurd h

-- the need of one word that is a name
lone_need : (name : List ℕ) → is_name name ≡ true → needs_in (name ∷ []) ≡ Some (Needs (record { name = name; span = Any } ∷ []) None)
unfolding needs_in alternatives_at spec_at name_in skip span_at condition_in
lone_need name is = rw is refl

-- the need of words that are one name
pub lone_text : (text name : List ℕ) (space : ℕ) → text ≡ space ∷ name → is_name name ≡ true → needs_in (words_in text) ≡ Some (Needs (record { name = name; span = Any } ∷ []) None)
lone_text text name space is named = ap (λ (t : List ℕ). needs_in (words_in t)) is ∙ ap needs_in (name_is_one_word name named) ∙ lone_need name named
