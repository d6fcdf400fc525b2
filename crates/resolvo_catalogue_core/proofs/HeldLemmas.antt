-- The content of lines whose rules and marked names are kept apart: one more of either changes none of the others.
use Rattle.std.proofs.Common.{◌≡◌, ◌<◌, ◌+◌, if◌then◌else◌, ℕ, zero, suc, Bool, true, false, List, [], ◌∷◌, ◌++◌, length, Option, Some, None, option_map, refl, ap, ◌∙◌, arith}
use Rattle.std.specs.Prelude.{nat_lt, slice_get, option_and_then}
use Rattle.std.specs.Global.{Global}
use Rattle.std.specs.declared.string.String.{String}
use Rattle.std.proofs.lemmas.Bool.{and_parts, and_from}
use Rattle.std.proofs.lemmas.Bool.Decides.{nat_tests}
use Rattle.std.proofs.lemmas.List.{length-append, map_push}
use Rattle.std.proofs.lemmas.Option.{slice_get-map}
use Rattle.resolvo_pool_core.specs.declared.id.VersionSetId.{VersionSetId}
use Rattle.resolvo_pool_core.specs.declared.id.VersionSetUnionId.{VersionSetUnionId}
use Rattle.resolvo_catalogue_core.specs.declared.rule.VersionNo.{VersionNo}
use Rattle.resolvo_catalogue_core.specs.declared.kept_rule.KeptRule.{KeptRule}
use Rattle.resolvo_catalogue_core.specs.declared.stored_lines.StoredLine.{StoredLine}
use Rattle.resolvo_catalogue_core.specs.LineKind.{LineKind}
use Rattle.resolvo_catalogue_core.specs.LineKind as line_kinds
use Rattle.resolvo_catalogue_core.specs.Held.{is_held, are_held, kind_of_rule, kind_of_name, kind_in, kind_list, held_at, kind_at, rule_of}
use Rattle.resolvo_terms.proofs.Places.{get_new}

below : (a b : ℕ) → nat_lt a b ≡ true → a < b
below a b e = grind (arith, nat_tests)

get_more : {X : Type 0} (xs : List X) (x : X) (n : ℕ) → n < length xs → slice_get (xs ++ x ∷ []) n ≡ slice_get xs n
get_more [] x n h = absurd (omega arith)
get_more (y ∷ xs) x zero h = refl
get_more (y ∷ xs) x (suc n) h = get_more xs x n (omega arith)

-- ---- one more rule

same_kind : (rs : List KeptRule) (ms : List (String Global)) (r : KeptRule) (h : StoredLine) → is_held (length rs) (length ms) h ≡ true → kind_in (rs ++ r ∷ []) ms h ≡ kind_in rs ms h
same_kind rs ms r StoredLine.Nothing e = refl
same_kind rs ms r (StoredLine.Listed v) e = refl
same_kind rs ms r (StoredLine.Favour v) e = refl
same_kind rs ms r (StoredLine.Many place) e = refl
same_kind rs ms r (StoredLine.Need owner spec) e = refl
same_kind rs ms r (StoredLine.AnyOf owner union) e = refl
same_kind rs ms r (StoredLine.Limit owner spec) e = refl
same_kind rs ms r (StoredLine.Rule place) e = ap kind_of_rule (get_more rs r place (below place (length rs) e))

pub same_list : (rs : List KeptRule) (ms : List (String Global)) (r : KeptRule) (hs : List StoredLine) → are_held (length rs) (length ms) hs ≡ true → kind_list (rs ++ r ∷ []) ms hs ≡ kind_list rs ms hs
same_list rs ms r [] e = refl
same_list rs ms r (h ∷ hs) e =
    let parts = and_parts (is_held (length rs) (length ms) h) (are_held (length rs) (length ms) hs) e in
    rw (same_kind rs ms r h parts.0, same_list rs ms r hs parts.1) refl

still_held : (count marked : ℕ) (h : StoredLine) → is_held count marked h ≡ true → is_held (count + 1) marked h ≡ true
still_held count marked StoredLine.Nothing e = refl
still_held count marked (StoredLine.Listed v) e = refl
still_held count marked (StoredLine.Favour v) e = refl
still_held count marked (StoredLine.Many place) e = e
still_held count marked (StoredLine.Need owner spec) e = refl
still_held count marked (StoredLine.AnyOf owner union) e = refl
still_held count marked (StoredLine.Limit owner spec) e = refl
still_held count marked (StoredLine.Rule place) e = grind (arith, nat_tests)

pub all_still_held : (count marked : ℕ) (hs : List StoredLine) → are_held count marked hs ≡ true → are_held (count + 1) marked hs ≡ true
all_still_held count marked [] e = refl
all_still_held count marked (h ∷ hs) e =
    let parts = and_parts (is_held count marked h) (are_held count marked hs) e in
    and_from (is_held (count + 1) marked h) (are_held (count + 1) marked hs) (still_held count marked h parts.0) (all_still_held count marked hs parts.1)

-- ---- one more marked name

same_kind_marked : (rs : List KeptRule) (ms : List (String Global)) (m : String Global) (h : StoredLine) → is_held (length rs) (length ms) h ≡ true → kind_in rs (ms ++ m ∷ []) h ≡ kind_in rs ms h
same_kind_marked rs ms m StoredLine.Nothing e = refl
same_kind_marked rs ms m (StoredLine.Listed v) e = refl
same_kind_marked rs ms m (StoredLine.Favour v) e = refl
same_kind_marked rs ms m (StoredLine.Many place) e = ap kind_of_name (get_more ms m place (below place (length ms) e))
same_kind_marked rs ms m (StoredLine.Need owner spec) e = refl
same_kind_marked rs ms m (StoredLine.AnyOf owner union) e = refl
same_kind_marked rs ms m (StoredLine.Limit owner spec) e = refl
same_kind_marked rs ms m (StoredLine.Rule place) e = refl

pub same_list_marked : (rs : List KeptRule) (ms : List (String Global)) (m : String Global) (hs : List StoredLine) → are_held (length rs) (length ms) hs ≡ true → kind_list rs (ms ++ m ∷ []) hs ≡ kind_list rs ms hs
same_list_marked rs ms m [] e = refl
same_list_marked rs ms m (h ∷ hs) e =
    let parts = and_parts (is_held (length rs) (length ms) h) (are_held (length rs) (length ms) hs) e in
    rw (same_kind_marked rs ms m h parts.0, same_list_marked rs ms m hs parts.1) refl

still_held_marked : (count marked : ℕ) (h : StoredLine) → is_held count marked h ≡ true → is_held count (marked + 1) h ≡ true
still_held_marked count marked StoredLine.Nothing e = refl
still_held_marked count marked (StoredLine.Listed v) e = refl
still_held_marked count marked (StoredLine.Favour v) e = refl
still_held_marked count marked (StoredLine.Many place) e = grind (arith, nat_tests)
still_held_marked count marked (StoredLine.Need owner spec) e = refl
still_held_marked count marked (StoredLine.AnyOf owner union) e = refl
still_held_marked count marked (StoredLine.Limit owner spec) e = refl
still_held_marked count marked (StoredLine.Rule place) e = e

pub all_still_held_marked : (count marked : ℕ) (hs : List StoredLine) → are_held count marked hs ≡ true → are_held count (marked + 1) hs ≡ true
all_still_held_marked count marked [] e = refl
all_still_held_marked count marked (h ∷ hs) e =
    let parts = and_parts (is_held count marked h) (are_held count marked hs) e in
    and_from (is_held count (marked + 1) h) (are_held count (marked + 1) hs) (still_held_marked count marked h parts.0) (all_still_held_marked count marked hs parts.1)

-- ---- one more line

pub held_push : (count marked : ℕ) (hs : List StoredLine) (h : StoredLine) → are_held count marked hs ≡ true → is_held count marked h ≡ true → are_held count marked (hs ++ h ∷ []) ≡ true
held_push count marked [] h e here = and_from (is_held count marked h) true here refl
held_push count marked (x ∷ hs) h e here =
    let parts = and_parts (is_held count marked x) (are_held count marked hs) e in
    and_from (is_held count marked x) (are_held count marked (hs ++ h ∷ [])) parts.0 (held_push count marked hs h parts.1 here)

pub one_longer : {X : Type 0} (xs more : List X) (x : X) → more ≡ xs ++ x ∷ [] → length more ≡ length xs + 1
one_longer xs more x is = ap length is ∙ length-append xs (x ∷ [])

-- one more that is in range, or none
pub held_if : (b : Bool) (count marked : ℕ) (hs : List StoredLine) (h : StoredLine) → are_held count marked hs ≡ true → is_held count marked h ≡ true → are_held count marked (if b then hs ++ h ∷ [] else hs) ≡ true
held_if true count marked hs h e here = held_push count marked hs h e here
held_if false count marked hs h e here = e

pub held_place : (count marked place : ℕ) → place < count → is_held count marked (StoredLine.Rule place) ≡ true
held_place count marked place h = grind (arith, nat_tests)

pub marked_place : (count marked place : ℕ) → place < marked → is_held count marked (StoredLine.Many place) ≡ true
marked_place count marked place h = grind (arith, nat_tests)

-- one more line, with a new rule
pub pushes_rule : (rs : List KeptRule) (ms : List (String Global)) (r : KeptRule) (hs : List StoredLine) (place : ℕ) → are_held (length rs) (length ms) hs ≡ true → place ≡ length rs
    → kind_list (rs ++ r ∷ []) ms (hs ++ StoredLine.Rule place ∷ []) ≡ kind_list rs ms hs ++ line_kinds.Rule r ∷ []
pushes_rule rs ms r hs place e last =
    let here : kind_in (rs ++ r ∷ []) ms (StoredLine.Rule place) ≡ line_kinds.Rule r = ap kind_of_rule (ap (slice_get (rs ++ r ∷ [])) last ∙ get_new rs r) in
    map_push (kind_in (rs ++ r ∷ []) ms) hs (StoredLine.Rule place) ∙ rw (here, same_list rs ms r hs e) refl

-- one more line, with a new marked name
pub pushes_marked : (rs : List KeptRule) (ms : List (String Global)) (m : String Global) (hs : List StoredLine) (place : ℕ) → are_held (length rs) (length ms) hs ≡ true → place ≡ length ms
    → kind_list rs (ms ++ m ∷ []) (hs ++ StoredLine.Many place ∷ []) ≡ kind_list rs ms hs ++ line_kinds.Many m ∷ []
pushes_marked rs ms m hs place e last =
    let here : kind_in rs (ms ++ m ∷ []) (StoredLine.Many place) ≡ line_kinds.Many m = ap kind_of_name (ap (slice_get (ms ++ m ∷ [])) last ∙ get_new ms m) in
    map_push (kind_in rs (ms ++ m ∷ [])) hs (StoredLine.Many place) ∙ rw (here, same_list_marked rs ms m hs e) refl

-- the rule of a line, from its stored form
pub rule_held : (rs : List KeptRule) (ms : List (String Global)) (hs : List StoredLine) (line : ℕ) → option_and_then rule_of (kind_at (kind_list rs ms hs) line) ≡ option_and_then (λ h. rule_of (kind_in rs ms h)) (held_at hs line)
rule_held rs ms hs zero = refl
rule_held rs ms hs (suc n) = ap (λ (o : Option LineKind). option_and_then rule_of o) (slice_get-map (kind_in rs ms) hs n) ∙ of_mapped (slice_get hs n)
  where
    of_mapped : (o : Option StoredLine) → option_and_then rule_of (option_map (kind_in rs ms) o) ≡ option_and_then (λ h. rule_of (kind_in rs ms h)) o
    of_mapped None = refl
    of_mapped (Some h) = refl

pub rule_placed : (o : Option KeptRule) → rule_of (kind_of_rule o) ≡ o
rule_placed None = refl
rule_placed (Some r) = refl

no_rule_of_name : (o : Option (String Global)) → rule_of (kind_of_name o) ≡ None
no_rule_of_name None = refl
no_rule_of_name (Some name) = refl

pub no_rule_held : (rs : List KeptRule) (ms : List (String Global)) (h : StoredLine) → ((owner : VersionNo) (spec : VersionSetId) → h ≡ StoredLine.Need owner spec → ⊥) → ((owner : VersionNo) (union : VersionSetUnionId) → h ≡ StoredLine.AnyOf owner union → ⊥) → ((owner : VersionNo) (spec : VersionSetId) → h ≡ StoredLine.Limit owner spec → ⊥) → ((place : ℕ) → h ≡ StoredLine.Rule place → ⊥) → rule_of (kind_in rs ms h) ≡ None
no_rule_held rs ms StoredLine.Nothing need any limit rule = refl
no_rule_held rs ms (StoredLine.Listed v) need any limit rule = refl
no_rule_held rs ms (StoredLine.Favour v) need any limit rule = refl
no_rule_held rs ms (StoredLine.Many place) need any limit rule = no_rule_of_name (slice_get ms place)
no_rule_held rs ms (StoredLine.Need owner spec) need any limit rule = absurd (need owner spec refl)
no_rule_held rs ms (StoredLine.AnyOf owner union) need any limit rule = absurd (any owner union refl)
no_rule_held rs ms (StoredLine.Limit owner spec) need any limit rule = absurd (limit owner spec refl)
no_rule_held rs ms (StoredLine.Rule place) need any limit rule = absurd (rule place refl)
