-- The indexes of a package's versions by their numbers, after a change at one version.
use Rattle.std.proofs.Common.{◌≡◌, ℕ, Bool, true, false, if◌then◌else◌, ◌&&◌, cond, List, [], Option, Some, None, refl, ap, ◌∙◌}
use Rattle.std.specs.Prelude.{◌==◌, nat_eq}
use Rattle.std.specs.Ordering.{nat_cmp}
use Rattle.std.specs.Str.{bytes_eq}
use Rattle.std.specs.Map.{update, lookup}
use Rattle.std.specs.BTreeMap.{BTreeMap, get, is_at}
use Rattle.std.proofs.lemmas.Slice.Eq.{bytes_eq-Decides}
use Rattle.resolvo_text.specs.Line.{Version}
use Rattle.resolvo_text.specs.Matches.{same_version}
use Rattle.resolvo_judge.specs.Chosen.{index_in}

-- The map of the version's package was changed at its number, and those of the others are as before.
pub put_index : (before after : List ℕ → Option (BTreeMap ℕ ℕ)) (v : Version) (n : Option ℕ) (w : BTreeMap ℕ ℕ) (bs : List ℕ) → bs ≡ v.name → ((name : List ℕ) → after name ≡ update bytes_eq before bs (Some w) name)
    → ((q : ℕ) → get nat_cmp w q ≡ update nat_eq (index_in (before v.name)) v.number n q) → (u : Version) → index_in (after u.name) u.number ≡ (if same_version v u then n else index_in (before u.name) u.number)
put_index before after v n w bs is named numbered u =
    ap (λ (o : Option (BTreeMap ℕ ℕ)). index_in o u.number) (named u.name ∙ ap (λ (name : List ℕ). update bytes_eq before name (Some w) u.name) is) ∙ by_test (bytes_eq v.name u.name) refl
  where
    by_test : (b : Bool) → bytes_eq v.name u.name ≡ b → index_in (if b then Some w else before u.name) u.number ≡ (if b && v.number == u.number then n else index_in (before u.name) u.number)
    by_test true e = numbered u.number ∙ ap (λ (name : List ℕ). update nat_eq (index_in (before name)) v.number n u.number) ((bytes_eq-Decides v.name u.name).0 e)
    by_test false e = refl

-- the package's map, after a change at one number
pub number_updated : (m w : BTreeMap ℕ ℕ) (o : Option (BTreeMap ℕ ℕ)) (k : ℕ) (n : Option ℕ) → Some m ≡ o → ((q : ℕ) → get nat_cmp w q ≡ update nat_eq (get nat_cmp m) k n q) → (q : ℕ) → get nat_cmp w q ≡ update nat_eq (index_in o) k n q
number_updated m w o k n is h q = h q ∙ ap (λ (x : Option (BTreeMap ℕ ℕ)). update nat_eq (index_in x) k n q) is

-- a new map
pub number_new : (m w : BTreeMap ℕ ℕ) (o : Option (BTreeMap ℕ ℕ)) (k : ℕ) (n : Option ℕ) → None ≡ o → m.entries ≡ [] → ((q : ℕ) → get nat_cmp w q ≡ update nat_eq (get nat_cmp m) k n q) → (q : ℕ) → get nat_cmp w q ≡ update nat_eq (index_in o) k n q
number_new m w o k n is none h q =
    h q ∙ ap (λ (x : Option ℕ). cond (nat_eq k q) n x) (ap (λ (es : List (ℕ × ℕ)). lookup (is_at (nat_cmp q)) es) none)
    ∙ ap (λ (x : Option (BTreeMap ℕ ℕ)). update nat_eq (index_in x) k n q) is
