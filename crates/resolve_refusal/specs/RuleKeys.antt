-- The keys of rules: the texts by which the lines of a long place are found. A group is a number for a list of alternatives.
use Rattle.std.specs.Prelude.{◌≡◌, ◌⊎◌, ℕ, List, [], ◌∷◌, ◌++◌, map, Option, Contains, codes, unwrap_or}
use Rattle.std.specs.List.{flat_map, join_with_byte}
use Rattle.std.specs.Fmt.{decimal}
use Rattle.resolvo_text.specs.Line.{Spec, Line, Skipped, Listed, Needs, Limits, Unknown, Lock, Favour, Exclude, Many, Wish}
use Rattle.resolvo_text.specs.Cases.{condition_cases}
use Rattle.resolvo_text.specs.Spelling.{spec_words}
use Rattle.resolve_refusal.specs.Lines.{IsLineAt}

-- a SPEC, behind a bar
abbrev pub barred_text : Spec → List ℕ
barred_text s = codes "|" ++ join_with_byte 32 (spec_words s)

-- SPECs, each behind a bar
abbrev pub barred_texts : List Spec → List ℕ
barred_texts ss = flat_map barred_text ss

abbrev pub limit_key : Spec → List ℕ
limit_key s = codes "limits" ++ barred_text s

module _ (groups : List ℕ → Option ℕ) where
  -- the number of the alternatives; 0 where they have none
  abbrev pub group_text : List Spec → List ℕ
  group_text alternatives = decimal (unwrap_or (groups (barred_texts alternatives)) 0)

  -- the key of a need in a case
  abbrev pub need_key : List Spec → List Spec → List ℕ
  need_key alternatives case = group_text alternatives ++ barred_texts case

  -- A need has a key for each case of its condition.
  abbrev pub line_keys : Line → List (List ℕ)
  line_keys (Needs alternatives condition) = map (need_key alternatives) (condition_cases condition)
  line_keys (Limits s) = limit_key s ∷ []
  line_keys (Unknown reason) = []
  line_keys (Lock v) = []
  line_keys (Exclude v reason) = []
  line_keys Skipped = []
  line_keys (Listed v) = []
  line_keys (Favour v) = []
  line_keys (Many name) = []
  line_keys (Wish v) = []

  -- Line n of the text has this key.
  abbrev pub HasKey : List Line → List ℕ → ℕ → Type 0
  HasKey text key n = (l : Line) × IsLineAt text l n × Contains (line_keys l) key

  -- They are the keys of line n.
  abbrev pub AreKeysAt : List Line → ℕ → List (List ℕ) → Type 0
  AreKeysAt text n keys = ((l : Line) × IsLineAt text l n × (keys ≡ line_keys l)) ⊎ ((keys ≡ []) × ((l : Line) → IsLineAt text l n → line_keys l ≡ []))
