-- Names are ASCII.
use Rattle.std.proofs.Common.{◌≡◌, ℕ, ◌<◌, true, not, List, [], ◌∷◌, arith}
use Rattle.std.specs.Str.{IsUtf8}
use Rattle.std.specs.List.{list_all, AllByRecursion}
use Rattle.std.proofs.lemmas.Bool.{and_parts}
use Rattle.std.proofs.lemmas.Str.{IsUtf8-from_ascii}
use Rattle.std.proofs.lemmas.Str.Ascii.{IsAscii-from_all}
use Rattle.std.proofs.lemmas.List.Elements.{All-from_recursion}
use Rattle.std.proofs.lemmas.Bool.Decides.{nat_tests}
use Rattle.resolvo_text.specs.Spelling.{starts_name, continues_name, is_word, is_reserved, is_name}

starts_name_ascii : (b : ℕ) → starts_name b ≡ true → b < 128
starts_name_ascii b h = grind (arith, nat_tests)

continues_name_ascii : (b : ℕ) → continues_name b ≡ true → b < 128
continues_name_ascii b h = grind (arith, nat_tests)

all_ascii : (bs : List ℕ) → list_all continues_name bs ≡ true → AllByRecursion (λ b. b < 128) bs
all_ascii [] h = tt
all_ascii (b ∷ bs) h = let p = and_parts (continues_name b) (list_all continues_name bs) h in (continues_name_ascii b p.0, all_ascii bs p.1)

word_ascii : (word : List ℕ) → is_word word ≡ true → AllByRecursion (λ b. b < 128) word
word_ascii [] h = tt
word_ascii (b ∷ bs) h = let p = and_parts (starts_name b) (list_all continues_name bs) h in (starts_name_ascii b p.0, all_ascii bs p.1)

pub name_is_text : (word : List ℕ) → is_name word ≡ true → IsUtf8 word
name_is_text word h = let p = and_parts (is_word word) (not (is_reserved word)) h in
    IsUtf8-from_ascii word (IsAscii-from_all word (All-from_recursion _ word (word_ascii word p.0)))
