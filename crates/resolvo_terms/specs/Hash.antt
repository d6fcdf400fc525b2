-- Hashes of bytes and of numbers.
use Rattle.std.specs.Prelude.{◌*◌, ◌/◌, ◌%◌, ◌^◌, ◌+◌, ◌-◌, ◌==◌, ℕ, zero, suc, List, bit_xor, length, nat_le, slice_index_or, if◌then◌else◌}

-- the product that a hash is mixed by
abbrev pub product : ℕ → ℕ → ℕ
product hash number = (bit_xor hash number * 0x9E37_79B9_7F4A_7C15) % 2 ^ 64

-- the hash of what a hash is of, and one number more
abbrev pub mix : ℕ → ℕ → ℕ
mix hash number = bit_xor (product hash number) (product hash number / 2 ^ 32)

-- four bytes from a place on, as a number, the first being its lowest
abbrev pub four_at : List ℕ → ℕ → ℕ
four_at bytes at = (slice_index_or bytes at 0 + slice_index_or bytes (at + 1) 0 * 256) + (slice_index_or bytes (at + 2) 0 + slice_index_or bytes (at + 3) 0 * 256) * 65536

-- eight bytes from a place on, as a number
abbrev pub eight_at : List ℕ → ℕ → ℕ
eight_at bytes at = four_at bytes at + four_at bytes (at + 4) * 4294967296

-- a hash, and so many times eight bytes more from a place on
abbrev pub eights_hash : List ℕ → ℕ → ℕ → ℕ → ℕ
eights_hash bytes zero at hash = hash
eights_hash bytes (suc n) at hash = eights_hash bytes n (at + 8) (mix hash (eight_at bytes at))

-- the first byte, the one in the middle and the last one as a number; 0 where there is none
abbrev pub few_of : List ℕ → ℕ
few_of bytes = if length bytes == 0 then 0 else (slice_index_or bytes 0 0 + slice_index_or bytes (length bytes / 2) 0 * 256) + slice_index_or bytes (length bytes - 1) 0 * 65536

-- the last eight bytes as a number; of less than eight, all of them
abbrev pub last_of : List ℕ → ℕ
last_of bytes = if nat_le 8 (length bytes) then eight_at bytes (length bytes - 8) else if nat_le 4 (length bytes) then (four_at bytes 0 + four_at bytes (length bytes - 4) * 4294967296) else few_of bytes

-- the hash of bytes: of eight at a time, then of the last ones and of how many there are
unfoldable pub numbers_hash : List ℕ → ℕ
numbers_hash bytes = mix (mix (eights_hash bytes (length bytes / 8) 0 0) (last_of bytes)) (length bytes)
