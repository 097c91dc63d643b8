-- FNV-1a of 64 bits.
use Rattle.std.specs.Prelude.{ℕ, List, ◌*◌, ◌%◌, ◌^◌, bit_xor}
use Rattle.std.specs.Int.{to_le_bytes, w32}
use Rattle.std.specs.List.{fold}

-- one byte more
abbrev pub hash_byte : ℕ → ℕ → ℕ
hash_byte h b = bit_xor h b * 1099511628211 % 2 ^ 64

abbrev pub hash_bytes : ℕ → List ℕ → ℕ
hash_bytes h bytes = fold hash_byte h bytes

-- words, of four bytes each, the lowest first
abbrev pub hash_words : ℕ → List ℕ → ℕ
hash_words h words = fold (λ sum w. hash_bytes sum (to_le_bytes w32 w)) h words
