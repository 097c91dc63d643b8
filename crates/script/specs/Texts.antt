-- The bytes that a text spells.
use Rattle.std.specs.Prelude.{ℕ, ◌/◌, ◌%◌, List, [], ◌∷◌, ◌++◌, length, get_or, Option, Some, None, if◌then◌else◌, not, ◌==◌, nat_lt, eqb}
use lib.Pointwise.{pointwise}
use Rattle.std.specs.Simd.{first_chunks}
use Rattle.script.specs.Numbers.{byte_of}

-- the bytes that pairs of digits spell, after those that came before, and nothing where a byte is no digit
unfoldable pub bytes_from : List ℕ → List (List ℕ) → Option (List ℕ)
bytes_from done [] = Some done
bytes_from done (pair ∷ rest) = elim (byte_of (get_or pair 0 0) (get_or pair 1 0)) [ None ↦ None | Some b ↦ bytes_from (done ++ (b ∷ [])) rest ]

-- what the pairs of a token spell: it has at least one pair, no byte besides, and no more pairs than there is room for
unfoldable pub pairs_of : ℕ → List ℕ → Option (List ℕ)
pairs_of room token =
    if length token / 2 == 0 then None else if not (length token % 2 == 0) then None else if nat_lt room (length token / 2) then None
    else bytes_from [] (first_chunks 2 (length token / 2) token)

abbrev pub dash : List ℕ
dash = 45 ∷ []

-- a dash spells none
unfoldable pub text_of : ℕ → List ℕ → Option (List ℕ)
text_of room token = if pointwise eqb token dash then Some [] else pairs_of room token
