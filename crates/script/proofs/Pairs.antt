-- Bytes pair by pair: one turn of reading a text, and where it stops. Each is one step of the definition, at the pair that comes next.
use Rattle.std.specs.Prelude.{◌≡◌, ℕ, ◌+◌, ◌<◌, ◌≤◌, List, [], ◌∷◌, ◌++◌, length, drop, get_or, Some, None}
use Rattle.std.proofs.Common.{refl, drop-cons, add-one}
use Rattle.std.proofs.lemmas.List.{drop_all}
use Rattle.script.specs.Numbers.{byte_of}
use Rattle.script.specs.Texts.{bytes_from}

module _ (done : List ℕ) (pairs : List (List ℕ)) (i : ℕ) where
  pub pairs_turn : (b : ℕ) → i < length pairs → Some b ≡ byte_of (get_or (get_or pairs i []) 0 0) (get_or (get_or pairs i []) 1 0)
      → bytes_from done (drop i pairs) ≡ bytes_from (done ++ (b ∷ [])) (drop (i + 1) pairs)
  unfolding bytes_from
  pairs_turn b l e = rw (add-one i, drop-cons pairs i [] l, bytes_from, ← e) refl

  pub pairs_none : i < length pairs → None ≡ byte_of (get_or (get_or pairs i []) 0 0) (get_or (get_or pairs i []) 1 0) → bytes_from done (drop i pairs) ≡ None
  unfolding bytes_from
  pairs_none l e = rw (drop-cons pairs i [] l, bytes_from, ← e) refl

  pub pairs_end : length pairs ≤ i → bytes_from done (drop i pairs) ≡ Some done
  unfolding bytes_from
  pairs_end l = rw (drop_all i pairs l) refl
