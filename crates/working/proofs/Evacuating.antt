-- What a value that is to be copied meets: room is made for it, or a page is wanted and there is none. By the test of the room, and then by the
-- free list.
use Prim.Native.Nat.{ℕ, ◌+◌, ◌^◌, ◌≤◌, ◌<◌}
use mathlib.Core.Path.{◌≡◌, refl}
use mathlib.Core.Bool.{Bool, true, false}
use mathlib.Core.Option.{none, some}
use mathlib.Core.List.{List, [], ◌∷◌}
use lib.Dec.{leb}
use borrow.Author.Tests.{leb-false}
use Rattle.rules.specs.Memory.{end_of, top_of}
use Rattle.rules.specs.Pages.{Run, room}
use Rattle.facts.proofs.Laid.{Owner, Layout, first_none}
use Rattle.rules.proofs.Pages.{takes_none}
use Rattle.working.proofs.Wanting.{Goes, wants_page_lem, goes_on}
use Rattle.working.proofs.Placed.{Roomed, room_was, room_made}

-- room for m words of region j: it is made, or no page is free and one is wanted
abbrev pub RoomOr : (n N R : ℕ) → (ℕ → Owner) → (ℕ → ℕ) → (ℕ → List ℕ) → List ℕ → Run → ℕ → ℕ → Type 0
RoomOr n N R own fin pages free r j m =
    Goes none some (room n j m r) ((free ≡ []) × (end_of r.table j < top_of r.table j + m)) (λ r₁. Roomed n N R own fin pages free r j m r₁)

pub room_or : {n N R : ℕ} {own : ℕ → Owner} {fin : ℕ → ℕ} {pages : ℕ → List ℕ} {free : List ℕ} {r : Run} → Layout n N R own fin pages free r → (j m : ℕ) → j < R → m + 2 ≤ 2 ^ n → RoomOr n N R own fin pages free r j m
room_or {n} {N} {R} {own} {fin} {pages} {free} {r} L j m j_r small = go (leb (top_of r.table j + m) (end_of r.table j)) refl free L
  where
    go : (b : Bool) → leb (top_of r.table j + m) (end_of r.table j) ≡ b → (free : List ℕ) → Layout n N R own fin pages free r → RoomOr n N R own fin pages free r j m
    go true e free L = let u = room_was L j m e in goes_on r u.0 u.1
    go false e [] L = wants_page_lem (unfold room in (rw (e, room, takes_none n j r (first_none L refl)))) (refl, leb-false _ _ e)
    go false e (k ∷ ks) L = let u = room_made L j m j_r small e in goes_on _ u.0 u.1
