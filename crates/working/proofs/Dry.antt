-- Once no page is free, none comes, since no step of the working gives one back: a step of the working with as many pages as it wants leaves the
-- free list empty, and the heap only grows.
use Prim.Native.Nat.{ℕ, suc, ◌+◌, ◌-◌, ◌*◌, ◌^◌, ◌≤◌}
use native.Mathlib.Omega.{arith}
use mathlib.Core.Path.{◌≡◌, ap, ◌∙◌}
use mathlib.Core.List.{List, [], ◌∷◌}
use lib.ListN.{length, set, replicate, length-append, length-take, length-drop, length-set, length-replicate}
use Rattle.laws.specs.Lists.{put}
use Rattle.rules.specs.Memory.{Store, end_of, top_of}
use Rattle.rules.specs.Pages.{Scan, Run, with_heap, with_table, with_stack, join, store}
use Rattle.rules.specs.Collection.{wake}
use Rattle.rules.specs.Wanted.{any_page, joined, stored, forwarded}
use Rattle.facts.proofs.Laid.{Owner, Layout, first_none}
use Rattle.rules.proofs.Pages.{takes_none}
use Rattle.working.proofs.Aside.{wake_by}

-- no page is free, and the heap has at least m words
pub record Dry (m : ℕ) (r : Run) : Type 0 where
  pub first : r.first ≡ 0
  pub count : r.count ≡ 0
  pub long : m ≤ length r.heap

-- a page was wanted and none was free: x, which the working with as many pages as it wants then comes to, has one behind the heap
abbrev pub Overdrawn : Store → Run → Type 0
Overdrawn s x = Dry (length s.heap + 2 ^ s.ctl.n) x

-- where no page is free in r, none is in r', and the heap is no shorter
abbrev pub StaysDry : Run → Run → Type 0
StaysDry r r' = (m : ℕ) → Dry m r → Dry m r'

-- a heap whose free list is empty
pub laid_dry : {n N R m : ℕ} {own : ℕ → Owner} {fin : ℕ → ℕ} {pages : ℕ → List ℕ} {free : List ℕ} {r : Run} → Layout n N R own fin pages free r → free ≡ [] → m ≡ N * 2 ^ n → Dry m r
laid_dry L e size = let a = L.size in record { first = first_none L e; count = L.free_count ∙ ap length e; long = omega arith }

-- table and scan stack are no part of it
pub aside_dry : {m : ℕ} {r : Run} {t : List ℕ} {st : List Scan} → Dry m r → Dry m (with_stack (with_table r t) st)
aside_dry d = record { first = d.first; count = d.count; long = d.long }

put_longer : (h : List ℕ) (a : ℕ) (ws : List ℕ) → length h ≤ length (put h a ws)
unfolding put
put_longer h a ws = simp (length-append, length-take, length-drop) (omega arith)

module _ {m : ℕ} {r : Run} where
  pub set_dry : (x v : ℕ) → Dry m r → Dry m (with_heap r (set r.heap x v))
  set_dry x v d = record { first = d.first; count = d.count; long = rw (length-set r.heap x v) d.long }

  wake_dry : (n j b : ℕ) → Dry m r → Dry m (wake n j b r)
  wake_dry n j b d = wake_by n j b r (Dry m) (λ e. aside_dry d) (λ ne. d)

module _ (n : ℕ) where
  -- a page is taken behind the heap
  pub page_dry : {m : ℕ} {r : Run} (j : ℕ) → Dry m r → Dry (m + 2 ^ n) (any_page n j r).1
  unfolding any_page
  page_dry {r = r} j d =
      rw (takes_none n j r d.first)
      (record {
        first = d.first;
        count = d.count;
        long =
            let a = d.long in
            let b = length-append r.heap (0 ∷ suc j ∷ replicate (2 ^ n - 2) 0) in
            let c = length-replicate {A = ℕ} (2 ^ n - 2) 0 in
            omega arith;
      })

  pub any_dry : (j : ℕ) (r : Run) → StaysDry r (any_page n j r).1
  any_dry j r m d = let t = page_dry j d in record { first = t.first; count = t.count; long = let a = t.long in omega arith }

  pub join_dry : {m : ℕ} (j : ℕ) (p : ℕ × Run) → Dry m p.1 → Dry m (joined n j p)
  unfolding join
  join_dry j p d = record { first = d.first; count = d.count; long = rw (length-set p.1.heap (end_of p.1.table j - 2 ^ n) (suc p.0)) d.long }

  store_dry : {m : ℕ} {r : Run} (j : ℕ) (ws : List ℕ) → Dry m r → Dry m (store n j ws r)
  unfolding store
  store_dry {r = r} j ws d =
      record { first = d.first; count = d.count; long = let a = d.long in let b = put_longer r.heap (top_of r.table j) ws in omega arith }

  pub forward_dry : {m : ℕ} {r : Run} (j a : ℕ) (ws : List ℕ) → Dry m r → Dry m (forwarded n j a (stored n j ws r)).1
  forward_dry {r = r} j a ws d = set_dry a (4 * top_of r.table j) (wake_dry n j (top_of r.table j) (store_dry j ws d))
