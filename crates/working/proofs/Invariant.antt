-- The invariant of a running collection: how the heap is laid out, what was copied where, and what is still to be scanned. Each step of the
-- run keeps it. What it takes beside the run's own words is the ghost state.
use Prim.Native.Nat.{ℕ, suc, ◌+◌, ◌-◌, ◌*◌, ◌≤◌, ◌<◌}
use native.Mathlib.Nat.{le_refl}
use native.Mathlib.Omega.{arith}
use mathlib.Core.Path.{◌≡◌, refl, sym, ap, ◌∙◌}
use mathlib.Core.Logic.{◌≢◌, ◌↔◌, ◌⊎◌}
use mathlib.Core.Option.{Option, none, some}
use mathlib.Core.List.{List, [], ◌∷◌, ◌++◌, append-nil, append_assoc, map, Memᴰ}
use lib.ListN.{length}
use Rattle.laws.specs.Lists.{at}
use Rattle.laws.specs.Sums.{sum_over}
use Rattle.laws.proofs.Once.{Once}
use Rattle.rules.specs.Memory.{Store, page_count, body_address, status_of}
use Rattle.rules.specs.Words.{in_const, word_of, rec, raw, head_of}
use Rattle.rules.specs.Pages.{Scan, Run, with_table, with_stack}
use Rattle.rules.specs.Seen.{seen, words_at}
use Rattle.rules.specs.Collection.{from_space}
use Rattle.facts.proofs.Laid.{Owner, old, Layout, page_in, rows_laid, old≢beyond}
use Rattle.facts.proofs.Copied.{Moved, to, Rel}
use Rattle.facts.proofs.Sound.{InHeap, InConst, Sound}
use Rattle.facts.proofs.Passing.{in_from}
use Rattle.working.proofs.Owned.{Owned, owned_mine, total}
use Rattle.working.proofs.Log.{pointers, olds, Log}
use Rattle.working.proofs.Next.{Row}
use Rattle.working.proofs.Wanting.{Goes}
use Rattle.working.proofs.Dry.{Overdrawn}

-- ---- the ghost state

pub record Ghost : Type 0 where
  -- whose each page is, where its values end, each region's new pages, the free list
  pub own : ℕ → Owner
  pub fin : ℕ → ℕ
  pub pages : ℕ → List ℕ
  pub free : List ℕ
  -- what was copied where, and how many fields of each copy are scanned
  pub log : List Moved
  pub count : ℕ → ℕ
  -- each region's copies in their order: those scanned, and those still to be scanned
  pub past : ℕ → List ℕ
  pub todo : ℕ → List ℕ
  -- the region that is being scanned, and its copy that is
  pub cur : Option ℕ
  pub half : Option ℕ

-- a pointer that stays
pub record Kept (s : Store) (w : ℕ) : Type 0 where
  pub address : ℕ
  pub word : word_of w ≡ in_const address
  pub good : InConst s.consts address

abbrev pub regions_of : List Scan → List ℕ
regions_of = map (λ (t : Scan). t.region)

-- an entry of the scan stack: the region's first copy to be scanned
pub record Waits (R : ℕ) (todo : ℕ → List ℕ) (cur : Option ℕ) (table : List ℕ) (t : Scan) : Type 0 where
  pub known : t.region < R
  pub awake : status_of table t.region ≢ 0
  pub other : cur ≢ some t.region
  pub rest : List ℕ
  pub begins : todo t.region ≡ t.address ∷ rest

-- the regions with copies to be scanned are awake: each is on the stack, once, or is being scanned
pub record Queue (R : ℕ) (todo : ℕ → List ℕ) (cur : Option ℕ) (table : List ℕ) (stack : List Scan) : Type 0 where
  pub stacked : (t : Scan) → Memᴰ t stack → Waits R todo cur table t
  pub once : Once (regions_of stack)
  pub at_work : (j : ℕ) → cur ≡ some j → (j < R) × (status_of table j ≢ 0)
  pub idle : (j : ℕ) → j < R → status_of table j ≡ 0 → todo j ≡ []
  pub busy : (j : ℕ) → j < R → status_of table j ≢ 0 → Memᴰ j (regions_of stack) ⊎ (cur ≡ some j)

-- what is still to be scanned
pub record Pending (n R : ℕ) (g : Ghost) (r : Run) : Type 0 where
  pub rows : (j : ℕ) → j < R → Row n r.heap g.fin (g.pages j) (g.past j ++ g.todo j)
  pub untouched : (j b : ℕ) → j < R → Memᴰ b (g.todo j) → g.count b ≡ 0
  pub scanned : {a b : ℕ} → Memᴰ (to a b) g.log → ((j : ℕ) → j < R → Memᴰ b (g.todo j) → ⊥) → g.half ≢ some b
      → (l : ℕ) → head_of (at r.heap b) ≡ rec l → l ≤ g.count b
  pub raws : {a b : ℕ} → Memᴰ (to a b) g.log → (l : ℕ) → head_of (at r.heap b) ≡ raw l → g.count b ≡ 0
  pub queue : Queue R g.todo g.cur r.table r.stack

-- the words that the values of page k take
abbrev pub filled_to : ℕ → (ℕ → ℕ) → ℕ → ℕ
filled_to n fin k = fin k - body_address n k

pub record Inv (s : Store) (S : Sound s) (g : Ghost) (r : Run) : Type 0 where
  pub laid : Layout s.ctl.n (page_count s.ctl.n s.heap) s.ctl.regions g.own g.fin g.pages g.free r
  pub logged : Log s.ctl.n s (Kept s) g.own g.fin r.heap g.log g.count
  pub pending : Pending s.ctl.n s.ctl.regions g r
  -- the old pages are the regions' pages of before
  pub from_space_lem : (k : ℕ) → (g.own k ≡ old) ↔ ((j : ℕ) × (j < s.ctl.regions) × Memᴰ k (S.pages j))
  pub owned : Owned (page_count s.ctl.n s.heap) s.ctl.regions g.own g.pages g.free
  -- each region holds just the words of its values that were copied
  pub tallied : (j : ℕ) → j < s.ctl.regions → sum_over (filled_to s.ctl.n g.fin) (g.pages j) ≡ sum_over (words_at (seen s) j) (olds (pointers g.log))
  -- the pages taken are the regions' new pages
  pub taken : length g.free + total g.pages s.ctl.regions ≡ s.ctl.count
  -- the table past the regions is as it was
  pub width : length r.table ≡ 256
  pub past_rows : (x : ℕ) → 4 * s.ctl.regions ≤ x → at r.table x ≡ at s.table x

module _ {s : Store} {S : Sound s} {g : Ghost} {r : Run} (I : Inv s S g r) where
  -- the old pages are the regions' pages of before, in their order
  pub from_old : (k : ℕ) → Memᴰ k (from_space s) → g.own k ≡ old
  from_old k m = (I.from_space_lem k).1 (in_from S k m)

  -- what was copied lay in the heap as it was
  pub copied_in : {a b : ℕ} (m : Memᴰ (to a b) g.log) → a + suc (I.logged.copies m).len ≤ length s.heap
  copied_in m =
      let C = I.logged.copies m in
      let ends = C.was.stands.ends in
      let page = page_in I.laid C.from (old≢beyond C.from_old) in
      let long = S.laid.size in
      let long' = I.laid.size in
      omega arith

  -- a copy's region is one of the heap's
  pub copy_known : {a b : ℕ} (m : Memᴰ (to a b) g.log) → (I.logged.copies m).region < s.ctl.regions
  copy_known m = let C = I.logged.copies m in (owned_mine I.laid I.owned C.into_mine).0

  -- and what was copied was good
  abbrev pub copy_was : {a b : ℕ} → Memᴰ (to a b) g.log → InHeap s.ctl.n s.ctl.regions s.heap a
  copy_was m =
      let C = I.logged.copies m in
      record {
        page = C.from;
        region = C.region;
        len = C.len;
        there = I.laid.known C.from (old≢beyond C.from_old);
        known = copy_known m;
        whose = C.from_whose;
        value = C.was;
      }

-- the same copies; what is scanned, what waits and what is being scanned are told anew
abbrev pub waiting : Ghost → (ℕ → List ℕ) → (ℕ → List ℕ) → Option ℕ → Option ℕ → Ghost
waiting g past todo cur half =
    record {
      own = g.own;
      fin = g.fin;
      pages = g.pages;
      free = g.free;
      log = g.log;
      count = g.count;
      past = past;
      todo = todo;
      cur = cur;
      half = half;
    }

-- the table may have other statuses, and the scan stack is any
pub waiting_on : {s : Store} {S : Sound s} {g : Ghost} {r : Run} {past todo : ℕ → List ℕ} {cur half : Option ℕ} (t : List ℕ) (stack : List Scan) → Inv s S g r
    → length t ≡ length r.table → ((x : ℕ) → 4 * s.ctl.regions ≤ x → at t x ≡ at r.table x)
    → ((i x : ℕ) → i < s.ctl.regions → 4 * i ≤ x → x < 4 * i + 3 → at t x ≡ at r.table x)
    → Pending s.ctl.n s.ctl.regions (waiting g past todo cur half) (with_stack (with_table r t) stack) → Inv s S (waiting g past todo cur half) (with_stack (with_table r t) stack)
waiting_on {s} t stack I long past rows P =
    record {
      laid = rows_laid I.laid s.ctl.regions (le_refl _) t stack (rw long I.laid.rows) rows;
      logged = I.logged;
      pending = P;
      from_space_lem = I.from_space_lem;
      owned = I.owned;
      tallied = I.tallied;
      taken = I.taken;
      width = long ∙ I.width;
      past_rows = λ x b. past x b ∙ I.past_rows x b;
    }

pub waiting_inv : {s : Store} {S : Sound s} {g : Ghost} {r : Run} {past todo : ℕ → List ℕ} {cur half : Option ℕ} (stack : List Scan) → Inv s S g r
    → Pending s.ctl.n s.ctl.regions (waiting g past todo cur half) (with_stack r stack) → Inv s S (waiting g past todo cur half) (with_stack r stack)
waiting_inv {r = r} stack I P = waiting_on r.table stack I refl (λ x b. refl) (λ i x b lo hi. refl) P

-- ---- one state and a later one

-- nothing is forgotten, and each copy made costs at most what it adds to the log
pub record Later (R : ℕ) (g : Ghost) (r : Run) (g' : Ghost) (r' : Run) : Type 0 where
  pub log : (m : Moved) → Memᴰ m g.log → Memᴰ m g'.log
  pub cur : g'.cur ≡ g.cur
  pub half : g'.half ≡ g.half
  pub past : (j : ℕ) → g'.past j ≡ g.past j
  pub todo : (j : ℕ) → (ts : List ℕ) × (g'.todo j ≡ g.todo j ++ ts)
  pub waits : {a b : ℕ} → Memᴰ (to a b) g.log → (j : ℕ) → Memᴰ b (g'.todo j) → Memᴰ b (g.todo j)
  pub cost : total g'.todo R + length r'.stack + 2 * length g.log ≤ total g.todo R + length r.stack + 2 * length g'.log

pub later_refl : (R : ℕ) (g : Ghost) (r : Run) → Later R g r g r
later_refl R g r =
    record { log = λ m q. q; cur = refl; half = refl; past = λ j. refl; todo = λ j. ([], sym (append-nil (g.todo j))); waits = λ q j m. m; cost = le_refl _ }

pub later_trans : {R : ℕ} {g : Ghost} {r : Run} {g₁ : Ghost} {r₁ : Run} {g₂ : Ghost} {r₂ : Run} → Later R g r g₁ r₁ → Later R g₁ r₁ g₂ r₂ → Later R g r g₂ r₂
later_trans {R} {g} {r} {g₁} {r₁} {g₂} {r₂} p q =
    let a = p.cost in
    let b = q.cost in
    record {
      log = λ m t. q.log m (p.log m t);
      cur = q.cur ∙ p.cur;
      half = q.half ∙ p.half;
      past = λ j. q.past j ∙ p.past j;
      todo = λ j.
          let t = p.todo j in
          let u = q.todo j in
          (t.0 ++ u.0, u.1 ∙ ap (λ xs. xs ++ u.0) t.1 ∙ append_assoc (g.todo j) t.0 u.0);
      waits = λ {a} {b} t j m. p.waits t j (q.waits (p.log (to a b) t) j m);
      cost = omega arith;
    }

-- ---- how a step ends

-- the word w became v
pub record Became (s : Store) (S : Sound s) (g : Ghost) (r : Run) (w v : ℕ) (r' : Run) : Type 0 where
  pub ghost : Ghost
  pub inv : Inv s S ghost r'
  pub later : Later s.ctl.regions g r ghost r'
  pub rel : Rel (Kept s) (pointers ghost.log) w v
  pub count : {a b : ℕ} → Memᴰ (to a b) g.log → ghost.count b ≡ g.count b

-- an evacuation of w that ends in o; x is what it comes to with as many pages as it wants
abbrev pub Evacuates : (s : Store) → Sound s → Ghost → Run → ℕ → Option (ℕ × Run) → Run → Type 0
Evacuates s S g r w o x = Goes none some o (Overdrawn s x) (λ (p : ℕ × Run). Became s S g r w p.0 p.1)

-- f steps are enough: two for each word of the heap that is not yet the header of a copied value, one for each copy to be scanned, one for
-- each region on the stack, and one
pub record Enough (s : Store) (g : Ghost) (r : Run) (f : ℕ) : Type 0 where
  pub steps : 2 * length s.heap + total g.todo s.ctl.regions + suc (length r.stack) ≤ f + 2 * length g.log
