-- Room for a region at work and in the plain run: both have it, or both take the same page and link it, since they read the same row.
use Prim.Native.Nat.{ℕ, suc, ◌+◌, ◌-◌, ◌*◌, ◌^◌, ◌≤◌, ◌<◌}
use native.Mathlib.Numerals.{sub-one}
use native.Mathlib.Omega.{arith}
use mathlib.Core.Path.{◌≡◌, refl, sym, ap, ◌∙◌}
use mathlib.Core.Logic.{◌⊎◌, inl, inr}
use mathlib.Core.Bool.{true, false}
use mathlib.Core.List.Memᴰ
use mathlib.Core.List.{List, [], ◌∷◌}
use lib.ListN.{length, set, length-set}
use lib.Dec.{leb}
use borrow.Author.Tests.{ne_eqb, lt-leb}
use Rattle.laws.specs.Each.{after}
use Rattle.rules.specs.Memory.{Store, page_count, end_of, top_of}
use Rattle.rules.specs.Pages.{Run, with_heap, with_table, join}
use Rattle.facts.proofs.Laid.{Owner, mine, Layout, upd, last_in_heap, free_known, last_start, first_none}
use Rattle.facts.proofs.Sound.{Sound}
use Rattle.rules.proofs.Pages.{taken, taken_table, taken_long}
use Rattle.working.proofs.Placed.{Roomed}
use Rattle.motion.specs.Leaves.{Desk, desk}
use Rattle.motion.specs.Run.{join_at, join_on, room}
use Rattle.agreement.proofs.Matching.{Alike}
use Rattle.agreement.proofs.Frames.{word_on, row_on, end_same, top_same, link_plain}
use Rattle.agreement.proofs.Took as T

module _ {s : Store} {S : Sound s} {own : ℕ → Owner} {free : List ℕ} {r : Run} {d : Desk} {fin : ℕ → ℕ} {pages : ℕ → List ℕ} (M : Alike s S own free r d)
    (L : Layout s.ctl.n (page_count s.ctl.n s.heap) s.ctl.regions own fin pages free r) (j m : ℕ) (j_r : j < s.ctl.regions) where
  abbrev n : ℕ
  n = s.ctl.n

  abbrev N : ℕ
  N = page_count n s.heap

  abbrev R : ℕ
  R = s.ctl.regions

  abbrev P : ℕ
  P = 2 ^ n

  -- the same test
  test : leb (top_of d.notes j + m) (end_of d.notes j) ≡ leb (top_of r.table j + m) (end_of r.table j)
  test = rw (top_same M j j_r, end_same M j j_r)

  -- no room, and no page
  pub no_room : free ≡ [] → end_of r.table j < top_of r.table j + m → room n j m d ≡ after false d
  unfolding room join_on
  no_room e wants =
      let q : leb (top_of d.notes j + m) (end_of d.notes j) ≡ false = test ∙ lt-leb (top_of r.table j + m) (end_of r.table j) wants in
      rw (q, T.takes_none M (first_none L e))

  -- ---- a page is taken
  module _ (k : ℕ) (ks : List ℕ) (e : free ≡ k ∷ ks) where
    L' : Layout n N R own fin pages (k ∷ ks) r
    L' = rw e at L

    M' : Alike s S own (k ∷ ks) r d
    M' = rw e at M

    abbrev r₀ : Run
    r₀ = taken n j k r

    abbrev d₀ : Desk
    d₀ = T.took_desk n k d

    abbrev own₀ : ℕ → Owner
    own₀ = upd own k (mine j)

    M₀ : Alike s S own₀ ks r₀ d₀
    M₀ = T.took_matches M' L' j

    -- the page that was last
    abbrev z : ℕ
    z = (L.mine_top j j_r).page

    abbrev x : ℕ
    x = end_of r₀.table j - P

    x_is : x ≡ z * P
    x_is = ap (λ t. end_of t j - P) (taken_table n j k r) ∙ last_start L j j_r

    abbrev r₁ : Run
    r₁ = with_heap r₀ (set r₀.heap x (suc k))

    abbrev d₁ : Desk
    d₁ = desk (set d₀.heap x (suc k)) d₀.notes

    M₁ : Alike s S own₀ ks r₁ d₁
    M₁ =
        let a = last_in_heap L j j_r in
        let b = L.big in
        let c = taken_long n j k r in
        let e = x_is in
        word_on M₀ x (suc k) (omega arith) (rw x_is (link_plain S own₀ z))

    wide : 4 * R ≤ length r₀.table
    wide = rw (taken_table n j k r) L.rows

    abbrev r₂ : Run
    r₂ = with_table r₁ (set r₀.table (4 * j) (k * P + P))

    abbrev d₂ : Desk
    d₂ = desk d₁.heap (set d₀.notes (4 * j) (k * P + P))

    M₂ : Alike s S own₀ ks r₂ d₂
    M₂ = let w = wide in row_on M₁ (4 * j) (k * P + P) (omega arith) (omega arith)

    abbrev d₃ : Desk
    d₃ = desk d₁.heap (set (set d₀.notes (4 * j) (k * P + P)) (4 * j + 2) (k * P + 2))

    made : Alike s S own₀ ks (join n j k r₀) d₃
    unfolding join
    made =
        let w = wide in
        let l = length-set r₀.table (4 * j) (k * P + P) in
        row_on M₂ (4 * j + 2) (k * P + 2) (omega arith) (omega arith)

    k_known : k < N
    k_known = free_known L' k (Memᴰ.head refl)

    makes : leb (top_of r.table j + m) (end_of r.table j) ≡ false → room n j m d ≡ after true d₃
    unfolding room join_on join_at
    makes e =
        let q : leb (top_of d.notes j + m) (end_of d.notes j) ≡ false = test ∙ e in
        let b = T.start_is S k k_known in
        let x : end_of d.notes j ≡ end_of r₀.table j = end_same M j j_r ∙ ap (λ t. end_of t j) (sym (taken_table n j k r)) in
        rw (q, T.takes M' L', ne_eqb (suc k) 0 (omega arith), sub-one (suc k), b, x)

  -- ---- room, as the plain run has it
  pub record Room (r₁ : Run) (K : Roomed n N R own fin pages free r j m r₁) : Type 0 where
    pub desk : Desk
    pub goes : room n j m d ≡ after true desk
    pub matches : Alike s S K.own₁ K.free₁ r₁ desk

  pub rooms : (r₁ : Run) (K : Roomed n N R own fin pages free r j m r₁) → Room r₁ K
  unfolding room
  rooms r₁ K = go K.how
    where
      go : ((leb (top_of r.table j + m) (end_of r.table j) ≡ true) × (r ≡ r₁) × (own ≡ K.own₁) × (free ≡ K.free₁))
          ⊎ ((leb (top_of r.table j + m) (end_of r.table j) ≡ false) × ((k : ℕ) × (free ≡ k ∷ K.free₁) × (join n j k (taken n j k r) ≡ r₁) × (upd own k (mine j) ≡ K.own₁)))
          → Room r₁ K
      go (inl u) =
          let q : leb (top_of d.notes j + m) (end_of d.notes j) ≡ true = test ∙ u.0 in
          record {
            desk = d;
            goes = rw q;
            matches = rw (u.1, u.2, u.3) at M;
          }
      go (inr u) =
          let k : ℕ = u.1.0 in
          let f : free ≡ k ∷ K.free₁ = u.1.1 in
          record {
            desk = d₃ k K.free₁ f;
            goes = makes k K.free₁ f u.0;
            matches = rw (u.1.2, u.1.3) at (made k K.free₁ f);
          }
