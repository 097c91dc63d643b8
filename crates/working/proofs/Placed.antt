-- Room for a region: it has it, or takes a page. Either way the heap stays laid out, and no word behind a link changes in a page that was
-- not free.
use Prim.Native.Nat.{ℕ, ◌+◌, ◌*◌, ◌^◌, ◌≤◌, ◌<◌}
use native.Mathlib.Nat.{le_refl}
use native.Mathlib.Omega.{arith}
use native.Mathlib.Decide.{ℕ_discrete}
use mathlib.Core.Path.{◌≡◌, refl, sym, ap, ◌∙◌}
use mathlib.Core.Logic.{◌≢◌, ◌↔◌, ◌⊎◌, inl, inr}
use mathlib.Core.Bool.{true, false}
use mathlib.Core.Option.{some}
use mathlib.Core.List.Memᴰ
use mathlib.Core.List.{List, [], ◌∷◌, ◌++◌, Memᴰ}
use lib.ListN.{length, set, length-set}
use lib.Dec.{leb}
use borrow.Author.Tests.{leb-true}
use Rattle.working.proofs.Taken as T
use Rattle.working.proofs.Roomy as Q
use Rattle.rules.specs.Memory.{link, end_of, top_of}
use Rattle.laws.specs.Lists.{at}
use Rattle.rules.specs.Pages.{Run, join, room}
use Rattle.facts.proofs.Laid.{upd, upd_same, upd_other, Owner, old, spare, beyond, mine, Layout, first_is, first_spare, last_own, old≢spare, old≢mine, spare≢mine}
use Rattle.working.proofs.Log.{Into, last_page_lem, free_page}
use Rattle.rules.proofs.Pages.{taken, takes}
use Rattle.working.proofs.Owned.{Owned, total, total_snoc, taken_old, taken_owned}
use Rattle.laws.proofs.Once.{last_is}

-- what giving region j room for m words does
pub record Roomed (n N R : ℕ) (own : ℕ → Owner) (fin : ℕ → ℕ) (pages : ℕ → List ℕ) (free : List ℕ) (r₀ : Run) (j m : ℕ) (r : Run) : Type 0 where
  pub own₁ : ℕ → Owner
  pub fin₁ : ℕ → ℕ
  pub pages₁ : ℕ → List ℕ
  pub free₁ : List ℕ
  pub laid : Layout n N R own₁ fin₁ pages₁ free₁ r
  pub fits : top_of r.table j + m ≤ end_of r.table j
  pub old_kept : (k : ℕ) → (own k ≡ old) ↔ (own₁ k ≡ old)
  pub mine_kept : (k i : ℕ) → own k ≡ mine i → (own₁ k ≡ mine i) × (fin₁ k ≡ fin k)
  -- only the region's last page can have become its own
  pub mine_from : (j_r : j < R) (k i : ℕ) → own₁ k ≡ mine i → k ≢ (laid.mine_top j j_r).page → own k ≡ mine i
  pub words : (k x : ℕ) → own k ≢ spare → own k ≢ beyond → k * 2 ^ n < x → x < k * 2 ^ n + 2 ^ n → at r.heap x ≡ at r₀.heap x
  pub old_links : (k : ℕ) → own k ≡ old → at r.heap (k * 2 ^ n) ≡ at r₀.heap (k * 2 ^ n)
  pub owned : Owned N R own pages free → Owned N R own₁ pages₁ free₁
  pub pages_other : (i : ℕ) → i ≢ j → pages₁ i ≡ pages i
  pub place : (j_r : j < R) → Into n own fin pages pages₁ j (top_of r.table j) (laid.mine_top j j_r).page
  pub spent : length free₁ + total pages₁ R ≡ length free + total pages R
  -- of the table only the region's e and a change
  pub width : length r.table ≡ length r₀.table
  pub row_kept : (x : ℕ) → x ≢ 4 * j → x ≢ 4 * j + 2 → at r.table x ≡ at r₀.table x
  pub stack_kept : r.stack ≡ r₀.stack
  -- there was room, or a page was taken
  pub how : ((leb (top_of r₀.table j + m) (end_of r₀.table j) ≡ true) × (r₀ ≡ r) × (own ≡ own₁) × (free ≡ free₁))
      ⊎ ((leb (top_of r₀.table j + m) (end_of r₀.table j) ≡ false) × ((k : ℕ) × (free ≡ k ∷ free₁) × (join n j k (taken n j k r₀) ≡ r) × (upd own k (mine j) ≡ own₁)))

-- there was room
pub room_was : {n N R : ℕ} {own : ℕ → Owner} {fin : ℕ → ℕ} {pages : ℕ → List ℕ} {free : List ℕ} {r : Run} → Layout n N R own fin pages free r → (j m : ℕ) → leb (top_of r.table j + m) (end_of r.table j) ≡ true
    → (room n j m r ≡ some r) × Roomed n N R own fin pages free r j m r
unfolding room
room_was {own = own} {fin} {pages} {free} L j m e = (
  rw (e, room),
  record {
    own₁ = own;
    fin₁ = fin;
    pages₁ = pages;
    free₁ = free;
    laid = L;
    fits = leb-true _ _ e;
    old_kept = λ k. (λ q. q, λ q. q);
    mine_kept = λ k i q. (q, refl);
    mine_from = λ j_r k i q ne. q;
    words = λ k x a b p q. refl;
    old_links = λ k o. refl;
    owned = λ W. W;
    pages_other = λ i ne. refl;
    place = λ j_r. last_page_lem (last_own L j j_r) (L.mine_top j j_r).last refl (L.mine_top j j_r).top;
    spent = refl;
    width = refl;
    row_kept = λ x p q. refl;
    stack_kept = refl;
    how = inl (e, refl, refl, refl);
  },
)

-- there was none, and a page
module _ {n N R : ℕ} {own : ℕ → Owner} {fin : ℕ → ℕ} {pages : ℕ → List ℕ} {k : ℕ} {ks : List ℕ} {r : Run} (L : Layout n N R own fin pages (k ∷ ks) r) (j m : ℕ) (j_r : j < R) (small : m + 2 ≤ 2 ^ n) where
  abbrev r₀ : Run
  r₀ = taken n j k r

  L₀ : Layout n N R (upd own k (mine j)) (upd fin k (k * 2 ^ n + 2)) pages ks r₀
  L₀ = T.taken_laid L j

  spare_k : own k ≡ spare
  spare_k = first_spare L

  k_new : Memᴰ k (pages j) → ⊥
  k_new p = spare≢mine spare_k (L.mine_own j k j_r p)

  taken_link : link n r₀.heap k ≡ 0
  unfolding taken
  taken_link = T.k_link L j

  own_new : upd own k (mine j) k ≡ mine j
  own_new = upd_same own k (mine j) k refl

  fin_new : upd fin k (k * 2 ^ n + 2) k ≡ k * 2 ^ n + 2
  fin_new = upd_same fin k (k * 2 ^ n + 2) k refl

  L₁ : Layout n N R (upd own k (mine j)) (upd fin k (k * 2 ^ n + 2)) (upd pages j (pages j ++ k ∷ [])) ks (join n j k r₀)
  L₁ = Q.joined_laid L₀ j j_r k own_new k_new taken_link fin_new

  last_k : (b : j < R) → (L₁.mine_top j b).page ≡ k
  last_k b = last_is (pages j) (rw (upd_same pages j (pages j ++ k ∷ []) j refl) at (L₁.mine_top j b).last)

  end_is : end_of (join n j k r₀).table j ≡ k * 2 ^ n + 2 ^ n
  end_is = (L₁.mine_top j j_r).end ∙ ap (λ l. l * 2 ^ n + 2 ^ n) (last_k j_r)

  top_is : top_of (join n j k r₀).table j ≡ k * 2 ^ n + 2
  top_is = (L₁.mine_top j j_r).top ∙ ap (upd fin k (k * 2 ^ n + 2)) (last_k j_r) ∙ fin_new

  not_k : (l : ℕ) → own l ≢ spare → l ≢ k
  not_k l ne e = ne (ap own e ∙ spare_k)

  same_words : (l x : ℕ) → own l ≢ spare → own l ≢ beyond → l * 2 ^ n < x → x < l * 2 ^ n + 2 ^ n → at (join n j k r₀).heap x ≡ at r.heap x
  unfolding taken join
  same_words l x a b p q = sym ((Q.like L₀ j j_r k l).word x p q) ∙ T.others L j l x (not_k l a) (omega arith) q

  same_links : (l : ℕ) → own l ≡ old → at (join n j k r₀).heap (l * 2 ^ n) ≡ at r.heap (l * 2 ^ n)
  unfolding taken join link
  same_links l o =
      let ne : l ≢ k = not_k l (λ q. old≢spare o q) in
      let b = L.big in
      sym (Q.links L₀ j j_r k l
      (λ q. old≢mine o (sym (upd_other own k (mine j) l ne) ∙ ap (upd own k (mine j)) q ∙ last_own L₀ j j_r)))
      ∙ T.others L j l (l * 2 ^ n) ne (le_refl _) (omega arith)

  same_width : length (join n j k r₀).table ≡ length r.table
  unfolding taken join
  same_width = length-set (set r.table (4 * j) (k * 2 ^ n + 2 ^ n)) (4 * j + 2) (k * 2 ^ n + 2) ∙ length-set r.table (4 * j) (k * 2 ^ n + 2 ^ n)

  same_row : (x : ℕ) → x ≢ 4 * j → x ≢ 4 * j + 2 → at (join n j k r₀).table x ≡ at r.table x
  unfolding taken join
  same_row = Q.row L₀ j j_r k

  still : (i l : ℕ) → i < R → Memᴰ l (pages i) → Memᴰ l (upd pages j (pages j ++ k ∷ []) i)
  still i l b m = go (ℕ_discrete i j)
    where
      go : Dec (i ≡ j) → Memᴰ l (upd pages j (pages j ++ k ∷ []) i)
      go (yes q) = rw (upd_same pages j (pages j ++ k ∷ []) i q) (Memᴰ.append_left (k ∷ []) (rw q at m))
      go (no ne) = rw (upd_other pages j (pages j ++ k ∷ []) i ne) m

  same_stack : (join n j k r₀).stack ≡ r.stack
  unfolding taken join
  same_stack = refl

  pub room_made : leb (top_of r.table j + m) (end_of r.table j) ≡ false → (room n j m r ≡ some (join n j k r₀)) × Roomed n N R own fin pages (k ∷ ks) r j m (join n j k r₀)
  unfolding room
  room_made e = (
    rw (e, room, takes n j k r (first_is L refl)),
    record {
      own₁ = upd own k (mine j);
      fin₁ = upd fin k (k * 2 ^ n + 2);
      pages₁ = upd pages j (pages j ++ k ∷ []);
      free₁ = ks;
      laid = L₁;
      fits = let a = end_is in let b = top_is in omega arith;
      old_kept = taken_old own k j spare_k;
      mine_kept = λ l i o.
          let ne : l ≢ k = not_k l (λ q. spare≢mine q o) in
          (upd_other own k (mine j) l ne ∙ o, upd_other fin k (k * 2 ^ n + 2) l ne);
      mine_from = λ b l i q ne. sym (upd_other own k (mine j) l (λ e. ne (e ∙ sym (last_k b)))) ∙ q;
      words = same_words;
      old_links = same_links;
      owned = taken_owned own k j (le_refl R) j_r (rw (upd_same pages j (pages j ++ k ∷ []) j refl) (Memᴰ.append_right (pages j) (Memᴰ.head refl))) still;
      pages_other = λ i ne. upd_other pages j (pages j ++ k ∷ []) i ne;
      place = λ b.
          free_page (ap own (last_k b) ∙ spare_k) (upd_same pages j (pages j ++ k ∷ []) j refl ∙ ap (λ l. pages j ++ l ∷ []) (sym (last_k b)))
          (top_is ∙ ap (λ l. l * 2 ^ n + 2) (sym (last_k b)));
      spent = let t = total_snoc pages j k R j_r in omega arith;
      width = same_width;
      row_kept = same_row;
      stack_kept = same_stack;
      how = inr (e, (k, refl, refl, refl));
    },
  )
