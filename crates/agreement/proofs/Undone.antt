-- A collection that lacks a page is undone: the headers are put back, and each taken page, in the order of taking, is cleared and gets its
-- link of before, which its origin has kept. No page is still free. So the heap is as it was.
use Prim.Native.Nat.{ℕ, ◌+◌, ◌*◌, ◌/◌, ◌^◌, ◌≤◌, ◌<◌}
use native.Mathlib.Nat.{le_refl, div-add-mod', mod-lt}
use native.Mathlib.Omega.{arith}
use native.Mathlib.Decide.{ℕ_discrete}
use mathlib.Core.Path.{◌≡◌, refl, sym, ap, ◌∙◌, subst}
use mathlib.Core.Logic.{◌≢◌, ◌⊎◌, inl, inr}
use mathlib.Core.List.Memᴰ
use mathlib.Core.List.{List, [], ◌∷◌, Memᴰ}
use lib.ListN.{length, set, length-set}
use lib.Seq.{ext_get_or}
use Rattle.laws.proofs.Lists.{set_elsewhere}
use Rattle.laws.specs.Lists.{at}
use Rattle.laws.proofs.Once.{Once, once_tail, once_head, in_tail, Linked, once_split}
use Rattle.laws.proofs.Each.{along_keep}
use Rattle.rules.specs.declared.Refusal.{Refusal}
use Rattle.rules.specs.Memory.{Store, page_count, link, origin}
use Rattle.rules.specs.Refusals.{refused}
use Rattle.rules.specs.Pages.{clear_page}
use Rattle.rules.proofs.Limits.{page_known}
use Rattle.facts.proofs.Laid.{old≢mine, spare≢beyond, old, spare}
use Rattle.facts.proofs.Sound.{Chained, in_free, in_region, Sound}
use Rattle.facts.proofs.Goods.{page_ends}
use Rattle.working.proofs.Invariant.{Ghost}
use Rattle.motion.specs.Leaves.{Desk, taken}
use Rattle.motion.specs.Whole.{undo_headers, relink, relink_all, undo, lacking}
use Rattle.agreement.proofs.Matching.{Matching}
use Rattle.agreement.proofs.Frames.{set_as}
use Rattle.agreement.proofs.Stuck.{Stuck}
use Rattle.facts.proofs.Cleared.{clear_length, clear_else, clear_in}
use Rattle.agreement.proofs.Restored.{headers_back, old_back}

module _ {s : Store} {S : Sound s} {d : Desk} (A : Stuck s S d) where
  abbrev g : Ghost
  g = A.ghost

  abbrev M : Matching s S A.ghost A.run d
  M = A.matching

  abbrev n : ℕ
  n = s.ctl.n

  abbrev P : ℕ
  P = 2 ^ s.ctl.n

  abbrev N : ℕ
  N = page_count s.ctl.n s.heap

  abbrev R : ℕ
  R = s.ctl.regions

  abbrev h₁ : List ℕ
  h₁ = undo_headers n N R s.table d.heap

  -- a taken page was free
  was_free : (k : ℕ) → Memᴰ k M.took → S.own k ≡ spare
  was_free k m = S.laid.free_own k (subst (Memᴰ k) (sym M.front) (Memᴰ.append_left g.free m))

  -- the pages ks are still to be linked; all others are as before
  pub record Linking (ks : List ℕ) (h : List ℕ) : Type 0 where
    pub size : length h ≡ length s.heap
    pub back : (k x : ℕ) → k < N → (Memᴰ k ks → ⊥) → k * P ≤ x → x < k * P + P → at h x ≡ at s.heap x
    pub kept : (k : ℕ) → Memᴰ k ks → at h (k * P + 1) ≡ link n s.heap k
    pub once : Once ks

  turn : (k : ℕ) (ks : List ℕ) (h : List ℕ) → Memᴰ k M.took → Linking (k ∷ ks) h → (origin n h k ≡ link n s.heap k) × Linking ks (relink n k h)
  unfolding origin link relink
  turn k ks h here L = (
    L.kept k (Memᴰ.head refl),
    record {
      size = length-set h₂ (k * P) w ∙ clear_length n h k k_in ∙ L.size;
      back = λ l x b ne p q. back l x b ne p q (ℕ_discrete l k);
      kept = λ l m. kept l m;
      once = once_tail L.once;
    },
  )
    where
      w : ℕ
      w = origin n h k

      h₂ : List ℕ
      h₂ = clear_page n h k

      own_k : S.own k ≡ spare
      own_k = was_free k here

      there : k < N
      there = S.laid.known k (spare≢beyond own_k)

      k_in : k * P + P ≤ length h
      k_in = let a = page_ends n s.heap S.within.paged k there in let b = L.size in omega arith

      -- another page
      else_same : (l x : ℕ) → l ≢ k → l * P ≤ x → x < l * P + P → at (set h₂ (k * P) w) x ≡ at h x
      else_same l x ne p q =
          let c = S.laid.big in
          set_elsewhere (2 ^ n) h₂ k (k * P) w l x (le_refl _) (omega arith) ne p q ∙ clear_else n h k k_in l x ne p q

      in_page : (x : ℕ) → k * P ≤ x → x < k * P + P → at (set h₂ (k * P) w) x ≡ at s.heap x
      in_page x p q =
          let c = clear_length n h k k_in in
          let a = k_in in
          let b = S.laid.big in
          set_as s.heap h₂ (k * P) w x (omega arith) (L.kept k (Memᴰ.head refl))
          (λ ne. clear_in n h k k_in x p q ∙ sym ((S.laid.free_clean k own_k).rest x (omega arith) q))

      back : (l x : ℕ) → l < N → (Memᴰ l ks → ⊥) → l * P ≤ x → x < l * P + P → Dec (l ≡ k) → at (set h₂ (k * P) w) x ≡ at s.heap x
      back l x b ne p q (yes e) = let v : l * P ≡ k * P = ap (λ y. y * P) e in in_page x (omega arith) (omega arith)
      back l x b ne p q (no f) = else_same l x f p q ∙ L.back l x b (λ m. ne (in_tail f m)) p q

      kept : (l : ℕ) → Memᴰ l ks → at (set h₂ (k * P) w) (l * P + 1) ≡ at s.heap (l * P)
      kept l m =
          let c = S.laid.big in
          else_same l (l * P + 1) (λ e. once_head L.once (subst (λ y. Memᴰ y ks) e m)) (omega arith) (omega arith) ∙ L.kept l (Memᴰ.tail m)

  begin : Linking M.took h₁
  begin =
      record {
        size = (headers_back A).size;
        back = λ k x b ne p q. by k x ne p q (A.owned.chain k b);
        kept = kept;
        once = (once_split M.took (subst Once M.front S.laid.free_once)).0;
      }
    where
      by : (k x : ℕ) → (Memᴰ k M.took → ⊥) → k * P ≤ x → x < k * P + P → (g.own k ≡ old) ⊎ Chained R g.own g.pages g.free k → at h₁ x ≡ at s.heap x
      by k x ne p q (inl o) = old_back A k x o (p, q)
      by k x ne p q (inr (in_free o m)) = absurd (Memᴰ.not-nil (subst (Memᴰ k) A.none_free m))
      by k x ne p q (inr (in_region j b o m)) = absurd (ne ((M.owned k).1 (j, o)))

      kept : (k : ℕ) → Memᴰ k M.took → at h₁ (k * P + 1) ≡ link n s.heap k
      kept k m =
          let c = S.laid.big in
          let o = (M.owned k).0 m in
          (headers_back A).others k (k * P + 1) (λ q. old≢mine q o.1) (omega arith, omega arith) ∙ M.kept_link k m

  end : Linking [] (relink_all n (length M.took) N s.ctl.first h₁)
  end =
      along_keep N (origin n) (relink n) (link n s.heap) Linking M.took (λ k m. S.laid.known k (spare≢beyond (was_free k m))) turn (length M.took) M.took g.free
      s.ctl.first h₁ (λ k m. m) (subst (λ ks. Linked (link n s.heap) s.ctl.first ks) M.front S.laid.free_links) (le_refl _) (λ q. absurd (omega arith)) begin

  pub undo_back : undo n (at d.notes taken) N R s.ctl.first s.table d.heap ≡ s.heap
  undo_back =
      rw M.taken_count
      (ext_get_or 0 _ _ end.size
      (λ x b.
      let c = S.laid.big in
      let f = end.size in
      let u = div-add-mod' x P in
      let v = mod-lt x {m = P} (omega arith) in
      end.back (x / P) x (page_known n (length s.heap) x S.within.paged (omega arith)) (λ m. Memᴰ.not-nil m) (omega arith) (omega arith)))

pub lacking_is : {s : Store} {S : Sound s} {d : Desk} → Stuck s S d → lacking s (page_count s.ctl.n s.heap) d ≡ refused s Refusal.NoPage
unfolding lacking
lacking_is A = rw (undo_back A)
