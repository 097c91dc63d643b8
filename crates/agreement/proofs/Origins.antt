-- The taken pages get their origins: every taken page is in one region's new chain, and only the origins differed. So the heap is then the
-- plain run's, word by word.
use Prim.Native.Nat.{ℕ, suc, ◌+◌, ◌*◌, ◌^◌, ◌<◌, zero-le}
use native.Mathlib.Nat.{mul-le-mul_right}
use native.Mathlib.Omega.{arith}
use mathlib.Core.Path.{◌≡◌, sym, ap, ◌∙◌}
use mathlib.Core.Logic.{◌≢◌, inr}
use mathlib.Core.List.{List, [], ◌∷◌, Memᴰ}
use lib.ListN.{length, length-set}
use lib.Seq.{ext_get_or}
use Rattle.laws.proofs.Lists.{second_none}
use Rattle.laws.specs.Lists.{at}
use Rattle.rules.specs.Memory.{Store, page_count, link}
use Rattle.rules.specs.Pages.{Run}
use Rattle.facts.proofs.Laid.{chain_body, chain_known}
use Rattle.facts.proofs.Sound.{Sound, descriptor_fits}
use Rattle.working.proofs.Owned.{owned_mine}
use Rattle.working.proofs.Invariant.{Ghost, Inv}
use Rattle.motion.specs.Leaves.{Desk}
use Rattle.motion.specs.Whole.{own, own_all}
use Rattle.agreement.proofs.Matching.{Matching}
use Rattle.agreement.proofs.Frames.{set_as}
use Rattle.agreement.proofs.Walked.{regions_keep, Ahead, ahead_enter, ahead_tail, ahead_none}

module _ {s : Store} {S : Sound s} {g : Ghost} {r : Run} {d : Desk} (I : Inv s S g r) (M : Matching s S g r d) where
  abbrev n : ℕ
  n = s.ctl.n

  abbrev P : ℕ
  P = 2 ^ s.ctl.n

  abbrev N : ℕ
  N = page_count s.ctl.n s.heap

  abbrev R : ℕ
  R = s.ctl.regions

  -- the words are the run's, but for the origins of the pages left
  pub record Half (left : ℕ → Type 0) (h : List ℕ) : Type 0 where
    pub size : length h ≡ length r.heap
    pub words : (x : ℕ) → ((k : ℕ) → left k → x ≢ k * P + 1) → at h x ≡ at r.heap x

  half_more : {left left' : ℕ → Type 0} {h : List ℕ} → ((k : ℕ) → left k → left' k) → Half left h → Half left' h
  half_more f H = record { size = H.size; words = λ x ne. H.words x (λ k q. ne k (f k q)) }

  abbrev Good : List ℕ → ℕ → List ℕ → Type 0
  Good ks j h = Half (Ahead R g.pages ks j) h

  turn : (j k : ℕ) (ks : List ℕ) (h : List ℕ) → j < R → Memᴰ k (g.pages j) → Good (k ∷ ks) (suc j) h → (link n h k ≡ link n r.heap k) × Good ks (suc j) (own n j k h)
  unfolding link own
  turn j k ks h j_r m H = (
    H.words (k * P) (λ l q e. second_none P k l (descriptor_fits S) (sym e)),
    record {
      size = length-set h (k * P + 1) (suc j) ∙ H.size;
      words = λ x ne.
          let a = mul-le-mul_right P (chain_known I.laid j j_r k m) in
          let b = I.laid.size in
          let c = I.laid.big in
          let e = H.size in
          set_as r.heap h (k * P + 1) (suc j) x (omega arith) (sym (chain_body I.laid j k j_r m).whose)
          (λ f. H.words x (λ l q e. ne l (ahead_tail R g.pages (λ z. f (e ∙ ap (λ y. y * P + 1) z)) q) e));
    },
  )

  begin : Half (Ahead R g.pages [] 0) d.heap
  begin =
      record {
        size = M.heap_length;
        words = λ x ne. M.words x (λ k j o. let t = owned_mine I.laid I.owned o in ne k (inr (j, zero-le, t.0, t.1)));
      }

  pub origins_set : own_all n N R d.notes d.heap ≡ r.heap
  origins_set =
      let H : Half (Ahead R g.pages [] R) (own_all n N R d.notes d.heap)
      = regions_keep I.laid d.notes (λ j j_r. M.rows j 1 j_r (omega arith)) (link n) (own n) Good (λ j h j_r H. half_more (ahead_enter R g.pages j) H) turn d.heap begin in
      ext_get_or 0 _ _ H.size (λ x b. H.words x (λ k t. ahead_none R g.pages k t))
