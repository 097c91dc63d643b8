-- A collection is refused for want of a page exactly when its working wants more pages than are free: with enough of them the working goes on,
-- and takes one behind the heap. What a collection that is done took are the pages that its regions then have.
use Rattle.std.specs.Prelude.{Result}
use Rattle.rules.specs.declared.Control.{Control}
use Rattle.rules.specs.declared.Refused.{Refused}
use Prim.Native.Nat.{ℕ, zero, suc, ◌+◌, ◌*◌, ◌/◌, ◌^◌, ◌≤◌, ◌<◌}
use native.Mathlib.Nat.{le-div_iff_mul-le}
use native.Mathlib.Omega.{arith}
use mathlib.Core.Path.{◌≡◌, refl, sym, ap, ◌∙◌}
use mathlib.Core.Logic.{◌↔◌}
use mathlib.Core.List.{List}
use mathlib.Core.Bool.{false≢true}
use lib.ListN.{length, length-append}
use Rattle.rules.specs.declared.Refusal.{Refusal}
use Rattle.rules.specs.Memory.{Store, page_count, region_pages, pages_from}
use Rattle.rules.specs.Pages.{Run}
use Rattle.rules.specs.Collection.{leaves, ending, collected, from_space}
use Rattle.rules.specs.Refusals.{Outcome, refused}
use Rattle.facts.proofs.Sound.{Sound}
use Rattle.facts.proofs.Passing.{pages_are}
use Rattle.rules.specs.Wanted.{unbounded, wanted}
use Rattle.working.proofs.Owned.{total, total_same}
use Rattle.working.proofs.Dry.{Overdrawn}
use Rattle.working.proofs.Running.{Ran, Collects, runs_dry, runs_through, collects}
use Rattle.working.proofs.Ending.{left_store, left_sound, left_pages, left_count}

-- the pages of all regions
chains_length : (n : ℕ) (h t : List ℕ) (m j : ℕ) → length (pages_from n h t m j) + total (region_pages n h t) j ≡ total (region_pages n h t) (j + m)
unfolding pages_from total
chains_length n h t zero j = let e : j + 0 ≡ j = omega arith in rw e (omega arith)
chains_length n h t (suc m) j =
    let a = length-append (region_pages n h t j) (pages_from n h t m (suc j)) in
    let b = chains_length n h t m (suc j) in
    let c : total (region_pages n h t) (suc j) ≡ length (region_pages n h t j) + total (region_pages n h t) j = refl in
    let e : j + suc m ≡ suc j + m = omega arith in
    rw e (omega arith)

pub pages_length : (s : Store) (S : Sound s) → length (from_space s) ≡ total S.pages s.ctl.regions
unfolding total
pages_length s S =
    let e = chains_length s.ctl.n s.heap s.table s.ctl.regions 0 in
    let q : 0 + s.ctl.regions ≡ s.ctl.regions = omega arith in
    let t = total_same (region_pages s.ctl.n s.heap s.table) S.pages s.ctl.regions (pages_are S) in
    let u : total (region_pages s.ctl.n s.heap s.table) (0 + s.ctl.regions) ≡ total (region_pages s.ctl.n s.heap s.table) s.ctl.regions
    = ap (total (region_pages s.ctl.n s.heap s.table)) q in
    omega arith

-- a run that is done takes its pages from the free list
done_wanted : {s : Store} {S : Sound s} {roots : List ℕ} {r : Run} (A : Ran s S roots r) → wanted s ≡ total A.end.ghost.pages s.ctl.regions
unfolding wanted
done_wanted {s} {S} {r = r} A =
    let size = A.end.inv.laid.size in
    let size₀ = S.laid.size in
    let count = A.end.inv.laid.free_count in
    let taken = A.end.inv.taken in
    let e : length r.heap ≡ length s.heap = omega arith in
    let p : page_count s.ctl.n r.heap ≡ page_count s.ctl.n s.heap = ap (λ x. x / 2 ^ s.ctl.n) e in
    rw A.unbound (omega arith)

module _ (s : Store) (S : Sound s) where
  abbrev n : ℕ
  n = s.ctl.n

  abbrev N : ℕ
  N = page_count n s.heap

  big : 0 < 2 ^ n
  big = let b = S.laid.big in omega arith

  -- a page was taken behind the heap
  more : Overdrawn s (unbounded s) → s.ctl.count < wanted s
  unfolding wanted
  more d =
      let size = S.laid.size in
      let long = d.long in
      let count = d.count in
      let m : suc N * 2 ^ n ≤ length (unbounded s).heap = omega arith in
      let p : suc N ≤ length (unbounded s).heap / 2 ^ n = (le-div_iff_mul-le big).1 m in
      omega arith

  pub refused_wants : (collected s ≡ refused s Refusal.NoPage) ↔ (s.ctl.count < wanted s)
  unfolding ending leaves
  refused_wants = (λ e. there e (collects s S), λ b. back b (collects s S))
    where
      there : collected s ≡ refused s Refusal.NoPage → Collects s S → s.ctl.count < wanted s
      there e (runs_dry q y) = more y
      there e (runs_through roots r q A) = let t = ap (λ (o : Outcome (Result Control Refused)). o.answer) (sym e ∙ q) in absurd (false≢true cc)

      back : s.ctl.count < wanted s → Collects s S → collected s ≡ refused s Refusal.NoPage
      back b (runs_dry q y) = q
      back b (runs_through roots r q A) = let w = done_wanted A in let t = A.end.inv.taken in absurd (omega arith)

-- ---- the pages of a collection that is done

-- what its working wanted are the pages that the regions then have; the free list has lost them, and got those that the regions had
pub record Pages (s s' : Store) : Type 0 where
  pub taken : wanted s ≡ length (from_space s')
  pub enough : wanted s ≤ s.ctl.count
  pub left : s'.ctl.count + wanted s ≡ s.ctl.count + length (from_space s)

pub done_pages : {s : Store} {S : Sound s} {roots : List ℕ} {r : Run} (A : Ran s S roots r) → Pages s (left_store A)
done_pages {s} A =
    let w = done_wanted A in
    let t = A.end.inv.taken in
    let l = left_count A in
    record {
      taken =
          w ∙ sym (total_same (left_sound A).pages A.end.ghost.pages s.ctl.regions (λ i b. left_pages A i))
          ∙ sym (pages_length (left_store A) (left_sound A));
      enough = omega arith;
      left = omega arith;
    }
