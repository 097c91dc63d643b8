-- Demand 3, about the definition of the collection: on a heap that passes it is refused for want of a page, or leaves a heap that passes, on
-- which every path reads and meets as before, and each region's used words are those of its values that a root reached. It follows from what it
-- leaves being a copy of what the roots reach.
use Rattle.std.specs.Prelude.{Ok}
use Prim.Native.Nat.{ℕ, ◌*◌, ◌≤◌, ◌<◌}
use native.Mathlib.Omega.{arith}
use native.Mathlib.Decide.{ℕ_discrete}
use mathlib.Core.Path.{◌≡◌, refl, sym, ap, ◌∙◌}
use mathlib.Core.Logic.{◌≢◌, ◌↔◌}
use mathlib.Core.List.{List, [], ◌∷◌, Memᴰ}
use Rattle.laws.specs.Sums.{sum_over}
use Rattle.laws.proofs.Once.{Once, once_none, once_more}
use Rattle.rules.specs.Memory.{Store}
use Rattle.rules.specs.Audit.{used_by}
use Rattle.rules.specs.Pages.{Run}
use Rattle.rules.specs.Refusals.{leaving}
use Rattle.rules.specs.Calls.{walk, used_words}
use Rattle.rules.specs.Collection.{finished, leaves, ending}
use Rattle.rules.specs.Seen.{home_in, seen, Reached, read_at, Meet, words_at}
use Rattle.facts.proofs.Alike.{Same, meetings}
use Rattle.facts.proofs.Copied.{Moved, to, Rel, copied_same, reached_moved}
use Rattle.facts.proofs.Observing.{reads_alike, meet_is, used_is, used_known}
use Rattle.rules.proofs.Judged.{Passes}
use Rattle.facts.proofs.Sound.{Sound, good_page}
use Rattle.facts.proofs.Passing.{meaning}
use Rattle.facts.proofs.Looked.{words_elsewhere}
use Rattle.working.proofs.Log.{pointers, olds, in_olds, olds_in, of_pointers}
use Rattle.working.proofs.Invariant.{Kept, copy_was}
use Rattle.working.proofs.Running.{Ran}
use Rattle.working.proofs.Ending.{left_store, left_sound, left_filled}
use Rattle.working.proofs.Views.{left_copied}
use Rattle.working.proofs.Counting.{Counts, for_its_words, for_nothing, used_filled, used_bound}

-- each pointer of the log is moved once
pub once_pointers : (log : List Moved) → Once (olds log) → Once (olds (pointers log))
once_pointers [] o = once_none
once_pointers (m ∷ ms) (once_more new o) =
    once_more (λ q. let t = in_olds (pointers ms) q in let u = of_pointers ms t.1 in go u.0 u.1 u.2 u.4) (once_pointers ms o)
  where
    go : (a b : ℕ) → 4 * m.old ≡ 4 * a → Memᴰ (to a b) ms → ⊥
    go a b e q = let e' : m.old ≡ a = omega arith in new (rw e' (olds_in q))

module _ {s : Store} {S : Sound s} {roots : List ℕ} {r : Run} (A : Ran s S roots r) where
  abbrev n : ℕ
  n = s.ctl.n

  abbrev R : ℕ
  R = s.ctl.regions

  abbrev log : List Moved
  log = A.end.ghost.log

  abbrev s' : Store
  s' = left_store A

  abbrev pub live : List ℕ
  live = olds (pointers log)

  passes : Passes s
  passes = (meaning s).1 S

  pub passes' : Passes s'
  passes' = (meaning s').1 (left_sound A)

  pub live_once : Once live
  live_once = once_pointers log A.end.inv.logged.once

  -- ---- used words

  used' : (j : ℕ) → j < R → used_by n s'.heap s'.table j ≡ sum_over (words_at (seen s) j) live
  used' j j_r = used_filled s' (left_sound A) j j_r ∙ left_filled A j ∙ A.end.inv.tallied j j_r

  pub live_exactly : (w : ℕ) → Memᴰ w live ↔ (Reached (seen s) s.roots w × (home_in s w ≢ 0))
  live_exactly w = (
    λ m. let t = in_olds (pointers log) m in let c = left_copied A in (c.live t.1, (c.moving t.1).1),
    λ t. olds_in (reached_moved (seen s) (seen s') (Kept s) (pointers log) s.roots roots (left_copied A) t.0 t.1).1,
  )

  pub left_counts : (j : ℕ) → j < R → used_words s' j ≡ Ok (sum_over (words_at (seen s) j) live, s'.ctl)
  left_counts j j_r = used_is s' passes' j j_r ∙ ap (λ u. Ok (u, s'.ctl)) (used' j j_r)

  -- a live value is one of a region's pages, or counts nothing for the region
  where_live : (j : ℕ) → j < R → (w : ℕ) → Memᴰ w live → Counts s S j w
  where_live j j_r w m =
      let t = in_olds (pointers log) m in
      let u = of_pointers log t.1 in
      go u.0 u.1 u.2 u.4 (ℕ_discrete (A.end.inv.logged.copies u.4).region j)
    where
      go : (a b : ℕ) → w ≡ 4 * a → (q : Memᴰ (to a b) log) → Dec ((A.end.inv.logged.copies q).region ≡ j) → Counts s S j w
      go a b e q (yes d) =
          let D = A.end.inv.logged.copies q in
          for_its_words e (rw d at (good_page S (copy_was A.end.inv q))) D.was
      go a b e q (no ne) = for_nothing (rw e (words_elsewhere s S.within.paged a (copy_was A.end.inv q) j (λ t. ne (sym t))))

  -- "A collection never raises them"
  pub never_raised : (j : ℕ) → j < R → used_by n s'.heap s'.table j ≤ used_by n s.heap s.table j
  never_raised j j_r = let a = used_bound s S j j_r live live_once (where_live j j_r) in let b = used' j j_r in omega arith

  pub never_more : (j u u' : ℕ) → used_words s j ≡ Ok (u, s.ctl) → used_words s' j ≡ Ok (u', s'.ctl) → u' ≤ u
  never_more j u u' e e' =
      let a = used_known s passes j u e in
      let b = used_known s' passes' j u' e' in
      let c = never_raised j a.0 in
      let x = a.1 in
      let y = b.1 in
      omega arith

  -- ---- paths

  same : Same (seen s) (seen s') (Rel (Kept s) (pointers log))
  same = copied_same (seen s) (seen s') (Kept s) (pointers log) s.roots roots (left_copied A)

  pub left_reads : (i : ℕ) (fs : List ℕ) → read_at s (walk s i fs) ≡ read_at s' (walk s' i fs)
  left_reads i fs =
      let c = left_copied A in
      reads_alike s s' passes passes' (Rel (Kept s) (pointers log)) same c.count c.roots i fs

  pub left_meets : (i : ℕ) (fs : List ℕ) (j : ℕ) (gs : List ℕ) → Meet s i fs j gs ↔ Meet s' i fs j gs
  left_meets i fs j gs =
      let c = left_copied A in
      let m = meetings (seen s) (seen s') (Rel (Kept s) (pointers log)) same s.roots roots c.count c.roots i fs j gs in
      let p = meet_is s passes i fs j gs in
      let q = meet_is s' passes' i fs j gs in
      (λ x. q.1 (m.0 (p.0 x)), λ x. p.1 (m.1 (q.0 x)))

-- ---- what the call leaves

pub ran_leaves : {s : Store} {S : Sound s} {roots : List ℕ} {r : Run} (A : Ran s S roots r) → ending s roots (finished r) ≡ leaving (left_store A)
unfolding ending leaves
ran_leaves A = refl
