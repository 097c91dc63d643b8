-- Where the work stops for want of a page: the desk still matches a run, no page is free, and what was copied is in the log. So what the run has
-- changed can be put back. It holds because a step that wants a page writes nothing before it has it.
use Prim.Native.Nat.{ℕ, ◌*◌, ◌^◌, ◌<◌}
use native.Mathlib.Omega.{arith}
use mathlib.Core.Path.{◌≡◌}
use mathlib.Core.Logic.{◌≢◌, ◌↔◌, ◌⊎◌, inl, inr}
use mathlib.Core.List.{[], Memᴰ}
use lib.ListN.{length}
use Rattle.rules.specs.Memory.{Store, page_count}
use Rattle.rules.specs.Pages.{Run, with_table}
use Rattle.facts.proofs.Laid.{old, beyond}
use Rattle.facts.proofs.Sound.{Chained, in_free, in_region, Sound}
use Rattle.working.proofs.Owned.{Owned}
use Rattle.working.proofs.Log.{Log}
use Rattle.working.proofs.Invariant.{Ghost, Kept, Inv}
use Rattle.working.proofs.Fresh.{Fresh}
use Rattle.working.proofs.Running.{unmoved, unmoved_log}
use Rattle.motion.specs.Leaves.{Desk}
use Rattle.agreement.proofs.Matching.{Matching}

pub record Stuck (s : Store) (S : Sound s) (d : Desk) : Type 0 where
  pub ghost : Ghost
  pub run : Run
  pub matching : Matching s S ghost run d
  pub none_free : ghost.free ≡ []
  pub size : length run.heap ≡ page_count s.ctl.n s.heap * 2 ^ s.ctl.n
  pub known : (k : ℕ) → ghost.own k ≢ beyond → k < page_count s.ctl.n s.heap
  pub logged : Log s.ctl.n s (Kept s) ghost.own ghost.fin run.heap ghost.log ghost.count
  pub from_space_lem : (k : ℕ) → (ghost.own k ≡ old) ↔ ((j : ℕ) × (j < s.ctl.regions) × Memᴰ k (S.pages j))
  pub owned : Owned (page_count s.ctl.n s.heap) s.ctl.regions ghost.own ghost.pages ghost.free

-- while values are moved
pub stuck_moving : {s : Store} {S : Sound s} {g : Ghost} {r : Run} {d : Desk} → Inv s S g r → Matching s S g r d → g.free ≡ [] → Stuck s S d
stuck_moving {g = g} {r} I M e =
    record {
      ghost = g;
      run = r;
      matching = M;
      none_free = e;
      size = I.laid.size;
      known = I.laid.known;
      logged = I.logged;
      from_space_lem = I.from_space_lem;
      owned = I.owned;
    }

-- ---- while the regions get their fresh pages

-- rows that are not written yet do not count
pub stuck_fresh : {s : Store} {S : Sound s} {j : ℕ} {r : Run} {d : Desk} → j < s.ctl.regions → (F : Fresh s S j r) → Matching s S (unmoved F) (with_table r d.notes) d → F.free ≡ [] → Stuck s S d
stuck_fresh {s} {j = j} {r} {d} j_r F M e =
    record {
      ghost = unmoved F;
      run = with_table r d.notes;
      matching = M;
      none_free = e;
      size = F.laid.size;
      known = F.laid.known;
      logged = unmoved_log F;
      from_space_lem = F.from_space_lem;
      owned = record { chain = λ k b. wider k (F.owned.chain k b) };
    }
  where
    wider : (k : ℕ) → (F.own k ≡ old) ⊎ Chained j F.own F.pages F.free k → (F.own k ≡ old) ⊎ Chained s.ctl.regions F.own F.pages F.free k
    wider k (inl o) = inl o
    wider k (inr (in_free o m)) = inr (in_free o m)
    wider k (inr (in_region i b o m)) = inr (in_region i (omega arith) o m)
