-- Fresh pages for the regions, at work and in the plain run, one after the other: each region's row is written alike when its page is taken. The rows
-- that are not written yet do not count: until then the notes are compared with themselves.
use Prim.Native.Nat.{ℕ, zero, suc, ◌+◌, ◌*◌, ◌^◌, ◌<◌, zero-le}
use native.Mathlib.Numerals.{sub-one}
use native.Mathlib.Omega.{arith}
use mathlib.Core.Path.{◌≡◌, refl, sym, ap, ◌∙◌, subst}
use mathlib.Core.Logic.{◌≢◌, inr}
use mathlib.Core.Bool.{true, false}
use mathlib.Core.Option.{none, some}
use mathlib.Core.List.Memᴰ
use mathlib.Core.List.{List, [], ◌∷◌}
use lib.ListN.{length, set, replicate, length-set, length-replicate, get_or-replicate}
use lib.Seq.{get_or-set_same, get_or-set_other}
use borrow.Author.Tests.{ne_eqb}
use Rattle.laws.specs.Lists.{at}
use Rattle.laws.specs.Each.{after, each}
use Rattle.rules.specs.Memory.{Store, page_count, page_end, page_address, body_address, set_row}
use Rattle.rules.specs.Pages.{Run, begun, with_table}
use Rattle.rules.specs.Collection.{freshen}
use Rattle.rules.proofs.Rows.{row_width, row_else}
use Rattle.facts.proofs.Laid.{mine, Layout, upd, free_known, rows_laid, first_none, first_is}
use Rattle.facts.proofs.Sound.{Sound}
use Rattle.rules.proofs.Pages as K
use Rattle.working.proofs.Fresh.{Fresh, fresh_start, start_own, start_free}
use Rattle.working.proofs.Freshening.{fresh_step, step_as}
use Rattle.motion.specs.Leaves.{Desk, desk, depth, free_first, taken, free_last, given, begun_notes}
use Rattle.motion.specs.Whole.{fresh_at, fresh_on, fresh}
use Rattle.agreement.proofs.Matching.{Alike, Matching, bare}
use Rattle.agreement.proofs.Frames.{set_alike, rows_on}
use Rattle.working.proofs.Running.{unmoved}
use Rattle.agreement.proofs.Stuck.{stuck_fresh}
use Rattle.agreement.proofs.Together.{Together, both_lack, both_go, come_to}
use Rattle.agreement.proofs.Took as T

-- the regions below j have their fresh page, in both
pub record Fresher (s : Store) (S : Sound s) (j : ℕ) (r : Run) (F : Fresh s S j r) (d : Desk) : Type 0 where
  pub matches : Alike s S F.own F.free (with_table r d.notes) d
  pub rows : (i c : ℕ) → i < j → c < 4 → at d.notes (4 * i + c) ≡ at r.table (4 * i + c)

-- ---- before the first

module _ (s : Store) (S : Sound s) where
  abbrev pub first_desk : Desk
  first_desk = desk s.heap (begun_notes s.ctl.first s.ctl.last)

  abbrev t₀ : List ℕ
  t₀ = replicate 400 0

  abbrev t₁ : List ℕ
  t₁ = set t₀ free_first s.ctl.first

  zero_at : (x : ℕ) → x < 400 → x ≢ free_first → x ≢ free_last → at (set t₁ free_last s.ctl.last) x ≡ 0
  zero_at x b p q = get_or-set_other t₁ free_last x s.ctl.last 0 q ∙ get_or-set_other t₀ free_first x s.ctl.first 0 p ∙ get_or-replicate 400 x 0 0 b

  pub starts : Fresher s S 0 (begun s) (fresh_start s S) first_desk
  unfolding begun_notes
  starts =
      record {
        matches =
            record {
              heap_length = refl;
              notes_length_lem = simp (length-set, length-replicate);
              words = λ x p. refl;
              took = [];
              front = start_free s S;
              owned = λ k. (λ m. elim m [ ], λ t. absurd (start_own s S k t.0 t.1));
              kept_link = λ k m. elim m [ ];
              rows = λ i c i_r c4. refl;
              free_first_lem = get_or-set_other t₁ free_last free_first s.ctl.last 0 (omega arith) ∙ get_or-set_same t₀ free_first s.ctl.first 0 (simp length-replicate (omega arith));
              taken_count = zero_at taken (omega arith) (omega arith) (omega arith);
              free_last_lem = get_or-set_same t₁ free_last s.ctl.last 0 (simp (length-set, length-replicate) (omega arith));
              given_none = zero_at given (omega arith) (omega arith) (omega arith);
              shallow = zero-le;
              deep = zero_at depth (omega arith) (omega arith) (omega arith);
              noted = bare;
            };
        rows = λ i c b c4. absurd (omega arith);
      }

-- ---- one region
module _ {s : Store} {S : Sound s} {j : ℕ} {r : Run} {F : Fresh s S j r} {d : Desk} (H : Fresher s S j r F d) (j_r : j < s.ctl.regions) where
  abbrev n : ℕ
  n = s.ctl.n

  abbrev N : ℕ
  N = page_count n s.heap

  abbrev P : ℕ
  P = 2 ^ n

  -- no region counts: only the free list does
  free_laid : Layout n N 0 F.own F.fin F.pages F.free (with_table r d.notes)
  free_laid = rows_laid F.laid 0 zero-le d.notes r.stack zero-le (λ i x b lo hi. absurd (omega arith))

  fresh_stops : F.free ≡ [] → fresh n j d ≡ after false d
  unfolding fresh fresh_on
  fresh_stops e = rw (T.takes_none H.matches (first_none F.laid e))

  module _ {k : ℕ} {ks : List ℕ} (free : F.free ≡ k ∷ ks) where
    L : Layout n N 0 F.own F.fin F.pages (k ∷ ks) (with_table r d.notes)
    L = rw free at free_laid

    M : Alike s S F.own (k ∷ ks) (with_table r d.notes) d
    M = rw free at H.matches

    abbrev d₀ : Desk
    d₀ = T.took_desk n k d

    abbrev r₀ : Run
    r₀ = K.taken n j k r

    M₀ : Alike s S (upd F.own k (mine j)) ks (with_table r₀ d.notes) d₀
    unfolding K.taken
    M₀ = T.took_matches M L j

    k_known : k < N
    k_known = free_known L k (Memᴰ.head refl)

    abbrev d₁ : Desk
    d₁ = desk d₀.heap (set_row d₀.notes j (k * P + P) (k * P) (k * P + 2) 0)

    fresh_goes : fresh n j d ≡ after true d₁
    unfolding fresh fresh_on fresh_at
    fresh_goes =
        rw (T.takes M L, ne_eqb (suc k) 0 (omega arith), sub-one (suc k), T.start_is S k k_known)

    abbrev r₁ : Run
    r₁ = with_table r₀ (set_row r₀.table j (page_end n k) (page_address n k) (body_address n k) 0)

    wide : length d₀.notes ≡ 400
    wide = M₀.notes_length_lem

    table_wide : length r₀.table ≡ 256
    table_wide = ap length (K.taken_table n j k r) ∙ F.width

    below : (i c : ℕ) → i < j → c < 4 → at d₀.notes (4 * i + c) ≡ at r₀.table (4 * i + c)
    below i c b c4 = M₀.rows i c (omega arith) c4 ∙ H.rows i c b c4 ∙ ap (λ t. at t (4 * i + c)) (sym (K.taken_table n j k r))

    abbrev F₁ : Fresh s S (suc j) r₁
    F₁ = fresh_step F j_r free

    stepped : Fresher s S (suc j) r₁ F₁ d₁
    stepped =
        let regions = S.regions in
        record {
          matches =
              step_as F j_r free (λ own fr. Alike s S own fr (with_table r₁ d₁.notes) d₁)
              (rows_on M₀ d₁.notes d₁.notes (row_width d₀.notes j (k * P + P) (k * P) (k * P + 2) 0) (λ i c i_r c4. refl)
              (λ x p. row_else d₀.notes j (k * P + P) (k * P) (k * P + 2) 0 x (inr (omega arith))));
          rows = rows;
        }
      where
        rows : (i c : ℕ) → i < suc j → c < 4 → at d₁.notes (4 * i + c) ≡ at r₁.table (4 * i + c)
        rows i c b c4 =
            let regions = S.regions in
            let w = wide in
            let v = table_wide in
            let t₁ : List ℕ = set d₀.notes (4 * j) (k * P + P) in
            let u₁ : List ℕ = set r₀.table (4 * j) (k * P + P) in
            let t₂ : List ℕ = set t₁ (4 * j + 1) (k * P) in
            let u₂ : List ℕ = set u₁ (4 * j + 1) (k * P) in
            set_alike (set t₂ (4 * j + 2) (k * P + 2)) (set u₂ (4 * j + 2) (k * P + 2)) (4 * j + 3) 0 (4 * i + c) (simp length-set (omega arith)) (simp length-set (omega arith))
            (λ n₃. set_alike t₂ u₂ (4 * j + 2) (k * P + 2) (4 * i + c) (simp length-set (omega arith)) (simp length-set (omega arith))
            (λ n₂. set_alike t₁ u₁ (4 * j + 1) (k * P) (4 * i + c) (simp length-set (omega arith)) (simp length-set (omega arith))
            (λ n₁. set_alike d₀.notes r₀.table (4 * j) (k * P + P) (4 * i + c) (omega arith) (omega arith) (λ n₀. below i c (omega arith) c4))))

-- ---- all of them

module _ (s : Store) (S : Sound s) where
  abbrev pub Freshens : ℕ → ℕ → Run → Desk → Type 0
  Freshens m j r d =
      Together s S none some false true (λ r' d'. (F : Fresh s S s.ctl.regions r') × Matching s S (unmoved F) r' d') (freshen s.ctl.n m j r) (each m (fresh s.ctl.n) j d)

  -- all rows are written
  whole : (r : Run) (d : Desk) (F : Fresh s S s.ctl.regions r) → Fresher s S s.ctl.regions r F d → Matching s S (unmoved F) r d
  whole r d F H = rows_on H.matches r.table d.notes refl H.rows (λ x p. refl)

  pub freshens : (m j : ℕ) (r : Run) → j + m ≡ s.ctl.regions → (F : Fresh s S j r) (d : Desk) → Fresher s S j r F d → Freshens m j r d
  unfolding freshen each
  freshens zero j r e F d H =
      let q : s.ctl.regions ≡ j = omega arith in
      subst (λ i. (G : Fresh s S i r) → Fresher s S i r G d → Freshens zero j r d) q (λ G K. both_go r refl d refl (G, whole r d G K)) F H
  freshens (suc m) j r e F d H = go F.free refl (λ r' F' d' H'. freshens m (suc j) r' (omega arith) F' d' H')
    where
      go : (fr : List ℕ) → F.free ≡ fr → ((r' : Run) (F' : Fresh s S (suc j) r') (d' : Desk) → Fresher s S (suc j) r' F' d' → Freshens m (suc j) r' d') → Freshens (suc m) j r d
      go [] q rest =
          both_lack (rw (K.takes_none s.ctl.n j r (first_none F.laid q), freshen)) d (rw (fresh_stops H (omega arith) q)) (stuck_fresh (omega arith) F H.matches q)
      go (k ∷ ks) q rest =
          let b : j < s.ctl.regions = omega arith in
          come_to (rw (K.takes s.ctl.n j k r (first_is F.laid q), freshen)) (rw (fresh_goes H b q)) (λ r' d' G. G)
          (rest _ (fresh_step F b q) _ (stepped H b q))
