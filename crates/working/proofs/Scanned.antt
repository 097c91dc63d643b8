-- One field of a copy scanned: its word is set, and nothing else of the log changes, because no two values overlap.
use Prim.Native.Nat.{ℕ, suc, ◌+◌, ◌*◌, ◌^◌, ◌≤◌, ◌<◌}
use native.Mathlib.Nat.{le_refl}
use native.Mathlib.Omega.{arith}
use native.Mathlib.Decide.{ℕ_discrete}
use mathlib.Core.Path.{◌≡◌, refl, sym, ◌∙◌}
use mathlib.Core.Logic.{◌≢◌, ◌⊎◌, inl, inr}
use mathlib.Core.List.{List, Memᴰ}
use lib.ListN.{length, set}
use lib.Seq.{get_or-set_same, get_or-set_other}
use Rattle.rules.specs.Memory.{Store}
use Rattle.laws.specs.Lists.{at}
use Rattle.rules.proofs.Steps.{PageSteps, OnPage, steps_le, stands_same, apart}
use Rattle.facts.proofs.Inside.{other_page, steps_still}
use Rattle.facts.proofs.Laid.{upd, upd_same, upd_other, Owner, old, mine, old_mine_apart}
use Rattle.facts.proofs.Copied.{Moved, to, Rel}
use Rattle.working.proofs.Log.{pointers, Copy, Log}

module _ {n : ℕ} {s : Store} {kept : ℕ → Type 0} {own : ℕ → Owner} {fin : ℕ → ℕ} {h : List ℕ} {log : List Moved} {done : ℕ → ℕ}
    (L : Log n s kept own fin h log done) {c d i v : ℕ} (m : Memᴰ (to c d) log) (i_in : i < (L.copies m).len) (i_next : done d ≡ i)
    (rel : Rel kept (pointers log) (at s.heap (c + suc i)) v) (x_in : d + suc i < length h) where
  abbrev C : Copy n s kept own fin h log done c d
  C = L.copies m

  abbrev h' : List ℕ
  h' = set h (d + suc i) v

  agree : (y : ℕ) → y ≢ d + suc i → at h y ≡ at h' y
  agree y ne = sym (get_or-set_other h (d + suc i) y v 0 ne)

  -- the word lies in its own page
  abbrev apart_from : (k y : ℕ) → k ≢ C.into → k * 2 ^ n ≤ y → y < k * 2 ^ n + 2 ^ n → y ≢ d + suc i
  apart_from = other_page C.now i i_in

  old_page : (k y : ℕ) → own k ≡ old → k * 2 ^ n ≤ y → y < k * 2 ^ n + 2 ^ n → y ≢ d + suc i
  old_page k y o = apart_from k y (old_mine_apart own o C.into_mine)

  -- stepping through any page goes as before
  abbrev steps_any : (k e : ℕ) → PageSteps n h k e → e ≤ k * 2 ^ n + 2 ^ n → PageSteps n h' k e
  steps_any = steps_still C.now i i_in h' agree

  -- another copy's words stay
  elsewhere : {c' d' : ℕ} (D : Copy n s kept own fin h log done c' d') → d' ≢ d → (y : ℕ) → d' ≤ y → y < d' + suc D.len → y ≢ d + suc i
  elsewhere {c'} {d'} D ne y p q = go (ℕ_discrete D.into C.into)
    where
      both : (d' ≤ d) ⊎ (d + suc C.len ≤ d') → (d ≤ d') ⊎ (d' + suc D.len ≤ d) → y ≢ d + suc i
      both (inl a) (inl b) = absurd (ne (omega arith))
      both (inl a) (inr b) = omega arith
      both (inr a) t = omega arith

      go : Dec (D.into ≡ C.into) → y ≢ d + suc i
      go (yes e) =
          let v : OnPage n h C.into d' D.len = rw e at D.now in
          both (apart C.now.steps C.now.stands v.steps) (apart v.steps v.stands C.now.steps)
      go (no f) = let a = steps_le D.now.steps in let b = D.now.stands.ends in apart_from D.into y f (omega arith) (omega arith)

  -- a copy whose header is not the word is a copy still, once its fields are told anew
  copy_still : {c' d' : ℕ} (D : Copy n s kept own fin h log done c' d') → d' ≢ d + suc i
      → ((f : ℕ) → f < D.len → f < upd done d (suc i) d' → Rel kept (pointers log) (at s.heap (c' + suc f)) (at h' (d' + suc f)))
      → ((f : ℕ) → f < D.len → upd done d (suc i) d' ≤ f → at h' (d' + suc f) ≡ at s.heap (c' + suc f)) → Copy n s kept own fin h' log (upd done d (suc i)) c' d'
  copy_still {c'} {d'} D ne scanned waiting =
      let lo₀ = steps_le D.was.steps in
      let hi₀ = D.was.stands.ends in
      let hi₁ = D.now.stands.ends in
      record {
        from = D.from;
        into = D.into;
        region = D.region;
        len = D.len;
        from_old = D.from_old;
        from_whose = D.from_whose;
        was = D.was;
        into_mine = D.into_mine;
        now = record { steps = steps_any D.into d' D.now.steps (omega arith); stands = stands_same (agree d' ne) D.now.stands };
        into_below = D.into_below;
        head = sym (agree d' ne) ∙ D.head;
        forward = sym (agree c' (old_page D.from c' D.from_old (omega arith) (omega arith))) ∙ D.forward;
        scanned = scanned;
        waiting = waiting;
      }

  other_copy : {c' d' : ℕ} (D : Copy n s kept own fin h log done c' d') → d' ≢ d → Copy n s kept own fin h' log (upd done d (suc i)) c' d'
  other_copy {c'} {d'} D ne =
      copy_still D (elsewhere D ne d' (le_refl d') (omega arith))
      (λ f q t. rw (← agree (d' + suc f) (elsewhere D ne (d' + suc f) (omega arith) (omega arith))) (D.scanned f q (rw (upd_other done d (suc i) d' ne) at t)))
      (λ f q t. sym (agree (d' + suc f) (elsewhere D ne (d' + suc f) (omega arith) (omega arith))) ∙ D.waiting f q (rw (upd_other done d (suc i) d' ne) at t))

  own_copy : Copy n s kept own fin h' log (upd done d (suc i)) c d
  own_copy =
      copy_still C (omega arith)
      (λ f q t. now f q (rw (upd_same done d (suc i) d refl) at t) (ℕ_discrete f i))
      (λ f q t.
      let t' = rw (upd_same done d (suc i) d refl) at t in
      let w = i_next in
      sym (agree (d + suc f) (omega arith)) ∙ C.waiting f q (omega arith))
    where
      now : (f : ℕ) → f < C.len → f < suc i → Dec (f ≡ i) → Rel kept (pointers log) (at s.heap (c + suc f)) (at h' (d + suc f))
      now f q t (yes e) = rw (e, get_or-set_same h (d + suc i) v 0 x_in) rel
      now f q t (no ne) = let w = i_next in rw (← agree (d + suc f) (omega arith)) (C.scanned f q (omega arith))

  copies_by : {c' d' : ℕ} → Memᴰ (to c' d') log → Dec (d' ≡ d) → Copy n s kept own fin h' log (upd done d (suc i)) c' d'
  copies_by m' (yes e) = let e' = L.one_old (rw e at m') m in rw (e, e') own_copy
  copies_by m' (no ne) = other_copy (L.copies m') ne

  -- and back
  steps_back : (k e : ℕ) → PageSteps n h' k e → e ≤ k * 2 ^ n + 2 ^ n → PageSteps n h k e
  unfolding own_copy copy_still
  steps_back = steps_still own_copy.now i i_in h (λ y ne. sym (agree y ne))

  -- the log after the field
  pub scanned_log : ((k j : ℕ) → own k ≡ mine j → fin k ≤ k * 2 ^ n + 2 ^ n) → Log n s kept own fin h' log (upd done d (suc i))
  scanned_log inside =
      record {
        copies = λ {a} {b} m'. copies_by m' (ℕ_discrete b d);
        unmoved = λ k y o p q none. sym (agree y (old_page k y o p q)) ∙ L.unmoved k y o p q none;
        one_new = L.one_new;
        one_old = L.one_old;
        live = L.live;
        once = L.once;
        every = λ k j b o t u. let q = inside k j o in L.every k j b o (steps_back k b t (omega arith)) u;
      }
