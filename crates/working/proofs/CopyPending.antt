-- A value copied: what is then to be scanned. The region's row grows by the copy at its end, and so does the list of its copies to be
-- scanned; nothing else waits that did not.
use Prim.Native.Nat.{ℕ, suc, ◌+◌, ◌*◌, ◌^◌, ◌≤◌, ◌<◌}
use native.Mathlib.Omega.{arith}
use native.Mathlib.Decide.{ℕ_discrete}
use mathlib.Core.Path.{◌≡◌, refl, sym, ap, ◌∙◌, subst}
use mathlib.Core.Logic.{◌≢◌, ◌⊎◌, inl, inr}
use mathlib.Core.Option.{some}
use mathlib.Core.List.Memᴰ
use mathlib.Core.List.{List, [], ◌∷◌, ◌++◌, append-nil, append_assoc, Memᴰ}
use Rattle.laws.specs.Lists.{at}
use Rattle.rules.specs.Memory.{Store, status_of}
use Rattle.rules.specs.Words.{rec, raw, head_of}
use Rattle.rules.specs.Pages.{Run}
use Rattle.rules.proofs.Steps.{PageStands, steps_le}
use Rattle.facts.proofs.Laid.{Owner, upd, upd_same, upd_other, mine_inj, spare≢mine}
use Rattle.facts.proofs.Copied.{Moved, to}
use Rattle.facts.proofs.Sound.{Sound}
use Rattle.working.proofs.Owned.{total_snoc}
use Rattle.working.proofs.Log.{Into, last_page_lem, free_page, Evacuated, other_place}
use Rattle.working.proofs.Next.{Row}
use Rattle.working.proofs.Rows.{row_same, row_snoc, row_page}
use Rattle.working.proofs.Invariant.{Ghost, Pending, Inv, Later}
use Rattle.working.proofs.Copying.{Uncopied, Made}
use Rattle.working.proofs.Waking.{woken, woken_deep}

-- the value at a is copied to b, into region j
abbrev pub copied : Ghost → ℕ → ℕ → ℕ → (ℕ → Owner) → (ℕ → ℕ) → (ℕ → List ℕ) → List ℕ → Ghost
copied g j a b own fin pages free =
    record {
      own = own;
      fin = fin;
      pages = pages;
      free = free;
      log = to a b ∷ g.log;
      count = upd g.count b 0;
      past = g.past;
      todo = upd g.todo j (g.todo j ++ b ∷ []);
      cur = g.cur;
      half = g.half;
    }

module _ {s : Store} {S : Sound s} {g : Ghost} {r : Run} (I : Inv s S g r) {x : Uncopied s g} {b p : ℕ} {own : ℕ → Owner} {fin : ℕ → ℕ} {pages : ℕ → List ℕ} {free : List ℕ} {r' : Run}
    (M : Made s g r x b p own fin pages free r') where
  abbrev n : ℕ
  n = s.ctl.n

  abbrev R : ℕ
  R = s.ctl.regions

  abbrev j : ℕ
  j = x.good.region

  abbrev a : ℕ
  a = x.address

  abbrev pub after : Ghost
  after = copied g x.good.region x.address b own fin pages free

  abbrev E : Evacuated n s g.own own g.fin fin g.pages pages r.heap r'.heap j x.good.len a b x.good.page p
  E = M.moved

  todo_own : after.todo j ≡ g.todo j ++ b ∷ []
  todo_own = upd_same g.todo j (g.todo j ++ b ∷ []) j refl

  todo_other : (i : ℕ) → i ≢ j → after.todo i ≡ g.todo i
  todo_other i ne = upd_other g.todo j (g.todo j ++ b ∷ []) i ne

  statuses : (i : ℕ) → i ≢ j → status_of r'.table i ≡ status_of r.table i
  statuses i ne = M.row (4 * i + 3) (omega arith) (omega arith) (omega arith)

  -- ---- the rows

  agree : (i k y : ℕ) → i < R → Memᴰ k (g.pages i) → k * 2 ^ n + 2 ≤ y → y < g.fin k → at r.heap y ≡ at r'.heap y
  agree i k y i_r m q t = sym (E.mine_words k i y (I.laid.mine_own i k i_r m) q t)

  -- a page of another region is not p
  pub not_p : (i k : ℕ) → i < R → i ≢ j → Memᴰ k (g.pages i) → k ≢ p
  not_p i k i_r ne m e = ne (mine_inj (sym (E.mine_kept k i (I.laid.mine_own i k i_r m)) ∙ ap own e ∙ E.b_mine))

  row_other : (i : ℕ) → i < R → i ≢ j → Row n r'.heap fin (pages i) (g.past i ++ after.todo i)
  row_other i i_r ne =
      rw (M.pages_other i ne, todo_other i ne)
      (row_same (λ k y m. agree i k y i_r m) (λ k m. M.fin_other k i (I.laid.mine_own i k i_r m) (not_p i k i_r ne m)) (I.pending.rows i i_r))

  row_own : Row n r'.heap fin (pages j) (g.past j ++ after.todo j)
  row_own = rw todo_own (subst (λ vs. Row n r'.heap fin (pages j) vs) (append_assoc (g.past j) (g.todo j) (b ∷ [])) (go E.place))
    where
      j_r : j < R
      j_r = x.good.known

      go : Into n g.own g.fin g.pages pages j b p → Row n r'.heap fin (pages j) ((g.past j ++ g.todo j) ++ b ∷ [])
      go (last_page_lem o last same e) =
          let end = E.b_end in
          let base : Row n r'.heap g.fin (g.pages j) (g.past j ++ g.todo j) = row_same (λ k y m. agree j k y j_r m) (λ k m. refl) (I.pending.rows j j_r) in
          let stands : PageStands n r'.heap p (g.fin p) x.good.len = subst (λ y. PageStands n r'.heap p y x.good.len) e E.now.stands in
          rw same (subst (λ y. Row n r'.heap fin (g.pages j) ((g.past j ++ g.todo j) ++ y ∷ [])) (sym e)
          (row_snoc base last (I.laid.mine_once j j_r) stands (omega arith) (λ k m ne. M.fin_other k j (I.laid.mine_own j k j_r m) ne)))
      go (free_page free longer e) =
          let base : Row n r'.heap fin (g.pages j) (g.past j ++ g.todo j)
          = row_same (λ k y m. agree j k y j_r m) (λ k m. let q = I.laid.mine_own j k j_r m in M.fin_other k j q (λ z. spare≢mine free (ap g.own (sym z) ∙ q))) (I.pending.rows j j_r) in
          let stands : PageStands n r'.heap p (p * 2 ^ n + 2) x.good.len = subst (λ y. PageStands n r'.heap p y x.good.len) e E.now.stands in
          let end : p * 2 ^ n + 2 + suc x.good.len ≡ fin p = ap (λ y. y + suc x.good.len) (sym e) ∙ E.b_end in
          rw longer (subst (λ y. Row n r'.heap fin (g.pages j ++ p ∷ []) ((g.past j ++ g.todo j) ++ y ∷ [])) (sym e) (row_page base stands end))

  row_any : (i : ℕ) → i < R → Dec (i ≡ j) → Row n r'.heap fin (pages i) (g.past i ++ after.todo i)
  row_any i i_r (yes e) = rw e row_own
  row_any i i_r (no ne) = row_other i i_r ne

  -- ---- what is to be scanned

  still_waits : (i c : ℕ) → Memᴰ c (g.todo i) → Memᴰ c (after.todo i)
  still_waits i c m = go (ℕ_discrete i j)
    where
      go : Dec (i ≡ j) → Memᴰ c (after.todo i)
      go (yes e) = rw (upd_same g.todo j (g.todo j ++ b ∷ []) i e) (Memᴰ.append_left (b ∷ []) (rw e at m))
      go (no ne) = rw (todo_other i ne) m

  waited : (i c : ℕ) → c ≢ b → Dec (i ≡ j) → Memᴰ c (after.todo i) → Memᴰ c (g.todo i)
  waited i c ne (yes e) m = rw e (by (Memᴰ.append_cases (g.todo j) (rw (upd_same g.todo j (g.todo j ++ b ∷ []) i e) at m)))
    where
      by : Memᴰ c (g.todo j) ⊎ Memᴰ c (b ∷ []) → Memᴰ c (g.todo j)
      by (inl q) = q
      by (inr q) = absurd (ne (Memᴰ.eq_of_singleton q))
  waited i c ne (no nj) m = rw (todo_other i nj) at m

  waits_now : Memᴰ b (after.todo j)
  waits_now = rw todo_own (Memᴰ.append_right (g.todo j) (Memᴰ.head refl))

  untouched : (i c : ℕ) → i < R → Memᴰ c (after.todo i) → Dec (c ≡ b) → after.count c ≡ 0
  untouched i c i_r m (yes e) = upd_same g.count b 0 c e
  untouched i c i_r m (no ne) = upd_other g.count b 0 c ne ∙ I.pending.untouched i c i_r (waited i c ne (ℕ_discrete i j) m)

  -- a copy of before stands elsewhere, and its header is as it was
  elsewhere : {c d : ℕ} → Memᴰ (to c d) g.log → d ≢ b
  elsewhere m = other_place I.logged E x.new x.reached (I.logged.copies m)

  header : {c d : ℕ} → Memᴰ (to c d) g.log → at r'.heap d ≡ at r.heap d
  header {c} {d} m =
      let C = I.logged.copies m in
      let below = C.into_below in
      E.mine_words C.into C.region d C.into_mine (steps_le C.now.steps) (omega arith)

  scanned : {c d : ℕ} → Memᴰ (to c d) after.log → ((i : ℕ) → i < R → Memᴰ d (after.todo i) → ⊥) → g.half ≢ some d
      → (m : ℕ) → head_of (at r'.heap d) ≡ rec m → m ≤ after.count d
  scanned {c} {d} q gone ne m e = go (Memᴰ.cases_cons q)
    where
      go : (to c d ≡ to a b) ⊎ Memᴰ (to c d) g.log → m ≤ after.count d
      go (inl u) = absurd (gone j x.good.known (rw (ap (λ (y : Moved). y.new) u) waits_now))
      go (inr u) =
          rw (upd_other g.count b 0 d (elsewhere u)) (I.pending.scanned u (λ i i_r t. gone i i_r (still_waits i d t)) ne m (ap head_of (sym (header u)) ∙ e))

  raws : {c d : ℕ} → Memᴰ (to c d) after.log → (m : ℕ) → head_of (at r'.heap d) ≡ raw m → after.count d ≡ 0
  raws {c} {d} q m e = go (Memᴰ.cases_cons q)
    where
      go : (to c d ≡ to a b) ⊎ Memᴰ (to c d) g.log → after.count d ≡ 0
      go (inl u) = upd_same g.count b 0 d (ap (λ (y : Moved). y.new) u)
      go (inr u) = upd_other g.count b 0 d (elsewhere u) ∙ I.pending.raws u m (ap head_of (sym (header u)) ∙ e)

  pub copied_pending : Pending n R after r'
  copied_pending =
      record {
        rows = λ i i_r. row_any i i_r (ℕ_discrete i j);
        untouched = λ i c i_r m. untouched i c i_r m (ℕ_discrete c b);
        scanned = scanned;
        raws = raws;
        queue = woken I.pending.queue x.good.known todo_own todo_other statuses M.awake M.how;
      }

  pub copied_later : Later R g r after r'
  copied_later =
      let deep = woken_deep M.how in
      let more = total_snoc g.todo j b R x.good.known in
      record {
        log = λ m q. Memᴰ.tail q;
        cur = refl;
        half = refl;
        past = λ i. refl;
        todo = λ i. go i (ℕ_discrete i j);
        waits = λ {b = d} q i m. waited i d (elsewhere q) (ℕ_discrete i j) m;
        cost = omega arith;
      }
    where
      go : (i : ℕ) → Dec (i ≡ j) → (ts : List ℕ) × (after.todo i ≡ g.todo i ++ ts)
      go i (yes e) = (b ∷ [], upd_same g.todo j (g.todo j ++ b ∷ []) i e ∙ ap (λ y. g.todo y ++ b ∷ []) (sym e))
      go i (no ne) = ([], todo_other i ne ∙ sym (append-nil (g.todo i)))

  pub copied_count : {c d : ℕ} → Memᴰ (to c d) g.log → after.count d ≡ g.count d
  copied_count {c} {d} q = upd_other g.count b 0 d (elsewhere q)
