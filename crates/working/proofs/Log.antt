-- The log of a collection: which value was copied where, and what its copy holds. An evacuation adds one entry; the place of the copy is new,
-- so what the log says of earlier copies stays.
use Prim.Native.Nat.{ℕ, suc, ◌+◌, ◌*◌, ◌^◌, ◌≤◌, ◌<◌, zero-le}
use native.Mathlib.Nat.{add-zero}
use native.Mathlib.Omega.{arith}
use native.Mathlib.Decide.{ℕ_discrete}
use mathlib.Core.Path.{◌≡◌, refl, sym, ap, ◌∙◌, subst}
use mathlib.Core.Logic.{◌≢◌, ◌↔◌, ◌⊎◌, inl, inr}
use mathlib.Core.List.Memᴰ
use mathlib.Core.List.{List, [], ◌∷◌, ◌++◌, Memᴰ, map}
use Rattle.rules.specs.Memory.{Store}
use Rattle.laws.specs.Lists.{at}
use Rattle.rules.specs.Seen.{seen, Reached}
use Rattle.rules.proofs.Chains.{page_of}
use Rattle.rules.proofs.Steps.{PageSteps, OnPage, steps_le, steps_same, on_same, apart}
use Rattle.laws.proofs.Once.{Once, once_more, Last}
use Rattle.facts.proofs.Laid.{upd, upd_same, upd_other, spare≢mine, Owner, old, spare, mine}
use Rattle.facts.proofs.Inside.{page_at, pages_differ}
use Rattle.facts.proofs.Copied.{Moved, to, Rel, num, stay, went}

-- The log's entries are addresses, `to old new`; its words are the pointers to them.
abbrev pub pointer_to : Moved → Moved
pointer_to m = to (4 * m.old) (4 * m.new)

abbrev pub pointers : List Moved → List Moved
pointers = map pointer_to

-- what was moved
abbrev pub olds : List Moved → List ℕ
olds = map (λ (m : Moved). m.old)

pub in_olds : {a : ℕ} (log : List Moved) → Memᴰ a (olds log) → (b : ℕ) × Memᴰ (to a b) log
in_olds log m = let t = Memᴰ.of_map (λ (x : Moved). x.old) log m in (t.0.new, subst (λ y. Memᴰ (to y t.0.new) log) t.2 t.1)

pub olds_in : {a b : ℕ} {log : List Moved} → Memᴰ (to a b) log → Memᴰ a (olds log)
olds_in m = Memᴰ.map (λ (x : Moved). x.old) m

-- the log's words are the pointers to its addresses
pub in_pointers : {a b : ℕ} (ms : List Moved) → Memᴰ (to a b) ms → Memᴰ (to (4 * a) (4 * b)) (pointers ms)
in_pointers ms m = Memᴰ.map pointer_to m

pub of_pointers : {v w : ℕ} (ms : List Moved) → Memᴰ (to v w) (pointers ms) → (a : ℕ) × (b : ℕ) × (v ≡ 4 * a) × (w ≡ 4 * b) × Memᴰ (to a b) ms
of_pointers ms m =
    let t = Memᴰ.of_map pointer_to ms m in
    (t.0.old, t.0.new, ap (λ (x : Moved). x.old) (sym t.2), ap (λ (x : Moved). x.new) (sym t.2), t.1)

-- what holds of the pointers of each entry holds of each of the log's words
pub of_each : (Q : ℕ → ℕ → Type 0) {v w : ℕ} (ms : List Moved) → Memᴰ (to v w) (pointers ms) → ((a b : ℕ) → Memᴰ (to a b) ms → Q (4 * a) (4 * b)) → Q v w
of_each Q ms m f = let t = Memᴰ.of_map pointer_to ms m in subst (λ (x : Moved). Q x.old x.new) t.2 (f t.0.old t.0.new t.1)

-- a longer log relates what a shorter one does
pub rel_grows : {kept : ℕ → Type 0} (log log' : List Moved) → ((m : Moved) → Memᴰ m log → Memᴰ m log') → {v w : ℕ} → Rel kept (pointers log) v w → Rel kept (pointers log') v w
rel_grows log log' grew (num n) = num n
rel_grows log log' grew (stay k) = stay k
rel_grows log log' grew (went m) = went (of_each (λ v w. Memᴰ (to v w) (pointers log')) log m (λ a b t. in_pointers log' (grew (to a b) t)))

-- the entry m: where the value stood, where its copy stands, and what the copy holds. (kept: the pointers that stay.)
pub record Copy (n : ℕ) (s : Store) (kept : ℕ → Type 0) (own : ℕ → Owner) (fin : ℕ → ℕ) (h : List ℕ) (log : List Moved) (done : ℕ → ℕ) (a b : ℕ) : Type 0 where
  pub from : ℕ
  pub into : ℕ
  pub region : ℕ
  pub len : ℕ
  pub from_old : own from ≡ old
  pub from_whose : at s.heap (from * 2 ^ n + 1) ≡ suc region
  pub was : OnPage n s.heap from a len
  pub into_mine : own into ≡ mine region
  pub now : OnPage n h into b len
  pub into_below : b + suc len ≤ fin into
  pub head : at h b ≡ at s.heap a
  pub forward : at h a ≡ 4 * b
  pub scanned : (i : ℕ) → i < len → i < done b → Rel kept (pointers log) (at s.heap (a + suc i)) (at h (b + suc i))
  pub waiting : (i : ℕ) → i < len → done b ≤ i → at h (b + suc i) ≡ at s.heap (a + suc i)

pub record Log (n : ℕ) (s : Store) (kept : ℕ → Type 0) (own : ℕ → Owner) (fin : ℕ → ℕ) (h : List ℕ) (log : List Moved) (done : ℕ → ℕ) : Type 0 where
  pub copies : {a b : ℕ} → Memᴰ (to a b) log → Copy n s kept own fin h log done a b
  pub unmoved : (k x : ℕ) → own k ≡ old → k * 2 ^ n ≤ x → x < k * 2 ^ n + 2 ^ n
      → (Memᴰ x (olds log) → ⊥) → at h x ≡ at s.heap x
  pub one_new : {a b b' : ℕ} → Memᴰ (to a b) log → Memᴰ (to a b') log → b ≡ b'
  pub one_old : {a a' b : ℕ} → Memᴰ (to a b) log → Memᴰ (to a' b) log → a ≡ a'
  pub live : {a b : ℕ} → Memᴰ (to a b) log → Reached (seen s) s.roots (4 * a)
  pub every : (k j b : ℕ) → own k ≡ mine j → PageSteps n h k b → b < fin k → (a : ℕ) × Memᴰ (to a b) log
  pub once : Once (olds log)

-- the page p that region j's copy at b goes to: it was the region's last page, and b is behind what it held, or it was free, and b is its first
pub data Into (n : ℕ) (own : ℕ → Owner) (fin : ℕ → ℕ) (pages pages' : ℕ → List ℕ) (j b p : ℕ) : Type 0 where
  last_page_lem : own p ≡ mine j → Last (pages j) p → pages' j ≡ pages j → b ≡ fin p → Into n own fin pages pages' j b p
  free_page : own p ≡ spare → pages' j ≡ pages j ++ p ∷ [] → b ≡ p * 2 ^ n + 2 → Into n own fin pages pages' j b p

-- what one evacuation of the value of l words at a, in page f of region j, to b, in page p, does to the heap
pub record Evacuated (n : ℕ) (s : Store) (own own' : ℕ → Owner) (fin fin' : ℕ → ℕ) (pages pages' : ℕ → List ℕ) (h h' : List ℕ) (j l a b f p : ℕ) : Type 0 where
  pub old_kept : (k : ℕ) → (own k ≡ old) ↔ (own' k ≡ old)
  pub mine_kept : (k i : ℕ) → own k ≡ mine i → own' k ≡ mine i
  pub mine_from : (k i : ℕ) → own' k ≡ mine i → k ≢ p → (own k ≡ mine i) × (fin' k ≡ fin k)
  pub old_words : (k x : ℕ) → own k ≡ old → k * 2 ^ n ≤ x → x < k * 2 ^ n + 2 ^ n → x ≢ a → at h' x ≡ at h x
  pub mine_words : (k i x : ℕ) → own k ≡ mine i → k * 2 ^ n + 2 ≤ x → x < fin k → at h' x ≡ at h x
  pub grows : (k i : ℕ) → own k ≡ mine i → fin k ≤ fin' k
  pub a_old : own f ≡ old
  pub a_whose : at s.heap (f * 2 ^ n + 1) ≡ suc j
  pub was : OnPage n s.heap f a l
  pub b_mine : own' p ≡ mine j
  pub now : OnPage n h' p b l
  pub b_end : b + suc l ≡ fin' p
  pub place : Into n own fin pages pages' j b p
  pub words : (i : ℕ) → i ≤ l → at h' (b + i) ≡ at s.heap (a + i)
  pub forward : at h' a ≡ 4 * b

module _ {n : ℕ} {s : Store} {kept : ℕ → Type 0} {own own' : ℕ → Owner} {fin fin' : ℕ → ℕ} {pages pages' : ℕ → List ℕ} {h h' : List ℕ} {log : List Moved} {done : ℕ → ℕ}
    {j l a b f p : ℕ} (L : Log n s kept own fin h log done) (E : Evacuated n s own own' fin fin' pages pages' h h' j l a b f p)
    (new : Memᴰ a (olds log) → ⊥) (reached : Reached (seen s) s.roots (4 * a)) where
  -- a copy of before lies below b, or in another page
  old_copy : {c d : ℕ} → Copy n s kept own fin h log done c d → c ≢ a → d ≢ b → Copy n s kept own' fin' h' (to a b ∷ log) (upd done b 0) c d
  old_copy {c} {d} C nc nd =
      let lo = steps_le C.now.steps in
      let top = C.into_below in
      let lo₀ = steps_le C.was.steps in
      let hi₀ = C.was.stands.ends in
      let same : (x : ℕ) → C.into * 2 ^ n + 2 ≤ x → x < fin C.into → at h x ≡ at h' x
      = λ x q t. sym (E.mine_words C.into C.region x C.into_mine q t) in
      record {
        from = C.from;
        into = C.into;
        region = C.region;
        len = C.len;
        from_old = (E.old_kept C.from).0 C.from_old;
        from_whose = C.from_whose;
        was = C.was;
        into_mine = E.mine_kept C.into C.region C.into_mine;
        now = on_same (λ x q t. same x q (omega arith)) C.now;
        into_below = let g = E.grows C.into C.region C.into_mine in omega arith;
        head = sym (same d lo (omega arith)) ∙ C.head;
        forward = E.old_words C.from c C.from_old (omega arith) (omega arith) nc ∙ C.forward;
        scanned = λ i q t. rw (← same (d + suc i) (omega arith) (omega arith)) (rel_grows log (to a b ∷ log) (λ m. Memᴰ.tail) (C.scanned i q (rw (upd_other done b 0 d nd) at t)));
        waiting = λ i q t. sym (same (d + suc i) (omega arith) (omega arith)) ∙ C.waiting i q (rw (upd_other done b 0 d nd) at t);
      }

  -- the place b is new
  pub other_place : {c d : ℕ} → Copy n s kept own fin h log done c d → d ≢ b
  other_place {c} {d} C q = go (ℕ_discrete C.into p)
    where
      here_too : C.into ≡ p → Into n own fin pages pages' j b p → ⊥
      here_too e (last_page_lem o u same f) = let x = C.into_below in let y : fin C.into ≡ fin p = ap fin e in omega arith
      here_too e (free_page o longer f) = spare≢mine o (ap own (sym e) ∙ C.into_mine)

      go : Dec (C.into ≡ p) → ⊥
      go (yes e) = here_too e E.place
      go (no ne) = pages_differ C.now E.now ne q

  new_copy : Copy n s kept own' fin' h' (to a b ∷ log) (upd done b 0) a b
  new_copy =
      let e = E.b_end in
      record {
        from = f;
        into = p;
        region = j;
        len = l;
        from_old = (E.old_kept f).0 E.a_old;
        from_whose = E.a_whose;
        was = E.was;
        into_mine = E.b_mine;
        now = E.now;
        into_below = omega arith;
        head = simp add-zero at (E.words 0 zero-le);
        forward = E.forward;
        scanned = λ i q t. let z = rw (upd_same done b 0 b refl) at t in absurd (omega arith);
        waiting = λ i q t. E.words (suc i) q;
      }

  is_old : {c d : ℕ} → to c d ≡ to a b → c ≡ a
  is_old e = ap (λ (m : Moved). m.old) e

  is_new : {c d : ℕ} → to c d ≡ to a b → d ≡ b
  is_new e = ap (λ (m : Moved). m.new) e

  copies_by : {c d : ℕ} → (to c d ≡ to a b) ⊎ Memᴰ (to c d) log → Copy n s kept own' fin' h' (to a b ∷ log) (upd done b 0) c d
  copies_by (inl e) = rw (is_old e, is_new e) new_copy
  copies_by (inr m) = old_copy (L.copies m) (λ q. new (rw q at (olds_in m))) (other_place (L.copies m))

  one_new_by : {c d d' : ℕ} → (to c d ≡ to a b) ⊎ Memᴰ (to c d) log → (to c d' ≡ to a b) ⊎ Memᴰ (to c d') log → d ≡ d'
  one_new_by (inl e) (inl e') = is_new e ∙ sym (is_new e')
  one_new_by (inl e) (inr m) = absurd (new (rw (is_old e) at (olds_in m)))
  one_new_by (inr m) (inl e) = absurd (new (rw (is_old e) at (olds_in m)))
  one_new_by (inr m) (inr m') = L.one_new m m'

  one_old_by : {c c' d : ℕ} → (to c d ≡ to a b) ⊎ Memᴰ (to c d) log → (to c' d ≡ to a b) ⊎ Memᴰ (to c' d) log → c ≡ c'
  one_old_by (inl e) (inl e') = is_old e ∙ sym (is_old e')
  one_old_by (inl e) (inr m) = absurd (other_place (L.copies m) (is_new e))
  one_old_by (inr m) (inl e) = absurd (other_place (L.copies m) (is_new e))
  one_old_by (inr m) (inr m') = L.one_old m m'

  live_by : {c d : ℕ} → (to c d ≡ to a b) ⊎ Memᴰ (to c d) log → Reached (seen s) s.roots (4 * c)
  live_by (inl e) = rw (is_old e) reached
  live_by (inr m) = L.live m

  -- a place of before had its entry
  before : (k i d : ℕ) → own k ≡ mine i → PageSteps n h' k d → d < fin k → (c : ℕ) × Memᴰ (to c d) (to a b ∷ log)
  before k i d o t u =
      let e = L.every k i d o (steps_same (λ x q v. E.mine_words k i x o q (omega arith)) t) u in
      (e.0, Memᴰ.tail e.1)

  in_page : (d : ℕ) → PageSteps n h' p d → d < fin' p → (c : ℕ) × Memᴰ (to c d) (to a b ∷ log)
  in_page d t u = go (apart E.now.steps E.now.stands t) (ℕ_discrete d b)
    where
      lower : d < b → Into n own fin pages pages' j b p → (c : ℕ) × Memᴰ (to c d) (to a b ∷ log)
      lower q (last_page_lem o u same f) = before p j d o t (omega arith)
      lower q (free_page o longer f) = let x = steps_le t in absurd (omega arith)

      go : (d ≤ b) ⊎ (b + suc l ≤ d) → Dec (d ≡ b) → (c : ℕ) × Memᴰ (to c d) (to a b ∷ log)
      go (inl q) (yes e) = (a, Memᴰ.head (ap (to a) e))
      go (inl q) (no ne) = lower (omega arith) E.place
      go (inr q) v = let w = E.b_end in absurd (omega arith)

  every_by : (k i d : ℕ) → own' k ≡ mine i → PageSteps n h' k d → d < fin' k → (c : ℕ) × Memᴰ (to c d) (to a b ∷ log)
  every_by k i d o t u = go (ℕ_discrete k p)
    where
      go : Dec (k ≡ p) → (c : ℕ) × Memᴰ (to c d) (to a b ∷ log)
      go (yes e) = in_page d (rw e at t) (rw e at u)
      go (no ne) = let v = E.mine_from k i o ne in let w = v.1 in before k i d v.0 t (omega arith)

  -- an evacuation extends the log
  pub evacuated_log : Log n s kept own' fin' h' (to a b ∷ log) (upd done b 0)
  evacuated_log =
      record {
        copies = λ m. copies_by (Memᴰ.cases_cons m);
        unmoved = λ k x o q t none.
            E.old_words k x ((E.old_kept k).1 o) q t (λ e. none (Memᴰ.head e))
            ∙ L.unmoved k x ((E.old_kept k).1 o) q t (λ m. none (Memᴰ.tail m));
        one_new = λ m m'. one_new_by (Memᴰ.cases_cons m) (Memᴰ.cases_cons m');
        one_old = λ m m'. one_old_by (Memᴰ.cases_cons m) (Memᴰ.cases_cons m');
        live = λ m. live_by (Memᴰ.cases_cons m);
        every = every_by;
        once = once_more new L.once;
      }

-- ---- what was copied of a page

module _ {n : ℕ} {s : Store} {kept : ℕ → Type 0} {own : ℕ → Owner} {fin : ℕ → ℕ} {h : List ℕ} {log : List Moved} {done : ℕ → ℕ} where
  -- a value came from the page that it lies in
  pub copy_page : {a b : ℕ} (C : Copy n s kept own fin h log done a b) (k : ℕ) → k * 2 ^ n ≤ a → a < k * 2 ^ n + 2 ^ n → C.from ≡ k
  copy_page {a} C k p q = sym (page_at C.was) ∙ page_of n k a p q

  pub copy_on : {a b : ℕ} (C : Copy n s kept own fin h log done a b) (k : ℕ) → k * 2 ^ n ≤ a → a < k * 2 ^ n + 2 ^ n → OnPage n s.heap k a C.len
  copy_on {a} C k p q = subst (λ k. OnPage n s.heap k a C.len) (copy_page C k p q) C.was

  -- an old page keeps its descriptor: no value stands there
  pub descriptor_kept : Log n s kept own fin h log done → 2 ≤ 2 ^ n → (k x : ℕ) → own k ≡ old → k * 2 ^ n ≤ x → x < k * 2 ^ n + 2 → at h x ≡ at s.heap x
  descriptor_kept L big k x o p q =
      L.unmoved k x o p (omega arith)
      (λ m.
      let C = L.copies (in_olds log m).1 in
      let e : C.from * 2 ^ n ≡ k * 2 ^ n = ap (λ y. y * 2 ^ n) (copy_page C k p (omega arith)) in
      let lo = steps_le C.was.steps in
      omega arith)
