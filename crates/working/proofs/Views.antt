-- The views before and after: the collection leaves a copy. A constant is what it was; a moved value has its old header and length, its raw
-- words are the old ones, and each field of a record stands for the old field.
use Prim.Native.Nat.{ℕ, zero, suc, ◌+◌, ◌*◌, ◌≤◌, ◌<◌}
use native.Mathlib.Omega.{arith}
use mathlib.Core.Path.{◌≡◌, refl, sym, ap, ◌∙◌, subst}
use mathlib.Core.Logic.{◌≢◌}
use mathlib.Core.Bool.{false}
use mathlib.Core.List.{List, Memᴰ}
use lib.ListN.{length, take, drop}
use lib.Seq.{ext_get_or}
use Rattle.laws.specs.Lists.{at}
use Rattle.rules.specs.Memory.{Store}
use Rattle.rules.specs.Words.{word_of, raw, head_of, record_by, is_record}
use Rattle.rules.specs.Pages.{Run}
use Rattle.rules.specs.Calls.{look_in, is_number}
use Rattle.rules.specs.Seen.{home_in, seen, Reached}
use Rattle.facts.proofs.Copied.{Moved, to, Rel, num, stay, OneValue, Copied}
use Rattle.rules.proofs.Pointers.{pointer, raw_head}
use Rattle.facts.proofs.Looked.{heap_seen, heap_home, const_seen, const_fields, const_home, seen_plain, SeenAt, seen_at}
use Rattle.facts.proofs.Sound.{GoodConst, number_there, const_there, Sound}
use Rattle.working.proofs.Log.{pointers, Copy, of_pointers, of_each}
use Rattle.working.proofs.Invariant.{Kept, copied_in, copy_was}
use Rattle.working.proofs.Scanning.{seen_old}
use Rattle.working.proofs.Running.{Ran}
use Rattle.working.proofs.Ending.{back, left_store, left_sound, copy_word, copy_head, copy_inside, copy_good, copy_field}

module _ {s : Store} {S : Sound s} {roots : List ℕ} {r : Run} (A : Ran s S roots r) where
  abbrev n : ℕ
  n = s.ctl.n

  abbrev log : List Moved
  log = pointers A.end.ghost.log

  abbrev s' : Store
  s' = left_store A

  abbrev R : ℕ → ℕ → Type 0
  R = Rel (Kept s) log

  -- ---- constants

  module _ (v : ℕ) (k : Kept s v) where
    pointed : is_number (word_of v) ≡ false
    pointed = rw k.word

    stays : {w : ℕ} → GoodConst s.consts w → R w w
    stays (number_there q) = num (ap is_number q)
    stays (const_there c q x) = stay (record { address = c; word = q; good = x })

    const_same : OneValue (seen s) (seen s') R v v
    const_same =
        let same : look_in s v ≡ look_in s' v = const_seen s v k.address k.word k.good ∙ sym (const_seen s' v k.address k.word k.good) in
        record {
          before = pointed;
          after = pointed;
          alike =
              rw (← same)
              (record {
                header = refl;
                size = refl;
                fields = λ kind f b. stays (const_fields s v k.address k.word S.consts k.good kind f b);
                text = λ kind. refl;
              });
          home = const_home s v k.address k.word ∙ sym (const_home s' v k.address k.word);
        }

  -- ---- what moved

  module _ {a b : ℕ} (m : Memᴰ (to a b) A.end.ghost.log) where
    abbrev D : Copy n s (Kept s) A.end.ghost.own A.end.ghost.fin r.heap A.end.ghost.log A.end.ghost.count a b
    D = A.end.inv.logged.copies m

    value_before : look_in s (4 * a) ≡ take (suc D.len) (drop a s.heap)
    value_before = seen_old A.end.inv m

    value_after : look_in s' (4 * b) ≡ take (suc D.len) (drop b (back A).heap)
    value_after = heap_seen s' (left_sound A).within.paged b (copy_good A m)

    home_before : home_in s (4 * a) ≡ suc D.region
    home_before = heap_home s S.within.paged a (copy_was A.end.inv m)

    home_after : home_in s' (4 * b) ≡ suc D.region
    home_after = heap_home s' (left_sound A).within.paged b (copy_good A m)

    abbrev h : List ℕ
    h = s.heap

    abbrev h' : List ℕ
    h' = (back A).heap

    in_after : b + suc D.len ≤ length h'
    in_after = let x = copy_inside A m in let y = D.now.stands.ends in omega arith

    same_head : at h' b ≡ at h a
    same_head = copy_head A m ∙ D.head

    raws : is_record (at h a) ≡ false → (f : ℕ) → f < D.len → at h (a + suc f) ≡ at h' (b + suc f)
    unfolding is_record
    raws kind f q =
        let e : head_of (at r.heap b) ≡ raw D.len
        = raw_head (head_of (at r.heap b)) D.len D.now.stands.head (ap (λ w. record_by (head_of w)) D.head ∙ kind) in
        let z = A.end.inv.pending.raws m D.len e in
        sym (D.waiting f q (omega arith)) ∙ sym (copy_word A m (suc f) (omega arith))

    was : SeenAt h a D.len (look_in s (4 * a))
    was = seen_at (copied_in A.end.inv m) value_before

    now : SeenAt h' b D.len (look_in s' (4 * b))
    now = seen_at in_after value_after

    text : is_record (at h a) ≡ false → look_in s (4 * a) ≡ look_in s' (4 * b)
    text kind = let x = was.long in ext_get_or 0 _ _ (was.long ∙ sym now.long) (λ i q. each i (omega arith))
      where
        each : (i : ℕ) → i < suc D.len → at (look_in s (4 * a)) i ≡ at (look_in s' (4 * b)) i
        each zero q = was.head ∙ sym same_head ∙ sym now.head
        each (suc i) q = was.field i (omega arith) ∙ raws kind i (omega arith) ∙ sym (now.field i (omega arith))

    moved_same : OneValue (seen s) (seen s') R (4 * a) (4 * b)
    moved_same =
        let x = was.long in
        record {
          before = rw (pointer a);
          after = rw (pointer b);
          alike =
              record {
                header = was.head ∙ sym same_head ∙ sym now.head;
                size = was.long ∙ sym now.long;
                fields = λ kind f t. rw (was.field f (omega arith), now.field f (omega arith)) (copy_field A m (ap is_record (sym was.head) ∙ kind) f (omega arith));
                text = λ kind. text (ap is_record (sym was.head) ∙ kind);
              };
          home = home_before ∙ sym home_after;
        }

    has_home : home_in s (4 * a) ≢ 0
    has_home e = let q = home_before in omega arith

  -- ---- the whole

  four : {x y : ℕ} → 4 * x ≡ 4 * y → x ≡ y
  four e = omega arith

  moves : {v w : ℕ} → Memᴰ (to v w) log → OneValue (seen s) (seen s') R v w × (home_in s v ≢ 0)
  moves m = of_each (λ v w. OneValue (seen s) (seen s') R v w × (home_in s v ≢ 0)) A.end.ghost.log m (λ a b t. (moved_same t, has_home t))

  one_new : {v w w' : ℕ} → Memᴰ (to v w) log → Memᴰ (to v w') log → w ≡ w'
  one_new m m' =
      let t = of_pointers A.end.ghost.log m in
      let u = of_pointers A.end.ghost.log m' in
      let e : t.0 ≡ u.0 = four (sym t.2 ∙ u.2) in
      t.3 ∙ ap (λ x. 4 * x) (A.end.inv.logged.one_new (subst (λ x. Memᴰ (to x t.1) A.end.ghost.log) e t.4) u.4) ∙ sym u.3

  one_old : {v v' w : ℕ} → Memᴰ (to v w) log → Memᴰ (to v' w) log → v ≡ v'
  one_old m m' =
      let t = of_pointers A.end.ghost.log m in
      let u = of_pointers A.end.ghost.log m' in
      let e : t.1 ≡ u.1 = four (sym t.3 ∙ u.3) in
      t.2 ∙ ap (λ x. 4 * x) (A.end.inv.logged.one_old (subst (λ x. Memᴰ (to t.0 x) A.end.ghost.log) e t.4) u.4) ∙ sym u.2

  pub left_copied : Copied (seen s) (seen s') (Kept s) log s.roots roots
  left_copied =
      record {
        plain = seen_plain s;
        plain' = seen_plain s';
        count = A.count;
        roots = A.rels;
        staying = λ {v} k. (const_same v k, const_home s v k.address k.word);
        moving = moves;
        one_new = one_new;
        one_old = one_old;
        live = λ m. of_each (λ v w. Reached (seen s) s.roots v) A.end.ghost.log m (λ a b t. A.end.inv.logged.live t);
      }
