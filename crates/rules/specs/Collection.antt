-- Document 01, "The collection": its four steps, word by word (document 000, section 2.3).
use Rattle.std.specs.Prelude.{ℕ, zero, suc, ◌+◌, ◌*◌, ◌%◌, ◌^◌, true, false, ◌||◌, List, [], ◌∷◌, length, take, drop, set, eqb, Result, Ok}
use Rattle.rules.specs.declared.Control.{Control}
use Rattle.rules.specs.declared.Refused.{Refused}
use Rattle.std.proofs.Math.Option.{Option, none, some}
use Rattle.laws.specs.Lists.{at}
use Rattle.rules.specs.declared.Refusal.{Refusal}
use Rattle.rules.specs.Memory.{Store, page_address, address_page, link_page, origin_region, body_address, page_end, link, origin, top_of, status_of, set_status, set_row, pages_from}
use Rattle.rules.specs.Words.{number, in_heap, in_const, word_of, address_pointer, rec, raw, moved, wrong, head_of, words_by}
use Rattle.rules.specs.Refusals.{Outcome, outcome, refused, audited}
use Rattle.rules.specs.Pages.{Run, begun, record_after, with_heap, with_table, with_stack, take_page, give_back_all, place}

-- how the work ends; out of fuel it never is on a heap that passes the audit
pub data Ended : Type 0 where
  finished : Run → Ended
  lacks_page : Ended
  unfinished : Ended

-- Below, n is the page exponent. `none` is that a page is wanted and none is free.
module _ (n : ℕ) where
  -- ---- 1. "Each region, bottom first, takes one fresh page; a starts at its third word." (The m regions from j on.)

  unfoldable pub freshen : ℕ → ℕ → Run → Option Run
  freshen zero j r = some r
  freshen (suc m) j r = elim (take_page n j r) [
    | none ↦ none
    | some p ↦ freshen m (suc j) (with_table p.1 (set_row p.1.table j (page_end n p.0) (page_address n p.0) (body_address n p.0) 0))
  ]

  -- ---- 3. "Evacuating a pointer copies the whole value into the region of its page by the allocation rule and leaves the new pointer in
  -- the old header as its forward; a forwarded value gives its forward. Numbers and constant pointers stay."

  -- "a region's status becomes SOME and the new address is pushed at its first unscanned copy"
  unfoldable pub wake : ℕ → ℕ → Run → Run
  wake j b r = elim (status_of r.table j) [
    | zero ↦ with_stack (with_table r (set_status r.table j 1)) (record { region = j; address = b } ∷ r.stack)
    | suc t ↦ r
  ]

  -- the copy is at b: region j is woken, and the forward left at the old address a
  unfoldable pub move_on : ℕ → ℕ → Option (ℕ × Run) → Option (ℕ × Run)
  move_on j a none = none
  move_on j a (some p) =
      some (address_pointer p.0, with_heap (wake j p.0 p.1) (set (wake j p.0 p.1).heap a (address_pointer p.0)))

  -- the value of l words behind its header at address a, into region j
  unfoldable pub move_to : ℕ → ℕ → ℕ → Run → Option (ℕ × Run)
  move_to j a l r = move_on j a (place n j (take (suc l) (drop a r.heap)) r)

  -- the region of the page that address a lies in
  unfoldable pub region_at : List ℕ → ℕ → ℕ
  region_at heap a = origin_region (origin n heap (address_page n a))

  unfoldable pub evacuate_at : ℕ → Run → Option (ℕ × Run)
  evacuate_at a r = elim (head_of (at r.heap a)) [
    | rec l ↦ move_to (region_at r.heap a) a l r
    | raw l ↦ move_to (region_at r.heap a) a l r
    | moved b ↦ some (address_pointer b, r)
    | wrong ↦ some (address_pointer a, r)
  ]

  -- the new word, and the run after it
  unfoldable pub evacuate : ℕ → Run → Option (ℕ × Run)
  evacuate w r = elim (word_of w) [ number ↦ some (w, r) | in_const a ↦ some (w, r) | in_heap a ↦ evacuate_at a r ]

  -- ---- 2. "Evacuate the roots in order, then work the scan stack."

  unfoldable pub evacuate_all : List ℕ → Run → Option (List ℕ × Run)
  evacuate_all [] r = some ([], r)
  evacuate_all (w ∷ ws) r = elim (evacuate w r) [
    | none ↦ none
    | some p ↦ elim (evacuate_all ws p.1) [ none ↦ none | some q ↦ some (p.0 ∷ q.0, q.1) ]
  ]

  -- the m fields from address x on, from field 0 up
  unfoldable pub scan_fields : ℕ → ℕ → Run → Option Run
  scan_fields zero x r = some r
  scan_fields (suc m) x r = elim (evacuate (at r.heap x) r) [
    | none ↦ none
    | some p ↦ scan_fields m (suc x) (with_heap p.1 (set p.1.heap x p.0))
  ]

  -- the copy at address s: a record's fields; raw words are not looked at
  unfoldable pub scan_value : ℕ → Run → Option Run
  scan_value s r = elim (head_of (at r.heap s)) [
    | rec l ↦ scan_fields l (suc s) r
    | raw l ↦ some r
    | moved b ↦ some r
    | wrong ↦ some r
  ]

  -- Where the scan of region j goes on after the value at s, which ends at t: there, if that is a; else, at the end of a page's values
  -- (the first 0 word or the page's end), at the third word of the linked page. A full page's end is not the next page's start.
  unfoldable pub next_from : ℕ → ℕ → ℕ → Run → ℕ
  next_from j s t r = elim (eqb t (top_of r.table j)) [
    | true ↦ t
    | false ↦ elim (eqb (t % 2 ^ n) 0 || eqb (at r.heap t) 0) [
      | true ↦ body_address n (link_page (link n r.heap (address_page n s)))
      | false ↦ t
    ]
  ]

  unfoldable pub next_scan : ℕ → ℕ → Run → ℕ
  next_scan j s r = next_from j s (s + words_by (head_of (at r.heap s))) r

  -- "the last pushed is scanned first; a region is scanned until its scan address equals its a, and only then is NONE": region j is
  -- scanned from s on, then what is on the stack. Each step scans a value or leaves a region; f bounds the steps.
  unfoldable pub work : ℕ → ℕ → ℕ → Run → Ended
  work zero j s r = unfinished
  work (suc f) j s r = elim (eqb s (top_of r.table j)) [
    | false ↦ elim (scan_value s r) [ none ↦ lacks_page | some r₁ ↦ work f j (next_scan j s r₁) r₁ ]
    | true ↦ elim r.stack [
      | [] ↦ finished (with_table r (set_status r.table j 0))
      | t ∷ ts ↦ work f t.region t.address (with_stack (with_table r (set_status r.table j 0)) ts)
    ]
  ]

  unfoldable pub work_stack : Run → Ended
  work_stack r = elim r.stack [
    | [] ↦ finished r
    | t ∷ ts ↦ work (2 * length r.heap) t.region t.address (with_stack r ts)
  ]

-- ---- 4. "At the end the from-space pages, zeroed, follow the pages still free. b is 0 again."

-- "Chain all regions' pages, bottom region first, as from-space."
abbrev pub from_space : Store → List ℕ
from_space s = pages_from s.ctl.n s.heap s.table s.ctl.regions 0

unfoldable pub leaves : Store → List ℕ → Run → Outcome (Result Control Refused)
leaves s roots r = outcome (Ok (record_after s s.ctl.regions r)) r.heap r.table roots s.consts

-- "If a page is wanted and none is free: refusal 4, with every header, root, page and record as before the call."
unfoldable pub ending : Store → List ℕ → Ended → Outcome (Result Control Refused)
ending s roots (finished r) = leaves s roots (give_back_all s.ctl.n (from_space s) r)
ending s roots lacks_page = refused s Refusal.NoPage
ending s roots unfinished = refused s (Refusal.Broken 0)

-- the four steps
unfoldable pub collected : Store → Outcome (Result Control Refused)
collected s = elim (freshen s.ctl.n s.ctl.regions 0 (begun s)) [
  | none ↦ refused s Refusal.NoPage
  | some r ↦ elim (evacuate_all s.ctl.n s.roots r) [
    | none ↦ refused s Refusal.NoPage
    | some p ↦ ending s p.0 (work_stack s.ctl.n p.1)
  ]
]

-- "Collection: audit 2, then 4."
unfoldable pub collect : Store → Outcome (Result Control Refused)
collect s = audited (refused s) s (collected s)
