-- The collection at work, its leaves: the heap and the notes, and what it reads and writes in them. Each is total by one test: what would leave
-- the heap does nothing. So the work is defined for every heap, sound or not.
use Rattle.std.specs.Prelude.{ℕ, ◌+◌, ◌-◌, ◌*◌, ◌%◌, ◌<◌, Bool, ◌&&◌, ◌||◌, List, length, take, drop, set, replicate, leb, eqb, Option, None, Some, Result, Ok, Err}
use Rattle.rules.specs.Memory.{page_address, address_page, origin_region, status_of, set_status}
use Rattle.rules.specs.Words.{address_pointer}
use Rattle.laws.specs.Choice.{◌⇒◌∣◌}
use Rattle.laws.specs.Lists.{at, put}
use Rattle.laws.specs.Each.{After, after}
use Rattle.motion.specs.declared.Entry.{Entry}
use Rattle.motion.specs.declared.NoPage.{NoPage}

-- ---- The notes: 400 words that hold all that a collection has to know besides the heap, so that table and roots stay as they are until it is done.
--
--   words            what they hold
--   4j to 4j+3       region j's e, fp, a and b, as in the table: its row (64 regions: words 0 to 255)
--   256+2i, 257+2i   entry i of the scan stack, the lowest first: address, region (a region stands there once: words 256 to 383)
--   384              depth: how many entries the scan stack has
--   385              free first, a link
--   386              taken: how many pages were taken
--   387              free last, a link
--   388              given: how many pages were given back
--   389 to 399       nothing

abbrev pub notes_length : ℕ
notes_length = 400

abbrev pub entry : ℕ → ℕ
entry i = 256 + 2 * i

abbrev pub depth : ℕ
depth = 384

abbrev pub free_first : ℕ
free_first = 385

abbrev pub taken : ℕ
taken = 386

abbrev pub free_last : ℕ
free_last = 387

abbrev pub given : ℕ
given = 388

-- the notes at the start
unfoldable pub begun_notes : ℕ → ℕ → List ℕ
begun_notes first last = set (set (replicate notes_length 0) free_first first) free_last last

-- the heap and the notes
pub record Desk : Type 0 where
  pub heap : List ℕ
  pub notes : List ℕ

abbrev pub desk : List ℕ → List ℕ → Desk
desk h t = record { heap = h; notes = t }

abbrev pub out : {A : Type 0} → A → List ℕ → List ℕ → After A Desk
out a h t = after a (desk h t)

-- a word's 32 bits
abbrev pub low : ℕ → ℕ
low v = v % 4294967296

-- ---- Pages, regions, addresses: for any number.

-- the address of page k, and one past every heap where k is no page of any
unfoldable pub page_start : ℕ → ℕ → ℕ
page_start n k = leb k 65536 ⇒ page_address n k ∣ 16777216

-- the region of the page that address a lies in
abbrev pub region_on : ℕ → ℕ → List ℕ → ℕ
region_on n a h = origin_region (at h (page_start n (address_page n a) + 1))

-- ---- Copying.

-- m words at a and m words at b lie in the heap, and apart
abbrev pub apart : ℕ → ℕ → ℕ → ℕ → Bool
apart m a b size = leb (a + m) size && leb (b + m) size && (leb (a + m) b || leb (b + m) a)

-- the m words at a, at b as well
unfoldable pub copied : ℕ → ℕ → ℕ → List ℕ → List ℕ
copied m a b h = apart m a b (length h) ⇒ put h b (take m (drop a h)) ∣ h

-- the pointer to b at a; b is an address of some heap
unfoldable pub forwarded : ℕ → ℕ → List ℕ → List ℕ
forwarded a b h = leb b 65536 ⇒ set h a (address_pointer b) ∣ h

-- ---- The scan stack.

-- i is the depth
unfoldable pub wake_on : ℕ → ℕ → ℕ → List ℕ → List ℕ
wake_on j b i t =
    eqb (status_of t j) 0 ⇒ set (set (set (set_status t j 1) (entry i) b) (entry i + 1) j) depth (low (i + 1)) ∣
    t

-- "a region's status becomes SOME and the new address is pushed at its first unscanned copy": the copy at b in region j
abbrev pub wake : ℕ → ℕ → List ℕ → List ℕ
wake j b t = wake_on j b (at t depth) t

-- what a step says: the entry that it goes on with, none where all is scanned; or that a page is wanted and none is free
abbrev pub Step : Type 0
Step = Result (Option Entry) NoPage

abbrev pub go_on : ℕ → ℕ → Step
go_on j s = Ok (Some record { region = record { 0 = j }; address = record { 0 = s } })

abbrev pub all_scanned : Step
all_scanned = Ok None

abbrev pub page_lacks : Step
page_lacks = Err record {}

abbrev pub on_step : {A : Type 0} → Step → (ℕ → ℕ → A) → A → A → A
on_step (Ok (Some e)) f a b = f e.region.0 e.address.0
on_step (Ok None) f a b = a
on_step (Err e) f a b = b

-- an entry's numbers fit into words
abbrev pub Fitting : Entry → Type 0
Fitting e = (e.region.0 < 4294967296) × (e.address.0 < 4294967296)

-- what a step goes on with fits into words
abbrev pub Narrow : Step → Type 0
Narrow (Ok (Some e)) = Fitting e
Narrow (Ok None) = Unit {0}
Narrow (Err e) = Unit {0}

-- i is the depth
unfoldable pub pop_on : ℕ → List ℕ → After Step (List ℕ)
pop_on i t =
    eqb i 0 ⇒ after all_scanned t ∣
    after (go_on (at t (entry (i - 1) + 1)) (at t (entry (i - 1)))) (set t depth (i - 1))

-- "the last pushed is scanned first"
abbrev pub pop : List ℕ → After Step (List ℕ)
pop t = pop_on (at t depth) t
