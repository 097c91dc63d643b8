-- Which images the program takes.
use Rattle.std.specs.Prelude.{◌*◌, ◌^◌, Bool, ◌&&◌, leb}
use Rattle.reading.specs.declared.Head.{Head}

-- "It takes at most 4,096 heap and 1,024 constant words." (n and the roots are looked at for what a heap of this size has room for; where
-- they are outside their limits the first frame is malformed anyway, and the answer is the same.)
unfoldable pub takes_head : Head → Bool
takes_head h = leb h.n 8 && leb (h.pages * 2 ^ h.n) 4096 && leb h.roots 1024 && leb h.consts 1024
