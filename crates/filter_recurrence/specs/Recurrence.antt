-- The weighting filter (01, step 4): "State s0..s4 per channel. s0 = x - a1·s1 - a2·s2 - a3·s3 - a4·s4; y = b0·s0 + b1·s1 + b2·s2 + b3·s3 + b4·s4;
-- left to right, each operation rounded; then s4=s3, s3=s2, s2=s1, s1=s0."
use Rattle.std.specs.Prelude.{cond, false, List, [], ◌∷◌, negsuc, Float}
use Rattle.std.specs.Float.{fin, binary64}
use Rattle.std.specs.Float.Ieee.{add, sub, mul, lt}
use Rattle.base_floats.specs.Entry.{plus_zero, at}
use Rattle.base_floats.specs.Largest.{magnitude}
use Rattle.filter_recurrence.specs.declared.Memory.{Memory}

-- ---- one frame of one channel

-- the new s0
abbrev pub head : List Float → Memory → Float → Float
head a m x =
    sub binary64 (sub binary64 (sub binary64 (sub binary64 x (mul binary64 (at a 1) m.s1)) (mul binary64 (at a 2) m.s2)) (mul binary64 (at a 3) m.s3)) (mul binary64 (at a 4) m.s4)

-- y, at the new s0
abbrev pub output : List Float → Memory → Float → Float
output b m s0 =
    add binary64 (add binary64 (add binary64 (add binary64 (mul binary64 (at b 0) s0) (mul binary64 (at b 1) m.s1)) (mul binary64 (at b 2) m.s2)) (mul binary64 (at b 3) m.s3)) (mul binary64 (at b 4) m.s4)

abbrev pub shift : Memory → Float → Memory
shift m s0 = record { s0 = s0; s1 = s0; s2 = m.s1; s3 = m.s2; s4 = m.s3 }

-- the memory after a frame, and the frame's output
unfoldable pub next : List Float → Memory → Float → Memory
next a m x = shift m (head a m x)

unfoldable pub out : List Float → List Float → Memory → Float → Float
out a b m x = output b m (head a m x)

-- ---- the flush

-- 2^-1022
abbrev pub smallest : Float
smallest = fin false 1 (negsuc 1021)

-- "At the end of each call every state value of magnitude below 2^-1022, negative zero too, becomes +0."
abbrev pub flush : Float → Float
flush v = cond (lt (magnitude v) smallest) plus_zero v

unfoldable pub flushed : Memory → Memory
flushed m = record { s0 = flush m.s0; s1 = flush m.s1; s2 = flush m.s2; s3 = flush m.s3; s4 = flush m.s4 }

-- ---- all frames of one channel

-- the memory after the last, and the outputs in order
unfoldable pub after : List Float → Memory → List Float → Memory
unfolding next
after a m [] = m
after a m (x ∷ xs) = after a (next a m x) xs

unfoldable pub outs : List Float → List Float → Memory → List Float → List Float
unfolding out next
outs a b m [] = []
outs a b m (x ∷ xs) = out a b m x ∷ outs a b (next a m x) xs
