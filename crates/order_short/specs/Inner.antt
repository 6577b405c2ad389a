-- What the steps of the counting are stated by.
use Rattle.std.specs.Prelude.{Bool, cond, List, [], ◌∷◌, ℕ, ◌+◌, take, drop, Float}
use Rattle.std.specs.Float.Ieee.{le, lt}
use Rattle.base_floats.specs.Entry.{at}

-- how many energies pass a test
abbrev pub count : (Float → Bool) → List Float → ℕ
count test [] = 0
count test (x ∷ l) = cond (test x) 1 0 + count test l

-- the place of energy i in the order: after those at most it that come earlier, and those below it that come later
abbrev pub place_of : List Float → ℕ → ℕ
place_of l i = count (λ y. le y (at l i)) (take i l) + count (λ y. lt y (at l i)) (drop i l)
