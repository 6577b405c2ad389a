-- The worked cases of document 01 for the ranks, as one table. Each is computed. Assumes nothing.
use Rattle.std.proofs.Common.{◌≡◌, [], ◌∷◌, map, refl}
use Rattle.range_ranks.specs.Ranks.{low_rank, high_rank}

pub worked : (map low_rank (4 ∷ 5 ∷ 4_294_967_294 ∷ []) ≡ 0 ∷ 1 ∷ 429_496_729 ∷ [])
    × (map high_rank (9 ∷ 10 ∷ 11 ∷ 4_294_967_294 ∷ []) ≡ 9 ∷ 10 ∷ 10 ∷ 4_080_218_929 ∷ [])
worked = (refl, refl)
