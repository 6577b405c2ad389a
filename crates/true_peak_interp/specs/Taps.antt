-- The 48 coefficients of each factor, as the bit patterns of their f32 values, printed by the oracle. Written by tools/make-taps: edit that program and not this file.
use Rattle.std.specs.Prelude.{ℕ, List, [], ◌∷◌, map, Float}
use Rattle.std.specs.Float.Ieee.{of_bits}
use Rattle.std.specs.Float.{binary32}

unfoldable pub fourfold_bits : List ℕ
fourfold_bits =
    0x80000000 ∷
    0xb92f935d ∷
    0xba813d1e ∷
    0xbad5dfa5 ∷
    0x2240adaf ∷
    0x3ba06e7c ∷
    0x3c29b8b5 ∷
    0x3c29bccd ∷
    0xa333c57d ∷
    0xbc97c3da ∷
    0xbd0a0cca ∷
    0xbcf6a486 ∷
    0x23b3c57d ∷
    0x3d3d806d ∷
    0x3da41fde ∷
    0x3d8da2f5 ∷
    0xa406d41e ∷
    0xbdd3e11f ∷
    0xbe397a0d ∷
    0xbe255562 ∷
    0x2427baa2 ∷
    0x3e93ce4e ∷
    0x3f2032b3 ∷
    0x3f657ebd ∷
    0x3f800000 ∷
    0x3f657ebd ∷
    0x3f2032b3 ∷
    0x3e93ce4e ∷
    0x2427baa2 ∷
    0xbe255562 ∷
    0xbe397a0d ∷
    0xbdd3e11f ∷
    0xa406d41e ∷
    0x3d8da2f5 ∷
    0x3da41fde ∷
    0x3d3d806d ∷
    0x23b3c57d ∷
    0xbcf6a486 ∷
    0xbd0a0cca ∷
    0xbc97c3da ∷
    0xa333c57d ∷
    0x3c29bccd ∷
    0x3c29b8b5 ∷
    0x3ba06e7c ∷
    0x2240adaf ∷
    0xbad5dfa5 ∷
    0xba813d1e ∷
    0xb92f935d ∷ []

unfoldable pub twofold_bits : List ℕ
twofold_bits =
    0x80000000 ∷
    0xb8f84d2c ∷
    0x22323e45 ∷
    0x3a973b42 ∷
    0xa240adaf ∷
    0xbb62e26f ∷
    0x22d29d88 ∷
    0x3bf00b8a ∷
    0xa333c57d ∷
    0xbc56a0d0 ∷
    0x23853e40 ∷
    0x3cae6718 ∷
    0xa3b3c57d ∷
    0xbd05ff77 ∷
    0x23e24cba ∷
    0x3d484de8 ∷
    0xa406d41e ∷
    0xbd95d244 ∷
    0x241971cd ∷
    0x3de9d122 ∷
    0xa427baa2 ∷
    0xbe510772 ∷
    0x2430b56b ∷
    0x3f22470c ∷
    0x3f800000 ∷
    0x3f22470c ∷
    0x2430b56b ∷
    0xbe510772 ∷
    0xa427baa2 ∷
    0x3de9d122 ∷
    0x241971cd ∷
    0xbd95d244 ∷
    0xa406d41e ∷
    0x3d484de8 ∷
    0x23e24cba ∷
    0xbd05ff77 ∷
    0xa3b3c57d ∷
    0x3cae6718 ∷
    0x23853e40 ∷
    0xbc56a0d0 ∷
    0xa333c57d ∷
    0x3bf00b8a ∷
    0x22d29d88 ∷
    0xbb62e26f ∷
    0xa240adaf ∷
    0x3a973b42 ∷
    0x22323e45 ∷
    0xb8f84d2c ∷ []

-- the coefficients of factor 4 and of factor 2
unfoldable pub fourfold : List Float
unfolding fourfold_bits
fourfold = map (of_bits binary32) fourfold_bits

unfoldable pub twofold : List Float
unfolding twofold_bits
twofold = map (of_bits binary32) twofold_bits
