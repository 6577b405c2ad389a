-- The refusals, by the names and numbers of document 01.
use Rattle.std.specs.Prelude.{ℕ}
pub use Rattle.base_refusals.specs.declared.Refusal.{Refusal}
use Rattle.base_refusals.specs.declared.Refusal.TheVariants.{CHANNELS, SAMPLES, MAP, DEST, STORE, FULL, SET, MODE, NONE, NAN, SCALE, LENGTH, KIND, CONTENT, ROOM}

abbrev pub number : Refusal → ℕ
number CHANNELS = 1
number SAMPLES = 2
number MAP = 3
number DEST = 4
number STORE = 5
number FULL = 6
number SET = 7
number MODE = 8
number NONE = 9
number NAN = 10
number SCALE = 11
number LENGTH = 12
number KIND = 13
number CONTENT = 14
number ROOM = 15
