-- The two parts of a split at a frame, and the frames that a list of samples shows.
use Rattle.std.specs.Prelude.{ℕ, zero, suc, ◌*◌, List, [], ◌∷◌, length, take, drop}
use Rattle.samples.specs.Frames.{frames_of}

-- how many samples stand before a frame; those samples, and those from the frame on
abbrev pub place_of : ℕ → ℕ → ℕ
place_of channels frame = frame * channels

abbrev pub up_to : {A : Type 0} → ℕ → ℕ → List A → List A
up_to channels frame samples = take (place_of channels frame) samples

abbrev pub from_on : {A : Type 0} → ℕ → ℕ → List A → List A
from_on channels frame samples = drop (place_of channels frame) samples

-- so many frames, one after the other, each a sample of every channel
unfoldable pub cut_into : {A : Type 0} → ℕ → ℕ → List A → List (List A)
cut_into channels zero samples = []
cut_into channels (suc frames) samples = take channels samples ∷ cut_into channels frames (drop channels samples)

abbrev pub shown : {A : Type 0} → ℕ → List A → List (List A)
shown channels samples = cut_into channels (frames_of channels (length samples)) samples
