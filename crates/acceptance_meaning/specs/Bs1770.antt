-- The gated measurement of ITU-R BS.1770 as that document is commonly cited, and not from the Rust, over the energies of its gating blocks. Its text was not at
-- hand: docs/DIFFERENCES.md says what is to be checked against it.
-- The document: a block's loudness is -0.691 + 10 log10 of its energy. Blocks that are not above the absolute gate, -70 LKFS, are left out. The relative
-- gate lies 10 LU below the loudness of the others' mean energy. The measurement is the mean energy of the blocks above both gates.
-- In energies, the absolute gate is boundary 0, and 10 LU less is a tenth (Levels.antt).
-- What the document leaves open is taken from 01, step 8: f64 sums in the blocks' order, for the relative gate history by history, and then in one run;
-- NONE where there is no block to take a mean of, and NAN.
use Rattle.std.specs.Prelude.{ℕ, suc, ◌+◌, ◌≤◌, ◌≡◌, Bool, true, not, ◌&&◌, cond, List, [], ◌∷◌, ◌++◌, eqb, pos, length, Float}
use Rattle.std.specs.Float.{binary64}
use Rattle.std.specs.Float.Ieee.{add, mul, of_int, lt, eq, is_nan, round}
use Rattle.base_refusals.specs.declared.Refusal.TheVariants.{NONE, NAN}
use Rattle.base_refusals.specs.Outcome.{Question, went, answers, refused}
use Rattle.bins_tables.specs.Tables.{energy_at}
use Rattle.history_queue.specs.Queue.{longest, over, started, held_of}
use Rattle.history_queue.specs.Adding.{fed_to, taken}
use Rattle.history_set.specs.Set.{History, counted, listed}
use Rattle.gate.specs.declared.blocks.Totals.{Totals}
use Rattle.gate.specs.Relative.{Limit, loudness, energy as energy_of}
use Rattle.acceptance_meaning.specs.Levels.{absolute_gate, no_energy, added, mean, ten_lu_below}

-- whether a gate lets a block of an energy through
abbrev pub Rule : Type 0
Rule = Float → Float → Bool

-- the document's rule: the block is above the gate
abbrev pub strict : Rule
strict gate energy = lt gate energy

-- the Rust's, and so 01's: it is not below the gate, so a block at the gate is kept
abbrev pub equals_kept : Rule
equals_kept gate energy = not (lt energy gate)

-- the blocks that a gate lets through, of one history and of each
unfoldable pub through : Rule → Float → List Float → List Float
through rule gate [] = []
through rule gate (energy ∷ rest) = cond (rule gate energy) (energy ∷ through rule gate rest) (through rule gate rest)

unfoldable pub each_through : Rule → Float → List (List Float) → List (List Float)
each_through rule gate [] = []
each_through rule gate (blocks ∷ rest) = through rule gate blocks ∷ each_through rule gate rest

-- ---- counts and sums
-- the sums of the histories, each from 0, added to a running sum
unfoldable pub histories_added : Float → List (List Float) → Float
unfolding added
histories_added sum [] = sum
histories_added sum (blocks ∷ rest) = histories_added (add binary64 sum (added no_energy blocks)) rest

unfoldable pub in_one_run : List (List Float) → List Float
in_one_run [] = []
in_one_run (blocks ∷ rest) = blocks ++ in_one_run rest

-- the count of all blocks, and their sum history by history, or in one run
abbrev pub by_history : List (List Float) → Totals
by_history material = record { count = length (in_one_run material); sum = histories_added no_energy material }

abbrev pub together : List (List Float) → Totals
together material = record { count = length (in_one_run material); sum = added no_energy (in_one_run material) }

abbrev pub mean_of : Totals → Float
mean_of blocks = mean blocks.count blocks.sum

-- ---- the measurement
-- 10 LU below the mean of these blocks
abbrev pub relative_gate : List (List Float) → Float
relative_gate blocks = ten_lu_below (mean_of (by_history blocks))

-- all blocks above the absolute gate, and those of them above the relative one: no mean without a block, and none of a sum that is NaN
abbrev pub unless_none : Totals → Totals → Question Totals
unless_none all left =
    cond (eqb all.count 0) (refused NONE) (cond (is_nan all.sum) (refused NAN) (cond (eqb left.count 0) (refused NONE) (answers left)))

-- the blocks above both gates: their count and sum
abbrev pub above_both : Rule → List (List Float) → Question Totals
above_both rule blocks = unless_none (by_history blocks) (together (each_through rule (relative_gate blocks) blocks))

unfoldable pub measured : Rule → List (List Float) → Question Totals
measured rule material = above_both rule (each_through rule absolute_gate material)

-- the measurement itself is their mean energy
abbrev pub mean_of_these : Question Totals → Question Float
mean_of_these (went kept blocks) = answers (mean_of blocks)
mean_of_these (refused r) = refused r

abbrev pub measured_energy : Rule → List (List Float) → Question Float
measured_energy rule material = mean_of_these (measured rule material)

-- the relative gate of one history's material, as 01 answers it: -70.0 LUFS where no block is above the absolute gate
abbrev pub gate_level : List Float → Question Limit
gate_level blocks =
    cond (eqb (length blocks) 0) (answers (loudness (round binary64 true 70 1)))
    (cond (is_nan (added no_energy blocks)) (refused NAN) (answers (energy_of (ten_lu_below (mean (length blocks) (added no_energy blocks))))))

unfoldable pub measured_gate : Rule → List Float → Question Limit
measured_gate rule material = gate_level (through rule absolute_gate material)

-- ---- histories of either kind, with what they hold
-- so many blocks more, with their energy
abbrev pub more : Totals → ℕ → Float → Totals
more totals blocks energy = record { count = totals.count + blocks; sum = add binary64 totals.sum energy }

abbrev pub no_blocks : Totals
no_blocks = record { count = 0; sum = no_energy }

-- In a histogram a block stands at the energy of its bin, and the blocks of a bin are added at once, count times energy, bins upward: the named departure.
unfoldable pub bins_through : (Float → Bool) → Totals → ℕ → List ℕ → Totals
bins_through lets totals bin [] = totals
bins_through lets totals bin (count ∷ rest) =
    bins_through lets (cond (lets (energy_at bin)) (more totals count (mul binary64 (of_int binary64 (pos count)) (energy_at bin))) totals) (suc bin) rest

unfoldable pub energies_through : (Float → Bool) → Totals → List Float → Totals
energies_through lets totals [] = totals
energies_through lets totals (energy ∷ rest) = energies_through lets (cond (lets energy) (more totals 1 energy) totals) rest

abbrev pub history_through : (Float → Bool) → Totals → History → Totals
history_through lets totals (counted counters) = bins_through lets totals 0 counters
history_through lets totals (listed energies) = energies_through lets totals energies

-- those that a rule lets through, in one running sum
unfoldable pub all_through : (Float → Bool) → Totals → List History → Totals
unfolding bins_through energies_through
all_through lets totals [] = totals
all_through lets totals (history ∷ rest) = all_through lets (history_through lets totals history) rest

-- all blocks, history by history, each history's sum from 0
unfoldable pub all_blocks : Totals → List History → Totals
unfolding bins_through energies_through
all_blocks totals [] = totals
all_blocks totals (history ∷ rest) =
    let these = history_through (λ energy. true) no_blocks history in
    all_blocks (more totals these.count these.sum) rest

unfoldable pub measured_set : Rule → List History → Question Totals
unfolding all_through all_blocks
measured_set rule histories =
    let all = all_blocks no_blocks histories in
    unless_none all (all_through (rule (ten_lu_below (mean_of all))) no_blocks histories)

-- no block is NaN or stands at the gate, of one history and of each
unfoldable pub none_at : Float → List Float → Bool
none_at gate [] = true
none_at gate (energy ∷ rest) = (not (is_nan energy) && not (eq energy gate)) && none_at gate rest

unfoldable pub none_of_each_at : Float → List (List Float) → Bool
none_of_each_at gate [] = true
none_of_each_at gate (blocks ∷ rest) = none_at gate blocks && none_of_each_at gate rest

-- ---- material in queues
-- the blocks that are added one after the other to a new queue, which has room for those that it takes
pub record Feed : Type 0 where
  pub blocks : List Float
  pub maximum : ℕ
  pub store : List Float
  pub least : 1 ≤ maximum
  pub most : maximum ≤ longest
  pub whole : maximum ≡ length store
  pub room : length (taken blocks) ≤ maximum

unfoldable pub material_of : List Feed → List (List Float)
material_of [] = []
material_of (feed ∷ rest) = feed.blocks ∷ material_of rest

-- the histories that these queues then show
unfoldable pub shown_by : List Feed → List History
shown_by [] = []
shown_by (feed ∷ rest) = listed (held_of (fed_to (over (started feed.maximum) feed.store) feed.blocks)) ∷ shown_by rest
