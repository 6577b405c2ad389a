-- The state of a call that goes run by run: the frames of a run, and then those that follow, are all of them. Assumes nothing.
use Rattle.std.proofs.Common.{◌≡◌, ℕ, ◌*◌, ◌/◌, ◌≤◌, ◌<◌, List, ◌++◌, length, sym, ap, ◌∙◌, arith}
use native.Mathlib.Nat.{mul-div_cancel}
use lib.Ieee.{Float}
use Rattle.samples.specs.Frames.{column, channel_of, most_channels}
use Rattle.samples.proofs.Cutting.{frames_are}
use Rattle.samples.proofs.Parts.{cut_column}
use Rattle.filter_recurrence.specs.Recurrence.{after, flushed}
use Rattle.filter_recurrence.proofs.Moving.{after_append, none_after}
use Rattle.filter_recurrence.specs.declared.Memory.{Memory}
use Rattle.filter_recurrence.specs.Channels.{Weighing, state_places, memory_of, with_memory, over_used, state_after}
use Rattle.filter_recurrence.proofs.Each.{each_same, each_none}
use Rattle.filter_recurrence.proofs.Memories.{with_own, over_twice}

-- channel k's memory after its samples in a list of whole frames
abbrev pub hears : List Float → ℕ → List Float → ℕ → Memory → Memory
hears a channels samples k m = after a m (column samples k channels (length samples / channels))

-- ---- every used channel, run by run

-- no whole frame is left
pub run_none : (a samples : List Float) (channels : ℕ) (map : List ℕ) (v : List Float) → length samples / channels ≡ 0 → over_used (hears a channels samples) map 0 v ≡ v
run_none a samples channels map v e =
    each_none (λ k u. with_memory u k (hears a channels samples k (memory_of u k)))
    (λ k u. ap (with_memory u k) (none_after a (memory_of u k) samples k channels (length samples / channels) e) ∙ with_own u k) map 0 v

-- a run, and the frames that follow it
pub run_more : (a run rest : List Float) (channels n : ℕ) → length run ≡ n * channels → (map : List ℕ) (v : List Float) → length map ≡ channels → channels ≤ most_channels → length v ≡ state_places
    → over_used (hears a channels rest) map 0 (over_used (hears a channels run) map 0 v) ≡ over_used (hears a channels (run ++ rest)) map 0 v
run_more a run rest channels n e map v mapped few l =
    over_twice (hears a channels run) (hears a channels rest) map v (omega arith) l
    ∙ each_same
    (λ k u. with_memory u k (hears a channels rest k (hears a channels run k (memory_of u k))))
    (λ k u. with_memory u k (hears a channels (run ++ rest) k (memory_of u k))) map 0 v
    (λ k u _ h. ap (with_memory u k) (joined k (memory_of u k) (omega arith)))
  where
    joined : (k : ℕ) (m : Memory) → k < channels → hears a channels rest k (hears a channels run k m) ≡ hears a channels (run ++ rest) k m
    joined k m h =
        let last = column rest k channels (length rest / channels) in
        let count : length run / channels ≡ n = ap (λ (x : ℕ). x / channels) e ∙ mul-div_cancel n (omega arith) in
        ap (λ (c : ℕ). after a (after a m (column run k channels c)) last) count
        ∙ sym (after_append a m (column run k channels n) last)
        ∙ ap (after a m) (cut_column run rest channels n e k h)

-- ---- the call, at the number of frames that the code counts

pub state_is : (call : Weighing) (counted : ℕ) → 0 < call.channels → counted ≡ length call.samples
    → over_used (λ k m. flushed (after call.coefficients.a m (column call.samples k call.channels (counted / call.channels)))) call.map 0 call.state.values ≡ state_after call
unfolding state_after channel_of
state_is call counted some e =
    ap (λ (n : ℕ). over_used (λ k m. flushed (after call.coefficients.a m (column call.samples k call.channels n))) call.map 0 call.state.values) (frames_are call.channels counted (length call.samples) some e)
