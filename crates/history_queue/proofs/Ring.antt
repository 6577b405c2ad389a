-- What `suits` says of a queue: it is a test on numbers, and each part is a fact about them. Assumes nothing.
use mathlib.Core.Path.{◌≡◌}
use mathlib.Core.Bool.{true, ◌&&◌, and-eq-true_iff}
use Prim.Native.Nat.{ℕ, ◌≤◌, ◌<◌}
use borrow.Author.Tests.{leb-true, ltb-true, eqb-true, le-leb, lt-ltb, eq-eqb}
use lib.Dec.{eqb, leb, ltb}
use Rattle.history_queue.specs.declared.Queue.{Queue}
use Rattle.history_queue.specs.Queue.{longest, suits}

-- a queue that suits a store of some length
pub record Suited (queue : Queue) (places : ℕ) : Type 0 where
  pub least : 1 ≤ queue.maximum
  pub most : queue.maximum ≤ longest
  pub whole : queue.maximum ≡ places
  pub within : queue.head < queue.maximum
  pub full : queue.held ≤ queue.maximum

pub suited : (queue : Queue) (places : ℕ) → suits queue places ≡ true → Suited queue places
unfolding suits
suited queue places h =
    let ring = ltb queue.head queue.maximum && leb queue.held queue.maximum in
    let a = (and-eq-true_iff (leb 1 queue.maximum) (leb queue.maximum longest && (eqb queue.maximum places && ring))).0 h in
    let b = (and-eq-true_iff (leb queue.maximum longest) (eqb queue.maximum places && ring)).0 a.1 in
    let d = (and-eq-true_iff (eqb queue.maximum places) ring).0 b.1 in
    let e = (and-eq-true_iff (ltb queue.head queue.maximum) (leb queue.held queue.maximum)).0 d.1 in
    record {
      least = leb-true 1 queue.maximum a.0;
      most = leb-true queue.maximum longest b.0;
      whole = eqb-true queue.maximum places d.0;
      within = ltb-true queue.head queue.maximum e.0;
      full = leb-true queue.held queue.maximum e.1;
    }

pub suits_it : (queue : Queue) (places : ℕ) → Suited queue places → suits queue places ≡ true
unfolding suits
suits_it queue places s =
    rw (
      le-leb 1 queue.maximum s.least,
      le-leb queue.maximum longest s.most,
      eq-eqb queue.maximum places s.whole,
      lt-ltb queue.head queue.maximum s.within,
      le-leb queue.held queue.maximum s.full,
    )
