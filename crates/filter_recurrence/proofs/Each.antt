-- A change of each used channel, whatever it is made to: channel by channel, and two changes one after the other.
-- Changes of two channels may change places, so the second change of a channel may follow its first at once. Assumes nothing.
use Prim.Native.Nat.{ℕ, suc, ◌+◌, ◌≤◌, ◌<◌}
use native.Mathlib.Numerals.{add-one}
use native.Mathlib.Omega.{arith}
use mathlib.Core.Path.{◌≡◌, refl, ap, sym, ◌∙◌}
use mathlib.Core.List.{List, [], ◌∷◌}
use mathlib.Core.Bool.{Bool, true, false, cond}
use lib.ListN.{length, get_or, drop, drop_of_length-le}
use lib.Seq.{drop-cons}
use Rattle.filter_checks.specs.Calls.{used}
use Rattle.filter_recurrence.specs.Channels.{each_used}

module _ {S : Type 0} where
  -- one channel more
  pub each_again : (f : ℕ → S → S) (bytes : List ℕ) (k : ℕ) (s s' : S) → k < length bytes → s' ≡ cond (used (get_or bytes k 0)) (f k s) s
      → each_used f (drop (k + 1) bytes) (k + 1) s' ≡ each_used f (drop k bytes) k s
  unfolding each_used
  each_again f bytes k s s' h e =
      ap (each_used f (drop (k + 1) bytes) (k + 1)) e
      ∙ sym (ap (λ (t : List ℕ). each_used f t k s) (drop-cons bytes k 0 h)
      ∙ ap (λ (n : ℕ). each_used f (drop n bytes) n (cond (used (get_or bytes k 0)) (f k s) s)) (sym (add-one k)))

  -- two channels more, both used
  pub each_two : (f : ℕ → S → S) (bytes : List ℕ) (k : ℕ) (s s' : S) → k + 1 < length bytes → used (get_or bytes k 0) ≡ true → used (get_or bytes (k + 1) 0) ≡ true → s' ≡ f (k + 1) (f k s)
      → each_used f (drop (k + 2) bytes) (k + 2) s' ≡ each_used f (drop k bytes) k s
  each_two f bytes k s s' h one two e =
      let n : k + 2 ≡ k + 1 + 1 = omega arith in
      ap (λ (j : ℕ). each_used f (drop j bytes) j s') n
      ∙ each_again f bytes (k + 1) (f k s) s' h (e ∙ ap (λ (b : Bool). cond b (f (k + 1) (f k s)) (f k s)) (sym two))
      ∙ each_again f bytes k s (f k s) (omega arith) (ap (λ (b : Bool). cond b (f k s) s) (sym one))

  pub each_end : (f : ℕ → S → S) (bytes : List ℕ) (k : ℕ) (s : S) → length bytes ≤ k → each_used f (drop k bytes) k s ≡ s
  unfolding each_used
  each_end f bytes k s h = ap (λ (t : List ℕ). each_used f t k s) (drop_of_length-le bytes h)

  -- the same change, as far as the channels go
  pub each_same : (f g : ℕ → S → S) (bytes : List ℕ) (k : ℕ) (s : S) → ((j : ℕ) (t : S) → k ≤ j → j < k + length bytes → f j t ≡ g j t) → each_used f bytes k s ≡ each_used g bytes k s
  unfolding each_used
  each_same f g [] k s h = refl
  each_same f g (b ∷ bytes) k s h =
      each_same f g bytes (suc k) (cond (used b) (f k s) s) (λ j t low high. h j t (omega arith) (omega arith))
      ∙ ap (λ (t : S). each_used g bytes (suc k) (cond (used b) t s)) (h k s (omega arith) (omega arith))

  -- no change at all
  pub each_none : (f : ℕ → S → S) → ((j : ℕ) (t : S) → f j t ≡ t) → (bytes : List ℕ) (k : ℕ) (s : S) → each_used f bytes k s ≡ s
  unfolding each_used
  each_none f h [] k s = refl
  each_none f h (b ∷ bytes) k s = each_none f h bytes (suc k) (cond (used b) (f k s) s) ∙ go (used b)
    where
      go : (t : Bool) → cond t (f k s) s ≡ s
      go true = h k s
      go false = refl

  -- a change of an earlier channel, before or after those of later ones
  each_past : (f g : ℕ → S → S) (bytes : List ℕ) (i k : ℕ) (s : S) → i < k → ((j : ℕ) (t : S) → i < j → g i (f j t) ≡ f j (g i t)) → g i (each_used f bytes k s) ≡ each_used f bytes k (g i s)
  unfolding each_used
  each_past f g [] i k s h apart = refl
  each_past f g (b ∷ bytes) i k s h apart =
      each_past f g bytes i (suc k) (cond (used b) (f k s) s) (omega arith) apart ∙ ap (each_used f bytes (suc k)) (go (used b))
    where
      go : (t : Bool) → g i (cond t (f k s) s) ≡ cond t (f k (g i s)) (g i s)
      go true = apart k s h
      go false = refl

  -- a change after another is one change, from any store that is fit for it
  pub each_twice : (Fit : S → Type 0) (f g : ℕ → S → S) (few : ℕ)
      → ((i j : ℕ) (t : S) → i < j → g i (f j t) ≡ f j (g i t))
      → ((j : ℕ) (t : S) → Fit t → Fit (g j (f j t)))
      → (both : ℕ → S → S) → ((j : ℕ) (t : S) → j < few → Fit t → g j (f j t) ≡ both j t)
      → (bytes : List ℕ) (k : ℕ) (s : S) → k + length bytes ≤ few → Fit s
      → each_used g bytes k (each_used f bytes k s) ≡ each_used both bytes k s
  unfolding each_used
  each_twice Fit f g few apart stays both one [] k s h fit = refl
  each_twice Fit f g few apart stays both one (b ∷ bytes) k s h fit =
      go (used b) (λ t q. each_twice Fit f g few apart stays both one bytes (suc k) t (omega arith) q)
    where
      go : (t : Bool) → ((u : S) → Fit u → each_used g bytes (suc k) (each_used f bytes (suc k) u) ≡ each_used both bytes (suc k) u)
          → let s' = each_used f bytes (suc k) (cond t (f k s) s) in each_used g bytes (suc k) (cond t (g k s') s') ≡ each_used both bytes (suc k) (cond t (both k s) s)
      go true rest =
          ap (each_used g bytes (suc k)) (each_past f g bytes k (suc k) (f k s) (omega arith) (apart k))
          ∙ rest (g k (f k s)) (stays k s fit)
          ∙ ap (each_used both bytes (suc k)) (one k s (omega arith) fit)
      go false rest = rest s fit
