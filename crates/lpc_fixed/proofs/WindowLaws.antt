-- The ring kept twice: what a store of an output leaves, and where the output k + 1 back stands.
use Rattle.std.proofs.Common.{◌≡◌, ℕ, ◌+◌, ◌-◌, ◌<◌, ◌≤◌, List, length, get_or, set, sym, ◌∙◌, arith, length-set}
use Rattle.std.proofs.lemmas.Grind.{common_steps}
use Rattle.base.specs.Buffers.{upto}
use Rattle.base.proofs.BufferLaws.{length-upto}
use Rattle.lpc.specs.Ring.{place_after, tap}
use Rattle.lpc.specs.Sums.{summed, fixed_step}
use Rattle.lpc.proofs.RingLaws.{Stands, stands, lower, upper, after-low, newest}
use Rattle.lpc_fixed.specs.Window.{Doubled}
use Rattle.lpc_fixed.proofs.SumLaws.{summed_same}

-- one output more, at place i
pub doubled-turn : (order i y : ℕ) (h w : List ℕ) → i ≤ order → i + order + 1 < length w → i < length h → Doubled order (order + 1) h w → Doubled order (order + 1) (set h i y) (set (set w i y) (i + order + 1) y)
doubled-turn order i y h w p room short d = record {
  lower = λ j l. grind (arith, common_steps, d.lower j l);
  upper = λ j l. grind (arith, common_steps, d.upper j l);
}

-- the output k + 1 back
pub doubled-tap : (order place k : ℕ) (h w : List ℕ) → Doubled order (order + 1) h w → place ≤ order → k ≤ order → get_or w (place + order - k) 0 ≡ get_or h (tap order place k) 0
doubled-tap order place k h w d p l = at (tap order place k) (stands order place k p l)
  where
    at : (t : ℕ) → Stands order place k t → get_or w (place + order - k) 0 ≡ get_or h t 0
    at t (lower e) =
        let n : place + order - k ≡ t + order + 1 = omega arith in
        rw n (d.upper t (omega arith))
    at t (upper g e) =
        let n : place + order - k ≡ t = omega arith in
        rw n (d.lower t (omega arith))

-- a history and its window, whose newest output is `last`, with room for every order
pub record Windowed (order place : ℕ) (history window : List ℕ) (last : ℕ) : Type 0 where
  pub history_long : length history ≡ 33
  pub window_long : length window ≡ 66
  pub twice : Doubled order (order + 1) history window
  pub newest_is : last ≡ get_or window (place + order) 0

module _ (order place : ℕ) (h w : List ℕ) (last : ℕ) (o : order ≤ 32) (p : place ≤ order) (v : Windowed order place h w last) where
  pub windowed-turn : (y next : ℕ) → next ≡ place_after order place → Windowed order next (set h place y) (set (set w place y) (place + order + 1) y) y
  unfolding tap
  windowed-turn y next e =
      let d = doubled-turn order place y h w p (omega (arith, v.window_long)) (omega (arith, v.history_long)) v.twice in
      let q : next ≤ order = rw e (after-low order place p) in
      let z : next + order - 0 ≡ next + order = omega arith in
      let t = doubled-tap order next 0 (set h place y) _ d q (omega arith) in
      record {
        history_long = simp length-set v.history_long;
        window_long = simp length-set v.window_long;
        twice = d;
        newest_is = sym (rw z at t ∙ rw e (newest order place h y 0 p (omega (arith, v.history_long))));
      }

  -- a sum over the window is the sum over the ring
  pub window-sum : (acc : ℕ) (f : ℕ → ℕ) → summed fixed_step acc (upto f order) (λ k. get_or w (place + order - k) 0) 0 ≡ summed fixed_step acc (upto f order) (λ k. get_or h (tap order place k) 0) 0
  window-sum acc f = summed_same acc (upto f order) _ _ 0 (λ j l. doubled-tap order place j h w v.twice p (omega (arith, l, length-upto f order)))
