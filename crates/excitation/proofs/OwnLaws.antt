-- The simple join: each unit takes the marks that its own periods made, and so every mark is taken.
use mathlib.Core.Path.{◌≡◌, refl, sym, ap, ◌∙◌}
use mathlib.Core.Bool.{true}
use mathlib.Core.List.{List, [], ◌∷◌, ◌++◌}
use Prim.Native.Nat.{ℕ, zero, suc, ◌+◌, ◌≤◌}
use native.Mathlib.Omega.{arith}
use lib.ListN.{length, length-append}
use lib.Seq.{take_at, drop_at}
use Rattle.base.specs.Buffers.{flat}
use Rattle.voice.specs.Voice.{Voice}
use Rattle.voice.specs.Periods.{samples_of, samples_from}
use Rattle.units.specs.declared.Unit.{Unit}
use Rattle.units.specs.Units.{ending_at}
use Rattle.marks.specs.NaturalMarks.{period_count, marks_of_periods, place_after_unit, natural_marks, natural_units}
use Rattle.marks.specs.Checking.{last_of}
use Rattle.marks.proofs.UpToLaws.{natural-up_to}
use Rattle.excitation.specs.Shares.{own_periods, share_count, shares_from, marks_taken}
use Rattle.excitation.specs.Makers.{makers_shares}
use Rattle.excitation.proofs.ShareLaws.{two-shares, TakesFront}

module _ (v : Voice) where
  -- ---- the marks of some periods

  pub own-many : (place p n : ℕ) → length (marks_of_periods v place p n) ≡ n
  unfolding marks_of_periods
  own-many place p zero = refl
  own-many place p (suc n) = ap suc (own-many (place + samples_of v p) (suc p) n)

  pub own-last : (place p n : ℕ) → last_of place (marks_of_periods v place p n) ≡ place + samples_from v p n
  unfolding marks_of_periods samples_from last_of
  own-last place p zero = omega arith
  own-last place p (suc n) = let e = own-last (place + samples_of v p) (suc p) n in omega arith

  -- ---- one unit, whose marks come first

  own-count : (place : ℕ) (u : Unit) (others : List ℕ)
      → share_count true (ending_at u (place_after_unit v place u)) (marks_of_periods v place u.first_period (period_count u) ++ others) ≡ period_count u
  unfolding share_count own_periods
  own-count place u others =
      let a = own-many place u.first_period (period_count u) in
      let b = length-append (marks_of_periods v place u.first_period (period_count u)) others in
      omega arith

  -- ---- unit after unit

  pub own-shares : (place : ℕ) (us : List Unit) → shares_from true place place (natural_units v place us) (natural_marks v place us) ≡ makers_shares v place us
  unfolding shares_from natural_units natural_marks makers_shares
  own-shares place [] = refl
  own-shares place (u ∷ us) =
      let end = place_after_unit v place u in
      let own = marks_of_periods v place u.first_period (period_count u) in
      let n = own-many place u.first_period (period_count u) in
      let a = take_at own (natural_marks v end us) (period_count u) n in
      let b = drop_at own (natural_marks v end us) (period_count u) n in
      rw (own-count place u (natural_marks v end us), a, b, own-last place u.first_period (period_count u), own-shares end us)

  makers-marks : (place : ℕ) (us : List Unit) → marks_taken (makers_shares v place us) ≡ natural_marks v place us
  unfolding marks_taken makers_shares natural_marks flat
  makers-marks place [] = refl
  makers-marks place (u ∷ us) = ap (λ (ms : List ℕ). marks_of_periods v place u.first_period (period_count u) ++ ms) (makers-marks (place_after_unit v place u) us)

  -- ---- all of them

  pub own-taken : (us : List Unit) → 2 ≤ length (natural_marks v 0 us) → TakesFront true (natural_units v 0 us) (natural_marks v 0 us)
  own-taken us two =
      ap marks_taken (two-shares true (natural_units v 0 us) (natural_marks v 0 us) two ∙ own-shares 0 us)
      ∙ makers-marks 0 us
      ∙ sym (natural-up_to v 0 us)
