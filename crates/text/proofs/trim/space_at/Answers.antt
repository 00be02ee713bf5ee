use mathlib.Core.Path.{◌≡◌}
use mathlib.Core.Bool.{true, false}
use Prim.Native.Nat.{◌+◌}
use lib.ListN.{get_or}
use Rattle.text.specs.Trim.{one_byte, two_bytes, three_bytes}
use Rattle.text.proofs.TrimLaws.{space-one, space-two, space-three, space-none}
use Rattle.text.proofs.trim.space_at.Goals as goal

pub returns-then-is_one : goal.returns-then-is_one
returns-then-is_one c =
    let s = c.args.s.now in
    let at = c.args.at in
    let b = c.byte_at-a.ensures.0 in
    let e = c.is_one.ensures in
    let f = c.if-is_one.true in
    let one : one_byte (get_or s at 0) ≡ true = cc in
    space-one s at one

pub returns-then-is_two : goal.returns-then-is_two
returns-then-is_two c =
    let s = c.args.s.now in
    let at = c.args.at in
    let b = c.byte_at-a.ensures.0 in
    let e = c.is_one.ensures in
    let f = c.if-is_one.false in
    let b₂ = c.byte_at-b.ensures.0 in
    let e₂ = c.is_two.ensures in
    let f₂ = c.if-is_two.true in
    let one : one_byte (get_or s at 0) ≡ false = cc in
    let two : two_bytes (get_or s at 0) (get_or s (at + 1) 0) ≡ true = cc in
    space-two s at one two

pub returns-then-is_three : goal.returns-then-is_three
returns-then-is_three c =
    let s = c.args.s.now in
    let at = c.args.at in
    let b = c.byte_at-a.ensures.0 in
    let e = c.is_one.ensures in
    let f = c.if-is_one.false in
    let b₂ = c.byte_at-b.ensures.0 in
    let e₂ = c.is_two.ensures in
    let f₂ = c.if-is_two.false in
    let b₃ = c.byte_at.ensures.0 in
    let e₃ = c.is_three.ensures in
    let f₃ = c.if-is_three.true in
    let one : one_byte (get_or s at 0) ≡ false = cc in
    let two : two_bytes (get_or s at 0) (get_or s (at + 1) 0) ≡ false = cc in
    let three : three_bytes (get_or s at 0) (get_or s (at + 1) 0) (get_or s (at + 2) 0) ≡ true = cc in
    space-three s at one two three

pub returns : goal.returns
returns c =
    let s = c.args.s.now in
    let at = c.args.at in
    let b = c.byte_at-a.ensures.0 in
    let e = c.is_one.ensures in
    let f = c.if-is_one.false in
    let b₂ = c.byte_at-b.ensures.0 in
    let e₂ = c.is_two.ensures in
    let f₂ = c.if-is_two.false in
    let b₃ = c.byte_at.ensures.0 in
    let e₃ = c.is_three.ensures in
    let f₃ = c.if-is_three.false in
    let one : one_byte (get_or s at 0) ≡ false = cc in
    let two : two_bytes (get_or s at 0) (get_or s (at + 1) 0) ≡ false = cc in
    let three : three_bytes (get_or s at 0) (get_or s (at + 1) 0) (get_or s (at + 2) 0) ≡ false = cc in
    space-none s at c.requires one two three
