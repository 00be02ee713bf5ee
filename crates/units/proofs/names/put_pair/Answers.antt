use mathlib.Core.Path.{◌≡◌, refl, ap, ◌∙◌}
use mathlib.Core.List.{List, ◌++◌, append_assoc}
use Prim.Native.Nat.{ℕ, ◌+◌}
use native.Mathlib.Omega.{arith}
use lib.ListN.{length, length-append}
use Rattle.base.specs.Buffers.{over}
use Rattle.units.specs.Selecting.{folded_name, joint}
use Rattle.units.proofs.NameLaws.{length-folded-name, length-pair, stored-after}
use Rattle.units.proofs.names.put_pair.Goals as goal

pub returns : goal.returns
returns c =
    let left = folded_name c.args.fold c.args.left.now in
    let right = folded_name c.args.fold c.args.right.now in
    let middle = joint c.args.cluster in
    let l = length-folded-name c.args.fold c.args.left.now in
    let r = length-folded-name c.args.fold c.args.right.now in
    let m = c.put_joint.ensures.0.0 in
    let front = stored-after left middle c.args.buf.now _ _ _ _ c.put_name.ensures l refl c.put_joint.ensures.1 in
    let place : length (left ++ middle) ≡ length c.args.left.now + c.put_joint.result = rw length-append (omega (arith, l, m)) in
    let whole = stored-after (left ++ middle) right c.args.buf.now _ _ _ _ front place refl c.put_name-2.ensures in
    let len = length-pair c.args.cluster left right in
    ((omega (arith, l, r, m, len), omega (arith, c.requires, c.put_joint.ensures.0.1)), whole ∙ ap (λ (x : List ℕ). over x c.args.buf.now) (append_assoc left middle right))
