use Prim.Native.Nat.{◌-◌}
use lib.ListN.{length}
use Rattle.taking.proofs.UnitLaws.{Going, whole_of}
use Rattle.taking.proofs.take_unit.Given as goal

abbrev pub invariant-loop-to : goal.invariant-loop-to
invariant-loop-to l =
    Going l.file l.d l.unit l.marks l.pace l.end (whole_of l.natural l.file l.d l.unit l.end_before l.marks l.initial.to l.initial.sizes l.initial.rows l.initial.excitation l.initial.decoded)
    (length l.initial.sizes) (length l.initial.rows) (length l.initial.excitation) (length l.initial.decoded) l.sizes l.rows l.excitation l.decoded l.to l.place

abbrev pub decreases-loop-to : goal.decreases-loop-to
decreases-loop-to l = l.end - l.to.taken
