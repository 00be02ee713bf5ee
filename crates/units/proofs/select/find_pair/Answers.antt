use mathlib.Core.Path.{sym, ap, ◌∙◌}
use mathlib.Core.List.{List}
use Prim.Native.Nat.{ℕ}
use lib.ListN.{length}
use Rattle.index.specs.Index.{found_of}
use Rattle.voice.specs.Voice.{voice_of, lookup}
use Rattle.units.proofs.NameLaws.{front-is}
use Rattle.units.proofs.select.find_pair.Goals as goal

pub slice_bounds-find_name-end : goal.slice_bounds-find_name-end
slice_bounds-find_name-end c =
    c.put_pair-len.ensures.0.0 ∙ sym (ap length (front-is _ _ _ _ c.put_pair-len.ensures.0.0 c.put_pair-len.ensures.1))

pub returns : goal.returns
returns c =
    c.find_name.ensures ∙ ap (λ (n : List ℕ). found_of (lookup n (voice_of c.args.file.now).entries)) (front-is _ _ _ _ c.put_pair-len.ensures.0.0 c.put_pair-len.ensures.1)
