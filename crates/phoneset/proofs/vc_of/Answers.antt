use Rattle.phoneset.specs.Phones.{vowels, consonants, vc}
use Rattle.phoneset.proofs.vc_of.Goals as goal

pub returns-then-is_among : goal.returns-then-is_among
unfolding vc vowels consonants
returns-then-is_among c = rw (← c.is_among.ensures, c.if-is_among.true)

pub returns-then-is_among-2 : goal.returns-then-is_among-2
unfolding vc vowels consonants
returns-then-is_among-2 c =
    rw (← c.is_among.ensures, c.if-is_among.false, ← c.is_among-else-is_among.ensures, c.if-is_among-2.true)

pub returns-else-is_among-2 : goal.returns-else-is_among-2
unfolding vc vowels consonants
returns-else-is_among-2 c =
    rw (← c.is_among.ensures, c.if-is_among.false, ← c.is_among-else-is_among.ensures, c.if-is_among-2.false)
