use Rattle.sheet.proofs.+read_groups.Given as goal

-- a call of itself has a group fewer left
abbrev pub decreases-read_groups : goal.decreases-read_groups
decreases-read_groups l = l.left
