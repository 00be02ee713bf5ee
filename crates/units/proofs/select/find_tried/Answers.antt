use Rattle.std.proofs.Common.{rules}
use Rattle.sheet.specs.Sheet.{sheet_of}
use Rattle.sheet.specs.Answers.{segment_read}
use Rattle.units.proofs.SelectLaws.{name-short, tried-plain, tried-or}
use Rattle.units.proofs.select.find_tried.Goals as goal

pub find_pair-requires : goal.find_pair-requires
find_pair-requires c =
    let l = c.requires.1.1.1 in
    (c.requires.0, (name-short l.0 c.bytes_at-left_name.ensures, name-short l.1.0 c.bytes_at-right_name.ensures))

pub returns-then-not-in_cluster : goal.returns-then-not-in_cluster
returns-then-not-in_cluster c =
    let s = c.args.sheet.now in
    tried-plain c.args.file.now c.args.by.fold (sheet_of s).segments (segment_read s c.args.left) (segment_read s c.args.right) _ _ c.bytes_at-left_name.ensures
    c.bytes_at-right_name.ensures _ c.in_cluster.ensures c.if-not-in_cluster.true c.find_pair.ensures

pub find_pair-tried-requires : goal.find_pair-tried-requires
find_pair-tried-requires c =
    let l = c.requires.1.1.1 in
    (c.requires.0, (name-short l.0 c.bytes_at-left_name.ensures, name-short l.1.0 c.bytes_at-right_name.ensures))

pub returns : goal.returns
returns c =
    let s = c.args.sheet.now in
    tried-or c.args.file.now c.args.by.fold (sheet_of s).segments (segment_read s c.args.left) (segment_read s c.args.right) _ _ c.bytes_at-left_name.ensures
    c.bytes_at-right_name.ensures _ c.in_cluster.ensures c.if-not-in_cluster.false c.find_pair-tried.ensures c.or_else.ensures (λ p. search rules)
