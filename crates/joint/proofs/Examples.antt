-- A8's examples: computed.
use mathlib.Core.Path.{refl}
use Rattle.worked.specs.Tried.{tried}
use Rattle.worked.specs.Files.{voice_file}
use Rattle.reporting.specs.Report.{lines_of_marks, lines_of_share, lines_of, report_of}
use Rattle.joint.specs.OldRule.{old_periods, old_samples, old_report}
use Rattle.joint.specs.EmptyHeads.{empty_head, later_heads, empty_heads, changed}
use Rattle.joint.specs.Examples.{voice_with, Shortest, Joint, Alone}

pub shortest : Shortest
unfolding tried voice_file lines_of_marks lines_of_share lines_of report_of old_periods old_report empty_head later_heads empty_heads changed voice_with
shortest = record { spoken = refl; listed = refl; lines_before = refl; lines_now = refl; rows_before = refl; rows_now = refl }

pub joint : Joint
unfolding tried voice_file lines_of_marks lines_of_share lines_of report_of old_periods old_samples old_report empty_head later_heads empty_heads changed voice_with
joint = record { spoken = refl; listed = refl; lines_before = refl; lines_now = refl; rows_before = refl; rows_now = refl; samples = refl }

pub alone : Alone
unfolding tried voice_file empty_head later_heads empty_heads changed voice_with
alone = record { spoken = refl; listed = refl }
