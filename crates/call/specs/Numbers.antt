-- Settings as one word, the flags of the interface for C. 'Any other setting cannot be expressed': every number is a setting.
use Rattle.std.specs.Prelude.{Bool, ℕ, ◌/◌, ◌%◌, eqb, None, Option, Some}
use Rattle.lpc.specs.declared.ResynthType.{ResynthType}
use Rattle.base.specs.Choice.{pick}
use Rattle.lpc.specs.declared.ResynthType.TheVariants.{Fixed, Float}
use Rattle.call.specs.declared.JoinType.{JoinType}
use Rattle.call.specs.declared.JoinType.TheVariants.{None, Simple, ModifiedLpc}
use Rattle.call.specs.declared.Settings.{Settings}

-- bits 0 and 1: join 0 none, 1 simple, 2 and 3 modified
unfoldable pub join_of : ℕ → JoinType
join_of n = pick (eqb n 0) None (pick (eqb n 1) Simple ModifiedLpc)

-- bits 2 and 3: filter 0 not named, 1 fixed, 2 and 3 float
unfoldable pub filter_of : ℕ → Option ResynthType
filter_of n = pick (eqb n 0) None (Some (pick (eqb n 1) Fixed Float))

-- bit 4: fold; bit 5: strict; the bits above these mean nothing
abbrev pub is_set : ℕ → Bool
is_set bit = eqb bit 1

unfoldable pub settings_of : ℕ → Settings
settings_of word =
    record {
      join = join_of (word % 4);
      filter = filter_of (word / 4 % 4);
      fold = is_set (word / 16 % 2);
      strict = is_set (word / 32 % 2);
    }
