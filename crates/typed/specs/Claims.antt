-- Document 02, A4: times typed as text.
use Rattle.std.specs.Prelude.{◌≡◌, Bool, true, List, [], ◌∷◌, ◌++◌, ℕ, ◌≤◌, ◌<◌, length}
use Rattle.std.specs.Float.{binary32}
use Rattle.std.specs.Float.Ieee.{to_bits}
use Rattle.base.specs.Bytes.{bytes_of}
use Rattle.decimal.specs.Decimal.{text_value}
use Rattle.refusal.specs.declared.Refusal.TheVariants.{BadSheet, LongText}
use Rattle.sheet.specs.declared.Value.TheVariants.{Float as FloatValue}
use Rattle.sheet.specs.Sheet.{fails, gets, value, is_finite, sheet_refusal, sheet_of}
use Rattle.call.specs.declared.Settings.{Settings}
use Rattle.unnamed.specs.Claims.{asked, CallsAlike}
use Rattle.typed.specs.Floats.{Writer, valued, in_floats}

-- 'read alike': the same refusal, the same segments and targets
pub record ReadAlike (a b : List ℕ) : Type 0 where
  pub refusal : sheet_refusal a ≡ sheet_refusal b
  pub sheet : sheet_of a ≡ sheet_of b

pub record Typed : Type 0 where
  -- a value of kind 3: up to 12 bytes are the float that they stand for, whatever they are, and what follows is left;
  pub text : (t rest : List ℕ) → length t ≤ 12 → value (3 ∷ length t ∷ (t ++ rest)) ≡ gets (FloatValue (text_value t)) rest
  -- 9 does not come from them;
  pub finite : (t : List ℕ) → length t ≤ 12 → is_finite (text_value t) ≡ true
  -- 17 'a length byte above 12, whatever follows it'; 8 where the length or some of the bytes are missing
  pub long : (n : ℕ) (rest : List ℕ) → 12 < n → value (3 ∷ n ∷ rest) ≡ fails LongText
  pub no_length : value (3 ∷ []) ≡ fails BadSheet
  pub cut : (n : ℕ) (rest : List ℕ) → n ≤ 12 → length rest < n → value (3 ∷ n ∷ rest) ≡ fails BadSheet
  -- 'of the kinds, only those above 3 are 8 from now on'
  pub unknown : (kind : ℕ) (rest : List ℕ) → 3 < kind → value (kind ∷ rest) ≡ fails BadSheet
  -- a text that is chosen gives way to its float, kind 1 and its bits
  pub chosen : (after : Writer) (which : List Bool) (t rest : List ℕ) → length t ≤ 12
      → valued after (true ∷ which) (3 ∷ length t ∷ (t ++ rest)) ≡ 1 ∷ (bytes_of 4 (to_bits binary32 (text_value t)) ++ after which rest)
  -- 'A sheet written with text and one with the float it stands for are read alike', whichever of its texts are chosen, refused or not,
  pub read : (which : List Bool) (sheet : List ℕ) → ReadAlike (in_floats which sheet) sheet
  -- 'and spoken alike': answers, states and every lent byte of the calls, and all that their pulls keep
  pub spoken : (which : List Bool) (file sheet : List ℕ) (o : Settings) → CallsAlike (asked file (in_floats which sheet) o) (asked file sheet o)
