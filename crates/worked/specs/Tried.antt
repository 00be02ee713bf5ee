-- Inner: A whole call and the pulls after it, as plain numbers: one equation by `refl` then compares all that the definitions say of a
-- call with another reading of document 01. The long list below opens every definition that a call computes with, so that a statement,
-- also one on a part of a call, says `unfolding tried` alone; a definition that comes to a call's is added there.
use Rattle.std.specs.Prelude.{List, [], ◌∷◌, map, ℕ, ℤ, Err, Ok, Result}
use Rattle.refusal.specs.declared.Refusal.{Refusal}
use Rattle.call.specs.declared.Summary.{Summary}
use Rattle.std.specs.Float.Ieee.{of_bits, add, sub, mul, div, lt, le, ne, of_int, to_unsigned, to_signed, round}
use Rattle.base.specs.Lists.{every, first_failing}
use Rattle.base.specs.Buffers.{over, flat, upto}
use Rattle.base.specs.Bytes.{little_endian, bytes_of}
use Rattle.base.specs.Words.{low, signed16}
use Rattle.float.specs.Casts.{narrow}
use Rattle.float.specs.Nearest.{to_nearest}
use Rattle.decimal.specs.Decimal.{begins, digits, after_sign, after_point, whole, part, number, numerator, denominator, negative, text_value}
use Rattle.ulaw.specs.Ulaw.{decision_value, quantised_value, last_interval, ulaw_of, sample_of}
use Rattle.adpcm_float.specs.Powers.{not_above, powers_not_above}
use Rattle.adpcm_float.specs.Floating.{mantissa, floata, sr_mag, floatb, an_mag, wan_mag, signed, fmult}
use Rattle.adpcm_scale.specs.Scale.{magnitude, reconst, adda, antilog, dq_of, functw, filtd, limb, filte, mix, functf}
use Rattle.adpcm_scale.specs.Scale.{filta, filtb, difm, subtc, filtc, triga, lima, speed_of}
use Rattle.adpcm_predict.specs.Predictor.{sezi, sei, dqi, addb, sigpk_of, ugb, upb, zeros_of}
use Rattle.adpcm_predict.specs.Predictor.{fa1, fa, uga2, upa2, limc, uga1, upa1, limd, tone, thr2, trans, poles_of}
use Rattle.adpcm.specs.Decoder.{fresh, signals_of, delayed, next_of, sample_in, codes_of, decoded_from, decoded}
use Rattle.text.specs.Names.{same, before, among}
use Rattle.text.specs.Utf8.{lead, step, waits, complete, utf8}
use Rattle.text.specs.Trim.{space_at, trim_start_by, trim_start, trim_end, trim}
use Rattle.container.specs.Sections.{magic, has_magic, is_whole, sections_from, sections, find, says_diphone, is_diphone}
use Rattle.voice.specs.Header.{header_of, in_scale, good_numbers, good_scales, good_header}
use Rattle.voice.specs.Voice.{entry_at, whole_entry, entries_from, voice_at, places_of, voice_of, lookup, insert, sort, sorted, sorted_index}
use Rattle.voice.specs.Periods.{offset, residual_of, samples_of, samples_from, row_of, longest, decode_room}
use Rattle.voice.specs.Opening.{has_needed, rising_in, good_tables, within_frames, distinct, good_index, opening_refusal, index_fits}
use Rattle.phoneset.specs.Phones.{vowels, consonants, vc, is_vowel}
use Rattle.sheet.specs.Sheet.{◌and_then◌, groups, count, printable, name, is_finite, finite, text, value_of, value, as_f32}
use Rattle.sheet.specs.Sheet.{segment, target, repeated, sheet_from, sheet_refusal, sheet_of}
use Rattle.sheet.specs.Followers.{name_of}
use Rattle.units.specs.Selecting.{fold_name, folded, in_cluster, first_tried, entry_of, found_from, found_all}
use Rattle.units.specs.Units.{samples_at, midway, units_of_pair, units_from, units_all, end_refusal}
use Rattle.pairs.specs.Pairs.{tried_found}
use Rattle.marks.specs.PitchMarks.{f0_at, goes_on, next_time, mark_at, climb, slope_of, climb_to, f0_counted, marks_from, pitch_marks}
use Rattle.marks.specs.NaturalMarks.{marks_of_periods, natural_marks, natural_units, mark_refusal}
use Rattle.marks.specs.Checking.{last_of, up_to}
use Rattle.excitation.specs.Source.{decoded_by, source_by, source_of, centred}
use Rattle.excitation.specs.Nearest.{nearest_from, nearest_period, pace_of, place_after_size}
use Rattle.excitation.specs.Shares.{up_to_end, own_periods, share_count, shares_from, shares}
use Rattle.excitation.specs.Taken.{period_of, periods_of_marks, periods_of_share, taken, sizes_of, rows_of, excitation_of, decoded_over}
use Rattle.lpc.specs.Filter.{cut, outputs, samples, periods_from}
use Rattle.lpc.specs.Fixed.{scaled_by, row_value, fixed_sum, divided, fixed_next, fixed_filter}
use Rattle.lpc.specs.Floating.{float_value, float_sum, float_next, float_filter}
use Rattle.lpc.specs.Ring.{tap, ring_after, ring_samples}
use Rattle.lpc.specs.State.{fresh_state, advanced, spoken, periods_by}
use Rattle.call.specs.declared.Settings.{Settings}
use Rattle.call.specs.Call.{simple_plan, modified_plan, plan_by, plan_of, missing_refusal, read_refusal, periods_taken, periods_of}
use Rattle.call.specs.Buffers.{Buffers, filled, need_of, holds, fits, check_refusal, call_refusal, summary_of}
use Rattle.call.specs.Buffers.{fresh_of, zero_state, planned_of, buffers_after, called_number}
use Rattle.call.specs.Pull.{Lent, possible, next_part, pull_of, pull_number}
use Rattle.call.specs.Machine.{Shown, pulls}

pub record CallResult : Type 0 where
  -- the refusal's number, 0 where the call is spoken
  pub answer : ℕ
  -- rate, periods, samples, marks, order, entries; nothing where the call is refused, as in the last two fields
  pub summary : List ℕ
  -- every byte of the six buffers afterwards
  pub buffers : Buffers
  -- the samples of each period
  pub periods : List (List ℤ)
  -- each pull's number, and every byte of its slice afterwards
  pub pulled : List (ℤ × List ℕ)

abbrev pub summary_in : Result Summary Refusal → List ℕ
summary_in (Ok x) = x.rate ∷ x.periods ∷ x.samples ∷ x.marks ∷ x.order ∷ x.entries ∷ []
summary_in (Err r) = []

abbrev pub if_spoken : {A : Type 0} → Result Summary Refusal → List A → List A
if_spoken (Ok x) l = l
if_spoken (Err r) l = []

-- a voice file, a sheet, settings, the buffers as they are lent, and a sample slice for each pull
unfoldable pub tried : List ℕ → List ℕ → Settings → Buffers → List (List ℕ) → CallResult
unfolding of_bits add sub mul div lt le ne of_int to_unsigned to_signed round every first_failing over flat upto little_endian bytes_of low
    narrow decision_value quantised_value last_interval ulaw_of sample_of not_above powers_not_above mantissa floata sr_mag floatb an_mag wan_mag
    signed fmult
    magnitude reconst adda antilog dq_of functw filtd limb filte mix functf filta filtb difm subtc filtc triga lima speed_of sezi sei
    dqi addb sigpk_of ugb upb zeros_of fa1 fa uga2 upa2 limc uga1 upa1 limd tone thr2 trans poles_of fresh signals_of delayed next_of
    sample_in codes_of decoded_from decoded same before among lead step waits complete utf8 space_at trim_start_by trim_start trim_end trim
    magic has_magic is_whole sections_from sections find says_diphone is_diphone header_of in_scale good_numbers good_scales good_header
    entry_at whole_entry entries_from voice_at places_of voice_of lookup insert sort sorted sorted_index offset residual_of samples_of
    samples_from row_of longest has_needed rising_in good_tables within_frames distinct good_index opening_refusal index_fits vowels
    consonants vc is_vowel ◌and_then◌ groups count printable name begins digits after_sign after_point whole part number numerator
    denominator negative text_value is_finite finite text value_of value as_f32 segment target repeated
    sheet_from sheet_refusal sheet_of fold_name folded name_of in_cluster first_tried entry_of found_from found_all tried_found to_nearest samples_at
    midway units_of_pair units_from units_all end_refusal f0_at goes_on next_time mark_at climb slope_of climb_to f0_counted marks_from pitch_marks
    marks_of_periods natural_marks
    natural_units mark_refusal decoded_by source_by source_of centred nearest_from nearest_period pace_of place_after_size period_of last_of
    up_to up_to_end own_periods share_count shares_from shares periods_of_marks periods_of_share
    taken cut outputs samples periods_from scaled_by row_value fixed_sum divided fixed_next fixed_filter float_value float_sum
    float_next float_filter tap ring_after ring_samples fresh_state advanced spoken periods_by simple_plan modified_plan plan_by plan_of
    missing_refusal read_refusal periods_taken sizes_of rows_of excitation_of periods_of decoded_over filled decode_room need_of holds fits
    check_refusal call_refusal summary_of fresh_of zero_state planned_of buffers_after possible next_part pull_of pulls
tried file sheet o b ds =
    let v = voice_of file in
    let s = sheet_of sheet in
    let ps = periods_taken v s o in
    let call = planned_of file sheet o b in
    let lent : Lent = record { sizes = sizes_of ps; rows = rows_of ps; excitation = excitation_of ps } in
    record {
      answer = called_number call.answer;
      summary = summary_in call.answer;
      buffers = buffers_after file sheet o b;
      periods = if_spoken call.answer (map (map signed16) (periods_of v s o));
      pulled = if_spoken call.answer (map (λ (x : Shown). (pull_number x.answer, x.slice)) (pulls call.state lent ds));
    }
