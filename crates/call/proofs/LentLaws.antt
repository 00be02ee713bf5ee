-- What the pulls of a spoken call are lent: the numbers of the periods taken, read from the bytes that the call left.
use mathlib.Core.Path.{◌≡◌}
use Rattle.voice.proofs.LowLaws.{lpc-bytes}
use Rattle.excitation.specs.Taken.{sizes_of, rows_of, excitation_of}
use Rattle.call.specs.Call.{periods_taken}
use Rattle.call.specs.Buffers.{buffers_after}
use Rattle.call.specs.Pull.{Lent, lent_of}
use Rattle.call.proofs.FilledLaws.{call-planned, sizes-front, rows-front, excitation-front}
use Rattle.call.specs.SpokenCall.{SpokenCall, voice_in, sheet_in, bytes_after, lent_after}

-- the sizes, rows and excitation of the periods taken
abbrev pub lent_taken : SpokenCall → Lent
lent_taken c =
    let ps = periods_taken (voice_in c) (sheet_in c) c.settings in
    record { sizes = sizes_of ps; rows = rows_of ps; excitation = excitation_of ps }

pub lent-filled : (c : SpokenCall) → lent_after c ≡ lent_taken c
unfolding bytes_after lent_of buffers_after
lent-filled c =
    let v = voice_in c in
    let s = sheet_in c in
    let o = c.settings in
    let b = c.lent in
    let n = c.not_refused in
    let sizes = sizes-front v s o (call-planned c.voice_file c.sheet_file o b n) b.sizes in
    let rows = rows-front v s o (lpc-bytes c.voice_file c.bytes) b.rows in
    let excitation = excitation-front v s o b.excitation in
    rw (n, sizes, rows, excitation)
