-- Document 01, 'Selecting and marking': the source of a period, and the window it is put into.
use Rattle.std.specs.Prelude.{◌≡◌, List, [], ◌++◌, ℕ, ◌-◌, ◌/◌, ltb, length, take, drop, replicate}
use Rattle.base.specs.Choice.{pick}
use Rattle.base.specs.Lists.{part}
use Rattle.adpcm.specs.Decoder.{decoded}
use Rattle.voice.specs.declared.Codec.{Codec}
use Rattle.voice.specs.declared.Codec.TheVariants.{Ulaw, G721}
use Rattle.voice.specs.Header.{codec_of}
use Rattle.voice.specs.Voice.{Voice}
use Rattle.voice.specs.Periods.{samples_of, residual_of}

-- what a period's bytes leave at the front of the decode buffer: nothing for mu-law
unfoldable pub decoded_by : Codec → List ℕ → List ℕ
decoded_by Ulaw bs = []
decoded_by G721 bs = decoded bs

-- the front of a decode buffer holds a period's bytes decoded, if its codec decodes any
abbrev pub Holds : Codec → List ℕ → List ℕ → Type 0
Holds codec buffer bs = take (length (decoded_by codec bs)) buffer ≡ decoded_by codec bs

-- 'The source is a part of either the decoded buffer or the voice's residual, after eight lead-in samples (all, if fewer) for G.721'
unfoldable pub source_by : Codec → List ℕ → List ℕ
source_by Ulaw bs = bs
source_by G721 bs = drop 8 (decoded bs)

-- 'of it at most the period's samples count, from the front'
unfoldable pub source_of : Voice → ℕ → List ℕ
source_of v p = take (samples_of v p) (source_by (codec_of v.header) (residual_of v p))

-- 'The shorter is centred, half the difference truncated, 255 elsewhere': a source in a window of n samples
unfoldable pub centred : ℕ → List ℕ → List ℕ
centred n source =
    let before = (n - length source) / 2 in
    pick (ltb (length source) n)
    (replicate before 255 ++ (source ++ replicate (n - length source - before) 255))
    (part source ((length source - n) / 2) n)
