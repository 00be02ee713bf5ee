-- The decoder of ITU-T G.726 at 32 kbit/s (G.721): the blocks joined as in the Recommendation's figures, and the delays.
-- The departures are two, both after SR, at `sample_in`. The reset for each period is a use of the Recommendation's reset.
use Rattle.std.specs.Prelude.{List, [], ◌∷◌, ℕ, zero, suc, ◌*◌, ◌/◌, ◌%◌, eqb, ℤ, get_or}
use Rattle.base.specs.Choice.{pick}
use Rattle.base.specs.Words.{signed16}
use Rattle.ulaw.specs.Ulaw.{ulaw_of}
use Rattle.adpcm_float.specs.Floating.{floata, floatb}
use Rattle.adpcm_scale.specs.Scale.{dq_of, functw, filtd, limb, filte, mix, functf, lima, speed_of}
use Rattle.adpcm_predict.specs.Predictor.{sezi, sei, addb, sigpk_of, zeros_of, trans, poles_of}
use Rattle.adpcm.specs.declared.AdpcmState.{AdpcmState}
use Rattle.adpcm.specs.declared.Signals.{Signals}

-- the delays at reset
unfoldable pub fresh : AdpcmState
fresh =
    record {
      yl = 34816;
      yu = 544;
      dms = 0;
      dml = 0;
      ap = 0;
      a1 = 0;
      a2 = 0;
      b = 0 ∷ 0 ∷ 0 ∷ 0 ∷ 0 ∷ 0 ∷ [];
      pk1 = 0;
      pk2 = 0;
      dq = 32 ∷ 32 ∷ 32 ∷ 32 ∷ 32 ∷ 32 ∷ [];
      sr1 = 32;
      sr2 = 32;
      td = 0;
    }

-- the signals of one code I: Y, DQ, SR, PK0, SIGPK, TR
unfoldable pub signals_of : AdpcmState → ℕ → Signals
signals_of s i =
    let zeros = sezi s.b s.dq in
    let all = sei zeros s.a1 s.sr1 s.a2 s.sr2 in
    let y = mix (lima s.ap) s.yu s.yl in
    let dq = dq_of i y in
    let dqsez = addb dq (zeros / 2) in
    record { y = y; dq = dq; sr = addb dq (all / 2); pk0 = dqsez / 32768; sigpk = sigpk_of dqsez; tr = trans s.td s.yl dq }

-- the differences' delays, newest first
unfoldable pub delayed : ℕ → List ℕ → List ℕ
delayed dq dqs = floata dq ∷ get_or dqs 0 0 ∷ get_or dqs 1 0 ∷ get_or dqs 2 0 ∷ get_or dqs 3 0 ∷ get_or dqs 4 0 ∷ []

-- TRIGB (4.2.6): 0 in place of a coefficient or of the tone detector on a transition
abbrev pub trigb : ℕ → ℕ → ℕ
trigb tr x = pick (eqb tr 0) x 0

abbrev pub trigbs : ℕ → List ℕ → List ℕ
trigbs tr xs = pick (eqb tr 0) xs (0 ∷ 0 ∷ 0 ∷ 0 ∷ 0 ∷ 0 ∷ [])

-- DELAY: the delays after the code
unfoldable pub next_of : AdpcmState → ℕ → Signals → AdpcmState
next_of s i g =
    let yup = limb (filtd (functw i) g.y) in
    let p = poles_of s.a1 s.a2 g.pk0 s.pk1 s.pk2 g.sigpk in
    let v = speed_of (functf i) s.dms s.dml s.ap p.td g.y g.tr in
    record {
      yl = filte yup s.yl;
      yu = yup;
      dms = v.dms;
      dml = v.dml;
      ap = v.ap;
      a1 = trigb g.tr p.a1;
      a2 = trigb g.tr p.a2;
      b = trigbs g.tr (zeros_of g.dq s.dq s.b);
      pk1 = g.pk0;
      pk2 = s.pk1;
      dq = delayed g.dq s.dq;
      sr1 = floatb g.sr;
      sr2 = s.sr1;
      td = trigb g.tr p.td;
    }

-- 'a sample is 4 times the Recommendation's, kept to 16 bits, then its mu-law byte'. Departures from 4.2.8: COMPRESS puts an SR outside
-- ±8159 into G.711's last interval, here 4 * SR wraps (bytes 77 77 77 77 77 76: SR 8844, sample -30160, byte 2); and the synchronous
-- coding adjustment SYNC is not made (code 0 after the reset: byte 255, with SYNC 254).
unfoldable pub sample_in : Signals → ℤ
sample_in g = signed16 (4 * g.sr % 65536)

-- the codes of packed bytes: 'high half first'
unfoldable pub codes_of : List ℕ → List ℕ
codes_of [] = []
codes_of (b ∷ bs) = b / 16 ∷ b % 16 ∷ codes_of bs

-- the mu-law bytes of codes, from a state on
unfoldable pub decoded_from : AdpcmState → List ℕ → List ℕ
decoded_from s [] = []
decoded_from s (i ∷ is) =
    let g = signals_of s i in
    ulaw_of (sample_in g) ∷ decoded_from (next_of s i g) is

-- 'G.721 starts fresh each period'
unfoldable pub decoded : List ℕ → List ℕ
decoded packed = decoded_from fresh (codes_of packed)

-- the delays before code k
unfoldable pub state_at : List ℕ → ℕ → AdpcmState
state_at codes zero = fresh
state_at codes (suc k) = next_of (state_at codes k) (get_or codes k 0) (signals_of (state_at codes k) (get_or codes k 0))
