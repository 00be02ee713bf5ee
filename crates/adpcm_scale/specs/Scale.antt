-- ITU-T G.726 at 32 kbit/s, 4.2.3 to 4.2.5: inverse adaptive quantizer, quantizer scale factor adaptation, adaptation speed control.
-- The words are read as in adpcm_float's Floating.
use Rattle.std.specs.Prelude.{[], ◌∷◌, ℕ, ◌+◌, ◌-◌, ◌*◌, ◌/◌, ◌%◌, ◌^◌, leb, ltb, eqb, get_or}
use Rattle.base.specs.Choice.{pick}
use Rattle.adpcm_scale.specs.declared.Speed.{Speed}

-- IM, the magnitude of a code I of four bits: I is in one's complement, so from 8 on it is 15 - I
unfoldable pub magnitude : ℕ → ℕ
magnitude i = pick (ltb i 8) i (15 - i)

-- ---- 4.2.3: inverse adaptive quantizer

-- RECONST: DQLN, 12 bits, by the code's magnitude (2048 is -2048). Its table has a row for the code 0, which an encoder never sends.
unfoldable pub reconst : ℕ → ℕ
reconst i = get_or (2048 ∷ 4 ∷ 135 ∷ 213 ∷ 273 ∷ 323 ∷ 373 ∷ 425 ∷ []) (magnitude i) 0

-- ADDA: DQL = DQLN + (Y >> 2)
unfoldable pub adda : ℕ → ℕ → ℕ
adda dqln y = (dqln + y / 4) % 4096

-- ANTILOG: DQMAG, 0 where DQL is negative. Y is at most 5120, so DEX = DQL >> 7 is at most 13 where DQL is not negative.
unfoldable pub antilog : ℕ → ℕ
antilog dql = pick (ltb dql 2048) ((128 + dql % 128) * 128 / 2 ^ (14 - dql / 128 % 16)) 0

-- DQ of a code at the scale Y: RECONST's sign DQS, and DQMAG
unfoldable pub dq_of : ℕ → ℕ → ℕ
dq_of i y = i / 8 * 32768 + antilog (adda (reconst i) y)

-- ---- 4.2.4: quantizer scale factor adaptation

-- FUNCTW: W(I), 12 bits (4084 is -12)
unfoldable pub functw : ℕ → ℕ
functw i = get_or (4084 ∷ 18 ∷ 41 ∷ 64 ∷ 112 ∷ 198 ∷ 355 ∷ 1122 ∷ []) (magnitude i) 0

-- FILTD: the fast scale factor before its limits, YUT
unfoldable pub filtd : ℕ → ℕ → ℕ
filtd wi y =
    let dif = (wi * 32 + 131072 - y) % 131072 in
    (y + dif / 32 + 4096 * (dif / 65536)) % 8192

-- LIMB: YUP, from 544 to 5120
unfoldable pub limb : ℕ → ℕ
limb yut = pick (ltb yut 544) 544 (pick (ltb 5120 yut) 5120 yut)

-- FILTE: the slow scale factor YLP
unfoldable pub filte : ℕ → ℕ → ℕ
filte yup yl =
    let dif = (yup + (1048576 - yl) / 64) % 16384 in
    (yl + dif + 507904 * (dif / 8192)) % 524288

-- MIX: Y, from both scale factors and the limited speed control AL: (YL >> 6) plus PROD, which is DIFM * AL >> 6 with the sign of DIF
unfoldable pub mix : ℕ → ℕ → ℕ → ℕ
mix al yu yl =
    let dif = (yu + 16384 - yl / 64) % 16384 in
    pick (ltb dif 8192)
    ((yl / 64 + dif * al / 64) % 8192)
    ((yl / 64 + (16384 - (16384 - dif) % 8192 * al / 64) % 16384) % 8192)

-- ---- 4.2.5: adaptation speed control

-- FUNCTF: F(I)
unfoldable pub functf : ℕ → ℕ
functf i = get_or (0 ∷ 0 ∷ 0 ∷ 1 ∷ 1 ∷ 1 ∷ 3 ∷ 7 ∷ []) (magnitude i) 0

-- FILTA: the short term average DMSP
unfoldable pub filta : ℕ → ℕ → ℕ
filta fi dms =
    let dif = (fi * 512 + 8192 - dms) % 8192 in
    (dif / 32 + 3840 * (dif / 4096) + dms) % 4096

-- FILTB: the long term average DMLP
unfoldable pub filtb : ℕ → ℕ → ℕ
filtb fi dml =
    let dif = (fi * 2048 + 32768 - dml) % 32768 in
    (dif / 128 + 16128 * (dif / 16384) + dml) % 16384

-- SUBTC: AX, 0 where the scale is large, the averages agree (DIFM below DTHR) and no tone is detected
unfoldable pub difm : ℕ → ℕ → ℕ
difm dmsp dmlp =
    let dif = (dmsp * 4 + 32768 - dmlp) % 32768 in
    pick (ltb dif 16384) dif ((32768 - dif) % 16384)

unfoldable pub subtc : ℕ → ℕ → ℕ → ℕ → ℕ
subtc dmsp dmlp tdp y = pick (leb 1536 y) (pick (ltb (difm dmsp dmlp) (dmlp / 8)) (pick (eqb tdp 0) 0 1) 1) 1

-- FILTC: the speed control APP
unfoldable pub filtc : ℕ → ℕ → ℕ
filtc ax ap =
    let dif = (ax * 512 + 2048 - ap) % 2048 in
    (dif / 16 + 896 * (dif / 1024) + ap) % 1024

-- TRIGA: 256 on a transition
unfoldable pub triga : ℕ → ℕ → ℕ
triga tr app = pick (eqb tr 0) app 256

-- LIMA: AL, at most 64
unfoldable pub lima : ℕ → ℕ
lima ap = pick (ltb ap 256) (ap / 4) 64

-- the speed control's delays after a code: DMSP, DMLP and APR, under the names of the signals that they are the next time
unfoldable pub speed_of : ℕ → ℕ → ℕ → ℕ → ℕ → ℕ → ℕ → Speed
speed_of fi dms dml ap tdp y tr =
    let dmsp = filta fi dms in
    let dmlp = filtb fi dml in
    record { dms = dmsp; dml = dmlp; ap = triga tr (filtc (subtc dmsp dmlp tdp y) ap) }
