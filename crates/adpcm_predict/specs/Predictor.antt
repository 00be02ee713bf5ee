-- ITU-T G.726 at 32 kbit/s, 4.2.6 and 4.2.7: adaptive predictor and reconstructed signal calculator, tone and transition detector.
-- The words are read as in adpcm_float's Floating.
use Rattle.std.specs.Prelude.{List, [], ◌∷◌, ℕ, ◌+◌, ◌-◌, ◌*◌, ◌/◌, ◌%◌, ◌^◌, leb, ltb, eqb, get_or}
use Rattle.base.specs.Choice.{pick}
use Rattle.adpcm_float.specs.Floating.{fmult}
use Rattle.adpcm_predict.specs.declared.Poles.{Poles}

-- ---- the estimate

-- ACCUM: SEZI, the zeros' part, and SEI with the poles' part, each sum modulo 65,536
unfoldable pub sezi : List ℕ → List ℕ → ℕ
sezi b dq =
    (fmult (get_or b 0 0) (get_or dq 0 0) + fmult (get_or b 1 0) (get_or dq 1 0) + fmult (get_or b 2 0) (get_or dq 2 0)
    + fmult (get_or b 3 0) (get_or dq 3 0) + fmult (get_or b 4 0) (get_or dq 4 0) + fmult (get_or b 5 0) (get_or dq 5 0)) % 65536

unfoldable pub sei : ℕ → ℕ → ℕ → ℕ → ℕ → ℕ
sei zeros a1 sr1 a2 sr2 = (zeros + fmult a2 sr2 + fmult a1 sr1) % 65536

-- ADDB and ADDC: a difference DQ, in signed magnitude, plus an estimate of 15 bits (SE or SEZ), as 16 bits (SR or DQSEZ)
unfoldable pub dqi : ℕ → ℕ
dqi dq = pick (ltb dq 32768) dq ((65536 - dq % 32768) % 65536)

unfoldable pub addb : ℕ → ℕ → ℕ
addb dq se = (dqi dq + (se + 32768 * (se / 16384))) % 65536

-- ADDC: SIGPK, 1 where DQSEZ is 0 (PK0 is the sign of DQSEZ)
unfoldable pub sigpk_of : ℕ → ℕ
sigpk_of dqsez = pick (eqb dqsez 0) 1 0

-- ---- the zeros' coefficients

-- XOR and UPB: BnP from Bn, DQ and DQn. Every step is modulo 65,536: the blocks decide, where the prose calls the coefficients limited to
-- ±2.
unfoldable pub ugb : ℕ → ℕ → ℕ
ugb dq dqn = pick (eqb (dq % 32768) 0) 0 (pick (eqb ((dq / 32768 + dqn / 1024) % 2) 0) 128 65408)

unfoldable pub upb : ℕ → ℕ → ℕ → ℕ
upb dq dqn bn =
    let ulb = (65536 - (bn / 256 + 65280 * (bn / 32768))) % 65536 in
    (bn + (ugb dq dqn + ulb) % 65536) % 65536

-- the six of them
unfoldable pub zeros_of : ℕ → List ℕ → List ℕ → List ℕ
zeros_of dq dqs b =
    upb dq (get_or dqs 0 0) (get_or b 0 0)
    ∷ upb dq (get_or dqs 1 0) (get_or b 1 0)
    ∷ upb dq (get_or dqs 2 0) (get_or b 2 0)
    ∷ upb dq (get_or dqs 3 0) (get_or b 3 0)
    ∷ upb dq (get_or dqs 4 0) (get_or b 4 0)
    ∷ upb dq (get_or dqs 5 0) (get_or b 5 0)
    ∷ []

-- ---- the poles' coefficients

-- UPA2: FA1, 17 bits, is 4 times A1 limited to ±8191; FA is FA1 where PKS1 is 1, else -FA1; UGA2A is 16384 where PKS2 is 0, else 114688
-- (-16384); UGA2B is their sum
unfoldable pub fa1 : ℕ → ℕ
fa1 a1 = pick (ltb a1 32768) (pick (leb a1 8191) (a1 * 4) 32764) (pick (leb 57345 a1) (a1 * 4 % 131072) 98308)

unfoldable pub fa : ℕ → ℕ → ℕ
fa pks1 a1 = pick (eqb pks1 1) (fa1 a1) ((131072 - fa1 a1) % 131072)

unfoldable pub uga2 : ℕ → ℕ → ℕ → ℕ → ℕ
uga2 pks1 pks2 sigpk a1 =
    let uga2b = (16384 + 98304 * pks2 + fa pks1 a1) % 131072 in
    pick (eqb sigpk 1) 0 (uga2b / 128 + 64512 * (uga2b / 65536))

unfoldable pub upa2 : ℕ → ℕ → ℕ → ℕ → ℕ → ℕ
upa2 pks1 pks2 sigpk a1 a2 =
    let ula2 = (65536 - (a2 / 128 + 65024 * (a2 / 32768))) % 65536 in
    (a2 + (uga2 pks1 pks2 sigpk a1 + ula2) % 65536) % 65536

-- LIMC: A2P, from -12288 to 12288
unfoldable pub limc : ℕ → ℕ
limc a2t = pick (ltb a2t 32768) (pick (leb 12288 a2t) 12288 a2t) (pick (leb a2t 53248) 53248 a2t)

-- UPA1 (its PKS is PKS1)
unfoldable pub uga1 : ℕ → ℕ → ℕ
uga1 pks1 sigpk = pick (eqb sigpk 1) 0 (pick (eqb pks1 0) 192 65344)

unfoldable pub upa1 : ℕ → ℕ → ℕ → ℕ
upa1 pks1 sigpk a1 =
    let ula1 = (65536 - (a1 / 256 + 65280 * (a1 / 32768))) % 65536 in
    (a1 + (uga1 pks1 sigpk + ula1) % 65536) % 65536

-- LIMD: A1P, within 15360 - A2P of 0
unfoldable pub limd : ℕ → ℕ → ℕ
limd a1t a2p =
    let a1ul = (15360 + 65536 - a2p) % 65536 in
    let a1ll = (a2p + 65536 - 15360) % 65536 in
    pick (ltb a1t 32768) (pick (leb a1ul a1t) a1ul a1t) (pick (leb a1t a1ll) a1ll a1t)

-- ---- tone and transition

-- TONE: TDP, 1 where A2P is below -11776
unfoldable pub tone : ℕ → ℕ
tone a2p = pick (ltb a2p 32768) 0 (pick (ltb a2p 53760) 1 0)

-- TRANS: TR, 1 where a tone was detected and the difference is above DQTHR
unfoldable pub thr2 : ℕ → ℕ
thr2 yl = pick (ltb 9 (yl / 32768)) 31744 ((32 + yl / 1024 % 32) * 2 ^ (yl / 32768))

unfoldable pub trans : ℕ → ℕ → ℕ → ℕ
trans td yl dq = pick (eqb td 1) (pick (ltb ((thr2 yl + thr2 yl / 2) / 2) (dq % 32768)) 1 0) 0

-- the poles after a code: A1P, A2P and TDP, under the names of the signals that they are the next time
unfoldable pub poles_of : ℕ → ℕ → ℕ → ℕ → ℕ → ℕ → Poles
poles_of a1 a2 pk0 pk1 pk2 sigpk =
    let pks1 = (pk0 + pk1) % 2 in
    let pks2 = (pk0 + pk2) % 2 in
    let a2p = limc (upa2 pks1 pks2 sigpk a1 a2) in
    record { a1 = limd (upa1 pks1 sigpk a1) a2p; a2 = a2p; td = tone a2p }
