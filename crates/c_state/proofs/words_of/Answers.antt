use mathlib.Core.Path.{◌≡◌, refl, sym, ap, ◌∙◌}
use lib.ListN.{length}
use Rattle.std.proofs.Common.{rules}
use Rattle.base.specs.Buffers.{upto}
use Rattle.base.proofs.BufferLaws.{upto_is}
use Rattle.lpc.specs.declared.ResynthType.{ResynthType}
use Rattle.lpc.specs.declared.ResynthType.TheVariants.{Fixed}
use Rattle.c_state.specs.State.{word_by}
use Rattle.c_state.proofs.words_of.Goals as goal

-- that the history has 33 places is the rule of its field, the eighth of the state's
pub returns-in-Fixed : goal.returns-in-Fixed
returns-in-Fixed c =
    let n : length c.args.state.fixed ≡ 33 = search rules in
    let k = c.in-Fixed.is in
    sym (upto_is (word_by Fixed c.args.state) c.args.state.fixed 0 (λ i h. refl))
    ∙ ap (upto (word_by Fixed c.args.state)) n
    ∙ ap (λ (t : ResynthType). upto (word_by t c.args.state) 33) (sym k)

pub returns-in-Float : goal.returns-in-Float
returns-in-Float c =
    let s = c.args.state in
    c.float_words.ensures ∙ ap (λ (t : ResynthType). upto (word_by t s) 33) (sym c.in-Float.is)
