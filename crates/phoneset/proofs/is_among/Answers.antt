use Rattle.std.proofs.Common.{◌∙◌, ℕ, List, take, min, rules, tests}
use Rattle.std.specs.Str.{bytes_eq}
use Rattle.std.proofs.lemmas.Iterator.{YieldsList-from_slice}
use Rattle.std.proofs.lemmas.Iterator.Search.{any_from_yields_List}
use Rattle.phoneset.proofs.NameLaws.{any_among}
use Rattle.phoneset.proofs.is_among.Goals as goal

name_of : ℕ × List ℕ → List ℕ
name_of row = take (min row.0 4) row.1

pub returns : goal.returns
unfolding name_of
returns c =
    let name = c.args.name.now in
    let names = c.args.names.now in
    any_from_yields_List (λ r. bytes_eq (name_of r) name) _ _ _ c.any.ensures.ran (YieldsList-from_slice names cc) (λ x b q k. search (rules, tests))
    ∙ any_among name_of name names
