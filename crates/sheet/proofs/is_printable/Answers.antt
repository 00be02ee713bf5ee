use Rattle.std.proofs.Common.{refl, ◌∙◌, ◌&&◌, rules, tests}
use Rattle.std.specs.List.{list_all}
use Rattle.std.proofs.lemmas.Iterator.{YieldsList-from_slice}
use Rattle.std.proofs.lemmas.Iterator.Search.{all_from_yields_List}
use Rattle.std.proofs.lemmas.List.Recursion.{same_from_clauses}
use Rattle.base.specs.Choice.{within}
use Rattle.sheet.specs.Sheet.{printable}
use Rattle.sheet.proofs.is_printable.Goals as goal

pub returns : goal.returns
unfolding printable
returns c =
    let bytes = c.args.bytes.now in
    all_from_yields_List (within 33 126) _ _ _ c.all.ensures.ran (YieldsList-from_slice bytes cc) (λ x b q k. search (rules, tests))
    ∙ same_from_clauses (list_all (within 33 126)) printable (λ b rest. within 33 126 b && rest) refl (λ _ _. refl) (λ _ _. refl) bytes
