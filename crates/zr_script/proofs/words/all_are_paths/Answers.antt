use Rattle.std.proofs.Common.{rules, ◌∙◌, sym}
use Rattle.std.proofs.lemmas.Iterator.{YieldsList-from_slice}
use Rattle.std.proofs.lemmas.Iterator.Search.{all_from_yields_List}
use Rattle.std.proofs.lemmas.List.Folds.{list_all-map}
use Rattle.zr_script.specs.Words.{is_path}
use Rattle.zr_script.proofs.words.all_are_paths.Goals as goal

pub returns : goal.returns
returns c =
    all_from_yields_List (λ w. is_path w.now) _ _ _ c.all.ensures.ran (YieldsList-from_slice c.args.words.now cc) (λ x b q k. search rules)
    ∙ sym (list_all-map is_path (λ w. w.now) c.args.words.now)
