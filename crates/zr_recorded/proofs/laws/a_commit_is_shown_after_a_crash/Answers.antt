use Rattle.zr_recorded.proofs.Behind.{commit_shows}
use Rattle.zr_sync.specs.Trees.{head_tree}
use Rattle.zr_recorded.proofs.laws.a_commit_is_shown_after_a_crash.Goals as goal

pub returns : goal.returns
returns c = λ paths sizes reset last old new objects before after now ready from sized newest shown stood ends whole unsaved wrote.
    let h = ends.trees stood in
    commit_shows paths sizes reset last old new objects (head_tree new.head h.0) (Unit {0}) before after now ready from sized newest shown stood ends whole unsaved h.1 wrote
