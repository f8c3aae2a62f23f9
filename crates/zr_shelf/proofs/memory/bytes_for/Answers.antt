use Rattle.std.proofs.Common.{inl, inr, List, [], ℕ, ◌∙◌, sym}
use Rattle.std.proofs.lemmas.List.{get_or-map}
use Rattle.std.proofs.lemmas.Result.{IfOk-weaker}
use Rattle.zr_shelf.specs.declared.memory.DiskFile.{DiskFile}
use Rattle.zr_shelf.proofs.memory.bytes_for.Goals as goal

pub returns-in-Some : goal.returns-in-Some
returns-in-Some c =
    let folder = c.args.folder.now in
    let f : DiskFile → List ℕ = λ file. file.bytes.items in
    IfOk-weaker c.to_vec.result _ _
    (λ v h. inl (
      c.in-Some.i,
      c.in-Some.ensures.0,
      c.in-Some.ensures.1,
      get_or-map f folder c.in-Some.i c.index-folder-i.result [] c.in-Some.ensures.0 ∙ sym (h (λ x y e. e) ∙ c.deref.ensures.value),
    ))
    c.to_vec.ensures.items_if_clones_equal

pub returns-in-None : goal.returns-in-None
returns-in-None c = IfOk-weaker c.vec.result _ _ (λ v h. inr (c.in-None.ensures, h (λ y e. e))) c.vec.ensures.items_if_clones_equal
