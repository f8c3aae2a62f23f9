use Rattle.std.proofs.Common.{◌≡◌, ◌+◌, ◌<◌, List, [], ◌∷◌, ◌++◌, ℕ, length, map, take, get_or, sym, ◌∙◌, ap, string_bytes}
use Rattle.std.proofs.lemmas.List.{map_push, take_more}
use Rattle.zr_shelf.specs.declared.memory.DiskFile.{DiskFile}
use Rattle.zr_shelf.proofs.images.copied.Goals as goal

copied_more : (f : DiskFile → List ℕ) (all more files : List DiskFile) (i : ℕ) (x y : DiskFile) → more ≡ all ++ x ∷ [] → map f all ≡ map f (take i files) → f x ≡ f y → y ≡ get_or files i y → i < length files → map f more ≡ map f (take (i + 1) files)
copied_more f all more files i x y items so_far same here lt =
    ap (map f) items
    ∙ map_push f all x
    ∙ ap (λ (l : List (List ℕ)). l ++ f x ∷ []) so_far
    ∙ ap (λ (v : List ℕ). map f (take i files) ++ v ∷ []) same
    ∙ sym (map_push f (take i files) y)
    ∙ ap (λ (d : DiskFile). map f (take i files ++ d ∷ [])) here
    ∙ sym (ap (map f) (take_more files i y lt))

pub loop-file-preserved : goal.loop-file-preserved
loop-file-preserved c = record {
  paths = copied_more (λ (f : DiskFile). string_bytes f.path) c.loop-file.all.items c.push.new.self.items c.args.files.now c.loop-file.file-index c.in_ok-copied_file.field-0 c.file-item.result c.in_ok-push.ensures.items c.loop-file.invariant.paths c.in_ok-copied_file.ensures.path c.file-item.is c.loop-file-test.true;
  bytes = copied_more (λ (f : DiskFile). f.bytes.items) c.loop-file.all.items c.push.new.self.items c.args.files.now c.loop-file.file-index c.in_ok-copied_file.field-0 c.file-item.result c.in_ok-push.ensures.items c.loop-file.invariant.bytes c.in_ok-copied_file.ensures.bytes c.file-item.is c.loop-file-test.true;
}
