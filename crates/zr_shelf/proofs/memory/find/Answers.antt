use Rattle.std.proofs.Common.{◌≡◌, inl, inr, ◌+◌, ◌<◌, ℕ, List, [], get_or, length, sym, ◌∙◌, subst, arith, string_bytes}
use Rattle.std.proofs.lemmas.Bool.{cases_lt, false≢true}
use Rattle.std.proofs.lemmas.Bool.Decides.{Decides-eqb}
use Rattle.std.proofs.lemmas.Slice.Eq.{slice_eq-Decides}
use Rattle.std.proofs.lemmas.List.{get_or-map}
use Rattle.zr_shelf.specs.Memory.{paths_of, HasPathAt, NoneHasPath}
use Rattle.zr_shelf.specs.declared.memory.DiskFile.{DiskFile}
use Rattle.zr_shelf.proofs.memory.find.Goals as goal

path_at : (folder : List DiskFile) (i : ℕ) (text : List ℕ) (d : DiskFile) → i < length folder → text ≡ string_bytes (get_or folder i d).path → text ≡ get_or (paths_of folder) i []
path_at folder i text d lt is = is ∙ sym (get_or-map (λ (f : DiskFile). string_bytes f.path) folder i d [] lt)

none_more : (folder : List DiskFile) (path : List ℕ) (i : ℕ) → NoneHasPath folder path i → ¬ HasPathAt folder path i → NoneHasPath folder path (i + 1)
none_more folder path i below here = λ k lt. elim (cases_lt k i) [
  | inl less ↦ below k less
  | inr more ↦ let is : k ≡ i = omega arith in subst (λ (n : ℕ). ¬ HasPathAt folder path n) (sym is) here
]

pub returns-then-eq : goal.returns-then-eq
returns-then-eq c =
    let folder = c.args.folder.now in
    let decided = slice_eq-Decides Decides-eqb c.as_str.result.now c.args.path.now c.eq.result c.eq.ensures in
    (c.loop-i-test.true, sym (path_at folder c.loop-i.i c.as_str.result.now c.index-folder-i.result c.loop-i-test.true c.as_str.ensures.value) ∙ decided.0 c.if-eq.true)

pub loop-i-preserved : goal.loop-i-preserved
loop-i-preserved c =
    let folder = c.args.folder.now in
    let decided = slice_eq-Decides Decides-eqb c.as_str.result.now c.args.path.now c.eq.result c.eq.ensures in
    none_more folder c.args.path.now c.loop-i.i c.loop-i.invariant (λ has. false≢true (sym c.if-eq.false ∙ decided.1 (path_at folder c.loop-i.i c.as_str.result.now c.index-folder-i.result c.loop-i-test.true c.as_str.ensures.value ∙ has)))
