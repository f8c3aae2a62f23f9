-- Two heads that stand in one tree are one head.
use Rattle.std.proofs.Common.{◌≡◌, ◌==◌, ℕ, ◌+◌, ◌*◌, ◌-◌, List, ◌++◌, length, take, drop, Option, Some, None, refl, sym, ◌∙◌, ap, arith}
use Rattle.std.specs.Prelude.{if◌then◌else◌}
use Rattle.std.specs.List.{flat_map}
use Rattle.std.proofs.lemmas.List.{append_assoc, drop_at, take_at}
use Rattle.zr_base.specs.Words.{word, words, zeros}
use Rattle.zr_base.specs.declared.space.CkptPart.{CkptPart}
use Rattle.zr_base.specs.declared.space.CkptPart.TheVariants.{Clear, Held, Discarding}
use Rattle.zr_base.specs.declared.space.DevRow.{DevRow}
use Rattle.zr_bptr.proofs.Spelled.{word_back}
use Rattle.zr_bptr.specs.Fields.{word_at}
use Rattle.zr_bptr.specs.declared.Bptr.{Bptr}
use Rattle.zr_bptr.specs.declared.Tree.{Tree}
use Rattle.zr_meta.proofs.Backs as backs
use Rattle.zr_meta.proofs.Fronts.{ckpt_told, form_told, front_long, root_lawful, saved_fits}
use Rattle.zr_meta.proofs.Sizes.{words_are}
use Rattle.zr_meta.specs.declared.CondAt.{CondAt}
use Rattle.zr_meta.specs.declared.Head.{Head}
use Rattle.zr_meta.specs.Fields.{saved_long}
use Rattle.zr_meta.specs.Heads.{IsCond, IsHead, IsSaved, cond_words, front_bytes, head_bytes, saved_bytes, saved_words, stream_bytes, stream_total}
use Rattle.zr_open.proofs.Same.{leaves_same}
use Rattle.zr_root.specs.Streams.{HasBytes}
use Rattle.zr_store.specs.Store.{Stored}

-- ---- what is condensed is told by the first word or words behind the saved root

cond_read : List ℕ → Option CondAt
cond_read bytes = if word_at bytes 0 == 0 then None else Some (record { dev = word_at bytes 8; at = word_at bytes 16 })

same_cond : (c : CondAt) (dev at : ℕ) → dev ≡ c.dev → at ≡ c.at → ◌≡◌ {A = CondAt} (record { dev = dev; at = at }) c
same_cond c dev at e1 e2 = rw (e1, e2) refl

cond_told : (cond : Option CondAt) (rest : List ℕ) → IsCond cond → cond_read (words (cond_words cond) ++ rest) ≡ cond
unfolding cond_read
cond_told None rest h = refl
cond_told (Some c) rest h =
    ap (λ (d : CondAt). Some d) (same_cond c _ _ (word_back c.dev (word c.at ++ rest) (omega (arith, h.0))) (word_back c.at rest h.1))

-- ---- how long the saved root is

saved_count : (ckpt : CkptPart) (saved : Option (List ℕ)) → IsSaved ckpt saved → 8 * saved_words saved ≡ saved_long ckpt
saved_count Clear None h = refl
saved_count Clear (Some block) h = absurd h
saved_count (Held txg) None h = absurd h
saved_count (Held txg) (Some block) h = refl
saved_count Discarding None h = refl
saved_count Discarding (Some block) h = absurd h

-- ---- two heads with the same bytes, but for zeros behind them

module _ (rows : List DevRow) (bytes : List ℕ) (h k : Head) (n m : ℕ) (lawful : IsHead rows h) (also : IsHead rows k) (by_one : bytes ≡ head_bytes h ++ zeros n) (by_other : bytes ≡ head_bytes k ++ zeros m) where
  front_of : (g : Head) (i : ℕ) → IsHead rows g → head_bytes g ++ zeros i ≡ front_bytes g.form g.ckpt g.dir ++ (backs.rest_of g.saved g.cond g.streams ++ zeros i)
  front_of g i is =
      ap (λ (bs : List ℕ). bs ++ zeros i) (backs.parts rows (head_bytes g) g (record { lawful = is; spelling = refl }))
      ∙ append_assoc (front_bytes g.form g.ckpt g.dir) (backs.rest_of g.saved g.cond g.streams) (zeros i)

  same_form : h.form ≡ k.form
  same_form =
      sym (form_told bytes h.form h.ckpt h.dir _ lawful.oldest lawful.newest (by_one ∙ front_of h n lawful))
      ∙ form_told bytes k.form k.ckpt k.dir _ also.oldest also.newest (by_other ∙ front_of k m also)

  same_ckpt : h.ckpt ≡ k.ckpt
  same_ckpt =
      sym (ckpt_told bytes h.form h.ckpt h.dir _ (saved_fits h.ckpt h.saved lawful.saved) (by_one ∙ front_of h n lawful))
      ∙ ckpt_told bytes k.form k.ckpt k.dir _ (saved_fits k.ckpt k.saved also.saved) (by_other ∙ front_of k m also)

  -- what stands behind the saved root
  behind_saved : (g : Head) (i : ℕ) → IsHead rows g → bytes ≡ head_bytes g ++ zeros i → drop (saved_long g.ckpt) (drop 160 bytes) ≡ words (cond_words g.cond) ++ (flat_map stream_bytes g.streams ++ zeros i)
  behind_saved g i is by =
      let front = front_long g.form g.ckpt g.dir (root_lawful g.dir.height g.dir.root is.dir) in
      let back : drop 160 bytes ≡ backs.rest_of g.saved g.cond g.streams ++ zeros i = ap (λ (bs : List ℕ). drop 160 bs) (by ∙ front_of g i is) ∙ drop_at (front_bytes g.form g.ckpt g.dir) _ 160 front in
      let rest = words (cond_words g.cond) ++ flat_map stream_bytes g.streams in
      ap (λ (bs : List ℕ). drop (saved_long g.ckpt) bs) (back ∙ append_assoc (saved_bytes g.saved) rest (zeros i))
      ∙ drop_at (saved_bytes g.saved) (rest ++ zeros i) (saved_long g.ckpt) (backs.saved_is g.ckpt g.saved is.saved)
      ∙ append_assoc (words (cond_words g.cond)) (flat_map stream_bytes g.streams) (zeros i)

  cond_of : (g : Head) (i : ℕ) → IsHead rows g → bytes ≡ head_bytes g ++ zeros i → cond_read (drop (saved_long g.ckpt) (drop 160 bytes)) ≡ g.cond
  cond_of g i is by = ap cond_read (behind_saved g i is by) ∙ cond_told g.cond (flat_map stream_bytes g.streams ++ zeros i) is.cond

  same_condensing : h.cond ≡ k.cond
  same_condensing = sym (cond_of h n lawful by_one) ∙ ap (λ (c : CkptPart). cond_read (drop (saved_long c) (drop 160 bytes))) same_ckpt ∙ cond_of k m also by_other

  -- how long a head is, by these three
  long_is : (g : Head) → IsHead rows g → length (head_bytes g) ≡ 160 + saved_long g.ckpt + 8 * length (cond_words g.cond) + 136 * stream_total g.form rows g.cond
  long_is g is =
      let all = words_are rows (head_bytes g) g (record { lawful = is; spelling = refl }) in
      let saved = saved_count g.ckpt g.saved is.saved in
      let count = is.count in
      omega (arith, all, saved, count)

  same_long : length (head_bytes h) ≡ length (head_bytes k)
  same_long =
      long_is h lawful
      ∙ ap (λ (c : CkptPart). 160 + saved_long c + 8 * length (cond_words h.cond) + 136 * stream_total h.form rows h.cond) same_ckpt
      ∙ ap (λ (c : Option CondAt). 160 + saved_long k.ckpt + 8 * length (cond_words c) + 136 * stream_total h.form rows c) same_condensing
      ∙ ap (λ (f : ℕ). 160 + saved_long k.ckpt + 8 * length (cond_words k.cond) + 136 * stream_total f rows k.cond) same_form
      ∙ sym (long_is k also)

  same_bytes : head_bytes h ≡ head_bytes k
  same_bytes =
      sym (take_at (head_bytes h) (zeros n) (length (head_bytes h)) refl)
      ∙ ap (λ (bs : List ℕ). take (length (head_bytes h)) bs) (sym by_one ∙ by_other)
      ∙ take_at (head_bytes k) (zeros m) (length (head_bytes h)) (sym same_long)

  pub one_spelled : h ≡ k
  one_spelled = backs.one_head rows rows (head_bytes h) h k (record { lawful = lawful; spelling = refl }) (record { lawful = also; spelling = same_bytes })

-- ---- two heads in one tree

pub one_head : (s : Stored) (t : Tree) (rows : List DevRow) (h k : Head) → IsHead rows h → IsHead rows k → HasBytes s t (head_bytes h) → HasBytes s t (head_bytes k) → h ≡ k
one_head s t rows h k lawful also has have =
    let same : have.leaves ≡ has.leaves = leaves_same have.leaves has.leaves (λ i. sym (have.are_leaves.places i) ∙ has.are_leaves.places i) in
    one_spelled rows (flat_map s.bytes has.leaves) h k (4096 * length has.leaves - length (head_bytes h)) (4096 * length have.leaves - length (head_bytes k)) lawful also has.spelling
    (ap (λ (bs : List Bptr). flat_map s.bytes bs) (sym same) ∙ have.spelling)
