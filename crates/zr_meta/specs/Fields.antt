-- Reading the parts of a head from their places, whether or not they are lawful.
use Rattle.std.specs.Prelude.{◌≡◌, ℕ, ◌==◌, ◌^◌, ◌<◌, List, ◌++◌, slice_index, Option, Some, if◌then◌else◌}
use Rattle.std.specs.List.{AllByRecursion, flat_map}
use Rattle.zr_base.specs.declared.space.DevRow.{DevRow}
use Rattle.zr_base.specs.declared.space.CkptPart.{CkptPart}
use Rattle.zr_base.specs.declared.space.CkptPart.TheVariants.{Clear, Held, Discarding}
use Rattle.zr_base.specs.Words.{words}
use Rattle.zr_bptr.specs.declared.Ptr.{Ptr}
use Rattle.zr_bptr.specs.declared.Ptr.TheVariants.{Hole, At}
use Rattle.zr_bptr.specs.declared.Tree.{Tree}
use Rattle.zr_bptr.specs.Fields.{word_at}
use Rattle.zr_meta.specs.declared.Stream.{Stream}
use Rattle.zr_meta.specs.declared.CondAt.{CondAt}
use Rattle.zr_meta.specs.declared.Head.{Head}
use Rattle.zr_meta.specs.declared.read.Back.{Back}
use Rattle.zr_meta.specs.Heads.{IsRootOf, IsSaved, IsCond, IsStream, SpellsHead, front_bytes, saved_bytes, cond_words, stream_bytes}

-- the digit that ends the first word
abbrev pub form_at : List ℕ → ℕ
form_at bytes = if slice_index bytes 7 == 49 then 1 else 2

-- the checkpoint with this state and group
abbrev pub ckpt_of : ℕ → ℕ → CkptPart
ckpt_of state txg = if state == 1 then Held txg else (if state == 2 then Discarding else Clear)

abbrev pub ckpt_at : List ℕ → CkptPart
ckpt_at bytes = ckpt_of (word_at bytes 8) (word_at bytes 16)

-- the height of the tree of a stream with this root
abbrev pub level_of : Ptr → ℕ
level_of Hole = 0
level_of (At b) = b.level

-- how many bytes the saved root takes
abbrev pub saved_long : CkptPart → ℕ
saved_long (Held txg) = 4096
saved_long _ = 0

-- whatever head the bytes spell, it is this one
abbrev pub IsOnlyHead : List ℕ → Option Head → Type 0
IsOnlyHead bytes found = (table : List DevRow) (h : Head) → SpellsHead table bytes h → found ≡ Some h

-- whatever directory the front has, it is this one
abbrev pub IsOnlyDir : List ℕ → Option Tree → Type 0
IsOnlyDir bytes found =
    (form : ℕ) (ckpt : CkptPart) (dir : Tree) (rest : List ℕ) → IsRootOf dir.height dir.root → dir.height < 2 ^ 32 → bytes ≡ front_bytes form ckpt dir ++ rest → found ≡ Some dir

-- whatever streams the bytes spell, they are these
abbrev pub AreOnlyStreams : List ℕ → Option (List Stream) → Type 0
AreOnlyStreams bytes found = (streams : List Stream) → AllByRecursion IsStream streams → bytes ≡ flat_map stream_bytes streams → found ≡ Some streams

-- whatever the bytes say of condensing, it is this
abbrev pub IsOnlyCond : List ℕ → Option (Option CondAt) → Type 0
IsOnlyCond bytes found = (cond : Option CondAt) (rest : List ℕ) → IsCond cond → bytes ≡ words (cond_words cond) ++ rest → found ≡ Some cond

-- the bytes behind the front
abbrev pub back_bytes : Back → List ℕ
back_bytes b = saved_bytes b.saved ++ (words (cond_words b.cond) ++ flat_map stream_bytes b.streams)

-- whatever stands behind the front of a head with this checkpoint, it is this
abbrev pub IsOnlyBack : CkptPart → List ℕ → Option Back → Type 0
IsOnlyBack ckpt bytes found =
    (b : Back) → IsSaved ckpt b.saved → IsCond b.cond → AllByRecursion IsStream b.streams → bytes ≡ back_bytes b → found ≡ Some b
