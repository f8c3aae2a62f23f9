-- Streams that are written in place of others.
use Rattle.std.specs.Prelude.{ℕ, ◌+◌, ◌*◌, Bool, nat_lt, if◌then◌else◌, List}
use Rattle.std.specs.List.{flat_map}
use Rattle.std.specs.Int.{div_ceil}
use Rattle.zr_base.specs.Trees.{tree_units}
use Rattle.zr_base.specs.declared.space.Extent.{Extent}
use Rattle.zr_bptr.specs.declared.Bptr.{Bptr}
use Rattle.zr_rules.specs.Logs.{IsAnew, IsLate}
use Rattle.zr_store.specs.Store.{Stored, Swaps}
use Rattle.zr_tree.specs.Trees.{tree_reach}
use Rattle.zr_meta.specs.declared.Stream.{Stream}
use Rattle.zr_meta.specs.Streams.{late_list}
use Rattle.zr_root.specs.Streams.{HasWords, StoresWords}
use Rattle.zr_root.specs.Appends.{leaves_anew}

-- the blocks of streams, one stream after another
abbrev pub streams_reach : Stored → List Stream → List Bptr
streams_reach s streams = flat_map (λ t. tree_reach s t.tree) streams

-- the words stand in the stream, whose blocks came in place of those of the stream before
pub record Rewrites (old new : Stored) (was now : Stream) (ns : List ℕ) : Type 0 where
  pub swaps : Swaps old new (tree_reach old was.tree) (tree_reach new now.tree)
  pub stands : HasWords new now ns

-- these are the words of the set, written anew
pub record RewritesSet (version dev : ℕ) (es : List Extent) (old new : Stored) (was now : Stream) : Type 0 where
  pub words : List ℕ
  pub anew : IsAnew version dev es words
  pub rewrites : Rewrites old new was now words

-- the words of the late set stand in the stream, whose blocks came
pub record StoresLate (version dev : ℕ) (blocks meta : List Extent) (old new : Stored) (stream : Stream) : Type 0 where
  pub words : List ℕ
  pub late : IsLate version dev words (late_list blocks meta)
  pub stores : StoresWords old new stream words

-- whether a log of so many words is written anew when so many more are added, where the set alone has so many
abbrev pub is_long : ℕ → ℕ → ℕ → Bool
is_long words added anew = nat_lt (2 * anew + 512) (words + added)

-- how many blocks are put at most to write the log
abbrev pub log_puts : ℕ → ℕ → ℕ → ℕ
log_puts words added anew = if is_long words added anew then tree_units (div_ceil anew 512) else 6 * leaves_anew words added + 4

-- how many words the log has once it is written
abbrev pub log_words : ℕ → ℕ → ℕ → ℕ
log_words words added anew = if is_long words added anew then anew else words + added

-- how many are given back at most, where the log had so many
abbrev pub log_frees : ℕ → ℕ → ℕ → ℕ → ℕ
log_frees words added anew had = if is_long words added anew then had else 5 * leaves_anew words added + 1
