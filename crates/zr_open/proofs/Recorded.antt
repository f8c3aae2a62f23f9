-- The words of all streams of an open pool, as an import reads them one behind another.
use Rattle.std.proofs.Common.{◌≡◌, ℕ, ◌+◌, List, [], ◌∷◌, ◌++◌, length, take, drop, None, Option, refl, sym, ◌∙◌, ap, subst, append-nil}
use Rattle.std.proofs.lemmas.List.{take_at, drop_at}
use Rattle.zr_base.specs.declared.space.CkptPart.{CkptPart}
use Rattle.zr_base.specs.declared.space.CondPart.{CondPart}
use Rattle.zr_base.specs.declared.space.DevPart.{DevPart}
use Rattle.zr_base.specs.declared.space.DevRow.{DevRow}
use Rattle.zr_base.specs.declared.space.DevState.{DevState}
use Rattle.zr_base.specs.declared.space.DevState.TheVariants.{On}
use Rattle.zr_base.specs.declared.space.SpaceParts.{SpaceParts}
use Rattle.zr_image.specs.Roots.{rows_of}
use Rattle.zr_import.specs.Words.{HaveWords}
use Rattle.zr_label.specs.declared.root.Uber.{Uber}
use Rattle.zr_meta.specs.declared.Stream.{Stream}
use Rattle.zr_meta.specs.Heads.{stream_count}
use Rattle.zr_meta.specs.Parts.{AreParts, IsCondPart, device_words, devices_words, pieces}
use Rattle.zr_meta.specs.Streams.{SpellsPart}
use Rattle.zr_root.specs.Streams.{HasWords}
use Rattle.zr_store.specs.Store.{Stored}
use Rattle.zr_sync.specs.Heads.{cond_at, cond_streams, head_of, streams_in, streams_of}
use Rattle.zr_current.specs.Current.{GoesOnFrom}
use Rattle.zr_sync.specs.declared.open.DeviceStreams.{DeviceStreams}
use Rattle.zr_sync.specs.declared.open.OpenPool.{OpenPool}
use Rattle.zr_open.specs.Left.{RecordsDevice, RecordsDevices, RecordsParts}
use Rattle.zr_roots.specs.Standing.{image_of}

-- ---- the words of one device

one_piece : (t : Stream) (own rest : List ℕ) (more : List Stream) → length own ≡ t.words → pieces (t ∷ more) (own ++ rest) ≡ own ∷ pieces more rest
one_piece t own rest more is =
    ap (λ (ns : List ℕ). ns ∷ pieces more (drop t.words (own ++ rest))) (take_at own rest t.words is)
    ∙ ap (λ (ns : List ℕ). own ∷ pieces more ns) (drop_at own rest t.words is)

one_stand : (s : Stored) (t : Stream) (own rest : List ℕ) (more : List Stream) → HasWords s t own → HaveWords s more rest → HaveWords s (t ∷ more) (own ++ rest)
one_stand s t own rest more here stand = (own, (rest, (refl, (here, stand))))

module _ (s : Stored) (version : ℕ) (ckpt : CkptPart) (dev : ℕ) (row : DevRow) (t : DeviceStreams) (p : DevPart) (h : RecordsDevice s version dev ckpt row t p) where
  abbrev own_words : List ℕ → List ℕ
  own_words rest = h.held ++ (h.kept ++ (h.late1 ++ (h.late2 ++ rest)))

  own_pieces : (more : List Stream) (rest : List ℕ) → pieces (streams_in On t ++ more) (own_words rest) ≡ h.held ∷ h.kept ∷ h.late1 ∷ h.late2 ∷ pieces more rest
  own_pieces more rest =
      one_piece t.held h.held (h.kept ++ (h.late1 ++ (h.late2 ++ rest))) (t.kept ∷ t.late1 ∷ t.late2 ∷ more) h.held_stand.count
      ∙ ap (λ (ps : List (List ℕ)). h.held ∷ ps)
      (one_piece t.kept h.kept (h.late1 ++ (h.late2 ++ rest)) (t.late1 ∷ t.late2 ∷ more) h.kept_stand.count
      ∙ ap (λ (ps : List (List ℕ)). h.kept ∷ ps)
      (one_piece t.late1 h.late1 (h.late2 ++ rest) (t.late2 ∷ more) h.late1_stand.count
      ∙ ap (λ (ps : List (List ℕ)). h.late1 ∷ ps) (one_piece t.late2 h.late2 rest more h.late2_stand.count)))

  own_stand : (more : List Stream) (rest : List ℕ) → HaveWords s more rest → HaveWords s (streams_in On t ++ more) (own_words rest)
  own_stand more rest stand =
      one_stand s t.held h.held (h.kept ++ (h.late1 ++ (h.late2 ++ rest))) (t.kept ∷ t.late1 ∷ t.late2 ∷ more) h.held_stand
      (one_stand s t.kept h.kept (h.late1 ++ (h.late2 ++ rest)) (t.late1 ∷ t.late2 ∷ more) h.kept_stand
      (one_stand s t.late1 h.late1 (h.late2 ++ rest) (t.late2 ∷ more) h.late1_stand
      (one_stand s t.late2 h.late2 rest more h.late2_stand stand)))

  own_part : (rows : List DevRow) (more : List (List ℕ)) (parts : List DevPart) → AreParts version ckpt (dev + 1) (devices_words 2 rows more) parts
      → AreParts version ckpt dev (devices_words 2 (row ∷ rows) (h.held ∷ h.kept ∷ h.late1 ∷ h.late2 ∷ more)) (p ∷ parts)
  own_part rows more parts are =
      subst
      (λ (state : DevState). SpellsPart version dev ckpt (device_words row state (take (stream_count 2 state) (h.held ∷ h.kept ∷ h.late1 ∷ h.late2 ∷ more))) p
      × AreParts version ckpt (dev + 1) (devices_words 2 rows (drop (stream_count 2 state) (h.held ∷ h.kept ∷ h.late1 ∷ h.late2 ∷ more))) parts)
      (sym h.on) (h.spelled, are)

-- ---- those of all devices

record Joined (s : Stored) (version : ℕ) (ckpt : CkptPart) (dev : ℕ) (rows : List DevRow) (streams : List DeviceStreams) (parts : List DevPart) : Type 0 where
  pub words : List ℕ
  pub stand : HaveWords s (streams_of rows streams) words
  pub are : AreParts version ckpt dev (devices_words 2 rows (pieces (streams_of rows streams) words)) parts

joined : (s : Stored) (version : ℕ) (ckpt : CkptPart) (dev : ℕ) (rows : List DevRow) (streams : List DeviceStreams) (parts : List DevPart) → RecordsDevices s version ckpt dev rows streams parts → Joined s version ckpt dev rows streams parts
joined s version ckpt dev [] [] [] h = record { words = []; stand = refl; are = tt }
joined s version ckpt dev [] [] (p ∷ parts) h = absurd h
joined s version ckpt dev [] (t ∷ streams) parts h = absurd h
joined s version ckpt dev (row ∷ rows) [] parts h = absurd h
joined s version ckpt dev (row ∷ rows) (t ∷ streams) [] h = absurd h
joined s version ckpt dev (row ∷ rows) (t ∷ streams) (p ∷ parts) h =
    let more = joined s version ckpt (dev + 1) rows streams parts h.1 in
    let rest = streams_of rows streams in
    let own = own_words s version ckpt dev row t p h.0 more.words in
    record {
      words = own;
      stand = subst (λ (state : DevState). HaveWords s (streams_in state t ++ rest) own) (sym h.0.on) (own_stand s version ckpt dev row t p h.0 rest more.words more.stand);
      are = subst (λ (state : DevState). AreParts version ckpt dev (devices_words 2 (row ∷ rows) (pieces (streams_in state t ++ rest) own)) (p ∷ parts)) (sym h.0.on)
          (subst (λ (ps : List (List ℕ)). AreParts version ckpt dev (devices_words 2 (row ∷ rows) ps) (p ∷ parts)) (sym (own_pieces s version ckpt dev row t p h.0 rest more.words))
          (own_part s version ckpt dev row t p h.0 rows (pieces rest more.words) parts more.are));
    }

-- the streams of a pool that condenses nothing are those of its devices
no_cond : (u : Uber) (pool : OpenPool) → GoesOnFrom u pool → pool.space.parts.cond ≡ None → (head_of pool).streams ≡ streams_of (rows_of u) pool.streams.items
no_cond u pool from none =
    ap (λ (c : Option CondPart). streams_of (take pool.table.count pool.table.rows) pool.streams.items ++ cond_streams (cond_at c) pool.cond) none
    ∙ (append-nil (streams_of (take pool.table.count pool.table.rows) pool.streams.items)
    ∙ (ap (λ (n : ℕ). streams_of (take n pool.table.rows) pool.streams.items) from.count ∙ ap (λ (rs : List DevRow). streams_of (take u.count rs) pool.streams.items) from.rows))

pub streams_record : (disks : List (List ℕ)) (u : Uber) (pool : OpenPool) (parts : SpaceParts) → GoesOnFrom u pool → pool.space.parts.cond ≡ None → parts.version ≡ u.version → parts.ckpt ≡ pool.space.parts.ckpt → parts.cond ≡ None
    → RecordsDevices (image_of disks pool.table.slots u) u.version pool.space.parts.ckpt 0 (rows_of u) pool.streams.items parts.devs → (h : RecordsParts disks u pool) × (h.parts ≡ parts)
streams_record disks u pool parts from none version ckpt cond devices =
    let all = joined (image_of disks pool.table.slots u) u.version pool.space.parts.ckpt 0 (rows_of u) pool.streams.items parts.devs devices in
    let same = sym (no_cond u pool from none) in (
      record {
        words = all.words;
        streams = subst (λ (ts : List Stream). HaveWords (image_of disks pool.table.slots u) ts all.words) same all.stand;
        parts = parts;
        spelled = record {
          version_is = version;
          ckpt_is = ckpt;
          devices = subst (λ (ts : List Stream). AreParts u.version pool.space.parts.ckpt 0 (devices_words 2 (rows_of u) (pieces ts all.words)) parts.devs) same all.are;
          cond = subst (λ (at : Option CondPart). IsCondPart (cond_at at) (pieces (head_of pool).streams all.words) parts.cond) (sym none) (subst (λ (c : Option CondPart). IsCondPart None (pieces (head_of pool).streams all.words) c) (sym cond) tt);
        };
      },
      refl,
    )
