-- One stream that is written, as a step of the trees that stand beside each other.
use Rattle.std.proofs.Common.{◌≡◌, ℕ, ◌<◌, List, length, sym, subst}
use Rattle.zr_beside.specs.Beside.{Standing}
use Rattle.zr_store.specs.Store.{Now}
use Rattle.zr_vdev.specs.Stores.{KeepsOthers}
use Rattle.zr_vdev.specs.declared.kind.Kind.TheVariants.{Meta}
use Rattle.zr_sync.specs.Mappings.{WritesMapping, words_at}
use Rattle.zr_sync.specs.Streams.{HasMeta, WritesLog}
use Rattle.zr_sync.specs.Trees.{Place, Stage, HasNoLateYet, HoldsStreams, IsAt, MaySpell, WritesPlace}
use Rattle.zr_sync.specs.Trees.Place.{OfLog, OfMapping}
use Rattle.zr_sync.specs.Words.{IsLogNow}
use Rattle.zr_sync.specs.declared.mappings.MappingStream.{MappingStream}
use Rattle.zr_sync.specs.declared.open.OpenPool.{OpenPool}
use Rattle.zr_sync.specs.declared.words.Log.{Log}
use Rattle.zr_sync.proofs.Stages.{IsSameFrame, alike_yet, at_stays, cond_stays, log_now_stays, spelled_stays, words_stay}
use Rattle.zr_sync.proofs.TreeRows.{place_written}

module _ (first : Stage) (stage next : ℕ → Place → Stage) (cond : MappingStream → Stage) (others : List Standing) (t1 t2 : Type 0) (d1 d2 : List (List ℕ)) (x y : OpenPool) (f : IsSameFrame x y) (kept : KeepsOthers Meta x.space y.space) (same : y.cond ≡ x.cond) (count : y.table.count ≡ x.table.count)
    (dev : ℕ) (there : dev < x.table.count) (listed : dev < length x.streams.items) (none : HasNoLateYet stage) (h : HoldsStreams stage cond others t1 d1 x) where
  stays : (e : ℕ) (p : Place) (ws : List ℕ) → e < x.table.count → IsAt (stage e p) x e p ws → IsAt (stage e p) y e p ws
  stays e p ws lt is = at_stays x y f kept (stage e p) e p ws (alike_yet x y stage none e p) is

  pub log_written : (log : Log) → WritesPlace first stage next dev (OfLog log) → Now (HasMeta t2 d2 y) (λ n. WritesLog h.stored n x y dev log) → HoldsStreams next cond others t2 d2 y
  log_written log turn wrote =
      let w = wrote.is in
      let now = subst (λ (v : ℕ). IsLogNow v y.space dev log w.words) (sym f.version) (log_now_stays x.space y.space f.lawful_old f.lawful kept x.version dev log w.words w.log_is) in
      place_written first stage next cond others t1 t2 d1 d2 x y h dev there listed (OfLog log) w.stream w.words count same w.streams turn (record { stored = wrote.stored; held = wrote.held; is = w.rewrites }) now stays
      (λ which ws is. cond_stays x y kept same (cond which) which ws is)

  pub mapping_written : (which : MappingStream) → WritesPlace first stage next dev (OfMapping which) → MaySpell x dev → Now (HasMeta t2 d2 y) (λ n. WritesMapping h.stored n x y dev which) → HoldsStreams next cond others t2 d2 y
  mapping_written which turn spelled wrote =
      let w = wrote.is in
      place_written first stage next cond others t1 t2 d1 d2 x y h dev there listed (OfMapping which) w.stream (words_at x dev which) count same w.streams turn (record { stored = wrote.stored; held = wrote.held; is = w.rewrites }) (sym (words_stay x y kept dev which), spelled_stays Meta x y kept dev spelled) stays
      (λ other ws is. cond_stays x y kept same (cond other) other ws is)
