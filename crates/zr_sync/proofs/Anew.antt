-- Logs that are written anew, one device after the other.
use Rattle.std.proofs.Common.{◌≡◌, ◌≢◌, ◌∙◌, ⊎_elim, ℕ, ◌+◌, ◌<◌, List, length, refl, sym, ap, subst, arith}
use Rattle.std.specs.Prelude.{slice_index_or, slice_set}
use Rattle.std.proofs.Math.ListN.{length-set}
use Rattle.std.proofs.lemmas.List.{get_or-set_same, get_or-set_other}
use Rattle.std.proofs.lemmas.Bool.{cases_eq}
use Rattle.zr_meta.specs.declared.Stream.{Stream}
use Rattle.zr_rules.specs.Space.{Space}
use Rattle.zr_vdev.specs.Stores.{KeepsOthers}
use Rattle.zr_vdev.specs.declared.kind.Kind.TheVariants.{Block, Meta}
use Rattle.zr_vdev.proofs.Follows.{others_more}
use Rattle.zr_sync.specs.Anew.{anew_count, AreAnew, HasCountOf, RenewsEach, IsRenewed, AreRenewed, RenewsLogs, KeepsCounts}
use Rattle.zr_sync.specs.Empty.{no_streams}
use Rattle.zr_sync.specs.Mappings.{with_mapping}
use Rattle.zr_sync.specs.Streams.{log_stream, streams_at, with_log, HasNoLates}
use Rattle.zr_sync.specs.declared.mappings.MappingStream.TheVariants.{Entries, Counts}
use Rattle.zr_sync.specs.declared.open.DeviceStreams.{DeviceStreams}
use Rattle.zr_sync.specs.declared.open.OpenPool.{OpenPool}
use Rattle.zr_sync.specs.declared.open.Table.{Table}
use Rattle.zr_sync.specs.declared.words.Log.{Log}
use Rattle.zr_sync.specs.declared.words.Log.TheVariants.{Held, Kept, Fresh}
use Rattle.zr_sync.specs.declared.words.LogWords.{LogWords}
use Rattle.zr_sync.specs.declared.words.LogWords.TheVariants.{Stays, Grows, Anew}

-- the stream of words that are written anew
pub counted : (version : ℕ) (s : Space) (dev : ℕ) (log : Log) (words : LogWords) (stream : Stream) → AreAnew version s dev log words → HasCountOf words stream → stream.words ≡ anew_count version s dev log
counted version s dev log (Anew ws) stream anew count = count ∙ anew
counted version s dev log Stays stream anew count = absurd anew
counted version s dev log (Grows ws) stream anew count = absurd anew

-- ---- one device more

set_here : (xs : List DeviceStreams) (dev : ℕ) (x : DeviceStreams) → dev < length xs → slice_index_or (slice_set xs dev x) dev no_streams ≡ x
set_here xs dev x lt = get_or-set_same xs dev x no_streams lt

set_there : (xs : List DeviceStreams) (dev other : ℕ) (x : DeviceStreams) → other ≢ dev → slice_index_or (slice_set xs dev x) other no_streams ≡ slice_index_or xs other no_streams
set_there xs dev other x ne = get_or-set_other xs dev other x no_streams ne

module _ (x y : OpenPool) (d : ℕ) (t : DeviceStreams) (step : y.streams.items ≡ slice_set x.streams.items d t) where
  step_length : length y.streams.items ≡ length x.streams.items
  step_length = ap length step ∙ length-set x.streams.items d t

  step_here : d < length x.streams.items → streams_at y d ≡ t
  step_here there = ap (λ (xs : List DeviceStreams). slice_index_or xs d no_streams) step ∙ set_here x.streams.items d t there

  step_there : (e : ℕ) → e ≢ d → streams_at y e ≡ streams_at x e
  step_there e ne = ap (λ (xs : List DeviceStreams). slice_index_or xs e no_streams) step ∙ set_there x.streams.items d e t ne

module _ (x z : OpenPool) (d : ℕ) (there : d < length x.streams.items) (b : RenewsEach x z d) where
  first_there : d < length b.first.streams.items
  first_there = let n = step_length x b.first d _ b.held.streams in omega (arith, n, there)

  second_there : d < length b.second.streams.items
  second_there = let n = step_length b.first b.second d _ b.kept.streams in let m = first_there in omega (arith, n, m)

  third_there : d < length b.third.streams.items
  third_there = let n = step_length b.second b.third d _ b.entries.streams in let m = second_there in omega (arith, n, m)

  last_there : d < length b.last.streams.items
  last_there = let n = step_length b.third b.last d _ b.counts.streams in let m = third_there in omega (arith, n, m)

  first_here : streams_at b.first d ≡ with_log Held (streams_at x d) b.held.stream
  first_here = step_here x b.first d _ b.held.streams there

  second_here : streams_at b.second d ≡ with_log Kept (streams_at b.first d) b.kept.stream
  second_here = step_here b.first b.second d _ b.kept.streams first_there

  third_here : streams_at b.third d ≡ with_mapping Entries (streams_at b.second d) b.entries.stream
  third_here = step_here b.second b.third d _ b.entries.streams second_there

  fourth_here : streams_at b.last d ≡ with_mapping Counts (streams_at b.third d) b.counts.stream
  fourth_here = step_here b.third b.last d _ b.counts.streams third_there

  now_here : streams_at z d ≡ with_log Fresh (streams_at b.last d) b.fresh.stream
  now_here = step_here b.last z d _ b.fresh.streams last_there

  now_there : (e : ℕ) → e ≢ d → streams_at z e ≡ streams_at x e
  now_there e ne =
      step_there b.last z d _ b.fresh.streams e ne
      ∙ (step_there b.third b.last d _ b.counts.streams e ne
      ∙ (step_there b.second b.third d _ b.entries.streams e ne
      ∙ (step_there b.first b.second d _ b.kept.streams e ne ∙ step_there x b.first d _ b.held.streams e ne)))

  now_held : (streams_at z d).held ≡ b.held.stream
  now_held =
      ap (λ (t : DeviceStreams). t.held) now_here
      ∙ (ap (λ (t : DeviceStreams). t.held) fourth_here
      ∙ (ap (λ (t : DeviceStreams). t.held) third_here ∙ (ap (λ (t : DeviceStreams). t.held) second_here ∙ ap (λ (t : DeviceStreams). t.held) first_here)))

  now_kept : (streams_at z d).kept ≡ b.kept.stream
  now_kept = ap (λ (t : DeviceStreams). t.kept) now_here ∙ (ap (λ (t : DeviceStreams). t.kept) fourth_here ∙ (ap (λ (t : DeviceStreams). t.kept) third_here ∙ ap (λ (t : DeviceStreams). t.kept) second_here))

  pub renewed_here : (version : ℕ) (from : Space) → x.version ≡ version → KeepsOthers Meta from x.space → (log : Log) → IsRenewed version from z.streams.items d log
  renewed_here version from same others Held = record {
    space = x.space;
    metadata = others;
    words = ap (λ (s : Stream). s.words) now_held ∙ (b.held.words ∙ ap (λ (v : ℕ). anew_count v x.space d Held) same);
  }
  renewed_here version from same others Kept = record {
    space = b.first.space;
    metadata = others_more Meta from x.space b.first.space others b.to_first;
    words = ap (λ (s : Stream). s.words) now_kept ∙ (b.kept.words ∙ ap (λ (v : ℕ). anew_count v b.first.space d Kept) (b.first_version ∙ same));
  }
  renewed_here version from same others Fresh = record {
    space = b.last.space;
    metadata = others_more Meta from x.space b.last.space others b.to_last;
    words = ap (λ (t : DeviceStreams). t.fresh.words) now_here ∙ (b.fresh.words ∙ ap (λ (v : ℕ). anew_count v b.last.space d Fresh) (b.last_version ∙ same));
  }

pub renewed_next : (version : ℕ) (from : Space) (x z : OpenPool) (d : ℕ) → d < length x.streams.items → x.version ≡ version → KeepsOthers Meta from x.space → RenewsEach x z d
    → AreRenewed version from x.streams.items d → AreRenewed version from z.streams.items (d + 1)
renewed_next version from x z d there same others b before e log lt =
    ⊎_elim
    (λ is. subst (λ (k : ℕ). IsRenewed version from z.streams.items k log) (sym is) (renewed_here x z d there b version from same others log))
    (λ ne.
    let w = before e log (omega (arith, lt, ne)) in
    record { space = w.space; metadata = w.metadata; words = ap (λ (t : DeviceStreams). (log_stream log t).words) (now_there x z d there b e ne) ∙ w.words })
    (cases_eq e d)

-- ---- what leaves the logs alone

pub same_counts : (x : OpenPool) → KeepsCounts x x
same_counts x dev log = refl

late_counts : (log : Log) (t : DeviceStreams) (a b : Stream) → (log_stream log (record t { late1 = a; late2 = b })).words ≡ (log_stream log t).words
late_counts Held t a b = refl
late_counts Kept t a b = refl
late_counts Fresh t a b = refl

pub no_lates_counts : (x y z : OpenPool) (d : ℕ) → d < length y.streams.items → KeepsCounts x y → HasNoLates y z d → KeepsCounts x z
no_lates_counts x y z d there kept none dev log =
    ⊎_elim
    (λ is.
    let here : streams_at z d ≡ record (streams_at y d) { late1 = no_streams.late1; late2 = no_streams.late2 } = ap (λ (xs : List DeviceStreams). slice_index_or xs d no_streams) none ∙ set_here y.streams.items d _ there in
    subst (λ (k : ℕ). (log_stream log (streams_at z k)).words ≡ (log_stream log (streams_at x k)).words) (sym is)
    (ap (λ (t : DeviceStreams). (log_stream log t).words) here ∙ (late_counts log (streams_at y d) _ _ ∙ kept d log)))
    (λ ne.
    ap (λ (t : DeviceStreams). (log_stream log t).words) (ap (λ (xs : List DeviceStreams). slice_index_or xs dev no_streams) none ∙ set_there y.streams.items d dev _ ne) ∙ kept dev log)
    (cases_eq dev d)

pub renewed_still : (version : ℕ) (from : Space) (x y : OpenPool) (below : ℕ) → KeepsCounts x y → AreRenewed version from x.streams.items below → AreRenewed version from y.streams.items below
renewed_still version from x y below kept before dev log lt = let w = before dev log lt in record { space = w.space; metadata = w.metadata; words = kept dev log ∙ w.words }

pub streams_counts : (x y : OpenPool) → y.streams ≡ x.streams → KeepsCounts x y
streams_counts x y same dev log = ap (λ s. (log_stream log (slice_index_or s.items dev no_streams)).words) same

-- ---- a whole commit

pub renewed_behind : (x y z : OpenPool) → y.version ≡ x.version → y.table ≡ x.table → KeepsOthers Block x.space y.space → AreRenewed y.version y.space z.streams.items y.table.count → RenewsLogs x z
renewed_behind x y z version table blocks logs = record {
  trees = y.space;
  blocks = blocks;
  logs = subst (λ (v : ℕ). AreRenewed v y.space z.streams.items x.table.count) version (subst (λ (t : Table). AreRenewed y.version y.space z.streams.items t.count) table logs);
}

pub renewed_last : (x y z : OpenPool) → z.streams ≡ y.streams → RenewsLogs x y → RenewsLogs x z
renewed_last x y z same r = record { trees = r.trees; blocks = r.blocks; logs = renewed_still x.version r.trees y z x.table.count (streams_counts y z same) r.logs }
