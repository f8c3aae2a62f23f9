-- A pool without devices.
use Rattle.std.proofs.Common.{◌≡◌, ◌⊎◌, ℕ, ◌<◌, ◌≤◌, List, [], length, replicate, Option, None, Some, false, refl, sym, ◌∙◌, ap, subst, arith}
use Rattle.std.specs.Prelude.{All, IfSome}
use Rattle.std.specs.List.{AllByRecursion}
use Rattle.std.proofs.lemmas.List.Elements.{All-nil}
use Rattle.zr_base.specs.declared.space.CkptPart.TheVariants.{Clear}
use Rattle.zr_base.specs.declared.space.DevRow.{DevRow}
use Rattle.zr_bptr.specs.declared.Ptr.TheVariants.{Hole}
use Rattle.zr_bptr.specs.Spelling.{IsTree}
use Rattle.zr_label.specs.Blocks.{IsName, no_row}
use Rattle.zr_lookup.specs.Groups.{IsChangeOf}
use Rattle.zr_meta.specs.Heads.{IsSaved}
use Rattle.zr_rules.specs.Devices.{devices_of}
use Rattle.zr_rules.specs.Equation.{devices_in}
use Rattle.zr_rules.specs.Space.{Space, IsLawful, IsSet}
use Rattle.zr_space.specs.Views.{space_of}
use Rattle.zr_txg.specs.Changes.{block_count}
use Rattle.zr_view.specs.Views.{slot_of}
use Rattle.zr_vdev.specs.Mounts.{AreMounted}
use Rattle.zr_sync.specs.declared.open.Checkpoint.{Checkpoint}
use Rattle.zr_sync.specs.declared.open.DeviceStreams.{DeviceStreams}
use Rattle.zr_sync.specs.declared.open.OpenPool.{OpenPool}
use Rattle.zr_sync.specs.Pools.{AreCondStreams, AreStreams, IsAfter, IsCheckpoint, IsDirectory, AreRows, IsPool, saved_block}
use Rattle.zr_create.specs.Blank.{IsBlank}

empty_set : (units : ℕ) → IsSet units []
empty_set units = record { maximal = tt; within = tt }

pub lawful_without : (version : ℕ) → IsLawful (space_of (record { version = version; ckpt = Clear; cond = None }) [])
lawful_without version = record {
  devices = refl;
  sets = λ d. record { held = empty_set _; kept = empty_set _; fresh = empty_set _; born = empty_set _; deferred = empty_set _; dropped = empty_set _; kept_came = empty_set _; kept_went = empty_set _; fresh_came = empty_set _; fresh_went = empty_set _ };
  once = λ d u. omega arith;
  copies = λ d u. omega arith;
  born = λ d u is. is;
}

pub no_tree : IsTree (record { root = Hole; height = 0 })
no_tree = record { lawful = tt; level = tt; low = omega arith }

pub no_cond : AreCondStreams (record { entries = record { words = 0; tree = record { root = Hole; height = 0 } }; counts = record { words = 0; tree = record { root = Hole; height = 0 } }; done = false })
no_cond = record { entries = (refl, refl); counts = (refl, refl) }

pub no_directory : IsDirectory (record { root = Hole; height = 0 })
no_directory = record { tree = no_tree; low = omega arith; unit = tt }

pub no_rows : (version txg : ℕ) → AreRows version txg 0 (replicate 32 no_row)
no_rows version txg = record { size = refl; devices = refl; on = λ some. absurd (omega (arith, some)); rest = refl }

module _ (sizes : List ℕ) (x : OpenPool) (blank : IsBlank x) where
  mounted : (slots : List (Option ℕ)) → ((d : ℕ) → slot_of slots d ≡ None) → AreMounted sizes slots (devices_of [])
  mounted slots none = record {
    few = omega arith;
    disks = λ d lt there. absurd (omega arith);
    small = λ d. omega arith;
    apart = λ d e slot at also. let both : None ≡ Some slot = sym (none d) ∙ at in absurd cc;
  }

  pub blank_pool : (x.version ≡ 1) ⊎ (x.version ≡ 2) → 0 < x.guid → IsName x.name → x.table.rows ≡ replicate 32 no_row → length x.table.slots ≡ 32 → IsDirectory x.dir → IsTree x.head → x.streams.items ≡ [] → AreCondStreams x.cond → length x.turned ≡ 32 → IsPool 0 sizes x
  blank_pool version guid name rows slots dir head streams cond turned =
      let count = blank.count in
      let txg = blank.txg in
      record {
        version = version;
        guid = guid;
        name = name;
        some = omega arith;
        few = omega (arith, count);
        table = subst (λ (n : ℕ). AreRows x.version x.group.txg n x.table.rows) (sym count) (subst (λ (rs : List DevRow). AreRows x.version x.group.txg 0 rs) (sym rows) (no_rows x.version x.group.txg));
        slots = slots;
        first = omega (arith, txg);
        after = subst (λ last. IsAfter last x.group.txg) (sym blank.last) txg;
        group = subst (λ objects. AllByRecursion IsChangeOf objects) (sym blank.objects) tt;
        limits = record { blocks = subst (λ objects. block_count objects ≤ 64) (sym blank.objects) (omega arith); objects = subst (λ objects. length objects ≤ 64) (sym blank.objects) (omega arith) };
        dir = dir;
        head = head;
        streams = subst (λ (ss : List DeviceStreams). All AreStreams ss) (sym streams) (All-nil AreStreams);
        count = ap (λ (ss : List DeviceStreams). length ss) streams ∙ sym count;
        cond = cond;
        turned = turned;
        saved = subst (λ (s : Space). IsSaved s.parts.ckpt (saved_block x.saved)) (sym blank.space) (subst (λ (b : Option Checkpoint). IsSaved Clear (saved_block b)) (sym blank.saved) tt);
        checkpoint = subst (λ (b : Option Checkpoint). IfSome b IsCheckpoint) (sym blank.saved) tt;
        spelled = ap (λ (s : Space). s.parts.version) blank.space;
        devices = ap (λ (s : Space). length s.parts.devs) blank.space ∙ sym count;
        rows = λ d lt. absurd (omega (arith, lt, count));
        lawful = subst IsLawful (sym blank.space) (lawful_without x.version);
        mounted = subst (λ (s : Space). AreMounted sizes x.table.slots (devices_in s)) (sym blank.space) (mounted x.table.slots blank.slots);
        disks = λ d slot lt at. absurd (omega (arith, lt, count));
      }
