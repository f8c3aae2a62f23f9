-- Devices that stay in their slots.
use Rattle.std.proofs.Common.{◌≡◌, ℕ, List, Some, ◌∙◌, ap, subst}
use Rattle.std.specs.Prelude.{slice_index, slice_index_or}
use Rattle.zr_label.specs.Blocks.{no_row}
use Rattle.zr_label.specs.Geometry.{units_of_size}
use Rattle.zr_view.specs.Views.{slot_of}
use Rattle.zr_sync.specs.declared.open.Table.{Table}
use Rattle.zr_sync.specs.declared.open.OpenPool.{OpenPool}
use Rattle.zr_create.specs.Devices.{HasDevicesIn}

pub still_in : (sizes was : List ℕ) (txg : ℕ) (slots : List ℕ) (old new : OpenPool) → was ≡ sizes → new.table ≡ old.table → new.version ≡ old.version → HasDevicesIn was txg slots old → HasDevicesIn sizes txg slots new
still_in sizes was txg slots old new same table version h = record {
  count = ap (λ (t : Table). t.count) table ∙ h.count;
  each = λ k lt.
      let d = h.each k lt in
      record {
        slot_is = ap (λ (t : Table). slot_of t.slots k) table ∙ d.slot_is;
        units = d.units;
        units_are = ap (λ (v : ℕ). units_of_size (slice_index sizes (slice_index slots k)) v) version ∙ subst (λ (s : List ℕ). units_of_size (slice_index s (slice_index slots k)) old.version ≡ Some d.units) same d.units_are;
        row_is = ap (λ (t : Table). slice_index_or t.rows k no_row) table ∙ d.row_is;
      };
}
