-- What was written is read.
use Rattle.std.proofs.Common.{◌≡◌, ◌∙◌, ◌*◌, ℕ, List, length, Option, Some, Result, Ok, Err, sym, ap}
use Rattle.std.specs.Prelude.{OnOk}
use Rattle.zr_shelf.specs.Disks.{disk, part}
use Rattle.zr_shelf.specs.Moments.{World, Writes}
use Rattle.zr_shelf.specs.declared.desk.DeskErr.{DeskErr}
use Rattle.zr_imap.specs.declared.image.Piece.{Piece}
use Rattle.zr_label.specs.Geometry.{unit_at}
use Rattle.zr_view.specs.Views.{slot_of}
use Rattle.zr_view.specs.Runs.{bytes_from, run_bytes}

pub reads_back : (slots : List (Option ℕ)) (p : Piece) (slot at : ℕ) (bytes : List ℕ) (r : Result (Unit {0}) DeskErr) (old new : World) → slot_of slots p.dev ≡ Some slot → length bytes ≡ 4096 * p.at.len → at ≡ unit_at p.at.start
    → Writes (record { slot = slot; at = at; bytes = bytes }) r old new → OnOk r (run_bytes new.now.seen slots p ≡ bytes)
reads_back slots p slot at bytes (Ok done) old new is size place call =
    ap (λ (s : Option ℕ). bytes_from new.now.seen s p.at.start (4096 * p.at.len)) is
    ∙ (ap (λ (n : ℕ). part (disk new.now.seen slot) (unit_at p.at.start) n) (sym size) ∙ (ap (λ (n : ℕ). part (disk new.now.seen slot) n (length bytes)) (sym place) ∙ call.step.1))
reads_back slots p slot at bytes (Err e) old new is size place call = tt
