-- The parts of all devices.
use Rattle.std.proofs.Common.{◌≡◌, inl, inr, ℕ, zero, suc, ◌+◌, ◌-◌, ◌^◌, ◌<◌, ◌≤◌, List, [], ◌∷◌, ◌++◌, length, take, drop, get_or, Option, Some, None, refl, sym, ap, subst, sum_by, arith}
use Rattle.std.specs.List.{AllByRecursion}
use Rattle.std.proofs.lemmas.List.{length-take}
use Rattle.std.proofs.lemmas.Grind.{take_at_read}
use Rattle.zr_base.specs.declared.space.DevRow.{DevRow}
use Rattle.zr_base.specs.declared.space.DevState.{DevState}
use Rattle.zr_base.specs.declared.space.DevState.TheVariants.{On, Leaving, Gone}
use Rattle.zr_base.specs.declared.space.CkptPart.{CkptPart}
use Rattle.zr_base.specs.declared.space.DevPart.{DevPart}
use Rattle.zr_meta.specs.declared.Stream.{Stream}
use Rattle.zr_base.specs.declared.space.CondPart.{CondPart}
use Rattle.zr_meta.specs.declared.CondAt.{CondAt}
use Rattle.zr_meta.specs.declared.map.Mapping.{Mapping}
use Rattle.zr_meta.specs.declared.Head.{Head}
use Rattle.zr_meta.specs.declared.part.DevWords.{DevWords}
use Rattle.zr_meta.specs.declared.part.PartsErr.TheVariants.{Rule}
use Rattle.zr_meta.specs.Heads.{IsHead, stream_count}
use Rattle.zr_meta.specs.Streams.{SpellsMapping, SpellsPart, IsPartFault}
use Rattle.zr_meta.specs.Parts.{AreParts, IsCondPart, piece, pieces, device_words, devices_words}

abbrev pub no_words : DevWords
no_words = record { row = record { state = On; added = 0; units = 0; gone = 0 }; held = []; kept = []; entries = []; counts = []; fresh = []; late1 = []; late2 = [] }

-- ---- parts

parts_more : (version : ℕ) (ckpt : CkptPart) (dev : ℕ) (ws : List DevWords) (ps : List DevPart) (w : DevWords) (p : DevPart) → AreParts version ckpt dev ws ps → SpellsPart version (dev + length ws) ckpt w p → AreParts version ckpt dev (ws ++ w ∷ []) (ps ++ p ∷ [])
parts_more version ckpt dev [] [] w p h k = (subst (λ (n : ℕ). SpellsPart version n ckpt w p) (omega arith) k, tt)
parts_more version ckpt dev [] (q ∷ ps) w p h k = absurd h
parts_more version ckpt dev (x ∷ ws) [] w p h k = absurd h
parts_more version ckpt dev (x ∷ ws) (q ∷ ps) w p h k = (h.0, parts_more version ckpt (dev + 1) ws ps w p h.1 (subst (λ (n : ℕ). SpellsPart version n ckpt w p) (omega arith) k))

pub one_part_more : (version : ℕ) (ckpt : CkptPart) (ws : List DevWords) (i : ℕ) (ps : List DevPart) (p : DevPart) → i < length ws → AreParts version ckpt 0 (take i ws) ps → SpellsPart version i ckpt (get_or ws i no_words) p → AreParts version ckpt 0 (take (i + 1) ws) (ps ++ p ∷ [])
one_part_more version ckpt ws i ps p lt h k =
    let n : i ≡ 0 + length (take i ws) = omega (arith, length-take i ws) in
    subst (λ (xs : List DevWords). AreParts version ckpt 0 xs (ps ++ p ∷ [])) (sym (take_at_read ws i no_words lt).1)
    (parts_more version ckpt 0 (take i ws) ps (get_or ws i no_words) p h (subst (λ (m : ℕ). SpellsPart version m ckpt (get_or ws i no_words) p) n k))

part_at : (version : ℕ) (ckpt : CkptPart) (dev i : ℕ) (ws : List DevWords) (ps : List DevPart) → i < length ws → AreParts version ckpt dev ws ps → (p : DevPart) × SpellsPart version (dev + i) ckpt (get_or ws i no_words) p
part_at version ckpt dev i [] ps lt h = absurd (omega arith)
part_at version ckpt dev i (w ∷ ws) [] lt h = absurd h
part_at version ckpt dev zero (w ∷ ws) (p ∷ ps) lt h = (p, subst (λ (n : ℕ). SpellsPart version n ckpt w p) (omega arith) h.0)
part_at version ckpt dev (suc i) (w ∷ ws) (p ∷ ps) lt h =
    let r = part_at version ckpt (dev + 1) i ws ps (omega arith) h.1 in
    (r.0, subst (λ (n : ℕ). SpellsPart version n ckpt (get_or ws i no_words) r.0) (omega arith) r.1)

no_part : (version dev : ℕ) (ckpt : CkptPart) (w : DevWords) (n : ℕ) → IsPartFault version dev ckpt w (Rule n) → (p : DevPart) → SpellsPart version dev ckpt w p → ⊥
no_part version dev ckpt w n (inl (one, none)) p h = none (record { entries = p.entries; counts = p.counts }) h.mapping
no_part version dev ckpt w n (inr (two, m, mapping, none)) p h = none p h

pub none_there : (version : ℕ) (ckpt : CkptPart) (ws : List DevWords) (i n : ℕ) → i < length ws → IsPartFault version i ckpt (get_or ws i no_words) (Rule n) → (ps : List DevPart) → AreParts version ckpt 0 ws ps → ⊥
none_there version ckpt ws i n lt fault ps h =
    let r = part_at version ckpt 0 i ws ps lt h in
    no_part version i ckpt (get_or ws i no_words) n fault r.0 (subst (λ (m : ℕ). SpellsPart version m ckpt (get_or ws i no_words) r.0) (omega arith) r.1)

-- ---- the words dealt out

pieces_long : (ss : List Stream) (words : List ℕ) → length (pieces ss words) ≡ length ss
pieces_long [] words = refl
pieces_long (s ∷ ss) words = ap suc (pieces_long ss (drop s.words words))

pub enough_pieces : (table : List DevRow) (h : Head) (words : List ℕ) → IsHead table h → sum_by (λ r. stream_count h.form r.state) table ≤ length (pieces h.streams words)
enough_pieces table h words k = let count = k.count in omega (arith, pieces_long h.streams words)

pub devices_long : (form : ℕ) (table : List DevRow) (ps : List (List ℕ)) → length (devices_words form table ps) ≡ length table
devices_long form [] ps = refl
devices_long form (r ∷ table) ps = ap suc (devices_long form table (drop (stream_count form r.state) ps))

row_of : (row : DevRow) (s : DevState) (ps : List (List ℕ)) → (device_words row s ps).row ≡ row
row_of row On ps = refl
row_of row Leaving ps = refl
row_of row Gone ps = refl

pub devices_units : (form : ℕ) (table : List DevRow) (ps : List (List ℕ)) → AllByRecursion (λ r. r.units ≤ 2 ^ 36) table → AllByRecursion (λ w. w.row.units ≤ 2 ^ 36) (devices_words form table ps)
devices_units form [] ps h = tt
devices_units form (r ∷ table) ps h = (
  subst (λ (x : DevRow). x.units ≤ 2 ^ 36) (sym (row_of r r.state (take (stream_count form r.state) ps))) h.0,
  devices_units form table (drop (stream_count form r.state) ps) h.1,
)

-- entries and counts that are no mapping leave nothing to be condensed
pub no_cond : (at : CondAt) (ps : List (List ℕ)) (found : Option CondPart) → ((m : Mapping) → SpellsMapping (piece ps (length ps - 2)) (piece ps (length ps - 1)) m → ⊥) → IsCondPart (Some at) ps found → ⊥
no_cond at ps None none h = h
no_cond at ps (Some c) none h = none (record { entries = c.entries; counts = c.counts }) h.2
