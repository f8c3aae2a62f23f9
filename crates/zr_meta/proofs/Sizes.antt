-- How long a head is.
use Rattle.std.proofs.Common.{◌≡◌, ℕ, ◌+◌, ◌*◌, ◌≤◌, ◌==◌, List, [], ◌∷◌, ◌++◌, length, Bool, true, false, Option, Some, None, refl, ap, sum_by, arith}
use Rattle.std.specs.Prelude.{if◌then◌else◌}
use Rattle.std.specs.List.{flat_map}
use Rattle.std.proofs.lemmas.List.{length-append}
use Rattle.std.proofs.lemmas.List.Sums.{sum_by-cons}
use Rattle.zr_base.specs.Words.{words}
use Rattle.zr_base.specs.declared.space.DevRow.{DevRow}
use Rattle.zr_base.specs.declared.space.DevState.{DevState}
use Rattle.zr_base.specs.declared.space.DevState.TheVariants.{On, Leaving, Gone}
use Rattle.zr_base.specs.declared.space.CkptPart.{CkptPart}
use Rattle.zr_base.specs.declared.space.CkptPart.TheVariants.{Clear, Held, Discarding}
use Rattle.zr_bptr.proofs.Pieces.{length-pieces}
use Rattle.zr_rules.specs.Places.{one_if, is_leaving}
use Rattle.zr_meta.specs.declared.CondAt.{CondAt}
use Rattle.zr_meta.specs.declared.Head.{Head}
use Rattle.zr_meta.specs.Heads.{IsSaved, SpellsHead, stream_count, cond_count, cond_words, saved_bytes, saved_words, stream_bytes, front_bytes, head_words, leaving_count}
use Rattle.zr_meta.proofs.Fronts.{front_long, root_lawful}
use Rattle.zr_meta.proofs.Backs.{parts, rest_of, streams_long}

saved_size : (ckpt : CkptPart) (saved : Option (List ℕ)) → IsSaved ckpt saved → length (saved_bytes saved) ≡ 8 * saved_words saved
saved_size ckpt None h = refl
saved_size Clear (Some block) h = absurd h
saved_size (Held txg) (Some block) h = h.0
saved_size Discarding (Some block) h = absurd h

cond_size : (cond : Option CondAt) → length (words (cond_words cond)) ≡ 8 * length (cond_words cond)
cond_size None = refl
cond_size (Some c) = refl

pub words_are : (table : List DevRow) (bytes : List ℕ) (h : Head) → SpellsHead table bytes h → length bytes ≡ 8 * head_words h
words_are table bytes h k =
    let all = ap length (parts table bytes h k) in
    let one = length-append (front_bytes h.form h.ckpt h.dir) (rest_of h.saved h.cond h.streams) in
    let two = length-append (saved_bytes h.saved) (words (cond_words h.cond) ++ flat_map stream_bytes h.streams) in
    let three = length-append (words (cond_words h.cond)) (flat_map stream_bytes h.streams) in
    let front = front_long h.form h.ckpt h.dir (root_lawful h.dir.height h.dir.root k.lawful.dir) in
    let saved = saved_size h.ckpt h.saved k.lawful.saved in
    let cond = cond_size h.cond in
    let streams = length-pieces 136 stream_bytes h.streams (streams_long h.streams k.lawful.streams) in
    omega arith

few_of : (b : Bool) (s : DevState) → (if b then 2 else 4) ≤ 4 × (if b then 5 else 7) ≤ 7
few_of true s = (omega arith, omega arith)
few_of false s = (omega arith, omega arith)

few_streams : (form : ℕ) (s : DevState) → stream_count form s ≤ 4 + 3 * one_if (is_leaving s)
few_streams form On = omega (arith, (few_of (form == 1) On).0)
few_streams form Leaving = omega (arith, (few_of (form == 1) On).1)
few_streams form Gone = omega arith

one_small : (b : Bool) → one_if b ≤ 1
one_small true = omega arith
one_small false = omega arith

device_streams : (form : ℕ) (table : List DevRow) → (sum_by (λ r. stream_count form r.state) table ≤ 4 * length table + 3 * leaving_count table) × (leaving_count table ≤ length table)
device_streams form [] = (omega arith, omega arith)
device_streams form (r ∷ table) =
    let rest = device_streams form table in
    let first = few_streams form r.state in let small = one_small (is_leaving r.state) in
    let a = sum_by-cons (λ (x : DevRow). stream_count form x.state) r table in
    let b = sum_by-cons (λ (x : DevRow). one_if (is_leaving x.state)) r table in
    (omega (arith, rest.0), omega (arith, rest.1))

cond_few : (cond : Option CondAt) → (cond_count cond ≤ 2) × (length (cond_words cond) ≤ 3)
cond_few None = (omega arith, omega arith)
cond_few (Some c) = (omega arith, omega arith)

saved_few : (saved : Option (List ℕ)) → saved_words saved ≤ 512
saved_few None = omega arith
saved_few (Some block) = omega arith

pub short_with : (table : List DevRow) (bytes : List ℕ) (h : Head) → SpellsHead table bytes h → length table ≤ 32 → head_words h ≤ 535 + 17 * (130 + 3 * leaving_count table)
short_with table bytes h k small =
    let count = k.lawful.count in
    let devices = device_streams h.form table in
    let cond = cond_few h.cond in
    omega (arith, devices.0, cond.0, cond.1, saved_few h.saved)

pub one_leaving : (table : List DevRow) (bytes : List ℕ) (h : Head) → SpellsHead table bytes h → length table ≤ 32 → leaving_count table ≤ 1 → head_words h ≤ 2796
one_leaving table bytes h k small one = omega (arith, short_with table bytes h k small)

pub any_leaving : (table : List DevRow) (bytes : List ℕ) (h : Head) → SpellsHead table bytes h → length table ≤ 32 → head_words h ≤ 4377
any_leaving table bytes h k small =
    let devices = device_streams h.form table in
    omega (arith, short_with table bytes h k small, devices.1)
