-- The words that a head's streams have of the mapping of a removed device.
use Rattle.std.proofs.Common.{◌≡◌, ℕ, zero, suc, ◌<◌, true, List, [], ◌∷◌, ◌++◌, length, take, drop, get_or, subst, arith}
use Rattle.std.proofs.lemmas.List.{append_assoc}
use Rattle.zr_base.specs.declared.space.DevRow.{DevRow}
use Rattle.zr_base.specs.declared.space.DevState.{DevState}
use Rattle.zr_base.specs.declared.space.DevState.TheVariants.{On, Leaving, Gone}
use Rattle.zr_label.specs.Blocks.{no_row}
use Rattle.zr_meta.specs.Heads.{stream_count}
use Rattle.zr_meta.specs.Parts.{device_words}
use Rattle.zr_meta.specs.declared.Stream.{Stream}
use Rattle.zr_open.proofs.Parted.{StandEach, each_at, each_back, each_front, told_count, words_of}
use Rattle.zr_root.specs.Streams.{HasWords}
use Rattle.zr_rules.specs.Places.{is_gone}
use Rattle.zr_store.specs.Store.{Stored}
use Rattle.zr_sync.specs.Empty.{no_streams}
use Rattle.zr_sync.specs.Heads.{streams_in, told_in, told_of}
use Rattle.zr_sync.specs.declared.open.DeviceStreams.{DeviceStreams}

own_entries : (s : Stored) (row : DevRow) (d : DeviceStreams) (ps : List (List ℕ)) (form : ℕ) (state : DevState) → is_gone state ≡ true → StandEach s (told_in form state d) ps → HasWords s d.entries (device_words row state ps).entries
own_entries s row d ps form On gone h = absurd cc
own_entries s row d ps form Leaving gone h = absurd cc
own_entries s row d ps form Gone gone h = each_at s (streams_in Gone d) ps 0 h (omega arith)

-- those of the entries
pub entries_stand : (s : Stored) (form : ℕ) (rows : List DevRow) (devices : List DeviceStreams) (more : List Stream) (ps : List (List ℕ)) → length devices ≡ length rows → StandEach s (told_of form rows devices ++ more) ps
    → (i : ℕ) → i < length rows → is_gone (get_or rows i no_row).state ≡ true → HasWords s (get_or devices i no_streams).entries (words_of form rows ps i).entries
entries_stand s form [] devices more ps same h i lt gone = absurd (omega (arith, lt))
entries_stand s form (r ∷ rows) [] more ps same h i lt gone = absurd (omega (arith, same))
entries_stand s form (r ∷ rows) (d ∷ devices) more ps same h zero lt gone =
    let own = told_in form r.state d in
    let split : StandEach s (own ++ (told_of form rows devices ++ more)) ps = subst (λ (ts : List Stream). StandEach s ts ps) (append_assoc own (told_of form rows devices) more) h in
    own_entries s r d (take (stream_count form r.state) ps) form r.state gone
    (subst (λ (n : ℕ). StandEach s own (take n ps)) (told_count form r.state d) (each_front s own (told_of form rows devices ++ more) ps split))
entries_stand s form (r ∷ rows) (d ∷ devices) more ps same h (suc i) lt gone =
    let own = told_in form r.state d in
    let split : StandEach s (own ++ (told_of form rows devices ++ more)) ps = subst (λ (ts : List Stream). StandEach s ts ps) (append_assoc own (told_of form rows devices) more) h in
    entries_stand s form rows devices more (drop (stream_count form r.state) ps) (omega (arith, same))
    (subst (λ (n : ℕ). StandEach s (told_of form rows devices ++ more) (drop n ps)) (told_count form r.state d) (each_back s own (told_of form rows devices ++ more) ps split)) i (omega (arith, lt)) gone
