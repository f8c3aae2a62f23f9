use Rattle.std.proofs.Common.{◌≡◌, ◌+◌, List, ℕ, length, [], ◌++◌, take, drop, map, sym, ◌∙◌, ap, string_bytes}
use Rattle.std.proofs.Math.ListN.{set}
use Rattle.std.proofs.lemmas.List.{map-set, with_items_is, get_or-map, set-get_or}
use Rattle.std.specs.Vec.{with_items}
use Rattle.zr_shelf.specs.Disks.{disk}
use Rattle.zr_shelf.specs.Memory.{bytes_of}
use Rattle.zr_shelf.specs.declared.memory.DiskFile.{DiskFile}
use Rattle.zr_shelf.proofs.memory.put.Goals as goal

pub returns-clause-bytes : goal.returns-clause-bytes
returns-clause-bytes c =
    let f : DiskFile → List ℕ = λ file. file.bytes.items in
    let xs = c.args.disks.now.items in
    let v = c.index_mut.result.now in
    let new = c.put_part.new.disk in
    let is_disk : c.deref_mut.result.now ≡ disk (bytes_of xs) c.args.slot = c.deref_mut.ensures.value ∙ ap f c.index_mut.ensures.value ∙ sym (get_or-map f xs c.args.slot v [] c.requires.exists) in
    let changed : DiskFile = record { path = v.path; bytes = with_items v.bytes new } in
    let items_are : f changed ≡ new = with_items_is v.bytes new (c.put_part.auto.disk ∙ c.deref_mut.ensures.len) in
    map-set f xs c.args.slot changed
    ∙ ap (λ (l : List ℕ). set (bytes_of xs) c.args.slot l)
    (items_are ∙ c.put_part.ensures ∙ ap (λ (d : List ℕ). take c.args.at d ++ c.args.bytes.now ++ drop (c.args.at + length c.args.bytes.now) d) is_disk)

pub returns-clause-paths : goal.returns-clause-paths
returns-clause-paths c =
    let f : DiskFile → List ℕ = λ file. string_bytes file.path in
    let xs = c.args.disks.now.items in
    let v = c.index_mut.result.now in
    let changed : DiskFile = record { path = v.path; bytes = with_items v.bytes c.put_part.new.disk } in
    map-set f xs c.args.slot changed
    ∙ sym (map-set f xs c.args.slot v)
    ∙ ap (λ (x : DiskFile). map f (set xs c.args.slot x)) c.index_mut.ensures.value
    ∙ ap (map f) (set-get_or xs c.args.slot v)
