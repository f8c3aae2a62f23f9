use Rattle.std.proofs.Common.{◌≡◌, ◌++◌, List, [], ◌∷◌, ℕ, length, map, sym, ◌∙◌, ap, subst, string_bytes, unwrap_or}
use Rattle.std.proofs.lemmas.List.{map_push}
use Rattle.zr_shelf.specs.Disks.{with_disk}
use Rattle.zr_shelf.specs.Moments.{World}
use Rattle.zr_shelf.specs.Memory.{start, world_of, IsAttached, IsFileOf}
use Rattle.zr_shelf.specs.declared.memory.DiskFile.{DiskFile}
use Rattle.zr_shelf.specs.declared.memory.Deed.TheVariants.{Attached}
use Rattle.zr_shelf.proofs.Sound.{sound_of}
use Rattle.zr_shelf.proofs.Kept.{now_next, stepped, lawful_more}
use Rattle.zr_shelf.proofs.memory.Memory.attach.Goals as goal

pushed : (f : DiskFile → List ℕ) (new old mid : List DiskFile) (d : DiskFile) → new ≡ mid ++ d ∷ [] → mid ≡ old → map f new ≡ map f old ++ f d ∷ []
pushed f new old mid d items same = ap (map f) (items ∙ ap (λ (l : List DiskFile). l ++ d ∷ []) same) ∙ map_push f old d

pub invariant_of-self-2-clause-left : goal.invariant_of-self-2-clause-left
invariant_of-self-2-clause-left c =
    let h = c.args.self.now.history in
    let file : DiskFile = record { path = c.in_ok-from_str.field-0; bytes = c.in_ok-to_vec.field-0 } in
    let next_is = now_next h.input.items h.calls.items c.push.new.self.items c.args.self.now.made h.since (Attached file c.args.make) c.in_ok-push.ensures.items in
    c.args.self.now.left ∙ sym (ap (λ (w : World). w.now.left) next_is)

pub invariant_of-self-2-clause-gave : goal.invariant_of-self-2-clause-gave
invariant_of-self-2-clause-gave c =
    let h = c.args.self.now.history in
    let file : DiskFile = record { path = c.in_ok-from_str.field-0; bytes = c.in_ok-to_vec.field-0 } in
    let next_is = now_next h.input.items h.calls.items c.push.new.self.items c.args.self.now.made h.since (Attached file c.args.make) c.in_ok-push.ensures.items in
    c.args.self.now.gave ∙ sym (ap (λ (w : World). w.now.sent) next_is)

pub invariant_of-self-2-clause-seen : goal.invariant_of-self-2-clause-seen
invariant_of-self-2-clause-seen c =
    let h = c.args.self.now.history in
    let file : DiskFile = record { path = c.in_ok-from_str.field-0; bytes = c.in_ok-to_vec.field-0 } in
    let next_is = now_next h.input.items h.calls.items c.push.new.self.items c.args.self.now.made h.since (Attached file c.args.make) c.in_ok-push.ensures.items in
    let disk : DiskFile = record { path = c.in_ok-from_str-2.field-0; bytes = c.in_ok-bytes.bytes } in
    pushed (λ (f : DiskFile). f.bytes.items) c.push_reserved.new.self.items c.args.self.now.disks.items c.reserve.new.self.items disk c.push_reserved.ensures.items c.reserve.ensures.items
    ∙ ap (λ (l : List (List ℕ)). l ++ c.in_ok-bytes.bytes.items ∷ []) c.args.self.now.seen
    ∙ ap (λ (b : List ℕ). (world_of h).now.seen ++ b ∷ []) (sym (c.in_ok-to_vec.ensures.items_if_clones_equal (λ x y e. e) ∙ c.deref-2.ensures.value))
    ∙ sym (ap (λ (w : World). w.now.seen) next_is)

pub invariant_of-self-2-clause-paths : goal.invariant_of-self-2-clause-paths
invariant_of-self-2-clause-paths c =
    let h = c.args.self.now.history in
    let file : DiskFile = record { path = c.in_ok-from_str.field-0; bytes = c.in_ok-to_vec.field-0 } in
    let next_is = now_next h.input.items h.calls.items c.push.new.self.items c.args.self.now.made h.since (Attached file c.args.make) c.in_ok-push.ensures.items in
    let disk : DiskFile = record { path = c.in_ok-from_str-2.field-0; bytes = c.in_ok-bytes.bytes } in
    pushed (λ (f : DiskFile). string_bytes f.path) c.push_reserved.new.self.items c.args.self.now.disks.items c.reserve.new.self.items disk c.push_reserved.ensures.items c.reserve.ensures.items
    ∙ ap (λ (l : List (List ℕ)). l ++ string_bytes c.in_ok-from_str-2.field-0 ∷ []) c.args.self.now.paths
    ∙ ap (λ (b : List ℕ). (world_of h).now.paths ++ b ∷ []) (c.in_ok-from_str-2.ensures.ok ∙ sym c.in_ok-from_str.ensures.ok)
    ∙ sym (ap (λ (w : World). w.now.paths) next_is)

pub invariant_of-self-2-clause-lawful : goal.invariant_of-self-2-clause-lawful
invariant_of-self-2-clause-lawful c =
    let h = c.args.self.now.history in
    let file : DiskFile = record { path = c.in_ok-from_str.field-0; bytes = c.in_ok-to_vec.field-0 } in
    lawful_more (start h.input.items) h.calls.items c.push.new.self.items (record { moment = c.args.self.now.made; since = h.since; deed = Attached file c.args.make }) c.in_ok-push.ensures.items c.args.self.now.lawful tt

pub returns-clause-sizes : goal.returns-clause-sizes
returns-clause-sizes c =
    let disk : DiskFile = record { path = c.in_ok-from_str-2.field-0; bytes = c.in_ok-bytes.bytes } in
    let f : DiskFile → ℕ = λ d. length d.bytes.items in
    (length c.in_ok-bytes.bytes.items, ap (map f) (c.push_reserved.ensures.items ∙ ap (λ (l : List DiskFile). l ++ disk ∷ []) c.reserve.ensures.items) ∙ map_push f c.args.self.now.disks.items disk)

pub returns-clause-ok : goal.returns-clause-ok
returns-clause-ok c =
    let h = c.args.self.now.history in
    let file : DiskFile = record { path = c.in_ok-from_str.field-0; bytes = c.in_ok-to_vec.field-0 } in
    stepped h.input.items h.calls.items c.push.new.self.items c.args.self.now.made h.since (Attached file c.args.make) c.in_ok-push.ensures.items
    (IsAttached c.args.self.now.folder.items c.args.path.now c.args.make) (
      c.in_ok-bytes.bytes.items,
      subst (λ (n : ℕ). IsFileOf c.args.self.now.folder.items c.args.path.now n c.in_ok-bytes.bytes.items) c.unwrap_or-size.ensures
          (subst (λ (folder : List DiskFile). IsFileOf folder c.args.path.now c.unwrap_or-size.result c.in_ok-bytes.bytes.items) c.deref.ensures.value c.in_ok-bytes.ensures),
      ap (λ (p : List ℕ). with_disk (world_of h).now p c.args.make c.in_ok-to_vec.field-0.items) c.in_ok-from_str.ensures.ok
          ∙ ap (λ (b : List ℕ). with_disk (world_of h).now c.args.path.now c.args.make b) (c.in_ok-to_vec.ensures.items_if_clones_equal (λ x y e. e) ∙ c.deref-2.ensures.value),
    )

pub invariant_of-self-2-clause-sound : goal.invariant_of-self-2-clause-sound
invariant_of-self-2-clause-sound c = sound_of (record { input = c.args.self.now.history.input; calls = c.push.new.self; since = 0 }) c.push_reserved.new.self.items (invariant_of-self-2-clause-seen c) (invariant_of-self-2-clause-paths c) (invariant_of-self-2-clause-lawful c)
