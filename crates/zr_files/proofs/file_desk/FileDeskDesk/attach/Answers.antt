use Rattle.std.proofs.Common.{◌≡◌, ℕ, List, [], ◌∷◌, ◌++◌, map, ap, ◌∙◌}
use Rattle.std.specs.Prelude.{Option}
use Rattle.std.proofs.lemmas.List.{map_push}
use Rattle.zr_files.specs.declared.file_desk.DeviceFile.{DeviceFile}
use Rattle.zr_files.specs.declared.file_desk.Opening.{Opening}
use Rattle.zr_files.specs.declared.file_desk.Traffic.{Traffic}
use Rattle.zr_files.proofs.file_desk.FileDeskDesk.attach.Goals as goal

pub returns-clause-sizes : goal.returns-clause-sizes
returns-clause-sizes c =
    let f : DeviceFile → ℕ = λ d. d.size in (
      c.device_of.result.size,
      ap (map f) c.push_reserved.ensures.items
          ∙ map_push f c.reserve.new.self.items c.device_of.result
          ∙ ap (λ (xs : List DeviceFile). map f xs ++ c.device_of.result.size ∷ []) c.reserve.ensures.items,
    )

pub returns-clause-paths : goal.returns-clause-paths
returns-clause-paths c =
    let f : DeviceFile → List ℕ = λ d. d.path.items in
    let path : c.device_of.result.path.items ≡ c.args.path.now = c.device_of.ensures.path ∙ c.in_ok-found.ensures.path in
    ap (map f) c.push_reserved.ensures.items
    ∙ map_push f c.reserve.new.self.items c.device_of.result
    ∙ ap (λ (xs : List DeviceFile). map f xs ++ c.device_of.result.path.items ∷ []) c.reserve.ensures.items
    ∙ ap (λ (p : List ℕ). map f c.args.self.now.devices.items ++ p ∷ []) path

pub returns-clause-makes : goal.returns-clause-makes
returns-clause-makes c =
    let f : DeviceFile → Option ℕ = λ d. d.make in
    let make : c.device_of.result.make ≡ c.args.make = c.device_of.ensures.make ∙ c.in_ok-found.ensures.make in
    ap (map f) c.push_reserved.ensures.items
    ∙ map_push f c.reserve.new.self.items c.device_of.result
    ∙ ap (λ (xs : List DeviceFile). map f xs ++ c.device_of.result.make ∷ []) c.reserve.ensures.items
    ∙ ap (λ (m : Option ℕ). map f c.args.self.now.devices.items ++ m ∷ []) make

pub returns-clause-traffic : goal.returns-clause-traffic
returns-clause-traffic c =
    let f : DeviceFile → Traffic = λ d. d.traffic in
    ap (map f) c.push_reserved.ensures.items
    ∙ map_push f c.reserve.new.self.items c.device_of.result
    ∙ ap (λ (xs : List DeviceFile). map f xs ++ c.device_of.result.traffic ∷ []) c.reserve.ensures.items
    ∙ ap (λ (t : Traffic). map f c.args.self.now.devices.items ++ t ∷ []) c.device_of.ensures.traffic

pub returns-clause-made : goal.returns-clause-made
returns-clause-made c =
    let f : DeviceFile → Opening = λ d. d.opening in
    let m = c.in_ok-found.ensures.made in (
      c.device_of.result.opening,
      ap (map f) c.push_reserved.ensures.items
          ∙ map_push f c.reserve.new.self.items c.device_of.result
          ∙ ap (λ (xs : List DeviceFile). map f xs ++ c.device_of.result.opening ∷ []) c.reserve.ensures.items,
      rw c.device_of.ensures.opening m,
    )
