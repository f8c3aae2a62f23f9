-- What the desk over files tells: the sizes of its devices, how they were asked for and what was moved of them, and how often its calls have failed.
use Rattle.std.specs.Prelude.{ℕ, List, Option, map}
use Rattle.zr_shelf.specs.Counts.{Counts}
use Rattle.zr_files.specs.declared.file_desk.FileDesk.{FileDesk}
use Rattle.zr_files.specs.declared.file_desk.Opening.{Opening}
use Rattle.zr_files.specs.declared.file_desk.Traffic.{Traffic}

abbrev pub sizes_of : FileDesk → List ℕ
sizes_of d = map (λ f. f.size) d.devices.items

abbrev pub faults_of : FileDesk → Counts
faults_of d = record { disk = d.disk_faults; attach = d.attach_faults; input = d.input_faults; output = d.output_faults }

-- the paths that the devices were opened by
abbrev pub paths_of : FileDesk → List (List ℕ)
paths_of d = map (λ f. f.path.items) d.devices.items

-- the sizes that they were asked for if they were not there
abbrev pub makes_of : FileDesk → List (Option ℕ)
makes_of d = map (λ f. f.make) d.devices.items

-- how they were opened
abbrev pub openings_of : FileDesk → List Opening
openings_of d = map (λ f. f.opening) d.devices.items

-- what was moved of them
abbrev pub traffic_of : FileDesk → List Traffic
traffic_of d = map (λ f. f.traffic) d.devices.items
