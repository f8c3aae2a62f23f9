-- What the values of the code stand for.
use Rattle.std.specs.Prelude.{ℕ, List, Option, option_map, map}
use Rattle.zr_script.specs.CommandLine.{CommandLine as Line}
use Rattle.zr_words.specs.declared.device.Device.{Device}
use Rattle.zr_words.specs.declared.line.CommandLine.{CommandLine}

abbrev pub path_of : Device → List ℕ
path_of device = device.path.now

-- the path with the size to make
abbrev pub device_of : Device → List ℕ × Option ℕ
device_of device = (device.path.now, device.make)

abbrev pub line_of : CommandLine → Line
line_of line = record { policy = option_map (λ name. name.now) line.policy; auto = line.auto; generate = line.generate; devs = map device_of line.devices.items }
