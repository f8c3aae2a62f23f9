-- A chain of two removals, and what is told of an address on the first.
use Rattle.std.specs.Prelude.{ℕ, List, [], ◌∷◌}
use Rattle.zr_base.specs.declared.space.Dva.{Dva}
use Rattle.zr_base.specs.declared.space.Extent.{Extent}
use Rattle.zr_base.specs.declared.space.Entry.{Entry}
use Rattle.zr_base.specs.declared.space.DevState.{DevState}
use Rattle.zr_base.specs.declared.space.DevState.TheVariants as state
use Rattle.zr_rules.specs.Devices.{Devices}
use Rattle.zr_chain.specs.declared.visit.Visited.{Visited}
use Rattle.zr_chain.specs.declared.visit.Visited.TheVariants.{Hop, Piece}
use Rattle.zr_chain.specs.Chains.{DevMap, devices_in}

abbrev pub device : DevState → ℕ → List Entry → DevMap
device s gone entries = record { row = record { state = s; added = 1; units = 896; gone = gone }; entries = entries }

abbrev pub first_map : List Entry
first_map = record { src = 10; dev = 1; dst = 7; len = 3 } ∷ []

abbrev pub second_map : List Entry
second_map = record { src = 7; dev = 2; dst = 100; len = 1 } ∷ (record { src = 8; dev = 2; dst = 40; len = 2 } ∷ [])

-- device 0 went to device 1, which went to device 2
abbrev pub removals : Devices
removals = devices_in (device state.Gone 5 first_map ∷ (device state.Gone 9 second_map ∷ (device state.On 0 [] ∷ [])))

abbrev pub run : ℕ → ℕ → Extent
run start len = record { start = start; len = len }

-- three units of device 0
abbrev pub three_units : Dva
three_units = record { dev = 0; start = 10; len = 3 }

-- what is told of them
abbrev pub told : List Visited
told = Hop 0 (run 10 3) ∷ (Hop 1 (run 7 3) ∷ (Piece 0 2 (run 100 1) ∷ (Piece 1 2 (run 40 2) ∷ [])))
